-- A part of a text can be followed by anything: what is read does not depend on what follows. A cut is what was read,
-- as a function that puts it in front.
-- Assumes nothing.
use Prim.Native.Nat.{ℕ}
use mathlib.Core.Path.{◌≡◌, refl, sym, ap, ◌∙◌}
use mathlib.Core.List.{List, [], ◌∷◌, ◌++◌, append_assoc}
use lib.ListN.{drop, take, take-append-drop}
use Rattle.json_text.specs.Tree.{Json, Values, Fields}
use Rattle.json_text.specs.Grammar.{Ws, Lit, Number, Hex, Escape, Chars, Scalar, Name, Value, Elements, Member}
use Rattle.json_text.specs.Grammar.{Members}
use Rattle.json_text.specs.Grammar.Ws.{ws_none, ws_more}
use Rattle.json_text.specs.Grammar.Lit.{lit_none, lit_more}
use Rattle.json_text.specs.Grammar.Hex.{hex_none, hex_more}
use Rattle.json_text.specs.Grammar.Escape.{esc_byte, esc_hex}
use Rattle.json_text.specs.Grammar.Chars.{chars_close, chars_plain, chars_escape}
use Rattle.json_text.specs.Grammar.Scalar.{sc_null, sc_true, sc_false, sc_number, sc_string}
use Rattle.json_text.specs.Grammar.Name.{name}
use Rattle.json_text.specs.Grammar.Value.{val_scalar, val_array0, val_array, val_object0, val_object}
use Rattle.json_text.specs.Grammar.Elements.{elem_last, elem_more}
use Rattle.json_text.specs.Grammar.Member.{member}
use Rattle.json_text.specs.Grammar.Members.{mem_last, mem_more}
use Rattle.json_text.specs.Faults.{Not, Stop}
use Rattle.json_text.specs.Faults.Not.{not_head}
use Rattle.json_text.specs.Faults.Stop.{stop_null, stop_true, stop_false, stop_number, stop_string, stop_array}
use Rattle.json_text.specs.Faults.Stop.{stop_object}
use Rattle.json_text.specs.Numbers.{SameHead, keep_number, number_spelled, number_on}
use Rattle.json_text.specs.Numbers.SameHead.{same_head}

-- w is what `put` puts in front of r
pub record Cut (w r : List ℕ) : Type 0 where
  pub put : List ℕ → List ℕ
  pub whole : w ≡ put r
  pub part : List ℕ
  pub parts : (t : List ℕ) → put t ≡ part ++ t

-- nothing was read
abbrev pub none : {r : List ℕ} → Cut r r
none = record { put = λ t. t; whole = refl; part = []; parts = λ t. refl }

-- what a text has from a place on is its last part
pub drop-cut : (s : List ℕ) (at : ℕ) → Cut s (drop at s)
drop-cut s at =
    record { put = λ t. take at s ++ t; whole = sym (take-append-drop at s); part = take at s; parts = λ t. refl }

-- one byte, and then what was read behind it
abbrev pub one : (b : ℕ) {w r : List ℕ} → Cut w r → Cut (b ∷ w) r
one b c =
    record {
      put = λ t. b ∷ c.put t;
      whole = ap (◌∷◌ b) c.whole;
      part = b ∷ c.part;
      parts = λ t. ap (◌∷◌ b) (c.parts t);
    }

-- what `then` joins
pub two : {w v r : List ℕ} (c : Cut w v) (d : Cut v r) → w ≡ c.put (d.put r)
two c d = c.whole ∙ ap c.put d.whole

-- two parts that follow each other are one
pub two_parts : {w v r : List ℕ} (c : Cut w v) (d : Cut v r) (t : List ℕ) →
    c.put (d.put t) ≡ (c.part ++ d.part) ++ t
two_parts c d t = rw (c.parts, d.parts, append_assoc) refl

-- one part behind another
abbrev pub ◌then◌ : {w v r : List ℕ} → Cut w v → Cut v r → Cut w r
◌then◌ c d = record { put = λ t. c.put (d.put t); whole = two c d; part = c.part ++ d.part; parts = two_parts c d }

infixr 40 ◌then◌
-- a byte of w that is no P stays so
pub keep_not : {P : ℕ → Type 0} {w r : List ℕ} (c : Cut w r) (b : ℕ) (x t : List ℕ) → r ≡ b ∷ x → Not P w →
    Not P (c.put (b ∷ t))
keep_not {P = P} c b x t e n = rw c.parts (go c.part (rw (c.whole, c.parts, e) at n))
  where
    go : (u : List ℕ) → Not P (u ++ b ∷ x) → Not P (u ++ b ∷ t)
    go [] (not_head f) = not_head f
    go (y ∷ u) (not_head f) = not_head f

-- the first byte of w stays
pub keep_head : {w r : List ℕ} (c : Cut w r) (b : ℕ) (x t : List ℕ) → r ≡ b ∷ x → SameHead w (c.put (b ∷ t))
keep_head c b x t e = rw (c.whole, c.parts, c.parts, e) (go c.part)
  where
    go : (u : List ℕ) → SameHead (u ++ b ∷ x) (u ++ b ∷ t)
    go [] = same_head
    go (y ∷ u) = same_head

-- what is spelled as it is read
abbrev pub spelled : {w : List ℕ} (u r : List ℕ) → w ≡ u ++ r → Cut w r
spelled u r e = record { put = λ t. u ++ t; whole = e; part = u; parts = λ t. refl }

-- what can be no longer stays so
pub keep_stop : {j : Json} {w r : List ℕ} (c : Cut w r) (b : ℕ) (x t : List ℕ) → r ≡ b ∷ x → Stop j w →
    Stop j (c.put (b ∷ t))
keep_stop c b x t e stop_null = stop_null
keep_stop c b x t e stop_true = stop_true
keep_stop c b x t e stop_false = stop_false
keep_stop c b x t e (stop_number h) = keep_number _ (keep_head c b x t e) h
keep_stop c b x t e stop_string = stop_string
keep_stop c b x t e stop_array = stop_array
keep_stop c b x t e stop_object = stop_object

-- w is an X and then r, and so is what was read of w before any t
pub record Reads (X : List ℕ → List ℕ → Type 0) (w r : List ℕ) : Type 0 where
  pub cut : Cut w r
  pub again : (t : List ℕ) → X (cut.put t) t

-- white space is read before any rest
pub ws_reads : {w r : List ℕ} → Ws w r → Reads Ws w r
ws_reads ws_none = record { cut = none; again = λ t. ws_none }
ws_reads (ws_more {b = b} w h) =
    let i = ws_reads h in record { cut = one b i.cut; again = λ t. ws_more w (i.again t) }

-- a literal word is read before any rest
pub lit_reads : {ks w r : List ℕ} → Lit ks w r → Reads (Lit ks) w r
lit_reads lit_none = record { cut = none; again = λ t. lit_none }
lit_reads (lit_more {k = k} h) =
    let i = lit_reads h in record { cut = one k i.cut; again = λ t. lit_more (i.again t) }

-- a number is read before any rest
number_reads : {w ds r : List ℕ} → Number w ds r → Reads (λ v t. Number v ds t) w r
number_reads {ds = ds} {r = r} h = record { cut = spelled ds r (number_spelled h); again = number_on h }

-- a run of hexadecimal digits is read before any rest
pub hex_reads : {n : ℕ} {w ds r : List ℕ} → Hex n w ds r → Reads (λ v t. Hex n v ds t) w r
hex_reads hex_none = record { cut = none; again = λ t. hex_none }
hex_reads (hex_more {d = d} y h) =
    let i = hex_reads h in record { cut = one d i.cut; again = λ t. hex_more y (i.again t) }

-- an escape is read before any rest
pub escape_reads : {w es r : List ℕ} → Escape w es r → Reads (λ v t. Escape v es t) w r
escape_reads (esc_byte {b = b} e) = record { cut = one b none; again = λ t. esc_byte e }
escape_reads (esc_hex h) = let i = hex_reads h in record { cut = one 0x75 i.cut; again = λ t. esc_hex (i.again t) }

-- the rest of a string is read before any rest
pub chars_reads : {w cs r : List ℕ} → Chars w cs r → Reads (λ v t. Chars v cs t) w r
chars_reads chars_close = record { cut = one 0x22 none; again = λ t. chars_close }
chars_reads (chars_plain {b = b} y h) =
    let i = chars_reads h in record { cut = one b i.cut; again = λ t. chars_plain y (i.again t) }
chars_reads (chars_escape e h) =
    let i = escape_reads e in
    let k = chars_reads h in
    record { cut = one 0x5c (i.cut then k.cut); again = λ t. chars_escape (i.again (k.cut.put t)) (k.again t) }

-- a scalar is read before any rest
scalar_reads : {w r : List ℕ} {j : Json} → Scalar w j r → Reads (λ v t. Scalar v j t) w r
scalar_reads (sc_null h) = let i = lit_reads h in record { cut = one 0x6e i.cut; again = λ t. sc_null (i.again t) }
scalar_reads (sc_true h) = let i = lit_reads h in record { cut = one 0x74 i.cut; again = λ t. sc_true (i.again t) }
scalar_reads (sc_false h) =
    let i = lit_reads h in record { cut = one 0x66 i.cut; again = λ t. sc_false (i.again t) }
scalar_reads (sc_number h) = let i = number_reads h in record { cut = i.cut; again = λ t. sc_number (i.again t) }
scalar_reads (sc_string h) =
    let i = chars_reads h in record { cut = one 0x22 i.cut; again = λ t. sc_string (i.again t) }

-- a member's name is read before any rest
pub name_reads : {w k r : List ℕ} → Name w k r → Reads (λ v t. Name v k t) w r
name_reads (name h a b) =
    let i = chars_reads h in
    let k = ws_reads a in
    let l = ws_reads b in
    let m : Cut _ _ = one 0x3a l.cut in
    record {
      cut = one 0x22 (i.cut then k.cut then m);
      again = λ t. name (i.again (k.cut.put (m.put t))) (k.again (m.put t)) (l.again t);
    }

mutual
  -- a value is read before any rest
  pub value_reads : {w r : List ℕ} {j : Json} → Value w j r → Reads (λ v t. Value v j t) w r
  value_reads (val_scalar h) = let i = scalar_reads h in record { cut = i.cut; again = λ t. val_scalar (i.again t) }
  value_reads (val_array0 a) =
      let i = ws_reads a in
      record { cut = one 0x5b (i.cut then one 0x5d none); again = λ t. val_array0 (i.again (0x5d ∷ t)) }
  value_reads (val_array a h) =
      let i = ws_reads a in
      let k = elements_reads h in
      record { cut = one 0x5b (i.cut then k.cut); again = λ t. val_array (i.again (k.cut.put t)) (k.again t) }
  value_reads (val_object0 a) =
      let i = ws_reads a in
      record { cut = one 0x7b (i.cut then one 0x7d none); again = λ t. val_object0 (i.again (0x7d ∷ t)) }
  value_reads (val_object a h) =
      let i = ws_reads a in
      let k = members_reads h in
      record { cut = one 0x7b (i.cut then k.cut); again = λ t. val_object (i.again (k.cut.put t)) (k.again t) }

  -- an array's elements is read before any rest
  elements_reads : {w r : List ℕ} {js : Values} → Elements w js r → Reads (λ v t. Elements v js t) w r
  elements_reads (elem_last v a) =
      let i = value_reads v in
      let k = ws_reads a in
      record {
        cut = i.cut then k.cut then one 0x5d none;
        again = λ t. elem_last (i.again (k.cut.put (0x5d ∷ t))) (k.again (0x5d ∷ t));
      }
  elements_reads (elem_more v a b h) =
      let i = value_reads v in
      let k = ws_reads a in
      let l = ws_reads b in
      let m = elements_reads h in
      record {
        cut = i.cut then k.cut then one 0x2c (l.cut then m.cut);
        again = λ t. elem_more (i.again (k.cut.put (0x2c ∷ l.cut.put (m.cut.put t))))
            (k.again (0x2c ∷ l.cut.put (m.cut.put t))) (l.again (m.cut.put t)) (m.again t);
      }

  -- a member is read before any rest
  pub member_reads : {w k r : List ℕ} {j : Json} → Member w k j r → Reads (λ v t. Member v k j t) w r
  member_reads (member n v) =
      let i = name_reads n in
      let k = value_reads v in
      record { cut = i.cut then k.cut; again = λ t. member (i.again (k.cut.put t)) (k.again t) }

  -- an object's members is read before any rest
  members_reads : {w r : List ℕ} {ms : Fields} → Members w ms r → Reads (λ v t. Members v ms t) w r
  members_reads (mem_last v a) =
      let i = member_reads v in
      let k = ws_reads a in
      record {
        cut = i.cut then k.cut then one 0x7d none;
        again = λ t. mem_last (i.again (k.cut.put (0x7d ∷ t))) (k.again (0x7d ∷ t));
      }
  members_reads (mem_more v a b h) =
      let i = member_reads v in
      let k = ws_reads a in
      let l = ws_reads b in
      let m = members_reads h in
      record {
        cut = i.cut then k.cut then one 0x2c (l.cut then m.cut);
        again = λ t. mem_more (i.again (k.cut.put (0x2c ∷ l.cut.put (m.cut.put t))))
            (k.again (0x2c ∷ l.cut.put (m.cut.put t))) (l.again (m.cut.put t)) (m.again t);
      }
