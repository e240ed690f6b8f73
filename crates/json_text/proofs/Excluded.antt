-- Where a scan breaks off there is no text, or a deeper one.
-- Assumes nothing.
use Prim.Native.Nat.{ℕ, suc, ◌≤◌, ◌<◌, zero-le, suc-le-suc}
use native.Mathlib.Nat.{le_trans}
use native.Mathlib.Omega.{arith}
use mathlib.Core.Path.{◌≡◌, refl}
use mathlib.Core.List.{List, ◌∷◌}
use Rattle.json_text.specs.Tree.{Json, Values, Fields, depth, depths, depths_of}
use Rattle.json_text.specs.Grammar.{IsWs, Lit, Digit, Number, Hex, Escape, Chars, Scalar, Name, Value, Elements}
use Rattle.json_text.specs.Grammar.{Member, Members, Text}
use Rattle.json_text.specs.Grammar.Lit.{lit_none, lit_more}
use Rattle.json_text.specs.Grammar.Int.{int_zero, int_more}
use Rattle.json_text.specs.Grammar.Magnitude.{magnitude}
use Rattle.json_text.specs.Grammar.Number.{num_plain, num_minus}
use Rattle.json_text.specs.Grammar.Hex.{hex_more}
use Rattle.json_text.specs.Grammar.Escape.{esc_byte, esc_hex}
use Rattle.json_text.specs.Grammar.Chars.{chars_close, chars_plain, chars_escape}
use Rattle.json_text.specs.Grammar.Scalar.{sc_null, sc_true, sc_false, sc_number, sc_string}
use Rattle.json_text.specs.Grammar.Name.{name}
use Rattle.json_text.specs.Grammar.Value.{val_scalar, val_array0, val_array, val_object0, val_object}
use Rattle.json_text.specs.Grammar.Elements.{elem_last, elem_more}
use Rattle.json_text.specs.Grammar.Member.{member}
use Rattle.json_text.specs.Grammar.Members.{mem_last, mem_more}
use Rattle.json_text.specs.Grammar.Text.{text}
use Rattle.json_text.specs.Faults.{Fault, Not, Is, Stop, Starts, Follows, NumberTo, NoLit, NoHex, NoEscape, NoChars}
use Rattle.json_text.specs.Faults.{NoMagnitude, NoScalar, NoName, NoValue, NoElements, NoMember, NoMembers, NoText}
use Rattle.json_text.specs.Faults.Fault.{broke, deep}
use Rattle.json_text.specs.Faults.Not.{not_end, not_head}
use Rattle.json_text.specs.Faults.Is.{is}
use Rattle.json_text.specs.Faults.Starts.{starts_null, starts_true, starts_false, starts_minus, starts_string}
use Rattle.json_text.specs.Faults.Starts.{starts_number}
use Rattle.json_text.specs.Faults.Follows.{follows_ws, follows_comma, follows_close}
use Rattle.json_text.specs.Faults.Escapes.{escapes_byte, escapes_hex}
use Rattle.json_text.specs.Faults.InChars.{in_close, in_escape, in_plain}
use Rattle.json_text.specs.Faults.NoLit.{lit_bad, lit_on}
use Rattle.json_text.specs.Faults.NoHex.{hex_bad, hex_on}
use Rattle.json_text.specs.Faults.NoEscape.{esc_bad, esc_in_hex}
use Rattle.json_text.specs.Faults.NoChars.{chars_bad, chars_on, chars_in_escape, chars_after_escape}
use Rattle.json_text.specs.Faults.NoScalar.{sc_bad, sc_in_null, sc_in_true, sc_in_false, sc_in_number, sc_in_minus}
use Rattle.json_text.specs.Faults.NoScalar.{sc_in_string}
use Rattle.json_text.specs.Faults.NumberTo.{to_plain, to_minus}
use Rattle.json_text.specs.Faults.NoName.{name_bad, name_in, name_after}
use Rattle.json_text.specs.Faults.NoValue.{val_in_scalar, val_deep_array, val_deep_object, val_in_array, val_in_object}
use Rattle.json_text.specs.Faults.NoElements.{elem_in, elem_after, elem_on}
use Rattle.json_text.specs.Faults.NoMember.{member_in_name, member_in_value}
use Rattle.json_text.specs.Faults.NoMembers.{mem_in, mem_after, mem_on}
use Rattle.json_text.specs.Faults.NoText.{text_in, text_after}
use Rattle.json_text.specs.Numbers.{number_not, to_of, no_mag, mag_minus}
use Rattle.json_text.proofs.Unique.{heads, tails, hex_byte, at_comma, at_bracket, comma_after, brace_after, at_end, solid}
use Rattle.json_text.proofs.Unique.{value_no_ws, elements_no_ws, members_no_ws, scalar_bracket, scalar_brace}
use Rattle.json_text.proofs.Unique.{ws_unique, escape_unique, chars_unique, name_unique, same_comma, comma_bracket}
use Rattle.json_text.proofs.Unique.{comma_brace, value_unique, member_unique}

-- where a scan breaks off with `broke` there is no reading; where with `deep`, a reading is deeper than the levels
pub data Wrong : Fault → ℕ → ℕ → Type 0 where
  deeper : {n d : ℕ} → n < d → Wrong deep n d

-- inside a bracket
inner : {f : Fault} {n d : ℕ} → Wrong f n d → Wrong f (suc n) (suc d)
inner (deeper h) = deeper (suc-le-suc h)

-- a deeper one
higher : {f : Fault} {n d e : ℕ} → d ≤ e → Wrong f n d → Wrong f n e
higher l (deeper h) = deeper (le_trans h l)

-- a literal word that breaks off cannot be read
no_word : {ks ls w r a : List ℕ} {f : Fault} → ks ≡ ls → NoLit ks w f r → Lit ls w a → ⊥
no_word e (lit_bad n) lit_none = let z : ◌≡◌ {A = ℕ} 0 1 = cc in omega arith
no_word e (lit_bad (not_head f)) (lit_more h) = f (rw (heads e) is)
no_word e (lit_on k) lit_none = let z : ◌≡◌ {A = ℕ} 0 1 = cc in omega arith
no_word e (lit_on k) (lit_more h) = no_word (tails e) k h

-- so one word cannot
pub no_lit : {ks w r a : List ℕ} {f : Fault} → NoLit ks w f r → Lit ks w a → ⊥
no_lit k h = no_word refl k h

-- a run of hexadecimal digits that breaks off cannot be read
no_hex : {n : ℕ} {w ds r a : List ℕ} {f : Fault} → NoHex n w f r → Hex n w ds a → ⊥
no_hex (hex_bad not_end) h = elim h [ ]
no_hex (hex_bad (not_head f)) (hex_more d h) = f d
no_hex (hex_on e k) (hex_more d h) = no_hex k h

-- an escape that breaks off cannot be read
pub no_escape : {w es r a : List ℕ} {f : Fault} → NoEscape w f r → Escape w es a → ⊥
no_escape (esc_bad not_end) h = elim h [ ]
no_escape (esc_bad (not_head f)) (esc_byte e) = f (escapes_byte e)
no_escape (esc_bad (not_head f)) (esc_hex h) = f escapes_hex
no_escape (esc_in_hex k) (esc_byte e) = hex_byte e
no_escape (esc_in_hex k) (esc_hex h) = no_hex k h

-- the rest of a string that breaks off cannot be read
pub no_chars : {w cs r a : List ℕ} {f : Fault} → NoChars w f r → Chars w cs a → ⊥
no_chars (chars_bad not_end) h = elim h [ ]
no_chars (chars_bad (not_head f)) chars_close = f in_close
no_chars (chars_bad (not_head f)) (chars_plain p h) = f (in_plain p)
no_chars (chars_bad (not_head f)) (chars_escape e h) = f in_escape
no_chars (chars_on q k) chars_close = q.2 refl
no_chars (chars_on q k) (chars_plain p h) = no_chars k h
no_chars (chars_on q k) (chars_escape e h) = q.3 refl
no_chars (chars_in_escape k) (chars_plain p h) = p.3 refl
no_chars (chars_in_escape k) (chars_escape e h) = no_escape k e
no_chars (chars_after_escape e k) (chars_plain p h) = p.3 refl
no_chars (chars_after_escape e k) (chars_escape e' h) = no_chars k (rw (← (escape_unique e e').1) at h)

-- a number starts as a scalar does
starts_of_lem : {w ds a : List ℕ} → Number w ds a → Not Starts w → ⊥
starts_of_lem (num_plain (magnitude int_zero f e)) (not_head g) = g (starts_number (omega arith))
starts_of_lem (num_plain (magnitude (int_more d h) f e)) (not_head g) = g (starts_number (omega arith))
starts_of_lem (num_minus h) (not_head g) = g starts_minus

-- a number that breaks off behind a digit
in_number : {d : ℕ} {w ds r a : List ℕ} {f : Fault} → Digit d → NoMagnitude (d ∷ w) f r → NumberTo (d ∷ w) ds a → ⊥
in_number d k (to_plain h) = no_mag k h
in_number d k (to_minus h) = omega arith

-- a number that breaks off behind its sign
in_minus : {w ds r a : List ℕ} {f : Fault} → NoMagnitude w f r → NumberTo (0x2d ∷ w) ds a → ⊥
in_minus k (to_plain h) = mag_minus h
in_minus k (to_minus h) = no_mag k h

-- a scalar that breaks off cannot be read
pub no_scalar : {w r a : List ℕ} {j : Json} {f : Fault} → NoScalar w f r → Scalar w j a → Stop j a → ⊥
no_scalar (sc_bad n) (sc_number h) m = starts_of_lem h n
no_scalar (sc_bad (not_head f)) (sc_null h) m = f starts_null
no_scalar (sc_bad (not_head f)) (sc_true h) m = f starts_true
no_scalar (sc_bad (not_head f)) (sc_false h) m = f starts_false
no_scalar (sc_bad (not_head f)) (sc_string h) m = f starts_string
no_scalar (sc_in_null k) (sc_null h) m = no_lit k h
no_scalar (sc_in_null k) (sc_number h) m = number_not 0x6e (omega arith) (omega arith) h
no_scalar (sc_in_true k) (sc_true h) m = no_lit k h
no_scalar (sc_in_true k) (sc_number h) m = number_not 0x74 (omega arith) (omega arith) h
no_scalar (sc_in_false k) (sc_false h) m = no_lit k h
no_scalar (sc_in_false k) (sc_number h) m = number_not 0x66 (omega arith) (omega arith) h
no_scalar (sc_in_number d k) (sc_null h) m = omega arith
no_scalar (sc_in_number d k) (sc_true h) m = omega arith
no_scalar (sc_in_number d k) (sc_false h) m = omega arith
no_scalar (sc_in_number d k) (sc_number h) m = in_number d k (to_of h m)
no_scalar (sc_in_number d k) (sc_string h) m = omega arith
no_scalar (sc_in_minus k) (sc_number h) m = in_minus k (to_of h m)
no_scalar (sc_in_string k) (sc_number h) m = number_not 0x22 (omega arith) (omega arith) h
no_scalar (sc_in_string k) (sc_string h) m = no_chars k h

-- a member's name that breaks off cannot be read
pub no_name : {w k r a : List ℕ} {f : Fault} → NoName w f r → Name w k a → ⊥
no_name (name_bad not_end) h = elim h [ ]
no_name (name_bad (not_head f)) (name h x y) = f is
no_name (name_in k) (name h x y) = no_chars k h
no_name (name_after c w n f) (name h x y) =
    let u = chars_unique c h in
    not_colon f (ws_unique w n (rw (← u.1) at x) (solid 0x3a (omega arith)))
  where
    not_colon : {r b : List ℕ} → Not (Is 0x3a) r → r ≡ 0x3a ∷ b → ⊥
    not_colon not_end e = let z : ◌≡◌ {A = ℕ} 0 1 = cc in omega arith
    not_colon (not_head g) e = g (rw (heads e) is)

-- what may not follow is no closing bracket
pub not_follows : {close : ℕ} {r b : List ℕ} → Not (Follows close) r → r ≡ close ∷ b → ⊥
not_follows not_end e = let z : ◌≡◌ {A = ℕ} 0 1 = cc in omega arith
not_follows (not_head g) e = g (rw (heads e) follows_close)

-- what may not follow is no comma
pub not_comma : {close : ℕ} {r b : List ℕ} → Not (Follows close) r → r ≡ 0x2c ∷ b → ⊥
not_comma not_end e = let z : ◌≡◌ {A = ℕ} 0 1 = cc in omega arith
not_comma (not_head g) e = g (rw (heads e) follows_comma)

-- what may not follow is no white space
pub follows_no_ws : {close : ℕ} {r : List ℕ} → Not (Follows close) r → Not IsWs r
follows_no_ws not_end = not_end
follows_no_ws (not_head g) = not_head (λ w. g (follows_ws w))

-- a list that does not start with c
pub not_is : {c : ℕ} {r b : List ℕ} → Not (Is c) r → r ≡ c ∷ b → ⊥
not_is not_end e = let z : ◌≡◌ {A = ℕ} 0 1 = cc in omega arith
not_is (not_head g) e = g (rw (heads e) is)

mutual
  unfolding depth

  -- a value that breaks off cannot be read
  pub no_value : {n : ℕ} {w r a : List ℕ} {j : Json} {f : Fault} → NoValue n w f r → Value w j a → Stop j a →
      Wrong f n (depth j)
  no_value (val_in_scalar x y k) (val_scalar h) m = absurd (no_scalar k h m)
  no_value (val_in_scalar x y k) (val_array0 a) m = absurd (not_is x refl)
  no_value (val_in_scalar x y k) (val_array a h) m = absurd (not_is x refl)
  no_value (val_in_scalar x y k) (val_object0 a) m = absurd (not_is y refl)
  no_value (val_in_scalar x y k) (val_object a h) m = absurd (not_is y refl)
  no_value val_deep_array (val_scalar h) m = absurd (scalar_bracket h)
  no_value val_deep_array (val_array0 a) m = deeper (suc-le-suc zero-le)
  no_value val_deep_array (val_array a h) m = deeper (suc-le-suc zero-le)
  no_value val_deep_object (val_scalar h) m = absurd (scalar_brace h)
  no_value val_deep_object (val_object0 a) m = deeper (suc-le-suc zero-le)
  no_value val_deep_object (val_object a h) m = deeper (suc-le-suc zero-le)
  no_value (val_in_array x y z k) (val_scalar h) m = absurd (scalar_bracket h)
  no_value (val_in_array x y z k) (val_array0 a) m = absurd (not_is z (ws_unique x y a (solid 0x5d (omega arith))))
  no_value (val_in_array x y z k) (val_array a h) m =
      inner (no_elements k (rw (← ws_unique x y a (elements_no_ws h)) at h))
  no_value (val_in_object x y z k) (val_scalar h) m = absurd (scalar_brace h)
  no_value (val_in_object x y z k) (val_object0 a) m = absurd (not_is z (ws_unique x y a (solid 0x7d (omega arith))))
  no_value (val_in_object x y z k) (val_object a h) m =
      inner (no_members k (rw (← ws_unique x y a (members_no_ws h)) at h))

  -- an array's elements that breaks off cannot be read
  pub no_elements : {n : ℕ} {w r a : List ℕ} {js : Values} {f : Fault} → NoElements n w f r → Elements w js a →
      Wrong f n (depths js)
  no_elements (elem_in k) (elem_last v x) = higher (omega arith) (no_value k v (at_bracket v x))
  no_elements (elem_in k) (elem_more v x y h) = higher (omega arith) (no_value k v (at_comma v x))
  no_elements (elem_after u s l a q) (elem_last v x) =
      let e = value_unique u s v (at_bracket v x) in
      absurd (not_follows q (ws_unique a (follows_no_ws q) (rw (← e.1) at x) (solid 0x5d (omega arith))))
  no_elements (elem_after u s l a q) (elem_more v x y h) =
      let e = value_unique u s v (at_comma v x) in
      absurd (not_comma q (ws_unique a (follows_no_ws q) (rw (← e.1) at x) (solid 0x2c (omega arith))))
  no_elements (elem_on u s l a b q k) (elem_last v x) =
      let e = value_unique u s v (at_bracket v x) in
      absurd (comma_bracket a (rw (← e.1) at x))
  no_elements (elem_on u s l a b q k) (elem_more v x y h) =
      let e = value_unique u s v (at_comma v x) in
      let g = same_comma a (rw (← e.1) at x) in
      let i = ws_unique b q (rw (← g) at y) (elements_no_ws h) in
      higher (omega arith) (no_elements k (rw (← i) at h))

  -- a member that breaks off cannot be read
  pub no_member : {n : ℕ} {w l r a : List ℕ} {j : Json} {f : Fault} → NoMember n w f r → Member w l j a → Stop j a →
      Wrong f n (depth j)
  no_member (member_in_name k) (member x v) m = absurd (no_name k x)
  no_member (member_in_value u q k) (member x v) m = no_value k (rw (← (name_unique u q x (value_no_ws v)).1) at v) m

  -- an object's members that breaks off cannot be read
  pub no_members : {n : ℕ} {w r a : List ℕ} {ms : Fields} {f : Fault} → NoMembers n w f r → Members w ms a →
      Wrong f n (depths_of ms)
  no_members (mem_in k) (mem_last v x) = higher (omega arith) (no_member k v (brace_after v x))
  no_members (mem_in k) (mem_more v x y h) = higher (omega arith) (no_member k v (comma_after v x))
  no_members (mem_after u s l a q) (mem_last v x) =
      let e = member_unique u s v (brace_after v x) in
      absurd (not_follows q (ws_unique a (follows_no_ws q) (rw (← e.2) at x) (solid 0x7d (omega arith))))
  no_members (mem_after u s l a q) (mem_more v x y h) =
      let e = member_unique u s v (comma_after v x) in
      absurd (not_comma q (ws_unique a (follows_no_ws q) (rw (← e.2) at x) (solid 0x2c (omega arith))))
  no_members (mem_on u s l a b q k) (mem_last v x) =
      let e = member_unique u s v (brace_after v x) in
      absurd (comma_brace a (rw (← e.2) at x))
  no_members (mem_on u s l a b q k) (mem_more v x y h) =
      let e = member_unique u s v (comma_after v x) in
      let g = same_comma a (rw (← e.2) at x) in
      let i = ws_unique b q (rw (← g) at y) (members_no_ws h) in
      higher (omega arith) (no_members k (rw (← i) at h))

-- a text that breaks off cannot be read
no_text : {n : ℕ} {w r : List ℕ} {j : Json} {f : Fault} → NoText n w f r → Text w j → Wrong f n (depth j)
no_text (text_in a q k) (text x v y) =
    no_value k (rw (← ws_unique a q x (value_no_ws v)) at v) (at_end v y)
no_text (text_after a u s l b q e) (text x v y) =
    let i = ws_unique a (value_no_ws u) x (value_no_ws v) in
    let j = value_unique u s (rw (← i) at v) (at_end v y) in
    absurd (e (ws_unique b q (rw (← j.1) at y) not_end))

-- a scan that broke: no text
pub broke_none : {n : ℕ} {w r : List ℕ} {j : Json} → NoText n w broke r → Text w j → ⊥
broke_none k h = none (no_text k h)
  where
    none : {n d : ℕ} → Wrong broke n d → ⊥
    none = elim [ ]

-- a scan that found no level left: no text of so few levels
pub deep_deeper : {n : ℕ} {w r : List ℕ} {j : Json} → NoText n w deep r → Text w j → n < depth j
deep_deeper k h = deepen (no_text k h)
  where
    deepen : {n d : ℕ} → Wrong deep n d → n < d
    deepen (deeper l) = l
