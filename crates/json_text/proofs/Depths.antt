-- The depth count along what the grammar reads: where a scan finds no level left, there the count first passes the
-- levels.
-- Assumes nothing.
use Prim.Native.Nat.{◌+◌, ℕ, suc, ◌≤◌, ◌<◌}
use native.Mathlib.Omega.{arith}
use borrow.Author.Tests.{ne_eqb, le-ltb, lt-ltb}
use lib.ListN.{length}
use Rattle.json_text.specs.Depth.{Mode, kind, turn, move, to_pass}
use Rattle.json_text.specs.Depth.Mode.{outside, inside, hidden}
use Rattle.json_text.specs.Depth.Kind.{code}
use Rattle.json_text.specs.Depth.Bracket.{opens, neither}
use mathlib.Core.Path.{◌≡◌, refl}
use mathlib.Core.List.{List, [], ◌∷◌}
use Rattle.json_text.specs.Tree.{Json, Values, Fields, depth, depths, depths_of}
use Rattle.json_text.specs.Grammar.{Ws, Lit, Digit, Digits, Int, Some, Frac, IsE, IsSign, Exp, Magnitude, Number}
use Rattle.json_text.specs.Grammar.{HexDigit, Hex, Escape, Chars, Scalar, Name, Value, Elements, Member, Members, Text}
use Rattle.json_text.specs.Grammar.IsWs.{space, tab, line, return}
use Rattle.json_text.specs.Grammar.Ws.{ws_none, ws_more}
use Rattle.json_text.specs.Grammar.Lit.{lit_none, lit_more}
use Rattle.json_text.specs.Grammar.Digits.{digits_none, digits_more}
use Rattle.json_text.specs.Grammar.Int.{int_zero, int_more}
use Rattle.json_text.specs.Grammar.Some.{some}
use Rattle.json_text.specs.Grammar.Frac.{frac_none, frac_some}
use Rattle.json_text.specs.Grammar.Exp.{exp_none, exp_plain, exp_signed}
use Rattle.json_text.specs.Grammar.Magnitude.{magnitude}
use Rattle.json_text.specs.Grammar.Number.{num_plain, num_minus}
use Rattle.json_text.specs.Grammar.Hex.{hex_none, hex_more}
use Rattle.json_text.specs.Grammar.Escape.{esc_byte, esc_hex}
use Rattle.json_text.specs.Grammar.Chars.{chars_close, chars_plain, chars_escape}
use Rattle.json_text.specs.Grammar.Scalar.{sc_null, sc_true, sc_false, sc_number, sc_string}
use Rattle.json_text.specs.Grammar.Name.{name}
use Rattle.json_text.specs.Grammar.Value.{val_scalar, val_array0, val_array, val_object0, val_object}
use Rattle.json_text.specs.Grammar.Elements.{elem_last, elem_more}
use Rattle.json_text.specs.Grammar.Member.{member}
use Rattle.json_text.specs.Grammar.Members.{mem_last, mem_more}
use Rattle.json_text.specs.Grammar.Text.{text}
use Rattle.json_text.specs.Faults.{Fault, NoLit, NoHex, NoEscape, NoChars, NoSome, NoExp, NoTail, NoMagnitude}
use Rattle.json_text.specs.Faults.{NoScalar, NoName, NoValue, NoElements, NoMember, NoMembers, NoText}
use Rattle.json_text.specs.Faults.Fault.{broke, deep}
use Rattle.json_text.specs.Faults.NoLit.{lit_bad, lit_on}
use Rattle.json_text.specs.Faults.NoHex.{hex_bad, hex_on}
use Rattle.json_text.specs.Faults.NoEscape.{esc_bad, esc_in_hex}
use Rattle.json_text.specs.Faults.NoChars.{chars_bad, chars_on, chars_in_escape, chars_after_escape}
use Rattle.json_text.specs.Faults.NoScalar.{sc_bad, sc_in_null, sc_in_true, sc_in_false, sc_in_number, sc_in_minus}
use Rattle.json_text.specs.Faults.NoScalar.{sc_in_string}
use Rattle.json_text.specs.Faults.NoSome.{some_bad}
use Rattle.json_text.specs.Faults.NoExp.{exp_in, exp_in_signed}
use Rattle.json_text.specs.Faults.NoTail.{tail_in_frac, tail_in_exp}
use Rattle.json_text.specs.Faults.NoMagnitude.{mag_bad, mag_in_tail}
use Rattle.json_text.specs.Faults.NoName.{name_bad, name_in, name_after}
use Rattle.json_text.specs.Faults.NoValue.{val_in_scalar, val_deep_array, val_deep_object, val_in_array, val_in_object}
use Rattle.json_text.specs.Faults.NoElements.{elem_in, elem_after, elem_on}
use Rattle.json_text.specs.Faults.NoMember.{member_in_name, member_in_value}
use Rattle.json_text.specs.Faults.NoMembers.{mem_in, mem_after, mem_on}
use Rattle.json_text.specs.Faults.NoText.{text_in}
use Rattle.json_text.specs.Grammar.IsE.{small, capital}
use Rattle.json_text.specs.Grammar.IsSign.{plus, minus}
use Rattle.json_text.specs.Grammar.HexDigit.{hex_digit, hex_upper, hex_lower}

-- the count goes from the mode m and the depth d at w to n and e at r, and does not pass t on the way
record Along (t : ℕ) (m : Mode) (d : ℕ) (w : List ℕ) (n : Mode) (e : ℕ) (r : List ℕ) : Type 0 where
  low : d ≤ t → e ≤ t
  same : d ≤ t → to_pass t m d w + length r ≡ to_pass t n e r + length w

-- no byte
here : {t : ℕ} {m : Mode} {d : ℕ} {w : List ℕ} → Along t m d w m d w
here = record { low = λ l. l; same = λ l. refl }

-- one way behind another
◌then◌ : {t : ℕ} {m n k : Mode} {d e f : ℕ} {w v r : List ℕ} → Along t m d w n e v → Along t n e v k f r →
    Along t m d w k f r
◌then◌ x y = record { low = λ l. y.low (x.low l); same = λ l. omega (arith, x.same l, y.same (x.low l)) }

infixr 40 ◌then◌
-- one byte
byte : {t : ℕ} {m : Mode} {d : ℕ} (b : ℕ) {w : List ℕ} → (d ≤ t → move m (kind b) d ≤ t) →
    Along t m d (b ∷ w) (turn m (kind b)) (move m (kind b) d) w
unfolding to_pass
byte {t = t} {m = m} {d = d} b f = record { low = f; same = λ l. rw (le-ltb t (move m (kind b) d) (f l)) (omega arith) }

-- a byte that is no mark, no backslash and no bracket
quiet : {t b d : ℕ} {w : List ℕ} → kind b ≡ code neither → Along t outside d (b ∷ w) outside d w
quiet {t = t} {b = b} {d = d} {w = w} e = rw e at (byte {t = t} {m = outside} {d = d} b {w = w} (λ l. rw e l))

-- a digit is such a byte
digit_quiet : {b : ℕ} → Digit b → kind b ≡ code neither
digit_quiet {b = b} y =
    simp (
      ne_eqb b 0x22 (omega arith),
      ne_eqb b 0x5c (omega arith),
      ne_eqb b 0x5b (omega arith),
      ne_eqb b 0x7b
          (omega arith),
      ne_eqb b 0x5d (omega arith),
      ne_eqb b 0x7d (omega arith),
    )

-- a byte in a string that is no mark and no backslash
hushed : {t b d : ℕ} {w : List ℕ} → (b ≡ 0x22 → ⊥) → (b ≡ 0x5c → ⊥) → Along t inside d (b ∷ w) inside d w
hushed {t = t} {b = b} {d = d} {w = w} f g =
    rw (ne_eqb b 0x22 f, ne_eqb b 0x5c g) at (byte {t = t} {m = inside} {d = d} b {w = w} (λ l. l))

-- the count over white space
ws_along : {t : ℕ} {w r : List ℕ} {d : ℕ} → Ws w r → Along t outside d w outside d r
ws_along ws_none = here
ws_along (ws_more space h) = quiet refl then ws_along h
ws_along (ws_more tab h) = quiet refl then ws_along h
ws_along (ws_more line h) = quiet refl then ws_along h
ws_along (ws_more return h) = quiet refl then ws_along h

-- words whose bytes are quiet
data Quiet : List ℕ → Type 0 where
  quiet_none : Quiet []
  quiet_more : {k : ℕ} {ks : List ℕ} → kind k ≡ code neither → Quiet ks → Quiet (k ∷ ks)

-- the count over a literal word
lit_along : {t : ℕ} {ks w r : List ℕ} {d : ℕ} → Quiet ks → Lit ks w r → Along t outside d w outside d r
lit_along quiet_none lit_none = here
lit_along (quiet_more e q) (lit_more h) = quiet e then lit_along q h

-- the count over a run of digits
digits_along : {t : ℕ} {w ds r : List ℕ} {d : ℕ} → Digits w ds r → Along t outside d w outside d r
digits_along digits_none = here
digits_along (digits_more y h) = quiet (digit_quiet y) then digits_along h

-- the count over one digit or more
some_along : {t : ℕ} {w ds r : List ℕ} {d : ℕ} → Some w ds r → Along t outside d w outside d r
some_along (some y h) = quiet (digit_quiet y) then digits_along h

-- the count over an integer part
int_along : {t : ℕ} {w ds r : List ℕ} {d : ℕ} → Int w ds r → Along t outside d w outside d r
int_along int_zero = quiet refl
int_along (int_more {d = b} y h) = quiet (digit_quiet {b = b} (omega arith)) then digits_along h

-- the count over a fraction
frac_along : {t : ℕ} {w ds r : List ℕ} {d : ℕ} → Frac w ds r → Along t outside d w outside d r
frac_along frac_none = here
frac_along (frac_some h) = quiet refl then some_along h

-- the letter of an exponent is such a byte
e_quiet : {b : ℕ} → IsE b → kind b ≡ code neither
e_quiet small = refl
e_quiet capital = refl

-- a sign is such a byte
sign_quiet : {b : ℕ} → IsSign b → kind b ≡ code neither
sign_quiet plus = refl
sign_quiet minus = refl

-- the count over an exponent
exp_along : {t : ℕ} {w ds r : List ℕ} {d : ℕ} → Exp w ds r → Along t outside d w outside d r
exp_along exp_none = here
exp_along (exp_plain e h) = quiet (e_quiet e) then some_along h
exp_along (exp_signed e i h) = quiet (e_quiet e) then quiet (sign_quiet i) then some_along h

-- the count over a number without its sign
mag_along : {t : ℕ} {w ds r : List ℕ} {d : ℕ} → Magnitude w ds r → Along t outside d w outside d r
mag_along (magnitude i f e) = int_along i then frac_along f then exp_along e

-- the count over a number
number_along : {t : ℕ} {w ds r : List ℕ} {d : ℕ} → Number w ds r → Along t outside d w outside d r
number_along (num_plain h) = mag_along h
number_along (num_minus h) = quiet refl then mag_along h

-- a hexadecimal digit in a string
hex_hushed : {t : ℕ} {b d : ℕ} {w : List ℕ} → HexDigit b → Along t inside d (b ∷ w) inside d w
hex_hushed (hex_digit l u) = hushed (λ e. omega arith) (λ e. omega arith)
hex_hushed (hex_upper l u) = hushed (λ e. omega arith) (λ e. omega arith)
hex_hushed (hex_lower l u) = hushed (λ e. omega arith) (λ e. omega arith)

-- the count over a run of hexadecimal digits
hex_along : {t : ℕ} {n : ℕ} {w ds r : List ℕ} {d : ℕ} → Hex n w ds r → Along t inside d w inside d r
hex_along hex_none = here
hex_along (hex_more y h) = hex_hushed y then hex_along h

-- the count over an escape
escape_along : {t : ℕ} {w es r : List ℕ} {d : ℕ} → Escape w es r → Along t hidden d w inside d r
escape_along (esc_byte {b = b} e) = byte b (λ l. l)
escape_along (esc_hex h) = byte 0x75 (λ l. l) then hex_along h

-- the count over the rest of a string
chars_along : {t : ℕ} {w cs r : List ℕ} {d : ℕ} → Chars w cs r → Along t inside d w outside d r
chars_along chars_close = byte 0x22 (λ l. l)
chars_along (chars_plain p h) = hushed p.2 p.3 then chars_along h
chars_along (chars_escape e h) = byte 0x5c (λ l. l) then escape_along e then chars_along h

-- the count over a scalar
scalar_along : {t : ℕ} {w r : List ℕ} {j : Json} {d : ℕ} → Scalar w j r → Along t outside d w outside d r
scalar_along (sc_null h) = quiet refl then lit_along (quiet_more refl (quiet_more refl (quiet_more refl quiet_none))) h
scalar_along (sc_true h) = quiet refl then lit_along (quiet_more refl (quiet_more refl (quiet_more refl quiet_none))) h
scalar_along (sc_false h) =
    quiet refl then lit_along (quiet_more refl (quiet_more refl (quiet_more refl (quiet_more refl quiet_none)))) h
scalar_along (sc_number h) = number_along h
scalar_along (sc_string h) = byte 0x22 (λ l. l) then chars_along h

-- the count over a member's name
name_along : {t : ℕ} {w k r : List ℕ} {d : ℕ} → Name w k r → Along t outside d w outside d r
name_along (name h a b) = byte 0x22 (λ l. l) then chars_along h then ws_along a then quiet refl then ws_along b

-- a value of depth e, from the depth d on, stays within d + e
mutual
  unfolding depth

  -- the count over a value
  value_along : {w r : List ℕ} {j : Json} (t d : ℕ) → Value w j r → d + depth j ≤ t → Along t outside d w outside d r
  value_along t d (val_scalar h) l = scalar_along h
  value_along t d (val_array0 a) l = byte 0x5b (λ g. omega arith) then ws_along a then byte 0x5d (λ g. omega arith)
  value_along t d (val_array a h) l =
      byte 0x5b (λ g. omega arith) then ws_along a then elements_along t d h (omega arith)
  value_along t d (val_object0 a) l = byte 0x7b (λ g. omega arith) then ws_along a then byte 0x7d (λ g. omega arith)
  value_along t d (val_object a h) l =
      byte 0x7b (λ g. omega arith) then ws_along a then members_along t d h (omega arith)

  -- the count over an array's elements
  elements_along : {w r : List ℕ} {js : Values} (t d : ℕ) → Elements w js r → suc d + depths js ≤ t →
      Along t outside (suc d) w outside d r
  elements_along t d (elem_last v a) l =
      value_along t (suc d) v (omega arith) then ws_along a then byte 0x5d (λ g. omega arith)
  elements_along t d (elem_more v a b h) l =
      value_along t (suc d) v (omega arith) then ws_along a then quiet refl then ws_along b then elements_along t d h
      (omega arith)

  -- the count over a member
  member_along : {w k r : List ℕ} {j : Json} (t d : ℕ) → Member w k j r → d + depth j ≤ t →
      Along t outside d w outside d r
  member_along t d (member n v) l = name_along n then value_along t d v l

  -- the count over an object's members
  members_along : {w r : List ℕ} {ms : Fields} (t d : ℕ) → Members w ms r → suc d + depths_of ms ≤ t →
      Along t outside (suc d) w outside d r
  members_along t d (mem_last v a) l =
      member_along t (suc d) v (omega arith) then ws_along a then byte 0x7d (λ g. omega arith)
  members_along t d (mem_more v a b h) l =
      member_along t (suc d) v (omega arith) then ws_along a then quiet refl then ws_along b then members_along t d h
      (omega arith)

-- within a text of at most n levels the count never passes n
pub text_low : {w : List ℕ} {j : Json} (n : ℕ) → Text w j → depth j ≤ n → to_pass n outside 0 w ≡ length w
unfolding to_pass
text_low n (text x v y) l =
    omega (arith, (ws_along {t = n} {d = 0} x then value_along n 0 v (omega arith) then ws_along y).same (omega arith))

-- a fault `deep` is found where the count first passes t, at r
data Over (t : ℕ) : Fault → ℕ → List ℕ → List ℕ → Type 0 where
  no_level : {f : Fault} {d : ℕ} {w r : List ℕ} → f ≡ broke → Over t f d w r
  over : {d : ℕ} {w r : List ℕ} → to_pass t outside d w + length r ≡ length w → 0 < length r → Over t deep d w r

-- the same from further left
back : {t : ℕ} {f : Fault} {d e : ℕ} {w v r : List ℕ} → Along t outside d w outside e v → d ≤ t → Over t f e v r →
    Over t f d w r
back x l (no_level e) = no_level e
back {t = t} {d = d} {w = w} {r = r} x l (over h g) =
    let k : to_pass t outside d w + length r ≡ length w = omega (arith, x.same l, h) in over k g

-- a literal word holds no bracket that counts: its fault is `broke`
lit_broke : {ks w r : List ℕ} {f : Fault} → NoLit ks w f r → f ≡ broke
lit_broke (lit_bad n) = refl
lit_broke (lit_on h) = lit_broke h

-- a run of hexadecimal digits holds no bracket that counts: its fault is `broke`
hex_broke : {n : ℕ} {w r : List ℕ} {f : Fault} → NoHex n w f r → f ≡ broke
hex_broke (hex_bad n) = refl
hex_broke (hex_on y h) = hex_broke h

-- an escape holds no bracket that counts: its fault is `broke`
escape_broke : {w r : List ℕ} {f : Fault} → NoEscape w f r → f ≡ broke
escape_broke (esc_bad n) = refl
escape_broke (esc_in_hex h) = hex_broke h

-- the rest of a string holds no bracket that counts: its fault is `broke`
chars_broke : {w r : List ℕ} {f : Fault} → NoChars w f r → f ≡ broke
chars_broke (chars_bad n) = refl
chars_broke (chars_on p h) = chars_broke h
chars_broke (chars_in_escape h) = escape_broke h
chars_broke (chars_after_escape e h) = chars_broke h

-- one digit or more holds no bracket that counts: its fault is `broke`
some_broke : {w r : List ℕ} {f : Fault} → NoSome w f r → f ≡ broke
some_broke (some_bad n) = refl

-- an exponent holds no bracket that counts: its fault is `broke`
exp_broke : {w r : List ℕ} {f : Fault} → NoExp w f r → f ≡ broke
exp_broke (exp_in e n h) = some_broke h
exp_broke (exp_in_signed e i h) = some_broke h

-- a fraction and an exponent holds no bracket that counts: its fault is `broke`
tail_broke : {w r : List ℕ} {f : Fault} → NoTail w f r → f ≡ broke
tail_broke (tail_in_frac h) = some_broke h
tail_broke (tail_in_exp y h) = exp_broke h

-- a number without its sign holds no bracket that counts: its fault is `broke`
mag_broke : {w r : List ℕ} {f : Fault} → NoMagnitude w f r → f ≡ broke
mag_broke (mag_bad n) = refl
mag_broke (mag_in_tail y h) = tail_broke h

-- a scalar holds no bracket that counts: its fault is `broke`
scalar_broke : {w r : List ℕ} {f : Fault} → NoScalar w f r → f ≡ broke
scalar_broke (sc_bad n) = refl
scalar_broke (sc_in_null h) = lit_broke h
scalar_broke (sc_in_true h) = lit_broke h
scalar_broke (sc_in_false h) = lit_broke h
scalar_broke (sc_in_number d h) = mag_broke h
scalar_broke (sc_in_minus h) = mag_broke h
scalar_broke (sc_in_string h) = chars_broke h

-- a member's name holds no bracket that counts: its fault is `broke`
name_broke : {w r : List ℕ} {f : Fault} → NoName w f r → f ≡ broke
name_broke (name_bad n) = refl
name_broke (name_in h) = chars_broke h
name_broke (name_after h a n m) = refl

-- a bracket that opens where the count is t already
no_levels : {w : List ℕ} (b t d : ℕ) → kind b ≡ code opens → t ≡ d + 0 → Over t deep d (b ∷ w) (b ∷ w)
unfolding to_pass
no_levels {w = w} b t d k e =
    let z : to_pass t outside d (b ∷ w) ≡ 0 = rw (k, lt-ltb t (suc d) (omega arith)) in
    let n : 0 < length (b ∷ w) = omega arith in
    let g : to_pass t outside d (b ∷ w) + length (b ∷ w) ≡ length (b ∷ w) = omega arith in
    over g n

mutual
  -- a value
  over_value : {n : ℕ} {w r : List ℕ} {f : Fault} → NoValue n w f r → (t d : ℕ) → t ≡ d + n → Over t f d w r
  over_value (val_in_scalar x y h) t d e = no_level (scalar_broke h)
  over_value val_deep_array t d e = no_levels 0x5b t d refl e
  over_value val_deep_object t d e = no_levels 0x7b t d refl e
  over_value (val_in_array a x y h) t d e =
      back (byte 0x5b (λ g. omega arith) then ws_along a) (omega arith) (over_elements h t (suc d) (omega arith))
  over_value (val_in_object a x y h) t d e =
      back (byte 0x7b (λ g. omega arith) then ws_along a) (omega arith) (over_members h t (suc d) (omega arith))

  -- elements
  over_elements : {n : ℕ} {w r : List ℕ} {f : Fault} → NoElements n w f r → (t d : ℕ) → t ≡ d + n → Over t f d w r
  over_elements (elem_in h) t d e = over_value h t d e
  over_elements (elem_after v s l a n) t d e = no_level refl
  over_elements (elem_on v s l a b n h) t d e =
      back (value_along t d v (omega arith) then ws_along a then quiet refl then ws_along b) (omega arith)
      (over_elements h t d e)

  -- a member
  over_member : {n : ℕ} {w r : List ℕ} {f : Fault} → NoMember n w f r → (t d : ℕ) → t ≡ d + n → Over t f d w r
  over_member (member_in_name h) t d e = no_level (name_broke h)
  over_member (member_in_value v n h) t d e = back (name_along v) (omega arith) (over_value h t d e)

  -- members
  over_members : {n : ℕ} {w r : List ℕ} {f : Fault} → NoMembers n w f r → (t d : ℕ) → t ≡ d + n → Over t f d w r
  over_members (mem_in h) t d e = over_member h t d e
  over_members (mem_after v s l a n) t d e = no_level refl
  over_members (mem_on v s l a b n h) t d e =
      back (member_along t d v (omega arith) then ws_along a then quiet refl then ws_along b) (omega arith)
      (over_members h t d e)

-- a scan with n levels finds no level left at the byte with which the depth count first passes n
pub deep_place : {n : ℕ} {w r : List ℕ} → NoText n w deep r → (to_pass n outside 0 w + length r ≡ length w) ×
    (0 < length r)
deep_place {n = n} (text_in a q h) = passed (back (ws_along a) (omega arith) (over_value h n 0 (omega arith)))
  where
    passed : {n d : ℕ} {w r : List ℕ} → Over n deep d w r → (to_pass n outside d w + length r ≡ length w) ×
        (0 < length r)
    passed (no_level e) = absurd (let z : ◌≡◌ {A = ℕ} 0 1 = cc in omega arith)
    passed (over h g) = (h, g)
