-- A text is read in one way only. A number is as long as it can be (`Stop`).
-- Assumes nothing.
use Prim.Native.Nat.{ℕ, ◌≤◌, ◌<◌}
use native.Mathlib.Omega.{arith}
use mathlib.Core.Path.{◌≡◌, refl, ap}
use mathlib.Core.List.{List, [], ◌∷◌}
use Rattle.json_text.specs.Tree.{Json, Values, Fields}
use Rattle.json_text.specs.Grammar.{IsWs, Ws, Lit, Digit, IsE, Hex, IsEscape, Escape, Chars, Scalar, Name, Value}
use Rattle.json_text.specs.Grammar.{Elements, Member, Members, Text}
use Rattle.json_text.specs.Grammar.IsWs.{space, tab, line, return}
use Rattle.json_text.specs.Grammar.Ws.{ws_none, ws_more}
use Rattle.json_text.specs.Grammar.Lit.{lit_none, lit_more}
use Rattle.json_text.specs.Grammar.Int.{int_zero, int_more}
use Rattle.json_text.specs.Grammar.IsE.{small, capital}
use Rattle.json_text.specs.Grammar.Magnitude.{magnitude}
use Rattle.json_text.specs.Grammar.Number.{num_plain, num_minus}
use Rattle.json_text.specs.Grammar.Hex.{hex_none, hex_more}
use Rattle.json_text.specs.Grammar.Escape.{esc_byte, esc_hex}
use Rattle.json_text.specs.Grammar.Chars.{chars_close, chars_plain, chars_escape}
use Rattle.json_text.specs.Grammar.Scalar.{sc_null, sc_true, sc_false, sc_number, sc_string}
use Rattle.json_text.specs.Grammar.Name.{name}
use Rattle.json_text.specs.Grammar.Value.{val_scalar, val_array0, val_array, val_object0, val_object}
use Rattle.json_text.specs.Grammar.Elements.{elem_last, elem_more}
use Rattle.json_text.specs.Grammar.Member.{member}
use Rattle.json_text.specs.Grammar.Members.{mem_last, mem_more}
use Rattle.json_text.specs.Grammar.Text.{text}
use Rattle.json_text.specs.Faults.{Not, Stop}
use Rattle.json_text.specs.Faults.Not.{not_end, not_head}
use Rattle.json_text.specs.Faults.Stop.{stop_null, stop_true, stop_false, stop_string, stop_array, stop_object}
use Rattle.json_text.specs.Numbers.{Goes, number_unique, number_ends, stops, number_not}
use Rattle.json_text.specs.Numbers.Goes.{goes_digit, goes_dot, goes_e}

-- equal lists have equal heads
pub heads : {a b : ℕ} {x y : List ℕ} → a ∷ x ≡ b ∷ y → a ≡ b
heads e = cc

-- equal lists have equal tails
pub tails : {a b : ℕ} {x y : List ℕ} → a ∷ x ≡ b ∷ y → x ≡ y
tails e = cc

-- what follows a value is no digit
ws_no_digit : {b : ℕ} → IsWs b → Digit b → ⊥
ws_no_digit space d = omega arith
ws_no_digit tab d = omega arith
ws_no_digit line d = omega arith
ws_no_digit return d = omega arith

-- white space is no letter of an exponent
ws_no_e : {b : ℕ} → IsE b → IsWs b → ⊥
ws_no_e small w = no w
  where
    no : IsWs 0x65 → ⊥
    no = elim [ ]
ws_no_e capital w = no w
  where
    no : IsWs 0x45 → ⊥
    no = elim [ ]

-- white space goes on with no number
ws_ends : {b : ℕ} → IsWs b → Goes b → ⊥
ws_ends w (goes_digit d) = ws_no_digit w d
ws_ends w goes_dot = no w
  where
    no : IsWs 0x2e → ⊥
    no = elim [ ]
ws_ends w (goes_e e) = ws_no_e e w

-- a value before a byte that goes on with no number stops
pub stop_of : {w a : List ℕ} {j : Json} → Value w j a → Not Goes a → Stop j a
stop_of (val_scalar (sc_null h)) n = stop_null
stop_of (val_scalar (sc_true h)) n = stop_true
stop_of (val_scalar (sc_false h)) n = stop_false
stop_of (val_scalar (sc_number h)) n = stops (number_ends h n)
stop_of (val_scalar (sc_string h)) n = stop_string
stop_of (val_array0 x) n = stop_array
stop_of (val_array x h) n = stop_array
stop_of (val_object0 x) n = stop_object
stop_of (val_object x h) n = stop_object

-- white space, and then such a byte
pub before : {a r : List ℕ} {c : ℕ} → Ws a (c ∷ r) → (Goes c → ⊥) → Not Goes a
before ws_none f = not_head f
before (ws_more w h) f = not_head (ws_ends w)

-- a byte that goes on with no number
other : (c : ℕ) → (Digit c → ⊥) → (c ≡ 0x2e → ⊥) → (c ≡ 0x65 → ⊥) → (c ≡ 0x45 → ⊥) → Goes c → ⊥
other _ f g h k (goes_digit d) = f d
other _ f g h k goes_dot = g refl
other _ f g h k (goes_e small) = h refl
other _ f g h k (goes_e capital) = k refl

-- a value before such a byte stops
pub ends_at : (c : ℕ) → (Digit c → ⊥) → (c ≡ 0x2e → ⊥) → (c ≡ 0x65 → ⊥) → (c ≡ 0x45 → ⊥) → {w a r : List ℕ} {j : Json} →
    Value w j a → Ws a (c ∷ r) → Stop j a
ends_at c f g h k v x = stop_of v (before x (other c f g h k))

-- a value before a comma stops
pub at_comma : {w a r : List ℕ} {j : Json} → Value w j a → Ws a (0x2c ∷ r) → Stop j a
at_comma v x = ends_at 0x2c (omega arith) (omega arith) (omega arith) (omega arith) v x

-- a value before ] stops
pub at_bracket : {w a r : List ℕ} {j : Json} → Value w j a → Ws a (0x5d ∷ r) → Stop j a
at_bracket v x = ends_at 0x5d (omega arith) (omega arith) (omega arith) (omega arith) v x

-- a value before } stops
pub at_brace : {w a r : List ℕ} {j : Json} → Value w j a → Ws a (0x7d ∷ r) → Stop j a
at_brace v x = ends_at 0x7d (omega arith) (omega arith) (omega arith) (omega arith) v x

-- a member before a comma stops
pub comma_after : {w k a r : List ℕ} {j : Json} → Member w k j a → Ws a (0x2c ∷ r) → Stop j a
comma_after (member n v) x = at_comma v x

-- a member before } stops
pub brace_after : {w k a r : List ℕ} {j : Json} → Member w k j a → Ws a (0x7d ∷ r) → Stop j a
brace_after (member n v) x = at_brace v x

-- a value before the end stops
pub at_end : {w a : List ℕ} {j : Json} → Value w j a → Ws a [] → Stop j a
at_end v ws_none = stop_of v not_end
at_end v (ws_more w h) = stop_of v (not_head (ws_ends w))

-- white space is the space at most
at_most_space : {b : ℕ} → IsWs b → b ≤ 0x20
at_most_space space = omega arith
at_most_space tab = omega arith
at_most_space line = omega arith
at_most_space return = omega arith

-- a byte above the space is no white space
pub solid : (b : ℕ) {w : List ℕ} → 0x20 < b → Not IsWs (b ∷ w)
solid b l = not_head (λ (w : IsWs b). omega (arith, at_most_space w))

-- a scalar starts with no white space
scalar_no_ws : {w r : List ℕ} {j : Json} → Scalar w j r → Not IsWs w
scalar_no_ws (sc_null h) = solid 0x6e (omega arith)
scalar_no_ws (sc_true h) = solid 0x74 (omega arith)
scalar_no_ws (sc_false h) = solid 0x66 (omega arith)
scalar_no_ws (sc_number (num_plain (magnitude int_zero f e))) = solid 0x30 (omega arith)
scalar_no_ws (sc_number (num_plain (magnitude (int_more d h) f e))) = solid _ (omega arith)
scalar_no_ws (sc_number (num_minus h)) = solid 0x2d (omega arith)
scalar_no_ws (sc_string h) = solid 0x22 (omega arith)

-- a value starts with no white space
pub value_no_ws : {w r : List ℕ} {j : Json} → Value w j r → Not IsWs w
value_no_ws (val_scalar h) = scalar_no_ws h
value_no_ws (val_array0 a) = solid 0x5b (omega arith)
value_no_ws (val_array a h) = solid 0x5b (omega arith)
value_no_ws (val_object0 a) = solid 0x7b (omega arith)
value_no_ws (val_object a h) = solid 0x7b (omega arith)

-- an array's elements starts with no white space
pub elements_no_ws : {w r : List ℕ} {js : Values} → Elements w js r → Not IsWs w
elements_no_ws (elem_last v a) = value_no_ws v
elements_no_ws (elem_more v a b h) = value_no_ws v

-- a member starts with no white space
pub member_no_ws : {w k r : List ℕ} {j : Json} → Member w k j r → Not IsWs w
member_no_ws (member (name h a b) v) = solid 0x22 (omega arith)

-- an object's members starts with no white space
pub members_no_ws : {w r : List ℕ} {ms : Fields} → Members w ms r → Not IsWs w
members_no_ws (mem_last v a) = member_no_ws v
members_no_ws (mem_more v a b h) = member_no_ws v

-- what no scalar, value or member starts with
pub scalar_bracket : {w r : List ℕ} {j : Json} → Scalar (0x5b ∷ w) j r → ⊥
scalar_bracket (sc_number h) = number_not 0x5b (omega arith) (omega arith) h

-- no scalar starts with {
pub scalar_brace : {w r : List ℕ} {j : Json} → Scalar (0x7b ∷ w) j r → ⊥
scalar_brace (sc_number h) = number_not 0x7b (omega arith) (omega arith) h

-- a value that starts with { is an object
pub value_object : {w v r : List ℕ} {j : Json} → Value w j r → w ≡ 0x7b ∷ v → (ms : Fields) × (j ≡ Json.object ms)
value_object (val_scalar h) e = absurd (scalar_brace (rw e at h))
value_object (val_array0 a) e = absurd (let d = heads e in omega arith)
value_object (val_array a h) e = absurd (let d = heads e in omega arith)
value_object (val_object0 a) e = (_, refl)
value_object (val_object a h) e = (_, refl)

-- no value starts with ]
pub value_close : {w r : List ℕ} {j : Json} → Value (0x5d ∷ w) j r → ⊥
value_close (val_scalar (sc_number h)) = number_not 0x5d (omega arith) (omega arith) h

-- no elements start with ]
pub elements_close : {w r : List ℕ} {js : Values} → Elements (0x5d ∷ w) js r → ⊥
elements_close (elem_last v a) = value_close v
elements_close (elem_more v a b h) = value_close v

-- no member starts with }
member_close : {w k r : List ℕ} {j : Json} → Member (0x7d ∷ w) k j r → ⊥
member_close (member n v) = name_close n
  where
    name_close : {w k r : List ℕ} → Name (0x7d ∷ w) k r → ⊥
    name_close = elim [ ]

-- no members start with }
pub members_close : {w r : List ℕ} {ms : Fields} → Members (0x7d ∷ w) ms r → ⊥
members_close (mem_last v a) = member_close v
members_close (mem_more v a b h) = member_close v

-- one reading of each part
pub ws_unique : {w a b : List ℕ} → Ws w a → Not IsWs a → Ws w b → Not IsWs b → a ≡ b
ws_unique ws_none m ws_none n = refl
ws_unique ws_none (not_head f) (ws_more w h) n = absurd (f w)
ws_unique (ws_more w h) m ws_none (not_head f) = absurd (f w)
ws_unique (ws_more w h) m (ws_more v k) n = ws_unique h m k n

-- a literal word is read in one way
lit_same_word : {ks ls w a b : List ℕ} → ks ≡ ls → Lit ks w a → Lit ls w b → a ≡ b
lit_same_word e lit_none lit_none = refl
lit_same_word e lit_none (lit_more k) = absurd (let z : ◌≡◌ {A = ℕ} 0 1 = cc in omega arith)
lit_same_word e (lit_more h) lit_none = absurd (let z : ◌≡◌ {A = ℕ} 0 1 = cc in omega arith)
lit_same_word e (lit_more h) (lit_more k) = lit_same_word (tails e) h k

-- so one word is
pub lit_unique : {ks w a b : List ℕ} → Lit ks w a → Lit ks w b → a ≡ b
lit_unique h k = lit_same_word refl h k

-- a run of hexadecimal digits is read in one way
hex_unique : {n : ℕ} {w ds es a b : List ℕ} → Hex n w ds a → Hex n w es b → (ds ≡ es) × (a ≡ b)
hex_unique hex_none hex_none = (refl, refl)
hex_unique (hex_more d h) (hex_more e k) = let u = hex_unique h k in (cc, u.1)

-- u is no escape with the backslash alone
pub hex_byte : IsEscape 0x75 → ⊥
hex_byte = elim [ ]

-- an escape is read in one way
pub escape_unique : {w ds es a b : List ℕ} → Escape w ds a → Escape w es b → (ds ≡ es) × (a ≡ b)
escape_unique (esc_byte e) (esc_byte f) = (refl, refl)
escape_unique (esc_byte e) (esc_hex k) = absurd (hex_byte e)
escape_unique (esc_hex h) (esc_byte f) = absurd (hex_byte f)
escape_unique (esc_hex h) (esc_hex k) = let u = hex_unique h k in (cc, u.1)

-- the rest of a string is read in one way
pub chars_unique : {w ds es a b : List ℕ} → Chars w ds a → Chars w es b → (ds ≡ es) × (a ≡ b)
chars_unique chars_close chars_close = (refl, refl)
chars_unique chars_close (chars_plain p k) = absurd (p.2 refl)
chars_unique (chars_plain p h) chars_close = absurd (p.2 refl)
chars_unique (chars_plain p h) (chars_plain q k) = let u = chars_unique h k in (cc, u.1)
chars_unique (chars_plain p h) (chars_escape e k) = absurd (p.3 refl)
chars_unique (chars_escape e h) (chars_plain p k) = absurd (p.3 refl)
chars_unique (chars_escape e h) (chars_escape f k) =
    let v = escape_unique e f in
    let u = chars_unique h (rw (← v.1) at k) in
    (cc, u.1)

-- a scalar is read in one way
scalar_unique : {w a b : List ℕ} {i j : Json} → Scalar w i a → Stop i a → Scalar w j b → Stop j b → (i ≡ j) × (a ≡ b)
scalar_unique (sc_null h) m (sc_null k) n = (refl, lit_unique h k)
scalar_unique (sc_null h) m (sc_number k) n = absurd (number_not 0x6e (omega arith) (omega arith) k)
scalar_unique (sc_true h) m (sc_true k) n = (refl, lit_unique h k)
scalar_unique (sc_true h) m (sc_number k) n = absurd (number_not 0x74 (omega arith) (omega arith) k)
scalar_unique (sc_false h) m (sc_false k) n = (refl, lit_unique h k)
scalar_unique (sc_false h) m (sc_number k) n = absurd (number_not 0x66 (omega arith) (omega arith) k)
scalar_unique (sc_number h) m (sc_null k) n = absurd (number_not 0x6e (omega arith) (omega arith) h)
scalar_unique (sc_number h) m (sc_true k) n = absurd (number_not 0x74 (omega arith) (omega arith) h)
scalar_unique (sc_number h) m (sc_false k) n = absurd (number_not 0x66 (omega arith) (omega arith) h)
scalar_unique (sc_number h) m (sc_number k) n = let u = number_unique h m k n in (ap Json.number u.0, u.1)
scalar_unique (sc_number h) m (sc_string k) n = absurd (number_not 0x22 (omega arith) (omega arith) h)
scalar_unique (sc_string h) m (sc_number k) n = absurd (number_not 0x22 (omega arith) (omega arith) k)
scalar_unique (sc_string h) m (sc_string k) n = let u = chars_unique h k in (ap Json.string u.0, u.1)

-- a member's name is read in one way
pub name_unique : {w k l a b : List ℕ} → Name w k a → Not IsWs a → Name w l b → Not IsWs b → (k ≡ l) × (a ≡ b)
name_unique (name h x y) m (name h' x' y') n =
    let u = chars_unique h h' in
    let v = tails (ws_unique x (solid 0x3a (omega arith)) (rw (← u.1) at x') (solid 0x3a (omega arith))) in
    (u.0, ws_unique y m (rw (← v) at y') n)

-- the separators behind a value are the same, and so is what follows them
pub same_comma : {w x y : List ℕ} → Ws w (0x2c ∷ x) → Ws w (0x2c ∷ y) → x ≡ y
same_comma h k = tails (ws_unique h (solid 0x2c (omega arith)) k (solid 0x2c (omega arith)))

-- the same for ]
pub same_bracket : {w x y : List ℕ} → Ws w (0x5d ∷ x) → Ws w (0x5d ∷ y) → x ≡ y
same_bracket h k = tails (ws_unique h (solid 0x5d (omega arith)) k (solid 0x5d (omega arith)))

-- the same for }
pub same_brace : {w x y : List ℕ} → Ws w (0x7d ∷ x) → Ws w (0x7d ∷ y) → x ≡ y
same_brace h k = tails (ws_unique h (solid 0x7d (omega arith)) k (solid 0x7d (omega arith)))

-- a comma is no ]
pub comma_bracket : {w x y : List ℕ} → Ws w (0x2c ∷ x) → Ws w (0x5d ∷ y) → ⊥
comma_bracket h k = let e = heads (ws_unique h (solid 0x2c (omega arith)) k (solid 0x5d (omega arith))) in omega arith

-- a comma is no }
pub comma_brace : {w x y : List ℕ} → Ws w (0x2c ∷ x) → Ws w (0x7d ∷ y) → ⊥
comma_brace h k = let e = heads (ws_unique h (solid 0x2c (omega arith)) k (solid 0x7d (omega arith))) in omega arith

-- an empty array has no elements
pub no_elements : {w x v r : List ℕ} {js : Values} → Ws w (0x5d ∷ x) → Ws w v → Elements v js r → ⊥
no_elements h k m = elements_close (rw (← ws_unique h (solid 0x5d (omega arith)) k (elements_no_ws m)) at m)

-- an empty object has no members
pub no_members : {w x v r : List ℕ} {ms : Fields} → Ws w (0x7d ∷ x) → Ws w v → Members v ms r → ⊥
no_members h k m = members_close (rw (← ws_unique h (solid 0x7d (omega arith)) k (members_no_ws m)) at m)

mutual
  -- a value is read in one way
  pub value_unique : {w a b : List ℕ} {i j : Json} → Value w i a → Stop i a → Value w j b → Stop j b → (i ≡ j) × (a ≡ b)
  value_unique (val_scalar h) m (val_scalar k) n = scalar_unique h m k n
  value_unique (val_scalar h) m (val_array0 y) n = absurd (scalar_bracket h)
  value_unique (val_scalar h) m (val_array y k) n = absurd (scalar_bracket h)
  value_unique (val_scalar h) m (val_object0 y) n = absurd (scalar_brace h)
  value_unique (val_scalar h) m (val_object y k) n = absurd (scalar_brace h)
  value_unique (val_array0 x) m (val_scalar k) n = absurd (scalar_bracket k)
  value_unique (val_array0 x) m (val_array0 y) n = (refl, same_bracket x y)
  value_unique (val_array0 x) m (val_array y k) n = absurd (no_elements x y k)
  value_unique (val_array x h) m (val_scalar k) n = absurd (scalar_bracket k)
  value_unique (val_array x h) m (val_array0 y) n = absurd (no_elements y x h)
  value_unique (val_array x h) m (val_array y k) n =
      let u = elements_unique h (rw (← ws_unique x (elements_no_ws h) y (elements_no_ws k)) at k) in
      (ap Json.array u.0, u.1)
  value_unique (val_object0 x) m (val_scalar k) n = absurd (scalar_brace k)
  value_unique (val_object0 x) m (val_object0 y) n = (refl, same_brace x y)
  value_unique (val_object0 x) m (val_object y k) n = absurd (no_members x y k)
  value_unique (val_object x h) m (val_scalar k) n = absurd (scalar_brace k)
  value_unique (val_object x h) m (val_object0 y) n = absurd (no_members y x h)
  value_unique (val_object x h) m (val_object y k) n =
      let u = members_unique h (rw (← ws_unique x (members_no_ws h) y (members_no_ws k)) at k) in
      (ap Json.object u.0, u.1)

  -- an array's elements is read in one way
  pub elements_unique : {w a b : List ℕ} {is js : Values} → Elements w is a → Elements w js b → (is ≡ js) × (a ≡ b)
  elements_unique (elem_last v x) (elem_last v' x') =
      let u = value_unique v (at_bracket v x) v' (at_bracket v' x') in
      (cc, same_bracket x (rw (← u.1) at x'))
  elements_unique (elem_last v x) (elem_more v' x' y' h') =
      let u = value_unique v (at_bracket v x) v' (at_comma v' x') in
      absurd (comma_bracket (rw (← u.1) at x') x)
  elements_unique (elem_more v x y h) (elem_last v' x') =
      let u = value_unique v (at_comma v x) v' (at_bracket v' x') in
      absurd (comma_bracket x (rw (← u.1) at x'))
  elements_unique (elem_more v x y h) (elem_more v' x' y' h') =
      let u = value_unique v (at_comma v x) v' (at_comma v' x') in
      let e = same_comma x (rw (← u.1) at x') in
      let f = ws_unique y (elements_no_ws h) (rw (← e) at y') (elements_no_ws h') in
      let t = elements_unique h (rw (← f) at h') in
      (cc, t.1)

  -- a member is read in one way
  pub member_unique : {w k l a b : List ℕ} {i j : Json} → Member w k i a → Stop i a → Member w l j b → Stop j b →
      (k ≡ l) × (i ≡ j) × (a ≡ b)
  member_unique (member n v) m (member n' v') m' =
      let u = name_unique n (value_no_ws v) n' (value_no_ws v') in
      let t = value_unique v m (rw (← u.1) at v') m' in
      (u.0, t.0, t.1)

  -- an object's members is read in one way
  pub members_unique : {w a b : List ℕ} {is js : Fields} → Members w is a → Members w js b → (is ≡ js) × (a ≡ b)
  members_unique (mem_last v x) (mem_last v' x') =
      let u = member_unique v (brace_after v x) v' (brace_after v' x') in
      (cc, same_brace x (rw (← u.2) at x'))
  members_unique (mem_last v x) (mem_more v' x' y' h') =
      let u = member_unique v (brace_after v x) v' (comma_after v' x') in
      absurd (comma_brace (rw (← u.2) at x') x)
  members_unique (mem_more v x y h) (mem_last v' x') =
      let u = member_unique v (comma_after v x) v' (brace_after v' x') in
      absurd (comma_brace x (rw (← u.2) at x'))
  members_unique (mem_more v x y h) (mem_more v' x' y' h') =
      let u = member_unique v (comma_after v x) v' (comma_after v' x') in
      let e = same_comma x (rw (← u.2) at x') in
      let f = ws_unique y (members_no_ws h) (rw (← e) at y') (members_no_ws h') in
      let t = members_unique h (rw (← f) at h') in
      (cc, t.1)

-- a text says one tree
pub text_unique : {w : List ℕ} {i j : Json} → Text w i → Text w j → i ≡ j
text_unique (text x v y) (text x' v' y') =
    let e = ws_unique x (value_no_ws v) x' (value_no_ws v') in
    (value_unique v (at_end v y) (rw (← e) at v') (at_end v' y')).0
