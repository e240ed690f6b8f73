-- A scan breaks off at one place only, and there with one fault.
-- Assumes nothing.
use Prim.Native.Nat.{ℕ, ◌≤◌}
use native.Mathlib.Nat.{lt_irrefl, lt_of_lt_of_le}
use native.Mathlib.Omega.{arith}
use mathlib.Core.Path.{◌≡◌, refl}
use mathlib.Core.List.{List}
use Rattle.json_text.specs.Faults.{Fault, NoLit, NoHex, NoEscape, NoChars, NoSome, NoExp, NoTail, NoMagnitude}
use Rattle.json_text.specs.Faults.{NoScalar, NoName, NoValue, NoElements, NoMember, NoMembers, NoText}
use Rattle.json_text.specs.Faults.Fault.{broke}
use Rattle.json_text.specs.Faults.Not.{not_end, not_head}
use Rattle.json_text.specs.Faults.Is.{is}
use Rattle.json_text.specs.Faults.Starts.{starts_null, starts_true, starts_false, starts_minus, starts_string}
use Rattle.json_text.specs.Faults.Starts.{starts_number}
use Rattle.json_text.specs.Faults.Escapes.{escapes_hex}
use Rattle.json_text.specs.Faults.InChars.{in_escape, in_plain}
use Rattle.json_text.specs.Faults.IntTo.{to_int_zero, to_int_more}
use Rattle.json_text.specs.Faults.FracTo.{to_frac_none, to_frac_some}
use Rattle.json_text.specs.Faults.NoLit.{lit_bad, lit_on}
use Rattle.json_text.specs.Faults.NoHex.{hex_bad, hex_on}
use Rattle.json_text.specs.Faults.NoEscape.{esc_bad, esc_in_hex}
use Rattle.json_text.specs.Faults.NoChars.{chars_bad, chars_on, chars_in_escape, chars_after_escape}
use Rattle.json_text.specs.Faults.NoScalar.{sc_bad, sc_in_null, sc_in_true, sc_in_false, sc_in_number, sc_in_minus}
use Rattle.json_text.specs.Faults.NoScalar.{sc_in_string}
use Rattle.json_text.specs.Faults.NoSome.{some_bad}
use Rattle.json_text.specs.Faults.NoExp.{exp_in, exp_in_signed}
use Rattle.json_text.specs.Faults.NoTail.{tail_in_frac, tail_in_exp}
use Rattle.json_text.specs.Faults.NoMagnitude.{mag_bad, mag_in_tail}
use Rattle.json_text.specs.Faults.NoName.{name_bad, name_in, name_after}
use Rattle.json_text.specs.Faults.NoValue.{val_in_scalar, val_deep_array, val_deep_object, val_in_array, val_in_object}
use Rattle.json_text.specs.Faults.NoElements.{elem_in, elem_after, elem_on}
use Rattle.json_text.specs.Faults.NoMember.{member_in_name, member_in_value}
use Rattle.json_text.specs.Faults.NoMembers.{mem_in, mem_after, mem_on}
use Rattle.json_text.specs.Faults.NoText.{text_in, text_after}
use Rattle.json_text.specs.Numbers.{int_unique, frac_unique, no_some}
use Rattle.json_text.proofs.Unique.{heads, tails, value_no_ws, ws_unique, escape_unique, chars_unique, name_unique, solid}
use Rattle.json_text.proofs.Unique.{same_comma, value_unique, member_unique}
use Rattle.json_text.proofs.Excluded.{Wrong, no_escape, no_chars, no_name, not_comma, follows_no_ws, not_is, no_value}
use Rattle.json_text.proofs.Excluded.{no_member}
use Rattle.json_text.proofs.Excluded.Wrong.{deeper}

-- two faults are one: of one kind, at one place
pub record Same (f g : Fault) (r q : List ℕ) : Type 0 where
  pub kind : f ≡ g
  pub place : r ≡ q

-- the same place, of the one kind that there is
same : {r : List ℕ} → Same broke broke r r
same = record { kind = refl; place = refl }

-- at the places r and q, which are the same
at : {r q : List ℕ} → r ≡ q → Same broke broke r q
at e = record { kind = refl; place = e }

-- a literal word breaks off at one place
same_word : {ks ls w r q : List ℕ} {f g : Fault} → ks ≡ ls → NoLit ks w f r → NoLit ls w g q → Same f g r q
same_word e (lit_bad n) (lit_bad m) = same
same_word e (lit_bad (not_head n)) (lit_on k) = absurd (n (rw (heads e) is))
same_word e (lit_on h) (lit_bad (not_head m)) = absurd (m (rw (← heads e) is))
same_word e (lit_on h) (lit_on k) = same_word (tails e) h k

-- so one word does
pub lit_same : {ks w r q : List ℕ} {f g : Fault} → NoLit ks w f r → NoLit ks w g q → Same f g r q
lit_same h k = same_word refl h k

-- a run of hexadecimal digits breaks off at one place
hex_same : {n : ℕ} {w r q : List ℕ} {f g : Fault} → NoHex n w f r → NoHex n w g q → Same f g r q
hex_same (hex_bad n) (hex_bad m) = same
hex_same (hex_bad (not_head n)) (hex_on d k) = absurd (n d)
hex_same (hex_on d h) (hex_bad (not_head m)) = absurd (m d)
hex_same (hex_on d h) (hex_on e k) = hex_same h k

-- an escape breaks off at one place
escape_same : {w r q : List ℕ} {f g : Fault} → NoEscape w f r → NoEscape w g q → Same f g r q
escape_same (esc_bad n) (esc_bad m) = same
escape_same (esc_bad (not_head n)) (esc_in_hex k) = absurd (n escapes_hex)
escape_same (esc_in_hex h) (esc_bad (not_head m)) = absurd (m escapes_hex)
escape_same (esc_in_hex h) (esc_in_hex k) = hex_same h k

-- the rest of a string breaks off at one place
chars_same : {w r q : List ℕ} {f g : Fault} → NoChars w f r → NoChars w g q → Same f g r q
chars_same (chars_bad n) (chars_bad m) = same
chars_same (chars_bad (not_head n)) (chars_on p k) = absurd (n (in_plain p))
chars_same (chars_bad (not_head n)) (chars_in_escape k) = absurd (n in_escape)
chars_same (chars_bad (not_head n)) (chars_after_escape e k) = absurd (n in_escape)
chars_same (chars_on p h) (chars_bad (not_head m)) = absurd (m (in_plain p))
chars_same (chars_on p h) (chars_on p' k) = chars_same h k
chars_same (chars_on p h) (chars_in_escape k) = absurd (p.3 refl)
chars_same (chars_on p h) (chars_after_escape e k) = absurd (p.3 refl)
chars_same (chars_in_escape h) (chars_bad (not_head m)) = absurd (m in_escape)
chars_same (chars_in_escape h) (chars_on p k) = absurd (p.3 refl)
chars_same (chars_in_escape h) (chars_in_escape k) = escape_same h k
chars_same (chars_in_escape h) (chars_after_escape e k) = absurd (no_escape h e)
chars_same (chars_after_escape e h) (chars_bad (not_head m)) = absurd (m in_escape)
chars_same (chars_after_escape e h) (chars_on p k) = absurd (p.3 refl)
chars_same (chars_after_escape e h) (chars_in_escape k) = absurd (no_escape k e)
chars_same (chars_after_escape e h) (chars_after_escape e' k) = chars_same h (rw (← (escape_unique e e').1) at k)

-- one digit or more breaks off at one place
pub some_same : {w r q : List ℕ} {f g : Fault} → NoSome w f r → NoSome w g q → Same f g r q
some_same (some_bad n) (some_bad m) = same

-- an exponent breaks off at one place
exp_same : {w r q : List ℕ} {f g : Fault} → NoExp w f r → NoExp w g q → Same f g r q
exp_same (exp_in e n h) (exp_in e' m k) = some_same h k
exp_same (exp_in e (not_head n) h) (exp_in_signed e' i k) = absurd (n i)
exp_same (exp_in_signed e i h) (exp_in e' (not_head m) k) = absurd (m i)
exp_same (exp_in_signed e i h) (exp_in_signed e' i' k) = some_same h k

-- a fraction and an exponent breaks off at one place
tail_same : {w r q : List ℕ} {f g : Fault} → NoTail w f r → NoTail w g q → Same f g r q
tail_same (tail_in_frac h) (tail_in_frac k) = some_same h k
tail_same (tail_in_frac h) (tail_in_exp (to_frac_none (not_head m)) k) = absurd (m is)
tail_same (tail_in_frac h) (tail_in_exp (to_frac_some y) k) = absurd (no_some h y)
tail_same (tail_in_exp (to_frac_none (not_head n)) h) (tail_in_frac k) = absurd (n is)
tail_same (tail_in_exp (to_frac_some y) h) (tail_in_frac k) = absurd (no_some k y)
tail_same (tail_in_exp y h) (tail_in_exp z k) = exp_same h (rw (← (frac_unique y z).1) at k)

-- a number without its sign breaks off at one place
mag_same : {w r q : List ℕ} {f g : Fault} → NoMagnitude w f r → NoMagnitude w g q → Same f g r q
mag_same (mag_bad n) (mag_bad m) = same
mag_same (mag_bad not_end) (mag_in_tail z k) = elim z [ ]
mag_same (mag_in_tail z h) (mag_bad not_end) = elim z [ ]
mag_same (mag_bad (not_head n)) (mag_in_tail to_int_zero k) = absurd (n (omega arith))
mag_same (mag_bad (not_head n)) (mag_in_tail (to_int_more d y z) k) = absurd (n (omega arith))
mag_same (mag_in_tail to_int_zero h) (mag_bad (not_head m)) = absurd (m (omega arith))
mag_same (mag_in_tail (to_int_more d y z) h) (mag_bad (not_head m)) = absurd (m (omega arith))
mag_same (mag_in_tail y h) (mag_in_tail z k) = tail_same h (rw (← (int_unique y z).1) at k)

-- a scalar breaks off at one place
scalar_same : {w r q : List ℕ} {f g : Fault} → NoScalar w f r → NoScalar w g q → Same f g r q
scalar_same (sc_bad n) (sc_bad m) = same
scalar_same (sc_bad (not_head n)) (sc_in_null k) = absurd (n starts_null)
scalar_same (sc_bad (not_head n)) (sc_in_true k) = absurd (n starts_true)
scalar_same (sc_bad (not_head n)) (sc_in_false k) = absurd (n starts_false)
scalar_same (sc_bad (not_head n)) (sc_in_number d k) = absurd (n (starts_number d))
scalar_same (sc_bad (not_head n)) (sc_in_minus k) = absurd (n starts_minus)
scalar_same (sc_bad (not_head n)) (sc_in_string k) = absurd (n starts_string)
scalar_same (sc_in_null h) (sc_bad (not_head m)) = absurd (m starts_null)
scalar_same (sc_in_null h) (sc_in_null k) = lit_same h k
scalar_same (sc_in_null h) (sc_in_number d k) = absurd (omega arith)
scalar_same (sc_in_true h) (sc_bad (not_head m)) = absurd (m starts_true)
scalar_same (sc_in_true h) (sc_in_true k) = lit_same h k
scalar_same (sc_in_true h) (sc_in_number d k) = absurd (omega arith)
scalar_same (sc_in_false h) (sc_bad (not_head m)) = absurd (m starts_false)
scalar_same (sc_in_false h) (sc_in_false k) = lit_same h k
scalar_same (sc_in_false h) (sc_in_number d k) = absurd (omega arith)
scalar_same (sc_in_number d h) (sc_bad (not_head m)) = absurd (m (starts_number d))
scalar_same (sc_in_number d h) (sc_in_null k) = absurd (omega arith)
scalar_same (sc_in_number d h) (sc_in_true k) = absurd (omega arith)
scalar_same (sc_in_number d h) (sc_in_false k) = absurd (omega arith)
scalar_same (sc_in_number d h) (sc_in_number e k) = mag_same h k
scalar_same (sc_in_number d h) (sc_in_minus k) = absurd (omega arith)
scalar_same (sc_in_number d h) (sc_in_string k) = absurd (omega arith)
scalar_same (sc_in_minus h) (sc_bad (not_head m)) = absurd (m starts_minus)
scalar_same (sc_in_minus h) (sc_in_number d k) = absurd (omega arith)
scalar_same (sc_in_minus h) (sc_in_minus k) = mag_same h k
scalar_same (sc_in_string h) (sc_bad (not_head m)) = absurd (m starts_string)
scalar_same (sc_in_string h) (sc_in_number d k) = absurd (omega arith)
scalar_same (sc_in_string h) (sc_in_string k) = chars_same h k

-- a member's name breaks off at one place
pub name_same : {w r q : List ℕ} {f g : Fault} → NoName w f r → NoName w g q → Same f g r q
name_same (name_bad n) (name_bad m) = same
name_same (name_bad (not_head n)) (name_in k) = absurd (n is)
name_same (name_bad (not_head n)) (name_after c x y z) = absurd (n is)
name_same (name_in h) (name_bad (not_head m)) = absurd (m is)
name_same (name_in h) (name_in k) = chars_same h k
name_same (name_in h) (name_after c x y z) = absurd (no_chars h c)
name_same (name_after c x y z) (name_bad (not_head m)) = absurd (m is)
name_same (name_after c x y z) (name_in k) = absurd (no_chars k c)
name_same (name_after c x y z) (name_after c' x' y' z') = at (ws_unique x y (rw (← (chars_unique c c').1) at x') y')

-- no value of so few levels stands where a scan with so many levels broke off
pub within : {f : Fault} {n d : ℕ} → Wrong f n d → d ≤ n → ⊥
within (deeper h) l = lt_irrefl _ (lt_of_lt_of_le h l)

mutual
  -- a value breaks off at one place
  pub value_same : {n : ℕ} {w r q : List ℕ} {f g : Fault} → NoValue n w f r → NoValue n w g q → Same f g r q
  value_same (val_in_scalar x y h) (val_in_scalar x' y' k) = scalar_same h k
  value_same (val_in_scalar x y h) val_deep_array = absurd (not_is x refl)
  value_same (val_in_scalar x y h) val_deep_object = absurd (not_is y refl)
  value_same (val_in_scalar x y h) (val_in_array a b c k) = absurd (not_is x refl)
  value_same (val_in_scalar x y h) (val_in_object a b c k) = absurd (not_is y refl)
  value_same val_deep_array (val_in_scalar x y k) = absurd (not_is x refl)
  value_same val_deep_array val_deep_array = record { kind = refl; place = refl }
  value_same val_deep_object (val_in_scalar x y k) = absurd (not_is y refl)
  value_same val_deep_object val_deep_object = record { kind = refl; place = refl }
  value_same (val_in_array a b c h) (val_in_scalar x y k) = absurd (not_is x refl)
  value_same (val_in_array a b c h) (val_in_array a' b' c' k) = elements_same h (rw (← ws_unique a b a' b') at k)
  value_same (val_in_object a b c h) (val_in_scalar x y k) = absurd (not_is y refl)
  value_same (val_in_object a b c h) (val_in_object a' b' c' k) = members_same h (rw (← ws_unique a b a' b') at k)

  -- an array's elements breaks off at one place
  elements_same : {n : ℕ} {w r q : List ℕ} {f g : Fault} → NoElements n w f r → NoElements n w g q → Same f g r q
  elements_same (elem_in h) (elem_in k) = value_same h k
  elements_same (elem_in h) (elem_after v s l a z) = absurd (within (no_value h v s) l)
  elements_same (elem_in h) (elem_on v s l a b c k) = absurd (within (no_value h v s) l)
  elements_same (elem_after v s l a z) (elem_in k) = absurd (within (no_value k v s) l)
  elements_same (elem_after v s l a z) (elem_after v' s' l' a' z') =
      at (ws_unique a (follows_no_ws z) (rw (← (value_unique v s v' s').1) at a') (follows_no_ws z'))
  elements_same (elem_after v s l a z) (elem_on v' s' l' a' b' c' k) =
      absurd
      (not_comma z (ws_unique a (follows_no_ws z) (rw (← (value_unique v s v' s').1) at a') (solid 0x2c (omega arith))))
  elements_same (elem_on v s l a b c h) (elem_in k) = absurd (within (no_value k v s) l)
  elements_same (elem_on v s l a b c h) (elem_after v' s' l' a' z') =
      absurd
      (not_comma z' (ws_unique a' (follows_no_ws z') (rw (value_unique v s v' s').1 at a) (solid 0x2c (omega arith))))
  elements_same (elem_on v s l a b c h) (elem_on v' s' l' a' b' c' k) =
      let e = same_comma a (rw (← (value_unique v s v' s').1) at a') in
      elements_same h (rw (← ws_unique b c (rw (← e) at b') c') at k)

  -- a member breaks off at one place
  member_same : {n : ℕ} {w r q : List ℕ} {f g : Fault} → NoMember n w f r → NoMember n w g q → Same f g r q
  member_same (member_in_name h) (member_in_name k) = name_same h k
  member_same (member_in_name h) (member_in_value x y k) = absurd (no_name h x)
  member_same (member_in_value x y h) (member_in_name k) = absurd (no_name k x)
  member_same (member_in_value x y h) (member_in_value x' y' k) = value_same h (rw (← (name_unique x y x' y').1) at k)

  -- an object's members breaks off at one place
  members_same : {n : ℕ} {w r q : List ℕ} {f g : Fault} → NoMembers n w f r → NoMembers n w g q → Same f g r q
  members_same (mem_in h) (mem_in k) = member_same h k
  members_same (mem_in h) (mem_after v s l a z) = absurd (within (no_member h v s) l)
  members_same (mem_in h) (mem_on v s l a b c k) = absurd (within (no_member h v s) l)
  members_same (mem_after v s l a z) (mem_in k) = absurd (within (no_member k v s) l)
  members_same (mem_after v s l a z) (mem_after v' s' l' a' z') =
      at (ws_unique a (follows_no_ws z) (rw (← (member_unique v s v' s').2) at a') (follows_no_ws z'))
  members_same (mem_after v s l a z) (mem_on v' s' l' a' b' c' k) =
      absurd
      (not_comma z (ws_unique a (follows_no_ws z) (rw (← (member_unique v s v' s').2) at a') (solid 0x2c (omega arith))))
  members_same (mem_on v s l a b c h) (mem_in k) = absurd (within (no_member k v s) l)
  members_same (mem_on v s l a b c h) (mem_after v' s' l' a' z') =
      absurd
      (not_comma z' (ws_unique a' (follows_no_ws z') (rw (member_unique v s v' s').2 at a) (solid 0x2c (omega arith))))
  members_same (mem_on v s l a b c h) (mem_on v' s' l' a' b' c' k) =
      let e = same_comma a (rw (← (member_unique v s v' s').2) at a') in
      members_same h (rw (← ws_unique b c (rw (← e) at b') c') at k)

-- a text that cannot be read breaks off at one place
pub text_same : {n : ℕ} {w r q : List ℕ} {f g : Fault} → NoText n w f r → NoText n w g q → Same f g r q
text_same (text_in a b h) (text_in a' b' k) = value_same h (rw (← ws_unique a b a' b') at k)
text_same (text_in a b h) (text_after a' v s l c d e) =
    absurd (within (no_value h (rw (← ws_unique a b a' (value_no_ws v)) at v) s) l)
text_same (text_after a v s l c d e) (text_in a' b' k) =
    absurd (within (no_value k (rw (← ws_unique a' b' a (value_no_ws v)) at v) s) l)
text_same (text_after a v s l c d e) (text_after a' v' s' l' c' d' e') =
    let i = ws_unique a (value_no_ws v) a' (value_no_ws v') in
    at (ws_unique c d (rw (← (value_unique v s (rw (← i) at v') s').1) at c') d')
