-- What follows a part is shorter than the part with it.
-- Assumes nothing.
use Rattle.std.specs.Prelude.{ℕ, ◌≤◌, ◌<◌, List, length}
use Rattle.std.proofs.Common.{arith}
use Rattle.json_text.specs.Tree.{Json, Values, Fields}
use Rattle.json_text.specs.Grammar.{Ws, Lit, Digits, Int, Some, Frac, Exp, Magnitude, Number, Hex, Escape, Chars}
use Rattle.json_text.specs.Grammar.{Scalar, Name, Value, Elements, Member, Members}
use Rattle.json_text.specs.Grammar.Ws.{ws_none, ws_more}
use Rattle.json_text.specs.Grammar.Lit.{lit_none, lit_more}
use Rattle.json_text.specs.Grammar.Digits.{digits_none, digits_more}
use Rattle.json_text.specs.Grammar.Int.{int_zero, int_more}
use Rattle.json_text.specs.Grammar.Some.{some}
use Rattle.json_text.specs.Grammar.Frac.{frac_none, frac_some}
use Rattle.json_text.specs.Grammar.Exp.{exp_none, exp_plain, exp_signed}
use Rattle.json_text.specs.Grammar.Magnitude.{magnitude}
use Rattle.json_text.specs.Grammar.Number.{num_plain, num_minus}
use Rattle.json_text.specs.Grammar.Chars.{chars_close, chars_plain, chars_escape}
use Rattle.json_text.specs.Grammar.Scalar.{sc_null, sc_true, sc_false, sc_number, sc_string}
use Rattle.json_text.specs.Grammar.Name.{name}
use Rattle.json_text.specs.Grammar.Value.{val_scalar, val_array0, val_array, val_object0, val_object}
use Rattle.json_text.specs.Grammar.Elements.{elem_last, elem_more}
use Rattle.json_text.specs.Grammar.Member.{member}
use Rattle.json_text.specs.Grammar.Members.{mem_last, mem_more}
use Rattle.json_text.specs.Grammar.Hex.{hex_none, hex_more}
use Rattle.json_text.specs.Grammar.Escape.{esc_byte, esc_hex}

-- what follows a run of hexadecimal digits is no longer
pub hex_shorter : {n : ℕ} {w ds r : List ℕ} → Hex n w ds r → length r ≤ length w
hex_shorter hex_none = omega arith
hex_shorter (hex_more d h) = let l = hex_shorter h in omega arith

-- what follows an escape is shorter
pub escape_shorter : {w es r : List ℕ} → Escape w es r → length r < length w
escape_shorter (esc_byte e) = omega arith
escape_shorter (esc_hex h) = let l = hex_shorter h in omega arith

-- what follows white space is no longer
pub ws_shorter : {w r : List ℕ} → Ws w r → length r ≤ length w
ws_shorter ws_none = omega arith
ws_shorter (ws_more b h) = let l = ws_shorter h in omega arith

-- what follows a literal word is no longer
pub lit_shorter : {ks w r : List ℕ} → Lit ks w r → length r ≤ length w
lit_shorter lit_none = omega arith
lit_shorter (lit_more h) = let l = lit_shorter h in omega arith

-- what follows a run of digits is no longer
pub digits_shorter : {w ds r : List ℕ} → Digits w ds r → length r ≤ length w
digits_shorter digits_none = omega arith
digits_shorter (digits_more d h) = let l = digits_shorter h in omega arith

-- what follows an integer part is shorter
int_shorter : {w ds r : List ℕ} → Int w ds r → length r < length w
int_shorter int_zero = omega arith
int_shorter (int_more d h) = let l = digits_shorter h in omega arith

-- what follows one digit or more is shorter
some_shorter : {w ds r : List ℕ} → Some w ds r → length r < length w
some_shorter (some d h) = let l = digits_shorter h in omega arith

-- what follows a fraction is no longer
frac_shorter : {w ds r : List ℕ} → Frac w ds r → length r ≤ length w
frac_shorter frac_none = omega arith
frac_shorter (frac_some h) = let l = some_shorter h in omega arith

-- what follows an exponent is no longer
exp_shorter : {w ds r : List ℕ} → Exp w ds r → length r ≤ length w
exp_shorter exp_none = omega arith
exp_shorter (exp_plain e h) = let l = some_shorter h in omega arith
exp_shorter (exp_signed e i h) = let l = some_shorter h in omega arith

-- what follows a number without its sign is shorter
mag_shorter : {w ds r : List ℕ} → Magnitude w ds r → length r < length w
mag_shorter (magnitude i f e) = let k = int_shorter i in let l = frac_shorter f in let m = exp_shorter e in omega arith

-- what follows a number is shorter
pub number_shorter : {w ds r : List ℕ} → Number w ds r → length r < length w
number_shorter (num_plain h) = mag_shorter h
number_shorter (num_minus h) = let l = mag_shorter h in omega arith

-- what follows the rest of a string is shorter
pub chars_shorter : {w cs r : List ℕ} → Chars w cs r → length r < length w
chars_shorter chars_close = omega arith
chars_shorter (chars_plain p h) = let l = chars_shorter h in omega arith
chars_shorter (chars_escape e h) = let k = escape_shorter e in let l = chars_shorter h in omega arith

-- what follows a scalar is shorter
pub scalar_shorter : {w r : List ℕ} {j : Json} → Scalar w j r → length r < length w
scalar_shorter (sc_null h) = let l = lit_shorter h in omega arith
scalar_shorter (sc_true h) = let l = lit_shorter h in omega arith
scalar_shorter (sc_false h) = let l = lit_shorter h in omega arith
scalar_shorter (sc_number h) = number_shorter h
scalar_shorter (sc_string h) = let l = chars_shorter h in omega arith

-- what follows a member's name is shorter
pub name_shorter : {w k r : List ℕ} → Name w k r → length r < length w
name_shorter (name h a b) = let l = chars_shorter h in let k = ws_shorter a in let m = ws_shorter b in omega arith

mutual
  -- what follows a value is shorter
  pub value_shorter : {w r : List ℕ} {j : Json} → Value w j r → length r < length w
  value_shorter (val_scalar h) = scalar_shorter h
  value_shorter (val_array0 a) = let k = ws_shorter a in omega arith
  value_shorter (val_array a h) = let k = ws_shorter a in let l = elements_shorter h in omega arith
  value_shorter (val_object0 a) = let k = ws_shorter a in omega arith
  value_shorter (val_object a h) = let k = ws_shorter a in let l = members_shorter h in omega arith

  -- what follows an array's elements is shorter
  elements_shorter : {w r : List ℕ} {js : Values} → Elements w js r → length r < length w
  elements_shorter (elem_last v a) = let k = ws_shorter a in let l = value_shorter v in omega arith
  elements_shorter (elem_more v a b h) =
      let k = ws_shorter a in
      let m = ws_shorter b in let l = value_shorter v in let n = elements_shorter h in omega arith

  -- what follows a member is shorter
  pub member_shorter : {w k r : List ℕ} {j : Json} → Member w k j r → length r < length w
  member_shorter (member n v) = let k = name_shorter n in let l = value_shorter v in omega arith

  -- what follows an object's members is shorter
  members_shorter : {w r : List ℕ} {ms : Fields} → Members w ms r → length r < length w
  members_shorter (mem_last v a) = let k = ws_shorter a in let l = member_shorter v in omega arith
  members_shorter (mem_more v a b h) =
      let k = ws_shorter a in
      let m = ws_shorter b in let l = member_shorter v in let n = members_shorter h in omega arith
