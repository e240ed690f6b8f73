-- The machine over white space, numbers, words and strings: nothing but the mode changes.
-- Assumes nothing.
use Prim.Native.Nat.{ℕ}
use native.Mathlib.Omega.{arith}
use mathlib.Core.Path.{◌≡◌, refl, ap, ◌∙◌}
use mathlib.Core.Bool.{false}
use mathlib.Core.List.{List, [], ◌∷◌}
use borrow.Author.Tests.{ne_eqb}
use lib.Dec.{eqb}
use Rattle.json_text.specs.Depth.{Mode, kind, turn}
use Rattle.json_text.specs.Depth.Mode.{outside, inside, hidden}
use Rattle.json_text.specs.Depth.Kind.{code}
use Rattle.json_text.specs.Depth.Bracket.{neither}
use Rattle.json_text.specs.Grammar.{Ws, Lit, Digit, Digits, Int, Some, Frac, IsE, IsSign, Exp, Magnitude, Number}
use Rattle.json_text.specs.Grammar.{HexDigit, Hex, Escape, Chars}
use Rattle.json_text.specs.Grammar.IsWs.{space, tab, line, return}
use Rattle.json_text.specs.Grammar.Ws.{ws_none, ws_more}
use Rattle.json_text.specs.Grammar.Lit.{lit_none, lit_more}
use Rattle.json_text.specs.Grammar.Digits.{digits_none, digits_more}
use Rattle.json_text.specs.Grammar.Int.{int_zero, int_more}
use Rattle.json_text.specs.Grammar.Some.{some}
use Rattle.json_text.specs.Grammar.Frac.{frac_none, frac_some}
use Rattle.json_text.specs.Grammar.IsE.{small, capital}
use Rattle.json_text.specs.Grammar.IsSign.{plus, minus}
use Rattle.json_text.specs.Grammar.Exp.{exp_none, exp_plain, exp_signed}
use Rattle.json_text.specs.Grammar.Magnitude.{magnitude}
use Rattle.json_text.specs.Grammar.Number.{num_plain, num_minus}
use Rattle.json_text.specs.Grammar.HexDigit.{hex_digit, hex_upper, hex_lower}
use Rattle.json_text.specs.Grammar.Hex.{hex_none, hex_more}
use Rattle.json_text.specs.Grammar.Escape.{esc_byte, esc_hex}
use Rattle.json_text.specs.Grammar.Chars.{chars_close, chars_plain, chars_escape}
use Rattle.names.specs.declared.Search.{Search}
use Rattle.names.specs.Order.{Names}
use Rattle.names.specs.Names.{Plan, State, step, run}
use Rattle.names.specs.Names.State.{going}
use Rattle.names.proofs.Runs.{says}

-- what a search holds: its plan and input, the last string, the pairs, the names
pub record Held : Type 0 where
  pub plan : Plan
  pub s : List ℕ
  pub l : List ℕ
  pub n : List ℕ
  pub p : ℕ
  pub c : Names
  pub o : List Names

-- the answer of a search that holds x, from a mode and what is left
abbrev pub told : Held → Mode → List ℕ → Search
told x m w = says x.plan x.s (going m x.l x.n x.p x.c x.o) w

-- from the mode m at w to k at r nothing else changes
pub record Along (x : Held) (m : Mode) (w : List ℕ) (k : Mode) (r : List ℕ) : Type 0 where
  pub same : told x m w ≡ told x k r

-- nothing read, and one part behind another
here : {x : Held} {m : Mode} {w : List ℕ} → Along x m w m w
here = record { same = refl }

pub ◌then◌ : {x : Held} {m n k : Mode} {w v r : List ℕ} → Along x m w n v → Along x n v k r → Along x m w k r
◌then◌ a b = record { same = a.same ∙ b.same }

infixr 40 ◌then◌
-- bytes that stand for nothing outside strings
abbrev pub Still : ℕ → Type 0
Still b = (kind b ≡ code neither) × (eqb b 0x3a ≡ false)

-- they change nothing
pub quiet : {x : Held} {b : ℕ} {w : List ℕ} → Still b → Along x outside (b ∷ w) outside w
unfolding run
quiet {x = x} {b = b} {w = w} e =
    let t = going outside x.l x.n x.p x.c x.o in
    let k : step x.plan b w t ≡ t = rw (e.0, e.1) in
    record { same = ap (λ (t : State). says x.plan x.s t w) k }

-- inside a string any byte but a mark and a backslash changes nothing
hushed : {x : Held} {b : ℕ} {w : List ℕ} → (b ≡ 0x22 → ⊥) → (b ≡ 0x5c → ⊥) → Along x inside (b ∷ w) inside w
unfolding run
hushed {x = x} {b = b} {w = w} f g =
    let k : turn inside (kind b) ≡ inside = rw (ne_eqb b 0x22 f, ne_eqb b 0x5c g) in
    record { same = ap (λ (m : Mode). told x m w) k }

-- the mark that closes a string, a backslash in it, and the byte that this hides
close_byte : {x : Held} {w : List ℕ} → Along x inside (0x22 ∷ w) outside w
unfolding run
close_byte = record { same = refl }

slash_byte : {x : Held} {w : List ℕ} → Along x inside (0x5c ∷ w) hidden w
unfolding run
slash_byte = record { same = refl }

hidden_byte : {x : Held} (b : ℕ) {w : List ℕ} → Along x hidden (b ∷ w) inside w
unfolding run
hidden_byte b = record { same = refl }

-- a digit is one of them
digit_quiet : {b : ℕ} → Digit b → Still b
digit_quiet {b = b} y = (
  simp (
    ne_eqb b 0x22 (omega arith),
    ne_eqb b 0x5c (omega arith),
    ne_eqb b 0x5b (omega arith),
    ne_eqb b 0x7b (omega arith),
    ne_eqb b 0x5d (omega arith),
    ne_eqb b 0x7d (omega arith),
  ),
  ne_eqb b 0x3a (λ e. omega arith),
)

-- white space
pub ws_along : {w r : List ℕ} {x : Held} → Ws w r → Along x outside w outside r
ws_along ws_none = here
ws_along (ws_more space h) = quiet (refl, refl) then ws_along h
ws_along (ws_more tab h) = quiet (refl, refl) then ws_along h
ws_along (ws_more line h) = quiet (refl, refl) then ws_along h
ws_along (ws_more return h) = quiet (refl, refl) then ws_along h

-- words of such bytes
pub data Quiet : List ℕ → Type 0 where
  quiet_none : Quiet []
  quiet_more : {k : ℕ} {ks : List ℕ} → Still k → Quiet ks → Quiet (k ∷ ks)

pub quiet3 : {a b c : ℕ} → Still a → Still b → Still c → Quiet (a ∷ b ∷ c ∷ [])
quiet3 e f g = quiet_more e (quiet_more f (quiet_more g quiet_none))

lit_along : {ks w r : List ℕ} {x : Held} → Quiet ks → Lit ks w r → Along x outside w outside r
lit_along quiet_none lit_none = here
lit_along (quiet_more e q) (lit_more h) = quiet e then lit_along q h

-- a word, its first byte apart
pub word_along : {k : ℕ} {ks w r : List ℕ} {x : Held} → Still k → Quiet ks → Lit ks w r
    → Along x outside (k ∷ w) outside r
word_along e q h = quiet e then lit_along q h

-- the parts of a number
digits_along : {w ds r : List ℕ} {x : Held} → Digits w ds r → Along x outside w outside r
digits_along digits_none = here
digits_along (digits_more y h) = quiet (digit_quiet y) then digits_along h

some_along : {w ds r : List ℕ} {x : Held} → Some w ds r → Along x outside w outside r
some_along (some y h) = quiet (digit_quiet y) then digits_along h

int_along : {w ds r : List ℕ} {x : Held} → Int w ds r → Along x outside w outside r
int_along int_zero = quiet (refl, refl)
int_along (int_more {d = b} y h) = quiet (digit_quiet {b = b} (omega arith)) then digits_along h

frac_along : {w ds r : List ℕ} {x : Held} → Frac w ds r → Along x outside w outside r
frac_along frac_none = here
frac_along (frac_some h) = quiet (refl, refl) then some_along h

e_quiet : {b : ℕ} → IsE b → Still b
e_quiet small = (refl, refl)
e_quiet capital = (refl, refl)

sign_quiet : {b : ℕ} → IsSign b → Still b
sign_quiet plus = (refl, refl)
sign_quiet minus = (refl, refl)

exp_along : {w ds r : List ℕ} {x : Held} → Exp w ds r → Along x outside w outside r
exp_along exp_none = here
exp_along (exp_plain e h) = quiet (e_quiet e) then some_along h
exp_along (exp_signed e i h) = quiet (e_quiet e) then quiet (sign_quiet i) then some_along h

mag_along : {w ds r : List ℕ} {x : Held} → Magnitude w ds r → Along x outside w outside r
mag_along (magnitude i f e) = int_along i then frac_along f then exp_along e

-- a number
pub number_along : {w ds r : List ℕ} {x : Held} → Number w ds r → Along x outside w outside r
number_along (num_plain h) = mag_along h
number_along (num_minus h) = quiet (refl, refl) then mag_along h

-- the parts of a string
hex_hushed : {x : Held} {b : ℕ} {w : List ℕ} → HexDigit b → Along x inside (b ∷ w) inside w
hex_hushed (hex_digit l u) = hushed (λ e. omega arith) (λ e. omega arith)
hex_hushed (hex_upper l u) = hushed (λ e. omega arith) (λ e. omega arith)
hex_hushed (hex_lower l u) = hushed (λ e. omega arith) (λ e. omega arith)

hex_along : {n : ℕ} {w ds r : List ℕ} {x : Held} → Hex n w ds r → Along x inside w inside r
hex_along hex_none = here
hex_along (hex_more y h) = hex_hushed y then hex_along h

escape_along : {w es r : List ℕ} {x : Held} → Escape w es r → Along x hidden w inside r
escape_along (esc_byte {b = b} e) = hidden_byte b
escape_along (esc_hex h) = hidden_byte 0x75 then hex_along h

-- the characters of a string with its closing mark
pub chars_along : {w cs r : List ℕ} {x : Held} → Chars w cs r → Along x inside w outside r
chars_along chars_close = close_byte
chars_along (chars_plain p h) = hushed p.2 p.3 then chars_along h
chars_along (chars_escape e h) = slash_byte then escape_along e then chars_along h
