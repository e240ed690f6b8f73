-- A string is spelled as the grammar reads it.
-- Assumes nothing.
use Prim.Native.Nat.{ℕ}
use native.Mathlib.Omega.{arith}
use mathlib.Core.Path.{◌≡◌, refl, ap, ◌∙◌}
use mathlib.Core.Bool.{true}
use mathlib.Core.List.{List, ◌∷◌, ◌++◌}
use borrow.Author.Tests.{ne_eqb}
use lib.ListN.{take}
use Rattle.json_text.specs.Grammar.{HexDigit, Hex, Escape, Chars}
use Rattle.json_text.specs.Grammar.HexDigit.{hex_digit, hex_upper, hex_lower}
use Rattle.json_text.specs.Grammar.Hex.{hex_none, hex_more}
use Rattle.json_text.specs.Grammar.Escape.{esc_byte, esc_hex}
use Rattle.json_text.specs.Grammar.Chars.{chars_close, chars_plain, chars_escape}
use Rattle.json_text.specs.Strings.{to_close}
use Rattle.names.specs.Strings.{spelled}

-- hexadecimal digits are neither mark nor backslash
hex_spelled : {n : ℕ} {w ds r : List ℕ} → Hex n w ds r → spelled w ≡ ds ++ spelled r
unfolding to_close
hex_spelled hex_none = refl
hex_spelled (hex_more {d = d} y h) =
    let f = hex_not y in
    rw (ne_eqb d 0x22 f.0, ne_eqb d 0x5c f.1, hex_spelled h) where
      hex_not : {b : ℕ} → HexDigit b → (b ≡ 0x22 → ⊥) × (b ≡ 0x5c → ⊥)
      hex_not (hex_digit l u) = (λ e. omega arith, λ e. omega arith)
      hex_not (hex_upper l u) = (λ e. omega arith, λ e. omega arith)
      hex_not (hex_lower l u) = (λ e. omega arith, λ e. omega arith)

-- the byte behind a backslash is hidden
escape_spelled : {w es r : List ℕ} → Escape w es r → take (to_close true w) w ≡ es ++ spelled r
unfolding to_close
escape_spelled (esc_byte e) = refl
escape_spelled (esc_hex h) = ap (λ (x : List ℕ). 0x75 ∷ x) (hex_spelled h)

-- the characters are those of the grammar
pub chars_spelled : {w k r : List ℕ} → Chars w k r → spelled w ≡ k
unfolding to_close
chars_spelled chars_close = refl
chars_spelled (chars_plain {b = b} y h) = rw (ne_eqb b 0x22 y.2, ne_eqb b 0x5c y.3, chars_spelled h)
chars_spelled (chars_escape e h) = ap (λ (x : List ℕ). 0x5c ∷ x) (escape_spelled e ∙ rw (chars_spelled h))
