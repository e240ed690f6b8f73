-- `json_text::bytes::is_hex` meets its contract.
-- Assumes nothing.
use Prim.Native.Nat.{ℕ, ◌≤◌}
use mathlib.Core.Logic.{◌⊎◌, inl, inr}
use Rattle.json_text.specs.Grammar.{HexDigit}
use Rattle.json_text.specs.Grammar.HexDigit.{hex_digit, hex_upper, hex_lower}
use Rattle.json_text.proofs.Questions.{tells_as, at_most, both, either}
use Rattle.json_text.proofs.bytes.is_hex.Goals as goal

abbrev Ranges : ℕ → Type 0
Ranges b = (((0x30 ≤ b) × (b ≤ 0x39)) ⊎ ((0x41 ≤ b) × (b ≤ 0x46))) ⊎ ((0x61 ≤ b) × (b ≤ 0x66))

to : {b : ℕ} → Ranges b → HexDigit b
to (inl (inl h)) = hex_digit h.0 h.1
to (inl (inr h)) = hex_upper h.0 h.1
to (inr h) = hex_lower h.0 h.1

from : {b : ℕ} → HexDigit b → Ranges b
from (hex_digit l u) = inl (inl (l, u))
from (hex_upper l u) = inl (inr (l, u))
from (hex_lower l u) = inr (l, u)

pub returns : goal.returns
returns c =
    rw c.is_ascii_hexdigit.ensures.value
    (tells_as to from
    (either (either (both (at_most _ _) (at_most _ _)) (both (at_most _ _) (at_most _ _)))
    (both (at_most _ _) (at_most _ _))))
