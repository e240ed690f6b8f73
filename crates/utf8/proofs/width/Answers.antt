-- `utf8::width` meets its contract.
-- Assumes nothing.
use native.Mathlib.Omega.{arith}
use Rattle.utf8.proofs.Widths.{no_byte, one_byte, no_second, two_bytes, no_third, three_bytes, no_fourth, four_bytes, no_bytes}
use Rattle.utf8.proofs.width.Goals as goal

pub returns-in_err-a : goal.returns-in_err-a
returns-in_err-a c = grind (arith, no_byte)

pub returns-then-a-le127 : goal.returns-then-a-le127
returns-then-a-le127 c = grind (arith, one_byte)

pub returns-in_err-b : goal.returns-in_err-b
returns-in_err-b c = grind (arith, no_second)

pub returns-then-starts_two : goal.returns-then-starts_two
returns-then-starts_two c = grind (arith, two_bytes)

pub returns-in_err-c : goal.returns-in_err-c
returns-in_err-c c = grind (arith, no_third)

pub returns-then-starts_three-is_tail : goal.returns-then-starts_three-is_tail
returns-then-starts_three-is_tail c = grind (arith, three_bytes)

pub returns-in_err-d : goal.returns-in_err-d
returns-in_err-d c = grind (arith, no_fourth)

pub returns-then-starts_four-is_tail : goal.returns-then-starts_four-is_tail
returns-then-starts_four-is_tail c = grind (arith, four_bytes)

pub returns : goal.returns
returns c = grind (arith, no_bytes)
