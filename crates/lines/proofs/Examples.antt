-- Worked examples: the lines of document 01, by their bytes. Assumes nothing.
use mathlib.Core.Path.{◌≡◌, refl}
use mathlib.Core.List.{[], ◌∷◌}
use native.Mathlib.Omega.{arith}
use lib.Dec.{lit<, lit≤}
use lib.ListN.{length}
use Rattle.lines.specs.Decimal.{digits_of, decimal_of}
use Rattle.lines.specs.Report.{field, verdict_line, counts_line, report_of, longest}
use Rattle.lines.proofs.Digits.{width_small, width_large}
use Rattle.lines.proofs.Texts.{length-accepted}

-- C1: `verdict 0 item 0`, and `views 0 accessors 0 nodes 0 scenes 0`
pub c1_report : report_of 0 0 0 0 0 0
    ≡ 118 ∷ 101 ∷ 114 ∷ 100 ∷ 105 ∷ 99 ∷ 116 ∷ 32 ∷ 48 ∷ 32 ∷ 105 ∷ 116 ∷ 101 ∷ 109 ∷ 32 ∷ 48 ∷ 10 ∷ 118 ∷ 105 ∷ 101 ∷ 119 ∷ 115 ∷ 32 ∷ 48 ∷ 32 ∷ 97 ∷ 99 ∷ 99 ∷ 101 ∷ 115 ∷ 115 ∷ 111 ∷ 114 ∷ 115 ∷ 32 ∷ 48 ∷ 32 ∷ 110 ∷ 111 ∷ 100 ∷ 101 ∷ 115 ∷ 32 ∷ 48 ∷ 32 ∷ 115 ∷ 99 ∷ 101 ∷ 110 ∷ 101 ∷ 115 ∷ 32 ∷ 48 ∷ 10 ∷ []
unfolding report_of verdict_line counts_line field decimal_of digits_of
c1_report = refl

-- C9, a refusal with its item: `verdict 42 item 2`
pub c9_report : report_of 42 2 0 0 0 0 ≡ 118 ∷ 101 ∷ 114 ∷ 100 ∷ 105 ∷ 99 ∷ 116 ∷ 32 ∷ 52 ∷ 50 ∷ 32 ∷ 105 ∷ 116 ∷ 101 ∷ 109 ∷ 32 ∷ 50 ∷ 10 ∷ []
unfolding report_of verdict_line counts_line field decimal_of digits_of
c9_report = refl

-- counts of two and three digits, zeros among them: `views 64 accessors 128 nodes 105 scenes 8`
pub counts_report : report_of 0 0 64 128 105 8
    ≡ 118 ∷ 101 ∷ 114 ∷ 100 ∷ 105 ∷ 99 ∷ 116 ∷ 32 ∷ 48 ∷ 32 ∷ 105 ∷ 116 ∷ 101 ∷ 109 ∷ 32 ∷ 48 ∷ 10 ∷ 118 ∷ 105 ∷ 101 ∷ 119 ∷ 115 ∷ 32 ∷ 54 ∷ 52 ∷ 32 ∷ 97 ∷ 99 ∷ 99 ∷ 101 ∷ 115 ∷ 115 ∷ 111 ∷ 114 ∷ 115 ∷ 32 ∷ 49 ∷ 50 ∷ 56 ∷ 32 ∷ 110 ∷ 111 ∷ 100 ∷ 101 ∷ 115 ∷ 32 ∷ 49 ∷ 48 ∷ 53 ∷ 32 ∷ 115 ∷ 99 ∷ 101 ∷ 110 ∷ 101 ∷ 115 ∷ 32 ∷ 56 ∷ 10 ∷ []
unfolding report_of verdict_line counts_line field decimal_of digits_of
counts_report = refl

-- the largest u32 has ten digits
ten_digits : length (decimal_of 4294967295) ≡ 10
ten_digits =
    omega (
      arith,
      width_large 4294967295 (lit≤ tt),
      width_large 429496729 (lit≤ tt),
      width_large 42949672 (lit≤ tt),
      width_large 4294967 (lit≤ tt),
      width_large 429496 (lit≤ tt),
      width_large 42949 (lit≤ tt),
      width_large 4294 (lit≤ tt),
      width_large 429 (lit≤ tt),
      width_large 42 (lit≤ tt),
      width_small 4 (lit< tt),
    )

-- a report that is as long as the longest
pub longest_report : length (report_of 0 4294967295 4294967295 4294967295 4294967295 4294967295) ≡ longest
longest_report = omega (arith, length-accepted 0 4294967295 4294967295 4294967295 4294967295 4294967295 refl, width_small 0 (lit< tt), ten_digits)
