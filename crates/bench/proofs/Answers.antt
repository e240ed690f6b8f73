-- The answer to an input, by its length, and a text that had room. Assumes nothing.
use Prim.Native.Nat.{ℕ, ◌≤◌, ◌<◌}
use mathlib.Core.Path.{◌≡◌, ap, ◌∙◌}
use mathlib.Core.List.{List, ◌++◌}
use lib.ListN.{length, drop}
use borrow.Author.Tests.{lt-ltb, le-ltb}
use Rattle.std.specs.Prelude.{Option}
use Rattle.std.specs.Option.{unwrap_or}
use Rattle.glb.specs.Check.{check_of}
use Rattle.lines.specs.Report.{too_long, written_in}
use Rattle.lines.specs.Results.{placed_in}
use Rattle.lines.proofs.Exact.{room_written, room_placed}
use Rattle.bench.specs.Bench.{lines_of, answer_of}

-- too long an input
pub answer_long : (input : List ℕ) → 65536 < length input → answer_of input ≡ too_long
unfolding answer_of
answer_long input h = rw (lt-ltb 65536 (length input) h)

-- an input that is checked
pub answer_checked : (input : List ℕ) → length input ≤ 65536 → answer_of input ≡ lines_of (check_of input)
unfolding answer_of
answer_checked input h = rw (le-ltb 65536 (length input) h)

-- what was written into a list with room is the answer
pub answered : {answer text : List ℕ} (list : List ℕ) {r : ℕ} {o : Option ℕ} {after : List ℕ}
    → answer ≡ text → length text ≤ length list → r ≡ unwrap_or o 0 → o ≡ placed_in text list → after ≡ written_in text list
    → (r ≡ length answer) × (after ≡ answer ++ drop (length answer) list)
answered {answer} {text} list e h f p q =
    let w = room_written text list h in
    rw e (f ∙ ap (λ (x : Option ℕ). unwrap_or x 0) (p ∙ room_placed text list h), q ∙ w.1)
