-- `json_text::places::clamp` meets its contract.
-- Assumes nothing.
use native.Mathlib.Omega.{arith}
use lib.ListN.{length, drop_of_length-le}
use Rattle.json_text.proofs.places.clamp.Goals as goal

pub returns-else-at-s : goal.returns-else-at-s
returns-else-at-s c =
    let a = c.args in
    record {
      within = omega arith;
      same =
          rw (
            drop_of_length-le a.s.now {i = a.at} (omega arith),
            drop_of_length-le a.s.now {i = length a.s.now} (omega arith),
          );
    }
