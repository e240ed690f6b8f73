-- `json_text::token::peek` meets its contract.
-- Assumes nothing.
use Rattle.std.proofs.Common.{ℕ, ◌<◌, ◌≤◌, List, length, get_or, drop-cons, add-one, drop_of_length-le, arith}
use Rattle.std.specs.Prelude.{Option, Some, None}
use Rattle.std.specs.Option.{option_copied}
use Rattle.std.specs.Slice.{IsItemAt}
use denote.Ref.{Bor}
use Rattle.json_text.specs.Results.{code}
use Rattle.json_text.specs.Scans.{Peeks}
use Rattle.json_text.specs.Scans.Peeks.{peeks_end, peeks_byte}
use Rattle.json_text.proofs.token.peek.Goals as goal

-- the element at a place, if there is one
found : (s : List ℕ) (at : ℕ) (o : Option (Bor ℕ)) → IsItemAt s at o → at ≤ length s → get_or s at 0 < 256 →
    Peeks s at (code (option_copied o))
found s at None h l b = peeks_end (omega (arith, h.3)) (drop_of_length-le s {i = at} h.3)
found s at (Some x) h l b =
    let l : at < length s = h.3.0 in
    rw (h.3.1 0) (peeks_byte l b (rw (add-one, drop-cons s at 0)))

pub returns : goal.returns
returns c =
    let a = c.args in
    rw c.copied.ensures
    (found a.s.now a.at c.get.result c.get.ensures.lookup c.requires (omega (arith, c.type_inv.s a.at)))
