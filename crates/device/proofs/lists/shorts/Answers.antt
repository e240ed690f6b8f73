-- Where wide_index_cut_to_16_bits plants, `omega arith` takes the value from the facts, so that a wrong one is refused by what it says.
use Prim.Native.Nat.{◌+◌, ◌*◌, ◌<◌}
use mathlib.Core.Path.{◌≡◌, sym, ◌∙◌}
use native.Mathlib.Omega.{arith}
use lib.ListN.{length}
use Rattle.device.specs.Words.{short}
use Rattle.device.proofs.Entries.{filled_none, filled_more, filled_all}
use Rattle.device.proofs.Walks.{within}
use Rattle.device.proofs.lists.shorts.Goals as goal
use Rattle.device.proofs.lists.shorts.Goals.{In-loop-i}

pub loop-i-init : goal.loop-i-init
loop-i-init c = sym (filled_none _ _)

-- the word of entry i is one of the 4,000
below : (c : In-loop-i)
    → (let a = c.args in a.from + a.step * c.loop-i.i < 4000)
below c =
    within c.args.from c.args.step c.loop-i.i (length c.args.out.now) c.requires.0 (omega arith) c.requires.1

pub overflow_mul-step : goal.overflow_mul-step
overflow_mul-step c = omega (arith, below (goal.at.overflow_mul-step c).In-loop-i)

pub overflow_add-from : goal.overflow_add-from
overflow_add-from c = omega (arith, below (goal.at.overflow_add-from c).In-loop-i)

pub offset_bounds-words-from : goal.offset_bounds-words-from
offset_bounds-words-from c = omega (arith, below (goal.at.offset_bounds-words-from c).In-loop-i)

pub bounds-words-from : goal.bounds-words-from
bounds-words-from c = below (goal.at.bounds-words-from c).In-loop-i

pub loop-i-preserved : goal.loop-i-preserved
loop-i-preserved c =
    let l = c.loop-i in
    let a = c.args in
    let e : c.min.result ≡ short a.words.now (a.from + a.step * l.i) = omega arith in
    rw (l.invariant, e)
    (filled_more (λ k. short a.words.now (a.from + a.step * k)) a.out.now l.i (omega arith))

pub returns : goal.returns
returns c =
    let l = c.loop-i in
    l.invariant ∙ filled_all _ _ l.i (omega arith)
