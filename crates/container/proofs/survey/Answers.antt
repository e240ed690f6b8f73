use Prim.Native.Nat.{◌+◌, ◌≤◌}
use mathlib.Core.Path.{◌≡◌, ◌∙◌}
use mathlib.Core.Bool.{true}
use native.Mathlib.Omega.{arith}
use lib.ListN.{length, drop}
use Rattle.container.specs.Chunks.{header_at, starts_whole}
use Rattle.container.proofs.Chunks.{whole_within}
use Rattle.container.proofs.Stages.{stage_first, stage_next, stage_last, length_at, type_at}
use Rattle.container.proofs.survey.Goals as goal
use Rattle.container.proofs.survey.Goals.{In-loop-kind}

whole : (c : In-loop-kind) → starts_whole (drop c.loop-kind.at c.args.file.now) ≡ true
whole c = rw c.is_whole.ensures at c.loop-kind-test.true

room : (c : In-loop-kind)
    → c.loop-kind.at + 8 + (header_at (drop c.loop-kind.at c.args.file.now)).chunk_length ≤ length c.args.file.now
room c = whole_within c.args.file.now c.loop-kind.at c.loop-kind.invariant.within (whole c)

pub loop-kind-init : goal.loop-kind-init
loop-kind-init c = stage_first c.args.file.now c.requires.0

pub word-kind-requires : goal.word-kind-requires
word-kind-requires c = omega (arith, room c)

pub word-requires : goal.word-requires
word-requires c = omega (arith, room (goal.at.word-requires c).In-loop-kind)

pub loop-kind-smaller : goal.loop-kind-smaller
loop-kind-smaller c = omega (arith, room (goal.at.loop-kind-smaller c).In-loop-kind, c.word.ensures)

pub loop-kind-preserved : goal.loop-kind-preserved
loop-kind-preserved c =
    let f = c.args.file.now in
    let l = c.loop-kind in
    let e = length_at f l.at l.count l.wrong_json l.wrong_bin l.invariant (whole (goal.at.loop-kind-preserved c).In-loop-kind) in
    rw (c.word.ensures, e, c.or-wrong_json.ensures, c.or-wrong_bin.ensures, c.then_some.ensures, c.then_some-in-loop-kind.ensures)
    (stage_next f l.at l.count l.wrong_json l.wrong_bin l.invariant (whole (goal.at.loop-kind-preserved c).In-loop-kind) c.word-kind.result
    (c.word-kind.ensures ∙ type_at f l.at l.count l.wrong_json l.wrong_bin l.invariant (whole (goal.at.loop-kind-preserved c).In-loop-kind)))

pub returns : goal.returns
returns c = stage_last c.args.file.now _ _ _ _ c.loop-kind.invariant (rw c.is_whole.ensures at c.loop-kind-test.false)
