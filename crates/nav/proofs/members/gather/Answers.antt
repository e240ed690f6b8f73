-- `nav::members::gather` meets its contract.
-- Assumes nothing.
use mathlib.Core.Path.{◌∙◌}
use Rattle.std.proofs.lemmas.List.{length-replicate}
use Rattle.nav.proofs.Gathering.{left_falls, none_at, gathering_first, gathering_next, gathering_end, gathering_other}
use Rattle.nav.proofs.members.gather.Goals as goal
use Rattle.nav.proofs.members.gather.Goals.{in-End, in_default-member}

pub loop-member-init : goal.loop-member-init
loop-member-init g c = (gathering_first c.first-member.ensures (none_at g.row.N), length-replicate g.row.N _)

pub loop-member-smaller : goal.loop-member-smaller
loop-member-smaller g c =
    rw c.in-More.is (left_falls c.args.s.now c.in-More.n c.in-More.v c.next-member.result c.next-member.ensures)

pub loop-member-preserved : goal.loop-member-preserved
loop-member-preserved g c = (
  gathering_next c.loop-member.invariant.0 c.in-More.is c.keep_all.ensures c.next-member.ensures,
  c.keep_all.ensures.long ∙ c.loop-member.invariant.1,
)

pub returns : goal.returns
returns g c =
    let i = c.loop-member.invariant in
    elim c.match-member-2.branch [
      | in-End w ↦ rw w.past-is (gathering_end i.0 w.in-End.is i.1)
      | in_default-member w ↦ rw w.past-is (gathering_other i.0 c.in_default.not-More w.in_default-member.not-End i.1)
    ]
