use mathlib.Core.Path.{◌≡◌, sym, ◌∙◌}
use mathlib.Core.Bool.{false}
use borrow.Author.Tests.{le-leb, lt-leb}
use Rattle.tables.specs.Stages.{record_unfit}
use Rattle.tables.proofs.Own.{own_with, own_without, own_record, aligned}
use Rattle.tables.proofs.selection.own_unfit.Goals as goal
use Rattle.tables.proofs.selection.own_unfit.Goals.{Else-record}

pub returns-then-record : goal.returns-then-record
returns-then-record c =
    own_record c.args.x c.args.a c.args.own c.args.l c.requires
    (sym c.record_unfit-record.ensures ∙ c.if-record.true)

-- the record keeps rules 26 to 29
kept : (c : Else-record)
    → let a = c.args in record_unfit a.a a.l.component ≡ false
kept c = sym c.record_unfit-record.ensures ∙ c.if-record.false

pub returns-then-x-a : goal.returns-then-x-a
returns-then-x-a c =
    rw (kept (goal.at.returns-then-x-a c).Else-record, le-leb _ _ c.if-x-a.true)
    at (own_with c.args.x c.args.a c.args.own c.args.l c.requires c.if-a.true)

pub returns-then-named : goal.returns-then-named
returns-then-named c =
    rw (
      kept (goal.at.returns-then-named c).Else-record,
      lt-leb _ _ c.if-x-a.false,
      ← c.named_unfit-named.ensures,
      c.if-named.true,
    ) at (own_with c.args.x c.args.a c.args.own c.args.l c.requires c.if-a.true)

pub elements_unfit-requires : goal.elements_unfit-requires
elements_unfit-requires c =
    aligned c.args.x c.args.a c.args.own c.args.l c.requires
    (kept (goal.at.elements_unfit-requires c).Else-record)

pub returns-then-a : goal.returns-then-a
returns-then-a c =
    c.elements_unfit.ensures
    ∙ (rw (
      kept (goal.at.returns-then-a c).Else-record,
      lt-leb _ _ c.if-x-a.false,
      ← c.named_unfit-named.ensures,
      c.if-named.false,
    ) at (own_with c.args.x c.args.a c.args.own c.args.l c.requires c.if-a.true))

pub returns : goal.returns
returns c =
    rw (kept (goal.at.returns c).Else-record)
    at (own_without c.args.x c.args.a c.args.own c.args.l c.requires c.if-a.false)
