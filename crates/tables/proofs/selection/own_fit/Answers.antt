use Rattle.tables.proofs.selection.own_fit.Goals as goal

pub own_unfit-inner-requires : goal.own_unfit-inner-requires
own_unfit-inner-requires c = c.own_layout-l.ensures

pub returns : goal.returns
returns c =
    rw (c.own_unfit-inner.ensures, c.extent_unfit-outer.ensures, c.own_layout-l.ensures)
