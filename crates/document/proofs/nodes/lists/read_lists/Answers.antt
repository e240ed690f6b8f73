-- `document::nodes::lists::read_lists` meets its contract. Assumes nothing.
use native.Mathlib.Omega.{arith}
use mathlib.Core.Path.{refl, ◌∙◌}
use Rattle.document.proofs.nodes.Going.{begins, goes, stands, ends, falls, later}
use Rattle.document.proofs.nodes.Turns.{list_first, list_none, list_next, list_bad, lists_broken, lists_read, placed_past}
use Rattle.document.proofs.nodes.lists.read_lists.Goals as goal

pub returns-in_err-element : goal.returns-in_err-element
returns-in_err-element c = λ n m d e o f.
    let word = c.args.word.now in
    lists_broken _ _ _ c.from_residual.ensures.0
    (list_none word o c.args.lists.now c.args.entries.now (c.in_err-element.ensures.good _ o f))

pub loop-element-init : goal.loop-element-init
loop-element-init c =
    let e = c.in_ok-element.ensures in
    let word = c.args.word.now in (
      omega arith,
      refl,
      refl,
      λ q h. (omega arith, e.within q h),
      λ o f. begins e f (list_first word o c.args.lists.now c.args.entries.now (e.good _ o f)),
    )

pub pack_element-requires : goal.pack_element-requires
pack_element-requires c =
    let l = c.loop-element in
    record {
      used_in_bounds = omega (arith, l.invariant.0, l.invariant.2);
      entries_len_bound = omega (arith, c.requires, l.invariant.2);
    }

pub returns-in_err-packed : goal.returns-in_err-packed
returns-in_err-packed c = λ n m d e o f.
    let word = c.args.word.now in
    let h = stands (c.loop-element.invariant.4 o f) c.in-Some.is in
    lists_broken _ _ _ c.from_residual-in_err-packed.ensures.0
    (list_bad word o c.args.lists.now c.args.entries.now (c.in_err-packed.ensures.good h.0 h.2) h.3)

pub overflow_add-count : goal.overflow_add-count
overflow_add-count c =
    let h = c.loop-element.invariant.3 c.in-Some.q c.in-Some.is in
    omega (arith, c.well_formed.0)

pub loop-element-smaller : goal.loop-element-smaller
loop-element-smaller c =
    let e = c.in_ok-packed.ensures.packs in
    falls c.args.s.now c.in-Some.is (c.following_past-element.ensures (placed_past e.end e.some))

pub loop-element-preserved : goal.loop-element-preserved
loop-element-preserved c =
    let l = c.loop-element in
    let s = c.args.s.now in
    let k = c.pack_element in
    let t = c.in_ok-packed.ensures in
    let e = t.packs in
    let next = c.following_past-element.ensures (placed_past e.end e.some) in (
      omega (arith, e.within, l.invariant.2),
      k.auto.lists ∙ l.invariant.1,
      k.auto.entries ∙ l.invariant.2,
      λ p d. let h = later s c.in-Some.q next d in (omega (arith, (l.invariant.3 c.in-Some.q c.in-Some.is).0, h.0), h.1),
      λ o f. goes (l.invariant.4 o f) c.in-Some.is next (λ j is u.
          list_next c.args.word.now o c.args.lists.now c.args.entries.now l.invariant.2 l.invariant.0 u e (t.good j u)),
    )

pub returns : goal.returns
returns c = λ n m d e o f. lists_read d e (ends (c.loop-element.invariant.4 o f) c.in_default.not-Some)
