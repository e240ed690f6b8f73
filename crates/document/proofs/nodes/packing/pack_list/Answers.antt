-- `document::nodes::packing::pack_list` meets its contract. Assumes nothing.
use native.Mathlib.Omega.{arith}
use mathlib.Core.Path.{refl, ◌∙◌}
use lib.ListN.{length}
use Rattle.nav.proofs.Navigation.{integer_stands}
use Rattle.document.proofs.nodes.Going.{begins, goes, stands, ends, falls}
use Rattle.document.proofs.nodes.Turns.{asked_some, asked_none, take-first, take-none, take_next, take_bad, take_last, take_broken}
use Rattle.document.proofs.nodes.Storing.{push_within}
use Rattle.document.proofs.nodes.packing.pack_list.Goals as goal

pub returns-in_err-element : goal.returns-in_err-element
returns-in_err-element c =
    let a = c.args in
    take_broken c.from_residual.ensures.0
    (λ o f. take-none o a.before a.entries.now (c.in_err-element.ensures.good _ o f))

pub loop-element-init : goal.loop-element-init
loop-element-init c =
    let a = c.args in
    let e = c.in_ok-element.ensures in (
      omega arith,
      omega (arith, c.requires),
      refl,
      λ o f. begins e f (take-first o a.before a.entries.now (e.good _ o f)),
    )

pub returns-in_err-entry : goal.returns-in_err-entry
returns-in_err-entry c =
    let a = c.args in
    take_broken c.from_residual-in_err-entry.ensures.0
    (λ o f.
    let g = stands (c.loop-element.invariant.3 o f) c.in-Some.is in
    take_bad o a.before a.entries.now (asked_none c.integer_then-integer.result.0 c.ok_or.ensures.value c.in_err-entry.was (integer_stands g.2 c.integer_then-integer.ensures.integer))
    g.3)

pub loop-element-smaller : goal.loop-element-smaller
loop-element-smaller c = falls c.args.s.now c.in-Some.is c.integer_then-integer.ensures.element

pub loop-element-preserved : goal.loop-element-preserved
loop-element-preserved c =
    let l = c.loop-element in
    let a = c.args in
    let p = c.push-used in
    let w = push_within (length l.entries) l.used (omega (arith, l.invariant.1, l.invariant.2)) in (
      omega (arith, p.ensures.0, w.0, l.invariant.0),
      omega (arith, p.ensures.0, w.1, l.invariant.2),
      p.auto.entries ∙ l.invariant.2,
      λ o f. goes (l.invariant.3 o f) c.in-Some.is c.integer_then-integer.ensures.element (λ j is t.
          take_next o a.before a.entries.now l.invariant.2 l.invariant.1
          (asked_some c.integer_then-integer.result.0 c.ok_or.ensures.value c.in_ok-entry.was (integer_stands t c.integer_then-integer.ensures.integer)) p.ensures.0 p.ensures.1),
    )

pub returns : goal.returns
returns c =
    let l = c.loop-element in
    take_last l.invariant.0 l.invariant.1 (λ o f. ends (l.invariant.3 o f) c.in_default.not-Some)
