-- `scene::walk` meets its contract. Assumes nothing.
use mathlib.Core.Path.{ap, ◌∙◌}
use Rattle.scene.specs.Walk.{Outcome}
use Rattle.scene.proofs.Packed.{places_packed}
use Rattle.scene.proofs.walk.Goals as goal

pub returns : goal.returns
returns c =
    let a = c.args in
    let e = places_packed a.t c.packed.result c.packed-2.result
    (record {
      starts = c.packed.ensures.0 ∙ ap (λ p. p.starts) c.from-nodes.ensures;
      lengths = c.packed.ensures.1 ∙ ap (λ p. p.lengths) c.from-nodes.ensures;
      entries = c.packed.ensures.2;
      count = c.packed.ensures.3;
    })
    (record {
      starts = c.packed-2.ensures.0 ∙ ap (λ p. p.starts) c.from-scenes.ensures;
      lengths = c.packed-2.ensures.1 ∙ ap (λ p. p.lengths) c.from-scenes.ensures;
      entries = c.packed-2.ensures.2;
      count = c.packed-2.ensures.3;
    })
    a.scene a.list.now in
    let w = c.walk_packed.ensures in
    (w.0 ∙ ap (λ (o : Outcome). o.walked) e, w.1 ∙ ap (λ (o : Outcome). o.list) e)
