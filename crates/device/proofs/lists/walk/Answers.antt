use mathlib.Core.Path.{refl, ap, ◌∙◌}
use Rattle.scene.specs.Walk.{Outcome}
use Rattle.device.proofs.Walks.{walk_words}
use Rattle.device.proofs.lists.walk.Goals as goal

pub returns : goal.returns
returns c =
    let a = c.args in
    let e = walk_words a.words.now _ _ _ _ _ _ _ _ c.shorts.ensures c.shorts-2.ensures c.shorts-3.ensures
    c.shorts-4.ensures c.shorts-5.ensures c.shorts-6.ensures refl refl
    a.scene a.list.now in
    let w = c.walk_packed.ensures in
    (w.0 ∙ ap (λ (o : Outcome). o.walked) e, w.1 ∙ ap (λ (o : Outcome). o.list) e)
