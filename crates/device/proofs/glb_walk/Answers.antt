use mathlib.Core.Path.{ap, ◌∙◌}
use native.Mathlib.Omega.{arith}
use Rattle.scene.specs.declared.Walked.{Walked}
use Rattle.device.proofs.Walks.{walk_few}
use Rattle.device.proofs.glb_walk.Goals as goal

-- a walk counts no more than 128 nodes
pub overflow_cast-count : goal.overflow_cast-count
overflow_cast-count c =
    let a = c.args in
    let count = ap (λ (w : Walked). w.count) (c.from-w.ensures ∙ c.walk.ensures.0) in
    omega (arith, count, walk_few a.words.now a.scene a.list.now)
