-- `glb::late::check_scene` meets its contract. Assumes nothing.
use Rattle.glb.specs.Check.{scene_finding}
use Rattle.glb.proofs.late.check_scene.Goals as goal

pub returns-then-has_scene-scenes : goal.returns-then-has_scene-scenes
unfolding scene_finding
returns-then-has_scene-scenes c = rw c.if-has_scene-scenes.true

pub returns : goal.returns
unfolding scene_finding
returns c = rw c.if-has_scene-scenes.false
