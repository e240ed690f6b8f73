use mathlib.Core.Path.{sym, ap, ◌∙◌}
use Rattle.device.specs.Words.{tables_of}
use Rattle.device.proofs.Concerned.{pair, place_pair}
use Rattle.device.proofs.glb_view.Goals as goal

pub returns-in-Ok : goal.returns-in-Ok
returns-in-Ok c =
    let a = c.args in
    (c.in-Ok.ensures.number, ap pair c.in-Ok.ensures.place ∙ sym (place_pair a.file.now (tables_of a.words.now) a.view))

pub returns-in-Err : goal.returns-in-Err
returns-in-Err c =
    let a = c.args in
    (c.number.ensures ∙ c.in-Err.ensures.number, ap pair c.in-Err.ensures.place ∙ sym (place_pair a.file.now (tables_of a.words.now) a.view))
