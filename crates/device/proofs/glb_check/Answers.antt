-- `device::glb_check` meets its contract. Assumes nothing.
use mathlib.Core.Path.{ap, ◌∙◌}
use Rattle.glb.specs.declared.Checked.{Checked}
use Rattle.glb.specs.Results.{checked_of}
use Rattle.glb.proofs.Answered.{check_whole}
use Rattle.device.specs.Words.{words_of}
use Rattle.device.proofs.glb_check.Goals as goal

pub returns-in-Ok : goal.returns-in-Ok
unfolding checked_of
returns-in-Ok c =
    let e = ap checked_of c.in-Ok.ensures.answer ∙ check_whole c.args.file.now in
    let put = c.put.ensures in
    (ap (λ (x : Checked). x.verdict) e, put.0 ∙ ap (λ (x : Checked). words_of x.tables) e, put.1 ∙ ap (λ (x : Checked). x.tables) e, ap (λ (x : Checked). x.item) e)

pub returns-in-Err : goal.returns-in-Err
unfolding checked_of
returns-in-Err c =
    let e = ap checked_of c.in-Err.ensures.answer ∙ check_whole c.args.file.now in
    let put = c.put_none.ensures in
    (ap (λ (x : Checked). x.verdict) e, put.0 ∙ ap (λ (x : Checked). words_of x.tables) e, put.1 ∙ ap (λ (x : Checked). x.tables) e, ap (λ (x : Checked). x.item) e)
