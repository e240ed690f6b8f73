-- `glb::fill` meets its contract. Assumes nothing.
use mathlib.Core.Path.{◌≡◌, sym, ◌∙◌}
use Rattle.std.specs.Prelude.{Err}
use native.Mathlib.Omega.{arith}
use Rattle.std.proofs.lemmas.Grind.{common_steps}
use Rattle.glb.proofs.Answered.{chunks_err}
use Rattle.glb.proofs.fill.Goals as goal

pub returns-in_err-c : goal.returns-in_err-c
returns-in_err-c c =
    let e = chunks_err c.args.file.now c.in_err-c.field-0.0 (sym c.open.ensures ∙ c.in_err-c.was) in
    let x : c.from_residual.result ≡ Err (record { rule = c.in_err-c.field-0.0.rule; item = c.in_err-c.field-0.0.item }) = grind (arith, common_steps) in
    rw x e

pub check_document-requires : goal.check_document-requires
check_document-requires c = sym c.open.ensures ∙ c.in_ok-c.was
