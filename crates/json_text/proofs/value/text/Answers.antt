-- `json_text::value::text` meets its contract.
-- Assumes nothing.
use native.Mathlib.Omega.{arith}
use mathlib.Core.Path.{refl}
use mathlib.Core.Path.{ap}
use lib.ListN.{length, drop_of_length-le, length-drop}
use Rattle.json_text.specs.Grammar.Text.{text}
use Rattle.json_text.specs.Faults.NoText.{text_in, text_after}
use Rattle.json_text.specs.Scans.Says.{says_past, says_broke}
use Rattle.json_text.proofs.Laws.{said_past, passed}
use Rattle.json_text.proofs.value.text.Goals as goal

pub returns-then-end-s : goal.returns-then-end-s
returns-then-end-s c =
    let v = said_past c.in_ok-past.ensures refl in
    let w = c.skip_ws-end.ensures in
    let e = drop_of_length-le c.args.s.now {i = c.skip_ws-end.result} (omega arith) in
    says_past w.within (_, text c.requires.run v.1.1 (rw e at w.run), v.1.3, e)

pub returns : goal.returns
returns c =
    let v = said_past c.in_ok-past.ensures refl in
    let w = c.skip_ws-end.ensures in
    says_broke w.within
    (text_after c.requires.run v.1.1 v.1.2 v.1.3 w.run w.stop
    (λ e. omega (arith, w.within, c.if-end-s.false, simp length-drop at (ap length e))))

pub returns-in_err-past : goal.returns-in_err-past
returns-in_err-past c =
    passed _ c.from_residual.ensures.1 c.in_err-past.ensures (λ f r m. text_in c.requires.run c.requires.stop m)
