-- `json_text::bytes::is_ws` meets its contract.
-- Assumes nothing.
use Rattle.json_text.specs.Grammar.IsWs.{space, tab, line, return}
use Rattle.json_text.specs.Parse.{no_ws}
use Rattle.json_text.proofs.Questions.{only, or_this}
use Rattle.json_text.proofs.bytes.is_ws.Goals as goal

pub returns : goal.returns
returns c =
    let b = c.args.b in
    or_this b 0x0d (λ e. rw e return) (λ f3.
    or_this b 0x0a (λ e. rw e line) (λ f2.
    or_this b 0x09 (λ e. rw e tab) (λ f1.
    only b 0x20 (λ e. rw e space) (λ f0. no_ws b f0 f1 f2 f3))))
