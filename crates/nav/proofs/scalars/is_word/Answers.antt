-- `nav::scalars::is_word` meets its contract.
-- Assumes nothing.
use borrow.Author.Rules.{rules}
use mathlib.Core.Path.{sym, ◌∙◌}
use Rattle.std.proofs.lemmas.Iterator.{YieldsList-from_slice}
use Rattle.std.proofs.lemmas.Iterator.Search.{all_from_yields_List}
use Rattle.std.proofs.Common.{tests}
use Rattle.json_text.specs.Strings.{plain}
use Rattle.nav.proofs.Spellings.{plains_all}
use Rattle.nav.proofs.scalars.is_word.Goals as goal

pub returns : goal.returns
returns c =
    let w = c.args.word.now in
    all_from_yields_List plain _ _ _ c.all.ensures.ran (YieldsList-from_slice w cc) (λ x b q k. search (rules, tests)) ∙
    sym (plains_all w)
