use mathlib.Core.Path.{◌≡◌, sym, ap, ◌∙◌}
use borrow.Author.Rules.{rules}
use Prim.Native.Nat.{ℕ}
use lib.ListN.{length, replicate}
use Rattle.tables.specs.Records.{empty_tables}
use Rattle.device.specs.Words.{tables_of, words_of}
use Rattle.device.proofs.Exact.{read_written}
use Rattle.device.proofs.Empty.{empty_words, empty_stored}
use Rattle.device.proofs.put.put_none.Goals as goal

pub returns : goal.returns
returns c =
    let many : length c.args.words.now ≡ 4000 = search rules in
    let filled : c.fill.new.self ≡ replicate (length c.args.words.now) 0 = search rules in
    let e : c.fill.new.self ≡ words_of empty_tables = filled ∙ ap (λ (n : ℕ). replicate n 0) many ∙ sym empty_words in
    (e, ap tables_of e ∙ read_written empty_tables empty_stored)
