use borrow.Author.Rules.{rules}
use native.Mathlib.Omega.{arith}
use mathlib.Core.Path.{◌≡◌, sym, ◌∙◌}
use Rattle.laws.specs.Bytes.{little_at}
use Rattle.laws.proofs.Bytes.{little_at-zero, little_at_four, little_at_lt}
use Rattle.access.proofs.Spelled.{little_at_one, little_at_two, size_none}
use Rattle.access.proofs.numbers.little_at.Goals as goal

pub returns-in-1 : goal.returns-in-1
returns-in-1 c =
    let a = c.args in
    let e : c.from.result ≡ little_at a.file.now a.at a.size =
    c.from.ensures ∙ rw c.in-1.is (sym (little_at_one a.file.now a.at)) in
    (e, rw e (little_at_lt a.file.now (λ j. (c.type_inv.file j).fits) a.at a.size))

pub returns-in-2 : goal.returns-in-2
returns-in-2 c =
    let a = c.args in
    let e : c.from-in-2.result ≡ little_at a.file.now a.at a.size =
    c.from-in-2.ensures ∙ c.from_le_bytes.ensures ∙ rw (c.in-2.is, little_at_two a.file.now a.at) (omega arith) in
    (e, rw e (little_at_lt a.file.now (λ j. (c.type_inv.file j).fits) a.at a.size))

pub returns-in-4 : goal.returns-in-4
returns-in-4 c =
    let a = c.args in
    let e : c.from-in-4.result ≡ little_at a.file.now a.at a.size =
    c.from-in-4.ensures ∙ c.from_le_bytes-in-4.ensures ∙ rw (c.in-4.is, little_at_four a.file.now a.at) (omega arith) in
    (e, rw e (little_at_lt a.file.now (λ j. (c.type_inv.file j).fits) a.at a.size))

pub returns-in_default : goal.returns-in_default
returns-in_default c =
    let a = c.args in
    let z : a.size ≡ 0 = size_none a.size (λ (q : a.size ≡ 1). omega arith) (λ (q : a.size ≡ 2). omega arith) (λ (q : a.size ≡ 4). omega arith)
    c.requires.size_value in
    rw (z, little_at-zero a.file.now a.at) (search rules)
