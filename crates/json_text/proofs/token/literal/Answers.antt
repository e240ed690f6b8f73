-- `json_text::token::literal` meets its contract.
-- Assumes nothing.
use Rattle.std.proofs.Common.{◌≡◌, ℕ, ◌+◌, List, ◌∷◌, Result, length, arith, drop_of_length-le}
use Rattle.json_text.specs.declared.error.ScanError.{ScanError}
use Rattle.json_text.specs.Grammar.Lit.{lit_none, lit_more}
use Rattle.json_text.specs.Faults.NoLit.{lit_bad, lit_on}
use Rattle.json_text.specs.Scans.{LitSaid}
use Rattle.json_text.specs.Scans.Says.{says_past, says_broke}
use Rattle.json_text.proofs.Laws.{Byte, says_as, found_same, found_other}
use Rattle.json_text.proofs.Marks.{split}
use Rattle.json_text.proofs.token.literal.Goals as goal

-- one more byte in front
step : {s ks : List ℕ} {i k : ℕ} {o : Result ℕ ScanError} → Byte k s i → LitSaid s (i + 1) ks o → LitSaid s i (k ∷ ks) o
step h a = rw h.split (says_as (λ r m. lit_more m) (λ f r m. lit_on m) a)

pub returns-then-ne : goal.returns-then-ne
returns-then-ne c =
    let l = c.loop-k in
    l.invariant.1 _
    (rw (split c.args.word.now l.k c.loop-k-test.true)
    (says_broke l.invariant.0 (lit_bad (found_other c.peek.result _ c.peek.ensures c.ne.ensures c.if-ne.true))))

pub loop-k-preserved : goal.loop-k-preserved
loop-k-preserved c =
    let l = c.loop-k in
    let h = found_same c.peek.result _ (omega (arith, c.type_inv.word l.k)) c.peek.ensures c.ne.ensures c.if-ne.false in
    let e : c.args.at + (l.k + 1) ≡ c.args.at + l.k + 1 = omega arith in (
      omega arith,
      λ o a. l.invariant.1 o (rw (split c.args.word.now l.k c.loop-k-test.true) (step h (rw e at a))),
    )

pub returns : goal.returns
returns c =
    let l = c.loop-k in
    let e : l.k ≡ length c.args.word.now = omega arith in
    rw (← e)
    (l.invariant.1 _
    (rw (drop_of_length-le c.args.word.now {i = l.k} (omega arith)) (says_past l.invariant.0 lit_none)))
