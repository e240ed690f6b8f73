-- The steps and places that are computed mean what they should.
-- Assumes nothing.
use Prim.Native.Nat.{ℕ, ◌<◌}
use mathlib.Core.Path.{◌≡◌, refl}
use mathlib.Core.List.{List, [], ◌∷◌}
use mathlib.Core.Option.{Option, some, none}
use lib.Dec.{eqb}
use borrow.Author.Tests.{eqb-true, eqb-false}
use Rattle.laws.proofs.Tests.{by_test}
use Rattle.nav.specs.declared.Step.{Step}
use Rattle.nav.specs.declared.Step.TheVariants.{Bad}
use lib.ListN.{drop}
use native.Mathlib.Omega.{arith}
use Rattle.json_text.specs.Tree.{Json}
use Rattle.json_text.specs.Grammar.{IsWs, Ws}
use Rattle.json_text.specs.Faults.{Fault, Not, NoValue}
use Rattle.json_text.specs.Faults.Not.{not_end, not_head}
use Rattle.json_text.specs.Scans.{ValueOk}
use Rattle.json_text.specs.Parse.{Got, front_run, past_ws, neither}
use Rattle.json_text.specs.Parse.Got.{got, lost}
use Rattle.nav.specs.Places.{given, value_at, read}
use Rattle.nav.specs.Steps.{OpenTo, NextTo, AfterTo, behind_of, after_of, next_of, inside_of, open_of}
use Rattle.nav.specs.Steps.Opens.{opens}
use Rattle.nav.specs.Steps.OpenTo.{open_more, open_end, open_bad}
use Rattle.nav.specs.Steps.AfterTo.{after_more, after_end, after_bad}
use Rattle.json_text.proofs.Laws.{is_same}
use Rattle.json_text.proofs.Cuts.{Cut, none as none_read, one, drop-cut, ws_reads, value_reads, ◌then◌}
use Rattle.json_text.proofs.Tops.{place}
use Rattle.json_text.proofs.Answers.{past_says}
use Rattle.nav.proofs.Steps.{open_unique, next_unique, after_unique, next_after, next_none}

-- what holds of each reading of a value holds of the computed one
pub at_value : (n : ℕ) (w : List ℕ) (P : Option (Json × List ℕ) → Type 0) →
    ((r : List ℕ) (k : ValueOk n w r) → P (some (k.0, r))) →
    ((f : Fault) (r : List ℕ) → NoValue n w f r → P none) → P (value_at n w)
unfolding value_at
at_value n w P f g = by (front_run n w)
  where
    by : (x : Got (ValueOk n w) (NoValue n w)) → P (read x)
    by (got r k) = f r k
    by (lost e r k) = g e r k

-- the part behind one byte
behind_one : {s v : List ℕ} (b : ℕ) → Cut s (b ∷ v) → Cut s v
behind_one b k = k then one b none_read

-- the step from past a value and white space
behind_is : {s w : List ℕ} {c : ℕ} (v : List ℕ) → Ws w v → Not IsWs v → Cut s v → AfterTo s w c (behind_of c s v)
unfolding behind_of
behind_is [] x n k = after_bad x not_end
behind_is {s = s} {w = w} {c = c} (b ∷ v) x (not_head n) k =
    let p = place s v (behind_one b k) in
    let y = past_says v in
    let q = place s (past_ws v) (behind_one b k then (ws_reads y.0).cut) in
    by_test (eqb b c)
    (λ e. rw e (after_end p.0 (rw (p.1, ← eqb-true b c e) x)))
    (λ e. rw e (by_test (eqb b 0x2c)
    (λ d. rw d (after_more q.0 (rw (eqb-true b 0x2c d) at x) (rw q.1 y.0) (rw q.1 y.1)))
    (λ d. rw d (after_bad x (not_head (neither n (eqb-false b c e) (eqb-false b 0x2c d)))))))

-- the step from past a value
pub after_is : {s w : List ℕ} {c : ℕ} → Cut s w → AfterTo s w c (after_of c s w)
unfolding after_of
after_is {w = w} k = let y = past_says w in behind_is (past_ws w) y.0 y.1 (k then (ws_reads y.0).cut)

-- the step past a value
pub next_is : {s w : List ℕ} {n c : ℕ} → 0x20 < c → Cut s w → NextTo s w n c (next_of n c s w)
unfolding next_of
next_is {s = s} {w = w} {n = n} {c = c} h k =
    at_value n w (λ o. NextTo s w n c (given Bad (λ x. after_of c s x.1) o))
    (λ r v. next_after h v.1 v.2 v.3 (after_is (k then (value_reads v.1).cut)))
    (λ f r m. next_none m)

-- the step from past a bracket and white space
inside_is : {s w : List ℕ} {b c : ℕ} (v : List ℕ) → Ws w v → Not IsWs v → Cut s v → OpenTo s (b ∷ w) b c
    (inside_of c s v)
unfolding inside_of
inside_is {s = s} [] x n k = let p = place s [] k in open_more p.0 (rw p.1 (opens x n not_end))
inside_is {s = s} {c = c} (a ∷ v) x n k =
    let p = place s v (behind_one a k) in
    let q = place s (a ∷ v) k in
    by_test (eqb a c)
    (λ e. rw e (open_end p.0 refl (rw (p.1, ← eqb-true a c e) x)))
    (λ e. rw e (open_more q.0 (rw q.1 (opens x n (not_head (λ i. eqb-false a c e (is_same i)))))))

-- the step behind a bracket
pub open_is : {s : List ℕ} {b c : ℕ} (w : List ℕ) → Cut s w → OpenTo s w b c (open_of b c s w)
unfolding open_of
open_is [] k = open_bad not_end
open_is {b = b} (a ∷ w) k =
    let y = past_says w in
    by_test (eqb a b)
    (λ e. rw e (rw (eqb-true a b e) (inside_is (past_ws w) y.0 y.1 (behind_one a k then (ws_reads y.0).cut))))
    (λ e. rw e (open_bad (not_head (λ i. eqb-false a b e (is_same i)))))

-- `open`, `next` and `next_past` answer for the bytes
module _ {s : List ℕ} (at : ℕ) {o : Step} where
  pub open_answers : OpenTo s (drop at s) 0x5b 0x5d o → o ≡ open_of 0x5b 0x5d s (drop at s)
  open_answers x = open_unique (omega arith) x (open_is (drop at s) (drop-cut s at))

  pub next_answers : NextTo s (drop at s) 32 0x5d o → o ≡ next_of 32 0x5d s (drop at s)
  next_answers x = next_unique (omega arith) x (next_is (omega arith) (drop-cut s at))

  pub after_answers : AfterTo s (drop at s) 0x5d o → o ≡ after_of 0x5d s (drop at s)
  after_answers x = after_unique (omega arith) x (after_is (drop-cut s at))
