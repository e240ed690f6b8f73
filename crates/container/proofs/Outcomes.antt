-- The answers of the code, by what the definitions answer.
-- Assumes nothing.
use Prim.Native.Nat.{ℕ, ◌+◌, ◌≤◌, ◌<◌}
use mathlib.Core.Path.{◌≡◌, refl, sym, ap, ◌∙◌}
use mathlib.Core.List.{List}
use native.Mathlib.Omega.{arith}
use borrow.Author.Tests.{ltb-true, ltb-false, ne_eqb}
use lib.Dec.{ltb}
use lib.ListN.{length}
use Rattle.std.specs.Prelude.{Some, None, Ok, Err}
use Rattle.laws.specs.Search.{least}
use Rattle.laws.proofs.Search.{least_says}
use Rattle.laws.proofs.Tests.{by_test}
use Rattle.container.specs.declared.Fault.{Fault}
use Rattle.container.specs.declared.Found as Pass
use Rattle.container.specs.Chunks.{chunks_of, bytes_of}
use Rattle.container.specs.Rules.{chunk_at, count, is_bin, misplaced_json, misplaced_bin, rows, header_rows, first_broken, refused, opened, container_of}
use Rattle.container.specs.Found.{found_in}
use Rattle.container.specs.Results.{header_outcome, survey_of, bin_of, outcome_of, record_of}
use Rattle.container.proofs.Firsts.{wrong_some, wrong_none}
use Rattle.container.proofs.Verdicts.{HeaderHolds, header_holds, header_refuses, rule5, rule6, rule7, rule8, none_broken}

-- a refusal is no acceptance
refused_err : (n i : ℕ) → 0 < n → outcome_of (refused n i) ≡ Err (record { rule = n; item = i })
unfolding outcome_of
refused_err n i l = rw (ne_eqb n 0 (λ e. omega arith))

-- a broken header
pub header_err : (f : List ℕ) (b : Fault) → header_outcome f ≡ Err b → Err b ≡ outcome_of (container_of f)
unfolding header_outcome
header_err f b e =
    by_test (ltb (first_broken (header_rows f)) 4)
    (λ t. let k = ltb-true (first_broken (header_rows f)) 4 t in
    let same : record { rule = 1 + first_broken (header_rows f); item = 0 } ≡ b = cc (rw t at e) in
    rw (← same) (sym (refused_err (1 + first_broken (header_rows f)) 0 (omega arith)) ∙ ap outcome_of (header_refuses f (1 + first_broken (header_rows f)) refl (omega arith))))
    (λ t. absurd (cc (rw t at e)))

-- a header that holds
pub header_ok : (f : List ℕ) → header_outcome f ≡ Ok tt → HeaderHolds f
unfolding header_outcome
header_ok f e =
    by_test (ltb (first_broken (header_rows f)) 4)
    (λ t. absurd (cc (rw t at e)))
    (λ t. header_holds f (let k = ltb-false (first_broken (header_rows f)) 4 t in omega arith))

-- the header holds, and rule 5 is broken or not
module _ (f : List ℕ) (h : HeaderHolds f) (found : Pass.Found) (s : found ≡ survey_of (found_in f)) where
  pub rule5_err : (found.end ≡ length f → ⊥) → Err (record { rule = 5; item = found.count }) ≡ outcome_of (container_of f)
  unfolding found_in survey_of outcome_of
  rule5_err a = rw s (ap outcome_of (rule5 f h (rw s at a)))

  pub fills : found.end ≡ length f → 12 + bytes_of (chunks_of f) ≡ length f
  unfolding found_in survey_of
  fills a = rw s at a

  module _ (filled : 12 + bytes_of (chunks_of f) ≡ length f) where
    pub rule6_err : (i : ℕ) → found.wrong_json ≡ Some i → Err (record { rule = 6; item = i }) ≡ outcome_of (container_of f)
    unfolding found_in survey_of outcome_of
    rule6_err i a =
        let w = wrong_some (least (misplaced_json f) (count f)) (count f) i (least_says (misplaced_json f) (count f)).le (rw s at a) in
        rw w.0 (ap outcome_of (rule6 f h filled w.1))

    pub right : found.wrong_json ≡ None → count f ≤ least (misplaced_json f) (count f)
    unfolding found_in survey_of
    right a = wrong_none (least (misplaced_json f) (count f)) (count f) (rw s at a)

    module _ (r : count f ≤ least (misplaced_json f) (count f)) where
      pub rule7_err : (i : ℕ) → found.wrong_bin ≡ Some i → Err (record { rule = 7; item = i }) ≡ outcome_of (container_of f)
      unfolding found_in survey_of outcome_of
      rule7_err i a =
          let w = wrong_some (least (misplaced_bin f) (count f)) (count f) i (least_says (misplaced_bin f) (count f)).le (rw s at a) in
          rw w.0 (ap outcome_of (rule7 f h filled r w.1))

      pub placed : found.wrong_bin ≡ None → count f ≤ least (misplaced_bin f) (count f)
      unfolding found_in survey_of
      placed a = wrong_none (least (misplaced_bin f) (count f)) (count f) (rw s at a)

      module _ (p : count f ≤ least (misplaced_bin f) (count f)) where
        pub rule8_err : 65536 < (chunk_at f 0).chunk_length → Err (record { rule = 8; item = 0 }) ≡ outcome_of (container_of f)
        unfolding outcome_of
        rule8_err a = ap outcome_of (rule8 f h filled r p a)

        pub open_ok : (chunk_at f 0).chunk_length ≤ 65536
            → Ok (record { json = record { start = 20; length = (chunk_at f 0).chunk_length }; bin = bin_of f }) ≡ outcome_of (container_of f)
        unfolding outcome_of opened bin_of
        open_ok a =
            by_test (is_bin (chunk_at f 1))
            (λ t. rw t (rw t at (ap outcome_of (none_broken f h filled r p a))))
            (λ t. rw t (rw t at (ap outcome_of (none_broken f h filled r p a))))

-- `outcome_of` leaves out nothing: two files whose answers are the same have the same record
pub outcome_whole : (f : List ℕ) → record_of (outcome_of (container_of f)) ≡ container_of f
unfolding container_of outcome_of opened record_of
outcome_whole f =
    by_test (ltb (first_broken (rows f)) 8)
    (λ t. rw (t, ne_eqb (1 + first_broken (rows f)) 0 (λ e. omega arith)))
    (λ t. by_test (is_bin (chunk_at f 1)) (λ b. rw (t, b)) (λ b. rw (t, b)))
