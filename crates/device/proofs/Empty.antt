-- The words of empty tables. Assumes nothing.
use Prim.Native.Nat.{ℕ, zero, suc, ◌*◌}
use mathlib.Core.Path.{◌≡◌, refl, ap, ◌∙◌}
use mathlib.Core.List as L
use native.Mathlib.Nat.{mul-suc, mul-zero}
use native.Mathlib.Omega.{arith}
use lib.ListN.{get_or, replicate, length-replicate}
use Rattle.std.proofs.lemmas.List.{replicate-append-replicate}
use Rattle.tables.specs.Records.{no_view, no_accessor, no_list, empty_tables}
use Rattle.device.specs.Words.{view_words, accessor_words, list_words, head_words, rows, words_of}
use Rattle.device.specs.Meaning.{Lists, Shorts, Stored}

-- records whose words are k zeros
zero_rows : {A : Type 0} (f : A → L.List ℕ) (k : ℕ) (r : A) → f r ≡ replicate k 0 → (n : ℕ)
    → rows f (replicate n r) ≡ replicate (k * n) 0
unfolding rows
zero_rows f k r e zero = rw (mul-zero k) refl
zero_rows f k r e (suc n) =
    rw (e, zero_rows f k r e n, mul-suc k n) (replicate-append-replicate k (k * n) 0 ∙ ap (λ (m : ℕ). replicate m 0) (omega arith))

-- an entry, or one past the end
same_at : {A : Type 0} (n i : ℕ) (d : A) → get_or (replicate n d) i d ≡ d
same_at zero i d = refl
same_at (suc n) zero d = refl
same_at (suc n) (suc i) d = same_at n i d

-- list records of zeros
zero_lists : (n : ℕ) → Lists n (replicate n no_list)
zero_lists n =
    record {
      many = length-replicate n no_list;
      starts = λ i. rw (same_at n i no_list) (omega arith);
      lengths = λ i. rw (same_at n i no_list) (omega arith);
    }

-- zeros
zero_shorts : (n : ℕ) → Shorts n (replicate n 0)
zero_shorts n = record { many = length-replicate {A = ℕ} n 0; fit = λ i. rw (same_at {A = ℕ} n i 0) (omega arith) }

-- the arrays have the lengths of their types
pub empty_stored : Stored empty_tables
unfolding empty_tables
empty_stored =
    record {
      views = length-replicate 64 no_view;
      accessors = length-replicate 128 no_accessor;
      nodes = zero_lists 128;
      children = zero_shorts 128;
      scenes = zero_lists 8;
      roots = zero_shorts 1024;
    }

-- each record's words are zeros
no_view_words : view_words no_view ≡ replicate 8 0
unfolding view_words
no_view_words = refl

no_accessor_words : accessor_words no_accessor ≡ replicate 16 0
unfolding accessor_words
no_accessor_words = refl

no_list_words : list_words no_list ≡ replicate 2 0
unfolding list_words
no_list_words = refl

no_head_words : head_words empty_tables ≡ replicate 16 0
unfolding head_words empty_tables
no_head_words = refl

-- all of them are
pub empty_words : words_of empty_tables ≡ replicate 4000 0
unfolding words_of empty_tables
empty_words =
    rw (
      no_head_words,
      zero_rows view_words 8 no_view no_view_words 64,
      zero_rows accessor_words 16 no_accessor no_accessor_words 128,
      zero_rows list_words 2 no_list no_list_words 128,
      zero_rows list_words 2 no_list no_list_words 8,
    )
    (simp replicate-append-replicate)
