-- Lists within their capacities: what the test says, record by record.
-- Assumes nothing.
use Prim.Native.Nat.{ℕ, zero, suc, ◌+◌, ◌<◌, ◌≤◌}
use mathlib.Core.Path.{◌≡◌, refl, ◌∙◌}
use mathlib.Core.Bool.{true, false, ◌||◌}
use mathlib.Core.List.{List, []}
use mathlib.Core.Logic.{inr}
use native.Mathlib.Nat.{zero-add}
use native.Mathlib.Numerals.{add-one}
use native.Mathlib.Omega.{arith}
use borrow.Author.Tests.{ltb-true, ltb-false, lt-ltb}
use lib.Dec.{ltb}
use lib.Seq.{get_or_at}
use Rattle.laws.proofs.Tests.{by_test, or_false}
use lib.ListN.{get_or, length, length-append, get_or-append, take, length-take, replicate, length-replicate}
use Rattle.laws.proofs.Search.{any_no, any_yes}
use Rattle.graph.specs.Packing.{misplaced, packed_lists, list_at, PlacedAt}
use Rattle.graph.specs.Stream.{feed, feed_all}
use Rattle.graph.proofs.Booleans.{or-true}
use Rattle.graph.proofs.Feeding.{feed_all-more}

-- the count is within the capacity and the records
pub record Room (capacity : ℕ) (starts lengths : List ℕ) (count : ℕ) : Type 0 where
  pub counted : count ≤ capacity
  pub started : count ≤ length starts
  pub measured : count ≤ length lengths

-- what the first three tests say
pub room : (capacity : ℕ) (starts lengths : List ℕ) (count : ℕ)
    → ltb capacity count || ltb (length starts) count || ltb (length lengths) count ≡ false
    → Room capacity starts lengths count
room capacity starts lengths count e =
    let p = or_false (ltb capacity count || ltb (length starts) count) (ltb (length lengths) count) e in
    let q = or_false (ltb capacity count) (ltb (length starts) count) p.0 in
    record {
      counted = ltb-false capacity count q.0;
      started = ltb-false (length starts) count q.1;
      measured = ltb-false (length lengths) count p.1;
    }

-- .. and every list is where its record says
pub record Placed (capacity : ℕ) (starts lengths packed : List ℕ) (count : ℕ) : Type 0 where
  pub fits : count ≤ capacity
  pub lists : (i : ℕ) → i < count → PlacedAt starts lengths packed i

-- what the whole test says
pub placed : {capacity : ℕ} {starts lengths packed : List ℕ} {count : ℕ}
    → misplaced capacity starts lengths packed count ≡ false → Placed capacity starts lengths packed count
unfolding misplaced
placed {capacity} {starts} {lengths} {packed} {count} e =
    let p = or_false (ltb capacity count || ltb (length starts) count || ltb (length lengths) count)
    _ e in
    let r = room capacity starts lengths count p.0 in
    record {
      fits = r.counted;
      lists = λ i l.
          record {
            started = omega (arith, r.started);
            measured = omega (arith, r.measured);
            within = ltb-false _ _ (any_no _ count p.1 i l);
          };
    }

-- a list that passes the packed list
pub outside : (capacity : ℕ) (starts lengths packed : List ℕ) (count i : ℕ) → i < count
    → length packed < get_or starts i 0 + get_or lengths i 0 → misplaced capacity starts lengths packed count ≡ true
unfolding misplaced
outside capacity starts lengths packed count i l h =
    or-true (ltb capacity count || ltb (length starts) count || ltb (length lengths) count) _
    (inr (any_yes (λ i. ltb (length packed) (get_or starts i 0 + get_or lengths i 0)) count i l (lt-ltb _ _ h)))

-- as many lists as counted
pub length-packed : (starts lengths packed : List ℕ) (n : ℕ) → length (packed_lists starts lengths packed n) ≡ n
unfolding packed_lists
length-packed starts lengths packed zero = refl
length-packed starts lengths packed (suc n) =
    length-append (packed_lists starts lengths packed n) _ ∙ omega (arith, length-packed starts lengths packed n)

-- a pass over one packed list more
pub packed_next : {S : Type 0} (step : S → ℕ → ℕ → S) (s : S) (starts lengths packed : List ℕ) (i : ℕ)
    → feed_all step s 0 (packed_lists starts lengths packed (i + 1))
    ≡ feed step (feed_all step s 0 (packed_lists starts lengths packed i)) i (list_at starts lengths packed i)
unfolding packed_lists
packed_next step s starts lengths packed i =
    rw (add-one i)
    (feed_all-more step s 0 (packed_lists starts lengths packed i) (list_at starts lengths packed i)
    ∙ rw (zero-add, length-packed starts lengths packed i) refl)

-- the first n of 128 zeros
pub taken : (n : ℕ) → n ≤ 128 → length {A = ℕ} (take n (replicate 128 0)) ≡ n
taken n l = length-take {A = ℕ} n (replicate 128 0) ∙ rw (length-replicate {A = ℕ} 128 0) (omega arith)

-- list i of the packed lists is where its record says
pub packed_at : (starts lengths packed : List ℕ) (n i : ℕ) → i < n
    → get_or (packed_lists starts lengths packed n) i [] ≡ list_at starts lengths packed i
unfolding packed_lists
packed_at starts lengths packed zero i h = absurd (omega arith)
packed_at starts lengths packed (suc n) i h =
    let before = packed_lists starts lengths packed n in
    by_test (ltb i n)
    (λ t. let l = ltb-true i n t in
    get_or-append before _ [] i (omega (arith, length-packed starts lengths packed n))
    ∙ packed_at starts lengths packed n i l)
    (λ f. let e : i ≡ n = omega (arith, ltb-false i n f) in
    rw e (get_or_at before (list_at starts lengths packed n) [] [] n (length-packed starts lengths packed n)))
