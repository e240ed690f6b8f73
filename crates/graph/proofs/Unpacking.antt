-- Packed lists come back: each is where its record says, whatever stands after it.
-- Assumes nothing.
use Prim.Native.Nat.{ℕ, zero, suc, ◌+◌, ◌<◌, ◌≤◌}
use mathlib.Core.Path.{◌≡◌, refl, sym, ap, ◌∙◌}
use mathlib.Core.Bool.{false, cond}
use mathlib.Core.List.{List, [], ◌∷◌, ◌++◌, append_assoc}
use native.Mathlib.Nat.{le_of_suc-le-suc, not-suc-le-zero}
use native.Mathlib.Omega.{arith}
use borrow.Author.Tests.{ne_eqb, le-ltb}
use lib.Dec.{eqb}
use lib.ListN.{get_or, length, take, drop, length-append, get_or-append}
use lib.Seq.{take_at, drop_at, take-suc, take-length}
use Rattle.laws.proofs.Tests.{by_test}
use Rattle.laws.proofs.Search.{any_none}
use Rattle.graph.specs.Graph.{joined, graph_fault}
use Rattle.graph.specs.Packing.{list_at, packed_lists, misplaced, packed_fault_of, starts_from, lengths_of}

-- a start for each list, wherever the first starts
starts_length : (lists : List (List ℕ)) (at : ℕ) → length (starts_from at lists) ≡ length lists
unfolding starts_from
starts_length [] at = refl
starts_length (list ∷ lists) at = ap suc (starts_length lists _)

-- a start for each list
pub length-starts : (at : ℕ) (lists : List (List ℕ)) → length (starts_from at lists) ≡ length lists
length-starts at lists = starts_length lists at

-- a length for each list
pub length-lengths : (lists : List (List ℕ)) → length (lengths_of lists) ≡ length lists
unfolding lengths_of
length-lengths [] = refl
length-lengths (list ∷ lists) = ap suc (length-lengths lists)

-- a list that starts at the end of what lies before it, or at 0 where it is empty
part : (before list after : List ℕ)
    → take (length list) (drop (cond (eqb (length list) 0) 0 (length before)) (before ++ (list ++ after))) ≡ list
part before [] after = refl
part before (x ∷ list) after =
    rw (ne_eqb (suc (length list)) 0 (λ e. omega arith), drop_at before ((x ∷ list) ++ after) (length before) refl)
    (take_at (x ∷ list) after (suc (length list)) refl)

-- list i, with other lists before the first and anything after the last
part_at : (before : List ℕ) (lists : List (List ℕ)) (after : List ℕ) (i : ℕ) → i < length lists
    → take (get_or (lengths_of lists) i 0)
    (drop (get_or (starts_from (length before) lists) i 0) (before ++ (joined lists ++ after)))
    ≡ get_or lists i []
unfolding starts_from lengths_of joined
part_at before [] after i l = absurd (not-suc-le-zero l)
part_at before (list ∷ lists) after zero l =
    rw (append_assoc list (joined lists) after) (part before list (joined lists ++ after))
part_at before (list ∷ lists) after (suc i) l =
    let e : before ++ ((list ++ joined lists) ++ after) ≡ (before ++ list) ++ (joined lists ++ after) = simp append_assoc in
    rw (e, ← length-append before list) (part_at (before ++ list) lists after i (le_of_suc-le-suc l))

-- every list ends within the packed list
end_at : (at : ℕ) (lists : List (List ℕ)) (i : ℕ) → i < length lists
    → get_or (starts_from at lists) i 0 + get_or (lengths_of lists) i 0 ≤ at + length (joined lists)
unfolding starts_from lengths_of joined
end_at at [] i l = absurd (not-suc-le-zero l)
end_at at (list ∷ lists) zero l =
    by_test (eqb (length list) 0)
    (λ t. rw (length-append list (joined lists), t) (omega arith))
    (λ f. rw (length-append list (joined lists), f) (omega arith))
end_at at (list ∷ lists) (suc i) l =
    rw (length-append list (joined lists)) (omega (arith, end_at (at + length list) lists i (le_of_suc-le-suc l)))

-- Lists, and what stands after their records and after their entries.
module _ (lists : List (List ℕ)) (a b c : List ℕ) where
  -- the starts
  abbrev starts : List ℕ
  starts = starts_from 0 lists ++ a

  -- the lengths
  abbrev lengths : List ℕ
  lengths = lengths_of lists ++ b

  -- the packed list
  abbrev packed : List ℕ
  packed = joined lists ++ c

  -- a start is not changed by what stands after
  start_is : (i : ℕ) → i < length lists → get_or starts i 0 ≡ get_or (starts_from 0 lists) i 0
  start_is i l = get_or-append (starts_from 0 lists) a 0 i (omega (arith, length-starts 0 lists))

  -- nor is a length
  length-is : (i : ℕ) → i < length lists → get_or lengths i 0 ≡ get_or (lengths_of lists) i 0
  length-is i l = get_or-append (lengths_of lists) b 0 i (omega (arith, length-lengths lists))

  -- each list is where its record says
  pub unpack_at : (i : ℕ) → i < length lists → list_at starts lengths packed i ≡ get_or lists i []
  unpack_at i l = rw (start_is i l, length-is i l) (part_at [] lists c i l)

  -- the first n lists come back
  front : (n : ℕ) → n ≤ length lists → packed_lists starts lengths packed n ≡ take n lists
  unfolding packed_lists
  front zero l = refl
  front (suc n) l = rw (front n (omega arith), unpack_at n l) (sym (take-suc lists n [] l))

  -- and so all come back
  pub unpack : packed_lists starts lengths packed (length lists) ≡ lists
  unpack = front (length lists) (omega arith) ∙ take-length lists

  -- packed lists are in their places
  pub packed_placed : (capacity : ℕ) → length lists ≤ capacity
      → misplaced capacity starts lengths packed (length lists) ≡ false
  unfolding misplaced
  packed_placed capacity l =
      rw (
        le-ltb capacity (length lists) l,
        le-ltb (length starts) (length lists) (omega (arith, length-append (starts_from 0 lists) a, length-starts 0 lists)),
        le-ltb (length lengths) (length lists) (omega (arith, length-append (lengths_of lists) b, length-lengths lists)),
      )
      (any_none _ (length lists) (λ i h. le-ltb (length packed) (get_or starts i 0 + get_or lengths i 0)
      (omega (arith, start_is i h, length-is i h, end_at 0 lists i h, length-append (joined lists) c))))

-- the verdict on a graph's packed lists is the graph's, for at most 128 nodes and 8 scenes
pub packed_is : (kids roots : List (List ℕ)) (a b c d e f : List ℕ) → length kids ≤ 128 → length roots ≤ 8
    → packed_fault_of (starts_from 0 kids ++ a) (lengths_of kids ++ b) (joined kids ++ c) (length kids)
    (starts_from 0 roots ++ d) (lengths_of roots ++ e) (joined roots ++ f) (length roots)
    ≡ graph_fault kids roots
unfolding packed_fault_of
packed_is kids roots a b c d e f h k =
    rw (packed_placed kids a b c 128 h, packed_placed roots d e f 8 k, unpack kids a b c, unpack roots d e f) refl
