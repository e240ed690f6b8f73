-- The lists of the tables that the words are. Assumes nothing.
use Prim.Native.Nat.{ℕ, suc, ◌+◌, ◌*◌, ◌<◌, ◌≤◌, min}
use mathlib.Core.Path.{◌≡◌, refl, sym, ◌∙◌}
use mathlib.Core.Bool.{◌||◌}
use mathlib.Core.List as L
use native.Mathlib.Nat.{one-mul, mul-suc, mul-le-mul_left}
use native.Mathlib.Omega.{arith}
use borrow.Author.Tests.{ltb-true, ltb-false}
use lib.Dec.{ltb}
use lib.ListN.{drop, get_or-eq_default}
use lib.Seq.{get_or-drop}
use Rattle.laws.proofs.Tests.{by_test}
use Rattle.tables.specs.declared.List.{List}
use Rattle.tables.specs.declared.Tables.{Tables}
use Rattle.scene.specs.Lists.{starts_of, lengths_of}
use Rattle.scene.specs.Walk.{Outcome, walk_of}
use Rattle.scene.specs.Steps.{walk_packed}
use Rattle.scene.specs.Meaning.{Sized, Answer}
use Rattle.scene.specs.Meaning.Unfit.{nodes as too_many}
use Rattle.scene.specs.Meaning.Answer.{no_scene, unfit, short, walked}
use Rattle.scene.proofs.Exact.{walk_exact}
use Rattle.scene.proofs.Packed.{walk_packed_lem}
use Rattle.device.specs.Meaning.{whole_walk}
use Rattle.device.specs.Words as W
use Rattle.device.specs.Words.{word, list_from, entries, tables_of}
use Rattle.device.proofs.Cuts.{Cut, walk_cut}
use Rattle.device.proofs.Entries.{entries_at, length-entries, map-entries, entries_same}

-- the last of the words that a pass over n of them looks at
pub within : (from step i n : ℕ) → 0 < step → i < n → from + step * n ≤ 4000 → from + step * i < 4000
within from step i n h l e =
    omega (arith, mul-le-mul_left {m = suc i} {n = n} step l, mul-suc step i)

-- n list records of two words each: where each list starts, ..
starts_at : (ws : L.List ℕ) (n p : ℕ)
    → starts_of (entries n (λ i. list_from (drop (p + 2 * i) ws))) ≡ entries n (λ i. W.short ws (p + 2 * i))
unfolding list_from
starts_at ws n p =
    map-entries (λ (r : List). r.start) n (λ i. list_from (drop (p + 2 * i) ws)) (λ i. W.short ws (p + 2 * i))
    (λ i. let e : p + 2 * i + 0 ≡ p + 2 * i = omega arith in rw (get_or-drop (p + 2 * i) ws 0 0, e))

-- .. and how long it is
lengths_at : (ws : L.List ℕ) (n p q : ℕ) → q ≡ p + 1
    → lengths_of (entries n (λ i. list_from (drop (p + 2 * i) ws))) ≡ entries n (λ i. W.short ws (q + 2 * i))
unfolding list_from
lengths_at ws n p q h =
    map-entries (λ (r : List). r.length) n (λ i. list_from (drop (p + 2 * i) ws)) (λ i. W.short ws (q + 2 * i))
    (λ i. let e : p + 2 * i + 1 ≡ q + 2 * i = omega arith in rw (get_or-drop (p + 2 * i) ws 1 0, e))

-- numbers that lie one after the other
numbers_at : (f : ℕ → ℕ) (n p : ℕ) → entries n (λ i. f (p + 1 * i)) ≡ entries n (λ i. f (p + i))
numbers_at f n p = entries_same n (λ i. f (p + 1 * i)) (λ i. f (p + i)) (λ i. rw (one-mul i))

-- the walk over lists that were copied out of the words
pub walk_words : (ws ns nl ch ss sl rs : L.List ℕ) (nodes scenes : ℕ)
    → ns ≡ entries 128 (λ i. W.short ws (2576 + 2 * i)) → nl ≡ entries 128 (λ i. W.short ws (2577 + 2 * i))
    → ch ≡ entries 128 (λ i. W.short ws (2832 + 1 * i)) → ss ≡ entries 8 (λ i. W.short ws (2960 + 2 * i))
    → sl ≡ entries 8 (λ i. W.short ws (2961 + 2 * i)) → rs ≡ entries 1024 (λ i. W.short ws (2976 + 1 * i))
    → nodes ≡ word ws 3 → scenes ≡ word ws 4 → (scene : ℕ) (list : L.List ℕ)
    → walk_packed (ltb 1 (word ws 0) || ltb 64 (word ws 1) || ltb 128 (word ws 2))
    ns nl ch nodes ss sl rs scenes scene list ≡ walk_of (tables_of ws) scene list
unfolding tables_of
walk_words ws ns nl ch ss sl rs nodes scenes e1 e2 e3 e4 e5 e6 e7 e8 scene list =
    rw (
      e7,
      e8,
      e1 ∙ sym (starts_at ws 128 2576),
      e2 ∙ sym (lengths_at ws 128 2576 2577 (omega arith)),
      e3 ∙ numbers_at (W.short ws) 128 2832,
      e4 ∙ sym (starts_at ws 8 2960),
      e5 ∙ sym (lengths_at ws 8 2960 2961 (omega arith)),
      e6 ∙ numbers_at (W.short ws) 1024 2976,
    ) (walk_packed_lem (tables_of ws) scene list)

-- the arrays have the lengths of their type
pub words_sized : (ws : L.List ℕ) → Sized (tables_of ws)
unfolding tables_of
words_sized ws =
    record {
      nodes = length-entries 128 (λ i. list_from (drop (2576 + 2 * i) ws));
      children = length-entries 128 (λ i. W.short ws (2832 + i));
      scenes = length-entries 8 (λ i. list_from (drop (2960 + 2 * i) ws));
      roots = length-entries 1024 (λ i. W.short ws (2976 + i));
    }

few_of : (t : Tables) (scene : ℕ) (list : L.List ℕ) {o : Outcome} → Answer t scene list o → o.walked.count ≤ 128
few_of t scene list (no_scene h) = omega arith
few_of t scene list (unfit a b h) = omega arith
few_of t scene list (short a b fit order found h) = omega arith
few_of t scene list (walked a b fit order found h) =
    by_test (ltb 128 t.nodes) (λ e. absurd (fit (too_many (ltb-true 128 t.nodes e))))
    (λ e. omega (arith, found.few, ltb-false 128 t.nodes e))

-- no walk counts more than 128 nodes
pub walk_few : (ws : L.List ℕ) (scene : ℕ) (list : L.List ℕ) → (walk_of (tables_of ws) scene list).walked.count ≤ 128
walk_few ws scene list = few_of (tables_of ws) scene list (walk_exact (tables_of ws) (words_sized ws) scene list)

-- entries that are cut one by one
cut_entries : (n : ℕ) (f : ℕ → ℕ) → Cut (entries n f) (entries n (λ i. min (f i) 65535))
cut_entries n f =
    record {
      same = length-entries n (λ i. min (f i) 65535) ∙ sym (length-entries n f);
      at = λ i. by_test (ltb i n)
          (λ t. let l = ltb-true i n t in
          rw (entries_at n (λ i. min (f i) 65535) i 0 l, entries_at n f i 0 l))
          (λ t. let l = ltb-false i n t in
          rw (
            get_or-eq_default (entries n (λ i. min (f i) 65535)) 0 {n = i} (omega (arith, length-entries n (λ i. min (f i) 65535))),
            get_or-eq_default (entries n f) 0 {n = i} (omega (arith, length-entries n f)),
          ));
    }

-- the walk over cut words is that over whole words
pub walk_whole : (ws : L.List ℕ) (scene : ℕ) (list : L.List ℕ) → walk_of (tables_of ws) scene list ≡ whole_walk ws scene list
unfolding whole_walk
walk_whole ws scene list =
    let ns : ℕ → ℕ = λ i. word ws (2576 + 2 * i) in
    let nl : ℕ → ℕ = λ i. word ws (2577 + 2 * i) in
    let ch : ℕ → ℕ = λ i. word ws (2832 + i) in
    let ss : ℕ → ℕ = λ i. word ws (2960 + 2 * i) in
    let sl : ℕ → ℕ = λ i. word ws (2961 + 2 * i) in
    let rs : ℕ → ℕ = λ i. word ws (2976 + i) in
    sym (walk_words ws _ _ _ _ _ _ (word ws 3) (word ws 4) refl refl (sym (numbers_at (W.short ws) 128 2832)) refl refl
    (sym (numbers_at (W.short ws) 1024 2976)) refl refl scene list)
    ∙ walk_cut (entries 128 ns) (entries 128 nl) (entries 128 ch) _ _ _ (entries 8 ss) (entries 8 sl) (entries 1024 rs) _ _ _
    (cut_entries 128 ns) (cut_entries 128 nl) (cut_entries 128 ch) (cut_entries 8 ss) (cut_entries 8 sl) (cut_entries 1024 rs)
    (omega (arith, length-entries 128 ch)) (omega (arith, length-entries 1024 rs)) (word ws 3) (word ws 4)
    (ltb 1 (word ws 0) || ltb 64 (word ws 1) || ltb 128 (word ws 2)) scene list
