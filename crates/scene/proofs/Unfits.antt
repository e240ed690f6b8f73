-- 66 in the paper's words.
-- Assumes nothing.
use Prim.Native.Nat.{ℕ, ◌+◌, ◌<◌, ◌≤◌}
use mathlib.Core.Path.{◌≡◌, refl, sym, ap, ◌∙◌, subst}
use mathlib.Core.Bool.{Bool, true, false, not, true≢false, ◌||◌}
use mathlib.Core.List as L
use mathlib.Core.Logic.{⊎_elim}
use native.Mathlib.Omega.{arith}
use borrow.Author.Tests.{ltb-true, ltb-false, eq-eqb}
use lib.Dec.{ltb, eqb}
use lib.ListN.{get_or, length, length-map, get_or-map}
use Rattle.laws.specs.Search.{least}
use Rattle.laws.proofs.Tests.{by_test, or_false}
use Rattle.laws.proofs.Search.{any_at}
use Rattle.tables.specs.declared.List.{List}
use Rattle.tables.specs.declared.Tables.{Tables}
use Rattle.tables.specs.Records.{no_list}
use Rattle.graph.specs.declared.verdict.Fault.{Fault}
use Rattle.graph.specs.Graph.{graph_fault}
use Rattle.graph.specs.Rules.{Broken, Answer}
use Rattle.graph.specs.Rules.Broken.{child_past, child_again, no_top, root_past, root_again, root_below}
use Rattle.graph.specs.Rules.Answer.{sound, faulty}
use Rattle.graph.specs.Packing.{misplaced, packed_fault_of, packed_refused}
use Rattle.graph.proofs.Booleans.{or_cases}
use Rattle.graph.proofs.Exact.{graph_exact}
use Rattle.scene.specs.Lists.{starts_of, lengths_of, kids_of, roots_of}
use Rattle.scene.specs.Walk.{walk_unfit}
use Rattle.scene.specs.Meaning.{Sized, Unfit}
use Rattle.scene.proofs.Fit.{Fit, fit}

-- a count or a list that passes its capacity
pub data Misplaced (capacity room count : ℕ) (records : L.List List) : Type 0 where
  counted : capacity < count → Misplaced capacity room count records
  passes : (i : ℕ) → i < count → room < (get_or records i no_list).start + (get_or records i no_list).length
      → Misplaced capacity room count records

-- start plus length as the record has them
place : (records : L.List List) (i : ℕ)
    → get_or (starts_of records) i 0 + get_or (lengths_of records) i 0
    ≡ (get_or records i no_list).start + (get_or records i no_list).length
place records i =
    rw (get_or-map (λ (r : List). r.start) records i no_list, get_or-map (λ (r : List). r.length) records i no_list)
    refl

pub misplaced_says : (capacity count : ℕ) (records : L.List List) (packed : L.List ℕ) → length records ≡ capacity
    → misplaced capacity (starts_of records) (lengths_of records) packed count ≡ true
    → Misplaced capacity (length packed) count records
unfolding misplaced
misplaced_says capacity count records packed size t =
    let starts = starts_of records in
    let lengths = lengths_of records in
    let passing : ℕ → Bool = λ i. ltb (length packed) (get_or starts i 0 + get_or lengths i 0) in
    ⊎_elim
    (λ a. ⊎_elim
    (λ b. ⊎_elim (λ e. counted (ltb-true _ _ e))
    (λ e. counted (omega (arith, ltb-true (length starts) count e, length-map records (λ (r : List). r.start))))
    (or_cases (ltb capacity count) (ltb (length starts) count) b))
    (λ e. counted (omega (arith, ltb-true (length lengths) count e, length-map records (λ (r : List). r.length))))
    (or_cases (ltb capacity count || ltb (length starts) count) (ltb (length lengths) count) a))
    (λ e. let p = any_at passing count e in
    let i = least passing count in
    passes i p.0 (subst (λ (k : ℕ). length packed < k) (place records i) (ltb-true (length packed) _ p.1)))
    (or_cases (ltb capacity count || ltb (length starts) count || ltb (length lengths) count) _ t)

-- rules are numbered from 41
numbered : {kids roots : L.List (L.List ℕ)} {n i : ℕ} → Broken kids roots n i → 41 ≤ n
numbered (child_past node x c l) = omega arith
numbered (child_again x l a) = omega arith
numbered (no_top x l h) = omega arith
numbered (root_past scene x c l) = omega arith
numbered (root_again scene x l a) = omega arith
numbered (root_below scene x p c d) = omega arith

-- a fault with a number breaks a rule, ..
faulted : {kids roots : L.List (L.List ℕ)} {f : Fault} → Answer kids roots f → (f.number ≡ 0 → ⊥)
    → (n : ℕ) × (i : ℕ) × Broken kids roots n i
faulted (sound h) some = absurd (some refl)
faulted (faulty n i v) some = (n, i, v.broken)

-- .. and without one none is broken
faultless : {kids roots : L.List (L.List ℕ)} {f : Fault} → Answer kids roots f → f.number ≡ 0
    → (n i : ℕ) → Broken kids roots n i → ⊥
faultless (sound h) e n i b = h n i b
faultless (faulty m j v) e n i b = absurd (omega (arith, numbered v.broken))

module _ (t : Tables) (sized : Sized t) where
  nodes_unfit : Misplaced 128 (length t.children) t.nodes t.node_lists → Unfit t
  nodes_unfit (counted l) = Unfit.nodes l
  nodes_unfit (passes i l h) = Unfit.children i l (omega (arith, sized.children))

  scenes_unfit : Misplaced 8 (length t.roots) t.scenes t.scene_lists → Unfit t
  scenes_unfit (counted l) = Unfit.scenes l
  scenes_unfit (passes i l h) = Unfit.roots i l (omega (arith, sized.roots))

  abbrev refusal : Bool
  refusal =
      packed_refused (starts_of t.node_lists) (lengths_of t.node_lists) t.children t.nodes
      (starts_of t.scene_lists) (lengths_of t.scene_lists) t.roots t.scenes

  graph_unfit : refusal ≡ true → Unfit t
  unfolding packed_refused packed_fault_of
  graph_unfit e =
      let nodes = misplaced 128 (starts_of t.node_lists) (lengths_of t.node_lists) t.children t.nodes in
      let scenes = misplaced 8 (starts_of t.scene_lists) (lengths_of t.scene_lists) t.roots t.scenes in
      by_test (nodes || scenes)
      (λ h. ⊎_elim
      (λ a. nodes_unfit (misplaced_says 128 t.nodes t.node_lists t.children sized.nodes a))
      (λ a. scenes_unfit (misplaced_says 8 t.scenes t.scene_lists t.roots sized.scenes a))
      (or_cases nodes scenes h))
      (λ h. let f = (graph_fault (kids_of t) (roots_of t)).number in
      let given : not (eqb f 0) ≡ true = rw h at e in
      let w = faulted (graph_exact (kids_of t) (roots_of t))
      (λ z. true≢false (sym given ∙ ap not (eq-eqb f 0 z))) in
      Unfit.rule w.0 w.1 w.2)

  -- 66 is given: the tables are unfit, ..
  pub unfit_yes : walk_unfit t ≡ true → Unfit t
  unfolding walk_unfit
  unfit_yes e =
      let a = ltb 1 t.buffers in
      let b = ltb 64 t.views in
      let c = ltb 128 t.accessors in
      ⊎_elim
      (λ h. ⊎_elim
      (λ k. ⊎_elim (λ z. Unfit.buffers (ltb-true _ _ z)) (λ z. Unfit.views (ltb-true _ _ z)) (or_cases a b k))
      (λ k. Unfit.accessors (ltb-true _ _ k))
      (or_cases (a || b) c h))
      (λ h. graph_unfit h)
      (or_cases (a || b || c) refusal e)

  -- .. and it is not given: they are not
  pub unfit_no : walk_unfit t ≡ false → Unfit t → ⊥
  unfolding walk_unfit
  unfit_no e u =
      let p = or_false (ltb 1 t.buffers || ltb 64 t.views || ltb 128 t.accessors) refusal e in
      let q = or_false (ltb 1 t.buffers || ltb 64 t.views) (ltb 128 t.accessors) p.0 in
      let r = or_false (ltb 1 t.buffers) (ltb 64 t.views) q.0 in
      none (ltb-false _ _ r.0) (ltb-false _ _ r.1) (ltb-false _ _ q.1) (fit _ _ _ _ _ _ _ _ p.1) u
    where
      none : t.buffers ≤ 1 → t.views ≤ 64 → t.accessors ≤ 128
          → Fit (starts_of t.node_lists) (lengths_of t.node_lists) t.children t.nodes
          (starts_of t.scene_lists) (lengths_of t.scene_lists) t.roots t.scenes
          → Unfit t → ⊥
      none b v a ok (Unfit.buffers h) = omega arith
      none b v a ok (Unfit.views h) = omega arith
      none b v a ok (Unfit.accessors h) = omega arith
      none b v a ok (Unfit.nodes h) = omega (arith, ok.nodes.fits)
      none b v a ok (Unfit.scenes h) = omega (arith, ok.scenes.fits)
      none b v a ok (Unfit.children i l h) =
          omega (arith, (ok.nodes.lists i l).within, place t.node_lists i, sized.children)
      none b v a ok (Unfit.roots i l h) =
          omega (arith, (ok.scenes.lists i l).within, place t.scene_lists i, sized.roots)
      none b v a ok (Unfit.rule n i h) = faultless (graph_exact (kids_of t) (roots_of t)) ok.sound n i h
