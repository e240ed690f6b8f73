-- The groups of rules 19 to 47 in their order: the first that finds a rule stops the check.
-- Assumes nothing.
use Prim.Native.Nat.{ℕ}
use mathlib.Core.Path.{◌≡◌, refl, sym, ap, ◌∙◌}
use mathlib.Core.Bool.{Bool}
use mathlib.Core.List.{List, [], ◌∷◌}
use lib.Dec.{eqb}
use Rattle.std.specs.Prelude.{Result, Ok, Err}
use Rattle.laws.proofs.Tests.{by_test}
use Rattle.container.specs.Records.{Container}
use Rattle.tables.specs.declared.Tables.{Tables}
use Rattle.tables.specs.declared.finding.Finding.{Finding}
use Rattle.tables.specs.Results.{outcome_of}
use Rattle.tables.specs.Views.{views_finding}
use Rattle.tables.specs.Accessors.{accessors_finding}
use Rattle.graph.specs.declared.verdict.Fault.{Fault}
use Rattle.graph.specs.Results.{fault_of, outcome_of as graph_outcome}
use Rattle.data.specs.Sparse.{sparse_finding}
use Rattle.glb.specs.Check.{buffer_finding, graph_finding, scene_finding, first_finding, late_finding}

-- a group that finds nothing is passed
pass : (x : Finding) (xs : List Finding) → outcome_of x ≡ Ok tt → first_finding (x ∷ xs) ≡ first_finding xs
unfolding first_finding
pass x xs h = by_test (eqb x.rule 0) (λ t. rw t) (λ t. absurd (cc (rw t at h)))

-- one that finds a rule ends the search
stop : (x : Finding) (xs : List Finding) (e : Finding) → outcome_of x ≡ Err e → Err e ≡ outcome_of (first_finding (x ∷ xs))
unfolding first_finding
stop x xs e h = by_test (eqb x.rule 0) (λ t. absurd (cc (rw t at h))) (λ t. rw (t, t) (sym (rw t at h)))

-- the last group decides
last : (x : Finding) → outcome_of x ≡ outcome_of (first_finding (x ∷ []))
unfolding first_finding
last x = by_test (eqb x.rule 0) (λ t. rw t) (λ t. rw (t, t))

-- what the graph's answer says as a finding
pub graph_found : (r : Result Unit Fault) (e : Fault) → r ≡ graph_outcome (fault_of r) → r ≡ Err e
    → outcome_of (graph_finding (fault_of r)) ≡ Err (record { rule = e.number; item = e.item })
unfolding graph_outcome fault_of
graph_found (Ok x) e h k = absurd (cc)
graph_found (Err g) e h k =
    let s : g ≡ e = cc in
    by_test (eqb g.number 0) (λ t. absurd (cc (rw t at h))) (λ t. rw (← s, t))

pub graph_none : (r : Result Unit Fault) (u : Unit) → r ≡ Ok u → outcome_of (graph_finding (fault_of r)) ≡ Ok tt
unfolding fault_of
graph_none (Ok x) u k = refl
graph_none (Err g) u k = absurd (cc)

module _ (f : List ℕ) (c : Container) (t : Tables) (placed : List Bool) (g : Fault) where
  pub buffer_err : (e : Finding) → outcome_of (buffer_finding f c t.buffers t.buffer_length) ≡ Err e → Err e ≡ outcome_of (late_finding f c t placed g)
  unfolding late_finding
  buffer_err e h = stop _ _ e h

  module _ (k : outcome_of (buffer_finding f c t.buffers t.buffer_length) ≡ Ok tt) where
    pub views_err : (e : Finding) → outcome_of (views_finding t.buffers t.buffer_length t.view_records t.views) ≡ Err e
        → Err e ≡ outcome_of (late_finding f c t placed g)
    unfolding late_finding
    views_err e h = stop _ _ e h ∙ ap outcome_of (sym (pass _ _ k))

    module _ (l : outcome_of (views_finding t.buffers t.buffer_length t.view_records t.views) ≡ Ok tt) where
      pub accessors_err : (e : Finding) → outcome_of (accessors_finding t.views t.view_records t.accessor_records placed t.accessors) ≡ Err e
          → Err e ≡ outcome_of (late_finding f c t placed g)
      unfolding late_finding
      accessors_err e h = stop _ _ e h ∙ ap outcome_of (sym (pass _ _ k ∙ pass _ _ l))

      module _ (m : outcome_of (accessors_finding t.views t.view_records t.accessor_records placed t.accessors) ≡ Ok tt) where
        pub sparse_err : (e : Finding) → outcome_of (sparse_finding f t.buffer_start t.accessor_records t.view_records t.accessors) ≡ Err e
            → Err e ≡ outcome_of (late_finding f c t placed g)
        unfolding late_finding
        sparse_err e h = stop _ _ e h ∙ ap outcome_of (sym (pass _ _ k ∙ pass _ _ l ∙ pass _ _ m))

        module _ (n : outcome_of (sparse_finding f t.buffer_start t.accessor_records t.view_records t.accessors) ≡ Ok tt) where
          pub graph_err : (e : Finding) → outcome_of (graph_finding g) ≡ Err e → Err e ≡ outcome_of (late_finding f c t placed g)
          unfolding late_finding
          graph_err e h = stop _ _ e h ∙ ap outcome_of (sym (pass _ _ k ∙ pass _ _ l ∙ pass _ _ m ∙ pass _ _ n))

          pub late_scene : outcome_of (graph_finding g) ≡ Ok tt
              → outcome_of (scene_finding t.has_scene t.scene t.scenes) ≡ outcome_of (late_finding f c t placed g)
          unfolding late_finding
          late_scene h = last _ ∙ ap outcome_of (sym (pass _ _ k ∙ pass _ _ l ∙ pass _ _ m ∙ pass _ _ n ∙ pass _ _ h))
