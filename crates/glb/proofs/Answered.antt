-- What the layers answer, and what `check` answers then.
-- Assumes nothing.
use Prim.Native.Nat.{ℕ, ◌+◌, ◌-◌, ◌<◌}
use native.Mathlib.Omega.{arith}
use mathlib.Core.Path.{◌≡◌, refl, sym, ap, ◌∙◌}
use mathlib.Core.Bool.{Bool, true, false}
use mathlib.Core.List.{List}
use borrow.Author.Tests.{eq-eqb}
use lib.Dec.{eqb}
use lib.ListN.{take, drop}
use Rattle.std.specs.Prelude.{Ok, Err}
use Rattle.laws.proofs.Tests.{by_test}
use Rattle.container.specs.declared.Container as Code
use Rattle.container.specs.declared.Fault as Chunks
use Rattle.container.specs.Records.{Container}
use Rattle.container.specs.Rules.{container_of}
use Rattle.container.specs.Results.{record_of, outcome_of as container_outcome}
use Rattle.container.proofs.Outcomes.{outcome_whole}
use Rattle.text.specs.declared.Fault as Text
use Rattle.tables.specs.declared.Tables.{Tables}
use Rattle.tables.specs.declared.finding.Finding.{Finding}
use Rattle.tables.specs.Results.{outcome_of as found_outcome}
use Rattle.graph.specs.declared.verdict.Fault.{Fault}
use Rattle.graph.specs.Results.{fault_of, outcome_of as graph_outcome}
use Rattle.document.specs.declared.Document as Read
use Rattle.document.specs.Flags.{Document}
use Rattle.document.specs.Tops.{document_answer}
use Rattle.document.specs.Said.{document_of}
use Rattle.glb.specs.Check.{json_of, placed_at, first_finding, late_finding, refused, answer, check_document, check_of}
use Rattle.glb.specs.Results.{outcome_of, checked_of}

-- the record that a container stands for is the file's
pub opened : (f : List ℕ) (c : Code.Container) → container_outcome (container_of f) ≡ Ok c → record_of (Ok c) ≡ container_of f
opened f c e = ap record_of (sym e) ∙ outcome_whole f

-- then none of rules 1 to 8 is broken
pub opened_none : (f : List ℕ) (c : Code.Container) → container_outcome (container_of f) ≡ Ok c → (container_of f).number ≡ 0
unfolding record_of
opened_none f c e = sym (ap (λ (r : Container). r.number) (opened f c e))

-- one of rules 1 to 8 is broken
pub chunks_err : (f : List ℕ) (b : Chunks.Fault) → container_outcome (container_of f) ≡ Err b
    → Err (record { rule = b.rule; item = b.item }) ≡ outcome_of (check_of f)
unfolding container_outcome check_of refused outcome_of
chunks_err f b e =
    by_test (eqb (container_of f).number 0)
    (λ t. absurd (cc (rw t at e)))
    (λ t. let same : record { rule = (container_of f).number; item = (container_of f).item } ≡ b = cc (rw t at e) in rw (← same, t, t))

-- one of rules 9 to 18
pub text_err : (f : List ℕ) (x : Text.Fault) → (container_of f).number ≡ 0 → document_answer (document_of (json_of f (container_of f))) ≡ Err x
    → Err (record { rule = x.number; item = 0 }) ≡ outcome_of (check_of f)
unfolding check_of check_document refused outcome_of
text_err f x z e =
    by_test (eqb (document_of (json_of f (container_of f))).number 0)
    (λ t. absurd (cc (rw t at e)))
    (λ t. let same : record { number = (document_of (json_of f (container_of f))).number; place = (document_of (json_of f (container_of f))).place } ≡ x = cc (rw t at e) in
    rw (z, ← same, t, t))

-- what the text says
pub record Says (d : Document) (r : Read.Document) : Type 0 where
  pub number : eqb d.number 0 ≡ true
  pub tables : r.tables ≡ d.tables
  pub placed : r.placed ≡ d.placed
  pub graph : r.graph ≡ graph_outcome d.graph

pub read_ok : (d : Document) (r : Read.Document) → document_answer d ≡ Ok r → Says d r
read_ok d r e =
    by_test (eqb d.number 0)
    (λ t. let same : record { tables = d.tables; placed = d.placed; graph = graph_outcome d.graph } ≡ r = cc (rw t at e) in
    record { number = t; tables = rw (← same) refl; placed = rw (← same) refl; graph = rw (← same) refl })
    (λ t. absurd (cc (rw t at e)))

-- the part that is read is the JSON chunk
pub chunk_read : (f : List ℕ) (c : Code.Container) → container_outcome (container_of f) ≡ Ok c
    → take (c.json.start + c.json.length - c.json.start) (drop c.json.start f) ≡ json_of f (container_of f)
unfolding record_of
chunk_read f c e =
    let k : c.json.start + c.json.length - c.json.start ≡ c.json.length = omega arith in
    rw (← opened f c e, k)

-- the graph's answer by its number
outcome_none : (g : Fault) → eqb g.number 0 ≡ true → graph_outcome g ≡ Ok tt
unfolding graph_outcome
outcome_none g e = rw e

outcome_some : (g : Fault) → eqb g.number 0 ≡ false → graph_outcome g ≡ Err g
unfolding graph_outcome
outcome_some g e = rw e

-- where no rule is broken the graph's item does not count
late_same : (f : List ℕ) (c : Container) (t : Tables) (placed : List Bool) (g : Fault)
    → late_finding f c t placed (fault_of (graph_outcome g)) ≡ late_finding f c t placed g
unfolding late_finding first_finding fault_of
late_same f c t placed g =
    by_test (eqb g.number 0) (λ e. rw (outcome_none g e, e)) (λ e. rw (outcome_some g e))

-- an answer by what rules 19 to 47 find
answer_err : (x y : Finding) (t : Tables) → found_outcome x ≡ Err y → outcome_of (answer x t) ≡ Err (record { rule = y.rule; item = y.item })
unfolding outcome_of refused
answer_err x y t h =
    by_test (eqb x.rule 0)
    (λ e. absurd (cc (rw e at h)))
    (λ e. let s : x ≡ y = cc (rw e at h) in rw (e, e, s))

answer_ok : (x : Finding) (t : Tables) → found_outcome x ≡ Ok tt → outcome_of (answer x t) ≡ Ok t
unfolding outcome_of refused
answer_ok x t h = by_test (eqb x.rule 0) (λ e. rw e) (λ e. absurd (cc (rw e at h)))

-- an answer is the same again
pub graph_again : (g : Fault) → graph_outcome g ≡ graph_outcome (fault_of (graph_outcome g))
unfolding fault_of graph_outcome
graph_again g = by_test (eqb g.number 0) (λ e. rw e) (λ e. rw (e, e))

-- the item of a broken rule
pub item_again : (g : Fault) → g.item < 4294967296 → (fault_of (graph_outcome g)).item < 4294967296
unfolding fault_of graph_outcome
item_again g l = by_test (eqb g.number 0) (λ e. rw e (omega arith)) (λ e. rw e l)

module _ (f : List ℕ) (c : Code.Container) (e : container_outcome (container_of f) ≡ Ok c) (r : Read.Document)
    (says : Says (document_of (json_of f (container_of f))) r) where
  abbrev d : Document
  d = document_of (json_of f (container_of f))

  -- the tables, placed
  abbrev laid : Tables
  laid = placed_at (container_of f).bin_start d.tables

  pub tables_laid : (s : ℕ) → s ≡ (record_of (Ok c)).bin_start → placed_at s r.tables ≡ laid
  tables_laid s h = rw (h, says.tables, opened f c e)

  -- what rules 19 to 47 find
  pub late_is : late_finding f (record_of (Ok c)) laid r.placed (fault_of r.graph) ≡ late_finding f (container_of f) laid d.placed d.graph
  late_is = rw (opened f c e, says.placed, says.graph) (late_same f (container_of f) laid d.placed d.graph)

  check_is : check_of f ≡ answer (late_finding f (container_of f) laid d.placed d.graph) laid
  unfolding check_of check_document
  check_is = rw (eq-eqb (container_of f).number 0 (opened_none f c e), says.number)

  pub late_err : (x : Finding) → found_outcome (late_finding f (record_of (Ok c)) laid r.placed (fault_of r.graph)) ≡ Err x
      → Err (record { rule = x.rule; item = x.item }) ≡ outcome_of (check_of f)
  late_err x h =
      sym (answer_err (late_finding f (container_of f) laid d.placed d.graph) x laid (rw late_is at h)) ∙ ap outcome_of (sym check_is)

  pub late_ok : found_outcome (late_finding f (record_of (Ok c)) laid r.placed (fault_of r.graph)) ≡ Ok tt → Ok laid ≡ outcome_of (check_of f)
  late_ok h =
      sym (answer_ok (late_finding f (container_of f) laid d.placed d.graph) laid (rw late_is at h)) ∙ ap outcome_of (sym check_is)

-- `outcome_of` leaves out nothing that `check_of` says
whole_refused : (n i : ℕ) → eqb n 0 ≡ false → checked_of (outcome_of (refused n i)) ≡ refused n i
unfolding refused outcome_of checked_of
whole_refused n i e = rw e

whole_answer : (x : Finding) (t : Tables) → checked_of (outcome_of (answer x t)) ≡ answer x t
unfolding outcome_of checked_of
whole_answer x t = by_test (eqb x.rule 0) (λ e. rw e) (λ e. rw e (whole_refused x.rule x.item e))

pub check_whole : (f : List ℕ) → checked_of (outcome_of (check_of f)) ≡ check_of f
unfolding check_of check_document
check_whole f =
    by_test (eqb (container_of f).number 0)
    (λ a. by_test (eqb (document_of (json_of f (container_of f))).number 0)
    (λ b. rw (a, b) (whole_answer _ _))
    (λ b. rw (a, b) (whole_refused _ 0 b)))
    (λ a. rw a (whole_refused _ _ a))
