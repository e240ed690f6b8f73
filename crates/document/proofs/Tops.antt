-- The top, as it is read by Result and Option, is what the tree says.
-- Assumes nothing.
use Prim.Native.Nat.{ℕ}
use mathlib.Core.Path.{◌≡◌, refl, sym, ap, ◌∙◌}
use mathlib.Core.Bool.{Bool, true, false, not, ◌||◌, true≢false}
use lib.Dec.{ltb, eqb}
use lib.ListN.{length, get_or}
use borrow.Author.Tests.{ne_eqb, ltb-false}
use Rattle.std.specs.Prelude.{Result, Ok, Err, Some, None, is_ok, IsErr, cond}
use Rattle.std.specs.Prelude as P
use Rattle.laws.proofs.Tests.{by_test, or_false}
use Rattle.json_text.specs.Tree.{Json}
use Rattle.nav.specs.Places.{given}
use Rattle.nav.specs.Integers.{integer_of}
use Rattle.nav.specs.Members.{field_of}
use mathlib.Core.Option.{Option, some, none}
use mathlib.Core.List.{List}
use Rattle.std.proofs.lemmas.Result.{IfOk-at_ok}
use Rattle.graph.specs.declared.verdict.Fault.{Fault as GraphFault}
use Rattle.graph.specs.Results.{outcome_of}
use Rattle.document.specs.declared.members.Unfit.{Unfit}
use Rattle.document.specs.declared.nodes.lists.ListsRead.{ListsRead}
use Rattle.document.specs.declared.top.TopRead.{TopRead}
use Rattle.document.specs.Names.{'asset', 'extensionsRequired', 'buffers', 'nodes', 'scenes', 'children'}
use Rattle.document.specs.Members.{has, integer_member, number_of}
use Rattle.document.specs.Arrays.{elements_in}
use Rattle.document.specs.Buffers.{no_buffer, buffers_in}
use Rattle.document.specs.Views.{views_in}
use Rattle.document.specs.Accessors.{accessors_in}
use Rattle.document.specs.Packs.{nodes_read, scenes_read, sound, sound_nodes, sound_scenes, ReadsLists, Packed, zeros, starts_in, lengths_in}
use Rattle.document.specs.Lists.{lists_good, lists_of}
use Rattle.document.specs.Table.{read_members, fits_all}
use Rattle.document.specs.Rules.{is_asset, rule_by, rule14, rule15, rule16, rule17, rule18, document_rule}
use Rattle.document.specs.Said.{tables_from, tables_of, graph_of, refused, said, document_in}
use Rattle.document.specs.Tops.{number, buffers, views, accessors, MembersTo, ReadsTop, read_in, Few, is_over, tables_read, document_answer}
use Rattle.document.proofs.Fitting.{lists_count}
use Rattle.document.proofs.Parts as parts
use Rattle.document.proofs.Parts.{Parts, first_uri}

-- an integer that may be absent is what is read of it
pub number_is : (o : Option Json) {x : P.Option ℕ} → (integer_member false o).good ≡ true
    → cond (integer_member false o).has (Some (integer_member false o).value) None ≡ x → number x ≡ integer_member false o
unfolding integer_member
number_is none g e = rw (← e) refl
number_is (some j) g e = rw (← e) (by (integer_of j) g)
  where
    by : (n : P.Option ℕ) → (number_of n).good ≡ true → number (cond (number_of n).has (Some (number_of n).value) None) ≡ number_of n
    by (Some n) g = refl
    by None g = absurd (true≢false (sym g))

-- rule 16 is broken
pub tops_err : (r : Result (Unit {0}) Unfit) (m : TopRead) (j : Json) → IsErr r → fits_all read_members j ≡ false
    → ReadsTop j (read_in m r)
tops_err (Ok x) m j i e = absurd (true≢false (sym i))
tops_err (Err u) m j i e = record { good = sym e; are = tt }

-- it is not
pub tops_ok : {m : TopRead} (j : Json) → fits_all read_members j ≡ true → MembersTo j m → ReadsTop j (read_in m (Ok tt))
tops_ok j e p = record { good = sym e; are = p }

-- a rule that is broken at a place is the answer
pub refused_answer : (n p : ℕ) → (n ≡ 0 → ⊥) → document_answer (refused n p) ≡ Err (record { number = n; place = p })
unfolding refused
refused_answer n p h = rw (ne_eqb n 0 h) refl

-- The first of rules 14 to 18 that is broken.
module _ (j : Json) where
  pub is14 : rule14 j ≡ true → document_rule j ≡ 14
  unfolding rule_by
  is14 e = rw e refl

  module _ (a : rule14 j ≡ false) where
    pub is15 : rule15 j ≡ true → document_rule j ≡ 15
    unfolding rule_by
    is15 e = rw (a, e) refl

    module _ (b : rule15 j ≡ false) where
      pub is16 : rule16 j ≡ true → document_rule j ≡ 16
      unfolding rule_by
      is16 e = rw (a, b, e) refl

      module _ (c : rule16 j ≡ false) where
        pub is17 : rule17 j ≡ true → document_rule j ≡ 17
        unfolding rule_by
        is17 e = rw (a, b, c, e) refl

        module _ (d : rule17 j ≡ false) where
          pub is18 : rule18 j ≡ true → document_rule j ≡ 18
          unfolding rule_by
          is18 e = rw (a, b, c, d, e) refl

          pub is_none : rule18 j ≡ false → document_rule j ≡ 0
          unfolding rule_by
          is_none e = rw (a, b, c, d, e) refl

  -- the tree is refused where one is
  in_refused : (n : ℕ) → (n ≡ 0 → ⊥) → document_rule j ≡ n → document_in j ≡ refused n 0
  unfolding document_in
  in_refused n h e = rw (e, ne_eqb n 0 h) refl

  -- and that is the answer
  pub answer_refused : (n : ℕ) → (n ≡ 0 → ⊥) → document_rule j ≡ n
      → Err (record { number = n; place = 0 }) ≡ document_answer (document_in j)
  answer_refused n h e = sym (ap document_answer (in_refused n h e) ∙ refused_answer n 0 h)

  -- where none is
  pub answer_said : document_rule j ≡ 0 → document_answer (document_in j) ≡ document_answer (said j)
  unfolding document_in
  answer_said e = rw e refl

-- rule 14 by what is read of `asset`
pub asset_read : (j : Json) {a : Bool} → a ≡ given false is_asset (field_of 'asset' j) → rule14 j ≡ not a
unfolding rule14
asset_read j e = rw e refl

-- rule 15 by whether `extensionsRequired` is there
pub extensions_read : (j : Json) {a : Bool} → a ≡ given false (λ i. true) (field_of 'extensionsRequired' j) → rule15 j ≡ a
unfolding rule15
extensions_read j e = sym e

-- rule 16 where the members are read
pub kinds_ok : {j : Json} {r : Result TopRead Unfit} {m : TopRead} → ReadsTop j r → r ≡ Ok m → rule16 j ≡ false
unfolding rule16
kinds_ok x d = rw (← x.good, d) refl

-- and where they aren't
pub kinds_err : {j : Json} {r : Result TopRead Unfit} {u : Unfit} → ReadsTop j r → r ≡ Err u → rule16 j ≡ true
unfolding rule16
kinds_err x d = rw (← x.good, d) refl

-- the nodes with their lists or without
nodes_sound : (f : GraphFault) (l : ListsRead 128 128) → nodes_read (sound (outcome_of f) l) ≡ sound_nodes f.number (nodes_read l)
unfolding sound sound_nodes outcome_of
nodes_sound f l = by_test (eqb f.number 0) (λ t. rw t refl) (λ t. rw t refl)

-- and the scenes
scenes_sound : (f : GraphFault) (l : ListsRead 8 1024)
    → scenes_read (sound (outcome_of f) l) ≡ sound_scenes f.number (scenes_read l)
unfolding sound sound_scenes outcome_of
scenes_sound f l = by_test (eqb f.number 0) (λ t. rw t refl) (λ t. rw t refl)

module _ {j : Json} {m : TopRead} (p : MembersTo j m) where
  -- rule 17 by the counts
  pub over_read : rule17 j ≡ is_over m
  unfolding rule17 buffers_in views_in accessors_in
  over_read =
      rw (
        ap (λ b. b.count) p.buffers_are,
        ap (λ v. v.count) p.views_are,
        ap (λ a. a.count) p.accessors_are,
        p.nodes_are.count,
        p.scenes_are.count,
        lists_count 'children' (field_of 'nodes' j),
        lists_count 'nodes' (field_of 'scenes' j),
      )
      refl

  -- rule 18 by the buffer
  pub uri_read : rule18 j ≡ (get_or m.buffers.kept.records 0 no_buffer).has_uri
  unfolding rule18 buffers_in
  uri_read = rw (ap (λ b. b.records) p.buffers_are) (sym (first_uri (elements_in (field_of 'buffers' j))))

  -- of each accessor whether byteOffset is there
  pub placed_said : m.accessors.kept.placed ≡ (said j).placed
  unfolding said accessors_in
  placed_said = ap (λ a. a.placed) p.accessors_are

  -- what was read, in the words of the definitions
  read_parts : Parts j (given false is_asset (field_of 'asset' j)) (has 'extensionsRequired' j) (buffers m.buffers)
      (views m.views) (accessors m.accessors) (nodes_read m.nodes) (scenes_read m.scenes) (number m.scene)
  read_parts =
      record {
        is_asset = refl;
        extensions = refl;
        buffers = p.buffers_are;
        views = p.views_are;
        accessors = p.accessors_are;
        nodes = p.nodes_are;
        scenes = p.scenes_are;
        scene = p.scene_is;
      }

  -- the tables are the tree's
  pub tables_said : Few m → (f : GraphFault) → f ≡ graph_of j
      → tables_read (record m { nodes = sound (outcome_of f) m.nodes; scenes = sound (outcome_of f) m.scenes }) ≡ tables_of j
  tables_said few f e =
      ap (λ n. tables_from (buffers m.buffers) (views m.views) (accessors m.accessors) n
      (scenes_read (sound (outcome_of f) m.scenes)) (number m.scene)) (nodes_sound f m.nodes)
      ∙ ap (λ s. tables_from (buffers m.buffers) (views m.views) (accessors m.accessors)
      (sound_nodes f.number (nodes_read m.nodes)) s (number m.scene)) (scenes_sound f m.scenes)
      ∙ (parts.tables_read read_parts
      (record { buffers = few.buffers; views = few.views; accessors = few.accessors; nodes = few.nodes; scenes = few.scenes })
      f e)

-- nodes or scenes of which rule 16 holds
pub lists_ok : {n m : ℕ} {k : List ℕ} {o : Option Json} {r : Result (ListsRead n m) Unfit} {l : ListsRead n m}
    → ReadsLists n m k o r → r ≡ Ok l
    → (lists_good k o ≡ true) × (l.count ≡ length (lists_of k o))
    × Packed (zeros n) (zeros n) (zeros m) (lists_of k o) (starts_in l.lists) (lengths_in l.lists) l.entries
lists_ok x d = (sym x.good ∙ rw d refl, IfOk-at_ok _ d x.count, IfOk-at_ok _ d x.packed)

-- and of which it doesn't
pub lists_err : {n m : ℕ} {k : List ℕ} {o : Option Json} {r : Result (ListsRead n m) Unfit} {u : Unfit}
    → ReadsLists n m k o r → r ≡ Err u → lists_good k o ≡ false
lists_err x d = sym x.good ∙ rw d refl

-- the counts are kept without the lists
sound_count : {n m : ℕ} (r : Result (Unit {0}) GraphFault) (l : ListsRead n m) → (sound r l).count ≡ l.count
unfolding sound
sound_count (Ok u) l = refl
sound_count (Err f) l = refl

-- so they stay small
pub sound_few : (r : Result (Unit {0}) GraphFault) {m : TopRead} → Few m
    → Few (record m { nodes = sound r m.nodes; scenes = sound r m.scenes })
sound_few r {m} f =
    record {
      buffers = f.buffers;
      views = f.views;
      accessors = f.accessors;
      nodes = rw (sound_count r m.nodes) f.nodes;
      scenes = rw (sound_count r m.scenes) f.scenes;
    }

-- no count passes its capacity
pub few_of : (m : TopRead) → is_over m ≡ false → Few m
few_of m f =
    let x = ltb 1 m.buffers.count in
    let y = ltb 64 m.views.count in
    let z = ltb 128 m.accessors.count in
    let w = ltb 128 m.nodes.count in
    let t = ltb 8 m.scenes.count in
    let g = or_false (x || y || z || w) t f in
    let h = or_false (x || y || z) w g.0 in
    let k = or_false (x || y) z h.0 in
    let l = or_false x y k.0 in
    record {
      buffers = ltb-false 1 m.buffers.count l.0;
      views = ltb-false 64 m.views.count l.1;
      accessors = ltb-false 128 m.accessors.count k.1;
      nodes = ltb-false 128 m.nodes.count h.1;
      scenes = ltb-false 8 m.scenes.count g.1;
    }
