-- How what is read of the top, by Result and Option, is what the definitions say.
-- Assumes nothing: these are definitions.
use Rattle.std.specs.Prelude.{ℕ, ◌≤◌, ◌<◌, ◌≡◌, List, [], ◌∷◌, get_or, replicate, Bool, true, false, ◌||◌, cond, eqb, ltb, Result, Ok, Err, Some, None, IfOk, is_ok}
use Rattle.std.specs.Prelude as P
use Rattle.json_text.specs.Tree.{Json}
use Rattle.nav.specs.Members.{field_of, FoundTree}
use Rattle.nav.specs.Results.{Placed}
use Rattle.text.specs.declared.Fault.{Fault}
use Rattle.graph.specs.Results.{outcome_of, fault_of}
use Rattle.tables.specs.declared.Tables.{Tables}
use Rattle.document.specs.declared.Document.{Document}
use Rattle.document.specs.declared.members.Unfit.{Unfit}
use Rattle.document.specs.declared.records.Counted.{Counted}
use Rattle.document.specs.declared.records.buffers.Buffers.{Buffers}
use Rattle.document.specs.declared.records.views.Views.{Views}
use Rattle.document.specs.declared.records.accessors.Accessors.{Accessors}
use Rattle.document.specs.declared.top.TopRead.{TopRead}
use Rattle.document.specs.Flags as F
use Rattle.document.specs.Flags.{Number, BuffersRead, ViewsRead, AccessorsRead}
use Rattle.document.specs.Names.{'asset', 'extensionsRequired', 'buffers', 'bufferViews', 'accessors', 'nodes', 'scenes', 'scene'}
use Rattle.document.specs.Members.{optional}
use Rattle.tables.specs.Records.{no_view, no_accessor, no_list}
use Rattle.document.specs.Arrays.{fill}
use Rattle.document.specs.Buffers.{no_buffer, buffers_of}
use Rattle.document.specs.Views.{views_of}
use Rattle.document.specs.Accessors.{accessors_of}
use Rattle.document.specs.Packs.{NodesTo, ScenesTo, nodes_read, scenes_read}
use Rattle.document.specs.Table.{read_members, fits_all}
use Rattle.document.specs.Results.{holding}
use Rattle.document.specs.Said.{tables_from, refused}

-- the members of the top, in this order
abbrev pub top_names : List (List ℕ)
top_names =
    'asset' ∷ 'extensionsRequired' ∷ 'buffers' ∷ 'bufferViews' ∷ 'accessors' ∷ 'nodes' ∷ 'scenes' ∷ 'scene' ∷ []

-- their places, where the tree is j
abbrev pub PlacesTo : List ℕ → Json → List (P.Option ℕ) → Type 0
PlacesTo s j places =
    (i : ℕ) → i < 8 → Placed (FoundTree s (field_of (get_or top_names i []) j)) (get_or places i None)

-- an integer that may be absent, where rule 16 holds of it
abbrev pub number : P.Option ℕ → Number
number None = record { good = true; has = false; value = 0 }
number (Some n) = record { good = true; has = true; value = n }

-- the buffers, where rule 16 holds of them
abbrev pub buffers : Counted Buffers → BuffersRead
buffers c = record { good = true; count = c.count; records = c.kept.records }

-- the views
abbrev pub views : Counted Views → ViewsRead
views c = record { good = true; count = c.count; records = c.kept.records }

-- the accessors
abbrev pub accessors : Counted Accessors → AccessorsRead
accessors c = record { good = true; count = c.count; records = c.kept.records; placed = c.kept.placed }

-- nothing
abbrev pub none_read : TopRead
none_read =
    record {
      buffers = record { count = 0; kept = record { records = fill 1 no_buffer [] } };
      views = record { count = 0; kept = record { records = fill 64 no_view [] } };
      accessors = record { count = 0; kept = record { records = fill 128 no_accessor []; placed = fill 128 false [] } };
      nodes = record { count = 0; lists = replicate 128 no_list; entries = replicate 128 0 };
      scenes = record { count = 0; lists = replicate 8 no_list; entries = replicate 1024 0 };
      scene = None;
    }

-- what is read of the members is what the tree says
pub record MembersTo (j : Json) (m : TopRead) : Type 0 where
  pub buffers_are : buffers m.buffers ≡ buffers_of (field_of 'buffers' j)
  pub views_are : views m.views ≡ views_of (field_of 'bufferViews' j)
  pub accessors_are : accessors m.accessors ≡ accessors_of (field_of 'accessors' j)
  pub nodes_are : NodesTo (field_of 'nodes' j) (nodes_read m.nodes)
  pub scenes_are : ScenesTo (field_of 'scenes' j) (scenes_read m.scenes)
  pub scene_is : number m.scene ≡ optional 'scene' j

-- whether they were read, with what a lent place holds then
abbrev pub read_in : TopRead → Result (Unit {0}) Unfit → Result TopRead Unfit
read_in m r = holding (λ u. m) r

-- they are read where rule 16 holds
pub record ReadsTop (j : Json) (r : Result TopRead Unfit) : Type 0 where
  pub good : is_ok r ≡ fits_all read_members j
  pub are : IfOk r (λ m. MembersTo j m)

-- a count passes its capacity
abbrev pub is_over : TopRead → Bool
is_over m =
    ltb 1 m.buffers.count || ltb 64 m.views.count || ltb 128 m.accessors.count || ltb 128 m.nodes.count || ltb 8 m.scenes.count

-- no count does
pub record Few (m : TopRead) : Type 0 where
  pub buffers : m.buffers.count ≤ 1
  pub views : m.views.count ≤ 64
  pub accessors : m.accessors.count ≤ 128
  pub nodes : m.nodes.count ≤ 128
  pub scenes : m.scenes.count ≤ 8

-- the tables of what is read
abbrev pub tables_read : TopRead → Tables
tables_read m =
    tables_from (buffers m.buffers) (views m.views) (accessors m.accessors) (nodes_read m.nodes) (scenes_read m.scenes) (number m.scene)

-- what the text says, or the rule that it breaks and its place
abbrev pub document_answer : F.Document → Result Document Fault
document_answer d =
    cond (eqb d.number 0)
    (Ok (record { tables = d.tables; placed = d.placed; graph = outcome_of d.graph }))
    (Err (record { number = d.number; place = d.place }))

-- and back: all that the definition says
abbrev pub document_from : Result Document Fault → F.Document
document_from (Ok d) = record { number = 0; place = 0; tables = d.tables; placed = d.placed; graph = fault_of d.graph }
document_from (Err f) = refused f.number f.place
