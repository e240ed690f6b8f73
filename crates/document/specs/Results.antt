-- How the code's answers, by Result and Option, say what the definitions say by a flag beside a value.
-- Assumes nothing: these are definitions.
use Rattle.std.specs.Prelude.{ℕ, ◌<◌, ◌≡◌, Bool, true, false, cond, List, [], ◌∷◌, ◌++◌, length}
use Rattle.std.specs.Prelude.{Result, Ok, Err, Some, None, IfOk, is_ok}
use Rattle.std.specs.Prelude as P
use Rattle.json_text.specs.Tree.{Json}
use Rattle.nav.specs.Places.{Stands}
use Rattle.nav.specs.Members.{PastTo}
use Rattle.tables.specs.declared.Sparse.{Sparse}
use Rattle.document.specs.declared.members.Unfit.{Unfit}
use Rattle.document.specs.declared.records.Counted.{Counted}
use Rattle.document.specs.declared.records.sparse.Indices.{Indices}
use Rattle.document.specs.declared.records.sparse.Values.{Values}
use Rattle.document.specs.declared.records.accessors.PlacedAccessor.{PlacedAccessor}
use Rattle.document.specs.Flags.{Number, IndicesRead, ValuesRead, SparseRead}
use Rattle.document.specs.Accessors.{accessor_of, is_placed}

-- the value where rule 16 holds of it, else that it doesn't
abbrev pub kept : {A : Type 0} → Bool → A → Result A Unfit
kept true v = Ok v
kept false v = Err (record {})

-- the same of an integer that may be absent
abbrev pub number_kept : Number → Result (P.Option ℕ) Unfit
number_kept n = kept n.good (cond n.has (Some n.value) None)

-- of indices
abbrev pub indices_kept : IndicesRead → Result Indices Unfit
indices_kept i =
    kept i.good
    (record { buffer_view = i.buffer_view; component_type = i.component_type; byte_offset = i.byte_offset })

-- of values
abbrev pub values_kept : ValuesRead → Result Values Unfit
values_kept v = kept v.good (record { buffer_view = v.buffer_view; byte_offset = v.byte_offset })

-- of a sparse part that may be absent
abbrev pub sparse_kept : SparseRead → Result (P.Option Sparse) Unfit
sparse_kept r = kept r.good (cond r.has (Some r.sparse) None)

-- an answer with what a lent place holds then
abbrev pub holding : {A B : Type 0} → (A → B) → Result A Unfit → Result B Unfit
holding f (Ok x) = Ok (f x)
holding f (Err u) = Err u

-- a count, with the records of a lent place
abbrev pub counted_in : {A : Type 0} → A → Result ℕ Unfit → Result (Counted A) Unfit
counted_in kept r = holding (λ n. record { count = n; kept = kept }) r

-- an accessor's record, and whether byteOffset is there
abbrev pub placed_accessor : Json → PlacedAccessor
placed_accessor j = record { accessor = accessor_of j; placed = is_placed j }

-- what is read of the value that w starts with: on Ok it is an object that ends at the place beside what it says, and where
-- a tree j is known, the answer is what it says where rule 16 holds of it
pub record ReadsTo {A : Type 0} (s w : List ℕ) (r : Result (A × ℕ) Unfit) (fits : Json → Bool) (says : Json → A)
    : Type 0 where
  pub past : IfOk r (λ x. (0 < x.1) × PastTo s w x.1)
  pub said : (j : Json) → Stands w j → IfOk r (λ x. x.0 ≡ says j) × (is_ok r ≡ fits j)

-- the element behind `count` others is read and kept: on Ok it is an object that ends at the place, and where a tree j is
-- known, that is so where rule 16 holds of it, and it is kept behind the others
pub record TakesTo {A : Type 0} (s w : List ℕ) (count : ℕ) (old new : A) (r : Result ℕ Unfit) (fits : Json → Bool)
    (keeps : List Json → A) : Type 0 where
  pub past : IfOk r (λ p. (0 < p) × PastTo s w p)
  pub good : (j : Json) → Stands w j → is_ok r ≡ fits j
  pub more : (j : Json) (js : List Json) → Stands w j → count ≡ length js → old ≡ keeps js
      → IfOk r (λ p. new ≡ keeps (js ++ (j ∷ [])))
