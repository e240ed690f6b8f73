-- What the definitions say of a member or an array: whether rule 16 holds of it, as a flag, and beside it what it says.
-- `Results` says how the code answers the same by Result and Option.
-- Assumes nothing: these are definitions.
use Rattle.std.specs.Prelude.{ℕ, Bool, List}
use Rattle.tables.specs.declared.Sparse.{Sparse}
use Rattle.tables.specs.declared.BufferView.{BufferView}
use Rattle.tables.specs.declared.Accessor.{Accessor}
use Rattle.tables.specs.declared.Tables.{Tables}
use Rattle.graph.specs.declared.verdict.Fault.{Fault}
use Rattle.document.specs.declared.records.buffers.Buffer.{Buffer}

-- an integer: rule 16 holds of it, it is there, and its number
pub record Number : Type 0 where
  pub good : Bool
  pub has : Bool
  pub value : ℕ

-- true or false: rule 16 holds of it, and which it is
pub record Boolean : Type 0 where
  pub good : Bool
  pub value : Bool

-- a type: rule 16 holds of it, and its number, which is 0 for a string that is none of the seven names
pub record ElementType : Type 0 where
  pub good : Bool
  pub number : ℕ

-- the member indices: rule 16 holds of it, and its numbers
pub record IndicesRead : Type 0 where
  pub good : Bool
  pub buffer_view : ℕ
  pub component_type : ℕ
  pub byte_offset : ℕ

-- the member values
pub record ValuesRead : Type 0 where
  pub good : Bool
  pub buffer_view : ℕ
  pub byte_offset : ℕ

-- the member sparse: rule 16 holds of it, it is there, and its record
pub record SparseRead : Type 0 where
  pub good : Bool
  pub has : Bool
  pub sparse : Sparse

-- all buffers: rule 16 holds of them, how many there are, and the first
pub record BuffersRead : Type 0 where
  pub good : Bool
  pub count : ℕ
  pub records : List Buffer

-- all buffer views: rule 16 holds of them, how many there are, and the first 64
pub record ViewsRead : Type 0 where
  pub good : Bool
  pub count : ℕ
  pub records : List BufferView

-- all accessors: rule 16 holds of them, how many there are, and of the first 128 the records, and whether byteOffset is
-- there
pub record AccessorsRead : Type 0 where
  pub good : Bool
  pub count : ℕ
  pub records : List Accessor
  pub placed : List Bool

-- a chunk: the smallest of rules 9 to 18 that it breaks, 0 if none, with the place of rules 9 to 13; what the text says as
-- tables, the buffer's place in the file left 0, and of each accessor whether byteOffset is there (rule 25); rules 41 to 46
-- of the text's lists. Refused, all is 0
pub record Document : Type 0 where
  pub number : ℕ
  pub place : ℕ
  pub tables : Tables
  pub placed : List Bool
  pub graph : Fault
