-- Document 01's bench cases C1 to C12: one table, and the claim that it holds. Proved in proofs/Cases as `cases_hold`.
-- Each case stands over the smallest definition that decides it. Assumes nothing: these are definitions.
use Rattle.std.specs.Prelude.{ℕ, ◌-◌, ◌≡◌, true, false, List, [], ◌∷◌, ◌++◌, pos, neg_ℤ, replicate}
use Rattle.text.specs.Rules.{text_of}
use Rattle.tables.specs.declared.BufferView.{BufferView}
use Rattle.tables.specs.declared.Accessor.{Accessor}
use Rattle.tables.specs.Records.{no_view, no_sparse, empty_tables}
use Rattle.tables.specs.Elements.{component_place}
use Rattle.tables.specs.Views.{view_fault}
use Rattle.tables.specs.Accessors.{accessor_fault}
use Rattle.data.specs.Buffer.{buffer_rule}
use Rattle.data.specs.Sparse.{sparse_finding}
use Rattle.graph.specs.Graph.{graph_fault}
use Rattle.access.specs.Readings.{number_at}
use Rattle.glb.specs.Check.{accepted, scene_finding, check_of}

-- a row of the table: the case's number, what a definition answers, and what document 01 says
pub record Case : Type 1 where
  pub number : ℕ
  pub Answer : Type 0
  pub given : Answer
  pub said : Answer

-- a row by its parts
abbrev pub case : ℕ → {A : Type 0} → A → A → Case
case n {A} given said = record { number = n; Answer = A; given = given; said = said }

-- in every row the answer is what document 01 says
abbrev pub Hold : List Case → Type 0
Hold [] = record {}
Hold (c ∷ cs) = (c.given ≡ c.said) × Hold cs

-- C1: `{"asset":{"version":"2.0"}}` (27 bytes) and one space
abbrev pub text : List ℕ
text =
    0x7b ∷ 0x22 ∷ 0x61 ∷ 0x73 ∷ 0x73 ∷ 0x65 ∷ 0x74 ∷ 0x22 ∷ 0x3a ∷ 0x7b ∷ 0x22 ∷ 0x76 ∷ 0x65 ∷ 0x72 ∷ 0x73 ∷ 0x69
    ∷ 0x6f ∷ 0x6e ∷ 0x22 ∷ 0x3a ∷ 0x22 ∷ 0x32 ∷ 0x2e ∷ 0x30 ∷ 0x22 ∷ 0x7d ∷ 0x7d ∷ 0x20 ∷ []

-- the 48-byte file: magic, version 2, length 48, and one chunk: chunkLength 28, JSON, the text
abbrev pub file : List ℕ
file =
    0x67 ∷ 0x6c ∷ 0x54 ∷ 0x46 ∷ 2 ∷ 0 ∷ 0 ∷ 0 ∷ 48 ∷ 0 ∷ 0 ∷ 0
    ∷ 28 ∷ 0 ∷ 0 ∷ 0 ∷ 0x4a ∷ 0x53 ∷ 0x4f ∷ 0x4e ∷ text

-- C2, C3: the fragment's view, with this byteLength
abbrev pub view : ℕ → BufferView
view byte_length =
    record {
      buffer = 0;
      byte_offset = 620;
      byte_length = byte_length;
      byte_stride = 0;
      has_byte_stride = false;
      target = 34963;
      has_target = true;
    }

-- the fragment's accessor, of this type: 1 SCALAR, 2 VEC2
abbrev pub accessor : ℕ → Accessor
accessor type =
    record {
      buffer_view = 0;
      has_buffer_view = true;
      byte_offset = 4608;
      component_type = 5123;
      count = 5232;
      element_type = type;
      normalized = false;
      has_sparse = false;
      sparse = no_sparse;
    }

-- the smallest of rules 25 to 39 that the accessor breaks in that view, 40 if none; byteOffset is there
abbrev pub fragment : ℕ → ℕ → ℕ
fragment type byte_length = accessor_fault 1 true (accessor type) (view byte_length) no_view no_view

-- C4: a text of this depth: `{"a":`, arrays in one another, `}`
abbrev pub nested : ℕ → List ℕ
nested depth =
    (0x7b ∷ 0x22 ∷ 0x61 ∷ 0x22 ∷ 0x3a ∷ []) ++ replicate (depth - 1) 0x5b ++ replicate (depth - 1) 0x5d ++ (0x7d ∷ [])

-- C5: a view of the whole of a buffer of 512 bytes, with this byteStride
abbrev pub strided : ℕ → BufferView
strided byte_stride =
    record {
      buffer = 0;
      byte_offset = 0;
      byte_length = 512;
      byte_stride = byte_stride;
      has_byte_stride = true;
      target = 0;
      has_target = false;
    }

-- C7: the view of two indices, a byte each
abbrev pub indices : BufferView
indices =
    record {
      buffer = 0;
      byte_offset = 0;
      byte_length = 2;
      byte_stride = 0;
      has_byte_stride = false;
      target = 0;
      has_target = false;
    }

-- an accessor of three bytes, two of them sparse
abbrev pub sparse : Accessor
sparse =
    record {
      buffer_view = 0;
      has_buffer_view = false;
      byte_offset = 0;
      component_type = 5121;
      count = 3;
      element_type = 1;
      normalized = false;
      has_sparse = true;
      sparse =
          record {
            count = 2;
            indices_view = 0;
            indices_offset = 0;
            indices_type = 5121;
            values_view = 0;
            values_offset = 0;
          };
    }

-- the table
abbrev pub table : List Case
table =
    -- the file is accepted, and its tables are empty
    case 1 (check_of file) (accepted empty_tables)
    -- VEC2 breaks rule 33: it needs 25,536 bytes, and the view has 17,136
    ∷ case 2 (fragment 2 17136) 33
    ∷ case 2 (fragment 2 25535) 33
    ∷ case 2 (fragment 2 25536) 40
    -- SCALAR breaks none of rules 25 to 39: it needs 15,072
    ∷ case 3 (fragment 1 17136) 40
    ∷ case 3 (fragment 1 15071) 33
    ∷ case 3 (fragment 1 15072) 40
    -- depth 32 passes, 33 gives 10
    ∷ case 4 (text_of (nested 32)).number 0
    ∷ case 4 (text_of (nested 33)).number 10
    -- byteStride 252 breaks none of rules 21 to 24, 256 gives 23
    ∷ case 5 (view_fault 1 512 (strided 252)) 25
    ∷ case 5 (view_fault 1 512 (strided 256)) 23
    -- BIN of 8 bytes: 3 over byteLength passes, 4 gives 19
    ∷ case 6 (buffer_rule (replicate 8 0) 5 true 0 8) 0
    ∷ case 6 (buffer_rule (replicate 8 0) 4 true 0 8) 19
    -- sparse indices 2, 2 give 40
    ∷ case 7 (sparse_finding (2 ∷ 2 ∷ []) 0 (sparse ∷ []) (indices ∷ []) 1) (record { rule = 40; item = 0 })
    -- node 0 its own child: 43
    ∷ case 8 (graph_fault ((0 ∷ []) ∷ []) []) (record { number = 43; item = 0 })
    -- nodes 0 and 1 both list 2: 42, item 2
    ∷ case 9 (graph_fault ((2 ∷ []) ∷ (2 ∷ []) ∷ [] ∷ []) []) (record { number = 42; item = 2 })
    -- u16 0xFFFF as 5122: −1
    ∷ case 10 (number_at (0xff ∷ 0xff ∷ []) 5122 0) (neg_ℤ (pos 1))
    -- MAT3 of bytes, component 3: byte 4
    ∷ case 11 (component_place 1 6 3) 4
    -- `scene` 0 with no scenes: 47
    ∷ case 12 (scene_finding true 0 0) (record { rule = 47; item = 0 })
    ∷ []
