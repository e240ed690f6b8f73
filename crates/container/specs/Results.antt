-- How the code's answers stand for those of the definitions. Assumes nothing: these are definitions.
use Rattle.std.specs.Prelude.{ℕ, ◌+◌, List, false, cond, eqb, ltb, is_some, unwrap_or, Option, Some, None, Result, Ok, Err}
use Rattle.laws.specs.Bytes.{little_at}
use Rattle.container.specs.declared.Fault.{Fault}
use Rattle.container.specs.declared.Chunk as Code
use Rattle.container.specs.declared.Container as Opened
use Rattle.container.specs.declared.Found as Pass
use Rattle.container.specs.Records.{Container, Found}
use Rattle.container.specs.Rules.{chunk_at, is_bin, header_rows, first_broken}

-- rules 1 to 4: Ok where none is broken
unfoldable pub header_outcome : List ℕ → Result Unit Fault
header_outcome file =
    cond (ltb (first_broken (header_rows file)) 4) (Err (record { rule = 1 + first_broken (header_rows file); item = 0 })) (Ok tt)

-- the first of `count` chunks that is wrong; None where all are right
unfoldable pub first_wrong : ℕ → ℕ → Option ℕ
first_wrong right count = cond (eqb right count) None (Some right)

-- what the pass finds, with None where no chunk breaks the rule
unfoldable pub survey_of : Found → Pass.Found
survey_of found =
    record {
      end = found.end;
      count = found.count;
      wrong_json = first_wrong found.json found.count;
      wrong_bin = first_wrong found.bin found.count;
    }

-- the data of the chunk whose header stands at `at`
abbrev pub data_at : List ℕ → ℕ → Code.Chunk
data_at file at = record { start = at + 8; length = little_at file at 4 }

-- the BIN chunk: chunk 1, if it is one
unfoldable pub bin_of : List ℕ → Option Code.Chunk
bin_of file =
    cond (is_bin (chunk_at file 1))
    (Some (record { start = 28 + (chunk_at file 0).chunk_length; length = (chunk_at file 1).chunk_length }))
    None

-- the answer of `open`: the chunks where no rule is broken, else the rule and its item
unfoldable pub outcome_of : Container → Result Opened.Container Fault
outcome_of c =
    cond (eqb c.number 0)
    (Ok (record {
      json = record { start = c.json_start; length = c.json_length };
      bin = cond c.has_bin (Some (record { start = c.bin_start; length = c.bin_length })) None;
    }))
    (Err (record { rule = c.number; item = c.item }))

-- the record that an answer stands for: `outcome_of` leaves out nothing that the definitions answer
unfoldable pub record_of : Result Opened.Container Fault → Container
record_of (Ok c) =
    record {
      number = 0;
      item = 0;
      json_start = c.json.start;
      json_length = c.json.length;
      has_bin = is_some c.bin;
      bin_start = (unwrap_or c.bin (record { start = 0; length = 0 })).start;
      bin_length = (unwrap_or c.bin (record { start = 0; length = 0 })).length;
    }
record_of (Err b) = record { number = b.rule; item = b.item; json_start = 0; json_length = 0; has_bin = false; bin_start = 0; bin_length = 0 }
