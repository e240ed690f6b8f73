-- What one pass over the chunks finds. Assumes nothing: these are definitions.
use Rattle.std.specs.Prelude.{ℕ, ◌+◌, List}
use Rattle.laws.specs.Search.{least}
use Rattle.container.specs.Records.{Found}
use Rattle.container.specs.Chunks.{chunks_of, bytes_of}
use Rattle.container.specs.Rules.{count, misplaced_json, misplaced_bin}

-- where the whole chunks end, how many there are, and the first that breaks rule 6 or 7, their number if none
unfoldable pub found_in : List ℕ → Found
found_in file =
    record {
      end = 12 + bytes_of (chunks_of file);
      count = count file;
      json = least (misplaced_json file) (count file);
      bin = least (misplaced_bin file) (count file);
    }
