-- What the code's results say, in the numbers of the definitions. Assumes nothing: these are definitions.
use Rattle.std.specs.Prelude.{ℕ, List, cond, eqb, Option, Some, None}
use Rattle.utf8.specs.Utf8.{width_at}

-- how many bytes the character has that w starts with, none where the definition's number is 0
unfoldable pub some_width : List ℕ → Option ℕ
some_width w = cond (eqb (width_at w) 0) None (Some (width_at w))
