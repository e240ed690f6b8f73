-- What the code's types stand for in the definitions. Assumes nothing: these are definitions.
use Rattle.std.specs.Prelude.{ℕ, Option, Some, None}

-- what `peek` finds, as the definitions say it: a byte, or 256 at the end
abbrev pub code : Option ℕ → ℕ
code None = 256
code (Some b) = b
