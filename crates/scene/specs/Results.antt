-- How the code's answers stand for those of the definitions. Assumes nothing: these are definitions.
use Rattle.std.specs.Prelude.{ℕ, Result, Ok, Err}
use Rattle.scene.specs.declared.Walked.{Walked}
use Rattle.scene.specs.declared.Refusal.{Refusal}
use Rattle.scene.specs.declared.Refusal.TheVariants.{NoScene, NoRoom, Unfit}

-- the number of a refusal
abbrev pub number_of : Refusal → ℕ
number_of NoScene = 64
number_of NoRoom = 65
number_of Unfit = 66

-- number 0 with the count, or a refusal's number with 0
abbrev pub walked_of : Result ℕ Refusal → Walked
walked_of (Ok count) = record { number = 0; count = count }
walked_of (Err refusal) = record { number = number_of refusal; count = 0 }
