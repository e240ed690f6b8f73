-- What the code's results say, in the words of the definitions. Assumes nothing: these are definitions.
use Rattle.std.specs.Prelude.{ℕ, ℤ, cond, eqb, ltb, Result, Ok, Err, Option, Some, None}
use Rattle.access.specs.declared.Reading.{Reading}
use Rattle.access.specs.declared.Place.{Place}
use Rattle.access.specs.declared.Refusal.{Refusal}
use Rattle.access.specs.declared.Refusal.TheVariants.{NoAccessor, NoElement, NoComponent, Unfit, NoView}
use Rattle.tables.specs.declared.selection.ViewSelection.{ViewSelection}
use Rattle.access.specs.Views.{view_start, view_number_in}
use Rattle.access.specs.Readings.{refused, answered}

-- the number of a refusal
abbrev pub number_of : Refusal → ℕ
number_of NoAccessor = 60
number_of NoElement = 61
number_of NoComponent = 62
number_of Unfit = 63
number_of NoView = 67

-- the reading that an answer or a refusal is: answered the number is 0, refused the value is
abbrev pub reading_of : Result ℤ Refusal → Reading
reading_of (Ok v) = answered v
reading_of (Err r) = refused (number_of r)

-- the number that a view lookup gives: 0 where it answers
abbrev pub view_number_said : {A : Type 0} → Result A Refusal → ℕ
view_number_said (Ok a) = 0
view_number_said (Err r) = number_of r

-- where the answered part lies; refused, start and length are 0
abbrev pub place_said : Result Place Refusal → Place
place_said (Ok p) = p
place_said (Err r) = record { start = 0; length = 0 }

-- where the view selected lies in the file; refused, start and length are 0
abbrev pub view_place_in : ℕ → ViewSelection → ℕ → Place
view_place_in bytes s i =
    cond (eqb (view_number_in bytes s i) 0)
    (record { start = view_start s; length = s.view.byte_length })
    (record { start = 0; length = 0 })

-- what a search among n answers, where `least` gives k: None where k is n
abbrev pub found : ℕ → ℕ → Option ℕ
found n k = cond (ltb k n) (Some k) None
