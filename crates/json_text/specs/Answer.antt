-- The answers of the scans, as functions of the text. Assumes nothing: these are definitions.
use Rattle.std.specs.Prelude.{ℕ, ◌-◌, cond, List, [], ◌∷◌, eqb, length, Result, Ok, Err}
use Rattle.json_text.specs.declared.error.ScanError.{ScanError}
use Rattle.json_text.specs.declared.error.ScanError.TheVariants.{Broke, Deep}
use Rattle.json_text.specs.Faults.{Fault, NoText}
use Rattle.json_text.specs.Faults.Fault.{broke, deep}
use Rattle.json_text.specs.Parse.{Got, TextOk, text_run, past_ws, lit_run, some_run, name_run, front_run}
use Rattle.json_text.specs.Parse.Got.{got, lost}

-- the first byte, or 256 where there is none
abbrev pub first : List ℕ → ℕ
first [] = 256
first (b ∷ w) = b

-- the place of s from which on it has v
abbrev pub place_of : List ℕ → List ℕ → ℕ
place_of s v = length s - length v

-- how reading the whole of s as a text ends, and where
abbrev pub answer : {n : ℕ} (s : List ℕ) → Got (TextOk n s) (NoText n s) → Result ℕ ScanError
answer s (got r k) = Ok (length s)
answer s (lost broke r k) = Err (Broke (place_of s r))
answer s (lost deep r k) = Err (Deep (place_of s r))

-- rule 11, with n levels: a text, and its value is an object; so nothing but { may come first
unfoldable pub scan_of : ℕ → List ℕ → Result ℕ ScanError
scan_of n s = cond (eqb (first (past_ws s)) 0x7b) (answer s (text_run n s)) (Err (Broke (place_of s (past_ws s))))

-- how reading at the front of a last part of s ends, and where
abbrev pub end_of : {Yes : List ℕ → Type 0} {No : Fault → List ℕ → Type 0} → List ℕ → Got Yes No → Result ℕ ScanError
end_of s (got r k) = Ok (place_of s r)
end_of s (lost broke r k) = Err (Broke (place_of s r))
end_of s (lost deep r k) = Err (Deep (place_of s r))

-- the bytes ks, read at the last part w of s
unfoldable pub literal_of : List ℕ → List ℕ → List ℕ → Result ℕ ScanError
literal_of ks s w = end_of s (lit_run ks w)

-- one digit or more
unfoldable pub digits_of : List ℕ → List ℕ → Result ℕ ScanError
digits_of s w = end_of s (some_run w)

-- a name, with its colon and the white space behind it
unfoldable pub name_of : List ℕ → List ℕ → Result ℕ ScanError
name_of s w = end_of s (name_run w)

-- a value of at most n levels
unfoldable pub value_of : ℕ → List ℕ → List ℕ → Result ℕ ScanError
value_of n s w = end_of s (front_run n w)
