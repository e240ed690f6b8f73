-- Rules 9 to 13 of a chunk, in their order: the smallest that is broken, with its place.
-- Assumes nothing: these are definitions.
use Rattle.std.specs.Prelude.{ℕ, cond, List, ltb, length, Option, Some, None, Result, Ok, Err, ⊤}
use Rattle.utf8.specs.declared.NotUtf8.{NotUtf8}
use Rattle.utf8.specs.Utf8.{utf8_of}
use Rattle.json_text.specs.declared.error.TooDeep.{TooDeep}
use Rattle.json_text.specs.declared.error.ScanError.{ScanError}
use Rattle.json_text.specs.declared.error.ScanError.TheVariants.{Broke, Deep}
use Rattle.json_text.specs.Depth.{depth_of}
use Rattle.json_text.specs.Answer.{scan_of}
use Rattle.names.specs.declared.Search.{Search}
use Rattle.names.specs.declared.Search.TheVariants.{Clear, Repeats, Full}
use Rattle.names.specs.Names.{escaped_of, repeat_of}
use Rattle.text.specs.declared.Fault.{Fault}

-- an answer by its two parts
abbrev pub fault : ℕ → ℕ → Fault
fault n p = record { number = n; place = p }

-- rule 9, and where it holds what comes after it
abbrev pub by9 : Result ⊤ NotUtf8 → Fault → Fault
by9 (Ok x) next = next
by9 (Err e) next = fault 9 e.place

-- rule 10
abbrev pub by10 : Result ⊤ TooDeep → Fault → Fault
by10 (Ok x) next = next
by10 (Err e) next = fault 10 e.place

-- rule 11
abbrev pub by11 : Result ℕ ScanError → Fault → Fault
by11 (Ok p) next = next
by11 (Err (Broke p)) next = fault 11 p
by11 (Err (Deep p)) next = fault 11 p

-- rule 12
abbrev pub by12 : Option ℕ → Fault → Fault
by12 None next = next
by12 (Some p) next = fault 12 p

-- rule 13
abbrev pub by13 : Search → Fault
by13 (Clear q) = fault 0 0
by13 (Repeats p q) = fault 13 p
by13 Full = fault 0 0

-- the rules of names
unfoldable pub name_fault : List ℕ → Fault
name_fault s = by12 (escaped_of s) (by13 (repeat_of s))

-- rules 10 and 11 of a chunk that is no text with an object, broken at p
unfoldable pub grammar_fault : List ℕ → ℕ → Fault
grammar_fault s p = by10 (depth_of 32 s) (fault 11 p)

-- rules 9 to 13 in order, of a chunk that passes rule 8
unfoldable pub text_of : List ℕ → Fault
text_of s =
    cond (ltb 65536 (length s)) (fault 8 0)
    (by9 (utf8_of s) (by10 (depth_of 32 s) (by11 (scan_of 32 s) (name_fault s))))
