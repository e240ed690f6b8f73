-- Rules 12 and 13 as functions of any bytes, by one machine that goes from byte to byte. A colon outside strings makes the
-- last string a name of the innermost open bracket.
-- Assumes nothing: these are definitions.
use Rattle.std.specs.Prelude.{ℕ, suc, ◌+◌, ◌-◌, Bool, true, cond, List, [], ◌∷◌, eqb, ltb, length, Option, Some, None}
use Rattle.json_text.specs.Depth.{Mode, Bracket, Kind, kind, turn}
use Rattle.json_text.specs.Depth.Mode.{outside, inside, hidden}
use Rattle.json_text.specs.Depth.Kind.{mark, slash, code}
use Rattle.json_text.specs.Depth.Bracket.{opens, closes, neither}
use Rattle.names.specs.declared.Search.{Search}
use Rattle.names.specs.declared.Search.TheVariants.{Clear, Repeats, Full}
use Rattle.names.specs.Strings.{spelled}
use Rattle.names.specs.Order.{Names, Stop, escapes, has, pairs}

-- at which names a search stops, and whether there is room for one more entry behind so many
pub record Plan : Type 0 where
  pub stop : Stop
  pub roomy : ℕ → Bool

-- rule 12, which keeps no entries
abbrev pub plan12 : Plan
plan12 = record { stop = escapes; roomy = λ r. true }

-- rule 13, with room for so many names and open brackets
abbrev pub plan13 : ℕ → Plan
plan13 cap = record { stop = has; roomy = λ r. ltb r cap }

-- how the search stands: the last string (what is left at its opening mark, and its characters), the pairs so far, and the
-- names of the innermost open bracket and of the outer ones; or it has stopped at a name; or it had no room
pub data State : Type 0 where
  going : Mode → List ℕ → List ℕ → ℕ → Names → List Names → State
  stopped : List ℕ → ℕ → State
  full : State

-- how many entries there are: a name each, and one for each open bracket
abbrev pub room : Names → List Names → ℕ
room c [] = length c
room c (x ∷ o) = suc (length c + room x o)

-- a colon
abbrev pub named : Plan → List ℕ → List ℕ → ℕ → Names → List Names → State
named plan l n p c o =
    cond (plan.stop n c) (stopped l (p + pairs n c))
    (cond (plan.roomy (room c o)) (going outside l n (p + pairs n c) (n ∷ c) o) full)

-- a bracket; a closing one with none open is nothing
abbrev pub bracketed : Plan → Bracket → List ℕ → List ℕ → ℕ → Names → List Names → State
bracketed plan opens l n p c o = cond (plan.roomy (room c o)) (going outside l n p [] (c ∷ o)) full
bracketed plan closes l n p c [] = going outside l n p c []
bracketed plan closes l n p c (x ∷ o) = going outside l n p x o
bracketed plan neither l n p c o = going outside l n p c o

-- a byte b outside strings, and then w
abbrev pub outside_step : Plan → Kind → ℕ → List ℕ → List ℕ → List ℕ → ℕ → Names → List Names → State
outside_step plan mark b w l n p c o = going inside (b ∷ w) (spelled w) p c o
outside_step plan slash b w l n p c o = going outside l n p c o
outside_step plan (code x) b w l n p c o = cond (eqb b 0x3a) (named plan l n p c o) (bracketed plan x l n p c o)

-- a byte b, and then w
abbrev pub step : Plan → ℕ → List ℕ → State → State
step plan b w (going outside l n p c o) = outside_step plan (kind b) b w l n p c o
step plan b w (going inside l n p c o) = going (turn inside (kind b)) l n p c o
step plan b w (going hidden l n p c o) = going inside l n p c o
step plan b w (stopped l p) = stopped l p
step plan b w full = full

-- all bytes
unfoldable pub run : Plan → State → List ℕ → State
run plan t [] = t
run plan t (b ∷ w) = run plan (step plan b w t) w

-- a state at the end of s as an answer
abbrev pub answer : List ℕ → State → Search
answer s (going m l n p c o) = Clear p
answer s (stopped l p) = Repeats (length s - length l) p
answer s full = Full

-- the search over s from its start
abbrev pub searched : Plan → List ℕ → Search
searched plan s = answer s (run plan (going outside s [] 0 [] []) s)

-- the answer of rule 12: where the name starts at which the search stops, if it does
abbrev pub escaped_by : Search → Option ℕ
escaped_by (Clear p) = None
escaped_by (Repeats at p) = Some at
escaped_by Full = None

-- rule 12
unfoldable pub escaped_of : List ℕ → Option ℕ
escaped_of s = escaped_by (searched plan12 s)

-- rule 13 with room for cap names and brackets
unfoldable pub search_of : ℕ → List ℕ → Search
search_of cap s = searched (plan13 cap) s

-- rule 13: more than 65,536 bytes are not searched, and there is room for 13,146 names and brackets at once
unfoldable pub repeat_of : List ℕ → Search
repeat_of s = cond (ltb 65536 (length s)) Full (search_of 13146 s)
