-- What rules 12 and 13 ask of a tree. Assumes nothing: these are definitions.
use Rattle.std.specs.Prelude.{ℕ, ◌≡◌, true, List}
use Rattle.json_text.specs.Tree.{Json, Values, Fields}
use Rattle.names.specs.Strings.{slashed}

-- the tree is or holds, anywhere, an object whose members are such
mutual
  pub data Anywhere (P : Fields → Type 0) : Json → Type 0 where
    at_object : {ms : Fields} → P ms → Anywhere P (Json.object ms)
    in_object : {ms : Fields} → InMember P ms → Anywhere P (Json.object ms)
    in_array : {js : Values} → InElement P js → Anywhere P (Json.array js)

  pub data InElement (P : Fields → Type 0) : Values → Type 0 where
    element_first : {j : Json} {js : Values} → Anywhere P j → InElement P (Values.value_then j js)
    element_later : {j : Json} {js : Values} → InElement P js → InElement P (Values.value_then j js)

  pub data InMember (P : Fields → Type 0) : Fields → Type 0 where
    member_first : {k : List ℕ} {j : Json} {ms : Fields} → Anywhere P j → InMember P (Fields.field_then k j ms)
    member_later : {k : List ℕ} {j : Json} {ms : Fields} → InMember P ms → InMember P (Fields.field_then k j ms)

-- a member's name holds a backslash
pub data Backslash : Fields → Type 0 where
  backslash_first : {k : List ℕ} {j : Json} {ms : Fields} → slashed k ≡ true → Backslash (Fields.field_then k j ms)
  backslash_later : {k : List ℕ} {j : Json} {ms : Fields} → Backslash ms → Backslash (Fields.field_then k j ms)

-- a member has the name k
pub data Named (k : List ℕ) : Fields → Type 0 where
  named_first : {j : Json} {ms : Fields} → Named k (Fields.field_then k j ms)
  named_later : {n : List ℕ} {j : Json} {ms : Fields} → Named k ms → Named k (Fields.field_then n j ms)

-- two members have the same name
pub data Twice : Fields → Type 0 where
  twice_first : {k : List ℕ} {j : Json} {ms : Fields} → Named k ms → Twice (Fields.field_then k j ms)
  twice_later : {k : List ℕ} {j : Json} {ms : Fields} → Twice ms → Twice (Fields.field_then k j ms)

-- rule 12: a member name, anywhere, holds a backslash
abbrev pub Breaks12 : Json → Type 0
Breaks12 j = Anywhere Backslash j

-- rule 13: one object, anywhere, has two members of the same name
abbrev pub Breaks13 : Json → Type 0
Breaks13 j = Anywhere Twice j
