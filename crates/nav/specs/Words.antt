-- Strings that are compared: with a plain word, and with the versions that rule 14 takes.
-- Assumes nothing: these are definitions.
use Rattle.std.specs.Prelude.{ℕ, ◌≡◌, Bool, true, false, ◌&&◌, List, [], ◌∷◌, eqb, leb}
use Rattle.std.proofs.Math.Option.{Option, some, none}
use Rattle.json_text.specs.Tree.{Json}
use Rattle.json_text.specs.Grammar.{Lit, Some}
use Rattle.json_text.specs.Strings.{plain}

-- whether two lists of bytes are the same
abbrev pub same : List ℕ → List ℕ → Bool
same [] [] = true
same [] (b ∷ y) = false
same (a ∷ x) [] = false
same (a ∷ x) (b ∷ y) = eqb a b && same x y

-- a plain word, which is spelled without an escape
unfoldable pub plains : List ℕ → Bool
plains [] = true
plains (b ∷ w) = plain b && plains w

-- whether the spelling cs is the plain word k. A string spelled with an escape never equals a plain one
unfoldable pub spells : List ℕ → List ℕ → Bool
spells k cs = plains k && same cs k

-- whether a tree is the string k
unfoldable pub is_string : List ℕ → Json → Bool
is_string k Json.null = false
is_string k Json.true = false
is_string k Json.false = false
is_string k (Json.number ds) = false
is_string k (Json.string cs) = spells k cs
is_string k (Json.array js) = false
is_string k (Json.object ms) = false

-- the same of what stands at a place, if anything does
abbrev pub is_string_at : List ℕ → Option Json → Bool
is_string_at k none = false
is_string_at k (some j) = is_string k j

-- digits alone
abbrev pub digits : List ℕ → Bool
digits [] = true
digits (d ∷ ds) = leb 0x30 d && leb d 0x39 && digits ds

-- `2.` and one or more digits (rule 14)
unfoldable pub dotted : List ℕ → Bool
dotted [] = false
dotted (a ∷ []) = false
dotted (a ∷ b ∷ []) = false
dotted (a ∷ b ∷ d ∷ ds) = eqb a 0x32 && eqb b 0x2e && digits (d ∷ ds)

-- whether a tree is a string of that form
unfoldable pub is_version : Json → Bool
is_version Json.null = false
is_version Json.true = false
is_version Json.false = false
is_version (Json.number ds) = false
is_version (Json.string cs) = dotted cs
is_version (Json.array js) = false
is_version (Json.object ms) = false

-- the same of what stands at a place, if anything does
abbrev pub is_version_at : Option Json → Bool
is_version_at none = false
is_version_at (some j) = is_version j

-- w starts with a string that is the plain word k
pub data Quoted (k : List ℕ) : List ℕ → Type 0 where
  quoted : {w a : List ℕ} → plains k ≡ true → Lit k w (0x22 ∷ a) → Quoted k (0x22 ∷ w)

-- w starts with a string that is `2.` and one or more digits
pub data Versioned : List ℕ → Type 0 where
  versioned : {w ds a : List ℕ} → Some w ds (0x22 ∷ a) → Versioned (0x22 ∷ 0x32 ∷ 0x2e ∷ w)
