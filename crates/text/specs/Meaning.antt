-- Rules 9 to 13 of a JSON chunk in document 01's words, where each is broken, and what the answer says in those terms.
-- Assumes nothing: these are definitions.
use Rattle.std.specs.Prelude.{ℕ, ◌+◌, ◌≤◌, ◌<◌, ◌≡◌, List, [], length, take}
use Rattle.utf8.specs.Rfc3629.{Octets}
use Rattle.utf8.specs.Exact.{LongestWhole}
use Rattle.json_text.specs.Tree.{Json, Fields, depth}
use Rattle.json_text.specs.Grammar.{Text}
use Rattle.json_text.specs.Depth.{peak}
use Rattle.json_text.specs.Depth.Mode.{outside}
use Rattle.json_text.specs.Check.{Longest}
use Rattle.names.specs.declared.Search.TheVariants.{Repeats}
use Rattle.names.specs.Rules.{Breaks12, Breaks13}
use Rattle.names.specs.Order.{escapes, has, seek_text, place}
use Rattle.text.specs.declared.Fault.{Fault}
use Rattle.text.specs.Rules.{fault}

-- rule n is broken
pub data Broken (s : List ℕ) : ℕ → Type 0 where
  -- the chunk is not UTF-8
  rule9 : (Octets s [] → ⊥) → Broken s 9
  -- the depth count passes 32
  rule10 : 32 < peak outside 0 s → Broken s 10
  -- not a JSON text, or its value is no object
  rule11 : ((ms : Fields) → Text s (Json.object ms) → ⊥) → Broken s 11
  -- a member name, anywhere, holds a backslash
  rule12 : {j : Json} → Text s j → Breaks12 j → Broken s 12
  -- one object, anywhere, has two members of the same name
  rule13 : {j : Json} → Text s j → Breaks13 j → Broken s 13

-- rule n is broken at byte p
pub data BrokenAt (s : List ℕ) : ℕ → ℕ → Type 0 where
  -- the end of the longest start of whole characters
  at9 : {p : ℕ} → p < length s → LongestWhole s p → BrokenAt s 9 p
  -- the first byte with which the count passes 32
  at10 : {p : ℕ} → p < length s → peak outside 0 (take p s) ≤ 32 → 32 < peak outside 0 (take (p + 1) s) → BrokenAt s 10 p
  -- the length of the longest start that some text with an object also has
  at11 : {p : ℕ} → Longest s p → BrokenAt s 11 p
  -- the opening mark of the first name, in the order of the text, that holds a backslash
  at12 : {j : Json} {p q : ℕ} (d : Text s j) → place s (seek_text escapes d) ≡ Repeats p q → BrokenAt s 12 p
  -- the opening mark of the first name, in the order of the text, that repeats an earlier one of its object
  at13 : {j : Json} {p q : ℕ} (d : Text s j) → place s (seek_text has d) ≡ Repeats p q → BrokenAt s 13 p

-- none of the rules is broken, and the chunk is a text with an object; or the smallest that is broken, with its place
pub data Exact (s : List ℕ) : Fault → Type 0 where
  accepted : {ms : Fields} → Text s (Json.object ms) → depth (Json.object ms) ≤ 32 → ((n : ℕ) → Broken s n → ⊥) → Exact s (fault 0 0)
  refused : {n p : ℕ} → Broken s n → ((m : ℕ) → m < n → Broken s m → ⊥) → BrokenAt s n p → Exact s (fault n p)
