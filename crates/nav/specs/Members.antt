-- The members of an object: by name in the tree, and at which places of the text.
-- A place is 0 where there is none: no value of a member stands at the first byte.
-- Assumes nothing: these are definitions.
use Rattle.std.specs.Prelude.{ℕ, zero, suc, ◌≤◌, ◌<◌, cond, List, [], ◌∷◌, eqb, length, drop, map}
use Rattle.std.specs.List.{AllZip}
use Rattle.std.proofs.Math.Option.{Option, some, none}
use Rattle.nav.specs.declared.Step.{Step}
use Rattle.nav.specs.declared.Step.TheVariants.{More, End, Bad}
use Rattle.json_text.specs.Tree.{Json, Fields, depth}
use Rattle.json_text.specs.Grammar.{IsWs, Name, Value}
use Rattle.json_text.specs.Faults.{Not}
use Rattle.json_text.specs.Parse.{past_ws}
use Rattle.json_text.specs.Answer.{place_of}
use Rattle.nav.specs.Places.{Stands, given, value_at, object_of}
use Rattle.nav.specs.Steps.{Opens, Leads, open_of, next_of}
use Rattle.nav.specs.Words.{spells, Quoted}

-- the value of the first member that is named k
unfoldable pub lookup : List ℕ → Fields → Option Json
lookup k Fields.fields_end = none
lookup k (Fields.field_then l j ms) = cond (spells k l) (some j) (lookup k ms)

-- the same of any tree: only an object has members
unfoldable pub field_of : List ℕ → Json → Option Json
field_of k Json.null = none
field_of k Json.true = none
field_of k Json.false = none
field_of k (Json.number ds) = none
field_of k (Json.string cs) = none
field_of k (Json.array js) = none
field_of k (Json.object ms) = lookup k ms

-- the name behind a string: a colon, and then what comes first
abbrev pub colon_of : List ℕ → List ℕ → Option (List ℕ × List ℕ)
colon_of l [] = none
colon_of l (b ∷ v) = cond (eqb b 0x3a) (some (l, past_ws v)) none

-- the same of a value that was read: only a string is a name
abbrev pub named_by : Json × List ℕ → Option (List ℕ × List ℕ)
named_by (Json.null, r) = none
named_by (Json.true, r) = none
named_by (Json.false, r) = none
named_by (Json.number ds, r) = none
named_by (Json.string l, r) = colon_of l (past_ws r)
named_by (Json.array js, r) = none
named_by (Json.object ms, r) = none

-- the name that w starts with, and what comes first behind its colon
unfoldable pub name_at : List ℕ → Option (List ℕ × List ℕ)
name_at w = given none named_by (value_at 0 w)

-- what f says of where a step leads, 0 where it leads to nothing more
abbrev pub onward : (List ℕ → ℕ) → List ℕ → Step → ℕ
onward f s (More q) = f (drop q s)
onward f s (End q) = 0
onward f s Bad = 0

-- the place of the value that the first member named k has, among the first n of the members w
unfoldable pub find_of : ℕ → List ℕ → List ℕ → List ℕ → ℕ
find_of zero s k w = 0
find_of (suc n) s k w =
    given 0
    (λ x. cond (spells k x.0) (place_of s x.1) (onward (λ v. find_of n s k v) s (next_of 31 0x7d s x.1)))
    (name_at w)

-- the same in the object that w starts with; it has fewer members than bytes
unfoldable pub found_of : List ℕ → List ℕ → List ℕ → ℕ
found_of s k w = onward (λ v. find_of (length w) s k v) s (open_of 0x7b 0x7d s w)

-- the place past the object that w starts with
unfoldable pub past_of : List ℕ → List ℕ → ℕ
past_of s w = given 0 (λ x. given 0 (λ ms. place_of s x.1) (object_of (some x.0))) (value_at 32 w)

-- the places of the words' members in their order, and the place past the object
pub record Places : Type 0 where
  pub places : List ℕ
  pub past : ℕ

-- a search for each of the words ks in one object, and the place past it
unfoldable pub gather_of : List ℕ → List ℕ → List (List ℕ) → Places
gather_of s w ks = record { places = map (λ k. found_of s k w) ks; past = past_of s w }

-- What these places mean.

-- among the members w, the first that is named k has its value at v
pub data Finds (k : List ℕ) : List ℕ → List ℕ → Type 0 where
  finds_here : {w l v : List ℕ} → Name w l v → Not IsWs v → Quoted k w → Finds k w v
  finds_on : {w l u c v : List ℕ} {j : Json} → Name w l u → (Quoted k w → ⊥) → Leads 31 u j c → Finds k c v →
      Finds k w v

-- the place of the value that the first member named k has, in the object that w starts with
pub data FoundTo (s w k : List ℕ) : ℕ → Type 0 where
  found_at : {q : ℕ} {u : List ℕ} → 0 < q → q ≤ length s → Opens 0x7b 0x7d w u → Finds k u (drop q s) → FoundTo s w k q
  found_absent : ((u v : List ℕ) → Opens 0x7b 0x7d w u → Finds k u v → ⊥) → FoundTo s w k 0

-- the place past the object that w starts with
pub data PastTo (s w : List ℕ) : ℕ → Type 0 where
  past_at : {q : ℕ} {ms : Fields} → 0 < q → q ≤ length s → Value w (Json.object ms) (drop q s) →
      depth (Json.object ms) ≤ 32 → PastTo s w q
  past_none : ((ms : Fields) (r : List ℕ) → Value w (Json.object ms) r → depth (Json.object ms) ≤ 32 → ⊥) → PastTo s w 0

-- the place of each word's member, and the place past the object
pub record Gathered (s w : List ℕ) (ks : List (List ℕ)) (r : Places) : Type 0 where
  pub found : AllZip (FoundTo s w) ks r.places
  pub end : PastTo s w r.past

-- the place of a member, where the tree has o for it
pub data FoundTree (s : List ℕ) : Option Json → ℕ → Type 0 where
  tree_stands : {q : ℕ} {j : Json} → 0 < q → q ≤ length s → Stands (drop q s) j → FoundTree s (some j) q
  tree_absent : FoundTree s none 0

-- the place of each word's member, where the tree is j
pub record GatheredTree (s : List ℕ) (j : Json) (ks : List (List ℕ)) (r : Places) : Type 0 where
  pub found : AllZip (λ k p. FoundTree s (field_of k j) p) ks r.places
