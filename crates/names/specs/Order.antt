-- Rules 12 and 13 in the order of a text, by its derivation: each name against the earlier names of its own object, then
-- the member's value, then the later members. The search ends at the first name that stops it.
-- Assumes nothing: these are definitions.
use Rattle.std.specs.Prelude.{ℕ, ◌+◌, ◌-◌, Bool, false, cond, ◌||◌, List, [], ◌∷◌, eqb, length}
use Rattle.json_text.specs.Tree.{Json, Values, Fields}
use Rattle.json_text.specs.Grammar.{Value, Elements, Member, Members, Text}
use Rattle.json_text.specs.Grammar.Value.{val_scalar, val_array0, val_array, val_object0, val_object}
use Rattle.json_text.specs.Grammar.Elements.{elem_last, elem_more}
use Rattle.json_text.specs.Grammar.Member.{member}
use Rattle.json_text.specs.Grammar.Members.{mem_last, mem_more}
use Rattle.json_text.specs.Grammar.Text.{text}
use Rattle.names.specs.declared.Search.{Search}
use Rattle.names.specs.declared.Search.TheVariants.{Clear, Repeats}
use Rattle.names.specs.Strings.{same, slashed}

-- the names of an open object so far, the latest first
abbrev pub Names : Type 0
Names = List (List ℕ)

-- when a name stops the search, given the earlier names of its object
abbrev pub Stop : Type 0
Stop = List ℕ → Names → Bool

-- rule 12: it holds a backslash
abbrev pub escapes : Stop
escapes n c = slashed n

-- rule 13: it is one of the earlier names
unfoldable pub has : Stop
has n [] = false
has n (x ∷ c) = has n c || same n x

-- how many of the earlier names, from the first to the one that equals n, have the length of n: these pairs are compared
unfoldable pub pairs : List ℕ → Names → ℕ
pairs n [] = 0
pairs n (x ∷ c) = pairs n c + cond (has n c) 0 (cond (eqb (length x) (length n)) 1 0)

-- on, with so many pairs compared; or found: what is left of the text at the name's opening mark, and the pairs
pub data Out : Type 0 where
  on : ℕ → Out
  found : List ℕ → ℕ → Out

-- the search goes on unless it has found a name
abbrev pub then_out : Out → (ℕ → Out) → Out
then_out (on q) f = f q
then_out (found v q) f = found v q

-- the name n, which stands at w, behind the earlier names c
abbrev pub named : Stop → List ℕ → List ℕ → Names → ℕ → (ℕ → Out) → Out
named stop w n c p f = cond (stop n c) (found w (p + pairs n c)) (f (p + pairs n c))

-- the names in a value, in an array's elements, in a member's value, and those of an object's members, p pairs being past
unfoldable mutual
  pub seek_value : (stop : Stop) {w r : List ℕ} {j : Json} → Value w j r → ℕ → Out
  seek_value stop (val_scalar h) p = on p
  seek_value stop (val_array0 a) p = on p
  seek_value stop (val_array a h) p = seek_elements stop h p
  seek_value stop (val_object0 a) p = on p
  seek_value stop (val_object a h) p = seek_members stop h [] p

  pub seek_elements : (stop : Stop) {w r : List ℕ} {js : Values} → Elements w js r → ℕ → Out
  seek_elements stop (elem_last v a) p = seek_value stop v p
  seek_elements stop (elem_more v a b h) p = then_out (seek_value stop v p) (λ q. seek_elements stop h q)

  pub seek_member : (stop : Stop) {w k r : List ℕ} {j : Json} → Member w k j r → ℕ → Out
  seek_member stop (member n v) p = seek_value stop v p

  pub seek_members : (stop : Stop) {w r : List ℕ} {ms : Fields} → Members w ms r → Names → ℕ → Out
  seek_members stop (mem_last {w = w} {k = k} m a) c p = named stop w k c p (λ q. seek_member stop m q)
  seek_members stop (mem_more {w = w} {k = k} m a b h) c p =
      then_out (named stop w k c p (λ q. seek_member stop m q)) (λ q. seek_members stop h (k ∷ c) q)

-- the whole text
unfoldable pub seek_text : (stop : Stop) {s : List ℕ} {j : Json} → Text s j → Out
seek_text stop (text a v b) = seek_value stop v 0

-- the place of a name in the text s is how much stands before it
abbrev pub place : List ℕ → Out → Search
place s (on q) = Clear q
place s (found v q) = Repeats (length s - length v) q
