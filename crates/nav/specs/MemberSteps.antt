-- Steps through the members of an object: into it, and past a member's value.
-- Assumes nothing: these are definitions.
use Rattle.std.specs.Prelude.{ℕ, ◌≤◌, ◌≡◌, List, length, drop}
use Rattle.nav.specs.declared.Step.{Step}
use Rattle.nav.specs.declared.Step.TheVariants as step
use Rattle.nav.specs.declared.members.Member.{Member}
use Rattle.nav.specs.declared.members.Member.TheVariants.{More, End, Bad}
use Rattle.json_text.specs.Tree.{Json, Fields}
use Rattle.json_text.specs.Grammar.{IsWs, Name}
use Rattle.json_text.specs.Faults.{Not}
use Rattle.json_text.specs.Answer.{place_of}
use Rattle.nav.specs.Places.{Stands, given}
use Rattle.nav.specs.Steps.{open_of, next_of}
use Rattle.nav.specs.Members.{name_at}

-- the member that a step leads to: the place of its name, and the place of its value
unfoldable pub member_of : List ℕ → Step → Member
member_of s (step.More q) = given Bad (λ x. More q (place_of s x.1)) (name_at (drop q s))
member_of s (step.End q) = End q
member_of s step.Bad = Bad

-- the first member of the object that w starts with
unfoldable pub first_member_of : List ℕ → List ℕ → Member
first_member_of s w = member_of s (open_of 0x7b 0x7d s w)

-- the member that follows the one whose value w starts with; in an object a value has at most 31 levels
unfoldable pub next_member_of : List ℕ → List ℕ → Member
next_member_of s w = member_of s (next_of 31 0x7d s w)

-- What these steps mean.

-- the member that a step leads to: a name and its colon, and then its value
pub data NamedTo (s : List ℕ) : Step → Member → Type 0 where
  named_more : {n v : ℕ} {l : List ℕ} → v ≤ length s → Name (drop n s) l (drop v s) → Not IsWs (drop v s) →
      NamedTo s (step.More n) (More n v)
  named_not : {n : ℕ} → ((l v : List ℕ) → Name (drop n s) l v → ⊥) → NamedTo s (step.More n) Bad
  named_end : {q : ℕ} → NamedTo s (step.End q) (End q)
  named_bad : NamedTo s step.Bad Bad

-- the steps from o on are the members ms in order: each with its name and its value at their places, and then the end
-- of the object, behind which s has r
pub data Tour (s r : List ℕ) : Member → Fields → Type 0 where
  tour_more : {n v : ℕ} {l : List ℕ} {j : Json} {ms : Fields} → Stands (drop n s) (Json.string l) →
      Stands (drop v s) j → Tour s r (next_member_of s (drop v s)) ms → Tour s r (More n v) (Fields.field_then l j ms)
  tour_end : {q : ℕ} → q ≤ length s → drop q s ≡ r → Tour s r (End q) Fields.fields_end
