-- What the answers of rules 12 and 13 say of a text's tree. Assumes nothing: these are definitions.
use Rattle.std.specs.Prelude.{ℕ, Option, Some, None}
use Rattle.json_text.specs.Tree.{Json}
use Rattle.names.specs.declared.Search.{Search}
use Rattle.names.specs.declared.Search.TheVariants.{Clear, Repeats}
use Rattle.names.specs.Rules.{Breaks12, Breaks13}

-- a place exactly where the tree breaks rule 12
pub data Rule12 (j : Json) : Option ℕ → Type 0 where
  holds12 : (Breaks12 j → ⊥) → Rule12 j None
  breaks12 : {p : ℕ} → Breaks12 j → Rule12 j (Some p)

-- `Repeats` exactly where the tree breaks rule 13; `Full` says nothing, and is no answer
pub data Rule13 (j : Json) : Search → Type 0 where
  holds13 : {q : ℕ} → (Breaks13 j → ⊥) → Rule13 j (Clear q)
  breaks13 : {p q : ℕ} → Breaks13 j → Rule13 j (Repeats p q)
