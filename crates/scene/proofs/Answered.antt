-- The code's answers keep all of the definitions' answers.
-- Assumes nothing.
use Rattle.std.proofs.Common.{◌≡◌, ℕ, refl, sym, ap, arith, Result, Ok, Err}
use Rattle.scene.specs.declared.Walked.{Walked}
use Rattle.scene.specs.declared.Refusal.{Refusal}
use Rattle.scene.specs.declared.Refusal.TheVariants.{NoScene, NoRoom, Unfit}
use Rattle.scene.specs.Results.{number_of, walked_of}

-- different refusals have different numbers, none of them 0
number_injective : (a b : Refusal) → number_of a ≡ number_of b → a ≡ b
number_injective NoScene NoScene e = refl
number_injective NoScene NoRoom e = absurd (omega arith)
number_injective NoScene Unfit e = absurd (omega arith)
number_injective NoRoom NoScene e = absurd (omega arith)
number_injective NoRoom NoRoom e = refl
number_injective NoRoom Unfit e = absurd (omega arith)
number_injective Unfit NoScene e = absurd (omega arith)
number_injective Unfit NoRoom e = absurd (omega arith)
number_injective Unfit Unfit e = refl

number_pos : (a : Refusal) → number_of a ≡ 0 → ⊥
number_pos NoScene e = absurd (omega arith)
number_pos NoRoom e = absurd (omega arith)
number_pos Unfit e = absurd (omega arith)

-- different answers are different records
pub walked_of_injective : (a b : Result ℕ Refusal) → walked_of a ≡ walked_of b → a ≡ b
walked_of_injective (Ok m) (Ok n) e = ap (λ k. Ok k) (ap (λ (w : Walked). w.count) e)
walked_of_injective (Ok m) (Err b) e = absurd (number_pos b (ap (λ (w : Walked). w.number) (sym e)))
walked_of_injective (Err a) (Ok n) e = absurd (number_pos a (ap (λ (w : Walked). w.number) e))
walked_of_injective (Err a) (Err b) e =
    ap (λ r. Err r) (number_injective a b (ap (λ (w : Walked). w.number) e))
