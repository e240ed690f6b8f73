-- A value's kind, by its first byte, is its tree's.
-- Assumes nothing.
use Prim.Native.Nat.{ℕ, ◌≤◌}
use native.Mathlib.Omega.{arith}
use mathlib.Core.Path.{◌≡◌, refl, ◌∙◌}
use mathlib.Core.Bool.{cond, ◌&&◌}
use mathlib.Core.List.{List}
use lib.Dec.{leb}
use borrow.Author.Tests.{ne_eqb, le-leb}
use Rattle.nav.specs.declared.Kind.TheVariants.{Number, Other}
use Rattle.json_text.specs.Tree.{Json}
use Rattle.json_text.specs.Grammar.{Value}
use Rattle.json_text.specs.Grammar.Int.{int_zero, int_more}
use Rattle.json_text.specs.Grammar.Magnitude.{magnitude}
use Rattle.json_text.specs.Grammar.Number.{num_plain, num_minus}
use Rattle.json_text.specs.Grammar.Scalar.{sc_null, sc_true, sc_false, sc_number, sc_string}
use Rattle.json_text.specs.Grammar.Value.{val_scalar, val_array0, val_array, val_object0, val_object}
use Rattle.json_text.specs.Answer.{first}
use Rattle.nav.specs.Kinds.{kind_of, tree_kind}

-- a byte that no value but a number starts with, or none
pub plain_kind : (b : ℕ) → (b ≡ 0x7b → ⊥) → (b ≡ 0x5b → ⊥) → (b ≡ 0x22 → ⊥) → (b ≡ 0x74 → ⊥) → (b ≡ 0x66 → ⊥) →
    (b ≡ 0x6e → ⊥) → (b ≡ 0x2d → ⊥) → kind_of b ≡ cond (leb 0x30 b && leb b 0x39) Number Other
unfolding kind_of
plain_kind b f g h i j k l =
    rw (
      ne_eqb b 0x7b f,
      ne_eqb b 0x5b g,
      ne_eqb b 0x22 h,
      ne_eqb b 0x74 i,
      ne_eqb b 0x66 j,
      ne_eqb b 0x6e k,
      ne_eqb b 0x2d l,
    )

-- a digit starts a number
pub digit_kind : (d : ℕ) → 0x30 ≤ d → d ≤ 0x39 → kind_of d ≡ Number
digit_kind d a b =
    plain_kind d (λ e. omega arith) (λ e. omega arith) (λ e. omega arith) (λ e. omega arith) (λ e. omega arith)
    (λ e. omega arith) (λ e. omega arith) ∙ rw (le-leb 0x30 d a, le-leb d 0x39 b)

-- the first byte decides the kind
pub value_kind : {w a : List ℕ} {j : Json} → Value w j a → kind_of (first w) ≡ tree_kind j
unfolding kind_of tree_kind
value_kind (val_scalar (sc_null h)) = refl
value_kind (val_scalar (sc_true h)) = refl
value_kind (val_scalar (sc_false h)) = refl
value_kind (val_scalar (sc_number (num_plain (magnitude int_zero f e)))) = refl
value_kind (val_scalar (sc_number (num_plain (magnitude (int_more {d = d} g h) f e)))) = digit_kind d (omega arith) g.1
value_kind (val_scalar (sc_number (num_minus h))) = refl
value_kind (val_scalar (sc_string h)) = refl
value_kind (val_array0 x) = refl
value_kind (val_array x h) = refl
value_kind (val_object0 x) = refl
value_kind (val_object x h) = refl
