-- `json_text::number::exponent` meets its contract.
-- Assumes nothing.
use Rattle.std.proofs.Common.{◌≡◌, ℕ, ◌+◌, ◌⊎◌, drop, inl, inr, refl, arith}
use Rattle.json_text.specs.Grammar.{IsE, IsSign}
use Rattle.json_text.specs.Grammar.IsE.{small, capital}
use Rattle.json_text.specs.Grammar.IsSign.{plus, minus}
use Rattle.json_text.specs.Faults.{Not}
use Rattle.json_text.specs.Faults.ExpTo.{to_exp_none, to_exp_plain, to_exp_signed}
use Rattle.json_text.specs.Faults.NoExp.{exp_in, exp_in_signed}
use Rattle.json_text.specs.Scans.Says.{says_past}
use Rattle.json_text.proofs.Laws.{stands, peeked_not, ended, says_as, e_byte, sign_byte}
use Rattle.json_text.proofs.number.exponent.Goals as goal
use Rattle.json_text.proofs.number.exponent.Goals.{in_default-peek-via-in-Some+in_default, in_default-peek-via-in_default}

-- the letters of an exponent, and the signs
letter : {b : ℕ} → (b ≡ 0x45) ⊎ (b ≡ 0x65) → IsE b
letter (inl e) = rw e capital
letter (inr e) = rw e small

no_letter : {b : ℕ} → ((b ≡ 0x45) ⊎ (b ≡ 0x65) → ⊥) → IsE b → ⊥
no_letter f small = f (inr refl)
no_letter f capital = f (inl refl)

sign : {b : ℕ} → (b ≡ 0x2b) ⊎ (b ≡ 0x2d) → IsSign b
sign (inl e) = rw e plus
sign (inr e) = rw e minus

no_sign : {b : ℕ} → ((b ≡ 0x2b) ⊎ (b ≡ 0x2d) → ⊥) → IsSign b → ⊥
no_sign f plus = f (inl refl)
no_sign f minus = f (inr refl)

pub returns-in-Some-eq43 : goal.returns-in-Some-eq43
returns-in-Some-eq43 c =
    let h = stands IsE e_byte c.in-Some-eq101.ensures (letter c.in-Some-eq101.field-0-test) in
    let k = stands IsSign sign_byte c.in-Some-eq43.ensures (sign c.in-Some-eq43.field-0-test) in
    let e : c.args.at + 2 ≡ c.args.at + 1 + 1 = omega arith in
    rw (h.split, k.split)
    (says_as (λ r m. (_, to_exp_signed h.is k.is m.1)) (λ f r m. exp_in_signed h.is k.is m)
    (rw e at c.some.ensures))

pub returns-in_default-peek : goal.returns-in_default-peek
returns-in_default-peek c =
    let h = stands IsE e_byte c.in-Some-eq101.ensures (letter c.in-Some-eq101.field-0-test) in
    let n : Not IsSign (drop (c.args.at + 1) c.args.s.now) = elim c.in_default-peek.branch [
      | in_default-peek-via-in-Some+in_default w ↦
          peeked_not w.in_default-peek.ensures (no_sign w.in_default-peek.field-0-test.1)
      | in_default-peek-via-in_default w ↦ ended c.peek-in-Some-eq101.ensures w.in_default-peek.is
    ] in
    rw h.split
    (says_as (λ r m. (_, to_exp_plain h.is m.1)) (λ f r m. exp_in h.is n m) c.some-in_default-peek.ensures)

pub returns-in_default : goal.returns-in_default
returns-in_default c =
    says_past c.requires
    (_, to_exp_none (peeked_not c.in_default.ensures (no_letter c.in_default.field-0-test.1)))

pub returns-in_default-2 : goal.returns-in_default-2
returns-in_default-2 c = says_past c.requires (_, to_exp_none (ended c.peek.ensures c.in_default.is))
