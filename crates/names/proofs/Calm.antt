-- Bytes without a backslash hold no name with one.
-- Assumes nothing.
use Prim.Native.Nat.{ℕ}
use mathlib.Core.Path.{◌≡◌, refl}
use mathlib.Core.Bool.{false}
use mathlib.Core.List.{List, [], ◌∷◌}
use lib.Dec.{eqb}
use Rattle.laws.proofs.Tests.{by_test, or_false}
use Rattle.json_text.specs.Depth.{Mode, Kind, Bracket, kind}
use Rattle.json_text.specs.Depth.Mode.{outside, inside, hidden}
use Rattle.json_text.specs.Depth.Kind.{mark, slash, code}
use Rattle.json_text.specs.Depth.Bracket.{opens, closes, neither}
use Rattle.json_text.specs.Strings.{to_close}
use Rattle.std.specs.Prelude.{None}
use Rattle.names.specs.Strings.{slashed}
use Rattle.names.specs.Order.{Names}
use Rattle.names.specs.Names.{plan12, State, bracketed, outside_step, step, run, answer, escaped_by, escaped_of}
use Rattle.names.specs.Names.State.{going, stopped, full}
use Rattle.names.proofs.Strings.{slashed_take}

-- the search of rule 12 goes on, and the last string has no backslash
data Calm : State → Type 0 where
  calm : {m : Mode} {l n : List ℕ} {p : ℕ} {c : Names} {o : List Names} → slashed n ≡ false
      → Calm (going m l n p c o)

calm_bracket : (x : Bracket) (l n : List ℕ) (p : ℕ) (c : Names) (o : List Names) → slashed n ≡ false
    → Calm (bracketed plan12 x l n p c o)
calm_bracket opens l n p c o e = calm e
calm_bracket closes l n p c [] e = calm e
calm_bracket closes l n p c (x ∷ o) e = calm e
calm_bracket neither l n p c o e = calm e

calm_outside : (k : Kind) (b : ℕ) (w l n : List ℕ) (p : ℕ) (c : Names) (o : List Names)
    → slashed n ≡ false → slashed w ≡ false → Calm (outside_step plan12 k b w l n p c o)
calm_outside mark b w l n p c o e f = calm (slashed_take (to_close false w) w f)
calm_outside slash b w l n p c o e f = calm e
calm_outside (code x) b w l n p c o e f =
    by_test (eqb b 0x3a) (λ h. rw (h, e) (calm e)) (λ h. rw h (calm_bracket x l n p c o e))

calm_step : (b : ℕ) (w : List ℕ) (t : State) → Calm t → slashed w ≡ false → Calm (step plan12 b w t)
calm_step b w (going outside l n p c o) (calm e) f = calm_outside (kind b) b w l n p c o e f
calm_step b w (going inside l n p c o) (calm e) f = calm e
calm_step b w (going hidden l n p c o) (calm e) f = calm e
calm_step b w (stopped _ _) x f = elim x [ ]
calm_step b w full x f = elim x [ ]

calm_run : (t : State) (w : List ℕ) → Calm t → slashed w ≡ false → Calm (run plan12 t w)
unfolding run slashed
calm_run t [] x f = x
calm_run t (b ∷ w) x f =
    let h = or_false (eqb b 0x5c) (slashed w) f in
    calm_run (step plan12 b w t) w (calm_step b w t x h.1) h.1

calm_answer : (s : List ℕ) (t : State) → Calm t → None ≡ escaped_by (answer s t)
calm_answer s (going m l n p c o) (calm e) = refl
calm_answer s (stopped _ _) x = elim x [ ]
calm_answer s full x = elim x [ ]

-- rule 12 finds nothing
pub plain_without : (s : List ℕ) → slashed s ≡ false → None ≡ escaped_of s
unfolding escaped_of slashed
plain_without s e = calm_answer s _ (calm_run (going outside s [] 0 [] []) s (calm refl) e)
