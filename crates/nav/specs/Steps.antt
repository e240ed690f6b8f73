-- Steps through an array: into it, past an element, and past what follows an element.
-- Assumes nothing: these are definitions.
use Rattle.std.specs.Prelude.{ℕ, ◌≤◌, ◌≡◌, cond, List, [], ◌∷◌, eqb, length, drop}
use Rattle.nav.specs.declared.Step.{Step}
use Rattle.nav.specs.declared.Step.TheVariants.{More, End, Bad}
use Rattle.json_text.specs.Tree.{Json, depth}
use Rattle.json_text.specs.Grammar.{IsWs, Ws, Value}
use Rattle.json_text.specs.Faults.{Not, Is, Stop, Follows}
use Rattle.json_text.specs.Parse.{past_ws}
use Rattle.json_text.specs.Answer.{place_of}
use Rattle.nav.specs.Places.{given, value_at}

-- the step from past a value and the white space behind it, between brackets that c ends
unfoldable pub behind_of : ℕ → List ℕ → List ℕ → Step
behind_of c s [] = Bad
behind_of c s (b ∷ v) = cond (eqb b c) (End (place_of s v)) (cond (eqb b 0x2c) (More (place_of s (past_ws v))) Bad)

-- the step from past a value, where w is what follows it
unfoldable pub after_of : ℕ → List ℕ → List ℕ → Step
after_of c s w = behind_of c s (past_ws w)

-- the step past the value of at most n levels that w starts with
unfoldable pub next_of : ℕ → ℕ → List ℕ → List ℕ → Step
next_of n c s w = given Bad (λ x. after_of c s x.1) (value_at n w)

-- the step from past a bracket and the white space behind it, where c is its closing bracket
unfoldable pub inside_of : ℕ → List ℕ → List ℕ → Step
inside_of c s [] = More (place_of s [])
inside_of c s (b ∷ v) = cond (eqb b c) (End (place_of s v)) (More (place_of s (b ∷ v)))

-- the step behind the bracket b that w starts with
unfoldable pub open_of : ℕ → ℕ → List ℕ → List ℕ → Step
open_of b c s [] = Bad
open_of b c s (a ∷ w) = cond (eqb a b) (inside_of c s (past_ws w)) Bad

-- What these steps mean.

-- the bracket b, and v is what comes first behind it, if that is not its closing bracket c
pub data Opens (b c : ℕ) : List ℕ → List ℕ → Type 0 where
  opens : {w v : List ℕ} → Ws w v → Not IsWs v → Not (Is c) v → Opens b c (b ∷ w) v

-- the step behind the bracket b that w starts with: to what comes first there, or past the closing bracket c
pub data OpenTo (s w : List ℕ) (b c : ℕ) : Step → Type 0 where
  open_more : {q : ℕ} → q ≤ length s → Opens b c w (drop q s) → OpenTo s w b c (More q)
  open_end : {q : ℕ} {v : List ℕ} → q ≤ length s → w ≡ b ∷ v → Ws v (c ∷ drop q s) → OpenTo s w b c (End q)
  open_bad : Not (Is b) w → OpenTo s w b c Bad

-- a value of at most n levels that says j, a comma, and v is what comes next
pub data Leads (n : ℕ) : List ℕ → Json → List ℕ → Type 0 where
  leads : {w a b v : List ℕ} {j : Json} → Value w j a → Stop j a → depth j ≤ n → Ws a (0x2c ∷ b) → Ws b v →
      Not IsWs v → Leads n w j v

-- a value of at most n levels that says j, the closing bracket c, and r is what follows
pub data Ends (n c : ℕ) : List ℕ → Json → List ℕ → Type 0 where
  ends : {w a r : List ℕ} {j : Json} → Value w j a → Stop j a → depth j ≤ n → Ws a (c ∷ r) → Ends n c w j r

-- the step past the value that w starts with: to the next one, or past the closing bracket c
pub data NextTo (s w : List ℕ) (n c : ℕ) : Step → Type 0 where
  next_more : {q : ℕ} {j : Json} → q ≤ length s → Leads n w j (drop q s) → NextTo s w n c (More q)
  next_end : {q : ℕ} {j : Json} → q ≤ length s → Ends n c w j (drop q s) → NextTo s w n c (End q)
  next_bad : ((j : Json) (v : List ℕ) → Leads n w j v → ⊥) → ((j : Json) (r : List ℕ) → Ends n c w j r → ⊥) →
      NextTo s w n c Bad

-- the same step from past the value, where w is what follows it
pub data AfterTo (s w : List ℕ) (c : ℕ) : Step → Type 0 where
  after_more : {q : ℕ} {b : List ℕ} → q ≤ length s → Ws w (0x2c ∷ b) → Ws b (drop q s) → Not IsWs (drop q s) →
      AfterTo s w c (More q)
  after_end : {q : ℕ} → q ≤ length s → Ws w (c ∷ drop q s) → AfterTo s w c (End q)
  after_bad : {r : List ℕ} → Ws w r → Not (Follows c) r → AfterTo s w c Bad
