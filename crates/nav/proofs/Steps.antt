-- Laws of steps: what leads from one place to the next is unique.
-- Assumes nothing.
use Prim.Native.Nat.{ℕ, suc, ◌+◌, ◌-◌, ◌≤◌, ◌<◌}
use native.Mathlib.Omega.{arith}
use native.Mathlib.Decide.{dec_le}
use native.Mathlib.Numerals.{add-one}
use mathlib.Core.Path.{◌≡◌, refl, ap, sym, ◌∙◌}
use mathlib.Core.List.{List, [], ◌∷◌}
use lib.ListN.{length, drop, get_or, drop_of_length-le, length-drop}
use lib.Seq.{drop-cons}
use Rattle.nav.specs.declared.Step.{Step}
use Rattle.nav.specs.declared.Step.TheVariants.{More, End, Bad}
use Rattle.json_text.specs.Tree.{Json, depth}
use Rattle.json_text.specs.Grammar.{IsWs, Ws, Value}
use Rattle.json_text.specs.Faults.{Fault, Not, Is, Stop, Follows, NoValue}
use Rattle.json_text.specs.Faults.Not.{not_end, not_head}
use Rattle.json_text.specs.Faults.Is.{is}
use Rattle.json_text.specs.Lengths.{value_shorter, ws_shorter}
use Rattle.json_text.specs.Parse.{neither}
use Rattle.nav.specs.Results.{front_of}
use Rattle.std.specs.Prelude.{Option, Some}
use Rattle.std.proofs.lemmas.Option.{none-some}
use Rattle.nav.specs.Steps.{Opens, OpenTo, Leads, Ends, NextTo, AfterTo}
use Rattle.nav.specs.Steps.Opens.{opens}
use Rattle.nav.specs.Steps.OpenTo.{open_more, open_end, open_bad}
use Rattle.nav.specs.Steps.Leads.{leads}
use Rattle.nav.specs.Steps.Ends.{ends}
use Rattle.nav.specs.Steps.NextTo.{next_more, next_end, next_bad}
use Rattle.nav.specs.Steps.AfterTo.{after_more, after_end, after_bad}
use Rattle.json_text.proofs.Laws.{Byte, is_same, later}
use Rattle.json_text.proofs.Unique.{solid, heads, tails, ws_unique, value_unique, value_no_ws, same_comma}
use Rattle.json_text.proofs.Excluded.{not_is, Wrong, no_value, not_comma, not_follows, follows_no_ws}
use Rattle.json_text.proofs.Excluded.Wrong.{deeper}
use Rattle.nav.proofs.Scanned.{same_byte}

-- a place is known by what follows it
pub same_place : (s : List ℕ) (p q : ℕ) → p ≤ length s → q ≤ length s → drop p s ≡ drop q s → p ≡ q
same_place s p q l m e = let h : length s - p ≡ length s - q = simp (← length-drop) (ap length e) in omega arith

-- the byte k at a place
pub front_here : (k : ℕ) (s : List ℕ) (at : ℕ) {b : Option ℕ} → b ≡ front_of (drop at s) → b ≡ Some k → Byte k s at
front_here k s at e t = elim (dec_le (suc at) (length s)) [ yes l ↦ byte l | no f ↦ none (omega arith) ]
  where
    byte : at < length s → Byte k s at
    byte l =
        let d : drop at s ≡ get_or s at 0 ∷ drop (at + 1) s = rw (add-one, drop-cons s at 0) in
        let b : get_or s at 0 ≡ k = same_byte (rw d at (sym e ∙ t)) in
        record { within = l; next = omega arith; split = rw (← b) d }

    none : length s ≤ at → Byte k s at
    none l = absurd (none-some k (rw (drop_of_length-le s {i = at} l) at (sym e ∙ t)))

-- another byte than k at a place, or none
pub front_other : (k : ℕ) (w : List ℕ) {b : Option ℕ} → b ≡ front_of w → (b ≡ Some k → ⊥) → Not (Is k) w
front_other k [] e f = not_end
front_other k (a ∷ w) e f = not_head (λ i. f (e ∙ ap Some (is_same i)))

-- neither the bracket c nor a comma, where white space has ended
pub front_neither : {c : ℕ} (w : List ℕ) {b : Option ℕ} → b ≡ front_of w → (b ≡ Some c → ⊥) → (b ≡ Some 0x2c → ⊥) →
    Not IsWs w → Not (Follows c) w
front_neither [] e f g n = not_end
front_neither (a ∷ w) e f g (not_head n) = not_head (neither n (λ h. f (e ∙ ap Some h)) (λ h. g (e ∙ ap Some h)))

-- a fault of a scan with n levels leaves no value of at most n
pub wrong_none : {f : Fault} {n d : ℕ} → Wrong f n d → d ≤ n → ⊥
wrong_none (deeper h) l = omega arith

-- no value, so no step past it
pub next_none : {s w r : List ℕ} {n c : ℕ} {f : Fault} → NoValue n w f r → NextTo s w n c Bad
next_none k = next_bad (λ j v. on k) (λ j v. off k)
  where
    on : {n : ℕ} {f : Fault} {w r v : List ℕ} {j : Json} → NoValue n w f r → Leads n w j v → ⊥
    on k (leads v s l a b m) = wrong_none (no_value k v s) l

    off : {n c : ℕ} {f : Fault} {w r v : List ℕ} {j : Json} → NoValue n w f r → Ends n c w j v → ⊥
    off k (ends v s l a) = wrong_none (no_value k v s) l

-- a value, and then neither a comma nor the closing bracket
bad_leads : {n c : ℕ} {w a r v : List ℕ} {i j : Json} → Value w i a → Stop i a → Ws a r → Not (Follows c) r →
    Leads n w j v → ⊥
bad_leads u m x q (leads v s l y b k) =
    let e = value_unique u m v s in
    not_comma q (ws_unique x (follows_no_ws q) (rw (← e.1) at y) (solid 0x2c (omega arith)))

-- nor does the closing bracket follow
bad_ends : {n c : ℕ} {w a r v : List ℕ} {i j : Json} → Value w i a → Stop i a → Ws a r → Not (Follows c) r →
    0x20 < c → Ends n c w j v → ⊥
bad_ends {c = c} u m x q h (ends v s l y) =
    let e = value_unique u m v s in
    not_follows q (ws_unique x (follows_no_ws q) (rw (← e.1) at y) (solid c h))

-- one way on
pub leads_unique : {n : ℕ} {w u v : List ℕ} {i j : Json} → Leads n w i u → Leads n w j v → (i ≡ j) × (u ≡ v)
leads_unique (leads v s l a b m) (leads v' s' l' a' b' m') =
    let e = value_unique v s v' s' in
    let g = same_comma a (rw (← e.1) at a') in
    (e.0, ws_unique b m (rw (← g) at b') m')

-- one closing bracket
same_close : {w x y : List ℕ} {c : ℕ} → 0x2c < c → Ws w (c ∷ x) → Ws w (c ∷ y) → x ≡ y
same_close {c = c} h x y = tails (ws_unique x (solid c (omega arith)) y (solid c (omega arith)))

-- a comma, or a closing bracket
comma_close : {w x y : List ℕ} {c : ℕ} → 0x2c < c → Ws w (0x2c ∷ x) → Ws w (c ∷ y) → ⊥
comma_close {c = c} h x y =
    omega (arith, heads (ws_unique x (solid 0x2c (omega arith)) y (solid c (omega arith))))

-- the same behind a value
leads_close : {n m c : ℕ} {w u v : List ℕ} {i j : Json} → 0x2c < c → Leads n w i u → Ends m c w j v → ⊥
leads_close h (leads v s l a b m) (ends v' s' l' a') =
    let e = value_unique v s v' s' in
    comma_close h a (rw (← e.1) at a')

-- a comma, or the closing brace
pub leads_brace : {n m : ℕ} {w u v : List ℕ} {i j : Json} → Leads n w i u → Ends m 0x7d w j v → ⊥
leads_brace x y = leads_close (omega arith) x y

-- a comma, or the closing bracket
pub leads_bracket : {n m : ℕ} {w u v : List ℕ} {i j : Json} → Leads n w i u → Ends m 0x5d w j v → ⊥
leads_bracket x y = leads_close (omega arith) x y

-- one end
pub ends_unique : {n m c : ℕ} {w u v : List ℕ} {i j : Json} → 0x2c < c → Ends n c w i u → Ends m c w j v → u ≡ v
ends_unique h (ends v s l a) (ends v' s' l' a') =
    let e = value_unique v s v' s' in
    same_close h a (rw (← e.1) at a')

-- a step leaves less of the text
pub leads_shorter : {n : ℕ} {w v : List ℕ} {j : Json} → Leads n w j v → length v < length w
leads_shorter (leads v s l a b m) = omega (arith, value_shorter v, ws_shorter a, ws_shorter b)

-- and so does the last one
pub ends_shorter : {n c : ℕ} {w v : List ℕ} {j : Json} → Ends n c w j v → length v < length w
ends_shorter (ends v s l a) = omega (arith, value_shorter v, ws_shorter a)

-- a value starts with no white space
pub leads_no_ws : {n : ℕ} {w v : List ℕ} {j : Json} → Leads n w j v → Not IsWs w
leads_no_ws (leads v s l a b m) = value_no_ws v

-- one way in, of two texts that are one
opens_same : {b c : ℕ} {w z u v : List ℕ} → w ≡ z → Opens b c w u → Opens b c z v → u ≡ v
opens_same e (opens a m q) (opens a' m' q') = ws_unique (rw (tails e) at a) m a' m'

-- one way in
pub opens_unique : {b c : ℕ} {w u v : List ℕ} → Opens b c w u → Opens b c w v → u ≡ v
opens_unique x y = opens_same refl x y

-- what opens leaves less of the text
pub opens_shorter : {b c : ℕ} {w v : List ℕ} → Opens b c w v → length v < length w
opens_shorter (opens x m q) = omega (arith, ws_shorter x)

-- no bracket, no way in
pub shut_none : {b c : ℕ} {w v : List ℕ} → Not (Is b) w → Opens b c w v → ⊥
shut_none not_end x = elim x [ ]
shut_none (not_head f) (opens a m q) = f is

-- nor where the closing bracket comes first
empty_from : {b c : ℕ} {w z r v : List ℕ} → 0x20 < c → z ≡ b ∷ w → Ws w (c ∷ r) → Opens b c z v → ⊥
empty_from {c = c} h e x (opens a m q) = not_is q (ws_unique (rw (tails e) at a) m x (solid c h))

-- the same of that text itself
pub empty_none : {b c : ℕ} {w r v : List ℕ} → 0x20 < c → Ws w (c ∷ r) → Opens b c (b ∷ w) v → ⊥
empty_none h x y = empty_from h refl x y

-- the answers of `next`, taken apart
module _ {s w : List ℕ} {n c q : ℕ} where
  -- a comma
  pub led : {o : Step} → NextTo s w n c o → o ≡ More q → (j : Json) × (q ≤ length s) × Leads n w j (drop q s)
  led (next_more {q = p} {j = j} l k) e = let h : p ≡ q = cc in rw (← h) (j, l, k)
  led (next_end l k) e = absurd (let z : ◌≡◌ {A = ℕ} 0 1 = cc in omega arith)
  led (next_bad f g) e = absurd (let z : ◌≡◌ {A = ℕ} 0 1 = cc in omega arith)

  -- the closing bracket
  pub ended : {o : Step} → NextTo s w n c o → o ≡ End q → (j : Json) × (q ≤ length s) × Ends n c w j (drop q s)
  ended (next_more l k) e = absurd (let z : ◌≡◌ {A = ℕ} 0 1 = cc in omega arith)
  ended (next_end {q = p} {j = j} l k) e = let h : p ≡ q = cc in rw (← h) (j, l, k)
  ended (next_bad f g) e = absurd (let z : ◌≡◌ {A = ℕ} 0 1 = cc in omega arith)

-- no step is left
pub lost : {s w : List ℕ} {n c : ℕ} {o : Step} → NextTo s w n c o → o ≡ Bad →
    ((j : Json) (v : List ℕ) → Leads n w j v → ⊥) × ((j : Json) (v : List ℕ) → Ends n c w j v → ⊥)
lost (next_more l k) e = absurd (let z : ◌≡◌ {A = ℕ} 0 1 = cc in omega arith)
lost (next_end l k) e = absurd (let z : ◌≡◌ {A = ℕ} 0 1 = cc in omega arith)
lost (next_bad f g) e = (f, g)

-- the answers of `open`, taken apart
module _ {s w : List ℕ} {b c q : ℕ} where
  -- something inside
  pub opened : {o : Step} → OpenTo s w b c o → o ≡ More q → (q ≤ length s) × Opens b c w (drop q s)
  opened (open_more {q = p} l k) e = let h : p ≡ q = cc in rw (← h) (l, k)
  opened (open_end l k x) e = absurd (let z : ◌≡◌ {A = ℕ} 0 1 = cc in omega arith)
  opened (open_bad f) e = absurd (let z : ◌≡◌ {A = ℕ} 0 1 = cc in omega arith)

  -- nothing inside
  pub empty : {o : Step} → OpenTo s w b c o → o ≡ End q → (v : List ℕ) × (q ≤ length s) × (w ≡ b ∷ v) × Ws v
      (c ∷ drop q s)
  empty (open_more l k) e = absurd (let z : ◌≡◌ {A = ℕ} 0 1 = cc in omega arith)
  empty (open_end {q = p} {v = v} l k x) e = let h : p ≡ q = cc in rw (← h) (v, l, k, x)
  empty (open_bad f) e = absurd (let z : ◌≡◌ {A = ℕ} 0 1 = cc in omega arith)

-- past the brackets of nothing
pub open_later : (s : List ℕ) (at : ℕ) {v : List ℕ} {b c q : ℕ} → q ≤ length s → drop at s ≡ b ∷ v → Ws v
    (c ∷ drop q s) →
    at < q
open_later s at {q = q} l e x = later s at q l (rw e (omega (arith, ws_shorter x)))

-- nothing opens
pub shut : {s w : List ℕ} {b c : ℕ} {o : Step} → OpenTo s w b c o → o ≡ Bad → Not (Is b) w
shut (open_more l k) e = absurd (let z : ◌≡◌ {A = ℕ} 0 1 = cc in omega arith)
shut (open_end l k x) e = absurd (let z : ◌≡◌ {A = ℕ} 0 1 = cc in omega arith)
shut (open_bad f) e = f

-- the step into brackets has one answer
pub open_unique : {s w : List ℕ} {b c : ℕ} {o p : Step} → 0x2c < c → OpenTo s w b c o → OpenTo s w b c p → o ≡ p
open_unique {s = s} h (open_more {q = q} l x) (open_more {q = r} m y) =
    ap More (same_place s q r l m (opens_unique x y))
open_unique h (open_more l x) (open_end m e y) = absurd (empty_none (omega arith) y (rw e at x))
open_unique h (open_more l x) (open_bad f) = absurd (shut_none f x)
open_unique h (open_end l e x) (open_more m y) = absurd (empty_none (omega arith) x (rw e at y))
open_unique {s = s} h (open_end {q = q} l e x) (open_end {q = r} m d y) =
    ap End (same_place s q r l m (same_close h x (rw (← tails (sym e ∙ d)) at y)))
open_unique h (open_end l e x) (open_bad f) = absurd (not_is f e)
open_unique h (open_bad f) (open_more m y) = absurd (shut_none f y)
open_unique h (open_bad f) (open_end m d y) = absurd (not_is f d)
open_unique h (open_bad f) (open_bad g) = refl

-- and so has the step past a value
pub next_unique : {s w : List ℕ} {n c : ℕ} {o p : Step} → 0x2c < c → NextTo s w n c o → NextTo s w n c p → o ≡ p
next_unique {s = s} h (next_more {q = q} l x) (next_more {q = r} m y) =
    ap More (same_place s q r l m (leads_unique x y).1)
next_unique h (next_more l x) (next_end m y) = absurd (leads_close h x y)
next_unique h (next_more l x) (next_bad f g) = absurd (f _ _ x)
next_unique h (next_end l x) (next_more m y) = absurd (leads_close h y x)
next_unique {s = s} h (next_end {q = q} l x) (next_end {q = r} m y) =
    ap End (same_place s q r l m (ends_unique h x y))
next_unique h (next_end l x) (next_bad f g) = absurd (g _ _ x)
next_unique h (next_bad f g) (next_more m y) = absurd (f _ _ y)
next_unique h (next_bad f g) (next_end m y) = absurd (g _ _ y)
next_unique h (next_bad f g) (next_bad i k) = refl

-- neither follows
no_comma : {w b r : List ℕ} {c : ℕ} → Ws w (0x2c ∷ b) → Ws w r → Not (Follows c) r → ⊥
no_comma x y q = not_comma q (ws_unique y (follows_no_ws q) x (solid 0x2c (omega arith)))

-- no closing bracket
no_close : {w b r : List ℕ} {c : ℕ} → 0x20 < c → Ws w (c ∷ b) → Ws w r → Not (Follows c) r → ⊥
no_close {c = c} h x y q = not_follows q (ws_unique y (follows_no_ws q) x (solid c h))

-- and the step from past a value
pub after_unique : {s w : List ℕ} {c : ℕ} {o p : Step} → 0x2c < c → AfterTo s w c o → AfterTo s w c p → o ≡ p
after_unique {s = s} h (after_more {q = q} l x y z) (after_more {q = r} l' x' y' z') =
    ap More (same_place s q r l l' (ws_unique y z (rw (← same_comma x x') at y') z'))
after_unique h (after_more l x y z) (after_end l' x') = absurd (comma_close h x x')
after_unique h (after_more l x y z) (after_bad y' f) = absurd (no_comma x y' f)
after_unique h (after_end l x) (after_more l' x' y z) = absurd (comma_close h x' x)
after_unique {s = s} h (after_end {q = q} l x) (after_end {q = r} l' x') =
    ap End (same_place s q r l l' (same_close h x x'))
after_unique h (after_end l x) (after_bad y' f) = absurd (no_close (omega arith) x y' f)
after_unique h (after_bad y f) (after_more l x y' z) = absurd (no_comma x y f)
after_unique h (after_bad y f) (after_end l x) = absurd (no_close (omega arith) x y f)
after_unique h (after_bad y f) (after_bad y' g) = refl

-- the step from past a value is the step past it
pub next_after : {s w a : List ℕ} {n c : ℕ} {j : Json} {o : Step} → 0x20 < c → Value w j a → Stop j a → depth j ≤ n →
    AfterTo s a c o → NextTo s w n c o
next_after h v t d (after_more l x y z) = next_more l (leads v t d x y z)
next_after h v t d (after_end l x) = next_end l (ends v t d x)
next_after h v t d (after_bad x f) = next_bad (λ j u. bad_leads v t x f) (λ j r. bad_ends v t x f h)

-- it leads to a later place
pub after_later : (s : List ℕ) (at : ℕ) {c q : ℕ} {o : Step} → AfterTo s (drop at s) c o → o ≡ More q → (at < q) ×
    (q ≤ length s)
after_later s at {q = q} a d = let m = by a d in (later s at q m.0 m.1, m.0)
  where
    by : {w : List ℕ} {c : ℕ} {o : Step} → AfterTo s w c o → o ≡ More q → (q ≤ length s) ×
        (length (drop q s) < length w)
    by (after_more {q = p} l x y z) e = let h : p ≡ q = cc in rw (← h) (l, omega (arith, ws_shorter x, ws_shorter y))
    by (after_end l x) e = absurd (let z : ◌≡◌ {A = ℕ} 0 1 = cc in omega arith)
    by (after_bad x f) e = absurd (let z : ◌≡◌ {A = ℕ} 0 1 = cc in omega arith)
