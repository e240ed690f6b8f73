-- The machine over what changes more than its mode: strings, names and brackets.
-- Assumes nothing.
use Prim.Native.Nat.{ℕ, ◌+◌, ◌*◌, ◌≤◌}
use mathlib.Core.Path.{◌≡◌, refl, ap, ◌∙◌}
use mathlib.Core.Bool.{false}
use mathlib.Core.List.{List, [], ◌∷◌}
use lib.Dec.{eqb}
use Rattle.laws.proofs.Tests.{by_test}
use Rattle.json_text.specs.Depth.{kind}
use Rattle.json_text.specs.Depth.Mode.{outside, inside}
use Rattle.json_text.specs.Depth.Kind.{code}
use Rattle.json_text.specs.Depth.Bracket.{opens}
use Rattle.json_text.specs.Tree.{Json}
use Rattle.json_text.specs.Grammar.{Scalar, Name}
use Rattle.json_text.specs.Grammar.Scalar.{sc_null, sc_true, sc_false, sc_number, sc_string}
use Rattle.json_text.specs.Grammar.Name.{name}
use Rattle.names.specs.declared.Search.TheVariants.{Full}
use Rattle.names.specs.Strings.{spelled}
use Rattle.names.specs.Order.{Names, pairs, Out, then_out, named}
use Rattle.names.specs.Order.Out.{on, found}
use Rattle.names.specs.Names.{room, State, named as named_state, bracketed, step, run, answer}
use Rattle.names.specs.Names.State.{going, stopped}
use Rattle.names.proofs.Runs.{says, run_stopped, run_full}
use Rattle.names.proofs.Along.{Held, told, ◌then◌, quiet3, word_along, ws_along, number_along, chars_along}
use Rattle.names.proofs.Along.Quiet.{quiet_more}
use Rattle.names.proofs.Spelled.{chars_spelled}

-- the same search with another last string, other pairs and other names
abbrev pub moved : Held → List ℕ → List ℕ → ℕ → Names → List Names → Held
moved x l n p c o = record { plan = x.plan; s = x.s; l = l; n = n; p = p; c = c; o = o }

-- the search comes from x at w to the names c and o at r, or stops at a name, or has no room behind k entries, 5 k ≤ most
pub data Goes (most : ℕ) (x : Held) (w r : List ℕ) (c : Names) (o : List Names) : Out → Type 0 where
  goes_on : (l n : List ℕ) {q : ℕ} → told x outside w ≡ told (moved x l n q c o) outside r → Goes most x w r c o (on q)
  goes_found : {v : List ℕ} {q : ℕ} → told x outside w ≡ answer x.s (stopped v q) → Goes most x w r c o (found v q)
  goes_full : {u : Out} (k : ℕ) → (x.plan.roomy k ≡ false) × (5 * k ≤ most) → told x outside w ≡ Full
      → Goes most x w r c o u

module _ {most : ℕ} {x : Held} {w r : List ℕ} {c : Names} {o : List Names} where
  -- first to v, and on from there
  pub before : {u : Out} {v : List ℕ} (l n : List ℕ) (p : ℕ) (d : Names) (e : List Names)
      → told x outside w ≡ told (moved x l n p d e) outside v → Goes most (moved x l n p d e) v r c o u
      → Goes most x w r c o u
  before l n p d e h (goes_on k m z) = goes_on k m (h ∙ z)
  before l n p d e h (goes_found z) = goes_found (h ∙ z)
  before l n p d e h (goes_full k y z) = goes_full k y (h ∙ z)

  -- to a, and from there on to r
  pub goes_end : {u : Out} {a : List ℕ} {d : Names} {e : List Names} → Goes most x w a d e u
      → ((l n : List ℕ) (q : ℕ) → told (moved x l n q d e) outside a ≡ told (moved x l n q c o) outside r)
      → Goes most x w r c o u
  goes_end (goes_on l n h) f = goes_on l n (h ∙ f l n _)
  goes_end (goes_found h) f = goes_found h
  goes_end (goes_full k y h) f = goes_full k y h

-- one search behind another
pub goes_then : {most : ℕ} {x : Held} {w a r : List ℕ} {d c : Names} {e o : List Names} {u : Out} (f : ℕ → Out)
    → Goes most x w a d e u → ((l n : List ℕ) (q : ℕ) → Goes most (moved x l n q d e) a r c o (f q))
    → Goes most x w r c o (then_out u f)
goes_then f (goes_on l n {q = q} h) g = before l n q _ _ h (g l n q)
goes_then f (goes_found h) g = goes_found h
goes_then f (goes_full k y h) g = goes_full k y h

-- a mark opens a string
mark_byte : (x : Held) (w : List ℕ)
    → told x outside (0x22 ∷ w) ≡ told (moved x (0x22 ∷ w) (spelled w) x.p x.c x.o) inside w
unfolding run
mark_byte x w = refl

-- a value that is neither array nor object
pub scalar_goes : {most : ℕ} {w r : List ℕ} {j : Json} (x : Held) → Scalar w j r
    → Goes most x w r x.c x.o (on x.p)
scalar_goes x (sc_null h) =
    goes_on x.l x.n (word_along (refl, refl) (quiet3 (refl, refl) (refl, refl) (refl, refl)) h).same
scalar_goes x (sc_true h) =
    goes_on x.l x.n (word_along (refl, refl) (quiet3 (refl, refl) (refl, refl) (refl, refl)) h).same
scalar_goes x (sc_false h) =
    goes_on x.l x.n
    (word_along (refl, refl) (quiet_more (refl, refl) (quiet3 (refl, refl) (refl, refl) (refl, refl))) h).same
scalar_goes x (sc_number h) = goes_on x.l x.n (number_along h).same
scalar_goes x (sc_string {w = w} h) = goes_on (0x22 ∷ w) (spelled w) (mark_byte x w ∙ (chars_along h).same)

-- a colon makes the last string a name
colon_byte : (x : Held) (w : List ℕ) → told x outside (0x3a ∷ w)
    ≡ says x.plan x.s (named_state x.plan x.l x.n x.p x.c x.o) w
unfolding run
colon_byte x w = refl

colon_goes : {most : ℕ} {w r : List ℕ} {c : Names} {o : List Names} (x : Held) (f : ℕ → Out)
    → 5 * room x.c x.o ≤ most
    → Goes most (moved x x.l x.n (x.p + pairs x.n x.c) (x.n ∷ x.c) x.o) w r c o
    (f (x.p + pairs x.n x.c))
    → Goes most x (0x3a ∷ w) r c o (named x.plan.stop x.l x.n x.c x.p f)
colon_goes {w = w} x f z g =
    let q = x.p + pairs x.n x.c in
    by_test (x.plan.stop x.n x.c)
    (λ e. rw e
    (goes_found {v = x.l} {q = q}
    (colon_byte x w ∙ rw e (ap (λ (t : State). answer x.s t) (run_stopped x.plan x.l q w)))))
    (λ e. by_test (x.plan.roomy (room x.c x.o))
    (λ k. rw e (before x.l x.n q (x.n ∷ x.c) x.o (colon_byte x w ∙ rw (e, k)) g))
    (λ k. goes_full (room x.c x.o) (k, z)
    (colon_byte x w ∙ rw (e, k) (ap (λ (t : State). answer x.s t) (run_full x.plan w)))))

-- a name with its colon
pub named_goes : {most : ℕ} {w k v r : List ℕ} {c : Names} {o : List Names} (x : Held) (f : ℕ → Out)
    → 5 * room x.c x.o ≤ most → Name w k v
    → Goes most (moved x w k (x.p + pairs k x.c) (k ∷ x.c) x.o) v r c o (f (x.p + pairs k x.c))
    → Goes most x w r c o (named x.plan.stop w k x.c x.p f)
named_goes x f t (name {w = w} {k = k} h a b) g =
    let e = chars_spelled h in
    let y = moved x (0x22 ∷ w) k x.p x.c x.o in
    let m : told x outside (0x22 ∷ w) ≡ told y inside w = rw e at (mark_byte x w) in
    before (0x22 ∷ w) k x.p x.c x.o (m ∙ (chars_along h then ws_along a).same)
    (colon_goes y f t (before (0x22 ∷ w) k (x.p + pairs k x.c) (k ∷ x.c) x.o (ws_along b).same g))

-- an opening bracket
open_byte : (x : Held) (b : ℕ) (w : List ℕ) → kind b ≡ code opens → eqb b 0x3a ≡ false → told x outside (b ∷ w)
    ≡ says x.plan x.s (bracketed x.plan opens x.l x.n x.p x.c x.o) w
unfolding run
open_byte x b w e f =
    let k : step x.plan b w (going outside x.l x.n x.p x.c x.o)
    ≡ bracketed x.plan opens x.l x.n x.p x.c x.o = rw (e, f) in
    ap (λ (t : State). says x.plan x.s t w) k

pub open_goes : {most : ℕ} {w r : List ℕ} {c : Names} {o : List Names} {u : Out} (x : Held) (b : ℕ)
    → 5 * room x.c x.o ≤ most → kind b ≡ code opens → eqb b 0x3a ≡ false
    → Goes most (moved x x.l x.n x.p [] (x.c ∷ x.o)) w r c o u → Goes most x (b ∷ w) r c o u
open_goes {w = w} x b z e f g =
    by_test (x.plan.roomy (room x.c x.o))
    (λ k. before x.l x.n x.p [] (x.c ∷ x.o) (open_byte x b w e f ∙ rw k) g)
    (λ k. goes_full (room x.c x.o) (k, z)
    (open_byte x b w e f ∙ rw k (ap (λ (t : State). answer x.s t) (run_full x.plan w))))

-- a closing bracket goes back to the names c
module _ (x : Held) (l n : List ℕ) (q : ℕ) (d c : Names) (o : List Names) (r : List ℕ) where
  pub shut_array : told (moved x l n q d (c ∷ o)) outside (0x5d ∷ r) ≡ told (moved x l n q c o) outside r
  unfolding run
  shut_array = refl

  pub shut_object : told (moved x l n q d (c ∷ o)) outside (0x7d ∷ r) ≡ told (moved x l n q c o) outside r
  unfolding run
  shut_object = refl
