-- The stack of names in two arrays: `st` has the places of the opening marks, `ln` the lengths.
-- Assumes nothing.
use Prim.Native.Nat.{ℕ, zero, suc, ◌+◌, ◌≤◌, ◌<◌}
use native.Mathlib.Omega.{arith}
use mathlib.Core.Path.{◌≡◌, refl, ◌∙◌, ap}
use mathlib.Core.Bool.{Bool, true, false}
use mathlib.Core.List.{List, [], ◌∷◌}
use borrow.Author.Tests.{ne_eqb, eq-eqb, ltb-true, ltb-false}
use lib.Dec.{ltb}
use lib.ListN.{length, drop, take, get_or, set, length-take, length-drop}
use lib.Seq.{get_or-set_other}
use Rattle.laws.proofs.Tests.{by_test}
use Rattle.names.specs.Strings.{same}
use Rattle.names.specs.Order.{Names, has, pairs}
use Rattle.names.specs.Names.{room}
use Rattle.names.proofs.Strings.{same_length}

-- the name of entry k
abbrev pub entry : List ℕ → List ℕ → List ℕ → ℕ → List ℕ
entry s st ln k = take (get_or ln k 0) (drop (get_or st k 0 + 1) s)

-- the names of n entries from lo on, the latest first
abbrev pub up_to : List ℕ → List ℕ → List ℕ → ℕ → ℕ → Names
up_to s st ln lo zero = []
up_to s st ln lo (suc n) = entry s st ln (lo + n) ∷ up_to s st ln lo n

-- they are parts of s
abbrev pub Good : List ℕ → List ℕ → List ℕ → ℕ → ℕ → Type 0
Good s st ln lo n = (k : ℕ) → lo ≤ k → k < lo + n → get_or st k 0 + 1 + get_or ln k 0 ≤ length s

-- what stands below base: the names of the outer brackets, and behind each the entry that keeps where they begin
pub data Below (s st ln : List ℕ) : ℕ → List Names → Type 0 where
  below_none : Below s st ln 0 []
  below_more : (lo n : ℕ) {o : List Names} → Below s st ln lo o → Good s st ln lo n → get_or st (lo + n) 0 ≡ lo
      → Below s st ln (suc (lo + n)) (up_to s st ln lo n ∷ o)

-- two arrays agree below m
abbrev pub Agree : List ℕ → List ℕ → ℕ → Type 0
Agree a b m = (k : ℕ) → k < m → get_or b k 0 ≡ get_or a k 0

-- a store at or past m, or none, keeps that
pub agree_set : (a : List ℕ) (i v m : ℕ) → m ≤ i → Agree a (set a i v) m
agree_set a i v m l k h = get_or-set_other a i k v 0 (λ e. omega arith)

pub agree_same : (a : List ℕ) (m : ℕ) → Agree a a m
agree_same a m k h = refl

-- what the entries say stays where the arrays agree
module _ (s st ln st' ln' : List ℕ) where
  pub up_to_agree : (lo n : ℕ) → Agree st st' (lo + n) → Agree ln ln' (lo + n)
      → up_to s st' ln' lo n ≡ up_to s st ln lo n
  up_to_agree lo zero f g = refl
  up_to_agree lo (suc n) f g =
      rw (
        f (lo + n) (omega arith),
        g (lo + n) (omega arith),
        up_to_agree lo n (λ k l. f k (omega arith)) (λ k l. g k (omega arith)),
      )

  pub good_agree : (lo n : ℕ) → Agree st st' (lo + n) → Agree ln ln' (lo + n) → Good s st ln lo n
      → Good s st' ln' lo n
  good_agree lo n f g h k a b = rw (f k b, g k b) (h k a b)

  pub below_agree : {base : ℕ} {o : List Names} → Below s st ln base o → Agree st st' base → Agree ln ln' base
      → Below s st' ln' base o
  below_agree below_none f g = below_none
  below_agree (below_more lo n b h e) f g =
      let f' : Agree st st' (lo + n) = λ k l. f k (omega arith) in
      let g' : Agree ln ln' (lo + n) = λ k l. g k (omega arith) in
      rw (← up_to_agree lo n f' g')
      (below_more lo n (below_agree b (λ k l. f k (omega arith)) (λ k l. g k (omega arith))) (good_agree lo n f' g' h)
      (f (lo + n) (omega arith) ∙ e))

-- n entries are n names
pub up_to_length : (s st ln : List ℕ) (lo n : ℕ) → length (up_to s st ln lo n) ≡ n
up_to_length s st ln lo zero = refl
up_to_length s st ln lo (suc n) = ap suc (up_to_length s st ln lo n)

-- the entries in all
pub room_top : {s st ln : List ℕ} {base : ℕ} {o : List Names} (n : ℕ) → Below s st ln base o
    → room (up_to s st ln base n) o ≡ base + n
room_top {s = s} {st = st} {ln = ln} n below_none = omega (arith, up_to_length s st ln 0 n)
room_top {s = s} {st = st} {ln = ln} n (below_more lo m b h e) =
    omega (arith, up_to_length s st ln (suc (lo + m)) n, room_top m b)

-- an entry that is a part of s has its length
entry_length : (s st ln : List ℕ) (k : ℕ) → get_or st k 0 + 1 + get_or ln k 0 ≤ length s
    → length (entry s st ln k) ≡ get_or ln k 0
entry_length s st ln k h =
    omega (arith, length-take (get_or ln k 0) (drop (get_or st k 0 + 1) s), length-drop (get_or st k 0 + 1) s)

-- one more of the earlier names was looked at: it has another length, or it is compared
module _ (s st ln name : List ℕ) (lo n : ℕ) (h : get_or st (lo + n) 0 + 1 + get_or ln (lo + n) 0 ≤ length s)
    (f : has name (up_to s st ln lo n) ≡ false) where
  pub look_long : (get_or ln (lo + n) 0 ≡ length name → ⊥)
      → (has name (up_to s st ln lo (suc n)) ≡ false)
      × (pairs name (up_to s st ln lo (suc n)) ≡ pairs name (up_to s st ln lo n))
  unfolding has pairs
  look_long g =
      let e = entry_length s st ln (lo + n) h in
      let x = same_length name (entry s st ln (lo + n)) (λ k. g (omega arith)) in
      let y = ne_eqb (length (entry s st ln (lo + n))) (length name) (λ k. g (omega arith)) in
      (rw (f, x), rw (f, y) (omega arith))

  pub look_pair : (r : Bool) → get_or ln (lo + n) 0 ≡ length name → same name (entry s st ln (lo + n)) ≡ r
      → (has name (up_to s st ln lo (suc n)) ≡ r)
      × (pairs name (up_to s st ln lo (suc n)) ≡ pairs name (up_to s st ln lo n) + 1)
  unfolding has pairs
  look_pair r g x =
      let e = entry_length s st ln (lo + n) h in
      let y = eq-eqb (length (entry s st ln (lo + n))) (length name) (omega arith) in
      (rw (f, x), rw (f, y))

-- what was found stays found
pub has_more : (s st ln name : List ℕ) (lo m n : ℕ) → m ≤ n → has name (up_to s st ln lo m) ≡ true
    → (has name (up_to s st ln lo n) ≡ true) × (pairs name (up_to s st ln lo n) ≡ pairs name (up_to s st ln lo m))
unfolding has pairs
has_more s st ln name lo m zero l e = let z : m ≡ 0 = omega arith in (rw z at e, rw z)
has_more s st ln name lo m (suc n) l e =
    by_test (ltb n m)
    (λ k. let z : m ≡ suc n = omega (arith, ltb-true n m k) in (rw z at e, rw z))
    (λ k. let h = has_more s st ln name lo m n (ltb-false n m k) e in (rw h.0, rw (h.0, ← h.1) (omega arith)))
