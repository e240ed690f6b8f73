-- What this crate's definitions mean: the theorems, each proved in a file of its own.
-- Assumes nothing.
use Prim.Native.Nat.{ℕ, ◌<◌, ◌≤◌}
use mathlib.Core.Path.{◌≡◌, refl, ◌∙◌}
use mathlib.Core.Bool.{true, false, ◌||◌}
use mathlib.Core.List.{List, []}
use mathlib.Core.Logic.{◌⊎◌, inl, inr, ⊎_elim}
use native.Mathlib.Omega.{arith}
use borrow.Author.Tests.{lt-ltb, le-ltb, ltb-true, ltb-false, leb-true, leb-false}
use lib.Dec.{ltb, leb}
use lib.ListN.{get_or, length}
use Rattle.laws.proofs.Tests.{by_test, or_false}
use Rattle.tables.specs.declared.Tables.{Tables}
use Rattle.graph.specs.Order.{in_turn}
use Rattle.graph.proofs.Booleans.{or_cases}
use Rattle.scene.specs.Lists.{roots_of}
use Rattle.scene.specs.Walk.{refused, accepted, listed, walk_unfit, order_of, walk_of}
use Rattle.scene.specs.Meaning.{Sized, Unfit, Found, Answer}
use Rattle.scene.specs.Meaning.Answer.{no_scene, unfit, short, walked}
use Rattle.scene.proofs.Orders.{order_one}
use Rattle.scene.proofs.Unfits.{unfit_yes, unfit_no}
use Rattle.scene.proofs.Founds.{order_found, walk_listed}

-- 66 is given exactly where the tables are unfit
pub unfit_exact : (t : Tables) → Sized t
    → ((walk_unfit t ≡ true) × Unfit t) ⊎ ((walk_unfit t ≡ false) × (Unfit t → ⊥))
unfit_exact t sized =
    by_test (walk_unfit t) (λ e. inl (e, unfit_yes t sized e)) (λ e. inr (e, unfit_no t sized e))

-- the answer is the paper's, whatever the scene and the list
pub walk_exact : (t : Tables) → Sized t → (scene : ℕ) (list : List ℕ) → Answer t scene list (walk_of t scene list)
unfolding walk_of listed
walk_exact t sized scene list =
    by_test (leb t.scenes scene || leb 8 scene)
    (λ e. rw e (no_scene (⊎_elim (λ a. inl (leb-true _ _ a)) (λ a. inr (leb-true _ _ a))
    (or_cases (leb t.scenes scene) (leb 8 scene) e))))
    (λ e. let p = or_false (leb t.scenes scene) (leb 8 scene) e in
    let there = leb-false t.scenes scene p.0 in
    let low = leb-false 8 scene p.1 in
    rw e (by_test (walk_unfit t)
    (λ u. rw u (unfit there low (unfit_yes t sized u)))
    (λ u. let fit = unfit_no t sized u in
    let found = order_found t sized scene there fit in
    rw u (by_test (ltb (length list) (length (order_of t scene)))
    (λ s. rw s (short there low fit (order_of t scene) found (ltb-true _ _ s)))
    (λ s. rw s (walked there low fit (order_of t scene) found (ltb-false _ _ s)))))))

-- a scene has one order alone
pub found_unique : {t : Tables} {scene : ℕ} {a b : List ℕ} → Found t scene a → Found t scene b → a ≡ b
found_unique p q = order_one _ p.ordered q.ordered

-- Tables that are not unfit, and one of their scenes.
module _ (t : Tables) (sized : Sized t) (scene : ℕ) (there : scene < t.scenes) (low : scene < 8) (ok : Unfit t → ⊥) where
  -- the order is there
  pub found : Found t scene (order_of t scene)
  found = order_found t sized scene there ok

  -- given room, the nodes found are written
  pub walk_room : (list : List ℕ) → length (order_of t scene) ≤ length list
      → walk_of t scene list ≡ accepted (order_of t scene) list
  unfolding listed
  walk_room list h =
      walk_listed t sized scene there ok low list ∙ rw (le-ltb (length list) (length (order_of t scene)) h) refl

  -- with one place less, or fewer, 65 comes
  pub walk_short : (list : List ℕ) → length list < length (order_of t scene) → walk_of t scene list ≡ refused 65 list
  unfolding listed
  walk_short list h =
      walk_listed t sized scene there ok low list ∙ rw (lt-ltb (length list) (length (order_of t scene)) h) refl

  -- a scene without nodes gives 0, even into an empty list
  pub walk_none : get_or (roots_of t) scene [] ≡ [] → (list : List ℕ) → walk_of t scene list ≡ refused 0 list
  unfolding in_turn
  walk_none e list = walk_room list (rw e (omega arith)) ∙ rw e refl
