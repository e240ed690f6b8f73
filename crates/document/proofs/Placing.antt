-- What stands at the place of a member, and past an object, where the code says none by None.
-- Assumes nothing.
use Prim.Native.Nat.{ℕ, ◌<◌}
use native.Mathlib.Omega.{arith}
use mathlib.Core.Path.{◌≡◌, refl, sym, ap, ◌∙◌}
use mathlib.Core.Bool.{true, false, not}
use mathlib.Core.List.{List}
use mathlib.Core.Option.{Option, some, none}
use lib.ListN.{drop}
use borrow.Author.Tests.{ne_eqb}
use Rattle.std.specs.Prelude.{Result, Ok, Err, Some, None, is_some, ok_or}
use Rattle.std.specs.Prelude as P
use Rattle.json_text.specs.Tree.{Json}
use Rattle.nav.specs.Places.{Stands, given}
use Rattle.nav.specs.Members.{PastTo, FoundTree}
use Rattle.nav.specs.Results.{Placed}
use Rattle.nav.proofs.Navigation.{placed_some, placed_none}
use Rattle.nav.proofs.Navigation as nav
use Rattle.document.specs.declared.members.Unfit.{Unfit}
use Rattle.document.specs.Members.{is_object}
use Rattle.document.proofs.Objects.{object_past}

-- a member that is found
pub at_some : {s : List ℕ} {o : Option Json} {at : P.Option ℕ} {q : ℕ} → Placed (FoundTree s o) at → at ≡ Some q
    → (j : Json) × (o ≡ some j) × Stands (drop q s) j
at_some x e = let p = placed_some x e in nav.at_some p.0 p.1

-- a member that is not found
pub at_none : {s : List ℕ} {o : Option Json} {at : P.Option ℕ} → Placed (FoundTree s o) at → at ≡ None → o ≡ none
at_none x e = nav.at_none (placed_none x e) refl

-- there is a place exactly where the tree has the member
pub has_member : {s : List ℕ} {o : Option Json} {at : P.Option ℕ} → Placed (FoundTree s o) at
    → is_some at ≡ given false (λ i. true) o
has_member {at = Some q} x = rw (at_some x refl).1 refl
has_member {at = None} x = rw (at_none x refl) refl

-- a place that is asked for and there
some_ok : (o : P.Option ℕ) {u : Unfit} {r : Result ℕ Unfit} {q : ℕ} → r ≡ ok_or o u → r ≡ Ok q → o ≡ Some q
some_ok (Some p) {q = q} e d = let x : p ≡ q = grind arith in rw x refl
some_ok None e d = absurd (grind arith)

-- one that is not
none_err : (o : P.Option ℕ) {u v : Unfit} {r : Result ℕ Unfit} → r ≡ ok_or o u → r ≡ Err v → o ≡ None
none_err (Some p) e d = absurd (grind arith)
none_err None e d = refl

module _ {s w : List ℕ} where
  -- there is a place past an object
  an_object : {past : P.Option ℕ} → Placed (PastTo s w) past → {q : ℕ} {j : Json} → past ≡ Some q → Stands w j
      → is_object j ≡ true
  an_object x {q = q} e t = let p = placed_some x e in sym (object_past p.0 t) ∙ ap not (ne_eqb q 0 p.1)

  -- and none past another value
  no_object : {past : P.Option ℕ} → Placed (PastTo s w) past → {j : Json} → past ≡ None → Stands w j → is_object j ≡ false
  no_object x e t = sym (object_past (placed_none x e) t)

  -- exactly there
  pub is_past : {past : P.Option ℕ} → Placed (PastTo s w) past → {j : Json} → Stands w j → is_some past ≡ is_object j
  is_past {past = Some q} x t = sym (an_object x refl t)
  is_past {past = None} x t = sym (no_object x refl t)

  module _ {past : P.Option ℕ} (x : Placed (PastTo s w) past) (u : Unfit) {r : Result ℕ Unfit} (e : r ≡ ok_or past u) where
    -- the place past it is there
    pub past_ok : {q : ℕ} → r ≡ Ok q → (0 < q) × PastTo s w q × ((j : Json) → Stands w j → is_object j ≡ true)
    past_ok {q = q} d =
        let y = some_ok past e d in
        let p = placed_some x y in
        (omega (arith, p.1), p.0, λ j t. an_object x y t)

    -- it is not
    pub past_err : {v : Unfit} → r ≡ Err v → (j : Json) → Stands w j → is_object j ≡ false
    past_err d j t = no_object x (none_err past e d) t
