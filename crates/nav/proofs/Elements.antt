-- Steps through an array are steps through the tree's elements.
-- Assumes nothing.
use Prim.Native.Nat.{ℕ, ◌≤◌}
use native.Mathlib.Omega.{arith}
use mathlib.Core.Path.{◌≡◌, refl}
use mathlib.Core.List.{List, ◌∷◌}
use Rattle.json_text.specs.Tree.{Json, Values, depth, depths}
use Rattle.json_text.specs.Grammar.{Ws, Value, Elements}
use Rattle.json_text.specs.Grammar.Value.{val_scalar, val_array0, val_array}
use Rattle.json_text.specs.Grammar.Elements.{elem_last, elem_more}
use Rattle.json_text.specs.Faults.{Not, Is}
use Rattle.nav.specs.Places.{Stands, Walk}
use Rattle.nav.specs.Steps.{Opens, Leads, Ends}
use Rattle.nav.specs.Steps.Opens.{opens}
use Rattle.nav.specs.Steps.Leads.{leads}
use Rattle.nav.specs.Steps.Ends.{ends}
use Rattle.json_text.proofs.Unique.{solid, ws_unique, elements_no_ws, scalar_bracket, no_elements, at_bracket, at_comma}
use Rattle.json_text.proofs.Excluded.{not_is}
use Rattle.nav.proofs.Steps.{leads_unique, leads_bracket}

-- an element, and a comma behind it
pub went_on : {w v : List ℕ} {i : Json} {js : Values} → Leads 32 w i v → Walk w js →
    (j : Json) × (is : Values) × (js ≡ Values.value_then j is) × Stands w j × Walk v is
unfolding depth
went_on x t = by x t.reads t.shallow
  where
    by : {w v a : List ℕ} {i : Json} {js : Values} → Leads 32 w i v → Elements w js a → depths js ≤ 32 →
        (j : Json) × (is : Values) × (js ≡ Values.value_then j is) × Stands w j × Walk v is
    by x (elem_last v y) d = absurd (leads_bracket {m = 32} x (ends v (at_bracket v y) (omega arith) y))
    by x (elem_more {j = j} {js = is} v y z h) d =
        let u = leads_unique x (leads v (at_comma v y) (omega arith) y z (elements_no_ws h)) in (
          j,
          is,
          refl,
          record { rest = _; reads = v; stop = at_comma v y; shallow = omega arith },
          rw u.1 (record { rest = _; reads = h; shallow = omega arith }),
        )

-- an element, and the closing bracket behind it
pub closed_by : {w v : List ℕ} {i : Json} {js : Values} → Ends 32 0x5d w i v → Walk w js →
    (j : Json) × (js ≡ Values.value_then j Values.values_end) × Stands w j
unfolding depth
closed_by x t = by x t.reads t.shallow
  where
    by : {w v a : List ℕ} {i : Json} {js : Values} → Ends 32 0x5d w i v → Elements w js a → depths js ≤ 32 →
        (j : Json) × (js ≡ Values.value_then j Values.values_end) × Stands w j
    by x (elem_last {j = j} v y) d =
        (j, refl, record { rest = _; reads = v; stop = at_bracket v y; shallow = omega arith })
    by x (elem_more v y z h) d =
        absurd (leads_bracket {n = 32} (leads v (at_comma v y) (omega arith) y z (elements_no_ws h)) x)

-- one of them is behind each element
pub not_neither : {w : List ℕ} {js : Values} → ((j : Json) (v : List ℕ) → Leads 32 w j v → ⊥) →
    ((j : Json) (v : List ℕ) → Ends 32 0x5d w j v → ⊥) → Walk w js → ⊥
unfolding depth
not_neither f g t = by f g t.reads t.shallow
  where
    by : {w a : List ℕ} {js : Values} → ((j : Json) (v : List ℕ) → Leads 32 w j v → ⊥) →
        ((j : Json) (v : List ℕ) → Ends 32 0x5d w j v → ⊥) → Elements w js a → depths js ≤ 32 → ⊥
    by f g (elem_last v y) d = g _ _ (ends v (at_bracket v y) (omega arith) y)
    by f g (elem_more v y z h) d = f _ _ (leads v (at_comma v y) (omega arith) y z (elements_no_ws h))

-- the array that opens at w
pub array_some : {w u : List ℕ} {j : Json} → Opens 0x5b 0x5d w u → Stands w j →
    (js : Values) × (j ≡ Json.array js) × Walk u js
unfolding depth
array_some x t = by x t.reads t.shallow
  where
    by : {w u a : List ℕ} {j : Json} → Opens 0x5b 0x5d w u → Value w j a → depth j ≤ 32 →
        (js : Values) × (j ≡ Json.array js) × Walk u js
    by (opens x n q) (val_scalar h) d = absurd (scalar_bracket h)
    by (opens x n q) (val_array0 y) d = absurd (not_is q (ws_unique x n y (solid 0x5d (omega arith))))
    by (opens x n q) (val_array {js = js} y h) d =
        (js, refl, record { rest = _; reads = rw (← ws_unique x n y (elements_no_ws h)) at h; shallow = omega arith })

-- an empty array
pub array_none : {w u r : List ℕ} {j : Json} → w ≡ 0x5b ∷ u → Ws u (0x5d ∷ r) → Stands w j →
    j ≡ Json.array Values.values_end
array_none e x t = by x (rw e at t.reads)
  where
    by : {u r a : List ℕ} {j : Json} → Ws u (0x5d ∷ r) → Value (0x5b ∷ u) j a → j ≡ Json.array Values.values_end
    by x (val_scalar h) = absurd (scalar_bracket h)
    by x (val_array0 y) = refl
    by x (val_array y h) = absurd (no_elements x y h)

-- no array
pub array_not : {w : List ℕ} {j : Json} → Not (Is 0x5b) w → Stands w j → (js : Values) → j ≡ Json.array js → ⊥
array_not n t js e = by n (rw e at t.reads)
  where
    by : {w a : List ℕ} {js : Values} → Not (Is 0x5b) w → Value w (Json.array js) a → ⊥
    by n (val_scalar h) = elim h [ ]
    by n (val_array0 x) = not_is n refl
    by n (val_array x h) = not_is n refl
