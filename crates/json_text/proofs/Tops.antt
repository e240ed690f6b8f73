-- The value of a text is an object exactly where { comes first.
-- Assumes nothing.
use Prim.Native.Nat.{ℕ, suc, ◌+◌, ◌-◌, ◌≤◌, ◌<◌}
use native.Mathlib.Omega.{arith}
use native.Mathlib.Numerals.{add-one}
use mathlib.Core.Path.{◌≡◌, refl, sym, ap, ◌∙◌}
use mathlib.Core.List.{List, [], ◌∷◌, ◌++◌, append_assoc}
use lib.ListN.{length, take, drop, get_or, length-append, length-drop}
use lib.Seq.{take_at, drop_at, take-suc, drop-cons}
use Rattle.json_text.specs.Tree.{Json, Fields}
use Rattle.json_text.specs.Grammar.{IsWs, Ws, Value, Text}
use Rattle.json_text.specs.Grammar.Ws.{ws_none}
use Rattle.json_text.specs.Grammar.Value.{val_scalar, val_object0, val_object}
use Rattle.json_text.specs.Grammar.Text.{text}
use Rattle.json_text.specs.Faults.{Not, Is, NoText}
use Rattle.json_text.specs.Faults.Fault.{broke}
use Rattle.json_text.specs.Check.{Longest}
use Rattle.json_text.proofs.Unique.{value_object, value_no_ws, ws_unique, solid}
use Rattle.json_text.proofs.Excluded.{not_is, broke_none}
use Rattle.json_text.proofs.Cuts.{Cut, keep_not, none, ws_reads}
use Rattle.json_text.proofs.Breaks.{text_breaks, filled}

-- an object starts with {
object_first : {w r : List ℕ} {ms : Fields} → Value w (Json.object ms) r → (v : List ℕ) × (w ≡ 0x7b ∷ v)
object_first (val_scalar h) = elim h [ ]
object_first (val_object0 a) = (_, refl)
object_first (val_object a h) = (_, refl)

-- a text whose first byte is { says an object
pub top_object : {w v : List ℕ} {j : Json} → Ws w (0x7b ∷ v) → Text w j → (ms : Fields) × (j ≡ Json.object ms)
top_object x (text y v z) = value_object v (ws_unique y (value_no_ws v) x (solid 0x7b (omega arith)))

-- a text whose first byte is another says none
pub top_other : {w v : List ℕ} {ms : Fields} → Ws w v → Not IsWs v → Not (Is 0x7b) v → Text w (Json.object ms) → ⊥
top_other x n f (text y v z) = let o = object_first v in not_is f (ws_unique x n y (value_no_ws v) ∙ o.1)

-- w breaks at r: no text with an object goes on there
pub record TopBreaks (w r : List ℕ) : Type 0 where
  pub cut : Cut w r
  pub none : (ms : Fields) → Text w (Json.object ms) → ⊥
  pub same : (b : ℕ) (x t : List ℕ) → r ≡ b ∷ x → (ms : Fields) → Text (cut.put (b ∷ t)) (Json.object ms) → ⊥
  pub rest : List ℕ
  pub done : (ms : Fields) × Text (cut.put rest) (Json.object ms)

-- behind {
pub in_object : {n : ℕ} {w v r : List ℕ} → Ws w (0x7b ∷ v) → NoText n w broke r → TopBreaks w r
in_object x h =
    let i = text_breaks h in
    record {
      cut = i.cut;
      none = λ ms y. broke_none h y;
      same = λ b z t e ms y. broke_none (i.same b z t e) y;
      rest = i.rest;
      done = filled x h;
    }

-- at the first byte
pub no_object : {w v : List ℕ} → Ws w v → Not IsWs v → Not (Is 0x7b) v → TopBreaks w v
no_object a q f =
    let k = ws_reads a in
    record {
      cut = k.cut;
      none = λ ms y. top_other a q f y;
      same = λ b x t e ms y. top_other (k.again (b ∷ t)) (keep_not none b x t e q) (keep_not none b x t e f) y;
      rest = 0x7b ∷ 0x7d ∷ [];
      done = (_, text (k.again (0x7b ∷ 0x7d ∷ [])) (val_object0 ws_none) ws_none);
    }

-- what stands before the last part is what `take` takes
front : (s u : List ℕ) (p : ℕ) → p ≤ length s → s ≡ u ++ drop p s → u ≡ take p s
front s u p l e =
    let k : length u ≡ p = omega (arith, simp (length-append, length-drop) at (ap length e)) in
    sym (ap (take p) e ∙ take_at u (drop p s) p k)

-- what was read before is the longest start
pub longest : (s : List ℕ) (p : ℕ) → p ≤ length s → TopBreaks s (drop p s) → Longest s p
longest s p l i =
    let u = front s i.cut.part p l (i.cut.whole ∙ i.cut.parts (drop p s)) in
    record {
      within = l;
      none = i.none;
      starts = (i.rest, i.done.0, rw (← u, ← i.cut.parts) i.done.1);
      longest =
          λ q t ms x. i.same (get_or s p 0) (drop (suc p) s) t (drop-cons s p 0 q) ms
          (rw (i.cut.parts, u) (byte q t x));
    }
  where
    byte : {j : Json} → p < length s → (t : List ℕ) → Text (take (p + 1) s ++ t) j → Text (take p s ++ get_or s p 0 ∷ t) j
    byte q t x = rw (add-one, take-suc s p 0, append_assoc) at x

-- the place of a last part
pub place : (s r : List ℕ) → Cut s r → (length s - length r ≤ length s) × (drop (length s - length r) s ≡ r)
place s r c =
    let e : s ≡ c.part ++ r = c.whole ∙ c.parts r in
    let k : length c.part ≡ length s - length r = omega (arith, simp length-append at (ap length e)) in
    (omega arith, ap (drop (length s - length r)) e ∙ drop_at c.part r (length s - length r) k)
