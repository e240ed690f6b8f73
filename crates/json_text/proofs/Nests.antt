-- Laws of answers for arrays and objects: an answer for what is left is one for the whole.
-- Assumes nothing.
use Prim.Native.Nat.{ℕ, zero, suc, ◌≤◌, ◌<◌}
use native.Mathlib.Omega.{arith}
use mathlib.Core.List.{List, ◌∷◌}
use lib.ListN.{drop, length}
use Rattle.std.proofs.Common.{Result, Ok, Err}
use Rattle.json_text.specs.declared.error.ScanError.{ScanError}
use Rattle.json_text.specs.declared.error.ScanError.TheVariants.{Broke}
use Rattle.json_text.specs.Tree.{depth}
use Rattle.json_text.specs.Grammar.{IsWs, Ws}
use Rattle.json_text.specs.Grammar.Value.{val_array0, val_array, val_object0, val_object}
use Rattle.json_text.specs.Grammar.Elements.{elem_last, elem_more}
use Rattle.json_text.specs.Grammar.Members.{mem_last, mem_more}
use Rattle.json_text.specs.declared.value.Kind.{Kind}
use Rattle.json_text.specs.declared.value.Kind.TheVariants.{Array, Object}
use Rattle.json_text.specs.Lengths.{value_shorter, member_shorter}
use Rattle.json_text.specs.Faults.{Fault, Not, Is, NoValue, NoElements, NoMembers}
use Rattle.json_text.specs.Faults.Stop.{stop_array, stop_object}
use Rattle.json_text.specs.Faults.NoValue.{val_deep_array, val_deep_object, val_in_array, val_in_object}
use Rattle.json_text.specs.Faults.Fault.{deep}
use Rattle.json_text.specs.Faults.NoElements.{elem_in, elem_after, elem_on}
use Rattle.json_text.specs.Faults.NoMembers.{mem_in, mem_after, mem_on}
use Rattle.json_text.specs.Scans.{Says, ValueOk, ElementsOk, MemberOk, MembersOk, MoreAt, EndAt, BadAt}
use Rattle.json_text.specs.Scans.{ItemOk, NoItem, ItemsOk, NoItems, opening, closing}
use Rattle.json_text.specs.Scans.Says.{says_past, says_broke}
use Rattle.json_text.proofs.Laws.{says_as}

-- past the opening bracket, and the white space behind it
pub array_none : {s w : List ℕ} {n p : ℕ} → p ≤ length s → Ws w (0x5d ∷ drop p s) →
    Says s (ValueOk (suc n) (0x5b ∷ w)) (NoValue (suc n) (0x5b ∷ w)) (Ok p)
unfolding depth
array_none l a = says_past l (_, val_array0 a, stop_array, omega arith)

-- elements follow
pub array_some : {s w v : List ℕ} {n : ℕ} {o : Result ℕ ScanError} → Ws w v → Not IsWs v → Not (Is 0x5d) v →
    Says s (ElementsOk n v) (NoElements n v) o → Says s (ValueOk (suc n) (0x5b ∷ w)) (NoValue (suc n) (0x5b ∷ w)) o
unfolding depth
array_some a b d = says_as (λ r k. (_, val_array a k.1, stop_array, omega arith)) (λ f r k. val_in_array a b d k)

-- past a value
pub array_more : {s w : List ℕ} {n p q : ℕ} {o : Result ℕ ScanError} → ValueOk n w (drop p s) → MoreAt s p q →
    Says s (ElementsOk n (drop q s)) (NoElements n (drop q s)) o → Says s (ElementsOk n w) (NoElements n w) o
unfolding depth
array_more v m =
    says_as (λ r k. (_, elem_more v.1 m.comma m.run k.1, omega arith))
    (λ f r k. elem_on v.1 v.2 v.3 m.comma m.run m.stop k)

-- the array ends
pub array_end : {s w : List ℕ} {n p q : ℕ} → ValueOk n w (drop p s) → EndAt s p 0x5d q →
    Says s (ElementsOk n w) (NoElements n w) (Ok q)
unfolding depth
array_end v m = says_past m.within (_, elem_last v.1 m.run, omega arith)

-- neither a comma nor the end follows
pub array_bad : {s w : List ℕ} {n p q : ℕ} → ValueOk n w (drop p s) → BadAt s p 0x5d q →
    Says s (ElementsOk n w) (NoElements n w) (Err (Broke q))
array_bad v m = says_broke m.within (elem_after v.1 v.2 v.3 m.run m.stop)

-- past the opening brace, and the white space behind it
pub object_none : {s w : List ℕ} {n p : ℕ} → p ≤ length s → Ws w (0x7d ∷ drop p s) →
    Says s (ValueOk (suc n) (0x7b ∷ w)) (NoValue (suc n) (0x7b ∷ w)) (Ok p)
unfolding depth
object_none l a = says_past l (_, val_object0 a, stop_object, omega arith)

-- members follow
pub object_some : {s w v : List ℕ} {n : ℕ} {o : Result ℕ ScanError} → Ws w v → Not IsWs v → Not (Is 0x7d) v →
    Says s (MembersOk n v) (NoMembers n v) o → Says s (ValueOk (suc n) (0x7b ∷ w)) (NoValue (suc n) (0x7b ∷ w)) o
unfolding depth
object_some a b d = says_as (λ r k. (_, val_object a k.1, stop_object, omega arith)) (λ f r k. val_in_object a b d k)

-- past a member
pub object_more : {s w : List ℕ} {n p q : ℕ} {o : Result ℕ ScanError} → MemberOk n w (drop p s) → MoreAt s p q →
    Says s (MembersOk n (drop q s)) (NoMembers n (drop q s)) o → Says s (MembersOk n w) (NoMembers n w) o
unfolding depth
object_more v m =
    says_as (λ r k. (_, mem_more v.2 m.comma m.run k.1, omega arith))
    (λ f r k. mem_on v.2 v.3 v.4 m.comma m.run m.stop k)

-- the object ends
pub object_end : {s w : List ℕ} {n p q : ℕ} → MemberOk n w (drop p s) → EndAt s p 0x7d q →
    Says s (MembersOk n w) (NoMembers n w) (Ok q)
unfolding depth
object_end v m = says_past m.within (_, mem_last v.2 m.run, omega arith)

-- neither a comma nor the end follows
pub object_bad : {s w : List ℕ} {n p q : ℕ} → MemberOk n w (drop p s) → BadAt s p 0x7d q →
    Says s (MembersOk n w) (NoMembers n w) (Err (Broke q))
object_bad v m = says_broke m.within (mem_after v.2 v.3 v.4 m.run m.stop)

-- the same of arrays and objects as one
module _ {s : List ℕ} (w : List ℕ) (n : ℕ) where
  -- past the opening bracket, and the white space behind it
  pub nest_none : {p : ℕ} (k : Kind) → p ≤ length s → Ws w (closing k ∷ drop p s) →
      Says s (ValueOk (suc n) (opening k ∷ w)) (NoValue (suc n) (opening k ∷ w)) (Ok p)
  nest_none Array l a = array_none l a
  nest_none Object l a = object_none l a

  -- items follow
  pub nest_some : {v : List ℕ} {o : Result ℕ ScanError} (k : Kind) → Ws w v → Not IsWs v → Not (Is (closing k)) v →
      Says s (ItemsOk k n v) (NoItems k n v) o →
      Says s (ValueOk (suc n) (opening k ∷ w)) (NoValue (suc n) (opening k ∷ w)) o
  nest_some Array a b d = array_some a b d
  nest_some Object a b d = object_some a b d

  -- past an item
  pub nest_more : {p q : ℕ} {o : Result ℕ ScanError} (k : Kind) → ItemOk k n w (drop p s) → MoreAt s p q →
      Says s (ItemsOk k n (drop q s)) (NoItems k n (drop q s)) o → Says s (ItemsOk k n w) (NoItems k n w) o
  nest_more Array v m = array_more v m
  nest_more Object v m = object_more v m

  -- it ends
  pub nest_end : {p q : ℕ} (k : Kind) → ItemOk k n w (drop p s) → EndAt s p (closing k) q →
      Says s (ItemsOk k n w) (NoItems k n w) (Ok q)
  nest_end Array v m = array_end v m
  nest_end Object v m = object_end v m

  -- neither a comma nor the end follows
  pub nest_bad : {p q : ℕ} (k : Kind) → ItemOk k n w (drop p s) → BadAt s p (closing k) q →
      Says s (ItemsOk k n w) (NoItems k n w) (Err (Broke q))
  nest_bad Array v m = array_bad v m
  nest_bad Object v m = object_bad v m

-- a fault in an item
pub nest_in : (w : List ℕ) (n : ℕ) (k : Kind) (f : Fault) (r : List ℕ) → NoItem k n w f r → NoItems k n w f r
nest_in w n Array f r m = elem_in m
nest_in w n Object f r m = mem_in m

-- what follows an item is shorter
pub item_shorter : (w : List ℕ) (n : ℕ) (k : Kind) (r : List ℕ) → ItemOk k n w r → length r < length w
item_shorter w n Array r v = value_shorter v.1
item_shorter w n Object r v = member_shorter v.2

-- no level is left for it
pub nest_deep : {w : List ℕ} (k : Kind) → NoValue zero (opening k ∷ w) deep (opening k ∷ w)
nest_deep Array = val_deep_array
nest_deep Object = val_deep_object

-- a closing bracket is a byte
pub closing_byte : (k : Kind) → closing k < 256
closing_byte Array = omega arith
closing_byte Object = omega arith
