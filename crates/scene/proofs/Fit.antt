-- Packed lists that are not refused by 66: what a walk may rely on.
-- Assumes nothing.
use Prim.Native.Nat.{ℕ, zero, suc, ◌+◌, ◌<◌, ◌≤◌}
use mathlib.Core.Path.{◌≡◌, refl, sym, ◌∙◌}
use mathlib.Core.Bool.{Bool, true, false, not, true≢false, ◌||◌}
use mathlib.Core.List.{List, []}
use native.Mathlib.Omega.{arith}
use borrow.Author.Tests.{ltb-true, ltb-false, le-leb, eqb-true}
use lib.Dec.{ltb, leb, eqb}
use lib.ListN.{get_or, length, take, drop, length-take, length-drop}
use lib.Seq.{get_or-take, get_or-drop}
use Rattle.laws.proofs.Tests.{by_test, or_false}
use Rattle.graph.specs.Graph.{graph_fault}
use Rattle.graph.specs.Rules.{In}
use Rattle.graph.specs.Rules.In.{at}
use Rattle.graph.specs.Packing.{list_at, PlacedAt, misplaced, packed_lists, packed_fault_of, packed_refused}
use Rattle.graph.proofs.Counting.{any_in_lem}
use Rattle.graph.proofs.Reach.{Linked as Joined}
use Rattle.graph.proofs.Tests.{linked}
use Rattle.graph.proofs.Capacity.{sound_holds}
use Rattle.graph.proofs.Placing.{Placed, placed, length-packed, packed_at}
use Rattle.scene.specs.Steps.{kids_in, Linked, Rooted}

-- all lists are in their places, and no rule of 41 to 46 is broken
pub record Fit (nS nL ch : List ℕ) (n : ℕ) (sS sL ro : List ℕ) (s : ℕ) : Type 0 where
  pub nodes : Placed 128 nS nL ch n
  pub scenes : Placed 8 sS sL ro s
  pub sound : (graph_fault (packed_lists nS nL ch n) (packed_lists sS sL ro s)).number ≡ 0

not-false : (b : Bool) → not b ≡ false → b ≡ true
not-false true e = refl
not-false false e = absurd (true≢false e)

pub fit : (nS nL ch : List ℕ) (n : ℕ) (sS sL ro : List ℕ) (s : ℕ) → packed_refused nS nL ch n sS sL ro s ≡ false
    → Fit nS nL ch n sS sL ro s
unfolding packed_refused packed_fault_of
fit nS nL ch n sS sL ro s e =
    by_test (misplaced 128 nS nL ch n || misplaced 8 sS sL ro s)
    (λ t. absurd (true≢false (rw t at e)))
    (λ f. let p = or_false (misplaced 128 nS nL ch n) (misplaced 8 sS sL ro s) f in
    let ok : not (eqb (graph_fault (packed_lists nS nL ch n) (packed_lists sS sL ro s)).number 0) ≡ false = rw f at e in
    record { nodes = placed p.0; scenes = placed p.1; sound = eqb-true _ 0 (not-false _ ok) })

-- the packed lists go by the records below the count
pub packed_same : (st st' ln ln' packed : List ℕ) (n : ℕ) → ((i : ℕ) → i < n → get_or st i 0 ≡ get_or st' i 0)
    → ((i : ℕ) → i < n → get_or ln i 0 ≡ get_or ln' i 0) → packed_lists st ln packed n ≡ packed_lists st' ln' packed n
unfolding packed_lists
packed_same st st' ln ln' packed zero hs hl = refl
packed_same st st' ln ln' packed (suc n) hs hl =
    rw (
      packed_same st st' ln ln' packed n (λ i l. hs i (omega arith)) (λ i l. hl i (omega arith)),
      hs n (omega arith),
      hl n (omega arith),
    ) refl

-- there are as many records as counted
long : (capacity : ℕ) (st ln packed : List ℕ) (n : ℕ) → Placed capacity st ln packed n → (n ≤ length st) × (n ≤ length ln)
long capacity st ln packed zero p = (omega arith, omega arith)
long capacity st ln packed (suc n) p =
    let r = p.lists n (omega arith) in
    (omega (arith, r.started), omega (arith, r.measured))

-- entry j of list i
pub entry : (st ln packed : List ℕ) (i j : ℕ) → PlacedAt st ln packed i → j < get_or ln i 0
    → In (get_or packed (get_or st i 0 + j) 0) (list_at st ln packed i)
entry st ln packed i j p l =
    let front = drop (get_or st i 0) packed in
    at j (omega (arith, length-take (get_or ln i 0) front, length-drop (get_or st i 0) packed, p.within))
    (get_or-take (get_or ln i 0) front j 0 l ∙ get_or-drop (get_or st i 0) packed j 0)

module _ (nS nL ch : List ℕ) (n : ℕ) (sS sL ro : List ℕ) (s : ℕ) (ok : Fit nS nL ch n sS sL ro s) where
  abbrev pub kids : List (List ℕ)
  kids = packed_lists nS nL ch n

  abbrev pub roots : List (List ℕ)
  roots = packed_lists sS sL ro s

  -- rules 41 and 42 hold
  pub joined : Joined kids
  joined =
      let holds = sound_holds kids roots ok.sound in
      linked kids roots (holds 0 (omega arith)) (holds 1 (omega arith))

  -- the records of the nodes alone
  pub part_length : length (take n nS) ≡ n
  part_length = length-take n nS ∙ omega (arith, long 128 nS nL ch n ok.nodes)

  pub part_measured : length (take n nL) ≡ n
  part_measured = length-take n nL ∙ omega (arith, long 128 nS nL ch n ok.nodes)

  pub part_kids : kids_in (take n nS) (take n nL) ch ≡ kids
  part_kids =
      rw part_length
      (packed_same (take n nS) nS (take n nL) nL ch n (λ i l. get_or-take n nS i 0 l) (λ i l. get_or-take n nL i 0 l))

  pub child_low : (x j : ℕ) → x < n → j < get_or nL x 0 → get_or ch (get_or nS x 0 + j) 0 < n
  child_low x j l h =
      let i = entry nS nL ch x j (ok.nodes.lists x l) h in
      let y = get_or ch (get_or nS x 0 + j) 0 in
      let there : x < length kids = omega (arith, length-packed nS nL ch n) in
      omega (arith, length-packed nS nL ch n, joined.nodes x y (there, rw (packed_at nS nL ch n x l) i))

  pub part_linked : Linked (take n nS) (take n nL) ch
  part_linked =
      record {
        same = part_measured ∙ sym part_length;
        within = λ x l. let h : x < n = omega (arith, part_length) in
            rw (get_or-take n nS x 0 h, get_or-take n nL x 0 h) (ok.nodes.lists x h).within;
        nodes = λ x l j g. let h : x < n = omega (arith, part_length) in
            let less : j < get_or nL x 0 = rw (get_or-take n nL x 0 h) at g in
            rw (get_or-take n nS x 0 h, part_length) (child_low x j h less);
      }

  -- the roots of a scene are nodes
  pub root_low : (scene x : ℕ) → scene < s → In x (get_or roots scene []) → x < length kids
  root_low scene x l i =
      by_test (ltb x (length kids)) (λ t. ltb-true x (length kids) t)
      (λ f. let past = le-leb (length kids) x (ltb-false x (length kids) f) in
      let t = any_in_lem (leb (length kids)) x (get_or roots scene []) i past in
      let there : scene < length roots = omega (arith, length-packed sS sL ro s) in
      absurd (true≢false (sym t ∙ sound_holds kids roots ok.sound 3 (omega arith) scene there)))

  pub part_rooted : (scene : ℕ) → scene < s → Rooted (take n nS) (list_at sS sL ro scene)
  part_rooted scene l =
      record {
        nodes = λ j h. let x = get_or (list_at sS sL ro scene) j 0 in
            let low = root_low scene x l (rw (packed_at sS sL ro s scene l) (at j h refl)) in
            omega (arith, low, part_length, length-packed nS nL ch n);
      }
