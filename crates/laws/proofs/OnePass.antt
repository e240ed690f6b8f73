-- The law of one pass: whoever keeps, item after item, the smallest rule broken so far with the first item that broke it,
-- holds at the end the verdict that is defined rule by rule. It holds for any family `broken rule item`.
-- Assumes nothing.
use mathlib.Core.Path.{◌≡◌, refl}
use mathlib.Core.Bool.{Bool, true, false}
use Prim.Native.Nat.{ℕ, ◌+◌, ◌<◌, ◌≤◌}
use native.Mathlib.Omega.{arith}
use borrow.Author.Count.{below_more}
use borrow.Author.Tests.{ltb-true, lt-ltb, le-ltb}
use lib.Dec.{ltb}
use Rattle.laws.specs.Search.{least, any_below, first_rule, first_item}
use Rattle.laws.proofs.Tests.{by_test}
use Rattle.laws.proofs.Search.{Least, least_says, least_is, least_none, any_yes, any_no, any_none, any_at}

-- One item more. `fault` is the smallest rule that item n breaks, m if none.
module _ (broken : ℕ → ℕ → Bool) (m n : ℕ) where
  -- the smallest rule that item n breaks
  abbrev fault : ℕ
  fault = least (λ k. broken k n) m

  -- the verdict's rule over the items before it
  abbrev was : ℕ
  was = first_rule broken m n

  -- what the first is
  fault_says : Least (λ k. broken k n) m fault
  fault_says = least_says (λ k. broken k n) m

  -- what the second is
  was_says : Least (λ k. any_below (broken k) n) m was
  unfolding first_rule
  was_says = least_says (λ k. any_below (broken k) n) m

  -- below both numbers no item up to n breaks a rule
  clean : (k : ℕ) → k < fault → k < was → any_below (broken k) (n + 1) ≡ false
  clean k a b = any_none (broken k) (n + 1) (below_more _ n (any_no (broken k) n (was_says.fails k b)) (fault_says.fails k a))

  -- a smaller rule takes its place
  pub rule_lower : fault < was → first_rule broken m (n + 1) ≡ fault
  unfolding first_rule
  rule_lower h =
      least_is _ m fault
      (record {
        le = fault_says.le;
        holds = λ l. any_yes (broken fault) (n + 1) n (omega arith) (fault_says.holds l);
        fails = λ k l. clean k l (omega arith);
      })

  -- else the rule stays
  pub rule_keep : was ≤ fault → first_rule broken m (n + 1) ≡ was
  unfolding first_rule
  rule_keep h =
      least_is _ m was
      (record {
        le = was_says.le;
        holds = λ l. let b = any_at (broken was) n (was_says.holds l) in any_yes (broken was) (n + 1) (least (broken was) n) (omega arith) b.1;
        fails = λ k l. clean k (omega arith) l;
      })

  -- the item is then n
  pub item_lower : fault < was → first_item broken m (n + 1) ≡ n
  unfolding first_item
  item_lower h =
      rw (rule_lower h, lt-ltb fault m (omega (arith, was_says.le)))
      (least_is (broken fault) (n + 1) n
      (record {
        le = omega arith;
        holds = λ l. fault_says.holds (omega (arith, was_says.le));
        fails = any_no (broken fault) n (was_says.fails fault h);
      }))

  -- the rule's first item stays the first
  same : was < m → least (broken was) (n + 1) ≡ least (broken was) n
  same l =
      let s = any_at (broken was) n (was_says.holds l) in
      least_is (broken was) (n + 1) (least (broken was) n)
      (record { le = omega arith; holds = λ _. s.1; fails = (least_says (broken was) n).fails })

  -- the item stays
  pub item_keep : was ≤ fault → first_item broken m (n + 1) ≡ first_item broken m n
  unfolding first_item
  item_keep h = rw (rule_keep h) (by_test (ltb was m) (λ t. rw t (same (ltb-true was m t))) (λ f. rw f))

-- What a loop over the items keeps: `rule` and `item` are the verdict of the first n items over m rules that are numbered
-- from `base`; where none is broken, base + m and 0.
pub record Seen (broken : ℕ → ℕ → Bool) (base m n rule item : ℕ) : Type 0 where
  pub the_rule : rule ≡ base + first_rule broken m n
  pub the_item : item ≡ first_item broken m n

-- over no items no rule is broken
none_rule : (broken : ℕ → ℕ → Bool) (m : ℕ) → first_rule broken m 0 ≡ m
unfolding first_rule
none_rule broken m = least_none _ m (λ k l. refl)

-- and the item is 0
none_item : (broken : ℕ → ℕ → Bool) (m : ℕ) → first_item broken m 0 ≡ 0
unfolding first_item
none_item broken m = rw (none_rule broken m, le-ltb m m (omega arith))

module _ (broken : ℕ → ℕ → Bool) (base m : ℕ) where
  -- before the first item
  pub seen_none : Seen broken base m 0 (base + m) 0
  seen_none = record { the_rule = rw (none_rule broken m); the_item = rw (none_item broken m) }

  -- an item that breaks a smaller rule
  pub seen_lower : {n rule item : ℕ} (f : ℕ) → Seen broken base m n rule item → f ≡ base + least (λ k. broken k n) m → f < rule
      → Seen broken base m (n + 1) f n
  seen_lower {n} f s e l =
      let low : least (λ k. broken k n) m < first_rule broken m n = omega (arith, s.the_rule) in
      record { the_rule = rw (rule_lower broken m n low) e; the_item = rw (item_lower broken m n low) }

  -- an item that breaks none that is smaller
  pub seen_keep : {n rule item : ℕ} (f : ℕ) → Seen broken base m n rule item → f ≡ base + least (λ k. broken k n) m → rule ≤ f
      → Seen broken base m (n + 1) rule item
  seen_keep {n} f s e l =
      let high : first_rule broken m n ≤ least (λ k. broken k n) m = omega (arith, s.the_rule) in
      record { the_rule = rw (rule_keep broken m n high) s.the_rule; the_item = rw (item_keep broken m n high) s.the_item }

-- What the verdict means, rule by rule and item by item: `rule` is broken by `item`, by no item before it, and no smaller rule is broken.
pub record Verdict (broken : ℕ → ℕ → Bool) (n rule item : ℕ) : Type 0 where
  pub below : item < n
  pub breaks : broken rule item ≡ true
  pub first : (i : ℕ) → i < item → broken rule i ≡ false
  pub smallest : (k i : ℕ) → k < rule → i < n → broken k i ≡ false

-- the verdict is such a rule and item where some rule is broken, ..
pub verdict_says : (broken : ℕ → ℕ → Bool) (m n : ℕ) → first_rule broken m n < m → Verdict broken n (first_rule broken m n) (first_item broken m n)
unfolding first_rule first_item
verdict_says broken m n l =
    let s = was_says broken m n in
    let a = any_at (broken (first_rule broken m n)) n (s.holds l) in
    rw (lt-ltb (first_rule broken m n) m l)
    (record {
      below = a.0;
      breaks = a.1;
      first = (least_says (broken (first_rule broken m n)) n).fails;
      smallest = λ k i lk li. any_no (broken k) n (s.fails k lk) i li;
    })

-- .. and where it is m, none is
pub verdict_none : (broken : ℕ → ℕ → Bool) (m n : ℕ) → m ≤ first_rule broken m n → (k i : ℕ) → k < m → i < n → broken k i ≡ false
verdict_none broken m n l k i lk li = any_no (broken k) n ((was_says broken m n).fails k (omega arith)) i li
