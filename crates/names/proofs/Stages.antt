-- How the search of rule 13 stands at a byte, and each of its turns.
-- Assumes nothing.
use Prim.Native.Nat.{ℕ, suc, ◌+◌, ◌-◌, ◌*◌, ◌≤◌, ◌<◌}
use native.Mathlib.Omega.{arith}
use mathlib.Core.Path.{◌≡◌, refl, sym, ◌∙◌, ap}
use mathlib.Core.Bool.{true, false, ◌&&◌, ◌||◌}
use mathlib.Core.List.{List, [], ◌∷◌}
use borrow.Author.Tests.{ltb-true, ltb-false, lt-ltb, le-ltb}
use lib.Dec.{eqb, ltb}
use lib.ListN.{length, drop, take, get_or, set, length-set}
use lib.Seq.{get_or-set_same}
use Rattle.laws.proofs.Tests.{by_test, and-true}
use Rattle.json_text.specs.Depth.Mode.{outside}
use Rattle.names.specs.declared.Search.TheVariants.{Clear, Full}
use Rattle.json_text.specs.Strings.{to_close}
use Rattle.names.specs.Order.{Names, has, pairs}
use Rattle.names.specs.Names.{room, plan13, run, search_of}
use Rattle.names.specs.Names.State.{going}
use Rattle.json_text.proofs.Marks.{past}
use Rattle.names.proofs.Strings.{close_in}
use Rattle.names.proofs.Stacks.{up_to, Good, Below, room_top}
use Rattle.names.proofs.Stacks.{Agree, agree_set, agree_same, up_to_agree, good_agree, below_agree}
use Rattle.names.proofs.Stacks.Below.{below_none, below_more}
use Rattle.names.proofs.Runs.{says, string_turn, colon_turn, colon_full}
use Rattle.names.proofs.Runs.{open_turn, open_full, other_turn, close_turn, close_none}

-- the last string, which a colon makes a name
abbrev pub last_name : List ℕ → ℕ → ℕ → List ℕ
last_name s last size = take size (drop (last + 1) s)

-- the names that the arrays hold: those of the innermost open bracket from base to top, the outer ones below
pub record Stack (s st ln : List ℕ) (base top : ℕ) : Type 0 where
  pub number : ℕ
  pub tops : top ≡ base + number
  pub outer : List Names
  pub good : Good s st ln base number
  pub below : Below s st ln base outer

-- at byte i: the numbers are in their bounds, and the answer over s is the answer of what is left
pub record Stage (cap : ℕ) (s st ln : List ℕ) (base top last size count i : ℕ) : Type 0 where
  pub short : length s ≤ 65536
  pub places : length st ≡ cap
  pub sizes : length ln ≡ cap
  pub within : i ≤ length s + 1
  pub low : top ≤ i
  pub string : last + size ≤ i
  pub few : count ≤ 65536 * i
  pub space : top ≤ cap
  pub stack : Stack s st ln base top
  pub runs : search_of cap s
      ≡ says (plan13 cap) s
      (going outside (drop last s) (last_name s last size) count (up_to s st ln base stack.number) stack.outer)
      (drop i s)

-- at the start
pub start : (cap : ℕ) (s st ln : List ℕ) → length s ≤ 65536 → length st ≡ cap → length ln ≡ cap
    → Stage cap s st ln 0 0 0 0 0 0
unfolding search_of
start cap s st ln a b c =
    record {
      short = a;
      places = b;
      sizes = c;
      within = omega arith;
      low = omega arith;
      string = omega arith;
      few = omega arith;
      space = omega arith;
      stack =
          record { number = 0; tops = omega arith; outer = []; good = λ k a b. absurd (omega arith); below = below_none };
      runs = refl;
    }

-- what stands below base: the names of the next outer bracket, and what is below them
record Popped (s st ln : List ℕ) (base : ℕ) (o : List Names) : Type 0 where
  lo : ℕ
  n : ℕ
  rest : List Names
  base_is : base ≡ suc (lo + n)
  outer_is : o ≡ up_to s st ln lo n ∷ rest
  below : Below s st ln lo rest
  good : Good s st ln lo n
  link : get_or st (lo + n) 0 ≡ lo

pop : {s st ln : List ℕ} {base : ℕ} {o : List Names} → Below s st ln base o → 0 < base → Popped s st ln base o
pop below_none l = absurd (omega arith)
pop (below_more lo n b g e) l =
    record { lo = lo; n = n; rest = _; base_is = refl; outer_is = refl; below = b; good = g; link = e }

bottom : {s st ln : List ℕ} {base : ℕ} {o : List Names} → Below s st ln base o → base ≡ 0 → o ≡ []
bottom below_none e = refl
bottom (below_more lo n b g e) z = absurd (omega arith)

-- a closing bracket counts where one is open
pub opened : (b base : ℕ) → ((eqb b 0x5d || eqb b 0x7d) && ltb 0 base) ≡ true → 0 < base
opened b base e = ltb-true 0 base (and-true (eqb b 0x5d || eqb b 0x7d) (ltb 0 base) e).1

module _ {cap : ℕ} {s st ln : List ℕ} {base top last size count i : ℕ}
    (g : Stage cap s st ln base top last size count i) (h : i < length s) where
  -- the entries are as many as top says
  full_at : top ≡ cap → ltb (room (up_to s st ln base g.stack.number) g.stack.outer) cap ≡ false
  full_at r = le-ltb _ cap (omega (arith, g.stack.tops, room_top g.stack.number g.stack.below))

  room_at : (top ≡ cap → ⊥) → ltb (room (up_to s st ln base g.stack.number) g.stack.outer) cap ≡ true
  room_at r = lt-ltb _ cap (omega (arith, g.space, g.stack.tops, room_top g.stack.number g.stack.below))

  -- a string, to its end e
  pub string_stage : (e : ℕ) → get_or s i 0 ≡ 0x22 → e ≡ i + 1 + to_close false (drop (i + 1) s)
      → Stage cap s st ln base top i (e - (i + 1)) count (e + 1)
  string_stage e b k =
      record {
        short = g.short;
        places = g.places;
        sizes = g.sizes;
        within = omega (arith, close_in s (i + 1) e (omega arith) k);
        low = omega (arith, g.low);
        string = omega arith;
        few = omega (arith, g.few);
        space = g.space;
        stack = g.stack;
        runs = g.runs ∙ string_turn (plan13 cap) s i h _ _ count _ g.stack.outer e b k;
      }

  -- an opening bracket: an entry that keeps base
  pub open_stage : (get_or s i 0 ≡ 0x3a → ⊥) → (eqb (get_or s i 0) 0x5b || eqb (get_or s i 0) 0x7b) ≡ true → (top ≡ cap → ⊥)
      → Stage cap s (set st top base) ln (top + 1) (top + 1) last size count (i + 1)
  open_stage f b r =
      let n = g.stack.number in
      let t : top ≡ base + n = g.stack.tops in
      let e : top + 1 ≡ suc (base + n) = omega arith in
      let a : Agree st (set st top base) (base + n) = agree_set st top base (base + n) (omega arith) in
      let k : get_or (set st top base) (base + n) 0 ≡ base =
      rw (← t) (get_or-set_same st top base 0 (omega (arith, g.space, g.places))) in
      let u = up_to_agree s st ln (set st top base) ln base n a (agree_same ln (base + n)) in
      let w : Below s (set st top base) ln (suc (base + n)) (up_to s st ln base n ∷ g.stack.outer) =
      rw (← u)
      (below_more base n
      (below_agree s st ln (set st top base) ln g.stack.below (λ d l. a d (omega arith)) (agree_same ln base))
      (good_agree s st ln (set st top base) ln base n a (agree_same ln (base + n)) g.stack.good) k) in
      record {
        short = g.short;
        places = simp length-set g.places;
        sizes = g.sizes;
        within = omega arith;
        low = omega (arith, g.low);
        string = omega (arith, g.string);
        few = omega (arith, g.few);
        space = omega (arith, g.space);
        stack =
            record {
              number = 0;
              tops = omega arith;
              outer = up_to s st ln base n ∷ g.stack.outer;
              good = λ k a b. absurd (omega arith);
              below = rw e w;
            };
        runs = g.runs ∙ open_turn (plan13 cap) s i h _ _ count (up_to s st ln base n) g.stack.outer f b (room_at r);
      }

  pub open_none : (get_or s i 0 ≡ 0x3a → ⊥) → (eqb (get_or s i 0) 0x5b || eqb (get_or s i 0) 0x7b) ≡ true → top ≡ cap
      → Full ≡ search_of cap s
  open_none f b r = sym (g.runs ∙ open_full (plan13 cap) s i h _ _ count _ g.stack.outer f b (full_at r))

  -- a closing bracket: back to the names of the next outer one
  pub close_stage : (get_or s i 0 ≡ 0x3a → ⊥) → ((eqb (get_or s i 0) 0x5d || eqb (get_or s i 0) 0x7d) && ltb 0 base) ≡ true
      → Stage cap s st ln (get_or st (base - 1) 0) (base - 1) last size count (i + 1)
  close_stage f d =
      let b = (and-true (eqb (get_or s i 0) 0x5d || eqb (get_or s i 0) 0x7d) (ltb 0 base) d).0 in
      let p = pop g.stack.below (opened (get_or s i 0) base d) in
      let e : base - 1 ≡ p.lo + p.n = omega (arith, p.base_is) in
      let k : get_or st (base - 1) 0 ≡ p.lo = rw e p.link in
      let inner = up_to s st ln base g.stack.number in
      let y : says (plan13 cap) s
      (going outside (drop last s) (last_name s last size) count inner g.stack.outer) (drop i s)
      ≡ says (plan13 cap) s
      (going outside (drop last s) (last_name s last size) count (up_to s st ln p.lo p.n) p.rest) (drop (i + 1) s) =
      ap (λ (x : List Names).
      says (plan13 cap) s (going outside (drop last s) (last_name s last size) count inner x) (drop i s)) p.outer_is
      ∙ close_turn (plan13 cap) s i h _ _ count inner f b (up_to s st ln p.lo p.n) p.rest in
      rw (k, e)
      (record {
        short = g.short;
        places = g.places;
        sizes = g.sizes;
        within = omega arith;
        low = omega (arith, g.low, g.stack.tops, p.base_is);
        string = omega (arith, g.string);
        few = omega (arith, g.few);
        space = omega (arith, g.space, g.stack.tops, p.base_is);
        stack = record { number = p.n; tops = refl; outer = p.rest; good = p.good; below = p.below };
        runs = g.runs ∙ y;
      })

  -- any other byte, and a closing bracket with none open
  pub rest_stage : (get_or s i 0 ≡ 0x22 → ⊥) → (get_or s i 0 ≡ 0x3a → ⊥)
      → (eqb (get_or s i 0) 0x5b || eqb (get_or s i 0) 0x7b) ≡ false
      → ((eqb (get_or s i 0) 0x5d || eqb (get_or s i 0) 0x7d) && ltb 0 base) ≡ false
      → Stage cap s st ln base top last size count (i + 1)
  rest_stage a f b d =
      record {
        short = g.short;
        places = g.places;
        sizes = g.sizes;
        within = omega arith;
        low = omega (arith, g.low);
        string = omega (arith, g.string);
        few = omega (arith, g.few);
        space = g.space;
        stack = g.stack;
        runs =
            g.runs
            ∙ by_test (eqb (get_or s i 0) 0x5d || eqb (get_or s i 0) 0x7d)
            (λ x.
            let z : base ≤ 0 = ltb-false 0 base (rw x at d) in
            let y = bottom g.stack.below (omega arith) in
            rw y (close_none (plan13 cap) s i h _ _ count _ f x))
            (λ x. other_turn (plan13 cap) s i h _ _ count _ g.stack.outer f a b x);
      }

  -- a colon: the last string is a name that none of the earlier ones equals
  pub colon_none : get_or s i 0 ≡ 0x3a → has (last_name s last size) (up_to s st ln base g.stack.number) ≡ false
      → top ≡ cap → Full ≡ search_of cap s
  colon_none b e r =
      sym (g.runs ∙ colon_full (plan13 cap) s i h (drop last s) _ count _ g.stack.outer b e (full_at r))

  pub colon_stage : (more : ℕ) → get_or s i 0 ≡ 0x3a
      → has (last_name s last size) (up_to s st ln base g.stack.number) ≡ false
      → more ≡ count + pairs (last_name s last size) (up_to s st ln base g.stack.number)
      → more ≤ count + g.stack.number → (top ≡ cap → ⊥)
      → Stage cap s (set st top last) (set ln top size) base (top + 1) last size more (i + 1)
  colon_stage more b e m u r =
      let n = g.stack.number in
      let t : top ≡ base + n = g.stack.tops in
      let st' = set st top last in
      let ln' = set ln top size in
      let x : Agree st st' (base + n) = agree_set st top last (base + n) (omega arith) in
      let y : Agree ln ln' (base + n) = agree_set ln top size (base + n) (omega arith) in
      let j : get_or st' (base + n) 0 ≡ last = rw (← t) (get_or-set_same st top last 0 (omega (arith, g.space, g.places))) in
      let k : get_or ln' (base + n) 0 ≡ size = rw (← t) (get_or-set_same ln top size 0 (omega (arith, g.space, g.sizes))) in
      let c : up_to s st' ln' base (suc n) ≡ last_name s last size ∷ up_to s st ln base n =
      rw (j, k, up_to_agree s st ln st' ln' base n x y) in
      record {
        short = g.short;
        places = simp length-set g.places;
        sizes = simp length-set g.sizes;
        within = omega arith;
        low = omega (arith, g.low);
        string = omega (arith, g.string);
        few = omega (arith, g.few, g.low, g.stack.tops, g.short);
        space = omega (arith, g.space);
        stack =
            record {
              number = suc n;
              tops = omega arith;
              outer = g.stack.outer;
              good =
                  λ d a f. by_test (ltb d (base + n))
                  (λ o. good_agree s st ln st' ln' base n x y g.stack.good d a (ltb-true d (base + n) o))
                  (λ o.
                  let w : d ≡ base + n = omega (arith, ltb-false d (base + n) o) in
                  rw (w, j, k) (omega (arith, g.string)));
              below = below_agree s st ln st' ln' g.stack.below (λ d l. x d (omega arith)) (λ d l. y d (omega arith));
            };
        runs =
            rw (c, m)
            (g.runs
            ∙ colon_turn (plan13 cap) s i h (drop last s) (last_name s last size) count (up_to s st ln base n)
            g.stack.outer b e (room_at r));
      }

-- at the end of s
pub clear : {cap : ℕ} {s st ln : List ℕ} {base top last size count i : ℕ} → Stage cap s st ln base top last size count i
    → length s ≤ i → Clear count ≡ search_of cap s
unfolding run
clear {cap = cap} {s = s} {i = i} g l = sym (g.runs ∙ rw (past s i l))
