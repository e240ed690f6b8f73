-- The inner loop of rule 13: a name against the earlier names of its object, from the first on.
-- Assumes nothing.
use Prim.Native.Nat.{ℕ, suc, ◌+◌, ◌-◌, ◌≤◌, ◌<◌}
use native.Mathlib.Omega.{arith}
use mathlib.Core.Path.{◌≡◌, refl, sym, ◌∙◌}
use mathlib.Core.Bool.{true, false}
use mathlib.Core.List.{List}
use lib.ListN.{length, drop, take, get_or, length-take, length-drop}
use Rattle.names.specs.declared.Search.TheVariants.{Repeats}
use Rattle.names.specs.Strings.{same}
use Rattle.names.specs.Order.{has, pairs}
use Rattle.names.specs.Names.{plan13, search_of}
use Rattle.names.proofs.Stacks.{up_to, look_long, look_pair, has_more}
use Rattle.names.proofs.Stages.{Stage, last_name}
use Rattle.names.proofs.Runs.{colon_stops}

-- the earlier names before entry k: none is the name, and `more` is the count with their pairs
pub record Looked (s st ln name : List ℕ) (base k count more : ℕ) : Type 0 where
  pub seen : ℕ
  pub at : k ≡ base + seen
  pub none : has name (up_to s st ln base seen) ≡ false
  pub counted : more ≡ count + pairs name (up_to s st ln base seen)
  pub few : more ≤ count + seen

-- before the first
pub look_start : (s st ln name : List ℕ) (base count : ℕ) → Looked s st ln name base base count count
unfolding has pairs
look_start s st ln name base count =
    record { seen = 0; at = omega arith; none = refl; counted = omega arith; few = omega arith }

module _ {cap : ℕ} {s st ln : List ℕ} {base top last size count i : ℕ}
    (g : Stage cap s st ln base top last size count i) (h : i < length s) where
  name_length : length (last_name s last size) ≡ size
  name_length = omega (arith, length-take size (drop (last + 1) s), length-drop (last + 1) s, g.string)

  module _ {k more : ℕ} (m : Looked s st ln (last_name s last size) base k count more) (l : k < top) where
    -- entry k is a part of s
    pub fits : get_or st k 0 + 1 + get_or ln k 0 ≤ length s
    fits = g.stack.good k (omega (arith, m.at)) (omega (arith, g.stack.tops))

    there : get_or st (base + m.seen) 0 + 1 + get_or ln (base + m.seen) 0 ≤ length s
    there = rw (← m.at) fits

    -- a name of another length
    pub look_skip : (get_or ln k 0 ≡ size → ⊥) → Looked s st ln (last_name s last size) base (k + 1) count more
    look_skip f =
        let r = look_long s st ln (last_name s last size) base m.seen there m.none (rw (name_length, ← m.at) f) in
        record {
          seen = suc m.seen;
          at = omega (arith, m.at);
          none = r.0;
          counted = omega (arith, m.counted, r.1);
          few = omega (arith, m.few);
        }

    -- another name of the same length
    pub look_differs : get_or ln k 0 ≡ size → same (last_name s last size) (take size (drop (get_or st k 0 + 1) s)) ≡ false
        → Looked s st ln (last_name s last size) base (k + 1) count (more + 1)
    look_differs f d =
        let r =
        look_pair s st ln (last_name s last size) base m.seen there m.none false (rw (name_length, ← m.at) f)
        (rw (← m.at, f) d) in
        record {
          seen = suc m.seen;
          at = omega (arith, m.at);
          none = r.0;
          counted = omega (arith, m.counted, r.1);
          few = omega (arith, m.few);
        }

    -- the same name
    pub look_found : get_or s i 0 ≡ 0x3a → get_or ln k 0 ≡ size
        → same (last_name s last size) (take size (drop (get_or st k 0 + 1) s)) ≡ true
        → Repeats last (more + 1) ≡ search_of cap s
    look_found b f d =
        let name = last_name s last size in
        let all = up_to s st ln base g.stack.number in
        let r =
        look_pair s st ln name base m.seen there m.none true (rw (name_length, ← m.at) f) (rw (← m.at, f) d) in
        let q =
        has_more s st ln name base (suc m.seen) g.stack.number (omega (arith, m.at, g.stack.tops)) r.0 in
        let w : length s - length (drop last s) ≡ last = omega (arith, length-drop last s, g.string) in
        let v : count + pairs name all ≡ more + 1 = omega (arith, m.counted, r.1, q.1) in
        sym (g.runs ∙ colon_stops (plan13 cap) s i h (drop last s) _ count _ g.stack.outer b q.0 ∙ rw (w, v))

-- all earlier names
pub record All (s st ln name : List ℕ) (base number count more : ℕ) : Type 0 where
  pub none : has name (up_to s st ln base number) ≡ false
  pub counted : more ≡ count + pairs name (up_to s st ln base number)
  pub few : more ≤ count + number

pub look_all : {cap : ℕ} {s st ln : List ℕ} {base top last size count i : ℕ}
    (g : Stage cap s st ln base top last size count i) {k more : ℕ}
    → Looked s st ln (last_name s last size) base k count more → k ≤ top → top ≤ k
    → All s st ln (last_name s last size) base g.stack.number count more
look_all g m a b =
    let e : m.seen ≡ g.stack.number = omega (arith, m.at, g.stack.tops) in
    rw (← e) (record { none = m.none; counted = m.counted; few = m.few })
