-- What a search finds is what the tree has.
-- Assumes nothing.
use Prim.Native.Nat.{ℕ, ◌≤◌, ◌<◌}
use native.Mathlib.Omega.{arith}
use mathlib.Core.Path.{◌≡◌, refl, ◌∙◌}
use mathlib.Core.List.{List, [], ◌∷◌}
use mathlib.Core.Option.{Option, some, none}
use lib.ListN.{length, drop}
use Rattle.laws.proofs.Tests.{by_test}
use Rattle.nav.specs.declared.Step.{Step}
use Rattle.std.specs.List.{AllZip}
use Rattle.json_text.specs.Tree.{Json, Fields, depth, depths_of}
use Rattle.json_text.specs.Grammar.{Name, Value, Members}
use Rattle.json_text.specs.Grammar.Name.{name}
use Rattle.json_text.specs.Grammar.Scalar.{sc_null, sc_true, sc_false, sc_number, sc_string}
use Rattle.json_text.specs.Grammar.Value.{val_scalar, val_array0, val_array, val_object0, val_object}
use Rattle.json_text.specs.Grammar.Member.{member}
use Rattle.json_text.specs.Grammar.Members.{mem_last, mem_more}
use Rattle.json_text.specs.Faults.{Not, Is}
use Rattle.json_text.specs.Faults.Not.{not_head}
use Rattle.json_text.specs.Faults.Stop.{stop_object}
use Rattle.nav.specs.Places.{Stands}
use Rattle.nav.specs.Steps.{Opens, Leads, NextTo, AfterTo}
use Rattle.nav.specs.Steps.Opens.{opens}
use Rattle.nav.specs.Steps.Leads.{leads}
use Rattle.nav.specs.Steps.Ends.{ends}
use Rattle.nav.specs.Words.{spells, Quoted}
use Rattle.nav.specs.Members.{Places, lookup, field_of, Finds, FoundTo, PastTo, Gathered, FoundTree}
use Rattle.nav.specs.Members.Finds.{finds_here, finds_on}
use Rattle.nav.specs.Members.FoundTo.{found_at, found_absent}
use Rattle.nav.specs.Members.PastTo.{past_at, past_none}
use Rattle.nav.specs.Members.FoundTree.{tree_stands, tree_absent}
use Rattle.json_text.proofs.Unique.{solid, ws_unique, value_unique, name_unique, value_no_ws, members_no_ws, scalar_brace, at_brace, at_comma}
use Rattle.json_text.proofs.Excluded.{not_is}
use Rattle.nav.proofs.Steps.{same_place, next_after, opens_unique, leads_unique, leads_brace, leads_no_ws}
use Rattle.nav.proofs.Spellings.{quoted_name, name_quoted}

-- the members of the object that opens at w
members_of : {w u a : List ℕ} {j : Json} → Opens 0x7b 0x7d w u → Value w j a →
    (ms : Fields) × (j ≡ Json.object ms) × Members u ms a
members_of (opens x n q) (val_scalar h) = absurd (scalar_brace h)
members_of (opens x n q) (val_object0 y) = absurd (not_is q (ws_unique x n y (solid 0x7d (omega arith))))
members_of (opens x n q) (val_object {ms = ms} y h) = (ms, refl, rw (← ws_unique x n y (members_no_ws h)) at h)

-- a quotation mark is no brace
mark_no_brace : Is 0x7d 0x22 → ⊥
mark_no_brace = elim [ ]

-- what members start with does not close an object
members_open : {w a : List ℕ} {ms : Fields} → Members w ms a → Not (Is 0x7d) w
members_open (mem_last (member (name h x y) v) z) = not_head mark_no_brace
members_open (mem_more (member (name h x y) v) z t m) = not_head mark_no_brace

-- an object has no members
nothing : (k : List ℕ) → lookup k Fields.fields_end ≡ none
unfolding lookup
nothing k = refl

module _ {k : List ℕ} where
  -- the first member has the name
  hit : {w l v : List ℕ} (j : Json) (ms : Fields) → Name w l v → Quoted k w → lookup k
      (Fields.field_then l j ms) ≡ some j
  unfolding lookup
  hit j ms n q = rw (quoted_name n q)

  -- it has another
  miss : {w l v : List ℕ} (j : Json) (ms : Fields) → Name w l v → (Quoted k w → ⊥) →
      lookup k (Fields.field_then l j ms) ≡ lookup k ms
  unfolding lookup
  miss {l = l} j ms n q = by_test (spells k l) (λ e. absurd (q (name_quoted n e))) (λ e. rw e)

  -- what is found past it
  further : {w l u v : List ℕ} (j : Json) (ms : Fields) → Name w l u → (Quoted k w → ⊥) →
      (i : Json) × (lookup k ms ≡ some i) × Stands v i →
      (i : Json) × (lookup k (Fields.field_then l j ms) ≡ some i) × Stands v i
  further j ms n q g = (g.0, miss j ms n q ∙ g.1, g.2)

  -- what is found among the members
  found_in_lem : {w v a : List ℕ} {ms : Fields} → Finds k w v → Members w ms a → depths_of ms ≤ 31 →
      (j : Json) × (lookup k ms ≡ some j) × Stands v j
  unfolding depth
  found_in_lem (finds_here n m q) (mem_last {j = j} (member n' v) x) d =
      let u = name_unique n m n' (value_no_ws v) in (
        j,
        hit j Fields.fields_end n' q,
        rw u.1 (record { rest = _; reads = v; stop = at_brace v x; shallow = omega arith }),
      )
  found_in_lem (finds_here n m q) (mem_more {j = j} {ms = ms} (member n' v) x y h) d =
      let u = name_unique n m n' (value_no_ws v) in
      (j, hit j ms n' q, rw u.1 (record { rest = _; reads = v; stop = at_comma v x; shallow = omega arith }))
  found_in_lem (finds_on n q z f) (mem_last (member n' v) x) d =
      let u = name_unique n (leads_no_ws z) n' (value_no_ws v) in
      absurd (leads_brace {m = 31} (rw u.1 at z) (ends v (at_brace v x) (omega arith) x))
  found_in_lem (finds_on n q z f) (mem_more {j = j} {ms = ms} (member n' v) x y h) d =
      let u = name_unique n (leads_no_ws z) n' (value_no_ws v) in
      let t = leads_unique (rw u.1 at z) (leads v (at_comma v x) (omega arith) x y (members_no_ws h)) in
      further j ms n' q (found_in_lem f (rw (← t.1) at h) (omega arith))

  -- what is not found among them
  absent_in : {w a : List ℕ} {ms : Fields} → Members w ms a → depths_of ms ≤ 31 → ((v : List ℕ) → Finds k w v → ⊥) →
      lookup k ms ≡ none
  unfolding depth
  absent_in (mem_last {j = j} (member n v) x) d f =
      miss j Fields.fields_end n (λ q. f _ (finds_here n (value_no_ws v) q)) ∙ nothing k
  absent_in (mem_more {j = j} {ms = ms} (member n v) x y h) d f =
      let q : Quoted k _ → ⊥ = (λ q. f _ (finds_here n (value_no_ws v) q)) in
      let z : Leads 31 _ j _ = leads v (at_comma v x) (omega arith) x y (members_no_ws h) in
      miss j ms n q ∙ absent_in h (omega arith) (λ u g. f u (finds_on n q z g))

  -- what is not found in a value
  absent_of : {w a : List ℕ} {j : Json} → Value w j a → depth j ≤ 32 →
      ((u v : List ℕ) → Opens 0x7b 0x7d w u → Finds k u v → ⊥) → field_of k j ≡ none
  unfolding depth field_of
  absent_of (val_scalar (sc_null h)) d f = refl
  absent_of (val_scalar (sc_true h)) d f = refl
  absent_of (val_scalar (sc_false h)) d f = refl
  absent_of (val_scalar (sc_number h)) d f = refl
  absent_of (val_scalar (sc_string h)) d f = refl
  absent_of (val_array0 x) d f = refl
  absent_of (val_array x h) d f = refl
  absent_of (val_object0 x) d f = nothing k
  absent_of (val_object x h) d f =
      absent_in h (omega arith) (λ v g. f _ v (opens x (members_no_ws h) (members_open h)) g)

  -- a search finds the tree's member
  pub find_tree : {s w : List ℕ} {j : Json} {o : ℕ} → FoundTo s w k o → Stands w j → FoundTree s (field_of k j) o
  unfolding depth field_of
  find_tree {j = j} (found_at p l x f) t =
      let m = members_of x t.reads in
      let d : depths_of m.0 ≤ 31 = (let b = rw m.1 at t.shallow in omega arith) in
      let g = found_in_lem f m.2 d in
      rw (m.1, g.1) (tree_stands p l g.2)
  find_tree (found_absent f) t = rw (absent_of t.reads t.shallow f) tree_absent

-- one answer of a search
finds_unique : {k w u v : List ℕ} → Finds k w u → Finds k w v → u ≡ v
finds_unique (finds_here n m q) (finds_here n' m' q') = (name_unique n m n' m').1
finds_unique (finds_here n m q) (finds_on n' q' x' f') = absurd (q' q)
finds_unique (finds_on n q x f) (finds_here n' m' q') = absurd (q q')
finds_unique (finds_on n q x f) (finds_on n' q' x' f') =
    let e = name_unique n (leads_no_ws x) n' (leads_no_ws x') in
    let u = leads_unique x (rw (← e.1) at x') in
    finds_unique f (rw (← u.1) at f')

-- one place of a member
pub found_unique : {s w k : List ℕ} {o p : ℕ} → FoundTo s w k o → FoundTo s w k p → o ≡ p
found_unique {s = s} (found_at {q = q} h l x f) (found_at {q = r} i m y g) =
    same_place s q r l m (finds_unique f (rw (opens_unique x y) g))
found_unique (found_at h l x f) (found_absent g) = absurd (g _ _ x f)
found_unique (found_absent f) (found_at h m y g) = absurd (f _ _ y g)
found_unique (found_absent f) (found_absent g) = refl

-- one place past an object
pub past_unique : {s w : List ℕ} {o p : ℕ} → PastTo s w o → PastTo s w p → o ≡ p
past_unique {s = s} (past_at {q = q} h l v d) (past_at {q = r} i m u e) =
    same_place s q r l m (value_unique v stop_object u stop_object).1
past_unique (past_at h l v d) (past_none f) = absurd (f _ _ v d)
past_unique (past_none f) (past_at i m u e) = absurd (f _ _ u e)
past_unique (past_none f) (past_none g) = refl

-- one place of each member
pub all_unique : (s w : List ℕ) (ks : List (List ℕ)) (os ps : List ℕ) → AllZip (FoundTo s w) ks os →
    AllZip (FoundTo s w) ks ps → os ≡ ps
all_unique s w [] [] [] x y = refl
all_unique s w [] [] (p ∷ ps) x y = absurd y
all_unique s w [] (o ∷ os) ps x y = absurd x
all_unique s w (k ∷ ks) [] ps x y = absurd x
all_unique s w (k ∷ ks) (o ∷ os) [] x y = absurd y
all_unique s w (k ∷ ks) (o ∷ os) (p ∷ ps) x y = rw (found_unique x.0 y.0, all_unique s w ks os ps x.1 y.1)

-- `gather` has one answer
pub gather_unique : {s w : List ℕ} {ks : List (List ℕ)} {o p : Places} → Gathered s w ks o → Gathered s w ks p → o ≡ p
gather_unique {s = s} {w = w} {ks = ks} {o = o} {p = p} x y =
    both (all_unique s w ks o.places p.places x.found y.found) (past_unique x.end y.end)
  where
    placed : List ℕ → ℕ → Places
    placed ps q = record { places = ps; past = q }

    both : {ps qs : List ℕ} {q r : ℕ} → ps ≡ qs → q ≡ r → placed ps q ≡ placed qs r
    both a b = rw (a, b)

-- where an object stands, the place past it is where its derivation ends
pub past_stands : {s w : List ℕ} {o : ℕ} {ms : Fields} → PastTo s w o → (t : Stands w (Json.object ms)) →
    (0 < o) × (o ≤ length s) × (drop o s ≡ t.rest)
past_stands (past_at h l v d) t = (h, l, (value_unique v stop_object t.reads t.stop).1)
past_stands (past_none f) t = absurd (f _ _ t.reads t.shallow)

-- the step from past an object is the step past it
pub after_object : {s w : List ℕ} {p : ℕ} {o : Step} → PastTo s w p → (p ≡ 0 → ⊥) → AfterTo s (drop p s) 0x5d o →
    NextTo s w 32 0x5d o
after_object (past_at h l v d) f a = next_after (omega arith) v stop_object d a
after_object (past_none g) f a = absurd (f refl)

-- a member that is found
pub at_some : {s : List ℕ} {o : Option Json} {p : ℕ} → FoundTree s o p → (p ≡ 0 → ⊥) →
    (j : Json) × (o ≡ some j) × Stands (drop p s) j
at_some (tree_stands {j = j} h l t) f = (j, refl, t)
at_some tree_absent f = absurd (f refl)

-- a member that is not found
pub at_none : {s : List ℕ} {o : Option Json} {p : ℕ} → FoundTree s o p → p ≡ 0 → o ≡ none
at_none (tree_stands h l t) e = absurd (omega arith)
at_none tree_absent e = refl
