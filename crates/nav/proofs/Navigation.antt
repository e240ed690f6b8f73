-- What the layers above cite: the answers at places are those of the tree that stands there.
-- `s` is the text, `at` a place of it; each law starts from a function's promise.
-- Assumes nothing.
use Prim.Native.Nat.{ℕ, ◌≤◌, ◌<◌}
use native.Mathlib.Omega.{arith}
use mathlib.Core.Path.{◌≡◌, refl, sym, ap, ◌∙◌}
use mathlib.Core.Bool.{Bool}
use lib.Dec.{eqb}
use borrow.Author.Tests.{eqb-true, eqb-false}
use Rattle.laws.proofs.Tests.{by_test}
use mathlib.Core.List.{List, [], ◌∷◌, map}
use lib.ListN.{length, drop, get_or}
use Rattle.nav.specs.declared.Kind.{Kind}
use Rattle.nav.specs.declared.Step.{Step}
use Rattle.nav.specs.declared.Step.TheVariants.{More, End, Bad}
use Rattle.std.specs.Prelude.{Option, Some, None}
use Rattle.std.specs.List.{AllZip}
use Rattle.json_text.specs.Tree.{Json, Values}
use Rattle.json_text.specs.Answer.{first}
use Rattle.json_text.specs.Parse.{tree_at}
use Rattle.nav.specs.Places.{Stands, Walk}
use Rattle.nav.specs.Kinds.{kind_of, tree_kind}
use Rattle.nav.specs.Steps.{open_of, next_of, after_of, OpenTo, NextTo, AfterTo}
use Rattle.nav.specs.Words.{is_string, is_string_at, is_version, is_version_at}
use Rattle.nav.specs.Integers.{integer_of, integer_at}
use Rattle.nav.specs.declared.members.Members.{Members}
use Rattle.nav.specs.Results.{as_place, Placed, members_of}
use Rattle.std.proofs.lemmas.Option.{none-some}
use Rattle.std.proofs.lemmas.List.{get_or-map}
use Rattle.std.proofs.lemmas.List.FromFn.{get_or-map-range_with_len}
use Rattle.nav.specs.Members.{Places, gather_of, found_of, past_of, field_of, Gathered, FoundTo, PastTo, FoundTree, GatheredTree}
use Rattle.json_text.proofs.Laws.{later}
use Rattle.nav.proofs.Steps.{opened, empty, shut, led, ended, lost, leads_shorter, opens_shorter, after_later}
use Rattle.nav.proofs.FirstBytes.{value_kind}
use Rattle.nav.proofs.Elements.{went_on, closed_by, not_neither, array_some, array_none, array_not}
use Rattle.nav.proofs.Searches.{find_tree, after_object}
use Rattle.json_text.proofs.Cuts.{drop-cut}
use Rattle.nav.proofs.Computed.{open_is, next_is, after_is}
use Rattle.nav.proofs.Located.{found_is, past_is, gather_is}
pub use Rattle.nav.proofs.Standing.{stands_unique, stands_tree, none_tree}
pub use Rattle.nav.proofs.Steps.{open_unique, next_unique, after_unique}
pub use Rattle.nav.proofs.Searches.{found_unique, past_unique, gather_unique, past_stands, at_some, at_none}
pub use Rattle.nav.proofs.Tours.{first_exact, first_is, first_later, following_exact, following_is, following_later}
pub use Rattle.nav.proofs.Tours.{members_toured, members_barred, toured, tour_ended, tour_never}
pub use Rattle.nav.proofs.Tops.{accepted, refused}

-- a place that is there
pub placed_some : {P : ℕ → Type 0} {o : Option ℕ} {p : ℕ} → Placed P o → o ≡ Some p → P p × (p ≡ 0 → ⊥)
placed_some {P = P} {p = p} x d =
    let i = sym d ∙ x.is in
    by_test (eqb x.at 0) (λ e. absurd (none-some p (sym (rw e at i))))
    (λ e. let q : x.at ≡ p = sym (same (rw e at i)) in (rw q at x.holds, rw q at (eqb-false x.at 0 e)))
  where
    value : Option ℕ → ℕ
    value None = 0
    value (Some p) = p

    same : {p q : ℕ} → ◌≡◌ {A = Option ℕ} (Some p) (Some q) → p ≡ q
    same e = ap value e

-- and none
pub placed_none : {P : ℕ → Type 0} {o : Option ℕ} → Placed P o → o ≡ None → P 0
placed_none {P = P} x d =
    let i = sym d ∙ x.is in
    by_test (eqb x.at 0) (λ e. rw (eqb-true x.at 0 e) at x.holds) (λ e. absurd (none-some x.at (rw e at i)))

-- the place that `gather` answers for a word
answered : (s w : List ℕ) (ks : List (List ℕ)) (n : ℕ) (r : Members n) → r ≡ members_of n (gather_of s w ks) → (i : ℕ) →
    i < n → i < length ks → get_or r.places i None ≡ as_place (found_of s (get_or ks i []) w)
unfolding gather_of members_of
answered s w ks n r e i l m =
    let f = get_or-map-range_with_len (λ i. as_place (get_or (map (λ k. found_of s k w) ks) i 0)) 0 n i i None l (omega arith) in
    let g = get_or-map (λ k. found_of s k w) ks i [] 0 m in
    rw e (f ∙ ap as_place g)

-- and the one past the object
answered_past : (s w : List ℕ) (ks : List (List ℕ)) (n : ℕ) (r : Members n) → r ≡ members_of n (gather_of s w ks) →
    r.past ≡ as_place (past_of s w)
unfolding gather_of members_of
answered_past s w ks n r e = rw e refl

-- what a value at a place says
module _ {w : List ℕ} {j : Json} (t : Stands w j) where
  -- its kind
  pub kind_stands : {r : Kind} → r ≡ kind_of (first w) → r ≡ tree_kind j
  kind_stands e = e ∙ value_kind t.reads

  -- its integer
  pub integer_stands : {r : Option ℕ} → r ≡ integer_at (tree_at 32 w) → r ≡ integer_of j
  integer_stands e = e ∙ ap integer_at (stands_tree t)

  -- whether it is the string k
  pub string_stands : (k : List ℕ) {r : Bool} → r ≡ is_string_at k (tree_at 32 w) → r ≡ is_string k j
  string_stands k e = e ∙ ap (is_string_at k) (stands_tree t)

  -- whether it is a version of rule 14
  pub version_stands : {r : Bool} → r ≡ is_version_at (tree_at 32 w) → r ≡ is_version j
  version_stands e = e ∙ ap is_version_at (stands_tree t)

module _ (s : List ℕ) (at : ℕ) where
  -- the computed steps and places mean what they should, on any bytes: the step into an array
  pub open_exact : OpenTo s (drop at s) 0x5b 0x5d (open_of 0x5b 0x5d s (drop at s))
  open_exact = open_is (drop at s) (drop-cut s at)

  -- the step past an element
  pub next_exact : NextTo s (drop at s) 32 0x5d (next_of 32 0x5d s (drop at s))
  next_exact = next_is (omega arith) (drop-cut s at)

  -- the step from past an element
  pub after_exact : AfterTo s (drop at s) 0x5d (after_of 0x5d s (drop at s))
  after_exact = after_is (drop-cut s at)

  -- the place of each word's member, and the place past the object
  pub gather_exact : (ks : List (List ℕ)) → Gathered s (drop at s) ks (gather_of s (drop at s) ks)
  gather_exact ks = gather_is ks (drop-cut s at)

  module _ {o : Step} {q : ℕ} where
    -- the step into an array leads to a later place of the text, on any bytes
    pub open_later : o ≡ open_of 0x5b 0x5d s (drop at s) → o ≡ More q → (at < q) × (q ≤ length s)
    open_later e d = let m = opened (rw (← e) at open_exact) d in (later s at q m.0 (opens_shorter m.1), m.0)

    -- and so does the step past an element
    pub next_later : o ≡ next_of 32 0x5d s (drop at s) → o ≡ More q → (at < q) × (q ≤ length s)
    next_later e d = let m = led (rw (← e) at next_exact) d in (later s at q m.1 (leads_shorter m.2), m.1)

    -- and the one from past it
    pub past_later : o ≡ after_of 0x5d s (drop at s) → o ≡ More q → (at < q) × (q ≤ length s)
    past_later e d = after_later s at (rw (← e) at after_exact) d

    -- into an array: its elements
    pub entered : o ≡ open_of 0x5b 0x5d s (drop at s) → o ≡ More q → {j : Json} → Stands (drop at s) j →
        (js : Values) × (j ≡ Json.array js) × Walk (drop q s) js
    entered e d t = array_some (opened (rw (← e) at open_exact) d).1 t

    -- and an array of none
    pub vacant : o ≡ open_of 0x5b 0x5d s (drop at s) → o ≡ End q → {j : Json} → Stands (drop at s) j →
        j ≡ Json.array Values.values_end
    vacant e d t = let m = empty (rw (← e) at open_exact) d in array_none m.2 m.3 t

    -- past an element: it is the tree's, and the rest follows
    pub went : o ≡ next_of 32 0x5d s (drop at s) → o ≡ More q → {js : Values} → Walk (drop at s) js →
        (j : Json) × (is : Values) × (js ≡ Values.value_then j is) × Stands (drop at s) j × Walk (drop q s) is
    went e d w = went_on (led (rw (← e) at next_exact) d).2 w

    -- past the last one
    pub closed : o ≡ next_of 32 0x5d s (drop at s) → o ≡ End q → {js : Values} → Walk (drop at s) js →
        (j : Json) × (js ≡ Values.value_then j Values.values_end) × Stands (drop at s) j
    closed e d w = closed_by (ended (rw (← e) at next_exact) d).2 w

  -- what opens to nothing is no array
  pub barred : {o : Step} → o ≡ open_of 0x5b 0x5d s (drop at s) → o ≡ Bad → {j : Json} → Stands (drop at s) j →
      (js : Values) → j ≡ Json.array js → ⊥
  barred e d t = array_not (shut (rw (← e) at open_exact) d) t

  -- an element is never without a step past it
  pub never : {o : Step} → o ≡ next_of 32 0x5d s (drop at s) → o ≡ Bad → {js : Values} → Walk (drop at s) js → ⊥
  never e d w = let m = lost (rw (← e) at next_exact) d in not_neither m.0 m.1 w

  module _ {ks : List (List ℕ)} {r : Places} (e : r ≡ gather_of s (drop at s) ks) where
    -- what `gather` answers, on any bytes
    pub gather_says : Gathered s (drop at s) ks r
    gather_says = rw e (gather_exact ks)

    -- the members found are the tree's
    pub gather_tree : {j : Json} → Stands (drop at s) j → GatheredTree s j ks r
    gather_tree {j = j} t = record { found = each ks r.places gather_says.found }
      where
        each : (ks : List (List ℕ)) (ps : List ℕ) → AllZip (FoundTo s (drop at s)) ks ps →
            AllZip (λ k p. FoundTree s (field_of k j) p) ks ps
        each [] [] x = tt
        each [] (p ∷ ps) x = absurd x
        each (k ∷ ks) [] x = absurd x
        each (k ∷ ks) (p ∷ ps) x = (find_tree x.0 t, each ks ps x.1)

  module _ (ks : List (List ℕ)) {n : ℕ} {r : Members n} (e : r ≡ members_of n (gather_of s (drop at s) ks)) where
    -- it is the place of the word's member, on any bytes
    pub gather_found : (i : ℕ) → i < n → i < length ks →
        Placed (FoundTo s (drop at s) (get_or ks i [])) (get_or r.places i None)
    gather_found i l m = record { at = _; holds = found_is (drop-cut s at); is = answered s (drop at s) ks n r e i l m }

    -- it is the place of the tree's member
    pub gather_member : {j : Json} → Stands (drop at s) j → (i : ℕ) → i < n → i < length ks →
        Placed (FoundTree s (field_of (get_or ks i []) j)) (get_or r.places i None)
    gather_member t i l m = record { at = _; holds = find_tree (found_is (drop-cut s at)) t; is = answered s (drop at s) ks n r e i l m }

    -- and the place past the object, on any bytes
    pub gather_past : Placed (PastTo s (drop at s)) r.past
    gather_past = record { at = _; holds = past_is (drop-cut s at); is = answered_past s (drop at s) ks n r e }

  -- the step from past an object is the step past it, on any bytes
  pub past_next : {p : ℕ} → PastTo s (drop at s) p → (p ≡ 0 → ⊥) →
      after_of 0x5d s (drop p s) ≡ next_of 32 0x5d s (drop at s)
  past_next {p = p} x f = next_unique (omega arith) (after_object x f (after_is (drop-cut s p))) next_exact
