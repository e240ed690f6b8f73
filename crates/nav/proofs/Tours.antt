-- Steps through an object are steps through the tree's members.
-- Assumes nothing.
use Prim.Native.Nat.{ℕ, ◌≤◌, ◌<◌}
use native.Mathlib.Omega.{arith}
use mathlib.Core.Path.{◌≡◌, refl, sym, ap, ◌∙◌}
use mathlib.Core.List.{List}
use lib.ListN.{length, drop}
use Rattle.nav.specs.declared.Step.{Step}
use Rattle.nav.specs.declared.Step.TheVariants as step
use Rattle.nav.specs.declared.members.Member.{Member}
use Rattle.nav.specs.declared.members.Member.TheVariants.{More, End, Bad}
use Rattle.json_text.specs.Tree.{Json, Fields, depth, depths_of}
use Rattle.json_text.specs.Grammar.{IsWs, Name, Value, Members}
use Rattle.json_text.specs.Grammar.Name.{name}
use Rattle.json_text.specs.Grammar.Scalar.{sc_string}
use Rattle.json_text.specs.Grammar.Value.{val_scalar, val_object0, val_object}
use Rattle.json_text.specs.Grammar.Member.{member}
use Rattle.json_text.specs.Grammar.Members.{mem_last, mem_more}
use Rattle.json_text.specs.Faults.{Not}
use Rattle.json_text.specs.Faults.Stop.{stop_string}
use Rattle.json_text.specs.Lengths.{name_shorter}
use Rattle.json_text.specs.Answer.{place_of}
use Rattle.nav.specs.Places.{Stands, given}
use Rattle.nav.specs.Steps.{Leads, Ends, OpenTo, NextTo, open_of, next_of}
use Rattle.nav.specs.Steps.Opens.{opens}
use Rattle.nav.specs.Steps.Leads.{leads}
use Rattle.nav.specs.Steps.Ends.{ends}
use Rattle.nav.specs.Steps.OpenTo.{open_more, open_end, open_bad}
use Rattle.nav.specs.Steps.NextTo.{next_more, next_end, next_bad}
use Rattle.nav.specs.MemberSteps.{member_of, first_member_of, next_member_of, NamedTo, Tour}
use Rattle.nav.specs.MemberSteps.NamedTo.{named_more, named_not, named_end, named_bad}
use Rattle.nav.specs.MemberSteps.Tour.{tour_more, tour_end}
use Rattle.json_text.proofs.Laws.{later}
use Rattle.json_text.proofs.Unique.{solid, tails, ws_unique, same_brace, no_members, value_object, value_no_ws, members_no_ws, name_unique, at_comma, at_brace}
use Rattle.json_text.proofs.Excluded.{not_is}
use Rattle.json_text.proofs.Cuts.{drop-cut, name_reads, ◌then◌}
use Rattle.json_text.proofs.Tops.{place}
use Rattle.nav.proofs.Steps.{same_place, leads_unique, leads_brace, ends_unique, open_unique, next_unique, opened, led, opens_shorter, leads_shorter}
use Rattle.nav.proofs.Computed.{open_is, next_is}
use Rattle.nav.proofs.Located.{at_name}

-- a name is a string that stands at its place
name_stands : {w l v : List ℕ} → Name w l v → Stands w (Json.string l)
unfolding depth
name_stands (name {a = a} h x y) =
    record { rest = a; reads = val_scalar (sc_string h); stop = stop_string; shallow = omega arith }

module _ {s : List ℕ} where
  -- the computed member is the one that the step leads to
  pub named_is : (x : Step) → NamedTo s x (member_of s x)
  unfolding member_of
  named_is (step.More q) =
      at_name (drop q s) (λ o. NamedTo s (step.More q) (given Bad (λ x. More q (place_of s x.1)) o))
      (λ l v h m. let p = place s v (drop-cut s q then (name_reads h).cut) in
      named_more {l = l} p.0 (rw p.1 h) (rw p.1 m))
      (λ f. named_not f)
  named_is (step.End q) = named_end
  named_is step.Bad = named_bad

  -- a step leads to one member
  pub named_unique : {x : Step} {o p : Member} → NamedTo s x o → NamedTo s x p → o ≡ p
  named_unique (named_more {n = n} {v = v} l h m) (named_more {v = u} k i t) =
      ap (More n) (same_place s v u l k (name_unique h m i t).1)
  named_unique (named_more l h m) (named_not f) = absurd (f _ _ h)
  named_unique (named_not f) (named_more k i t) = absurd (f _ _ i)
  named_unique (named_not f) (named_not g) = refl
  named_unique named_end named_end = refl
  named_unique named_bad named_bad = refl

  -- `first` answers for the bytes
  pub first_is : (at : ℕ) {x : Step} {o : Member} → OpenTo s (drop at s) 0x7b 0x7d x → NamedTo s x o →
      o ≡ first_member_of s (drop at s)
  unfolding first_member_of
  first_is at a b =
      let e = open_unique (omega arith) a (open_is (drop at s) (drop-cut s at)) in
      named_unique (rw e at b) (named_is (open_of 0x7b 0x7d s (drop at s)))

  -- `next` answers for the bytes
  pub following_is : (at : ℕ) {x : Step} {o : Member} → NextTo s (drop at s) 31 0x7d x → NamedTo s x o →
      o ≡ next_member_of s (drop at s)
  unfolding next_member_of
  following_is at a b =
      let e = next_unique (omega arith) a (next_is (omega arith) (drop-cut s at)) in
      named_unique (rw e at b) (named_is (next_of 31 0x7d s (drop at s)))

  -- past the last member
  tour_last : {u r : List ℕ} {j : Json} {x : Step} {o : Member} → Ends 31 0x7d u j r → NextTo s u 31 0x7d x →
      NamedTo s x o → Tour s r o Fields.fields_end
  tour_last y (next_more l x) n = absurd (leads_brace x y)
  tour_last y (next_end l x) named_end = tour_end l (ends_unique (omega arith) x y)
  tour_last y (next_bad f g) n = absurd (g _ _ y)

  -- past another
  tour_on : {u c r : List ℕ} {j : Json} {ms : Fields} {x : Step} {o : Member} → Leads 31 u j c → NextTo s u 31 0x7d x →
      NamedTo s x o → ((q : ℕ) → c ≡ drop q s → NamedTo s (step.More q) o → Tour s r o ms) → Tour s r o ms
  tour_on y (next_more {q = q} l x) n f = f q (leads_unique y x).1 n
  tour_on y (next_end l x) n f = absurd (leads_brace y x)
  tour_on y (next_bad g h) n f = absurd (g _ _ y)

  -- where a name stands, the step leads to its value
  named_at : {w l v : List ℕ} {n : ℕ} {o : Member} → Name w l v → Not IsWs v → w ≡ drop n s →
      NamedTo s (step.More n) o → (p : ℕ) × (o ≡ More n p) × (v ≡ drop p s)
  named_at h m e (named_more {v = p} l i t) = (p, refl, (name_unique (rw e at h) m i t).1)
  named_at h m e (named_not f) = absurd (f _ _ (rw e at h))

  -- the steps from a member on
  tour_from : {w r : List ℕ} {ms : Fields} {n : ℕ} {o : Member} → Members w ms r → w ≡ drop n s → depths_of ms ≤ 31 →
      NamedTo s (step.More n) o → Tour s r o ms
  unfolding depth next_member_of
  tour_from (mem_last {j = j} (member n v) x) e d k =
      let g = named_at n (value_no_ws v) e k in
      let y : Ends 31 0x7d _ j _ = ends v (at_brace v x) (omega arith) x in
      let t : Stands _ j = record { rest = _; reads = v; stop = at_brace v x; shallow = omega arith } in
      rw g.1 (tour_more {v = g.0} (name_stands (rw e at n)) (rw g.2 at t)
      (tour_last (rw g.2 at y) (next_is (omega arith) (drop-cut s g.0))
      (named_is (next_of 31 0x7d s (drop g.0 s)))))
  tour_from (mem_more {j = j} (member n v) x y h) e d k =
      let g = named_at n (value_no_ws v) e k in
      let z : Leads 31 _ j _ = leads v (at_comma v x) (omega arith) x y (members_no_ws h) in
      let t : Stands _ j = record { rest = _; reads = v; stop = at_comma v x; shallow = omega arith } in
      rw g.1 (tour_more {v = g.0} (name_stands (rw e at n)) (rw g.2 at t)
      (tour_on (rw g.2 at z) (next_is (omega arith) (drop-cut s g.0))
      (named_is (next_of 31 0x7d s (drop g.0 s))) (λ q i m. tour_from h i (omega arith) m)))

  -- the steps through an object
  tour_all : {w r : List ℕ} {ms : Fields} {x : Step} {o : Member} → OpenTo s w 0x7b 0x7d x → NamedTo s x o →
      Value w (Json.object ms) r → depth (Json.object ms) ≤ 32 → Tour s r o ms
  unfolding depth
  tour_all (open_more l (opens x n f)) m (val_scalar h) d = elim h [ ]
  tour_all (open_more l (opens x n f)) m (val_object0 y) d = absurd (not_is f (ws_unique x n y (solid 0x7d (omega arith))))
  tour_all (open_more l (opens x n f)) m (val_object y h) d =
      tour_from h (ws_unique y (members_no_ws h) x n) (omega arith) m
  tour_all (open_end l e x) m (val_scalar h) d = elim h [ ]
  tour_all (open_end l e x) named_end (val_object0 y) d = tour_end l (same_brace x (rw (tails e) at y))
  tour_all (open_end l e x) m (val_object y h) d = absurd (no_members x (rw (tails e) at y) h)
  tour_all (open_bad f) m (val_scalar h) d = elim h [ ]
  tour_all (open_bad f) m (val_object0 y) d = absurd (not_is f refl)
  tour_all (open_bad f) m (val_object y h) d = absurd (not_is f refl)

  -- no step through another value
  tour_none : {w r : List ℕ} {j : Json} {x : Step} {o : Member} → OpenTo s w 0x7b 0x7d x → NamedTo s x o →
      Value w j r → ((ms : Fields) → j ≡ Json.object ms → ⊥) → o ≡ Bad
  tour_none (open_more l (opens x n q)) m v f = let k = value_object v refl in absurd (f k.0 k.1)
  tour_none (open_end l e x) m v f = let k = value_object v e in absurd (f k.0 k.1)
  tour_none (open_bad g) named_bad v f = refl

  -- a member and what follows it
  pub toured : {r : List ℕ} {ms : Fields} {o : Member} {n v : ℕ} → Tour s r o ms → o ≡ More n v →
      (l : List ℕ) × (j : Json) × (is : Fields) × (ms ≡ Fields.field_then l j is) × Stands (drop n s) (Json.string l) ×
      Stands (drop v s) j × Tour s r (next_member_of s (drop v s)) is
  toured {n = n} {v = v} (tour_more {n = a} {v = b} {l = l} {j = j} {ms = is} x y z) e =
      let h : a ≡ n = cc in
      let k : b ≡ v = cc in
      rw (← h, ← k) (l, j, is, refl, x, y, z)
  toured (tour_end l k) e = absurd (let z : ◌≡◌ {A = ℕ} 0 1 = cc in omega arith)

  -- the end of an object
  pub tour_ended : {r : List ℕ} {ms : Fields} {o : Member} {q : ℕ} → Tour s r o ms → o ≡ End q →
      (ms ≡ Fields.fields_end) × (q ≤ length s) × (drop q s ≡ r)
  tour_ended (tour_more x y z) e = absurd (let z : ◌≡◌ {A = ℕ} 0 1 = cc in omega arith)
  tour_ended {q = q} (tour_end {q = p} l k) e = let h : p ≡ q = cc in rw (← h) (refl, l, k)

  -- one of them comes
  pub tour_never : {r : List ℕ} {ms : Fields} {o : Member} → Tour s r o ms → o ≡ Bad → ⊥
  tour_never (tour_more x y z) e = let z : ◌≡◌ {A = ℕ} 0 1 = cc in omega arith
  tour_never (tour_end l k) e = let z : ◌≡◌ {A = ℕ} 0 1 = cc in omega arith

  -- a member's value is behind its name
  named_later : {x : Step} {o : Member} {n v : ℕ} → NamedTo s x o → o ≡ More n v →
      (x ≡ step.More n) × (n < v) × (v ≤ length s)
  named_later {n = n} {v = v} (named_more {n = a} {v = b} l h m) e =
      let i : a ≡ n = cc in
      let k : b ≡ v = cc in
      rw (← i, ← k) (refl, later s a b l (name_shorter h), l)
  named_later (named_not f) e = absurd (let z : ◌≡◌ {A = ℕ} 0 1 = cc in omega arith)
  named_later named_end e = absurd (let z : ◌≡◌ {A = ℕ} 0 1 = cc in omega arith)
  named_later named_bad e = absurd (let z : ◌≡◌ {A = ℕ} 0 1 = cc in omega arith)

module _ (s : List ℕ) (at : ℕ) where
  -- the step into an object, and the member that it leads to, on any bytes
  pub first_exact : (x : Step) × OpenTo s (drop at s) 0x7b 0x7d x × NamedTo s x (first_member_of s (drop at s))
  unfolding first_member_of
  first_exact =
      (open_of 0x7b 0x7d s (drop at s), open_is (drop at s) (drop-cut s at), named_is (open_of 0x7b 0x7d s (drop at s)))

  -- the step past a member's value, and the member that it leads to
  pub following_exact : (x : Step) × NextTo s (drop at s) 31 0x7d x × NamedTo s x (next_member_of s (drop at s))
  unfolding next_member_of
  following_exact =
      (next_of 31 0x7d s (drop at s), next_is (omega arith) (drop-cut s at), named_is (next_of 31 0x7d s (drop at s)))

module _ (s : List ℕ) (at : ℕ) {o : Member} where
  -- the steps through the object at a place are its members in order, and end where it ends
  pub members_toured : {ms : Fields} (t : Stands (drop at s) (Json.object ms)) → o ≡ first_member_of s (drop at s) →
      Tour s t.rest o ms
  members_toured t e = let k = first_exact s at in rw e (tour_all k.1 k.2 t.reads t.shallow)

  -- no step leads into another value
  pub members_barred : {j : Json} → Stands (drop at s) j → ((ms : Fields) → j ≡ Json.object ms → ⊥) →
      o ≡ first_member_of s (drop at s) → o ≡ Bad
  members_barred t f e = let k = first_exact s at in rw e (tour_none k.1 k.2 t.reads f)

  module _ {n v : ℕ} where
    -- the step into an object leads to later places, on any bytes
    pub first_later : o ≡ first_member_of s (drop at s) → o ≡ More n v → (at < n) × (n < v) × (v ≤ length s)
    first_later e d =
        let x = first_exact s at in
        let k = named_later x.2 (sym e ∙ d) in
        let m = opened x.1 k.0 in
        (later s at n m.0 (opens_shorter m.1), k.1, k.2)

    -- and so does the step past a member
    pub following_later : o ≡ next_member_of s (drop at s) → o ≡ More n v → (at < n) × (n < v) × (v ≤ length s)
    following_later e d =
        let x = following_exact s at in
        let k = named_later x.2 (sym e ∙ d) in
        let m = led x.1 k.0 in
        (later s at n m.1 (leads_shorter m.2), k.1, k.2)
