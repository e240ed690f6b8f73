-- The pass of `gather` over the members of an object, member by member.
-- Assumes nothing.
use Prim.Native.Nat.{ℕ, suc, ◌-◌, ◌≤◌, ◌<◌}
use native.Mathlib.Omega.{arith}
use mathlib.Core.Path.{◌≡◌, refl, sym, ap, ◌∙◌}
use lib.Dec.{ltb}
use Rattle.laws.proofs.Tests.{by_test}
use Rattle.std.proofs.lemmas.Bool.{ltb-true, ltb-false}
use Rattle.std.proofs.lemmas.List.{length-map, length-replicate, get_or-replicate}
use mathlib.Core.List.{List, [], map}
use lib.ListN.{length, drop, get_or, replicate}
use Rattle.std.specs.Prelude.{Option, Some, None}
use Rattle.nav.specs.declared.Step.{Step}
use Rattle.nav.specs.declared.members.Member.{Member}
use Rattle.nav.specs.declared.members.Member.TheVariants.{More, End, Bad}
use Rattle.nav.specs.declared.members.Members.{Members}
use Rattle.json_text.specs.Grammar.{IsWs, Name}
use Rattle.json_text.specs.Faults.{Not}
use Rattle.json_text.specs.Lengths.{name_shorter}
use Rattle.nav.specs.Steps.{Opens, OpenTo, NextTo}
use Rattle.nav.specs.Steps.OpenTo.{open_more, open_end, open_bad}
use Rattle.nav.specs.Steps.NextTo.{next_more, next_end, next_bad}
use Rattle.nav.specs.Members.{gather_of, found_of, FoundTo, PastTo}
use Rattle.nav.specs.MemberSteps.{first_member_of, next_member_of, NamedTo}
use Rattle.nav.specs.MemberSteps.NamedTo.{named_more, named_not, named_end, named_bad}
use Rattle.nav.specs.Gathers.{KeptAll}
use Rattle.nav.specs.Results.{as_place, members_of}
use Rattle.json_text.proofs.Laws.{later}
use Rattle.json_text.proofs.Cuts.{Cut, drop-cut}
use Rattle.nav.proofs.Steps.{open_later, ends_shorter}
use Rattle.nav.proofs.Passes.{Gathers, GoingAll, FindTo, ShutTo, there, nowhere, gathers_onto, gathers_none, starts, finish_all, pass_all, last_all, bad_all}
use Rattle.nav.proofs.Passes.{found_of_lem, found_empty, found_shut, past_of, past_empty, past_shut}
use Rattle.nav.proofs.Searches.{found_unique, past_unique}
use Rattle.nav.proofs.Located.{found_is, past_is}
use Rattle.std.proofs.lemmas.List.{get_or-map}
use Rattle.std.proofs.lemmas.List.FromFn.{fill_by_all}
use Rattle.std.proofs.Math.ListN.{get_or-eq_default}
use Rattle.nav.proofs.Tours.{first_exact, following_exact, following_later}

-- how much is left where a step has led
abbrev pub left : List ℕ → Member → ℕ
left s (More n v) = suc (length s - v)
left s (End q) = 0
left s Bad = 0

-- a step leaves less
pub left_falls : (s : List ℕ) (n v : ℕ) (o : Member) → o ≡ next_member_of s (drop v s) → left s o < left s (More n v)
left_falls s n v (More i u) e = let k = following_later s v e refl in omega (arith, k.0, k.1, k.2)
left_falls s n v (End q) e = omega arith
left_falls s n v Bad e = omega arith

-- what a pass over the object that w starts with comes to
abbrev pub Whole : List ℕ → List ℕ → List (List ℕ) → List (Option ℕ) → Option ℕ → Type 0
Whole s w ks r p = Gathers (FoundTo s w) (PastTo s w) ks r p

module _ (s : List ℕ) (at : ℕ) (ks : List (List ℕ)) where
  -- the pass over the object at a place, where a step has led to o and the places are r
  pub data Gathering : Member → List (Option ℕ) → Type 0 where
    gather_more : {z l : List ℕ} {n v : ℕ} {r : List (Option ℕ)} → Opens 0x7b 0x7d (drop at s) z → v ≤ length s →
        Name (drop n s) l (drop v s) → Not IsWs (drop v s) → GoingAll s z (drop n s) ks r → Gathering (More n v) r
    gather_end : {q : ℕ} {r : List (Option ℕ)} → Whole s (drop at s) ks r (Some q) → Gathering (End q) r
    gather_bad : {r : List (Option ℕ)} → Whole s (drop at s) ks r None → Gathering Bad r

-- no places
pub none_at : (n i : ℕ) → get_or (replicate {A = Option ℕ} n None) i None ≡ None
none_at n i =
    by_test (ltb i n) (λ b. get_or-replicate n i None None (ltb-true i n b))
    (λ b. get_or-eq_default (replicate {A = Option ℕ} n None) None {n = i} (omega (arith, length-replicate {A = Option ℕ} n None, ltb-false i n b)))

-- a pass among the members is one over the object
whole : {s w z : List ℕ} {ks : List (List ℕ)} {r : List (Option ℕ)} {p : Option ℕ} → Opens 0x7b 0x7d w z →
    Gathers (FindTo s z) (ShutTo s z) ks r p → Whole s w ks r p
whole x g = gathers_onto (λ k p f. found_of_lem x f) (λ p f. past_of x f) g

-- the end of a pass: the places are those of `gather_of`
gathered : {s w : List ℕ} {ks : List (List ℕ)} {n : ℕ} {r : List (Option ℕ)} {p : Option ℕ} → Cut s w → length r ≡ n →
    Whole s w ks r p →
    ◌≡◌ {A = Members n} (record { places = r; past = p }) (members_of n (gather_of s w ks))
unfolding gather_of members_of
gathered {s = s} {w = w} {ks = ks} {n = n} {r = r} {p = p} c e g =
    both (fill_by_all (λ i. as_place (get_or found i 0)) r n None e each)
    (g.end.is ∙ ap as_place (past_unique g.end.holds (past_is c)))
  where
    both : {n : ℕ} {r q : List (Option ℕ)} {o p : Option ℕ} → r ≡ q → o ≡ p →
        ◌≡◌ {A = Members n} (record { places = r; past = o }) (record { places = q; past = p })
    both a b = rw (a, b)

    -- the places of the words
    found : List ℕ
    found = map (λ k. found_of s k w) ks

    here : (i : ℕ) → i < n → i < length ks → get_or r i None ≡ as_place (get_or found i 0)
    here i l b =
        let a = g.each i (omega arith) b in
        let f = get_or-map (λ k. found_of s k w) ks i [] 0 b in
        a.is ∙ ap as_place (found_unique a.holds (found_is c) ∙ sym f)

    past : (i : ℕ) → length ks ≤ i → get_or r i None ≡ as_place (get_or found i 0)
    past i b =
        let f = get_or-eq_default found 0 {n = i} (omega (arith, length-map ks (λ k. found_of s k w))) in
        rw f (g.rest i b)

    each : (i : ℕ) → i < n → get_or r i None ≡ as_place (get_or found i 0)
    each i l =
        by_test (ltb i (length ks)) (λ b. here i l (ltb-true i (length ks) b)) (λ b. past i (ltb-false i (length ks) b))

module _ {s : List ℕ} {at : ℕ} {ks : List (List ℕ)} where
  -- the start of a pass, with no places
  start : {x : Step} {o : Member} {r : List (Option ℕ)} → ((i : ℕ) → get_or r i None ≡ None) →
      OpenTo s (drop at s) 0x7b 0x7d x → NamedTo s x o → Gathering s at ks o r
  start e (open_more l x) (named_more i h m) = gather_more x i h m (starts e)
  start e (open_more l x) (named_not f) = gather_bad (whole x (finish_all f (starts e)))
  start e (open_end {q = q} l d x) named_end =
      let p : 0 < q = omega (arith, open_later s at l d x) in
      gather_end (gathers_none e (λ k. found_empty d x) (there p (past_empty p l d x)))
  start e (open_bad f) named_bad = gather_bad (gathers_none e (λ k. found_shut f) (nowhere (past_shut f)))

  pub gathering_first : {o : Member} {r : List (Option ℕ)} → o ≡ first_member_of s (drop at s) →
      ((i : ℕ) → get_or r i None ≡ None) → Gathering s at ks o r
  gathering_first e d = let k = first_exact s at in rw e (start d k.1 k.2)

  -- past a member
  go_on : {n v : ℕ} {old r : List (Option ℕ)} {x : Step} {o : Member} → Gathering s at ks (More n v) old →
      KeptAll (drop n s) v ks old r → NextTo s (drop v s) 31 0x7d x → NamedTo s x o → Gathering s at ks o r
  go_on {n = n} {v = v} (gather_more a t h m g) k (next_more l y) (named_more i j e) =
      let p = later s n v t (name_shorter h) in
      gather_more a i j e (pass_all h m (omega arith) t k g y)
  go_on {n = n} {v = v} (gather_more a t h m g) k (next_more l y) (named_not f) =
      let p = later s n v t (name_shorter h) in
      gather_bad (whole a (finish_all f (pass_all h m (omega arith) t k g y)))
  go_on {n = n} {v = v} (gather_more a t h m g) k (next_end {q = q} l y) named_end =
      let p = later s n v t (name_shorter h) in
      let b = later s v q l (ends_shorter y) in
      gather_end (whole a (last_all h m (omega arith) t k g q (omega arith) l y))
  go_on {n = n} {v = v} (gather_more a t h m g) k (next_bad f e) named_bad =
      let p = later s n v t (name_shorter h) in
      gather_bad (whole a (bad_all h m (omega arith) t k g f e))

  pub gathering_next : {m o : Member} {n v : ℕ} {old r : List (Option ℕ)} → Gathering s at ks m old → m ≡ More n v →
      KeptAll (drop n s) v ks old r → o ≡ next_member_of s (drop v s) → Gathering s at ks o r
  gathering_next {v = v} g d k e =
      let x = following_exact s v in
      rw e (go_on (rw d at g) k x.1 x.2)

  pub gathering_end : {m : Member} {q n : ℕ} {r : List (Option ℕ)} → Gathering s at ks m r → m ≡ End q → length r ≡ n →
      ◌≡◌ {A = Members n} (record { places = r; past = Some q }) (members_of n (gather_of s (drop at s) ks))
  gathering_end {q = q} {n = n} {r = r} g d l = by (rw d at g)
    where
      by : Gathering s at ks (End q) r →
          ◌≡◌ {A = Members n} (record { places = r; past = Some q }) (members_of n (gather_of s (drop at s) ks))
      by (gather_end x) = gathered (drop-cut s at) l x

  pub gathering_other : {m : Member} {n : ℕ} {r : List (Option ℕ)} → Gathering s at ks m r →
      ((i v : ℕ) → m ≡ More i v → ⊥) → ((q : ℕ) → m ≡ End q → ⊥) → length r ≡ n →
      ◌≡◌ {A = Members n} (record { places = r; past = None }) (members_of n (gather_of s (drop at s) ks))
  gathering_other (gather_more x i h m g) f e l = absurd (f _ _ refl)
  gathering_other (gather_end x) f e l = absurd (e _ refl)
  gathering_other (gather_bad x) f e l = gathered (drop-cut s at) l x
