-- The places of members that are computed are the members' places.
-- Assumes nothing.
use Prim.Native.Nat.{ℕ, zero, suc, ◌≤◌, ◌<◌}
use native.Mathlib.Omega.{arith}
use mathlib.Core.Path.{◌≡◌, sym, ap, ◌∙◌}
use mathlib.Core.Bool.{cond, true≢false}
use mathlib.Core.List.{List, [], ◌∷◌, map}
use Rattle.std.specs.List.{AllZip}
use mathlib.Core.Option.{Option, some, none}
use lib.Dec.{eqb}
use lib.ListN.{length, drop, length-append}
use borrow.Author.Tests.{eqb-true, eqb-false}
use Rattle.laws.proofs.Tests.{by_test}
use Rattle.nav.specs.declared.Step.{Step}
use Rattle.nav.specs.declared.Step.TheVariants.{More, End, Bad}
use Rattle.json_text.specs.Tree.{Json, Fields, depth}
use Rattle.json_text.specs.Grammar.{IsWs, Ws, Name, Value}
use Rattle.json_text.specs.Grammar.Name.{name}
use Rattle.json_text.specs.Grammar.Scalar.{sc_string}
use Rattle.json_text.specs.Grammar.Value.{val_scalar}
use Rattle.json_text.specs.Faults.{Not, Stop}
use Rattle.json_text.specs.Faults.Stop.{stop_string, stop_object}
use Rattle.json_text.specs.Lengths.{name_shorter, value_shorter}
use Rattle.json_text.specs.Parse.{past_ws}
use Rattle.json_text.specs.Answer.{place_of}
use Rattle.nav.specs.Places.{given, object_of}
use Rattle.nav.specs.Steps.{OpenTo, NextTo, next_of, open_of}
use Rattle.nav.specs.Steps.OpenTo.{open_more, open_end, open_bad}
use Rattle.nav.specs.Steps.NextTo.{next_more, next_end, next_bad}
use Rattle.nav.specs.Words.{spells, Quoted}
use Rattle.nav.specs.Members.{colon_of, named_by, name_at, onward, find_of, found_of, past_of, gather_of, Finds, FoundTo, PastTo, Gathered}
use Rattle.nav.specs.Members.Finds.{finds_here, finds_on}
use Rattle.nav.specs.Members.PastTo.{past_at, past_none}
use Rattle.json_text.proofs.Unique.{solid, heads, ws_unique, value_unique}
use Rattle.json_text.proofs.Excluded.{no_value}
use Rattle.json_text.proofs.Cuts.{Cut, drop-cut, value_reads, name_reads, ◌then◌}
use Rattle.json_text.proofs.Answers.{past_says}
use Rattle.json_text.proofs.Tops.{place}
use Rattle.nav.proofs.Steps.{wrong_none, leads_shorter, leads_brace, opens_shorter}
use Rattle.nav.proofs.Spellings.{quoted_name, name_quoted}
use Rattle.nav.proofs.Passes.{FindTo, step, stuck, found_of_lem, found_empty, found_shut}
use Rattle.nav.proofs.Passes.FindTo.{find_at, find_absent}
use Rattle.nav.proofs.Computed.{at_value, next_is, open_is}

-- a name is a string that a colon follows
string_name : {w l v : List ℕ} → Name w l v → (a b : List ℕ) × Value w (Json.string l) a × Ws a (0x3a ∷ b) × Ws b v
string_name (name {a = a} {b = b} h x y) = (a, b, val_scalar (sc_string h), x, y)

-- a string is a name where a colon follows it
name_string : {w l a b v : List ℕ} → Value w (Json.string l) a → Ws a (0x3a ∷ b) → Ws b v → Name w l v
name_string (val_scalar (sc_string h)) x y = name h x y

-- what holds of a name, and of none, holds of the computed one
pub at_name : (w : List ℕ) (P : Option (List ℕ × List ℕ) → Type 0) →
    ((l v : List ℕ) → Name w l v → Not IsWs v → P (some (l, v))) →
    (((l v : List ℕ) → Name w l v → ⊥) → P none) → P (name_at w)
unfolding name_at depth
at_name w P f g =
    at_value 0 w (λ o. P (given none named_by o)) (λ r k. by k.0 k.1 k.2)
    (λ e r m. g (λ l v n. let x = string_name n in wrong_none (no_value m x.2 stop_string) (omega arith)))
  where
    other : {j : Json} {r : List ℕ} → Value w j r → Stop j r → ((l : List ℕ) → j ≡ Json.string l → ⊥) →
        (l v : List ℕ) → Name w l v → ⊥
    other v s d l u n = let x = string_name n in d l (value_unique v s x.2 stop_string).0

    no_colon : {l r u : List ℕ} → Value w (Json.string l) r → Ws r u → Not IsWs u → ((b : List ℕ) → u ≡ 0x3a ∷ b → ⊥) →
        (m v : List ℕ) → Name w m v → ⊥
    no_colon h x q d m v n =
        let y = string_name n in
        let e = value_unique h stop_string y.2 stop_string in
        d y.1 (ws_unique x q (rw (← e.1) at y.3) (solid 0x3a (omega arith)))

    behind : {l r : List ℕ} (u : List ℕ) → Value w (Json.string l) r → Ws r u → Not IsWs u → P (colon_of l u)
    behind [] h x q = g (no_colon h x q (λ b e. let z : ◌≡◌ {A = ℕ} 0 1 = cc in omega arith))
    behind {l = l} (c ∷ u) h x q =
        let y = past_says u in
        by_test (eqb c 0x3a)
        (λ e. rw e (f l (past_ws u) (name_string h (rw (eqb-true c 0x3a e) at x) y.0) y.1))
        (λ e. rw e (g (no_colon h x q (λ b d. eqb-false c 0x3a e (heads d)))))

    by : {r : List ℕ} (j : Json) → Value w j r → Stop j r → P (named_by (j, r))
    by Json.null v s = g (other v s (λ l e. let z : ◌≡◌ {A = ℕ} 0 1 = cc in omega arith))
    by Json.true v s = g (other v s (λ l e. let z : ◌≡◌ {A = ℕ} 0 1 = cc in omega arith))
    by Json.false v s = g (other v s (λ l e. let z : ◌≡◌ {A = ℕ} 0 1 = cc in omega arith))
    by (Json.number ds) v s = g (other v s (λ l e. let z : ◌≡◌ {A = ℕ} 0 1 = cc in omega arith))
    by {r = r} (Json.string l) v s = let y = past_says r in behind (past_ws r) v y.0 y.1
    by (Json.array js) v s = g (other v s (λ l e. let z : ◌≡◌ {A = ℕ} 0 1 = cc in omega arith))
    by (Json.object ms) v s = g (other v s (λ l e. let z : ◌≡◌ {A = ℕ} 0 1 = cc in omega arith))

-- a last part is no longer than the whole
cut_shorter : {s w : List ℕ} → Cut s w → length w ≤ length s
cut_shorter {s = s} {w = w} k =
    let e = ap length (k.whole ∙ k.parts w) in
    omega (arith, simp length-append at e)

-- a member that is found has a name
finds_shorter : {k w v : List ℕ} → Finds k w v → length v < length w
finds_shorter (finds_here n m q) = name_shorter n
finds_shorter (finds_on n q x f) = omega (arith, name_shorter n, leads_shorter x, finds_shorter f)

-- and a name is at the front
finds_name : {k w v : List ℕ} → Finds k w v → (l u : List ℕ) × Name w l u
finds_name (finds_here n m q) = (_, _, n)
finds_name (finds_on n q x f) = (_, _, n)

-- the search past a member that is named otherwise, from its step on
onward_is : {s k w l v : List ℕ} {n : ℕ} → Name w l v → Not IsWs v → (Quoted k w → ⊥) → length w ≤ suc n →
    ((u : List ℕ) → length u ≤ n → Cut s u → FindTo s u k (find_of n s k u)) → (o : Step) → NextTo s v 31 0x7d o →
    FindTo s w k (onward (λ u. find_of n s k u) s o)
onward_is {s = s} h m q l ih (More p) (next_more t x) =
    step h m q x (ih (drop p s) (omega (arith, name_shorter h, leads_shorter x)) (drop-cut s p))
onward_is h m q l ih (End p) (next_end t x) = stuck h m q (λ j c y. leads_brace y x)
onward_is h m q l ih Bad (next_bad f g) = stuck h m q f

-- the search among members
find_is : {s k : List ℕ} (n : ℕ) (w : List ℕ) → length w ≤ n → Cut s w → FindTo s w k (find_of n s k w)
unfolding find_of
find_is zero w l c = find_absent (λ v f. omega (arith, finds_shorter f))
find_is {s = s} {k = k} (suc n) w l c =
    at_name w
    (λ o. FindTo s w k (given 0 (λ x. cond (spells k x.0) (place_of s x.1)
    (onward (λ v. find_of n s k v) s (next_of 31 0x7d s x.1))) o))
    (λ i v h m. let d = c then (name_reads h).cut in let p = place s v d in
    by_test (spells k i)
    (λ e. rw e (find_at {q = place_of s v} (omega (arith, name_shorter h, cut_shorter c)) p.0
    (rw p.1 (finds_here h m (name_quoted h e)))))
    (λ e. rw e (onward_is h m (λ q. true≢false (sym (quoted_name h q) ∙ e)) l (λ u b d. find_is n u b d)
    (next_of 31 0x7d s v) (next_is (omega arith) d))))
    (λ f. find_absent (λ v y. let z = finds_name y in f z.0 z.1 z.2))

-- the search in an object
pub found_is : {s k w : List ℕ} → Cut s w → FoundTo s w k (found_of s k w)
unfolding found_of
found_is {s = s} {k = k} {w = w} c = by (open_of 0x7b 0x7d s w) (open_is w c)
  where
    by : (o : Step) → OpenTo s w 0x7b 0x7d o → FoundTo s w k (onward (λ v. find_of (length w) s k v) s o)
    by (More q) (open_more l x) =
        let h = opens_shorter x in
        found_of_lem x (find_is (length w) (drop q s) (omega arith) (drop-cut s q))
    by (End q) (open_end l e x) = found_empty e x
    by Bad (open_bad f) = found_shut f

-- the place past an object
pub past_is : {s w : List ℕ} → Cut s w → PastTo s w (past_of s w)
unfolding past_of
past_is {s = s} {w = w} c =
    at_value 32 w (λ o. PastTo s w (given 0 (λ x. given 0 (λ ms. place_of s x.1) (object_of (some x.0))) o))
    (λ r k. by k.0 k.1 k.2 k.3)
    (λ f r m. past_none (λ ms r v d. wrong_none (no_value m v stop_object) d))
  where
    other : {j : Json} {r : List ℕ} → Value w j r → Stop j r → ((ms : Fields) → j ≡ Json.object ms → ⊥) → PastTo s w 0
    other v t d = past_none (λ ms r u e. d ms (value_unique v t u stop_object).0)

    by : {r : List ℕ} (j : Json) → Value w j r → Stop j r → depth j ≤ 32 →
        PastTo s w (given 0 (λ ms. place_of s r) (object_of (some j)))
    by Json.null v t d = other v t (λ ms e. let z : ◌≡◌ {A = ℕ} 0 1 = cc in omega arith)
    by Json.true v t d = other v t (λ ms e. let z : ◌≡◌ {A = ℕ} 0 1 = cc in omega arith)
    by Json.false v t d = other v t (λ ms e. let z : ◌≡◌ {A = ℕ} 0 1 = cc in omega arith)
    by (Json.number ds) v t d = other v t (λ ms e. let z : ◌≡◌ {A = ℕ} 0 1 = cc in omega arith)
    by (Json.string cs) v t d = other v t (λ ms e. let z : ◌≡◌ {A = ℕ} 0 1 = cc in omega arith)
    by (Json.array js) v t d = other v t (λ ms e. let z : ◌≡◌ {A = ℕ} 0 1 = cc in omega arith)
    by {r = r} (Json.object ms) v t d =
        let p = place s r (c then (value_reads v).cut) in
        past_at {q = place_of s r} {ms = ms} (omega (arith, value_shorter v, cut_shorter c)) p.0 (rw p.1 v) d

-- the place of each word's member, and the place past the object
pub gather_is : {s w : List ℕ} (ks : List (List ℕ)) → Cut s w → Gathered s w ks (gather_of s w ks)
unfolding gather_of
gather_is {s = s} {w = w} ks c = record { found = each ks; end = past_is c }
  where
    each : (ks : List (List ℕ)) → AllZip (FoundTo s w) ks (map (λ k. found_of s k w) ks)
    each [] = tt
    each (k ∷ ks) = (found_is c, each ks)
