-- A pass over the members of an object: a search for each word, and the place past the object.
-- Assumes nothing.
use Prim.Native.Nat.{ℕ, ◌≤◌, ◌<◌}
use native.Mathlib.Omega.{arith}
use borrow.Author.Tests.{ne_eqb}
use mathlib.Core.Path.{◌≡◌, refl, ◌∙◌}
use mathlib.Core.List.{List, [], ◌∷◌}
use lib.ListN.{length, drop, get_or}
use Rattle.std.specs.Prelude.{Option, Some, None}
use Rattle.json_text.specs.Tree.{Json, Fields, depth, depths_of}
use Rattle.json_text.specs.Grammar.{IsWs, Ws, Name, Value, Members}
use Rattle.json_text.specs.Grammar.Value.{val_scalar, val_object0, val_object}
use Rattle.json_text.specs.Grammar.Member.{member}
use Rattle.json_text.specs.Grammar.Members.{mem_last, mem_more}
use Rattle.json_text.specs.Faults.{Not, Is}
use Rattle.nav.specs.Steps.{Opens, Leads, Ends}
use Rattle.nav.specs.Steps.Opens.{opens}
use Rattle.nav.specs.Steps.Leads.{leads}
use Rattle.nav.specs.Steps.Ends.{ends}
use Rattle.nav.specs.Words.{Quoted}
use Rattle.nav.specs.Members.{Finds, FoundTo, PastTo}
use Rattle.nav.specs.Members.Finds.{finds_here, finds_on}
use Rattle.nav.specs.Members.FoundTo.{found_at, found_absent}
use Rattle.nav.specs.Members.PastTo.{past_at, past_none}
use Rattle.nav.specs.Gathers.{Kept, KeptAll}
use Rattle.nav.specs.Gathers.Kept.{kept_new, kept_none, kept_old}
use Rattle.nav.specs.Results.{as_place, Placed}
use Rattle.json_text.proofs.Unique.{solid, ws_unique, name_unique, value_no_ws, members_no_ws, at_brace, at_comma}
use Rattle.json_text.proofs.Excluded.{not_is}
use Rattle.nav.proofs.Steps.{leads_unique, leads_brace, leads_no_ws, opens_unique, shut_none, empty_none}

-- the place of the value that the first member named k has, among the members w
pub data FindTo (s w k : List ℕ) : ℕ → Type 0 where
  find_at : {q : ℕ} → 0 < q → q ≤ length s → Finds k w (drop q s) → FindTo s w k q
  find_absent : ((v : List ℕ) → Finds k w v → ⊥) → FindTo s w k 0

-- the place past the object that the members w end
pub data ShutTo (s w : List ℕ) : ℕ → Type 0 where
  shut_at : {q : ℕ} {ms : Fields} → 0 < q → q ≤ length s → Members w ms (drop q s) → depths_of ms ≤ 31 → ShutTo s w q
  unshut : ((ms : Fields) (r : List ℕ) → Members w ms r → depths_of ms ≤ 31 → ⊥) → ShutTo s w 0

-- where P holds of a place that is there
pub there : {P : ℕ → Type 0} {p : ℕ} → 0 < p → P p → Placed P (Some p)
there {p = p} h x = record { at = p; holds = x; is = there_is p h }
  where
    there_is : (p : ℕ) → 0 < p → ◌≡◌ {A = Option ℕ} (Some p) (as_place p)
    there_is p h = let z : (p ≡ 0 → ⊥) = (λ e. omega arith) in rw (ne_eqb p 0 z)

-- where P holds of no place
pub nowhere : {P : ℕ → Type 0} → P 0 → Placed P None
nowhere x = record { at = 0; holds = x; is = refl }

-- the same place for another promise
onto : {P Q : ℕ → Type 0} {o : Option ℕ} → ((p : ℕ) → P p → Q p) → Placed P o → Placed Q o
onto f x = record { at = x.at; holds = f x.at x.holds; is = x.is }

-- the places r, each as F says of its word and its place, and the place p, as E says of it
pub record Gathers (F : List ℕ → ℕ → Type 0) (E : ℕ → Type 0) (ks : List (List ℕ)) (r : List (Option ℕ))
    (p : Option ℕ) : Type 0 where
  pub each : (i : ℕ) → i < length r → i < length ks → Placed (F (get_or ks i [])) (get_or r i None)
  pub rest : (i : ℕ) → length ks ≤ i → get_or r i None ≡ None
  pub end : Placed E p

-- the same places for other promises
pub gathers_onto : {F G : List ℕ → ℕ → Type 0} {E D : ℕ → Type 0} {ks : List (List ℕ)} {r : List (Option ℕ)}
    {p : Option ℕ} → ((k : List ℕ) (p : ℕ) → F k p → G k p) → ((p : ℕ) → E p → D p) → Gathers F E ks r p →
    Gathers G D ks r p
gathers_onto f e g =
    record { each = λ i a b. onto (f _) (g.each i a b); rest = g.rest; end = onto e g.end }

-- no places, and the place past the object
pub gathers_none : {F : List ℕ → ℕ → Type 0} {E : ℕ → Type 0} {ks : List (List ℕ)} {r : List (Option ℕ)}
    {p : Option ℕ} → ((i : ℕ) → get_or r i None ≡ None) → ((k : List ℕ) → F k 0) → Placed E p → Gathers F E ks r p
gathers_none n f e = record { each = λ i a b. rw (n i) (nowhere (f _)); rest = λ i a. n i; end = e }

-- a search past a member that is named otherwise
module _ {k w : List ℕ} where
  pub step : {s l u c : List ℕ} {j : Json} {o : ℕ} → Name w l u → Not IsWs u → (Quoted k w → ⊥) → Leads 31 u j c →
      FindTo s c k o → FindTo s w k o
  step n m q x (find_at p h f) = find_at p h (finds_on n q x f)
  step n m q x (find_absent f) = find_absent (λ v y. f v (on n m q x y))
    where
      on : {l u c v : List ℕ} {j : Json} → Name w l u → Not IsWs u → (Quoted k w → ⊥) → Leads 31 u j c → Finds k w v →
          Finds k c v
      on n m q x (finds_here n' m' q') = absurd (q q')
      on n m q x (finds_on n' q' x' f) =
          let e = name_unique n m n' (leads_no_ws x') in
          rw (leads_unique x (rw (← e.1) at x')).1 f

  -- and where no member follows it
  pub stuck : {s l u : List ℕ} → Name w l u → Not IsWs u → (Quoted k w → ⊥) →
      ((j : Json) (v : List ℕ) → Leads 31 u j v → ⊥) →
      FindTo s w k 0
  stuck n m q x = find_absent (λ v y. on n m q x y)
    where
      on : {l u v : List ℕ} → Name w l u → Not IsWs u → (Quoted k w → ⊥) →
          ((j : Json) (v : List ℕ) → Leads 31 u j v → ⊥) →
          Finds k w v → ⊥
      on n m q x (finds_here n' m' q') = q q'
      on n m q x (finds_on n' q' x' f) =
          let e = name_unique n m n' (leads_no_ws x') in
          x _ _ (rw (← e.1) at x')

  -- no member, so none of the name
  unnamed : {s : List ℕ} → ((l v : List ℕ) → Name w l v → ⊥) → FindTo s w k 0
  unnamed f = find_absent (λ v y. on f y)
    where
      on : {v : List ℕ} → ((l v : List ℕ) → Name w l v → ⊥) → Finds k w v → ⊥
      on f (finds_here n m q) = f _ _ n
      on f (finds_on n q x y) = f _ _ n

-- the object ends where it does past a member
shut_step : {s w l u c : List ℕ} {j : Json} {o : ℕ} → Name w l u → Not IsWs u → Leads 31 u j c → ShutTo s c o →
    ShutTo s w o
unfolding depth
shut_step n m (leads v t d x y z) (shut_at p h k e) = shut_at p h (mem_more (member n v) x y k) (omega arith)
shut_step n m x (unshut f) = unshut (λ ms r h d. on n m x f h d)
  where
    on : {w l u c r : List ℕ} {j : Json} {ms : Fields} → Name w l u → Not IsWs u → Leads 31 u j c →
        ((ms : Fields) (r : List ℕ) → Members c ms r → depths_of ms ≤ 31 → ⊥) → Members w ms r → depths_of ms ≤ 31 → ⊥
    on n m x f (mem_last (member n' v) y) d =
        let e = name_unique n m n' (value_no_ws v) in
        leads_brace {m = 31} x (ends (rw (← e.1) at v) (at_brace v y) (omega arith) y)
    on n m x f (mem_more (member n' v) y z h) d =
        let e = name_unique n m n' (value_no_ws v) in
        let u = leads_unique x (leads (rw (← e.1) at v) (at_comma v y) (omega arith) y z (members_no_ws h)) in
        f _ _ (rw (← u.1) at h) (omega arith)

-- the last member
shut_last : {s w l u : List ℕ} {j : Json} {q : ℕ} → Name w l u → Ends 31 0x7d u j (drop q s) → 0 < q → q ≤ length s →
    ShutTo s w q
unfolding depth
shut_last n (ends v t d x) p h = shut_at p h (mem_last (member n v) x) (omega arith)

-- a member that nothing right follows
shut_bad : {s w l u : List ℕ} → Name w l u → Not IsWs u → ((j : Json) (v : List ℕ) → Leads 31 u j v → ⊥) →
    ((j : Json) (v : List ℕ) → Ends 31 0x7d u j v → ⊥) → ShutTo s w 0
unfolding depth
shut_bad n m f g = unshut (λ ms r h d. on n m f g h d)
  where
    on : {w l u r : List ℕ} {ms : Fields} → Name w l u → Not IsWs u → ((j : Json) (v : List ℕ) → Leads 31 u j v → ⊥) →
        ((j : Json) (v : List ℕ) → Ends 31 0x7d u j v → ⊥) → Members w ms r → depths_of ms ≤ 31 → ⊥
    on n m f g (mem_last (member n' v) y) d =
        let e = name_unique n m n' (value_no_ws v) in
        g _ _ (ends (rw (← e.1) at v) (at_brace v y) (omega arith) y)
    on n m f g (mem_more (member n' v) y z h) d =
        let e = name_unique n m n' (value_no_ws v) in
        f _ _ (leads (rw (← e.1) at v) (at_comma v y) (omega arith) y z (members_no_ws h))

-- no member
shut_unnamed : {s w : List ℕ} → ((l v : List ℕ) → Name w l v → ⊥) → ShutTo s w 0
shut_unnamed f = unshut (λ ms r k d. on f k)
  where
    on : {w v : List ℕ} {ms : Fields} → ((l v : List ℕ) → Name w l v → ⊥) → Members w ms v → ⊥
    on f (mem_last (member n v) y) = f _ _ n
    on f (mem_more (member n v) y z k) = f _ _ n

-- a search for k from z on, that has come to w with the place p
pub data Going (s z w k : List ℕ) : Option ℕ → Type 0 where
  going : ((o : ℕ) → FindTo s w k o → FindTo s z k o) → Going s z w k None
  gone : {p : ℕ} → 0 < p → FindTo s z k p → Going s z w k (Some p)

-- what it comes to where nothing is left
finish : {s z w k : List ℕ} {p : Option ℕ} → FindTo s w k 0 → Going s z w k p → Placed (FindTo s z k) p
finish a (going g) = nowhere (g 0 a)
finish a (gone h f) = there h f

-- past a member
module _ {s w l : List ℕ} {v : ℕ} (n : Name w l (drop v s)) (m : Not IsWs (drop v s)) (h : 0 < v)
    (r : v ≤ length s) where
  pass : {z k c : List ℕ} {j : Json} {p q : Option ℕ} → Leads 31 (drop v s) j c → Kept (Quoted k w) v p q →
      Going s z w k p → Going s z c k q
  pass x (kept_new y) (going g) = gone h (g _ (find_at h r (finds_here n m y)))
  pass x (kept_none y) (going g) = going (λ o a. g o (step n m y x a))
  pass x kept_old (gone i f) = gone i f

  -- past the last member
  last : {z k : List ℕ} {p q : Option ℕ} → ((j : Json) (c : List ℕ) → Leads 31 (drop v s) j c → ⊥) →
      Kept (Quoted k w) v p q → Going s z w k p → Placed (FindTo s z k) q
  last x (kept_new y) (going g) = there h (g _ (find_at h r (finds_here n m y)))
  last x (kept_none y) (going g) = nowhere (g _ (stuck n m y x))
  last x kept_old (gone i f) = there i f

-- a search for each of the words ks from z on, that have come to w with the places r
pub record GoingAll (s z w : List ℕ) (ks : List (List ℕ)) (r : List (Option ℕ)) : Type 0 where
  pub each : (i : ℕ) → i < length r → i < length ks → Going s z w (get_or ks i []) (get_or r i None)
  pub rest : (i : ℕ) → length ks ≤ i → get_or r i None ≡ None
  pub end : (o : ℕ) → ShutTo s w o → ShutTo s z o

-- these searches at their start
pub starts : {s z : List ℕ} {ks : List (List ℕ)} {r : List (Option ℕ)} → ((i : ℕ) → get_or r i None ≡ None) →
    GoingAll s z z ks r
starts n =
    record { each = λ i a b. rw (n i) (going (λ o x. x)); rest = λ i a. n i; end = λ o a. a }

module _ {s z w : List ℕ} {ks : List (List ℕ)} where
  -- no member follows
  pub finish_all : {r : List (Option ℕ)} → ((l v : List ℕ) → Name w l v → ⊥) → GoingAll s z w ks r →
      Gathers (FindTo s z) (ShutTo s z) ks r None
  finish_all n g =
      record {
        each = λ i a b. finish (unnamed n) (g.each i a b);
        rest = g.rest;
        end = nowhere (g.end 0 (shut_unnamed n));
      }

  -- past a member
  module _ {l : List ℕ} {v : ℕ} {old r : List (Option ℕ)} (n : Name w l (drop v s)) (m : Not IsWs (drop v s))
      (h : 0 < v) (t : v ≤ length s) (k : KeptAll w v ks old r) (g : GoingAll s z w ks old) where
    -- the place of a word
    old_each : (i : ℕ) → i < length r → i < length ks → Going s z w (get_or ks i []) (get_or old i None)
    old_each i a b = g.each i (omega (arith, k.long)) b

    kept_each : (i : ℕ) → i < length r → i < length ks →
        Kept (Quoted (get_or ks i []) w) v (get_or old i None) (get_or r i None)
    kept_each i a b = k.each i (omega (arith, k.long)) b

    -- there is no place where there is no word
    kept_rest : (i : ℕ) → length ks ≤ i → get_or r i None ≡ None
    kept_rest i a = k.rest i a ∙ g.rest i a

    pub pass_all : {c : List ℕ} {j : Json} → Leads 31 (drop v s) j c → GoingAll s z c ks r
    pass_all x =
        record {
          each = λ i a b. pass n m h t x (kept_each i a b) (old_each i a b);
          rest = kept_rest;
          end = λ o a. g.end o (shut_step n m x a);
        }

    -- past the last member, with the object's end at q
    pub last_all : {j : Json} (q : ℕ) → 0 < q → q ≤ length s → Ends 31 0x7d (drop v s) j (drop q s) →
        Gathers (FindTo s z) (ShutTo s z) ks r (Some q)
    last_all q p i x =
        let f : (i : Json) (c : List ℕ) → Leads 31 (drop v s) i c → ⊥ = (λ i c y. leads_brace y x) in
        record {
          each = λ i a b. last n m h t f (kept_each i a b) (old_each i a b);
          rest = kept_rest;
          end = there p (g.end q (shut_last n x p i));
        }

    -- past a member that nothing right follows
    pub bad_all : ((j : Json) (c : List ℕ) → Leads 31 (drop v s) j c → ⊥) →
        ((j : Json) (c : List ℕ) → Ends 31 0x7d (drop v s) j c → ⊥) →
        Gathers (FindTo s z) (ShutTo s z) ks r None
    bad_all x y =
        record {
          each = λ i a b. last n m h t x (kept_each i a b) (old_each i a b);
          rest = kept_rest;
          end = nowhere (g.end 0 (shut_bad n m x y));
        }

-- a search among the members of an object is a search in the object
pub found_of_lem : {s k w u : List ℕ} {o : ℕ} → Opens 0x7b 0x7d w u → FindTo s u k o → FoundTo s w k o
found_of_lem x (find_at p l f) = found_at p l x f
found_of_lem x (find_absent f) = found_absent (λ u v y h. f v (rw (opens_unique x y) h))

-- an empty object
pub found_empty : {s k w u r : List ℕ} → w ≡ 0x7b ∷ u → Ws u (0x7d ∷ r) → FoundTo s w k 0
found_empty e x = found_absent (λ u v y f. empty_none {c = 0x7d} (omega arith) x (rw e at y))

-- no object
pub found_shut : {s k w : List ℕ} → Not (Is 0x7b) w → FoundTo s w k 0
found_shut n = found_absent (λ u v y f. shut_none n y)

-- the place past an object
pub past_of : {s w u : List ℕ} {o : ℕ} → Opens 0x7b 0x7d w u → ShutTo s u o → PastTo s w o
unfolding depth
past_of (opens x n q) (shut_at p l m d) = past_at p l (val_object x m) (omega arith)
past_of (opens x n q) (unshut f) = past_none (λ ms r v d. on x n q f v d)
  where
    on : {w u r : List ℕ} {ms : Fields} → Ws w u → Not IsWs u → Not (Is 0x7d) u →
        ((ms : Fields) (r : List ℕ) → Members u ms r → depths_of ms ≤ 31 → ⊥) → Value (0x7b ∷ w) (Json.object ms) r →
        depth (Json.object ms) ≤ 32 → ⊥
    on x n q f (val_scalar h) d = elim h [ ]
    on x n q f (val_object0 y) d = not_is q (ws_unique x n y (solid 0x7d (omega arith)))
    on x n q f (val_object y h) d = f _ _ (rw (← ws_unique x n y (members_no_ws h)) at h) (omega arith)

-- an empty object
pub past_empty : {s w u : List ℕ} {q : ℕ} → 0 < q → q ≤ length s → w ≡ 0x7b ∷ u → Ws u (0x7d ∷ drop q s) → PastTo s w q
unfolding depth
past_empty p l e x = rw e (past_at p l (val_object0 x) (omega arith))

-- no object
pub past_shut : {s w : List ℕ} → Not (Is 0x7b) w → PastTo s w 0
past_shut n = past_none (λ ms r v d. on n v)
  where
    on : {w r : List ℕ} {ms : Fields} → Not (Is 0x7b) w → Value w (Json.object ms) r → ⊥
    on n (val_scalar h) = elim h [ ]
    on n (val_object0 y) = not_is n refl
    on n (val_object y h) = not_is n refl
