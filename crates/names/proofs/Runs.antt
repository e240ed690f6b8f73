-- The machine, byte by byte, at places of the input s.
-- Assumes nothing.
use Prim.Native.Nat.{ℕ, suc, ◌+◌, ◌-◌, ◌<◌}
use native.Mathlib.Omega.{arith}
use mathlib.Core.Path.{◌≡◌, refl, ◌∙◌, ap}
use mathlib.Core.Bool.{Bool, true, false, ◌||◌}
use mathlib.Core.List.{List, [], ◌∷◌}
use mathlib.Core.Logic.{⊎_elim}
use borrow.Author.Tests.{ne_eqb, eqb-true, ltb-true, ltb-false}
use lib.Dec.{eqb, ltb}
use lib.ListN.{length, drop, take, get_or}
use lib.Seq.{drop-drop}
use Rattle.laws.proofs.Tests.{by_test}
use Rattle.json_text.specs.Depth.{Mode, kind}
use Rattle.json_text.specs.Depth.Mode.{outside, inside, hidden}
use Rattle.json_text.specs.Depth.Kind.{slash, code}
use Rattle.json_text.specs.Depth.Bracket.{neither}
use Rattle.names.specs.declared.Search.{Search}
use Rattle.json_text.specs.Strings.{to_close}
use Rattle.names.specs.Strings.{spelled}
use Rattle.names.specs.Order.{Names, pairs}
use Rattle.names.specs.Names.{Plan, room, State, step, run, answer}
use Rattle.names.specs.Names.State.{going, stopped, full}
use Rattle.json_text.proofs.Marks.{split, past, close_mark, kind_opens, kind_closes, kind_other}

-- a search that has stopped stays so
pub run_stopped : (plan : Plan) (l : List ℕ) (p : ℕ) (w : List ℕ) → run plan (stopped l p) w ≡ stopped l p
unfolding run
run_stopped plan l p [] = refl
run_stopped plan l p (b ∷ w) = run_stopped plan l p w

-- one that had no room stays so
pub run_full : (plan : Plan) (w : List ℕ) → run plan full w ≡ full
unfolding run
run_full plan [] = refl
run_full plan (b ∷ w) = run_full plan w

-- the answer over s, from a state and what is left
abbrev pub says : Plan → List ℕ → State → List ℕ → Search
says plan s t w = answer s (run plan t w)

-- over the characters of a string nothing but the mode changes
module _ (plan : Plan) (s l n : List ℕ) (p : ℕ) (c : Names) (o : List Names) where
  abbrev mode : Bool → Mode
  mode true = hidden
  mode false = inside

  along : (h : Bool) (w : List ℕ)
      → says plan s (going (mode h) l n p c o) w ≡ says plan s (going inside l n p c o) (drop (to_close h w) w)
  unfolding run to_close
  along true [] = refl
  along false [] = refl
  along true (b ∷ w) = along false w
  along false (b ∷ w) =
      by_test (eqb b 0x22)
      (λ e. let k = eqb-true b 0x22 e in rw k)
      (λ e. by_test (eqb b 0x5c) (λ f. rw (e, f) (along true w)) (λ f. rw (e, f) (along false w)))

  shut : (w : List ℕ) → says plan s (going inside l n p c o) (drop (to_close false w) w)
      ≡ says plan s (going outside l n p c o) (drop (suc (to_close false w)) w)
  unfolding run
  shut w =
      by_test (ltb (to_close false w) (length w))
      (λ e. rw (close_mark false w (ltb-true _ _ e)))
      (λ e.
      let k = ltb-false (to_close false w) (length w) e in
      rw (past w (to_close false w) k, past w (suc (to_close false w)) (omega arith)))

  over : (w : List ℕ) → says plan s (going inside l n p c o) w
      ≡ says plan s (going outside l n p c o) (drop (suc (to_close false w)) w)
  over w = along false w ∙ shut w

-- one byte
step_at : (plan : Plan) (s : List ℕ) (i : ℕ) → i < length s → (t : State)
    → says plan s t (drop i s) ≡ says plan s (step plan (get_or s i 0) (drop (i + 1) s) t) (drop (i + 1) s)
unfolding run
step_at plan s i h t = rw (split s i h)

step_to : (plan : Plan) (s : List ℕ) (i : ℕ) → i < length s → (t u : State)
    → step plan (get_or s i 0) (drop (i + 1) s) t ≡ u → says plan s t (drop i s) ≡ says plan s u (drop (i + 1) s)
step_to plan s i h t u e = step_at plan s i h t ∙ ap (λ (x : State). says plan s x (drop (i + 1) s)) e

module _ (plan : Plan) (s : List ℕ) (i : ℕ) (h : i < length s) (l n : List ℕ) (p : ℕ) (c : Names) (o : List Names) where
  -- a mark: a string, to its end e
  pub string_turn : (e : ℕ) → get_or s i 0 ≡ 0x22 → e ≡ i + 1 + to_close false (drop (i + 1) s)
      → says plan s (going outside l n p c o) (drop i s)
      ≡ says plan s (going outside (drop i s) (take (e - (i + 1)) (drop (i + 1) s)) p c o) (drop (e + 1) s)
  string_turn e b k =
      let w = drop (i + 1) s in
      let q : i + 1 + suc (to_close false w) ≡ e + 1 = omega arith in
      let r : drop (suc (to_close false w)) w ≡ drop (e + 1) s = rw (drop-drop (suc (to_close false w)) (i + 1) s, q) in
      let u : e - (i + 1) ≡ to_close false w = omega arith in
      rw (u, ← r)
      (step_to plan s i h _ (going inside (drop i s) (spelled w) p c o) (rw (split s i h, b))
      ∙ over plan s (drop i s) (spelled w) p c o w)

  -- a colon: the last string is a name
  pub colon_stops : get_or s i 0 ≡ 0x3a → plan.stop n c ≡ true
      → says plan s (going outside l n p c o) (drop i s) ≡ answer s (stopped l (p + pairs n c))
  colon_stops b e =
      step_to plan s i h _ (stopped l (p + pairs n c)) (rw (b, e))
      ∙ ap (λ (x : State). answer s x) (run_stopped plan l (p + pairs n c) (drop (i + 1) s))

  pub colon_turn : get_or s i 0 ≡ 0x3a → plan.stop n c ≡ false → plan.roomy (room c o) ≡ true
      → says plan s (going outside l n p c o) (drop i s)
      ≡ says plan s (going outside l n (p + pairs n c) (n ∷ c) o) (drop (i + 1) s)
  colon_turn b e r = step_to plan s i h _ (going outside l n (p + pairs n c) (n ∷ c) o) (rw (b, e, r))

  pub colon_full : get_or s i 0 ≡ 0x3a → plan.stop n c ≡ false → plan.roomy (room c o) ≡ false
      → says plan s (going outside l n p c o) (drop i s) ≡ answer s full
  colon_full b e r =
      step_to plan s i h _ full (rw (b, e, r)) ∙ ap (λ (x : State). answer s x) (run_full plan (drop (i + 1) s))

  module _ (f : get_or s i 0 ≡ 0x3a → ⊥) where
    -- an opening bracket
    pub open_turn : (eqb (get_or s i 0) 0x5b || eqb (get_or s i 0) 0x7b) ≡ true → plan.roomy (room c o) ≡ true
        → says plan s (going outside l n p c o) (drop i s) ≡ says plan s (going outside l n p [] (c ∷ o)) (drop (i + 1) s)
    open_turn b r =
        step_to plan s i h _ (going outside l n p [] (c ∷ o))
        (rw (kind_opens (get_or s i 0) b, ne_eqb (get_or s i 0) 0x3a f, r))

    pub open_full : (eqb (get_or s i 0) 0x5b || eqb (get_or s i 0) 0x7b) ≡ true → plan.roomy (room c o) ≡ false
        → says plan s (going outside l n p c o) (drop i s) ≡ answer s full
    open_full b r =
        step_to plan s i h _ full (rw (kind_opens (get_or s i 0) b, ne_eqb (get_or s i 0) 0x3a f, r))
        ∙ ap (λ (x : State). answer s x) (run_full plan (drop (i + 1) s))

    -- any other byte
    pub other_turn : (get_or s i 0 ≡ 0x22 → ⊥) → (eqb (get_or s i 0) 0x5b || eqb (get_or s i 0) 0x7b) ≡ false
        → (eqb (get_or s i 0) 0x5d || eqb (get_or s i 0) 0x7d) ≡ false
        → says plan s (going outside l n p c o) (drop i s) ≡ says plan s (going outside l n p c o) (drop (i + 1) s)
    other_turn g e k =
        step_to plan s i h _ (going outside l n p c o)
        (⊎_elim (λ (z : kind (get_or s i 0) ≡ slash). rw z)
        (λ (z : kind (get_or s i 0) ≡ code neither). rw (z, ne_eqb (get_or s i 0) 0x3a f))
        (kind_other (get_or s i 0) g e k))

-- a closing bracket
module _ (plan : Plan) (s : List ℕ) (i : ℕ) (h : i < length s) (l n : List ℕ) (p : ℕ) (c : Names)
    (f : get_or s i 0 ≡ 0x3a → ⊥) (b : (eqb (get_or s i 0) 0x5d || eqb (get_or s i 0) 0x7d) ≡ true) where
  pub close_turn : (x : Names) (o : List Names)
      → says plan s (going outside l n p c (x ∷ o)) (drop i s) ≡ says plan s (going outside l n p x o) (drop (i + 1) s)
  close_turn x o =
      step_to plan s i h _ (going outside l n p x o) (rw (kind_closes (get_or s i 0) b, ne_eqb (get_or s i 0) 0x3a f))

  pub close_none : says plan s (going outside l n p c []) (drop i s)
      ≡ says plan s (going outside l n p c []) (drop (i + 1) s)
  close_none =
      step_to plan s i h _ (going outside l n p c []) (rw (kind_closes (get_or s i 0) b, ne_eqb (get_or s i 0) 0x3a f))
