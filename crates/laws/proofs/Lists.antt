-- Lists at places. Assumes nothing.
use Prim.Native.Nat.{ℕ, zero, suc, ◌+◌, ◌<◌}
use mathlib.Core.Path.{◌≡◌, refl, sym, ap, ◌∙◌}
use mathlib.Core.List.{List, [], ◌∷◌}
use native.Mathlib.Nat.{add-zero, le_of_suc-le-suc, not-suc-le-zero}
use lib.ListN.{get_or, drop, length}
use lib.Seq.{drop-drop, get_or-drop}

-- below the length the default does not matter
pub get_or_any : {A : Type 0} (list : List A) (i : ℕ) (a b : A) → i < length list → get_or list i a ≡ get_or list i b
get_or_any [] i a b l = absurd (not-suc-le-zero l)
get_or_any (x ∷ list) zero a b l = refl
get_or_any (x ∷ list) (suc i) a b l = get_or_any list i a b (le_of_suc-le-suc l)

-- a list that is known from a place on: its entry there, and what follows
module _ {A : Type 0} (xs : List A) (n : ℕ) (x : A) (ys : List A) (d : A) (e : drop n xs ≡ x ∷ ys) where
  -- the entry there
  pub drop_head : get_or xs n d ≡ x
  drop_head = ap (λ (k : ℕ). get_or xs k d) (sym (add-zero n)) ∙ sym (get_or-drop n xs 0 d) ∙ ap (λ (l : List A). get_or l 0 d) e

  -- what follows it
  pub drop-tail : drop (n + 1) xs ≡ ys
  drop-tail = sym (drop-drop 1 n xs) ∙ ap (λ (l : List A). drop 1 l) e
