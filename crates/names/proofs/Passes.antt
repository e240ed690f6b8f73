-- How the search of rule 12 stands at a byte, and each of its turns.
-- Assumes nothing.
use Prim.Native.Nat.{ℕ, ◌+◌, ◌-◌, ◌≤◌, ◌<◌}
use native.Mathlib.Omega.{arith}
use mathlib.Core.Path.{◌≡◌, refl, sym, ◌∙◌, ap}
use mathlib.Core.Bool.{true, false, ◌||◌}
use mathlib.Core.List.{List, [], ◌∷◌}
use lib.Dec.{eqb}
use lib.ListN.{length, drop, take, get_or, length-drop}
use Rattle.laws.proofs.Tests.{by_test}
use Rattle.json_text.specs.Depth.Mode.{outside}
use Rattle.std.specs.Prelude.{Some, None}
use Rattle.names.specs.declared.Search.{Search}
use Rattle.json_text.specs.Strings.{to_close}
use Rattle.names.specs.Strings.{slashed}
use Rattle.names.specs.Order.{Names}
use Rattle.names.specs.Names.{plan12, run, escaped_by, escaped_of}
use Rattle.names.specs.Names.State.{going}
use Rattle.json_text.proofs.Marks.{past}
use Rattle.names.proofs.Strings.{close_in}
use Rattle.names.proofs.Runs.{says, string_turn, colon_stops, colon_turn}
use Rattle.names.proofs.Runs.{open_turn, other_turn, close_turn, close_none}

-- at byte i: the answer over s is the answer of what is left, whatever pairs and names are kept
pub record Passed (s : List ℕ) (last size i : ℕ) : Type 0 where
  pub within : i ≤ length s + 1
  pub string : last + size ≤ i
  pub count : ℕ
  pub inner : Names
  pub outer : List Names
  pub runs : escaped_of s
      ≡ escaped_by
      (says plan12 s (going outside (drop last s) (take size (drop (last + 1) s)) count inner outer) (drop i s))

-- at the start
pub start : (s : List ℕ) → Passed s 0 0 0
unfolding escaped_of
start s = record { within = omega arith; string = omega arith; count = 0; inner = []; outer = []; runs = refl }

by : {x y : Search} → x ≡ y → escaped_by x ≡ escaped_by y
by e = ap (λ (z : Search). escaped_by z) e

-- a closing bracket leaves some names
shut : (s : List ℕ) (i : ℕ) → i < length s → (l n : List ℕ) (p : ℕ) (c : Names) → (get_or s i 0 ≡ 0x3a → ⊥)
    → (eqb (get_or s i 0) 0x5d || eqb (get_or s i 0) 0x7d) ≡ true → (o : List Names)
    → (d : Names) × (e : List Names)
    × (says plan12 s (going outside l n p c o) (drop i s) ≡ says plan12 s (going outside l n p d e) (drop (i + 1) s))
shut s i h l n p c f b [] = (c, [], close_none plan12 s i h l n p c f b)
shut s i h l n p c f b (x ∷ o) = (x, o, close_turn plan12 s i h l n p c f b x o)

module _ {s : List ℕ} {last size i : ℕ} (g : Passed s last size i) (h : i < length s) where
  -- the next byte, the last string being the same
  next : (q : ℕ) (d : Names) (e : List Names)
      → says plan12 s
      (going outside (drop last s) (take size (drop (last + 1) s)) g.count g.inner g.outer) (drop i s)
      ≡ says plan12 s (going outside (drop last s) (take size (drop (last + 1) s)) q d e) (drop (i + 1) s)
      → Passed s last size (i + 1)
  next q d e k =
      record {
        within = omega arith;
        string = omega (arith, g.string);
        count = q;
        inner = d;
        outer = e;
        runs = g.runs ∙ by k;
      }

  -- a string, to its end e
  pub string_passed : (e : ℕ) → get_or s i 0 ≡ 0x22 → e ≡ i + 1 + to_close false (drop (i + 1) s)
      → Passed s i (e - (i + 1)) (e + 1)
  string_passed e b k =
      record {
        within = omega (arith, close_in s (i + 1) e (omega arith) k);
        string = omega arith;
        count = g.count;
        inner = g.inner;
        outer = g.outer;
        runs = g.runs ∙ by (string_turn plan12 s i h _ _ g.count g.inner g.outer e b k);
      }

  -- a name without a backslash
  pub colon_passed : get_or s i 0 ≡ 0x3a → slashed (take size (drop (last + 1) s)) ≡ false → Passed s last size (i + 1)
  colon_passed b e = next _ _ _ (colon_turn plan12 s i h _ _ g.count g.inner g.outer b e refl)

  -- a name with one
  pub colon_holds : get_or s i 0 ≡ 0x3a → slashed (take size (drop (last + 1) s)) ≡ true → Some last ≡ escaped_of s
  colon_holds b e =
      let w : length s - length (drop last s) ≡ last = omega (arith, length-drop last s, g.string) in
      sym (g.runs ∙ by (colon_stops plan12 s i h _ _ g.count g.inner g.outer b e) ∙ rw w)

  -- any other byte
  pub other_passed : (get_or s i 0 ≡ 0x22 → ⊥) → (get_or s i 0 ≡ 0x3a → ⊥) → Passed s last size (i + 1)
  other_passed a f =
      by_test (eqb (get_or s i 0) 0x5b || eqb (get_or s i 0) 0x7b)
      (λ b. next _ _ _ (open_turn plan12 s i h _ _ g.count g.inner g.outer f b refl))
      (λ b. by_test (eqb (get_or s i 0) 0x5d || eqb (get_or s i 0) 0x7d)
      (λ d. let z = shut s i h _ _ g.count g.inner f d g.outer in next _ _ _ z.2)
      (λ d. next _ _ _ (other_turn plan12 s i h _ _ g.count g.inner g.outer f a b d)))

-- at the end of s
pub plain : {s : List ℕ} {last size i : ℕ} → Passed s last size i → length s ≤ i → None ≡ escaped_of s
unfolding run
plain {s = s} {i = i} g l = sym (g.runs ∙ rw (past s i l))
