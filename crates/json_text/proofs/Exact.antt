-- The answers of `depth` and `scan` are exact: rule 10 in the words of the count, rule 11 in those of the grammar.
-- Assumes nothing.
use Prim.Native.Nat.{ℕ, ◌≤◌}
use native.Mathlib.Omega.{arith}
use mathlib.Core.Path.{◌≡◌}
use mathlib.Core.List.{List}
use mathlib.Core.Option.{some}
use lib.ListN.{length}
use Rattle.std.proofs.Common.{Result, Ok, Err}
use Rattle.json_text.specs.declared.error.ScanError.{ScanError}
use Rattle.json_text.specs.declared.error.ScanError.TheVariants.{Deep}
use Rattle.json_text.specs.Tree.{Json, Fields, depth}
use Rattle.json_text.specs.Grammar.{Text}
use Rattle.json_text.specs.Depth.{peak, depth_of}
use Rattle.json_text.specs.Depth.Mode.{outside}
use Rattle.json_text.specs.Parse.{tree_of}
use Rattle.json_text.specs.Answer.{scan_of}
use Rattle.json_text.specs.Check.{Counted, Checked}
use Rattle.json_text.proofs.Counts.{counted}
use Rattle.json_text.proofs.Checks.{checked, low_within, within_low, text_low_peak, low_depth, past_says, says_past}
use Rattle.json_text.proofs.Checks.{no_deep, one_answer}
use Rattle.json_text.proofs.Tree.{tree_sound, tree_complete}
pub use Rattle.json_text.proofs.Unique.{text_unique}

-- rule 10: within where the peak of the count is at most n, else the first place where the count passes n
pub depth_exact : (n : ℕ) (s : List ℕ) → Counted s n (depth_of n s)
depth_exact n s = counted n s

-- and within exactly there
pub depth_within : (n : ℕ) (s : List ℕ) →
    (depth_of n s ≡ Ok tt → peak outside 0 s ≤ n) × (peak outside 0 s ≤ n → depth_of n s ≡ Ok tt)
depth_within n s = (λ e. within_low (counted n s) e, λ l. low_within (counted n s) l)

-- rule 11: a text with an object of at most n levels; or the longest start of one; or where the count passes n
pub scan_exact : (n : ℕ) (s : List ℕ) → Checked s n (scan_of n s)
scan_exact n s = checked n s

-- past, at the end of s, exactly where s is a text with an object of at most n levels
pub scan_past : (n : ℕ) (s : List ℕ) →
    ((p : ℕ) → scan_of n s ≡ Ok p →
    (p ≡ length s) × (ms : Fields) × Text s (Json.object ms) × (depth (Json.object ms) ≤ n)) ×
    ((ms : Fields) → Text s (Json.object ms) → depth (Json.object ms) ≤ n → scan_of n s ≡ Ok (length s))
scan_past n s = (λ p e. past_says (checked n s) e, λ ms x l. says_past (checked n s) x l)

-- where rule 10 holds: past exactly where s is a text with an object, and never deep
pub scan_object : (n : ℕ) (s : List ℕ) → depth_of n s ≡ Ok tt →
    ((p : ℕ) → scan_of n s ≡ Ok p → (ms : Fields) × Text s (Json.object ms)) ×
    ((ms : Fields) → Text s (Json.object ms) → scan_of n s ≡ Ok (length s)) ×
    ((p : ℕ) → scan_of n s ≡ Err (Deep p) → ⊥)
scan_object n s w = (
  λ p e. let k = past_says (checked n s) e in (k.1, k.2),
  λ ms x. says_past (checked n s) x (low_depth n x (within_low (counted n s) w)),
  λ p e. no_deep (checked n s) w e,
)

-- where rule 10 holds, the scan's answer is the only one that `Checked` allows
pub scan_only : (n : ℕ) (s : List ℕ) (o : Result ℕ ScanError) → depth_of n s ≡ Ok tt → Checked s n o → o ≡ scan_of n s
scan_only n s o w c = one_answer w c (checked n s)

-- what the scan accepts passes rule 10
pub scan_within : (n p : ℕ) (s : List ℕ) → scan_of n s ≡ Ok p → depth_of n s ≡ Ok tt
scan_within n p s e =
    let k = past_says (checked n s) e in
    low_within (counted n s) (text_low_peak n k.2 k.3)

-- past exactly where the tree is an object
pub scan_tree : (n : ℕ) (s : List ℕ) →
    ((p : ℕ) → scan_of n s ≡ Ok p → (ms : Fields) × (tree_of n s ≡ some (Json.object ms))) ×
    ((ms : Fields) → tree_of n s ≡ some (Json.object ms) → scan_of n s ≡ Ok (length s))
scan_tree n s = (
  λ p e. let k = past_says (checked n s) e in (k.1, tree_complete n s (Json.object k.1) k.2 k.3),
  λ ms e. let k = tree_sound n s (Json.object ms) e in says_past (checked n s) k.0 k.1,
)

-- the peak of the count over a text is the depth of its tree
pub text_peak : (s : List ℕ) (j : Json) → Text s j → peak outside 0 s ≡ depth j
text_peak s j x =
    let l = text_low_peak (depth j) x (omega arith) in
    let m = low_depth (peak outside 0 s) x (omega arith) in
    omega arith
