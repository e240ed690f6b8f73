-- What the answers of `depth` and `scan` mean: rule 10 in the words of the count, rule 11 in those of the grammar.
-- Assumes nothing: these are definitions.
use Rattle.std.specs.Prelude.{ℕ, ◌+◌, ◌≤◌, ◌<◌, ◌≡◌, List, ◌++◌, length, take, ⊤, Result, Ok, Err}
use Rattle.json_text.specs.declared.error.TooDeep.{TooDeep}
use Rattle.json_text.specs.declared.error.ScanError.{ScanError}
use Rattle.json_text.specs.declared.error.ScanError.TheVariants.{Broke, Deep}
use Rattle.json_text.specs.Tree.{Json, Fields, depth}
use Rattle.json_text.specs.Grammar.{Text}
use Rattle.json_text.specs.Depth.{peak, depth_of}
use Rattle.json_text.specs.Depth.Mode.{outside}

-- the depth count over s never passes n; or the first byte with which it does is at p
pub data Counted (s : List ℕ) (n : ℕ) : Result ⊤ TooDeep → Type 0 where
  counted_within : peak outside 0 s ≤ n → Counted s n (Ok tt)
  counted_passes : {p : ℕ} → p < length s → peak outside 0 (take p s) ≤ n → n < peak outside 0 (take (p + 1) s) →
      Counted s n (Err (record { place = p }))

-- s is no text with an object as its value; its first p bytes are the longest start of s that such a text also has
pub record Longest (s : List ℕ) (p : ℕ) : Type 0 where
  pub within : p ≤ length s
  pub none : (ms : Fields) → Text s (Json.object ms) → ⊥
  pub starts : (t : List ℕ) × (ms : Fields) × Text (take p s ++ t) (Json.object ms)
  pub longest : p < length s → (t : List ℕ) (ms : Fields) → Text (take (p + 1) s ++ t) (Json.object ms) → ⊥

-- s is a text with an object of at most n levels as its value; or none with an object; or its depth count passes n
pub data Checked (s : List ℕ) (n : ℕ) : Result ℕ ScanError → Type 0 where
  checked_past : {ms : Fields} → Text s (Json.object ms) → depth (Json.object ms) ≤ n → Checked s n (Ok (length s))
  checked_broke : {p : ℕ} → Longest s p → Checked s n (Err (Broke p))
  checked_deep : {p : ℕ} → depth_of n s ≡ Err (record { place = p }) →
      ((ms : Fields) → Text s (Json.object ms) → n < depth (Json.object ms)) → Checked s n (Err (Deep p))
