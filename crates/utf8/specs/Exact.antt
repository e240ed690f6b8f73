-- What an answer about UTF-8 says, in the terms of RFC 3629. Assumes nothing: these are definitions.
use Rattle.std.specs.Prelude.{ℕ, ◌≤◌, ◌<◌, List, [], length, drop, Result, Ok, Err, ⊤}
use Rattle.utf8.specs.Rfc3629.{Octets}
use Rattle.utf8.specs.declared.NotUtf8.{NotUtf8}

-- the first p bytes of s are whole characters, and no longer start of s is
pub record LongestWhole (s : List ℕ) (p : ℕ) : Type 0 where
  pub whole : Octets s (drop p s)
  pub longest : (q : ℕ) → q ≤ length s → Octets s (drop q s) → q ≤ p

-- s is UTF-8; or it is not, and its longest start of whole characters ends before its end
pub data Utf8Says (s : List ℕ) : Result ⊤ NotUtf8 → Type 0 where
  says_whole : Octets s [] → Utf8Says s (Ok tt)
  says_ends : {p : ℕ} → (Octets s [] → ⊥) → p < length s → LongestWhole s p → Utf8Says s (Err (record { place = p }))
