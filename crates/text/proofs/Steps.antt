-- What `check` answers after each of its tests. Assumes nothing.
use Rattle.std.specs.Prelude.{Result, Ok, Err, ⊤}
use Prim.Native.Nat.{ℕ, ◌≤◌, ◌<◌}
use mathlib.Core.Path.{◌≡◌, refl}
use mathlib.Core.List.{List}
use borrow.Author.Tests.{lt-ltb, le-ltb}
use lib.ListN.{length}
use Rattle.utf8.specs.declared.NotUtf8.{NotUtf8}
use Rattle.utf8.specs.Utf8.{utf8_of}
use Rattle.json_text.specs.declared.error.ScanError.TheVariants.{Broke, Deep}
use Rattle.json_text.specs.declared.error.TooDeep.{TooDeep}
use Rattle.json_text.specs.Depth.{depth_of}
use Rattle.json_text.specs.Answer.{scan_of}
use Rattle.json_text.proofs.Exact.{scan_within}
use Rattle.text.specs.Rules.{fault, by10, name_fault, grammar_fault, text_of}
use Rattle.text.specs.Results.{outcome_of}

pub too_long : (s : List ℕ) → 65536 < length s → outcome_of (text_of s) ≡ Err (fault 8 0)
unfolding text_of
too_long s l = rw (lt-ltb _ _ l)

pub not_utf8 : (s : List ℕ) (e : NotUtf8) → length s ≤ 65536 → utf8_of s ≡ Err e → outcome_of (text_of s) ≡ Err (fault 9 e.place)
unfolding text_of
not_utf8 s e l u = rw (le-ltb 65536 (length s) l, u)

pub accepted : (s : List ℕ) (p : ℕ) → length s ≤ 65536 → utf8_of s ≡ Ok tt → scan_of 32 s ≡ Ok p
    → outcome_of (text_of s) ≡ outcome_of (name_fault s)
unfolding text_of
accepted s p l u e = rw (le-ltb 65536 (length s) l, u, scan_within 32 _ _ e, e)

-- the depth count decides between two rules
either : (d : Result ⊤ TooDeep) (p : ℕ) → outcome_of (by10 d (fault 11 p)) ≡ Err (by10 d (fault 11 p))
either (Ok x) p = refl
either (Err e) p = refl

module _ (s : List ℕ) (p : ℕ) (l : length s ≤ 65536) (u : utf8_of s ≡ Ok tt) where
  pub broken : scan_of 32 s ≡ Err (Broke p) → outcome_of (text_of s) ≡ Err (grammar_fault s p)
  unfolding text_of grammar_fault
  broken e = rw (le-ltb 65536 (length s) l, u, e) (either (depth_of 32 s) p)

  pub deep : scan_of 32 s ≡ Err (Deep p) → outcome_of (text_of s) ≡ Err (grammar_fault s p)
  unfolding text_of grammar_fault
  deep e = rw (le-ltb 65536 (length s) l, u, e) (either (depth_of 32 s) p)
