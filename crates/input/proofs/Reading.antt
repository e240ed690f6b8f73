-- What is read piece by piece. Assumes nothing.
use Rattle.std.specs.Prelude.{◌≡◌, ℕ, ◌+◌, ◌≤◌, List, ◌++◌, length, take}
use Rattle.std.proofs.Common.{sym, ap, ◌∙◌}
use Rattle.std.proofs.lemmas.List.{length-take-le, take-append-le}
use Rattle.std.proofs.Math.Seq.{take-append-add}
use borrow.Rule.Slice.PartMut.{put_mid, post_of}

-- n bytes that a read put at place a stand behind those before it
pub behind : (a k n : ℕ) (old part : List ℕ) → a ≤ length old → n ≤ length part → take a old ++ take n part ≡ take (a + n) (put_mid a k old part)
behind a k n old part h f =
    ap (λ l. take a old ++ l) (sym (take-append-le n part (post_of a k old) f))
    ∙ sym (take-append-add (take a old) (part ++ post_of a k old) n)
    ∙ ap (λ m. take (m + n) (put_mid a k old part)) (length-take-le a old h)
