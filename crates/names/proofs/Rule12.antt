-- Rule 12 on a text: the answer says whether its tree has a name with a backslash, and names the first in its order.
-- Assumes nothing.
use Prim.Native.Nat.{ℕ}
use native.Mathlib.Omega.{arith}
use mathlib.Core.Path.{◌≡◌, ap}
use mathlib.Core.Bool.{false, true≢false}
use mathlib.Core.List.{List}
use Rattle.json_text.specs.Tree.{Json, Fields, depth}
use Rattle.json_text.specs.Grammar.{Text}
use Rattle.std.specs.Prelude.{None}
use Rattle.names.specs.declared.Search.{Search}
use Rattle.names.specs.Rules.{Backslash, Breaks12}
use Rattle.names.specs.Rules.Backslash.{backslash_first, backslash_later}
use Rattle.names.specs.Strings.{slashed}
use Rattle.names.specs.Order.{Names, Out, escapes, seek_text, place}
use Rattle.names.specs.Names.{plan12, escaped_by, escaped_of}
use Rattle.names.specs.Exact.{Rule12}
use Rattle.names.specs.Exact.Rule12.{holds12, breaks12}
use Rattle.names.proofs.Calm.{plain_without}
use Rattle.names.proofs.Texts.{Agrees, text_names}
use Rattle.names.proofs.Texts.Agrees.{no_room, agrees}
use Rattle.names.proofs.Means.{Means, means_as, Stops, text_means, anywhere_as}
use Rattle.names.proofs.Means.Means.{means_on, means_found}
use Rattle.names.proofs.Means.Stops.{stops_here, stops_later}

-- a name that stops the search holds a backslash, ..
backslash_of : {c : Names} {ms : Fields} → Stops escapes c ms → Backslash ms
backslash_of (stops_here e) = backslash_first e
backslash_of (stops_later x) = backslash_later (backslash_of x)

-- .. and one that holds it stops the search
stops_of : {c : Names} {ms : Fields} → Backslash ms → Stops escapes c ms
stops_of (backslash_first e) = stops_here e
stops_of (backslash_later x) = stops_later (stops_of x)

ruled : (s : List ℕ) {j : Json} {u : Out} → Means (Breaks12 j) u → Rule12 j (escaped_by (place s u))
ruled s (means_on f) = holds12 f
ruled s (means_found x) = breaks12 x

-- the answer is that of the search in the order of the text, by any of its derivations
pub in_order : {s : List ℕ} {j : Json} (d : Text s j) → escaped_of s ≡ escaped_by (place s (seek_text escapes d))
unfolding escaped_of
in_order {s = s} {j = j} d = go (text_names plan12 (depth j) d (omega arith)) where
  go : {most : ℕ} {u : Out} → Agrees plan12 s most u → escaped_of s ≡ escaped_by (place s u)
  go (no_room k y z f) = absurd (true≢false y)
  go (agrees f) = ap (λ (x : Search). escaped_by x) f

-- it says whether the tree breaks rule 12
pub rule12 : {s : List ℕ} {j : Json} → Text s j → Rule12 j (escaped_of s)
rule12 {s = s} d =
    rw (in_order d)
    (ruled s
    (means_as (anywhere_as (λ ms x. backslash_of x)) (anywhere_as (λ ms x. stops_of x)) (text_means escapes d)))

-- a text without a backslash does not break it
pub no_backslash : {s : List ℕ} {j : Json} → Text s j → slashed s ≡ false → Breaks12 j → ⊥
no_backslash {s = s} {j = j} d e = holds (rw (← plain_without s e) at (rule12 d)) where
  holds : Rule12 j None → Breaks12 j → ⊥
  holds (holds12 f) = f
