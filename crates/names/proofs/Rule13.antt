-- Rule 13 on a text: the answer says whether an object of its tree has two equal names, and names the first in its order.
-- Assumes nothing.
use Prim.Native.Nat.{ℕ, ◌+◌, ◌*◌, ◌≤◌, ◌<◌}
use native.Mathlib.Omega.{arith}
use mathlib.Core.Path.{◌≡◌, sym}
use mathlib.Core.Bool.{true, true≢false}
use mathlib.Core.List.{List, [], ◌∷◌}
use borrow.Author.Tests.{le-ltb, ltb-false}
use lib.ListN.{length}
use Rattle.laws.proofs.Tests.{by_test}
use Rattle.json_text.specs.Tree.{Json, Fields, depth}
use Rattle.json_text.specs.Grammar.{Text}
use Rattle.names.specs.declared.Search.TheVariants.{Full}
use Rattle.names.specs.Rules.{Named, Twice, Breaks13}
use Rattle.names.specs.Rules.Named.{named_first, named_later}
use Rattle.names.specs.Rules.Twice.{twice_first, twice_later}
use Rattle.names.specs.Order.{Names, Out, has, seek_text, place}
use Rattle.names.specs.Names.{plan13, search_of, repeat_of}
use Rattle.names.specs.Exact.{Rule13}
use Rattle.names.specs.Exact.Rule13.{holds13, breaks13}
use Rattle.names.proofs.Strings.{same_true, same_refl}
use Rattle.names.proofs.Texts.{Agrees, text_names}
use Rattle.names.proofs.Texts.Agrees.{no_room, agrees}
use Rattle.names.proofs.Means.{Means, means_as, Stops, text_means, anywhere_as}
use Rattle.names.proofs.Means.Means.{means_on, means_found}
use Rattle.names.proofs.Means.Stops.{stops_here, stops_later}

-- k is one of the names c
data Mem (k : List ℕ) : Names → Type 0 where
  mem_here : {c : Names} → Mem k (k ∷ c)
  mem_later : {n : List ℕ} {c : Names} → Mem k c → Mem k (n ∷ c)

has_mem : (k : List ℕ) (c : Names) → has k c ≡ true → Mem k c
unfolding has
has_mem k [] e = absurd (true≢false (sym e))
has_mem k (x ∷ c) e =
    by_test (has k c) (λ h. mem_later (has_mem k c h)) (λ h. let i = same_true k x (rw h at e) in rw (← i) mem_here)

mem_has : {k : List ℕ} {c : Names} → Mem k c → has k c ≡ true
unfolding has
mem_has {k = k} (mem_here {c = c}) = by_test (has k c) (λ h. rw h) (λ h. rw (h, same_refl k))
mem_has (mem_later m) = rw (mem_has m)

-- a member has the name of an earlier one, or two members have one name
data Again (c : Names) (ms : Fields) : Type 0 where
  again_earlier : {k : List ℕ} → Mem k c → Named k ms → Again c ms
  again_twice : Twice ms → Again c ms

-- a name that stops the search is there again, ..
again_of : {c : Names} {ms : Fields} → Stops has c ms → Again c ms
again_of (stops_here {c = c} {k = k} e) = again_earlier (has_mem k c e) named_first
again_of (stops_later x) = later (again_of x) where
  later : {c : Names} {k : List ℕ} {j : Json} {ms : Fields} → Again (k ∷ c) ms → Again c (Fields.field_then k j ms)
  later (again_earlier mem_here n) = again_twice (twice_first n)
  later (again_earlier (mem_later m) n) = again_earlier m (named_later n)
  later (again_twice t) = again_twice (twice_later t)

twice_of : {ms : Fields} → Stops has [] ms → Twice ms
twice_of x = go (again_of x) where
  go : {ms : Fields} → Again [] ms → Twice ms
  go (again_earlier m n) = elim m [ ]
  go (again_twice t) = t

-- .. and one that is there again stops it
named_stops : {k : List ℕ} {c : Names} {ms : Fields} → Mem k c → Named k ms → Stops has c ms
named_stops m named_first = stops_here (mem_has m)
named_stops m (named_later n) = stops_later (named_stops (mem_later m) n)

twice_stops : {c : Names} {ms : Fields} → Twice ms → Stops has c ms
twice_stops (twice_first n) = stops_later (named_stops mem_here n)
twice_stops (twice_later t) = stops_later (twice_stops t)

ruled : (s : List ℕ) {j : Json} {u : Out} → Means (Breaks13 j) u → Rule13 j (place s u)
ruled s (means_on f) = holds13 f
ruled s (means_found x) = breaks13 x

-- with n levels, the search over bytes has room where the entries are a fifth of the bytes and of 6 for each level
searched_in_order : (cap n : ℕ) {s : List ℕ} {j : Json} (d : Text s j) → depth j ≤ n → length s + 6 * n < 5 * cap
    → search_of cap s ≡ place s (seek_text has d)
unfolding search_of
searched_in_order cap n {s = s} d e l = go (text_names (plan13 cap) n d e) where
  go : {u : Out} → Agrees (plan13 cap) s (length s + 6 * n) u → search_of cap s ≡ place s u
  go (no_room k y z f) = absurd (let m = ltb-false k cap y in omega arith)
  go (agrees f) = f

module _ {s : List ℕ} {j : Json} (d : Text s j) (short : length s ≤ 65536) (flat : depth j ≤ 32) where
  -- the answer is that of the search in the order of the text, by any of its derivations: place and pairs
  pub in_order : repeat_of s ≡ place s (seek_text has d)
  unfolding repeat_of
  in_order = rw (le-ltb 65536 (length s) short) (searched_in_order _ 32 d flat (omega arith))

  -- it says whether the tree breaks rule 13
  pub rule13 : Rule13 j (repeat_of s)
  rule13 =
      rw in_order
      (ruled s (means_as (anywhere_as (λ ms x. twice_of x)) (anywhere_as (λ ms x. twice_stops x)) (text_means has d)))

  -- there is room
  pub never_full : repeat_of s ≡ Full → ⊥
  never_full e = none (rw e at rule13) where
    none : Rule13 j Full → ⊥
    none = elim [ ]
