-- What this crate's definitions mean, and that they agree: the theorems, each proved in a file of its own.
-- Assumes nothing.
use Prim.Native.Nat.{ℕ, ◌<◌, ◌≤◌}
use mathlib.Core.Path.{◌≡◌}
use mathlib.Core.Bool.{true, false}
use mathlib.Core.List.{List, [], ◌∷◌, ◌++◌}
use mathlib.Core.Logic.{◌⊎◌, inl, inr}
use native.Mathlib.Omega.{arith}
use lib.ListN.{get_or, length}
use Rattle.laws.proofs.Tests.{by_test}
use Rattle.graph.specs.Graph.{joined, endless, graph_fault}
use Rattle.graph.specs.Rules.{Broken, Reaches, Answer}
use Rattle.graph.specs.Stream.{stream_fault}
use Rattle.graph.specs.Packing.{packed_lists, packed_fault_of, starts_from, lengths_of}
use Rattle.graph.specs.Order.{in_turn, preorder, scene_order, Walk}
use Rattle.graph.proofs.Reach.{endless_never, ends_reaches}
use Rattle.graph.proofs.Tests.{linked, linked_said}
use Rattle.graph.proofs.Verdicts.{answer}
use Rattle.graph.proofs.Streams.{stream_is}
use Rattle.graph.proofs.Unpacking.{unpack, packed_is}
use Rattle.graph.proofs.Capacity.{sound_holds, packed_fits}
use Rattle.graph.proofs.Levels.{order_is}
use Rattle.graph.proofs.Walks.{walk_is}

-- rule 43's test, where rules 41 and 42 hold: as many steps up as there are nodes decide what any number of steps does
pub climb_exact : (kids roots : List (List ℕ))
    → ((i : ℕ) → Broken kids roots 41 i → ⊥) → ((i : ℕ) → Broken kids roots 42 i → ⊥)
    → (x : ℕ) → x < length kids
    → ((endless kids x ≡ true) × (Reaches kids x → ⊥)) ⊎ ((endless kids x ≡ false) × Reaches kids x)
climb_exact kids roots h41 h42 x l =
    let ok = linked_said kids roots h41 h42 in
    by_test (endless kids x) (λ t. inl (t, endless_never kids ok x t)) (λ f. inr (f, ends_reaches kids ok x l f))

-- the fault is the smallest rule broken with its smallest item, or 0 and 0 where none is
pub graph_exact : (kids roots : List (List ℕ)) → Answer kids roots (graph_fault kids roots)
graph_exact kids roots = answer kids roots

-- the entries fed one at a time, in order, give the graph's fault
pub stream_exact : (kids roots : List (List ℕ)) → length kids < 65535 → stream_fault kids roots ≡ graph_fault kids roots
stream_exact kids roots small = stream_is kids roots small

-- lists that were packed come back, whatever stands after their records and entries
pub unpack_exact : (lists : List (List ℕ)) (a b c : List ℕ)
    → packed_lists (starts_from 0 lists ++ a) (lengths_of lists ++ b) (joined lists ++ c) (length lists) ≡ lists
unpack_exact lists a b c = unpack lists a b c

-- the fault of a graph's packed lists is the graph's
pub packed_exact : (kids roots : List (List ℕ)) (a b c d e f : List ℕ) → length kids ≤ 128 → length roots ≤ 8
    → packed_fault_of (starts_from 0 kids ++ a) (lengths_of kids ++ b) (joined kids ++ c) (length kids)
    (starts_from 0 roots ++ d) (lengths_of roots ++ e) (joined roots ++ f) (length roots)
    ≡ graph_fault kids roots
packed_exact kids roots a b c d e f h k = packed_is kids roots a b c d e f h k

-- nothing of an accepted graph is cut off
pub packed_whole : (kids roots : List (List ℕ)) → (graph_fault kids roots).number ≡ 0 → length kids ≤ 128 → length roots ≤ 8
    → (length (joined kids) ≤ 128) × (length (joined roots) ≤ 1024)
packed_whole kids roots sound h k = packed_fits kids roots sound h k

-- the walk is what the words say: a node is followed by its first child and all under it, then the next child
pub order_exact : (kids roots : List (List ℕ)) → (graph_fault kids roots).number ≡ 0
    → (levels x : ℕ) → length kids ≤ levels → x < length kids
    → preorder kids levels x ≡ x ∷ in_turn (preorder kids levels) (get_or kids x [])
order_exact kids roots sound levels x h l =
    let holds = sound_holds kids roots sound in
    let ok = linked kids roots (holds 0 (omega arith)) (holds 1 (omega arith)) in
    order_is kids ok (holds 2 (omega arith)) levels x h l

-- the walk of a scene lists exactly the nodes that are a root or under one, each once, at most as many as there are
pub walk_exact : (kids roots : List (List ℕ)) → (graph_fault kids roots).number ≡ 0
    → (levels scene : ℕ) → length kids ≤ levels → scene < length roots
    → Walk kids (get_or roots scene []) (scene_order kids levels (get_or roots scene []))
walk_exact kids roots sound levels scene h l = walk_is kids roots sound levels scene h l
