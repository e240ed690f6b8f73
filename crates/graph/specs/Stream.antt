-- The entries of a graph's lists, one at a time, and the verdict on what was kept of them.
-- Assumes nothing: these are definitions.
use Rattle.std.specs.Prelude.{ℕ, suc, Bool, cond, ◌&&◌, List, [], ◌∷◌, ltb, leb, eqb, get_or, set, length, replicate}
use Rattle.laws.specs.Search.{least}
use Rattle.graph.specs.Graph.{climb}
use Rattle.graph.specs.declared.verdict.Fault.{Fault}
use Rattle.graph.specs.declared.roots.Roots.{Roots}

-- a step for each entry of list i, in order
unfoldable pub feed : {S : Type 0} → (S → ℕ → ℕ → S) → S → ℕ → List ℕ → S
feed step s i [] = s
feed step s i (x ∷ list) = feed step (step s i x) i list

-- a step for each entry of all lists, in order, the first of which is list i
unfoldable pub feed_all : {S : Type 0} → (S → ℕ → ℕ → S) → S → ℕ → List (List ℕ) → S
feed_all step s i [] = s
feed_all step s i (list ∷ lists) = feed_all step (feed step s i list) (suc i) lists

-- the number i where the test holds and i is the smaller, else what was found before
unfoldable pub earlier : Bool → ℕ → ℕ → ℕ
earlier test i found = cond (test && ltb i found) i found

-- one child of a node among n nodes: the smallest node with a child that is no node
unfoldable pub link_past : ℕ → ℕ → ℕ → ℕ → ℕ
link_past n past node child = earlier (leb n child) node past

-- one child of a node: its parent, 65535 where it had one
unfoldable pub link_parents : List ℕ → ℕ → ℕ → List ℕ
link_parents parents node child = set parents child (cond (eqb (get_or parents child 0) (length parents)) node 65535)

-- the parent of x, the number of nodes where it has none
abbrev pub up_in : List ℕ → ℕ → ℕ
up_in parents x = get_or parents x (length parents)

-- one root of a scene: the smallest scenes that break rules 44, 45 and 46
unfoldable pub root_of : Roots → List ℕ → List ℕ → ℕ → ℕ → Roots
root_of found marks parents scene x =
    record {
      past = earlier (leb (length marks) x) scene found.past;
      twice = cond (leb (length marks) x) found.twice (earlier (eqb (get_or marks x 0) scene) scene found.twice);
      parented = earlier (ltb (up_in parents x) (length parents)) scene found.parented;
    }

-- as many steps up as there are nodes, and still at a node
unfoldable pub endless_in : List ℕ → ℕ → Bool
endless_in parents x = ltb (climb (up_in parents) (length parents) x) (length parents)

-- the smallest child met twice, the number of nodes if none
unfoldable pub first_twice : List ℕ → ℕ
first_twice parents = least (λ x. eqb (get_or parents x 0) 65535) (length parents)

-- the smallest node from which the way up does not end, the number of nodes if none
unfoldable pub first_endless : List ℕ → ℕ
first_endless parents = least (endless_in parents) (length parents)

-- a fault from its number and item
abbrev fault : ℕ → ℕ → Fault
fault number item = record { number = number; item = item }

-- the verdict of rules 44 to 46
unfoldable pub roots_verdict : ℕ → Roots → Fault
roots_verdict scenes found =
    cond (ltb found.past scenes) (fault 44 found.past)
    (cond (ltb found.twice scenes) (fault 45 found.twice)
    (cond (ltb found.parented scenes) (fault 46 found.parented)
    (fault 0 0)))

-- the verdict of rules 41 to 46
unfoldable pub verdict_of : ℕ → List ℕ → ℕ → Roots → Fault
verdict_of past parents scenes found =
    cond (ltb past (length parents)) (fault 41 past)
    (cond (ltb (first_twice parents) (length parents)) (fault 42 (first_twice parents))
    (cond (ltb (first_endless parents) (length parents)) (fault 43 (first_endless parents))
    (roots_verdict scenes found)))

-- after all children: the smallest node with a child that is no node, ..
unfoldable pub children_past : List (List ℕ) → ℕ
children_past kids = feed_all (link_past (length kids)) (length kids) 0 kids

-- .. and the parents
unfoldable pub children_parents : List (List ℕ) → List ℕ
children_parents kids = feed_all link_parents (replicate (length kids) (length kids)) 0 kids

-- what is kept of the roots
pub record Marked : Type 0 where
  pub found : Roots
  pub marks : List ℕ

-- what is kept, from its parts
abbrev pub marked : Roots → List ℕ → Marked
marked found marks = record { found = found; marks = marks }

-- one root of a scene: what is found, and the mark of that scene
abbrev pub root_step : List ℕ → Marked → ℕ → ℕ → Marked
root_step parents kept scene x =
    marked (root_of kept.found kept.marks parents scene x) (set kept.marks x scene)

-- before the first root of so many scenes over so many nodes
abbrev pub unmarked : ℕ → ℕ → Marked
unmarked nodes scenes =
    marked (record { past = scenes; twice = scenes; parented = scenes }) (replicate nodes scenes)

-- after all roots
unfoldable pub roots_found : List ℕ → List (List ℕ) → Roots
roots_found parents roots = (feed_all (root_step parents) (unmarked (length parents) (length roots)) 0 roots).found

-- the verdict after all children and all roots
unfoldable pub stream_fault : List (List ℕ) → List (List ℕ) → Fault
stream_fault kids roots =
    verdict_of (children_past kids) (children_parents kids) (length roots) (roots_found (children_parents kids) roots)
