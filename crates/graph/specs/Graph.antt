-- Rules 41 to 46 as tests on a graph: `kids` are the nodes' children lists, `roots` the scenes' root lists, both in index
-- order. There are as many nodes as children lists, and as many scenes as root lists.
-- Assumes nothing: these are definitions.
use Rattle.std.specs.Prelude.{ℕ, zero, suc, ◌+◌, Bool, false, cond, ◌||◌, List, [], ◌∷◌, ◌++◌, ltb, leb, eqb, get_or, length}
use Rattle.laws.specs.Search.{least, any_below}
use Rattle.graph.specs.declared.verdict.Fault.{Fault}

-- all lists, one after the other
unfoldable pub joined : List (List ℕ) → List ℕ
joined [] = []
joined (list ∷ lists) = list ++ joined lists

-- how often x stands in a list
unfoldable pub times : ℕ → List ℕ → ℕ
times x [] = 0
times x (y ∷ list) = cond (eqb y x) (suc (times x list)) (times x list)

-- whether an entry of the list passes the test
unfoldable pub any_in : (ℕ → Bool) → List ℕ → Bool
any_in test [] = false
any_in test (x ∷ list) = test x || any_in test list

-- whether an entry stands again further on in the list
unfoldable pub repeats : List ℕ → Bool
repeats [] = false
repeats (x ∷ list) = ltb 0 (times x list) || repeats list

-- the first node that lists x as a child, the number of nodes where none does
abbrev pub parent_of : List (List ℕ) → ℕ → ℕ
parent_of kids x = least (λ p. ltb 0 (times x (get_or kids p []))) (length kids)

-- k steps up from x
abbrev pub climb : (ℕ → ℕ) → ℕ → ℕ → ℕ
climb up zero x = x
climb up (suc k) x = up (climb up k x)

-- as many steps up as there are nodes, and still at a node
unfoldable pub endless : List (List ℕ) → ℕ → Bool
endless kids x = ltb (climb (parent_of kids) (length kids) x) (length kids)

-- whether item i breaks each rule, in order: 41 a child of node i is no node; 42 node i stands more than once in all
-- children lists together; 43 going up from node i never ends; 44 a root of scene i is no node; 45 scene i lists a root
-- twice; 46 a root of scene i has a parent
abbrev pub graph_tests : List (List ℕ) → List (List ℕ) → ℕ → List Bool
graph_tests kids roots i =
    any_in (leb (length kids)) (get_or kids i [])
    ∷ ltb 1 (times i (joined kids))
    ∷ endless kids i
    ∷ any_in (leb (length kids)) (get_or roots i [])
    ∷ repeats (get_or roots i [])
    ∷ any_in (λ x. ltb (parent_of kids x) (length kids)) (get_or roots i [])
    ∷ []

-- whether item i breaks rule 41 + k
abbrev pub graph_broken : List (List ℕ) → List (List ℕ) → ℕ → ℕ → Bool
graph_broken kids roots k i = get_or (graph_tests kids roots i) k false

-- the items of rule 41 + k: nodes for 41 to 43, scenes for 44 to 46
abbrev pub graph_items : List (List ℕ) → List (List ℕ) → ℕ → ℕ
graph_items kids roots k = cond (ltb k 3) (length kids) (length roots)

-- the smallest item that breaks rule 41 + k, the number of items where none does
abbrev pub graph_item : List (List ℕ) → List (List ℕ) → ℕ → ℕ
graph_item kids roots k = least (graph_broken kids roots k) (graph_items kids roots k)

-- the smallest rule that an item breaks, less 41; 6 where none is broken
abbrev pub graph_rule : List (List ℕ) → List (List ℕ) → ℕ
graph_rule kids roots = least (λ k. any_below (graph_broken kids roots k) (graph_items kids roots k)) 6

-- the smallest rule broken with its smallest item, 0 and 0 where none is
unfoldable pub graph_fault : List (List ℕ) → List (List ℕ) → Fault
graph_fault kids roots =
    cond (ltb (graph_rule kids roots) 6)
    (record { number = 41 + graph_rule kids roots; item = graph_item kids roots (graph_rule kids roots) })
    (record { number = 0; item = 0 })
