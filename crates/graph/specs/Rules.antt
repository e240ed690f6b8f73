-- Rules 41 to 46 in the paper's words. Assumes nothing: these are definitions.
use Rattle.std.specs.Prelude.{ℕ, ◌<◌, ◌≤◌, ◌≡◌, List, [], get_or, length}
use Rattle.laws.specs.Verdict.{Smallest}
use Rattle.graph.specs.Graph.{joined}
use Rattle.graph.specs.declared.verdict.Fault.{Fault}

-- x stands in the list
pub data In (x : ℕ) (list : List ℕ) : Type 0 where
  at : (j : ℕ) → j < length list → get_or list j 0 ≡ x → In x list

-- x stands more than once in the list
pub data Again (x : ℕ) (list : List ℕ) : Type 0 where
  at : (i j : ℕ) → i < j → j < length list → get_or list i 0 ≡ x → get_or list j 0 ≡ x → Again x list

-- x is an entry of list p: a child of node p in the children lists, a root of scene p in the root lists
abbrev pub Child : List (List ℕ) → ℕ → ℕ → Type 0
Child kids p x = (p < length kids) × In x (get_or kids p [])

-- going up by parents from x reaches a node without a parent
pub data Reaches (kids : List (List ℕ)) : ℕ → Type 0 where
  top : {x : ℕ} → ((p : ℕ) → Child kids p x → ⊥) → Reaches kids x
  up : {x : ℕ} (p : ℕ) → Child kids p x → Reaches kids p → Reaches kids x

-- the rule with this number is broken by this item
pub data Broken (kids roots : List (List ℕ)) : ℕ → ℕ → Type 0 where
  -- a child index is not below the number of nodes
  child_past : (node x : ℕ) → Child kids node x → length kids ≤ x → Broken kids roots 41 node
  -- a node stands more than once in all children lists together
  child_again : (x : ℕ) → x < length kids → Again x (joined kids) → Broken kids roots 42 x
  -- going up by parents from a node never reaches one without a parent
  no_top : (x : ℕ) → x < length kids → (Reaches kids x → ⊥) → Broken kids roots 43 x
  -- a scene's root does not exist
  root_past : (scene x : ℕ) → Child roots scene x → length kids ≤ x → Broken kids roots 44 scene
  -- a scene lists a root twice
  root_again : (scene x : ℕ) → scene < length roots → Again x (get_or roots scene []) → Broken kids roots 45 scene
  -- a listed root has a parent
  root_below : (scene x p : ℕ) → Child roots scene x → Child kids p x → Broken kids roots 46 scene

-- what the answer is: the smallest rule broken with its smallest item, 0 and 0 where none is
pub data Answer (kids roots : List (List ℕ)) : Fault → Type 0 where
  sound : ((n i : ℕ) → Broken kids roots n i → ⊥) → Answer kids roots (record { number = 0; item = 0 })
  faulty : (number item : ℕ) → Smallest (Broken kids roots) number item
      → Answer kids roots (record { number = number; item = item })
