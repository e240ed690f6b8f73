-- What stands at a place of a text. `w` is always what the text has from the place on.
-- Assumes nothing: these are definitions.
use Rattle.std.specs.Prelude.{ℕ, ◌≤◌, List}
use Rattle.std.proofs.Math.Option.{Option, some, none}
use Rattle.json_text.specs.Tree.{Json, Values, Fields, depth, depths}
use Rattle.json_text.specs.Grammar.{Value, Elements}
use Rattle.json_text.specs.Faults.{Stop, NoValue}
use Rattle.json_text.specs.Scans.{ValueOk}
use Rattle.json_text.specs.Parse.{Got, front_run, past_ws}
use Rattle.json_text.specs.Parse.Got.{got, lost}
use Rattle.json_text.specs.Answer.{place_of}

-- w starts with a value that says j, of at most 32 levels, and that is as long as it can be
pub record Stands (w : List ℕ) (j : Json) : Type 0 where
  pub rest : List ℕ
  pub reads : Value w j rest
  pub stop : Stop j rest
  pub shallow : depth j ≤ 32

-- w starts with the elements of an array, from one of them on, and they say js
pub record Walk (w : List ℕ) (js : Values) : Type 0 where
  pub rest : List ℕ
  pub reads : Elements w js rest
  pub shallow : depths js ≤ 32

-- the first place that holds no white space
abbrev pub start_of : List ℕ → ℕ
start_of s = place_of s (past_ws s)

-- what f says of what is there, else z
abbrev pub given : {A B : Type 0} → B → (A → B) → Option A → B
given z f none = z
given z f (some x) = f x

-- what a reading of a value comes to: its tree, and what follows it
abbrev pub read : {n : ℕ} {w : List ℕ} → Got (ValueOk n w) (NoValue n w) → Option (Json × List ℕ)
read (got r k) = some (k.0, r)
read (lost f r k) = none

-- the value of at most n levels that w starts with, if there is one
unfoldable pub value_at : ℕ → List ℕ → Option (Json × List ℕ)
unfolding front_run
value_at n w = read (front_run n w)

-- the members of what is there, if it is an object
abbrev pub object_of : Option Json → Option Fields
object_of none = none
object_of (some Json.null) = none
object_of (some Json.true) = none
object_of (some Json.false) = none
object_of (some (Json.number ds)) = none
object_of (some (Json.string cs)) = none
object_of (some (Json.array js)) = none
object_of (some (Json.object ms)) = some ms
