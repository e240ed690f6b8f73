-- What a JSON text says: a tree. A number and a string are kept as they are spelled.
-- Assumes nothing: these are definitions.
use Rattle.std.specs.Prelude.{ℕ, suc, max, List}

mutual
  -- a value: a number and a string are kept as they are spelled
  pub data Json : Type 0 where
    null : Json
    true : Json
    false : Json
    number : List ℕ → Json
    string : List ℕ → Json
    array : Values → Json
    object : Fields → Json

  -- the elements of an array, in order
  pub data Values : Type 0 where
    values_end : Values
    value_then : Json → Values → Values

  -- the members of an object, in order: a name as it is spelled, and a value
  pub data Fields : Type 0 where
    fields_end : Fields
    field_then : List ℕ → Json → Fields → Fields

-- how deep arrays and objects stand in one another
unfoldable mutual
  pub depth : Json → ℕ
  depth null = 0
  depth true = 0
  depth false = 0
  depth (number ds) = 0
  depth (string cs) = 0
  depth (array js) = suc (depths js)
  depth (object ms) = suc (depths_of ms)

  -- the depth of the deepest element
  pub depths : Values → ℕ
  depths values_end = 0
  depths (value_then j js) = max (depth j) (depths js)

  -- the depth of the deepest member
  pub depths_of : Fields → ℕ
  depths_of fields_end = 0
  depths_of (field_then k j ms) = max (depth j) (depths_of ms)
