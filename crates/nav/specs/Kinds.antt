-- What a value is, by its first byte and by its tree.
-- Assumes nothing: these are definitions.
use Rattle.std.specs.Prelude.{ℕ, cond, ◌&&◌, eqb, leb}
use Rattle.nav.specs.declared.Kind.{Kind}
use Rattle.nav.specs.declared.Kind.TheVariants.{Object, Array, Text, True, False, Null, Number, Other}
use Rattle.json_text.specs.Tree.{Json}

-- the kind of a value by its first byte, which decides it
unfoldable pub kind_of : ℕ → Kind
kind_of b =
    cond (eqb b 0x7b) Object
    (cond (eqb b 0x5b) Array
    (cond (eqb b 0x22) Text
    (cond (eqb b 0x74) True
    (cond (eqb b 0x66) False
    (cond (eqb b 0x6e) Null
    (cond (eqb b 0x2d) Number
    (cond (leb 0x30 b && leb b 0x39) Number Other)))))))

-- the kind of a tree
unfoldable pub tree_kind : Json → Kind
tree_kind Json.null = Null
tree_kind Json.true = True
tree_kind Json.false = False
tree_kind (Json.number ds) = Number
tree_kind (Json.string cs) = Text
tree_kind (Json.array js) = Array
tree_kind (Json.object ms) = Object
