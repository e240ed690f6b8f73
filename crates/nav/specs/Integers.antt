-- An integer of document 01: digits only, at most 4,294,967,295.
-- Assumes nothing: these are definitions.
use Rattle.std.specs.Prelude.{ℕ, ◌+◌, ◌*◌, ◌-◌, cond, ◌&&◌, List, [], ◌∷◌, leb, Option, Some, None}
use Rattle.std.proofs.Math.Option as logic
use Rattle.std.proofs.Math.Option.{some, none}
use Rattle.json_text.specs.Tree.{Json}
use Rattle.nav.specs.Words.{digits}

-- the number that n, and then the digits behind it, spell
unfoldable pub decimal : ℕ → List ℕ → ℕ
decimal n [] = n
decimal n (d ∷ ds) = decimal (10 * n + (d - 0x30)) ds

-- the integer that a spelling is
unfoldable pub spelled : List ℕ → Option ℕ
spelled ds = cond (digits ds && leb (decimal 0 ds) 4294967295) (Some (decimal 0 ds)) None

-- the integer that a tree is
unfoldable pub integer_of : Json → Option ℕ
integer_of Json.null = None
integer_of Json.true = None
integer_of Json.false = None
integer_of (Json.number ds) = spelled ds
integer_of (Json.string cs) = None
integer_of (Json.array js) = None
integer_of (Json.object ms) = None

-- the integer that stands at a place, if anything does
abbrev pub integer_at : logic.Option Json → Option ℕ
integer_at none = None
integer_at (some j) = integer_of j
