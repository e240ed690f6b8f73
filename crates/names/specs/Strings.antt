-- Names as bytes. Assumes nothing: these are definitions.
use Rattle.std.specs.Prelude.{ℕ, Bool, true, false, ◌&&◌, ◌||◌, List, [], ◌∷◌, eqb, take}
use Rattle.json_text.specs.Strings.{to_close}

-- the characters of a string as it is spelled
abbrev pub spelled : List ℕ → List ℕ
spelled w = take (to_close false w) w

-- the same bytes
unfoldable pub same : List ℕ → List ℕ → Bool
same [] [] = true
same [] (b ∷ y) = false
same (a ∷ x) [] = false
same (a ∷ x) (b ∷ y) = eqb a b && same x y

-- a backslash among the bytes
unfoldable pub slashed : List ℕ → Bool
slashed [] = false
slashed (b ∷ w) = eqb b 0x5c || slashed w
