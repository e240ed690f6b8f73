-- Rule 9 as a function: how long the longest start of whole characters is.
-- Assumes nothing: these are definitions.
use Rattle.std.specs.Prelude.{ℕ, zero, suc, ◌-◌, Bool, ◌||◌, ◌&&◌, cond, List, [], ◌∷◌, eqb, leb, length, get_or, Result, Ok, Err, ⊤}
use Rattle.utf8.specs.declared.NotUtf8.{NotUtf8}

-- the byte at a place, 256 past the end
abbrev pub byte_at : List ℕ → ℕ → ℕ
byte_at s at = get_or s at 256

-- %xLO-HI
unfoldable pub within : ℕ → ℕ → ℕ → Bool
within lo hi b = leb lo b && leb b hi

-- UTF8-tail
abbrev pub tail : ℕ → Bool
tail b = within 0x80 0xbf b

-- the first two bytes of a UTF8-2, ..
abbrev pub starts2 : ℕ → ℕ → Bool
starts2 a b = within 0xc2 0xdf a && tail b

-- .. of a UTF8-3, ..
abbrev pub starts3 : ℕ → ℕ → Bool
starts3 a b =
    (eqb a 0xe0 && within 0xa0 0xbf b)
    || (within 0xe1 0xec a && tail b)
    || (eqb a 0xed && within 0x80 0x9f b)
    || (within 0xee 0xef a && tail b)

-- .. and of a UTF8-4
abbrev pub starts4 : ℕ → ℕ → Bool
starts4 a b =
    (eqb a 0xf0 && within 0x90 0xbf b) || (within 0xf1 0xf3 a && tail b) || (eqb a 0xf4 && within 0x80 0x8f b)

-- how many bytes the character has that starts with these four, 0 where none does
unfoldable pub width_of : ℕ → ℕ → ℕ → ℕ → ℕ
width_of a b c d =
    cond (leb a 0x7f) 1
    (cond (starts2 a b) 2
    (cond (starts3 a b && tail c) 3
    (cond (starts4 a b && tail c && tail d) 4
    0)))

-- the width of the character that w starts with
abbrev pub width_at : List ℕ → ℕ
width_at w = width_of (byte_at w 0) (byte_at w 1) (byte_at w 2) (byte_at w 3)

-- how many bytes of whole characters w starts with, the first k of them past the first byte of their character
unfoldable pub whole_from : ℕ → List ℕ → ℕ
whole_from k [] = 0
whole_from (suc k) (b ∷ w) = suc (whole_from k w)
whole_from zero (b ∷ w) = cond (eqb (width_at (b ∷ w)) 0) 0 (suc (whole_from (width_at (b ∷ w) - 1) w))

-- the length of the longest start of whole characters
abbrev pub whole_of : List ℕ → ℕ
whole_of s = whole_from 0 s

-- rule 9
unfoldable pub utf8_of : List ℕ → Result ⊤ NotUtf8
utf8_of s = cond (eqb (whole_of s) (length s)) (Ok tt) (Err (record { place = whole_of s }))
