-- Bytes of a string, and where it ends, over any bytes. Assumes nothing: these are definitions.
use Rattle.std.specs.Prelude.{ℕ, suc, Bool, true, false, cond, not, ◌&&◌, List, [], ◌∷◌, eqb, leb}

-- a byte that stands for itself in a string: no quotation mark, no backslash, no control character
abbrev pub plain : ℕ → Bool
plain b = leb 0x20 b && leb b 0xff && not (eqb b 0x22) && not (eqb b 0x5c)

-- how many bytes stand before the mark that closes a string; all where none does. A backslash hides the next byte
unfoldable pub to_close : Bool → List ℕ → ℕ
to_close hidden [] = 0
to_close true (b ∷ w) = suc (to_close false w)
to_close false (b ∷ w) = cond (eqb b 0x22) 0 (suc (to_close (eqb b 0x5c) w))
