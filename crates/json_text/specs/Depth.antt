-- Rule 10, the depth count: it runs over all bytes of the chunk, a JSON text or not.
-- Assumes nothing: these are definitions.
use Rattle.std.specs.Prelude.{ℕ, suc, pred, max, cond, List, [], ◌∷◌, eqb, ltb, length, ⊤, Result, Ok, Err}
use Rattle.json_text.specs.declared.error.TooDeep.{TooDeep}

-- where a byte stands: outside strings, inside one, or in one behind a backslash that hides it
pub data Mode : Type 0 where
  outside inside hidden : Mode

-- whether a byte opens or closes an array or an object
pub data Bracket : Type 0 where
  opens closes neither : Bracket

-- a quotation mark, a backslash, or any other byte
pub data Kind : Type 0 where
  mark slash : Kind
  code : Bracket → Kind

-- { and [ open, } and ] close
abbrev pub bracket : ℕ → Bracket
bracket b =
    cond (eqb b 0x5b) opens (cond (eqb b 0x7b) opens (cond (eqb b 0x5d) closes (cond (eqb b 0x7d) closes neither)))

-- what a byte is to the count
abbrev pub kind : ℕ → Kind
kind b = cond (eqb b 0x22) mark (cond (eqb b 0x5c) slash (code (bracket b)))

-- a mark opens or closes a string; inside one, a backslash hides the next byte
abbrev pub turn : Mode → Kind → Mode
turn outside mark = inside
turn outside slash = outside
turn outside (code x) = outside
turn inside mark = outside
turn inside slash = hidden
turn inside (code x) = inside
turn hidden k = inside

-- the count rises at { or [ and falls at } or ]; at 0 it stays 0
abbrev pub move_b : Bracket → ℕ → ℕ
move_b opens d = suc d
move_b closes d = pred d
move_b neither d = d

-- only brackets outside strings count
abbrev pub move : Mode → Kind → ℕ → ℕ
move outside mark d = d
move outside slash d = d
move outside (code x) d = move_b x d
move inside k d = d
move hidden k d = d

-- the largest count, from the count d on
unfoldable pub peak : Mode → ℕ → List ℕ → ℕ
peak m d [] = d
peak m d (b ∷ w) = max d (peak (turn m (kind b)) (move m (kind b) d) w)

-- how many bytes stand before the first with which the count passes n; all where it never does
unfoldable pub to_pass : ℕ → Mode → ℕ → List ℕ → ℕ
to_pass n m d [] = 0
to_pass n m d (b ∷ w) = cond (ltb n (move m (kind b) d)) 0 (suc (to_pass n (turn m (kind b)) (move m (kind b) d) w))

-- the count starts at 0, outside strings: whether it passes n, and the place of the first byte with which it does
unfoldable pub depth_of : ℕ → List ℕ → Result ⊤ TooDeep
depth_of n s = cond (ltb (to_pass n outside 0 s) (length s)) (Err (record { place = to_pass n outside 0 s })) (Ok tt)
