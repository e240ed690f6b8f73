-- Worked examples, computed.
-- Assumes nothing.
use Prim.Native.Nat.{ℕ}
use mathlib.Core.Path.{◌≡◌, refl}
use mathlib.Core.List.{List, [], ◌∷◌}
use Rattle.std.specs.Prelude.{Some}
use Rattle.names.specs.declared.Search.TheVariants.{Repeats, Full}
use Rattle.json_text.specs.Strings.{to_close}
use Rattle.names.specs.Strings.{same, slashed}
use Rattle.names.specs.Order.{has, pairs}
use Rattle.names.specs.Names.{run, search_of, escaped_of}

-- {"a":1,"b":{"a":2},"b":3}
outer : List ℕ
outer =
    0x7b ∷ 0x22 ∷ 0x61 ∷ 0x22 ∷ 0x3a ∷ 0x31 ∷ 0x2c ∷ 0x22 ∷ 0x62 ∷ 0x22 ∷ 0x3a ∷ 0x7b ∷ 0x22 ∷ 0x61 ∷ 0x22 ∷ 0x3a ∷ 0x32
    ∷ 0x7d ∷ 0x2c ∷ 0x22 ∷ 0x62 ∷ 0x22 ∷ 0x3a ∷ 0x33 ∷ 0x7d ∷ []

-- the second "b" is byte 19: "b" was compared with "a", the second "b" with both, and the inner "a" with none
second_b : search_of 5 outer ≡ Repeats 19 3
unfolding search_of run to_close has pairs same outer
second_b = refl

-- the inner "a" is the fifth entry, behind two names and two brackets
no_room : search_of 4 outer ≡ Full
unfolding search_of run to_close has pairs same outer
no_room = refl

-- {"a\n":1}
escaped : escaped_of (0x7b ∷ 0x22 ∷ 0x61 ∷ 0x5c ∷ 0x6e ∷ 0x22 ∷ 0x3a ∷ 0x31 ∷ 0x7d ∷ []) ≡ Some 1
unfolding escaped_of run to_close slashed
escaped = refl
