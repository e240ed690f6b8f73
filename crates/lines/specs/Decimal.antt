-- A number in decimal digits. Assumes nothing: these are definitions.
use Rattle.std.specs.Prelude.{ℕ, zero, suc, ◌+◌, ◌*◌, ◌-◌, ◌/◌, ◌%◌, ◌<◌, ◌≤◌, ◌≡◌, cond, List, [], ◌∷◌, ◌++◌, ltb, length, get_or}

-- the digits of n in ASCII, most significant first, where k is not below their number
unfoldable pub digits_of : ℕ → ℕ → List ℕ
digits_of zero n = []
digits_of (suc k) n = cond (ltb n 10) ((0x30 + n) ∷ []) (digits_of k (n / 10) ++ ((0x30 + n % 10) ∷ []))

-- the digits of n: `0` for 0, and no leading zero
unfoldable pub decimal_of : ℕ → List ℕ
decimal_of n = digits_of (suc n) n

-- the number that n, and then the digits behind it, spell
unfoldable pub value_of : ℕ → List ℕ → ℕ
value_of n [] = n
value_of n (d ∷ ds) = value_of (10 * n + (d - 0x30)) ds

-- ds spell n: one or more digits, no leading zero unless it is the only digit, and n is their value in base 10
pub record Spells (n : ℕ) (ds : List ℕ) : Type 0 where
  pub some : 0 < length ds
  pub digits : (i : ℕ) → i < length ds → (0x30 ≤ get_or ds i 0) × (get_or ds i 0 ≤ 0x39)
  pub first : 1 < length ds → 0x30 < get_or ds 0 0
  pub value : value_of 0 ds ≡ n
