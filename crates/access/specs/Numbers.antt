-- From the bytes of a component to its number. Assumes nothing: these are definitions.
use Rattle.std.specs.Prelude.{ℕ, ◌+◌, cond, ltb, eqb, ℤ, pos, ◌-ℤ◌}

-- two's complement: of half + half numbers the upper half are negative
unfoldable pub twos : ℕ → ℕ → ℤ
twos half n = cond (ltb n half) (pos n) (pos n -ℤ pos (half + half))

-- 5120 and 5122 are two's complement; all others answer their bits as an unsigned whole number, 5126 too
unfoldable pub decode : ℕ → ℕ → ℤ
decode component_type n =
    cond (eqb component_type 5120) (twos 128 n)
    (cond (eqb component_type 5122) (twos 32768 n)
    (pos n))
