-- The width of the character that w starts with, test by test; where the bytes end within a character there is none.
-- Assumes nothing.
use Prim.Native.Nat.{ℕ, ◌≤◌, ◌<◌}
use mathlib.Core.Path.{◌≡◌, refl}
use mathlib.Core.Bool.{Bool, true, false, ◌&&◌, ◌||◌}
use mathlib.Core.List.{List}
use borrow.Author.Tests.{le-leb, lt-leb}
use lib.Dec.{eqb}
use lib.ListN.{length, get_or, get_or-eq_default}
use Rattle.std.specs.Prelude.{Some, None}
use Rattle.utf8.specs.Utf8.{tail, within, starts2, starts3, starts4, width_of}
use Rattle.utf8.specs.Results.{some_width}

-- a test that asks for a byte that is not there, the number 256
last_fails : (x : Bool) → ◌≡◌ {A = Bool} (x && false) false
last_fails true = refl
last_fails false = refl

middle_fails : (x y : Bool) → ◌≡◌ {A = Bool} (x && false && y) false
middle_fails true y = refl
middle_fails false y = refl

end_fails : (x y : Bool) → ◌≡◌ {A = Bool} (x && y && false) false
end_fails true true = refl
end_fails true false = refl
end_fails false y = refl

two_fails : (a : ℕ) → starts2 a 256 ≡ false
unfolding within
two_fails a = last_fails _

three_fails : (a : ℕ) → starts3 a 256 ≡ false
unfolding within
three_fails a = go (eqb a 0xe0) (within 0xe1 0xec a) (eqb a 0xed) (within 0xee 0xef a)
  where
    go : (x y z v : Bool) → ◌≡◌ {A = Bool} ((x && false) || (y && false) || (z && false) || (v && false)) false
    go x y z v = rw (last_fails x, last_fails y, last_fails z, last_fails v)

four_fails : (a : ℕ) → starts4 a 256 ≡ false
unfolding within
four_fails a = go (eqb a 0xf0) (within 0xf1 0xf3 a) (eqb a 0xf4)
  where
    go : (x y z : Bool) → ◌≡◌ {A = Bool} ((x && false) || (y && false) || (z && false)) false
    go x y z = rw (last_fails x, last_fails y, last_fails z)

third_fails : (x : Bool) → ◌≡◌ {A = Bool} (x && tail 256) false
unfolding within
third_fails x = last_fails x

third_fails_too : (x : Bool) (d : ℕ) → ◌≡◌ {A = Bool} (x && tail 256 && tail d) false
unfolding within
third_fails_too x d = middle_fails x (tail d)

fourth_fails : (x : Bool) (c : ℕ) → ◌≡◌ {A = Bool} (x && tail c && tail 256) false
unfolding within
fourth_fails x c = end_fails x (tail c)

pub no_byte : (w : List ℕ) → length w ≤ 0 → None ≡ some_width w
unfolding some_width width_of within
no_byte w l = rw (get_or-eq_default w 256 {n = 0} l)

module _ (w : List ℕ) (a : ℕ) (e : a ≡ get_or w 0 256) where
  pub one_byte : a ≤ 0x7f → Some 1 ≡ some_width w
  unfolding some_width width_of
  one_byte h = rw (← e, le-leb a 0x7f h)

  module _ (h : 0x7f < a) where
    pub no_second : length w ≤ 1 → None ≡ some_width w
    unfolding some_width width_of
    no_second m =
        rw (← e, get_or-eq_default w 256 {n = 1} m, lt-leb a 0x7f h, two_fails a, three_fails a, four_fails a)

    module _ (b : ℕ) (f : b ≡ get_or w 1 256) where
      pub two_bytes : starts2 a b ≡ true → Some 2 ≡ some_width w
      unfolding some_width width_of
      two_bytes t = rw (← e, ← f, lt-leb a 0x7f h, t)

      module _ (t : starts2 a b ≡ false) where
        pub no_third : length w ≤ 2 → None ≡ some_width w
        unfolding some_width width_of
        no_third n =
            rw (
              ← e,
              ← f,
              get_or-eq_default w 256 {n = 2} n,
              lt-leb a 0x7f h,
              t,
              third_fails (starts3 a b),
              third_fails_too (starts4 a b) (get_or w 3 256),
            )

        module _ (c : ℕ) (g : c ≡ get_or w 2 256) where
          pub three_bytes : (starts3 a b && tail c) ≡ true → Some 3 ≡ some_width w
          unfolding some_width width_of
          three_bytes u = rw (← e, ← f, ← g, lt-leb a 0x7f h, t, u)

          module _ (u : (starts3 a b && tail c) ≡ false) where
            pub no_fourth : length w ≤ 3 → None ≡ some_width w
            unfolding some_width width_of
            no_fourth o =
                rw (← e, ← f, ← g, get_or-eq_default w 256 {n = 3} o, lt-leb a 0x7f h, t, u, fourth_fails (starts4 a b) c)

            module _ (d : ℕ) (i : d ≡ get_or w 3 256) where
              pub four_bytes : (starts4 a b && tail c && tail d) ≡ true → Some 4 ≡ some_width w
              unfolding some_width width_of
              four_bytes v = rw (← e, ← f, ← g, ← i, lt-leb a 0x7f h, t, u, v)

              pub no_bytes : (starts4 a b && tail c && tail d) ≡ false → None ≡ some_width w
              unfolding some_width width_of
              no_bytes v = rw (← e, ← f, ← g, ← i, lt-leb a 0x7f h, t, u, v)
