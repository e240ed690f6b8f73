-- The width is that of the RFC's table.
-- Assumes nothing.
use Prim.Native.Nat.{ℕ, ◌≤◌, ◌<◌}
use native.Mathlib.Omega.{arith}
use mathlib.Core.Path.{◌≡◌, refl, sym, ◌∙◌}
use mathlib.Core.Bool.{true, ◌||◌, ◌&&◌}
use mathlib.Core.List.{List}
use borrow.Author.Tests.{leb-true, le-leb, lt-leb, ne_eqb}
use lib.Dec.{eqb, leb}
use lib.ListN.{length, drop}
use Rattle.laws.proofs.Tests.{by_test, and-true, or_elim}
use Rattle.utf8.specs.Rfc3629.{In, Tail, Char}
use Rattle.utf8.specs.Rfc3629.Char.{utf8_1, utf8_2, utf8_3_e0, utf8_3_e1, utf8_3_ed, utf8_3_ee}
use Rattle.utf8.specs.Rfc3629.Char.{utf8_4_f0, utf8_4_f1, utf8_4_f4}
use Rattle.utf8.specs.Utf8.{byte_at, within, tail, starts2, starts3, starts4, width_of, width_at}
use Rattle.utf8.proofs.Tests.{in_yes, in_above, in_true, row, row_at, next, two, three, four}

-- w starts with a character of n bytes, and then r
pub record Wide (w r : List ℕ) (n : ℕ) : Type 0 where
  pub width : width_at w ≡ n
  pub some : 0 < n
  pub rest : r ≡ drop n w
  pub room : n ≤ length w

wide_by : {w r : List ℕ} (n : ℕ) → width_at w ≡ n → 0 < n → r ≡ drop n w → n ≤ length w → (n : ℕ) × Wide w r n
wide_by n e p q l = (n, record { width = e; some = p; rest = q; room = l })

-- each row of the table has its width
pub wide : {w r : List ℕ} → Char w r → (n : ℕ) × Wide w r n
unfolding width_of within
wide (utf8_1 {a} h) = wide_by 1 (rw (le-leb a 0x7f h.1)) (omega arith) refl (omega arith)
wide (utf8_2 {a} {b} h k) =
    wide_by 2 (rw (lt-leb a 0x7f (omega arith), in_yes h, in_yes k)) (omega arith) refl (omega arith)
wide (utf8_3_e0 {b} {c} h k) = wide_by 3 (rw (in_yes h, in_yes k)) (omega arith) refl (omega arith)
wide (utf8_3_e1 {a} {b} {c} h k l) =
    wide_by 3
    (rw (
      lt-leb a 0x7f (omega arith),
      in_above 0xc2 0xdf a (omega arith),
      ne_eqb a 0xe0 (λ e. omega arith),
      in_yes h,
      in_yes k,
      in_yes l,
    ))
    (omega arith) refl (omega arith)
wide (utf8_3_ed {b} {c} h k) = wide_by 3 (rw (in_yes h, in_yes k)) (omega arith) refl (omega arith)
wide (utf8_3_ee {a} {b} {c} h k l) =
    wide_by 3
    (rw (
      lt-leb a 0x7f (omega arith),
      in_above 0xc2 0xdf a (omega arith),
      ne_eqb a 0xe0 (λ e. omega arith),
      in_above 0xe1 0xec a (omega arith),
      ne_eqb a 0xed (λ e. omega arith),
      in_yes h,
      in_yes k,
      in_yes l,
    ))
    (omega arith) refl (omega arith)
wide (utf8_4_f0 {b} {c} {d} h k l) = wide_by 4 (rw (in_yes h, in_yes k, in_yes l)) (omega arith) refl (omega arith)
wide (utf8_4_f1 {a} {b} {c} {d} h k l m) =
    wide_by 4
    (rw (
      lt-leb a 0x7f (omega arith),
      in_above 0xc2 0xdf a (omega arith),
      ne_eqb a 0xe0 (λ e. omega arith),
      in_above 0xe1 0xec a (omega arith),
      ne_eqb a 0xed (λ e. omega arith),
      in_above 0xee 0xef a (omega arith),
      ne_eqb a 0xf0 (λ e. omega arith),
      in_yes h,
      in_yes k,
      in_yes l,
      in_yes m,
    ))
    (omega arith) refl (omega arith)
wide (utf8_4_f4 {b} {c} {d} h k l) = wide_by 4 (rw (in_yes h, in_yes k, in_yes l)) (omega arith) refl (omega arith)

-- a width is that of a character, or there is none
pub data Said (w : List ℕ) : ℕ → Type 0 where
  said_char : {n : ℕ} → 0 < n → n ≤ length w → Char w (drop n w) → Said w n
  said_none : ((r : List ℕ) → Char w r → ⊥) → Said w 0

char_said : {w : List ℕ} (n : ℕ) → Char w (drop n w) → width_at w ≡ n → Said w n
char_said {w} n c e =
    let h = wide c in
    let k : h.0 ≡ n = sym h.1.width ∙ e in
    said_char {n = n} (omega (arith, h.1.some)) (omega (arith, h.1.room)) c

none_said : {w : List ℕ} → width_at w ≡ 0 → Said w 0
none_said e =
    said_none (λ r c. let h = wide c in let k : h.0 ≡ 0 = sym h.1.width ∙ e in omega (arith, h.1.some))

-- the first two bytes of three are those of a row of the table, ..
rows3 : {P : Type 0} (a b : ℕ) → starts3 a b ≡ true → (a ≡ 0xe0 → In 0xa0 0xbf b → P) → (In 0xe1 0xec a → Tail b → P)
    → (a ≡ 0xed → In 0x80 0x9f b → P) → (In 0xee 0xef a → Tail b → P) → P
rows3 a b e p q r s =
    let x = eqb a 0xe0 && within 0xa0 0xbf b in
    let y = within 0xe1 0xec a && tail b in
    let z = eqb a 0xed && within 0x80 0x9f b in
    or_elim (x || y || z) _ e
    (λ e. or_elim (x || y) _ e
    (λ e. or_elim x _ e
    (λ e. let h = row_at 0xe0 0xa0 0xbf a b e in p h.0 h.1)
    (λ e. let h = row 0xe1 0xec a b e in q h.0 h.1))
    (λ e. let h = row_at 0xed 0x80 0x9f a b e in r h.0 h.1))
    (λ e. let h = row 0xee 0xef a b e in s h.0 h.1)

-- .. and of four
rows4 : {P : Type 0} (a b : ℕ) → starts4 a b ≡ true → (a ≡ 0xf0 → In 0x90 0xbf b → P) → (In 0xf1 0xf3 a → Tail b → P)
    → (a ≡ 0xf4 → In 0x80 0x8f b → P) → P
rows4 a b e p q r =
    let x = eqb a 0xf0 && within 0x90 0xbf b in
    let y = within 0xf1 0xf3 a && tail b in
    or_elim (x || y) _ e
    (λ e. or_elim x _ e
    (λ e. let h = row_at 0xf0 0x90 0xbf a b e in p h.0 h.1)
    (λ e. let h = row 0xf1 0xf3 a b e in q h.0 h.1))
    (λ e. let h = row_at 0xf4 0x80 0x8f a b e in r h.0 h.1)

-- the characters of one byte, ..
char_1 : (w : List ℕ) → byte_at w 0 ≤ 0x7f → Char w (drop 1 w)
char_1 w h = rw (next w 0 (omega arith)) (utf8_1 {a = byte_at w 0} (omega arith))

-- .. of two, ..
char_2 : (w : List ℕ) → starts2 (byte_at w 0) (byte_at w 1) ≡ true → Char w (drop 2 w)
char_2 w e =
    let h = row 0xc2 0xdf (byte_at w 0) (byte_at w 1) e in
    rw (two w (omega arith) (omega arith)) (utf8_2 h.0 h.1)

-- .. of three, ..
char_3 : (w : List ℕ) → starts3 (byte_at w 0) (byte_at w 1) ≡ true → Tail (byte_at w 2) → Char w (drop 3 w)
char_3 w e t =
    rows3 (byte_at w 0) (byte_at w 1) e
    (λ h k. rw (three w (omega arith) (omega arith) (omega arith), h) (utf8_3_e0 k t))
    (λ h k. rw (three w (omega arith) (omega arith) (omega arith)) (utf8_3_e1 h k t))
    (λ h k. rw (three w (omega arith) (omega arith) (omega arith), h) (utf8_3_ed k t))
    (λ h k. rw (three w (omega arith) (omega arith) (omega arith)) (utf8_3_ee h k t))

-- .. and of four
char_4 : (w : List ℕ) → starts4 (byte_at w 0) (byte_at w 1) ≡ true → Tail (byte_at w 2) → Tail (byte_at w 3)
    → Char w (drop 4 w)
char_4 w e t u =
    rows4 (byte_at w 0) (byte_at w 1) e
    (λ h k. rw (four w (omega arith) (omega arith) (omega arith) (omega arith), h) (utf8_4_f0 k t u))
    (λ h k. rw (four w (omega arith) (omega arith) (omega arith) (omega arith)) (utf8_4_f1 h k t u))
    (λ h k. rw (four w (omega arith) (omega arith) (omega arith) (omega arith), h) (utf8_4_f4 k t u))

-- the width says what stands in front
pub said : (w : List ℕ) → Said w (width_at w)
unfolding width_of
said w =
    let a = byte_at w 0 in
    let b = byte_at w 1 in
    let c = byte_at w 2 in
    let d = byte_at w 3 in
    by_test (leb a 0x7f)
    (λ e. rw e (char_said 1 (char_1 w (leb-true _ _ e)) (rw e refl)))
    (λ f. by_test (starts2 a b)
    (λ e. rw (f, e) (char_said 2 (char_2 w e) (rw (f, e) refl)))
    (λ g. by_test (starts3 a b && tail c)
    (λ e.
    let h = and-true (starts3 a b) _ e in
    rw (f, g, e) (char_said 3 (char_3 w h.0 (in_true 0x80 0xbf c h.1)) (rw (f, g, e) refl)))
    (λ i. by_test (starts4 a b && tail c && tail d)
    (λ e.
    let h = and-true (starts4 a b && tail c) _ e in
    let k = and-true (starts4 a b) _ h.0 in
    rw (f, g, i, e)
    (char_said 4 (char_4 w k.0 (in_true 0x80 0xbf c k.1) (in_true 0x80 0xbf d h.1)) (rw (f, g, i, e) refl)))
    (λ e. rw (f, g, i, e) (none_said (rw (f, g, i, e) refl))))))
