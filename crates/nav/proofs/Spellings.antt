-- Strings at places: a plain word, and a version of rule 14.
-- Assumes nothing.
use Prim.Native.Nat.{ℕ, ◌≤◌}
use native.Mathlib.Omega.{arith}
use mathlib.Core.Path.{◌≡◌, refl, sym, ap, ◌∙◌}
use mathlib.Core.Bool.{Bool, true, false, ◌&&◌, true≢false}
use mathlib.Core.List.{List, [], ◌∷◌}
use lib.Dec.{eqb, leb}
use borrow.Author.Tests.{eqb-true, eq-eqb, le-leb}
use Rattle.laws.proofs.Tests.{by_test, and-true}
use Rattle.json_text.specs.Tree.{Json, depth}
use Rattle.json_text.specs.Grammar.{Lit, Plain, Digit, Digits, Some, Chars, Name, Value}
use Rattle.json_text.specs.Grammar.Lit.{lit_none, lit_more}
use Rattle.json_text.specs.Grammar.Digits.{digits_none, digits_more}
use Rattle.json_text.specs.Grammar.Some.{some}
use Rattle.json_text.specs.Grammar.Chars.{chars_close, chars_plain, chars_escape}
use Rattle.json_text.specs.Grammar.Name.{name}
use Rattle.json_text.specs.Grammar.Scalar.{sc_null, sc_true, sc_false, sc_number, sc_string}
use Rattle.json_text.specs.Grammar.Value.{val_scalar, val_array0, val_array, val_object0, val_object}
use Rattle.json_text.specs.Faults.{Fault, Not, Is, SomeTo, NoLit, NoSome}
use Rattle.json_text.specs.Faults.Not.{not_end, not_head}
use Rattle.json_text.specs.Faults.Stop.{stop_string}
use Rattle.json_text.specs.Faults.SomeTo.{to_some}
use Rattle.json_text.specs.Faults.NoSome.{some_bad}
use Rattle.json_text.specs.Scans.{Tells}
use Rattle.json_text.specs.Scans.Tells.{tells_true, tells_false}
use Rattle.json_text.specs.Numbers.{digits_unique}
use Rattle.std.specs.Prelude as std
use Rattle.std.specs.List.{list_all}
use Rattle.std.specs.Option.{option_eq}
use Rattle.std.proofs.lemmas.Option.{none-some}
use Rattle.nav.specs.Results.{front_of}
use Rattle.nav.proofs.Scanned.{same_byte, is_byte, no_byte}
use Rattle.json_text.specs.Parse.{tree_at}
use Rattle.json_text.specs.Strings.{plain}
use Rattle.nav.specs.Places.{Stands}
use Rattle.nav.specs.Words.{same, plains, spells, is_string, is_string_at, digits, dotted, is_version, is_version_at, Quoted, Versioned}
use Rattle.nav.specs.Words.Quoted.{quoted}
use Rattle.nav.specs.Words.Versioned.{versioned}
use Rattle.json_text.proofs.Questions.{at_most, both, plain_tells}
use Rattle.json_text.proofs.Laws.{told}
use Rattle.json_text.proofs.Unique.{lit_unique, chars_unique}
use Rattle.json_text.proofs.Excluded.{no_lit, not_is}
use Rattle.nav.proofs.Standing.{stands_tree, at_tree}

-- lists of bytes that are the same
same_is : (x y : List ℕ) → same x y ≡ true → x ≡ y
same_is [] [] e = refl
same_is [] (b ∷ y) e = absurd (true≢false (sym e))
same_is (a ∷ x) [] e = absurd (true≢false (sym e))
same_is (a ∷ x) (b ∷ y) e =
    let u = and-true (eqb a b) (same x y) e in
    let h = eqb-true a b u.0 in
    let t = same_is x y u.1 in
    cc

-- a list is the same as itself
same_refl : (x : List ℕ) → same x x ≡ true
same_refl [] = refl
same_refl (a ∷ x) = rw (eq-eqb a a refl, same_refl x)

-- a word is plain where each of its bytes is
pub plains_all : (word : List ℕ) → plains word ≡ list_all plain word
unfolding plains
plains_all [] = refl
plains_all (b ∷ word) = rw (plains_all word) refl

-- whether a byte is a digit
digit_tells : (d : ℕ) → Tells (Digit d) (leb 0x30 d && leb d 0x39)
digit_tells d = both (at_most 0x30 d) (at_most d 0x39)

-- a plain word stands between quotation marks as itself
pub chars_of : {k w a : List ℕ} → plains k ≡ true → Lit k w (0x22 ∷ a) → Chars w k a
unfolding plains
chars_of e lit_none = chars_close
chars_of e (lit_more {k = b} {ks = k} h) =
    let u = and-true (plain b) (plains k) e in
    chars_plain (told (plain_tells b) u.0) (chars_of u.1 h)

-- and what stands there as a plain word is that word
pub lit_of : {k w a : List ℕ} → plains k ≡ true → Chars w k a → Lit k w (0x22 ∷ a)
unfolding plains
lit_of e chars_close = lit_none
lit_of e (chars_plain {b = b} {cs = k} p h) = let u = and-true (plain b) (plains k) e in lit_more (lit_of u.1 h)
lit_of e (chars_escape x h) = absurd (true≢false (sym e))

-- a name that is the plain word k
pub quoted_name : {k w l v : List ℕ} → Name w l v → Quoted k w → spells k l ≡ true
unfolding spells
quoted_name {k = k} (name h x y) (quoted p q) = rw ((chars_unique h (chars_of p q)).0, p, same_refl k)

-- and the word is the name
pub name_quoted : {k w l v : List ℕ} → Name w l v → spells k l ≡ true → Quoted k w
unfolding spells
name_quoted {k = k} {l = l} (name h x y) e =
    let u = and-true (plains k) (same l k) e in
    quoted u.0 (lit_of u.0 (rw (same_is l k u.1) at h))

-- a string that no mark closes behind the word
pub unquoted : {k w r : List ℕ} → Lit k w r → Not (Is 0x22) r → Quoted k (0x22 ∷ w) → ⊥
unquoted h n (quoted p x) = not_is n (lit_unique h x)

-- it is spelled otherwise
pub misspelled : {k w r : List ℕ} {f : Fault} → NoLit k w f r → Quoted k (0x22 ∷ w) → ⊥
misspelled h (quoted p x) = no_lit h x

-- it is no string
pub unmarked : {k w : List ℕ} → Not (Is 0x22) w → Quoted k w → ⊥
unmarked n (quoted p x) = not_is n refl

-- whether the word that is spelled there is plain
pub quoted_tells : {k w a : List ℕ} {t : Bool} → Lit k w (0x22 ∷ a) → t ≡ plains k → Tells (Quoted k (0x22 ∷ w)) t
quoted_tells {k = k} h e =
    rw e (by_test (plains k) (λ p. rw p (tells_true (quoted p h))) (λ n. rw n (tells_false (λ q. impossible n q))))
  where
    impossible : {k w : List ℕ} → plains k ≡ false → Quoted k w → ⊥
    impossible n (quoted p x) = true≢false (sym p ∙ n)

-- a string stands with its spelling
string_stands : {w cs a : List ℕ} → Chars w cs a → Stands (0x22 ∷ w) (Json.string cs)
unfolding depth
string_stands {a = a} h = record {
  rest = a;
  reads = val_scalar
      (sc_string h);
  stop = stop_string;
  shallow = omega arith;
}

-- a value that is not the string k
string_not : (k : List ℕ) {w a : List ℕ} {j : Json} → Value w j a → (Quoted k w → ⊥) → is_string k j ≡ false
unfolding is_string spells
string_not k (val_scalar (sc_null h)) f = refl
string_not k (val_scalar (sc_true h)) f = refl
string_not k (val_scalar (sc_false h)) f = refl
string_not k (val_scalar (sc_number h)) f = refl
string_not k (val_scalar (sc_string {cs = cs} h)) f =
    by_test (plains k && same cs k)
    (λ e. let u = and-true (plains k) (same cs k) e in
    absurd (f (quoted u.0 (lit_of u.0 (rw (same_is cs k u.1) at h)))))
    (λ e. e)
string_not k (val_array0 x) f = refl
string_not k (val_array x h) f = refl
string_not k (val_object0 x) f = refl
string_not k (val_object x h) f = refl

-- `string_is` answers for the tree, on any bytes
pub string_is : {k w : List ℕ} {r : Bool} → Tells (Quoted k w) r → r ≡ is_string_at k (tree_at 32 w)
unfolding is_string spells
string_is {k = k} (tells_true (quoted p h)) = rw (stands_tree (string_stands (chars_of p h)), p, same_refl k)
string_is {k = k} {w = w} (tells_false f) =
    at_tree (λ o. false ≡ is_string_at k o) w (λ j t. sym (string_not k t.reads f)) (λ n. refl)

-- a digit stands for itself in a string
digit_plain : {d : ℕ} → Digit d → Plain d
digit_plain g = (omega arith, omega arith, λ e. omega arith, λ e. omega arith)

-- so digits stand for themselves
digit_chars : {w ds a : List ℕ} → Digits w ds (0x22 ∷ a) → Chars w ds a
digit_chars digits_none = chars_close
digit_chars (digits_more d h) = chars_plain (digit_plain d) (digit_chars h)

-- and are digits alone
all_digits : {w ds a : List ℕ} → Digits w ds a → digits ds ≡ true
all_digits digits_none = refl
all_digits (digits_more {d = d} g h) = rw (le-leb 0x30 d g.0, le-leb d 0x39 g.1, all_digits h)

-- a string of digits alone
digits_of_lem : {w ds a : List ℕ} → digits ds ≡ true → Chars w ds a → Digits w ds (0x22 ∷ a)
digits_of_lem e chars_close = digits_none
digits_of_lem e (chars_plain {b = d} {cs = ds} p h) =
    let u = and-true (leb 0x30 d && leb d 0x39) (digits ds) e in
    digits_more (told (digit_tells d) u.0) (digits_of_lem u.1 h)
digits_of_lem e (chars_escape x h) = absurd (true≢false (sym e))

-- `2.` and digits, taken apart
dotted_is : (cs : List ℕ) → dotted cs ≡ true →
    (d : ℕ) × (ds : List ℕ) × (cs ≡ 0x32 ∷ 0x2e ∷ d ∷ ds) × (digits (d ∷ ds) ≡ true)
unfolding dotted
dotted_is [] e = absurd (true≢false (sym e))
dotted_is (a ∷ []) e = absurd (true≢false (sym e))
dotted_is (a ∷ b ∷ []) e = absurd (true≢false (sym e))
dotted_is (a ∷ b ∷ d ∷ ds) e =
    let u = and-true (eqb a 0x32 && eqb b 0x2e) (digits (d ∷ ds)) e in
    let v = and-true (eqb a 0x32) (eqb b 0x2e) u.0 in
    let x = eqb-true a 0x32 v.0 in
    let y = eqb-true b 0x2e v.1 in
    (d, ds, rw (x, y) refl, u.1)

-- a string of that form
versioned_of : {w cs a : List ℕ} → dotted cs ≡ true → Chars w cs a → Versioned (0x22 ∷ w)
versioned_of {cs = cs} e h = let k = dotted_is cs e in by k.3 (rw k.2 at h)
  where
    by : {w ds a : List ℕ} {d : ℕ} → digits (d ∷ ds) ≡ true → Chars w (0x32 ∷ 0x2e ∷ d ∷ ds) a → Versioned (0x22 ∷ w)
    by e (chars_plain p (chars_plain q h)) = some_of (digits_of_lem e h)
      where
        some_of : {w ds a : List ℕ} {d : ℕ} → Digits w (d ∷ ds) (0x22 ∷ a) → Versioned (0x22 ∷ 0x32 ∷ 0x2e ∷ w)
        some_of (digits_more d h) = versioned (some d h)

-- a value that is no such string
version_not : {w a : List ℕ} {j : Json} → Value w j a → (Versioned w → ⊥) → is_version j ≡ false
unfolding is_version
version_not (val_scalar (sc_null h)) f = refl
version_not (val_scalar (sc_true h)) f = refl
version_not (val_scalar (sc_false h)) f = refl
version_not (val_scalar (sc_number h)) f = refl
version_not (val_scalar (sc_string {cs = cs} h)) f =
    by_test (dotted cs) (λ e. absurd (f (versioned_of e h))) (λ e. e)
version_not (val_array0 x) f = refl
version_not (val_array x h) f = refl
version_not (val_object0 x) f = refl
version_not (val_object x h) f = refl

-- `is_version` answers for the tree, on any bytes
pub version_is : {w : List ℕ} {r : Bool} → Tells (Versioned w) r → r ≡ is_version_at (tree_at 32 w)
unfolding is_version dotted
version_is (tells_true (versioned (some g h))) =
    let t = string_stands (chars_plain {b = 0x32} (two 0x32 (omega arith) (omega arith))
    (chars_plain {b = 0x2e} (two 0x2e (omega arith) (omega arith)) (digit_chars (digits_more g h)))) in
    rw (stands_tree t, all_digits (digits_more g h))
  where
    two : (b : ℕ) → 0x2d ≤ b → b ≤ 0x39 → Plain b
    two b l m = (omega arith, omega arith, λ e. omega arith, λ e. omega arith)
version_is {w = w} (tells_false f) =
    at_tree (λ o. false ≡ is_version_at o) w (λ j t. sym (version_not t.reads f)) (λ n. refl)

-- what a version starts with
abbrev pub Start : List ℕ
Start = 0x22 ∷ 0x32 ∷ 0x2e ∷ []

-- a version, taken apart
version_start : {w : List ℕ} → Versioned w → (a ds b : List ℕ) × Lit Start w a × Some a ds (0x22 ∷ b)
version_start (versioned {w = w} {ds = ds} {a = a} h) = (w, ds, a, lit_more (lit_more (lit_more lit_none)), h)

-- where it breaks off
pub version_start_no : {w r : List ℕ} {f : Fault} → NoLit Start w f r → Tells (Versioned w) false
version_start_no k = tells_false (λ v. no_lit k (version_start v).3)

-- no digit follows
pub version_digits_no : {w a r : List ℕ} {f : Fault} → Lit Start w a → NoSome a f r → Tells (Versioned w) false
version_digits_no h k = tells_false (λ v. let x = version_start v in none k (rw (← lit_unique h x.3) at x.4))
  where
    none : {w ds r a : List ℕ} {f : Fault} → NoSome w f r → Some w ds a → ⊥
    none (some_bad not_end) h = elim h [ ]
    none (some_bad (not_head g)) (some d h) = g d

-- the closing mark is there
version_closed : {w a ds : List ℕ} (v : List ℕ) → Lit Start w a → SomeTo a ds v → front_of v ≡ std.Some 0x22 → Versioned w
version_closed [] h k e = absurd (none-some 0x22 e)
version_closed (b ∷ v) (lit_more (lit_more (lit_more lit_none))) (to_some d k n) e =
    versioned (some d (rw (same_byte e) at k))

-- and only then
version_close : {w a ds v : List ℕ} → Lit Start w a → SomeTo a ds v → Versioned w → front_of v ≡ std.Some 0x22
version_close h k y = let x = version_start y in by k (rw (← lit_unique h x.3) at x.4)
  where
    by : {a ds es v b : List ℕ} → SomeTo a ds v → Some a es (0x22 ∷ b) → front_of v ≡ std.Some 0x22
    by (to_some d h n) (some g k) = ap front_of (digits_unique h n k (not_head (λ d. omega arith))).1

-- the closing mark decides
pub version_mark : {w a ds v : List ℕ} {b : std.Option ℕ} → Lit Start w a → SomeTo a ds v → b ≡ front_of v →
    Tells (Versioned w) (option_eq eqb b (std.Some 0x22))
version_mark {v = v} {b = b} h k e =
    by_test (option_eq eqb b (std.Some 0x22))
    (λ t. rw t (tells_true (version_closed v h k (sym e ∙ is_byte b 0x22 t))))
    (λ t. rw t (tells_false (λ y. no_byte b 0x22 t (e ∙ version_close h k y))))
