-- A parser that computes, with its reasons.
-- Assumes nothing.
use Rattle.std.specs.Prelude.{◌+◌, ◌*◌, ℕ, zero, suc, ◌≤◌, ◌≡◌, refl, List, [], ◌∷◌, ◌++◌, length}
use Rattle.std.proofs.Common.{arith}
use Rattle.json_text.specs.Tree.{Json, Values, Fields, depth, depths, depths_of}
use Rattle.json_text.specs.Grammar.{IsWs, Ws, Lit, Digit, Digits, IsE, IsSign, IsEscape, Chars, Scalar, Text, HexDigit}
use Rattle.json_text.specs.Grammar.{Plain, Digit19}
use Rattle.json_text.specs.Grammar.IsWs.{space, tab, line, return}
use Rattle.json_text.specs.Grammar.Ws.{ws_none, ws_more}
use Rattle.json_text.specs.Grammar.Lit.{lit_none, lit_more}
use Rattle.json_text.specs.Grammar.Digits.{digits_none, digits_more}
use Rattle.json_text.specs.Grammar.IsEscape.{quote, backslash, slash, backspace, feed, newline, carriage, tabulator}
use Rattle.json_text.specs.Grammar.Hex.{hex_none, hex_more}
use Rattle.json_text.specs.Grammar.Escape.{esc_byte, esc_hex}
use Rattle.json_text.specs.Grammar.Chars.{chars_close, chars_plain, chars_escape}
use Rattle.json_text.specs.Grammar.Scalar.{sc_null, sc_true, sc_false, sc_number, sc_string}
use Rattle.json_text.specs.Grammar.Name.{name}
use Rattle.json_text.specs.Grammar.Value.{val_scalar, val_array0, val_array, val_object0, val_object}
use Rattle.json_text.specs.Grammar.Elements.{elem_last, elem_more}
use Rattle.json_text.specs.Grammar.Member.{member}
use Rattle.json_text.specs.Grammar.Members.{mem_last, mem_more}
use Rattle.json_text.specs.Grammar.Text.{text}
use Rattle.json_text.specs.Faults.{Fault, Not, Is, Starts, Follows, Escapes, InChars, NoLit, NoHex, NoEscape, NoChars}
use Rattle.json_text.specs.Faults.{NoSome, NoExp, NoTail, NoMagnitude, NoScalar, NoName, NoValue, NoElements, NoMember}
use Rattle.json_text.specs.Faults.{NoMembers, NoText}
use Rattle.json_text.specs.Faults.Fault.{broke, deep}
use Rattle.json_text.specs.Faults.Not.{not_end, not_head}
use Rattle.json_text.specs.Faults.Stop.{stop_null, stop_true, stop_false, stop_string, stop_array, stop_object}
use Rattle.json_text.specs.Faults.Is.{is}
use Rattle.json_text.specs.Faults.Starts.{starts_null, starts_true, starts_false, starts_minus, starts_string}
use Rattle.json_text.specs.Faults.Starts.{starts_number}
use Rattle.json_text.specs.Faults.Follows.{follows_ws, follows_comma, follows_close}
use Rattle.json_text.specs.Faults.Escapes.{escapes_byte, escapes_hex}
use Rattle.json_text.specs.Faults.InChars.{in_close, in_escape, in_plain}
use Rattle.json_text.specs.Faults.NoLit.{lit_bad, lit_on}
use Rattle.json_text.specs.Faults.NoHex.{hex_bad, hex_on}
use Rattle.json_text.specs.Faults.NoEscape.{esc_bad, esc_in_hex}
use Rattle.json_text.specs.Faults.NoChars.{chars_bad, chars_on, chars_in_escape, chars_after_escape}
use Rattle.json_text.specs.Faults.NoScalar.{sc_bad, sc_in_null, sc_in_true, sc_in_false, sc_in_number, sc_in_minus}
use Rattle.json_text.specs.Faults.NoScalar.{sc_in_string}
use Rattle.json_text.specs.Faults.NumberTo.{to_plain, to_minus}
use Rattle.json_text.specs.Faults.NoSome.{some_bad}
use Rattle.json_text.specs.Faults.NoExp.{exp_in, exp_in_signed}
use Rattle.json_text.specs.Faults.NoTail.{tail_in_frac, tail_in_exp}
use Rattle.json_text.specs.Faults.NoMagnitude.{mag_bad, mag_in_tail}
use Rattle.json_text.specs.Faults.NoName.{name_bad, name_in, name_after}
use Rattle.json_text.specs.Faults.NoValue.{val_in_scalar, val_deep_array, val_deep_object, val_in_array, val_in_object}
use Rattle.json_text.specs.Faults.NoElements.{elem_in, elem_after, elem_on}
use Rattle.json_text.specs.Faults.NoMember.{member_in_name, member_in_value}
use Rattle.json_text.specs.Faults.NoMembers.{mem_in, mem_after, mem_on}
use Rattle.json_text.specs.Faults.NoText.{text_in, text_after}
use Rattle.std.proofs.Math.Option.{Option, some as present, none as absent}
use Rattle.std.proofs.Math.Decide.{ℕ_discrete, dec_le}
use Rattle.json_text.specs.Grammar.IsE.{small, capital}
use Rattle.json_text.specs.Grammar.IsSign.{plus, minus}
use Rattle.json_text.specs.Grammar.HexDigit.{hex_digit, hex_upper, hex_lower}
use Rattle.json_text.specs.Faults.IntTo.{to_int_zero, to_int_more}
use Rattle.json_text.specs.Faults.SomeTo.{to_some}
use Rattle.json_text.specs.Faults.FracTo.{to_frac_none, to_frac_some}
use Rattle.json_text.specs.Faults.ExpTo.{to_exp_none, to_exp_plain, to_exp_signed}
use Rattle.json_text.specs.Faults.TailTo.{to_tail}
use Rattle.json_text.specs.Faults.MagnitudeTo.{to_magnitude}
use Rattle.json_text.specs.Lengths.{ws_shorter, escape_shorter, name_shorter, value_shorter, member_shorter}
use Rattle.json_text.specs.Numbers.{number_plain, stops}
use Rattle.json_text.specs.Scans.{HexOk, EscapeOk, CharsOk, SomeOk, ExpOk, TailOk, MagnitudeOk, ScalarOk, NameOk}
use Rattle.json_text.specs.Scans.{ValueOk, ElementsOk, MemberOk, MembersOk}

-- what reading at the front of a list finds, with the reason
pub data Got (Ok : List ℕ → Type 0) (No : Fault → List ℕ → Type 0) : Type 0 where
  got : (r : List ℕ) → Ok r → Got Ok No
  lost : (f : Fault) (r : List ℕ) → No f r → Got Ok No

module _ {Ok Ok' : List ℕ → Type 0} {No No' : Fault → List ℕ → Type 0} where
  -- the same finding, with other reasons
  abbrev pub got_as : ((r : List ℕ) → Ok r → Ok' r) → ((f : Fault) (r : List ℕ) → No f r → No' f r) → Got Ok No →
      Got Ok' No'
  got_as g h (got r k) = got r (g r k)
  got_as g h (lost f r k) = lost f r (h f r k)

  -- what follows a finding
  abbrev pub got_then : Got Ok No → ((r : List ℕ) → Ok r → Got Ok' No') →
      ((f : Fault) (r : List ℕ) → No f r → No' f r) → Got Ok' No'
  got_then (got r k) g h = g r k
  got_then (lost f r k) g h = lost f r (h f r k)

-- byte classes
pick : {P : Type 0} (b k : ℕ) → (b ≡ k → P) → ((b ≡ k → ⊥) → Dec P) → Dec P
unfolding ℕ_discrete
pick b k y n = elim (ℕ_discrete b k) [ yes e ↦ yes (y e) | no f ↦ n f ]

-- none of the four
pub no_ws : (b : ℕ) → (b ≡ 0x20 → ⊥) → (b ≡ 0x09 → ⊥) → (b ≡ 0x0a → ⊥) → (b ≡ 0x0d → ⊥) → IsWs b → ⊥
no_ws _ f g h k space = f refl
no_ws _ f g h k tab = g refl
no_ws _ f g h k line = h refl
no_ws _ f g h k return = k refl

-- whether a byte is white space
ws? : (b : ℕ) → Dec (IsWs b)
unfolding pick
ws? b =
    pick b 0x20 (λ e. rw e space)
    (λ f. pick b 0x09 (λ e. rw e tab)
    (λ g. pick b 0x0a (λ e. rw e line) (λ h. pick b 0x0d (λ e. rw e return) (λ k. no (no_ws b f g h k)))))

-- by a range
within : {P : Type 0} (l b u : ℕ) → (l ≤ b → b ≤ u → P) → ((l ≤ b → b ≤ u → ⊥) → Dec P) → Dec P
unfolding dec_le
within l b u y n =
    elim (dec_le l b) [
      | yes d ↦ elim (dec_le b u) [ yes e ↦ yes (y d e) | no f ↦ n (λ d e. f e) ]
      | no f ↦ n (λ d e. f d)
    ]

-- whether a byte is a digit
digit? : (b : ℕ) → Dec (Digit b)
unfolding within
digit? b = within 0x30 b 0x39 (λ l u. (l, u)) (λ f. no (λ d. f d.0 d.1))

-- in none of the three ranges
pub no_hex : (b : ℕ) → (0x30 ≤ b → b ≤ 0x39 → ⊥) → (0x41 ≤ b → b ≤ 0x46 → ⊥) → (0x61 ≤ b → b ≤ 0x66 → ⊥) → HexDigit b →
    ⊥
no_hex b f g h (hex_digit l u) = f l u
no_hex b f g h (hex_upper l u) = g l u
no_hex b f g h (hex_lower l u) = h l u

-- whether a byte is a hexadecimal digit
hex? : (b : ℕ) → Dec (HexDigit b)
unfolding within
hex? b =
    within 0x30 b 0x39 (λ l u. hex_digit l u)
    (λ f. within 0x41 b 0x46 (λ l u. hex_upper l u)
    (λ g. within 0x61 b 0x66 (λ l u. hex_lower l u) (λ h. no (no_hex b f g h))))

-- a byte that is neither a mark nor a backslash
plain? : (b : ℕ) → (b ≡ 0x22 → ⊥) → (b ≡ 0x5c → ⊥) → Dec (Plain b)
unfolding within
plain? b f g = within 0x20 b 0xff (λ l u. (l, u, f, g)) (λ h. no (λ p. h p.0 p.1))

-- neither of the two letters
pub no_e : (b : ℕ) → (b ≡ 0x65 → ⊥) → (b ≡ 0x45 → ⊥) → IsE b → ⊥
no_e _ f g small = f refl
no_e _ f g capital = g refl

-- whether a byte is the letter of an exponent
e? : (b : ℕ) → Dec (IsE b)
unfolding pick
e? b = pick b 0x65 (λ e. rw e small) (λ f. pick b 0x45 (λ e. rw e capital) (λ g. no (no_e b f g)))

-- neither of the two signs
pub no_sign : (b : ℕ) → (b ≡ 0x2b → ⊥) → (b ≡ 0x2d → ⊥) → IsSign b → ⊥
no_sign _ f g plus = f refl
no_sign _ f g minus = g refl

-- whether a byte is a sign
sign? : (b : ℕ) → Dec (IsSign b)
unfolding pick
sign? b = pick b 0x2b (λ e. rw e plus) (λ f. pick b 0x2d (λ e. rw e minus) (λ g. no (no_sign b f g)))

-- none of the eight
pub no_escape : (b : ℕ) → (b ≡ 0x22 → ⊥) → (b ≡ 0x5c → ⊥) → (b ≡ 0x2f → ⊥) → (b ≡ 0x62 → ⊥) → (b ≡ 0x66 → ⊥) →
    (b ≡ 0x6e → ⊥) → (b ≡ 0x72 → ⊥) → (b ≡ 0x74 → ⊥) → IsEscape b → ⊥
no_escape _ f0 f1 f2 f3 f4 f5 f6 f7 quote = f0 refl
no_escape _ f0 f1 f2 f3 f4 f5 f6 f7 backslash = f1 refl
no_escape _ f0 f1 f2 f3 f4 f5 f6 f7 slash = f2 refl
no_escape _ f0 f1 f2 f3 f4 f5 f6 f7 backspace = f3 refl
no_escape _ f0 f1 f2 f3 f4 f5 f6 f7 feed = f4 refl
no_escape _ f0 f1 f2 f3 f4 f5 f6 f7 newline = f5 refl
no_escape _ f0 f1 f2 f3 f4 f5 f6 f7 carriage = f6 refl
no_escape _ f0 f1 f2 f3 f4 f5 f6 f7 tabulator = f7 refl

-- whether a byte is an escape with the backslash alone
escape? : (b : ℕ) → Dec (IsEscape b)
unfolding pick
escape? b =
    pick b 0x22 (λ e. rw e quote)
    (λ f0. pick b 0x5c (λ e. rw e backslash)
    (λ f1. pick b 0x2f (λ e. rw e slash)
    (λ f2. pick b 0x62 (λ e. rw e backspace)
    (λ f3. pick b 0x66 (λ e. rw e feed)
    (λ f4. pick b 0x6e (λ e. rw e newline)
    (λ f5. pick b 0x72 (λ e. rw e carriage)
    (λ f6. pick b 0x74 (λ e. rw e tabulator)
    (λ f7. no (no_escape b f0 f1 f2 f3 f4 f5 f6 f7)))))))))

-- a byte that is not k
pub not_this : (k b : ℕ) {w : List ℕ} → (b ≡ k → ⊥) → Not (Is k) (b ∷ w)
not_this k b f = not_head (λ i. f (same i))
  where
    same : {b : ℕ} → Is k b → b ≡ k
    same is = refl

-- leaves
pub ws_run : (w : List ℕ) → (r : List ℕ) × Ws w r × Not IsWs r
unfolding ws?
ws_run [] = ([], ws_none, not_end)
ws_run (b ∷ w) =
    elim (ws? b) [ yes y ↦ (let k = ws_run w in (k.0, ws_more y k.1, k.2)) | no n ↦ (b ∷ w, ws_none, not_head n) ]

-- what follows the white space that w starts with
unfoldable pub past_ws : List ℕ → List ℕ
unfolding ws_run
past_ws w = (ws_run w).0

-- reads a run of digits
digits_run : (w : List ℕ) → (ds : List ℕ) × (r : List ℕ) × Digits w ds r × Not Digit r
unfolding digit?
digits_run [] = ([], [], digits_none, not_end)
digits_run (b ∷ w) =
    elim (digit? b) [
      | yes y ↦ (let k = digits_run w in (b ∷ k.0, k.1, digits_more y k.2, k.3))
      | no n ↦ ([], b ∷ w, digits_none, not_head n)
    ]

-- reads a literal word
pub lit_run : (ks w : List ℕ) → Got (Lit ks w) (NoLit ks w)
unfolding ℕ_discrete
lit_run [] w = got w lit_none
lit_run (k ∷ ks) [] = lost broke [] (lit_bad not_end)
lit_run (k ∷ ks) (b ∷ w) =
    elim (ℕ_discrete b k) [
      | yes e ↦ got_as (λ r m. rw e (lit_more m)) (λ f r m. rw e (lit_on m)) (lit_run ks w)
      | no n ↦ lost broke (b ∷ w) (lit_bad (not_this k b n))
    ]

-- reads a run of hexadecimal digits
hex_run : (n : ℕ) (w : List ℕ) → Got (HexOk n w) (NoHex n w)
unfolding hex?
hex_run zero w = got w ([], hex_none)
hex_run (suc n) [] = lost broke [] (hex_bad not_end)
hex_run (suc n) (b ∷ w) =
    elim (hex? b) [
      | yes y ↦ got_as (λ r m. (b ∷ m.0, hex_more y m.1)) (λ f r m. hex_on y m) (hex_run n w)
      | no f ↦ lost broke (b ∷ w) (hex_bad (not_head f))
    ]

-- no byte that may follow a backslash
pub no_escapes : (b : ℕ) → (IsEscape b → ⊥) → (b ≡ 0x75 → ⊥) → Escapes b → ⊥
no_escapes _ f g (escapes_byte e) = f e
no_escapes _ f g escapes_hex = g refl

-- reads an escape
escape_run : (w : List ℕ) → Got (EscapeOk w) (NoEscape w)
unfolding escape? ℕ_discrete hex_run
escape_run [] = lost broke [] (esc_bad not_end)
escape_run (b ∷ w) = elim (escape? b) [
  | yes y ↦ got w (b ∷ [], esc_byte y)
  | no n ↦
      elim (ℕ_discrete b 0x75) [
        | yes e ↦ got_as (λ r m. (0x75 ∷ m.0, rw e (esc_hex m.1))) (λ f r m. rw e (esc_in_hex m)) (hex_run 4 w)
        | no g ↦
            lost broke (b ∷ w) (esc_bad (not_head (no_escapes b n g)))
      ]
]

-- no byte that may stand in a string
pub no_chars : (b : ℕ) → (b ≡ 0x22 → ⊥) → (b ≡ 0x5c → ⊥) → (Plain b → ⊥) → InChars b → ⊥
no_chars _ f g h in_close = f refl
no_chars _ f g h in_escape = g refl
no_chars _ f g h (in_plain p) = h p

-- reads the rest of a string
chars_run : (n : ℕ) (w : List ℕ) → length w ≤ n → Got (CharsOk w) (NoChars w)
unfolding ℕ_discrete plain? escape_run
chars_run zero [] l = lost broke [] (chars_bad not_end)
chars_run zero (b ∷ w) l = absurd (omega arith)
chars_run (suc n) [] l = lost broke [] (chars_bad not_end)
chars_run (suc n) (b ∷ w) l = elim (ℕ_discrete b 0x22) [
  | yes e ↦ got w ([], rw e chars_close)
  | no f ↦
      elim (ℕ_discrete b 0x5c) [
        | yes e ↦
            got_then (escape_run w)
            (λ v k. got_as (λ r m. (0x5c ∷ (k.0 ++ m.0), rw e (chars_escape k.1 m.1)))
            (λ i r m. rw e (chars_after_escape k.1 m))
            (chars_run n v (omega (arith, escape_shorter k.1))))
            (λ i r m. rw e (chars_in_escape m))
        | no g ↦
            elim (plain? b f g) [
              | yes p ↦
                  got_as (λ r m. (b ∷ m.0, chars_plain p m.1)) (λ i r m. chars_on p m) (chars_run n w (omega arith))
              | no h ↦
                  lost broke (b ∷ w) (chars_bad (not_head (no_chars b f g h)))
            ]
      ]
]

-- numbers
pub some_run : (w : List ℕ) → Got (SomeOk w) (NoSome w)
unfolding digit? digits_run
some_run [] = lost broke [] (some_bad not_end)
some_run (b ∷ w) =
    elim (digit? b) [
      | yes y ↦ (let k = digits_run w in got k.1 (b ∷ k.0, to_some y k.2 k.3))
      | no n ↦ lost broke (b ∷ w) (some_bad (not_head n))
    ]

-- reads an exponent
exp_run : (w : List ℕ) → Got (ExpOk w) (NoExp w)
unfolding e? sign? some_run
exp_run [] = got [] ([], to_exp_none not_end)
exp_run (b ∷ []) =
    elim (e? b) [
      | yes e ↦ got_as (λ r m. (b ∷ m.0, to_exp_plain e m.1)) (λ f r m. exp_in e not_end m) (some_run [])
      | no n ↦ got (b ∷ []) ([], to_exp_none (not_head n))
    ]
exp_run (b ∷ c ∷ w) = elim (e? b) [
  | yes e ↦ elim (sign? c) [
    | yes s ↦ got_as (λ r m. (b ∷ c ∷ m.0, to_exp_signed e s m.1)) (λ f r m. exp_in_signed e s m) (some_run w)
    | no s ↦ got_as (λ r m. (b ∷ m.0, to_exp_plain e m.1)) (λ f r m. exp_in e (not_head s) m) (some_run (c ∷ w))
  ]
  | no n ↦ got (b ∷ c ∷ w) ([], to_exp_none (not_head n))
]

-- reads a fraction and an exponent
tail_run : (w : List ℕ) → Got (TailOk w) (NoTail w)
unfolding ℕ_discrete some_run exp_run
tail_run [] =
    got_as (λ r m. (m.0, to_tail (to_frac_none not_end) m.1)) (λ f r m. tail_in_exp (to_frac_none not_end) m)
    (exp_run [])
tail_run (b ∷ w) = elim (ℕ_discrete b 0x2e) [
  | yes e ↦
      got_then (some_run w)
      (λ v k. got_as (λ r m. (0x2e ∷ (k.0 ++ m.0), rw e (to_tail (to_frac_some k.1) m.1)))
      (λ f r m. rw e (tail_in_exp (to_frac_some k.1) m)) (exp_run v))
      (λ f r k. rw e (tail_in_frac k))
  | no n ↦
      got_as (λ r m. (m.0, to_tail (to_frac_none (not_this 0x2e b n)) m.1))
      (λ f r m. tail_in_exp (to_frac_none (not_this 0x2e b n)) m) (exp_run (b ∷ w))
]

-- a digit that is no zero
pub above : {b : ℕ} → Digit b → (b ≡ 0x30 → ⊥) → Digit19 b
above d f = omega arith

-- reads a number without its sign
mag_run : (w : List ℕ) → Got (MagnitudeOk w) (NoMagnitude w)
unfolding ℕ_discrete digit? digits_run tail_run
mag_run [] = lost broke [] (mag_bad not_end)
mag_run (b ∷ w) = elim (ℕ_discrete b 0x30) [
  | yes e ↦
      got_as (λ r m. (0x30 ∷ m.0, rw e (to_magnitude to_int_zero m.1))) (λ f r m. rw e (mag_in_tail to_int_zero m))
      (tail_run w)
  | no n ↦ elim (digit? b) [
    | yes y ↦
        (let k = digits_run w in got_as
        (λ r m. (b ∷ (k.0 ++ m.0), to_magnitude (to_int_more (above y n) k.2 k.3) m.1))
        (λ f r m. mag_in_tail (to_int_more (above y n) k.2 k.3) m) (tail_run k.1))
    | no g ↦ lost broke (b ∷ w) (mag_bad (not_head g))
  ]
]

-- no byte that a scalar starts with
pub no_starts : (b : ℕ) → (b ≡ 0x6e → ⊥) → (b ≡ 0x22 → ⊥) → (b ≡ 0x74 → ⊥) → (b ≡ 0x66 → ⊥) → (b ≡ 0x2d → ⊥) →
    (Digit b → ⊥) → Starts b → ⊥
no_starts _ f g h i j k starts_null = f refl
no_starts _ f g h i j k starts_string = g refl
no_starts _ f g h i j k starts_true = h refl
no_starts _ f g h i j k starts_false = i refl
no_starts _ f g h i j k starts_minus = j refl
no_starts _ f g h i j k (starts_number d) = k d

-- reads a scalar
scalar_run : (w : List ℕ) → Got (ScalarOk w) (NoScalar w)
unfolding ℕ_discrete digit? lit_run chars_run mag_run
scalar_run [] = lost broke [] (sc_bad not_end)
scalar_run (b ∷ w) = elim (ℕ_discrete b 0x6e) [
  | yes e ↦ got_as (λ r m. (Json.null, rw e (sc_null m), stop_null)) (λ f r m. rw e (sc_in_null m)) (lit_run _ w)
  | no f0 ↦
      elim (ℕ_discrete b 0x22) [
        | yes e ↦
            got_as (λ r m. (Json.string m.0, rw e (sc_string m.1), stop_string)) (λ f r m. rw e (sc_in_string m))
            (chars_run (length w) w (omega arith))
        | no f1 ↦
            elim (ℕ_discrete b 0x74) [
              | yes e ↦
                  got_as (λ r m. (Json.true, rw e (sc_true m), stop_true)) (λ f r m. rw e (sc_in_true m)) (lit_run _ w)
              | no f2 ↦
                  elim (ℕ_discrete b 0x66) [
                    | yes e ↦
                        got_as (λ r m. (Json.false, rw e (sc_false m), stop_false)) (λ f r m. rw e (sc_in_false m))
                        (lit_run _ w)
                    | no f3 ↦
                        elim (ℕ_discrete b 0x2d) [
                          | yes e ↦
                              got_as
                              (λ r m. (
                                Json.number (0x2d ∷ m.0),
                                rw e (sc_number (number_plain (to_minus m.1))),
                                stops (to_minus m.1),
                              ))
                              (λ f r m. rw e (sc_in_minus m)) (mag_run w)
                          | no f4 ↦
                              elim (digit? b) [
                                | yes y ↦
                                    got_as
                                    (λ r m. (
                                      Json.number m.0,
                                      sc_number (number_plain (to_plain m.1)),
                                      stops
                                          (to_plain m.1),
                                    ))
                                    (λ f r m. sc_in_number y m) (mag_run (b ∷ w))
                                | no f5 ↦
                                    lost broke (b ∷ w) (sc_bad (not_head (no_starts b f0 f1 f2 f3 f4 f5)))
                              ]
                        ]
                  ]
            ]
      ]
]

-- reads the colon behind a name
after_name : {w k a : List ℕ} (v : List ℕ) → Chars w k a → Ws a v → Not IsWs v →
    Got (NameOk (0x22 ∷ w)) (NoName (0x22 ∷ w))
unfolding ℕ_discrete ws_run
after_name [] h x n = lost broke [] (name_after h x n not_end)
after_name {k = k} (c ∷ v) h x n = elim (ℕ_discrete c 0x3a) [
  | yes e ↦ (let y = ws_run v in got y.0 (k, name h (rw e at x) y.1, y.2))
  | no f ↦ lost broke (c ∷ v) (name_after h x n (not_this 0x3a c f))
]

-- reads a name, from past its first mark
quoted : (w : List ℕ) → Got (NameOk (0x22 ∷ w)) (NoName (0x22 ∷ w))
unfolding chars_run ws_run after_name
quoted w =
    got_then (chars_run (length w) w (omega arith)) (λ a m. let x = ws_run a in after_name x.0 m.1 x.1 x.2)
    (λ f r m. name_in m)

-- reads a member's name
pub name_run : (w : List ℕ) → Got (NameOk w) (NoName w)
unfolding ℕ_discrete quoted
name_run [] = lost broke [] (name_bad not_end)
name_run (b ∷ w) = elim (ℕ_discrete b 0x22) [
  | yes e ↦ got_as (λ r m. (m.0, rw e m.1, m.2)) (λ f r m. rw e m) (quoted w)
  | no n ↦ lost broke (b ∷ w) (name_bad (not_this 0x22 b n))
]

-- a scalar has depth 0
pub flat : {w r : List ℕ} {j : Json} (n : ℕ) → Scalar w j r → depth j ≤ n
unfolding depth
flat n (sc_null h) = omega arith
flat n (sc_true h) = omega arith
flat n (sc_false h) = omega arith
flat n (sc_number h) = omega arith
flat n (sc_string h) = omega arith

-- an empty array or object has depth 1
pub no_depth : (n : ℕ) → (depth (Json.array Values.values_end) ≤ suc n) ×
    (depth (Json.object Fields.fields_end) ≤ suc n)
unfolding depth
no_depth n = omega arith

-- an array is one deeper than its elements
pub array_depth : (n : ℕ) (js : Values) → depths js ≤ n → depth (Json.array js) ≤ suc n
unfolding depth
array_depth n js h = omega arith

-- an object is one deeper than its members
pub object_depth : (n : ℕ) (ms : Fields) → depths_of ms ≤ n → depth (Json.object ms) ≤ suc n
unfolding depth
object_depth n ms h = omega arith

-- elements are as deep as the deepest
pub value_depth : (n : ℕ) (j : Json) (js : Values) → depth j ≤ n → depths js ≤ n → depths (Values.value_then j js) ≤ n
unfolding depth
value_depth n j js g h = omega arith

-- members are as deep as the deepest
pub field_depth : (n : ℕ) (k : List ℕ) (j : Json) (ms : Fields) → depth j ≤ n → depths_of ms ≤ n →
    depths_of (Fields.field_then k j ms) ≤ n
unfolding depth
field_depth n k j ms g h = omega arith

-- one element
pub last_value : (n : ℕ) (j : Json) → depth j ≤ n → depths (Values.value_then j Values.values_end) ≤ n
unfolding depth
last_value n j h = omega arith

-- one member
pub last_field : (n : ℕ) (k : List ℕ) (j : Json) → depth j ≤ n → depths_of (Fields.field_then k j Fields.fields_end) ≤ n
unfolding depth
last_field n k j h = omega arith

-- what follows a value between brackets that `close` ends
pub data Behind (close : ℕ) (a : List ℕ) : Type 0 where
  behind_end : (r : List ℕ) → Ws a (close ∷ r) → Behind close a
  behind_comma : (b c : List ℕ) → Ws a (0x2c ∷ b) → Ws b c → Not IsWs c → Behind close a
  behind_bad : (r : List ℕ) → Ws a r → Not (Follows close) r → Behind close a

-- none of white space, the closing bracket and the comma
pub neither : {close b : ℕ} → (IsWs b → ⊥) → (b ≡ close → ⊥) → (b ≡ 0x2c → ⊥) → Follows close b → ⊥
neither f g h (follows_ws w) = f w
neither f g h follows_comma = h refl
neither f g h follows_close = g refl

-- reads what follows a value, from past its white space
behind_at : (close : ℕ) {a : List ℕ} (v : List ℕ) → Ws a v → Not IsWs v → Behind close a
unfolding ℕ_discrete ws_run
behind_at close [] x n = behind_bad [] x not_end
behind_at close (b ∷ v) x (not_head n) = elim (ℕ_discrete b close) [
  | yes e ↦ behind_end v (rw e at x)
  | no f ↦
      elim (ℕ_discrete b 0x2c) [
        | yes e ↦ (let y = ws_run v in behind_comma v y.0 (rw e at x) y.1 y.2)
        | no g ↦
            behind_bad (b ∷ v) x (not_head (neither n f g))
      ]
]

-- reads what follows a value
behind : (close : ℕ) (a : List ℕ) → Behind close a
unfolding ws_run behind_at
behind close a = let x = ws_run a in behind_at close x.0 x.1 x.2

-- whether a list starts with k
pub data First (k : ℕ) (v : List ℕ) : Type 0 where
  is_first : (r : List ℕ) → v ≡ k ∷ r → First k v
  not_first : Not (Is k) v → First k v

-- whether v starts with k
pub first? : (k : ℕ) (v : List ℕ) → First k v
unfolding ℕ_discrete
first? k [] = not_first not_end
first? k (b ∷ v) = elim (ℕ_discrete b k) [ yes e ↦ is_first v (rw e refl) | no f ↦ not_first (not_this k b f) ]

-- reads a scalar as a value
scalar_at : (n : ℕ) (w : List ℕ) → Not (Is 0x5b) w → Not (Is 0x7b) w → Got (ValueOk n w) (NoValue n w)
unfolding scalar_run
scalar_at n w p q =
    got_as (λ r m. (m.0, val_scalar m.1, m.2, flat n m.1)) (λ f r m. val_in_scalar p q m) (scalar_run w)

mutual
  unfolding ℕ_discrete ws_run first? behind scalar_at name_run

  -- reads a value with n levels; f is enough to count the calls
  value_run : (f n : ℕ) (w : List ℕ) → 4 * length w + 1 ≤ f → Got (ValueOk n w) (NoValue n w)
  value_run zero n w l = absurd (omega arith)
  value_run (suc f) n [] l = scalar_at n [] not_end not_end
  value_run (suc f) zero (b ∷ w) l = elim (ℕ_discrete b 0x5b) [
    | yes e ↦ lost deep (b ∷ w) (rw e val_deep_array)
    | no p ↦
        elim (ℕ_discrete b 0x7b) [
          | yes e ↦ lost deep (b ∷ w) (rw e val_deep_object)
          | no q ↦
              scalar_at zero (b ∷ w) (not_this 0x5b b p) (not_this 0x7b b q)
        ]
  ]
  value_run (suc f) (suc n) (b ∷ w) l = elim (ℕ_discrete b 0x5b) [
    | yes e ↦ got_as (λ r m. (m.0, rw e m.1, m.2, m.3)) (λ i r m. rw e m) (array_run f n w (omega arith))
    | no p ↦
        elim (ℕ_discrete b 0x7b) [
          | yes e ↦ got_as (λ r m. (m.0, rw e m.1, m.2, m.3)) (λ i r m. rw e m) (object_run f n w (omega arith))
          | no q ↦
              scalar_at (suc n) (b ∷ w) (not_this 0x5b b p) (not_this 0x7b b q)
        ]
  ]

  -- reads the rest of an array
  array_run : (f n : ℕ) (w : List ℕ) → 4 * length w + 4 ≤ f →
      Got (ValueOk (suc n) (0x5b ∷ w)) (NoValue (suc n) (0x5b ∷ w))
  array_run zero n w l = absurd (omega arith)
  array_run (suc f) n w l =
      let x = ws_run w in
      elim (first? 0x5d x.0) [
        | is_first r e ↦ got r (Json.array Values.values_end, val_array0 (rw e at x.1), stop_array, (no_depth n).0)
        | not_first k ↦
            got_as (λ r m. (Json.array m.0, val_array x.1 m.1, stop_array, array_depth n m.0 m.2))
            (λ i r m. val_in_array x.1 x.2 k m) (elements_run f n x.0 (omega (arith, ws_shorter x.1)))
      ]

  -- reads an array's elements
  elements_run : (f n : ℕ) (w : List ℕ) → 4 * length w + 3 ≤ f → Got (ElementsOk n w) (NoElements n w)
  elements_run zero n w l = absurd (omega arith)
  elements_run (suc f) n w l =
      got_then (value_run f n w (omega arith))
      (λ a v. elim (behind 0x5d a) [
        | behind_end r x ↦
            got r (Values.value_then v.0 Values.values_end, elem_last v.1 x, last_value n v.0 v.3)
        | behind_comma b c x y z ↦
            got_as
            (λ r m. (
              Values.value_then v.0 m.0,
              elem_more v.1 x y m.1,
              value_depth n v.0 m.0 v.3
                  m.2,
            ))
            (λ i r m. elem_on v.1 v.2 v.3 x y z m)
            (elements_run f n c (omega (arith, value_shorter v.1, ws_shorter x, ws_shorter y)))
        | behind_bad r x q ↦ lost broke r (elem_after v.1 v.2 v.3 x q)
      ])
      (λ i r m. elem_in m)

  -- reads the rest of an object
  object_run : (f n : ℕ) (w : List ℕ) → 4 * length w + 4 ≤ f →
      Got (ValueOk (suc n) (0x7b ∷ w)) (NoValue (suc n) (0x7b ∷ w))
  object_run zero n w l = absurd (omega arith)
  object_run (suc f) n w l =
      let x = ws_run w in
      elim (first? 0x7d x.0) [
        | is_first r e ↦ got r (Json.object Fields.fields_end, val_object0 (rw e at x.1), stop_object, (no_depth n).1)
        | not_first k ↦
            got_as (λ r m. (Json.object m.0, val_object x.1 m.1, stop_object, object_depth n m.0 m.2))
            (λ i r m. val_in_object x.1 x.2 k m) (members_run f n x.0 (omega (arith, ws_shorter x.1)))
      ]

  -- reads a member
  member_run : (f n : ℕ) (w : List ℕ) → 4 * length w + 2 ≤ f → Got (MemberOk n w) (NoMember n w)
  member_run zero n w l = absurd (omega arith)
  member_run (suc f) n w l =
      got_then (name_run w)
      (λ v k. got_as (λ r m. (k.0, m.0, member k.1 m.1, m.2, m.3)) (λ i r m. member_in_value k.1 k.2 m)
      (value_run f n v (omega (arith, name_shorter k.1))))
      (λ i r m. member_in_name m)

  -- reads an object's members
  members_run : (f n : ℕ) (w : List ℕ) → 4 * length w + 3 ≤ f → Got (MembersOk n w) (NoMembers n w)
  members_run zero n w l = absurd (omega arith)
  members_run (suc f) n w l =
      got_then (member_run f n w (omega arith))
      (λ a v. elim (behind 0x7d a) [
        | behind_end r x ↦
            got r (
              Fields.field_then v.0 v.1 Fields.fields_end,
              mem_last v.2 x,
              last_field n v.0 v.1
                  v.4,
            )
        | behind_comma b c x y z ↦
            got_as
            (λ r m. (
              Fields.field_then v.0 v.1 m.0,
              mem_more v.2 x y m.1,
              field_depth n v.0 v.1
                  m.0 v.4 m.2,
            ))
            (λ i r m. mem_on v.2 v.3 v.4 x y z m)
            (members_run f n c (omega (arith, member_shorter v.2, ws_shorter x, ws_shorter y)))
        | behind_bad r x q ↦ lost broke r (mem_after v.2 v.3 v.4 x q)
      ])
      (λ i r m. mem_in m)

-- w is a text of at most n levels
abbrev pub TextOk : ℕ → List ℕ → List ℕ → Type 0
TextOk n w r = (j : Json) × Text w j × (depth j ≤ n)

-- reads the end of a text
last_run : {n : ℕ} {w v a : List ℕ} (r : List ℕ) → Ws w v → ValueOk n v a → Ws a r → Not IsWs r →
    Got (TextOk n w) (NoText n w)
last_run [] x v y z = got [] (v.0, text x v.1 y, v.3)
last_run (c ∷ b) x v y z =
    lost broke (c ∷ b)
    (text_after x v.1 v.2 v.3 y z (λ e. absurd (let u : ◌≡◌ {A = ℕ} 0 1 = cc in omega arith)))

-- the whole of w as a text, with n levels
unfoldable pub text_run : (n : ℕ) (w : List ℕ) → Got (TextOk n w) (NoText n w)
unfolding ws_run value_run last_run
text_run n w =
    let x = ws_run w in
    got_then (value_run (4 * length x.0 + 1) n x.0 (omega arith))
    (λ a v. let y = ws_run a in last_run y.0 x.1 v y.1 y.2)
    (λ f r m. text_in x.1 x.2 m)

-- the tree of a text that was read
abbrev pub tree : {n : ℕ} {w : List ℕ} → Got (TextOk n w) (NoText n w) → Option Json
tree (got r k) = present k.0
tree (lost f r k) = absent

-- the tree that s says, if s is a text of at most n levels
unfoldable pub tree_of : ℕ → List ℕ → Option Json
unfolding text_run
tree_of n s = tree (text_run n s)

-- the value at the front of w, with n levels
unfoldable pub front_run : (n : ℕ) (w : List ℕ) → Got (ValueOk n w) (NoValue n w)
unfolding value_run
front_run n w = value_run (4 * length w + 1) n w (omega arith)

-- the tree of a value that was read
abbrev pub said : {n : ℕ} {w : List ℕ} → Got (ValueOk n w) (NoValue n w) → Option Json
said (got r k) = present k.0
said (lost f r k) = absent

-- the tree that the value at the front of w says, if there is one of at most n levels
unfoldable pub tree_at : ℕ → List ℕ → Option Json
unfolding front_run
tree_at n w = said (front_run n w)
