-- Where a scan broke, what was read before can still become a text, and not with the byte at the fault.
-- Assumes nothing.
use Prim.Native.Nat.{ℕ, zero, suc}
use native.Mathlib.Omega.{arith}
use mathlib.Core.Path.{◌≡◌, subst}
use mathlib.Core.List.{List, [], ◌∷◌, ◌++◌}
use Rattle.json_text.specs.Tree.{Json, Values, Fields}
use Rattle.json_text.specs.Grammar.{Ws, Lit, Digit, Some, Frac, Exp, Magnitude, Hex, Escape, Chars, Scalar, Name}
use Rattle.json_text.specs.Grammar.{Value, Elements, Member, Members, Text}
use Rattle.json_text.specs.Grammar.Ws.{ws_none}
use Rattle.json_text.specs.Grammar.Lit.{lit_none, lit_more}
use Rattle.json_text.specs.Grammar.Digits.{digits_none}
use Rattle.json_text.specs.Grammar.Int.{int_zero}
use Rattle.json_text.specs.Grammar.Some.{some}
use Rattle.json_text.specs.Grammar.Frac.{frac_none, frac_some}
use Rattle.json_text.specs.Grammar.Exp.{exp_none, exp_plain, exp_signed}
use Rattle.json_text.specs.Grammar.IsEscape.{quote}
use Rattle.json_text.specs.Grammar.Magnitude.{magnitude}
use Rattle.json_text.specs.Grammar.Number.{num_plain, num_minus}
use Rattle.json_text.specs.Grammar.Hex.{hex_none, hex_more}
use Rattle.json_text.specs.Grammar.Escape.{esc_byte, esc_hex}
use Rattle.json_text.specs.Grammar.Chars.{chars_close, chars_plain, chars_escape}
use Rattle.json_text.specs.Grammar.Scalar.{sc_null, sc_true, sc_false, sc_number, sc_string}
use Rattle.json_text.specs.Grammar.Name.{name}
use Rattle.json_text.specs.Grammar.Value.{val_scalar, val_array0, val_array, val_object0, val_object}
use Rattle.json_text.specs.Grammar.Elements.{elem_last, elem_more}
use Rattle.json_text.specs.Grammar.Member.{member}
use Rattle.json_text.specs.Grammar.Members.{mem_last, mem_more}
use Rattle.json_text.specs.Grammar.Text.{text}
use Rattle.json_text.specs.Faults.{Fault, Not, NoLit, NoHex, NoEscape, NoChars, NoSome, NoExp, NoTail, NoMagnitude}
use Rattle.json_text.specs.Faults.{NoScalar, NoName, NoValue, NoElements, NoMember, NoMembers, NoText}
use Rattle.json_text.specs.Faults.NoLit.{lit_bad, lit_on}
use Rattle.json_text.specs.Faults.NoHex.{hex_bad, hex_on}
use Rattle.json_text.specs.Faults.NoEscape.{esc_bad, esc_in_hex}
use Rattle.json_text.specs.Faults.NoChars.{chars_bad, chars_on, chars_in_escape, chars_after_escape}
use Rattle.json_text.specs.Faults.NoScalar.{sc_bad, sc_in_null, sc_in_true, sc_in_false, sc_in_number, sc_in_minus}
use Rattle.json_text.specs.Faults.NoScalar.{sc_in_string}
use Rattle.json_text.specs.Faults.NoSome.{some_bad}
use Rattle.json_text.specs.Faults.NoExp.{exp_in, exp_in_signed}
use Rattle.json_text.specs.Faults.NoTail.{tail_in_frac, tail_in_exp}
use Rattle.json_text.specs.Faults.NoMagnitude.{mag_bad, mag_in_tail}
use Rattle.json_text.specs.Faults.NoName.{name_bad, name_in, name_after}
use Rattle.json_text.specs.Faults.NoValue.{val_in_scalar, val_deep_array, val_deep_object, val_in_array, val_in_object}
use Rattle.json_text.specs.Faults.NoElements.{elem_in, elem_after, elem_on}
use Rattle.json_text.specs.Faults.NoMember.{member_in_name, member_in_value}
use Rattle.json_text.specs.Faults.NoMembers.{mem_in, mem_after, mem_on}
use Rattle.json_text.specs.Faults.NoText.{text_in, text_after}
use Rattle.json_text.specs.Grammar.HexDigit.{hex_digit}
use Rattle.json_text.specs.Numbers.SameHead.{same_head}
use Rattle.json_text.specs.Numbers.{SameHead, int_plain, frac_plain, int_on, frac_on, int_again, frac_again, int_whole}
use Rattle.json_text.specs.Numbers.{frac_whole}
use Rattle.json_text.proofs.Excluded.{not_is}
use Rattle.json_text.proofs.Unique.{heads, value_object, value_no_ws, ws_unique, solid}
use Rattle.json_text.proofs.Cuts.{Cut, none, one, ◌then◌, spelled, keep_head, keep_not, keep_stop, ws_reads}
use Rattle.json_text.proofs.Cuts.{escape_reads, chars_reads, name_reads, value_reads, member_reads}

-- what was read before a fault: the fault stays where the byte at it stays, whatever follows that; and what was read
-- can be filled up to an X
pub record Breaks (No : List ℕ → List ℕ → Type 0) (X : List ℕ → List ℕ → Type 0) (w r : List ℕ) : Type 0 where
  pub cut : Cut w r
  pub same : (b : ℕ) (x t : List ℕ) → r ≡ b ∷ x → No (cut.put (b ∷ t)) (b ∷ t)
  pub fill : List ℕ → List ℕ
  pub done : (t : List ℕ) → X (cut.put (fill t)) t

-- a byte that is no P stays so before any rest
still : {P : ℕ → Type 0} {r : List ℕ} (b : ℕ) (x t : List ℕ) → r ≡ b ∷ x → Not P r → Not P (b ∷ t)
still b x t e n = keep_not none b x t e n

-- a word, and then t
word : (ks t : List ℕ) → Lit ks (ks ++ t) t
word [] t = lit_none
word (k ∷ ks) t = lit_more (word ks t)

-- where a literal word breaks off
pub lit_breaks : {ks w r : List ℕ} {f : Fault} → NoLit ks w f r → Breaks (λ v q. NoLit ks v f q) (Lit ks) w r
lit_breaks (lit_bad {k = k} {ks = ks} n) =
    record {
      cut = none;
      same = λ b x t e. lit_bad (still b x t e n);
      fill = λ t. k ∷ ks ++ t;
      done = λ t. lit_more (word ks t);
    }
lit_breaks (lit_on {k = k} h) =
    let i = lit_breaks h in
    record {
      cut = one k i.cut;
      same = λ b x t e. lit_on (i.same b x t e);
      fill = i.fill;
      done = λ t. lit_more (i.done t);
    }

-- n hexadecimal digits, whatever it says
abbrev SomeHex : ℕ → List ℕ → List ℕ → Type 0
SomeHex n w r = (ds : List ℕ) × Hex n w ds r

-- n digits 0
zeros : ℕ → List ℕ → List ℕ
zeros zero t = t
zeros (suc n) t = 0x30 ∷ zeros n t

-- which are hexadecimal digits
hex_zeros : (n : ℕ) (t : List ℕ) → SomeHex n (zeros n t) t
unfolding zeros
hex_zeros zero t = (_, hex_none)
hex_zeros (suc n) t = (_, hex_more (hex_digit {b = 0x30} (omega arith) (omega arith)) (hex_zeros n t).1)

-- where a run of hexadecimal digits breaks off
hex_breaks : {n : ℕ} {w r : List ℕ} {f : Fault} → NoHex n w f r → Breaks (λ v q. NoHex n v f q) (SomeHex n) w r
hex_breaks (hex_bad {n = n} f) =
    record { cut = none; same = λ b x t e. hex_bad (still b x t e f); fill = zeros (suc n); done = hex_zeros (suc n) }
hex_breaks (hex_on {d = d} y h) =
    let i = hex_breaks h in
    record {
      cut = one d i.cut;
      same = λ b x t e. hex_on y (i.same b x t e);
      fill = i.fill;
      done = λ t. (_, hex_more y (i.done t).1);
    }

-- an escape, whatever it says
abbrev SomeEscape : List ℕ → List ℕ → Type 0
SomeEscape w r = (es : List ℕ) × Escape w es r

-- where an escape breaks off
escape_breaks : {w r : List ℕ} {f : Fault} → NoEscape w f r → Breaks (λ v q. NoEscape v f q) SomeEscape w r
escape_breaks (esc_bad f) =
    record {
      cut = none;
      same = λ b x t e. esc_bad (still b x t e f);
      fill = λ t. 0x22 ∷ t;
      done = λ t. (_, esc_byte quote);
    }
escape_breaks (esc_in_hex h) =
    let i = hex_breaks h in
    record {
      cut = one 0x75 i.cut;
      same = λ b x t e. esc_in_hex (i.same b x t e);
      fill = i.fill;
      done = λ t. (_, esc_hex (i.done t).1);
    }

-- the rest of a string, whatever it says
abbrev SomeChars : List ℕ → List ℕ → Type 0
SomeChars w r = (cs : List ℕ) × Chars w cs r

-- where the rest of a string breaks off
chars_breaks : {w r : List ℕ} {f : Fault} → NoChars w f r → Breaks (λ v q. NoChars v f q) SomeChars w r
chars_breaks (chars_bad f) =
    record {
      cut = none;
      same = λ b x t e. chars_bad (still b x t e f);
      fill = λ t. 0x22 ∷ t;
      done = λ t. (_, chars_close);
    }
chars_breaks (chars_on {b = y} p h) =
    let i = chars_breaks h in
    record {
      cut = one y i.cut;
      same = λ b x t e. chars_on p (i.same b x t e);
      fill = i.fill;
      done = λ t. (_, chars_plain p (i.done t).1);
    }
chars_breaks (chars_in_escape h) =
    let i = escape_breaks h in
    record {
      cut = one 0x5c i.cut;
      same = λ b x t e. chars_in_escape (i.same b x t e);
      fill = λ t. i.fill (0x22 ∷ t);
      done = λ t. (_, chars_escape (i.done (0x22 ∷ t)).1 chars_close);
    }
chars_breaks (chars_after_escape y h) =
    let k = escape_reads y in
    let i = chars_breaks h in
    record {
      cut = one 0x5c (k.cut then i.cut);
      same = λ b x t e. chars_after_escape (k.again (i.cut.put (b ∷ t))) (i.same b x t e);
      fill = i.fill;
      done = λ t. (_, chars_escape (k.again (i.cut.put (i.fill t))) (i.done t).1);
    }

-- one digit or more, whatever it says
abbrev SomeDigits : List ℕ → List ℕ → Type 0
SomeDigits w r = (ds : List ℕ) × Some w ds r

-- where one digit or more breaks off
pub some_breaks : {w r : List ℕ} {f : Fault} → NoSome w f r → Breaks (λ v q. NoSome v f q) SomeDigits w r
some_breaks (some_bad n) =
    record {
      cut = none;
      same = λ b x t e. some_bad (still b x t e n);
      fill = λ t. 0x30 ∷ t;
      done = λ t. (_, some {d = 0x30} (omega arith) digits_none);
    }

-- an exponent, whatever it says
abbrev SomeExp : List ℕ → List ℕ → Type 0
SomeExp w r = (es : List ℕ) × Exp w es r

-- where an exponent breaks off
exp_breaks : {w r : List ℕ} {f : Fault} → NoExp w f r → Breaks (λ v q. NoExp v f q) SomeExp w r
exp_breaks (exp_in {e = y} z n h) =
    let i = some_breaks h in
    record {
      cut = one y i.cut;
      same = λ b x t e. exp_in z (keep_not i.cut b x t e n) (i.same b x t e);
      fill = i.fill;
      done = λ t. (_, exp_plain z (i.done t).1);
    }
exp_breaks (exp_in_signed {e = y} {i = u} z s h) =
    let i = some_breaks h in
    record {
      cut = one y (one u i.cut);
      same = λ b x t e. exp_in_signed z s (i.same b x t e);
      fill = i.fill;
      done = λ t. (_, exp_signed z s (i.done t).1);
    }

-- a fraction and an exponent, whatever it says
abbrev SomeTail : List ℕ → List ℕ → Type 0
SomeTail w r = (fs : List ℕ) × (v : List ℕ) × (es : List ℕ) × Frac w fs v × Exp v es r

-- where a fraction and an exponent breaks off
tail_breaks : {w r : List ℕ} {f : Fault} → NoTail w f r → Breaks (λ v q. NoTail v f q) SomeTail w r
tail_breaks (tail_in_frac h) =
    let i = some_breaks h in
    record {
      cut = one 0x2e i.cut;
      same = λ b x t e. tail_in_frac (i.same b x t e);
      fill = i.fill;
      done = λ t. (_, _, _, frac_some (i.done t).1, exp_none);
    }
tail_breaks (tail_in_exp {fs = fs} {b = v} y h) =
    let i = exp_breaks h in
    let c : Cut _ _ = spelled fs v (frac_whole y) in
    record {
      cut = c then i.cut;
      same = λ b x t e. tail_in_exp (frac_again y (i.cut.put (b ∷ t)) (keep_head i.cut b x t e)) (i.same b x t e);
      fill = i.fill;
      done = λ t. (_, _, _, frac_on (frac_plain y) (i.cut.put (i.fill t)), (i.done t).1);
    }

-- a number without its sign, whatever it says
abbrev SomeMagnitude : List ℕ → List ℕ → Type 0
SomeMagnitude w r = (ds : List ℕ) × Magnitude w ds r

-- where a number without its sign breaks off
mag_breaks : {w r : List ℕ} {f : Fault} → NoMagnitude w f r → Breaks (λ v q. NoMagnitude v f q) SomeMagnitude w r
mag_breaks (mag_bad n) =
    record {
      cut = none;
      same = λ b x t e. mag_bad (still b x t e n);
      fill = λ t. 0x30 ∷ t;
      done = λ t. (_, magnitude int_zero frac_none exp_none);
    }
mag_breaks (mag_in_tail {is = ds} {a = a} y h) =
    let i = tail_breaks h in
    let c : Cut _ _ = spelled ds a (int_whole y) in
    record {
      cut = c then i.cut;
      same = λ b x t e. mag_in_tail (int_again y (i.cut.put (b ∷ t)) (keep_head i.cut b x t e)) (i.same b x t e);
      fill = i.fill;
      done = λ t. let d = i.done t in (_, magnitude (int_on (int_plain y) (i.cut.put (i.fill t))) d.3 d.4);
    }

-- a scalar, whatever it says
abbrev SomeScalar : List ℕ → List ℕ → Type 0
SomeScalar w r = (j : Json) × Scalar w j r

-- a number that breaks off behind its first digit
digit_first : {d : ℕ} {w v r : List ℕ} {f : Fault} → Digit d → SameHead (d ∷ w) v → NoMagnitude v f r → NoScalar v f r
digit_first d same_head h = sc_in_number d h

-- where a scalar breaks off
scalar_breaks : {w r : List ℕ} {f : Fault} → NoScalar w f r → Breaks (λ v q. NoScalar v f q) SomeScalar w r
scalar_breaks (sc_bad f) =
    record {
      cut = none;
      same = λ b x t e. sc_bad (still b x t e f);
      fill = λ t. 0x30 ∷ t;
      done = λ t. (_, sc_number (num_plain (magnitude int_zero frac_none exp_none)));
    }
scalar_breaks (sc_in_null h) =
    let i = lit_breaks h in
    record {
      cut = one 0x6e i.cut;
      same = λ b x t e. sc_in_null (i.same b x t e);
      fill = i.fill;
      done = λ t. (_, sc_null (i.done t));
    }
scalar_breaks (sc_in_true h) =
    let i = lit_breaks h in
    record {
      cut = one 0x74 i.cut;
      same = λ b x t e. sc_in_true (i.same b x t e);
      fill = i.fill;
      done = λ t. (_, sc_true (i.done t));
    }
scalar_breaks (sc_in_false h) =
    let i = lit_breaks h in
    record {
      cut = one 0x66 i.cut;
      same = λ b x t e. sc_in_false (i.same b x t e);
      fill = i.fill;
      done = λ t. (_, sc_false (i.done t));
    }
scalar_breaks (sc_in_minus h) =
    let i = mag_breaks h in
    record {
      cut = one 0x2d i.cut;
      same = λ b x t e. sc_in_minus (i.same b x t e);
      fill = i.fill;
      done = λ t. (_, sc_number (num_minus (i.done t).1));
    }
scalar_breaks (sc_in_number d h) =
    let i = mag_breaks h in
    record {
      cut = i.cut;
      same = λ b x t e. digit_first d (keep_head i.cut b x t e) (i.same b x t e);
      fill = i.fill;
      done = λ t. (_, sc_number (num_plain (i.done t).1));
    }
scalar_breaks (sc_in_string h) =
    let i = chars_breaks h in
    record {
      cut = one 0x22 i.cut;
      same = λ b x t e. sc_in_string (i.same b x t e);
      fill = i.fill;
      done = λ t. (_, sc_string (i.done t).1);
    }

-- a name, whatever it says
abbrev SomeName : List ℕ → List ℕ → Type 0
SomeName w r = (k : List ℕ) × Name w k r

-- where a member's name breaks off
pub name_breaks : {w r : List ℕ} {f : Fault} → NoName w f r → Breaks (λ v q. NoName v f q) SomeName w r
name_breaks (name_bad f) =
    record {
      cut = none;
      same = λ b x t e. name_bad (still b x t e f);
      fill = λ t. 0x22 ∷ 0x22 ∷ 0x3a ∷ t;
      done = λ t. (_, name chars_close ws_none ws_none);
    }
name_breaks (name_in h) =
    let i = chars_breaks h in
    record {
      cut = one 0x22 i.cut;
      same = λ b x t e. name_in (i.same b x t e);
      fill = λ t. i.fill (0x3a ∷ t);
      done = λ t. (_, name (i.done (0x3a ∷ t)).1 ws_none ws_none);
    }
name_breaks (name_after h a n f) =
    let i = chars_reads h in
    let k = ws_reads a in
    record {
      cut = one 0x22 (i.cut then k.cut);
      same = λ b x t e. name_after (i.again (k.cut.put (b ∷ t))) (k.again (b ∷ t)) (still b x t e n)
          (still b x t e f);
      fill = λ t. 0x3a ∷ t;
      done = λ t. (_, name (i.again (k.cut.put (0x3a ∷ t))) (k.again (0x3a ∷ t)) ws_none);
    }

-- a value, whatever it says
abbrev SomeValue : List ℕ → List ℕ → Type 0
SomeValue w r = (j : Json) × Value w j r

-- elements, whatever it says
abbrev SomeElements : List ℕ → List ℕ → Type 0
SomeElements w r = (js : Values) × Elements w js r

-- a member, whatever it says
abbrev SomeMember : List ℕ → List ℕ → Type 0
SomeMember w r = (k : List ℕ) × (j : Json) × Member w k j r

-- members, whatever it says
abbrev SomeMembers : List ℕ → List ℕ → Type 0
SomeMembers w r = (ms : Fields) × Members w ms r

mutual
  -- where a value breaks off
  pub value_breaks : {n : ℕ} {w r : List ℕ} {f : Fault} → NoValue n w f r → Breaks (λ v q. NoValue n v f q) SomeValue w r
  value_breaks (val_in_scalar f g h) =
      let i = scalar_breaks h in
      record {
        cut = i.cut;
        same = λ b x t e. val_in_scalar (keep_not i.cut b x t e f) (keep_not i.cut b x t e g) (i.same b x t e);
        fill = i.fill;
        done = λ t. (_, val_scalar (i.done t).1);
      }
  value_breaks val_deep_array =
      record {
        cut = none;
        same = λ b x t e. rw (← heads e) val_deep_array;
        fill = λ t. 0x5b ∷ 0x5d ∷ t;
        done = λ t. (_, val_array0 ws_none);
      }
  value_breaks val_deep_object =
      record {
        cut = none;
        same = λ b x t e. rw (← heads e) val_deep_object;
        fill = λ t. 0x7b ∷ 0x7d ∷ t;
        done = λ t. (_, val_object0 ws_none);
      }
  value_breaks (val_in_array a f g h) =
      let k = ws_reads a in
      let i = elements_breaks h in
      record {
        cut = one 0x5b (k.cut then i.cut);
        same = λ b x t e. val_in_array (k.again (i.cut.put (b ∷ t))) (keep_not i.cut b x t e f)
            (keep_not i.cut b x t e g) (i.same b x t e);
        fill = i.fill;
        done = λ t. (_, val_array (k.again (i.cut.put (i.fill t))) (i.done t).1);
      }
  value_breaks (val_in_object a f g h) =
      let k = ws_reads a in
      let i = members_breaks h in
      record {
        cut = one 0x7b (k.cut then i.cut);
        same = λ b x t e. val_in_object (k.again (i.cut.put (b ∷ t))) (keep_not i.cut b x t e f)
            (keep_not i.cut b x t e g) (i.same b x t e);
        fill = i.fill;
        done = λ t. (_, val_object (k.again (i.cut.put (i.fill t))) (i.done t).1);
      }

  -- where an array's elements breaks off
  elements_breaks : {n : ℕ} {w r : List ℕ} {f : Fault} → NoElements n w f r →
      Breaks (λ v q. NoElements n v f q) SomeElements w r
  elements_breaks (elem_in h) =
      let i = value_breaks h in
      record {
        cut = i.cut;
        same = λ b x t e. elem_in (i.same b x t e);
        fill = λ t. i.fill (0x5d ∷ t);
        done = λ t. (_, elem_last (i.done (0x5d ∷ t)).1 ws_none);
      }
  elements_breaks (elem_after v s d a f) =
      let i = value_reads v in
      let k = ws_reads a in
      record {
        cut = i.cut then k.cut;
        same = λ b x t e. elem_after (i.again (k.cut.put (b ∷ t))) (keep_stop k.cut b x t e s) d
            (k.again (b ∷ t)) (still b x t e f);
        fill = λ t. 0x5d ∷ t;
        done = λ t. (_, elem_last (i.again (k.cut.put (0x5d ∷ t))) (k.again (0x5d ∷ t)));
      }
  elements_breaks (elem_on v s d a c f h) =
      let i = value_reads v in
      let k = ws_reads a in
      let l = ws_reads c in
      let m = elements_breaks h in
      let rest : Cut _ _ = one 0x2c (l.cut then m.cut) in
      record {
        cut = i.cut then k.cut then rest;
        same =
            λ b x t e. elem_on (i.again (k.cut.put (rest.put (b ∷ t)))) (keep_stop (k.cut then rest) b x t e s) d
            (k.again (rest.put (b ∷ t))) (l.again (m.cut.put (b ∷ t))) (keep_not m.cut b x t e f)
            (m.same b x t e);
        fill = m.fill;
        done =
            λ t. (
              _,
              elem_more (i.again (k.cut.put (rest.put (m.fill t)))) (k.again (rest.put (m.fill t)))
                  (l.again (m.cut.put (m.fill t))) (m.done t).1,
            );
      }

  -- where a member breaks off
  member_breaks : {n : ℕ} {w r : List ℕ} {f : Fault} → NoMember n w f r →
      Breaks (λ v q. NoMember n v f q) SomeMember w r
  member_breaks (member_in_name h) =
      let i = name_breaks h in
      record {
        cut = i.cut;
        same = λ b x t e. member_in_name (i.same b x t e);
        fill = λ t. i.fill (0x30 ∷ t);
        done = λ t. (
          _,
          _,
          member (i.done (0x30 ∷ t)).1
              (val_scalar (sc_number (num_plain (magnitude int_zero frac_none exp_none)))),
        );
      }
  member_breaks (member_in_value v f h) =
      let k = name_reads v in
      let i = value_breaks h in
      record {
        cut = k.cut then i.cut;
        same = λ b x t e. member_in_value (k.again (i.cut.put (b ∷ t))) (keep_not i.cut b x t e f)
            (i.same b x t e);
        fill = i.fill;
        done = λ t. (_, _, member (k.again (i.cut.put (i.fill t))) (i.done t).1);
      }

  -- where an object's members breaks off
  members_breaks : {n : ℕ} {w r : List ℕ} {f : Fault} → NoMembers n w f r →
      Breaks (λ v q. NoMembers n v f q) SomeMembers w r
  members_breaks (mem_in h) =
      let i = member_breaks h in
      record {
        cut = i.cut;
        same = λ b x t e. mem_in (i.same b x t e);
        fill = λ t. i.fill (0x7d ∷ t);
        done = λ t. (_, mem_last (i.done (0x7d ∷ t)).2 ws_none);
      }
  members_breaks (mem_after v s d a f) =
      let i = member_reads v in
      let k = ws_reads a in
      record {
        cut = i.cut then k.cut;
        same = λ b x t e. mem_after (i.again (k.cut.put (b ∷ t))) (keep_stop k.cut b x t e s) d (k.again (b ∷ t))
            (still b x t e f);
        fill = λ t. 0x7d ∷ t;
        done = λ t. (_, mem_last (i.again (k.cut.put (0x7d ∷ t))) (k.again (0x7d ∷ t)));
      }
  members_breaks (mem_on v s d a c f h) =
      let i = member_reads v in
      let k = ws_reads a in
      let l = ws_reads c in
      let m = members_breaks h in
      let rest : Cut _ _ = one 0x2c (l.cut then m.cut) in
      record {
        cut = i.cut then k.cut then rest;
        same =
            λ b x t e. mem_on (i.again (k.cut.put (rest.put (b ∷ t)))) (keep_stop (k.cut then rest) b x t e s) d
            (k.again (rest.put (b ∷ t))) (l.again (m.cut.put (b ∷ t))) (keep_not m.cut b x t e f)
            (m.same b x t e);
        fill = m.fill;
        done =
            λ t. (
              _,
              mem_more (i.again (k.cut.put (rest.put (m.fill t)))) (k.again (rest.put (m.fill t)))
                  (l.again (m.cut.put (m.fill t))) (m.done t).1,
            );
      }

-- the same for a whole text
pub record TextBreaks (n : ℕ) (f : Fault) (w r : List ℕ) : Type 0 where
  pub cut : Cut w r
  pub same : (b : ℕ) (x t : List ℕ) → r ≡ b ∷ x → NoText n (cut.put (b ∷ t)) f (b ∷ t)
  pub rest : List ℕ
  pub done : (j : Json) × Text (cut.put rest) j

-- where a text breaks off
pub text_breaks : {n : ℕ} {w r : List ℕ} {f : Fault} → NoText n w f r → TextBreaks n f w r
text_breaks (text_in a q h) =
    let k = ws_reads a in
    let i = value_breaks h in
    record {
      cut = k.cut then i.cut;
      same = λ b x t e. text_in (k.again (i.cut.put (b ∷ t))) (keep_not i.cut b x t e q) (i.same b x t e);
      rest = i.fill [];
      done = (_, text (k.again (i.cut.put (i.fill []))) (i.done []).1 ws_none);
    }
text_breaks (text_after a v s d c q z) =
    let k = ws_reads a in
    let i = value_reads v in
    let l = ws_reads c in
    record {
      cut = k.cut then i.cut then l.cut;
      same =
          λ b x t e. text_after (k.again (i.cut.put (l.cut.put (b ∷ t)))) (i.again (l.cut.put (b ∷ t)))
          (keep_stop l.cut b x t e s) d (l.again (b ∷ t)) (still b x t e q)
          (λ y. absurd (let u : ◌≡◌ {A = ℕ} 0 1 = cc in omega arith));
      rest = [];
      done = (_, text (k.again (i.cut.put (l.cut.put []))) (i.again (l.cut.put [])) (l.again []));
    }

-- what was read before a fault in a text that starts with { can be filled up to an object
pub filled : {n : ℕ} {w v r : List ℕ} {f : Fault} → Ws w (0x7b ∷ v) → (h : NoText n w f r) → (ms : Fields) ×
    Text ((text_breaks h).cut.put (text_breaks h).rest) (Json.object ms)
unfolding text_breaks value_breaks
filled x (text_in a q (val_in_scalar f g k)) = absurd (not_is g (ws_unique a q x (solid 0x7b (omega arith))))
filled x (text_in a q val_deep_array) =
    absurd (let d = heads (ws_unique a q x (solid 0x7b (omega arith))) in omega arith)
filled x (text_in a q val_deep_object) = (_, (text_breaks (text_in a q val_deep_object)).done.1)
filled x (text_in a q (val_in_array b f g k)) =
    absurd (let d = heads (ws_unique a q x (solid 0x7b (omega arith))) in omega arith)
filled x (text_in a q (val_in_object b f g k)) = (_, (text_breaks (text_in a q (val_in_object b f g k))).done.1)
filled x (text_after a v s l c q z) =
    let o = value_object v (ws_unique a (value_no_ws v) x (solid 0x7b (omega arith))) in
    let b = text_breaks (text_after a v s l c q z) in
    (o.0, subst (Text (b.cut.put b.rest)) o.1 b.done.1)
