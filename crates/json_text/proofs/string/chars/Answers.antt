-- `json_text::string::chars` meets its contract.
-- Assumes nothing.
use Rattle.std.proofs.Common.{◌≡◌, ℕ, ◌+◌, List, Result, drop, refl, arith}
use Rattle.json_text.specs.declared.error.ScanError.{ScanError}
use Rattle.json_text.specs.Grammar.{Plain, Escape}
use Rattle.json_text.specs.Grammar.Chars.{chars_close, chars_plain, chars_escape}
use Rattle.json_text.specs.Faults.{InChars}
use Rattle.json_text.specs.Faults.InChars.{in_close, in_escape, in_plain}
use Rattle.json_text.specs.Faults.NoChars.{chars_bad, chars_on, chars_in_escape, chars_after_escape}
use Rattle.json_text.specs.Scans.{CharsSaid}
use Rattle.json_text.specs.Scans.Says.{says_past, says_broke}
use Rattle.json_text.proofs.Laws.{Here, here, Byte, byte, peeked_not, untold, ended, says_as, said_past, passed, later}
use Rattle.json_text.proofs.Questions.{plain_said}
use Rattle.json_text.specs.Lengths.{escape_shorter}
use Rattle.json_text.proofs.string.chars.Goals as goal

-- one more byte, or one more escape, in front
plain_step : {s : List ℕ} {i b : ℕ} {o : Result ℕ ScanError} → Here Plain s i b → CharsSaid s (i + 1) o → CharsSaid s i o
plain_step h a = rw h.split (says_as (λ r k. (_, chars_plain h.is k.1)) (λ f r k. chars_on h.is k) a)

escape-step : {s es : List ℕ} {i : ℕ} {o : Result ℕ ScanError} (p : ℕ) → Byte 0x5c s i → Escape (drop (i + 1) s) es (drop p s) →
    CharsSaid s p o → CharsSaid s i o
escape-step p h e a = rw h.split (says_as (λ r k. (_, chars_escape e k.1)) (λ f r k. chars_after_escape e k) a)

pub returns-in-Some-eq34 : goal.returns-in-Some-eq34
returns-in-Some-eq34 c =
    let h = byte 0x22 c.in-Some-eq34.ensures c.in-Some-eq34.field-0-test (omega arith) in
    c.loop-i.invariant.1 _ (rw h.split (says_past h.next (_, chars_close)))

pub returns-in_err-i-in-Some-eq92 : goal.returns-in_err-i-in-Some-eq92
returns-in_err-i-in-Some-eq92 c =
    let h = byte 0x5c c.in-Some-eq92.ensures c.in-Some-eq92.field-0-test (omega arith) in
    c.loop-i.invariant.1 _
    (rw h.split (passed _ c.from_residual.ensures.1 c.in_err-i-in-Some-eq92.ensures (λ f r m. chars_in_escape m)))

pub loop-i-smaller-in-92-1 : goal.loop-i-smaller-in-92-1
loop-i-smaller-in-92-1 c =
    let e = said_past c.in_ok-i-in-Some-eq92.ensures refl in
    let h = later c.args.s.now (c.loop-i.i + 1) c.in_ok-i-in-Some-eq92.i e.0 (escape_shorter e.1.1) in
    omega arith

pub loop-i-preserved-in-92-1 : goal.loop-i-preserved-in-92-1
loop-i-preserved-in-92-1 c =
    let e = said_past c.in_ok-i-in-Some-eq92.ensures refl in
    let h = byte 0x5c c.in-Some-eq92.ensures c.in-Some-eq92.field-0-test (omega arith) in
    (e.0, λ o a. c.loop-i.invariant.1 o (escape-step c.in_ok-i-in-Some-eq92.i h e.1.1 a))

pub loop-i-preserved : goal.loop-i-preserved
loop-i-preserved c =
    let h = here Plain (λ d. omega arith) c.in-Some.ensures (plain_said (rw c.from.ensures at c.is_plain.ensures)) c.if-is_plain.true in
    (h.next, λ o a. c.loop-i.invariant.1 o (plain_step h a))

other : (b : ℕ) → (b ≡ 0x22 → ⊥) → (b ≡ 0x5c → ⊥) → (Plain b → ⊥) → InChars b → ⊥
other _ f g h in_close = f refl
other _ f g h in_escape = g refl
other _ f g h (in_plain p) = h p

pub returns-in_default : goal.returns-in_default
returns-in_default c =
    let t = c.in-Some.b-test in
    let n = other _ t.0.1 t.1 (untold (plain_said (rw c.from.ensures at c.is_plain.ensures)) c.if-is_plain.false) in
    c.loop-i.invariant.1 _ (says_broke c.loop-i.invariant.0 (chars_bad (peeked_not c.in-Some.ensures n)))

pub returns-in_default-2 : goal.returns-in_default-2
returns-in_default-2 c =
    c.loop-i.invariant.1 _ (says_broke c.loop-i.invariant.0 (chars_bad (ended c.peek.ensures c.in_default.is)))
