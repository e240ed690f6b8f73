-- Laws of the contracts' words, which the proofs of the scanners cite.
-- Assumes nothing.
use Prim.Native.Nat.{ℕ, ◌+◌, ◌-◌, ◌≤◌, ◌<◌}
use native.Mathlib.Omega.{arith}
use mathlib.Core.Path.{◌≡◌, refl, sym, ◌∙◌}
use mathlib.Core.Bool.{Bool, true, false, not}
use borrow.Author.Tests.{eqb-true, eqb-false}
use lib.Dec.{eqb}
use Rattle.std.specs.Option.{option_eq}
use mathlib.Core.List.{List, ◌∷◌}
use lib.ListN.{length, drop, length-drop}
use Rattle.std.proofs.Common.{Result, Ok, Err, IsErrAnd}
use Rattle.std.specs.Prelude.{Option, Some, None}
use Rattle.std.proofs.lemmas.Result.{err_from_is_err_and}
use Rattle.json_text.specs.declared.value.Next.{Next}
use Rattle.json_text.specs.declared.value.Next.TheVariants.{More, End}
use Rattle.json_text.specs.declared.error.ScanError.{ScanError}
use Rattle.json_text.specs.declared.error.ScanError.TheVariants.{Broke}
use Rattle.json_text.specs.Grammar.{IsWs, HexDigit, IsE, IsSign, IsEscape}
use Rattle.json_text.specs.Grammar.IsE.{small, capital}
use Rattle.json_text.specs.Grammar.IsSign.{plus, minus}
use Rattle.json_text.specs.Grammar.IsEscape.{quote, backslash, slash, backspace, feed, newline, carriage, tabulator}
use Rattle.json_text.specs.Grammar.HexDigit.{hex_digit, hex_upper, hex_lower}
use Rattle.json_text.specs.Grammar.IsWs.{space, tab, line, return}
use Rattle.json_text.specs.Faults.{Fault, Not, Is}
use Rattle.json_text.specs.Faults.Is.{is}
use Rattle.json_text.specs.Faults.Not.{not_end, not_head}
use Rattle.json_text.specs.Results.{code}
use Rattle.json_text.specs.Scans.{Says, Peeks, Tells, AfterSaid, MoreAt, EndAt, BadAt}
use Rattle.json_text.specs.Scans.AfterSaid.{after_more, after_end, after_bad}
use Rattle.json_text.specs.Scans.Says.{says_past, says_broke, says_deep}
use Rattle.json_text.specs.Scans.Peeks.{peeks_end, peeks_byte}
use Rattle.json_text.specs.Scans.Tells.{tells_true, tells_false}

-- a test's answer
pub told : {P : Type 0} {t : Bool} → Tells P t → t ≡ true → P
told (tells_true p) e = p
told (tells_false f) e = absurd (let z : ◌≡◌ {A = ℕ} 0 1 = cc in omega arith)

-- the same for an answer that denies
pub untold : {P : Type 0} {t : Bool} → Tells P t → t ≡ false → P → ⊥
untold (tells_true p) e = absurd (let z : ◌≡◌ {A = ℕ} 0 1 = cc in omega arith)
untold (tells_false f) e = f

-- what stands at a position
pub peeked : {s : List ℕ} {at b : ℕ} → Peeks s at b → b < 256 → (at < length s) × (drop at s ≡ b ∷ drop (at + 1) s)
peeked (peeks_end e n) h = absurd (omega arith)
peeked (peeks_byte l f e) h = (l, e)

-- a byte that is no P, or the end
pub peeked_not : {P : ℕ → Type 0} {s : List ℕ} {at b : ℕ} → Peeks s at b → (P b → ⊥) → Not P (drop at s)
peeked_not (peeks_end e n) f = rw n not_end
peeked_not (peeks_byte l h e) f = rw e (not_head f)

-- nothing stands at the end
no_byte : {P : ℕ → Type 0} {s : List ℕ} {at : ℕ} → Peeks s at 256 → Not P (drop at s)
no_byte (peeks_end e n) = rw n not_end
no_byte (peeks_byte l h e) = absurd (omega arith)

-- where `peek` finds no byte
pub ended : {P : ℕ → Type 0} {s : List ℕ} {at : ℕ} {o : Option ℕ} → Peeks s at (code o) → o ≡ None → Not P (drop at s)
ended p e = no_byte (rw e at p)

-- at `at` stands the byte b, and P holds of it
pub record Here (P : ℕ → Type 0) (s : List ℕ) (at b : ℕ) : Type 0 where
  pub within : at < length s
  pub next : at + 1 ≤ length s
  pub is : P b
  pub split : drop at s ≡ b ∷ drop (at + 1) s

-- a byte of which P holds
pub stands : (P : ℕ → Type 0) {s : List ℕ} {at b : ℕ} → (P b → b < 256) → Peeks s at b → P b → Here P s at b
stands P f p h = let q = peeked p (f h) in record { within = q.0; next = omega arith; is = h; split = q.1 }

-- a test that says yes
pub here : (P : ℕ → Type 0) {s : List ℕ} {at b : ℕ} {t : Bool} → (P b → b < 256) → Peeks s at b → Tells (P b) t →
    t ≡ true → Here P s at b
here P f p y e = stands P f p (told y e)

-- a test that says no
pub not_here : (P : ℕ → Type 0) {s : List ℕ} {at b : ℕ} {t : Bool} → Peeks s at b → Tells (P b) t → t ≡ false →
    Not P (drop at s)
not_here P p y e = peeked_not p (untold y e)

-- at `at` stands the byte k
pub record Byte (k : ℕ) (s : List ℕ) (at : ℕ) : Type 0 where
  pub within : at < length s
  pub next : at + 1 ≤ length s
  pub split : drop at s ≡ k ∷ drop (at + 1) s

-- from what `peek` answers
pub byte : {s : List ℕ} {at b : ℕ} (k : ℕ) → Peeks s at b → b ≡ k → k < 256 → Byte k s at
byte k p e h = let q = peeked p (omega arith) in record { within = q.0; next = omega arith; split = rw (← e) q.1 }

-- the byte k is k
pub is_same : {k b : ℕ} → Is k b → b ≡ k
is_same is = refl

-- a test of what `peek` found against the byte k, that says yes
pub found : {s : List ℕ} {at : ℕ} {t : Bool} (o : Option ℕ) (k : ℕ) → k < 256 → Peeks s at (code o) →
    t ≡ option_eq eqb o (Some k) → t ≡ true → Byte k s at
found None k h p q e = absurd (let z : ◌≡◌ {A = ℕ} 0 1 = cc in omega arith)
found (Some b) k h p q e = byte k p (eqb-true b k (sym q ∙ e)) h

-- and one that says no
pub unfound : {s : List ℕ} {at : ℕ} {t : Bool} (o : Option ℕ) (k : ℕ) → Peeks s at (code o) →
    t ≡ option_eq eqb o (Some k) → t ≡ false → Not (Is k) (drop at s)
unfound None k p q e = no_byte p
unfound (Some b) k p q e = peeked_not p (λ i. eqb-false b k (sym q ∙ e) (is_same i))

-- what a test says, from one for the contrary
contrary : {t x : Bool} → t ≡ not x → not t ≡ x
contrary {x = true} q = rw q
contrary {x = false} q = rw q

-- the same of a test for a difference
pub found_same : {s : List ℕ} {at : ℕ} {t : Bool} (o : Option ℕ) (k : ℕ) → k < 256 → Peeks s at (code o) →
    t ≡ not (option_eq eqb o (Some k)) → t ≡ false → Byte k s at
found_same o k h p q e = found o k h p (contrary q) (rw e)

-- the same of one that says yes
pub found_other : {s : List ℕ} {at : ℕ} {t : Bool} (o : Option ℕ) (k : ℕ) → Peeks s at (code o) →
    t ≡ not (option_eq eqb o (Some k)) → t ≡ true → Not (Is k) (drop at s)
found_other o k p q e = unfound o k p (contrary q) (rw e)

-- the answer of a scan
module _ {s : List ℕ} {Yes : List ℕ → Type 0} {No : Fault → List ℕ → Type 0} {p : ℕ} where
  -- past p
  pub said_past : {o : Result ℕ ScanError} → Says s Yes No o → o ≡ Ok p → (p ≤ length s) × Yes (drop p s)
  said_past (says_past {p = q} l k) e = let h : q ≡ p = cc in rw (← h) (l, k)
  said_past (says_broke l k) e = absurd (let z : ◌≡◌ {A = ℕ} 0 1 = cc in omega arith)
  said_past (says_deep l k) e = absurd (let z : ◌≡◌ {A = ℕ} 0 1 = cc in omega arith)

-- an answer to one question is an answer to another
pub says_as : {s : List ℕ} {Yes Yes' : List ℕ → Type 0} {No No' : Fault → List ℕ → Type 0} {o : Result ℕ ScanError} →
    ((r : List ℕ) → Yes r → Yes' r) → ((f : Fault) (r : List ℕ) → No f r → No' f r) → Says s Yes No o → Says s Yes' No' o
says_as g h (says_past l k) = says_past l (g _ k)
says_as g h (says_broke l k) = says_broke l (h _ _ k)
says_as g h (says_deep l k) = says_deep l (h _ _ k)

-- a fault on the way to one answer is a fault of another
err_as : {s : List ℕ} {Yes Yes' : List ℕ → Type 0} {No No' : Fault → List ℕ → Type 0} {o : Result ℕ ScanError}
    {e : ScanError} → ((f : Fault) (r : List ℕ) → No f r → No' f r) → Says s Yes No o → o ≡ Err e →
    Says s Yes' No' (Err e)
err_as h (says_past l k) q = absurd (let z : ◌≡◌ {A = ℕ} 0 1 = cc in omega arith)
err_as h (says_broke l k) q = rw (← q) (says_broke l (h _ _ k))
err_as h (says_deep l k) q = rw (← q) (says_deep l (h _ _ k))

-- what a `?` answers, where it passes a fault on
pub passed : {s : List ℕ} {Yes Yes' : List ℕ → Type 0} {No No' : Fault → List ℕ → Type 0} {e : ScanError}
    (o : Result ℕ ScanError) → IsErrAnd o (λ x. x ≡ e) → Says s Yes No (Err e) →
    ((f : Fault) (r : List ℕ) → No f r → No' f r) → Says s Yes' No' o
passed o q a h = let p = err_from_is_err_and o q in rw (p.1, p.2) (err_as h a refl)

-- what is left got shorter, so the position is later
pub later : (s : List ℕ) (at p : ℕ) → p ≤ length s → length (drop p s) < length (drop at s) → at < p
later s at p l h = let e : length s - p < length s - at = simp (← length-drop) h in omega arith

-- white space is a byte
pub ws_byte : {b : ℕ} → IsWs b → b < 256
ws_byte space = omega arith
ws_byte tab = omega arith
ws_byte line = omega arith
ws_byte return = omega arith

-- a hexadecimal digit is a byte
pub hex_byte : {b : ℕ} → HexDigit b → b < 256
hex_byte (hex_digit l u) = omega arith
hex_byte (hex_upper l u) = omega arith
hex_byte (hex_lower l u) = omega arith

-- what follows a value
module _ {s : List ℕ} {at close p : ℕ} where
  -- a comma, and more
  pub more_at : {o : Result Next ScanError} → AfterSaid s at close o → o ≡ Ok (More p) → MoreAt s at p
  more_at (after_more {p = q} m) e = let h : q ≡ p = cc in rw (← h) m
  more_at (after_end m) e = absurd (let z : ◌≡◌ {A = ℕ} 0 1 = cc in omega arith)
  more_at (after_bad m) e = absurd (let z : ◌≡◌ {A = ℕ} 0 1 = cc in omega arith)

  -- the end
  pub end_at : {o : Result Next ScanError} → AfterSaid s at close o → o ≡ Ok (End p) → EndAt s at close p
  end_at (after_more m) e = absurd (let z : ◌≡◌ {A = ℕ} 0 1 = cc in omega arith)
  end_at (after_end {p = q} m) e = let h : q ≡ p = cc in rw (← h) m
  end_at (after_bad m) e = absurd (let z : ◌≡◌ {A = ℕ} 0 1 = cc in omega arith)

-- neither follows
pub bad_at : {s : List ℕ} {at close : ℕ} {o : Result Next ScanError} {e : ScanError} → AfterSaid s at close o →
    o ≡ Err e → (p : ℕ) × (e ≡ Broke p) × BadAt s at close p
bad_at (after_more m) q = absurd (let z : ◌≡◌ {A = ℕ} 0 1 = cc in omega arith)
bad_at (after_end m) q = absurd (let z : ◌≡◌ {A = ℕ} 0 1 = cc in omega arith)
bad_at (after_bad {p = p} m) q = (p, cc, m)

-- the letter of an exponent is a byte
pub e_byte : {b : ℕ} → IsE b → b < 256
e_byte small = omega arith
e_byte capital = omega arith

-- a sign is a byte
pub sign_byte : {b : ℕ} → IsSign b → b < 256
sign_byte plus = omega arith
sign_byte minus = omega arith

-- an escape is a byte
pub escape_byte : {b : ℕ} → IsEscape b → b < 256
escape_byte quote = omega arith
escape_byte backslash = omega arith
escape_byte slash = omega arith
escape_byte backspace = omega arith
escape_byte feed = omega arith
escape_byte newline = omega arith
escape_byte carriage = omega arith
escape_byte tabulator = omega arith
