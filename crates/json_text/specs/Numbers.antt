-- Laws of numbers: their spelling, that one that goes on as long as it can is unique, and what it is when something
-- else follows.
-- Assumes nothing.
use Rattle.std.specs.Prelude.{ℕ, ◌≡◌, refl, List, [], ◌∷◌, ◌++◌}
use Rattle.std.proofs.Common.{arith, ap, ◌∙◌, append_assoc}
use Rattle.json_text.specs.Tree.{Json}
use Rattle.json_text.specs.Grammar.{Digit, Digits, Int, Some, Frac, IsE, IsSign, Exp, Magnitude, Number}
use Rattle.json_text.specs.Grammar.Digits.{digits_none, digits_more}
use Rattle.json_text.specs.Grammar.Int.{int_zero, int_more}
use Rattle.json_text.specs.Grammar.Some.{some}
use Rattle.json_text.specs.Grammar.Frac.{frac_none, frac_some}
use Rattle.json_text.specs.Grammar.IsE.{small, capital}
use Rattle.json_text.specs.Grammar.IsSign.{plus, minus}
use Rattle.json_text.specs.Grammar.Exp.{exp_none, exp_plain, exp_signed}
use Rattle.json_text.specs.Grammar.Magnitude.{magnitude}
use Rattle.json_text.specs.Grammar.Number.{num_plain, num_minus}
use Rattle.json_text.specs.Faults.{Fault, Not, Is, IntTo, SomeTo, FracTo, ExpTo, TailTo, MagnitudeTo, NumberTo, Stop}
use Rattle.json_text.specs.Faults.{NoSome, NoExp, NoTail, NoMagnitude}
use Rattle.json_text.specs.Faults.Not.{not_end, not_head}
use Rattle.json_text.specs.Faults.Is.{is}
use Rattle.json_text.specs.Faults.IntTo.{to_int_zero, to_int_more}
use Rattle.json_text.specs.Faults.SomeTo.{to_some}
use Rattle.json_text.specs.Faults.FracTo.{to_frac_none, to_frac_some}
use Rattle.json_text.specs.Faults.ExpTo.{to_exp_none, to_exp_plain, to_exp_signed}
use Rattle.json_text.specs.Faults.TailTo.{to_tail}
use Rattle.json_text.specs.Faults.MagnitudeTo.{to_magnitude}
use Rattle.json_text.specs.Faults.NumberTo.{to_plain, to_minus}
use Rattle.json_text.specs.Faults.Stop.{stop_number}
use Rattle.json_text.specs.Faults.NoSome.{some_bad}
use Rattle.json_text.specs.Faults.NoExp.{exp_in, exp_in_signed}
use Rattle.json_text.specs.Faults.NoTail.{tail_in_frac, tail_in_exp}
use Rattle.json_text.specs.Faults.NoMagnitude.{mag_bad, mag_in_tail}

-- a number as long as it can be is a number
pub int_plain : {w ds r : List ℕ} → IntTo w ds r → Int w ds r
int_plain to_int_zero = int_zero
int_plain (to_int_more d h n) = int_more d h

-- one digit or more that is as long as it can be is one of the grammar
some_plain : {w ds r : List ℕ} → SomeTo w ds r → Some w ds r
some_plain (to_some d h n) = some d h

-- a fraction that is as long as it can be is one of the grammar
pub frac_plain : {w ds r : List ℕ} → FracTo w ds r → Frac w ds r
frac_plain (to_frac_none n) = frac_none
frac_plain (to_frac_some h) = frac_some (some_plain h)

-- an exponent that is as long as it can be is one of the grammar
exp_is : {w ds r : List ℕ} → ExpTo w ds r → Exp w ds r
exp_is (to_exp_none n) = exp_none
exp_is (to_exp_plain e h) = exp_plain e (some_plain h)
exp_is (to_exp_signed e i h) = exp_signed e i (some_plain h)

-- a number without its sign that is as long as it can be is one of the grammar
mag_plain : {w ds r : List ℕ} → MagnitudeTo w ds r → Magnitude w ds r
mag_plain (to_magnitude i (to_tail f e)) = magnitude (int_plain i) (frac_plain f) (exp_is e)

-- a number that is as long as it can be is one of the grammar
pub number_plain : {w ds r : List ℕ} → NumberTo w ds r → Number w ds r
number_plain (to_plain h) = num_plain (mag_plain h)
number_plain (to_minus h) = num_minus (mag_plain h)

-- what is read is what is kept
pub digits_spelled : {w ds r : List ℕ} → Digits w ds r → w ≡ ds ++ r
digits_spelled digits_none = refl
digits_spelled (digits_more {d = d} y h) = ap (◌∷◌ d) (digits_spelled h)

-- an integer part is spelled as it is read
int_spelled : {w ds r : List ℕ} → Int w ds r → w ≡ ds ++ r
int_spelled int_zero = refl
int_spelled (int_more {d = d} y h) = ap (◌∷◌ d) (digits_spelled h)

-- one digit or more is spelled as it is read
some_spelled : {w ds r : List ℕ} → Some w ds r → w ≡ ds ++ r
some_spelled (some {d = d} y h) = ap (◌∷◌ d) (digits_spelled h)

-- a fraction is spelled as it is read
frac_spelled : {w ds r : List ℕ} → Frac w ds r → w ≡ ds ++ r
frac_spelled frac_none = refl
frac_spelled (frac_some h) = ap (◌∷◌ 0x2e) (some_spelled h)

-- an exponent is spelled as it is read
exp_spelled : {w ds r : List ℕ} → Exp w ds r → w ≡ ds ++ r
exp_spelled exp_none = refl
exp_spelled (exp_plain {e = e} y h) = ap (◌∷◌ e) (some_spelled h)
exp_spelled (exp_signed {e = e} {i = i} y z h) = ap (λ (l : List ℕ). e ∷ i ∷ l) (some_spelled h)

-- two parts that follow each other
joined : {w a : List ℕ} (x y r : List ℕ) → w ≡ x ++ a → a ≡ y ++ r → w ≡ (x ++ y) ++ r
joined x y r p q = rw append_assoc (p ∙ ap (◌++◌ x) q)

-- a number without its sign is spelled as it is read
mag_spelled : {w ds r : List ℕ} → Magnitude w ds r → w ≡ ds ++ r
mag_spelled (magnitude {is = x} {fs = y} {es = z} {r = r} i f e) =
    joined x (y ++ z) r (int_spelled i) (joined y z r (frac_spelled f) (exp_spelled e))

-- a number is spelled as it is read
pub number_spelled : {w ds r : List ℕ} → Number w ds r → w ≡ ds ++ r
number_spelled (num_plain h) = mag_spelled h
number_spelled (num_minus h) = ap (◌∷◌ 0x2d) (mag_spelled h)

-- a number that is as long as it can be stops
pub stops : {w ds r : List ℕ} → NumberTo w ds r → Stop (Json.number ds) r
stops h = stop_number (rw (number_spelled (number_plain h)) at h)

-- unique
e_digit : {b : ℕ} → IsE b → Digit b → ⊥
e_digit small d = omega arith
e_digit capital d = omega arith

-- a sign is no digit
sign_digit : {b : ℕ} → IsSign b → Digit b → ⊥
sign_digit plus d = omega arith
sign_digit minus d = omega arith

-- the letter of an exponent is no dot
e_dot : {b : ℕ} → IsE b → Is 0x2e b → ⊥
e_dot small i = no i
  where
    no : Is 0x2e 0x65 → ⊥
    no = elim [ ]
e_dot capital i = no i
  where
    no : Is 0x2e 0x45 → ⊥
    no = elim [ ]

-- a run of digits, as long as it can be, is read in one way
pub digits_unique : {w ds es a b : List ℕ} → Digits w ds a → Not Digit a → Digits w es b → Not Digit b → (ds ≡ es) ×
    (a ≡ b)
digits_unique digits_none m digits_none n = (refl, refl)
digits_unique digits_none (not_head f) (digits_more d h) n = absurd (f d)
digits_unique (digits_more d h) m digits_none (not_head f) = absurd (f d)
digits_unique (digits_more d h) m (digits_more e k) n = let u = digits_unique h m k n in (cc, u.1)

-- an integer part, as long as it can be, is read in one way
pub int_unique : {w ds es a b : List ℕ} → IntTo w ds a → IntTo w es b → (ds ≡ es) × (a ≡ b)
int_unique to_int_zero to_int_zero = (refl, refl)
int_unique to_int_zero (to_int_more d h n) = absurd (omega arith)
int_unique (to_int_more d h n) to_int_zero = absurd (omega arith)
int_unique (to_int_more d h n) (to_int_more e k m) = let u = digits_unique h n k m in (cc, u.1)

-- one digit or more, as long as it can be, is read in one way
pub some_unique : {w ds es a b : List ℕ} → SomeTo w ds a → SomeTo w es b → (ds ≡ es) × (a ≡ b)
some_unique (to_some d h n) (to_some e k m) = let u = digits_unique h n k m in (cc, u.1)

-- a fraction, as long as it can be, is read in one way
pub frac_unique : {w ds es a b : List ℕ} → FracTo w ds a → FracTo w es b → (ds ≡ es) × (a ≡ b)
frac_unique (to_frac_none n) (to_frac_none m) = (refl, refl)
frac_unique (to_frac_none (not_head f)) (to_frac_some k) = absurd (f is)
frac_unique (to_frac_some h) (to_frac_none (not_head f)) = absurd (f is)
frac_unique (to_frac_some h) (to_frac_some k) = let u = some_unique h k in (cc, u.1)

-- no digit run starts with a sign
sign_some : {i : ℕ} {w ds r : List ℕ} → IsSign i → SomeTo (i ∷ w) ds r → ⊥
sign_some s (to_some d h n) = sign_digit s d

-- an exponent, as long as it can be, is read in one way
exp_unique : {w ds es a b : List ℕ} → ExpTo w ds a → ExpTo w es b → (ds ≡ es) × (a ≡ b)
exp_unique (to_exp_none n) (to_exp_none m) = (refl, refl)
exp_unique (to_exp_none (not_head f)) (to_exp_plain e k) = absurd (f e)
exp_unique (to_exp_none (not_head f)) (to_exp_signed e i k) = absurd (f e)
exp_unique (to_exp_plain e h) (to_exp_none (not_head f)) = absurd (f e)
exp_unique (to_exp_plain e h) (to_exp_plain y k) = let u = some_unique h k in (cc, u.1)
exp_unique (to_exp_plain e h) (to_exp_signed y i k) = absurd (sign_some i h)
exp_unique (to_exp_signed e i h) (to_exp_none (not_head f)) = absurd (f e)
exp_unique (to_exp_signed e i h) (to_exp_plain y k) = absurd (sign_some i k)
exp_unique (to_exp_signed e i h) (to_exp_signed y z k) = let u = some_unique h k in (cc, u.1)

-- a fraction and an exponent, as long as it can be, is read in one way
tail_unique : {w ds es a b : List ℕ} → TailTo w ds a → TailTo w es b → (ds ≡ es) × (a ≡ b)
tail_unique (to_tail f e) (to_tail g k) =
    let u = frac_unique f g in
    let v = exp_unique e (rw (← u.1) at k) in
    (cc, v.1)

-- a number without its sign, as long as it can be, is read in one way
mag_unique : {w ds es a b : List ℕ} → MagnitudeTo w ds a → MagnitudeTo w es b → (ds ≡ es) × (a ≡ b)
mag_unique (to_magnitude i t) (to_magnitude k s) =
    let u = int_unique i k in
    let v = tail_unique t (rw (← u.1) at s) in
    (cc, v.1)

-- the sign is no part of what follows it
pub mag_minus : {w ds r : List ℕ} → MagnitudeTo (0x2d ∷ w) ds r → ⊥
mag_minus (to_magnitude (to_int_more d h n) t) = omega arith

-- a number, as long as it can be, is read in one way
number_to_unique : {w ds es a b : List ℕ} → NumberTo w ds a → NumberTo w es b → (ds ≡ es) × (a ≡ b)
number_to_unique (to_plain h) (to_plain k) = mag_unique h k
number_to_unique (to_plain h) (to_minus k) = absurd (mag_minus h)
number_to_unique (to_minus h) (to_plain k) = absurd (mag_minus k)
number_to_unique (to_minus h) (to_minus k) = let u = mag_unique h k in (cc, u.1)

-- a number with its stop is as long as it can be
pub to_of : {w ds r : List ℕ} → Number w ds r → Stop (Json.number ds) r → NumberTo w ds r
to_of h (stop_number k) = rw (← number_spelled h) at k

-- a number that stops is read in one way
pub number_unique : {w ds es a b : List ℕ} → Number w ds a → Stop (Json.number ds) a → Number w es b →
    Stop (Json.number es) b → (ds ≡ es) × (a ≡ b)
number_unique h m k n = number_to_unique (to_of h m) (to_of k n)

-- what a number may go on with
pub data Goes : ℕ → Type 0 where
  goes_digit : {b : ℕ} → Digit b → Goes b
  goes_dot : Goes 0x2e
  goes_e : {b : ℕ} → IsE b → Goes b

-- a wider class excludes more
less : {P Q : ℕ → Type 0} {w : List ℕ} → ((b : ℕ) → Q b → P b) → Not P w → Not Q w
less f not_end = not_end
less f (not_head g) = not_head (λ q. g (f _ q))

-- what does not go on is no digit
no_digit : {w : List ℕ} → Not Goes w → Not Digit w
no_digit n = less (λ b d. goes_digit d) n

-- what does not go on is no dot
no_dot : {w : List ℕ} → Not Goes w → Not (Is 0x2e) w
no_dot n = less dot n
  where
    dot : (b : ℕ) → Is 0x2e b → Goes b
    dot _ is = goes_dot

-- what does not go on is no letter of an exponent
no_e : {w : List ℕ} → Not Goes w → Not IsE w
no_e n = less (λ b e. goes_e e) n

-- one digit or more before a byte that does not go on is as long as it can be
some_ends : {w ds r : List ℕ} → Some w ds r → Not Digit r → SomeTo w ds r
some_ends (some d h) n = to_some d h n

-- an exponent before a byte that does not go on is as long as it can be
exp_ends : {w ds r : List ℕ} → Exp w ds r → Not Goes r → ExpTo w ds r
exp_ends exp_none n = to_exp_none (no_e n)
exp_ends (exp_plain e h) n = to_exp_plain e (some_ends h (no_digit n))
exp_ends (exp_signed e i h) n = to_exp_signed e i (some_ends h (no_digit n))

-- what an exponent starts with is no digit and no dot
exp_front : {w ds r : List ℕ} → Exp w ds r → Not Goes r → (Not Digit w) × (Not (Is 0x2e) w)
exp_front exp_none n = (no_digit n, no_dot n)
exp_front (exp_plain e h) n = (not_head (e_digit e), not_head (e_dot e))
exp_front (exp_signed e i h) n = (not_head (e_digit e), not_head (e_dot e))

-- a fraction before a byte that does not go on is as long as it can be
frac_ends : {w ds r : List ℕ} → Frac w ds r → Not Digit r → Not (Is 0x2e) r → FracTo w ds r
frac_ends frac_none n m = to_frac_none m
frac_ends (frac_some h) n m = to_frac_some (some_ends h n)

-- a dot is no digit
dot_digit : Digit 0x2e → ⊥
dot_digit d = omega arith

-- what a fraction starts with is no digit
frac_front : {w ds r : List ℕ} → Frac w ds r → Not Digit r → Not Digit w
frac_front frac_none n = n
frac_front (frac_some h) n = not_head dot_digit

-- an integer part before a byte that does not go on is as long as it can be
int_ends : {w ds r : List ℕ} → Int w ds r → Not Digit r → IntTo w ds r
int_ends int_zero n = to_int_zero
int_ends (int_more d h) n = to_int_more d h n

-- a number without its sign before a byte that does not go on is as long as it can be
mag_ends : {w ds r : List ℕ} → Magnitude w ds r → Not Goes r → MagnitudeTo w ds r
mag_ends (magnitude i f e) n =
    let x = exp_front e n in
    to_magnitude (int_ends i (frac_front f x.0)) (to_tail (frac_ends f x.0 x.1) (exp_ends e n))

-- a number before a byte that does not go on is as long as it can be
pub number_ends : {w ds r : List ℕ} → Number w ds r → Not Goes r → NumberTo w ds r
number_ends (num_plain h) n = to_plain (mag_ends h n)
number_ends (num_minus h) n = to_minus (mag_ends h n)

-- where a number breaks off there is none
pub no_some : {w ds r a : List ℕ} {f : Fault} → NoSome w f r → SomeTo w ds a → ⊥
no_some (some_bad not_end) h = elim h [ ]
no_some (some_bad (not_head g)) (to_some d h n) = g d

-- an exponent that breaks off is none
no_exp : {w ds r a : List ℕ} {f : Fault} → NoExp w f r → ExpTo w ds a → ⊥
no_exp (exp_in e n k) (to_exp_none (not_head g)) = g e
no_exp (exp_in e n k) (to_exp_plain y h) = no_some k h
no_exp (exp_in e (not_head g) k) (to_exp_signed y i h) = g i
no_exp (exp_in_signed e i k) (to_exp_none (not_head g)) = g e
no_exp (exp_in_signed e i k) (to_exp_plain y h) = sign_some i h
no_exp (exp_in_signed e i k) (to_exp_signed y z h) = no_some k h

-- a tail that breaks off is none
no_tail : {w ds r a : List ℕ} {f : Fault} → NoTail w f r → TailTo w ds a → ⊥
no_tail (tail_in_frac k) (to_tail (to_frac_none (not_head g)) e) = g is
no_tail (tail_in_frac k) (to_tail (to_frac_some h) e) = no_some k h
no_tail (tail_in_exp x k) (to_tail h e) = no_exp k (rw (← (frac_unique x h).1) at e)

-- an integer part is not empty
no_int : {ds r : List ℕ} → IntTo [] ds r → ⊥
no_int = elim [ ]

-- a number that breaks off is none
pub no_mag : {w ds r a : List ℕ} {f : Fault} → NoMagnitude w f r → MagnitudeTo w ds a → ⊥
no_mag (mag_bad not_end) (to_magnitude h t) = no_int h
no_mag (mag_bad (not_head g)) (to_magnitude to_int_zero t) = g (omega arith)
no_mag (mag_bad (not_head g)) (to_magnitude (to_int_more d h n) t) = g (omega arith)
no_mag (mag_in_tail x k) (to_magnitude h t) = no_tail k (rw (← (int_unique x h).1) at t)

-- what follows a number may be changed behind its first byte
pub data SameHead : List ℕ → List ℕ → Type 0 where
  same_end : SameHead [] []
  same_head : {b : ℕ} {x y : List ℕ} → SameHead (b ∷ x) (b ∷ y)

-- a class that does not start one list does not start another with the same head
keep : {P : ℕ → Type 0} {a t : List ℕ} → SameHead a t → Not P a → Not P t
keep same_end not_end = not_end
keep same_head (not_head f) = not_head f

-- a common part in front keeps the head
along : (x : List ℕ) {a t : List ℕ} → SameHead a t → SameHead (x ++ a) (x ++ t)
along [] s = s
along (b ∷ x) s = same_head

-- a run of digits before any other rest
digits_on : {w ds r : List ℕ} → Digits w ds r → (t : List ℕ) → Digits (ds ++ t) ds t
digits_on digits_none t = digits_none
digits_on (digits_more d h) t = digits_more d (digits_on h t)

-- an integer part before any other rest
pub int_on : {w ds r : List ℕ} → Int w ds r → (t : List ℕ) → Int (ds ++ t) ds t
int_on int_zero t = int_zero
int_on (int_more d h) t = int_more d (digits_on h t)

-- one digit or more before any other rest
some_on : {w ds r : List ℕ} → Some w ds r → (t : List ℕ) → Some (ds ++ t) ds t
some_on (some d h) t = some d (digits_on h t)

-- a fraction before any other rest
pub frac_on : {w ds r : List ℕ} → Frac w ds r → (t : List ℕ) → Frac (ds ++ t) ds t
frac_on frac_none t = frac_none
frac_on (frac_some h) t = frac_some (some_on h t)

-- an exponent before any other rest
exp_on : {w ds r : List ℕ} → Exp w ds r → (t : List ℕ) → Exp (ds ++ t) ds t
exp_on exp_none t = exp_none
exp_on (exp_plain e h) t = exp_plain e (some_on h t)
exp_on (exp_signed e i h) t = exp_signed e i (some_on h t)

-- a number without its sign before any other rest
mag_on : {w ds r : List ℕ} → Magnitude w ds r → (t : List ℕ) → Magnitude (ds ++ t) ds t
mag_on (magnitude {is = x} {fs = y} {es = z} i f e) t =
    rw (append_assoc x (y ++ z) t, append_assoc y z t)
    (magnitude (int_on i (y ++ (z ++ t))) (frac_on f (z ++ t)) (exp_on e t))

-- a number before any other rest
pub number_on : {w ds r : List ℕ} → Number w ds r → (t : List ℕ) → Number (ds ++ t) ds t
number_on (num_plain h) t = num_plain (mag_on h t)
number_on (num_minus h) t = num_minus (mag_on h t)

-- an integer part is as long as it can be before any rest with the same head
pub int_again : {w ds r : List ℕ} → IntTo w ds r → (t : List ℕ) → SameHead r t → IntTo (ds ++ t) ds t
int_again to_int_zero t s = to_int_zero
int_again (to_int_more d h n) t s = to_int_more d (digits_on h t) (keep s n)

-- one digit or more is as long as it can be before any rest with the same head
some_again : {w ds r : List ℕ} → SomeTo w ds r → (t : List ℕ) → SameHead r t → SomeTo (ds ++ t) ds t
some_again (to_some d h n) t s = to_some d (digits_on h t) (keep s n)

-- a fraction is as long as it can be before any rest with the same head
pub frac_again : {w ds r : List ℕ} → FracTo w ds r → (t : List ℕ) → SameHead r t → FracTo (ds ++ t) ds t
frac_again (to_frac_none n) t s = to_frac_none (keep s n)
frac_again (to_frac_some h) t s = to_frac_some (some_again h t s)

-- an exponent is as long as it can be before any rest with the same head
exp_again : {w ds r : List ℕ} → ExpTo w ds r → (t : List ℕ) → SameHead r t → ExpTo (ds ++ t) ds t
exp_again (to_exp_none n) t s = to_exp_none (keep s n)
exp_again (to_exp_plain e h) t s = to_exp_plain e (some_again h t s)
exp_again (to_exp_signed e i h) t s = to_exp_signed e i (some_again h t s)

-- a fraction and an exponent is as long as it can be before any rest with the same head
tail_again : {w ds r : List ℕ} → TailTo w ds r → (t : List ℕ) → SameHead r t → TailTo (ds ++ t) ds t
tail_again (to_tail {fs = y} {es = z} f e) t s =
    rw (append_assoc y z t)
    (to_tail (frac_again f (z ++ t) (rw (exp_spelled (exp_is e)) (along z s))) (exp_again e t s))

-- a fraction and an exponent is spelled as it is read
tail_spelled : {w ds r : List ℕ} → TailTo w ds r → w ≡ ds ++ r
tail_spelled (to_tail {fs = y} {es = z} {r = r} f e) =
    joined y z r (frac_spelled (frac_plain f)) (exp_spelled (exp_is e))

-- a number without its sign is as long as it can be before any rest with the same head
mag_again : {w ds r : List ℕ} → MagnitudeTo w ds r → (t : List ℕ) → SameHead r t → MagnitudeTo (ds ++ t) ds t
mag_again (to_magnitude {is = x} {ts = y} i h) t s =
    rw (append_assoc x y t) (to_magnitude (int_again i (y ++ t) (rw (tail_spelled h) (along y s))) (tail_again h t s))

-- a number is as long as it can be before any rest with the same head
number_again : {w ds r : List ℕ} → NumberTo w ds r → (t : List ℕ) → SameHead r t → NumberTo (ds ++ t) ds t
number_again (to_plain h) t s = to_plain (mag_again h t s)
number_again (to_minus h) t s = to_minus (mag_again h t s)

-- a number stops before any rest with the same head
pub keep_number : {ds r : List ℕ} (t : List ℕ) → SameHead r t → NumberTo (ds ++ r) ds r → Stop (Json.number ds) t
keep_number t s h = stop_number (number_again h t s)

-- an integer part, as long as it can be, is spelled as it is read
pub int_whole : {w ds r : List ℕ} → IntTo w ds r → w ≡ ds ++ r
int_whole h = int_spelled (int_plain h)

-- a fraction, as long as it can be, is spelled as it is read
pub frac_whole : {w ds r : List ℕ} → FracTo w ds r → w ≡ ds ++ r
frac_whole h = frac_spelled (frac_plain h)

-- what a number starts with
pub number_not : (b : ℕ) {w ds r : List ℕ} → (Digit b → ⊥) → (b ≡ 0x2d → ⊥) → Number (b ∷ w) ds r → ⊥
number_not _ f g (num_plain (magnitude int_zero y z)) = f (omega arith)
number_not _ f g (num_plain (magnitude (int_more d h) y z)) = f (omega arith)
number_not _ f g (num_minus h) = g refl
