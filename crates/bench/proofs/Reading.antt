-- That the first 65,537 bytes of an input decide its answer. Assumes nothing.
use Rattle.std.specs.Prelude.{◌≡◌, ℕ, ◌≤◌, ◌<◌, Option, None, Some, IfSome, List, length, take, Result, Ok, Err, MatchResult, IfOk, OnOk, true, false}
use Rattle.std.specs.Result.{is_ok}
use Rattle.std.proofs.Common.{refl, sym, ap, ◌∙◌, subst, inl, inr, arith}
use Rattle.std.proofs.lemmas.List.{length-append, length-take-le}
use Rattle.std.proofs.Math.Nat.{eq-or-lt_of_le}
use Rattle.std.specs.Io.KnownBytes.{Appends, Consumes, IsAtEnd}
use Rattle.std.proofs.KnownBytes.{Consumes-whole}
use Rattle.bench.specs.Bench.{answer_of, Within}
use Rattle.bench.proofs.Answers.{answer_long}

-- more than 65,536 bytes came: the message, whatever follows them
long : (a b : Option (List ℕ)) (bs : List ℕ) → 65536 < length bs → Consumes a b bs → IfSome a (λ file. answer_of bs ≡ answer_of file)
long None b bs h p = tt
long (Some file) None bs h p = absurd p
long (Some file) (Some rest) bs h p =
    let more : 65536 < length file = rw p (simp length-append (omega (arith, h))) in
    answer_long bs h ∙ sym (answer_long file more)

-- the bytes that came are answered as the input
pub read_answer : (a b : Option (List ℕ)) (n : ℕ) (buffer : List ℕ) → 65537 ≡ length buffer → n ≤ length buffer
    → Consumes a b (take n buffer) → (n < length buffer → IsAtEnd b) → IfSome a (λ file. answer_of (take n buffer) ≡ answer_of file)
read_answer a b n buffer l h p end =
    let bs = take n buffer in
    let many = length-take-le n buffer h in
    elim (eq-or-lt_of_le h) [
      | inl e ↦ long a b bs (omega (arith, e, l, many)) p
      | inr less ↦ Consumes-whole a b bs (λ file. answer_of bs ≡ answer_of file) p (end less) refl
    ]

-- what was written for these bytes was written for the input
pub answer_kept : (a old new : Option (List ℕ)) (bs : List ℕ) → IfSome a (λ file. answer_of bs ≡ answer_of file)
    → Appends old new (answer_of bs) → IfSome a (λ file. Appends old new (answer_of file))
answer_kept None old new bs s w = tt
answer_kept (Some file) old new bs s w = subst (Appends old new) s w

-- true is not false
bool_differ : false ≡ true → ⊥
bool_differ e = cc

-- what two results hold
ok_same : {T E : Type 0} {x y : T} {r : Result T E} → r ≡ Ok x → r ≡ Ok y → x ≡ y
ok_same e f = cc

-- the reply to the bytes that came is the reply to the input, whatever names the failures got
pub replied : {E D F G : Type 0} (a b old new : Option (List ℕ)) (buffer : List ℕ) (r : Result ℕ E) (m : Result ℕ D) (n : ℕ)
    (q : Result (Unit {0}) F) (w : Result (Unit {0}) G)
    → 65537 ≡ length buffer → is_ok m ≡ is_ok r → (P : E → Type 0) → MatchResult r (λ x. m ≡ Ok x) P → m ≡ Ok n
    → Within r buffer → IfOk r (λ k. Consumes a b (take k buffer)) → IfOk r (λ k. k < length buffer → IsAtEnd b)
    → OnOk q (Appends old new (answer_of (take n buffer))) → is_ok w ≡ is_ok q
    → OnOk w (IfSome a (λ file. Appends old new (answer_of file)))
replied a b old new buffer r m n q (Err e) l v P d f h p end y z = tt
replied a b old new buffer r m n (Err e) (Ok u) l v P d f h p end y z = absurd (bool_differ (sym z))
replied a b old new buffer (Err e) m n (Ok t) (Ok u) l v P d f h p end y z = absurd (bool_differ (sym v ∙ ap is_ok f))
replied a b old new buffer (Ok x) m n (Ok t) (Ok u) l v P d f h p end y z =
    let e : x ≡ n = ok_same d f in
    answer_kept a old new (take n buffer) (subst (λ k. IfSome a (λ file. answer_of (take k buffer) ≡ answer_of file)) e (read_answer a b x buffer l h p end)) y
