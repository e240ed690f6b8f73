-- What Ok and Err say of the flag.
-- Assumes nothing.
use Prim.Native.Nat.{ℕ, ◌<◌}
use mathlib.Core.Path.{◌≡◌, refl, sym}
use mathlib.Core.Bool.{Bool, true, false, true≢false}
use Rattle.std.specs.Prelude.{Result, Ok, Err}
use Rattle.std.proofs.lemmas.Result.{IfOk-at_ok}
use native.Mathlib.Omega.{arith}
use mathlib.Core.List.{List, [], ◌∷◌, ◌++◌}
use lib.ListN.{length}
use mathlib.Core.Option.{Option, some, none}
use Rattle.std.specs.Prelude.{Some, None, ok_or, unwrap_or, is_some, cond, IsErr}
use Rattle.std.specs.Prelude as P
use Rattle.std.specs.Option.{UnwrapsOrElse}
use Rattle.json_text.specs.Tree.{Json}
use Rattle.nav.specs.Places.{Stands}
use Rattle.nav.specs.Members.{PastTo}
use Rattle.nav.specs.Integers.{integer_of}
use Rattle.document.specs.declared.members.Unfit.{Unfit}
use Rattle.tables.specs.declared.Sparse.{Sparse}
use Rattle.tables.specs.Records.{no_sparse}
use Rattle.document.specs.Sparse.{sparse_member}
use Rattle.document.specs.Members.{integer_member, number_of}
use Rattle.document.specs.Results.{kept, holding, number_kept, ReadsTo, TakesTo}

-- on Ok rule 16 holds, and the value is that
pub kept_ok : {A : Type 0} {b : Bool} {v x : A} {r : Result A Unfit} → r ≡ kept b v → r ≡ Ok x → (b ≡ true) × (v ≡ x)
kept_ok {b = true} e d = (refl, grind arith)
kept_ok {b = false} e d = absurd (grind arith)

-- on Err it doesn't
pub kept_err : {A : Type 0} {b : Bool} (v : A) {u : Unfit} {r : Result A Unfit} → r ≡ kept b v → r ≡ Err u → b ≡ false
kept_err {b = true} v e d = absurd (grind arith)
kept_err {b = false} v e d = refl

-- an answer with what a lent place holds: on Ok, ..
pub held_ok : {A B : Type 0} (f : A → B) {x : A} {r : Result A Unfit} → r ≡ Ok x → holding f r ≡ Ok (f x)
held_ok f d = rw d refl

-- .. and on Err
pub held_err : {A B : Type 0} (f : A → B) {u : Unfit} {r : Result A Unfit} → r ≡ Err u → holding f r ≡ Err u
held_err f d = rw d refl

-- the one error
abbrev pub unfit : Unfit
unfit = record {}

-- an answer that is an Err
pub failed : {A : Type 0} {r : Result A Unfit} → IsErr r → r ≡ Err unfit
failed {r = Ok x} i = absurd (true≢false (sym i))
failed {r = Err u} i = refl

-- an integer that is there
pub integer_ok : (n : P.Option ℕ) {r : Result ℕ Unfit} {v : ℕ} → r ≡ ok_or n unfit → r ≡ Ok v
    → Ok (Some v) ≡ number_kept (number_of n)
integer_ok (Some p) {v = v} e d = let x : p ≡ v = grind arith in rw x refl
integer_ok None e d = absurd (grind arith)

-- a value that is none
pub integer_err : (n : P.Option ℕ) {r : Result ℕ Unfit} {u : Unfit} → r ≡ ok_or n unfit → r ≡ Err u
    → Err unfit ≡ number_kept (number_of n)
integer_err (Some p) e d = absurd (grind arith)
integer_err None e d = refl

-- a required integer that fails as one that may be absent
pub required_err : (o : Option Json) {r : Result (P.Option ℕ) Unfit} {u : Unfit} → r ≡ number_kept (integer_member false o)
    → r ≡ Err u → (integer_member true o).good ≡ false
unfolding integer_member
required_err none e d = refl
required_err (some j) e d = by (integer_of j) e d
  where
    by : (n : P.Option ℕ) {r : Result (P.Option ℕ) Unfit} {u : Unfit} → r ≡ number_kept (number_of n) → r ≡ Err u
        → (number_of n).good ≡ false
    by (Some n) e d = absurd (grind arith)
    by None e d = refl

-- and one that is read so
pub required_ok : (o : Option Json) {r : Result (P.Option ℕ) Unfit} {x : P.Option ℕ}
    → r ≡ number_kept (integer_member false o) → r ≡ Ok x
    → ok_or x unfit ≡ kept (integer_member true o).good (integer_member true o).value
unfolding integer_member
required_ok none e d = by (grind arith)
  where
    by : {x : P.Option ℕ} → x ≡ None → ok_or x unfit ≡ Err unfit
    by e = rw e refl
required_ok (some j) e d = by (integer_of j) e d
  where
    some_is : {x : P.Option ℕ} {n : ℕ} → x ≡ Some n → ok_or x unfit ≡ Ok n
    some_is e = rw e refl

    by : (n : P.Option ℕ) {r : Result (P.Option ℕ) Unfit} {x : P.Option ℕ} → r ≡ number_kept (number_of n) → r ≡ Ok x
        → ok_or x unfit ≡ kept (number_of n).good (number_of n).value
    by (Some n) e d = some_is (grind arith)
    by None e d = absurd (grind arith)

-- an integer that may be absent, by what is read of it
pub number_value : (o : Option Json) {x : P.Option ℕ}
    → cond (integer_member false o).has (Some (integer_member false o).value) None ≡ x
    → (unwrap_or x 0 ≡ (integer_member false o).value) × (is_some x ≡ (integer_member false o).has)
unfolding integer_member
number_value none e = rw (← e) (refl, refl)
number_value (some j) e = rw (← e) (by (integer_of j))
  where
    by : (n : P.Option ℕ) → (unwrap_or (cond (number_of n).has (Some (number_of n).value) None) 0 ≡ (number_of n).value)
        × (is_some (cond (number_of n).has (Some (number_of n).value) None) ≡ (number_of n).has)
    by (Some n) = (refl, refl)
    by None = (refl, refl)

-- a sparse part
pub sparse_value : (o : Option Json) {x : P.Option Sparse}
    → cond (sparse_member o).has (Some (sparse_member o).sparse) None ≡ x
    → (unwrap_or x no_sparse ≡ (sparse_member o).sparse) × (is_some x ≡ (sparse_member o).has)
unfolding sparse_member
sparse_value none e = rw (← e) (refl, refl)
sparse_value (some j) e = rw (← e) (refl, refl)

-- and the unused record where there is none
pub sparse_default : {IsDefault : Sparse → Type 0} (x : P.Option Sparse) {r : Sparse}
    → ((y : Sparse) → IsDefault y → y ≡ no_sparse) → UnwrapsOrElse x IsDefault r → r ≡ unwrap_or x no_sparse
sparse_default (Some y) h e = e
sparse_default None {r} h e = h r e

module _ {A : Type 0} {s w : List ℕ} {fits : Json → Bool} {says : Json → A} where
  -- a value that is unfit
  pub reads_err : {r : Result (A × ℕ) Unfit} → IsErr r → ((j : Json) → Stands w j → fits j ≡ false) → ReadsTo s w r fits says
  reads_err {r = Ok x} i f = absurd (true≢false (sym i))
  reads_err {r = Err u} i f = record { past = tt; said = λ j t. (tt, sym (f j t)) }

  -- a value that is fit
  pub reads_ok : {v : A} {p : ℕ} → 0 < p → PastTo s w p → ((j : Json) → Stands w j → (fits j ≡ true) × (v ≡ says j))
      → ReadsTo s w (Ok (v, p)) fits says
  reads_ok h x f = record { past = (h, x); said = λ j t. let g = f j t in (g.1, sym g.0) }

-- an element that is fit is kept behind the others
pub takes_ok : {A B : Type 0} {s w : List ℕ} {count : ℕ} {old new : A} {fits : Json → Bool} (says : Json → B)
    {keeps : List Json → A} {r : Result (B × ℕ) Unfit} {v : B} {p : ℕ} → ReadsTo s w r fits says → r ≡ Ok (v, p)
    → ((j : Json) (js : List Json) → count ≡ length js → old ≡ keeps js → v ≡ says j → new ≡ keeps (js ++ (j ∷ [])))
    → TakesTo s w count old new (Ok p) fits keeps
takes_ok says t d f =
    record {
      past = IfOk-at_ok _ d t.past;
      good = λ j h. rw d at (t.said j h).1;
      more = λ j js h c e. f j js c e (IfOk-at_ok _ d (t.said j h).0);
    }
