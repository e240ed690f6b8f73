-- What `read` answers after the check of the text. Assumes nothing.
use mathlib.Core.Path.{◌≡◌, refl, ap, ◌∙◌}
use mathlib.Core.List.{List}
use lib.ListN.{drop}
use Prim.Native.Nat.{ℕ}
use native.Mathlib.Omega.{arith}
use lib.Dec.{eqb}
use borrow.Author.Tests.{ne_eqb, eqb-true, eqb-false}
use Rattle.std.specs.Prelude.{Result, Ok, Err, ⊤}
use Rattle.laws.proofs.Tests.{by_test}
use Rattle.text.specs.declared.Fault.{Fault}
use Rattle.text.specs.Rules.{text_of}
use Rattle.text.specs.Results.{outcome_of}
use Rattle.json_text.specs.Tree.{Json}
use Rattle.nav.specs.Places.{Stands, start_of}
use Rattle.document.specs.declared.Document.{Document}
use Rattle.document.specs.Said.{document_of, document_in, refused}
use Rattle.document.specs.Tops.{document_answer}
use Rattle.document.proofs.Chunks.{chunk_stands}
use Rattle.document.proofs.Tops.{refused_answer}

-- the fault of an Err
abbrev fault_of : Fault → Result ⊤ Fault → Fault
fault_of z (Ok u) = z
fault_of z (Err f) = f

-- a chunk that breaks one of rules 9 to 13
text_err : (x f : Fault) → outcome_of x ≡ Err f → (x ≡ f) × (x.number ≡ 0 → ⊥)
text_err x f e =
    by_test (eqb x.number 0)
    (λ t. let z : ◌≡◌ {A = Result ⊤ Fault} (Ok tt) (Err f) = rw t at e in absurd (grind arith))
    (λ t. let y : ◌≡◌ {A = Result ⊤ Fault} (Err x) (Err f) = rw t at e in (ap (fault_of x) y, eqb-false x.number 0 t))

-- the document of a chunk that breaks one
text_refused : (s : List ℕ) (f : Fault) → text_of s ≡ f → (f.number ≡ 0 → ⊥) → document_of s ≡ refused f.number f.place
unfolding document_of
text_refused s f e h = rw (e, ne_eqb f.number 0 h) refl

-- with the fault that the text has
pub read_refused : (s : List ℕ) (f : Fault) → outcome_of (text_of s) ≡ Err f → document_answer (document_of s) ≡ Err f
read_refused s f e =
    let x = text_err (text_of s) f e in
    ap document_answer (text_refused s f x.0 (rw x.0 at x.1)) ∙ refused_answer f.number f.place (rw x.0 at x.1)

-- one that breaks none
text_ok : (x : Fault) {u : ⊤} → outcome_of x ≡ Ok u → x.number ≡ 0
text_ok x {u} e =
    by_test (eqb x.number 0)
    (λ t. eqb-true x.number 0 t)
    (λ t. let z : ◌≡◌ {A = Result ⊤ Fault} (Err x) (Ok u) = rw t at e in absurd (grind arith))

-- where the text breaks none of these rules, what the top says of the tree at the start of the text
pub read_said : (s : List ℕ) {u : ⊤} {r : Result Document Fault} → outcome_of (text_of s) ≡ Ok u
    → ((j : Json) → Stands (drop (start_of s) s) j → r ≡ document_answer (document_in j)) → r ≡ document_answer (document_of s)
unfolding document_of
read_said s e t =
    let n = text_ok (text_of s) e in
    let k = chunk_stands s n in
    rw (n, k.1) (t _ k.2)
