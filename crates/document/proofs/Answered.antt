-- What `read` answers keeps all that the definition says of a chunk.
-- Assumes nothing.
use Prim.Native.Nat.{ℕ}
use mathlib.Core.Path.{◌≡◌, refl, sym, ap, ◌∙◌}
use mathlib.Core.List.{List}
use lib.Dec.{eqb}
use borrow.Author.Tests.{eqb-true, eqb-false}
use Rattle.laws.proofs.Tests.{by_test}
use Rattle.json_text.specs.Tree.{Json}
use Rattle.text.specs.Rules.{text_of}
use Rattle.graph.proofs.Answered.{fault_back, graph_whole}
use Rattle.document.specs.Rules.{document_rule}
use Rattle.document.specs.Said.{nodes, scenes, graph_of, refused, said, document_in, document_of}
use Rattle.document.specs.Tops.{document_answer, document_from}
use Rattle.document.proofs.Chunks.{chunk_stands}
use Rattle.document.proofs.Tops.{refused_answer}

-- of a refusal
refused_back : (n p : ℕ) → (n ≡ 0 → ⊥) → document_from (document_answer (refused n p)) ≡ refused n p
refused_back n p h = ap document_from (refused_answer n p h)

-- of what an object says
said_back : (j : Json) → document_from (document_answer (said j)) ≡ said j
unfolding said
said_back j = rw (fault_back (graph_of j) (graph_whole (nodes j) (scenes j))) refl

-- of an object
in_back : (j : Json) → document_from (document_answer (document_in j)) ≡ document_in j
unfolding document_in
in_back j =
    by_test (eqb (document_rule j) 0)
    (λ t. rw t (said_back j))
    (λ t. rw t (refused_back (document_rule j) 0 (eqb-false (document_rule j) 0 t)))

-- of a chunk
pub document_back : (s : List ℕ) → document_from (document_answer (document_of s)) ≡ document_of s
unfolding document_of
document_back s =
    by_test (eqb (text_of s).number 0)
    (λ t. let k = chunk_stands s (eqb-true (text_of s).number 0 t) in rw (t, k.1) (in_back _))
    (λ t. rw t (refused_back (text_of s).number (text_of s).place (eqb-false (text_of s).number 0 t)))

-- so chunks of which it says different things are answered differently
pub document_answer_injective : (s t : List ℕ) → document_answer (document_of s) ≡ document_answer (document_of t)
    → document_of s ≡ document_of t
document_answer_injective s t e = sym (document_back s) ∙ ap document_from e ∙ document_back t
