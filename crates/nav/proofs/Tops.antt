-- The value of an accepted text stands at its first place that holds no white space.
-- Assumes nothing.
use Prim.Native.Nat.{ℕ, ◌≤◌}
use mathlib.Core.Path.{◌≡◌, refl}
use mathlib.Core.List.{List}
use mathlib.Core.Option.{Option, some, none}
use lib.ListN.{length, drop}
use Rattle.std.specs.Prelude.{Ok}
use Rattle.json_text.specs.Tree.{Json, Fields, depth}
use Rattle.json_text.specs.Grammar.{Text}
use Rattle.json_text.specs.Grammar.Text.{text}
use Rattle.json_text.specs.Parse.{tree_of}
use Rattle.json_text.specs.Answer.{scan_of}
use Rattle.nav.specs.Places.{Stands, start_of, object_of}
use Rattle.json_text.proofs.Unique.{value_no_ws, at_end}
use Rattle.json_text.proofs.Cuts.{ws_reads}
use Rattle.json_text.proofs.Tops.{place}
use Rattle.json_text.proofs.Answers.{past}
use Rattle.json_text.proofs.Checks.{checked, past_says}
use Rattle.json_text.proofs.Tree.{tree_complete}
use Rattle.json_text.proofs.Exact.{scan_tree}

-- the value of a text, at its start
top_stands : {s : List ℕ} {j : Json} → Text s j → depth j ≤ 32 → Stands (drop (start_of s) s) j
top_stands {s = s} (text {a = a} {b = b} x v y) d =
    let p = place s a (ws_reads x).cut in
    rw (past x (value_no_ws v), p.1) (record { rest = b; reads = v; stop = at_end v y; shallow = d })

-- an accepted text: its tree is an object, which stands at its start
pub accepted : (s : List ℕ) (p : ℕ) → scan_of 32 s ≡ Ok p →
    (ms : Fields) × (tree_of 32 s ≡ some (Json.object ms)) × Stands (drop (start_of s) s) (Json.object ms)
accepted s p e =
    let k = past_says (checked 32 s) e in
    (k.1, tree_complete 32 s (Json.object k.1) k.2 k.3, top_stands k.2 k.3)

-- a refused text has no tree that is an object
pub refused : (s : List ℕ) → ((p : ℕ) → scan_of 32 s ≡ Ok p → ⊥) → object_of (tree_of 32 s) ≡ none
refused s f = by (tree_of 32 s) refl
  where
    by : (o : Option Json) → tree_of 32 s ≡ o → object_of o ≡ none
    by none e = refl
    by (some Json.null) e = refl
    by (some Json.true) e = refl
    by (some Json.false) e = refl
    by (some (Json.number ds)) e = refl
    by (some (Json.string cs)) e = refl
    by (some (Json.array js)) e = refl
    by (some (Json.object ms)) e = absurd (f (length s) ((scan_tree 32 s).1 ms e))
