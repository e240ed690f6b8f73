-- The answer for a chunk is exact: the smallest rule of 9 to 13 that is broken, with the place where it is.
-- Assumes nothing.
use Rattle.std.specs.Prelude.{Result, Ok, ⊤}
use Prim.Native.Nat.{ℕ, ◌≤◌, ◌<◌}
use mathlib.Core.Path.{◌≡◌, refl, sym, ap, subst}
use mathlib.Core.Bool.{Bool, true, false}
use mathlib.Core.List.{List, []}
use native.Mathlib.Omega.{arith}
use borrow.Author.Tests.{ltb-true, ltb-false, le-ltb}
use lib.Dec.{ltb}
use lib.ListN.{length}
use Rattle.utf8.specs.declared.NotUtf8.{NotUtf8}
use Rattle.utf8.specs.Rfc3629.{Octets}
use Rattle.utf8.specs.Utf8.{utf8_of}
use Rattle.utf8.specs.Exact.{Utf8Says}
use Rattle.utf8.specs.Exact.Utf8Says.{says_whole, says_ends}
use Rattle.utf8.proofs.Exact.{utf8_exact}
use Rattle.json_text.specs.declared.error.TooDeep.{TooDeep}
use Rattle.json_text.specs.declared.error.ScanError.{ScanError}
use Rattle.json_text.specs.Tree.{Json, Fields, depth}
use Rattle.json_text.specs.Grammar.{Text}
use Rattle.json_text.specs.Depth.{peak, depth_of}
use Rattle.json_text.specs.Depth.Mode.{outside}
use Rattle.json_text.specs.Answer.{scan_of}
use Rattle.json_text.specs.Check.{Counted, Checked}
use Rattle.json_text.specs.Check.Counted.{counted_within, counted_passes}
use Rattle.json_text.specs.Check.Checked.{checked_past, checked_broke, checked_deep}
use Rattle.json_text.proofs.Exact.{depth_exact, depth_within, scan_exact, text_unique}
use Rattle.names.specs.declared.Search.{Search}
use Rattle.names.specs.declared.Search.TheVariants.{Clear, Repeats, Full}
use Rattle.names.specs.Rules.{Breaks12, Breaks13}
use Rattle.names.specs.Order.Out.{on, found}
use Rattle.names.specs.Order.{Out, escapes, has, seek_text, place}
use Rattle.names.specs.Names.{escaped_by, repeat_of}
use Rattle.names.specs.Exact.{Rule12, Rule13}
use Rattle.names.specs.Exact.Rule12.{holds12, breaks12}
use Rattle.names.specs.Exact.Rule13.{holds13, breaks13}
use Rattle.names.proofs.Rule12 as r12
use Rattle.names.proofs.Rule13 as r13
use Rattle.text.specs.declared.Fault.{Fault}
use Rattle.text.specs.Rules.{by9, by10, by11, by12, by13, name_fault, text_of}
use Rattle.text.specs.Meaning.{Broken, Exact}
use Rattle.text.specs.Meaning.Broken.{rule9, rule10, rule11, rule12, rule13}
use Rattle.text.specs.Meaning.BrokenAt.{at9, at10, at11, at12, at13}
use Rattle.text.specs.Meaning.Exact.{accepted, refused}

-- what holds of a chunk that passes the rules up to one: no rule up to it is broken
abbrev Clean : List ℕ → ℕ → Type 0
Clean s n = (m : ℕ) → m < n → Broken s m → ⊥

-- the rules are numbered from 9 to 13
clean9 : (s : List ℕ) → Clean s 9
clean9 s m l (rule9 f) = omega arith
clean9 s m l (rule10 f) = omega arith
clean9 s m l (rule11 f) = omega arith
clean9 s m l (rule12 d f) = omega arith
clean9 s m l (rule13 d f) = omega arith

-- with rule 9
clean10 : (s : List ℕ) → Octets s [] → Clean s 10
clean10 s o m l (rule9 f) = f o
clean10 s o m l (rule10 f) = omega arith
clean10 s o m l (rule11 f) = omega arith
clean10 s o m l (rule12 d f) = omega arith
clean10 s o m l (rule13 d f) = omega arith

-- with rules 9 and 10
clean11 : (s : List ℕ) → Octets s [] → peak outside 0 s ≤ 32 → Clean s 11
clean11 s o p m l (rule9 f) = f o
clean11 s o p m l (rule10 f) = omega arith
clean11 s o p m l (rule11 f) = omega arith
clean11 s o p m l (rule12 d f) = omega arith
clean11 s o p m l (rule13 d f) = omega arith

-- with rules 9 to 11
clean12 : (s : List ℕ) (ms : Fields) → Octets s [] → peak outside 0 s ≤ 32 → Text s (Json.object ms) → Clean s 12
clean12 s ms o p x m l (rule9 f) = f o
clean12 s ms o p x m l (rule10 f) = omega arith
clean12 s ms o p x m l (rule11 f) = f ms x
clean12 s ms o p x m l (rule12 d f) = omega arith
clean12 s ms o p x m l (rule13 d f) = omega arith

-- a text says one tree, so what its tree does not break it does not
clean13 : (s : List ℕ) (ms : Fields) → Clean s 12 → Text s (Json.object ms) → (Breaks12 (Json.object ms) → ⊥) → Clean s 13
clean13 s ms c x none m l (rule9 f) = c 9 (omega arith) (rule9 f)
clean13 s ms c x none m l (rule10 f) = c 10 (omega arith) (rule10 f)
clean13 s ms c x none m l (rule11 f) = c 11 (omega arith) (rule11 f)
clean13 s ms c x none m l (rule12 d f) = none (subst Breaks12 (text_unique d x) f)
clean13 s ms c x none m l (rule13 d f) = omega arith

-- with all of them
clean_all : (s : List ℕ) (ms : Fields) → Clean s 13 → Text s (Json.object ms) → (Breaks13 (Json.object ms) → ⊥) → (n : ℕ) → Broken s n → ⊥
clean_all s ms c x none n (rule9 f) = c 9 (omega arith) (rule9 f)
clean_all s ms c x none n (rule10 f) = c 10 (omega arith) (rule10 f)
clean_all s ms c x none n (rule11 f) = c 11 (omega arith) (rule11 f)
clean_all s ms c x none n (rule12 d f) = c 12 (omega arith) (rule12 d f)
clean_all s ms c x none n (rule13 d f) = none (subst Breaks13 (text_unique d x) f)

-- rule 13, on a text that passes the others
by13_exact : (s : List ℕ) (ms : Fields) (x : Text s (Json.object ms)) → depth (Json.object ms) ≤ 32 → Clean s 13
    → (u : Search) → u ≡ place s (seek_text has x) → Rule13 (Json.object ms) u → Exact s (by13 u)
by13_exact s ms x l c (Clear q) o (holds13 f) = accepted x l (clean_all s ms c x f)
by13_exact s ms x l c Full o h = elim h [ ]
by13_exact s ms x l c (Repeats p q) o (breaks13 f) = refused (rule13 x f) c (at13 x (sym o))

-- rule 12, and then rule 13
by12_exact : (s : List ℕ) (ms : Fields) (x : Text s (Json.object ms)) → Clean s 12
    → (v : Out) → v ≡ seek_text escapes x → Rule12 (Json.object ms) (escaped_by (place s v)) → (next : Fault)
    → (Clean s 13 → Exact s next) → Exact s (by12 (escaped_by (place s v)) next)
by12_exact s ms x c (on q) o (holds12 f) next k = k (clean13 s ms c x f)
by12_exact s ms x c (found v q) o (breaks12 f) next k = refused (rule12 x f) c (at12 x (ap (place s) (sym o)))

-- rules 12 and 13 of a text
names_exact : (s : List ℕ) (ms : Fields) → length s ≤ 65536 → Text s (Json.object ms) → depth (Json.object ms) ≤ 32 → Clean s 12
    → Exact s (name_fault s)
unfolding name_fault
names_exact s ms short x l c =
    rw (r12.in_order x)
    (by12_exact s ms x c (seek_text escapes x) refl (rw (r12.in_order x) at (r12.rule12 x)) (by13 (repeat_of s))
    (λ d. by13_exact s ms x l d (repeat_of s) (r13.in_order x short l) (r13.rule13 x short l)))

-- rule 11, where rule 10 holds
by11_exact : (s : List ℕ) → length s ≤ 65536 → Octets s [] → peak outside 0 s ≤ 32 → depth_of 32 s ≡ Ok tt
    → (r : Result ℕ ScanError) → Checked s 32 r → Exact s (by11 r (name_fault s))
by11_exact s short o p w r (checked_past {ms = ms} x l) = names_exact s ms short x l (clean12 s ms o p x)
by11_exact s short o p w r (checked_broke long) = refused (rule11 long.none) (clean11 s o p) (at11 long)
by11_exact s short o p w r (checked_deep e none) = absurd (let z : ◌≡◌ {A = ℕ} 0 1 = cc in omega arith)

-- rule 10
by10_exact : (s : List ℕ) → length s ≤ 65536 → Octets s [] → (d : Result ⊤ TooDeep) → depth_of 32 s ≡ d → Counted s 32 d
    → Exact s (by10 d (by11 (scan_of 32 s) (name_fault s)))
by10_exact s short o d e (counted_within p) = by11_exact s short o p e (scan_of 32 s) (scan_exact 32 s)
by10_exact s short o d e (counted_passes l a b) =
    refused (rule10 (passed (ltb 32 (peak outside 0 s)) refl)) (clean10 s o) (at10 l a b)
  where
    passed : (t : Bool) → ltb 32 (peak outside 0 s) ≡ t → 32 < peak outside 0 s
    passed true u = ltb-true 32 (peak outside 0 s) u
    passed false u =
        absurd (let w = (depth_within 32 s).1 (ltb-false 32 (peak outside 0 s) u) in
        let z : ◌≡◌ {A = ℕ} 0 1 = cc in omega arith)

-- rule 9
by9_exact : (s : List ℕ) → length s ≤ 65536 → (u : Result ⊤ NotUtf8) → Utf8Says s u
    → Exact s (by9 u (by10 (depth_of 32 s) (by11 (scan_of 32 s) (name_fault s))))
by9_exact s short u (says_whole o) = by10_exact s short o (depth_of 32 s) refl (depth_exact 32 s)
by9_exact s short u (says_ends none l long) = refused (rule9 none) (clean9 s) (at9 l long)

-- a chunk that passes rule 8
pub text_exact : (s : List ℕ) → length s ≤ 65536 → Exact s (text_of s)
unfolding text_of
text_exact s short = rw (le-ltb 65536 (length s) short) (by9_exact s short (utf8_of s) (utf8_exact s))
