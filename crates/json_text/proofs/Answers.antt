-- The answer of the scan is the function's: a text is read in one way only, and it breaks off at one place only.
-- Assumes nothing.
use Prim.Native.Nat.{ℕ, ◌-◌, ◌≤◌}
use native.Mathlib.Nat.{lt_irrefl, lt_of_lt_of_le}
use native.Mathlib.Omega.{arith}
use mathlib.Core.Path.{◌≡◌, refl, sym, ap}
use mathlib.Core.Bool.{false}
use mathlib.Core.List.{List, [], ◌∷◌}
use borrow.Author.Tests.{ne_eqb}
use lib.Dec.{eqb}
use lib.ListN.{length, drop, length-drop}
use Rattle.std.proofs.Common.{Result, Ok, Err}
use Rattle.json_text.specs.declared.error.ScanError.{ScanError}
use Rattle.json_text.specs.declared.error.ScanError.TheVariants.{Broke, Deep}
use Rattle.json_text.specs.Grammar.{IsWs, Ws}
use Rattle.json_text.specs.Faults.{Not, Is, NoText}
use Rattle.json_text.specs.Faults.Fault.{broke, deep}
use Rattle.json_text.specs.Faults.Is.{is}
use Rattle.json_text.specs.Faults.Not.{not_end, not_head}
use Rattle.json_text.specs.Scans.{TextSaid}
use Rattle.json_text.specs.Scans.Says.{says_past, says_broke, says_deep}
use Rattle.json_text.specs.Parse.{Got, TextOk, text_run, ws_run, past_ws}
use Rattle.json_text.specs.Parse.Got.{got, lost}
use Rattle.json_text.specs.Answer.{first, answer, scan_of}
use Rattle.json_text.proofs.Unique.{ws_unique}
use Rattle.json_text.proofs.Excluded.{broke_none, deep_deeper}
use Rattle.json_text.proofs.OneFault.{text_same}

-- a position is known by what follows it
pub position : (s r : List ℕ) (p : ℕ) → p ≤ length s → drop p s ≡ r → p ≡ length s - length r
position s r p l e = omega (arith, simp length-drop at (ap length e))

-- a fault that broke is none of the other kind
pub apart : broke ≡ deep → ⊥
apart e = let z : ◌≡◌ {A = ℕ} 0 1 = cc in omega arith

-- the scan of a text and the parser agree
pub agree : {n : ℕ} {s : List ℕ} {o : Result ℕ ScanError} → TextSaid s n o → (g : Got (TextOk n s) (NoText n s)) → o ≡ answer s g
agree {s = s} (says_past {p = p} l k) (got r m) = ap Ok (omega (arith, position s [] p l k.3))
agree (says_past l k) (lost broke r m) = absurd (broke_none m k.1)
agree (says_past l k) (lost deep r m) = absurd (lt_irrefl _ (lt_of_lt_of_le (deep_deeper m k.1) k.2))
agree (says_broke l k) (got r m) = absurd (broke_none k m.1)
agree {s = s} (says_broke {p = p} l k) (lost broke r m) = ap Err (ap Broke (position s r p l (text_same k m).place))
agree (says_broke l k) (lost deep r m) = absurd (apart (text_same k m).kind)
agree (says_deep l k) (got r m) = absurd (lt_irrefl _ (lt_of_lt_of_le (deep_deeper k m.1) m.2))
agree (says_deep l k) (lost broke r m) = absurd (apart (sym (text_same k m).kind))
agree {s = s} (says_deep {p = p} l k) (lost deep r m) = ap Err (ap Deep (position s r p l (text_same k m).place))

-- what follows the white space
pub past : {w v : List ℕ} → Ws w v → Not IsWs v → past_ws w ≡ v
unfolding past_ws
past {w = w} x n = let k = ws_run w in ws_unique k.1 k.2 x n

-- and that it follows
pub past_says : (w : List ℕ) → Ws w (past_ws w) × Not IsWs (past_ws w)
unfolding past_ws
past_says w = let k = ws_run w in (k.1, k.2)

-- { comes first
pub scan_brace : (n : ℕ) {s v : List ℕ} → Ws s (0x7b ∷ v) → Not IsWs (0x7b ∷ v) → scan_of n s ≡ answer s (text_run n s)
unfolding scan_of
scan_brace n x q = rw (past x q)

-- the first byte is no {
not_brace : {v : List ℕ} → Not (Is 0x7b) v → eqb (first v) 0x7b ≡ false
not_brace not_end = refl
not_brace (not_head {b = b} f) = ne_eqb b 0x7b (λ e. f (rw e is))

-- another byte comes first, or none
pub scan_other : (n : ℕ) {s v : List ℕ} → Ws s v → Not IsWs v → Not (Is 0x7b) v →
    scan_of n s ≡ Err (Broke (length s - length v))
unfolding scan_of
scan_other n x q f = rw (past x q, not_brace f)
