-- `json_text::string::hex` meets its contract.
-- Assumes nothing.
use Rattle.std.proofs.Common.{◌≡◌, ℕ, suc, ◌+◌, ◌-◌, List, Result, Ok, drop, arith}
use Rattle.json_text.specs.declared.error.ScanError.{ScanError}
use Rattle.json_text.specs.Grammar.{HexDigit}
use Rattle.json_text.specs.Grammar.Hex.{hex_none, hex_more}
use Rattle.json_text.specs.Faults.{Not}
use Rattle.json_text.specs.Faults.NoHex.{hex_bad, hex_on}
use Rattle.json_text.specs.Scans.{HexSaid}
use Rattle.json_text.specs.Scans.Says.{says_past, says_broke}
use Rattle.json_text.proofs.Laws.{Here, here, not_here, ended, says_as, hex_byte}
use Rattle.json_text.proofs.string.hex.Goals as goal
use Rattle.json_text.proofs.string.hex.Goals.{in_default-via-in-Some+else-is_hex, in_default-via-in_default}

-- one more digit in front
step : {s : List ℕ} {i b : ℕ} {o : Result ℕ ScanError} (n m : ℕ) → n ≡ suc m → Here HexDigit s i b →
    HexSaid s (i + 1) m o → HexSaid s i n o
step n m e h a = rw (e, h.split) (says_as (λ r k. (_, hex_more h.is k.1)) (λ f r k. hex_on h.is k) a)

pub returns-in_default : goal.returns-in_default
returns-in_default c =
    let l = c.loop-k in
    let n : Not HexDigit (drop (c.args.at + l.k) c.args.s.now) = elim c.in_default.branch [
      | in_default-via-in-Some+else-is_hex w ↦ not_here HexDigit w.in-Some.ensures w.is_hex.ensures w.if-is_hex.false
      | in_default-via-in_default w ↦ ended c.peek.ensures w.in_default.is
    ] in
    let e : c.args.count - l.k ≡ suc (c.args.count - (l.k + 1)) = omega arith in
    l.invariant.1 _ (rw e (says_broke l.invariant.0 (hex_bad n)))

pub loop-k-preserved : goal.loop-k-preserved
loop-k-preserved c =
    let l = c.loop-k in
    let h = here HexDigit hex_byte c.in-Some.ensures c.is_hex.ensures c.if-is_hex.true in
    let e : c.args.at + (l.k + 1) ≡ c.args.at + l.k + 1 = omega arith in (
      omega arith,
      λ o a. l.invariant.1 o (step (c.args.count - l.k) (c.args.count - (l.k + 1)) (omega arith) h (rw e at a)),
    )

pub returns : goal.returns
returns c =
    let l = c.loop-k in
    let e : l.k ≡ c.args.count = omega arith in
    let z : c.args.count - l.k ≡ 0 = omega arith in
    let a : HexSaid c.args.s.now (c.args.at + l.k) (c.args.count - l.k) (Ok (c.args.at + l.k)) =
    rw z (says_past l.invariant.0 (_, hex_none)) in
    rw e at (l.invariant.1 _ a)
