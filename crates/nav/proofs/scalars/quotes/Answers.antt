-- `nav::scalars::quotes` meets its contract.
-- Assumes nothing.
use Prim.Native.Nat.{◌+◌}
use Rattle.json_text.specs.Scans.Tells.{tells_false}
use Rattle.json_text.proofs.Laws.{said_past}
use Rattle.json_text.proofs.Ends.{literal_said}
use Rattle.nav.proofs.Scanned.{failed, is_byte, no_byte, not_true, not_false}
use Rattle.nav.proofs.Steps.{front_here, front_other}
use Rattle.nav.proofs.Spellings.{unquoted, misspelled, unmarked, quoted_tells}
use Rattle.nav.proofs.scalars.quotes.Goals as goal

pub returns-then-ne : goal.returns-then-ne
returns-then-ne c =
    tells_false (λ q. unmarked (front_other 0x22 _ c.front.ensures (no_byte _ 0x22 (not_true _ c.ne.ensures c.if-ne.true))) q)

pub returns-in_default : goal.returns-in_default
returns-in_default c =
    let a = c.args in
    let h = front_here 0x22 a.s.now a.at c.front.ensures (is_byte _ 0x22 (not_false _ c.ne.ensures c.if-ne.false)) in
    let v = failed (literal_said a.s.now (a.at + 1) a.word.now c.literal_at.ensures) c.in_default.is in
    tells_false (λ q. misspelled v.2 (rw h.split at q))

pub returns-then-eq : goal.returns-then-eq
returns-then-eq c =
    let a = c.args in
    let h = front_here 0x22 a.s.now a.at c.front.ensures (is_byte _ 0x22 (not_false _ c.ne.ensures c.if-ne.false)) in
    let k = front_here 0x22 a.s.now c.in-Ok.p c.front-2.ensures (is_byte _ 0x22 (rw c.eq.ensures at c.if-eq.true)) in
    let v = said_past (literal_said a.s.now (a.at + 1) a.word.now c.literal_at.ensures) c.in-Ok.is in
    rw h.split (quoted_tells (rw k.split at v.1) c.is_word.ensures)

pub returns-else-eq : goal.returns-else-eq
returns-else-eq c =
    let a = c.args in
    let h = front_here 0x22 a.s.now a.at c.front.ensures (is_byte _ 0x22 (not_false _ c.ne.ensures c.if-ne.false)) in
    let v = said_past (literal_said a.s.now (a.at + 1) a.word.now c.literal_at.ensures) c.in-Ok.is in
    let f = front_other 0x22 _ c.front-2.ensures (no_byte _ 0x22 (rw c.eq.ensures at c.if-eq.false)) in
    rw c.if-eq.false (tells_false (λ q. unquoted v.1 f (rw h.split at q)))
