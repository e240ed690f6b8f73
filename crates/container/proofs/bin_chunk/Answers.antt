use Prim.Native.Nat.{◌+◌, ◌≤◌, ◌<◌}
use mathlib.Core.Path.{◌≡◌, sym, ◌∙◌}
use mathlib.Core.Bool.{true, false}
use native.Mathlib.Omega.{arith}
use borrow.Author.Tests.{eq-eqb, ne_eqb}
use lib.ListN.{length}
use Rattle.laws.specs.Bytes.{little_at}
use Rattle.container.specs.Rules.{chunk_at, is_bin}
use Rattle.container.specs.Results.{bin_of}
use Rattle.container.proofs.TwoChunks.{json_within, bin_room, bin_length, bin_type, bin_none}
use Rattle.container.proofs.bin_chunk.Goals as goal
use Rattle.container.proofs.bin_chunk.Goals.{Start}

-- chunk 1 would start behind chunk 0
behind : (c : Start) → c.args.json.start + c.args.json.length ≡ 20 + (chunk_at c.args.file.now 0).chunk_length
behind c = omega arith

within : (c : Start) → c.args.json.start + c.args.json.length ≤ length c.args.file.now
within c = rw (behind c) (json_within c.args.file.now c.requires.in_bounds.0 c.requires.in_bounds.1)

room : (c : Start) → c.args.json.start + c.args.json.length < length c.args.file.now
    → c.args.json.start + c.args.json.length + 8 ≤ length c.args.file.now
room c = rw (behind c) (bin_room c.args.file.now c.requires.in_bounds.0 c.requires.in_bounds.1)

type-read : (c : Start) → c.args.json.start + c.args.json.length < length c.args.file.now
    → little_at c.args.file.now (c.args.json.start + c.args.json.length + 4) 4 ≡ (chunk_at c.args.file.now 1).chunk_type
type-read c = rw (behind c) (bin_type c.args.file.now c.requires.in_bounds.0 c.requires.in_bounds.1)

length-read : (c : Start) → c.args.json.start + c.args.json.length < length c.args.file.now
    → little_at c.args.file.now (c.args.json.start + c.args.json.length) 4 ≡ (chunk_at c.args.file.now 1).chunk_length
length-read c = rw (behind c) (bin_length c.args.file.now c.requires.in_bounds.0 c.requires.in_bounds.1)

pub overflow_add-at : goal.overflow_add-at
overflow_add-at c = omega (arith, within (goal.at.overflow_add-at c).Start)

pub word-requires : goal.word-requires
word-requires c = omega (arith, room (goal.at.word-requires c).Start c.if-at-file.true)

pub data_of-requires : goal.data_of-requires
data_of-requires c = omega (arith, room (goal.at.data_of-requires c).Start c.if-at-file.true)

pub returns-then-word-eq-BIN : goal.returns-then-word-eq-BIN
unfolding bin_of
returns-then-word-eq-BIN c =
    let l = c.if-at-file.true in
    let s = (goal.at.returns-then-word-eq-BIN c).Start in
    let t : is_bin (chunk_at c.args.file.now 1) ≡ true = eq-eqb _ _ (sym (type-read s l) ∙ sym c.word.ensures ∙ c.if-word-eq-BIN.true) in
    let n : c.args.json.start + c.args.json.length + 8 ≡ 28 + (chunk_at c.args.file.now 0).chunk_length = omega arith in
    rw (t, c.data_of.ensures, n, length-read s l)

pub returns-else-word-eq-BIN : goal.returns-else-word-eq-BIN
unfolding bin_of
returns-else-word-eq-BIN c =
    let e = type-read (goal.at.returns-else-word-eq-BIN c).Start c.if-at-file.true in
    let t : is_bin (chunk_at c.args.file.now 1) ≡ false = ne_eqb _ _ (λ b. c.if-word-eq-BIN.false (c.word.ensures ∙ e ∙ b)) in
    rw t

pub returns-else-at-file : goal.returns-else-at-file
unfolding bin_of
returns-else-at-file c =
    let t = bin_none c.args.file.now c.requires.in_bounds.0 c.requires.in_bounds.1 (omega arith) in
    rw t
