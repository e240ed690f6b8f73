use Prim.Native.Nat.{◌+◌, ◌≤◌}
use mathlib.Core.Path.{◌≡◌, refl, sym, ◌∙◌}
use native.Mathlib.Omega.{arith}
use lib.ListN.{length}
use Rattle.std.proofs.lemmas.Grind.{common_steps}
use Rattle.laws.specs.Search.{least}
use Rattle.container.specs.Chunks.{chunks_of, bytes_of}
use Rattle.container.specs.Rules.{chunk_at, count, misplaced_json, misplaced_bin}
use Rattle.container.proofs.TwoChunks.{json_length}
use Rattle.container.proofs.Verdicts.{HeaderHolds, size_bounds}
use Rattle.container.proofs.Outcomes.{header_err, header_ok, rule5_err, fills, rule6_err, right, rule7_err, placed, rule8_err, open_ok}
use Rattle.container.proofs.open.Goals as goal
use Rattle.container.proofs.open.Goals.{In_ok-check_header, Else-found-file, In_default, In_default-wrong_bin, After-data_of-json}

holds : (c : In_ok-check_header) → HeaderHolds c.args.file.now
holds c = header_ok c.args.file.now (sym c.check_header.ensures ∙ c.in_ok-check_header.was)

filled : (c : Else-found-file) → 12 + bytes_of (chunks_of c.args.file.now) ≡ length c.args.file.now
filled c = fills c.args.file.now (holds (goal.at.Else-found-file c).In_ok-check_header) c.survey-found.result c.survey-found.ensures c.if-found-file.false

pub returns-in_err-check_header : goal.returns-in_err-check_header
returns-in_err-check_header c =
    let e = header_err c.args.file.now c.in_err-check_header.field-0.0 (sym c.check_header.ensures ∙ c.in_err-check_header.was) in
    grind (arith, common_steps)

pub survey-found-requires : goal.survey-found-requires
survey-found-requires c = let b = size_bounds c.args.file.now (holds (goal.at.survey-found-requires c).In_ok-check_header) in (omega (arith, b), b.1)

pub returns-then-found-file : goal.returns-then-found-file
returns-then-found-file c =
    rule5_err c.args.file.now (holds (goal.at.returns-then-found-file c).In_ok-check_header) c.survey-found.result c.survey-found.ensures c.if-found-file.true

pub returns-in-Some : goal.returns-in-Some
returns-in-Some c =
    rule6_err c.args.file.now (holds (goal.at.returns-in-Some c).In_ok-check_header) c.survey-found.result c.survey-found.ensures
    (filled (goal.at.returns-in-Some c).Else-found-file) c.in-Some.item c.in-Some.is

right-here : (c : In_default) → count c.args.file.now ≤ least (misplaced_json c.args.file.now) (count c.args.file.now)
right-here c =
    right c.args.file.now (holds (goal.at.In_default c).In_ok-check_header) c.survey-found.result c.survey-found.ensures
    (filled (goal.at.In_default c).Else-found-file) c.in_default.is

pub returns-in-Some-wrong_bin : goal.returns-in-Some-wrong_bin
returns-in-Some-wrong_bin c =
    rule7_err c.args.file.now (holds (goal.at.returns-in-Some-wrong_bin c).In_ok-check_header) c.survey-found.result c.survey-found.ensures
    (filled (goal.at.returns-in-Some-wrong_bin c).Else-found-file) (right-here (goal.at.returns-in-Some-wrong_bin c).In_default)
    c.in-Some-wrong_bin.item c.in-Some-wrong_bin.is

placed-here : (c : In_default-wrong_bin) → count c.args.file.now ≤ least (misplaced_bin c.args.file.now) (count c.args.file.now)
placed-here c =
    placed c.args.file.now (holds (goal.at.In_default-wrong_bin c).In_ok-check_header) c.survey-found.result c.survey-found.ensures
    (filled (goal.at.In_default-wrong_bin c).Else-found-file) (right-here (goal.at.In_default-wrong_bin c).In_default)
    c.in_default-wrong_bin.is

pub data_of-json-requires : goal.data_of-json-requires
data_of-json-requires c = let b = size_bounds c.args.file.now (holds (goal.at.data_of-json-requires c).In_ok-check_header) in omega arith

-- the JSON chunk is chunk 0
json-is : (c : After-data_of-json) → c.data_of-json.result ≡ record { start = 20; length = (chunk_at c.args.file.now 0).chunk_length }
json-is c =
    let f = c.args.file.now in
    let b = size_bounds f (holds (goal.at.After-data_of-json c).In_ok-check_header) in
    let e = json_length f b.0 (filled (goal.at.After-data_of-json c).Else-found-file) in
    c.data_of-json.ensures ∙ rw e

-- so its length in the record is its length in the file
length-is : (c : After-data_of-json) → c.data_of-json.result.length ≡ (chunk_at c.args.file.now 0).chunk_length
length-is c = let e = json-is c in rw e refl

pub returns-then-json-gt65536 : goal.returns-then-json-gt65536
returns-then-json-gt65536 c =
    let at = goal.at.returns-then-json-gt65536 c in
    rule8_err c.args.file.now (holds at.In_ok-check_header) c.survey-found.result c.survey-found.ensures (filled at.Else-found-file)
    (right-here at.In_default) (placed-here at.In_default-wrong_bin) (rw (json-is at.After-data_of-json) at c.if-json-gt65536.true)

pub bin_chunk-requires-clause-in_bounds : goal.bin_chunk-requires-clause-in_bounds
bin_chunk-requires-clause-in_bounds c =
    let at = goal.at.bin_chunk-requires-clause-in_bounds c in
    ((size_bounds c.args.file.now (holds at.In_ok-check_header)).0, filled at.Else-found-file)

pub bin_chunk-requires-clause-json_length : goal.bin_chunk-requires-clause-json_length
bin_chunk-requires-clause-json_length c =
    let e = json-is (goal.at.bin_chunk-requires-clause-json_length c).After-data_of-json in rw e

pub returns : goal.returns
returns c =
    let at = goal.at.returns c in
    rw (json-is at.After-data_of-json, c.bin_chunk.ensures)
    (open_ok c.args.file.now (holds at.In_ok-check_header) c.survey-found.result c.survey-found.ensures (filled at.Else-found-file)
    (right-here at.In_default) (placed-here at.In_default-wrong_bin) (omega (arith, length-is at.After-data_of-json)))
