-- `document::top::top` meets its contract. Where null_extensions_required_not_there plants, `grind arith` takes the value from the
-- facts, so that a wrong one is refused by what it says. Assumes nothing.
use mathlib.Core.Path.{◌≡◌, refl, sym, ◌∙◌}
use native.Mathlib.Omega.{arith}
use mathlib.Core.Bool.{true, false}
use lib.ListN.{get_or}
use Rattle.std.specs.Prelude.{None, is_some}
use Rattle.std.proofs.lemmas.Result.{err_from_is_err_and, IfOk-at_ok}
use Rattle.nav.specs.Members.{field_of}
use Rattle.nav.proofs.Navigation.{gather_member}
use Rattle.document.specs.Names.{'asset', 'nodes', 'scenes'}
use Rattle.document.specs.Rules.{rule14, rule15, rule16, rule17, rule18}
use Rattle.document.specs.Said.{said, graph_of}
use Rattle.document.specs.Tops.{PlacesTo}
use Rattle.document.proofs.Keeping.{held_ok, held_err}
use Rattle.document.proofs.Placing.{has_member}
use Rattle.document.proofs.Tops.{is14, is15, is16, is17, is18, is_none, answer_refused, answer_said, asset_read}
use Rattle.document.proofs.Tops.{extensions_read, kinds_ok, kinds_err, over_read, uri_read, tables_said, few_of, placed_said, sound_few}
use Rattle.document.proofs.top.top.Goals as goal
use Rattle.document.proofs.top.top.Goals.{Else-is_some}

-- extensionsRequired is not there
absent : (c : Else-is_some) → is_some (get_or c.gather-found.result.places 1 None) ≡ false
absent c = grind arith

pub returns-then-not-is_asset : goal.returns-then-not-is_asset
returns-then-not-is_asset c = λ j t.
    let p : PlacesTo c.args.s.now j c.gather-found.result.places = λ i l. gather_member c.args.s.now c.args.at _ c.gather-found.ensures t i l (omega (arith, l)) in
    let a : rule14 j ≡ true = asset_read j (c.is_asset.ensures (field_of 'asset' j) (p 0 (omega arith))) ∙ rw c.if-not-is_asset.true refl in
    rw c.rule.ensures (answer_refused j 14 (λ z. omega (arith, z)) (is14 j a))

pub returns-then-is_some : goal.returns-then-is_some
returns-then-is_some c = λ j t.
    let p : PlacesTo c.args.s.now j c.gather-found.result.places = λ i l. gather_member c.args.s.now c.args.at _ c.gather-found.ensures t i l (omega (arith, l)) in
    let a : rule14 j ≡ false = asset_read j (c.is_asset.ensures (field_of 'asset' j) (p 0 (omega arith))) ∙ rw c.if-not-is_asset.false refl in
    let b : rule15 j ≡ true = extensions_read j (has_member (p 1 (omega arith))) ∙ grind arith in
    rw c.rule-then-is_some.ensures (answer_refused j 15 (λ z. omega (arith, z)) (is15 j a b))

pub returns-in_err-read_members : goal.returns-in_err-read_members
returns-in_err-read_members c = λ j t.
    let p : PlacesTo c.args.s.now j c.gather-found.result.places = λ i l. gather_member c.args.s.now c.args.at _ c.gather-found.ensures t i l (omega (arith, l)) in
    let a : rule14 j ≡ false = asset_read j (c.is_asset.ensures (field_of 'asset' j) (p 0 (omega arith))) ∙ rw c.if-not-is_asset.false refl in
    let b : rule15 j ≡ false = extensions_read j (has_member (p 1 (omega arith))) ∙ absent (goal.at.returns-in_err-read_members c).Else-is_some in
    let r = c.read_members.ensures j p in
    let k : rule16 j ≡ true = kinds_err r (held_err _ c.in_err-read_members.was) in
    let e = err_from_is_err_and c.from_residual.result c.from_residual.ensures.1 in
    rw (e.1, e.2) (answer_refused j 16 (λ z. omega (arith, z)) (is16 j a b k))

pub returns-then-is_over : goal.returns-then-is_over
returns-then-is_over c = λ j t.
    let p : PlacesTo c.args.s.now j c.gather-found.result.places = λ i l. gather_member c.args.s.now c.args.at _ c.gather-found.ensures t i l (omega (arith, l)) in
    let a : rule14 j ≡ false = asset_read j (c.is_asset.ensures (field_of 'asset' j) (p 0 (omega arith))) ∙ rw c.if-not-is_asset.false refl in
    let b : rule15 j ≡ false = extensions_read j (has_member (p 1 (omega arith))) ∙ absent (goal.at.returns-then-is_over c).Else-is_some in
    let r = c.read_members.ensures j p in
    let k : rule16 j ≡ false = kinds_ok r (held_ok _ c.in_ok-read_members.was) in
    let m = IfOk-at_ok _ (held_ok _ c.in_ok-read_members.was) r.are in
    let d : rule17 j ≡ true = over_read m ∙ sym c.is_over.ensures ∙ c.if-is_over.true in
    rw c.rule-then-is_over.ensures (answer_refused j 17 (λ z. omega (arith, z)) (is17 j a b k d))

pub returns-then-buffer : goal.returns-then-buffer
returns-then-buffer c = λ j t.
    let p : PlacesTo c.args.s.now j c.gather-found.result.places = λ i l. gather_member c.args.s.now c.args.at _ c.gather-found.ensures t i l (omega (arith, l)) in
    let a : rule14 j ≡ false = asset_read j (c.is_asset.ensures (field_of 'asset' j) (p 0 (omega arith))) ∙ rw c.if-not-is_asset.false refl in
    let b : rule15 j ≡ false = extensions_read j (has_member (p 1 (omega arith))) ∙ absent (goal.at.returns-then-buffer c).Else-is_some in
    let r = c.read_members.ensures j p in
    let k : rule16 j ≡ false = kinds_ok r (held_ok _ c.in_ok-read_members.was) in
    let m = IfOk-at_ok _ (held_ok _ c.in_ok-read_members.was) r.are in
    let d : rule17 j ≡ false = over_read m ∙ sym c.is_over.ensures ∙ c.if-is_over.false in
    let u : rule18 j ≡ true = uri_read m ∙ c.if-buffer.true in
    rw c.rule-then-buffer.ensures (answer_refused j 18 (λ z. omega (arith, z)) (is18 j a b k d u))

pub graph_fault-graph-requires : goal.graph_fault-graph-requires
graph_fault-graph-requires c =
    let f = few_of c.read_members.new.self (sym c.is_over.ensures ∙ c.if-is_over.false) in
    record { nodes_bound = f.nodes; scenes_bound = f.scenes }

pub tables-requires : goal.tables-requires
tables-requires c =
    rw (c.sound.ensures, c.sound-2.ensures)
    (sound_few c.graph_fault-graph.result (few_of c.read_members.new.self (sym c.is_over.ensures ∙ c.if-is_over.false)))

pub returns : goal.returns
unfolding said
returns c = λ j t.
    let p : PlacesTo c.args.s.now j c.gather-found.result.places = λ i l. gather_member c.args.s.now c.args.at _ c.gather-found.ensures t i l (omega (arith, l)) in
    let a : rule14 j ≡ false = asset_read j (c.is_asset.ensures (field_of 'asset' j) (p 0 (omega arith))) ∙ rw c.if-not-is_asset.false refl in
    let b : rule15 j ≡ false = extensions_read j (has_member (p 1 (omega arith))) ∙ absent (goal.at.returns c).Else-is_some in
    let r = c.read_members.ensures j p in
    let k : rule16 j ≡ false = kinds_ok r (held_ok _ c.in_ok-read_members.was) in
    let m = IfOk-at_ok _ (held_ok _ c.in_ok-read_members.was) r.are in
    let d : rule17 j ≡ false = over_read m ∙ sym c.is_over.ensures ∙ c.if-is_over.false in
    let u : rule18 j ≡ false = uri_read m ∙ c.if-buffer.false in
    let f = few_of c.read_members.new.self (sym c.is_over.ensures ∙ c.if-is_over.false) in
    let e = c.graph_fault-graph.ensures (field_of 'nodes' j) (field_of 'scenes' j) (p 5 (omega arith)) (p 6 (omega arith)) (sym m.nodes_are.count) (sym m.scenes_are.count) in
    rw (c.tables.ensures, c.sound.ensures, c.sound-2.ensures, e, tables_said m f (graph_of j) refl, placed_said m)
    (sym (answer_said j (is_none j a b k d u)))
