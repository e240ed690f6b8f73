-- `From` of `scene::places::Places` meets its contract. Assumes nothing.
use borrow.Author.Rules.{rules}
use Prim.Native.Nat.{ℕ}
use mathlib.Core.Path.{◌≡◌, sym, ◌∙◌}
use native.Mathlib.Omega.{arith}
use lib.ListN.{length, length-replicate, replicate}
use Rattle.tables.specs.Records.{no_list}
use Rattle.scene.proofs.Copies.{copied_more}
use Rattle.scene.proofs.places.PlacesFromArrayList.from.Goals as goal
use Rattle.scene.proofs.places.PlacesFromArrayList.from.Invariants.{start, size}

pub loop-i-preserved : goal.loop-i-preserved
loop-i-preserved g c =
    let lists = c.args.lists in
    let l = c.loop-i in
    let zeros = replicate {A = ℕ} g.row.N 0 in
    let n : length lists ≡ g.row.N = search rules in
    let wide : length zeros ≡ length lists = length-replicate {A = ℕ} g.row.N 0 ∙ sym n in (
      rw l.invariant.0 (copied_more start lists zeros no_list l.i (omega arith) wide),
      rw l.invariant.1 (copied_more size lists zeros no_list l.i (omega arith) wide),
    )
