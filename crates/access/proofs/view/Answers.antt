use Prim.Native.Nat.{ℕ, ◌+◌, ◌-◌, ◌≤◌}
use mathlib.Core.Path.{◌≡◌, ap}
use native.Mathlib.Nat.{add_comm}
use native.Mathlib.Omega.{arith}
use lib.ListN.{length}
use Rattle.access.proofs.Fits.{place_in_file, view_at_place}
use Rattle.access.proofs.view.Goals as goal
use Rattle.access.proofs.view.Goals.{In-Ok}

-- the part lies within the file
lies : (c : In-Ok)
    → c.in-Ok.place.start + c.in-Ok.place.length ≤ length c.args.file.now
lies c =
    let a = c.args in
    rw c.in-Ok.ensures.place (place_in_file a.file.now a.t a.view)

pub overflow_add-result : goal.overflow_add-result
overflow_add-result c = omega (arith, lies (goal.at.overflow_add-result c).In-Ok, c.well_formed.0)

pub slice_bounds-result-end : goal.slice_bounds-result-end
slice_bounds-result-end c = lies (goal.at.slice_bounds-result-end c).In-Ok

pub returns-in-Ok : goal.returns-in-Ok
returns-in-Ok c =
    let r = c.in-Ok.place in
    let e = c.in-Ok.ensures.place in
    let a = c.args in
    let n : r.start + r.length - r.start ≡ r.length = omega arith in (
      rw (n, e) (view_at_place a.file.now a.t a.view),
      rw (← e, add_comm r.start a.file.ref_ptr.1),
    )

pub returns-in-Err : goal.returns-in-Err
returns-in-Err c =
    let e = c.in-Err.ensures.place in
    let a = c.args in (
      rw (← e) at (view_at_place a.file.now a.t a.view),
      rw (← e) (ap (λ (n : ℕ). (a.file.ref_ptr.0, n)) (omega arith)),
    )
