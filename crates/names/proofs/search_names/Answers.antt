-- `names::search_names` meets its contract. The outer loop's invariant: `Stage`; the inner one's: `Looked`.
-- Assumes nothing.
use Prim.Native.Nat.{◌+◌, ◌-◌}
use native.Mathlib.Omega.{arith}
use mathlib.Core.Path.{refl, sym, ◌∙◌}
use lib.ListN.{get_or}
use Rattle.names.proofs.Strings.{close_in}
use Rattle.names.proofs.Stages.{start, opened, string_stage, open_stage, open_none}
use Rattle.names.proofs.Stages.{close_stage, rest_stage, colon_none, colon_stage, clear}
use Rattle.names.proofs.Looks.{look_start, fits, look_skip, look_differs, look_found, look_all}
use Rattle.names.proofs.search_names.Goals.{then-lengths-k+else-same, else-lengths-k, else-text-test}
use Rattle.names.proofs.search_names.Goals.{then-text-test+else-b-eq34+then-b-eq58+then-loop-k-test+then-lengths-k+then-same}
use Rattle.names.proofs.search_names.Goals as goal

pub text-init : goal.text-init
text-init c = start _ _ _ _ (omega arith) refl (omega arith)

pub bounds-s-i : goal.bounds-s-i
bounds-s-i c = omega arith

pub overflow_add-next : goal.overflow_add-next
overflow_add-next c = omega arith

pub close-e-requires : goal.close-e-requires
close-e-requires c = omega arith

pub overflow_sub-size : goal.overflow_sub-size
overflow_sub-size c = omega arith

pub overflow_add-i : goal.overflow_add-i
overflow_add-i c =
    let s = c.args.s.now in
    omega (arith, close_in s (c.text.i + 1) c.close-e.result (omega arith) c.close-e.ensures)

pub text-smaller-then-b-eq34 : goal.text-smaller-then-b-eq34
text-smaller-then-b-eq34 c = omega arith

pub text-preserved-then-b-eq34 : goal.text-preserved-then-b-eq34
text-preserved-then-b-eq34 c =
    string_stage c.text.invariant (omega arith) c.close-e.result c.if-b-eq34.true c.close-e.ensures

pub overflow_add-from : goal.overflow_add-from
overflow_add-from c = omega arith

pub loop-k-init : goal.loop-k-init
loop-k-init c = (c.text.invariant, look_start _ _ _ _ _ _)

pub offset_bounds-lengths-k : goal.offset_bounds-lengths-k
offset_bounds-lengths-k c = omega arith

pub bounds-lengths-k : goal.bounds-lengths-k
bounds-lengths-k c = omega arith

pub overflow_cast-lengths : goal.overflow_cast-lengths
overflow_cast-lengths c = omega (arith, c.type_inv.lengths c.loop-k.k)

pub overflow_add-pairs : goal.overflow_add-pairs
overflow_add-pairs c = omega arith

pub offset_bounds-starts-k : goal.offset_bounds-starts-k
offset_bounds-starts-k c = omega arith

pub bounds-starts-k : goal.bounds-starts-k
bounds-starts-k c = omega arith

pub overflow_cast-start : goal.overflow_cast-start
overflow_cast-start c = omega (arith, c.type_inv.starts c.loop-k.k)

pub overflow_add-start : goal.overflow_add-start
overflow_add-start c = omega (arith, c.type_inv.starts c.loop-k.k)

pub same-requires : goal.same-requires
same-requires c =
    let h = fits c.loop-k.invariant.0 (omega arith) c.loop-k.invariant.1 (omega arith) in
    (omega arith, omega (arith, h, c.if-lengths-k.true))

pub loop-k-preserved : goal.loop-k-preserved
loop-k-preserved c =
    let g = c.loop-k.invariant.0 in
    let m = c.loop-k.invariant.1 in (
      g,
      elim c.if-lengths-k.branch [
        | then-lengths-k+else-same w ↦
            rw w.pairs-is
            (look_differs g (omega arith) m (omega arith) w.if-lengths-k.true (sym w.same.ensures ∙ w.if-same.false))
        | else-lengths-k w ↦ rw w.pairs-is (look_skip g (omega arith) m (omega arith) w.if-lengths-k.false)
      ],
    )

pub shape_of-starts-then-top-room : goal.shape_of-starts-then-top-room
shape_of-starts-then-top-room c = omega arith

pub shape_of-lengths-then-top-room : goal.shape_of-lengths-then-top-room
shape_of-lengths-then-top-room c = omega arith

pub returns-then-top-room : goal.returns-then-top-room
returns-then-top-room c =
    let g = c.loop-k.invariant.0 in
    let z = look_all g c.loop-k.invariant.1 (c.loop-k.auto.k-end (omega (arith, g.stack.tops))) c.loop-k-test.false in
    colon_none g (omega arith) c.if-b-eq58.true z.none c.if-top-room.true

pub overflow_cast-starts : goal.overflow_cast-starts
overflow_cast-starts c = omega arith

pub offset_bounds-starts-top : goal.offset_bounds-starts-top
offset_bounds-starts-top c = omega arith

pub bounds-starts-top : goal.bounds-starts-top
bounds-starts-top c = omega arith

pub overflow_cast-lengths-then-b-eq58 : goal.overflow_cast-lengths-then-b-eq58
overflow_cast-lengths-then-b-eq58 c = omega arith

pub offset_bounds-lengths-top : goal.offset_bounds-lengths-top
offset_bounds-lengths-top c = omega arith

pub bounds-lengths-top : goal.bounds-lengths-top
bounds-lengths-top c = omega arith

pub overflow_add-top : goal.overflow_add-top
overflow_add-top c = omega arith

pub text-smaller-then-b-eq58 : goal.text-smaller-then-b-eq58
text-smaller-then-b-eq58 c = omega arith

pub text-preserved-then-b-eq58 : goal.text-preserved-then-b-eq58
text-preserved-then-b-eq58 c =
    let g = c.loop-k.invariant.0 in
    let z = look_all g c.loop-k.invariant.1 (c.loop-k.auto.k-end (omega (arith, g.stack.tops))) c.loop-k-test.false in
    colon_stage g (omega arith) c.loop-k.pairs c.if-b-eq58.true z.none z.counted z.few c.if-top-room.false

pub shape_of-starts-then-top-room-2 : goal.shape_of-starts-then-top-room-2
shape_of-starts-then-top-room-2 c = omega arith

pub shape_of-lengths-then-top-room-2 : goal.shape_of-lengths-then-top-room-2
shape_of-lengths-then-top-room-2 c = omega arith

pub returns-then-top-room-2 : goal.returns-then-top-room-2
returns-then-top-room-2 c =
    open_none c.text.invariant (omega arith) c.if-b-eq58.false c.if-b.true c.if-top-room-2.true

pub overflow_cast-starts-then-b : goal.overflow_cast-starts-then-b
overflow_cast-starts-then-b c = omega arith

pub offset_bounds-starts-top-then-b : goal.offset_bounds-starts-top-then-b
offset_bounds-starts-top-then-b c = omega arith

pub bounds-starts-top-then-b : goal.bounds-starts-top-then-b
bounds-starts-top-then-b c = omega arith

pub overflow_add-top-then-b : goal.overflow_add-top-then-b
overflow_add-top-then-b c = omega arith

pub text-smaller-then-b : goal.text-smaller-then-b
text-smaller-then-b c = omega arith

pub text-preserved-then-b : goal.text-preserved-then-b
text-preserved-then-b c =
    open_stage c.text.invariant (omega arith) c.if-b-eq58.false c.if-b.true c.if-top-room-2.false

pub overflow_sub-top : goal.overflow_sub-top
overflow_sub-top c =
    let s = c.args.s.now in
    omega (arith, opened (get_or s c.text.i 0) c.text.base c.if-b-base.true)

pub offset_bounds-starts-top-then-b-base : goal.offset_bounds-starts-top-then-b-base
offset_bounds-starts-top-then-b-base c = omega arith

pub bounds-starts-top-then-b-base : goal.bounds-starts-top-then-b-base
bounds-starts-top-then-b-base c =
    let s = c.args.s.now in
    omega (arith, opened (get_or s c.text.i 0) c.text.base c.if-b-base.true)

pub overflow_cast-base : goal.overflow_cast-base
overflow_cast-base c =
    omega (arith, c.type_inv.starts (c.text.base - 1))

pub text-smaller-then-b-base : goal.text-smaller-then-b-base
text-smaller-then-b-base c = omega arith

pub text-preserved-then-b-base : goal.text-preserved-then-b-base
text-preserved-then-b-base c =
    close_stage c.text.invariant (omega arith) c.if-b-eq58.false c.if-b-base.true

pub text-smaller : goal.text-smaller
text-smaller c = omega arith

pub text-preserved : goal.text-preserved
text-preserved c =
    rest_stage c.text.invariant (omega arith) c.if-b-eq34.false c.if-b-eq58.false
    c.if-b.false c.if-b-base.false

pub shape_of-starts-then-i-s : goal.shape_of-starts-then-i-s
shape_of-starts-then-i-s c = omega arith

pub shape_of-lengths-then-i-s : goal.shape_of-lengths-then-i-s
shape_of-lengths-then-i-s c = omega arith

pub returns-then-i-s : goal.returns-then-i-s
returns-then-i-s c =
    elim c.text-test.branch [
      | else-text-test w ↦ absurd (omega (arith, w.text-test.false, c.if-i-s.true))
      | then-text-test+else-b-eq34+then-b-eq58+then-loop-k-test+then-lengths-k+then-same w ↦
          rw w.pairs-is
          (look_found w.loop-k.invariant.0 c.if-i-s.true w.loop-k.invariant.1 w.loop-k-test.true w.if-b-eq58.true
          w.if-lengths-k.true (sym w.same.ensures ∙ w.if-same.true))
    ]

pub shape_of-starts-else-i-s : goal.shape_of-starts-else-i-s
shape_of-starts-else-i-s c = omega arith

pub shape_of-lengths-else-i-s : goal.shape_of-lengths-else-i-s
shape_of-lengths-else-i-s c = omega arith

pub returns-else-i-s : goal.returns-else-i-s
returns-else-i-s c =
    elim c.text-test.branch [
      | else-text-test w ↦ rw w.pairs-is (clear c.text.invariant w.text-test.false)
      | then-text-test+else-b-eq34+then-b-eq58+then-loop-k-test+then-lengths-k+then-same w ↦
          absurd (omega (arith, w.text-test.true, c.if-i-s.false))
    ]
