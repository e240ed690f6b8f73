use borrow.Author.Rules.{rules}
use Prim.Native.Nat.{ℕ, zero, suc, ◌+◌}
use mathlib.Core.Path.{◌≡◌, refl, sym, ap, ◌∙◌}
use mathlib.Core.Bool.{false}
use mathlib.Core.List.{List}
use native.Mathlib.Numerals.{add-one}
use native.Mathlib.Omega.{arith}
use lib.IntN.{ℤ, pos, negsuc}
use mir.Syntax.{w64}
use mir.Val.{of_z, to_z}
use mir.ValLaws.{to_z-of_z}
use Rattle.tables.specs.declared.selection.Selection.{Selection}
use Rattle.std.specs.Prelude.{Result, Ok, Err}
use Rattle.std.specs.Result.{result_unwrap_or}
use Rattle.access.specs.declared.Reading.{Reading}
use Rattle.access.specs.declared.Refusal.{Refusal}
use Rattle.access.specs.Results.{reading_of}
use Rattle.access.specs.Readings.{component_in}
use Rattle.timing_loop.specs.Counts.{is_zero, count_of}
use Rattle.timing_loop.proofs.time_elements.Goals as goal
use Rattle.timing_loop.proofs.time_elements.Goals.{then-value-ne0, else-value-ne0}

pub loop-i-init : goal.loop-i-init
unfolding count_of
loop-i-init c = (omega arith, refl)

-- a refused reading's value is 0
value_or : (r : Result ℤ Refusal) → (reading_of r).value ≡ result_unwrap_or r (pos 0)
value_or (Ok v) = refl
value_or (Err e) = refl

-- a number that is not 0
nonzero : (v : ℤ) → (v ≡ pos 0 → ⊥) → is_zero v ≡ false
unfolding is_zero
nonzero (pos zero) n = absurd (n refl)
nonzero (pos (suc m)) n = refl
nonzero (negsuc m) n = refl

-- one element more, of this value
module _ (file : List ℕ) (s : Selection) (k i : ℕ) (v : ℤ) (e : (component_in file s i k).value ≡ v) where
  more : (v ≡ pos 0 → ⊥) → count_of file s k i + 1 ≡ count_of file s k (i + 1)
  unfolding count_of
  more n = rw (add-one i, add-one (count_of file s k i), e, nonzero v n)

  same : v ≡ pos 0 → count_of file s k i ≡ count_of file s k (i + 1)
  unfolding count_of is_zero
  same z = rw (add-one i, e, z)

pub loop-i-preserved : goal.loop-i-preserved
loop-i-preserved c =
    let a = c.args in
    let l = c.loop-i in
    let v = c.unwrap_or-value in
    let e = sym (ap (λ (x : Reading). x.value) c.component_in.ensures) ∙ value_or c.component_in.result ∙ sym v.ensures in
    elim c.if-value-ne0.branch [
      | then-value-ne0 w ↦ (omega arith, w.count-is ∙ ap (λ (n : ℕ). n + 1) l.invariant.1 ∙ more a.file.now a.s a.component l.i v.result e (λ z. w.if-value-ne0.true (ap (of_z w64) z)))
      | else-value-ne0 w ↦ (omega arith, w.count-is ∙ l.invariant.1 ∙ same a.file.now a.s a.component l.i v.result e (sym (to_z-of_z w64 v.result (search rules)) ∙ ap (to_z w64) w.if-value-ne0.false))
    ]

pub returns : goal.returns
returns c =
    let l = c.loop-i in
    let a = c.args in
    l.invariant.1 ∙ ap (count_of a.file.now a.s a.component) (omega arith)
