-- The number of an answer: 0 where no rule is broken. Assumes nothing.
use mathlib.Core.Path.{◌≡◌, refl, sym, ap}
use mathlib.Core.Bool.{Bool, true, false}
use borrow.Author.Tests.{eqb-true}
use lib.Dec.{eqb}
use Rattle.std.specs.Prelude.{Result, Ok, Err}
use Rattle.tables.specs.declared.Tables.{Tables}
use Rattle.container.specs.declared.Fault.{Fault}
use Rattle.container.specs.declared.Container as Opened
use Rattle.container.specs.Records.{Container}
use Rattle.container.specs.Results.{outcome_of}
use Rattle.glb.specs.declared.Checked.{Checked}
use Rattle.glb.specs.declared.Fault as Checking
use Rattle.glb.specs.Results as Check

by_test : {A : Type 0} (b : Bool) → (b ≡ true → A) → (b ≡ false → A) → A
by_test true f g = f refl
by_test false f g = g refl

pub open_ok : (c : Container) (x : Opened.Container) → Ok x ≡ outcome_of c → 0 ≡ c.number
unfolding outcome_of
open_ok c x e =
    by_test (eqb c.number 0) (λ t. sym (eqb-true c.number 0 t))
    (λ t. absurd (let q = rw t at e in cc q))

pub open_err : (c : Container) (b : Fault) → Err b ≡ outcome_of c → b.rule ≡ c.number
unfolding outcome_of
open_err c b e =
    by_test (eqb c.number 0)
    (λ t. absurd (let q = rw t at e in cc q))
    (λ t. let q : ◌≡◌ {A = Result Opened.Container Fault} (Err b) (Err (record { rule = c.number; item = c.item })) = rw t at e in
    let p : b ≡ record { rule = c.number; item = c.item } = cc in ap (λ (x : Fault). x.rule) p)

pub check_ok : (c : Checked) (x : Tables) → Ok x ≡ Check.outcome_of c → 0 ≡ c.verdict
unfolding Check.outcome_of
check_ok c x e =
    by_test (eqb c.verdict 0) (λ t. sym (eqb-true c.verdict 0 t))
    (λ t. absurd (let q = rw t at e in cc q))

pub check_err : (c : Checked) (b : Checking.Fault) → Err b ≡ Check.outcome_of c → b.rule ≡ c.verdict
unfolding Check.outcome_of
check_err c b e =
    by_test (eqb c.verdict 0)
    (λ t. absurd (let q = rw t at e in cc q))
    (λ t. let q : ◌≡◌ {A = Result Tables Checking.Fault} (Err b) (Err (record { rule = c.verdict; item = c.item })) = rw t at e in
    let p : b ≡ record { rule = c.verdict; item = c.item } = cc in ap (λ (x : Checking.Fault). x.rule) p)
