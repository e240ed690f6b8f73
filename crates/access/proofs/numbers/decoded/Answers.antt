use Prim.Native.Nat.{◌^◌, ◌<◌}
use mathlib.Core.Path.{◌≡◌, ◌∙◌}
use native.Mathlib.Omega.{arith}
use borrow.Author.Tests.{ne_eqb}
use mir.Syntax.{w8, w16, w64}
use mir.ValLaws.{to_z-of_z}
use Rattle.tables.specs.Elements.{component_size}
use Rattle.tables.proofs.Elements.{size_lt}
use Rattle.access.specs.Numbers.{decode}
use Rattle.access.proofs.Signs.{small, byte_signed, short_signed}
use Rattle.access.proofs.Spelled.{power_le}
use Rattle.access.proofs.numbers.decoded.Goals as goal

pub overflow_cast-n : goal.overflow_cast-n
unfolding component_size
overflow_cast-n c =
    let h : c.args.n < 256 ^ component_size 5120 = rw c.in-5120.is at c.requires in
    omega arith

pub overflow_cast-n-in-5122 : goal.overflow_cast-n-in-5122
unfolding component_size
overflow_cast-n-in-5122 c =
    let h : c.args.n < 256 ^ component_size 5122 = rw c.in-5122.is at c.requires in
    omega arith

pub overflow_cast-result : goal.overflow_cast-result
overflow_cast-result c =
    let t = c.args.component_type in omega (arith, power_le (component_size t) (size_lt t))

pub returns-in-5120 : goal.returns-in-5120
unfolding decode component_size
returns-in-5120 c =
    let h : c.args.n < 256 ^ component_size 5120 = rw c.in-5120.is at c.requires in
    to_z-of_z w64 c.from.result (record { sfits = c.from.type_inv })
    ∙ c.from.ensures
    ∙ to_z-of_z w8 c.cast_signed.result (record { sfits = c.cast_signed.type_inv })
    ∙ c.cast_signed.ensures
    ∙ byte_signed c.args.n (omega arith)
    ∙ rw c.in-5120.is

pub returns-in-5122 : goal.returns-in-5122
unfolding decode component_size
returns-in-5122 c =
    let h : c.args.n < 256 ^ component_size 5122 = rw c.in-5122.is at c.requires in
    to_z-of_z w64 c.from-in-5122.result (record { sfits = c.from-in-5122.type_inv })
    ∙ c.from-in-5122.ensures
    ∙ to_z-of_z w16 c.cast_signed-in-5122.result (record { sfits = c.cast_signed-in-5122.type_inv })
    ∙ c.cast_signed-in-5122.ensures
    ∙ short_signed c.args.n (omega arith)
    ∙ rw c.in-5122.is

pub returns-in_default : goal.returns-in_default
unfolding decode
returns-in_default c =
    let t = c.args.component_type in
    rw (ne_eqb t 5120 (λ (q : t ≡ 5120). omega arith), ne_eqb t 5122 (λ (q : t ≡ 5122). omega arith))
    (small _ (omega (arith, power_le (component_size t) (size_lt t))))
