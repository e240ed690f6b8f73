-- `nav::kind_at` meets its contract.
-- Assumes nothing.
use native.Mathlib.Omega.{arith}
use mathlib.Core.Path.{◌≡◌}
use borrow.Author.Tests.{le-leb, lt-leb}
use Rattle.nav.specs.Kinds.{kind_of}
use Rattle.nav.proofs.Scanned.{first_is, first_none}
use Rattle.nav.proofs.FirstBytes.{plain_kind, digit_kind}
use Rattle.nav.proofs.kind_at.Goals as goal

pub returns-in-Some-eq123 : goal.returns-in-Some-eq123
unfolding kind_of
returns-in-Some-eq123 c =
    let h : c.in-Some-eq123.field-0 ≡ 123 = omega arith in
    rw (first_is _ c.front.ensures c.in-Some-eq123.is, h)

pub returns-in-Some-eq91 : goal.returns-in-Some-eq91
unfolding kind_of
returns-in-Some-eq91 c =
    let h : c.in-Some-eq91.field-0 ≡ 91 = omega arith in
    rw (first_is _ c.front.ensures c.in-Some-eq91.is, h)

pub returns-in-Some-eq34 : goal.returns-in-Some-eq34
unfolding kind_of
returns-in-Some-eq34 c =
    let h : c.in-Some-eq34.field-0 ≡ 34 = omega arith in
    rw (first_is _ c.front.ensures c.in-Some-eq34.is, h)

pub returns-in-Some-eq116 : goal.returns-in-Some-eq116
unfolding kind_of
returns-in-Some-eq116 c =
    let h : c.in-Some-eq116.field-0 ≡ 116 = omega arith in
    rw (first_is _ c.front.ensures c.in-Some-eq116.is, h)

pub returns-in-Some-eq102 : goal.returns-in-Some-eq102
unfolding kind_of
returns-in-Some-eq102 c =
    let h : c.in-Some-eq102.field-0 ≡ 102 = omega arith in
    rw (first_is _ c.front.ensures c.in-Some-eq102.is, h)

pub returns-in-Some-eq110 : goal.returns-in-Some-eq110
unfolding kind_of
returns-in-Some-eq110 c =
    let h : c.in-Some-eq110.field-0 ≡ 110 = omega arith in
    rw (first_is _ c.front.ensures c.in-Some-eq110.is, h)

pub returns-in-Some-eq45 : goal.returns-in-Some-eq45
unfolding kind_of
returns-in-Some-eq45 c =
    let h : c.in-Some-eq45.field-0 ≡ 45 = omega arith in
    rw (first_is _ c.front.ensures c.in-Some-eq45.is, h)

pub returns-in-Some-eq45-2 : goal.returns-in-Some-eq45-2
returns-in-Some-eq45-2 c = rw (first_is _ c.front.ensures c.in-Some-eq45.is, digit_kind c.in-Some-eq45.field-0 (omega arith) (omega arith))

pub returns-in_default : goal.returns-in_default
returns-in_default c =
    rw (
      first_is _ c.front.ensures c.in_default.is,
      plain_kind c.in_default.field-0 (λ e. grind arith) (λ e. grind arith) (λ e. grind arith) (λ e. grind arith) (λ e. grind arith) (λ e. grind arith) (λ e. grind arith),
      lt-leb 0x30 c.in_default.field-0 (grind arith),
    )

pub returns-in_default-2 : goal.returns-in_default-2
returns-in_default-2 c =
    rw (
      first_is _ c.front.ensures c.in_default.is,
      plain_kind c.in_default.field-0 (λ e. grind arith) (λ e. grind arith) (λ e. grind arith) (λ e. grind arith) (λ e. grind arith) (λ e. grind arith) (λ e. grind arith),
      le-leb 0x30 c.in_default.field-0 (grind arith),
      lt-leb c.in_default.field-0 0x39 (grind arith),
    )

pub returns-in_default-3 : goal.returns-in_default-3
unfolding kind_of
returns-in_default-3 c = rw (first_none _ c.front.ensures c.in_default.is)
