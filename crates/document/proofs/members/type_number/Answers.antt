-- `document::members::type_number` meets its contract.
-- Assumes nothing.
use Rattle.nav.proofs.Navigation.{string_stands}
use Rattle.document.specs.Members.{type_of}
use Rattle.document.specs.Names.{'SCALAR', 'VEC2', 'VEC3', 'VEC4', 'MAT2', 'MAT3', 'MAT4'}
use Rattle.document.proofs.members.type_number.Goals as goal

pub returns-then-string_is : goal.returns-then-string_is
unfolding type_of
returns-then-string_is c = λ j t.
    rw (← string_stands t 'SCALAR' c.if-string_is.ensures)

pub returns-then-string_is-2 : goal.returns-then-string_is-2
unfolding type_of
returns-then-string_is-2 c = λ j t.
    rw (
      ← string_stands t 'SCALAR' c.if-string_is.ensures,
      ← string_stands t 'VEC2' c.if-string_is-2.ensures,
    )

pub returns-then-string_is-3 : goal.returns-then-string_is-3
unfolding type_of
returns-then-string_is-3 c = λ j t.
    rw (
      ← string_stands t 'SCALAR' c.if-string_is.ensures,
      ← string_stands t 'VEC2' c.if-string_is-2.ensures,
      ← string_stands t 'VEC3' c.if-string_is-3.ensures,
    )

pub returns-then-string_is-4 : goal.returns-then-string_is-4
unfolding type_of
returns-then-string_is-4 c = λ j t.
    rw (
      ← string_stands t 'SCALAR' c.if-string_is.ensures,
      ← string_stands t 'VEC2' c.if-string_is-2.ensures,
      ← string_stands t 'VEC3' c.if-string_is-3.ensures,
      ← string_stands t 'VEC4' c.if-string_is-4.ensures,
    )

pub returns-then-string_is-5 : goal.returns-then-string_is-5
unfolding type_of
returns-then-string_is-5 c = λ j t.
    rw (
      ← string_stands t 'SCALAR' c.if-string_is.ensures,
      ← string_stands t 'VEC2' c.if-string_is-2.ensures,
      ← string_stands t 'VEC3' c.if-string_is-3.ensures,
      ← string_stands t 'VEC4' c.if-string_is-4.ensures,
      ← string_stands t 'MAT2' c.if-string_is-5.ensures,
    )

pub returns-then-string_is-6 : goal.returns-then-string_is-6
unfolding type_of
returns-then-string_is-6 c = λ j t.
    rw (
      ← string_stands t 'SCALAR' c.if-string_is.ensures,
      ← string_stands t 'VEC2' c.if-string_is-2.ensures,
      ← string_stands t 'VEC3' c.if-string_is-3.ensures,
      ← string_stands t 'VEC4' c.if-string_is-4.ensures,
      ← string_stands t 'MAT2' c.if-string_is-5.ensures,
      ← string_stands t 'MAT3' c.if-string_is-6.ensures,
    )

pub returns-then-string_is-7 : goal.returns-then-string_is-7
unfolding type_of
returns-then-string_is-7 c = λ j t.
    rw (
      ← string_stands t 'SCALAR' c.if-string_is.ensures,
      ← string_stands t 'VEC2' c.if-string_is-2.ensures,
      ← string_stands t 'VEC3' c.if-string_is-3.ensures,
      ← string_stands t 'VEC4' c.if-string_is-4.ensures,
      ← string_stands t 'MAT2' c.if-string_is-5.ensures,
      ← string_stands t 'MAT3' c.if-string_is-6.ensures,
      ← string_stands t 'MAT4' c.if-string_is-7.ensures,
    )

pub returns-else-string_is-7 : goal.returns-else-string_is-7
unfolding type_of
returns-else-string_is-7 c = λ j t.
    rw (
      ← string_stands t 'SCALAR' c.if-string_is.ensures,
      ← string_stands t 'VEC2' c.if-string_is-2.ensures,
      ← string_stands t 'VEC3' c.if-string_is-3.ensures,
      ← string_stands t 'VEC4' c.if-string_is-4.ensures,
      ← string_stands t 'MAT2' c.if-string_is-5.ensures,
      ← string_stands t 'MAT3' c.if-string_is-6.ensures,
      ← string_stands t 'MAT4' c.if-string_is-7.ensures,
    )
