use Rattle.tables.proofs.accessors.packed_fault.Goals as goal

pub returns-then-misplaced_values-misplaced_indices : goal.returns-then-misplaced_values-misplaced_indices
returns-then-misplaced_values-misplaced_indices c =
    rw (← c.is_misplaced-misplaced_values.ensures, ← c.is_misplaced-misplaced_indices.ensures, c.if-misplaced_values-misplaced_indices.true)

pub returns-then-past_indices-past_values : goal.returns-then-past_indices-past_values
returns-then-past_indices-past_values c =
    rw (← c.is_misplaced-misplaced_values.ensures, ← c.is_misplaced-misplaced_indices.ensures, c.if-misplaced_values-misplaced_indices.false, ← c.is_past-past_indices.ensures, ← c.is_past-past_values.ensures, c.if-past_indices-past_values.true)

pub returns-else-past_indices-past_values : goal.returns-else-past_indices-past_values
returns-else-past_indices-past_values c =
    rw (← c.is_misplaced-misplaced_values.ensures, ← c.is_misplaced-misplaced_indices.ensures, c.if-misplaced_values-misplaced_indices.false, ← c.is_past-past_indices.ensures, ← c.is_past-past_values.ensures, c.if-past_indices-past_values.false)
