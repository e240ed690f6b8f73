-- The answer of rules 19 and 20, as the code gives it. Assumes nothing: these are definitions.
use Rattle.std.specs.Prelude.{ℕ}
use Rattle.tables.specs.declared.finding.Finding.{Finding}

-- a rule of the buffer, 0 for none, as a finding: there is one buffer
abbrev pub buffer_found : ℕ → Finding
buffer_found rule = record { rule = rule; item = 0 }
