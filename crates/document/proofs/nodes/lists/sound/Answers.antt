-- `document::nodes::lists::sound` meets its contract. Assumes nothing.
use Prim.Native.Nat.{ℕ}
use mathlib.Core.Path.{◌≡◌, refl, sym, ◌∙◌}
use mathlib.Core.Bool.{true, false, true≢false}
use lib.ListN.{replicate}
use Rattle.std.specs.Prelude.{Result, Ok, Err}
use Rattle.std.specs.Result.{is_err}
use Rattle.graph.specs.declared.verdict.Fault.{Fault}
use Rattle.tables.specs.Records.{no_list}
use Rattle.document.specs.declared.nodes.lists.ListsRead.{ListsRead}
use Rattle.document.specs.Packs.{sound, zeros}
use Rattle.document.proofs.nodes.Turns.{none_is}
use Rattle.document.proofs.nodes.lists.sound.Goals as goal

-- a rule is broken
cleared : {n m : ℕ} (r : Result (Unit {0}) Fault) (l : ListsRead n m) → is_err r ≡ true
    → record { count = l.count; lists = replicate n no_list; entries = zeros m } ≡ sound r l
unfolding sound
cleared (Ok u) l e = absurd (true≢false (sym e))
cleared (Err f) l e = refl

-- none is
left : {n m : ℕ} (r : Result (Unit {0}) Fault) (l : ListsRead n m) → is_err r ≡ false → l ≡ sound r l
unfolding sound
left (Ok u) l e = refl
left (Err f) l e = absurd (true≢false e)

pub returns-then-is_err : goal.returns-then-is_err
returns-then-is_err g c =
    rw (none_is c.default.ensures) (cleared c.args.graph c.args.read.now (sym c.is_err.ensures.value ∙ c.if-is_err.true))

pub returns-else-is_err : goal.returns-else-is_err
returns-else-is_err g c = left c.args.graph c.args.read.now (sym c.is_err.ensures.value ∙ c.if-is_err.false)
