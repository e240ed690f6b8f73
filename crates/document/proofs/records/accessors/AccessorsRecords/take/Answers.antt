-- `document::records::accessors` reads and keeps an element as its trait asks.
-- Assumes nothing.
use mathlib.Core.Path.{refl, ap}
use mathlib.Core.Bool.{false}
use Rattle.tables.specs.Records.{no_accessor}
use Rattle.document.specs.Accessors.{accessor_of, is_placed}
use Rattle.document.specs.Results.{placed_accessor}
use Rattle.document.specs.declared.records.accessors.Accessors.{Accessors}
use Rattle.document.specs.declared.records.accessors.PlacedAccessor.{PlacedAccessor}
use Rattle.document.proofs.Fills.{fill-map}
use Rattle.document.proofs.Fills.Next.{put, full}
use Rattle.document.proofs.Keeping.{takes_ok}
use Rattle.document.proofs.records.accessors.AccessorsRecords.take.Goals as goal

pub returns-then-count-lt128 : goal.returns-then-count-lt128
returns-then-count-lt128 c =
    takes_ok placed_accessor c.accessor_at.ensures c.in_ok-read.was (λ j js n e v.
    rw (
      ← fill-map no_accessor accessor_of 128 js j n (ap (λ (r : Accessors). r.records) e) (ap (λ (p : PlacedAccessor). p.accessor) v) (put c.if-count-lt128.true refl),
      ← fill-map false is_placed 128 js j n (ap (λ (r : Accessors). r.placed) e) (ap (λ (p : PlacedAccessor). p.placed) v) (put c.if-count-lt128.true refl),
    )
    refl)

pub returns-else-count-lt128 : goal.returns-else-count-lt128
returns-else-count-lt128 c =
    takes_ok placed_accessor c.accessor_at.ensures c.in_ok-read.was (λ j js n e v.
    rw (
      ← fill-map no_accessor accessor_of 128 js j n (ap (λ (r : Accessors). r.records) e) (ap (λ (p : PlacedAccessor). p.accessor) v) (full c.if-count-lt128.false refl),
      ← fill-map false is_placed 128 js j n (ap (λ (r : Accessors). r.placed) e) (ap (λ (p : PlacedAccessor). p.placed) v) (full c.if-count-lt128.false refl),
    )
    refl)
