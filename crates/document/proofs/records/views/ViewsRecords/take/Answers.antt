-- `document::records::views` reads and keeps an element as its trait asks.
-- Assumes nothing.
use mathlib.Core.Path.{refl, ap}
use Rattle.tables.specs.Records.{no_view}
use Rattle.document.specs.Views.{view_of}
use Rattle.document.specs.declared.records.views.Views.{Views}
use Rattle.document.proofs.Fills.{fill-map}
use Rattle.document.proofs.Fills.Next.{put, full}
use Rattle.document.proofs.Keeping.{takes_ok}
use Rattle.document.proofs.records.views.ViewsRecords.take.Goals as goal

pub returns-then-count-lt64 : goal.returns-then-count-lt64
returns-then-count-lt64 c =
    takes_ok view_of c.view_at.ensures c.in_ok-view.was (λ j js n e v.
    rw (← fill-map no_view view_of 64 js j n (ap (λ (r : Views). r.records) e) v (put c.if-count-lt64.true refl)) refl)

pub returns-else-count-lt64 : goal.returns-else-count-lt64
returns-else-count-lt64 c =
    takes_ok view_of c.view_at.ensures c.in_ok-view.was (λ j js n e v.
    rw (← fill-map no_view view_of 64 js j n (ap (λ (r : Views). r.records) e) v (full c.if-count-lt64.false refl)) refl)
