-- `document::records::buffers` reads and keeps an element as its trait asks.
-- Assumes nothing.
use mathlib.Core.Path.{refl, ap}
use Rattle.document.specs.Buffers.{no_buffer, buffer_of}
use Rattle.document.specs.declared.records.buffers.Buffers.{Buffers}
use Rattle.document.proofs.Fills.{fill-map}
use Rattle.document.proofs.Fills.Next.{put, full}
use Rattle.document.proofs.Keeping.{takes_ok}
use Rattle.document.proofs.records.buffers.BuffersRecords.take.Goals as goal

pub returns-then-count-lt1 : goal.returns-then-count-lt1
returns-then-count-lt1 c =
    takes_ok buffer_of c.buffer_at.ensures c.in_ok-buffer.was (λ j js n e v.
    rw (← fill-map no_buffer buffer_of 1 js j n (ap (λ (r : Buffers). r.records) e) v (put c.if-count-lt1.true refl)) refl)

pub returns-else-count-lt1 : goal.returns-else-count-lt1
returns-else-count-lt1 c =
    takes_ok buffer_of c.buffer_at.ensures c.in_ok-buffer.was (λ j js n e v.
    rw (← fill-map no_buffer buffer_of 1 js j n (ap (λ (r : Buffers). r.records) e) v (full c.if-count-lt1.false refl)) refl)
