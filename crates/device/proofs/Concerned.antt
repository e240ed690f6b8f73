-- The records of the tables that the words are, and the place of a view. Assumes nothing.
use Prim.Native.Nat.{ℕ, ◌+◌, ◌*◌, ◌<◌}
use mathlib.Core.Path.{◌≡◌}
use mathlib.Core.List.{List, [], ◌∷◌}
use lib.Dec.{eqb}
use lib.ListN.{get_or, drop}
use Rattle.laws.proofs.Tests.{by_test}
use Rattle.tables.specs.declared.Tables.{Tables}
use Rattle.tables.specs.Records.{no_accessor, no_view}
use Rattle.access.specs.declared.Place.{Place}
use Rattle.access.specs.Views.{view_number_of, view_place_of}
use Rattle.device.specs.Places.{place_of}
use Rattle.device.specs.Words.{view_from, accessor_from, tables_of}
use Rattle.device.proofs.Entries.{entries_at}

-- view record i
pub view_record : (ws : List ℕ) (i : ℕ) → i < 64
    → get_or (tables_of ws).view_records i no_view ≡ view_from (drop (16 + 8 * i) ws)
unfolding tables_of
view_record ws i h = entries_at 64 (λ i. view_from (drop (16 + 8 * i) ws)) i no_view h

-- accessor record i
pub accessor_record : (ws : List ℕ) (i : ℕ) → i < 128
    → get_or (tables_of ws).accessor_records i no_accessor ≡ accessor_from (drop (528 + 16 * i) ws)
unfolding tables_of
accessor_record ws i h = entries_at 128 (λ i. accessor_from (drop (528 + 16 * i) ws)) i no_accessor h

-- the two words of a place
abbrev pub pair : Place → List ℕ
pair p = p.start ∷ p.length ∷ []

-- where a view lies is the place that a lookup on tables gives
pub place_pair : (file : List ℕ) (t : Tables) (i : ℕ) → place_of file t i ≡ pair (view_place_of file t i)
unfolding place_of view_place_of
place_pair file t i = by_test (eqb (view_number_of file t i) 0) (λ e. rw e) (λ e. rw e)
