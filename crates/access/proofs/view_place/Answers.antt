use mathlib.Core.Path.{◌∙◌}
use Rattle.access.specs.Views.{view_number_of, view_place_of}
use Rattle.access.proofs.view_place.Goals as goal

pub returns : goal.returns
unfolding view_number_of view_place_of
returns c = record {
  number = c.view_place_in.ensures.number ∙ rw c.select_view.ensures;
  place = c.view_place_in.ensures.place ∙ rw c.select_view.ensures;
}
