-- The nodes found of tables that are not unfit.
-- Assumes nothing.
use Prim.Native.Nat.{ℕ, ◌<◌, ◌≤◌}
use mathlib.Core.Path.{◌≡◌, refl}
use mathlib.Core.Bool.{false, ◌||◌}
use mathlib.Core.List.{List, []}
use native.Mathlib.Omega.{arith}
use borrow.Author.Tests.{lt-leb}
use lib.Dec.{ltb}
use lib.ListN.{get_or, length}
use Rattle.laws.proofs.Tests.{by_test, or_false}
use Rattle.tables.specs.declared.Tables.{Tables}
use Rattle.graph.specs.Order.{Walk}
use Rattle.graph.proofs.Exact.{walk_exact as order-walk}
use Rattle.graph.proofs.Capacity.{sound_holds}
use Rattle.graph.proofs.Placing.{length-packed}
use Rattle.scene.specs.Lists.{starts_of, lengths_of, kids_of, roots_of}
use Rattle.scene.specs.Walk.{walk_of, walk_unfit, listed, levels, order_of}
use Rattle.scene.specs.Meaning.{Sized, Unfit, Found}
use Rattle.scene.proofs.Fit.{Fit, fit, joined, root_low}
use Rattle.scene.proofs.Orders.{in_order}
use Rattle.scene.proofs.Unfits.{unfit_yes}

-- The scene index is below the count and 8, and the tables are not unfit.
module _ (t : Tables) (sized : Sized t) (scene : ℕ) (below : scene < t.scenes) (ok : Unfit t → ⊥) where
  pub not_given : walk_unfit t ≡ false
  not_given = by_test (walk_unfit t) (λ e. absurd (ok (unfit_yes t sized e))) (λ f. f)

  fits : Fit (starts_of t.node_lists) (lengths_of t.node_lists) t.children t.nodes
      (starts_of t.scene_lists) (lengths_of t.scene_lists) t.roots t.scenes
  unfolding walk_unfit
  fits =
      fit _ _ _ _ _ _ _ _
      (or_false (ltb 1 t.buffers || ltb 64 t.views || ltb 128 t.accessors) _ not_given).1

  nodes : length (kids_of t) ≡ t.nodes
  nodes = length-packed (starts_of t.node_lists) (lengths_of t.node_lists) t.children t.nodes

  deep : length (kids_of t) ≤ levels
  deep = omega (arith, nodes, fits.nodes.fits)

  there : scene < length (roots_of t)
  there =
      omega (
        arith,
        length-packed (starts_of t.scene_lists) (lengths_of t.scene_lists) t.roots t.scenes,
      )

  walks : Walk (kids_of t) (get_or (roots_of t) scene []) (order_of t scene)
  walks = order-walk (kids_of t) (roots_of t) fits.sound levels scene deep there

  pub order_found : Found t scene (order_of t scene)
  order_found =
      record {
        ordered = in_order (kids_of t) (joined _ _ _ _ _ _ _ _ fits)
            (sound_holds (kids_of t) (roots_of t) fits.sound 2 (omega arith)) levels (get_or (roots_of t) scene []) deep
            (λ x i. root_low _ _ _ _ _ _ _ _ fits scene x below i);
        exact = walks;
        few = omega (arith, walks.few, nodes);
      }

  -- neither 64 nor 66
  pub walk_listed : scene < 8 → (list : List ℕ) → walk_of t scene list ≡ listed (order_of t scene) list
  unfolding walk_of
  walk_listed low list = rw (lt-leb t.scenes scene below, lt-leb 8 scene low, not_given) refl
