-- What this crate's definitions mean: the theorems. Assumes nothing.
use Prim.Native.Nat.{ℕ, ◌+◌, ◌≤◌}
use mathlib.Core.Path.{◌≡◌, refl}
use mathlib.Core.List.{List}
use native.Mathlib.Omega.{arith}
use borrow.Author.Tests.{eqb-true}
use lib.Dec.{eqb, lit<}
use lib.ListN.{get_or, length, take, drop, length-append}
use Rattle.laws.proofs.Tests.{by_test}
use Rattle.tables.specs.declared.Tables.{Tables}
use Rattle.tables.specs.Fitness.{view_selection_of}
use Rattle.tables.proofs.Inside.{view_in_file}
use Rattle.access.specs.Views.{view_number_of, view_of, view_start}
use Rattle.access.proofs.Fits.{answered_fits}
use Rattle.scene.specs.Walk.{walk_of}
use Rattle.device.specs.Words.{tables_of, head_words, words_of}
use Rattle.device.specs.Places.{place_of}
use Rattle.device.specs.Meaning.{Stored, whole_walk}
use Rattle.device.proofs.Walks.{walk_few, walk_whole}
use Rattle.device.specs.Widths.{head_width}
use Rattle.device.proofs.Sections.{views_length, accessors_length, nodes_length, scenes_length}
use Rattle.device.proofs.Back.{flag_back, head_word, views_back, accessors_back, nodes_back, children_back, scenes_back, roots_back}

-- the words that are written are those tables: readings over them are readings over the tables
pub read_written : (t : Tables) → Stored t → tables_of (words_of t) ≡ t
unfolding tables_of head_words
read_written t stored =
    rw (
      head_word t 0 (lit< tt),
      head_word t 1 (lit< tt),
      head_word t 2 (lit< tt),
      head_word t 3 (lit< tt),
      head_word t 4 (lit< tt),
      head_word t 5 (lit< tt),
      head_word t 6 (lit< tt),
      head_word t 7 (lit< tt),
      head_word t 8 (lit< tt),
      flag_back t.has_scene,
      views_back t stored,
      accessors_back t stored,
      nodes_back t stored,
      children_back t stored,
      scenes_back t stored,
      roots_back t stored,
    ) refl

-- as many words as C lends
pub words_many : (t : Tables) → Stored t → length (words_of t) ≡ 4000
unfolding words_of
words_many t sized =
    simp length-append
    (omega (arith, head_width t, views_length t sized, accessors_length t sized, nodes_length t sized, scenes_length t sized, sized.children.many, sized.roots.many))

-- that a list word over 65,535 reads as 65,535 changes no walk
pub walk_exact : (ws : List ℕ) (scene : ℕ) (list : List ℕ) → walk_of (tables_of ws) scene list ≡ whole_walk ws scene list
walk_exact ws scene list = walk_whole ws scene list

-- a walk counts no more than 128 nodes
pub walk_most : (ws : List ℕ) (scene : ℕ) (list : List ℕ) → (walk_of (tables_of ws) scene list).walked.count ≤ 128
walk_most ws scene list = walk_few ws scene list

-- a view answered lies in the file
pub place_inside : (file : List ℕ) (t : Tables) (i : ℕ)
    → get_or (place_of file t i) 0 0 + get_or (place_of file t i) 1 0 ≤ length file
unfolding place_of view_number_of view_start
place_inside file t i =
    by_test (eqb (view_number_of file t i) 0)
    (λ e. rw e (view_in_file (length file) (view_selection_of t i)
    (answered_fits (length file) (view_selection_of t i) i (eqb-true (view_number_of file t i) 0 e))))
    (λ e. rw e (omega arith))

-- and its bytes there are the view's; refused, none
pub place_view : (file : List ℕ) (t : Tables) (i : ℕ)
    → view_of file t i ≡ take (get_or (place_of file t i) 1 0) (drop (get_or (place_of file t i) 0 0) file)
unfolding place_of view_of
place_view file t i = by_test (eqb (view_number_of file t i) 0) (λ e. rw e) (λ e. rw e)
