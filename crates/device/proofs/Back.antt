-- The words of tables, read back. Assumes nothing.
use Prim.Native.Nat.{ℕ, suc, ◌+◌, ◌*◌, ◌<◌, ◌≤◌}
use mathlib.Core.Path.{◌≡◌, refl, sym, ap, ◌∙◌}
use mathlib.Core.Bool.{Bool, true, false, not}
use mathlib.Core.List as L
use mathlib.Core.List.{◌++◌, append-nil}
use native.Mathlib.Nat.{min-eq_left}
use native.Mathlib.Omega.{arith}
use lib.Dec.{eqb}
use lib.ListN.{get_or, length, drop, get_or-append}
use lib.Seq.{drop_at, drop-drop, get_or-drop}
use Rattle.tables.specs.declared.BufferView.{BufferView}
use Rattle.tables.specs.declared.Accessor.{Accessor}
use Rattle.tables.specs.declared.List.{List}
use Rattle.tables.specs.declared.Tables.{Tables}
use Rattle.tables.specs.Records.{no_view, no_accessor, no_list}
use Rattle.device.specs.Words.{view_from, sparse_from, accessor_from, list_from, entries, short, bit}
use Rattle.device.specs.Words.{view_words, accessor_words, list_words, head_words, rows, words_of}
use Rattle.device.specs.Meaning.{Stored}
use Rattle.device.proofs.Entries.{entries_is}
use Rattle.device.proofs.Rows.{row_at}
use Rattle.device.specs.Widths.{view_width, accessor_width, list_width, head_width}
use Rattle.device.proofs.Sections.{views_length, accessors_length, nodes_length, scenes_length}

-- a flag
pub flag_back : (b : Bool) → not (eqb (bit b) 0) ≡ b
flag_back true = refl
flag_back false = refl

-- a view's record
view_back : (v : BufferView) (after : L.List ℕ) → view_from (view_words v ++ after) ≡ v
unfolding view_from view_words
view_back v after = rw (flag_back v.has_byte_stride, flag_back v.has_target) refl

-- an accessor's record
accessor_back : (a : Accessor) (after : L.List ℕ) → accessor_from (accessor_words a ++ after) ≡ a
unfolding accessor_from sparse_from accessor_words
accessor_back a after =
    rw (flag_back a.has_buffer_view, flag_back a.normalized, flag_back a.has_sparse) refl

-- a list's record
list_back : (r : List) (after : L.List ℕ) → r.start ≤ 65535 → r.length ≤ 65535 → list_from (list_words r ++ after) ≡ r
unfolding list_from list_words
list_back r after s n = rw (min-eq_left s, min-eq_left n) refl

-- what stands behind a section of n words
behind : (ws xs ys : L.List ℕ) (p q n : ℕ) → drop p ws ≡ xs ++ ys → length xs ≡ n → q ≡ p + n → drop q ws ≡ ys
behind ws xs ys p q n e h o = rw (o, ← drop-drop n p ws, e) (drop_at xs ys n h)

-- record i of a section that starts at p
record_at : {A : Type 0} (f : A → L.List ℕ) (k : ℕ) → ((r : A) → length (f r) ≡ k)
    → (rs : L.List A) (z : A) (ws after : L.List ℕ) (p i : ℕ) → drop p ws ≡ rows f rs ++ after → i < length rs
    → drop (p + k * i) ws ≡ f (get_or rs i z) ++ (rows f (drop (suc i) rs) ++ after)
record_at f k width rs z ws after p i e h = rw (← drop-drop (k * i) p ws, e) (row_at f k width rs z i after h)

-- number i of a packed list that starts at p
number_at : (ws xs after : L.List ℕ) (p i : ℕ) → drop p ws ≡ xs ++ after → i < length xs → get_or xs i 0 ≤ 65535
    → short ws (p + i) ≡ get_or xs i 0
number_at ws xs after p i e h n =
    let g : get_or ws (p + i) 0 ≡ get_or xs i 0 =
    sym (get_or-drop p ws i 0) ∙ ap (λ (l : L.List ℕ). get_or l i 0) e ∙ get_or-append xs after 0 i h in
    rw g (min-eq_left n)

-- the first 16 words
pub head_word : (t : Tables) (k : ℕ) → k < 16 → get_or (words_of t) k 0 ≡ get_or (head_words t) k 0
unfolding words_of
head_word t k h = get_or-append (head_words t) _ 0 k (omega (arith, head_width t))

module _ (t : Tables) (stored : Stored t) where
  -- the sections behind the head, views, accessors, nodes, children and scenes
  abbrev after_children : L.List ℕ
  after_children = rows list_words t.scene_lists ++ t.roots

  abbrev after_accessors : L.List ℕ
  after_accessors = rows list_words t.node_lists ++ (t.children ++ after_children)

  abbrev after_head : L.List ℕ
  after_head = rows view_words t.view_records ++ (rows accessor_words t.accessor_records ++ after_accessors)

  at_views : drop 16 (words_of t) ≡ after_head
  unfolding words_of
  at_views = drop_at (head_words t) after_head 16 (head_width t)

  at_accessors : drop 528 (words_of t) ≡ rows accessor_words t.accessor_records ++ after_accessors
  at_accessors = behind (words_of t) (rows view_words t.view_records) _ 16 528 512 at_views (views_length t stored) refl

  at_nodes : drop 2576 (words_of t) ≡ after_accessors
  at_nodes = behind (words_of t) (rows accessor_words t.accessor_records) _ 528 2576 2048 at_accessors (accessors_length t stored) refl

  at_children : drop 2832 (words_of t) ≡ t.children ++ after_children
  at_children = behind (words_of t) (rows list_words t.node_lists) _ 2576 2832 256 at_nodes (nodes_length t stored) refl

  at_scenes : drop 2960 (words_of t) ≡ after_children
  at_scenes = behind (words_of t) t.children _ 2832 2960 128 at_children stored.children.many refl

  at_roots : drop 2976 (words_of t) ≡ t.roots ++ L.[]
  at_roots = behind (words_of t) (rows list_words t.scene_lists) _ 2960 2976 16 at_scenes (scenes_length t stored) refl ∙ sym (append-nil t.roots)

  pub views_back : entries 64 (λ i. view_from (drop (16 + 8 * i) (words_of t))) ≡ t.view_records
  views_back =
      entries_is t.view_records 64 _ no_view stored.views
      (λ i h. rw (record_at view_words 8 view_width t.view_records no_view (words_of t) _ 16 i at_views (omega (arith, stored.views)))
      (view_back (get_or t.view_records i no_view) _))

  pub accessors_back : entries 128 (λ i. accessor_from (drop (528 + 16 * i) (words_of t))) ≡ t.accessor_records
  accessors_back =
      entries_is t.accessor_records 128 _ no_accessor stored.accessors
      (λ i h. rw (record_at accessor_words 16 accessor_width t.accessor_records no_accessor (words_of t) _ 528 i at_accessors (omega (arith, stored.accessors)))
      (accessor_back (get_or t.accessor_records i no_accessor) _))

  pub nodes_back : entries 128 (λ i. list_from (drop (2576 + 2 * i) (words_of t))) ≡ t.node_lists
  nodes_back =
      entries_is t.node_lists 128 _ no_list stored.nodes.many
      (λ i h. rw (record_at list_words 2 list_width t.node_lists no_list (words_of t) _ 2576 i at_nodes (omega (arith, stored.nodes.many)))
      (list_back (get_or t.node_lists i no_list) _ (stored.nodes.starts i) (stored.nodes.lengths i)))

  pub scenes_back : entries 8 (λ i. list_from (drop (2960 + 2 * i) (words_of t))) ≡ t.scene_lists
  scenes_back =
      entries_is t.scene_lists 8 _ no_list stored.scenes.many
      (λ i h. rw (record_at list_words 2 list_width t.scene_lists no_list (words_of t) _ 2960 i at_scenes (omega (arith, stored.scenes.many)))
      (list_back (get_or t.scene_lists i no_list) _ (stored.scenes.starts i) (stored.scenes.lengths i)))

  pub children_back : entries 128 (λ i. short (words_of t) (2832 + i)) ≡ t.children
  children_back =
      entries_is t.children 128 _ 0 stored.children.many
      (λ i h. number_at (words_of t) t.children _ 2832 i at_children (omega (arith, stored.children.many)) (stored.children.fit i))

  pub roots_back : entries 1024 (λ i. short (words_of t) (2976 + i)) ≡ t.roots
  roots_back =
      entries_is t.roots 1024 _ 0 stored.roots.many
      (λ i h. number_at (words_of t) t.roots L.[] 2976 i at_roots (omega (arith, stored.roots.many)) (stored.roots.fit i))
