-- The words of tables, section by section. Assumes nothing.
use Prim.Native.Nat.{ℕ, ◌+◌, ◌≤◌}
use mathlib.Core.Path.{◌≡◌, ◌∙◌}
use mathlib.Core.List.{List, [], ◌++◌, append_assoc, append-nil}
use native.Mathlib.Omega.{arith}
use lib.ListN.{length, drop, length-append, drop_of_length-le}
use Rattle.tables.specs.declared.Tables.{Tables}
use Rattle.scene.specs.Steps.{written}
use Rattle.scene.proofs.Laws.{written_front, written_more}
use Rattle.device.specs.Words.{view_words, accessor_words, list_words, head_words, rows, words_of}
use Rattle.device.specs.Meaning.{Stored}
use Rattle.device.specs.Widths.{view_width, accessor_width, list_width, head_width}
use Rattle.device.proofs.Rows.{rows_length}

-- the words w so far: d with the p words xs at the front
record Front (d xs w : List ℕ) (p : ℕ) : Type 0 where
  pub words : w ≡ written d 0 xs
  pub many : length xs ≡ p

-- the next section, behind those before it
next : {d xs w v : List ℕ} {p : ℕ} (ys : List ℕ) (q : ℕ) → Front d xs w p → v ≡ written w p ys → p + length ys ≡ q → q ≤ length d
    → Front d (xs ++ ys) v q
next {d} {xs} {w} {v} {p} ys q f e n h =
    let start : p ≡ 0 + length xs = omega (arith, f.many) in
    record {
      words = e ∙ rw (f.words, start) (written_more d 0 xs ys (omega (arith, f.many)));
      many = length-append xs ys ∙ omega (arith, f.many);
    }

-- as many words as there are places are all of them
whole : {d xs w : List ℕ} {p : ℕ} → Front d xs w p → length d ≡ p → w ≡ xs
whole {d} {xs} f n =
    let none : drop (length xs) d ≡ [] = drop_of_length-le d {i = length xs} (omega (arith, f.many)) in
    f.words ∙ written_front d xs ∙ rw none (append-nil xs)

module _ (t : Tables) (sized : Stored t) where
  pub views_length : length (rows view_words t.view_records) ≡ 512
  views_length = omega (arith, rows_length view_words 8 view_width t.view_records, sized.views)

  pub accessors_length : length (rows accessor_words t.accessor_records) ≡ 2048
  accessors_length =
      omega (arith, rows_length accessor_words 16 accessor_width t.accessor_records, sized.accessors)

  pub nodes_length : length (rows list_words t.node_lists) ≡ 256
  nodes_length = omega (arith, rows_length list_words 2 list_width t.node_lists, sized.nodes.many)

  pub scenes_length : length (rows list_words t.scene_lists) ≡ 16
  scenes_length = omega (arith, rows_length list_words 2 list_width t.scene_lists, sized.scenes.many)

  -- the seven sections, written one after the other
  pub sections : (d w1 w2 w3 w4 w5 w6 w7 : List ℕ) → length d ≡ 4000
      → w1 ≡ written d 0 (head_words t) → w2 ≡ written w1 16 (rows view_words t.view_records)
      → w3 ≡ written w2 528 (rows accessor_words t.accessor_records)
      → w4 ≡ written w3 2576 (rows list_words t.node_lists) → w5 ≡ written w4 2832 t.children
      → w6 ≡ written w5 2960 (rows list_words t.scene_lists) → w7 ≡ written w6 2976 t.roots
      → w7 ≡ words_of t
  unfolding words_of
  sections d w1 w2 w3 w4 w5 w6 w7 n e1 e2 e3 e4 e5 e6 e7 =
      let p1 : Front d (head_words t) w1 16 = record { words = e1; many = head_width t } in
      let p2 = next (rows view_words t.view_records) 528 p1 e2 (omega (arith, views_length)) (omega arith) in
      let p3 = next (rows accessor_words t.accessor_records) 2576 p2 e3 (omega (arith, accessors_length)) (omega arith) in
      let p4 = next (rows list_words t.node_lists) 2832 p3 e4 (omega (arith, nodes_length)) (omega arith) in
      let p5 = next t.children 2960 p4 e5 (omega (arith, sized.children.many)) (omega arith) in
      let p6 = next (rows list_words t.scene_lists) 2976 p5 e6 (omega (arith, scenes_length)) (omega arith) in
      let p7 = next t.roots 4000 p6 e7 (omega (arith, sized.roots.many)) (omega arith) in
      whole p7 n ∙ simp append_assoc
