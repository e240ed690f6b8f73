use borrow.Author.Rules.{rules}
use mathlib.Core.Path.{◌≡◌, ◌∙◌}
use native.Mathlib.Omega.{arith}
use lib.ListN.{length}
use Rattle.device.specs.Words.{head_words}
use Rattle.device.specs.Widths.{head_width}
use Rattle.device.specs.Meaning.{Stored}
use Rattle.device.proofs.Bounds.{lists_of, shorts_of}
use Rattle.device.proofs.Rows.{put_written, rows_numbers}
use Rattle.device.proofs.Sections.{sections}
use Rattle.device.proofs.put.put_all.Goals as goal

pub returns : goal.returns
returns c =
    let t = c.args.t.now in
    -- the arrays have the lengths of their types
    let views : length t.view_records ≡ 64 = search rules in
    let accessors : length t.accessor_records ≡ 128 = search rules in
    let nodes : length t.node_lists ≡ 128 = search rules in
    let children : length t.children ≡ 128 = search rules in
    let scenes : length t.scene_lists ≡ 8 = search rules in
    let roots : length t.roots ≡ 1024 = search rules in
    let sized : Stored t = record {
      views = views;
      accessors = accessors;
      nodes = lists_of 128 t.node_lists nodes c.put_records-3.ensures.fit;
      children = shorts_of 128 t.children children c.put_records-4.ensures.fit;
      scenes = lists_of 8 t.scene_lists scenes c.put_records-5.ensures.fit;
      roots = shorts_of 1024 t.roots roots c.put_records-6.ensures.fit;
    } in (
      sections t sized c.args.words.now _ _ _ _ _ _ _ c.requires
          (put_written _ 0 16 (head_words t) _ (c.copy_from_slice.ensures.after ∙ c.head_words.ensures) (omega (arith, head_width t)))
          c.put_records.ensures.words c.put_records-2.ensures.words c.put_records-3.ensures.words
          (rw rows_numbers at c.put_records-4.ensures.words) c.put_records-5.ensures.words
          (rw rows_numbers at c.put_records-6.ensures.words),
      sized,
    )
