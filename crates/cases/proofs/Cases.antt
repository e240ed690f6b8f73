-- The bench cases, computed: each row of the table is an equation whose two sides come to the same.
-- Assumes nothing.
use mathlib.Core.Path.{refl}
use Rattle.laws.specs.Bytes.{little, little_at}
use Rattle.laws.specs.Search.{first_rule}
use Rattle.container.specs.Chunks.{header_at, starts_whole, chunks_from, chunks_of, bytes_of}
use Rattle.container.specs.Rules.{header_rows, chunk_rows, opened, container_of}
use Rattle.utf8.specs.Utf8.{width_of, whole_from, utf8_of}
use Rattle.json_text.specs.Depth.{to_pass, depth_of}
use Rattle.json_text.specs.Strings.{to_close}
use Rattle.json_text.specs.Parse.{past_ws, text_run, tree_of}
use Rattle.json_text.specs.Answer.{scan_of}
use Rattle.nav.specs.Words.{plains, spells, dotted, is_version}
use Rattle.nav.specs.Members.{lookup, field_of}
use Rattle.names.specs.Strings.{slashed}
use Rattle.names.specs.Order.{has, pairs}
use Rattle.names.specs.Names.{run, escaped_of, search_of, repeat_of}
use Rattle.text.specs.Rules.{name_fault, text_of}
use Rattle.document.specs.Members.{is_object, integer_member}
use Rattle.document.specs.Arrays.{elements_in}
use Rattle.document.specs.Lists.{lists_of}
use Rattle.document.specs.Table.{fits_row, fits_all}
use Rattle.document.specs.Rules.{rule14, rule15, rule16, rule17, rule18, rule_by}
use Rattle.document.specs.Said.{records_from, tables_with, tables_of, said, document_in, document_of}
use Rattle.tables.specs.Records.{empty_tables}
use Rattle.tables.specs.Findings.{finding_of}
use Rattle.tables.specs.Elements.{component_size, component_count, column_bytes, component_place}
use Rattle.tables.specs.Elements.{element_bytes, last_element_bytes}
use Rattle.tables.specs.Views.{views_finding}
use Rattle.tables.specs.Accessors.{effective_stride, alignment, layout_of, uneven, misplaced, passes}
use Rattle.tables.specs.Accessors.{accessor_tests, accessor_fault, accessors_finding}
use Rattle.data.specs.Buffer.{rule20, buffer_rule}
use Rattle.data.specs.Sparse.{sparse_index, misordered, rule40, sparse_finding}
use Rattle.graph.specs.Graph.{joined, times, any_in, endless, graph_fault}
use Rattle.access.specs.Numbers.{twos, decode}
use Rattle.access.specs.Readings.{number_at}
use Rattle.glb.specs.Check.{placed_at, buffer_finding, scene_finding, first_finding, late_finding, check_document, check_of}
use Rattle.cases.specs.Cases.{Hold, table}

-- a row and the rows after it
infixr 60 ◌and◌
abbrev ◌and◌ : {A B : Type 0} → A → B → A × B
◌and◌ a b = (a, b)

-- C1 to C12, a line each
pub cases_hold : Hold table
unfolding little little_at first_rule header_at starts_whole chunks_from chunks_of bytes_of header_rows chunk_rows opened
    container_of width_of whole_from utf8_of to_pass depth_of to_close past_ws text_run tree_of scan_of slashed has pairs run
    escaped_of search_of repeat_of name_fault text_of plains spells dotted is_version lookup field_of is_object
    integer_member elements_in lists_of fits_row fits_all rule14 rule15 rule16 rule17 rule18 rule_by records_from
    tables_with tables_of said document_in document_of empty_tables finding_of component_size component_count column_bytes
    component_place element_bytes last_element_bytes views_finding effective_stride alignment layout_of uneven misplaced
    passes accessor_tests accessor_fault accessors_finding rule20 buffer_rule sparse_index misordered rule40
    sparse_finding joined times any_in endless graph_fault twos decode number_at placed_at buffer_finding scene_finding
    first_finding late_finding check_document check_of
cases_hold =
    refl
    and refl and refl and refl
    and refl and refl and refl
    and refl and refl
    and refl and refl
    and refl and refl
    and refl
    and refl
    and refl
    and refl
    and refl
    and refl
    and record {}
