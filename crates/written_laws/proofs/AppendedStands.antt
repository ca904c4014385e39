-- DISSECT, GROK and ENRICH do to rows of names what their steps do to rows of numbers.
use Rattle.std.proofs.Common.{◌≡◌, ℕ, List, [], ◌∷◌, ◌++◌, map, length, Option, Some, Ok, refl, ap, sym, subst, ◌∙◌, append_assoc, arith}
use Rattle.std.specs.Prelude.{slice_get}
use Rattle.std.specs.List.{flat_map}
use Rattle.std.proofs.lemmas.List.{append-nil, map-id}
use Rattle.std.proofs.lemmas.List.Elements.{All-weaker}
use Rattle.esql_types.specs.declared.value.Value.{Value}
use Rattle.esql_types.specs.declared.cause.Failure.{Failure}
use Rattle.esql_types.specs.declared.names.Column.{Column}
use Rattle.esql_types.specs.declared.names.NodeId.{NodeId}
use Rattle.esql_ast.specs.declared.expr.Expr.{Expr}
use Rattle.esql_ast.specs.declared.query.EnrichItem.{EnrichItem}
use Rattle.esql_ast.specs.declared.query.NameAt.{NameAt}
use Rattle.esql_plan.specs.declared.catalog.PolicyShape.{PolicyShape}
use Rattle.esql_plan.specs.declared.plan.OutColumn.{OutColumn}
use Rattle.esql_plan.specs.declared.step.NewColumn.{NewColumn}
use Rattle.esql_plan.specs.declared.step.Step.{Step}
use Rattle.esql_plan.specs.declared.step.Step.TheVariants as step
use Rattle.esql_plan.specs.Values.{NumberedRow}
use Rattle.dissect_grok.specs.declared.cutter.Cutter.{Cutter}
use Rattle.dissect_grok.specs.Patterns.{reading_of}
use Rattle.dissect_grok.specs.Groks.{grok_of}
use Rattle.plan_semantics.specs.Tables.{CatalogHeld}
use Rattle.plan_semantics.specs.Taken.{Taken, dissected, dissect_columns, grokked, columns_in_grok, found_of_policy, found_if, enriched, with_new}
use Rattle.plan_semantics.specs.Steps.{step_rows, step_failures, rows_after, failures_after}
use Rattle.plan_semantics.proofs.Splits.{rows_after-append}
use Rattle.row_semantics.specs.Scopes.{column_named}
use Rattle.row_semantics.specs.Columns.{names_of}
use Rattle.row_semantics.specs.Kinds.{kind_of_column}
use Rattle.row_semantics.specs.Rows.{Row, cell_at}
use Rattle.row_semantics.specs.Typed.{visible_named}
use Rattle.query_semantics.specs.Appended.{put_cells, taken_in_row, row_with_taken, rows_of_dissect, rows_of_grok, failures_of_grok, FoundPolicy, matched_name, matched_at, FieldTaken, fields_taken, taken_columns, taken_numbers, enriched_row, rows_of_policy_found, rows_of_enrich}
use Rattle.query_semantics.specs.AppendedShapes.{shape_of_enrich}
use Rattle.query_semantics.specs.RowValues.{failures_of_expr}
use Rattle.query_semantics.specs.Writings.{Writing, write_input, input_of}
use Rattle.query_semantics.specs.WrittenAppended.{put_new, new_columns, write_new, dissect_cutters, write_dissect, grok_cutters, write_grok, write_matched, write_policy, write_enrich}
use Rattle.query_semantics.specs.Named.{named_row}
use Rattle.query_semantics.proofs.Squares.{map_map, map_same, flat_map_square, flat_map_none, flat_map_one}
use Rattle.query_semantics.proofs.Named.{IsBelow, AllBelow, named_same, found_cell}
use Rattle.written_laws.proofs.AppendedJudged.{IsSeen, named_seen, enrich_judged}
use Rattle.written_laws.proofs.Inputs.{failures_after-push, InputStands, input_stands}
use Rattle.written_laws.proofs.NewColumns.{length-new, named_new, below_new}
use Rattle.written_laws.proofs.PoliciesFound.{policy_at}
use Rattle.written_laws.proofs.Standing.{Stands}
use Rattle.written_laws.proofs.StatsShown.{Shows}

-- rows of names that take new cells are what is seen of rows of numbers in new columns
module _ (columns : List Column) (visible : List OutColumn) (next : ℕ) (below : AllBelow next visible) (cells : NumberedRow → List (List Value)) where
  abbrev with_columns : NumberedRow → NumberedRow
  with_columns row = with_new row (new_columns next columns) (cells row)

  abbrev seen_new : NumberedRow → Row
  seen_new = named_row (put_new visible columns next)

  rows_new : (of_row : Row → Row) (named : NumberedRow → Row) (become : NumberedRow → NumberedRow)
      → ((row : NumberedRow) → of_row (named row) ≡ put_cells (named_row visible (become row)) (names_of columns) (cells (become row)))
      → (these : List NumberedRow) → map of_row (map named these) ≡ map seen_new (flat_map (λ row. with_columns row ∷ []) (map become these))
  rows_new of_row named become same these =
      map_map of_row named these
      ∙ map_same (λ row. of_row (named row)) (λ row. seen_new (with_columns (become row))) (λ row. same row ∙ named_new columns (cells (become row)) visible next (become row) below) these
      ∙ sym (map_map seen_new (λ row. with_columns (become row)) these)
      ∙ ap (map seen_new) (sym (flat_map_one with_columns (map become these) ∙ map_map with_columns become these))

module _ (held : CatalogHeld) (start : List NumberedRow) (rows : List Row) (failures : List Failure) (writing : Writing) (stands : Stands held start rows failures writing) where
  abbrev so_far : List NumberedRow
  so_far = rows_after held writing.steps start

  abbrev named : NumberedRow → Row
  named = named_row writing.visible

  -- DISSECT and GROK: the input first, then one step, whose columns have what is taken of it ------------------------------------

  module _ (input : Expr) (take : ℕ → List Value → Taken) (fails : Taken → List Failure) (columns : List Column) (cutters : List Cutter) (step_to : List NewColumn → Step) where
    abbrev after : Writing
    after = write_input writing input

    abbrev new : List NewColumn
    new = new_columns after.next columns

    abbrev taken : NumberedRow → Taken
    taken row = take (length new) (row (input_of writing input).0)

    abbrev taken_by_name : Row → Taken
    taken_by_name row = taken_in_row take columns input row

    -- what is taken of the row of names
    taken_is : (inputs : InputStands held writing.visible input writing after (input_of writing input)) (row : NumberedRow) → taken_by_name (named row) ≡ taken (inputs.become row)
    taken_is inputs row = λ i. take (sym (length-new after.next columns) i) (sym (inputs.cell row (inputs.become row) (λ id less. refl)) i)

    row_is : (inputs : InputStands held writing.visible input writing after (input_of writing input)) (row : NumberedRow)
        → row_with_taken take columns input (named row) ≡ put_cells (named_row after.visible (inputs.become row)) (names_of columns) (taken (inputs.become row)).cells
    row_is inputs row =
        let kept : named_row after.visible (inputs.become row) ≡ named row =
        (λ i. named_row (inputs.visible_is i) (inputs.become row)) ∙ named_same writing.next writing.visible row (inputs.become row) stands.below (inputs.same row) in
        λ i. put_cells (sym kept i) (names_of columns) (taken_is inputs row i).cells

    pub taken_stands : ((these : List NumberedRow) → step_rows held (step_to new) these ≡ flat_map (λ row. with_new row new (taken row).cells ∷ []) these)
        → ((these : List NumberedRow) → step_failures (step_to new) these ≡ flat_map (λ row. fails (taken row)) these)
        → Stands held start (map (row_with_taken take columns input) rows) (failures ++ (failures_of_expr input rows ++ flat_map (λ row. fails (taken_by_name row)) rows))
        (write_new columns cutters step_to after)
    taken_stands gives failing =
        let inputs : InputStands held writing.visible input writing after (input_of writing input) = input_stands held writing input stands.below in
        let less = inputs.next in
        let below : AllBelow after.next after.visible =
        subst (AllBelow after.next) (sym inputs.visible_is) (All-weaker (IsBelow writing.next) (IsBelow after.next) (λ column own. omega (arith, own, less)) writing.visible stands.below) in
        let own : List Failure = failures_of_expr input (map named so_far) in
        let before : List Failure = failures_after held writing.steps start in
        record {
          rows_are = ap (map (row_with_taken take columns input)) stands.rows_are
              ∙ rows_new columns after.visible after.next below (λ row. (taken row).cells) (row_with_taken take columns input) named inputs.become (row_is inputs) so_far
              ∙ ap (map (named_row (put_new after.visible columns after.next)))
              (sym (rows_after-append held after.steps (step_to new ∷ []) start ∙ gives (rows_after held after.steps start)
              ∙ ap (flat_map (λ row. with_new row new (taken row).cells ∷ [])) (inputs.rows start)));
          failures_are = (λ i. stands.failures_are i ++ (failures_of_expr input (stands.rows_are i) ++ flat_map (λ row. fails (taken_by_name row)) (stands.rows_are i)))
              ∙ ap (λ (these : List Failure). before ++ (own ++ these))
              (flat_map_square (λ row. fails (taken_by_name row)) named (λ row. fails (taken (inputs.become row))) (λ row. ap fails (taken_is inputs row)) so_far
              ∙ sym (flat_map_square (λ row. fails (taken row)) inputs.become (λ row. fails (taken (inputs.become row))) (λ row. refl) so_far)
              ∙ ap (flat_map (λ row. fails (taken row))) (sym (inputs.rows start))
              ∙ sym (failing (rows_after held after.steps start)))
              ∙ sym (append_assoc before own (step_failures (step_to new) (rows_after held after.steps start)))
              ∙ ap (λ (these : List Failure). these ++ step_failures (step_to new) (rows_after held after.steps start)) (sym (inputs.failures start))
              ∙ sym (failures_after-push held after.steps (step_to new) start);
          below = below_new columns after.visible after.next below;
        }

  pub dissect_stands : (node : NodeId) (input : Expr) (pattern separator : List ℕ)
      → Stands held start (rows_of_dissect input pattern separator rows) (failures ++ failures_of_expr input rows) (write_dissect node input pattern separator writing)
  dissect_stands node input pattern separator =
      subst (λ (these : List Failure). Stands held start (rows_of_dissect input pattern separator rows) (failures ++ these) (write_dissect node input pattern separator writing))
      (ap (λ (these : List Failure). failures_of_expr input rows ++ these) (flat_map_none (λ (row : Row). []) (λ row. refl) rows) ∙ append-nil (failures_of_expr input rows))
      (taken_stands input (dissected pattern separator) (λ taken. []) (dissect_columns pattern separator) (dissect_cutters (reading_of pattern separator))
      (step.Dissect node (input_of writing input) (length writing.cutters) pattern separator) (λ these. refl) (λ these. refl))

  pub grok_stands : (node : NodeId) (input : Expr) (pattern : List ℕ)
      → Stands held start (rows_of_grok node input pattern rows) (failures ++ failures_of_grok node input pattern rows) (write_grok node input pattern writing)
  grok_stands node input pattern =
      taken_stands input (grokked node pattern) (λ taken. taken.failures) (columns_in_grok pattern) (grok_cutters (grok_of pattern))
      (step.Grok node (input_of writing input) (length writing.cutters) pattern) (λ these. refl) (λ these. refl)

  -- ENRICH: one step over the matched column ----------------------------------------------------------------------------------------

  matched_stands : (found : FoundPolicy) (column : OutColumn) (on : Option NameAt) (taken : List FieldTaken)
      → slice_get held.policies found.number ≡ Some found.shape → visible_named writing.visible (matched_name found.shape on) ≡ Some column
      → Stands held start (map (enriched_row held.tables found.shape on taken) rows) (failures ++ []) (write_matched found (Some column) taken writing)
  matched_stands found column on taken there seen =
      let columns : List Column = taken_columns taken in
      let numbers : List ℕ = taken_numbers taken in
      let new : Step = step.Enrich found.number column.id numbers (new_columns writing.next columns) in
      let cells : NumberedRow → List (List Value) = λ row. enriched held found.number numbers (row column.id.0) in
      let of_row : Row → Row = enriched_row held.tables found.shape on taken in
      let cells_are : (row : NumberedRow) → found_of_policy held.tables found.shape numbers (cell_at (named row) (matched_name found.shape on)) ≡ cells row =
      λ row.
      ap (found_of_policy held.tables found.shape numbers) (found_cell writing.visible (matched_name found.shape on) column row seen)
      ∙ ap (λ (policy : Option PolicyShape). found_if held.tables policy numbers (row column.id.0)) (sym there) in
      record {
        rows_are = ap (map of_row) stands.rows_are
            ∙ rows_new columns writing.visible writing.next stands.below cells of_row named (λ row. row) (λ row. ap (put_cells (named row) (names_of columns)) (cells_are row)) so_far
            ∙ ap (map (named_row (put_new writing.visible columns writing.next)))
            (ap (flat_map (λ row. with_new row (new_columns writing.next columns) (cells row) ∷ [])) (map-id so_far) ∙ sym (rows_after-append held writing.steps (new ∷ []) start));
        failures_are = (λ i. stands.failures_are i ++ sym (flat_map_none (λ (row : NumberedRow). []) (λ row. refl) so_far) i) ∙ sym (failures_after-push held writing.steps new start);
        below = below_new columns writing.visible writing.next stands.below;
      }

  pub enrich_stands : (policy : NameAt) (on : Option NameAt) (items : Option (List EnrichItem)) (columns after : List Column)
      → Shows writing columns → shape_of_enrich held.policies policy on items columns ≡ Ok after
      → Stands held start (rows_of_enrich held policy on items rows) (failures ++ []) (write_enrich held.policies policy on items writing)
  enrich_stands policy on items columns after shows is =
      let judged = enrich_judged columns on items after held.policies policy is in
      let taken : List FieldTaken = fields_taken judged.found.shape.fields items in
      let name : List ℕ = matched_name judged.found.shape on in
      let seen : IsSeen writing.visible name judged.kind =
      named_seen writing.visible name (matched_at policy on) judged.kind (subst (λ (these : List Column). kind_of_column (column_named these name) (matched_at policy on) ≡ Ok judged.kind) shows judged.is) in
      subst (λ (found : Option FoundPolicy). Stands held start (rows_of_policy_found held.tables found on items rows) (failures ++ []) (write_policy found on items writing)) (sym judged.named)
      (subst (λ (column : Option OutColumn). Stands held start (map (enriched_row held.tables judged.found.shape on taken) rows) (failures ++ []) (write_matched judged.found column taken writing)) (sym seen.is)
      (matched_stands judged.found seen.column on taken (policy_at [] held.policies policy.name judged.found judged.named) seen.is))
