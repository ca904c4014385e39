-- Fields that are written in turn.
use Rattle.std.proofs.Common.{ℕ, ◌+◌, Bool, List, [], ◌∷◌, length, Ok, refl, arith, inl}
use Rattle.std.specs.List.{flat_map}
use Rattle.std.proofs.lemmas.List.{length-append}
use Rattle.esql_types.specs.declared.names.Column.{Column}
use Rattle.esql_ast.specs.declared.query.Field.{Field}
use Rattle.esql_ast.specs.Nodes.{nodes_of_field}
use Rattle.row_semantics.specs.Regulars.{Regular}
use Rattle.row_semantics.specs.Kinds.{kind_or_rule}
use Rattle.query_semantics.specs.Shapes.{Shape, shape_of_field, shape_of_fields, scope_over}
use Rattle.query_semantics.specs.Writings.{Writing, typed_in}
use Rattle.query_semantics.specs.Written.{write_field, write_fields}
use Rattle.plan_writing.specs.Contexts.{over}
use Rattle.plan_writing.specs.Writings.{HasRoom}
use Rattle.plan_writing.proofs.Stays.{Stays, then_stays, expr_stays}
use Rattle.plan_writing.proofs.PlainRooms.{put_shown}
use Rattle.row_semantics.specs.Typed.{typing_of}
use Rattle.row_semantics.specs.Fields.{name_of_field}
use Rattle.plan_writing.proofs.Expressions.{patterns_at_most, some_node}
use Rattle.esql_types.specs.declared.value.Kind.{Kind}
use Rattle.row_semantics.specs.Columns.{put_column}
use Rattle.row_semantics.specs.Scopes.{elsewhere}
use Rattle.plan_writing.proofs.Turns.{Turn}

pub field_stays : (text : List ℕ) (field : Field) (columns : List Column) → Stays (λ accepts. shape_of_field (over text accepts) field columns)
field_stays text field columns =
    let next : (Regular → Bool) → Kind → Shape = λ accepts kind. Ok (put_column columns (name_of_field text field) kind) in
    then_stays (λ accepts. kind_or_rule field.expr (scope_over (over text accepts) columns)) next (expr_stays field.expr columns elsewhere) (λ kind span. inl refl)

pub fields_stay : (text : List ℕ) (fields : List Field) (columns : List Column) → Stays (λ accepts. shape_of_fields (over text accepts) fields columns)
fields_stay text [] columns span = inl refl
fields_stay text (field ∷ fields) columns span =
    let next : (Regular → Bool) → List Column → Shape = λ accepts. shape_of_fields (over text accepts) fields in
    then_stays (λ accepts. shape_of_field (over text accepts) field columns) next (field_stays text field columns) (λ more. fields_stay text fields more) span

pub field_room : (text : List ℕ) (field : Field) (writing : Writing) (more : ℕ) → HasRoom writing (length (nodes_of_field field) + more) → HasRoom (write_field text writing field) more
field_room text field writing more room =
    let most = patterns_at_most field.expr in
    let some = some_node field.expr in
    let shown = put_shown writing.visible (name_of_field text field) (typed_in writing field.expr).kind writing.next in
    record {
      shown = omega (arith, room.shown, shown, some);
      columns = omega (arith, room.columns, some);
      whole = omega (arith, room.whole, most.whole, length-append writing.whole (typing_of field.expr).whole);
      free = omega (arith, room.free, most.free, length-append writing.free (typing_of field.expr).free);
      cutters = omega (arith, room.cutters);
    }

pub fields_room : (text : List ℕ) (fields : List Field) (writing : Writing) (more : ℕ) → HasRoom writing (length (flat_map nodes_of_field fields) + more) → HasRoom (write_fields text fields writing) more
fields_room text [] writing more room = record { shown = omega (arith, room.shown); columns = omega (arith, room.columns); whole = omega (arith, room.whole); free = omega (arith, room.free); cutters = omega (arith, room.cutters) }
fields_room text (field ∷ fields) writing more room =
    let both = length-append (nodes_of_field field) (flat_map nodes_of_field fields) in
    let ahead : HasRoom writing (length (nodes_of_field field) + (length (flat_map nodes_of_field fields) + more)) =
    record { shown = omega (arith, room.shown, both); columns = omega (arith, room.columns, both); whole = omega (arith, room.whole, both); free = omega (arith, room.free, both); cutters = omega (arith, room.cutters, both) } in
    fields_room text fields (write_field text writing field) more (field_room text field writing _ ahead)

abbrev pub fields_turn : List ℕ → Turn Field
fields_turn text = record {
  shape = λ accepts. shape_of_field (over text accepts);
  shapes = λ accepts. shape_of_fields (over text accepts);
  write = write_field text;
  size = λ field. length (nodes_of_field field);
  sizes = λ fields. length (flat_map nodes_of_field fields);
  sizes_more = λ field fields. length-append (nodes_of_field field) (flat_map nodes_of_field fields);
  none = λ accepts columns. refl;
  more = λ accepts field fields columns. refl;
  stays = field_stays text;
  room = field_room text;
}
