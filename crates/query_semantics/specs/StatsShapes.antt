-- The columns after STATS, or the first rule that it breaks: the rules of the parts in the order in which they are written, then
-- those of the command itself, field by field.
use Rattle.std.specs.Prelude.{ℕ, Bool, List, [], ◌∷◌, Option, Some, None, Result, Ok, Err, if◌then◌else◌}
use Rattle.esql_types.specs.declared.places.Span.{Span}
use Rattle.esql_types.specs.declared.value.Kind.{Kind}
use Rattle.esql_types.specs.declared.value.Kind.TheVariants as kind
use Rattle.esql_types.specs.declared.names.Column.{Column}
use Rattle.esql_ast.specs.declared.query.Condition.{Condition}
use Rattle.esql_ast.specs.declared.query.Field.{Field}
use Rattle.esql_ast.specs.declared.query.StatsField.{StatsField}
use Rattle.esql_plan.specs.Signatures.{is_kind}
use Rattle.row_semantics.specs.declared.rule.NameRule.TheVariants as rule
use Rattle.row_semantics.specs.Regulars.{Regular}
use Rattle.row_semantics.specs.Scopes.{Broken, Scope, elsewhere, in_field}
use Rattle.row_semantics.specs.Kinds.{and_then, kind_or_rule}
use Rattle.row_semantics.specs.Fields.{name_of_field}
use Rattle.row_semantics.specs.Columns.{put_column}
use Rattle.query_semantics.specs.Calls.{AggregateCall, calls_of, outside_columns}
use Rattle.query_semantics.specs.Stats.{name_of_stats}

-- what the field of STATS over columns is judged by
abbrev pub field_scope : (Regular → Bool) → List Column → Scope
field_scope accepts columns = record { columns = columns; standing = in_field; accepts = accepts }

abbrev pub outside_scope : (Regular → Bool) → List Column → Scope
outside_scope accepts columns = record { columns = columns; standing = elsewhere; accepts = accepts }

-- the kind of a field, and that of its condition if it has one
pub record FieldKinds : Type 0 where
  pub own : Kind
  pub condition : Option Kind

abbrev pub kind_of_condition : (Regular → Bool) → List Column → Option Condition → Result (Option Kind) Broken
kind_of_condition accepts columns None = Ok None
kind_of_condition accepts columns (Some condition) = and_then (kind_or_rule condition.expr (outside_scope accepts columns)) (λ found. Ok (Some found))

-- a field's expression comes before its condition
abbrev pub kinds_of_field : (Regular → Bool) → List Column → StatsField → Result FieldKinds Broken
kinds_of_field accepts columns stats =
    and_then (kind_or_rule stats.field.expr (field_scope accepts columns)) (λ own.
    and_then (kind_of_condition accepts columns stats.condition) (λ condition. Ok (record { own = own; condition = condition })))

abbrev pub kinds_of_fields : (Regular → Bool) → List Column → List StatsField → Result (List FieldKinds) Broken
kinds_of_fields accepts columns [] = Ok []
kinds_of_fields accepts columns (stats ∷ fields) =
    and_then (kinds_of_field accepts columns stats) (λ first. and_then (kinds_of_fields accepts columns fields) (λ rest. Ok (first ∷ rest)))

-- what rows are grouped by may be of any kind
abbrev pub kinds_of_groups : (Regular → Bool) → List Column → List Field → Result (List Kind) Broken
kinds_of_groups accepts columns [] = Ok []
kinds_of_groups accepts columns (group ∷ groups) =
    and_then (kind_or_rule group.expr (outside_scope accepts columns)) (λ first. and_then (kinds_of_groups accepts columns groups) (λ rest. Ok (first ∷ rest)))

-- in a field no column stands outside an aggregate, and some aggregate stands in it
abbrev pub aggregate_rule : List Span → List AggregateCall → Span → Option Broken
aggregate_rule (column ∷ columns) calls own = Some (record { rule = rule.NotAggregate; span = column })
aggregate_rule [] [] own = Some (record { rule = rule.NotAggregate; span = own })
aggregate_rule [] (call ∷ calls) own = None

-- a condition is boolean or null
abbrev pub condition_rule : Option Condition → Option Kind → Option Broken
condition_rule None found = None
condition_rule (Some condition) None = None
condition_rule (Some condition) (Some found) = if is_kind kind.Boolean found then None else Some (record { rule = rule.NotBoolean; span = condition.expr.span })

-- the first of rules that are broken
abbrev pub first_broken : Option Broken → Option Broken → Option Broken
first_broken (Some broken) later = Some broken
first_broken None later = later

abbrev pub field_rule : StatsField → FieldKinds → Option Broken
field_rule stats kinds =
    first_broken (aggregate_rule (outside_columns stats.field.expr) (calls_of stats.field.expr) stats.field.span) (condition_rule stats.condition kinds.condition)

abbrev pub fields_rule : List StatsField → List FieldKinds → Option Broken
fields_rule [] kinds = None
fields_rule (stats ∷ fields) [] = None
fields_rule (stats ∷ fields) (first ∷ kinds) = first_broken (field_rule stats first) (fields_rule fields kinds)

-- the columns of the fields, then of what rows are grouped by; of two with one name the later stays
abbrev pub put_field_columns : List ℕ → List StatsField → List FieldKinds → List Column → List Column
put_field_columns text [] kinds columns = columns
put_field_columns text (stats ∷ fields) [] columns = columns
put_field_columns text (stats ∷ fields) (first ∷ kinds) columns = put_field_columns text fields kinds (put_column columns (name_of_stats text stats) first.own)

abbrev pub put_group_columns : List ℕ → List Field → List Kind → List Column → List Column
put_group_columns text [] kinds columns = columns
put_group_columns text (group ∷ groups) [] columns = columns
put_group_columns text (group ∷ groups) (first ∷ kinds) columns = put_group_columns text groups kinds (put_column columns (name_of_field text group) first)

abbrev pub unless_broken : Option Broken → List Column → Result (List Column) Broken
unless_broken None columns = Ok columns
unless_broken (Some broken) columns = Err broken

-- the columns after STATS, by its text and by which regular expressions are accepted
abbrev pub shape_of_stats : List ℕ → (Regular → Bool) → List StatsField → List Field → List Column → Result (List Column) Broken
shape_of_stats text accepts fields groups columns =
    and_then (kinds_of_fields accepts columns fields) (λ kinds.
    and_then (kinds_of_groups accepts columns groups) (λ group_kinds.
    unless_broken (fields_rule fields kinds) (put_group_columns text groups group_kinds (put_field_columns text fields kinds []))))
