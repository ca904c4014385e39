-- What is known of STATS where it breaks no rule: the kinds of its parts, and that each aggregate call has its argument.
use Rattle.std.proofs.Common.{◌≡◌, ℕ, Bool, List, [], ◌∷◌, Option, Some, None, Ok}
use Rattle.std.specs.List.{AllByRecursion}
use Rattle.esql_types.specs.declared.names.Column.{Column}
use Rattle.esql_types.specs.declared.value.Kind.{Kind}
use Rattle.esql_ast.specs.declared.query.Field.{Field}
use Rattle.esql_ast.specs.declared.query.StatsField.{StatsField}
use Rattle.row_semantics.specs.Kinds.{and_then, kind_or_rule}
use Rattle.row_semantics.specs.Regulars.{Regular}
use Rattle.row_semantics.specs.Scopes.{Broken}
use Rattle.query_semantics.specs.Calls.{calls_of}
use Rattle.query_semantics.specs.StatsShapes.{field_scope, FieldKinds, kind_of_condition, kinds_of_field, kinds_of_fields, kinds_of_groups, fields_rule, put_field_columns, put_group_columns, unless_broken, shape_of_stats}
use Rattle.query_semantics.proofs.CallsWhole.{calls_whole}
use Rattle.query_semantics.proofs.Distinct.{each_append}
use Rattle.query_semantics.proofs.Kinded.{found_of, ok_is}
use Rattle.written_laws.proofs.StatsGroups.{IsWhole, each_map}
use Rattle.written_laws.proofs.StatsInputs.{counted_by, calls_in_field, calls_in_fields}

-- the kinds of the fields and the groups of STATS, and the columns after it
pub record FoundStats (text : List ℕ) (accepts : Regular → Bool) (fields_in : List StatsField) (groups_in : List Field) (columns after : List Column) : Type 0 where
  pub fields : List FieldKinds
  pub fields_are : kinds_of_fields accepts columns fields_in ≡ Ok fields
  pub groups : List Kind
  pub groups_are : kinds_of_groups accepts columns groups_in ≡ Ok groups
  pub next_is : put_group_columns text groups_in groups (put_field_columns text fields_in fields []) ≡ after

unless_is : (broken : Option Broken) (columns after : List Column) → unless_broken broken columns ≡ Ok after → columns ≡ after
unless_is None columns after is = ok_is is
unless_is (Some broken) columns after is = absurd cc

pub stats_shape : (text : List ℕ) (accepts : Regular → Bool) (fields : List StatsField) (groups : List Field) (columns after : List Column) → shape_of_stats text accepts fields groups columns ≡ Ok after
    → FoundStats text accepts fields groups columns after
stats_shape text accepts fields groups columns after is =
    let first = found_of (kinds_of_fields accepts columns fields) (λ kinds.
    and_then (kinds_of_groups accepts columns groups) (λ group_kinds.
    unless_broken (fields_rule fields kinds) (put_group_columns text groups group_kinds (put_field_columns text fields kinds [])))) after is in
    let second = found_of (kinds_of_groups accepts columns groups) (λ group_kinds.
    unless_broken (fields_rule fields first.value) (put_group_columns text groups group_kinds (put_field_columns text fields first.value []))) after first.next_is in
    record {
      fields = first.value;
      fields_are = first.is;
      groups = second.value;
      groups_are = second.is;
      next_is = unless_is (fields_rule fields first.value) _ after second.next_is;
    }

-- Aggregate calls have their arguments -------------------------------------------------------------------------------------------

field_whole : (accepts : Regular → Bool) (columns : List Column) (stats : StatsField) (kinds : FieldKinds) → kinds_of_field accepts columns stats ≡ Ok kinds → AllByRecursion IsWhole (calls_in_field stats)
field_whole accepts columns stats kinds is =
    let found = found_of (kind_or_rule stats.field.expr (field_scope accepts columns)) (λ own.
    and_then (kind_of_condition accepts columns stats.condition) (λ condition. Ok (record { own = own; condition = condition }))) kinds is in
    each_map IsWhole (counted_by stats.condition) (calls_of stats.field.expr) (calls_whole stats.field.expr accepts columns found.value found.is)

fields_whole : (accepts : Regular → Bool) (columns : List Column) (fields : List StatsField) (kinds : List FieldKinds) → kinds_of_fields accepts columns fields ≡ Ok kinds
    → AllByRecursion IsWhole (calls_in_fields fields)
fields_whole accepts columns [] kinds is = tt
fields_whole accepts columns (stats ∷ fields) kinds is =
    let first = found_of (kinds_of_field accepts columns stats) (λ first. and_then (kinds_of_fields accepts columns fields) (λ rest. Ok (first ∷ rest))) kinds is in
    let rest = found_of (kinds_of_fields accepts columns fields) (λ rest. Ok (first.value ∷ rest)) kinds first.next_is in
    each_append IsWhole (calls_in_field stats) (calls_in_fields fields) (field_whole accepts columns stats first.value first.is) (fields_whole accepts columns fields rest.value rest.is)

-- a STATS that breaks no rule
pub stats_whole : (text : List ℕ) (accepts : Regular → Bool) (fields : List StatsField) (groups : List Field) (columns after : List Column) → shape_of_stats text accepts fields groups columns ≡ Ok after
    → AllByRecursion IsWhole (calls_in_fields fields)
stats_whole text accepts fields groups columns after is =
    let found = stats_shape text accepts fields groups columns after is in
    fields_whole accepts columns fields found.fields found.fields_are
