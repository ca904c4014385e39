-- Where one more pattern is not accepted, the shape of STATS is as it was, or refuses at that pattern.
use Rattle.std.proofs.Common.{inl, ℕ, Bool, List, [], ◌∷◌, Option, Some, None, Result, Ok, refl}
use Rattle.esql_types.specs.declared.value.Kind.{Kind}
use Rattle.esql_types.specs.declared.names.Column.{Column}
use Rattle.esql_ast.specs.declared.query.Condition.{Condition}
use Rattle.esql_ast.specs.declared.query.Field.{Field}
use Rattle.esql_ast.specs.declared.query.StatsField.{StatsField}
use Rattle.row_semantics.specs.Regulars.{Regular}
use Rattle.row_semantics.specs.Scopes.{Broken, elsewhere, in_field}
use Rattle.row_semantics.specs.Kinds.{and_then, kind_or_rule}
use Rattle.query_semantics.specs.StatsShapes.{FieldKinds, field_scope, outside_scope, kind_of_condition, kinds_of_field, kinds_of_fields, kinds_of_groups, fields_rule, put_field_columns, put_group_columns, unless_broken, shape_of_stats}
use Rattle.plan_writing.proofs.Stays.{Stays, then_stays, expr_stays}

condition_stays : (columns : List Column) (condition : Option Condition) → Stays (λ accepts. kind_of_condition accepts columns condition)
condition_stays columns None span = inl refl
condition_stays columns (Some condition) span =
    let next : (Regular → Bool) → Kind → Result (Option Kind) Broken = λ accepts found. Ok (Some found) in
    then_stays (λ accepts. kind_or_rule condition.expr (outside_scope accepts columns)) next (expr_stays condition.expr columns elsewhere) (λ kind span. inl refl) span

pub field_stays : (columns : List Column) (stats : StatsField) → Stays (λ accepts. kinds_of_field accepts columns stats)
field_stays columns stats =
    let last : Kind → (Regular → Bool) → Option Kind → Result FieldKinds Broken = λ own accepts condition. Ok (record { own = own; condition = condition }) in
    let next : (Regular → Bool) → Kind → Result FieldKinds Broken = λ accepts own. and_then (kind_of_condition accepts columns stats.condition) (last own accepts) in
    then_stays (λ accepts. kind_or_rule stats.field.expr (field_scope accepts columns)) next (expr_stays stats.field.expr columns in_field)
    (λ own. then_stays (λ accepts. kind_of_condition accepts columns stats.condition) (last own) (condition_stays columns stats.condition) (λ condition span. inl refl))

pub fields_stay : (columns : List Column) (fields : List StatsField) → Stays (λ accepts. kinds_of_fields accepts columns fields)
fields_stay columns [] span = inl refl
fields_stay columns (stats ∷ fields) span =
    let last : FieldKinds → (Regular → Bool) → List FieldKinds → Result (List FieldKinds) Broken = λ first accepts rest. Ok (first ∷ rest) in
    let next : (Regular → Bool) → FieldKinds → Result (List FieldKinds) Broken = λ accepts first. and_then (kinds_of_fields accepts columns fields) (last first accepts) in
    then_stays (λ accepts. kinds_of_field accepts columns stats) next (field_stays columns stats)
    (λ first. then_stays (λ accepts. kinds_of_fields accepts columns fields) (last first) (fields_stay columns fields) (λ rest span. inl refl)) span

groups_stay : (columns : List Column) (groups : List Field) → Stays (λ accepts. kinds_of_groups accepts columns groups)
groups_stay columns [] span = inl refl
groups_stay columns (group ∷ groups) span =
    let last : Kind → (Regular → Bool) → List Kind → Result (List Kind) Broken = λ first accepts rest. Ok (first ∷ rest) in
    let next : (Regular → Bool) → Kind → Result (List Kind) Broken = λ accepts first. and_then (kinds_of_groups accepts columns groups) (last first accepts) in
    then_stays (λ accepts. kind_or_rule group.expr (outside_scope accepts columns)) next (expr_stays group.expr columns elsewhere)
    (λ first. then_stays (λ accepts. kinds_of_groups accepts columns groups) (last first) (groups_stay columns groups) (λ rest span. inl refl)) span

pub stats_stay : (text : List ℕ) (fields : List StatsField) (groups : List Field) (columns : List Column) → Stays (λ accepts. shape_of_stats text accepts fields groups columns)
stats_stay text fields groups columns =
    let last : List FieldKinds → (Regular → Bool) → List Kind → Result (List Column) Broken =
    λ kinds accepts group_kinds. unless_broken (fields_rule fields kinds) (put_group_columns text groups group_kinds (put_field_columns text fields kinds [])) in
    let next : (Regular → Bool) → List FieldKinds → Result (List Column) Broken = λ accepts kinds. and_then (kinds_of_groups accepts columns groups) (last kinds accepts) in
    then_stays (λ accepts. kinds_of_fields accepts columns fields) next (fields_stay columns fields)
    (λ kinds. then_stays (λ accepts. kinds_of_groups accepts columns groups) (last kinds) (groups_stay columns groups) (λ group_kinds span. inl refl))
