-- What is known of the parts of a STATS that breaks no rule.
use Rattle.std.proofs.Common.{◌≡◌, ℕ, Bool, true, false, cond, List, [], ◌∷◌, All, Option, Some, None, Ok, refl, ap, ◌∙◌}
use Rattle.std.proofs.lemmas.List.Elements.{All-nil, All-cons}
use Rattle.esql_types.specs.declared.places.Span.{Span}
use Rattle.esql_types.specs.declared.value.Kind.{Kind}
use Rattle.esql_types.specs.declared.value.Kind.TheVariants.{Boolean}
use Rattle.esql_types.specs.declared.names.Column.{Column}
use Rattle.esql_ast.specs.declared.query.Condition.{Condition}
use Rattle.esql_ast.specs.declared.query.Field.{Field}
use Rattle.esql_ast.specs.declared.query.StatsField.{StatsField}
use Rattle.esql_plan.specs.Signatures.{is_kind}
use Rattle.row_semantics.specs.Regulars.{Regular}
use Rattle.row_semantics.specs.Scopes.{Broken}
use Rattle.row_semantics.specs.Kinds.{kind_or_rule}
use Rattle.query_semantics.specs.Calls.{AggregateCall, calls_of, outside_columns}
use Rattle.query_semantics.specs.StatsShapes.{field_scope, outside_scope, FieldKinds, kind_of_condition, kinds_of_field, kinds_of_fields, kinds_of_groups, aggregate_rule, condition_rule, first_broken, field_rule, fields_rule, unless_broken, shape_of_stats}
use Rattle.query_semantics.proofs.Kinded.{found_of}

module _ (accepts : Regular → Bool) (columns : List Column) where
  -- a condition is boolean or null
  pub record ConditionIsJudged (condition : Condition) : Type 0 where
    pub kind : Kind
    pub is : kind_or_rule condition.expr (outside_scope accepts columns) ≡ Ok kind
    pub truth : is_kind Boolean kind ≡ true

  abbrev pub IsJudgedIf : Option Condition → Type 0
  IsJudgedIf None = Unit {0}
  IsJudgedIf (Some condition) = ConditionIsJudged condition

  -- a field has a kind, no column stands outside its aggregates, and its condition is judged
  pub record FieldIsJudged (stats : StatsField) : Type 0 where
    pub kind : Kind
    pub is : kind_or_rule stats.field.expr (field_scope accepts columns) ≡ Ok kind
    pub outside : outside_columns stats.field.expr ≡ []
    pub condition : IsJudgedIf stats.condition

  pub record GroupIsJudged (group : Field) : Type 0 where
    pub kind : Kind
    pub is : kind_or_rule group.expr (outside_scope accepts columns) ≡ Ok kind

  no_columns : (outside : List Span) (calls : List AggregateCall) (own : Span) → aggregate_rule outside calls own ≡ None → outside ≡ []
  no_columns [] calls own none = refl
  no_columns (column ∷ outside) calls own none = absurd cc

  both_none : (first later : Option Broken) → first_broken first later ≡ None → (first ≡ None) × (later ≡ None)
  both_none None later none = (refl, none)
  both_none (Some broken) later none = absurd cc

  it_is_true : (truth : Bool) (broken : Broken) → cond truth None (Some broken) ≡ None → truth ≡ true
  it_is_true true broken none = refl
  it_is_true false broken none = absurd cc

  condition_judged : (condition : Option Condition) (found : Option Kind) → kind_of_condition accepts columns condition ≡ Ok found → condition_rule condition found ≡ None → IsJudgedIf condition
  condition_judged None found is none = tt
  condition_judged (Some condition) found is none =
      let own = found_of (kind_or_rule condition.expr (outside_scope accepts columns)) (λ kind. Ok (Some kind)) found is in
      let same : Some own.value ≡ found = (let last = own.next_is in cc) in
      let rule : condition_rule (Some condition) (Some own.value) ≡ None = ap (condition_rule (Some condition)) same ∙ none in
      record { kind = own.value; is = own.is; truth = it_is_true (is_kind Boolean own.value) _ rule }

  field_judged : (stats : StatsField) (kinds : FieldKinds) → kinds_of_field accepts columns stats ≡ Ok kinds → field_rule stats kinds ≡ None → FieldIsJudged stats
  field_judged stats kinds is none =
      let own = found_of (kind_or_rule stats.field.expr (field_scope accepts columns)) _ kinds is in
      let behind = found_of (kind_of_condition accepts columns stats.condition) _ kinds own.next_is in
      let same : behind.value ≡ kinds.condition = (let last = behind.next_is in cc) in
      let rules = both_none (aggregate_rule (outside_columns stats.field.expr) (calls_of stats.field.expr) stats.field.span) (condition_rule stats.condition kinds.condition) none in
      record {
        kind = own.value;
        is = own.is;
        outside = no_columns (outside_columns stats.field.expr) (calls_of stats.field.expr) stats.field.span rules.0;
        condition = condition_judged stats.condition kinds.condition (behind.is ∙ ap (λ (found : Option Kind). Ok found) same) rules.1;
      }

  fields_judged : (fields : List StatsField) (kinds : List FieldKinds) → kinds_of_fields accepts columns fields ≡ Ok kinds → fields_rule fields kinds ≡ None → All FieldIsJudged fields
  fields_judged [] kinds is none = All-nil FieldIsJudged
  fields_judged (stats ∷ fields) [] is none =
      let first = found_of (kinds_of_field accepts columns stats) _ [] is in
      let rest = found_of (kinds_of_fields accepts columns fields) _ [] first.next_is in
      absurd (let last = rest.next_is in cc)
  fields_judged (stats ∷ fields) (own ∷ kinds) is none =
      let first = found_of (kinds_of_field accepts columns stats) _ (own ∷ kinds) is in
      let rest = found_of (kinds_of_fields accepts columns fields) _ (own ∷ kinds) first.next_is in
      let same : first.value ≡ own = (let last = rest.next_is in cc) in
      let others : rest.value ≡ kinds = (let last = rest.next_is in cc) in
      let rules = both_none (field_rule stats own) (fields_rule fields kinds) none in
      All-cons FieldIsJudged stats fields (field_judged stats own (first.is ∙ ap (λ (these : FieldKinds). Ok these) same) rules.0)
      (fields_judged fields kinds (rest.is ∙ ap (λ (these : List FieldKinds). Ok these) others) rules.1)

  groups_judged : (groups : List Field) (kinds : List Kind) → kinds_of_groups accepts columns groups ≡ Ok kinds → All GroupIsJudged groups
  groups_judged [] kinds is = All-nil GroupIsJudged
  groups_judged (group ∷ groups) kinds is =
      let first = found_of (kind_or_rule group.expr (outside_scope accepts columns)) _ kinds is in
      let rest = found_of (kinds_of_groups accepts columns groups) _ kinds first.next_is in
      All-cons GroupIsJudged group groups (record { kind = first.value; is = first.is }) (groups_judged groups rest.value rest.is)

  -- fields and groups are judged
  pub record StatsAreJudged (fields : List StatsField) (groups : List Field) : Type 0 where
    pub fields_are : All FieldIsJudged fields
    pub groups_are : All GroupIsJudged groups

  none_broken : (broken : Option Broken) (behind after : List Column) → unless_broken broken behind ≡ Ok after → broken ≡ None
  none_broken None behind after is = refl
  none_broken (Some broken) behind after is = absurd cc

  pub stats_judged : (text : List ℕ) (fields : List StatsField) (groups : List Field) (after : List Column) → shape_of_stats text accepts fields groups columns ≡ Ok after
      → StatsAreJudged fields groups
  stats_judged text fields groups after is =
      let kinds = found_of (kinds_of_fields accepts columns fields) _ after is in
      let group_kinds = found_of (kinds_of_groups accepts columns groups) _ after kinds.next_is in
      let none = none_broken (fields_rule fields kinds.value) _ after group_kinds.next_is in
      record { fields_are = fields_judged fields kinds.value kinds.is none; groups_are = groups_judged groups group_kinds.value group_kinds.is }
