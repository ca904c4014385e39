-- The rules of STATS are judged as its shape is, and each part of what has a shape has a kind.
use Rattle.std.proofs.Common.{◌≡◌, inl, inr, ℕ, Bool, List, [], ◌∷◌, ◌++◌, All, Option, Some, None, IfSome, Result, Ok, Err, refl, ap, ◌∙◌}
use Rattle.std.specs.List.{flat_map}
use Rattle.std.proofs.lemmas.List.Elements.{All-nil, All-cons, All-head, All-tail, All-append}
use Rattle.esql_types.specs.declared.value.Kind.{Kind}
use Rattle.esql_types.specs.declared.names.Column.{Column}
use Rattle.esql_ast.specs.declared.expr.Expr.{Expr}
use Rattle.esql_ast.specs.declared.query.Condition.{Condition}
use Rattle.esql_ast.specs.declared.query.Field.{Field}
use Rattle.esql_ast.specs.declared.query.StatsField.{StatsField}
use Rattle.esql_plan.specs.declared.function.AggFunction.{AggFunction}
use Rattle.esql_plan.specs.declared.plan.OutColumn.{OutColumn}
use Rattle.plan_semantics.specs.Plans.{columns_of}
use Rattle.row_semantics.specs.Kinds.{and_then, kind_or_rule}
use Rattle.row_semantics.specs.Regulars.{Regular, is_accepted}
use Rattle.row_semantics.specs.Scopes.{Broken}
use Rattle.query_semantics.specs.Calls.{AggregateCall, calls_of}
use Rattle.query_semantics.specs.StatsShapes.{FieldKinds, field_scope, kind_of_condition, kinds_of_field, kinds_of_fields, kinds_of_groups, first_broken, field_rule, fields_rule, put_field_columns, put_group_columns, unless_broken, shape_of_stats}
use Rattle.query_semantics.proofs.CallsJudged.{FitsCall, IsJudged, calls_judged}
use Rattle.expression_analysis.specs.declared.error.AnalyzeError.{AnalyzeError}
use Rattle.expression_analysis.specs.Answers.{IsRefusal}
use Rattle.stats_writing.specs.Parts.{Judgement, HasValue, AllFind, OneIsRefused, judged_outside, judged_in_field, judged_argument, judged_arguments, judged_condition, judged_before, judged_fields, judged_groups, regulars_of_arguments, regulars_before}
use Rattle.plan_writing.specs.Regulars.{regulars_of_field, regulars_of_condition, regulars_of_stats}
use Rattle.stats_writing.specs.StatsRules.{rule_of_field, rule_of_fields}
use Rattle.plan_writing.proofs.Heard.{IsWithin, within_front, within_back}
use Rattle.stats_writing.proofs.OneRefused.{has_ok, has_found, whole_refused}
use Rattle.stats_writing.proofs.StatsStays.{stats_stay}
use Rattle.stats_writing.proofs.CallsRegulars.{none_within, within_then, both_within, arguments_within}

both_ruled : (stats : StatsField) (fields : List StatsField) (first : Result FieldKinds Broken) (rest : Result (List FieldKinds) Broken)
    → and_then (and_then first (λ kinds. Ok (field_rule stats kinds))) (λ own. and_then (and_then rest (λ these. Ok (fields_rule fields these))) (λ later. Ok (first_broken own later)))
    ≡ and_then (and_then first (λ own. and_then rest (λ more. Ok (own ∷ more)))) (λ kinds. Ok (fields_rule (stats ∷ fields) kinds))
both_ruled stats fields (Err broken) rest = refl
both_ruled stats fields (Ok kinds) (Err broken) = refl
both_ruled stats fields (Ok kinds) (Ok more) = refl

-- the rule of fields by their kinds
pub fields_ruled : (accepts : Regular → Bool) (columns : List Column) (fields : List StatsField) → rule_of_fields accepts columns fields ≡ and_then (kinds_of_fields accepts columns fields) (λ kinds. Ok (fields_rule fields kinds))
fields_ruled accepts columns [] = refl
fields_ruled accepts columns (stats ∷ fields) =
    ap (λ (rest : Result (Option Broken) Broken). and_then (rule_of_field accepts columns stats) (λ own. and_then rest (λ later. Ok (first_broken own later)))) (fields_ruled accepts columns fields)
    ∙ both_ruled stats fields (kinds_of_field accepts columns stats) (kinds_of_fields accepts columns fields)

-- parts -----------------------------------------------------------------------------------------------------------------------

module _ (accepts : Regular → Bool) (before : List OutColumn) where
  abbrev Finds : Judgement → Type 0
  Finds judge = HasValue (judge accepts)

  argument_finds : (function : AggFunction) (argument : Option Expr) → IfSome argument (FitsCall accepts (columns_of before) function) → AllFind accepts (judged_argument before argument)
  argument_finds function None fits = All-nil Finds
  argument_finds function (Some argument) fits = All-cons Finds (judged_outside before argument) [] (has_ok (judged_outside before argument accepts) fits.kind fits.is) (All-nil Finds)

  arguments_find : (calls : List AggregateCall) → All (IsJudged accepts (columns_of before)) calls → AllFind accepts (judged_arguments before calls)
  arguments_find [] all = All-nil Finds
  arguments_find (call ∷ calls) all =
      All-append Finds (judged_argument before call.argument) (judged_arguments before calls)
      (argument_finds call.function call.argument (All-head (IsJudged accepts (columns_of before)) call calls all).argument)
      (arguments_find calls (All-tail (IsJudged accepts (columns_of before)) call calls all))

  condition_finds : (condition : Option Condition) → HasValue (kind_of_condition accepts (columns_of before) condition) → AllFind accepts (judged_condition before condition)
  condition_finds None has = All-nil Finds
  condition_finds (Some condition) has =
      let found = has_found (judged_outside before condition.expr accepts) (λ found. Ok (Some found)) has in
      All-cons Finds (judged_outside before condition.expr) [] (has_ok (judged_outside before condition.expr accepts) found.value found.is) (All-nil Finds)

  -- the parts of a field
  pub record FieldFinds (stats : StatsField) : Type 0 where
    pub own : Kind
    pub is : kind_or_rule stats.field.expr (field_scope accepts (columns_of before)) ≡ Ok own
    pub parts : AllFind accepts (judged_before before stats)

  pub field_finds : (stats : StatsField) → HasValue (kinds_of_field accepts (columns_of before) stats) → FieldFinds stats
  field_finds stats has =
      let columns : List Column = columns_of before in
      let own = has_found (judged_in_field before stats.field.expr accepts) (λ own. and_then (kind_of_condition accepts columns stats.condition) (λ condition. Ok (record { own = own; condition = condition }))) has in
      let condition = has_found (kind_of_condition accepts columns stats.condition) (λ condition. Ok (record { own = own.value; condition = condition })) own.next_has in
      record {
        own = own.value;
        is = own.is;
        parts = All-append Finds (judged_condition before stats.condition) (judged_arguments before (calls_of stats.field.expr))
            (condition_finds stats.condition (has_ok (kind_of_condition accepts columns stats.condition) condition.value condition.is))
            (arguments_find (calls_of stats.field.expr) (calls_judged stats.field.expr columns accepts own.value own.is));
      }

  -- the fields behind one that breaks no rule
  pub fields_have : (stats : StatsField) (fields : List StatsField) → HasValue (kinds_of_fields accepts (columns_of before) (stats ∷ fields))
      → HasValue (kinds_of_field accepts (columns_of before) stats) × HasValue (kinds_of_fields accepts (columns_of before) fields)
  fields_have stats fields has =
      let columns : List Column = columns_of before in
      let first = has_found (kinds_of_field accepts columns stats) (λ first. and_then (kinds_of_fields accepts columns fields) (λ rest. Ok (first ∷ rest))) has in
      let rest = has_found (kinds_of_fields accepts columns fields) (λ rest. Ok (first.value ∷ rest)) first.next_has in
      (has_ok (kinds_of_field accepts columns stats) first.value first.is, has_ok (kinds_of_fields accepts columns fields) rest.value rest.is)

  pub before_find : (fields : List StatsField) → HasValue (kinds_of_fields accepts (columns_of before) fields) → AllFind accepts (flat_map (judged_before before) fields)
  before_find [] has = All-nil Finds
  before_find (stats ∷ fields) has =
      let both = fields_have stats fields has in
      All-append Finds (judged_before before stats) (flat_map (judged_before before) fields) (field_finds stats both.0).parts (before_find fields both.1)

  pub fields_find : (fields : List StatsField) → HasValue (kinds_of_fields accepts (columns_of before) fields) → AllFind accepts (judged_fields before fields)
  fields_find [] has = All-nil Finds
  fields_find (stats ∷ fields) has =
      let both = fields_have stats fields has in
      let own = field_finds stats both.0 in
      All-cons Finds (judged_in_field before stats.field.expr) (judged_fields before fields) (has_ok (judged_in_field before stats.field.expr accepts) own.own own.is) (fields_find fields both.1)

  pub groups_find : (groups : List Field) → HasValue (kinds_of_groups accepts (columns_of before) groups) → AllFind accepts (judged_groups before groups)
  groups_find [] has = All-nil Finds
  groups_find (group ∷ groups) has =
      let first = has_found (judged_outside before group.expr accepts) (λ first. and_then (kinds_of_groups accepts (columns_of before) groups) (λ rest. Ok (first ∷ rest))) has in
      let rest = has_found (kinds_of_groups accepts (columns_of before) groups) (λ rest. Ok (first.value ∷ rest)) first.next_has in
      All-cons Finds (judged_outside before group.expr) (judged_groups before groups) (has_ok (judged_outside before group.expr accepts) first.value first.is)
      (groups_find groups (has_ok (kinds_of_groups accepts (columns_of before) groups) rest.value rest.is))

  -- fields and groups of what has a shape
  pub stats_have : (text : List ℕ) (fields : List StatsField) (groups : List Field) → HasValue (shape_of_stats text accepts fields groups (columns_of before))
      → HasValue (kinds_of_fields accepts (columns_of before) fields) × HasValue (kinds_of_groups accepts (columns_of before) groups)
  stats_have text fields groups has =
      let columns : List Column = columns_of before in
      let kinds = has_found (kinds_of_fields accepts columns fields)
      (λ kinds. and_then (kinds_of_groups accepts columns groups) (λ group_kinds. unless_broken (fields_rule fields kinds) (put_group_columns text groups group_kinds (put_field_columns text fields kinds [])))) has in
      let group_kinds = has_found (kinds_of_groups accepts columns groups) (λ group_kinds. unless_broken (fields_rule fields kinds.value) (put_group_columns text groups group_kinds (put_field_columns text fields kinds.value []))) kinds.next_has in
      (has_ok (kinds_of_fields accepts columns fields) kinds.value kinds.is, has_ok (kinds_of_groups accepts columns groups) group_kinds.value group_kinds.is)

-- a part that is refused where STATS has a shape refuses it for its pattern, or for want of memory
module _ (text : List ℕ) (before : List OutColumn) (fields : List StatsField) (groups : List Field) (error : AnalyzeError) (has : HasValue (shape_of_stats text is_accepted fields groups (columns_of before))) where
  abbrev IsShapeRefusal : Type 0
  IsShapeRefusal = IsRefusal (λ accepts. shape_of_stats text accepts fields groups (columns_of before)) error

  pub before_refused : OneIsRefused (flat_map (judged_before before) fields) error → IsShapeRefusal
  before_refused = whole_refused (λ accepts. shape_of_stats text accepts fields groups (columns_of before)) (flat_map (judged_before before) fields) error (stats_stay text fields groups (columns_of before)) has
      (λ accepts found. before_find accepts before fields (stats_have accepts before text fields groups found).0)

  pub groups_refused : OneIsRefused (judged_groups before groups) error → IsShapeRefusal
  groups_refused = whole_refused (λ accepts. shape_of_stats text accepts fields groups (columns_of before)) (judged_groups before groups) error (stats_stay text fields groups (columns_of before)) has
      (λ accepts found. groups_find accepts before groups (stats_have accepts before text fields groups found).1)

  pub fields_refused : OneIsRefused (judged_fields before fields) error → IsShapeRefusal
  fields_refused = whole_refused (λ accepts. shape_of_stats text accepts fields groups (columns_of before)) (judged_fields before fields) error (stats_stay text fields groups (columns_of before)) has
      (λ accepts found. fields_find accepts before fields (stats_have accepts before text fields groups found).0)

-- regular expressions -----------------------------------------------------------------------------------------------------------

either_within : (these those all : List Regular) → IsWithin these all → IsWithin those all → IsWithin (these ++ those) all
either_within [] those all first next span noted one = next span noted one
either_within (regular ∷ these) those all first next span noted (inl own) = first span noted (inl own)
either_within (regular ∷ these) those all first next span noted (inr rest) = either_within these those all (λ at text one. first at text (inr one)) next span noted rest

field_within : (accepts : Regular → Bool) (before : List OutColumn) (stats : StatsField) → HasValue (kinds_of_field accepts (columns_of before) stats) → IsWithin (regulars_before stats) (regulars_of_stats stats)
field_within accepts before stats has =
    let own = field_finds accepts before stats has in
    let arguments = arguments_within stats.field.expr (field_scope accepts (columns_of before)) (has_ok (judged_in_field before stats.field.expr accepts) own.own own.is) in
    either_within (regulars_of_condition stats.condition) (regulars_of_arguments (calls_of stats.field.expr)) (regulars_of_stats stats) (within_back (regulars_of_field stats.field) (regulars_of_condition stats.condition))
    (within_then (regulars_of_arguments (calls_of stats.field.expr)) (regulars_of_field stats.field) (regulars_of_stats stats) arguments (within_front (regulars_of_field stats.field) (regulars_of_condition stats.condition)))

pub before_within : (accepts : Regular → Bool) (before : List OutColumn) (fields : List StatsField) → HasValue (kinds_of_fields accepts (columns_of before) fields)
    → IsWithin (flat_map regulars_before fields) (flat_map regulars_of_stats fields)
before_within accepts before [] has = none_within []
before_within accepts before (stats ∷ fields) has =
    let both = fields_have accepts before stats fields has in
    both_within (regulars_before stats) (regulars_of_stats stats) (flat_map regulars_before fields) (flat_map regulars_of_stats fields) (field_within accepts before stats both.0) (before_within accepts before fields both.1)
