-- Fields and groups of STATS are judged in turn.
use Rattle.std.proofs.Common.{◌≡◌, ℕ, zero, suc, ◌<◌, ◌≤◌, Bool, List, [], ◌∷◌, length, get_or, Option, Some, None, Result, Ok, Err, refl, ap, sym, subst, ◌∙◌, arith}
use Rattle.std.specs.List.{flat_map}
use Rattle.std.proofs.lemmas.List.{length-append}
use Rattle.esql_types.specs.declared.value.Kind.{Kind}
use Rattle.esql_types.specs.declared.names.Column.{Column}
use Rattle.esql_ast.specs.declared.nodes.NodeAt.{NodeAt}
use Rattle.esql_ast.specs.declared.query.Field.{Field}
use Rattle.esql_ast.specs.declared.query.StatsField.{StatsField}
use Rattle.row_semantics.specs.Kinds.{and_then, kind_or_rule}
use Rattle.row_semantics.specs.Regulars.{Regular, is_accepted}
use Rattle.row_semantics.specs.Scopes.{Broken, elsewhere, in_field}
use Rattle.query_semantics.specs.StatsShapes.{FieldKinds, field_scope, outside_scope, kind_of_condition, kinds_of_field, kinds_of_fields, kinds_of_groups, first_broken, field_rule, fields_rule, put_field_columns, put_group_columns, unless_broken, shape_of_stats}
use Rattle.expression_analysis.specs.declared.error.AnalyzeError.{AnalyzeError}
use Rattle.expression_analysis.specs.Answers.{IsRefusal}
use Rattle.stats_writing.specs.Parts.{HasValue}
use Rattle.stats_writing.specs.StatsRules.{rule_of_field, rule_of_fields}
use Rattle.stats_writing.proofs.OneRefused.{has_ok, has_found, value_in}
use Rattle.plan_writing.proofs.Refusals.{refused_first, refused_behind}
use Rattle.plan_writing.proofs.Stays.{expr_stays}
use Rattle.stats_writing.proofs.StatsStays.{field_stays, fields_stay}
use Rattle.query_semantics.proofs.Kinded.{ok_is}
use Rattle.stats_writing.proofs.StatsJudged.{fields_ruled}

-- fields --------------------------------------------------------------------------------------------------------------------

-- where the rest of the fields is left to be judged
pub record FieldsAlong (columns : List Column) (fields : List StatsField) (broken : Option Broken) (rest : List StatsField) : Type 0 where
  pub found : and_then (rule_of_fields is_accepted columns rest) (λ later. Ok (first_broken broken later)) ≡ rule_of_fields is_accepted columns fields
  pub refusal : (error : AnalyzeError) → IsRefusal (λ accepts. kinds_of_fields accepts columns rest) error → IsRefusal (λ accepts. kinds_of_fields accepts columns fields) error

none_before : (found : Result (Option Broken) Broken) → and_then found (λ later. Ok (first_broken None later)) ≡ found
none_before (Ok later) = refl
none_before (Err broken) = refl

pub fields_start : (columns : List Column) (fields : List StatsField) → FieldsAlong columns fields None fields
fields_start columns fields = record { found = none_before (rule_of_fields is_accepted columns fields); refusal = λ error refused. refused }

first_of_three : (first second third : Option Broken) → first_broken (first_broken first second) third ≡ first_broken first (first_broken second third)
first_of_three None second third = refl
first_of_three (Some broken) second third = refl

broken_more : (broken own : Option Broken) (rest : Result (Option Broken) Broken)
    → and_then rest (λ later. Ok (first_broken (first_broken broken own) later)) ≡ and_then (and_then rest (λ later. Ok (first_broken own later))) (λ later. Ok (first_broken broken later))
broken_more broken own (Ok later) = ap (λ (these : Option Broken). let found : Result (Option Broken) Broken = Ok these in found) (first_of_three broken own later)
broken_more broken own (Err other) = refl

pub kinds_in_rule : (columns : List Column) (stats : StatsField) (own : Option Broken) → rule_of_field is_accepted columns stats ≡ Ok own → HasValue (kinds_of_field is_accepted columns stats)
kinds_in_rule columns stats own is =
    let found = has_found (kinds_of_field is_accepted columns stats) (λ kinds. Ok (field_rule stats kinds)) (has_ok (rule_of_field is_accepted columns stats) own is) in
    has_ok (kinds_of_field is_accepted columns stats) found.value found.is

pub fields_more : (columns : List Column) (fields : List StatsField) (broken own : Option Broken) (stats : StatsField) (rest : List StatsField) → FieldsAlong columns fields broken (stats ∷ rest)
    → rule_of_field is_accepted columns stats ≡ Ok own → FieldsAlong columns fields (first_broken broken own) rest
fields_more columns fields broken own stats rest along is =
    let kinds = value_in (kinds_of_field is_accepted columns stats) (kinds_in_rule columns stats own is) in
    record {
      found = broken_more broken own (rule_of_fields is_accepted columns rest)
          ∙ ap (λ (found : Result (Option Broken) Broken). and_then (and_then found (λ first. and_then (rule_of_fields is_accepted columns rest) (λ later. Ok (first_broken first later)))) (λ later. Ok (first_broken broken later))) (sym is)
          ∙ along.found;
      refusal = λ error refused. along.refusal error
          (refused_behind (λ accepts. kinds_of_field accepts columns stats) (λ accepts first. and_then (kinds_of_fields accepts columns rest) (λ more. Ok (first ∷ more))) kinds.value error (field_stays columns stats) kinds.is
          (refused_first (λ accepts. kinds_of_fields accepts columns rest) (λ accepts more. Ok (kinds.value ∷ more)) error refused));
    }

pub fields_refused : (columns : List Column) (fields : List StatsField) (broken : Option Broken) (stats : StatsField) (rest : List StatsField) (error : AnalyzeError) → FieldsAlong columns fields broken (stats ∷ rest)
    → IsRefusal (λ accepts. kinds_of_field accepts columns stats) error → IsRefusal (λ accepts. kinds_of_fields accepts columns fields) error
fields_refused columns fields broken stats rest error along refused =
    along.refusal error (refused_first (λ accepts. kinds_of_field accepts columns stats) (λ accepts first. and_then (kinds_of_fields accepts columns rest) (λ more. Ok (first ∷ more))) error refused)

none_behind : (broken : Option Broken) → first_broken broken None ≡ broken
none_behind None = refl
none_behind (Some broken) = refl

pub fields_done : (columns : List Column) (fields : List StatsField) (broken : Option Broken) → FieldsAlong columns fields broken [] → rule_of_fields is_accepted columns fields ≡ Ok broken
fields_done columns fields broken along = sym along.found ∙ ap (λ (these : Option Broken). let found : Result (Option Broken) Broken = Ok these in found) (none_behind broken)

-- groups --------------------------------------------------------------------------------------------------------------------

pub record GroupsAlong (columns : List Column) (groups rest : List Field) : Type 0 where
  pub found : HasValue (kinds_of_groups is_accepted columns rest) → HasValue (kinds_of_groups is_accepted columns groups)
  pub refusal : (error : AnalyzeError) → IsRefusal (λ accepts. kinds_of_groups accepts columns rest) error → IsRefusal (λ accepts. kinds_of_groups accepts columns groups) error

pub groups_start : (columns : List Column) (groups : List Field) → GroupsAlong columns groups groups
groups_start columns groups = record { found = λ has. has; refusal = λ error refused. refused }

group_has : (kind : Kind) (first : Result Kind Broken) (rest : Result (List Kind) Broken) → first ≡ Ok kind → HasValue rest → HasValue (and_then first (λ own. and_then rest (λ more. Ok (own ∷ more))))
group_has kind first rest is has =
    subst (λ (found : Result Kind Broken). HasValue (and_then found (λ own. and_then rest (λ more. Ok (own ∷ more))))) (sym is) (by_rest rest has)
  where
    by_rest : (rest : Result (List Kind) Broken) → HasValue rest → HasValue (and_then rest (λ more. Ok (kind ∷ more)))
    by_rest (Ok more) has = tt
    by_rest (Err broken) has = has

pub groups_more : (columns : List Column) (groups : List Field) (group : Field) (rest : List Field) (kind : Kind) → GroupsAlong columns groups (group ∷ rest)
    → kind_or_rule group.expr (outside_scope is_accepted columns) ≡ Ok kind → GroupsAlong columns groups rest
groups_more columns groups group rest kind along is = record {
  found = λ has. along.found (group_has kind (kind_or_rule group.expr (outside_scope is_accepted columns)) (kinds_of_groups is_accepted columns rest) is has);
  refusal = λ error refused. along.refusal error
      (refused_behind (λ accepts. kind_or_rule group.expr (outside_scope accepts columns)) (λ accepts first. and_then (kinds_of_groups accepts columns rest) (λ more. Ok (first ∷ more))) kind error (expr_stays group.expr columns elsewhere) is
      (refused_first (λ accepts. kinds_of_groups accepts columns rest) (λ accepts more. Ok (kind ∷ more)) error refused));
}

pub groups_refused : (columns : List Column) (groups : List Field) (group : Field) (rest : List Field) (error : AnalyzeError) → GroupsAlong columns groups (group ∷ rest)
    → IsRefusal (λ accepts. kind_or_rule group.expr (outside_scope accepts columns)) error → IsRefusal (λ accepts. kinds_of_groups accepts columns groups) error
groups_refused columns groups group rest error along refused =
    along.refusal error (refused_first (λ accepts. kind_or_rule group.expr (outside_scope accepts columns)) (λ accepts first. and_then (kinds_of_groups accepts columns rest) (λ more. Ok (first ∷ more))) error refused)

-- the command -----------------------------------------------------------------------------------------------------------------

-- the columns that are left, where no rule is broken
pub record Left (broken : Option Broken) (shape : Result (List Column) Broken) : Type 0 where
  pub columns : List Column
  pub is : shape ≡ unless_broken broken columns

left_by : (fields : List StatsField) (kinds : Result (List FieldKinds) Broken) (groups : Result (List Kind) Broken) (next : List FieldKinds → List Kind → List Column) (broken : Option Broken)
    → and_then kinds (λ these. Ok (fields_rule fields these)) ≡ Ok broken → HasValue groups
    → Left broken (and_then kinds (λ these. and_then groups (λ those. unless_broken (fields_rule fields these) (next these those))))
left_by fields (Err other) groups next broken is has = absurd cc
left_by fields (Ok these) (Err other) next broken is has = absurd has
left_by fields (Ok these) (Ok those) next broken is has = record { columns = next these those; is = ap (λ (rule : Option Broken). unless_broken rule (next these those)) (ok_is is) }

pub stats_left : (text : List ℕ) (columns : List Column) (fields : List StatsField) (groups : List Field) (broken : Option Broken) → rule_of_fields is_accepted columns fields ≡ Ok broken
    → HasValue (kinds_of_groups is_accepted columns groups) → Left broken (shape_of_stats text is_accepted fields groups columns)
stats_left text columns fields groups broken is has =
    left_by fields (kinds_of_fields is_accepted columns fields) (kinds_of_groups is_accepted columns groups) (λ kinds group_kinds. put_group_columns text groups group_kinds (put_field_columns text fields kinds [])) broken
    (sym (fields_ruled is_accepted columns fields) ∙ is) has

pub shape_has : (text : List ℕ) (columns : List Column) (fields : List StatsField) (groups : List Field) (broken : Option Broken) → rule_of_fields is_accepted columns fields ≡ Ok broken
    → HasValue (kinds_of_groups is_accepted columns groups) → broken ≡ None → HasValue (shape_of_stats text is_accepted fields groups columns)
shape_has text columns fields groups broken is has none =
    let left = stats_left text columns fields groups broken is has in
    has_ok (shape_of_stats text is_accepted fields groups columns) left.columns (left.is ∙ ap (λ (rule : Option Broken). unless_broken rule left.columns) none)

pub shape_broken : (text : List ℕ) (columns : List Column) (fields : List StatsField) (groups : List Field) (broken : Option Broken) (own : Broken) → rule_of_fields is_accepted columns fields ≡ Ok broken
    → HasValue (kinds_of_groups is_accepted columns groups) → broken ≡ Some own → shape_of_stats text is_accepted fields groups columns ≡ Err own
shape_broken text columns fields groups broken own is has some =
    let left = stats_left text columns fields groups broken is has in
    left.is ∙ ap (λ (rule : Option Broken). unless_broken rule left.columns) some

pub shape_fields_refused : (text : List ℕ) (columns : List Column) (fields : List StatsField) (groups : List Field) (error : AnalyzeError) → IsRefusal (λ accepts. kinds_of_fields accepts columns fields) error
    → IsRefusal (λ accepts. shape_of_stats text accepts fields groups columns) error
shape_fields_refused text columns fields groups error refused =
    refused_first (λ accepts. kinds_of_fields accepts columns fields)
    (λ accepts kinds. and_then (kinds_of_groups accepts columns groups) (λ group_kinds. unless_broken (fields_rule fields kinds) (put_group_columns text groups group_kinds (put_field_columns text fields kinds [])))) error refused

pub shape_groups_refused : (text : List ℕ) (columns : List Column) (fields : List StatsField) (groups : List Field) (broken : Option Broken) (error : AnalyzeError) → rule_of_fields is_accepted columns fields ≡ Ok broken
    → IsRefusal (λ accepts. kinds_of_groups accepts columns groups) error → IsRefusal (λ accepts. shape_of_stats text accepts fields groups columns) error
shape_groups_refused text columns fields groups broken error is refused =
    let found = has_found (kinds_of_fields is_accepted columns fields) (λ kinds. Ok (fields_rule fields kinds))
    (subst (λ (rule : Result (Option Broken) Broken). HasValue rule) (fields_ruled is_accepted columns fields) (has_ok (rule_of_fields is_accepted columns fields) broken is)) in
    refused_behind (λ accepts. kinds_of_fields accepts columns fields)
    (λ accepts kinds. and_then (kinds_of_groups accepts columns groups) (λ group_kinds. unless_broken (fields_rule fields kinds) (put_group_columns text groups group_kinds (put_field_columns text fields kinds []))))
    found.value error (fields_stay columns fields) found.is
    (refused_first (λ accepts. kinds_of_groups accepts columns groups)
    (λ accepts group_kinds. unless_broken (fields_rule fields found.value) (put_group_columns text groups group_kinds (put_field_columns text fields found.value []))) error refused)

-- one has no more nodes than all
pub one_few : {A : Type 0} (f : A → List NodeAt) (i : ℕ) (xs : List A) (x : A) → i < length xs → x ≡ get_or xs i x → length (f x) ≤ length (flat_map f xs)
one_few f i [] x less is = absurd (omega (arith, less))
one_few {A} f zero (y ∷ xs) x less is = let own = ap (λ (z : A). length (f z)) is in omega (arith, own, length-append (f y) (flat_map f xs))
one_few f (suc i) (y ∷ xs) x less is = let rest = one_few f i xs x (omega (arith, less)) is in omega (arith, rest, length-append (f y) (flat_map f xs))

-- a condition is judged behind the field's expression
pub condition_refused : (columns : List Column) (stats : StatsField) (kind : Kind) (error : AnalyzeError) → kind_or_rule stats.field.expr (field_scope is_accepted columns) ≡ Ok kind
    → IsRefusal (λ accepts. kind_of_condition accepts columns stats.condition) error → IsRefusal (λ accepts. kinds_of_field accepts columns stats) error
condition_refused columns stats kind error is refused =
    let next : (Regular → Bool) → Kind → Result FieldKinds Broken = λ accepts own. and_then (kind_of_condition accepts columns stats.condition) (λ condition. Ok (record { own = own; condition = condition })) in
    refused_behind (λ accepts. kind_or_rule stats.field.expr (field_scope accepts columns)) next kind error (expr_stays stats.field.expr columns in_field) is
    (refused_first (λ accepts. kind_of_condition accepts columns stats.condition) (λ accepts condition. Ok (record { own = kind; condition = condition })) error refused)
