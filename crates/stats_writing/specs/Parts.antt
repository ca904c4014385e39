-- The expressions of a command, each judged by itself, and how one of them is refused.
use Rattle.std.specs.Prelude.{Bool, List, [], ◌∷◌, ◌++◌, map, All, Option, Some, None, Result, Ok, Err}
use Rattle.std.specs.List.{flat_map}
use Rattle.esql_types.specs.declared.value.Kind.{Kind}
use Rattle.esql_ast.specs.declared.expr.Expr.{Expr}
use Rattle.esql_ast.specs.declared.query.Condition.{Condition}
use Rattle.esql_ast.specs.declared.query.Field.{Field}
use Rattle.esql_ast.specs.declared.query.StatsField.{StatsField}
use Rattle.esql_plan.specs.declared.plan.OutColumn.{OutColumn}
use Rattle.row_semantics.specs.Kinds.{kind_or_rule}
use Rattle.row_semantics.specs.Regulars.{Regular, is_accepted}
use Rattle.row_semantics.specs.Scopes.{Broken}
use Rattle.query_semantics.specs.Calls.{AggregateCall, calls_of}
use Rattle.expression_analysis.specs.declared.error.AnalyzeError.{AnalyzeError}
use Rattle.expression_analysis.specs.declared.error.AnalyzeError.TheVariants.{Broken as BrokenAt, PatternRoom, Memory}
use Rattle.expression_analysis.specs.Answers.{scope_of, field_scope_of, accepted_but, regulars_of_expr}
use Rattle.plan_writing.specs.Regulars.{regulars_of_condition}

-- what is found of an expression, by which regular expressions are accepted
abbrev pub Judgement : Type 0
Judgement = (Regular → Bool) → Result Kind Broken

-- no rule is broken
abbrev pub HasValue : {A : Type 0} → Result A Broken → Type 0
HasValue (Ok value) = Unit {0}
HasValue (Err broken) = ⊥

-- each of them finds a kind
abbrev pub AllFind : (Regular → Bool) → List Judgement → Type 0
AllFind accepts judgements = All (λ (judge : Judgement). HasValue (judge accepts)) judgements

-- not all of them find a kind, and where the error tells of a pattern, not all do so without it
abbrev pub OneIsRefused : List Judgement → AnalyzeError → Type 0
OneIsRefused judgements (BrokenAt rule span) = AllFind is_accepted judgements → ⊥
OneIsRefused judgements (PatternRoom span) = AllFind (accepted_but span) judgements → ⊥
OneIsRefused judgements (Memory error) = Unit {0}

abbrev pub judged_outside : List OutColumn → Expr → Judgement
judged_outside columns expr = λ accepts. kind_or_rule expr (scope_of accepts columns)

abbrev pub judged_in_field : List OutColumn → Expr → Judgement
judged_in_field columns expr = λ accepts. kind_or_rule expr (field_scope_of accepts columns)

abbrev pub judged_argument : List OutColumn → Option Expr → List Judgement
judged_argument columns None = []
judged_argument columns (Some argument) = judged_outside columns argument ∷ []

abbrev pub judged_arguments : List OutColumn → List AggregateCall → List Judgement
judged_arguments columns calls = flat_map (λ (call : AggregateCall). judged_argument columns call.argument) calls

abbrev pub judged_condition : List OutColumn → Option Condition → List Judgement
judged_condition columns None = []
judged_condition columns (Some condition) = judged_outside columns condition.expr ∷ []

-- what is written of a field before the groups are made
abbrev pub judged_before : List OutColumn → StatsField → List Judgement
judged_before columns stats = judged_condition columns stats.condition ++ judged_arguments columns (calls_of stats.field.expr)

abbrev pub judged_fields : List OutColumn → List StatsField → List Judgement
judged_fields columns fields = map (λ (stats : StatsField). judged_in_field columns stats.field.expr) fields

abbrev pub judged_groups : List OutColumn → List Field → List Judgement
judged_groups columns groups = map (λ (group : Field). judged_outside columns group.expr) groups

-- the regular expressions of these ------------------------------------------------------------------------------------------

abbrev pub regulars_of_argument : Option Expr → List Regular
regulars_of_argument None = []
regulars_of_argument (Some argument) = regulars_of_expr argument

abbrev pub regulars_of_arguments : List AggregateCall → List Regular
regulars_of_arguments calls = flat_map (λ (call : AggregateCall). regulars_of_argument call.argument) calls

abbrev pub regulars_before : StatsField → List Regular
regulars_before stats = regulars_of_condition stats.condition ++ regulars_of_arguments (calls_of stats.field.expr)
