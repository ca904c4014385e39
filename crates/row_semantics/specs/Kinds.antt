-- The kind of an expression, or the first rule that it breaks, in the order in which its parts are written.
use Rattle.std.specs.Prelude.{ℕ, ◌||◌, min, Bool, true, false, List, [], ◌∷◌, map, is_some, slice_index_or, Option, Some, None, option_map, Result, Ok, Err, if◌then◌else◌}
use Rattle.esql_types.specs.declared.places.Span.{Span}
use Rattle.esql_types.specs.declared.names.Column.{Column}
use Rattle.esql_types.specs.declared.value.Kind.{Kind}
use Rattle.esql_types.specs.declared.value.Kind.TheVariants as kind
use Rattle.esql_ast.specs.declared.expr.Expr.{Expr}
use Rattle.esql_plan.specs.declared.function.Function.{Function}
use Rattle.esql_plan.specs.declared.function.Function.TheVariants as function
use Rattle.esql_plan.specs.declared.function.AggFunction.{AggFunction}
use Rattle.esql_plan.specs.declared.function.AggFunction.TheVariants as aggregate_function
use Rattle.esql_plan.specs.Signatures.{misfit, kind_of_call, is_numeric, same_kind}
use Rattle.row_semantics.specs.declared.rule.NameRule.{NameRule}
use Rattle.row_semantics.specs.declared.rule.NameRule.TheVariants as rule
use Rattle.row_semantics.specs.Forms.{Part, constant, named, same, applied, aggregate, refused, Reader, read_by, is_word, function_in_plan, arguments_in_plan}
use Rattle.row_semantics.specs.Regulars.{Regular}
use Rattle.row_semantics.specs.Scopes.{Broken, Standing, elsewhere, in_field, Scope, column_named, within_aggregate}

-- a rule that is broken at a place
abbrev pub breaks : {A : Type 0} → NameRule → Span → Result A Broken
breaks rule span = Err (record { rule = rule; span = span })

abbrev pub and_then : {A B : Type 0} → Result A Broken → (A → Result B Broken) → Result B Broken
and_then (Ok value) next = next value
and_then (Err broken) next = Err broken

-- the kind in a scope, or the first broken rule
abbrev pub Judged : Type 0
Judged = Scope → Result Kind Broken

-- the kinds of parts from the left, or the first broken rule
abbrev pub kinds_of_parts : List (Part Judged) → Scope → Result (List Kind) Broken
kinds_of_parts [] scope = Ok []
kinds_of_parts (part ∷ parts) scope =
    and_then (part.reading scope) (λ kind. and_then (kinds_of_parts parts scope) (λ kinds. Ok (kind ∷ kinds)))

-- the kind of a column, which has to be there
abbrev pub kind_of_column : Option Column → Span → Result Kind Broken
kind_of_column (Some column) span = Ok column.kind
kind_of_column None span = breaks rule.UnknownColumn span

-- The place of an argument that has to be a literal text and is none, or is another than the named ones: the pattern of REPLACE,
-- and the direction of MV_SORT. No other function asks for a literal.
abbrev pub wrong_literal : {Reading : Type 0} → Function → List (Part Reading) → Option ℕ
wrong_literal function.Replace (text ∷ pattern ∷ rest) = if is_some pattern.literal then None else Some 1
wrong_literal function.MvSort (values ∷ order ∷ rest) = if is_word "ASC" order.literal || is_word "DESC" order.literal then None else Some 1
wrong_literal function parts = None

-- the regular expression that a literal is
abbrev pub regular_in : {Reading : Type 0} → Bool → Part Reading → Option Regular
regular_in is_whole pattern = option_map (λ text. record { span = pattern.span; text = text; is_whole = is_whole }) pattern.literal

-- the regular expression of RLIKE, NOT RLIKE and REPLACE; no other function has one
abbrev pub regular_of : {Reading : Type 0} → Function → List (Part Reading) → Option Regular
regular_of function.Rlike (left ∷ pattern ∷ rest) = regular_in true pattern
regular_of function.NotRlike (left ∷ pattern ∷ rest) = regular_in true pattern
regular_of function.Replace (text ∷ pattern ∷ rest) = regular_in false pattern
regular_of function parts = None

-- the first of two places
abbrev pub first_place : Option ℕ → Option ℕ → Option ℕ
first_place None place = place
first_place (Some place) None = Some place
first_place (Some place) (Some other) = Some (min place other)

-- a regular expression that is not accepted breaks a rule at its place
abbrev pub if_accepted : Option Regular → Scope → Kind → Result Kind Broken
if_accepted None scope kind = Ok kind
if_accepted (Some regular) scope kind = if scope.accepts regular then Ok kind else breaks rule.BadRegex regular.span

-- BadKind at the first argument that does not fit, if there is one
abbrev pub fitting : Option ℕ → List Span → Span → Result Kind Broken → Result Kind Broken
fitting (Some place) spans own next = breaks rule.BadKind (slice_index_or spans place own)
fitting None spans own next = next

-- The kind of a function of parts whose kinds are known: every argument has to fit, and its regular expression to be accepted.
abbrev pub kind_of_applied : Function → List (Part Judged) → List Kind → Span → Scope → Result Kind Broken
kind_of_applied function parts kinds span scope =
    fitting (first_place (misfit (function_in_plan function parts) (arguments_in_plan function kinds)) (wrong_literal function parts)) (map (λ part. part.span) parts) span
    (if_accepted (regular_of function parts) scope (kind_of_call (function_in_plan function parts) (arguments_in_plan function kinds)))

-- SUM takes numbers, and every other aggregate values of any kind; null fits all of them
abbrev pub aggregate_fits : AggFunction → Kind → Bool
aggregate_fits aggregate_function.CountRows argument = true
aggregate_fits aggregate_function.Count argument = true
aggregate_fits aggregate_function.CountDistinct argument = true
aggregate_fits aggregate_function.Sum argument = is_numeric argument || same_kind argument kind.Null
aggregate_fits aggregate_function.Min argument = true
aggregate_fits aggregate_function.Max argument = true
aggregate_fits aggregate_function.Values argument = true

-- counts and sums are longs, and every other aggregate has the kind of its argument
abbrev pub aggregate_kind : AggFunction → Kind → Kind
aggregate_kind aggregate_function.CountRows argument = kind.Long
aggregate_kind aggregate_function.Count argument = kind.Long
aggregate_kind aggregate_function.CountDistinct argument = kind.Long
aggregate_kind aggregate_function.Sum argument = kind.Long
aggregate_kind aggregate_function.Min argument = argument
aggregate_kind aggregate_function.Max argument = argument
aggregate_kind aggregate_function.Values argument = argument

-- COUNT alone may have `*` in the place of its argument
abbrev pub may_have_star : AggFunction → Bool
may_have_star aggregate_function.CountRows = true
may_have_star aggregate_function.Count = true
may_have_star aggregate_function.CountDistinct = false
may_have_star aggregate_function.Sum = false
may_have_star aggregate_function.Min = false
may_have_star aggregate_function.Max = false
may_have_star aggregate_function.Values = false

-- the kind of an aggregate of an argument, which has to fit
abbrev pub kind_of_argument : AggFunction → Kind → Span → Result Kind Broken
kind_of_argument function kind span = if aggregate_fits function kind then Ok (aggregate_kind function kind) else breaks rule.BadKind span

-- An aggregate has one argument; COUNT may have `*` in its place.
abbrev pub kind_of_aggregate : AggFunction → Bool → List (Part Judged) → Span → Scope → Result Kind Broken
kind_of_aggregate function true parts span scope = if may_have_star function then Ok kind.Long else breaks rule.BadArguments span
kind_of_aggregate function false [] span scope = breaks rule.BadArguments span
kind_of_aggregate function false (part ∷ []) span scope =
    and_then (part.reading (within_aggregate scope)) (λ kind. kind_of_argument function kind part.span)
kind_of_aggregate function false (part ∷ next ∷ parts) span scope = breaks rule.BadArguments span

-- an aggregate stands in a field of STATS, and in no aggregate
abbrev pub kind_of_standing : Standing → AggFunction → Bool → List (Part Judged) → Span → Scope → Result Kind Broken
kind_of_standing elsewhere function star parts span scope = breaks rule.NestedAggregate span
kind_of_standing in_field function star parts span scope = kind_of_aggregate function star parts span scope

-- the kind of an expression by its form: the parts come before the node
abbrev pub judged : Reader Judged
judged node span (constant values kind) scope = Ok kind
judged node span (named name) scope = kind_of_column (column_named scope.columns name) span
judged node span (same part) scope = part.reading scope
judged node span (applied function parts) scope = and_then (kinds_of_parts parts scope) (λ kinds. kind_of_applied function parts kinds span scope)
judged node span (aggregate function star parts) scope = kind_of_standing scope.standing function star parts span scope
judged node span (refused parts rule at) scope = and_then (kinds_of_parts parts scope) (λ kinds. breaks rule at)

-- the kind of an expression in a scope, or the first rule that it breaks
abbrev pub kind_or_rule : Expr → Scope → Result Kind Broken
kind_or_rule = read_by judged
