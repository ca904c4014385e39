-- In a field that breaks no rule each aggregate call has its argument: a count of rows has none, and every other has one.
use Rattle.std.proofs.Common.{◌≡◌, Bool, List, [], ◌∷◌, All, Option, Some, None, Ok, refl}
use Rattle.std.specs.List.{AllByRecursion}
use Rattle.std.proofs.lemmas.List.Elements.{All-head, All-tail}
use Rattle.esql_types.specs.declared.names.Column.{Column}
use Rattle.esql_types.specs.declared.value.Kind.{Kind}
use Rattle.esql_ast.specs.declared.expr.Expr.{Expr}
use Rattle.esql_plan.specs.declared.function.AggFunction.{AggFunction}
use Rattle.esql_plan.specs.declared.function.AggFunction.TheVariants.{CountRows}
use Rattle.row_semantics.specs.Kinds.{kind_or_rule}
use Rattle.row_semantics.specs.Regulars.{Regular}
use Rattle.query_semantics.specs.Calls.{AggregateCall, calls_of}
use Rattle.query_semantics.specs.StatsShapes.{field_scope}
use Rattle.query_semantics.proofs.CallsJudged.{IsJudged, calls_judged}

-- a count of rows has no argument, and every other aggregate has one
abbrev pub HasItsArgument : AggFunction → Option Expr → Type 0
HasItsArgument CountRows None = Unit {0}
HasItsArgument CountRows (Some argument) = ⊥
HasItsArgument other None = ⊥
HasItsArgument other (Some argument) = Unit {0}

abbrev pub AreWhole : List AggregateCall → Type 0
AreWhole calls = AllByRecursion (λ (call : AggregateCall). HasItsArgument call.function call.argument) calls

call_whole : (function : AggFunction) (argument : Option Expr) → (argument ≡ None → function ≡ CountRows) → (function ≡ CountRows → argument ≡ None) → HasItsArgument function argument
call_whole CountRows None none rows = tt
call_whole CountRows (Some argument) none rows = absurd (let is = rows refl in cc)
call_whole other None none rows = absurd (let is = none refl in cc)
call_whole other (Some argument) none rows = tt

all_whole : (accepts : Regular → Bool) (columns : List Column) (calls : List AggregateCall) → All (IsJudged accepts columns) calls → AreWhole calls
all_whole accepts columns [] all = tt
all_whole accepts columns (call ∷ calls) all =
    let own = All-head (IsJudged accepts columns) call calls all in
    (call_whole call.function call.argument own.none own.rows, all_whole accepts columns calls (All-tail (IsJudged accepts columns) call calls all))

pub calls_whole : (expr : Expr) (accepts : Regular → Bool) (columns : List Column) (kind : Kind) → kind_or_rule expr (field_scope accepts columns) ≡ Ok kind → AreWhole (calls_of expr)
calls_whole expr accepts columns kind is = all_whole accepts columns (calls_of expr) (calls_judged expr columns accepts kind is)
