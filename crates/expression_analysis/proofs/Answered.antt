-- What an answer says clause by clause.
use Rattle.std.proofs.Common.{◌≡◌, ℕ, ◌+◌, ◌≤◌, List, ◌++◌, length, Result, Ok, Err, IfOk, OnOk, ap, arith}
use Rattle.std.specs.Prelude.{IfErr}
use Rattle.esql_ast.specs.declared.expr.Expr.{Expr}
use Rattle.esql_plan.specs.declared.typed.TypedExpr.{TypedExpr}
use Rattle.text_match.specs.declared.patterns.Patterns.{Patterns}
use Rattle.row_semantics.specs.Kinds.{kind_or_rule}
use Rattle.row_semantics.specs.Regulars.{is_accepted}
use Rattle.row_semantics.specs.Typed.{typing_of, typed_of}
use Rattle.expression_analysis.specs.declared.error.AnalyzeError.{AnalyzeError}
use Rattle.expression_analysis.specs.declared.error.AnalyzeError.TheVariants as error
use Rattle.expression_analysis.specs.Answers.{regulars_of_expr, IsRefusal, IsTold, IsUntouched, IsQuiet}
use Rattle.expression_analysis.specs.Steps.{Marks, Over, marks_of, visible_over, scope_over, IsAnswer, readings_of}

module _ (M : Type 0) (count : M → ℕ) (last : M → List ℕ) (maker made : M) (expr : Expr) (over : Over) (old new : Patterns) where
  abbrev Answered : Result TypedExpr AnalyzeError → Type 0
  Answered result = IsAnswer (readings_of expr) over old new (marks_of count last maker) (marks_of count last made) result

  pub typed : (result : Result TypedExpr AnalyzeError) → Answered result
      → length old.whole + length (typing_of expr).whole ≤ 4294967295 → length old.free + length (typing_of expr).free ≤ 4294967295
      → IfOk result (λ typed. typed ≡ typed_of expr (visible_over over) (length old.whole) (length old.free))
  typed (Ok found) is whole free = is.0.is (record { whole_fits = whole; free_fits = free })
  typed (Err error) is whole free = tt

  pub kind : (result : Result TypedExpr AnalyzeError) → Answered result → IfOk result (λ typed. kind_or_rule expr (scope_over is_accepted over) ≡ Ok typed.kind)
  kind (Ok found) is = is.0.gives.accepted
  kind (Err error) is = tt

  pub read : (result : Result TypedExpr AnalyzeError) → Answered result → OnOk result ((new.whole ≡ old.whole ++ (typing_of expr).whole) × (new.free ≡ old.free ++ (typing_of expr).free))
  read (Ok found) is = (is.0.whole, is.0.free)
  read (Err error) is = tt

  pub refusal : (result : Result TypedExpr AnalyzeError) → Answered result → IfErr result (IsRefusal (λ accepts. kind_or_rule expr (scope_over accepts over)))
  refusal (Ok found) is = tt
  refusal (Err (error.Broken rule span)) is = is.0
  refusal (Err (error.PatternRoom span)) is = is.0
  refusal (Err (error.Memory memory)) is = tt

  pub room : (result : Result TypedExpr AnalyzeError) → Answered result → IfErr result (IsTold count last (regulars_of_expr expr) maker made)
  room (Ok found) is = tt
  room (Err (error.Broken rule span)) is = tt
  room (Err (error.PatternRoom span)) is = record { rose = is.1.rose; noted_one = is.1.noted }
  room (Err (error.Memory memory)) is = tt

  untouched : marks_of count last made ≡ marks_of count last maker → IsUntouched count last maker made
  untouched same = record { counted = ap (λ (marks : Marks). marks.count) same; noted = ap (λ (marks : Marks). marks.last) same }

  at_most : marks_of count last made ≡ marks_of count last maker → count maker ≤ count made
  at_most same = let counts : count made ≡ count maker = ap (λ (marks : Marks). marks.count) same in omega arith

  pub counted : (result : Result TypedExpr AnalyzeError) → Answered result → count maker ≤ count made
  counted (Ok found) is = at_most is.1
  counted (Err (error.Broken rule span)) is = at_most is.1
  counted (Err (error.PatternRoom span)) is = is.1.count
  counted (Err (error.Memory memory)) is = at_most is

  pub quiet : (result : Result TypedExpr AnalyzeError) → Answered result → IsQuiet count last maker made result
  quiet (Ok found) is = untouched is.1
  quiet (Err (error.Broken rule span)) is = untouched is.1
  quiet (Err (error.PatternRoom span)) is = tt
  quiet (Err (error.Memory memory)) is = untouched is
