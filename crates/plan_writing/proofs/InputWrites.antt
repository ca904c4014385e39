-- An expression whose typed form is a column is read as it is, and nothing is written for it.
use Rattle.std.proofs.Common.{◌≡◌, ℕ, List, ◌++◌, Option, Some, ap, sym, ◌∙◌}
use Rattle.std.proofs.lemmas.List.{append-nil}
use Rattle.esql_types.specs.declared.names.ColId.{ColId}
use Rattle.esql_ast.specs.declared.expr.Expr.{Expr}
use Rattle.esql_plan.specs.declared.typed.TypedExpr.{TypedExpr}
use Rattle.row_semantics.specs.Typed.{typing_of}
use Rattle.query_semantics.specs.Writings.{typed_in, column_of_typed, write_input_by, write_input}
use Rattle.plan_writing.specs.declared.writing.Writing.{Writing as Made}
use Rattle.plan_writing.specs.Writings.{seen}
use Rattle.plan_writing.proofs.Columned.{columns_bare}

pub column_written : (expr : Expr) (old new : Made) (typed : TypedExpr) (id : ColId) → typed ≡ typed_in (seen old) expr → column_of_typed typed ≡ Some id
    → new.visible ≡ old.visible → new.next ≡ old.next → new.patterns.whole ≡ old.patterns.whole ++ (typing_of expr).whole → new.patterns.free ≡ old.patterns.free ++ (typing_of expr).free → new.cutters ≡ old.cutters → new.steps ≡ old.steps
    → seen new ≡ write_input (seen old) expr
column_written expr old new typed id is found visible next whole free cut steps =
    let finds = sym (ap column_of_typed is) ∙ found in
    let bare = columns_bare expr _ _ _ id finds in
    let same_whole = whole ∙ ap (λ (more : List (List ℕ)). old.patterns.whole ++ more) bare.0 ∙ append-nil old.patterns.whole in
    let same_free = free ∙ ap (λ (more : List (List ℕ)). old.patterns.free ++ more) bare.1 ∙ append-nil old.patterns.free in
    (λ i. record { visible = visible i; next = next i; whole = same_whole i; free = same_free i; cutters = cut i; steps = steps i })
    ∙ sym (ap (λ (these : Option ColId). write_input_by these expr (seen old)) finds)
