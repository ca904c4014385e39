-- A field and a condition write what they are to write.
use Rattle.std.proofs.Common.{◌≡◌, ℕ, ◌+◌, List, [], ◌∷◌, ◌++◌, Result, Ok, ap, sym, ◌∙◌}
use Rattle.esql_types.specs.declared.value.Kind.{Kind}
use Rattle.esql_types.specs.declared.names.Column.{Column}
use Rattle.esql_ast.specs.declared.query.Field.{Field}
use Rattle.esql_plan.specs.declared.step.Step.TheVariants as step
use Rattle.esql_plan.specs.declared.typed.TypedExpr.{TypedExpr}
use Rattle.plan_semantics.specs.Plans.{columns_of}
use Rattle.row_semantics.specs.Fields.{name_of_field}
use Rattle.row_semantics.specs.Columns.{put_column}
use Rattle.row_semantics.specs.Regulars.{is_accepted}
use Rattle.row_semantics.specs.Scopes.{Broken}
use Rattle.row_semantics.specs.Kinds.{and_then, kind_or_rule}
use Rattle.row_semantics.specs.Typed.{typing_of}
use Rattle.query_semantics.specs.Shapes.{Shape, shape_of_field}
use Rattle.query_semantics.specs.Writings.{put_visible, column_at, typed_in}
use Rattle.query_semantics.specs.Written.{write_field}
use Rattle.query_semantics.proofs.Named.{columns_put}
use Rattle.expression_analysis.specs.Answers.{scope_of}
use Rattle.plan_writing.specs.declared.writing.Writing.{Writing as Made}
use Rattle.plan_writing.specs.Contexts.{over}
use Rattle.plan_writing.specs.Writings.{seen}

pub field_writes : (text : List ℕ) (field : Field) (old new : Made) (typed : TypedExpr)
    → typed ≡ typed_in (seen old) field.expr → kind_or_rule field.expr (scope_of is_accepted old.visible) ≡ Ok typed.kind
    → new.visible ≡ put_visible old.visible (name_of_field text field) typed.kind old.next → new.next ≡ old.next + 1
    → new.patterns.whole ≡ old.patterns.whole ++ (typing_of field.expr).whole → new.patterns.free ≡ old.patterns.free ++ (typing_of field.expr).free
    → new.cutters ≡ old.cutters → new.steps ≡ old.steps ++ step.Eval (column_at old.next) typed ∷ []
    → (seen new ≡ write_field text (seen old) field) × (shape_of_field (over text is_accepted) field (columns_of old.visible) ≡ Ok (columns_of new.visible))
field_writes text field old new typed is kinded visible next whole free cut steps =
    let name : List ℕ = name_of_field text field in
    let shown = visible ∙ ap (λ (these : TypedExpr). put_visible old.visible name these.kind old.next) is in
    let written = steps ∙ ap (λ (these : TypedExpr). old.steps ++ step.Eval (column_at old.next) these ∷ []) is in (
      (λ i. record { visible = shown i; next = next i; whole = whole i; free = free i; cutters = cut i; steps = written i }),
      ap (λ (found : Result Kind Broken). and_then found (λ kind. Ok (put_column (columns_of old.visible) name kind))) kinded
          ∙ ap (λ (columns : List Column). let shape : Shape = Ok columns in shape) (columns_put old.visible name typed.kind old.next ∙ ap columns_of (sym visible)),
    )
