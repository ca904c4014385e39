-- SORT writes what it is to write.
use Rattle.std.proofs.Common.{◌≡◌, ℕ, List, [], ◌∷◌, ◌++◌, Result, Ok, Err, ap, sym, append_assoc, ◌∙◌}
use Rattle.std.proofs.lemmas.List.{append-nil}
use Rattle.esql_types.specs.declared.names.Column.{Column}
use Rattle.esql_types.specs.declared.names.ColId.{ColId}
use Rattle.esql_types.specs.declared.value.Kind.{Kind}
use Rattle.esql_ast.specs.declared.query.SortKey.{SortKey}
use Rattle.esql_plan.specs.declared.step.PlanKey.{PlanKey}
use Rattle.esql_plan.specs.declared.step.Step.TheVariants as step
use Rattle.plan_semantics.specs.Plans.{columns_of}
use Rattle.row_semantics.specs.Regulars.{is_accepted}
use Rattle.row_semantics.specs.Scopes.{Broken}
use Rattle.row_semantics.specs.Kinds.{and_then, kind_or_rule}
use Rattle.query_semantics.specs.Shapes.{Shape, shape_of_keys}
use Rattle.query_semantics.specs.Writings.{Writing, input_of, write_input}
use Rattle.query_semantics.specs.Written.{keys_in_plan, write_sort}
use Rattle.expression_analysis.specs.declared.error.AnalyzeError.{AnalyzeError}
use Rattle.expression_analysis.specs.Answers.{scope_of, IsRefusal}
use Rattle.plan_writing.specs.declared.writing.Writing.{Writing as Made}
use Rattle.plan_writing.specs.Contexts.{over}
use Rattle.plan_writing.specs.Writings.{seen}
use Rattle.plan_writing.specs.Answers.{Writes}
use Rattle.esql_analyze.proofs.ShapeStays.{shape_of_key, keys_alike}
use Rattle.plan_writing.proofs.Refusals.{refused_first, refused_as}
use Rattle.plan_writing.proofs.Turns.{Along}
use Rattle.esql_analyze.proofs.CommandTurns.{keys_turn}

-- the keys so far, with one more
pub keys_behind : (so_far pushed all : List PlanKey) (key : SortKey) (rest : List SortKey) (id : ColId) (made new : Made) → so_far ++ keys_in_plan (key ∷ rest) (seen made) ≡ all
    → id ≡ input_of (seen made) key.expr → seen new ≡ write_input (seen made) key.expr
    → pushed ≡ so_far ++ record { id = id; descending = key.descending; nulls_first = key.nulls_first } ∷ [] → pushed ++ keys_in_plan rest (seen new) ≡ all
keys_behind so_far pushed all key rest id made new behind is written more =
    ap (λ (these : List PlanKey). these ++ keys_in_plan rest (seen new)) more
    ∙ append_assoc so_far _ _
    ∙ (λ i. so_far ++ record { id = is i; descending = key.descending; nulls_first = key.nulls_first } ∷ keys_in_plan rest (written i))
    ∙ behind

-- a key whose expression has a kind leaves the columns
pub key_shaped : (key : SortKey) (old new : Made) (kind : Kind) → kind_or_rule key.expr (scope_of is_accepted old.visible) ≡ Ok kind → new.visible ≡ old.visible
    → shape_of_key (over [] is_accepted) key (columns_of old.visible) ≡ Ok (columns_of new.visible)
key_shaped key old new kind is visible =
    ap (λ (found : Result Kind Broken). and_then found (λ kind. Ok (columns_of old.visible))) is ∙ ap (λ these. let shape : Shape = Ok (columns_of these) in shape) (sym visible)

pub key_refused : (key : SortKey) (old : Made) (error : AnalyzeError) → IsRefusal (λ accepts. kind_or_rule key.expr (scope_of accepts old.visible)) error
    → IsRefusal (λ accepts. shape_of_key (over [] accepts) key (columns_of old.visible)) error
key_refused key old error refused = refused_first (λ accepts. kind_or_rule key.expr (scope_of accepts old.visible)) (λ accepts kind. Ok (columns_of old.visible)) error refused

-- all keys, then the step
pub sort_writes : (keys : List SortKey) (start made new : Made) (in_plan : List PlanKey) → Along keys_turn keys start [] made → in_plan ++ [] ≡ keys_in_plan keys (seen start)
    → new.visible ≡ made.visible → new.next ≡ made.next → new.patterns ≡ made.patterns → new.cutters ≡ made.cutters → new.steps ≡ made.steps ++ step.Sort in_plan ∷ []
    → (seen new ≡ write_sort keys (seen start)) × (shape_of_keys (over [] is_accepted) keys (columns_of start.visible) ≡ Ok (columns_of new.visible))
sort_writes keys start made new in_plan along are visible next read cut steps =
    let written = steps ∙ ap (λ (these : List PlanKey). made.steps ++ step.Sort these ∷ []) (sym (append-nil in_plan) ∙ are) in (
      (λ i. record { visible = visible i; next = next i; whole = (read i).whole; free = (read i).free; cutters = cut i; steps = written i })
          ∙ ap (λ (writing : Writing). record writing { steps = writing.steps ++ step.Sort (keys_in_plan keys (seen start)) ∷ [] }) along.written,
      sym along.shape ∙ ap (λ these. let shape : Shape = Ok (columns_of these) in shape) (sym visible),
    )

-- over any text
pub sorts_anywhere : (text : List ℕ) (keys : List SortKey) (columns : List Column) (written : Writing) (result : Result Made AnalyzeError)
    → Writes (λ accepts. shape_of_keys (over [] accepts) keys columns) written result → Writes (λ accepts. shape_of_keys (over text accepts) keys columns) written result
sorts_anywhere text keys columns written (Ok made) writes = (writes.0, keys_alike text [] is_accepted keys columns ∙ writes.1)
sorts_anywhere text keys columns written (Err error) writes =
    refused_as (λ accepts. shape_of_keys (over text accepts) keys columns) (λ accepts. shape_of_keys (over [] accepts) keys columns) error (λ accepts. keys_alike text [] accepts keys columns) writes
