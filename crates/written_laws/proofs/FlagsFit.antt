-- The column of a condition, and arguments on the rows on which it is true, are well formed.
use Rattle.std.proofs.Common.{◌≡◌, ℕ, true, ◌&&◌, List, [], ◌∷◌, ◌++◌, All, None, refl, ap, ◌∙◌}
use Rattle.std.specs.List.{list_all}
use Rattle.std.proofs.lemmas.Bool.{and_from}
use Rattle.std.proofs.lemmas.List.{append-nil}
use Rattle.std.proofs.lemmas.List.Elements.{All-cons, All-same}
use Rattle.esql_types.specs.declared.value.Kind.{Kind}
use Rattle.esql_types.specs.declared.value.Kind.TheVariants as kind
use Rattle.esql_types.specs.declared.value.Value.TheVariants.{Bool}
use Rattle.esql_types.specs.declared.names.NodeId.{NodeId}
use Rattle.esql_plan.specs.declared.function.Function.TheVariants.{Case}
use Rattle.esql_plan.specs.declared.typed.TypedExpr.{TypedExpr}
use Rattle.esql_plan.specs.declared.typed.TypedForm.TheVariants as form
use Rattle.esql_plan.specs.Exprs.{typed_at, constant_at}
use Rattle.esql_plan.specs.Fits.{Part, ReadColumn, ExprFits, part_of, is_result, call_fits, columns_read}
use Rattle.esql_plan.specs.Signatures.{is_kind, result_kind}
use Rattle.esql_plan.proofs.TypedFolds.{part_of_constant, part_of_column, part_of_call, columns_of_constant, columns_of_column, columns_of_call}
use Rattle.plan_semantics.specs.WellFormed.{MadeColumn, IsMadeAs, nodes_of}
use Rattle.plan_semantics.proofs.PartedFolds.{nodes_of_constant, nodes_of_column, nodes_of_call}
use Rattle.query_semantics.specs.WrittenStats.{Flag, flag_typed, flagged_typed}
use Rattle.written_laws.proofs.CallsFit.{kind_of_part}
use Rattle.written_laws.proofs.ColumnsTyped.{ReadIsMade}

abbrev pub true_at : NodeId → TypedExpr
true_at node = constant_at node kind.Boolean (Bool true ∷ [])

abbrev pub flag_at : Flag → TypedExpr
flag_at flag = typed_at flag.node kind.Boolean (form.Column flag.id)

-- kinds -------------------------------------------------------------------------------------------------------------------------

-- CASE of a condition and true is boolean
flag_kind : (condition : Kind) → is_kind kind.Boolean condition ≡ true → is_result (result_kind Case (condition ∷ kind.Boolean ∷ [])) kind.Boolean ≡ true
flag_kind kind.Integer is = absurd cc
flag_kind kind.Long is = absurd cc
flag_kind kind.Boolean is = refl
flag_kind kind.Keyword is = absurd cc
flag_kind kind.Null is = refl

-- CASE of a truth and a value has the kind of the value
flagged_kind : (argument : Kind) → is_result (result_kind Case (kind.Boolean ∷ argument ∷ [])) argument ≡ true
flagged_kind kind.Integer = refl
flagged_kind kind.Long = refl
flagged_kind kind.Boolean = refl
flagged_kind kind.Keyword = refl
flagged_kind kind.Null = refl

module _ (whole free : List (List ℕ)) where
  case_fits : (first second : Part) (own : Kind) → first.fits ≡ true → second.fits ≡ true → is_result (result_kind Case (first.kind ∷ second.kind ∷ [])) own ≡ true
      → (list_all (λ (part : Part). part.fits) (first ∷ second ∷ []) && call_fits whole free Case (first ∷ second ∷ []) None own) ≡ true
  case_fits first second own fits also result =
      and_from _ _ (and_from first.fits _ fits (and_from second.fits true also refl)) (and_from _ true result refl)

  pub flag_fits : (node : NodeId) (condition : TypedExpr) → is_kind kind.Boolean condition.kind ≡ true → ExprFits whole free condition → ExprFits whole free (flag_typed node condition)
  flag_fits node condition truth fits =
      ap (λ (part : Part). part.fits) (part_of_call whole free (flag_typed node condition) Case (condition ∷ true_at node ∷ []) None refl)
      ∙ case_fits (part_of whole free condition) (part_of whole free (true_at node)) kind.Boolean fits
      (ap (λ (part : Part). part.fits) (part_of_constant whole free (true_at node) (Bool true ∷ []) refl))
      ((λ i. is_result (result_kind Case (kind_of_part whole free condition i ∷ kind_of_part whole free (true_at node) i ∷ [])) kind.Boolean) ∙ flag_kind condition.kind truth)

  pub flagged_fits : (flag : Flag) (argument : TypedExpr) → ExprFits whole free argument → ExprFits whole free (flagged_typed flag argument)
  flagged_fits flag argument fits =
      ap (λ (part : Part). part.fits) (part_of_call whole free (flagged_typed flag argument) Case (flag_at flag ∷ argument ∷ []) None refl)
      ∙ case_fits (part_of whole free (flag_at flag)) (part_of whole free argument) argument.kind
      (ap (λ (part : Part). part.fits) (part_of_column whole free (flag_at flag) flag.id refl)) fits
      ((λ i. is_result (result_kind Case (kind_of_part whole free (flag_at flag) i ∷ kind_of_part whole free argument i ∷ [])) argument.kind) ∙ flagged_kind argument.kind)

-- nodes -------------------------------------------------------------------------------------------------------------------------

pub flag_nodes : (node : NodeId) (condition : TypedExpr) → nodes_of (flag_typed node condition) ≡ nodes_of condition ++ node ∷ []
flag_nodes node condition =
    nodes_of_call (flag_typed node condition) Case (condition ∷ true_at node ∷ []) None refl
    ∙ ap (λ (nodes : List NodeId). (nodes_of condition ++ (nodes ++ [])) ++ node ∷ []) (nodes_of_constant (true_at node) (Bool true ∷ []) refl)
    ∙ ap (λ (nodes : List NodeId). nodes ++ node ∷ []) (append-nil (nodes_of condition))

pub flagged_nodes : (flag : Flag) (argument : TypedExpr) → nodes_of (flagged_typed flag argument) ≡ nodes_of argument ++ flag.node ∷ []
flagged_nodes flag argument =
    nodes_of_call (flagged_typed flag argument) Case (flag_at flag ∷ argument ∷ []) None refl
    ∙ ap (λ (nodes : List NodeId). (nodes ++ (nodes_of argument ++ [])) ++ flag.node ∷ []) (nodes_of_column (flag_at flag) flag.id refl)
    ∙ ap (λ (nodes : List NodeId). nodes ++ flag.node ∷ []) (append-nil (nodes_of argument))

-- columns -----------------------------------------------------------------------------------------------------------------------

module _ (made : List MadeColumn) where
  pub flag_reads : (node : NodeId) (condition : TypedExpr) → All (ReadIsMade made) (columns_read condition) → All (ReadIsMade made) (columns_read (flag_typed node condition))
  flag_reads node condition reads =
      All-same (ReadIsMade made) _ _
      (columns_of_call (flag_typed node condition) Case (condition ∷ true_at node ∷ []) None refl
      ∙ ap (λ (columns : List ReadColumn). columns_read condition ++ (columns ++ [])) (columns_of_constant (true_at node) (Bool true ∷ []) refl)
      ∙ append-nil (columns_read condition))
      reads

  pub flagged_reads : (flag : Flag) (argument : TypedExpr) → IsMadeAs made flag.id kind.Boolean → All (ReadIsMade made) (columns_read argument)
      → All (ReadIsMade made) (columns_read (flagged_typed flag argument))
  flagged_reads flag argument there reads =
      All-same (ReadIsMade made) _ _
      (columns_of_call (flagged_typed flag argument) Case (flag_at flag ∷ argument ∷ []) None refl
      ∙ ap (λ (columns : List ReadColumn). columns ++ (columns_read argument ++ [])) (columns_of_column (flag_at flag) flag.id refl)
      ∙ ap (λ (columns : List ReadColumn). record { id = flag.id; kind = kind.Boolean } ∷ columns) (append-nil (columns_read argument)))
      (All-cons (ReadIsMade made) (record { id = flag.id; kind = kind.Boolean }) (columns_read argument) there reads)
