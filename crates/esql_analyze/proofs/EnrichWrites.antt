-- ENRICH writes what it is to write, and is refused as its shape is.
use Rattle.std.proofs.Common.{◌≡◌, ℕ, ◌+◌, ◌≤◌, Bool, true, false, cond, List, [], ◌∷◌, length, Option, Some, None, Ok, Err, refl, ap, sym, subst, ◌∙◌, arith}
use Rattle.std.specs.Option.{option_map}
use Rattle.std.specs.Str.{bytes_eq}
use Rattle.esql_types.specs.declared.places.Span.{Span}
use Rattle.esql_types.specs.declared.names.Column.{Column}
use Rattle.esql_ast.specs.declared.query.EnrichItem.{EnrichItem}
use Rattle.esql_ast.specs.declared.query.NameAt.{NameAt}
use Rattle.esql_plan.specs.declared.catalog.Catalog.{Catalog}
use Rattle.esql_plan.specs.declared.catalog.PolicyShape.{PolicyShape}
use Rattle.esql_plan.specs.declared.plan.OutColumn.{OutColumn}
use Rattle.esql_plan.specs.declared.step.Step.TheVariants as step
use Rattle.plan_semantics.specs.Plans.{columns_of}
use Rattle.plan_semantics.specs.Taken.{kinds_match}
use Rattle.row_semantics.specs.declared.rule.NameRule.TheVariants as rule
use Rattle.row_semantics.specs.Kinds.{breaks, and_then, kind_of_column}
use Rattle.row_semantics.specs.Regulars.{Regular}
use Rattle.row_semantics.specs.Typed.{visible_named}
use Rattle.query_semantics.specs.Appended.{FoundPolicy, FieldTaken, policy_from, policy_named, matched_name, matched_at, fields_taken, taken_columns, taken_numbers, put_columns}
use Rattle.query_semantics.specs.AppendedShapes.{unknown_field, unless_unknown, shape_of_matched, shape_of_policy}
use Rattle.query_semantics.specs.Catalogs.{entries_of_policies, IsCatalog}
use Rattle.query_semantics.specs.Shapes.{Shape}
use Rattle.query_semantics.specs.Writings.{Writing}
use Rattle.query_semantics.specs.WrittenAppended.{write_new, write_matched, write_policy}
use Rattle.expression_analysis.specs.declared.error.AnalyzeError.{AnalyzeError}
use Rattle.expression_analysis.specs.Answers.{IsRefusal}
use Rattle.visible_columns.specs.declared.columns.Shown.{Shown}
use Rattle.visible_columns.specs.Columns.{shown_of}
use Rattle.esql_analyze.specs.declared.policy_fields.Taken.{Taken}
use Rattle.plan_writing.specs.declared.writing.Writing.{Writing as Made}
use Rattle.esql_analyze.specs.Policies.{AreTaken}
use Rattle.plan_writing.specs.Writings.{seen}
use Rattle.esql_analyze.proofs.AppendedWrites.{columns_new}
use Rattle.esql_analyze.proofs.ExpandWrites.{seen_column, names_alike}
use Rattle.plan_writing.proofs.Refusals.{refused_as}

-- the policies and their fields are few ------------------------------------------------------------------------------------

pub policies_few : (policies : List PolicyShape) → length policies ≤ entries_of_policies policies
policies_few [] = omega arith
policies_few (policy ∷ policies) = omega (arith, policies_few policies)

abbrev fields_of : Option FoundPolicy → ℕ
fields_of None = 0
fields_of (Some found) = length found.shape.fields

fields_few : (number : ℕ) (policies : List PolicyShape) (name : List ℕ) → fields_of (policy_from number policies name) ≤ entries_of_policies policies
fields_few number [] name = omega arith
fields_few number (policy ∷ policies) name =
    let rest = fields_few (number + 1) policies name in
    elim (bytes_eq policy.name name) as (λ is. fields_of (cond is (Some (record { number = number; shape = policy })) (policy_from (number + 1) policies name)) ≤ entries_of_policies (policy ∷ policies))
    [ true ↦ omega arith | false ↦ omega (arith, rest) ]

pub catalog_policies_few : (catalog : Catalog) → IsCatalog catalog → length catalog.policies ≤ 4294967295
catalog_policies_few catalog fine = omega (arith, fine.few, policies_few catalog.policies)

pub catalog_fields_few : (catalog : Catalog) (name : List ℕ) (found : FoundPolicy) → IsCatalog catalog → policy_named catalog.policies name ≡ Some found → length found.shape.fields ≤ 4294967295
catalog_fields_few catalog name found fine is =
    let few = fields_few 0 catalog.policies name in
    let same : fields_of (policy_named catalog.policies name) ≡ length found.shape.fields = ap fields_of is in
    omega (arith, fine.few, few, same)

-- the matched column -------------------------------------------------------------------------------------------------------

-- the column of a name, by what is kept of it
record IsMatched (visible : List OutColumn) (name : List ℕ) (shown : Shown) : Type 0 where
  column : OutColumn
  is : visible_named visible name ≡ Some column
  shown_is : shown_of column ≡ shown

matched_by : (visible : List OutColumn) (name : List ℕ) (shown : Shown) → option_map shown_of (visible_named visible name) ≡ Some shown → IsMatched visible name shown
matched_by visible name shown is = by_found (visible_named visible name) refl is
  where
    by_found : (found : Option OutColumn) → visible_named visible name ≡ found → option_map shown_of found ≡ Some shown → IsMatched visible name shown
    by_found None same none = absurd cc
    by_found (Some column) same some = record { column = column; is = same; shown_is = cc }

none_by : (visible : List OutColumn) (name : List ℕ) → option_map shown_of (visible_named visible name) ≡ None → visible_named visible name ≡ None
none_by visible name is = by_found (visible_named visible name) is
  where
    by_found : (found : Option OutColumn) → option_map shown_of found ≡ None → found ≡ None
    by_found None none = refl
    by_found (Some column) none = absurd cc

-- the shape ----------------------------------------------------------------------------------------------------------------

module _ (found : FoundPolicy) (policy : NameAt) (on : Option NameAt) (items : Option (List EnrichItem)) (visible : List OutColumn) where
  abbrev name : List ℕ
  name = matched_name found.shape on

  abbrev at : Span
  at = matched_at policy on

  abbrev shape : Shape
  shape = shape_of_policy (Some found) policy on items (columns_of visible)

  -- what is left to be judged where the kinds fit
  abbrev fitting : Shape
  fitting = unless_unknown (unknown_field found.shape.fields items) (put_columns (columns_of visible) (taken_columns (fields_taken found.shape.fields items)))

  shape_by : (column : Option OutColumn) → visible_named visible name ≡ column
      → shape ≡ and_then (kind_of_column (option_map seen_column column) at) (shape_of_matched found.shape at items (columns_of visible))
  shape_by column is =
      ap (λ (these : Option Column). and_then (kind_of_column these at) (shape_of_matched found.shape at items (columns_of visible))) (names_alike visible name ∙ ap (option_map seen_column) is)

  pub no_matched : option_map shown_of (visible_named visible name) ≡ None → shape ≡ Err (record { rule = rule.UnknownColumn; span = at })
  no_matched is = shape_by None (none_by visible name is)

  pub shape_matched : (shown : Shown) → option_map shown_of (visible_named visible name) ≡ Some shown → shape ≡ shape_of_matched found.shape at items (columns_of visible) shown.kind
  shape_matched shown is =
      let matched = matched_by visible name shown is in
      shape_by (Some matched.column) matched.is ∙ ap (λ (these : Shown). shape_of_matched found.shape at items (columns_of visible) these.kind) matched.shown_is

  pub bad_kind : (shown : Shown) → option_map shown_of (visible_named visible name) ≡ Some shown → kinds_match shown.kind found.shape.match_field.kind ≡ false
      → shape ≡ Err (record { rule = rule.BadKind; span = at })
  bad_kind shown is fits = shape_matched shown is ∙ ap (λ (these : Bool). cond these fitting (breaks rule.BadKind at)) fits

  pub shape_fields : (shown : Shown) → option_map shown_of (visible_named visible name) ≡ Some shown → kinds_match shown.kind found.shape.match_field.kind ≡ true
      → shape ≡ fitting
  shape_fields shown is fits = shape_matched shown is ∙ ap (λ (these : Bool). cond these fitting (breaks rule.BadKind at)) fits

  pub fields_refused : (shown : Shown) (error : AnalyzeError) → option_map shown_of (visible_named visible name) ≡ Some shown → kinds_match shown.kind found.shape.match_field.kind ≡ true
      → ((columns : List Column) → IsRefusal (λ (accepts : Regular → Bool). unless_unknown (unknown_field found.shape.fields items) columns) error) → IsRefusal (λ (accepts : Regular → Bool). shape) error
  fields_refused shown error is fits refused =
      refused_as (λ (accepts : Regular → Bool). shape) (λ (accepts : Regular → Bool). unless_unknown (unknown_field found.shape.fields items) (put_columns (columns_of visible) (taken_columns (fields_taken found.shape.fields items)))) error
      (λ accepts. shape_fields shown is fits) (refused _)

-- a policy whose fields are all there
pub policy_writes : (found : FoundPolicy) (policy : NameAt) (on : Option NameAt) (items : Option (List EnrichItem)) (old new : Made) (shown : Shown) (taken : Taken)
    → option_map shown_of (visible_named old.visible (matched_name found.shape on)) ≡ Some shown → kinds_match shown.kind found.shape.match_field.kind ≡ true
    → unknown_field found.shape.fields items ≡ None → AreTaken (fields_taken found.shape.fields items) taken
    → seen new ≡ write_new taken.columns [] (step.Enrich found.number shown.id taken.numbers) (seen old)
    → (seen new ≡ write_policy (Some found) on items (seen old)) × (shape_of_policy (Some found) policy on items (columns_of old.visible) ≡ Ok (columns_of new.visible))
policy_writes found policy on items old new shown taken is fits known are written =
    let these : List FieldTaken = fields_taken found.shape.fields items in
    let matched = matched_by old.visible (matched_name found.shape on) shown is in
    let own : seen new ≡ write_new (taken_columns these) [] (step.Enrich found.number shown.id (taken_numbers these)) (seen old) =
    written ∙ (λ i. write_new (are.columns i) [] (step.Enrich found.number shown.id (are.numbers i)) (seen old)) in (
      own
          ∙ ap (λ (one : Shown). write_new (taken_columns these) [] (step.Enrich found.number one.id (taken_numbers these)) (seen old)) (sym matched.shown_is)
          ∙ sym (ap (λ (column : Option OutColumn). write_matched found column these (seen old)) matched.is),
      shape_fields found policy on items old.visible shown is fits
          ∙ ap (λ (place : Option Span). unless_unknown place (put_columns (columns_of old.visible) (taken_columns these))) known
          ∙ ap (λ (columns : List Column). let shape : Shape = Ok columns in shape) (sym (ap (λ (writing : Writing). columns_of writing.visible) own ∙ columns_new old.visible (taken_columns these) old.next)),
    )

-- what is said of the fields of a policy that are read --------------------------------------------------------------------------

pub refused_fields : (these those : List Column) (items : Option (List EnrichItem)) (error : AnalyzeError) → these ≡ those
    → ((columns : List Column) → IsRefusal (λ (accepts : Regular → Bool). unless_unknown (unknown_field these items) columns) error)
    → (columns : List Column) → IsRefusal (λ (accepts : Regular → Bool). unless_unknown (unknown_field those items) columns) error
refused_fields these those items error same refused columns =
    subst (λ (fields : List Column). IsRefusal (λ (accepts : Regular → Bool). unless_unknown (unknown_field fields items) columns) error) same (refused columns)

pub known_fields : (these those : List Column) (items : Option (List EnrichItem)) → these ≡ those → unknown_field these items ≡ None → unknown_field those items ≡ None
known_fields these those items same known = ap (λ (fields : List Column). unknown_field fields items) (sym same) ∙ known

pub fields_as_taken : (these those : List Column) (items : Option (List EnrichItem)) (taken : Taken) → these ≡ those → AreTaken (fields_taken these items) taken → AreTaken (fields_taken those items) taken
fields_as_taken these those items taken same are = subst (λ (fields : List Column). AreTaken (fields_taken fields items) taken) same are
