-- Constants, lists, columns, and forms that break a rule: what is read of them.
use Rattle.std.proofs.Common.{◌≡◌, ℕ, true, false, cond, List, [], ◌∷◌, Option, Some, None, option_map, Result, Ok, Err, refl, ap, sym, subst, ◌∙◌}
use Rattle.std.specs.Str.{bytes_eq}
use Rattle.std.proofs.lemmas.List.{append-nil}
use Rattle.esql_types.specs.declared.places.Span.{Span}
use Rattle.esql_types.specs.declared.names.NodeId.{NodeId}
use Rattle.esql_types.specs.declared.names.Column.{Column as NamedColumn}
use Rattle.esql_types.specs.declared.value.Kind.{Kind}
use Rattle.esql_types.specs.declared.value.Kind.TheVariants as kind
use Rattle.esql_types.specs.declared.value.Value.{Value}
use Rattle.esql_plan.specs.declared.plan.OutColumn.{OutColumn}
use Rattle.esql_plan.specs.declared.typed.TypedExpr.{TypedExpr}
use Rattle.esql_plan.specs.declared.typed.TypedForm.TheVariants.{Column}
use Rattle.esql_plan.specs.Exprs.{typed_at}
use Rattle.text_match.specs.declared.patterns.Patterns.{Patterns}
use Rattle.plan_semantics.specs.Plans.{columns_of}
use Rattle.row_semantics.specs.declared.rule.NameRule.{NameRule}
use Rattle.row_semantics.specs.declared.rule.NameRule.TheVariants.{UnknownColumn}
use Rattle.row_semantics.specs.Forms.{named, refused, list_in_kind, kind_of_list, constant_in}
use Rattle.row_semantics.specs.Kinds.{kind_of_column}
use Rattle.row_semantics.specs.Scopes.{Broken, column_named}
use Rattle.row_semantics.specs.Typed.{typed_column, visible_named}
use Rattle.expression_analysis.specs.declared.error.AnalyzeError.{AnalyzeError}
use Rattle.expression_analysis.specs.declared.error.AnalyzeError.TheVariants as error
use Rattle.visible_columns.specs.declared.columns.Shown.{Shown}
use Rattle.visible_columns.specs.Columns.{shown_of}
use Rattle.expression_analysis.specs.Steps.{Marks, Over, Gives, IsTyped, IsAnswer, Readings, readings_at, IsPlainAnswer, constant_or_rule, column_or_rule}
use Rattle.expression_analysis.proofs.Judgements.{gives_all}

pub ok_same : (made typed : TypedExpr) → ◌≡◌ {A = Result TypedExpr Broken} (Ok made) (Ok typed) → made ≡ typed
ok_same made typed is = cc

-- the same refusal of a kind
pub err_same : (broken other : Broken) → ◌≡◌ {A = Result TypedExpr Broken} (Err broken) (Err other) → ◌≡◌ {A = Result Kind Broken} (Err broken) (Err other)
err_same broken other is = let same : broken ≡ other = cc in λ i. Err (same i)

abbrev seen_column : OutColumn → NamedColumn
seen_column column = record { name = column.name; kind = column.kind }

names_alike : (columns : List OutColumn) (name : List ℕ) → column_named (columns_of columns) name ≡ option_map seen_column (visible_named columns name)
names_alike [] name = refl
names_alike (column ∷ columns) name =
    elim (bytes_eq column.name name) as (λ found. cond found (Some (seen_column column)) (column_named (columns_of columns) name) ≡ option_map seen_column (cond found (Some column) (visible_named columns name)))
    [ true ↦ refl | false ↦ names_alike columns name ]

module _ (over : Over) (node : NodeId) (span : Span) (patterns : Patterns) (marks : Marks) where
  -- the same for every reading
  abbrev list_readings : List Value → Option Kind → Readings
  list_readings values found = readings_at node span (list_in_kind values found span) (list_in_kind values found span) (list_in_kind values found span)

  list_typed : (values : List Value) (found : Option Kind) (typed : TypedExpr) → constant_or_rule node (list_in_kind values found span) ≡ Ok typed → IsTyped (list_readings values found) over patterns patterns typed
  list_typed values None typed is = absurd cc
  list_typed values (Some kind.Long) typed is =
      subst (IsTyped (list_readings values (Some kind.Long)) over patterns patterns) (ok_same _ typed is)
      (record { is = λ room. refl; kind = λ whole free. refl; gives = gives_all Kind kind.Long; whole = sym (append-nil patterns.whole); free = sym (append-nil patterns.free) })
  list_typed values (Some other) typed is =
      subst (IsTyped (list_readings values (Some other)) over patterns patterns) (ok_same _ typed is)
      (record { is = λ room. refl; kind = λ whole free. refl; gives = gives_all Kind other; whole = sym (append-nil patterns.whole); free = sym (append-nil patterns.free) })

  list_broken : (values : List Value) (found : Option Kind) (rule_of : NameRule) (at : Span) → constant_or_rule node (list_in_kind values found span) ≡ Err (record { rule = rule_of; span = at })
      → IsAnswer (list_readings values found) over patterns patterns marks marks (Err (error.Broken rule_of at))
  list_broken values None rule_of at is = (err_same _ _ is, refl)
  list_broken values (Some kind.Long) rule_of at is = absurd cc
  list_broken values (Some other) rule_of at is = absurd cc

  pub list_answers : (values : List Value) (found : Option Kind) (result : Result TypedExpr AnalyzeError) → IsPlainAnswer (constant_or_rule node (list_in_kind values found span)) result
      → IsAnswer (list_readings values found) over patterns patterns marks marks result
  list_answers values found (Ok typed) is = (list_typed values found typed is, refl)
  list_answers values found (Err (error.Broken rule_of at)) is = list_broken values found rule_of at is
  list_answers values found (Err (error.PatternRoom at)) is = absurd is
  list_answers values found (Err (error.Memory memory)) is = refl

  pub constant_answers : (cell : List Value) (result : Result TypedExpr AnalyzeError) → IsPlainAnswer (constant_or_rule node (constant_in cell span)) result
      → IsAnswer (readings_at node span (constant_in cell span) (constant_in cell span) (constant_in cell span)) over patterns patterns marks marks result
  constant_answers [] result is = list_answers [] (Some kind.Null) result is
  constant_answers (value ∷ values) result is = list_answers (value ∷ values) (kind_of_list (value ∷ values)) result is

  -- a form that breaks a rule whatever its parts are
  abbrev refused_readings : NameRule → Span → Readings
  refused_readings rule_of at = readings_at node span (refused [] rule_of at) (refused [] rule_of at) (refused [] rule_of at)

  pub refused_answers : (rule_of : NameRule) (at : Span) → IsAnswer (refused_readings rule_of at) over patterns patterns marks marks (Err (error.Broken rule_of at))
  refused_answers rule_of at = (refl, refl)

  -- columns
  abbrev column_readings : List ℕ → Readings
  column_readings name = readings_at node span (named name) (named name) (named name)

  column_found : (name : List ℕ) (found : Option OutColumn) (result : Result TypedExpr AnalyzeError) → visible_named over.columns name ≡ found → column_named (columns_of over.columns) name ≡ option_map seen_column found
      → IsPlainAnswer (column_or_rule node span found) result → IsAnswer (column_readings name) over patterns patterns marks marks result
  column_found name (Some column) (Ok typed) sees finds is = (
    subst (IsTyped (column_readings name) over patterns patterns) (ok_same _ typed is)
        (record {
          is = λ room. sym (ap (typed_column node) sees);
          kind = λ whole free. sym (ap (λ (found : Option OutColumn). (typed_column node found).kind) sees);
          gives = subst (λ (these : Option NamedColumn). Gives (λ accepts. kind_of_column these span) column.kind) (sym finds) (gives_all Kind column.kind);
          whole = sym (append-nil patterns.whole);
          free = sym (append-nil patterns.free);
        }),
    refl,
  )
  column_found name None (Ok typed) sees finds is = absurd cc
  column_found name (Some column) (Err (error.Broken rule_of at)) sees finds is = absurd cc
  column_found name None (Err (error.Broken rule_of at)) sees finds is = (ap (λ (these : Option NamedColumn). kind_of_column these span) finds ∙ err_same _ _ is, refl)
  column_found name found (Err (error.PatternRoom at)) sees finds is = absurd is
  column_found name found (Err (error.Memory memory)) sees finds is = refl

  pub column_answers : (name : List ℕ) (result : Result TypedExpr AnalyzeError) → IsPlainAnswer (column_or_rule node span (visible_named over.columns name)) result
      → IsAnswer (column_readings name) over patterns patterns marks marks result
  column_answers name result is = column_found name (visible_named over.columns name) result refl (names_alike over.columns name) is

-- a column of the name that is found, and none
pub column_shown : (node : NodeId) (span : Span) (found : Option OutColumn) (shown : Shown) → Some shown ≡ option_map shown_of found
    → column_or_rule node span found ≡ Ok (typed_at node shown.kind (Column shown.id))
column_shown node span None shown is = absurd cc
column_shown node span (Some column) shown is =
    let same : shown ≡ shown_of column = cc in
    λ i. Ok (typed_at node (sym same i).kind (Column (sym same i).id))

pub column_unknown : (node : NodeId) (span : Span) (found : Option OutColumn) → ◌≡◌ {A = Option Shown} None (option_map shown_of found)
    → ◌≡◌ {A = Result TypedExpr Broken} (column_or_rule node span found) (Err (record { rule = UnknownColumn; span = span }))
column_unknown node span None is = refl
column_unknown node span (Some column) is = absurd cc
