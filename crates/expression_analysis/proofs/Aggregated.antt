-- Aggregates in a field of STATS, and elsewhere.
use Rattle.std.proofs.Common.{◌≡◌, Bool, true, false, cond, List, [], ◌∷◌, length, get_or, Option, Some, None, Result, Ok, Err, refl, ap, sym, subst, ◌∙◌, arith}
use Rattle.std.proofs.lemmas.List.{append-nil}
use Rattle.esql_types.specs.declared.places.Span.{Span}
use Rattle.esql_types.specs.declared.names.NodeId.{NodeId}
use Rattle.esql_types.specs.declared.value.Kind.{Kind}
use Rattle.esql_types.specs.declared.value.Kind.TheVariants as kind
use Rattle.esql_ast.specs.declared.expr.Expr.{Expr}
use Rattle.esql_plan.specs.declared.function.AggFunction.{AggFunction}
use Rattle.esql_plan.specs.declared.typed.TypedExpr.{TypedExpr}
use Rattle.text_match.specs.declared.patterns.Patterns.{Patterns}
use Rattle.row_semantics.specs.declared.call.CallColumn.{CallColumn}
use Rattle.row_semantics.specs.declared.rule.NameRule.TheVariants as rule
use Rattle.row_semantics.specs.Forms.{part_of}
use Rattle.row_semantics.specs.Kinds.{judged, and_then, breaks, aggregate_fits, aggregate_kind, may_have_star, kind_of_argument, kind_of_aggregate, kind_of_standing}
use Rattle.row_semantics.specs.Regulars.{Regular, is_accepted}
use Rattle.row_semantics.specs.Scopes.{Broken, Standing, elsewhere, in_field}
use Rattle.row_semantics.specs.Typed.{typed_call, call_at, kind_of_called}
use Rattle.expression_analysis.specs.declared.error.AnalyzeError.{AnalyzeError}
use Rattle.expression_analysis.specs.declared.error.AnalyzeError.TheVariants as error
use Rattle.expression_analysis.specs.Steps.{Marks, Over, visible_over, scope_over, within_over, Judgement, Gives, IsErrorOf, IsPlainAnswer, readings_of, judgement_over, IsTyped, IsAnswer, typings, judgeds, called_or_rule, kind_of_star, aggregate_of}
use Rattle.expression_analysis.proofs.Judgements.{chained, gives_all, gives_same, gives_next, error_same, error_first}
use Rattle.expression_analysis.proofs.Leaves.{ok_same, err_same}
use Rattle.expression_analysis.proofs.Seens.{own_span}

-- expressions of which there is one
pub alone_is : (exprs : List Expr) (arg : Expr) → length exprs ≡ 1 → arg ≡ get_or exprs 0 arg → arg ∷ [] ≡ exprs
alone_is [] arg one is = absurd cc
alone_is (first ∷ []) arg one is = ap (λ (these : Expr). these ∷ []) is
alone_is (first ∷ next ∷ rest) arg one is = absurd (omega (arith, one))

-- columns of calls -------------------------------------------------------------------------------------------------------------------

kind_same : (made found : Kind) → ◌≡◌ {A = Result Kind Broken} (Ok made) (Ok found) → made ≡ found
kind_same made found is = cc

-- the column of a call whose kind is found
record Called (told : Result Kind Broken) (node : NodeId) (calls : List CallColumn) (typed : TypedExpr) : Type 0 where
  pub kind : Kind
  pub found : told ≡ Ok kind
  pub is : typed ≡ typed_call node kind (call_at calls node)

called_of : (told : Result Kind Broken) (node : NodeId) (calls : List CallColumn) (typed : TypedExpr) → called_or_rule node told calls ≡ Ok typed → Called told node calls typed
called_of (Ok kind) node calls typed is = record { kind = kind; found = refl; is = sym (ok_same _ typed is) }
called_of (Err broken) node calls typed is = absurd cc

uncalled_of : (told : Result Kind Broken) (node : NodeId) (calls : List CallColumn) (broken : Broken) → called_or_rule node told calls ≡ Err broken → told ≡ Err broken
uncalled_of (Ok kind) node calls broken is = absurd cc
uncalled_of (Err other) node calls broken is = err_same other broken is

call_kind : (node : NodeId) (kind : Kind) (found : Option CallColumn) → (typed_call node kind found).kind ≡ kind
call_kind node kind (Some call) = refl
call_kind node kind None = refl

star_kind : (function : AggFunction) (span : Span) (found : Kind) → kind_of_star function span ≡ Ok found → found ≡ kind.Long
star_kind function span found is =
    elim (may_have_star function) as (λ may. cond may (Ok kind.Long) (breaks rule.BadArguments span) ≡ Ok found → found ≡ kind.Long)
    [ true ↦ λ here. sym (kind_same _ found here) | false ↦ λ none. absurd cc ] is

argument_kind : (function : AggFunction) (own : Kind) (span : Span) (found : Kind) → kind_of_argument function own span ≡ Ok found → found ≡ aggregate_kind function own
argument_kind function own span found is =
    elim (aggregate_fits function own) as (λ fits. cond fits (Ok (aggregate_kind function own)) (breaks rule.BadKind span) ≡ Ok found → found ≡ aggregate_kind function own)
    [ true ↦ λ here. sym (kind_same _ found here) | false ↦ λ none. absurd cc ] is

-- calls ------------------------------------------------------------------------------------------------------------------------------

module _ (node : NodeId) (span : Span) (function : AggFunction) (star : Bool) (exprs : List Expr) (over : Over) where
  abbrev judgement : Judgement Kind
  judgement = judgement_over over (aggregate_of node span function star exprs).judged

  -- an aggregate stands in a field alone
  pub nested_answers : (patterns : Patterns) (marks : Marks) → over.standing ≡ elsewhere
      → IsAnswer (aggregate_of node span function star exprs) over patterns patterns marks marks (Err (error.Broken rule.NestedAggregate span))
  nested_answers patterns marks is =
      (ap (λ (standing : Standing). kind_of_standing standing function star (judgeds exprs) span (scope_over is_accepted over)) is, refl)

  judged_in_field : over.standing ≡ in_field → (accepts : Regular → Bool) → kind_of_aggregate function star (judgeds exprs) span (scope_over accepts over) ≡ judgement accepts
  judged_in_field inside accepts =
      ap (λ (standing : Standing). kind_of_standing standing function star (judgeds exprs) span (scope_over accepts over)) (sym inside)

  -- a call is typed as its column, by the kind that it gives
  typed_as : (patterns : Patterns) (kind : Kind) (typed : TypedExpr) → typed ≡ typed_call node kind (call_at over.calls node) → kind ≡ kind_of_called function star (typings exprs) (visible_over over)
      → Gives judgement kind → IsTyped (aggregate_of node span function star exprs) over patterns patterns typed
  typed_as patterns kind typed is same gives =
      let told = is ∙ ap (λ (found : Kind). typed_call node found (call_at over.calls node)) same in
      record {
        is = λ room. told;
        kind = λ whole free. ap (λ (these : TypedExpr). these.kind) told;
        gives = subst (Gives judgement) (sym (ap (λ (these : TypedExpr). these.kind) is ∙ call_kind node kind (call_at over.calls node))) gives;
        whole = sym (append-nil patterns.whole);
        free = sym (append-nil patterns.free);
      }

-- an aggregate of `*`
pub star_answers : (node : NodeId) (span : Span) (function : AggFunction) (exprs : List Expr) (over : Over) (patterns : Patterns) (marks : Marks) → over.standing ≡ in_field
    → (result : Result TypedExpr AnalyzeError) → IsPlainAnswer (called_or_rule node (kind_of_star function span) over.calls) result
    → IsAnswer (aggregate_of node span function true exprs) over patterns patterns marks marks result
star_answers node span function exprs over patterns marks inside (Ok typed) is =
    let called = called_of (kind_of_star function span) node over.calls typed is in (
      typed_as node span function true exprs over patterns called.kind typed called.is (star_kind function span called.kind called.found)
          (gives_same Kind (λ accepts. Ok called.kind) (judgement node span function true exprs over) (λ accepts. sym called.found ∙ judged_in_field node span function true exprs over inside accepts) called.kind (gives_all Kind called.kind)),
      refl,
    )
star_answers node span function exprs over patterns marks inside (Err (error.Broken rule_of at)) is =
    (sym (judged_in_field node span function true exprs over inside is_accepted) ∙ uncalled_of (kind_of_star function span) node over.calls _ is, refl)
star_answers node span function exprs over patterns marks inside (Err (error.PatternRoom at)) is = absurd is
star_answers node span function exprs over patterns marks inside (Err (error.Memory memory)) is = refl

-- an aggregate of another number of arguments than one
pub uncounted_answers : (node : NodeId) (span : Span) (function : AggFunction) (exprs : List Expr) (over : Over) (patterns : Patterns) (marks : Marks) → over.standing ≡ in_field
    → (length exprs ≡ 1 → ⊥) → IsAnswer (aggregate_of node span function false exprs) over patterns patterns marks marks (Err (error.Broken rule.BadArguments span))
uncounted_answers node span function [] over patterns marks inside other = (sym (judged_in_field node span function false [] over inside is_accepted), refl)
uncounted_answers node span function (arg ∷ []) over patterns marks inside other = absurd (other refl)
uncounted_answers node span function (arg ∷ next ∷ rest) over patterns marks inside other =
    (sym (judged_in_field node span function false (arg ∷ next ∷ rest) over inside is_accepted), refl)

-- an aggregate of one argument
module _ (node : NodeId) (span : Span) (function : AggFunction) (arg : Expr) (over : Over) (inside : over.standing ≡ in_field) where
  abbrev judged_of : Judgement Kind
  judged_of = judgement node span function false (arg ∷ []) over

  abbrev first : Judgement Kind
  first = judgement_over (within_over over) (readings_of arg).judged

  abbrev next : Kind → Judgement Kind
  next own accepts = kind_of_argument function own (part_of judged arg).span

  in_turn : (accepts : Regular → Bool) → chained first next accepts ≡ judged_of accepts
  in_turn accepts = judged_in_field node span function false (arg ∷ []) over inside accepts

  own_told : (own : Kind) (told : Result Kind Broken) → kind_of_argument function own arg.span ≡ told → kind_of_argument function own (part_of judged arg).span ≡ told
  own_told own told is = ap (λ (at : Span). kind_of_argument function own at) (own_span _ judged arg) ∙ is

  pub argument_error : (before after : Marks) (told : AnalyzeError) → IsErrorOf first (readings_of arg).regulars before after told
      → IsErrorOf judged_of (aggregate_of node span function false (arg ∷ [])).regulars before after told
  argument_error before after told is =
      error_same Kind (chained first next) judged_of in_turn (aggregate_of node span function false (arg ∷ [])).regulars before after told
      (error_first Kind Kind first next (readings_of arg).regulars [] before after told is)

  module _ (patterns old new : Patterns) (before after : Marks) (own : TypedExpr) (typed : IsTyped (readings_of arg) (within_over over) old new own) (same : after ≡ before) where
    pub argument_answers : (result : Result TypedExpr AnalyzeError) → IsPlainAnswer (called_or_rule node (kind_of_argument function own.kind arg.span) over.calls) result
        → IsAnswer (aggregate_of node span function false (arg ∷ [])) over patterns patterns before after result
    argument_answers (Ok made) is =
        let called = called_of (kind_of_argument function own.kind arg.span) node over.calls made is in
        let gives = gives_same Kind (λ accepts. Ok called.kind) (next own.kind) (λ accepts. sym (own_told own.kind _ called.found)) called.kind (gives_all Kind called.kind) in (
          typed_as node span function false (arg ∷ []) over patterns called.kind made called.is (argument_kind function own.kind arg.span called.kind called.found ∙ ap (aggregate_kind function) (typed.kind 0 0))
              (gives_same Kind (chained first next) judged_of in_turn called.kind (gives_next Kind Kind first next own.kind called.kind typed.gives gives)),
          same,
        )
    argument_answers (Err (error.Broken rule_of at)) is = (
      sym (in_turn is_accepted) ∙ ap (λ (told : Result Kind Broken). and_then told (λ (own : Kind). next own is_accepted)) typed.gives.accepted
          ∙ own_told own.kind _ (uncalled_of (kind_of_argument function own.kind arg.span) node over.calls _ is),
      same,
    )
    argument_answers (Err (error.PatternRoom at)) is = absurd is
    argument_answers (Err (error.Memory memory)) is = same
