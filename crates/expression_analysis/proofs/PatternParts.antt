-- The pattern beside an operator, as a part of the operator, and literals at their places.
use Rattle.std.proofs.Common.{◌≡◌, List, [], ◌∷◌, ◌++◌, length, Some, refl, ap, sym, subst, ◌∙◌}
use Rattle.std.specs.Prelude.{slice_get}
use Rattle.std.proofs.lemmas.List.{append-nil}
use Rattle.esql_types.specs.declared.places.Span.{Span}
use Rattle.esql_types.specs.declared.names.NodeId.{NodeId}
use Rattle.esql_types.specs.declared.value.Kind.{Kind}
use Rattle.esql_types.specs.declared.value.Kind.TheVariants as kind
use Rattle.esql_types.specs.declared.value.Value.TheVariants.{Text}
use Rattle.esql_ast.specs.declared.expr.Expr.{Expr}
use Rattle.esql_ast.specs.declared.query.TextAt.{TextAt}
use Rattle.esql_plan.specs.declared.function.Function.{Function}
use Rattle.esql_plan.specs.declared.typed.TypedExpr.{TypedExpr}
use Rattle.esql_plan.specs.Exprs.{constant_at}
use Rattle.text_match.specs.declared.patterns.Patterns.{Patterns}
use Rattle.row_semantics.specs.Forms.{Part, applied, part_of, pattern_part}
use Rattle.row_semantics.specs.Kinds.{Judged, judged}
use Rattle.row_semantics.specs.Regulars.{Regular}
use Rattle.row_semantics.specs.Typed.{Typing, typing}
use Rattle.expression_analysis.specs.declared.parts.Parts.{Parts}
use Rattle.expression_analysis.specs.Answers.{regulars_in}
use Rattle.expression_analysis.specs.Calls.{second_literal}
use Rattle.expression_analysis.specs.Steps.{Over, visible_over, Gives, IsTyped, applied_to, readings_at, AreTyped, judgement_over, readings_of, judgeds, pattern_expr, literal_of_expr, literal_found}
use Rattle.expression_analysis.proofs.Judgements.{gives_all}
use Rattle.expression_analysis.proofs.PartsTyped.{typed_one}
use Rattle.expression_analysis.proofs.Seens.{pattern_opened}

module _ (over : Over) (node : NodeId) (pattern : TextAt) where
  pub pattern_literal : literal_of_expr (pattern_expr node pattern) ≡ Some pattern.text
  pattern_literal = ap (λ (part : Part Judged). part.literal) (pattern_opened Judged judged node pattern)

  typing_is : (readings_of (pattern_expr node pattern)).typing ≡ (pattern_part typing node pattern).reading
  typing_is = ap (λ (part : Part Typing). part.reading) (pattern_opened Typing typing node pattern)

  judged_is : (readings_of (pattern_expr node pattern)).judged ≡ (pattern_part judged node pattern).reading
  judged_is = ap (λ (part : Part Judged). part.reading) (pattern_opened Judged judged node pattern)

  abbrev constant_typed : TypedExpr
  constant_typed = constant_at node kind.Keyword (Text pattern.text ∷ [])

  pattern_typed : (patterns : Patterns) → IsTyped (readings_of (pattern_expr node pattern)) over patterns patterns constant_typed
  pattern_typed patterns = record {
    is = λ room. sym (ap (λ (read : Typing). read.at (visible_over over) (length patterns.whole) (length patterns.free)) typing_is);
    kind = λ whole free. sym (ap (λ (read : Typing). (read.at (visible_over over) whole free).kind) typing_is);
    gives = subst (λ (read : Judged). Gives (judgement_over over read) kind.Keyword) (sym judged_is) (gives_all Kind kind.Keyword);
    whole = sym (append-nil patterns.whole) ∙ ap (λ (read : Typing). patterns.whole ++ read.whole) (sym typing_is);
    free = sym (append-nil patterns.free) ∙ ap (λ (read : Typing). patterns.free ++ read.free) (sym typing_is);
  }

  pub typed_pattern : (parts next : Parts) (patterns : Patterns) → next.args ≡ parts.args ++ constant_typed ∷ [] → next.spans ≡ parts.spans ++ pattern.span ∷ []
      → AreTyped over (pattern_expr node pattern ∷ []) parts next patterns patterns
  typed_pattern parts next patterns args spans = typed_one over (pattern_expr node pattern) parts next patterns patterns constant_typed args spans (pattern_typed patterns)

pub second_found : (exprs : List Expr) → literal_found (slice_get exprs 1) ≡ second_literal (judgeds exprs)
second_found [] = refl
second_found (first ∷ []) = refl
second_found (first ∷ second ∷ rest) = refl

-- the literal behind the first part
pub next_found : (left : Expr) (items : List Expr) → literal_found (slice_get items 0) ≡ second_literal (judgeds (left ∷ items))
next_found left [] = refl
next_found left (item ∷ items) = refl

-- an operator with a pattern, as a function of the pattern's constant
pub like_read : (node : NodeId) (span : Span) (written : Function) (left : Expr) (pattern : TextAt) → applied_to node span written (left ∷ pattern_expr node pattern ∷ [])
    ≡ readings_at node span (applied written (part_of typing left ∷ pattern_part typing node pattern ∷ [])) (applied written (part_of judged left ∷ pattern_part judged node pattern ∷ []))
    (applied written (part_of regulars_in left ∷ pattern_part regulars_in node pattern ∷ []))
like_read node span written left pattern = λ i. readings_at node span
    (applied written (part_of typing left ∷ pattern_opened Typing typing node pattern i ∷ []))
    (applied written (part_of judged left ∷ pattern_opened Judged judged node pattern i ∷ []))
    (applied written (part_of regulars_in left ∷ pattern_opened (List Regular) regulars_in node pattern i ∷ []))
