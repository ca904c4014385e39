-- The first rule that DISSECT, GROK or ENRICH breaks stands in a part of the text.
use Rattle.std.proofs.Common.{ℕ, Bool, List, [], ◌∷◌, All, Option, Some, None, IfSome, Result}
use Rattle.std.proofs.lemmas.List.Elements.{All-head, All-tail}
use Rattle.esql_types.specs.declared.places.Span.{Span}
use Rattle.esql_types.specs.declared.value.Kind.{Kind}
use Rattle.esql_types.specs.declared.value.Kind.TheVariants as kind
use Rattle.esql_types.specs.declared.names.Column.{Column}
use Rattle.esql_types.specs.Spans.{SpanFits}
use Rattle.esql_ast.specs.declared.expr.Expr.{Expr}
use Rattle.esql_ast.specs.declared.query.EnrichItem.{EnrichItem}
use Rattle.esql_ast.specs.declared.query.NameAt.{NameAt}
use Rattle.esql_ast.specs.declared.query.TextAt.{TextAt}
use Rattle.esql_ast.specs.Fits.{ExprFits, NameFits, TextFits, ItemFits}
use Rattle.esql_ast.proofs.PartsFit.{own_span_fits}
use Rattle.esql_plan.specs.declared.catalog.PolicyShape.{PolicyShape}
use Rattle.esql_plan.specs.Signatures.{is_kind}
use Rattle.dissect_grok.specs.Patterns.{Reading, reading_of}
use Rattle.dissect_grok.specs.Groks.{GrokRead, grok_of}
use Rattle.plan_semantics.specs.Taken.{kinds_match}
use Rattle.row_semantics.specs.declared.rule.NameRule.TheVariants as rule
use Rattle.row_semantics.specs.Regulars.{Regular}
use Rattle.row_semantics.specs.Scopes.{Broken, column_named}
use Rattle.row_semantics.specs.Kinds.{breaks, kind_of_column, kind_or_rule}
use Rattle.query_semantics.specs.Appended.{FoundPolicy, policy_named, matched_name, matched_at, field_from, FieldTaken}
use Rattle.query_semantics.specs.AppendedShapes.{if_keyword, shape_of_reading, shape_of_dissect, regular_of_grok, shape_of_grok_read, shape_of_grok, or_unknown, first_unknown, unknown_field, unless_unknown, shape_of_matched, shape_of_policy, shape_of_enrich}
use Rattle.query_semantics.specs.StatsShapes.{outside_scope}
use Rattle.query_semantics.specs.Places.{BrokenFits}
use Rattle.query_semantics.proofs.ExprPlaces.{then_fits, either_fits, column_fits, kind_fits}

module _ (text : List ℕ) (accepts : Regular → Bool) (columns : List Column) where
  keyword_fits : (input : Expr) (next : Result (List Column) Broken) (found : Kind) → ExprFits text input → BrokenFits text next → BrokenFits text (if_keyword input next found)
  keyword_fits input next found fits also = either_fits text (is_kind kind.Keyword found) next (breaks rule.BadKind input.span) also (own_span_fits text input fits)

  reading_fits : (read : Option Reading) (span : Span) → SpanFits text span → BrokenFits text (shape_of_reading read span columns)
  reading_fits None span fits = fits
  reading_fits (Some reading) span fits = tt

  pub dissect_fits : (input : Expr) (pattern : TextAt) (separator : List ℕ) → ExprFits text input → TextFits text pattern
      → BrokenFits text (shape_of_dissect accepts input pattern separator columns)
  dissect_fits input pattern separator fits also =
      then_fits text (kind_or_rule input (outside_scope accepts columns)) (if_keyword input (shape_of_reading (reading_of pattern.text separator) pattern.span columns))
      (kind_fits text input fits (outside_scope accepts columns))
      (λ found. keyword_fits input (shape_of_reading (reading_of pattern.text separator) pattern.span columns) found fits (reading_fits (reading_of pattern.text separator) pattern.span also))

  grok_read_fits : (read : Option GrokRead) (span : Span) → SpanFits text span → BrokenFits text (shape_of_grok_read accepts read span columns)
  grok_read_fits None span fits = fits
  grok_read_fits (Some read) span fits = either_fits text (accepts (regular_of_grok span read)) _ (breaks rule.BadRegex span) tt fits

  pub grok_fits : (input : Expr) (pattern : TextAt) → ExprFits text input → TextFits text pattern → BrokenFits text (shape_of_grok accepts input pattern columns)
  grok_fits input pattern fits also =
      then_fits text (kind_or_rule input (outside_scope accepts columns)) (if_keyword input (shape_of_grok_read accepts (grok_of pattern.text) pattern.span columns))
      (kind_fits text input fits (outside_scope accepts columns))
      (λ found. keyword_fits input (shape_of_grok_read accepts (grok_of pattern.text) pattern.span columns) found fits (grok_read_fits (grok_of pattern.text) pattern.span also))

  abbrev PlaceFits : Option Span → Type 0
  PlaceFits place = IfSome place (SpanFits text)

  unknown_fits : (taken : Option FieldTaken) (span : Span) (later : Option Span) → SpanFits text span → PlaceFits later → PlaceFits (or_unknown taken span later)
  unknown_fits None span later fits also = fits
  unknown_fits (Some taken) span later fits also = also

  items_fit : (fields : List Column) (items : List EnrichItem) → All (ItemFits text) items → PlaceFits (first_unknown fields items)
  items_fit fields [] fits = tt
  items_fit fields (item ∷ items) fits =
      unknown_fits (field_from 0 fields item.field.name) item.field.span (first_unknown fields items)
      (All-head (ItemFits text) item items fits).field (items_fit fields items (All-tail (ItemFits text) item items fits))

  fields_fit : (fields : List Column) (items : Option (List EnrichItem)) → IfSome items (All (ItemFits text)) → PlaceFits (unknown_field fields items)
  fields_fit fields None fits = tt
  fields_fit fields (Some items) fits = items_fit fields items fits

  known_fits : (place : Option Span) (after : List Column) → PlaceFits place → BrokenFits text (unless_unknown place after)
  known_fits None after fits = tt
  known_fits (Some span) after fits = fits

  place_fits : (policy : NameAt) (on : Option NameAt) → NameFits text policy → IfSome on (NameFits text) → SpanFits text (matched_at policy on)
  place_fits policy None fits also = fits
  place_fits policy (Some on) fits also = also

  policy_fits : (found : Option FoundPolicy) (policy : NameAt) (on : Option NameAt) (items : Option (List EnrichItem))
      → NameFits text policy → IfSome on (NameFits text) → IfSome items (All (ItemFits text)) → BrokenFits text (shape_of_policy found policy on items columns)
  policy_fits None policy on items fits also each = fits
  policy_fits (Some found) policy on items fits also each =
      let place : SpanFits text (matched_at policy on) = place_fits policy on fits also in
      then_fits text (kind_of_column (column_named columns (matched_name found.shape on)) (matched_at policy on)) (shape_of_matched found.shape (matched_at policy on) items columns)
      (column_fits text (column_named columns (matched_name found.shape on)) (matched_at policy on) place)
      (λ kind. either_fits text (kinds_match kind found.shape.match_field.kind) (unless_unknown (unknown_field found.shape.fields items) _) (breaks rule.BadKind (matched_at policy on))
      (known_fits (unknown_field found.shape.fields items) _ (fields_fit found.shape.fields items each)) place)

  pub enrich_fits : (policies : List PolicyShape) (policy : NameAt) (on : Option NameAt) (items : Option (List EnrichItem))
      → NameFits text policy → IfSome on (NameFits text) → IfSome items (All (ItemFits text)) → BrokenFits text (shape_of_enrich policies policy on items columns)
  enrich_fits policies policy on items fits also each = policy_fits (policy_named policies policy.name) policy on items fits also each
