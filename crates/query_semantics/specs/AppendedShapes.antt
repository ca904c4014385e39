-- The columns after DISSECT, GROK and ENRICH, or the first rule that one breaks.
use Rattle.std.specs.Prelude.{ℕ, Bool, false, List, [], ◌∷◌, Option, Some, None, Result, Ok, if◌then◌else◌}
use Rattle.esql_types.specs.declared.places.Span.{Span}
use Rattle.esql_types.specs.declared.value.Kind.{Kind}
use Rattle.esql_types.specs.declared.value.Kind.TheVariants as kind
use Rattle.esql_types.specs.declared.names.Column.{Column}
use Rattle.esql_ast.specs.declared.expr.Expr.{Expr}
use Rattle.esql_ast.specs.declared.query.EnrichItem.{EnrichItem}
use Rattle.esql_ast.specs.declared.query.NameAt.{NameAt}
use Rattle.esql_ast.specs.declared.query.TextAt.{TextAt}
use Rattle.esql_plan.specs.declared.catalog.PolicyShape.{PolicyShape}
use Rattle.esql_plan.specs.Signatures.{is_kind}
use Rattle.dissect_grok.specs.Patterns.{Reading, reading_of}
use Rattle.dissect_grok.specs.Groks.{GrokRead, grok_of}
use Rattle.plan_semantics.specs.Taken.{kinds_match, columns_of_reading, columns_of_grok}
use Rattle.row_semantics.specs.declared.rule.NameRule.TheVariants as rule
use Rattle.row_semantics.specs.Regulars.{Regular}
use Rattle.row_semantics.specs.Scopes.{Broken, elsewhere, column_named}
use Rattle.row_semantics.specs.Kinds.{breaks, and_then, kind_of_column, kind_or_rule}
use Rattle.query_semantics.specs.Appended.{FoundPolicy, put_columns, policy_named, matched_name, matched_at, field_from, FieldTaken, fields_taken, taken_columns}

-- the input of DISSECT and GROK is a keyword or null
abbrev pub if_keyword : {A : Type 0} → Expr → Result A Broken → Kind → Result A Broken
if_keyword input next found = if is_kind kind.Keyword found then next else breaks rule.BadKind input.span

-- a pattern of DISSECT has to be read
abbrev pub shape_of_reading : Option Reading → Span → List Column → Result (List Column) Broken
shape_of_reading None span columns = breaks rule.BadDissect span
shape_of_reading (Some reading) span columns = Ok (put_columns columns (columns_of_reading (Some reading)))

abbrev pub shape_of_dissect : (Regular → Bool) → Expr → TextAt → List ℕ → List Column → Result (List Column) Broken
shape_of_dissect accepts input pattern separator columns =
    and_then (kind_or_rule input (record { columns = columns; standing = elsewhere; accepts = accepts }))
    (if_keyword input (shape_of_reading (reading_of pattern.text separator) pattern.span columns))

-- the regular expression that a pattern of GROK stands for, which stands where the pattern does
abbrev pub regular_of_grok : Span → GrokRead → Regular
regular_of_grok span read = record { span = span; text = read.expansion; is_whole = false }

-- a pattern of GROK has to be read, and its regular expression to be accepted
abbrev pub shape_of_grok_read : (Regular → Bool) → Option GrokRead → Span → List Column → Result (List Column) Broken
shape_of_grok_read accepts None span columns = breaks rule.BadGrok span
shape_of_grok_read accepts (Some read) span columns =
    if accepts (regular_of_grok span read) then Ok (put_columns columns (columns_of_grok (Some read))) else breaks rule.BadRegex span

abbrev pub shape_of_grok : (Regular → Bool) → Expr → TextAt → List Column → Result (List Column) Broken
shape_of_grok accepts input pattern columns =
    and_then (kind_or_rule input (record { columns = columns; standing = elsewhere; accepts = accepts }))
    (if_keyword input (shape_of_grok_read accepts (grok_of pattern.text) pattern.span columns))

-- ENRICH -------------------------------------------------------------------------------------------------------------------

abbrev pub or_unknown : Option FieldTaken → Span → Option Span → Option Span
or_unknown None span later = Some span
or_unknown (Some taken) span later = later

-- the place of the first field that the policy does not have
abbrev pub first_unknown : List Column → List EnrichItem → Option Span
first_unknown fields [] = None
first_unknown fields (item ∷ items) = or_unknown (field_from 0 fields item.field.name) item.field.span (first_unknown fields items)

abbrev pub unknown_field : List Column → Option (List EnrichItem) → Option Span
unknown_field fields None = None
unknown_field fields (Some items) = first_unknown fields items

abbrev pub unless_unknown : Option Span → List Column → Result (List Column) Broken
unless_unknown None columns = Ok columns
unless_unknown (Some span) columns = breaks rule.UnknownColumn span

-- the matched column fits the match field; then each field has to be there
abbrev pub shape_of_matched : PolicyShape → Span → Option (List EnrichItem) → List Column → Kind → Result (List Column) Broken
shape_of_matched policy span items columns found =
    if kinds_match found policy.match_field.kind
    then unless_unknown (unknown_field policy.fields items) (put_columns columns (taken_columns (fields_taken policy.fields items)))
    else breaks rule.BadKind span

-- the policy has to be there, and then the matched column
abbrev pub shape_of_policy : Option FoundPolicy → NameAt → Option NameAt → Option (List EnrichItem) → List Column → Result (List Column) Broken
shape_of_policy None policy on items columns = breaks rule.UnknownPolicy policy.span
shape_of_policy (Some found) policy on items columns =
    and_then (kind_of_column (column_named columns (matched_name found.shape on)) (matched_at policy on)) (shape_of_matched found.shape (matched_at policy on) items columns)

abbrev pub shape_of_enrich : List PolicyShape → NameAt → Option NameAt → Option (List EnrichItem) → List Column → Result (List Column) Broken
shape_of_enrich policies policy on items columns = shape_of_policy (policy_named policies policy.name) policy on items columns
