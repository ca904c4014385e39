-- Where one more pattern is not accepted, the shapes of commands are as they were, or refuse at that pattern.
use Rattle.std.proofs.Common.{◌≡◌, inl, ℕ, Bool, true, false, List, [], ◌∷◌, Option, Some, None, Result, Ok, Err, refl, ap}
use Rattle.std.specs.Prelude.{if◌then◌else◌}
use Rattle.esql_types.specs.declared.places.Span.{Span}
use Rattle.esql_types.specs.declared.value.Kind.{Kind}
use Rattle.esql_types.specs.declared.value.Kind.TheVariants as kind
use Rattle.esql_types.specs.declared.names.Column.{Column}
use Rattle.esql_ast.specs.declared.expr.Expr.{Expr}
use Rattle.esql_ast.specs.declared.query.SortKey.{SortKey}
use Rattle.esql_ast.specs.declared.query.Command.{Command}
use Rattle.esql_ast.specs.declared.query.CommandKind.{CommandKind}
use Rattle.esql_ast.specs.declared.query.CommandKind.TheVariants.{Filter, Eval, Keep, Drop, Rename, Sort, Limit, Expand, Stats, Dissect, Grok, Enrich, Join}
use Rattle.esql_ast.specs.declared.query.SourceCommand.{SourceCommand}
use Rattle.esql_ast.specs.declared.query.TextAt.{TextAt}
use Rattle.esql_ast.specs.declared.query.SourceCommand.TheVariants.{Tables, OneRow}
use Rattle.esql_plan.specs.declared.catalog.Catalog.{Catalog}
use Rattle.esql_plan.specs.Signatures.{is_kind}
use Rattle.dissect_grok.specs.Patterns.{reading_of}
use Rattle.dissect_grok.specs.Groks.{GrokRead, grok_of}
use Rattle.plan_semantics.specs.Taken.{columns_of_grok}
use Rattle.row_semantics.specs.declared.rule.NameRule.TheVariants as rule
use Rattle.row_semantics.specs.Regulars.{Regular}
use Rattle.row_semantics.specs.Scopes.{Broken, elsewhere}
use Rattle.row_semantics.specs.Kinds.{breaks, and_then, kind_or_rule}
use Rattle.query_semantics.specs.Appended.{put_columns}
use Rattle.query_semantics.specs.AppendedShapes.{if_keyword, shape_of_reading, shape_of_dissect, regular_of_grok, shape_of_grok_read, shape_of_grok}
use Rattle.query_semantics.specs.Shapes.{Shape, Context, scope_over, shape_of_keys, shape_of_condition, shape_of_kind, unless_empty, shape_of_command, shape_of_source}
use Rattle.plan_writing.specs.Contexts.{over, over_catalog}
use Rattle.plan_writing.proofs.Stays.{Stays, then_stays, expr_stays, regular_stays}
use Rattle.plan_writing.proofs.FieldTurns.{fields_stay}
use Rattle.stats_writing.proofs.StatsStays.{stats_stay}

-- commands ------------------------------------------------------------------------------------------------------------------

condition_stays : (text : List ℕ) (condition : Expr) (columns : List Column) → Stays (λ accepts. shape_of_condition (over text accepts) condition columns)
condition_stays text condition columns =
    let next : (Regular → Bool) → Kind → Shape = λ accepts found. if is_kind kind.Boolean found then Ok columns else breaks rule.NotBoolean condition.span in
    then_stays (λ accepts. kind_or_rule condition (scope_over (over text accepts) columns)) next (expr_stays condition columns elsewhere) (λ found span. inl refl)

-- a key has some kind, and leaves the columns
abbrev pub shape_of_key : Context → SortKey → List Column → Shape
shape_of_key context key columns = and_then (kind_or_rule key.expr (scope_over context columns)) (λ kind. Ok columns)

-- the keys behind one that has a kind
pub keys_more : (context : Context) (key : SortKey) (keys : List SortKey) (columns : List Column)
    → shape_of_keys context (key ∷ keys) columns ≡ and_then (shape_of_key context key columns) (shape_of_keys context keys)
keys_more context key keys columns = by_kind (kind_or_rule key.expr (scope_over context columns))
  where
    by_kind : (found : Result Kind Broken) → and_then found (λ kind. shape_of_keys context keys columns) ≡ and_then (and_then found (λ kind. Ok columns)) (shape_of_keys context keys)
    by_kind (Ok kind) = refl
    by_kind (Err broken) = refl

pub key_stays : (text : List ℕ) (key : SortKey) (columns : List Column) → Stays (λ accepts. shape_of_key (over text accepts) key columns)
key_stays text key columns =
    let next : (Regular → Bool) → Kind → Shape = λ accepts kind. Ok columns in
    then_stays (λ accepts. kind_or_rule key.expr (scope_over (over text accepts) columns)) next (expr_stays key.expr columns elsewhere) (λ kind span. inl refl)

keys_stay : (text : List ℕ) (keys : List SortKey) (columns : List Column) → Stays (λ accepts. shape_of_keys (over text accepts) keys columns)
keys_stay text [] columns span = inl refl
keys_stay text (key ∷ keys) columns span =
    let next : (Regular → Bool) → Kind → Shape = λ accepts kind. shape_of_keys (over text accepts) keys columns in
    then_stays (λ accepts. kind_or_rule key.expr (scope_over (over text accepts) columns)) next (expr_stays key.expr columns elsewhere) (λ kind. keys_stay text keys columns) span

-- keys do not look at the text
pub keys_alike : (text other : List ℕ) (accepts : Regular → Bool) (keys : List SortKey) (columns : List Column) → shape_of_keys (over text accepts) keys columns ≡ shape_of_keys (over other accepts) keys columns
keys_alike text other accepts [] columns = refl
keys_alike text other accepts (key ∷ keys) columns =
    ap (λ (rest : Shape). and_then (kind_or_rule key.expr (scope_over (over text accepts) columns)) (λ kind. rest)) (keys_alike text other accepts keys columns)

keyword_stays : (input : Expr) (columns : List Column) (next : (Regular → Bool) → Shape) → Stays next → Stays (λ accepts. and_then (kind_or_rule input (record { columns = columns; standing = elsewhere; accepts = accepts })) (if_keyword input (next accepts)))
keyword_stays input columns next stays =
    let after : (Regular → Bool) → Kind → Shape = λ accepts found. if_keyword input (next accepts) found in
    then_stays (λ accepts. kind_or_rule input (record { columns = columns; standing = elsewhere; accepts = accepts })) after (expr_stays input columns elsewhere)
    (λ found. either_stays (is_kind kind.Keyword found) next (breaks rule.BadKind input.span) stays)
  where
    either_stays : (is : Bool) (next : (Regular → Bool) → Shape) (other : Shape) → Stays next → Stays (λ accepts. if is then next accepts else other)
    either_stays true next other stays span = stays span
    either_stays false next other stays span = inl refl

dissect_stays : (input : Expr) (pattern : TextAt) (separator : List ℕ) (columns : List Column) → Stays (λ accepts. shape_of_dissect accepts input pattern separator columns)
dissect_stays input pattern separator columns =
    let next : (Regular → Bool) → Shape = λ accepts. shape_of_reading (reading_of pattern.text separator) pattern.span columns in
    keyword_stays input columns next (λ span. inl refl)

grok_read_stays : (read : Option GrokRead) (at : Span) (columns : List Column) → Stays (λ accepts. shape_of_grok_read accepts read at columns)
grok_read_stays None at columns span = inl refl
grok_read_stays (Some read) at columns span = regular_stays (regular_of_grok at read) (Ok (put_columns columns (columns_of_grok (Some read)))) span

grok_stays : (input : Expr) (pattern : TextAt) (columns : List Column) → Stays (λ accepts. shape_of_grok accepts input pattern columns)
grok_stays input pattern columns =
    let next : (Regular → Bool) → Shape = λ accepts. shape_of_grok_read accepts (grok_of pattern.text) pattern.span columns in
    keyword_stays input columns next (grok_read_stays (grok_of pattern.text) pattern.span columns)

pub kind_stays : (text : List ℕ) (catalog : Catalog) (command : CommandKind) (columns : List Column) → Stays (λ accepts. shape_of_kind (over_catalog text catalog accepts) command columns)
kind_stays text catalog (Filter condition) columns span = condition_stays text condition columns span
kind_stays text catalog (Eval fields) columns span = fields_stay text fields columns span
kind_stays text catalog (Keep patterns) columns span = inl refl
kind_stays text catalog (Drop patterns) columns span = inl refl
kind_stays text catalog (Rename pairs) columns span = inl refl
kind_stays text catalog (Sort keys) columns span = keys_stay text keys columns span
kind_stays text catalog (Limit count) columns span = inl refl
kind_stays text catalog (Expand column) columns span = inl refl
kind_stays text catalog (Stats fields groups) columns span = stats_stay text fields groups columns span
kind_stays text catalog (Dissect input pattern separator) columns span = dissect_stays input pattern separator columns span
kind_stays text catalog (Grok input pattern) columns span = grok_stays input pattern columns span
kind_stays text catalog (Enrich policy on fields) columns span = inl refl
kind_stays text catalog (Join table on) columns span = inl refl

pub command_stays : (text : List ℕ) (catalog : Catalog) (command : Command) (columns : List Column) → Stays (λ accepts. shape_of_command (over_catalog text catalog accepts) command columns)
command_stays text catalog command columns =
    let next : (Regular → Bool) → List Column → Shape = λ accepts. unless_empty command.span in
    then_stays (λ accepts. shape_of_kind (over_catalog text catalog accepts) command.kind columns) next (kind_stays text catalog command.kind columns) (λ more span. inl refl)

-- the shape of a source stays, and the fields of ROW do not look at the catalog
pub source_stays : (text : List ℕ) (catalog : Catalog) (source : SourceCommand) → Stays (λ accepts. shape_of_source (over_catalog text catalog accepts) source)
source_stays text catalog (Tables node own tables) span = inl refl
source_stays text catalog (OneRow node own fields) span = fields_stay text fields [] span
