-- A query whose spans are parts of its text.
use Rattle.std.specs.Prelude.{ℕ, List, All, IfSome}
use Rattle.esql_types.specs.Spans.{SpanFits}
use Rattle.esql_ast.specs.declared.nodes.NodeAt.{NodeAt}
use Rattle.esql_ast.specs.declared.expr.Expr.{Expr}
use Rattle.esql_ast.specs.declared.expr.Form.{Form}
use Rattle.esql_ast.specs.declared.query.Condition.{Condition}
use Rattle.esql_ast.specs.declared.query.EnrichItem.{EnrichItem}
use Rattle.esql_ast.specs.declared.query.Field.{Field}
use Rattle.esql_ast.specs.declared.query.NameAt.{NameAt}
use Rattle.esql_ast.specs.declared.query.NamePattern.{NamePattern}
use Rattle.esql_ast.specs.declared.query.RenamePair.{RenamePair}
use Rattle.esql_ast.specs.declared.query.SortKey.{SortKey}
use Rattle.esql_ast.specs.declared.query.StatsField.{StatsField}
use Rattle.esql_ast.specs.declared.query.TextAt.{TextAt}
use Rattle.esql_ast.specs.declared.query.Query.{Query}
use Rattle.esql_ast.specs.declared.query.Command.{Command}
use Rattle.esql_ast.specs.declared.query.CommandKind.{CommandKind}
use Rattle.esql_ast.specs.declared.query.CommandKind.TheVariants.{Filter, Eval, Keep, Drop, Rename, Sort, Limit, Expand, Stats, Dissect, Grok, Enrich, Join}
use Rattle.esql_ast.specs.declared.query.SourceCommand.{SourceCommand}
use Rattle.esql_ast.specs.declared.query.SourceCommand.TheVariants.{Tables, OneRow}
use Rattle.esql_ast.specs.Nodes.{nodes_of}
use Rattle.esql_ast.specs.Spans.{spans_of_expr, spans_of_form}

-- the spans of an expression, and of the names, the patterns and the expressions in it, are parts of the text
abbrev pub ExprFits : List ℕ → Expr → Type 0
ExprFits text expr = All (SpanFits text) (spans_of_expr expr)

-- the spans of the names, the patterns and the expressions within a form are parts of the text
abbrev pub FormFits : List ℕ → Form → Type 0
FormFits text form = All (SpanFits text) (spans_of_form form)

abbrev pub NameFits : List ℕ → NameAt → Type 0
NameFits text name = SpanFits text name.span

abbrev pub TextFits : List ℕ → TextAt → Type 0
TextFits text content = SpanFits text content.span

abbrev pub PatternFits : List ℕ → NamePattern → Type 0
PatternFits text pattern = SpanFits text pattern.span

-- the span of a field, that of its name where it has one, and those of its expression are parts of the text
pub record FieldFits (text : List ℕ) (field : Field) : Type 0 where
  pub span : SpanFits text field.span
  pub name : IfSome field.name (NameFits text)
  pub expr : ExprFits text field.expr

abbrev pub FieldsFit : List ℕ → List Field → Type 0
FieldsFit text fields = All (FieldFits text) fields

-- a condition fits, and what stands from the start of its field to its own end is a part of the text
pub record ConditionFits (text : List ℕ) (field : Field) (condition : Condition) : Type 0 where
  pub expr : ExprFits text condition.expr
  pub whole : SpanFits text (record { from = field.span.from; to = condition.expr.span.to })

-- a field of STATS fits, and so does its condition where it has one
pub record StatsFits (text : List ℕ) (stats : StatsField) : Type 0 where
  pub field : FieldFits text stats.field
  pub condition : IfSome stats.condition (ConditionFits text stats.field)

abbrev pub KeyFits : List ℕ → SortKey → Type 0
KeyFits text key = ExprFits text key.expr

-- the names before and after RENAME
pub record PairFits (text : List ℕ) (pair : RenamePair) : Type 0 where
  pub before : NameFits text pair.before
  pub after : NameFits text pair.after

-- the name of an item of ENRICH, where it has one, and that of its field
pub record ItemFits (text : List ℕ) (item : EnrichItem) : Type 0 where
  pub name : IfSome item.name (NameFits text)
  pub field : NameFits text item.field

-- the spans of what a command says are parts of the text: a number has none
abbrev pub KindFits : List ℕ → CommandKind → Type 0
KindFits text (Filter condition) = ExprFits text condition
KindFits text (Eval fields) = FieldsFit text fields
KindFits text (Keep patterns) = All (PatternFits text) patterns
KindFits text (Drop patterns) = All (PatternFits text) patterns
KindFits text (Rename pairs) = All (PairFits text) pairs
KindFits text (Sort keys) = All (KeyFits text) keys
KindFits text (Limit count) = Unit {0}
KindFits text (Expand column) = NameFits text column
KindFits text (Stats fields groups) = All (StatsFits text) fields × FieldsFit text groups
KindFits text (Dissect input pattern separator) = ExprFits text input × TextFits text pattern
KindFits text (Grok input pattern) = ExprFits text input × TextFits text pattern
KindFits text (Enrich policy on fields) = NameFits text policy × IfSome on (NameFits text) × IfSome fields (All (ItemFits text))
KindFits text (Join table on) = NameFits text table × NameFits text on

abbrev pub SourceFits : List ℕ → SourceCommand → Type 0
SourceFits text (OneRow node span fields) = FieldsFit text fields
SourceFits text (Tables node span tables) = All (NameFits text) tables

-- every span of the query is a part of the text: those of its nodes, and those of what the source and the commands say
pub record QueryFits (text : List ℕ) (query : Query) : Type 0 where
  pub nodes : All (λ (place : NodeAt). SpanFits text place.span) (nodes_of query)
  pub source : SourceFits text query.source
  pub commands : All (λ (command : Command). KindFits text command.kind) query.commands
