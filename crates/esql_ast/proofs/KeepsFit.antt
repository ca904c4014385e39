-- A query that fits its text fits it numbered.
use Rattle.std.proofs.Common.{ℕ, ◌+◌, List, [], ◌∷◌, map, All, Option, Some, None, IfSome, sym, subst}
use Rattle.std.proofs.lemmas.List.Elements.{All-nil, All-cons, All-head, All-tail, All-same}
use Rattle.esql_types.specs.declared.places.Span.{Span}
use Rattle.esql_types.specs.Spans.{SpanFits}
use Rattle.esql_ast.specs.declared.nodes.NodeAt.{NodeAt}
use Rattle.esql_ast.specs.declared.expr.Expr.{Expr}
use Rattle.esql_ast.specs.declared.query.Condition.{Condition}
use Rattle.esql_ast.specs.declared.query.Field.{Field}
use Rattle.esql_ast.specs.declared.query.SortKey.{SortKey}
use Rattle.esql_ast.specs.declared.query.StatsField.{StatsField}
use Rattle.esql_ast.specs.declared.query.Command.{Command}
use Rattle.esql_ast.specs.declared.query.CommandKind.{CommandKind}
use Rattle.esql_ast.specs.declared.query.CommandKind.TheVariants.{Filter, Eval, Keep, Drop, Rename, Sort, Limit, Expand, Stats, Dissect, Grok, Enrich, Join}
use Rattle.esql_ast.specs.declared.query.SourceCommand.{SourceCommand}
use Rattle.esql_ast.specs.declared.query.SourceCommand.TheVariants.{Tables, OneRow}
use Rattle.esql_ast.specs.Fits.{ExprFits, FieldFits, FieldsFit, ConditionFits, StatsFits, KeyFits, KindFits, SourceFits, QueryFits}
use Rattle.esql_ast.specs.Laws.{as_it_was}
use Rattle.esql_ast.specs.Numbering.{Numbering, numbered_all, numbered, numbering_of_field, numbering_of_condition, numbering_of_stats, numbering_of_key, numbering_of_command, size_of_stats, numbered_kind, numbered_source, size_of_source, numbered_query}
use Rattle.esql_ast.proofs.Renumbered.{renumbered_all}
use Rattle.esql_ast.proofs.KeepsSpans.{expr_keeps}
use Rattle.esql_ast.proofs.QueryInTurn.{span_kept, query_at}

-- what each part keeps as it is numbered, a row of them does
kept : {Part : Type 0} (P : Part → Type 0) (numbering : Part → Numbering Part) → ((part : Part) (node : ℕ) → P part → P ((numbering part).at node))
    → (parts : List Part) (node : ℕ) → All P parts → All P (numbered_all (map numbering parts) node)
kept P numbering each [] node all = All-nil P
kept P numbering each (part ∷ parts) node all =
    All-cons P ((numbering part).at node) (numbered_all (map numbering parts) (node + (numbering part).size)) (each part node (All-head P part parts all))
    (kept P numbering each parts (node + (numbering part).size) (All-tail P part parts all))

expr_fits : (text : List ℕ) (expr : Expr) (node : ℕ) → ExprFits text expr → ExprFits text (numbered expr node)
expr_fits text expr node fits = All-same (SpanFits text) _ _ (expr_keeps expr node) fits

field_fits : (text : List ℕ) (field : Field) (node : ℕ) → FieldFits text field → FieldFits text ((numbering_of_field field).at node)
field_fits text field node fits = record { span = fits.span; name = fits.name; expr = expr_fits text field.expr node fits.expr }

condition_fits : (text : List ℕ) (field : Field) (condition : Option Condition) (node : ℕ)
    → IfSome condition (ConditionFits text field) → IfSome ((numbering_of_condition condition).at node) (ConditionFits text field)
condition_fits text field None node fits = tt
condition_fits text field (Some condition) node fits = record {
  expr = expr_fits text condition.expr (node + 1) fits.expr;
  whole = subst (λ (span : Span). SpanFits text (record { from = field.span.from; to = span.to })) (sym (span_kept condition.expr (node + 1))) fits.whole;
}

-- a field that is numbered stands where it stood
same_field_fits : (text : List ℕ) (field : Field) (node : ℕ) (condition : Option Condition)
    → IfSome condition (ConditionFits text field) → IfSome condition (ConditionFits text ((numbering_of_field field).at node))
same_field_fits text field node None fits = tt
same_field_fits text field node (Some condition) fits = record { expr = fits.expr; whole = fits.whole }

stats_fit : (text : List ℕ) (stats : StatsField) (node : ℕ) → StatsFits text stats → StatsFits text ((numbering_of_stats stats).at node)
stats_fit text stats node fits =
    let after = node + (numbering_of_field stats.field).size in
    record {
      field = field_fits text stats.field node fits.field;
      condition = same_field_fits text stats.field node ((numbering_of_condition stats.condition).at after) (condition_fits text stats.field stats.condition after fits.condition);
    }

key_fits : (text : List ℕ) (key : SortKey) (node : ℕ) → KeyFits text key → KeyFits text ((numbering_of_key key).at node)
key_fits text key node fits = expr_fits text key.expr node fits

fields_fit : (text : List ℕ) (fields : List Field) (node : ℕ) → FieldsFit text fields → FieldsFit text (numbered_all (map numbering_of_field fields) node)
fields_fit text = kept (FieldFits text) numbering_of_field (field_fits text)

kind_fits : (text : List ℕ) (kind : CommandKind) (node : ℕ) → KindFits text kind → KindFits text (numbered_kind kind node)
kind_fits text (Filter condition) node fits = expr_fits text condition node fits
kind_fits text (Eval fields) node fits = fields_fit text fields node fits
kind_fits text (Keep patterns) node fits = fits
kind_fits text (Drop patterns) node fits = fits
kind_fits text (Rename pairs) node fits = fits
kind_fits text (Sort keys) node fits = kept (KeyFits text) numbering_of_key (key_fits text) keys node fits
kind_fits text (Limit count) node fits = fits
kind_fits text (Expand column) node fits = fits
kind_fits text (Stats fields groups) node fits = (
  kept (StatsFits text) numbering_of_stats (stats_fit text) fields node fits.0,
  fields_fit text groups (node + size_of_stats fields) fits.1,
)
kind_fits text (Dissect input pattern separator) node fits = (expr_fits text input node fits.0, fits.1)
kind_fits text (Grok input pattern) node fits = (expr_fits text input node fits.0, fits.1)
kind_fits text (Enrich policy on fields) node fits = fits
kind_fits text (Join table on) node fits = fits

source_fits : (text : List ℕ) (source : SourceCommand) → SourceFits text source → SourceFits text (numbered_source source)
source_fits text (Tables node span tables) fits = fits
source_fits text (OneRow node span fields) fits = fields_fit text fields 1 fits

pub query_fits : (text : List ℕ) (source : SourceCommand) (commands : List Command) → QueryFits text (as_it_was source commands) → QueryFits text (numbered_query source commands)
query_fits text source commands fits = record {
  nodes = All-same (λ (place : NodeAt). SpanFits text place.span) _ _ (query_at source commands) (renumbered_all (SpanFits text) 0 _ fits.nodes);
  source = source_fits text source fits.source;
  commands =
      kept (λ (command : Command). KindFits text command.kind) numbering_of_command (λ command node one. kind_fits text command.kind (node + 1) one) commands
      (size_of_source source) fits.commands;
}
