-- A query's numbering numbers its nodes in turn.
use Rattle.std.proofs.Common.{◌≡◌, ℕ, ◌+◌, List, [], ◌∷◌, map, length, All, Option, Some, None, refl, ap, ◌∙◌, arith}
use Rattle.std.specs.List.{flat_map}
use Rattle.std.proofs.lemmas.List.Elements.{All-nil, All-cons}
use Rattle.std.proofs.lemmas.List.{length-append}
use Rattle.esql_types.specs.declared.places.Span.{Span}
use Rattle.esql_ast.specs.declared.nodes.NodeAt.{NodeAt}
use Rattle.esql_ast.specs.declared.expr.Expr.{Expr}
use Rattle.esql_ast.specs.declared.query.Condition.{Condition}
use Rattle.esql_ast.specs.declared.query.Field.{Field}
use Rattle.esql_ast.specs.declared.query.StatsField.{StatsField}
use Rattle.esql_ast.specs.declared.query.SortKey.{SortKey}
use Rattle.esql_ast.specs.declared.query.Command.{Command}
use Rattle.esql_ast.specs.declared.query.CommandKind.{CommandKind}
use Rattle.esql_ast.specs.declared.query.CommandKind.TheVariants.{Filter, Eval, Keep, Drop, Rename, Sort, Limit, Expand, Stats, Dissect, Grok, Enrich, Join}
use Rattle.esql_ast.specs.declared.query.SourceCommand.{SourceCommand}
use Rattle.esql_ast.specs.declared.query.SourceCommand.TheVariants.{Tables, OneRow}
use Rattle.esql_ast.specs.Nodes.{nodes_of, nodes_of_expr, nodes_of_field, nodes_of_condition, nodes_of_stats, nodes_of_key, nodes_of_kind, nodes_of_command, nodes_of_source}
use Rattle.esql_ast.specs.Numbering.{Numbering, node_id, size_all, numbered_all, size_of, numbered, numbering_of_field, numbering_of_condition, numbering_of_stats, numbering_of_key, numbering_of_command, size_of_stats, size_of_kind, numbered_kind, size_of_source, numbered_source, size_of_query, numbered_query}
use Rattle.esql_ast.specs.Laws.{as_it_was}
use Rattle.esql_ast.proofs.Numberings.{expr_numbered}
use Rattle.esql_ast.proofs.Renumbered.{IsInTurn, renumbered, joined_in_turn, all_size, all_at}
use Rattle.esql_ast.proofs.InTurn.{in_turn}

all_of : {Part : Type 0} (P : Part → Type 0) → ((part : Part) → P part) → (parts : List Part) → All P parts
all_of P each [] = All-nil P
all_of P each (part ∷ parts) = All-cons P part parts (each part) (all_of P each parts)

-- a row of parts, each of which is numbered in turn
row_size : {Part : Type 0} (nodes : Part → List NodeAt) (numbering : Part → Numbering Part) → ((part : Part) → IsInTurn nodes part (numbering part))
    → (parts : List Part) → size_all (map numbering parts) ≡ length (flat_map nodes parts)
row_size {Part} nodes numbering each parts = all_size nodes numbering parts (all_of (λ (part : Part). IsInTurn nodes part (numbering part)) each parts)

row_at : {Part : Type 0} (nodes : Part → List NodeAt) (numbering : Part → Numbering Part) → ((part : Part) → IsInTurn nodes part (numbering part))
    → (parts : List Part) (node : ℕ) → flat_map nodes (numbered_all (map numbering parts) node) ≡ renumbered node (flat_map nodes parts)
row_at {Part} nodes numbering each parts = all_at nodes numbering parts (all_of (λ (part : Part). IsInTurn nodes part (numbering part)) each parts)

field_in_turn : (field : Field) → IsInTurn nodes_of_field field (numbering_of_field field)
field_in_turn field = record { size = (in_turn field.expr).size; at = (in_turn field.expr).at }

key_in_turn : (key : SortKey) → IsInTurn nodes_of_key key (numbering_of_key key)
key_in_turn key = record { size = (in_turn key.expr).size; at = (in_turn key.expr).at }

-- an expression keeps its span
pub span_kept : (expr : Expr) (node : ℕ) → (numbered expr node).span ≡ expr.span
span_kept expr node = ap (λ (this : Expr). this.span) (expr_numbered expr node)

condition_in_turn : (condition : Option Condition) → IsInTurn nodes_of_condition condition (numbering_of_condition condition)
condition_in_turn None = record { size = refl; at = λ node. refl }
condition_in_turn (Some condition) = record {
  size = omega (arith, (in_turn condition.expr).size);
  at = λ node.
      ap (λ (span : Span). record { node = node_id node; span = span } ∷ nodes_of_expr (numbered condition.expr (node + 1))) (span_kept condition.expr (node + 1))
      ∙ ap (λ (these : List NodeAt). record { node = node_id node; span = condition.expr.span } ∷ these) ((in_turn condition.expr).at (node + 1));
}

stats_in_turn : (stats : StatsField) → IsInTurn nodes_of_stats stats (numbering_of_stats stats)
stats_in_turn stats =
    let field = field_in_turn stats.field in
    let condition = condition_in_turn stats.condition in
    record {
      size = omega (arith, field.size, condition.size, length-append (nodes_of_field stats.field) (nodes_of_condition stats.condition));
      at = λ node.
          joined_in_turn node (node + size_of stats.field.expr) (nodes_of_field stats.field) (nodes_of_condition stats.condition) _ _
          (ap (λ (n : ℕ). node + n) field.size) (field.at node) (condition.at (node + size_of stats.field.expr));
    }

kind_size : (kind : CommandKind) → size_of_kind kind ≡ length (nodes_of_kind kind)
kind_size (Filter condition) = (in_turn condition).size
kind_size (Eval fields) = row_size nodes_of_field numbering_of_field field_in_turn fields
kind_size (Keep patterns) = refl
kind_size (Drop patterns) = refl
kind_size (Rename pairs) = refl
kind_size (Sort keys) = row_size nodes_of_key numbering_of_key key_in_turn keys
kind_size (Limit count) = refl
kind_size (Expand column) = refl
kind_size (Stats fields groups) =
    omega (
      arith,
      row_size nodes_of_stats numbering_of_stats stats_in_turn fields,
      row_size nodes_of_field numbering_of_field field_in_turn groups,
      length-append (flat_map nodes_of_stats fields) (flat_map nodes_of_field groups),
    )
kind_size (Dissect input pattern separator) = (in_turn input).size
kind_size (Grok input pattern) = (in_turn input).size
kind_size (Enrich policy on fields) = refl
kind_size (Join table on) = refl

kind_at : (kind : CommandKind) (node : ℕ) → nodes_of_kind (numbered_kind kind node) ≡ renumbered node (nodes_of_kind kind)
kind_at (Filter condition) node = (in_turn condition).at node
kind_at (Eval fields) node = row_at nodes_of_field numbering_of_field field_in_turn fields node
kind_at (Keep patterns) node = refl
kind_at (Drop patterns) node = refl
kind_at (Rename pairs) node = refl
kind_at (Sort keys) node = row_at nodes_of_key numbering_of_key key_in_turn keys node
kind_at (Limit count) node = refl
kind_at (Expand column) node = refl
kind_at (Stats fields groups) node =
    joined_in_turn node (node + size_of_stats fields) (flat_map nodes_of_stats fields) (flat_map nodes_of_field groups) _ _
    (ap (λ (n : ℕ). node + n) (row_size nodes_of_stats numbering_of_stats stats_in_turn fields))
    (row_at nodes_of_stats numbering_of_stats stats_in_turn fields node)
    (row_at nodes_of_field numbering_of_field field_in_turn groups (node + size_of_stats fields))
kind_at (Dissect input pattern separator) node = (in_turn input).at node
kind_at (Grok input pattern) node = (in_turn input).at node
kind_at (Enrich policy on fields) node = refl
kind_at (Join table on) node = refl

command_in_turn : (command : Command) → IsInTurn nodes_of_command command (numbering_of_command command)
command_in_turn command = record {
  size = omega (arith, kind_size command.kind);
  at = λ node. ap (λ (these : List NodeAt). record { node = node_id node; span = command.span } ∷ these) (kind_at command.kind (node + 1));
}

source_size : (source : SourceCommand) → size_of_source source ≡ length (nodes_of_source source)
source_size (Tables node span tables) = omega arith
source_size (OneRow node span fields) = omega (arith, row_size nodes_of_field numbering_of_field field_in_turn fields)

source_at : (source : SourceCommand) → nodes_of_source (numbered_source source) ≡ renumbered 0 (nodes_of_source source)
source_at (Tables node span tables) = refl
source_at (OneRow node span fields) =
    ap (λ (these : List NodeAt). record { node = node_id 0; span = span } ∷ these) (row_at nodes_of_field numbering_of_field field_in_turn fields 1)

pub query_size : (source : SourceCommand) (commands : List Command) → size_of_query source commands ≡ length (nodes_of (as_it_was source commands))
query_size source commands =
    omega (
      arith,
      source_size source,
      row_size nodes_of_command numbering_of_command command_in_turn commands,
      length-append (nodes_of_source source) (flat_map nodes_of_command commands),
    )

pub query_at : (source : SourceCommand) (commands : List Command) → nodes_of (numbered_query source commands) ≡ renumbered 0 (nodes_of (as_it_was source commands))
query_at source commands =
    joined_in_turn 0 (size_of_source source) (nodes_of_source source) (flat_map nodes_of_command commands) _ _
    (omega (arith, source_size source)) (source_at source) (row_at nodes_of_command numbering_of_command command_in_turn commands (size_of_source source))
