-- Numbers for the nodes of a tree in written order: the outer before the inner, from the left.
use Rattle.std.specs.Prelude.{ℕ, ◌+◌, List, [], ◌∷◌, map, Option, Some, None}
use Rattle.esql_types.specs.declared.names.NodeId.{NodeId}
use Rattle.esql_ast.specs.declared.expr.Expr.{Expr, roll-Expr}
use Rattle.esql_ast.specs.declared.expr.Form.{Form}
use Rattle.esql_ast.specs.declared.expr.Form.TheVariants as form
use Rattle.esql_ast.specs.declared.expr.Form.TheOpen.{Expr-F, Form-F, Constant, List as Listed, Column, Group, Call, Minus, Not, Binary, Within, Like, IsNull, Cast}
use Rattle.esql_ast.specs.declared.expr.Form.TheViews.{out-Form}
use Rattle.esql_ast.specs.declared.expr.Form.TheFolds.{fold-Expr, fold-Form}
use Rattle.esql_ast.specs.declared.query.Condition.{Condition}
use Rattle.esql_ast.specs.declared.query.Field.{Field}
use Rattle.esql_ast.specs.declared.query.StatsField.{StatsField}
use Rattle.esql_ast.specs.declared.query.SortKey.{SortKey}
use Rattle.esql_ast.specs.declared.query.Query.{Query}
use Rattle.esql_ast.specs.declared.query.Command.{Command}
use Rattle.esql_ast.specs.declared.query.CommandKind.{CommandKind}
use Rattle.esql_ast.specs.declared.query.CommandKind.TheVariants.{Filter, Eval, Keep, Drop, Rename, Sort, Limit, Expand, Stats, Dissect, Grok, Enrich, Join}
use Rattle.esql_ast.specs.declared.query.SourceCommand.{SourceCommand}
use Rattle.esql_ast.specs.declared.query.SourceCommand.TheVariants.{Tables, OneRow}

-- how many nodes a part of a tree has, and the part numbered from a number on
pub record Numbering (Part : Type 0) : Type 0 where
  pub size : ℕ
  pub at : ℕ → Part

abbrev pub node_id : ℕ → NodeId
node_id node = record { 0 = node }

-- the nodes of parts in a row
abbrev pub size_all : {Part : Type 0} → List (Numbering Part) → ℕ
size_all [] = 0
size_all (part ∷ parts) = part.size + size_all parts

-- parts in a row, each numbered on from those before it
abbrev pub numbered_all : {Part : Type 0} → List (Numbering Part) → ℕ → List Part
numbered_all [] node = []
numbered_all (part ∷ parts) node = part.at node ∷ numbered_all parts (node + part.size)

-- a form, by the numbering of its parts
abbrev pub numbering_in : Form-F (Numbering Form) (Numbering Expr) → Numbering Form
numbering_in (Constant cell kind) = record { size = 0; at = λ node. form.Constant cell kind }
numbering_in (Listed values) = record { size = 0; at = λ node. form.List values }
numbering_in (Column name) = record { size = 0; at = λ node. form.Column name }
numbering_in (Group inner) = record { size = inner.size; at = λ node. form.Group (inner.at node) }
numbering_in (Call function args star) = record { size = size_all args; at = λ node. form.Call function (numbered_all args node) star }
numbering_in (Minus arg) = record { size = arg.size; at = λ node. form.Minus (arg.at node) }
numbering_in (Not arg) = record { size = arg.size; at = λ node. form.Not (arg.at node) }
numbering_in (Binary op left right) = record { size = left.size + right.size; at = λ node. form.Binary op (left.at node) (right.at (node + left.size)) }
numbering_in (Within negated left items) =
    record { size = left.size + size_all items; at = λ node. form.Within negated (left.at node) (numbered_all items (node + left.size)) }
numbering_in (Like negated regex left pattern) = record { size = left.size; at = λ node. form.Like negated regex (left.at node) pattern }
numbering_in (IsNull negated arg) = record { size = arg.size; at = λ node. form.IsNull negated (arg.at node) }
numbering_in (Cast arg kind) = record { size = arg.size; at = λ node. form.Cast (arg.at node) kind }

-- an expression's own node has the first number, and its form the next
abbrev pub own_before_inner : Expr-F (Numbering Form) (Numbering Expr) → Numbering Expr
own_before_inner expr = record { size = 1 + expr.form.size; at = λ node. roll-Expr (record { node = node_id node; span = expr.span; form = expr.form.at (node + 1) }) }

abbrev pub numbering_of : Expr → Numbering Expr
numbering_of = fold-Expr (Numbering Form) (Numbering Expr) numbering_in own_before_inner

abbrev pub numbering_of_form : Form → Numbering Form
numbering_of_form = fold-Form (Numbering Form) (Numbering Expr) numbering_in own_before_inner

abbrev pub size_of : Expr → ℕ
size_of expr = (numbering_of expr).size

abbrev pub numbered : Expr → ℕ → Expr
numbered expr = (numbering_of expr).at

abbrev pub size_of_form : Form → ℕ
size_of_form form = (numbering_of_form form).size

abbrev pub numbered_form : Form → ℕ → Form
numbered_form form = (numbering_of_form form).at

-- a form without expressions, or a test of one
abbrev pub is_leaf_or_test : {F E : Type 0} → Form-F F E → Type 0
is_leaf_or_test (Group inner) = ⊥
is_leaf_or_test (Call function args star) = ⊥
is_leaf_or_test (Minus arg) = ⊥
is_leaf_or_test (Not arg) = ⊥
is_leaf_or_test (Binary op left right) = ⊥
is_leaf_or_test (Cast arg kind) = ⊥
is_leaf_or_test _ = Unit {0}

abbrev pub IsLeafOrTest : Form → Type 0
IsLeafOrTest form = is_leaf_or_test (out-Form form)

abbrev pub numbering_of_field : Field → Numbering Field
numbering_of_field field = record { size = size_of field.expr; at = λ node. record { name = field.name; expr = numbered field.expr node; span = field.span } }

-- a condition's own node is before those of its expression
abbrev pub numbering_of_condition : Option Condition → Numbering (Option Condition)
numbering_of_condition None = record { size = 0; at = λ node. None }
numbering_of_condition (Some condition) =
    record { size = 1 + size_of condition.expr; at = λ node. Some (record { node = node_id node; expr = numbered condition.expr (node + 1) }) }

-- the field is before its condition
abbrev pub numbering_of_stats : StatsField → Numbering StatsField
numbering_of_stats stats = record {
  size = (numbering_of_field stats.field).size + (numbering_of_condition stats.condition).size;
  at = λ node. record {
    field = (numbering_of_field stats.field).at node;
    condition = (numbering_of_condition stats.condition).at (node + (numbering_of_field stats.field).size);
  };
}

abbrev pub numbering_of_key : SortKey → Numbering SortKey
numbering_of_key key =
    record { size = size_of key.expr; at = λ node. record { expr = numbered key.expr node; descending = key.descending; nulls_first = key.nulls_first } }

abbrev pub size_of_fields : List Field → ℕ
size_of_fields fields = size_all (map numbering_of_field fields)

abbrev pub numbered_fields : List Field → ℕ → List Field
numbered_fields fields = numbered_all (map numbering_of_field fields)

abbrev pub size_of_stats : List StatsField → ℕ
size_of_stats fields = size_all (map numbering_of_stats fields)

abbrev pub numbered_stats : List StatsField → ℕ → List StatsField
numbered_stats fields = numbered_all (map numbering_of_stats fields)

abbrev pub size_of_keys : List SortKey → ℕ
size_of_keys keys = size_all (map numbering_of_key keys)

abbrev pub numbered_keys : List SortKey → ℕ → List SortKey
numbered_keys keys = numbered_all (map numbering_of_key keys)

abbrev pub size_of_kind : CommandKind → ℕ
size_of_kind (Filter condition) = size_of condition
size_of_kind (Eval fields) = size_of_fields fields
size_of_kind (Keep patterns) = 0
size_of_kind (Drop patterns) = 0
size_of_kind (Rename pairs) = 0
size_of_kind (Sort keys) = size_of_keys keys
size_of_kind (Limit count) = 0
size_of_kind (Expand column) = 0
size_of_kind (Stats fields groups) = size_of_stats fields + size_of_fields groups
size_of_kind (Dissect input pattern separator) = size_of input
size_of_kind (Grok input pattern) = size_of input
size_of_kind (Enrich policy on fields) = 0
size_of_kind (Join table on) = 0

abbrev pub numbered_kind : CommandKind → ℕ → CommandKind
numbered_kind (Filter condition) node = Filter (numbered condition node)
numbered_kind (Eval fields) node = Eval (numbered_fields fields node)
numbered_kind (Keep patterns) node = Keep patterns
numbered_kind (Drop patterns) node = Drop patterns
numbered_kind (Rename pairs) node = Rename pairs
numbered_kind (Sort keys) node = Sort (numbered_keys keys node)
numbered_kind (Limit count) node = Limit count
numbered_kind (Expand column) node = Expand column
numbered_kind (Stats fields groups) node = Stats (numbered_stats fields node) (numbered_fields groups (node + size_of_stats fields))
numbered_kind (Dissect input pattern separator) node = Dissect (numbered input node) pattern separator
numbered_kind (Grok input pattern) node = Grok (numbered input node) pattern
numbered_kind (Enrich policy on fields) node = Enrich policy on fields
numbered_kind (Join table on) node = Join table on

-- a command is before its expressions
abbrev pub numbering_of_command : Command → Numbering Command
numbering_of_command command = record {
  size = 1 + size_of_kind command.kind;
  at = λ node. record { node = node_id node; span = command.span; kind = numbered_kind command.kind (node + 1) };
}

abbrev pub size_of_commands : List Command → ℕ
size_of_commands commands = size_all (map numbering_of_command commands)

abbrev pub numbered_commands : List Command → ℕ → List Command
numbered_commands commands = numbered_all (map numbering_of_command commands)

abbrev pub size_of_source : SourceCommand → ℕ
size_of_source (Tables node span tables) = 1
size_of_source (OneRow node span fields) = 1 + size_of_fields fields

-- the command that the query begins with has the number 0
abbrev pub numbered_source : SourceCommand → SourceCommand
numbered_source (Tables node span tables) = Tables (node_id 0) span tables
numbered_source (OneRow node span fields) = OneRow (node_id 0) span (numbered_fields fields 1)

abbrev pub size_of_query : SourceCommand → List Command → ℕ
size_of_query source commands = size_of_source source + size_of_commands commands

abbrev pub numbered_query : SourceCommand → List Command → Query
numbered_query source commands = record {
  source = numbered_source source;
  commands = numbered_commands commands (size_of_source source);
  nodes = size_of_query source commands;
}
