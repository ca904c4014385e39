-- The aggregate calls in a field of STATS, and the columns outside them.
use Rattle.std.specs.Prelude.{Bool, true, false, List, [], ◌∷◌, ◌++◌, Option, Some, None}
use Rattle.std.specs.List.{flat_map}
use Rattle.esql_types.specs.declared.places.Span.{Span}
use Rattle.esql_types.specs.declared.names.NodeId.{NodeId}
use Rattle.esql_ast.specs.declared.expr.Expr.{Expr}
use Rattle.esql_ast.specs.declared.expr.Form.{Form}
use Rattle.esql_ast.specs.declared.expr.Form.TheOpen.{Expr-F, Form-F, Constant, List as Listed, Column, Group, Call, Minus, Not, Binary, Within, Like, IsNull, Cast}
use Rattle.esql_ast.specs.declared.expr.Form.TheViews.{roll-Form, roll-Expr}
use Rattle.esql_ast.specs.declared.expr.Form.TheFolds.{map-Form, fold-Expr}
use Rattle.esql_plan.specs.declared.function.AggFunction.{AggFunction}
use Rattle.esql_plan.specs.declared.function.AggFunction.TheVariants.{CountRows}
use Rattle.esql_plan.specs.declared.names.FunctionRow.{FunctionRow}
use Rattle.esql_plan.specs.Names.{function_named, aggregate_named}

-- an aggregate call: its node, its function and its argument; that of `*` counts rows, and has none
pub record AggregateCall : Type 0 where
  pub node : NodeId
  pub function : AggFunction
  pub argument : Option Expr

-- an expression, the aggregate calls in it from the left, and the places of the columns that stand outside them
pub record Opened : Type 0 where
  pub own : Expr
  pub calls : List AggregateCall
  pub columns : List Span

-- the same of a form, by the node and the place of its expression
pub record OpenedForm : Type 0 where
  pub own : Form
  pub calls : NodeId → List AggregateCall
  pub columns : Span → List Span

abbrev pub calls_in : List Opened → List AggregateCall
calls_in parts = flat_map (λ part. part.calls) parts

abbrev pub columns_in : List Opened → List Span
columns_in parts = flat_map (λ part. part.columns) parts

-- an aggregate has one argument
abbrev pub argument_in : List Opened → Option Expr
argument_in [] = None
argument_in (part ∷ parts) = Some part.own

abbrev pub aggregate_call : AggFunction → Bool → List Opened → NodeId → AggregateCall
aggregate_call function true parts node = record { node = node; function = CountRows; argument = None }
aggregate_call function false parts node = record { node = node; function = function; argument = argument_in parts }

-- the aggregate calls in a call, by what its name is found as: an aggregate is one itself
abbrev pub calls_in_call : Option FunctionRow → Option AggFunction → Bool → List Opened → NodeId → List AggregateCall
calls_in_call (Some row) found star parts node = calls_in parts
calls_in_call None (Some function) star parts node = aggregate_call function star parts node ∷ []
calls_in_call None None star parts node = calls_in parts

abbrev pub columns_in_call : Option FunctionRow → Option AggFunction → List Opened → List Span
columns_in_call (Some row) found parts = columns_in parts
columns_in_call None (Some function) parts = []
columns_in_call None None parts = columns_in parts

abbrev pub calls_in_form : Form-F OpenedForm Opened → NodeId → List AggregateCall
calls_in_form (Constant cell kind) node = []
calls_in_form (Listed values) node = []
calls_in_form (Column name) node = []
calls_in_form (Group inner) node = inner.calls
calls_in_form (Call function args star) node = calls_in_call (function_named function.name) (aggregate_named function.name) star args node
calls_in_form (Minus arg) node = arg.calls
calls_in_form (Not arg) node = arg.calls
calls_in_form (Binary op left right) node = left.calls ++ right.calls
calls_in_form (Within negated left items) node = left.calls ++ calls_in items
calls_in_form (Like negated regex left pattern) node = left.calls
calls_in_form (IsNull negated arg) node = arg.calls
calls_in_form (Cast arg kind) node = arg.calls

abbrev pub columns_in_form : Form-F OpenedForm Opened → Span → List Span
columns_in_form (Constant cell kind) span = []
columns_in_form (Listed values) span = []
columns_in_form (Column name) span = span ∷ []
columns_in_form (Group inner) span = inner.columns
columns_in_form (Call function args star) span = columns_in_call (function_named function.name) (aggregate_named function.name) args
columns_in_form (Minus arg) span = arg.columns
columns_in_form (Not arg) span = arg.columns
columns_in_form (Binary op left right) span = left.columns ++ right.columns
columns_in_form (Within negated left items) span = left.columns ++ columns_in items
columns_in_form (Like negated regex left pattern) span = left.columns
columns_in_form (IsNull negated arg) span = arg.columns
columns_in_form (Cast arg kind) span = arg.columns

abbrev pub own_form : OpenedForm → Form
own_form form = form.own

abbrev pub own_expr : Opened → Expr
own_expr expr = expr.own

abbrev pub opened_form : Form-F OpenedForm Opened → OpenedForm
opened_form layer = record {
  own = roll-Form (map-Form OpenedForm Opened Form Expr own_form own_expr layer);
  calls = calls_in_form layer;
  columns = columns_in_form layer;
}

abbrev pub opened_expr : Expr-F OpenedForm Opened → Opened
opened_expr expr = record {
  own = roll-Expr (record { node = expr.node; span = expr.span; form = expr.form.own });
  calls = expr.form.calls expr.node;
  columns = expr.form.columns expr.span;
}

abbrev pub opened : Expr → Opened
opened = fold-Expr OpenedForm Opened opened_form opened_expr

-- the aggregate calls in an expression, from the left
abbrev pub calls_of : Expr → List AggregateCall
calls_of expr = (opened expr).calls

-- the places of the columns in an expression that stand outside its aggregate calls
abbrev pub outside_columns : Expr → List Span
outside_columns expr = (opened expr).columns
