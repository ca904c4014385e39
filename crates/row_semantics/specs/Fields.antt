-- The name of a field's column.
use Rattle.std.specs.Prelude.{ℕ, List, Option, Some, None}
use Rattle.esql_types.specs.Spans.{text_at}
use Rattle.esql_ast.specs.declared.expr.Expr.{Expr}
use Rattle.esql_ast.specs.declared.expr.Form.TheOpen.{Form-F, Constant, List as Listed, Column, Group, Call, Minus, Not, Binary, Within, Like, IsNull, Cast}
use Rattle.esql_ast.specs.declared.expr.Form.TheFolds.{fold-Expr}
use Rattle.esql_ast.specs.declared.query.Field.{Field}
use Rattle.esql_ast.specs.declared.query.NameAt.{NameAt}

-- the name of a form that is one column; in parentheses it is none
abbrev pub column_of_form : Form-F (Option (List ℕ)) (Option (List ℕ)) → Option (List ℕ)
column_of_form (Constant cell kind) = None
column_of_form (Listed values) = None
column_of_form (Column name) = Some name
column_of_form (Group inner) = None
column_of_form (Call function args star) = None
column_of_form (Minus arg) = None
column_of_form (Not arg) = None
column_of_form (Binary op left right) = None
column_of_form (Within negated left items) = None
column_of_form (Like negated regex left pattern) = None
column_of_form (IsNull negated arg) = None
column_of_form (Cast arg kind) = None

-- the name of an expression that is one column without parentheses
abbrev pub column_of : Expr → Option (List ℕ)
column_of = fold-Expr (Option (List ℕ)) (Option (List ℕ)) column_of_form (λ e. e.form)

-- a field without a name is named by the column that it is, else by the slice of the query
abbrev pub own_name : List ℕ → Field → Option (List ℕ) → List ℕ
own_name text field (Some name) = name
own_name text field None = text_at text field.span

abbrev pub name_by : List ℕ → Field → Option NameAt → List ℕ
name_by text field (Some name) = name.name
name_by text field None = own_name text field (column_of field.expr)

-- the name of a field's column
abbrev pub name_of_field : List ℕ → Field → List ℕ
name_of_field text field = name_by text field field.name
