-- The spans of an expression: its own, and those of the names, the patterns and the expressions in it.
use Rattle.std.specs.Prelude.{List, [], ◌∷◌, ◌++◌}
use Rattle.std.specs.List.{flat_map}
use Rattle.esql_types.specs.declared.places.Span.{Span}
use Rattle.esql_ast.specs.declared.expr.Expr.{Expr}
use Rattle.esql_ast.specs.declared.expr.Form.TheOpen.{Expr-F, Form-F, Constant, List as Listed, Column, Group, Call, Minus, Not, Binary, Within, Like, IsNull, Cast}
use Rattle.esql_ast.specs.declared.expr.Form.{Form}
use Rattle.esql_ast.specs.declared.expr.Form.TheFolds.{fold-Expr, fold-Form}

-- the spans within a form: of the name of a function or of a kind, of a pattern, and of its expressions
abbrev pub spans_in : Form-F (List Span) (List Span) → List Span
spans_in (Constant cell kind) = []
spans_in (Listed values) = []
spans_in (Column name) = []
spans_in (Group inner) = inner
spans_in (Call function args star) = function.span ∷ flat_map (λ spans. spans) args
spans_in (Minus arg) = arg
spans_in (Not arg) = arg
spans_in (Binary op left right) = left ++ right
spans_in (Within negated left items) = left ++ flat_map (λ spans. spans) items
spans_in (Like negated regex left pattern) = pattern.span ∷ left
spans_in (IsNull negated arg) = arg
spans_in (Cast arg kind) = kind.span ∷ arg

-- an expression's own span, then those within it
abbrev pub own_and_within : Expr-F (List Span) (List Span) → List Span
own_and_within expr = expr.span ∷ expr.form

abbrev pub spans_of_expr : Expr → List Span
spans_of_expr = fold-Expr (List Span) (List Span) spans_in own_and_within

abbrev pub spans_of_form : Form → List Span
spans_of_form = fold-Form (List Span) (List Span) spans_in own_and_within
