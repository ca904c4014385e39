-- The expressions of each form, without the numbers of their nodes.
use Rattle.std.specs.Prelude.{ℕ, ◌+◌, max, nat_le, ℤ, pos, negsuc, Bool, true, false, if◌then◌else◌, List, [], ◌∷◌}
use Rattle.esql_types.specs.declared.places.Span.{Span}
use Rattle.esql_types.specs.declared.value.Kind.TheVariants as kind
use Rattle.esql_types.specs.declared.value.Value.{Value}
use Rattle.esql_types.specs.declared.value.Value.TheVariants as value
use Rattle.esql_types.specs.Values.{kind_of_value}
use Rattle.esql_ast.specs.declared.expr.BinaryOp.{BinaryOp}
use Rattle.esql_ast.specs.declared.expr.BinaryOp.TheVariants.{Add, Sub, Mul, Div, Mod, Eq, Ne, Lt, Le, Gt, Ge, And, Or}
use Rattle.esql_ast.specs.declared.expr.Expr.{Expr, roll-Expr, out-Expr}
use Rattle.esql_ast.specs.declared.expr.Form.{Form}
use Rattle.esql_ast.specs.declared.expr.Form.TheVariants as form
use Rattle.esql_ast.specs.declared.query.NameAt.{NameAt}
use Rattle.esql_ast.specs.declared.query.TextAt.{TextAt}
use Rattle.esql_phrases.specs.declared.part.Part.{Part}

-- from the start of one to the end of the other
abbrev pub join : Span → Span → Span
join from to = record { from = from.from; to = to.to }

abbrev pub expr_of : Span → Form → Expr
expr_of span form = roll-Expr (record { node = record { 0 = 0 }; span = span; form = form })

abbrev pub span_of : Part → Span
span_of part = (out-Expr part.expr).span

-- an expression of a depth, whose last line of the grammar is a line
abbrev pub part_of : Span → Form → ℕ → ℕ → Part
part_of span form depth line = record { expr = expr_of span form; depth = depth; line = line }

-- a number up to 2147483647 is an integer, else a long
abbrev pub is_integer : ℤ → Bool
is_integer (pos number) = nat_le number 2147483647
is_integer (negsuc number) = false

abbrev pub number_value : ℤ → Value
number_value number = if is_integer number then value.Int number else value.Long number

-- the number that is as far below 0: what is written has no sign, so it is never below 0 itself
abbrev pub negative : ℤ → ℤ
negative (pos ℕ.zero) = pos 0
negative (pos (ℕ.suc number)) = negsuc number
negative (negsuc number) = negsuc number

-- a minus before a number changes its sign, not its kind
abbrev pub negative_value : ℤ → Value
negative_value number = if is_integer number then value.Int (negative number) else value.Long (negative number)

-- what stands for itself is of the last line, and a constant, a list, a column and a call without arguments have the depth 1
abbrev pub primary : Span → Form → ℕ → Part
primary span form depth = part_of span form depth 8

abbrev pub constant_part : Value → Span → Part
constant_part value span = primary span (form.Constant (value ∷ []) (kind_of_value value)) 1

abbrev pub null_part : Span → Part
null_part span = primary span (form.Constant [] kind.Null) 1

abbrev pub list_part : Span → List Value → Span → Part
list_part opening values closing = primary (join opening closing) (form.List values) 1

abbrev pub column_part : NameAt → Part
column_part name = primary name.span (form.Column name.name) 1

abbrev pub star_part : NameAt → Span → Part
star_part function closing = primary (join function.span closing) (form.Call function [] true) 1

-- each other expression has 1 plus the greatest depth beneath
abbrev pub call_part : NameAt → List Expr → ℕ → Span → Part
call_part function args depth closing = primary (join function.span closing) (form.Call function args false) (1 + depth)

abbrev pub group_part : Span → Part → Span → Part
group_part opening inner closing = primary (join opening closing) (form.Group inner.expr) (1 + inner.depth)

abbrev pub cast_part : Part → NameAt → Part
cast_part arg kind = part_of (join (span_of arg) kind.span) (form.Cast arg.expr kind) (1 + arg.depth) 7

abbrev pub minus_part : Span → Part → Part
minus_part sign arg = part_of (join sign (span_of arg)) (form.Minus arg.expr) (1 + arg.depth) 6

abbrev pub not_part : Span → Part → Part
not_part word arg = part_of (join word (span_of arg)) (form.Not arg.expr) (1 + arg.depth) 2

-- the line of an operator
abbrev pub line_of : BinaryOp → ℕ
line_of Or = 0
line_of And = 1
line_of Eq = 3
line_of Ne = 3
line_of Lt = 3
line_of Le = 3
line_of Gt = 3
line_of Ge = 3
line_of Add = 4
line_of Sub = 4
line_of Mul = 5
line_of Div = 5
line_of Mod = 5

-- the line of its left operand: operators of one line join from the left, but comparisons do not join
abbrev pub left_of : BinaryOp → ℕ
left_of Or = 0
left_of And = 1
left_of Add = 4
left_of Sub = 4
left_of Mul = 5
left_of Div = 5
left_of Mod = 5
left_of _ = 4

-- the line of its right operand
abbrev pub right_of : BinaryOp → ℕ
right_of Or = 1
right_of And = 2
right_of Add = 5
right_of Sub = 5
right_of Mul = 6
right_of Div = 6
right_of Mod = 6
right_of _ = 4

abbrev pub binary_part : BinaryOp → Part → Part → Part
binary_part op left right =
    part_of (join (span_of left) (span_of right)) (form.Binary op left.expr right.expr) (1 + max left.depth right.depth) (line_of op)

abbrev pub within_part : Bool → Part → List Expr → ℕ → Span → Part
within_part negated left items depth closing =
    part_of (join (span_of left) closing) (form.Within negated left.expr items) (1 + max left.depth depth) 3

abbrev pub like_part : Bool → Bool → Part → TextAt → Part
like_part negated regex left pattern =
    part_of (join (span_of left) pattern.span) (form.Like negated regex left.expr pattern) (1 + left.depth) 3

abbrev pub is_null_part : Bool → Part → Span → Part
is_null_part negated arg null = part_of (join (span_of arg) null) (form.IsNull negated arg.expr) (1 + arg.depth) 3
