-- Written expressions, each seen as one of few forms.
use Prim.Native.String.{String}
use Rattle.std.specs.Prelude.{ℕ, nat_le, Bool, true, false, ◌&&◌, List, [], ◌∷◌, map, length, codes, Option, Some, None, if◌then◌else◌}
use Rattle.std.specs.Char.{to_ascii_uppercase}
use Rattle.std.specs.List.{list_all}
use Rattle.std.specs.Str.{bytes_eq}
use Rattle.esql_types.specs.declared.places.Span.{Span}
use Rattle.esql_types.specs.declared.names.NodeId.{NodeId}
use Rattle.esql_types.specs.declared.value.Kind.{Kind}
use Rattle.esql_types.specs.declared.value.Kind.TheVariants as kind
use Rattle.esql_types.specs.declared.value.Value.{Value}
use Rattle.esql_types.specs.declared.value.Value.TheVariants as value
use Rattle.esql_ast.specs.declared.expr.BinaryOp.{BinaryOp}
use Rattle.esql_ast.specs.declared.expr.BinaryOp.TheVariants as operator
use Rattle.esql_ast.specs.declared.expr.Expr.{Expr}
use Rattle.esql_ast.specs.declared.expr.Form.TheOpen.{Form-F, Constant, List as Listed, Column, Group, Call, Minus, Not, Binary, Within, Like, IsNull, Cast}
use Rattle.esql_ast.specs.declared.expr.Form.TheFolds.{fold-Expr}
use Rattle.esql_ast.specs.declared.query.TextAt.{TextAt}
use Rattle.esql_plan.specs.declared.function.Function.{Function}
use Rattle.esql_plan.specs.declared.function.Function.TheVariants as function
use Rattle.esql_plan.specs.declared.function.AggFunction.{AggFunction}
use Rattle.esql_plan.specs.declared.names.FunctionRow.{FunctionRow}
use Rattle.esql_plan.specs.Names.{function_named, aggregate_named, cast_named}
use Rattle.esql_plan.specs.Rules.{is_integer, is_number}
use Rattle.esql_plan.specs.Signatures.{is_at_most}
use Rattle.row_semantics.specs.declared.rule.NameRule.{NameRule}
use Rattle.row_semantics.specs.declared.rule.NameRule.TheVariants as rule

-- A part of an expression: its span, its text where it is a literal text without parentheses, and what is read of it.
pub record Part (Reading : Type 0) : Type 0 where
  pub span : Span
  pub literal : Option (List ℕ)
  pub reading : Reading

-- What an expression is.
pub data Seen (Reading : Type 0) : Type 0 where
  -- the values of a constant or of a list, with their kind
  constant : List Value → Kind → Seen Reading
  -- the column of a name
  named : List ℕ → Seen Reading
  -- the same as what stands in parentheses
  same : Part Reading → Seen Reading
  -- a function of parts: `NOT`, every operator, `IN`, `LIKE`, `IS NULL`, a conversion and a call are all of this form
  applied : Function → List (Part Reading) → Seen Reading
  -- an aggregate of a part, or of `*` alone
  aggregate : AggFunction → Bool → List (Part Reading) → Seen Reading
  -- a form that breaks a rule at a span, whatever the columns are, once its parts break none
  refused : List (Part Reading) → NameRule → Span → Seen Reading

-- the function of an operator
abbrev pub function_of : BinaryOp → Function
function_of operator.Add = function.Add
function_of operator.Sub = function.Sub
function_of operator.Mul = function.Mul
function_of operator.Div = function.Div
function_of operator.Mod = function.Mod
function_of operator.Eq = function.Eq
function_of operator.Ne = function.Ne
function_of operator.Lt = function.Lt
function_of operator.Le = function.Le
function_of operator.Gt = function.Gt
function_of operator.Ge = function.Ge
function_of operator.And = function.And
function_of operator.Or = function.Or

-- the function of `[NOT] LIKE` and `[NOT] RLIKE`
abbrev pub like_function : Bool → Bool → Function
like_function false false = function.Like
like_function true false = function.NotLike
like_function false true = function.Rlike
like_function true true = function.NotRlike

abbrev pub is_boolean : Value → Bool
is_boolean (value.Int number) = false
is_boolean (value.Long number) = false
is_boolean (value.Bool truth) = true
is_boolean (value.Text text) = false

abbrev pub is_keyword : Value → Bool
is_keyword (value.Int number) = false
is_keyword (value.Long number) = false
is_keyword (value.Bool truth) = false
is_keyword (value.Text text) = true

-- the kind of a list: integers and longs together are longs, and other kinds do not go together
abbrev pub kind_of_list : List Value → Option Kind
kind_of_list values =
    if list_all is_integer values then Some kind.Integer else
    (if list_all is_number values then Some kind.Long else
    (if list_all is_boolean values then Some kind.Boolean else
    (if list_all is_keyword values then Some kind.Keyword else None)))

-- a value of a list of longs: integers are widened
abbrev pub widened : Value → Value
widened (value.Int number) = value.Long number
widened (value.Long number) = value.Long number
widened (value.Bool truth) = value.Bool truth
widened (value.Text text) = value.Text text

abbrev pub list_in_kind : {Reading : Type 0} → List Value → Option Kind → Span → Seen Reading
list_in_kind values (Some kind.Long) span = constant (map widened values) kind.Long
list_in_kind values (Some kind.Integer) span = constant values kind.Integer
list_in_kind values (Some kind.Boolean) span = constant values kind.Boolean
list_in_kind values (Some kind.Keyword) span = constant values kind.Keyword
list_in_kind values (Some kind.Null) span = constant values kind.Null
list_in_kind values None span = refused [] rule.BadKind span

-- A constant has the kind of its values, which go together as those of a list do; NULL has none.
abbrev pub constant_in : {Reading : Type 0} → List Value → Span → Seen Reading
constant_in [] span = constant [] kind.Null
constant_in (value ∷ values) span = list_in_kind (value ∷ values) (kind_of_list (value ∷ values)) span

-- a call may have so many arguments
abbrev pub takes : FunctionRow → ℕ → Bool
takes row count = nat_le row.least count && is_at_most row.most count

-- a call of a function with the number of arguments that it takes
abbrev pub call_of : {Reading : Type 0} → FunctionRow → Bool → List (Part Reading) → Span → Seen Reading
call_of row true args span = refused [] rule.BadArguments span
call_of row false args span = if takes row (length args) then applied row.function args else refused [] rule.BadArguments span

-- A call, by what its name is found as. A name that is no function breaks a rule at the name, before its arguments are looked at.
abbrev pub call_by : {Reading : Type 0} → Option FunctionRow → Option AggFunction → Span → Bool → List (Part Reading) → Span → Seen Reading
call_by (Some row) found name star args span = call_of row star args span
call_by None (Some function) name star args span = aggregate function star args
call_by None None name star args span = refused [] rule.UnknownFunction name

-- a conversion to the kind of a name, or a name that is no kind
abbrev pub cast_by : {Reading : Type 0} → Option Function → Part Reading → Span → Seen Reading
cast_by (Some function) arg name = applied function (arg ∷ [])
cast_by None arg name = refused (arg ∷ []) rule.BadKind name

-- what is read of an expression, by its node, its span and its form
abbrev pub Reader : Type 0 → Type 0
Reader Reading = NodeId → Span → Seen Reading → Reading

-- a pattern that stands beside an operator: a constant of the operator's node
abbrev pub pattern_part : {Reading : Type 0} → Reader Reading → NodeId → TextAt → Part Reading
pattern_part reader node pattern = record {
  span = pattern.span;
  literal = Some pattern.text;
  reading = reader node pattern.span (constant (value.Text pattern.text ∷ []) kind.Keyword);
}

-- the form that an expression is seen as
abbrev pub seen : {Written Reading : Type 0} → Reader Reading → NodeId → Span → Form-F Written (Part Reading) → Seen Reading
seen reader node span (Constant cell kind) = constant_in cell span
seen reader node span (Listed values) = list_in_kind values (kind_of_list values) span
seen reader node span (Column name) = named name
seen reader node span (Group inner) = same inner
seen reader node span (Call function args star) = call_by (function_named function.name) (aggregate_named function.name) function.span star args span
seen reader node span (Minus arg) = applied function.Neg (arg ∷ [])
seen reader node span (Not arg) = applied function.Not (arg ∷ [])
seen reader node span (Binary op left right) = applied (function_of op) (left ∷ right ∷ [])
seen reader node span (Within negated left items) = applied (if negated then function.NotIn else function.In) (left ∷ items)
seen reader node span (Like negated regex left pattern) = applied (like_function negated regex) (left ∷ pattern_part reader node pattern ∷ [])
seen reader node span (IsNull negated arg) = applied (if negated then function.IsNotNull else function.IsNull) (arg ∷ [])
seen reader node span (Cast arg kind) = cast_by (cast_named kind.name) arg kind.span

-- the text of a literal
abbrev pub literal_of_constant : List Value → Option (List ℕ)
literal_of_constant [] = None
literal_of_constant (value.Int number ∷ rest) = None
literal_of_constant (value.Long number ∷ rest) = None
literal_of_constant (value.Bool truth ∷ rest) = None
literal_of_constant (value.Text text ∷ []) = Some text
literal_of_constant (value.Text text ∷ next ∷ rest) = None

-- the text of a form that is a literal text; in parentheses, in a list or after a sign it is none
abbrev pub literal_of : {Written Reading : Type 0} → Form-F Written Reading → Option (List ℕ)
literal_of (Constant cell kind) = literal_of_constant cell
literal_of (Listed values) = None
literal_of (Column name) = None
literal_of (Group inner) = None
literal_of (Call function args star) = None
literal_of (Minus arg) = None
literal_of (Not arg) = None
literal_of (Binary op left right) = None
literal_of (Within negated left items) = None
literal_of (Like negated regex left pattern) = None
literal_of (IsNull negated arg) = None
literal_of (Cast arg kind) = None

abbrev pub part_of_form : {Written Reading : Type 0} → Reader Reading → Form-F Written (Part Reading) → NodeId → Span → Part Reading
part_of_form reader form node span = record { span = span; literal = literal_of form; reading = reader node span (seen reader node span form) }

-- an expression as a part, by what is read of each form
abbrev pub part_of : {Reading : Type 0} → Reader Reading → Expr → Part Reading
part_of {Reading} reader = fold-Expr (NodeId → Span → Part Reading) (Part Reading) (part_of_form reader) (λ e. e.form e.node e.span)

abbrev pub read_by : {Reading : Type 0} → Reader Reading → Expr → Reading
read_by reader expr = (part_of reader expr).reading

-- a text that is a word, in any ASCII case
abbrev pub is_word : String → Option (List ℕ) → Bool
is_word word None = false
is_word word (Some text) = bytes_eq (map to_ascii_uppercase text) (codes word)

-- The direction of MV_SORT stands in the plan's function; every other function is the one that is written.
abbrev pub function_in_plan : {Reading : Type 0} → Function → List (Part Reading) → Function
function_in_plan function.MvSort (values ∷ order ∷ rest) = if is_word "DESC" order.literal then function.MvSortDesc else function.MvSort
function_in_plan function parts = function

-- The direction of MV_SORT is no argument in the plan; every other function has the arguments that are written.
abbrev pub arguments_in_plan : {A : Type 0} → Function → List A → List A
arguments_in_plan function.MvSort (values ∷ rest) = values ∷ []
arguments_in_plan function arguments = arguments
