-- What an expression that is being read stands in, and what the next lexeme makes of it. It knows nothing of limits.
use Rattle.std.specs.Prelude.{ℕ, ◌+◌, max, nat_le, Bool, true, false, ◌&&◌, if◌then◌else◌, List, [], ◌∷◌, ◌++◌, Option, Some, None}
use Rattle.esql_types.specs.declared.places.Span.{Span}
use Rattle.esql_types.specs.declared.value.Value.{Value}
use Rattle.esql_types.specs.declared.value.Value.TheVariants as value
use Rattle.esql_lex.specs.declared.token.Reserved.{Reserved}
use Rattle.esql_lex.specs.declared.token.Reserved.TheVariants as word
use Rattle.esql_lex.specs.declared.token.Sign.{Sign}
use Rattle.esql_lex.specs.declared.token.Sign.TheVariants as sign
use Rattle.esql_ast.specs.declared.expr.BinaryOp.TheVariants.{Add, Sub, Mul, Div, Mod, Eq, Ne, Lt, Le, Gt, Ge, And, Or}
use Rattle.esql_ast.specs.declared.expr.Expr.{Expr}
use Rattle.esql_ast.specs.declared.query.NameAt.{NameAt}
use Rattle.esql_phrases.specs.declared.lexeme.Lexeme.{Lexeme}
use Rattle.esql_phrases.specs.declared.lexeme.Lexeme.TheVariants.{Plain, Dotted, Quoted, Text, Number, Word, Sign as Mark}
use Rattle.esql_phrases.specs.declared.part.Part.{Part}
use Rattle.esql_expr.specs.declared.machine.Frame.{Frame}
use Rattle.esql_expr.specs.declared.machine.Frame.TheVariants.{Binary, Group, Minus, Not, Call, Within}
use Rattle.esql_expr.specs.declared.machine.Top.{Top}
use Rattle.esql_expr.specs.declared.machine.Top.TheVariants.{Want, Have, Named, Called, Starred, Denied, Among, Matching, Testing, TestingNot, Casting, Listing, Negating, Listed}
use Rattle.esql_expr.specs.declared.machine.Reader.{Reader}
use Rattle.esql_expr.specs.declared.machine.Stepped.{Stepped}
use Rattle.esql_expr.specs.declared.machine.Stepped.TheVariants.{Goes, Ends, Stuck}
use Rattle.esql_expr.specs.declared.machine.Opener.{Opener}
use Rattle.esql_expr.specs.declared.machine.Opener.TheVariants.{Infix, Not as Denial, In, Like, Is, Cast}
use Rattle.esql_phrases.specs.Parts.{number_value, negative_value, constant_part, null_part, list_part, column_part, star_part, call_part, group_part, cast_part, minus_part, not_part, line_of, left_of, right_of, binary_part, within_part, like_part, is_null_part}

abbrev pub reader : ℕ → List Frame → Top → Reader
reader least frames top = record { least = least; frames = frames; top = top }

-- no lexeme was read
abbrev pub start : ℕ → Reader
start least = reader least [] Want

-- the line of the grammar that the opening expression has to be in
abbrev pub hole : ℕ → List Frame → ℕ
hole least [] = least
hole least (Binary op left ∷ above) = right_of op
hole least (Group opening ∷ above) = 0
hole least (Minus minus ∷ above) = 6
hole least (Not not ∷ above) = 2
hole least (Call function args depth ∷ above) = 0
hole least (Within negated left items depth ∷ above) = 0

abbrev pub word_opener : Reserved → Option Opener
word_opener word.Or = Some (Infix Or)
word_opener word.And = Some (Infix And)
word_opener word.Not = Some Denial
word_opener word.In = Some In
word_opener word.Like = Some (Like false)
word_opener word.Rlike = Some (Like true)
word_opener word.Is = Some Is
word_opener _ = None

abbrev pub sign_opener : Sign → Option Opener
sign_opener sign.Equal = Some (Infix Eq)
sign_opener sign.NotEqual = Some (Infix Ne)
sign_opener sign.Less = Some (Infix Lt)
sign_opener sign.LessEqual = Some (Infix Le)
sign_opener sign.Greater = Some (Infix Gt)
sign_opener sign.GreaterEqual = Some (Infix Ge)
sign_opener sign.Plus = Some (Infix Add)
sign_opener sign.Minus = Some (Infix Sub)
sign_opener sign.Star = Some (Infix Mul)
sign_opener sign.Slash = Some (Infix Div)
sign_opener sign.Percent = Some (Infix Mod)
sign_opener sign.Cast = Some Cast
sign_opener _ = None

-- what goes on with an operand
abbrev pub opener : Lexeme → Option Opener
opener (Word word at) = word_opener word
opener (Mark sign at) = sign_opener sign
opener _ = None

-- the line of the operand before it
abbrev pub operand_line : Opener → ℕ
operand_line (Infix op) = left_of op
operand_line Cast = 7
operand_line _ = 4

-- the line of what it makes
abbrev pub own_line : Opener → ℕ
own_line (Infix op) = line_of op
own_line Cast = 7
own_line _ = 3

-- it may stand after an expression of a line, where one of line least is wanted
abbrev pub takes : Opener → ℕ → ℕ → Bool
takes o line least = nat_le (operand_line o) line && nat_le least (own_line o)

abbrev pub goes_to : Opener → ℕ → List Frame → Part → Reader
goes_to (Infix op) least frames part = reader least (Binary op part ∷ frames) Want
goes_to Denial least frames part = reader least frames (Denied part)
goes_to In least frames part = reader least frames (Among false part)
goes_to (Like regex) least frames part = reader least frames (Matching false regex part)
goes_to Is least frames part = reader least frames (Testing part)
goes_to Cast least frames part = reader least frames (Casting part)

abbrev pub opened_by : Option Opener → ℕ → List Frame → Part → Option Reader
opened_by None least frames part = None
opened_by (Some o) least frames part = if takes o part.line (hole least frames) then Some (goes_to o least frames part) else None

abbrev pub opened : ℕ → List Frame → Part → Lexeme → Option Reader
opened least frames part next = opened_by (opener next) least frames part

abbrev pub or_closed : Option Reader → Stepped → Stepped
or_closed (Some reader) other = Goes reader
or_closed None other = other

-- what ends a group, and an item of a list
abbrev pub close_group : Lexeme → ℕ → List Frame → Span → Part → Stepped
close_group (Mark sign.CloseParen closing) least above opening part = Goes (reader least above (Have (group_part opening part closing)))
close_group _ least above opening part = Stuck

abbrev pub close_call : Lexeme → ℕ → List Frame → NameAt → List Expr → ℕ → Stepped
close_call (Mark sign.Comma comma) least above function args depth = Goes (reader least (Call function args depth ∷ above) Want)
close_call (Mark sign.CloseParen closing) least above function args depth = Goes (reader least above (Have (call_part function args depth closing)))
close_call _ least above function args depth = Stuck

abbrev pub close_within : Lexeme → ℕ → List Frame → Bool → Part → List Expr → ℕ → Stepped
close_within (Mark sign.Comma comma) least above negated left items depth = Goes (reader least (Within negated left items depth ∷ above) Want)
close_within (Mark sign.CloseParen closing) least above negated left items depth = Goes (reader least above (Have (within_part negated left items depth closing)))
close_within _ least above negated left items depth = Stuck

-- after an expression: what goes on with it, or else what ends it
unfoldable pub feed : ℕ → List Frame → Part → Lexeme → Stepped
feed least [] part next = or_closed (opened least [] part next) (Ends part next)
feed least (Binary op left ∷ above) part next = or_closed (opened least (Binary op left ∷ above) part next) (feed least above (binary_part op left part) next)
feed least (Group opening ∷ above) part next = or_closed (opened least (Group opening ∷ above) part next) (close_group next least above opening part)
feed least (Minus minus ∷ above) part next = or_closed (opened least (Minus minus ∷ above) part next) (feed least above (minus_part minus part) next)
feed least (Not not ∷ above) part next = or_closed (opened least (Not not ∷ above) part next) (feed least above (not_part not part) next)
feed least (Call function args depth ∷ above) part next =
    or_closed (opened least (Call function args depth ∷ above) part next) (close_call next least above function (args ++ part.expr ∷ []) (max depth part.depth))
feed least (Within negated left items depth ∷ above) part next =
    or_closed (opened least (Within negated left items depth ∷ above) part next) (close_within next least above negated left (items ++ part.expr ∷ []) (max depth part.depth))

-- what ends an expression that nothing goes on with
unfoldable pub close : ℕ → List Frame → Part → Lexeme → Stepped
close least [] part next = Ends part next
close least (Binary op left ∷ above) part next = feed least above (binary_part op left part) next
close least (Group opening ∷ above) part next = close_group next least above opening part
close least (Minus minus ∷ above) part next = feed least above (minus_part minus part) next
close least (Not not ∷ above) part next = feed least above (not_part not part) next
close least (Call function args depth ∷ above) part next = close_call next least above function (args ++ part.expr ∷ []) (max depth part.depth)
close least (Within negated left items depth ∷ above) part next = close_within next least above negated left (items ++ part.expr ∷ []) (max depth part.depth)

abbrev pub goes : ℕ → List Frame → Top → Stepped
goes least frames top = Goes (reader least frames top)

abbrev pub begin_word : Reserved → Span → ℕ → List Frame → Stepped
begin_word word.True at least frames = goes least frames (Have (constant_part (value.Bool true) at))
begin_word word.False at least frames = goes least frames (Have (constant_part (value.Bool false) at))
begin_word word.Null at least frames = goes least frames (Have (null_part at))
begin_word word.Not at least frames = if nat_le (hole least frames) 2 then goes least (Not at ∷ frames) Want else Stuck
begin_word _ at least frames = Stuck

abbrev pub begin_sign : Sign → Span → ℕ → List Frame → Stepped
begin_sign sign.OpenParen at least frames = goes least (Group at ∷ frames) Want
begin_sign sign.OpenBracket at least frames = goes least frames (Listing at [])
begin_sign sign.Minus at least frames = if nat_le (hole least frames) 6 then goes least (Minus at ∷ frames) Want else Stuck
begin_sign _ at least frames = Stuck

-- where an expression begins
abbrev pub begin : ℕ → List Frame → Lexeme → Stepped
begin least frames (Plain name) = goes least frames (Named name)
begin least frames (Dotted name) = goes least frames (Have (column_part name))
begin least frames (Quoted name) = goes least frames (Have (column_part name))
begin least frames (Text text) = goes least frames (Have (constant_part (value.Text text.text) text.span))
begin least frames (Number number at) = goes least frames (Have (constant_part (number_value number) at))
begin least frames (Word word at) = begin_word word at least frames
begin least frames (Mark sign at) = begin_sign sign at least frames
begin least frames _ = Stuck

-- a name before `(` is a function's, any other a column's
abbrev pub after_name : ℕ → List Frame → NameAt → Lexeme → Stepped
after_name least frames name (Mark sign.OpenParen at) = goes least frames (Called name)
after_name least frames name next = feed least frames (column_part name) next

abbrev pub after_open : ℕ → List Frame → NameAt → Lexeme → Stepped
after_open least frames function (Mark sign.CloseParen closing) = goes least frames (Have (call_part function [] 0 closing))
after_open least frames function (Mark sign.Star star) = goes least frames (Starred function)
after_open least frames function next = begin least (Call function [] 0 ∷ frames) next

abbrev pub after_star : ℕ → List Frame → NameAt → Lexeme → Stepped
after_star least frames function (Mark sign.CloseParen closing) = goes least frames (Have (star_part function closing))
after_star least frames function next = Stuck

abbrev pub after_not : ℕ → List Frame → Part → Lexeme → Stepped
after_not least frames left (Word word.In at) = goes least frames (Among true left)
after_not least frames left (Word word.Like at) = goes least frames (Matching true false left)
after_not least frames left (Word word.Rlike at) = goes least frames (Matching true true left)
after_not least frames left next = Stuck

abbrev pub after_in : ℕ → List Frame → Bool → Part → Lexeme → Stepped
after_in least frames negated left (Mark sign.OpenParen at) = goes least (Within negated left [] 0 ∷ frames) Want
after_in least frames negated left next = Stuck

abbrev pub after_like : ℕ → List Frame → Bool → Bool → Part → Lexeme → Stepped
after_like least frames negated regex left (Text pattern) = goes least frames (Have (like_part negated regex left pattern))
after_like least frames negated regex left next = Stuck

abbrev pub after_is : ℕ → List Frame → Part → Lexeme → Stepped
after_is least frames arg (Word word.Null null) = goes least frames (Have (is_null_part false arg null))
after_is least frames arg (Word word.Not at) = goes least frames (TestingNot arg)
after_is least frames arg next = Stuck

abbrev pub after_is_not : ℕ → List Frame → Part → Lexeme → Stepped
after_is_not least frames arg (Word word.Null null) = goes least frames (Have (is_null_part true arg null))
after_is_not least frames arg next = Stuck

abbrev pub after_cast : ℕ → List Frame → Part → Lexeme → Stepped
after_cast least frames arg (Plain kind) = goes least frames (Have (cast_part arg kind))
after_cast least frames arg (Dotted kind) = goes least frames (Have (cast_part arg kind))
after_cast least frames arg next = Stuck

-- in a list a literal has to come
abbrev pub in_list : ℕ → List Frame → Span → List Value → Lexeme → Stepped
in_list least frames opening values (Number number at) = goes least frames (Listed opening (values ++ number_value number ∷ []))
in_list least frames opening values (Text text) = goes least frames (Listed opening (values ++ value.Text text.text ∷ []))
in_list least frames opening values (Word word.True at) = goes least frames (Listed opening (values ++ value.Bool true ∷ []))
in_list least frames opening values (Word word.False at) = goes least frames (Listed opening (values ++ value.Bool false ∷ []))
in_list least frames opening values (Mark sign.Minus at) = goes least frames (Negating opening values)
in_list least frames opening values next = Stuck

abbrev pub after_minus : ℕ → List Frame → Span → List Value → Lexeme → Stepped
after_minus least frames opening values (Number number at) = goes least frames (Listed opening (values ++ negative_value number ∷ []))
after_minus least frames opening values next = Stuck

abbrev pub after_literal : ℕ → List Frame → Span → List Value → Lexeme → Stepped
after_literal least frames opening values (Mark sign.Comma at) = goes least frames (Listing opening values)
after_literal least frames opening values (Mark sign.CloseBracket closing) = goes least frames (Have (list_part opening values closing))
after_literal least frames opening values next = Stuck

abbrev pub step_at : ℕ → List Frame → Top → Lexeme → Stepped
step_at least frames Want next = begin least frames next
step_at least frames (Have part) next = feed least frames part next
step_at least frames (Named name) next = after_name least frames name next
step_at least frames (Called function) next = after_open least frames function next
step_at least frames (Starred function) next = after_star least frames function next
step_at least frames (Denied left) next = after_not least frames left next
step_at least frames (Among negated left) next = after_in least frames negated left next
step_at least frames (Matching negated regex left) next = after_like least frames negated regex left next
step_at least frames (Testing arg) next = after_is least frames arg next
step_at least frames (TestingNot arg) next = after_is_not least frames arg next
step_at least frames (Casting arg) next = after_cast least frames arg next
step_at least frames (Listing opening values) next = in_list least frames opening values next
step_at least frames (Negating opening values) next = after_minus least frames opening values next
step_at least frames (Listed opening values) next = after_literal least frames opening values next

-- what a lexeme makes of an expression that is being read
abbrev pub step : Reader → Lexeme → Stepped
step reader next = step_at reader.least reader.frames reader.top next

-- the least depth of an expression that goes on so, where the opening expression gets the depth m
abbrev pub up : List Frame → ℕ → ℕ
up [] m = m
up (Binary op left ∷ above) m = up above (1 + max left.depth m)
up (Group opening ∷ above) m = up above (1 + m)
up (Minus minus ∷ above) m = up above (1 + m)
up (Not not ∷ above) m = up above (1 + m)
up (Call function args depth ∷ above) m = up above (1 + max depth m)
up (Within negated left items depth ∷ above) m = up above (1 + max left.depth (max depth m))

-- the least depth of what was read last, however it goes on
abbrev pub depth_at : Top → ℕ
depth_at (Have part) = part.depth
depth_at (Denied left) = 1 + left.depth
depth_at (Among negated left) = 1 + left.depth
depth_at (Matching negated regex left) = 1 + left.depth
depth_at (Testing arg) = 1 + arg.depth
depth_at (TestingNot arg) = 1 + arg.depth
depth_at (Casting arg) = 1 + arg.depth
depth_at _ = 1

-- the least depth of an expression that goes on so
abbrev pub need : Reader → ℕ
need reader = up reader.frames (depth_at reader.top)

abbrev pub going : Stepped → Option Reader
going (Goes reader) = Some reader
going (Ends part next) = None
going Stuck = None

abbrev pub and_then : {A B : Type 0} → Option A → (A → Option B) → Option B
and_then None next = None
and_then (Some a) next = next a

-- the state after lexemes that all go on with the expression
abbrev pub walk : List Lexeme → Reader → Option Reader
walk [] reader = Some reader
walk (x ∷ w) reader = and_then (going (step reader x)) (walk w)
