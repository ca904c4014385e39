-- What each step of the analysis of an expression answers, with the columns that can be seen and the patterns and the marks of the maker
-- before and after it.
use Rattle.std.specs.Prelude.{◌≡◌, ◌⊎◌, ◌≤◌, ◌+◌, ℕ, Bool, true, false, List, [], ◌∷◌, ◌++◌, map, length, Option, Some, None, Result, Ok, Err, if◌then◌else◌}
use Rattle.std.specs.List.{flat_map}
use Rattle.esql_types.specs.declared.places.Span.{Span}
use Rattle.esql_types.specs.declared.names.NodeId.{NodeId}
use Rattle.esql_types.specs.declared.value.Kind.{Kind}
use Rattle.esql_types.specs.declared.value.Kind.TheVariants as kind
use Rattle.esql_types.specs.Counts.{Rose}
use Rattle.esql_types.specs.declared.maker.PatternError.{PatternError}
use Rattle.esql_types.specs.declared.maker.PatternError.TheVariants as pattern_error
use Rattle.esql_types.specs.declared.value.Value.TheVariants.{Text}
use Rattle.esql_ast.specs.declared.expr.Expr.{Expr}
use Rattle.esql_ast.specs.declared.expr.Form.TheOpen.{Constant}
use Rattle.esql_ast.specs.declared.expr.Form.TheViews.{roll-Form, roll-Expr}
use Rattle.esql_ast.specs.declared.query.TextAt.{TextAt}
use Rattle.esql_plan.specs.declared.function.Function.{Function}
use Rattle.esql_plan.specs.declared.function.AggFunction.{AggFunction}
use Rattle.esql_plan.specs.declared.plan.OutColumn.{OutColumn}
use Rattle.esql_plan.specs.declared.typed.TypedExpr.{TypedExpr}
use Rattle.esql_plan.specs.declared.typed.TypedForm.TheVariants.{Column}
use Rattle.esql_plan.specs.Exprs.{typed_at, constant_at}
use Rattle.esql_plan.specs.Signatures.{kind_of_call}
use Rattle.text_match.specs.declared.patterns.Patterns.{Patterns}
use Rattle.plan_semantics.specs.Plans.{columns_of}
use Rattle.row_semantics.specs.declared.call.CallColumn.{CallColumn}
use Rattle.row_semantics.specs.declared.rule.NameRule.TheVariants.{BadRegex, BadArguments, UnknownColumn}
use Rattle.row_semantics.specs.Forms.{Part, Seen, constant, refused, applied, aggregate, part_of, read_by, function_in_plan, arguments_in_plan}
use Rattle.row_semantics.specs.Kinds.{Judged, breaks, and_then, may_have_star, judged, kinds_of_parts, regular_of, wrong_literal, if_accepted}
use Rattle.row_semantics.specs.Regulars.{Regular, is_accepted}
use Rattle.row_semantics.specs.Scopes.{Broken, Standing, elsewhere, in_field, Scope}
use Rattle.row_semantics.specs.Typed.{Visible, Typing, typing, typed_null, typed_call, call_at, typed_parts, typed_apply, whole_of, free_of, pattern_number}
use Rattle.expression_analysis.specs.declared.error.AnalyzeError.{AnalyzeError}
use Rattle.expression_analysis.specs.declared.error.AnalyzeError.TheVariants as error
use Rattle.expression_analysis.specs.declared.parts.Parts.{Parts}
use Rattle.expression_analysis.specs.declared.sight.Sight.{Sight}
use Rattle.expression_analysis.specs.Answers.{scope_of, accepted_but, regulars_in, regulars_in_option, regulars_of_parts, OneIsNoted}
use Rattle.expression_analysis.specs.Calls.{parts_at, own_kind}

-- what a maker of regular expressions has counted and noted
pub record Marks : Type 0 where
  pub count : ℕ
  pub last : List ℕ

abbrev pub marks_of : {M : Type 0} → (M → ℕ) → (M → List ℕ) → M → Marks
marks_of count last maker = record { count = count maker; last = last maker }

-- What an expression is typed over: the columns that can be seen, those that stand for aggregate calls, and where it stands.
pub record Over : Type 0 where
  pub columns : List OutColumn
  pub calls : List CallColumn
  pub standing : Standing

abbrev pub standing_of : Bool → Standing
standing_of true = in_field
standing_of false = elsewhere

abbrev pub over_of : Sight → Over
over_of sight = record { columns = sight.columns.now; calls = sight.calls.now; standing = standing_of sight.in_field }

abbrev pub visible_over : Over → Visible
visible_over over = record { columns = over.columns; calls = over.calls }

abbrev pub scope_over : (Regular → Bool) → Over → Scope
scope_over accepts over = record { columns = columns_of over.columns; standing = over.standing; accepts = accepts }

-- what the argument of an aggregate is typed over
abbrev pub within_over : Over → Over
within_over over = record over { standing = elsewhere }

-- what is judged by which regular expressions are accepted
abbrev pub Judgement : Type 0 → Type 0
Judgement A = (Regular → Bool) → Result A Broken

-- A judgement gives a value. It gives it too, or refuses there, where a regular expression at some place is not accepted.
pub record Gives {A : Type 0} (judge : Judgement A) (value : A) : Type 0 where
  pub accepted : judge is_accepted ≡ Ok value
  pub but : (span : Span) → (judge (accepted_but span) ≡ Ok value) ⊎ (judge (accepted_but span) ≡ Err (record { rule = BadRegex; span = span }))

-- a pattern at the place was too large
pub record WasTooLarge (regulars : List Regular) (span : Span) (before after : Marks) : Type 0 where
  pub rose : Rose before.count after.count
  pub count : before.count ≤ after.count
  pub noted : OneIsNoted regulars span after.last

-- an error that a judgement gives, of an expression with these regular expressions
abbrev pub IsErrorOf : {A : Type 0} → Judgement A → List Regular → Marks → Marks → AnalyzeError → Type 0
IsErrorOf judge regulars before after (error.Broken rule span) = (judge is_accepted ≡ Err (record { rule = rule; span = span })) × (after ≡ before)
IsErrorOf judge regulars before after (error.PatternRoom span) =
    (judge (accepted_but span) ≡ Err (record { rule = BadRegex; span = span })) × WasTooLarge regulars span before after
IsErrorOf judge regulars before after (error.Memory error) = after ≡ before

-- numbers of 32 bits are enough for the patterns with these behind them
pub record HasRoom (patterns : Patterns) (whole free : List (List ℕ)) : Type 0 where
  pub whole_fits : length patterns.whole + length whole ≤ 4294967295
  pub free_fits : length patterns.free + length free ≤ 4294967295

-- Leaves ------------------------------------------------------------------------------------------------------------------------

-- an answer that reads no pattern
abbrev pub IsPlainAnswer : Result TypedExpr Broken → Result TypedExpr AnalyzeError → Type 0
IsPlainAnswer told (Ok typed) = told ≡ Ok typed
IsPlainAnswer told (Err (error.Broken rule span)) = told ≡ Err (record { rule = rule; span = span })
IsPlainAnswer told (Err (error.PatternRoom span)) = ⊥
IsPlainAnswer told (Err (error.Memory error)) = Unit {0}

-- a constant, or the rule that its values break
abbrev pub constant_or_rule : NodeId → Seen (Unit {0}) → Result TypedExpr Broken
constant_or_rule node (constant values kind) = Ok (constant_at node kind values)
constant_or_rule node (refused parts rule at) = Err (record { rule = rule; span = at })
constant_or_rule node other = Ok (typed_null node)

abbrev pub column_or_rule : NodeId → Span → Option OutColumn → Result TypedExpr Broken
column_or_rule node span (Some column) = Ok (typed_at node column.kind (Column column.id))
column_or_rule node span None = Err (record { rule = UnknownColumn; span = span })

-- Expressions -------------------------------------------------------------------------------------------------------------------

-- what is read of an expression
pub record Readings : Type 0 where
  pub typing : Typing
  pub judged : Judged
  pub regulars : List Regular

abbrev pub readings_of : Expr → Readings
readings_of expr = record { typing = read_by typing expr; judged = read_by judged expr; regulars = read_by regulars_in expr }

-- what is read of a node by its form
abbrev pub readings_at : NodeId → Span → Seen Typing → Seen Judged → Seen (List Regular) → Readings
readings_at node span for_typing for_judged for_regulars =
    record { typing = typing node span for_typing; judged = judged node span for_judged; regulars = regulars_in node span for_regulars }

abbrev pub judgement_over : Over → Judged → Judgement Kind
judgement_over over reading accepts = reading (scope_over accepts over)

-- an expression is typed, and has its kind whatever numbers its patterns have
pub record IsTyped (read : Readings) (over : Over) (old new : Patterns) (typed : TypedExpr) : Type 0 where
  pub is : HasRoom old read.typing.whole read.typing.free → typed ≡ read.typing.at (visible_over over) (length old.whole) (length old.free)
  pub kind : (whole free : ℕ) → typed.kind ≡ (read.typing.at (visible_over over) whole free).kind
  pub gives : Gives (judgement_over over read.judged) typed.kind
  pub whole : new.whole ≡ old.whole ++ read.typing.whole
  pub free : new.free ≡ old.free ++ read.typing.free

abbrev pub IsAnswer : Readings → Over → Patterns → Patterns → Marks → Marks → Result TypedExpr AnalyzeError → Type 0
IsAnswer read over old new before after (Ok typed) = IsTyped read over old new typed × (after ≡ before)
IsAnswer read over old new before after (Err error) = IsErrorOf (judgement_over over read.judged) read.regulars before after error

-- an answer that adds no pattern, whichever there are
abbrev pub AddsNoPattern : Readings → Over → Marks → Marks → Result TypedExpr AnalyzeError → Type 0
AddsNoPattern read over before after result = (patterns : Patterns) → IsAnswer read over patterns patterns before after result

-- the pattern beside an operator, as the constant that it is
abbrev pub pattern_expr : NodeId → TextAt → Expr
pattern_expr node pattern = roll-Expr (record { node = node; span = pattern.span; form = roll-Form (Constant (Text pattern.text ∷ []) kind.Keyword) })

-- the literal of an expression
abbrev pub literal_of_expr : Expr → Option (List ℕ)
literal_of_expr expr = (part_of judged expr).literal

abbrev pub literal_found : Option Expr → Option (List ℕ)
literal_found None = None
literal_found (Some expr) = literal_of_expr expr

-- Parts -------------------------------------------------------------------------------------------------------------------------

abbrev pub typings : List Expr → List (Part Typing)
typings exprs = map (part_of typing) exprs

abbrev pub judgeds : List Expr → List (Part Judged)
judgeds exprs = map (part_of judged) exprs

abbrev pub regular_parts : List Expr → List (Part (List Regular))
regular_parts exprs = map (part_of regulars_in) exprs

abbrev pub wholes : List (Part Typing) → List (List ℕ)
wholes parts = flat_map (λ part. part.reading.whole) parts

abbrev pub frees : List (Part Typing) → List (List ℕ)
frees parts = flat_map (λ part. part.reading.free) parts

abbrev pub kinds_in : List TypedExpr → List Kind
kinds_in args = map (λ (arg : TypedExpr). arg.kind) args

abbrev pub kinds_judgement : Over → List Expr → Judgement (List Kind)
kinds_judgement over exprs accepts = kinds_of_parts (judgeds exprs) (scope_over accepts over)

-- expressions are typed behind the parts that are typed before them
pub record AreTyped (over : Over) (exprs : List Expr) (old_parts new_parts : Parts) (old new : Patterns) : Type 0 where
  pub added : List TypedExpr
  pub args : new_parts.args ≡ old_parts.args ++ added
  pub spans : new_parts.spans ≡ old_parts.spans ++ map (λ (expr : Expr). expr.span) exprs
  pub are : HasRoom old (wholes (typings exprs)) (frees (typings exprs)) → added ≡ typed_parts (typings exprs) (visible_over over) (length old.whole) (length old.free)
  pub kinds : (whole free : ℕ) → kinds_in added ≡ kinds_in (typed_parts (typings exprs) (visible_over over) whole free)
  pub gives : Gives (kinds_judgement over exprs) (kinds_in added)
  pub whole : new.whole ≡ old.whole ++ wholes (typings exprs)
  pub free : new.free ≡ old.free ++ frees (typings exprs)

abbrev pub AreAnswer : {U : Type 0} → Over → List Expr → Parts → Parts → Patterns → Patterns → Marks → Marks → Result U AnalyzeError → Type 0
AreAnswer over exprs old_parts new_parts old new before after (Ok unit) = AreTyped over exprs old_parts new_parts old new × (after ≡ before)
AreAnswer over exprs old_parts new_parts old new before after (Err error) =
    IsErrorOf (kinds_judgement over exprs) (regulars_of_parts (regular_parts exprs)) before after error

-- Aggregates --------------------------------------------------------------------------------------------------------------------

-- the column of an aggregate call whose kind is found
abbrev pub called_or_rule : NodeId → Result Kind Broken → List CallColumn → Result TypedExpr Broken
called_or_rule node kind calls = and_then kind (λ kind. Ok (typed_call node kind (call_at calls node)))

-- the kind of an aggregate of `*`
abbrev pub kind_of_star : AggFunction → Span → Result Kind Broken
kind_of_star function span = if may_have_star function then Ok kind.Long else breaks BadArguments span

-- what is read of an aggregate of expressions
abbrev pub aggregate_of : NodeId → Span → AggFunction → Bool → List Expr → Readings
aggregate_of node span function star exprs =
    readings_at node span (aggregate function star (typings exprs)) (aggregate function star (judgeds exprs)) (aggregate function star (regular_parts exprs))

-- A function of parts -----------------------------------------------------------------------------------------------------------

-- what is read of a node that is a function of expressions
abbrev pub applied_to : NodeId → Span → Function → List Expr → Readings
applied_to node span function exprs =
    readings_at node span (applied function (typings exprs)) (applied function (judgeds exprs)) (applied function (regular_parts exprs))

abbrev pub own_whole : Function → List Span → Option (List ℕ) → List (List ℕ)
own_whole function spans literal = whole_of function (parts_at spans literal)

abbrev pub own_free : Function → List Span → Option (List ℕ) → List (List ℕ)
own_free function spans literal = free_of function (parts_at spans literal)

abbrev pub own_regulars : Function → List Span → Option (List ℕ) → List Regular
own_regulars function spans literal = regulars_in_option (regular_of function (parts_at spans literal))

-- the answer of a pattern that was not built
abbrev pub refusal_of : PatternError → Span → AnalyzeError
refusal_of pattern_error.NotRead span = error.Broken BadRegex span
refusal_of pattern_error.TooLarge span = error.PatternRoom span
refusal_of (pattern_error.Memory memory) span = error.Memory memory

-- a regular expression is read, and these patterns are added
pub record IsRead (regular : Regular) (whole free : List (List ℕ)) (old new : Patterns) : Type 0 where
  pub accepted : is_accepted regular ≡ true
  pub wholes_are : new.whole ≡ old.whole ++ whole
  pub frees_are : new.free ≡ old.free ++ free

-- a regular expression, where it is accepted
abbrev pub if_read : Option Regular → Judgement Kind
if_read found accepts = if_accepted found (scope_of accepts []) kind.Null

abbrev pub IsReading : {U : Type 0} → Regular → List (List ℕ) → List (List ℕ) → Patterns → Patterns → Marks → Marks → Result U AnalyzeError → Type 0
IsReading regular whole free old new before after (Ok unit) = IsRead regular whole free old new × (after ≡ before)
IsReading regular whole free old new before after (Err error) = IsErrorOf (if_read (Some regular)) (regular ∷ []) before after error

-- a function's own pattern is read, and has its number
pub record IsPatternRead (function : Function) (spans : List Span) (literal : Option (List ℕ)) (old new : Patterns) (number : Option ℕ) : Type 0 where
  pub is : HasRoom old (own_whole function spans literal) (own_free function spans literal) → number ≡ pattern_number function (length old.whole) (length old.free)
  pub accepted : (regular : Regular) → regular_of function (parts_at spans literal) ≡ Some regular → is_accepted regular ≡ true
  pub whole : new.whole ≡ old.whole ++ own_whole function spans literal
  pub free : new.free ≡ old.free ++ own_free function spans literal

abbrev pub IsPatternAnswer : Function → List Span → Option (List ℕ) → Patterns → Patterns → Marks → Marks → Result (Option ℕ) AnalyzeError → Type 0
IsPatternAnswer function spans literal old new before after (Ok number) = IsPatternRead function spans literal old new number × (after ≡ before)
IsPatternAnswer function spans literal old new before after (Err error) =
    IsErrorOf (if_read (regular_of function (parts_at spans literal))) (own_regulars function spans literal) before after error

-- a function of typed parts
pub record IsCompleted (node : NodeId) (function : Function) (parts : Parts) (literal : Option (List ℕ)) (span : Span) (old new : Patterns) (typed : TypedExpr) : Type 0 where
  pub is : HasRoom old (own_whole function parts.spans literal) (own_free function parts.spans literal)
      → typed ≡ typed_apply node (function_in_plan function (parts_at parts.spans literal)) (arguments_in_plan function parts.args)
      (pattern_number function (length old.whole) (length old.free))
  pub fits : wrong_literal function (parts_at parts.spans literal) ≡ None
  pub kind : typed.kind ≡ kind_of_call (function_in_plan function (parts_at parts.spans literal)) (arguments_in_plan function (kinds_in parts.args))
  pub gives : Gives (own_kind function parts.spans literal (kinds_in parts.args) span) typed.kind
  pub whole : new.whole ≡ old.whole ++ own_whole function parts.spans literal
  pub free : new.free ≡ old.free ++ own_free function parts.spans literal

abbrev pub IsCompletion : NodeId → Function → Parts → Option (List ℕ) → Span → Patterns → Patterns → Marks → Marks → Result TypedExpr AnalyzeError → Type 0
IsCompletion node function parts literal span old new before after (Ok typed) = IsCompleted node function parts literal span old new typed × (after ≡ before)
IsCompletion node function parts literal span old new before after (Err error) =
    IsErrorOf (own_kind function parts.spans literal (kinds_in parts.args) span) (own_regulars function parts.spans literal) before after error
