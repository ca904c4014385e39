-- The typed form of an expression that breaks no rule is well formed, where its patterns stand at its numbers.
use Rattle.std.proofs.Common.{◌≡◌, ℕ, suc, nat_le, Bool, true, false, cond, ◌&&◌, List, [], ◌∷◌, map, length, All, Option, Some, None, is_some, Ok, refl, ap, sym, subst, ◌∙◌, if◌then◌else◌, arith}
use Rattle.std.proofs.lemmas.Bool.Decides.{nat_tests}
use Rattle.std.proofs.lemmas.List.Elements.{All-nil, All-cons}
use denote.Hole.Holds.{Such}
use Rattle.esql_types.specs.declared.places.Span.{Span}
use Rattle.esql_types.specs.declared.value.Kind.{Kind}
use Rattle.esql_types.specs.declared.value.Kind.TheVariants as kind
use Rattle.esql_types.specs.declared.value.Value.{Value}
use Rattle.esql_types.specs.declared.value.Value.TheVariants as value
use Rattle.esql_types.specs.declared.names.NodeId.{NodeId}
use Rattle.esql_ast.specs.declared.expr.BinaryOp.{BinaryOp}
use Rattle.esql_ast.specs.declared.expr.BinaryOp.TheVariants as operator
use Rattle.esql_ast.specs.declared.expr.Expr.{Expr}
use Rattle.esql_ast.specs.declared.expr.Form.{Form}
use Rattle.esql_ast.specs.declared.expr.Form.TheBlock.{the_family, member-Form, member-Expr}
use Rattle.esql_ast.specs.declared.expr.Form.TheOpen.{Expr-F, Form-F, Constant, List as Listed, Column, Group, Call, Minus, Not, Binary, Within, Like, IsNull, Cast}
use Rattle.esql_ast.specs.declared.expr.Form.TheViews.{roll-Form, roll-Expr}
use Rattle.esql_ast.specs.declared.expr.Form.TheFolds.{claims, map-Form, map-Expr, fold-Form, fold-roll-Form, fold-roll-Expr, ind-Expr}
use Rattle.esql_plan.specs.declared.function.Function.{Function}
use Rattle.esql_plan.specs.declared.function.Function.TheVariants as function
use Rattle.esql_plan.specs.declared.function.AggFunction.{AggFunction}
use Rattle.esql_plan.specs.declared.names.FunctionRow.{FunctionRow}
use Rattle.esql_plan.specs.declared.plan.OutColumn.{OutColumn}
use Rattle.esql_plan.specs.Names.{function_named, aggregate_named, cast_named}
use Rattle.esql_plan.specs.Fits.{Part as PlanPart, ExprFits, part_of as plan_part, has_kind}
use Rattle.esql_plan.proofs.TypedFolds.{part_of_constant, part_of_column}
use Rattle.row_semantics.specs.declared.rule.NameRule.TheVariants as rule
use Rattle.row_semantics.specs.Forms.{Part, Seen, constant, named, same, applied, aggregate, refused, seen, call_by, takes, cast_by, list_in_kind, kind_of_list, constant_in, function_of, like_function, literal_of, literal_of_constant, part_of_form, part_of, pattern_part}
use Rattle.row_semantics.specs.Scopes.{Scope}
use Rattle.row_semantics.specs.Kinds.{Judged, judged, kind_or_rule}
use Rattle.row_semantics.specs.declared.call.CallColumn.{CallColumn}
use Rattle.row_semantics.specs.Typed.{Visible, Typing, visible_named, call_at, typed_null, typed_column, typed_call, kind_of_called, typing, typing_of, typed_of}
use Rattle.query_semantics.proofs.Readings.{parts_with, seen_with, read_made}
use Rattle.query_semantics.proofs.Kinded.{StandsOver, Both, typing_in, judged_in, both}
use Rattle.written_laws.proofs.Numbers.{HasAt}
use Rattle.written_laws.proofs.RowsFit.{RowFits, CastFits, named_fits, cast_fits}
use Rattle.written_laws.proofs.KindsOfValues.{HaveKind, list_has}
use Rattle.written_laws.proofs.CallsFit.{PartFits, AppliedFits, applied_fits}

-- the parts of what an expression is seen as are well formed, and so is the form itself
abbrev SeenFits : Seen Both → Type 0
SeenFits (constant values kind) = has_kind kind values ≡ true
SeenFits (named name) = Unit {0}
SeenFits (same part) = PartFits part
SeenFits (applied written parts) = AppliedFits written parts
SeenFits (aggregate called star parts) = Unit {0}
SeenFits (refused parts rule at) = Unit {0}

module _ (whole free : List (List ℕ)) where
  constant_fits : (node : NodeId) (kind : Kind) (values : List Value) (visible : Visible) (at_whole at_free : ℕ) → has_kind kind values ≡ true
      → ExprFits whole free ((typing node (record { from = 0; to = 0 }) (constant values kind)).at visible at_whole at_free)
  constant_fits node kind values visible at_whole at_free has = ap (λ (part : PlanPart). part.fits) (part_of_constant whole free _ values refl) ∙ has

  null_fits : (node : NodeId) → ExprFits whole free (typed_null node)
  null_fits node = ap (λ (part : PlanPart). part.fits) (part_of_constant whole free (typed_null node) [] refl)

  column_fits : (node : NodeId) (found : Option OutColumn) → ExprFits whole free (typed_column node found)
  column_fits node None = null_fits node
  column_fits node (Some column) = ap (λ (part : PlanPart). part.fits) (part_of_column whole free (typed_column node (Some column)) column.id refl)

  call_fits : (node : NodeId) (kind : Kind) (found : Option CallColumn) → ExprFits whole free (typed_call node kind found)
  call_fits node kind None = ap (λ (part : PlanPart). part.fits) (part_of_constant whole free (typed_call node kind None) [] refl)
  call_fits node kind (Some call) = ap (λ (part : PlanPart). part.fits) (part_of_column whole free (typed_call node kind (Some call)) call.id refl)

seen_fits : (node : NodeId) (span : Span) (form : Seen Both) → SeenFits form → (visible : Visible) (scope : Scope) (kind : Kind) → StandsOver visible scope
    → judged node span (seen_with judged_in form) scope ≡ Ok kind → (at_whole at_free : ℕ) (whole free : List (List ℕ))
    → HasAt whole at_whole (typing node span (seen_with typing_in form)).whole → HasAt free at_free (typing node span (seen_with typing_in form)).free
    → ExprFits whole free ((typing node span (seen_with typing_in form)).at visible at_whole at_free)
seen_fits node span (constant values own) has visible scope kind stands is at_whole at_free whole free wholes_at frees_at = constant_fits whole free node own values visible at_whole at_free has
seen_fits node span (named name) has visible scope kind stands is at_whole at_free whole free wholes_at frees_at = column_fits whole free node (visible_named visible.columns name)
seen_fits node span (same part) has visible scope kind stands is at_whole at_free whole free wholes_at frees_at = has.fits visible scope kind stands is at_whole at_free whole free wholes_at frees_at
seen_fits node span (applied written parts) has visible scope kind stands is at_whole at_free whole free wholes_at frees_at =
    applied_fits visible scope stands whole free node span written parts kind has is at_whole at_free wholes_at frees_at
seen_fits node span (aggregate called star parts) has visible scope kind stands is at_whole at_free whole free wholes_at frees_at =
    call_fits whole free node (kind_of_called called star (parts_with typing_in parts) visible) (call_at visible.calls node)
seen_fits node span (refused parts rule at) has visible scope kind stands is at_whole at_free whole free wholes_at frees_at = null_fits whole free node

-- forms that are told by more than their constructor --------------------------------------------------------------------------

list_fits : (values : List Value) (found : Option Kind) (span : Span) → HaveKind values found → SeenFits (list_in_kind values found span)
list_fits values (Some kind.Long) span has = has
list_fits values (Some kind.Integer) span has = has
list_fits values (Some kind.Boolean) span has = has
list_fits values (Some kind.Keyword) span has = has
list_fits values (Some kind.Null) span has = has
list_fits values None span has = tt

constant_seen : (cell : List Value) (span : Span) → SeenFits (constant_in cell span)
constant_seen [] span = refl
constant_seen (value ∷ values) span = list_fits (value ∷ values) (kind_of_list (value ∷ values)) span (list_has (value ∷ values))

taken_fits : (row : FunctionRow) (parts : List (Part Both)) (span : Span) (taken : Bool) → RowFits Both row → All PartFits parts → takes row (length parts) ≡ taken
    → SeenFits (cond taken (applied row.function parts) (refused [] rule.BadArguments span))
taken_fits row parts span true fits each is = record { each = each; count = fits.count parts is; pattern = fits.pattern parts }
taken_fits row parts span false fits each is = tt

called_fits : (found : Option FunctionRow) (other : Option AggFunction) (name : Span) (star : Bool) (parts : List (Part Both)) (span : Span)
    → ((row : FunctionRow) → found ≡ Some row → RowFits Both row) → All PartFits parts → SeenFits (call_by found other name star parts span)
called_fits (Some row) other name true parts span fits each = tt
called_fits (Some row) other name false parts span fits each = taken_fits row parts span (takes row (length parts)) (fits row refl) each refl
called_fits None (Some called) name star parts span fits each = tt
called_fits None None name star parts span fits each = tt

one : (part : Part Both) → PartFits part → All PartFits (part ∷ [])
one part fits = All-cons PartFits part [] fits (All-nil PartFits)

two : (first second : Part Both) → PartFits first → PartFits second → All PartFits (first ∷ second ∷ [])
two first second fits also = All-cons PartFits first (second ∷ []) fits (one second also)

converted_fits : (found : Option Function) (part : Part Both) (name : Span) → ((function : Function) → found ≡ Some function → CastFits Both function) → PartFits part
    → SeenFits (cast_by found part name)
converted_fits (Some function) part name fits has =
    let own = fits function refl in record { each = one part has; count = own.count part; pattern = own.pattern part }
converted_fits None part name fits has = tt

binary_fits : (op : BinaryOp) (left right : Part Both) → All PartFits (left ∷ right ∷ []) → AppliedFits (function_of op) (left ∷ right ∷ [])
binary_fits operator.Add left right each = record { each = each; count = refl; pattern = tt }
binary_fits operator.Sub left right each = record { each = each; count = refl; pattern = tt }
binary_fits operator.Mul left right each = record { each = each; count = refl; pattern = tt }
binary_fits operator.Div left right each = record { each = each; count = refl; pattern = tt }
binary_fits operator.Mod left right each = record { each = each; count = refl; pattern = tt }
binary_fits operator.Eq left right each = record { each = each; count = refl; pattern = tt }
binary_fits operator.Ne left right each = record { each = each; count = refl; pattern = tt }
binary_fits operator.Lt left right each = record { each = each; count = refl; pattern = tt }
binary_fits operator.Le left right each = record { each = each; count = refl; pattern = tt }
binary_fits operator.Gt left right each = record { each = each; count = refl; pattern = tt }
binary_fits operator.Ge left right each = record { each = each; count = refl; pattern = tt }
binary_fits operator.And left right each = record { each = each; count = refl; pattern = tt }
binary_fits operator.Or left right each = record { each = each; count = refl; pattern = tt }

like_fits : (negated regex : Bool) (left pattern : Part Both) → All PartFits (left ∷ pattern ∷ []) → is_some pattern.literal ≡ true → AppliedFits (like_function negated regex) (left ∷ pattern ∷ [])
like_fits false false left pattern each given = record { each = each; count = refl; pattern = given }
like_fits true false left pattern each given = record { each = each; count = refl; pattern = given }
like_fits false true left pattern each given = record { each = each; count = refl; pattern = given }
like_fits true true left pattern each given = record { each = each; count = refl; pattern = given }

at_least : (count : ℕ) → (nat_le 1 (suc count) && true) ≡ true
at_least count = grind (arith, nat_tests)

within_fits : (negated : Bool) (left : Part Both) (items : List (Part Both)) → All PartFits (left ∷ items)
    → AppliedFits (if negated then function.NotIn else function.In) (left ∷ items)
within_fits false left items each = record { each = each; count = at_least (length items); pattern = tt }
within_fits true left items each = record { each = each; count = at_least (length items); pattern = tt }

null_test_fits : (negated : Bool) (arg : Part Both) → All PartFits (arg ∷ []) → AppliedFits (if negated then function.IsNotNull else function.IsNull) (arg ∷ [])
null_test_fits false arg each = record { each = each; count = refl; pattern = tt }
null_test_fits true arg each = record { each = each; count = refl; pattern = tt }

-- a literal text is a constant of this text
abbrev LiteralIs : Option (List ℕ) → Seen Both → Type 0
LiteralIs literal form = (text : List ℕ) → literal ≡ Some text → form ≡ constant (value.Text text ∷ []) kind.Keyword

constant_literal : (cell : List Value) (span : Span) → LiteralIs (literal_of_constant cell) (constant_in cell span)
constant_literal [] span text is = absurd cc
constant_literal (value.Int number ∷ rest) span text is = absurd cc
constant_literal (value.Long number ∷ rest) span text is = absurd cc
constant_literal (value.Bool truth ∷ rest) span text is = absurd cc
constant_literal (value.Text own ∷ []) span text is = let same : own ≡ text = cc in ap (λ (these : List ℕ). constant (value.Text these ∷ []) kind.Keyword) same
constant_literal (value.Text own ∷ next ∷ rest) span text is = absurd cc

part_fits : (node : NodeId) (span own : Span) (literal : Option (List ℕ)) (form : Seen Both) → LiteralIs literal form → SeenFits form
    → PartFits (record { span = own; literal = literal; reading = both node span form })
part_fits node span own literal form literal_is fits = record {
  literal = λ text is visible at_whole at_free whole free.
      ap (λ (these : Seen Both). (plan_part whole free ((typing node span (seen_with typing_in these)).at visible at_whole at_free)).literal) (literal_is text is)
      ∙ ap (λ (part : PlanPart). part.literal) (part_of_constant whole free _ (value.Text text ∷ []) refl);
  fits = seen_fits node span form fits;
}

-- expressions -------------------------------------------------------------------------------------------------------------------

abbrev in_form : Form → NodeId → Span → Part Both
in_form = fold-Form (NodeId → Span → Part Both) (Part Both) (part_of_form both) (λ e. e.form e.node e.span)

abbrev ExprGood : Expr → Type 0
ExprGood expr = PartFits (part_of both expr)

abbrev FormGood : Form → Type 0
FormGood form = (node : NodeId) (span : Span) → PartFits (in_form form node span)

abbrev GoodForm : Type 0
GoodForm = Such the_family (claims FormGood ExprGood) member-Form

abbrev GoodExpr : Type 0
GoodExpr = Such the_family (claims FormGood ExprGood) member-Expr

abbrev the_expr : GoodExpr → Expr
the_expr good = good.0

abbrev the_form : GoodForm → Form
the_form good = good.0

abbrev layer_of : Form-F GoodForm GoodExpr → Form-F Form Expr
layer_of = map-Form GoodForm GoodExpr Form Expr the_form the_expr

abbrev layer_in : Form-F Form Expr → Form-F (NodeId → Span → Part Both) (Part Both)
layer_in = map-Form Form Expr (NodeId → Span → Part Both) (Part Both) in_form (part_of both)

all_good : (goods : List GoodExpr) → All PartFits (map (part_of both) (map the_expr goods))
all_good [] = All-nil PartFits
all_good (good ∷ goods) = All-cons PartFits (part_of both good.0) (map (part_of both) (map the_expr goods)) good.1 (all_good goods)

-- a layer of a form, by what it is seen as
carried : (layer : Form-F Form Expr)
    → ((node : NodeId) (span : Span) → LiteralIs (literal_of (layer_in layer)) (seen both node span (layer_in layer)))
    → ((node : NodeId) (span : Span) → SeenFits (seen both node span (layer_in layer)))
    → FormGood (roll-Form layer)
carried layer literal fits node span =
    let is = ap (λ f. f node span) (fold-roll-Form (NodeId → Span → Part Both) (Part Both) (part_of_form both) (λ e. e.form e.node e.span) layer) in
    subst PartFits (sym is) (part_fits node span span (literal_of (layer_in layer)) (seen both node span (layer_in layer)) (literal node span) (fits node span))

no_literal : (form : Seen Both) → LiteralIs None form
no_literal form text is = absurd cc

form_good : (layer : Form-F GoodForm GoodExpr) → FormGood (roll-Form (layer_of layer))
form_good (Constant cell kind) = carried (layer_of (Constant cell kind)) (λ node span. constant_literal cell span) (λ node span. constant_seen cell span)
form_good (Listed values) = carried (layer_of (Listed values)) (λ node span. no_literal _) (λ node span. list_fits values (kind_of_list values) span (list_has values))
form_good (Column name) = carried (layer_of (Column name)) (λ node span. no_literal _) (λ node span. tt)
form_good (Group inner) = carried (layer_of (Group inner)) (λ node span. no_literal _) (λ node span. inner.1)
form_good (Call called args star) =
    carried (layer_of (Call called args star)) (λ node span. no_literal _)
    (λ node span. called_fits (function_named called.name) (aggregate_named called.name) called.span star (map (part_of both) (map the_expr args)) span (named_fits called.name) (all_good args))
form_good (Minus arg) =
    carried (layer_of (Minus arg)) (λ node span. no_literal _) (λ node span. record { each = one (part_of both arg.0) arg.1; count = refl; pattern = tt })
form_good (Not arg) =
    carried (layer_of (Not arg)) (λ node span. no_literal _) (λ node span. record { each = one (part_of both arg.0) arg.1; count = refl; pattern = tt })
form_good (Binary op left right) =
    carried (layer_of (Binary op left right)) (λ node span. no_literal _)
    (λ node span. binary_fits op (part_of both left.0) (part_of both right.0) (two (part_of both left.0) (part_of both right.0) left.1 right.1))
form_good (Within negated left items) =
    carried (layer_of (Within negated left items)) (λ node span. no_literal _)
    (λ node span. within_fits negated (part_of both left.0) (map (part_of both) (map the_expr items))
    (All-cons PartFits (part_of both left.0) (map (part_of both) (map the_expr items)) left.1 (all_good items)))
form_good (Like negated regex left pattern) =
    carried (layer_of (Like negated regex left pattern)) (λ node span. no_literal _)
    (λ node span. like_fits negated regex (part_of both left.0) (pattern_part both node pattern)
    (two (part_of both left.0) (pattern_part both node pattern) left.1
    (part_fits node pattern.span pattern.span (Some pattern.text) (constant (value.Text pattern.text ∷ []) kind.Keyword)
    (λ text is. let same : pattern.text ≡ text = cc in ap (λ (these : List ℕ). constant (value.Text these ∷ []) kind.Keyword) same) refl))
    refl)
form_good (IsNull negated arg) =
    carried (layer_of (IsNull negated arg)) (λ node span. no_literal _) (λ node span. null_test_fits negated (part_of both arg.0) (one (part_of both arg.0) arg.1))
form_good (Cast arg kind) =
    carried (layer_of (Cast arg kind)) (λ node span. no_literal _)
    (λ node span. converted_fits (cast_named kind.name) (part_of both arg.0) kind.span (cast_fits kind.name) arg.1)

own_good : (own : Expr-F Form Expr) → FormGood own.form → ExprGood (roll-Expr own)
own_good own form =
    let is = fold-roll-Expr (NodeId → Span → Part Both) (Part Both) (part_of_form both) (λ e. e.form e.node e.span) own in
    subst PartFits (sym is) (form own.node own.span)

expr_good : (expr : Expr) → ExprGood expr
expr_good =
    ind-Expr FormGood ExprGood (λ layer goods is. let P : Form-F Form Expr → Type 0 = λ these. FormGood (roll-Form these) in subst P is (form_good goods))
    (λ own good is. let P : Expr-F Form Expr → Type 0 = λ this. ExprGood (roll-Expr this) in subst P is (own_good (map-Expr GoodForm GoodExpr Form Expr the_form the_expr good) good.form.1))

-- the typed form of an expression that breaks no rule is well formed
pub expr_fits : (expr : Expr) (visible : Visible) (scope : Scope) (kind : Kind) → StandsOver visible scope → kind_or_rule expr scope ≡ Ok kind
    → (at_whole at_free : ℕ) (whole free : List (List ℕ)) → HasAt whole at_whole (typing_of expr).whole → HasAt free at_free (typing_of expr).free
    → ExprFits whole free (typed_of expr visible at_whole at_free)
expr_fits expr visible scope kind stands is at_whole at_free whole free wholes_at frees_at =
    let typed : typing_of expr ≡ (part_of both expr).reading.typing = read_made Both Typing both typing typing_in (record { is = λ node span seen. refl }) expr in
    let read : kind_or_rule expr ≡ (part_of both expr).reading.judged = read_made Both Judged both judged judged_in (record { is = λ node span seen. refl }) expr in
    ap (λ (these : Typing). (plan_part whole free (these.at visible at_whole at_free)).fits) typed
    ∙ (expr_good expr).fits visible scope kind stands (sym (ap (λ (these : Judged). these scope) read) ∙ is) at_whole at_free whole free
    (subst (λ (these : Typing). HasAt whole at_whole these.whole) typed wholes_at) (subst (λ (these : Typing). HasAt free at_free these.free) typed frees_at)
