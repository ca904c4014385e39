-- An expression has as many patterns of each kind as nodes at most.
use Rattle.std.proofs.Common.{◌≡◌, ℕ, ◌+◌, ◌≤◌, Bool, true, false, cond, List, [], ◌∷◌, ◌++◌, map, length, Option, Some, None, refl, ap, sym, subst, ◌∙◌, arith}
use Rattle.std.specs.List.{flat_map}
use Rattle.std.proofs.lemmas.List.{length-append}
use denote.Hole.Holds.{Such}
use Rattle.esql_types.specs.declared.places.Span.{Span}
use Rattle.esql_types.specs.declared.value.Kind.{Kind}
use Rattle.esql_types.specs.declared.value.Kind.TheVariants as kind
use Rattle.esql_types.specs.declared.value.Value.{Value}
use Rattle.esql_types.specs.declared.names.NodeId.{NodeId}
use Rattle.esql_ast.specs.declared.nodes.NodeAt.{NodeAt}
use Rattle.esql_ast.specs.declared.expr.Expr.{Expr}
use Rattle.esql_ast.specs.declared.expr.Form.{Form}
use Rattle.esql_ast.specs.declared.expr.Form.TheBlock.{the_family, member-Form, member-Expr}
use Rattle.esql_ast.specs.declared.expr.Form.TheOpen.{Expr-F, Form-F, Constant, List as Listed, Column, Group, Call, Minus, Not, Binary, Within, Like, IsNull, Cast}
use Rattle.esql_ast.specs.declared.expr.Form.TheViews.{roll-Form, roll-Expr}
use Rattle.esql_ast.specs.declared.expr.Form.TheFolds.{claims, map-Form, map-Expr, fold-Form, fold-roll-Form, fold-roll-Expr, ind-Expr}
use Rattle.esql_ast.specs.Nodes.{nodes_in, own_and_inner, nodes_of_expr, nodes_of_form}
use Rattle.esql_ast.proofs.Folds.{joined_map}
use Rattle.esql_plan.specs.declared.function.Function.{Function}
use Rattle.esql_plan.specs.declared.function.Function.TheVariants as function
use Rattle.esql_plan.specs.declared.function.AggFunction.{AggFunction}
use Rattle.esql_plan.specs.declared.names.FunctionRow.{FunctionRow}
use Rattle.esql_plan.specs.Names.{function_named, aggregate_named, cast_named}
use Rattle.row_semantics.specs.declared.rule.NameRule.TheVariants as rule
use Rattle.row_semantics.specs.Forms.{Part, Seen, constant, named, same, applied, aggregate, refused, seen, call_by, cast_by, list_in_kind, kind_of_list, constant_in, part_of_form, part_of, pattern_part, arguments_in_plan}
use Rattle.row_semantics.specs.Typed.{Typing, typing, typing_of, literals_of, whole_of, free_of}

-- patterns of each kind, at most so many
pub record AtMost (count : ℕ) (these : Typing) : Type 0 where
  pub whole : length these.whole ≤ count
  pub free : length these.free ≤ count

abbrev wholes : List (Part Typing) → List (List ℕ)
wholes parts = flat_map (λ (part : Part Typing). part.reading.whole) parts

abbrev frees : List (Part Typing) → List (List ℕ)
frees parts = flat_map (λ (part : Part Typing). part.reading.free) parts

record PartsAtMost (count : ℕ) (parts : List (Part Typing)) : Type 0 where
  whole : length (wholes parts) ≤ count
  free : length (frees parts) ≤ count

none_at_most : (count : ℕ) → PartsAtMost count []
none_at_most count = record { whole = omega arith; free = omega arith }

both_at_most : (one more : ℕ) (part : Part Typing) (parts : List (Part Typing)) → AtMost one part.reading → PartsAtMost more parts → PartsAtMost (one + more) (part ∷ parts)
both_at_most one more part parts first rest = record {
  whole = omega (arith, first.whole, rest.whole, length-append part.reading.whole (wholes parts));
  free = omega (arith, first.free, rest.free, length-append part.reading.free (frees parts));
}

-- the arguments in the plan are parts
arguments_at_most : (count : ℕ) (function : Function) (parts : List (Part Typing)) → PartsAtMost count parts → PartsAtMost count (arguments_in_plan function parts)
arguments_at_most count function.MvSort (part ∷ parts) most = record {
  whole = omega (arith, most.whole, length-append part.reading.whole (wholes parts), length-append part.reading.whole []);
  free = omega (arith, most.free, length-append part.reading.free (frees parts), length-append part.reading.free []);
}
arguments_at_most count function.MvSort [] most = most
arguments_at_most count other parts most = most

literals_at_most : (literal : Option (List ℕ)) → length (literals_of literal) ≤ 1
literals_at_most None = omega arith
literals_at_most (Some text) = omega arith

wrapped_at_most : (wrap : List ℕ → List ℕ) (literal : Option (List ℕ)) → length (map wrap (literals_of literal)) ≤ 1
wrapped_at_most wrap None = omega arith
wrapped_at_most wrap (Some text) = omega arith

whole_at_most : (function : Function) (parts : List (Part Typing)) → length (whole_of function parts) ≤ 1
whole_at_most function.Rlike (left ∷ pattern ∷ rest) = wrapped_at_most _ pattern.literal
whole_at_most function.NotRlike (left ∷ pattern ∷ rest) = wrapped_at_most _ pattern.literal
whole_at_most other parts = omega arith

free_at_most : (function : Function) (parts : List (Part Typing)) → length (free_of function parts) ≤ 1
free_at_most function.Replace (text ∷ pattern ∷ rest) = literals_at_most pattern.literal
free_at_most other parts = omega arith

-- forms ---------------------------------------------------------------------------------------------------------------------

abbrev SeenAtMost : ℕ → Seen Typing → Type 0
SeenAtMost count (constant values kind) = Unit {0}
SeenAtMost count (named name) = Unit {0}
SeenAtMost count (same part) = AtMost count part.reading
SeenAtMost count (applied function parts) = PartsAtMost count parts
SeenAtMost count (aggregate function star parts) = Unit {0}
SeenAtMost count (refused parts rule at) = Unit {0}

typing_at_most : (count : ℕ) (node : NodeId) (span : Span) (form : Seen Typing) → SeenAtMost count form → AtMost (1 + count) (typing node span form)
typing_at_most count node span (constant values kind) most = record { whole = omega arith; free = omega arith }
typing_at_most count node span (named name) most = record { whole = omega arith; free = omega arith }
typing_at_most count node span (same part) most = record { whole = omega (arith, most.whole); free = omega (arith, most.free) }
typing_at_most count node span (applied function parts) most =
    let arguments = arguments_at_most count function parts most in
    let these : List (Part Typing) = arguments_in_plan function parts in
    record {
      whole = omega (arith, arguments.whole, whole_at_most function parts, length-append (wholes these) (whole_of function parts));
      free = omega (arith, arguments.free, free_at_most function parts, length-append (frees these) (free_of function parts));
    }
typing_at_most count node span (aggregate function star parts) most = record { whole = omega arith; free = omega arith }
typing_at_most count node span (refused parts rule at) most = record { whole = omega arith; free = omega arith }

list_at_most : (count : ℕ) (values : List Value) (found : Option Kind) (span : Span) → SeenAtMost count (list_in_kind values found span)
list_at_most count values (Some kind.Long) span = tt
list_at_most count values (Some other) span = tt
list_at_most count values None span = tt

constant_at_most : (count : ℕ) (cell : List Value) (span : Span) → SeenAtMost count (constant_in cell span)
constant_at_most count [] span = tt
constant_at_most count (value ∷ values) span = list_at_most count (value ∷ values) (kind_of_list (value ∷ values)) span

taken_at_most : (count : ℕ) (row : FunctionRow) (parts : List (Part Typing)) (span : Span) (taken : Bool) → PartsAtMost count parts
    → SeenAtMost count (cond taken (applied row.function parts) (refused [] rule.BadArguments span))
taken_at_most count row parts span true most = most
taken_at_most count row parts span false most = tt

call_at_most : (count : ℕ) (found : Option FunctionRow) (other : Option AggFunction) (name : Span) (star : Bool) (parts : List (Part Typing)) (span : Span) → PartsAtMost count parts
    → SeenAtMost count (call_by found other name star parts span)
call_at_most count (Some row) other name true parts span most = tt
call_at_most count (Some row) other name false parts span most = taken_at_most count row parts span _ most
call_at_most count None (Some called) name star parts span most = tt
call_at_most count None None name star parts span most = tt

cast_at_most : (count : ℕ) (found : Option Function) (part : Part Typing) (name : Span) → PartsAtMost count (part ∷ []) → SeenAtMost count (cast_by found part name)
cast_at_most count (Some written) part name most = most
cast_at_most count None part name most = tt

-- expressions ---------------------------------------------------------------------------------------------------------------

abbrev in_form : Form → NodeId → Span → Part Typing
in_form = fold-Form (NodeId → Span → Part Typing) (Part Typing) (part_of_form typing) (λ e. e.form e.node e.span)

-- an expression has a node, and as many patterns as nodes at most
abbrev ExprCounts : Expr → Type 0
ExprCounts expr = AtMost (length (nodes_of_expr expr)) (part_of typing expr).reading × (1 ≤ length (nodes_of_expr expr))

abbrev FormCounts : Form → Type 0
FormCounts form = (node : NodeId) (span : Span) → AtMost (1 + length (nodes_of_form form)) (in_form form node span).reading

abbrev GoodForm : Type 0
GoodForm = Such the_family (claims FormCounts ExprCounts) member-Form

abbrev GoodExpr : Type 0
GoodExpr = Such the_family (claims FormCounts ExprCounts) member-Expr

abbrev the_expr : GoodExpr → Expr
the_expr good = good.0

abbrev the_form : GoodForm → Form
the_form good = good.0

abbrev layer_of : Form-F GoodForm GoodExpr → Form-F Form Expr
layer_of = map-Form GoodForm GoodExpr Form Expr the_form the_expr

abbrev layer_in : Form-F Form Expr → Form-F (NodeId → Span → Part Typing) (Part Typing)
layer_in = map-Form Form Expr (NodeId → Span → Part Typing) (Part Typing) in_form (part_of typing)

all_at_most : (goods : List GoodExpr) → PartsAtMost (length (flat_map nodes_of_expr (map the_expr goods))) (map (part_of typing) (map the_expr goods))
all_at_most [] = none_at_most 0
all_at_most (good ∷ goods) =
    let rest : List Expr = map the_expr goods in
    let both = both_at_most _ _ (part_of typing good.0) (map (part_of typing) rest) good.1.0 (all_at_most goods) in
    subst (λ (count : ℕ). PartsAtMost count (map (part_of typing) (map the_expr (good ∷ goods)))) (sym (length-append (nodes_of_expr good.0) (flat_map nodes_of_expr rest))) both

carried : (layer : Form-F Form Expr) (nodes : List NodeAt) → nodes_in (map-Form Form Expr (List NodeAt) (List NodeAt) nodes_of_form nodes_of_expr layer) ≡ nodes
    → ((node : NodeId) (span : Span) → SeenAtMost (length nodes) (seen typing node span (layer_in layer))) → FormCounts (roll-Form layer)
carried layer nodes are most node span =
    let count : length nodes ≡ length (nodes_of_form (roll-Form layer)) = ap length (sym (fold-roll-Form (List NodeAt) (List NodeAt) nodes_in own_and_inner layer ∙ are)) in
    let is = ap (λ f. (f node span).reading) (fold-roll-Form (NodeId → Span → Part Typing) (Part Typing) (part_of_form typing) (λ e. e.form e.node e.span) layer) in
    subst (AtMost (1 + length (nodes_of_form (roll-Form layer)))) (sym is)
    (subst (λ (n : ℕ). AtMost (1 + n) (typing node span (seen typing node span (layer_in layer)))) count (typing_at_most (length nodes) node span (seen typing node span (layer_in layer)) (most node span)))

one : (count : ℕ) (part : Part Typing) → AtMost count part.reading → PartsAtMost count (part ∷ [])
one count part most =
    subst (λ (n : ℕ). PartsAtMost n (part ∷ [])) (let e : count + 0 ≡ count = omega arith in e) (both_at_most count 0 part [] most (none_at_most 0))

two : (first second : ℕ) (left right : Part Typing) → AtMost first left.reading → AtMost second right.reading → PartsAtMost (first + second) (left ∷ right ∷ [])
two first second left right most also = both_at_most first second left (right ∷ []) most (one second right also)

form_counts : (layer : Form-F GoodForm GoodExpr) → FormCounts (roll-Form (layer_of layer))
form_counts (Constant cell kind) = carried (layer_of (Constant cell kind)) [] refl (λ node span. constant_at_most 0 cell span)
form_counts (Listed values) = carried (layer_of (Listed values)) [] refl (λ node span. list_at_most 0 values (kind_of_list values) span)
form_counts (Column name) = carried (layer_of (Column name)) [] refl (λ node span. tt)
form_counts (Group inner) = carried (layer_of (Group inner)) (nodes_of_expr inner.0) refl (λ node span. inner.1.0)
form_counts (Call called args star) =
    let exprs : List Expr = map the_expr args in
    carried (layer_of (Call called args star)) (flat_map nodes_of_expr exprs) (joined_map nodes_of_expr exprs)
    (λ node span. call_at_most _ (function_named called.name) (aggregate_named called.name) called.span star (map (part_of typing) exprs) span (all_at_most args))
form_counts (Minus arg) = carried (layer_of (Minus arg)) (nodes_of_expr arg.0) refl (λ node span. one _ (part_of typing arg.0) arg.1.0)
form_counts (Not arg) = carried (layer_of (Not arg)) (nodes_of_expr arg.0) refl (λ node span. one _ (part_of typing arg.0) arg.1.0)
form_counts (Binary op left right) =
    carried (layer_of (Binary op left right)) (nodes_of_expr left.0 ++ nodes_of_expr right.0) refl
    (λ node span. subst (λ (n : ℕ). PartsAtMost n (part_of typing left.0 ∷ part_of typing right.0 ∷ [])) (sym (length-append (nodes_of_expr left.0) (nodes_of_expr right.0)))
    (two _ _ (part_of typing left.0) (part_of typing right.0) left.1.0 right.1.0))
form_counts (Within negated left items) =
    let exprs : List Expr = map the_expr items in
    carried (layer_of (Within negated left items)) (nodes_of_expr left.0 ++ flat_map nodes_of_expr exprs) (ap (λ (nodes : List NodeAt). nodes_of_expr left.0 ++ nodes) (joined_map nodes_of_expr exprs))
    (λ node span. subst (λ (n : ℕ). PartsAtMost n (part_of typing left.0 ∷ map (part_of typing) exprs)) (sym (length-append (nodes_of_expr left.0) (flat_map nodes_of_expr exprs)))
    (both_at_most _ _ (part_of typing left.0) (map (part_of typing) exprs) left.1.0 (all_at_most items)))
form_counts (Like negated regex left pattern) =
    carried (layer_of (Like negated regex left pattern)) (nodes_of_expr left.0) refl
    (λ node span.
    let pair = two (length (nodes_of_expr left.0)) 0 (part_of typing left.0) (pattern_part typing node pattern) left.1.0 (record { whole = omega arith; free = omega arith }) in
    subst (λ (n : ℕ). PartsAtMost n (part_of typing left.0 ∷ pattern_part typing node pattern ∷ [])) (let e : length (nodes_of_expr left.0) + 0 ≡ length (nodes_of_expr left.0) = omega arith in e) pair)
form_counts (IsNull negated arg) = carried (layer_of (IsNull negated arg)) (nodes_of_expr arg.0) refl (λ node span. one _ (part_of typing arg.0) arg.1.0)
form_counts (Cast arg kind) =
    carried (layer_of (Cast arg kind)) (nodes_of_expr arg.0) refl
    (λ node span. cast_at_most _ (cast_named kind.name) (part_of typing arg.0) kind.span (one _ (part_of typing arg.0) arg.1.0))

own_counts : (own : Expr-F Form Expr) → FormCounts own.form → ExprCounts (roll-Expr own)
own_counts own form =
    let nodes : List NodeAt = nodes_of_form own.form in
    let count : 1 + length nodes ≡ length (nodes_of_expr (roll-Expr own)) = (let e : 1 + length nodes ≡ length (own_and_inner (record { node = own.node; span = own.span; form = nodes })) = omega arith in e) ∙ ap length (sym (fold-roll-Expr (List NodeAt) (List NodeAt) nodes_in own_and_inner own)) in
    let is = ap (λ (part : Part Typing). part.reading) (fold-roll-Expr (NodeId → Span → Part Typing) (Part Typing) (part_of_form typing) (λ e. e.form e.node e.span) own) in
    (subst (AtMost (length (nodes_of_expr (roll-Expr own)))) (sym is) (subst (λ (n : ℕ). AtMost n (in_form own.form own.node own.span).reading) count (form own.node own.span)), omega (arith, count))

expr_counts : (expr : Expr) → ExprCounts expr
expr_counts =
    ind-Expr FormCounts ExprCounts (λ layer goods is. let P : Form-F Form Expr → Type 0 = λ these. FormCounts (roll-Form these) in subst P is (form_counts goods))
    (λ own good is. let P : Expr-F Form Expr → Type 0 = λ this. ExprCounts (roll-Expr this) in subst P is (own_counts (map-Expr GoodForm GoodExpr Form Expr the_form the_expr good) good.form.1))

-- an expression has as many patterns of each kind as nodes at most
pub patterns_at_most : (expr : Expr) → AtMost (length (nodes_of_expr expr)) (typing_of expr)
patterns_at_most expr = (expr_counts expr).0

pub some_node : (expr : Expr) → 1 ≤ length (nodes_of_expr expr)
some_node expr = (expr_counts expr).1
