-- The regular expressions in the arguments of aggregate calls are among those of the expression, where it breaks no rule.
use Rattle.std.proofs.Common.{◌≡◌, inl, inr, ℕ, Bool, true, false, cond, List, [], ◌∷◌, ◌++◌, map, length, All, Option, Some, None, Result, Ok, Err, ap, sym, subst, ◌∙◌}
use Rattle.std.proofs.lemmas.List.{append-nil, length-map}
use Rattle.std.proofs.lemmas.List.Elements.{All-head, All-tail}
use Rattle.std.proofs.lemmas.Grind.{flat_map-append}
use Rattle.esql_types.specs.declared.places.Span.{Span}
use Rattle.esql_types.specs.declared.names.NodeId.{NodeId}
use Rattle.esql_types.specs.declared.value.Kind.{Kind}
use Rattle.esql_ast.specs.declared.expr.Expr.{Expr}
use Rattle.esql_ast.specs.declared.expr.Form.{Form}
use Rattle.esql_ast.specs.declared.expr.Form.TheOpen.{Form-F, Constant, List as Listed, Column, Group, Call, Minus, Not, Binary, Within, Like, IsNull, Cast}
use Rattle.esql_plan.specs.declared.function.Function.{Function}
use Rattle.esql_plan.specs.declared.function.AggFunction.{AggFunction}
use Rattle.esql_plan.specs.declared.names.FunctionRow.{FunctionRow}
use Rattle.esql_plan.specs.Names.{function_named, aggregate_named, cast_named}
use Rattle.row_semantics.specs.declared.rule.NameRule.TheVariants as rule
use Rattle.row_semantics.specs.Forms.{Part, applied, refused, Reader, part_of_form, part_of, read_by, seen, call_by, cast_by, takes, pattern_part}
use Rattle.row_semantics.specs.Kinds.{Judged, judged, and_then, kinds_of_parts, kind_of_applied, kind_or_rule, breaks}
use Rattle.row_semantics.specs.Regulars.{Regular}
use Rattle.row_semantics.specs.Scopes.{Broken, Scope}
use Rattle.query_semantics.specs.Calls.{AggregateCall, Opened, calls_in, calls_in_call, calls_in_form, aggregate_call, opened, calls_of}
use Rattle.query_semantics.proofs.ExprInduction.{expr_at, AllIn, expr_ind, layer_folded, fold_at}
use Rattle.query_semantics.proofs.CallsOpened.{layer_opened, opened_at, own_is}
use Rattle.expression_analysis.specs.Answers.{regulars_in, regulars_of_parts, regulars_of_expr}
use Rattle.stats_writing.specs.Parts.{HasValue, regulars_of_argument, regulars_of_arguments}
use Rattle.plan_writing.proofs.Heard.{IsWithin, within_front, within_back}
use Rattle.stats_writing.proofs.OneRefused.{has_ok, has_found}

pub none_within : (those : List Regular) → IsWithin [] those
none_within those span noted one = absurd one

pub within_then : (these those last : List Regular) → IsWithin these those → IsWithin those last → IsWithin these last
within_then these those last first next span noted one = next span noted (first span noted one)

pub both_within : (these those more most : List Regular) → IsWithin these those → IsWithin more most → IsWithin (these ++ more) (those ++ most)
both_within [] those more most first next span noted one = within_back those most span noted (next span noted one)
both_within (regular ∷ these) those more most first next span noted (inl own) = within_front those most span noted (first span noted (inl own))
both_within (regular ∷ these) those more most first next span noted (inr rest) = both_within these those more most (λ at text one. first at text (inr one)) next span noted rest

-- readings of the layer -------------------------------------------------------------------------------------------------------

abbrev part_layer : {R : Type 0} → Reader R → Form-F Form Expr → Form-F (NodeId → Span → Part R) (Part R)
part_layer {R} reader layer = layer_folded (NodeId → Span → Part R) (Part R) (part_of_form reader) (λ e. e.form e.node e.span) layer

read_at : {R : Type 0} (reader : Reader R) (node : NodeId) (span : Span) (layer : Form-F Form Expr) → read_by reader (expr_at node span layer) ≡ reader node span (seen reader node span (part_layer reader layer))
read_at {R} reader node span layer = ap (λ (part : Part R). part.reading) (fold_at (NodeId → Span → Part R) (Part R) (part_of_form reader) (λ e. e.form e.node e.span) node span layer)

-- parts ---------------------------------------------------------------------------------------------------------------------

abbrev AreWithin : Expr → Type 0
AreWithin expr = (scope : Scope) → HasValue (kind_or_rule expr scope) → IsWithin (regulars_of_arguments (calls_of expr)) (regulars_of_expr expr)

abbrev regular_parts : List Expr → List (Part (List Regular))
regular_parts exprs = map (part_of regulars_in) exprs

abbrev judged_parts : List Expr → List (Part Judged)
judged_parts exprs = map (part_of judged) exprs

parts_have : {A : Type 0} (parts : List (Part Judged)) (scope : Scope) (next : List Kind → Result A Broken) → HasValue (and_then (kinds_of_parts parts scope) next) → HasValue (kinds_of_parts parts scope)
parts_have parts scope next has = let found = has_found (kinds_of_parts parts scope) next has in has_ok (kinds_of_parts parts scope) found.value found.is

first_has : (part : Part Judged) (parts : List (Part Judged)) (scope : Scope) → HasValue (kinds_of_parts (part ∷ parts) scope) → HasValue (part.reading scope) × HasValue (kinds_of_parts parts scope)
first_has part parts scope has =
    let first = has_found (part.reading scope) (λ kind. and_then (kinds_of_parts parts scope) (λ kinds. Ok (kind ∷ kinds))) has in
    (has_ok (part.reading scope) first.value first.is, parts_have parts scope (λ kinds. Ok (first.value ∷ kinds)) first.next_has)

joined_within : (these those : List AggregateCall) (more most : List Regular) → IsWithin (regulars_of_arguments these) more → IsWithin (regulars_of_arguments those) most
    → IsWithin (regulars_of_arguments (these ++ those)) (more ++ most)
joined_within these those more most first next =
    subst (λ (regulars : List Regular). IsWithin regulars (more ++ most)) (sym (flat_map-append (λ (call : AggregateCall). regulars_of_argument call.argument) these those))
    (both_within (regulars_of_arguments these) more (regulars_of_arguments those) most first next)

all_within : (exprs : List Expr) (scope : Scope) → All AreWithin exprs → HasValue (kinds_of_parts (judged_parts exprs) scope)
    → IsWithin (regulars_of_arguments (calls_in (map opened exprs))) (regulars_of_parts (regular_parts exprs))
all_within [] scope all has = none_within []
all_within (expr ∷ exprs) scope all has =
    let both = first_has (part_of judged expr) (judged_parts exprs) scope has in
    joined_within (calls_of expr) (calls_in (map opened exprs)) (regulars_of_expr expr) (regulars_of_parts (regular_parts exprs))
    (All-head AreWithin expr exprs all scope both.0) (all_within exprs scope (All-tail AreWithin expr exprs all) both.1)

-- a form of parts, and its own regular expression behind them
one_within : (expr : Expr) (own : List Regular) → IsWithin (regulars_of_arguments (calls_of expr)) (regulars_of_expr expr)
    → IsWithin (regulars_of_arguments (calls_of expr)) (regulars_of_parts (regular_parts (expr ∷ [])) ++ own)
one_within expr own within =
    within_then (regulars_of_arguments (calls_of expr)) (regulars_of_expr expr) _ within
    (within_then (regulars_of_expr expr) (regulars_of_expr expr ++ []) ((regulars_of_expr expr ++ []) ++ own) (within_front (regulars_of_expr expr) []) (within_front (regulars_of_expr expr ++ []) own))

unary_within : {A : Type 0} (expr : Expr) (scope : Scope) (next : List Kind → Result A Broken) (own : List Regular) → AreWithin expr → HasValue (and_then (kinds_of_parts (judged_parts (expr ∷ [])) scope) next)
    → IsWithin (regulars_of_arguments (calls_of expr)) (regulars_of_parts (regular_parts (expr ∷ [])) ++ own)
unary_within expr scope next own within has =
    one_within expr own (within scope (first_has (part_of judged expr) [] scope (parts_have (judged_parts (expr ∷ [])) scope next has)).0)

-- calls -----------------------------------------------------------------------------------------------------------------------

argument_within : (function : AggFunction) (star : Bool) (exprs : List Expr) (node : NodeId)
    → IsWithin (regulars_of_arguments (aggregate_call function star (map opened exprs) node ∷ [])) (regulars_of_parts (regular_parts exprs))
argument_within function true exprs node = none_within (regulars_of_parts (regular_parts exprs))
argument_within function false [] node = none_within (regulars_of_parts (regular_parts []))
argument_within function false (expr ∷ exprs) node =
    let same : regulars_of_expr expr ≡ regulars_of_argument (Some (opened expr).own) ++ [] = sym (append-nil (regulars_of_expr (opened expr).own) ∙ ap regulars_of_expr (own_is expr)) in
    subst (λ (regulars : List Regular). IsWithin regulars (regulars_of_parts (regular_parts (expr ∷ exprs)))) same (within_front (regulars_of_expr expr) (regulars_of_parts (regular_parts exprs)))

taken_within : (row : FunctionRow) (taken : Bool) (exprs : List Expr) (node : NodeId) (span : Span) (scope : Scope) → All AreWithin exprs
    → HasValue (judged node span (cond taken (applied row.function (judged_parts exprs)) (refused [] rule.BadArguments span)) scope)
    → IsWithin (regulars_of_arguments (calls_in (map opened exprs))) (regulars_in node span (cond taken (applied row.function (regular_parts exprs)) (refused [] rule.BadArguments span)))
taken_within row true exprs node span scope all has =
    let within = all_within exprs scope all (parts_have (judged_parts exprs) scope (λ kinds. kind_of_applied row.function (judged_parts exprs) kinds span scope) has) in
    within_then (regulars_of_arguments (calls_in (map opened exprs))) (regulars_of_parts (regular_parts exprs)) _ within (within_front (regulars_of_parts (regular_parts exprs)) _)
taken_within row false exprs node span scope all has = absurd has

call_within : (row : Option FunctionRow) (found : Option AggFunction) (name : Span) (star : Bool) (exprs : List Expr) (node : NodeId) (span : Span) (scope : Scope) → All AreWithin exprs
    → HasValue (judged node span (call_by row found name star (judged_parts exprs) span) scope)
    → IsWithin (regulars_of_arguments (calls_in_call row found star (map opened exprs) node)) (regulars_in node span (call_by row found name star (regular_parts exprs) span))
call_within (Some row) found name true exprs node span scope all has = absurd has
call_within (Some row) found name false exprs node span scope all has =
    let same = ap (λ (count : ℕ). takes row count) (length-map exprs (part_of judged) ∙ sym (length-map exprs (part_of regulars_in))) in
    subst (λ (taken : Bool). IsWithin (regulars_of_arguments (calls_in (map opened exprs))) (regulars_in node span (cond taken (applied row.function (regular_parts exprs)) (refused [] rule.BadArguments span)))) same
    (taken_within row (takes row (length (judged_parts exprs))) exprs node span scope all has)
call_within None (Some function) name star exprs node span scope all has = argument_within function star exprs node
call_within None None name star exprs node span scope all has = absurd has

cast_within : (function : Option Function) (expr : Expr) (name : Span) (node : NodeId) (span : Span) (scope : Scope) → AreWithin expr
    → HasValue (judged node span (cast_by function (part_of judged expr) name) scope)
    → IsWithin (regulars_of_arguments (calls_of expr)) (regulars_in node span (cast_by function (part_of regulars_in expr) name))
cast_within (Some function) expr name node span scope within has = unary_within expr scope (λ kinds. kind_of_applied function (judged_parts (expr ∷ [])) kinds span scope) _ within has
cast_within None expr name node span scope within has = absurd (has_no (kinds_of_parts (judged_parts (expr ∷ [])) scope) has)
  where
    has_no : (found : Result (List Kind) Broken) → HasValue (and_then found (λ (kinds : List Kind). breaks {A = Kind} rule.BadKind name)) → ⊥
    has_no (Ok kinds) has = has
    has_no (Err broken) has = has

-- expressions -------------------------------------------------------------------------------------------------------------------

layer_within : (node : NodeId) (span : Span) (layer : Form-F Form Expr) (scope : Scope) → AllIn AreWithin layer → HasValue (judged node span (seen judged node span (part_layer judged layer)) scope)
    → IsWithin (regulars_of_arguments (calls_in_form (layer_opened layer) node)) (regulars_in node span (seen regulars_in node span (part_layer regulars_in layer)))
layer_within node span (Constant cell kind) scope all has = none_within _
layer_within node span (Listed values) scope all has = none_within _
layer_within node span (Column name) scope all has = none_within []
layer_within node span (Group inner) scope all has = all scope has
layer_within node span (Call function args star) scope all has =
    call_within (function_named function.name) (aggregate_named function.name) function.span star args node span scope all has
layer_within node span (Minus arg) scope all has = unary_within arg scope _ _ all has
layer_within node span (Not arg) scope all has = unary_within arg scope _ _ all has
layer_within node span (Binary op left right) scope all has =
    let parts = first_has (part_of judged left) (judged_parts (right ∷ [])) scope (parts_have (judged_parts (left ∷ right ∷ [])) scope _ has) in
    let second = first_has (part_of judged right) [] scope parts.1 in
    let both = joined_within (calls_of left) (calls_of right) (regulars_of_expr left) (regulars_of_expr right ++ [])
    (all.0 scope parts.0) (within_then _ _ _ (all.1 scope second.0) (within_front (regulars_of_expr right) [])) in
    within_then _ (regulars_of_expr left ++ (regulars_of_expr right ++ [])) _ both (within_front (regulars_of_expr left ++ (regulars_of_expr right ++ [])) _)
layer_within node span (Within negated left items) scope all has =
    let parts = first_has (part_of judged left) (judged_parts items) scope (parts_have (judged_parts (left ∷ items)) scope _ has) in
    let both = joined_within (calls_of left) (calls_in (map opened items)) (regulars_of_expr left) (regulars_of_parts (regular_parts items)) (all.0 scope parts.0) (all_within items scope all.1 parts.1) in
    within_then _ (regulars_of_expr left ++ regulars_of_parts (regular_parts items)) _ both (within_front (regulars_of_expr left ++ regulars_of_parts (regular_parts items)) _)
layer_within node span (Like negated regex left pattern) scope all has =
    let parts = first_has (part_of judged left) (pattern_part judged node pattern ∷ []) scope (parts_have (part_of judged left ∷ pattern_part judged node pattern ∷ []) scope _ has) in
    one_within left _ (all scope parts.0)
layer_within node span (IsNull negated arg) scope all has = unary_within arg scope _ _ all has
layer_within node span (Cast arg kind) scope all has = cast_within (cast_named kind.name) arg kind.span node span scope all has

pub arguments_within : (expr : Expr) (scope : Scope) → HasValue (kind_or_rule expr scope) → IsWithin (regulars_of_arguments (calls_of expr)) (regulars_of_expr expr)
arguments_within = expr_ind AreWithin (λ node span layer all scope has.
    let expr : Expr = expr_at node span layer in
    let own = layer_within node span layer scope all (subst (λ (judges : Judged). HasValue (judges scope)) (read_at judged node span layer) has) in
    subst (λ (calls : List AggregateCall). IsWithin (regulars_of_arguments calls) (regulars_of_expr expr)) (sym (ap (λ (these : Opened). these.calls) (opened_at node span layer)))
    (subst (λ (regulars : List Regular). IsWithin (regulars_of_arguments (calls_in_form (layer_opened layer) node)) regulars) (sym (read_at regulars_in node span layer)) own))
