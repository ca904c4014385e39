-- The first rule that an expression breaks stands in a part of the text, where the spans of the expression do.
use Rattle.std.proofs.Common.{◌≡◌, ℕ, zero, suc, Bool, true, false, cond, List, [], ◌∷◌, ◌++◌, map, All, Option, Some, None, IfSome, Result, Ok, Err, refl, ap, sym, subst, ◌∙◌}
use Rattle.std.specs.Prelude.{slice_index_or}
use Rattle.std.specs.List.{flat_map}
use Rattle.std.proofs.lemmas.List.Elements.{All-nil, All-cons, All-head, All-tail, All-same}
use denote.Hole.Holds.{Such}
use Rattle.esql_types.specs.declared.places.Span.{Span}
use Rattle.esql_types.specs.declared.value.Kind.{Kind}
use Rattle.esql_types.specs.declared.value.Kind.TheVariants as kind
use Rattle.esql_types.specs.declared.value.Value.{Value}
use Rattle.esql_types.specs.declared.names.NodeId.{NodeId}
use Rattle.esql_types.specs.declared.names.Column.{Column as NamedColumn}
use Rattle.esql_types.specs.Spans.{SpanFits}
use Rattle.esql_types.proofs.Lists.{All-front, All-back}
use Rattle.esql_ast.specs.declared.expr.Expr.{Expr}
use Rattle.esql_ast.specs.declared.expr.Form.{Form}
use Rattle.esql_ast.specs.declared.expr.Form.TheBlock.{the_family, member-Form, member-Expr}
use Rattle.esql_ast.specs.declared.expr.Form.TheOpen.{Expr-F, Form-F, Constant, List as Listed, Column, Group, Call, Minus, Not, Binary, Within, Like, IsNull, Cast}
use Rattle.esql_ast.specs.declared.expr.Form.TheViews.{roll-Form, roll-Expr}
use Rattle.esql_ast.specs.declared.expr.Form.TheFolds.{claims, map-Form, map-Expr, fold-Form, fold-roll-Form, fold-roll-Expr, ind-Expr}
use Rattle.esql_ast.specs.Fits.{ExprFits, FormFits}
use Rattle.esql_ast.specs.Spans.{spans_in, own_and_within, spans_of_expr, spans_of_form}
use Rattle.esql_ast.proofs.Folds.{joined_map}
use Rattle.esql_plan.specs.declared.function.Function.{Function}
use Rattle.esql_plan.specs.declared.function.Function.TheVariants as function
use Rattle.esql_plan.specs.declared.function.AggFunction.{AggFunction}
use Rattle.esql_plan.specs.declared.names.FunctionRow.{FunctionRow}
use Rattle.esql_plan.specs.Names.{function_named, aggregate_named, cast_named}
use Rattle.row_semantics.specs.declared.rule.NameRule.TheVariants as rule
use Rattle.row_semantics.specs.Regulars.{Regular}
use Rattle.row_semantics.specs.Scopes.{Broken, Standing, elsewhere, in_field, Scope, column_named, within_aggregate}
use Rattle.row_semantics.specs.Forms.{Part, Seen, constant, named, same, applied, aggregate, refused, seen, call_by, cast_by, list_in_kind, kind_of_list, constant_in, part_of_form, part_of, pattern_part}
use Rattle.row_semantics.specs.Kinds.{Judged, judged, breaks, and_then, kinds_of_parts, kind_of_column, kind_of_applied, regular_in, regular_of, if_accepted, fitting, kind_of_aggregate, kind_of_standing, aggregate_fits, aggregate_kind, may_have_star, kind_or_rule}
use Rattle.query_semantics.specs.Places.{BrokenFits}

-- a rule behind another -----------------------------------------------------------------------------------------------------

pub then_fits : {A B : Type 0} (text : List ℕ) (first : Result A Broken) (next : A → Result B Broken) → BrokenFits text first → ((value : A) → BrokenFits text (next value)) → BrokenFits text (and_then first next)
then_fits text (Ok value) next fits later = later value
then_fits text (Err broken) next fits later = fits

pub either_fits : {A : Type 0} (text : List ℕ) (test : Bool) (this that : Result A Broken) → BrokenFits text this → BrokenFits text that → BrokenFits text (cond test this that)
either_fits text true this that fits other = fits
either_fits text false this that fits other = other

index_fits : (text : List ℕ) (spans : List Span) (place : ℕ) (own : Span) → All (SpanFits text) spans → SpanFits text own → SpanFits text (slice_index_or spans place own)
index_fits text [] place own fits fit = fit
index_fits text (span ∷ spans) zero own fits fit = All-head (SpanFits text) span spans fits
index_fits text (span ∷ spans) (suc place) own fits fit = index_fits text spans place own (All-tail (SpanFits text) span spans fits) fit

-- parts ---------------------------------------------------------------------------------------------------------------------

-- a part stands in the text, and so does the first rule that it breaks
abbrev pub PartStands : List ℕ → Part Judged → Type 0
PartStands text part = SpanFits text part.span × ((scope : Scope) → BrokenFits text (part.reading scope))

abbrev pub PartsStand : List ℕ → List (Part Judged) → Type 0
PartsStand text parts = All (PartStands text) parts

spans_fit : (text : List ℕ) (parts : List (Part Judged)) → PartsStand text parts → All (SpanFits text) (map (λ (part : Part Judged). part.span) parts)
spans_fit text [] stand = All-nil (SpanFits text)
spans_fit text (part ∷ parts) stand =
    All-cons (SpanFits text) part.span (map (λ (part : Part Judged). part.span) parts) (All-head (PartStands text) part parts stand).0 (spans_fit text parts (All-tail (PartStands text) part parts stand))

kinds_fit : (text : List ℕ) (parts : List (Part Judged)) → PartsStand text parts → (scope : Scope) → BrokenFits text (kinds_of_parts parts scope)
kinds_fit text [] stand scope = tt
kinds_fit text (part ∷ parts) stand scope =
    then_fits text (part.reading scope) _ ((All-head (PartStands text) part parts stand).1 scope)
    (λ kind. then_fits text (kinds_of_parts parts scope) _ (kinds_fit text parts (All-tail (PartStands text) part parts stand) scope) (λ kinds. tt))

-- functions -----------------------------------------------------------------------------------------------------------------

RegularFits : List ℕ → Option Regular → Type 0
RegularFits text found = IfSome found (λ regular. SpanFits text regular.span)

literal_stands : (text : List ℕ) (is_whole : Bool) (span : Span) (literal : Option (List ℕ)) (reading : Judged) → SpanFits text span
    → IfSome (regular_in is_whole (record { span = span; literal = literal; reading = reading })) (λ regular. SpanFits text regular.span)
literal_stands text is_whole span None reading fits = tt
literal_stands text is_whole span (Some literal) reading fits = fits

second_stands : (text : List ℕ) (is_whole : Bool) (first second : Part Judged) (rest : List (Part Judged)) → PartsStand text (first ∷ second ∷ rest)
    → IfSome (regular_in is_whole second) (λ regular. SpanFits text regular.span)
second_stands text is_whole first second rest stand =
    literal_stands text is_whole second.span second.literal second.reading
    (All-head (PartStands text) second rest (All-tail (PartStands text) first (second ∷ rest) stand)).0

regular_stands : (text : List ℕ) (written : Function) (parts : List (Part Judged)) → PartsStand text parts → IfSome (regular_of written parts) (λ regular. SpanFits text regular.span)
regular_stands text function.Rlike (left ∷ pattern ∷ rest) stand = second_stands text true left pattern rest stand
regular_stands text function.NotRlike (left ∷ pattern ∷ rest) stand = second_stands text true left pattern rest stand
regular_stands text function.Replace (left ∷ pattern ∷ rest) stand = second_stands text false left pattern rest stand
regular_stands text written parts stand = tt

accepted_fits : (text : List ℕ) (found : Option Regular) (scope : Scope) (kind : Kind) → IfSome found (λ regular. SpanFits text regular.span) → BrokenFits text (if_accepted found scope kind)
accepted_fits text None scope kind fits = tt
accepted_fits text (Some regular) scope kind fits = either_fits text (scope.accepts regular) (Ok kind) (breaks rule.BadRegex regular.span) tt fits

fitting_fits : (text : List ℕ) (place : Option ℕ) (spans : List Span) (own : Span) (next : Result Kind Broken) → All (SpanFits text) spans → SpanFits text own → BrokenFits text next
    → BrokenFits text (fitting place spans own next)
fitting_fits text None spans own next fits fit later = later
fitting_fits text (Some place) spans own next fits fit later = index_fits text spans place own fits fit

applied_fits : (text : List ℕ) (written : Function) (parts : List (Part Judged)) (kinds : List Kind) (span : Span) (scope : Scope) → PartsStand text parts → SpanFits text span
    → BrokenFits text (kind_of_applied written parts kinds span scope)
applied_fits text written parts kinds span scope stand fits =
    fitting_fits text _ _ span _ (spans_fit text parts stand) fits (accepted_fits text (regular_of written parts) scope _ (regular_stands text written parts stand))

-- aggregates ----------------------------------------------------------------------------------------------------------------

aggregate_stands : (text : List ℕ) (called : AggFunction) (star : Bool) (parts : List (Part Judged)) (span : Span) (scope : Scope) → PartsStand text parts → SpanFits text span
    → BrokenFits text (kind_of_aggregate called star parts span scope)
aggregate_stands text called true parts span scope stand fits = either_fits text (may_have_star called) (Ok kind.Long) (breaks rule.BadArguments span) tt fits
aggregate_stands text called false [] span scope stand fits = fits
aggregate_stands text called false (part ∷ []) span scope stand fits =
    let own = All-head (PartStands text) part [] stand in
    then_fits text (part.reading (within_aggregate scope)) _ (own.1 (within_aggregate scope))
    (λ argument. either_fits text (aggregate_fits called argument) (Ok (aggregate_kind called argument)) (breaks rule.BadKind part.span) tt own.0)
aggregate_stands text called false (part ∷ next ∷ parts) span scope stand fits = fits

standing_stands : (text : List ℕ) (standing : Standing) (called : AggFunction) (star : Bool) (parts : List (Part Judged)) (span : Span) (scope : Scope) → PartsStand text parts → SpanFits text span
    → BrokenFits text (kind_of_standing standing called star parts span scope)
standing_stands text elsewhere called star parts span scope stand fits = fits
standing_stands text in_field called star parts span scope stand fits = aggregate_stands text called star parts span scope stand fits

-- forms ---------------------------------------------------------------------------------------------------------------------

pub column_fits : (text : List ℕ) (found : Option NamedColumn) (span : Span) → SpanFits text span → BrokenFits text (kind_of_column found span)
column_fits text (Some column) span fits = tt
column_fits text None span fits = fits

-- the parts of what an expression is seen as stand in the text, and so does the rule that it breaks itself
abbrev SeenStands : List ℕ → Seen Judged → Type 0
SeenStands text (constant values kind) = Unit {0}
SeenStands text (named name) = Unit {0}
SeenStands text (same part) = PartStands text part
SeenStands text (applied written parts) = PartsStand text parts
SeenStands text (aggregate called star parts) = PartsStand text parts
SeenStands text (refused parts rule at) = PartsStand text parts × SpanFits text at

judged_fits : (text : List ℕ) (node : NodeId) (span : Span) (form : Seen Judged) → SeenStands text form → SpanFits text span → (scope : Scope) → BrokenFits text (judged node span form scope)
judged_fits text node span (constant values kind) stands fits scope = tt
judged_fits text node span (named name) stands fits scope = column_fits text (column_named scope.columns name) span fits
judged_fits text node span (same part) stands fits scope = stands.1 scope
judged_fits text node span (applied written parts) stands fits scope =
    then_fits text (kinds_of_parts parts scope) _ (kinds_fit text parts stands scope) (λ kinds. applied_fits text written parts kinds span scope stands fits)
judged_fits text node span (aggregate called star parts) stands fits scope = standing_stands text scope.standing called star parts span scope stands fits
judged_fits text node span (refused parts rule at) stands fits scope = then_fits text (kinds_of_parts parts scope) _ (kinds_fit text parts stands.0 scope) (λ kinds. stands.1)

list_stands : (text : List ℕ) (values : List Value) (found : Option Kind) (span : Span) → SpanFits text span → SeenStands text (list_in_kind values found span)
list_stands text values (Some kind.Long) span fits = tt
list_stands text values (Some other) span fits = tt
list_stands text values None span fits = (All-nil (PartStands text), fits)

constant_stands : (text : List ℕ) (cell : List Value) (span : Span) → SpanFits text span → SeenStands text (constant_in cell span)
constant_stands text [] span fits = tt
constant_stands text (value ∷ values) span fits = list_stands text (value ∷ values) (kind_of_list (value ∷ values)) span fits

taken_stands : (text : List ℕ) (row : FunctionRow) (parts : List (Part Judged)) (span : Span) (taken : Bool) → PartsStand text parts → SpanFits text span
    → SeenStands text (cond taken (applied row.function parts) (refused [] rule.BadArguments span))
taken_stands text row parts span true stand fits = stand
taken_stands text row parts span false stand fits = (All-nil (PartStands text), fits)

call_stands : (text : List ℕ) (found : Option FunctionRow) (other : Option AggFunction) (name : Span) (star : Bool) (parts : List (Part Judged)) (span : Span)
    → PartsStand text parts → SpanFits text name → SpanFits text span → SeenStands text (call_by found other name star parts span)
call_stands text (Some row) other name true parts span stand at fits = (All-nil (PartStands text), fits)
call_stands text (Some row) other name false parts span stand at fits = taken_stands text row parts span _ stand fits
call_stands text None (Some called) name star parts span stand at fits = stand
call_stands text None None name star parts span stand at fits = (All-nil (PartStands text), at)

cast_stands : (text : List ℕ) (found : Option Function) (part : Part Judged) (name : Span) → PartStands text part → SpanFits text name → SeenStands text (cast_by found part name)
cast_stands text (Some written) part name stands at = All-cons (PartStands text) part [] stands (All-nil (PartStands text))
cast_stands text None part name stands at = (All-cons (PartStands text) part [] stands (All-nil (PartStands text)), at)

-- expressions ---------------------------------------------------------------------------------------------------------------

abbrev in_form : Form → NodeId → Span → Part Judged
in_form = fold-Form (NodeId → Span → Part Judged) (Part Judged) (part_of_form judged) (λ e. e.form e.node e.span)

abbrev ExprStands : Expr → Type 0
ExprStands expr = (text : List ℕ) → ExprFits text expr → PartStands text (part_of judged expr)

abbrev FormStands : Form → Type 0
FormStands form = (text : List ℕ) → FormFits text form → (node : NodeId) (span : Span) → SpanFits text span → PartStands text (in_form form node span)

abbrev GoodForm : Type 0
GoodForm = Such the_family (claims FormStands ExprStands) member-Form

abbrev GoodExpr : Type 0
GoodExpr = Such the_family (claims FormStands ExprStands) member-Expr

abbrev the_expr : GoodExpr → Expr
the_expr good = good.0

abbrev the_form : GoodForm → Form
the_form good = good.0

abbrev layer_of : Form-F GoodForm GoodExpr → Form-F Form Expr
layer_of = map-Form GoodForm GoodExpr Form Expr the_form the_expr

abbrev layer_in : Form-F Form Expr → Form-F (NodeId → Span → Part Judged) (Part Judged)
layer_in = map-Form Form Expr (NodeId → Span → Part Judged) (Part Judged) in_form (part_of judged)

all_stand : (text : List ℕ) (goods : List GoodExpr) → All (SpanFits text) (flat_map spans_of_expr (map the_expr goods)) → PartsStand text (map (part_of judged) (map the_expr goods))
all_stand text [] fits = All-nil (PartStands text)
all_stand text (good ∷ goods) fits =
    let rest = map the_expr goods in
    All-cons (PartStands text) (part_of judged good.0) (map (part_of judged) rest) (good.1 text (All-front (SpanFits text) (spans_of_expr good.0) (flat_map spans_of_expr rest) fits))
    (all_stand text goods (All-back (SpanFits text) (spans_of_expr good.0) (flat_map spans_of_expr rest) fits))

-- a layer of a form, with the spans that it comes to, and what it is seen as
carried : (layer : Form-F Form Expr) (spans : List Span)
    → spans_in (map-Form Form Expr (List Span) (List Span) spans_of_form spans_of_expr layer) ≡ spans
    → ((text : List ℕ) → All (SpanFits text) spans → (node : NodeId) (span : Span) → SpanFits text span → SeenStands text (seen judged node span (layer_in layer)))
    → FormStands (roll-Form layer)
carried layer spans are stand text fits node span own =
    let within = All-same (SpanFits text) _ _ (sym (fold-roll-Form (List Span) (List Span) spans_in own_and_within layer ∙ are)) fits in
    let is = ap (λ f. f node span) (fold-roll-Form (NodeId → Span → Part Judged) (Part Judged) (part_of_form judged) (λ e. e.form e.node e.span) layer) in
    subst (PartStands text) (sym is) (own, λ scope. judged_fits text node span (seen judged node span (layer_in layer)) (stand text within node span own) own scope)

one : (text : List ℕ) (part : Part Judged) → PartStands text part → PartsStand text (part ∷ [])
one text part stands = All-cons (PartStands text) part [] stands (All-nil (PartStands text))

two : (text : List ℕ) (first second : Part Judged) → PartStands text first → PartStands text second → PartsStand text (first ∷ second ∷ [])
two text first second stands also = All-cons (PartStands text) first (second ∷ []) stands (one text second also)

form_stands : (layer : Form-F GoodForm GoodExpr) → FormStands (roll-Form (layer_of layer))
form_stands (Constant cell kind) = carried (layer_of (Constant cell kind)) [] refl (λ text fits node span own. constant_stands text cell span own)
form_stands (Listed values) = carried (layer_of (Listed values)) [] refl (λ text fits node span own. list_stands text values (kind_of_list values) span own)
form_stands (Column name) = carried (layer_of (Column name)) [] refl (λ text fits node span own. tt)
form_stands (Group inner) = carried (layer_of (Group inner)) (spans_of_expr inner.0) refl (λ text fits node span own. inner.1 text fits)
form_stands (Call called args star) =
    let exprs : List Expr = map the_expr args in
    carried (layer_of (Call called args star)) (called.span ∷ flat_map spans_of_expr exprs) (ap (λ (spans : List Span). called.span ∷ spans) (joined_map spans_of_expr exprs))
    (λ text fits node span own. call_stands text (function_named called.name) (aggregate_named called.name) called.span star (map (part_of judged) exprs) span
    (all_stand text args (All-tail (SpanFits text) called.span (flat_map spans_of_expr exprs) fits)) (All-head (SpanFits text) called.span (flat_map spans_of_expr exprs) fits) own)
form_stands (Minus arg) = carried (layer_of (Minus arg)) (spans_of_expr arg.0) refl (λ text fits node span own. one text (part_of judged arg.0) (arg.1 text fits))
form_stands (Not arg) = carried (layer_of (Not arg)) (spans_of_expr arg.0) refl (λ text fits node span own. one text (part_of judged arg.0) (arg.1 text fits))
form_stands (Binary op left right) =
    carried (layer_of (Binary op left right)) (spans_of_expr left.0 ++ spans_of_expr right.0) refl
    (λ text fits node span own. two text (part_of judged left.0) (part_of judged right.0) (left.1 text (All-front (SpanFits text) (spans_of_expr left.0) (spans_of_expr right.0) fits))
    (right.1 text (All-back (SpanFits text) (spans_of_expr left.0) (spans_of_expr right.0) fits)))
form_stands (Within negated left items) =
    let exprs : List Expr = map the_expr items in
    carried (layer_of (Within negated left items)) (spans_of_expr left.0 ++ flat_map spans_of_expr exprs) (ap (λ (spans : List Span). spans_of_expr left.0 ++ spans) (joined_map spans_of_expr exprs))
    (λ text fits node span own. All-cons (PartStands text) (part_of judged left.0) (map (part_of judged) exprs)
    (left.1 text (All-front (SpanFits text) (spans_of_expr left.0) (flat_map spans_of_expr exprs) fits))
    (all_stand text items (All-back (SpanFits text) (spans_of_expr left.0) (flat_map spans_of_expr exprs) fits)))
form_stands (Like negated regex left pattern) =
    carried (layer_of (Like negated regex left pattern)) (pattern.span ∷ spans_of_expr left.0) refl
    (λ text fits node span own. two text (part_of judged left.0) (pattern_part judged node pattern) (left.1 text (All-tail (SpanFits text) pattern.span (spans_of_expr left.0) fits))
    (All-head (SpanFits text) pattern.span (spans_of_expr left.0) fits, λ scope. tt))
form_stands (IsNull negated arg) = carried (layer_of (IsNull negated arg)) (spans_of_expr arg.0) refl (λ text fits node span own. one text (part_of judged arg.0) (arg.1 text fits))
form_stands (Cast arg kind) =
    carried (layer_of (Cast arg kind)) (kind.span ∷ spans_of_expr arg.0) refl
    (λ text fits node span own. cast_stands text (cast_named kind.name) (part_of judged arg.0) kind.span (arg.1 text (All-tail (SpanFits text) kind.span (spans_of_expr arg.0) fits))
    (All-head (SpanFits text) kind.span (spans_of_expr arg.0) fits))

own_stands : (own : Expr-F Form Expr) → FormStands own.form → ExprStands (roll-Expr own)
own_stands own form text fits =
    let spans = All-same (SpanFits text) _ _ (sym (fold-roll-Expr (List Span) (List Span) spans_in own_and_within own)) fits in
    let is = fold-roll-Expr (NodeId → Span → Part Judged) (Part Judged) (part_of_form judged) (λ e. e.form e.node e.span) own in
    subst (PartStands text) (sym is)
    (form text (All-tail (SpanFits text) own.span (spans_of_form own.form) spans) own.node own.span (All-head (SpanFits text) own.span (spans_of_form own.form) spans))

expr_stands : (expr : Expr) → ExprStands expr
expr_stands =
    ind-Expr FormStands ExprStands (λ layer goods is. let P : Form-F Form Expr → Type 0 = λ these. FormStands (roll-Form these) in subst P is (form_stands goods))
    (λ own good is. let P : Expr-F Form Expr → Type 0 = λ this. ExprStands (roll-Expr this) in subst P is (own_stands (map-Expr GoodForm GoodExpr Form Expr the_form the_expr good) good.form.1))

-- the first rule that an expression breaks stands in a part of the text
pub kind_fits : (text : List ℕ) (expr : Expr) → ExprFits text expr → (scope : Scope) → BrokenFits text (kind_or_rule expr scope)
kind_fits text expr fits = (expr_stands expr text fits).1
