-- The aggregate calls of a field that breaks no rule are judged: the kind of each argument fits its aggregate.
use Rattle.std.proofs.Common.{◌≡◌, ℕ, Bool, true, false, cond, not, List, [], ◌∷◌, ◌++◌, map, All, Option, Some, None, IfSome, Ok, Err, refl, ap, sym, subst, ◌∙◌, if◌then◌else◌}
use Rattle.std.proofs.lemmas.List.Elements.{All-nil, All-cons, All-head, All-tail, All-same, All-append}
use Rattle.esql_types.specs.declared.places.Span.{Span}
use Rattle.esql_types.specs.declared.value.Kind.{Kind}
use Rattle.esql_types.specs.declared.names.NodeId.{NodeId}
use Rattle.esql_types.specs.declared.names.Column.{Column as NamedColumn}
use Rattle.esql_ast.specs.declared.expr.Expr.{Expr}
use Rattle.esql_ast.specs.declared.expr.Form.{Form}
use Rattle.esql_ast.specs.declared.expr.Form.TheOpen.{Form-F, Constant, List as Listed, Column, Group, Call, Minus, Not, Binary, Within, Like, IsNull, Cast}
use Rattle.esql_plan.specs.declared.function.Function.{Function}
use Rattle.esql_plan.specs.declared.function.Function.TheVariants as function
use Rattle.esql_plan.specs.declared.function.AggFunction.{AggFunction}
use Rattle.esql_plan.specs.declared.function.AggFunction.TheVariants.{CountRows}
use Rattle.esql_plan.specs.declared.names.FunctionRow.{FunctionRow}
use Rattle.esql_plan.specs.Names.{aggregate_names, function_named, aggregate_named, cast_named}
use Rattle.row_semantics.specs.declared.rule.NameRule.TheVariants as rule
use Rattle.row_semantics.specs.Regulars.{Regular}
use Rattle.row_semantics.specs.Scopes.{Broken, Scope}
use Rattle.row_semantics.specs.Forms.{Part, applied, refused, function_of, like_function, seen, call_by, cast_by, pattern_part, part_of_form, part_of}
use Rattle.row_semantics.specs.Kinds.{Judged, judged, and_then, kinds_of_parts, kind_of_applied, kind_of_argument, kind_of_aggregate, aggregate_fits, kind_or_rule}
use Rattle.query_semantics.specs.Calls.{AggregateCall, Opened, calls_in, aggregate_call, calls_in_call, calls_in_form, opened, calls_of}
use Rattle.query_semantics.specs.StatsShapes.{field_scope, outside_scope}
use Rattle.query_semantics.proofs.ExprInduction.{AllIn, expr_ind, layer_folded, fold_at}
use Rattle.query_semantics.proofs.CallsOpened.{layer_opened, opened_at, own_is}
use Rattle.query_semantics.proofs.Kinded.{Found, found_of}
use Rattle.query_semantics.proofs.NamesFound.{found_passes}

-- an argument has a kind that fits the aggregate
pub record FitsCall (accepts : Regular → Bool) (columns : List NamedColumn) (function : AggFunction) (argument : Expr) : Type 0 where
  pub kind : Kind
  pub is : kind_or_rule argument (outside_scope accepts columns) ≡ Ok kind
  pub fits : aggregate_fits function kind ≡ true

-- the argument of a call fits it, and rows alone are counted without an argument
pub record IsJudged (accepts : Regular → Bool) (columns : List NamedColumn) (call : AggregateCall) : Type 0 where
  pub argument : IfSome call.argument (FitsCall accepts columns call.function)
  pub none : call.argument ≡ None → call.function ≡ CountRows
  pub rows : call.function ≡ CountRows → call.argument ≡ None

-- no name calls the aggregate of `*`
abbrev pub counts_rows : AggFunction → Bool
counts_rows CountRows = true
counts_rows function = false

named_counts : (name : List ℕ) (function : AggFunction) → aggregate_named name ≡ Some function → counts_rows function ≡ false
unfolding aggregate_named
named_counts name function is = not_true (counts_rows function) (found_passes (λ (one : AggFunction). not (counts_rows one)) aggregate_names name function refl is)
  where
    not_true : (b : Bool) → not b ≡ true → b ≡ false
    not_true true is = absurd cc
    not_true false is = refl

module _ (accepts : Regular → Bool) (columns : List NamedColumn) where
  abbrev scope : Scope
  scope = field_scope accepts columns

  abbrev Judges : AggregateCall → Type 0
  Judges = IsJudged accepts columns

  abbrev AreJudged : Expr → Type 0
  AreJudged expr = (kind : Kind) → kind_or_rule expr scope ≡ Ok kind → All Judges (calls_of expr)

  -- parts ---------------------------------------------------------------------------------------------------------------------

  -- the first part and those behind it have kinds
  record HaveKinds (part : Part Judged) (parts : List (Part Judged)) : Type 0 where
    first : Kind
    first_is : part.reading scope ≡ Ok first
    rest : List Kind
    rest_is : kinds_of_parts parts scope ≡ Ok rest

  have_kinds : (part : Part Judged) (parts : List (Part Judged)) (kinds : List Kind) → kinds_of_parts (part ∷ parts) scope ≡ Ok kinds → HaveKinds part parts
  have_kinds part parts kinds is =
      let first = found_of (part.reading scope) (λ kind. and_then (kinds_of_parts parts scope) (λ kinds. Ok (kind ∷ kinds))) kinds is in
      let rest = found_of (kinds_of_parts parts scope) (λ kinds. Ok (first.value ∷ kinds)) kinds first.next_is in
      record { first = first.value; first_is = first.is; rest = rest.value; rest_is = rest.is }

  parts_judged : (exprs : List Expr) (kinds : List Kind) → All AreJudged exprs → kinds_of_parts (map (part_of judged) exprs) scope ≡ Ok kinds → All Judges (calls_in (map opened exprs))
  parts_judged [] kinds all is = All-nil Judges
  parts_judged (expr ∷ exprs) kinds all is =
      let have = have_kinds (part_of judged expr) (map (part_of judged) exprs) kinds is in
      All-append Judges (calls_of expr) (calls_in (map opened exprs)) (All-head AreJudged expr exprs all have.first have.first_is)
      (parts_judged exprs have.rest (All-tail AreJudged expr exprs all) have.rest_is)

  first_judged : (expr : Expr) (parts : List (Part Judged)) (kinds : List Kind) → AreJudged expr → kinds_of_parts (part_of judged expr ∷ parts) scope ≡ Ok kinds → All Judges (calls_of expr)
  first_judged expr parts kinds holds is = let have = have_kinds (part_of judged expr) parts kinds is in holds have.first have.first_is

  -- calls ---------------------------------------------------------------------------------------------------------------------

  aggregate_judged : (node : NodeId) (span : Span) (function : AggFunction) (star : Bool) (args : List Expr) (kind : Kind) → counts_rows function ≡ false
      → kind_of_aggregate function star (map (part_of judged) args) span scope ≡ Ok kind → Judges (aggregate_call function star (map opened args) node)
  aggregate_judged node span function true args kind other is = record { argument = tt; none = λ none. refl; rows = λ rows. refl }
  aggregate_judged node span function false [] kind other is = absurd cc
  aggregate_judged node span function false (arg ∷ []) kind other is =
      let part : Part Judged = part_of judged arg in
      let found = found_of (kind_or_rule arg (outside_scope accepts columns)) (λ own. kind_of_argument function own part.span) kind is in
      record {
        argument = subst (FitsCall accepts columns function) (sym (own_is arg)) (record { kind = found.value; is = found.is; fits = it_fits (aggregate_fits function found.value) _ _ kind found.next_is });
        none = λ none. absurd cc;
        rows = λ rows. absurd (let both : false ≡ true = sym other ∙ ap counts_rows rows in cc);
      }
    where
      it_fits : (fits : Bool) (own : Kind) (broken : Broken) (kind : Kind) → cond fits (Ok own) (Err broken) ≡ Ok kind → fits ≡ true
      it_fits true own broken kind is = refl
      it_fits false own broken kind is = absurd cc
  aggregate_judged node span function false (arg ∷ next ∷ args) kind other is = absurd cc

  taken_judged : (row : FunctionRow) (node : NodeId) (span : Span) (args : List Expr) (kind : Kind) (taken : Bool) → All AreJudged args
      → judged node span (cond taken (applied row.function (map (part_of judged) args)) (refused [] rule.BadArguments span)) scope ≡ Ok kind → All Judges (calls_in (map opened args))
  taken_judged row node span args kind true all is =
      let parts : List (Part Judged) = map (part_of judged) args in
      let found = found_of (kinds_of_parts parts scope) (λ kinds. kind_of_applied row.function parts kinds span scope) kind is in
      parts_judged args found.value all found.is
  taken_judged row node span args kind false all is = absurd cc

  call_judged : (row : Option FunctionRow) (found : Option AggFunction) (name : Span) (star : Bool) (node : NodeId) (span : Span) (args : List Expr) (kind : Kind)
      → ((function : AggFunction) → found ≡ Some function → counts_rows function ≡ false) → All AreJudged args
      → judged node span (call_by row found name star (map (part_of judged) args) span) scope ≡ Ok kind → All Judges (calls_in_call row found star (map opened args) node)
  call_judged (Some row) found name true node span args kind others all is = absurd cc
  call_judged (Some row) found name false node span args kind others all is = taken_judged row node span args kind _ all is
  call_judged None (Some function) name star node span args kind others all is =
      All-cons Judges _ [] (aggregate_judged node span function star args kind (others function refl) is) (All-nil Judges)
  call_judged None None name star node span args kind others all is = absurd cc

  -- forms ---------------------------------------------------------------------------------------------------------------------

  applied_found : (node : NodeId) (span : Span) (function : Function) (parts : List (Part Judged)) (kind : Kind) → judged node span (applied function parts) scope ≡ Ok kind
      → Found (kinds_of_parts parts scope) (λ kinds. kind_of_applied function parts kinds span scope) kind
  applied_found node span function parts kind is = found_of (kinds_of_parts parts scope) (λ kinds. kind_of_applied function parts kinds span scope) kind is

  -- a function of a part and others
  one_judged : (node : NodeId) (span : Span) (function : Function) (arg : Expr) (parts : List (Part Judged)) (kind : Kind) → AreJudged arg
      → judged node span (applied function (part_of judged arg ∷ parts)) scope ≡ Ok kind → All Judges (calls_of arg)
  one_judged node span function arg parts kind holds is =
      let found = applied_found node span function (part_of judged arg ∷ parts) kind is in
      first_judged arg parts found.value holds found.is

  two_judged : (node : NodeId) (span : Span) (function : Function) (left right : Expr) (kind : Kind) → AreJudged left → AreJudged right
      → judged node span (applied function (part_of judged left ∷ part_of judged right ∷ [])) scope ≡ Ok kind → All Judges (calls_of left ++ calls_of right)
  two_judged node span function left right kind first second is =
      let found = applied_found node span function (part_of judged left ∷ part_of judged right ∷ []) kind is in
      let have = have_kinds (part_of judged left) (part_of judged right ∷ []) found.value found.is in
      All-append Judges (calls_of left) (calls_of right) (first have.first have.first_is) (first_judged right [] have.rest second have.rest_is)

  cast_judged : (node : NodeId) (span name : Span) (found : Option Function) (arg : Expr) (kind : Kind) → AreJudged arg
      → judged node span (cast_by found (part_of judged arg) name) scope ≡ Ok kind → All Judges (calls_of arg)
  cast_judged node span name (Some function) arg kind holds is = one_judged node span function arg [] kind holds is
  cast_judged node span name None arg kind holds is =
      let found = found_of (kinds_of_parts (part_of judged arg ∷ []) scope) _ kind is in first_judged arg [] found.value holds found.is

  abbrev parts_layer : Form-F Form Expr → Form-F (NodeId → Span → Part Judged) (Part Judged)
  parts_layer = layer_folded (NodeId → Span → Part Judged) (Part Judged) (part_of_form judged) (λ e. e.form e.node e.span)

  layer_judged : (node : NodeId) (span : Span) (layer : Form-F Form Expr) (kind : Kind) → AllIn AreJudged layer → judged node span (seen judged node span (parts_layer layer)) scope ≡ Ok kind
      → All Judges (calls_in_form (layer_opened layer) node)
  layer_judged node span (Constant cell own) kind all is = All-nil Judges
  layer_judged node span (Listed values) kind all is = All-nil Judges
  layer_judged node span (Column name) kind all is = All-nil Judges
  layer_judged node span (Group inner) kind all is = all kind is
  layer_judged node span (Call called args star) kind all is =
      call_judged (function_named called.name) (aggregate_named called.name) called.span star node span args kind (named_counts called.name) all is
  layer_judged node span (Minus arg) kind all is = one_judged node span function.Neg arg [] kind all is
  layer_judged node span (Not arg) kind all is = one_judged node span function.Not arg [] kind all is
  layer_judged node span (Binary op left right) kind all is = two_judged node span (function_of op) left right kind all.0 all.1 is
  layer_judged node span (Within negated left items) kind all is =
      let found = applied_found node span (if negated then function.NotIn else function.In) (map (part_of judged) (left ∷ items)) kind is in
      parts_judged (left ∷ items) found.value (All-cons AreJudged left items all.0 all.1) found.is
  layer_judged node span (Like negated regex left pattern) kind all is =
      one_judged node span (like_function negated regex) left (pattern_part judged node pattern ∷ []) kind all is
  layer_judged node span (IsNull negated arg) kind all is = one_judged node span (if negated then function.IsNotNull else function.IsNull) arg [] kind all is
  layer_judged node span (Cast arg name) kind all is = cast_judged node span name.span (cast_named name.name) arg kind all is

  all_judged : (expr : Expr) → AreJudged expr
  all_judged = expr_ind AreJudged (λ node span layer all kind is.
      let read = ap (λ (part : Part Judged). part.reading scope) (fold_at (NodeId → Span → Part Judged) (Part Judged) (part_of_form judged) (λ e. e.form e.node e.span) node span layer) in
      All-same Judges _ _ (ap (λ (these : Opened). these.calls) (opened_at node span layer)) (layer_judged node span layer kind all (sym read ∙ is)))

-- each aggregate call of a field that breaks no rule is judged
pub calls_judged : (expr : Expr) (columns : List NamedColumn) (accepts : Regular → Bool) (kind : Kind) → kind_or_rule expr (field_scope accepts columns) ≡ Ok kind
    → All (IsJudged accepts columns) (calls_of expr)
calls_judged expr columns accepts kind is = all_judged accepts columns expr kind is
