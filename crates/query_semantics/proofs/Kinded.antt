-- The typed form of an expression has the kind that the expression is found to have.
use Rattle.std.proofs.Common.{◌≡◌, ℕ, ◌+◌, Bool, true, false, cond, List, [], ◌∷◌, map, length, Option, Some, None, Result, Ok, Err, refl, ap, sym, subst, ◌∙◌}
use Rattle.std.specs.Str.{bytes_eq}
use Rattle.esql_types.specs.declared.places.Span.{Span}
use Rattle.esql_types.specs.declared.names.Column.{Column}
use Rattle.esql_types.specs.declared.names.NodeId.{NodeId}
use Rattle.esql_types.specs.declared.value.Kind.{Kind}
use Rattle.esql_types.specs.declared.value.Kind.TheVariants as kind
use Rattle.esql_ast.specs.declared.expr.Expr.{Expr}
use Rattle.esql_plan.specs.declared.function.Function.{Function}
use Rattle.esql_plan.specs.declared.function.Function.TheVariants as function
use Rattle.esql_plan.specs.declared.function.AggFunction.{AggFunction}
use Rattle.esql_plan.specs.declared.plan.OutColumn.{OutColumn}
use Rattle.esql_plan.specs.declared.typed.TypedExpr.{TypedExpr}
use Rattle.esql_plan.specs.Signatures.{kind_of_call}
use Rattle.plan_semantics.specs.Plans.{columns_of}
use Rattle.row_semantics.specs.Forms.{Part, Seen, constant, named, same, applied, aggregate, refused, Reader, read_by, function_in_plan, arguments_in_plan}
use Rattle.row_semantics.specs.Regulars.{Regular}
use Rattle.row_semantics.specs.declared.call.CallColumn.{CallColumn}
use Rattle.row_semantics.specs.declared.rule.NameRule.TheVariants as rule
use Rattle.row_semantics.specs.Scopes.{Broken, Standing, elsewhere, in_field, Scope, column_named, within_aggregate}
use Rattle.row_semantics.specs.Kinds.{Judged, breaks, and_then, kinds_of_parts, kind_of_column, kind_of_applied, aggregate_fits, aggregate_kind, may_have_star, kind_of_argument, kind_of_aggregate, kind_of_standing, fitting, if_accepted, judged, kind_or_rule}
use Rattle.row_semantics.specs.Typed.{Visible, Typing, visible_named, call_at, typed_column, typed_call, kind_of_called, typed_parts, typing, typed_of}
use Rattle.query_semantics.proofs.Readings.{part_with, parts_with, seen_with, read_made}
use Rattle.query_semantics.proofs.Valued.{function_with, arguments_with}

-- an expression stands over the columns that can be seen
abbrev pub StandsOver : Visible → Scope → Type 0
StandsOver visible scope = scope.columns ≡ columns_of visible.columns

-- the typed form of an expression and its kind, which is that of the typed form
pub record Both : Type 0 where
  pub typing : Typing
  pub judged : Judged
  pub is : (visible : Visible) (scope : Scope) (kind : Kind) → StandsOver visible scope → judged scope ≡ Ok kind → (whole free : ℕ) → (typing.at visible whole free).kind ≡ kind

abbrev pub typing_in : Both → Typing
typing_in both = both.typing

abbrev pub judged_in : Both → Judged
judged_in both = both.judged

pub ok_is : {A : Type 0} {this that : A} → ◌≡◌ {A = Result A Broken} (Ok this) (Ok that) → this ≡ that
ok_is e = cc

-- what is found behind something that was found
pub record Found {A B : Type 0} (first : Result A Broken) (next : A → Result B Broken) (last : B) : Type 0 where
  pub value : A
  pub is : first ≡ Ok value
  pub next_is : next value ≡ Ok last

pub found_of : {A B : Type 0} (first : Result A Broken) (next : A → Result B Broken) (last : B) → and_then first next ≡ Ok last → Found first next last
found_of (Ok value) next last is = record { value = value; is = refl; next_is = is }
found_of (Err broken) next last is = absurd cc

column_kinded : (node : NodeId) (name : List ℕ) (span : Span) (visible : List OutColumn) (kind : Kind) → kind_of_column (column_named (columns_of visible) name) span ≡ Ok kind
    → (typed_column node (visible_named visible name)).kind ≡ kind
column_kinded node name span [] kind is = absurd cc
column_kinded node name span (column ∷ visible) kind is =
    elim (bytes_eq column.name name) as (λ same. kind_of_column (cond same (Some (record { name = column.name; kind = column.kind })) (column_named (columns_of visible) name)) span ≡ Ok kind
    → (typed_column node (cond same (Some column) (visible_named visible name))).kind ≡ kind)
    [ true ↦ λ here. ok_is here | false ↦ λ there. column_kinded node name span visible kind there ] is

-- the kinds of parts
abbrev pub PartsHave : Visible → List (Part Both) → List Kind → Type 0
PartsHave visible [] [] = Unit {0}
PartsHave visible [] (kind ∷ kinds) = ⊥
PartsHave visible (part ∷ parts) [] = ⊥
PartsHave visible (part ∷ parts) (kind ∷ kinds) = ((whole free : ℕ) → (part.reading.typing.at visible whole free).kind ≡ kind) × PartsHave visible parts kinds

pub parts_kinded : (visible : Visible) (scope : Scope) (parts : List (Part Both)) (kinds : List Kind) → StandsOver visible scope → kinds_of_parts (parts_with judged_in parts) scope ≡ Ok kinds
    → PartsHave visible parts kinds
parts_kinded visible scope [] [] stands is = tt
parts_kinded visible scope [] (kind ∷ kinds) stands is = absurd cc
parts_kinded visible scope (part ∷ parts) kinds stands is =
    let first = found_of (part.reading.judged scope) (λ kind. and_then (kinds_of_parts (parts_with judged_in parts) scope) (λ kinds. Ok (kind ∷ kinds))) kinds is in
    let rest = found_of (kinds_of_parts (parts_with judged_in parts) scope) (λ kinds. Ok (first.value ∷ kinds)) kinds first.next_is in
    subst (PartsHave visible (part ∷ parts)) (ok_is rest.next_is)
    (part.reading.is visible scope first.value stands first.is, parts_kinded visible scope parts rest.value stands rest.is)

pub arguments_have : (visible : Visible) (function : Function) (parts : List (Part Both)) (kinds : List Kind) → PartsHave visible parts kinds
    → PartsHave visible (arguments_in_plan function parts) (arguments_in_plan function kinds)
arguments_have visible function.MvSort (part ∷ parts) (kind ∷ kinds) have = (have.0, tt)
arguments_have visible function.MvSort [] [] have = have
arguments_have visible function.MvSort [] (kind ∷ kinds) have = absurd have
arguments_have visible function.MvSort (part ∷ parts) [] have = absurd have
arguments_have visible other parts kinds have = have

pub kinds_typed : (visible : Visible) (parts : List (Part Both)) (kinds : List Kind) (whole free : ℕ) → PartsHave visible parts kinds
    → map (λ (arg : TypedExpr). arg.kind) (typed_parts (parts_with typing_in parts) visible whole free) ≡ kinds
kinds_typed visible [] [] whole free have = refl
kinds_typed visible [] (kind ∷ kinds) whole free have = absurd have
kinds_typed visible (part ∷ parts) [] whole free have = absurd have
kinds_typed visible (part ∷ parts) (kind ∷ kinds) whole free have =
    λ i. have.0 whole free i ∷ kinds_typed visible parts kinds (whole + length part.reading.typing.whole) (free + length part.reading.typing.free) have.1 i

-- the kind that is left where nothing is broken
fitting_is : (place : Option ℕ) (spans : List Span) (own : Span) (next : Result Kind Broken) (kind : Kind) → fitting place spans own next ≡ Ok kind → next ≡ Ok kind
fitting_is (Some place) spans own next kind is = absurd cc
fitting_is None spans own next kind is = is

either_is : (accepted : Bool) (broken : Broken) (found kind : Kind) → ◌≡◌ {A = Result Kind Broken} (cond accepted (Ok found) (Err broken)) (Ok kind) → found ≡ kind
either_is true broken found kind is = ok_is is
either_is false broken found kind is = absurd cc

accepted_is : (regular : Option Regular) (scope : Scope) (found kind : Kind) → if_accepted regular scope found ≡ Ok kind → found ≡ kind
accepted_is None scope found kind is = ok_is is
accepted_is (Some regular) scope found kind is = either_is (scope.accepts regular) _ found kind is

applied_kinded : (node : NodeId) (span : Span) (function : Function) (parts : List (Part Both)) (visible : Visible) (scope : Scope) (kind : Kind) → StandsOver visible scope
    → judged node span (applied function (parts_with judged_in parts)) scope ≡ Ok kind → (whole free : ℕ)
    → ((typing node span (applied function (parts_with typing_in parts))).at visible whole free).kind ≡ kind
applied_kinded node span function parts visible scope kind stands is whole free =
    let read : List (Part Judged) = parts_with judged_in parts in
    let found = found_of (kinds_of_parts read scope) (λ kinds. kind_of_applied function read kinds span scope) kind is in
    let have = arguments_have visible function parts found.value (parts_kinded visible scope parts found.value stands found.is) in
    (λ i. kind_of_call (function_with typing_in function parts i)
    (map (λ (arg : TypedExpr). arg.kind) (typed_parts (arguments_with (part_with typing_in) function parts i) visible whole free)))
    ∙ ap (kind_of_call (function_in_plan function parts)) (kinds_typed visible (arguments_in_plan function parts) (arguments_in_plan function found.value) whole free have)
    ∙ (λ i. kind_of_call (sym (function_with judged_in function parts) i) (arguments_in_plan function found.value))
    ∙ accepted_is _ scope _ kind (fitting_is _ _ span _ kind found.next_is)

-- an aggregate call has the kind of the aggregate, whatever column stands for it
call_kinded : (node : NodeId) (call : Option CallColumn) (kind : Kind) → (typed_call node kind call).kind ≡ kind
call_kinded node (Some call) kind = refl
call_kinded node None kind = refl

argument_kinded : (function : AggFunction) (argument kind : Kind) (fits : Bool) (span : Span)
    → cond fits (Ok (aggregate_kind function argument)) (breaks rule.BadKind span) ≡ Ok kind → aggregate_kind function argument ≡ kind
argument_kinded function argument kind true span is = ok_is is
argument_kinded function argument kind false span is = absurd cc

star_kinded : (may : Bool) (found : Kind) (span : Span) → cond may (Ok kind.Long) (breaks rule.BadArguments span) ≡ Ok found → kind.Long ≡ found
star_kinded true found span is = ok_is is
star_kinded false found span is = absurd cc

aggregate_kinded : (function : AggFunction) (star : Bool) (parts : List (Part Both)) (span : Span) (visible : Visible) (scope : Scope) (kind : Kind) → StandsOver visible scope
    → kind_of_aggregate function star (parts_with judged_in parts) span scope ≡ Ok kind → kind_of_called function star (parts_with typing_in parts) visible ≡ kind
aggregate_kinded function true parts span visible scope kind stands is = star_kinded (may_have_star function) kind span is
aggregate_kinded function false [] span visible scope kind stands is = absurd cc
aggregate_kinded function false (part ∷ []) span visible scope kind stands is =
    let found = found_of (part.reading.judged (within_aggregate scope)) (λ argument. kind_of_argument function argument part.span) kind is in
    ap (aggregate_kind function) (part.reading.is visible (within_aggregate scope) found.value stands found.is 0 0)
    ∙ argument_kinded function found.value kind (aggregate_fits function found.value) part.span found.next_is
aggregate_kinded function false (part ∷ next ∷ parts) span visible scope kind stands is = absurd cc

standing_kinded : (standing : Standing) (function : AggFunction) (star : Bool) (parts : List (Part Both)) (span : Span) (visible : Visible) (scope : Scope) (kind : Kind) → StandsOver visible scope
    → kind_of_standing standing function star (parts_with judged_in parts) span scope ≡ Ok kind → kind_of_called function star (parts_with typing_in parts) visible ≡ kind
standing_kinded elsewhere function star parts span visible scope kind stands is = absurd cc
standing_kinded in_field function star parts span visible scope kind stands is = aggregate_kinded function star parts span visible scope kind stands is

pub seen_kinded : (node : NodeId) (span : Span) (seen : Seen Both) (visible : Visible) (scope : Scope) (kind : Kind) → StandsOver visible scope
    → judged node span (seen_with judged_in seen) scope ≡ Ok kind → (whole free : ℕ) → ((typing node span (seen_with typing_in seen)).at visible whole free).kind ≡ kind
seen_kinded node span (constant values own) visible scope kind stands is whole free = ok_is is
seen_kinded node span (named name) visible scope kind stands is whole free =
    column_kinded node name span visible.columns kind (ap (λ (columns : List Column). kind_of_column (column_named columns name) span) (sym stands) ∙ is)
seen_kinded node span (same part) visible scope kind stands is whole free = part.reading.is visible scope kind stands is whole free
seen_kinded node span (applied function parts) visible scope kind stands is whole free = applied_kinded node span function parts visible scope kind stands is whole free
seen_kinded node span (aggregate function star parts) visible scope kind stands is whole free =
    call_kinded node (call_at visible.calls node) _ ∙ standing_kinded scope.standing function star parts span visible scope kind stands is
seen_kinded node span (refused parts rule at) visible scope kind stands is whole free =
    let found = found_of (kinds_of_parts (parts_with judged_in parts) scope) _ kind is in absurd (let last = found.next_is in cc)

abbrev pub both : Reader Both
both node span seen = record {
  typing = typing node span (seen_with typing_in seen);
  judged = judged node span (seen_with judged_in seen);
  is = seen_kinded node span seen;
}

-- the kind of the typed form is the kind of the expression
pub expr_kinded : (expr : Expr) (visible : Visible) (scope : Scope) (kind : Kind) → StandsOver visible scope → kind_or_rule expr scope ≡ Ok kind
    → (whole free : ℕ) → (typed_of expr visible whole free).kind ≡ kind
expr_kinded expr visible scope kind stands is whole free =
    ap (λ (these : Typing). (these.at visible whole free).kind) (read_made Both Typing both typing typing_in (record { is = λ node span seen. refl }) expr)
    ∙ (read_by both expr).is visible scope kind stands
    (sym (ap (λ (these : Judged). these scope) (read_made Both Judged both judged judged_in (record { is = λ node span seen. refl }) expr)) ∙ is) whole free
