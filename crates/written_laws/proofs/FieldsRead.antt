-- A field of STATS reads the columns of its aggregate calls alone, where no column stands outside them.
use Rattle.std.proofs.Common.{◌≡◌, ℕ, ◌+◌, Bool, true, false, cond, List, [], ◌∷◌, map, length, All, Option, Some, None, refl, ap, sym, subst, ◌∙◌}
use Rattle.std.specs.List.{flat_map}
use Rattle.std.proofs.lemmas.List.Elements.{All-nil, All-cons, All-head, All-tail, All-append, All-same}
use Rattle.esql_types.specs.declared.places.Span.{Span}
use Rattle.esql_types.specs.declared.value.Kind.{Kind}
use Rattle.esql_types.specs.declared.value.Kind.TheVariants as kind
use Rattle.esql_types.specs.declared.value.Value.{Value}
use Rattle.esql_types.specs.declared.names.NodeId.{NodeId}
use Rattle.esql_types.proofs.Lists.{All-front, All-back}
use Rattle.esql_ast.specs.declared.expr.Expr.{Expr}
use Rattle.esql_ast.specs.declared.expr.Form.{Form}
use Rattle.esql_ast.specs.declared.expr.Form.TheOpen.{Form-F, Constant, List as Listed, Column, Group, Call, Minus, Not, Binary, Within, Like, IsNull, Cast}
use Rattle.esql_plan.specs.declared.function.Function.{Function}
use Rattle.esql_plan.specs.declared.function.AggFunction.{AggFunction}
use Rattle.esql_plan.specs.declared.names.FunctionRow.{FunctionRow}
use Rattle.esql_plan.specs.Names.{function_named, aggregate_named, cast_named}
use Rattle.esql_plan.specs.Fits.{ReadColumn, columns_read}
use Rattle.esql_plan.proofs.TypedFolds.{columns_of_constant, columns_of_column, columns_of_call}
use Rattle.plan_semantics.proofs.Transposed.{both_nil}
use Rattle.row_semantics.specs.declared.call.CallColumn.{CallColumn}
use Rattle.row_semantics.specs.declared.rule.NameRule.TheVariants as rule
use Rattle.row_semantics.specs.Kinds.{aggregate_kind}
use Rattle.row_semantics.specs.Forms.{Part, Seen, constant, named, same, applied, aggregate, refused, seen, call_by, cast_by, list_in_kind, kind_of_list, constant_in, pattern_part, part_of_form, part_of, function_in_plan, arguments_in_plan}
use Rattle.row_semantics.specs.Typed.{Visible, Typing, call_at, typed_null, typed_call, kind_of_called, typed_parts, typing, typed_of}
use Rattle.query_semantics.specs.Calls.{AggregateCall, Opened, calls_in, columns_in, aggregate_call, calls_in_call, columns_in_call, calls_in_form, columns_in_form, opened, calls_of, outside_columns}
use Rattle.query_semantics.proofs.ExprInduction.{AllIn, expr_ind, layer_folded, fold_at}
use Rattle.query_semantics.proofs.CallsOpened.{layer_opened, opened_at, own_is}
use Rattle.written_laws.proofs.CallsFit.{All-in_plan}

-- the kind of an aggregate call, by that of its argument
abbrev pub argument_kind : Visible → Option Expr → Kind
argument_kind visible None = kind.Null
argument_kind visible (Some argument) = (typed_of argument visible 0 0).kind

abbrev pub call_kind : Visible → AggregateCall → Kind
call_kind visible call = aggregate_kind call.function (argument_kind visible call.argument)

module _ (P : ReadColumn → Type 0) (visible : Visible) where
  -- what holds of the column that stands for a node, read with a kind
  abbrev NodeReads : NodeId → Kind → Type 0
  NodeReads node kind = (found : CallColumn) → call_at visible.calls node ≡ Some found → P (record { id = found.id; kind = kind })

  abbrev pub CallReads : AggregateCall → Type 0
  CallReads call = NodeReads call.node (call_kind visible call)

  -- it holds of all columns that a part reads
  abbrev PartReads : Part Typing → Type 0
  PartReads part = (whole free : ℕ) → All P (columns_read (part.reading.at visible whole free))

  parts_read : (parts : List (Part Typing)) → All PartReads parts → (whole free : ℕ) → All P (flat_map columns_read (typed_parts parts visible whole free))
  parts_read [] all whole free = All-nil P
  parts_read (part ∷ parts) all whole free =
      let next_whole : ℕ = whole + length part.reading.whole in
      let next_free : ℕ = free + length part.reading.free in
      All-append P (columns_read (part.reading.at visible whole free)) (flat_map columns_read (typed_parts parts visible next_whole next_free))
      (All-head PartReads part parts all whole free) (parts_read parts (All-tail PartReads part parts all) next_whole next_free)

  call_reads : (node : NodeId) (kind : Kind) (found : Option CallColumn) → ((call : CallColumn) → found ≡ Some call → P (record { id = call.id; kind = kind }))
      → All P (columns_read (typed_call node kind found))
  call_reads node kind None holds = All-same P _ _ (columns_of_constant (typed_call node kind None) [] refl) (All-nil P)
  call_reads node kind (Some call) holds =
      All-same P _ _ (columns_of_column (typed_call node kind (Some call)) call.id refl) (All-cons P (record { id = call.id; kind = kind }) [] (holds call refl) (All-nil P))

  -- forms ---------------------------------------------------------------------------------------------------------------------

  abbrev SeenReads : NodeId → Seen Typing → Type 0
  SeenReads node (constant values kind) = Unit {0}
  SeenReads node (named name) = ⊥
  SeenReads node (same part) = PartReads part
  SeenReads node (applied function parts) = All PartReads parts
  SeenReads node (aggregate function star parts) = NodeReads node (kind_of_called function star parts visible)
  SeenReads node (refused parts rule at) = Unit {0}

  seen_reads : (node : NodeId) (span : Span) (form : Seen Typing) → SeenReads node form → (whole free : ℕ) → All P (columns_read ((typing node span form).at visible whole free))
  seen_reads node span (constant values kind) reads whole free = All-same P _ _ (columns_of_constant _ values refl) (All-nil P)
  seen_reads node span (named name) reads whole free = absurd reads
  seen_reads node span (same part) reads whole free = reads whole free
  seen_reads node span (applied function parts) reads whole free =
      All-same P _ _ (columns_of_call _ (function_in_plan function parts) (typed_parts (arguments_in_plan function parts) visible whole free) _ refl)
      (parts_read (arguments_in_plan function parts) (All-in_plan PartReads function parts reads) whole free)
  seen_reads node span (aggregate function star parts) reads whole free = call_reads node (kind_of_called function star parts visible) (call_at visible.calls node) reads
  seen_reads node span (refused parts rule at) reads whole free = All-same P _ _ (columns_of_constant (typed_null node) [] refl) (All-nil P)

  list_reads : (node : NodeId) (values : List Value) (found : Option Kind) (span : Span) → SeenReads node (list_in_kind values found span)
  list_reads node values (Some kind.Long) span = tt
  list_reads node values (Some other) span = tt
  list_reads node values None span = tt

  constant_seen : (node : NodeId) (cell : List Value) (span : Span) → SeenReads node (constant_in cell span)
  constant_seen node [] span = tt
  constant_seen node (value ∷ values) span = list_reads node (value ∷ values) (kind_of_list (value ∷ values)) span

  taken_reads : (node : NodeId) (row : FunctionRow) (parts : List (Part Typing)) (span : Span) (taken : Bool) → All PartReads parts
      → SeenReads node (cond taken (applied row.function parts) (refused [] rule.BadArguments span))
  taken_reads node row parts span true reads = reads
  taken_reads node row parts span false reads = tt

  cast_reads : (node : NodeId) (found : Option Function) (part : Part Typing) (name : Span) → PartReads part → SeenReads node (cast_by found part name)
  cast_reads node (Some function) part name reads = All-cons PartReads part [] reads (All-nil PartReads)
  cast_reads node None part name reads = tt

  -- expressions ---------------------------------------------------------------------------------------------------------------

  abbrev ExprReads : Expr → Type 0
  ExprReads expr = outside_columns expr ≡ [] → All CallReads (calls_of expr) → PartReads (part_of typing expr)

  exprs_read : (exprs : List Expr) → All ExprReads exprs → columns_in (map opened exprs) ≡ [] → All CallReads (calls_in (map opened exprs)) → All PartReads (map (part_of typing) exprs)
  exprs_read [] all none calls = All-nil PartReads
  exprs_read (expr ∷ exprs) all none calls =
      let both = both_nil (outside_columns expr) (columns_in (map opened exprs)) none in
      All-cons PartReads (part_of typing expr) (map (part_of typing) exprs)
      (All-head ExprReads expr exprs all both.0 (All-front CallReads (calls_of expr) (calls_in (map opened exprs)) calls))
      (exprs_read exprs (All-tail ExprReads expr exprs all) both.1 (All-back CallReads (calls_of expr) (calls_in (map opened exprs)) calls))

  aggregate_reads : (node : NodeId) (function : AggFunction) (star : Bool) (args : List Expr) → CallReads (aggregate_call function star (map opened args) node)
      → NodeReads node (kind_of_called function star (map (part_of typing) args) visible)
  aggregate_reads node function true args reads = reads
  aggregate_reads node function false [] reads = reads
  aggregate_reads node function false (arg ∷ args) reads =
      subst (λ (these : Expr). NodeReads node (aggregate_kind function (typed_of these visible 0 0).kind)) (own_is arg) reads

  called_reads : (row : Option FunctionRow) (found : Option AggFunction) (name : Span) (star : Bool) (node : NodeId) (span : Span) (args : List Expr) → All ExprReads args
      → columns_in_call row found (map opened args) ≡ [] → All CallReads (calls_in_call row found star (map opened args) node)
      → SeenReads node (call_by row found name star (map (part_of typing) args) span)
  called_reads (Some row) found name true node span args all none calls = tt
  called_reads (Some row) found name false node span args all none calls = taken_reads node row (map (part_of typing) args) span _ (exprs_read args all none calls)
  called_reads None (Some function) name star node span args all none calls =
      aggregate_reads node function star args (All-head CallReads (aggregate_call function star (map opened args) node) [] calls)
  called_reads None None name star node span args all none calls = tt

  abbrev parts_layer : Form-F Form Expr → Form-F (NodeId → Span → Part Typing) (Part Typing)
  parts_layer = layer_folded (NodeId → Span → Part Typing) (Part Typing) (part_of_form typing) (λ e. e.form e.node e.span)

  one : (arg : Expr) → PartReads (part_of typing arg) → All PartReads (part_of typing arg ∷ [])
  one arg reads = All-cons PartReads (part_of typing arg) [] reads (All-nil PartReads)

  layer_reads : (node : NodeId) (span : Span) (layer : Form-F Form Expr) → AllIn ExprReads layer → columns_in_form (layer_opened layer) span ≡ []
      → All CallReads (calls_in_form (layer_opened layer) node) → SeenReads node (seen typing node span (parts_layer layer))
  layer_reads node span (Constant cell own) all none calls = constant_seen node cell span
  layer_reads node span (Listed values) all none calls = list_reads node values (kind_of_list values) span
  layer_reads node span (Column name) all none calls = absurd cc
  layer_reads node span (Group inner) all none calls = all none calls
  layer_reads node span (Call called args star) all none calls =
      called_reads (function_named called.name) (aggregate_named called.name) called.span star node span args all none calls
  layer_reads node span (Minus arg) all none calls = one arg (all none calls)
  layer_reads node span (Not arg) all none calls = one arg (all none calls)
  layer_reads node span (Binary op left right) all none calls =
      let both = both_nil (outside_columns left) (outside_columns right) none in
      All-cons PartReads (part_of typing left) (part_of typing right ∷ []) (all.0 both.0 (All-front CallReads (calls_of left) (calls_of right) calls))
      (one right (all.1 both.1 (All-back CallReads (calls_of left) (calls_of right) calls)))
  layer_reads node span (Within negated left items) all none calls = exprs_read (left ∷ items) (All-cons ExprReads left items all.0 all.1) none calls
  layer_reads node span (Like negated regex left pattern) all none calls =
      All-cons PartReads (part_of typing left) (pattern_part typing node pattern ∷ []) (all none calls)
      (All-cons PartReads (pattern_part typing node pattern) [] (λ whole free. All-same P _ _ (columns_of_constant _ _ refl) (All-nil P)) (All-nil PartReads))
  layer_reads node span (IsNull negated arg) all none calls = one arg (all none calls)
  layer_reads node span (Cast arg name) all none calls = cast_reads node (cast_named name.name) (part_of typing arg) name.span (all none calls)

  all_read : (expr : Expr) → ExprReads expr
  all_read = expr_ind ExprReads (λ node span layer all none calls whole free.
      let opens = opened_at node span layer in
      let read = fold_at (NodeId → Span → Part Typing) (Part Typing) (part_of_form typing) (λ e. e.form e.node e.span) node span layer in
      All-same P _ _ (ap (λ (part : Part Typing). columns_read (part.reading.at visible whole free)) read)
      (seen_reads node span (seen typing node span (parts_layer layer))
      (layer_reads node span layer all (sym (ap (λ (these : Opened). these.columns) opens) ∙ none)
      (All-same CallReads _ _ (sym (ap (λ (these : Opened). these.calls) opens)) calls)) whole free))

  -- what holds of the column of each call holds of all columns that the field reads
  pub field_reads : (expr : Expr) → outside_columns expr ≡ [] → All CallReads (calls_of expr) → (whole free : ℕ) → All P (columns_read (typed_of expr visible whole free))
  field_reads expr none calls whole free = all_read expr none calls whole free
