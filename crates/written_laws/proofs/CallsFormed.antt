-- The conditions of STATS, the arguments of its aggregate calls and what it groups by are well formed, and their columns are made.
use Rattle.std.proofs.Common.{◌≡◌, true, false, List, [], ◌∷◌, ◌++◌, All, Contains, Option, Some, None, Ok, refl, ap, sym, subst, ◌∙◌}
use Rattle.std.specs.List.{flat_map}
use Rattle.std.proofs.lemmas.List.Elements.{All-nil, All-cons, All-head, All-tail, All-same}
use Rattle.esql_types.proofs.Lists.{All-front}
use Rattle.esql_types.specs.declared.value.Kind.{Kind}
use Rattle.esql_types.specs.declared.value.Kind.TheVariants.{Boolean, Null, Long}
use Rattle.esql_types.specs.declared.names.Column.{Column}
use Rattle.esql_types.specs.declared.names.NodeId.{NodeId}
use Rattle.esql_types.specs.declared.names.ColId.{ColId}
use Rattle.esql_ast.specs.declared.expr.Expr.{Expr}
use Rattle.esql_ast.specs.declared.query.Condition.{Condition}
use Rattle.esql_ast.specs.declared.query.Field.{Field}
use Rattle.esql_ast.specs.declared.query.StatsField.{StatsField}
use Rattle.esql_plan.specs.declared.function.AggFunction.{AggFunction}
use Rattle.esql_plan.specs.declared.function.AggFunction.TheVariants as aggregate
use Rattle.esql_plan.specs.declared.typed.TypedExpr.{TypedExpr}
use Rattle.esql_plan.specs.Signatures.{is_kind}
use Rattle.plan_semantics.specs.Aggregates.{aggregate_fits, aggregate_kind}
use Rattle.plan_semantics.specs.Plans.{columns_of}
use Rattle.plan_semantics.specs.WellFormed.{MadeColumn, made_as, IsMadeAs, steps_made, nodes_of}
use Rattle.row_semantics.specs.Kinds.{aggregate_fits as fits_by_name, aggregate_kind as kind_by_name, kind_or_rule}
use Rattle.row_semantics.specs.Typed.{Visible}
use Rattle.query_semantics.specs.Calls.{AggregateCall, calls_of}
use Rattle.query_semantics.specs.Shapes.{Context, scope_over}
use Rattle.query_semantics.specs.Writings.{Writing, column_at, typed_in, write_input, input_of}
use Rattle.query_semantics.specs.WrittenStats.{Flag, flag_typed, flagged_typed, write_typed, write_flag, flag_of, write_call, call_input, function_of_call, CallInput, write_calls, inputs_of_calls, write_before, inputs_before, write_all_before, all_inputs, GroupInput, write_groups, group_inputs}
use Rattle.query_semantics.proofs.CallsJudged.{IsJudged, counts_rows, calls_judged}
use Rattle.query_semantics.proofs.Kinded.{expr_kinded}
use Rattle.written_laws.proofs.ColumnsTyped.{over}
use Rattle.written_laws.proofs.FieldsRead.{call_kind}
use Rattle.written_laws.proofs.FlagsFit.{flag_fits, flagged_fits, flag_nodes, flagged_nodes, flag_reads, flagged_reads}
use Rattle.written_laws.proofs.Shown.{Shows, input_shows}
use Rattle.written_laws.proofs.StatsJudged.{IsJudgedIf, FieldIsJudged, GroupIsJudged}
use Rattle.written_laws.proofs.StepsFormed.{Start, IsNodeBelow, IsFormed, expr_stands, typed_formed, typed_made, typed_kept, input_formed}

-- aggregates ----------------------------------------------------------------------------------------------------------------------

fits_in_plan : (function : AggFunction) (kind : Kind) → fits_by_name function kind ≡ true → aggregate_fits function kind ≡ true
fits_in_plan aggregate.CountRows kind fits = refl
fits_in_plan aggregate.Count kind fits = refl
fits_in_plan aggregate.CountDistinct kind fits = refl
fits_in_plan aggregate.Sum kind fits = fits
fits_in_plan aggregate.Min kind fits = refl
fits_in_plan aggregate.Max kind fits = refl
fits_in_plan aggregate.Values kind fits = refl

kind_in_plan : (function : AggFunction) (kind : Kind) → aggregate_kind function kind ≡ kind_by_name function kind
kind_in_plan aggregate.CountRows kind = refl
kind_in_plan aggregate.Count kind = refl
kind_in_plan aggregate.CountDistinct kind = refl
kind_in_plan aggregate.Sum kind = refl
kind_in_plan aggregate.Min kind = refl
kind_in_plan aggregate.Max kind = refl
kind_in_plan aggregate.Values kind = refl

-- only what counts rows is another aggregate where there is a condition
other_stays : (flag : Option Flag) (function : AggFunction) → counts_rows function ≡ false → function_of_call flag function ≡ function
other_stays None function other = refl
other_stays (Some flag) aggregate.CountRows other = absurd cc
other_stays (Some flag) aggregate.Count other = refl
other_stays (Some flag) aggregate.CountDistinct other = refl
other_stays (Some flag) aggregate.Sum other = refl
other_stays (Some flag) aggregate.Min other = refl
other_stays (Some flag) aggregate.Max other = refl
other_stays (Some flag) aggregate.Values other = refl

not_rows : (function : AggFunction) → (function ≡ aggregate.CountRows → ⊥) → counts_rows function ≡ false
not_rows aggregate.CountRows other = absurd (other refl)
not_rows aggregate.Count other = refl
not_rows aggregate.CountDistinct other = refl
not_rows aggregate.Sum other = refl
not_rows aggregate.Min other = refl
not_rows aggregate.Max other = refl
not_rows aggregate.Values other = refl

-- Calls that are made -------------------------------------------------------------------------------------------------------------

-- the input of an aggregate is made with a kind that fits it; what counts rows alone has none
abbrev pub InputIsMade : List MadeColumn → AggFunction → Option ColId → Kind → Type 0
InputIsMade made function None kind = function ≡ aggregate.CountRows
InputIsMade made function (Some id) kind = IsMadeAs made id kind × ((aggregate_fits function kind ≡ true) × (counts_rows function ≡ false))

abbrev pub AreKept : List MadeColumn → List MadeColumn → Type 0
AreKept made after = (column : MadeColumn) → Contains made column → Contains after column

-- the input of a call is made, and the aggregate has the kind of the call
pub record CallIsMade (columns : List Column) (made : List MadeColumn) (call : AggregateCall) (input : CallInput) : Type 0 where
  pub own : Kind
  pub input_made : InputIsMade made input.function input.input own
  pub kind : (visible : Visible) → columns ≡ columns_of visible.columns → aggregate_kind input.function own ≡ call_kind visible call
  pub node : input.node ≡ call.node

abbrev pub AreCallsMade : List Column → List MadeColumn → List AggregateCall → List CallInput → Type 0
AreCallsMade columns made [] [] = Unit {0}
AreCallsMade columns made [] (input ∷ inputs) = ⊥
AreCallsMade columns made (call ∷ calls) [] = ⊥
AreCallsMade columns made (call ∷ calls) (input ∷ inputs) = CallIsMade columns made call input × AreCallsMade columns made calls inputs

input_kept : (made after : List MadeColumn) → AreKept made after → (function : AggFunction) (input : Option ColId) (kind : Kind) → InputIsMade made function input kind → InputIsMade after function input kind
input_kept made after kept function None kind is = is
input_kept made after kept function (Some id) kind is = (kept (made_as id kind) is.0, is.1)

pub calls_kept : (columns : List Column) (made after : List MadeColumn) → AreKept made after → (calls : List AggregateCall) (inputs : List CallInput) → AreCallsMade columns made calls inputs
    → AreCallsMade columns after calls inputs
calls_kept columns made after kept [] [] are = tt
calls_kept columns made after kept [] (input ∷ inputs) are = absurd are
calls_kept columns made after kept (call ∷ calls) [] are = absurd are
calls_kept columns made after kept (call ∷ calls) (input ∷ inputs) are =
    let one = are.0 in (
      record { own = one.own; input_made = input_kept made after kept input.function input.input one.own one.input_made; kind = one.kind; node = one.node },
      calls_kept columns made after kept calls inputs are.1,
    )

calls_both : (columns : List Column) (made : List MadeColumn) (calls : List AggregateCall) (inputs : List CallInput) (more : List AggregateCall) (others : List CallInput)
    → AreCallsMade columns made calls inputs → AreCallsMade columns made more others → AreCallsMade columns made (calls ++ more) (inputs ++ others)
calls_both columns made [] [] more others are also = also
calls_both columns made [] (input ∷ inputs) more others are also = absurd are
calls_both columns made (call ∷ calls) [] more others are also = absurd are
calls_both columns made (call ∷ calls) (input ∷ inputs) more others are also = (are.0, calls_both columns made calls inputs more others are.1 also)

-- the column of a condition is made
abbrev IsFlagMade : List MadeColumn → Option Flag → Type 0
IsFlagMade made None = Unit {0}
IsFlagMade made (Some flag) = IsMadeAs made flag.id Boolean

flag_kept : (made after : List MadeColumn) → AreKept made after → (flag : Option Flag) → IsFlagMade made flag → IsFlagMade after flag
flag_kept made after kept None is = tt
flag_kept made after kept (Some flag) is = kept (made_as flag.id Boolean) is

-- what has been written is well formed, it shows the same columns, and none is lost
pub record IsFormedAfter (made : List MadeColumn) (start : Start) (columns : List Column) (before after : Writing) : Type 0 where
  pub formed : IsFormed made start after
  pub kept : AreKept (steps_made made before.steps) (steps_made made after.steps)
  pub shows : Shows after columns

abbrev pub FieldJudged : Context → List Column → StatsField → Type 0
FieldJudged context columns = FieldIsJudged context.accepts columns

abbrev pub calls_in_field : StatsField → List AggregateCall
calls_in_field stats = calls_of stats.field.expr

module _ (made : List MadeColumn) (start : Start) (context : Context) (columns : List Column) where
  abbrev made_in : Writing → List MadeColumn
  made_in writing = steps_made made writing.steps

  abbrev Judges : AggregateCall → Type 0
  Judges = IsJudged context.accepts columns

  -- nothing is written
  same_formed : (writing : Writing) → IsFormed made start writing → Shows writing columns → IsFormedAfter made start columns writing writing
  same_formed writing formed shows = record { formed = formed; kept = λ column there. there; shows = shows }

  -- one call ------------------------------------------------------------------------------------------------------------------

  -- the kind of a call by that of its argument
  kind_of_judged : (flag : Option Flag) (node : NodeId) (function : AggFunction) (argument : Expr) (own : Kind) → counts_rows function ≡ false
      → kind_or_rule argument (scope_over context columns) ≡ Ok own → (visible : Visible) → columns ≡ columns_of visible.columns
      → aggregate_kind (function_of_call flag function) own ≡ call_kind visible (record { node = node; function = function; argument = Some argument })
  kind_of_judged flag node function argument own other is visible shows =
      ap (λ (these : AggFunction). aggregate_kind these own) (other_stays flag function other)
      ∙ kind_in_plan function own
      ∙ ap (kind_by_name function) (sym (expr_kinded argument visible (scope_over context columns) own shows is 0 0))

  fits_of_judged : (flag : Option Flag) (function : AggFunction) (own : Kind) → counts_rows function ≡ false → fits_by_name function own ≡ true
      → (aggregate_fits (function_of_call flag function) own ≡ true) × (counts_rows (function_of_call flag function) ≡ false)
  fits_of_judged flag function own other fits =
      let same = other_stays flag function other in
      (ap (λ (these : AggFunction). aggregate_fits these own) same ∙ fits_in_plan function own fits, ap counts_rows same ∙ other)

  -- the call of an argument whose column is made
  argument_made : (flag : Option Flag) (node : NodeId) (function : AggFunction) (argument : Expr) (id : ColId) (after : List MadeColumn) (typed : Kind)
      → Judges (record { node = node; function = function; argument = Some argument }) → ((own : Kind) → kind_or_rule argument (scope_over context columns) ≡ Ok own → typed ≡ own) → IsMadeAs after id typed
      → CallIsMade columns after (record { node = node; function = function; argument = Some argument }) (record { node = node; function = function_of_call flag function; input = Some id })
  argument_made flag node function argument id after typed judged kinded there =
      let own = judged.argument in
      let other = not_rows function (λ rows. let none : Some argument ≡ None = judged.rows rows in absurd cc) in
      record {
        own = own.kind;
        input_made = (subst (IsMadeAs after id) (kinded own.kind own.is) there, fits_of_judged flag function own.kind other own.fits);
        kind = kind_of_judged flag node function argument own.kind other own.is;
        node = refl;
      }

  -- the input of a call
  pub record CallIsFormed (flag : Option Flag) (call : AggregateCall) (writing : Writing) : Type 0 where
    pub after : IsFormedAfter made start columns writing (write_call flag call.argument writing)
    pub call_made : CallIsMade columns (made_in (write_call flag call.argument writing)) call
        (record { node = call.node; function = function_of_call flag call.function; input = call_input flag call.argument writing })

  rows_kind : (function : AggFunction) → function ≡ aggregate.CountRows → kind_by_name function Null ≡ Long
  rows_kind function rows = ap (λ (these : AggFunction). kind_by_name these Null) rows

  typed_kinded : (argument : Expr) (writing : Writing) → Shows writing columns → (own : Kind) → kind_or_rule argument (scope_over context columns) ≡ Ok own → (typed_in writing argument).kind ≡ own
  typed_kinded argument writing shows own is = expr_kinded argument (over writing.visible) (scope_over context columns) own shows is _ _

  call_formed : (flag : Option Flag) (node : NodeId) (function : AggFunction) (argument : Option Expr) (writing : Writing) → IsFormed made start writing → Shows writing columns → IsFlagMade (made_in writing) flag
      → Judges (record { node = node; function = function; argument = argument }) → CallIsFormed flag (record { node = node; function = function; argument = argument }) writing
  call_formed None node function None writing formed shows flagged judged =
      let rows = judged.none refl in
      record {
        after = same_formed writing formed shows;
        call_made = record {
          own = Null;
          input_made = rows;
          kind = λ visible shown. kind_in_plan function Null;
          node = refl;
        };
      }
  call_formed (Some flag) node function None writing formed shows flagged judged =
      let rows = judged.none refl in
      let counts : function_of_call (Some flag) function ≡ aggregate.Count = ap (function_of_call (Some flag)) rows in
      record {
        after = same_formed writing formed shows;
        call_made = record {
          own = Boolean;
          input_made = (flagged, (ap (λ (these : AggFunction). aggregate_fits these Boolean) counts, ap counts_rows counts));
          kind = λ visible shown. ap (λ (these : AggFunction). aggregate_kind these Boolean) counts ∙ sym (rows_kind function rows);
          node = refl;
        };
      }
  call_formed None node function (Some argument) writing formed shows flagged judged =
      let own = judged.argument in
      let one = input_formed made start context columns argument writing formed shows (record { kind = own.kind; is = own.is }) in
      record {
        after = record { formed = one.formed; kept = one.kept; shows = input_shows columns writing argument shows };
        call_made = argument_made None node function argument (input_of writing argument) (made_in (write_input writing argument)) (typed_in writing argument).kind judged (typed_kinded argument writing shows) one.input;
      }
  call_formed (Some flag) node function (Some argument) writing formed shows flagged judged =
      let own = judged.argument in
      let argument_typed : TypedExpr = typed_in writing argument in
      let typed : TypedExpr = flagged_typed flag argument_typed in
      record {
        after = record {
          formed = typed_formed made start writing formed argument typed (λ bounds whole free nodes.
              let inner = All-front (IsNodeBelow bounds.nodes) (nodes_of argument_typed) (flag.node ∷ [])
              (All-same (IsNodeBelow bounds.nodes) _ _ (sym (flagged_nodes flag argument_typed)) nodes) in
              let stands = expr_stands made start writing formed context columns argument own.kind shows own.is bounds whole free inner in
              record {
                fits = flagged_fits bounds.whole bounds.free flag argument_typed stands.fits;
                reads = flagged_reads (made_in writing) flag argument_typed flagged stands.reads;
                nodes = nodes;
              });
          kept = typed_kept made start writing formed argument typed;
          shows = shows;
        };
        call_made = argument_made (Some flag) node function argument (column_at writing.next) (made_in (write_typed writing argument typed)) typed.kind judged
            (typed_kinded argument writing shows) (typed_made made start writing formed argument typed);
      }

  -- calls in turn ---------------------------------------------------------------------------------------------------------------

  pub record CallsAreFormed (flag : Option Flag) (calls : List AggregateCall) (writing : Writing) : Type 0 where
    pub after : IsFormedAfter made start columns writing (write_calls flag calls writing)
    pub calls_made : AreCallsMade columns (made_in (write_calls flag calls writing)) calls (inputs_of_calls flag calls writing)

  calls_formed : (flag : Option Flag) (calls : List AggregateCall) (writing : Writing) → IsFormed made start writing → Shows writing columns → IsFlagMade (made_in writing) flag → All Judges calls
      → CallsAreFormed flag calls writing
  calls_formed flag [] writing formed shows flagged judged = record { after = same_formed writing formed shows; calls_made = tt }
  calls_formed flag (call ∷ calls) writing formed shows flagged judged =
      let next : Writing = write_call flag call.argument writing in
      let one = call_formed flag call.node call.function call.argument writing formed shows flagged (All-head Judges call calls judged) in
      let rest = calls_formed flag calls next one.after.formed one.after.shows (flag_kept (made_in writing) (made_in next) one.after.kept flag flagged) (All-tail Judges call calls judged) in
      record {
        after = record { formed = rest.after.formed; kept = λ column there. rest.after.kept column (one.after.kept column there); shows = rest.after.shows };
        calls_made =
            let last = calls_kept columns (made_in next) (made_in (write_calls flag calls next)) rest.after.kept (call ∷ []) (inputs_of_calls flag (call ∷ []) writing) (one.call_made, tt) in
            (last.0, rest.calls_made);
      }

  -- fields ----------------------------------------------------------------------------------------------------------------------

  pub record FlagIsFormed (condition : Option Condition) (writing : Writing) : Type 0 where
    pub after : IsFormedAfter made start columns writing (write_flag condition writing)
    pub flagged : IsFlagMade (made_in (write_flag condition writing)) (flag_of condition writing)

  flag_formed : (condition : Option Condition) (writing : Writing) → IsFormed made start writing → Shows writing columns → IsJudgedIf context.accepts columns condition → FlagIsFormed condition writing
  flag_formed None writing formed shows judged = record { after = same_formed writing formed shows; flagged = tt }
  flag_formed (Some condition) writing formed shows judged =
      let inner : TypedExpr = typed_in writing condition.expr in
      let typed : TypedExpr = flag_typed condition.node inner in
      record {
        after = record {
          formed = typed_formed made start writing formed condition.expr typed (λ bounds whole free nodes.
              let below = All-front (IsNodeBelow bounds.nodes) (nodes_of inner) (condition.node ∷ [])
              (All-same (IsNodeBelow bounds.nodes) _ _ (sym (flag_nodes condition.node inner)) nodes) in
              let stands = expr_stands made start writing formed context columns condition.expr judged.kind shows judged.is bounds whole free below in
              record {
                fits = flag_fits bounds.whole bounds.free condition.node inner (ap (is_kind Boolean) (typed_kinded condition.expr writing shows judged.kind judged.is) ∙ judged.truth) stands.fits;
                reads = flag_reads (made_in writing) condition.node inner stands.reads;
                nodes = nodes;
              });
          kept = typed_kept made start writing formed condition.expr typed;
          shows = shows;
        };
        flagged = typed_made made start writing formed condition.expr typed;
      }

  pub record FieldsAreBefore (fields : List StatsField) (writing : Writing) : Type 0 where
    pub after : IsFormedAfter made start columns writing (write_all_before fields writing)
    pub calls_made : AreCallsMade columns (made_in (write_all_before fields writing)) (flat_map calls_in_field fields) (all_inputs fields writing)

  pub fields_before : (fields : List StatsField) (writing : Writing) → IsFormed made start writing → Shows writing columns → All (FieldJudged context columns) fields → FieldsAreBefore fields writing
  fields_before [] writing formed shows judged = record { after = same_formed writing formed shows; calls_made = tt }
  fields_before (stats ∷ fields) writing formed shows judged =
      let own = All-head (FieldJudged context columns) stats fields judged in
      let flag = flag_formed stats.condition writing formed shows own.condition in
      let calls = calls_formed (flag_of stats.condition writing) (calls_of stats.field.expr) (write_flag stats.condition writing) flag.after.formed flag.after.shows flag.flagged
      (calls_judged stats.field.expr columns context.accepts own.kind own.is) in
      let next : Writing = write_before stats writing in
      let rest = fields_before fields next calls.after.formed calls.after.shows (All-tail (FieldJudged context columns) stats fields judged) in
      record {
        after = record { formed = rest.after.formed; kept = λ column there. rest.after.kept column (calls.after.kept column (flag.after.kept column there)); shows = rest.after.shows };
        calls_made = calls_both columns (made_in (write_all_before fields next)) (calls_of stats.field.expr) (inputs_before stats writing) (flat_map calls_in_field fields) (all_inputs fields next)
            (calls_kept columns (made_in next) (made_in (write_all_before fields next)) rest.after.kept (calls_of stats.field.expr) (inputs_before stats writing) calls.calls_made) rest.calls_made;
      }

  -- groups ----------------------------------------------------------------------------------------------------------------------

  abbrev GroupJudged : Field → Type 0
  GroupJudged = GroupIsJudged context.accepts columns

  pub record GroupsAreFormed (groups : List Field) (writing : Writing) : Type 0 where
    pub after : IsFormedAfter made start columns writing (write_groups groups writing)
    pub inputs : All (λ (input : GroupInput). IsMadeAs (made_in (write_groups groups writing)) input.id input.kind) (group_inputs groups writing)

  pub groups_formed : (groups : List Field) (writing : Writing) → IsFormed made start writing → Shows writing columns → All GroupJudged groups → GroupsAreFormed groups writing
  groups_formed [] writing formed shows judged =
      record { after = same_formed writing formed shows; inputs = All-nil (λ (input : GroupInput). IsMadeAs (made_in writing) input.id input.kind) }
  groups_formed (group ∷ groups) writing formed shows judged =
      let own = All-head GroupJudged group groups judged in
      let next : Writing = write_input writing group.expr in
      let one = input_formed made start context columns group.expr writing formed shows (record { kind = own.kind; is = own.is }) in
      let rest = groups_formed groups next one.formed (input_shows columns writing group.expr shows) (All-tail GroupJudged group groups judged) in
      let last : List MadeColumn = made_in (write_groups groups next) in
      record {
        after = record { formed = rest.after.formed; kept = λ column there. rest.after.kept column (one.kept column there); shows = rest.after.shows };
        inputs = All-cons (λ (input : GroupInput). IsMadeAs last input.id input.kind) _ (group_inputs groups next)
            (rest.after.kept (made_as (input_of writing group.expr) (typed_in writing group.expr).kind) one.input) rest.inputs;
      }
