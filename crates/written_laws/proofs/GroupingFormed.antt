-- The step that makes groups is well formed, and makes the columns of the aggregates and of what rows are grouped by.
use Rattle.std.proofs.Common.{◌≡◌, ℕ, suc, ◌+◌, ◌≤◌, ◌==◌, false, List, [], ◌∷◌, ◌++◌, map, length, All, Option, Some, None, refl, ap, sym, subst, ◌∙◌, arith}
use Rattle.std.proofs.lemmas.List.{map-append, length-append}
use Rattle.std.proofs.lemmas.List.Elements.{All-nil, All-cons, All-head, All-tail, All-weaker, Contains-append_right}
use Rattle.esql_types.specs.declared.value.Kind.{Kind}
use Rattle.esql_types.specs.declared.value.Kind.TheVariants.{Null}
use Rattle.esql_types.specs.declared.names.Column.{Column}
use Rattle.esql_types.specs.declared.names.ColId.{ColId}
use Rattle.esql_plan.specs.declared.function.AggFunction.{AggFunction}
use Rattle.esql_plan.specs.declared.function.AggFunction.TheVariants as aggregate
use Rattle.esql_plan.specs.declared.step.Aggregate.{Aggregate}
use Rattle.esql_plan.specs.declared.step.GroupColumn.{GroupColumn}
use Rattle.esql_plan.specs.declared.step.Step.{Step}
use Rattle.esql_plan.specs.declared.step.Step.TheVariants as step
use Rattle.plan_semantics.specs.Aggregates.{aggregate_fits, aggregate_kind}
use Rattle.plan_semantics.specs.Plans.{columns_of}
use Rattle.plan_semantics.specs.Stats.{stats_columns}
use Rattle.plan_semantics.specs.WellFormed.{MadeColumn, made_as, IsMadeAs, IsMade, kind_made, input_kind, stats_made, steps_made, Bounds, MakesNew, InputStands, HasInput, AggregateStands, StatsStand}
use Rattle.row_semantics.specs.Typed.{Visible}
use Rattle.query_semantics.specs.Calls.{AggregateCall}
use Rattle.query_semantics.specs.Writings.{Writing, column_at}
use Rattle.query_semantics.specs.WrittenStats.{CallInput, GroupInput, aggregates_from, groups_from, write_grouping}
use Rattle.query_semantics.proofs.CallsJudged.{counts_rows}
use Rattle.written_laws.proofs.CallsFormed.{InputIsMade, AreCallsMade, AreKept}
use Rattle.written_laws.proofs.ColumnsTyped.{OutIsMade}
use Rattle.written_laws.proofs.Consecutive.{AreFrom, from-append, HasBetween, all_between, from_once}
use Rattle.written_laws.proofs.FieldsRead.{call_kind}
use Rattle.written_laws.proofs.MadeOnce.{AreMade, IsMadeBelow, IsOnce, IsOtherThan, none_made_once, once_cons, made_first, made_later, is_made}
use Rattle.written_laws.proofs.Sources.{eq_above}
use Rattle.query_semantics.proofs.Named.{eq_below}
use Rattle.written_laws.proofs.StepsFormed.{Start, IsNodeBelow, IsWithin, IsFormed, steps_made-push, steps_stand-push, split_nodes}

-- the columns of calls, on from a number, are made with the kinds of the calls
abbrev pub AreNumbered : List Column → List MadeColumn → ℕ → List AggregateCall → Type 0
AreNumbered columns made number [] = Unit {0}
AreNumbered columns made number (call ∷ calls) =
    ((visible : Visible) → columns ≡ columns_of visible.columns → IsMadeAs made (column_at number) (call_kind visible call)) × AreNumbered columns made (number + 1) calls

-- those of what rows are grouped by are made with its kinds
abbrev pub AreGroupsNumbered : List MadeColumn → ℕ → List GroupInput → Type 0
AreGroupsNumbered made number [] = Unit {0}
AreGroupsNumbered made number (input ∷ inputs) = IsMadeAs made (column_at number) input.kind × AreGroupsNumbered made (number + 1) inputs

pub numbered_kept : (columns : List Column) (made after : List MadeColumn) → AreKept made after → (number : ℕ) (calls : List AggregateCall) → AreNumbered columns made number calls
    → AreNumbered columns after number calls
numbered_kept columns made after kept number [] are = tt
numbered_kept columns made after kept number (call ∷ calls) are =
    ((λ visible shows. kept (made_as (column_at number) (call_kind visible call)) (are.0 visible shows)), numbered_kept columns made after kept (number + 1) calls are.1)

pub groups_kept : (made after : List MadeColumn) → AreKept made after → (number : ℕ) (inputs : List GroupInput) → AreGroupsNumbered made number inputs → AreGroupsNumbered after number inputs
groups_kept made after kept number [] are = tt
groups_kept made after kept number (input ∷ inputs) are = (kept (made_as (column_at number) input.kind) are.0, groups_kept made after kept (number + 1) inputs are.1)

-- these calls and those behind them
pub numbered_parts : (columns : List Column) (made : List MadeColumn) (number : ℕ) (these those : List AggregateCall) → AreNumbered columns made number (these ++ those)
    → AreNumbered columns made number these × AreNumbered columns made (number + length these) those
numbered_parts columns made number [] those are = (tt, subst (λ (n : ℕ). AreNumbered columns made n those) (let e : number ≡ number + 0 = omega arith in e) are)
numbered_parts columns made number (call ∷ these) those are =
    let rest = numbered_parts columns made (number + 1) these those are.1 in
    ((are.0, rest.0), subst (λ (n : ℕ). AreNumbered columns made n those) (let e : number + 1 + length these ≡ number + suc (length these) = omega arith in e) rest.1)

-- numbers ---------------------------------------------------------------------------------------------------------------------------

abbrev number_of : ColId → ℕ
number_of id = id.0

abbrev id_of : MadeColumn → ℕ
id_of column = column.id

abbrev aggregate_to : Aggregate → ColId
aggregate_to aggregate = aggregate.to

abbrev group_to : GroupColumn → ColId
group_to group = group.to

pub length_aggregates : (number : ℕ) (calls : List CallInput) → length (map aggregate_to (aggregates_from number calls)) ≡ length calls
length_aggregates number [] = refl
length_aggregates number (call ∷ calls) = ap (λ (n : ℕ). suc n) (length_aggregates (number + 1) calls)

pub length_groups : (number : ℕ) (groups : List GroupInput) → length (map group_to (groups_from number groups)) ≡ length groups
length_groups number [] = refl
length_groups number (group ∷ groups) = ap (λ (n : ℕ). suc n) (length_groups (number + 1) groups)

aggregates_numbered : (number : ℕ) (calls : List CallInput) → AreFrom number_of number (map aggregate_to (aggregates_from number calls))
aggregates_numbered number [] = tt
aggregates_numbered number (call ∷ calls) = (refl, aggregates_numbered (number + 1) calls)

groups_numbered : (number : ℕ) (groups : List GroupInput) → AreFrom number_of number (map group_to (groups_from number groups))
groups_numbered number [] = tt
groups_numbered number (group ∷ groups) = (refl, groups_numbered (number + 1) groups)

module _ (number : ℕ) (calls : List CallInput) (groups : List GroupInput) where
  abbrev pub new_aggregates : List Aggregate
  new_aggregates = aggregates_from number calls

  abbrev pub new_groups : List GroupColumn
  new_groups = groups_from (number + length calls) groups

  -- the columns of the step are numbered on from the next one
  pub columns_from : AreFrom number_of number (stats_columns new_aggregates new_groups)
  columns_from =
      from-append number_of number (map aggregate_to new_aggregates) (map group_to new_groups) (aggregates_numbered number calls)
      (subst (λ (n : ℕ). AreFrom number_of (number + n) (map group_to new_groups)) (sym (length_aggregates number calls)) (groups_numbered (number + length calls) groups))

  pub length_columns : length (stats_columns new_aggregates new_groups) ≡ length calls + length groups
  length_columns =
      length-append (map aggregate_to new_aggregates) (map group_to new_groups) ∙ (λ i. length_aggregates number calls i + length_groups (number + length calls) groups i)

-- columns that are made, on from a number -----------------------------------------------------------------------------------------

made_once : (number : ℕ) (made : List MadeColumn) → AreFrom id_of number made → IsOnce made
made_once number [] from = none_made_once
made_once number (column ∷ made) from =
    let own = from.0 in
    once_cons column made
    (All-weaker (HasBetween id_of (number + 1) (number + 1 + length made)) (IsOtherThan column.id)
    (λ other within. eq_below column.id other.id (omega (arith, own, within.from))) made (all_between id_of (number + 1) made from.1))
    (made_once (number + 1) made from.1)

module _ (made : List MadeColumn) where
  abbrev made_of_aggregate : Aggregate → MadeColumn
  made_of_aggregate aggregate = made_as aggregate.to (aggregate_kind aggregate.function (input_kind made aggregate.input))

  abbrev made_of_group : GroupColumn → MadeColumn
  made_of_group group = made_as group.to (kind_made made group.id)

  same_numbers : (ids : List ColId) (columns : List MadeColumn) (number : ℕ) → map id_of columns ≡ map number_of ids → AreFrom number_of number ids → AreFrom id_of number columns
  same_numbers [] [] number same from = tt
  same_numbers [] (column ∷ columns) number same from = absurd cc
  same_numbers (id ∷ ids) [] number same from = absurd cc
  same_numbers (id ∷ ids) (column ∷ columns) number same from =
      let first : column.id ≡ id.0 = cc in
      let rest : map id_of columns ≡ map number_of ids = cc in
      (first ∙ from.0, same_numbers ids columns (number + 1) rest from.1)

  aggregate_numbers : (aggregates : List Aggregate) → map id_of (map made_of_aggregate aggregates) ≡ map number_of (map aggregate_to aggregates)
  aggregate_numbers [] = refl
  aggregate_numbers (aggregate ∷ aggregates) = ap (λ (ns : List ℕ). aggregate.to.0 ∷ ns) (aggregate_numbers aggregates)

  group_numbers : (groups : List GroupColumn) → map id_of (map made_of_group groups) ≡ map number_of (map group_to groups)
  group_numbers [] = refl
  group_numbers (group ∷ groups) = ap (λ (ns : List ℕ). group.to.0 ∷ ns) (group_numbers groups)

  stats_numbers : (aggregates : List Aggregate) (groups : List GroupColumn) → map id_of (stats_made made aggregates groups) ≡ map number_of (stats_columns aggregates groups)
  stats_numbers aggregates groups =
      map-append id_of (map made_of_aggregate aggregates) (map made_of_group groups)
      ∙ (λ i. aggregate_numbers aggregates i ++ group_numbers groups i)
      ∙ sym (map-append number_of (map aggregate_to aggregates) (map group_to groups))

  -- aggregates and groups stand ---------------------------------------------------------------------------------------------------

  input_stands : IsOnce made → (function : AggFunction) (input : Option ColId) (kind : Kind) → InputIsMade made function input kind → InputStands made function input
  input_stands once function None kind rows = subst (λ (these : AggFunction). InputStands made these None) (sym rows) refl
  input_stands once function (Some id) kind is = with_input function is.1.1 (is_made made id kind is.0, ap (aggregate_fits function) (once id kind is.0) ∙ is.1.0)
    where
      with_input : (function : AggFunction) → counts_rows function ≡ false → HasInput made function (Some id) → InputStands made function (Some id)
      with_input aggregate.CountRows other has = absurd cc
      with_input aggregate.Count other has = has
      with_input aggregate.CountDistinct other has = has
      with_input aggregate.Sum other has = has
      with_input aggregate.Min other has = has
      with_input aggregate.Max other has = has
      with_input aggregate.Values other has = has

  aggregates_stand : (bounds : Bounds) (columns : List Column) → IsOnce made → (number : ℕ) (calls : List AggregateCall) (inputs : List CallInput) → AreCallsMade columns made calls inputs
      → All (IsNodeBelow bounds.nodes) (map (λ (one : Aggregate). one.node) (aggregates_from number inputs)) → All (AggregateStands bounds made) (aggregates_from number inputs)
  aggregates_stand bounds columns once number [] [] are below = All-nil (AggregateStands bounds made)
  aggregates_stand bounds columns once number [] (input ∷ inputs) are below = absurd are
  aggregates_stand bounds columns once number (call ∷ calls) [] are below = absurd are
  aggregates_stand bounds columns once number (call ∷ calls) (input ∷ inputs) are below =
      let rest = map (λ (one : Aggregate). one.node) (aggregates_from (number + 1) inputs) in
      let one = are.0 in
      All-cons (AggregateStands bounds made) _ (aggregates_from (number + 1) inputs)
      (record { input = input_stands once input.function input.input one.own one.input_made; below = All-head (IsNodeBelow bounds.nodes) input.node rest below })
      (aggregates_stand bounds columns once (number + 1) calls inputs are.1 (All-tail (IsNodeBelow bounds.nodes) input.node rest below))

  groups_stand : (number : ℕ) (inputs : List GroupInput) → All (λ (input : GroupInput). IsMadeAs made input.id input.kind) inputs → All (λ (group : GroupColumn). IsMade made group.id) (groups_from number inputs)
  groups_stand number [] all = All-nil (λ (group : GroupColumn). IsMade made group.id)
  groups_stand number (input ∷ inputs) all =
      let Made : GroupInput → Type 0 = λ input. IsMadeAs made input.id input.kind in
      All-cons (λ (group : GroupColumn). IsMade made group.id) _ (groups_from (number + 1) inputs) (is_made made input.id input.kind (All-head Made input inputs all))
      (groups_stand (number + 1) inputs (All-tail Made input inputs all))

  own_kind : IsOnce made → (function : AggFunction) (input : Option ColId) (kind : Kind) → InputIsMade made function input kind → aggregate_kind function (input_kind made input) ≡ aggregate_kind function kind
  own_kind once function None kind rows =
      ap (λ (these : AggFunction). aggregate_kind these Null) rows ∙ sym (ap (λ (these : AggFunction). aggregate_kind these kind) rows)
  own_kind once function (Some id) kind is = ap (aggregate_kind function) (once id kind is.0)

  aggregates_made : IsOnce made → (columns : List Column) (number : ℕ) (calls : List AggregateCall) (inputs : List CallInput) (more : List MadeColumn) → AreCallsMade columns made calls inputs
      → AreNumbered columns (map made_of_aggregate (aggregates_from number inputs) ++ more) number calls
  aggregates_made once columns number [] [] more are = tt
  aggregates_made once columns number [] (input ∷ inputs) more are = absurd are
  aggregates_made once columns number (call ∷ calls) [] more are = absurd are
  aggregates_made once columns number (call ∷ calls) (input ∷ inputs) more are =
      let one = are.0 in
      let own : Kind = aggregate_kind input.function (input_kind made input.input) in
      let rest : List MadeColumn = map made_of_aggregate (aggregates_from (number + 1) inputs) ++ more in
      let new : MadeColumn = made_as (column_at number) own in (
        (λ visible shows. subst (IsMadeAs (new ∷ rest) (column_at number)) (own_kind once input.function input.input one.own one.input_made ∙ one.kind visible shows) (made_first new rest)),
        numbered_kept columns rest (new ∷ rest) (made_later new rest) (number + 1) calls (aggregates_made once columns (number + 1) calls inputs more are.1),
      )

  groups_made : IsOnce made → (number : ℕ) (inputs : List GroupInput) → All (λ (input : GroupInput). IsMadeAs made input.id input.kind) inputs
      → AreGroupsNumbered (map made_of_group (groups_from number inputs)) number inputs
  groups_made once number [] all = tt
  groups_made once number (input ∷ inputs) all =
      let Made : GroupInput → Type 0 = λ input. IsMadeAs made input.id input.kind in
      let rest : List MadeColumn = map made_of_group (groups_from (number + 1) inputs) in
      let new : MadeColumn = made_as (column_at number) (kind_made made input.id) in (
        subst (IsMadeAs (new ∷ rest) (column_at number)) (once input.id input.kind (All-head Made input inputs all)) (made_first new rest),
        groups_kept rest (new ∷ rest) (made_later new rest) (number + 1) inputs (groups_made once (number + 1) inputs (All-tail Made input inputs all)),
      )

same_length : (ids : List ColId) (columns : List MadeColumn) → map id_of columns ≡ map number_of ids → length columns ≡ length ids
same_length [] [] same = refl
same_length [] (column ∷ columns) same = absurd cc
same_length (id ∷ ids) [] same = absurd cc
same_length (id ∷ ids) (column ∷ columns) same = ap (λ (n : ℕ). suc n) (same_length ids columns (let rest : map id_of columns ≡ map number_of ids = cc in rest))

-- the step --------------------------------------------------------------------------------------------------------------------------

-- the step is well formed, and its columns are made behind it
pub record GroupingIsFormed (made : List MadeColumn) (start : Start) (columns : List Column) (calls : List AggregateCall) (inputs : List CallInput) (groups : List GroupInput) (writing : Writing) : Type 0 where
  pub formed : IsFormed made start (write_grouping inputs groups writing)
  pub calls_are : AreNumbered columns (steps_made made (write_grouping inputs groups writing).steps) writing.next calls
  pub groups_are : AreGroupsNumbered (steps_made made (write_grouping inputs groups writing).steps) (writing.next + length inputs) groups

module _ (made : List MadeColumn) (start : Start) (columns : List Column) (calls : List AggregateCall) (inputs : List CallInput) (groups : List GroupInput) (writing : Writing)
    (formed : IsFormed made start writing) (are : AreCallsMade columns (steps_made made writing.steps) calls inputs)
    (all : All (λ (input : GroupInput). IsMadeAs (steps_made made writing.steps) input.id input.kind) groups) where
  abbrev so_far : List MadeColumn
  so_far = steps_made made writing.steps

  abbrev aggregates : List Aggregate
  aggregates = new_aggregates writing.next inputs groups

  abbrev group_columns : List GroupColumn
  group_columns = new_groups writing.next inputs groups

  abbrev behind : List MadeColumn
  behind = stats_made so_far aggregates group_columns

  abbrev last : Step
  last = step.Stats aggregates group_columns

  behind_from : AreFrom id_of writing.next behind
  behind_from = same_numbers so_far (stats_columns aggregates group_columns) behind writing.next (stats_numbers so_far aggregates group_columns) (columns_from writing.next inputs groups)

  behind_length : length behind ≡ length inputs + length groups
  behind_length = same_length (stats_columns aggregates group_columns) behind (stats_numbers so_far aggregates group_columns) ∙ length_columns writing.next inputs groups

  behind_made : AreMade behind (writing.next + (length inputs + length groups)) []
  behind_made = record {
    seen = All-nil (OutIsMade behind);
    below = All-weaker (HasBetween id_of writing.next (writing.next + length behind)) (IsMadeBelow (writing.next + (length inputs + length groups)))
        (λ column within. omega (arith, within.below, behind_length)) behind (all_between id_of writing.next behind behind_from);
    once = made_once writing.next behind behind_from;
  }

  stats_stand : (bounds : Bounds) → writing.next + (length inputs + length groups) ≤ bounds.columns → All (IsNodeBelow bounds.nodes) (map (λ (one : Aggregate). one.node) aggregates)
      → StatsStand bounds so_far aggregates group_columns
  stats_stand bounds within below = record {
    stand = aggregates_stand so_far bounds columns formed.columns.once writing.next calls inputs are below;
    keys = groups_stand so_far (writing.next + length inputs) groups all;
    new = All-weaker (HasBetween number_of writing.next (writing.next + length (stats_columns aggregates group_columns))) (MakesNew bounds so_far)
        (λ id between. record {
          new = All-weaker (IsMadeBelow writing.next) (λ column. id.0 == column.id ≡ false) (λ column less. eq_above column.id id.0 (omega (arith, less, between.from))) so_far formed.columns.below;
          below = omega (arith, between.below, within, length_columns writing.next inputs groups);
        })
        (stats_columns aggregates group_columns) (all_between number_of writing.next (stats_columns aggregates group_columns) (columns_from writing.next inputs groups));
    once = from_once number_of writing.next (stats_columns aggregates group_columns) (columns_from writing.next inputs groups);
  }

  pub grouping_formed : GroupingIsFormed made start columns calls inputs groups writing
  grouping_formed =
      let is : steps_made made (writing.steps ++ last ∷ []) ≡ behind = steps_made-push made writing.steps last in
      let next : ℕ = writing.next + (length inputs + length groups) in
      record {
        formed = record {
          columns = subst (λ (these : List MadeColumn). AreMade these next []) (sym is) behind_made;
          later = omega (arith, formed.later);
          stand = λ bounds within.
              let nodes = split_nodes made start writing formed bounds.nodes last within.nodes in
              let before : IsWithin start bounds writing = record { catalog = within.catalog; whole = within.whole; free = within.free; cutters = within.cutters; next = omega (arith, within.next); nodes = nodes.0 } in
              steps_stand-push bounds made writing.steps last (formed.stand bounds before) (stats_stand bounds within.next nodes.1);
        };
        calls_are = subst (λ (these : List MadeColumn). AreNumbered columns these writing.next calls) (sym is)
            (aggregates_made so_far formed.columns.once columns writing.next calls inputs (map (made_of_group so_far) group_columns) are);
        groups_are = subst (λ (these : List MadeColumn). AreGroupsNumbered these (writing.next + length inputs) groups) (sym is)
            (groups_kept (map (made_of_group so_far) group_columns) behind
            (λ column there. Contains-append_right (map (made_of_aggregate so_far) aggregates) (map (made_of_group so_far) group_columns) column there)
            (writing.next + length inputs) groups (groups_made so_far formed.columns.once (writing.next + length inputs) groups all));
      }
