-- STATS writes what it is to write, once it is judged.
use Rattle.std.proofs.Common.{◌≡◌, ℕ, ◌+◌, ◌*◌, ◌≤◌, List, ◌++◌, length, IfOk, IfErr, Result, Ok, Err, ap, sym, subst, ◌∙◌, arith}
use Rattle.std.specs.List.{flat_map}
use Rattle.std.proofs.lemmas.List.{length-append, length-map}
use Rattle.esql_types.specs.declared.names.Column.{Column}
use Rattle.esql_ast.specs.declared.query.Field.{Field}
use Rattle.esql_ast.specs.declared.query.StatsField.{StatsField}
use Rattle.esql_ast.specs.Nodes.{nodes_of_stats, nodes_of_field}
use Rattle.esql_plan.specs.declared.plan.OutColumn.{OutColumn}
use Rattle.plan_semantics.specs.Plans.{columns_of}
use Rattle.row_semantics.specs.Regulars.{is_accepted}
use Rattle.row_semantics.specs.Scopes.{Broken}
use Rattle.query_semantics.specs.StatsShapes.{shape_of_stats}
use Rattle.query_semantics.specs.Writings.{Writing}
use Rattle.query_semantics.specs.WrittenStats.{CallInput, GroupInput, write_all_before, all_inputs, write_groups, group_inputs, write_grouping, write_behind, write_stats}
use Rattle.expression_analysis.specs.declared.error.AnalyzeError.{AnalyzeError}
use Rattle.stats_writing.specs.declared.stats.Grouped.{Grouped}
use Rattle.stats_writing.specs.declared.stats_inputs.Arguments.{Arguments}
use Rattle.stats_writing.specs.declared.stats_inputs.Grouping.{Grouping}
use Rattle.plan_writing.specs.declared.writing.Writing.{Writing as Made}
use Rattle.plan_writing.specs.Answers.{Writes}
use Rattle.stats_writing.specs.CallsSeen.{calls_in_fields}
use Rattle.stats_writing.specs.Parts.{HasValue, OneIsRefused, judged_fields}
use Rattle.stats_writing.specs.StatsSeen.{call_in, calls_seen, group_in, groups_seen}
use Rattle.plan_writing.specs.Writings.{seen, HasRoom}
use Rattle.stats_writing.proofs.OneRefused.{value_in}
use Rattle.plan_writing.proofs.PlainRooms.{less_room}
use Rattle.stats_writing.proofs.StatsJudged.{fields_refused}
use Rattle.stats_writing.proofs.StatsRooms.{all_before_room, all_inputs_length, group_inputs_length, inputs_room, grouping_room}
use Rattle.stats_writing.proofs.StatsShown.{stats_shown}

-- before the groups are made --------------------------------------------------------------------------------------------------

module _ (fields : List StatsField) (groups : List Field) (old : Made) (room : HasRoom (seen old) (2 * length (flat_map nodes_of_stats fields ++ flat_map nodes_of_field groups))) where
  abbrev before : Writing
  before = write_all_before fields (seen old)

  pub few_fields : length (flat_map nodes_of_stats fields) ≤ 4294967295
  few_fields = let both = length-append (flat_map nodes_of_stats fields) (flat_map nodes_of_field groups) in omega (arith, room.columns, both)

  pub few_groups : length (flat_map nodes_of_field groups) ≤ 4294967295
  few_groups = let both = length-append (flat_map nodes_of_stats fields) (flat_map nodes_of_field groups) in omega (arith, room.columns, both)

  pub fields_have_room : HasRoom (seen old) (length (flat_map nodes_of_stats fields))
  fields_have_room = let both = length-append (flat_map nodes_of_stats fields) (flat_map nodes_of_field groups) in less_room (seen old) _ _ (omega (arith, both)) room

  pub groups_have_room : (made : Writing) → made ≡ before → HasRoom made (length (flat_map nodes_of_field groups))
  groups_have_room made is =
      let both = length-append (flat_map nodes_of_stats fields) (flat_map nodes_of_field groups) in
      subst (λ (writing : Writing). HasRoom writing (length (flat_map nodes_of_field groups))) (sym is)
      (less_room before (calls_in_fields fields + length (flat_map nodes_of_field groups)) _ (omega arith)
      (all_before_room fields (seen old) (length (flat_map nodes_of_field groups)) (less_room (seen old) _ _ (omega (arith, both)) room)))

  -- the groups are made of what was written before
  pub record IsMade (made : Arguments) (grouping : Grouping) : Type 0 where
    pub shown : grouping.writing.visible ≡ old.visible
    pub calls : calls_seen made.calls ≡ all_inputs fields (seen old)
    pub groups_are : groups_seen grouping.groups ≡ group_inputs groups before
    pub written : seen grouping.writing ≡ write_groups groups before

  pub stats_made : (made : Arguments) (grouping : Grouping) → made.writing.visible ≡ old.visible → seen made.writing ≡ before → calls_seen made.calls ≡ all_inputs fields (seen old)
      → grouping.writing.visible ≡ made.writing.visible → seen grouping.writing ≡ write_groups groups (seen made.writing) → groups_seen grouping.groups ≡ group_inputs groups (seen made.writing) → IsMade made grouping
  stats_made made grouping shown written calls shown_then written_then inputs = record {
    shown = shown_then ∙ shown;
    calls = calls;
    groups_are = inputs ∙ ap (group_inputs groups) written;
    written = written_then ∙ ap (write_groups groups) written;
  }

  module _ (made : Arguments) (grouping : Grouping) (is : IsMade made grouping) where
    pub calls_counted : length made.calls ≡ calls_in_fields fields
    calls_counted = sym (length-map made.calls call_in) ∙ ap (λ (calls : List CallInput). length calls) is.calls ∙ all_inputs_length fields (seen old)

    pub groups_counted : length grouping.groups ≡ length groups
    groups_counted = sym (length-map grouping.groups group_in) ∙ ap (λ (inputs : List GroupInput). length inputs) is.groups_are ∙ group_inputs_length groups before

    all_room : HasRoom (write_groups groups before) (length (all_inputs fields (seen old)) + length (group_inputs groups before) + (length (flat_map nodes_of_stats fields) + 0))
    all_room = inputs_room fields groups (seen old) 0 (less_room (seen old) _ _ (omega arith) room)

    pub numbers_have_room : grouping.writing.next + (length made.calls + length grouping.groups) ≤ 4294967295
    numbers_have_room =
        let next : grouping.writing.next ≡ (write_groups groups before).next = ap (λ (writing : Writing). writing.next) is.written in
        omega (arith, all_room.columns, next, calls_counted, groups_counted, all_inputs_length fields (seen old), group_inputs_length groups before)

    -- what is written of the groups
    pub record IsGrouped (grouped : Grouped) : Type 0 where
      pub before_is : grouped.before ≡ grouping.writing.visible
      pub first : grouped.first ≡ grouping.writing.next
      pub calls_are : grouped.calls ≡ length made.calls
      pub groups_same : grouped.groups ≡ grouping.groups
      pub written_is : seen grouped.writing ≡ write_grouping (calls_seen made.calls) (groups_seen grouping.groups) (seen grouping.writing)

    module _ (grouped : Grouped) (are : IsGrouped grouped) where
      abbrev own : Writing
      own = write_grouping (all_inputs fields (seen old)) (group_inputs groups before) (write_groups groups before)

      own_is : seen grouped.writing ≡ own
      own_is = are.written_is ∙ (λ i. write_grouping (is.calls i) (is.groups_are i) (is.written i))

      pub fields_have_room_behind : HasRoom (seen grouped.writing) (length (flat_map nodes_of_stats fields))
      fields_have_room_behind =
          subst (λ (writing : Writing). HasRoom writing (length (flat_map nodes_of_stats fields))) (sym own_is)
          (less_room own (length (flat_map nodes_of_stats fields) + 0) _ (omega arith) (grouping_room (all_inputs fields (seen old)) (group_inputs groups before) (write_groups groups before) _ all_room))

      pub calls_stand : grouped.calls ≡ calls_in_fields fields
      calls_stand = are.calls_are ∙ calls_counted

      pub groups_stand : length grouped.groups ≡ length groups
      groups_stand = ap length are.groups_same ∙ groups_counted

      pub few_behind : grouped.first + (grouped.calls + length groups) ≤ 4294967295
      few_behind = omega (arith, numbers_have_room, are.first, are.calls_are, groups_counted)

      pub behind_is : (text : List ℕ) → write_behind text grouped.before grouped.first grouped.calls fields groups (groups_seen grouped.groups) (seen grouped.writing) ≡ write_stats text fields groups (seen old)
      behind_is text =
          let shown : grouped.before ≡ old.visible = are.before_is ∙ is.shown in
          let first : grouped.first ≡ (write_groups groups before).next = are.first ∙ ap (λ (writing : Writing). writing.next) is.written in
          let count : grouped.calls ≡ length (all_inputs fields (seen old)) = calls_stand ∙ sym (all_inputs_length fields (seen old)) in
          let inputs : groups_seen grouped.groups ≡ group_inputs groups before = ap groups_seen are.groups_same ∙ is.groups_are in
          λ i. write_behind text (shown i) (first i) (count i) fields groups (inputs i) (own_is i)

-- what STATS writes, and how it is refused
pub stats_writes : (text : List ℕ) (fields : List StatsField) (groups : List Field) (old : Made) (before : List OutColumn) (result : Result Made AnalyzeError)
    → HasValue (shape_of_stats text is_accepted fields groups (columns_of old.visible)) → before ≡ old.visible
    → IfOk result (λ new. seen new ≡ write_stats text fields groups (seen old)) → IfErr result (OneIsRefused (judged_fields before fields))
    → Writes (λ accepts. shape_of_stats text accepts fields groups (columns_of old.visible)) (write_stats text fields groups (seen old)) result
stats_writes text fields groups old before (Ok made) has shown written refused =
    let shape = value_in (shape_of_stats text is_accepted fields groups (columns_of old.visible)) has in
    let columns : columns_of made.visible ≡ shape.value = ap (λ (writing : Writing). columns_of writing.visible) written ∙ stats_shown text is_accepted fields groups (seen old) shape.value shape.is in
    (written, shape.is ∙ ap (λ (these : List Column). let found : Result (List Column) Broken = Ok these in found) (sym columns))
stats_writes text fields groups old before (Err error) has shown written refused =
    fields_refused text old.visible fields groups error has (subst (λ (columns : List OutColumn). OneIsRefused (judged_fields columns fields) error) shown refused)
