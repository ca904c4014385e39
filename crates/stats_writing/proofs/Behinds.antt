-- The fields of STATS are written in turn behind the step that makes the groups.
use Rattle.std.proofs.Common.{◌≡◌, ℕ, ◌+◌, ◌≤◌, List, [], ◌∷◌, length, refl, subst, sym, ◌∙◌, arith}
use Rattle.std.specs.List.{flat_map}
use Rattle.std.proofs.lemmas.List.{length-append}
use Rattle.esql_ast.specs.declared.query.StatsField.{StatsField}
use Rattle.esql_ast.specs.Nodes.{nodes_of_stats}
use Rattle.esql_plan.specs.declared.plan.OutColumn.{OutColumn}
use Rattle.query_semantics.specs.Calls.{calls_of}
use Rattle.query_semantics.specs.Writings.{Writing}
use Rattle.query_semantics.specs.WrittenStats.{write_stats_field, write_stats_fields}
use Rattle.expression_analysis.specs.declared.error.AnalyzeError.{AnalyzeError}
use Rattle.expression_analysis.specs.Answers.{IsRefusal}
use Rattle.stats_writing.specs.CallsSeen.{calls_in_fields}
use Rattle.stats_writing.specs.Parts.{OneIsRefused, judged_in_field, judged_fields}
use Rattle.plan_writing.specs.Regulars.{regulars_of_field, regulars_of_condition, regulars_of_stats}
use Rattle.plan_writing.specs.Writings.{HasRoom}
use Rattle.stats_writing.proofs.CallsRegulars.{within_then}
use Rattle.plan_writing.proofs.Heard.{IsWithin, within_front, within_back}
use Rattle.stats_writing.proofs.OneRefused.{refused_alone, refused_front, refused_back}
use Rattle.plan_writing.proofs.PlainRooms.{less_room}
use Rattle.stats_writing.proofs.StatsRooms.{field_room}

-- where the rest of the fields is left to be written, whose aggregates are numbered on from a number
pub record BehindAlong (text : List ℕ) (before : List OutColumn) (fields : List StatsField) (first : ℕ) (start : Writing) (rest : List StatsField) (number : ℕ) (made : Writing) : Type 0 where
  pub written : write_stats_fields text before number rest made ≡ write_stats_fields text before first fields start
  pub room : HasRoom made (length (flat_map nodes_of_stats rest))
  pub few : number + calls_in_fields rest ≤ 4294967295
  pub refusal : (error : AnalyzeError) → OneIsRefused (judged_fields before rest) error → OneIsRefused (judged_fields before fields) error
  pub within : IsWithin (flat_map regulars_of_stats rest) (flat_map regulars_of_stats fields)

module _ (text : List ℕ) (before : List OutColumn) (fields : List StatsField) (first : ℕ) (start : Writing) where
  abbrev Along : List StatsField → ℕ → Writing → Type 0
  Along = BehindAlong text before fields first start

  pub behind_start : HasRoom start (length (flat_map nodes_of_stats fields)) → first + calls_in_fields fields ≤ 4294967295 → Along fields first start
  behind_start room few = record { written = refl; room = room; few = few; refusal = λ error refused. refused; within = λ span noted one. one }

  pub field_has_room : (stats : StatsField) (rest : List StatsField) (number : ℕ) (made : Writing) → Along (stats ∷ rest) number made → HasRoom made (length (nodes_of_stats stats))
  field_has_room stats rest number made along = less_room made _ (length (nodes_of_stats stats)) (let both = length-append (nodes_of_stats stats) (flat_map nodes_of_stats rest) in omega (arith, both)) along.room

  pub field_has_few : (stats : StatsField) (rest : List StatsField) (number : ℕ) (made : Writing) → Along (stats ∷ rest) number made → number + length (calls_of stats.field.expr) ≤ 4294967295
  field_has_few stats rest number made along = omega (arith, along.few)

  pub field_is_refused : (stats : StatsField) (rest : List StatsField) (number : ℕ) (made : Writing) (error : AnalyzeError) → Along (stats ∷ rest) number made
      → IsRefusal (judged_in_field before stats.field.expr) error → OneIsRefused (judged_fields before fields) error
  field_is_refused stats rest number made error along refused =
      along.refusal error (refused_front (judged_in_field before stats.field.expr ∷ []) (judged_fields before rest) error (refused_alone (judged_in_field before stats.field.expr) error refused))

  pub field_is_within : (stats : StatsField) (rest : List StatsField) (number : ℕ) (made : Writing) → Along (stats ∷ rest) number made → IsWithin (regulars_of_field stats.field) (flat_map regulars_of_stats fields)
  field_is_within stats rest number made along =
      within_then (regulars_of_field stats.field) (flat_map regulars_of_stats (stats ∷ rest)) (flat_map regulars_of_stats fields)
      (within_then (regulars_of_field stats.field) (regulars_of_stats stats) (flat_map regulars_of_stats (stats ∷ rest)) (within_front (regulars_of_field stats.field) (regulars_of_condition stats.condition))
      (within_front (regulars_of_stats stats) (flat_map regulars_of_stats rest))) along.within

  pub behind_more : (stats : StatsField) (rest : List StatsField) (number next : ℕ) (made new : Writing) → Along (stats ∷ rest) number made
      → next ≡ number + length (calls_of stats.field.expr) → new ≡ write_stats_field text before number stats made → Along rest next new
  behind_more stats rest number next made new along counted is = record {
    written = (λ i. write_stats_fields text before (counted i) rest (is i)) ∙ along.written;
    room = subst (λ (writing : Writing). HasRoom writing (length (flat_map nodes_of_stats rest))) (sym is)
        (field_room text before number stats made (length (flat_map nodes_of_stats rest)) (subst (HasRoom made) (length-append (nodes_of_stats stats) (flat_map nodes_of_stats rest)) along.room));
    few = omega (arith, along.few, counted);
    refusal = λ error refused. along.refusal error (refused_back (judged_in_field before stats.field.expr ∷ []) (judged_fields before rest) error refused);
    within = within_then (flat_map regulars_of_stats rest) (flat_map regulars_of_stats (stats ∷ rest)) (flat_map regulars_of_stats fields) (within_back (regulars_of_stats stats) (flat_map regulars_of_stats rest)) along.within;
  }
