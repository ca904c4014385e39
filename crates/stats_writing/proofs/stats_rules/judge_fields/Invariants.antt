use Rattle.std.proofs.Common.{drop}
use Rattle.plan_semantics.specs.Plans.{columns_of}
use Rattle.expression_analysis.specs.Answers.{IsUntouched}
use Rattle.stats_writing.specs.StatsRules.{broken_of}
use Rattle.stats_writing.proofs.StatsTurns.{FieldsAlong}
use Rattle.std.specs.Option.{option_map}
use Rattle.stats_writing.proofs.stats_rules.judge_fields.Given as goal

abbrev pub invariant-loop-stats : goal.invariant-loop-stats
invariant-loop-stats g l = record {
  along : FieldsAlong (columns_of l.columns) l.fields (option_map broken_of l.broken) (drop l.stats-index l.fields);
  heard : IsUntouched g.M.Maker.refused g.M.Maker.last l.initial.maker l.maker;
}
