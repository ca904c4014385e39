use Rattle.std.proofs.Common.{drop}
use Rattle.plan_semantics.specs.Plans.{columns_of}
use Rattle.expression_analysis.specs.Answers.{IsUntouched}
use Rattle.stats_writing.proofs.StatsTurns.{GroupsAlong}
use Rattle.stats_writing.proofs.stats_rules.judge_groups.Given as goal

abbrev pub invariant-loop-group : goal.invariant-loop-group
invariant-loop-group g l = record {
  along : GroupsAlong (columns_of l.columns) l.groups (drop l.group-index l.groups);
  heard : IsUntouched g.M.Maker.refused g.M.Maker.last l.initial.maker l.maker;
}
