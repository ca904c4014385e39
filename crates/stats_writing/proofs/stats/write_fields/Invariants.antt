use Rattle.std.proofs.Common.{drop}
use Rattle.expression_analysis.specs.Answers.{IsUntouched}
use Rattle.plan_writing.specs.Writings.{seen}
use Rattle.stats_writing.proofs.Behinds.{BehindAlong}
use Rattle.stats_writing.proofs.stats.write_fields.Given as goal

abbrev pub invariant-loop-stats : goal.invariant-loop-stats
invariant-loop-stats g l = record {
  along : BehindAlong l.text l.before l.fields l.initial.behind.number (seen l.initial.behind.writing) (drop l.stats-index l.fields) l.behind.number (seen l.behind.writing);
  heard : IsUntouched g.M.Maker.refused g.M.Maker.last l.initial.maker l.maker;
}
