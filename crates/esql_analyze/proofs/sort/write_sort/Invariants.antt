use Rattle.std.proofs.Common.{◌≡◌, ◌++◌, drop}
use Rattle.query_semantics.specs.Written.{keys_in_plan}
use Rattle.expression_analysis.specs.Answers.{IsUntouched}
use Rattle.plan_writing.specs.Writings.{seen}
use Rattle.plan_writing.proofs.Turns.{Along}
use Rattle.esql_analyze.proofs.CommandTurns.{keys_turn}
use Rattle.esql_analyze.proofs.sort.write_sort.Given as goal

abbrev pub invariant-loop-key : goal.invariant-loop-key
invariant-loop-key g l = record {
  along : Along keys_turn l.keys l.initial.writing (drop l.key-index l.keys) l.writing;
  in_plan : l.plan_keys ++ keys_in_plan (drop l.key-index l.keys) (seen l.writing) ≡ keys_in_plan l.keys (seen l.initial.writing);
  heard : IsUntouched g.M.Maker.refused g.M.Maker.last l.initial.maker l.maker;
}
