use Rattle.std.proofs.Common.{drop}
use Rattle.expression_analysis.specs.Answers.{IsUntouched}
use Rattle.plan_writing.proofs.Turns.{Along}
use Rattle.esql_analyze.proofs.CommandTurns.{commands_turn}
use Rattle.esql_analyze.proofs.commands.write_commands.Given as goal

abbrev pub invariant-loop-command : goal.invariant-loop-command
invariant-loop-command g l = record {
  along : Along (commands_turn l.text l.catalog) l.commands l.initial.writing (drop l.command-index l.commands) l.writing;
  heard : IsUntouched g.M.Maker.refused g.M.Maker.last l.initial.maker l.maker;
}
