use Rattle.std.proofs.Common.{List, fold, drop, ◌+◌, Result, sym, subst}
use Rattle.std.specs.List.{flat_map}
use Rattle.esql_ast.specs.declared.query.Command.{Command}
use Rattle.plan_semantics.specs.Plans.{columns_of}
use Rattle.query_semantics.specs.Shapes.{shape_of_commands}
use Rattle.query_semantics.specs.Written.{write_command}
use Rattle.expression_analysis.specs.declared.error.AnalyzeError.{AnalyzeError}
use Rattle.plan_writing.specs.declared.writing.Writing.{Writing as Made}
use Rattle.plan_writing.specs.Contexts.{over_catalog}
use Rattle.plan_writing.specs.Writings.{seen}
use Rattle.plan_writing.specs.Answers.{Writes, Hears}
use Rattle.esql_analyze.specs.Regulars.{regulars_of_command}
use Rattle.plan_writing.proofs.Turns.{Along, along_more, along_refused, dropped, err_is}
use Rattle.esql_analyze.proofs.CommandTurns.{commands_turn}
use Rattle.plan_writing.proofs.Heard.{heard_more, untouched_more, within_one}
use Rattle.esql_analyze.proofs.commands.write_commands.Goals as goal

pub returns-in_err-writing-clause-writes : goal.returns-in_err-writing-clause-writes
returns-in_err-writing-clause-writes g c =
    let text = c.args.text.now in
    let catalog = c.args.catalog.now in
    let commands = c.args.commands.now in
    let start = c.args.writing in
    let made = c.loop-command.writing in
    let i = c.loop-command.command-index in
    let item = c.command-item.result in
    let error = c.in_err-writing.field-0.0 in
    let along = subst (λ (rest : List Command). Along (commands_turn text catalog) commands start rest made) (dropped i commands item c.loop-command-test.true c.command-item.is) c.loop-command.invariant.along in
    subst (λ (result : Result Made AnalyzeError). Writes (λ accepts. shape_of_commands (over_catalog text catalog accepts) commands (columns_of start.visible)) (fold (write_command text catalog.policies) (seen start) commands) result)
    (sym (err_is c.from_residual.result error c.from_residual.ensures.1))
    (along_refused (commands_turn text catalog) commands start item (drop (i + 1) commands) made error along c.in_err-writing.ensures.writes)

pub returns-in_err-writing-clause-hears : goal.returns-in_err-writing-clause-hears
returns-in_err-writing-clause-hears g c =
    let commands = c.args.commands.now in
    let i = c.loop-command.command-index in
    let item = c.command-item.result in
    let error = c.in_err-writing.field-0.0 in
    subst (λ (result : Result Made AnalyzeError). Hears g.M.Maker.refused g.M.Maker.last (flat_map regulars_of_command commands) c.args.maker.now c.write_command.new.maker result)
    (sym (err_is c.from_residual.result error c.from_residual.ensures.1))
    (heard_more g.M.Maker.refused g.M.Maker.last (regulars_of_command item) (flat_map regulars_of_command commands) c.args.maker.now c.loop-command.maker c.write_command.new.maker error
    c.loop-command.invariant.heard (within_one regulars_of_command i commands item c.loop-command-test.true c.command-item.is) c.in_err-writing.ensures.hears)

pub loop-command-preserved : goal.loop-command-preserved
loop-command-preserved g c =
    let text = c.args.text.now in
    let catalog = c.args.catalog.now in
    let commands = c.args.commands.now in
    let start = c.args.writing in
    let made = c.loop-command.writing in
    let i = c.loop-command.command-index in
    let item = c.command-item.result in
    let along = subst (λ (rest : List Command). Along (commands_turn text catalog) commands start rest made) (dropped i commands item c.loop-command-test.true c.command-item.is) c.loop-command.invariant.along in
    record {
      along = along_more (commands_turn text catalog) commands start item (drop (i + 1) commands) made c.in_ok-writing.writing along c.in_ok-writing.ensures.writes;
      heard = untouched_more g.M.Maker.refused g.M.Maker.last c.args.maker.now c.loop-command.maker c.write_command.new.maker c.loop-command.invariant.heard c.in_ok-writing.ensures.hears;
    }
