use Rattle.std.proofs.Common.{◌+◌, ◌*◌, List, length, Result, refl, sym, subst, arith}
use Rattle.std.specs.List.{flat_map}
use Rattle.esql_ast.specs.declared.query.Command.{Command}
use Rattle.esql_ast.specs.Nodes.{nodes_of_command}
use Rattle.plan_semantics.specs.Plans.{columns_of}
use Rattle.query_semantics.specs.Sizes.{appended_in}
use Rattle.query_semantics.specs.Shapes.{shape_of_commands, shape_in}
use Rattle.query_semantics.specs.Writings.{Writing}
use Rattle.query_semantics.specs.Written.{source_in_plan, writing_of}
use Rattle.expression_analysis.specs.declared.error.AnalyzeError.{AnalyzeError}
use Rattle.expression_analysis.specs.Answers.{IsRefusal}
use Rattle.esql_analyze.specs.declared.source.Begun.{Begun}
use Rattle.plan_writing.specs.Answers.{IsHeard, Hears}
use Rattle.plan_writing.specs.Contexts.{over_catalog}
use Rattle.esql_analyze.specs.Plans.{Begins}
use Rattle.esql_analyze.specs.Regulars.{regulars_of_source, regulars_of_command, regulars_of_query}
use Rattle.plan_writing.specs.Writings.{seen, HasRoom}
use Rattle.plan_writing.proofs.Heard.{heard_more, within_front, within_back}
use Rattle.esql_analyze.proofs.QueryWrites.{commands_refused}
use Rattle.esql_analyze.proofs.SourceWrites.{as_many_nodes}
use Rattle.esql_analyze.proofs.Tables.{source_room}
use Rattle.plan_writing.proofs.Turns.{err_is}
use Rattle.esql_analyze.proofs.query.write_query.Goals as goal

pub write_source-requires-clause-few : goal.write_source-requires-clause-few
write_source-requires-clause-few g c = omega (arith, as_many_nodes c.args.query.now c.requires.numbered, c.requires.few)

pub returns-in_err-begun-clause-hears : goal.returns-in_err-begun-clause-hears
returns-in_err-begun-clause-hears g c =
    let query = c.args.query.now in
    let error = c.in_err-begun.field-0.0 in
    subst (λ (result : Result Begun AnalyzeError). Hears g.M.Maker.refused g.M.Maker.last (regulars_of_query query) c.args.maker.now c.write_source.new.maker result)
    (sym (err_is c.from_residual.result error c.from_residual.ensures.1))
    (heard_more g.M.Maker.refused g.M.Maker.last (regulars_of_source query.source) (regulars_of_query query) c.args.maker.now c.args.maker.now c.write_source.new.maker error
    (record { counted = refl; noted = refl }) (within_front (regulars_of_source query.source) (flat_map regulars_of_command query.commands)) c.in_err-begun.ensures.hears)

pub write_commands-requires-clause-room : goal.write_commands-requires-clause-room
write_commands-requires-clause-room g c =
    let query = c.args.query.now in
    let begun = c.in_ok-begun.begun in
    let policies = c.args.catalog.now.policies in
    let items = 2 * length (flat_map nodes_of_command query.commands) + appended_in policies query.commands in
    subst (λ (commands : List Command). HasRoom (seen begun.writing) (2 * length (flat_map nodes_of_command commands) + appended_in policies commands)) (sym c.as_slice-commands.ensures)
    (subst (λ (writing : Writing). HasRoom writing items) (sym c.in_ok-begun.ensures.begins.1.0)
    (source_room c.args.text.now c.args.catalog.now query.source items c.requires.catalog (omega (arith, as_many_nodes query c.requires.numbered, c.requires.few, c.requires.appended))))

pub returns-in_err-writing-clause-begins : goal.returns-in_err-writing-clause-begins
returns-in_err-writing-clause-begins g c =
    let text = c.args.text.now in
    let catalog = c.args.catalog.now in
    let query = c.args.query.now in
    let begun = c.in_ok-begun.begun in
    let error = c.in_err-writing.field-0.0 in
    let refused = subst (λ (commands : List Command). IsRefusal (λ accepts. shape_of_commands (over_catalog text catalog accepts) commands (columns_of begun.writing.visible)) error) c.as_slice-commands.ensures c.in_err-writing.ensures.writes in
    subst (λ (result : Result Begun AnalyzeError). Begins (λ accepts. shape_in (over_catalog text catalog accepts) query) (source_in_plan catalog query.source) (writing_of text catalog query) result)
    (sym (err_is c.from_residual-in_err-writing.result error c.from_residual-in_err-writing.ensures.1))
    (commands_refused text catalog query begun.writing error c.in_ok-begun.ensures.begins.1.1 refused)

pub returns-in_err-writing-clause-hears : goal.returns-in_err-writing-clause-hears
returns-in_err-writing-clause-hears g c =
    let query = c.args.query.now in
    let error = c.in_err-writing.field-0.0 in
    let heard = subst (λ (commands : List Command). IsHeard g.M.Maker.refused g.M.Maker.last (flat_map regulars_of_command commands) c.write_source.new.maker c.write_commands.new.maker error) c.as_slice-commands.ensures
    c.in_err-writing.ensures.hears in
    subst (λ (result : Result Begun AnalyzeError). Hears g.M.Maker.refused g.M.Maker.last (regulars_of_query query) c.args.maker.now c.write_commands.new.maker result)
    (sym (err_is c.from_residual-in_err-writing.result error c.from_residual-in_err-writing.ensures.1))
    (heard_more g.M.Maker.refused g.M.Maker.last (flat_map regulars_of_command query.commands) (regulars_of_query query) c.args.maker.now c.write_source.new.maker c.write_commands.new.maker error
    c.in_ok-begun.ensures.hears (within_back (regulars_of_source query.source) (flat_map regulars_of_command query.commands)) heard)
