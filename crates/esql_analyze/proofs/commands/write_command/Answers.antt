use Rattle.plan_semantics.specs.Plans.{columns_of}
use Rattle.query_semantics.specs.Shapes.{unless_empty}
use Rattle.plan_writing.specs.Writings.{seen}
use Rattle.esql_analyze.specs.Regulars.{regulars_of_kind}
use Rattle.esql_analyze.proofs.CommandWrites.{command_writes, hears_then, empty_plain}
use Rattle.esql_analyze.proofs.commands.write_command.Goals as goal

pub returns-clause-writes : goal.returns-clause-writes
returns-clause-writes g c =
    command_writes c.args.text.now c.args.catalog.now c.args.command.now c.args.writing c.in_ok-writing.writing c.unless_empty.result c.in_ok-writing.ensures.writes c.unless_empty.ensures

pub returns-clause-hears : goal.returns-clause-hears
returns-clause-hears g c =
    let span = c.args.command.now.span in
    let made = c.in_ok-writing.writing in
    hears_then g.M.Maker.refused g.M.Maker.last (regulars_of_kind c.args.command.now.kind) c.args.maker.now c.write_kind.new.maker (unless_empty span (columns_of made.visible)) (seen made) c.unless_empty.result
    (empty_plain span (columns_of made.visible)) c.unless_empty.ensures c.in_ok-writing.ensures.hears
