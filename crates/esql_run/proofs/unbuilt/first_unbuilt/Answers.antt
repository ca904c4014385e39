use Rattle.esql_run.proofs.CommandSpans.{command_fits}
use Rattle.esql_run.proofs.unbuilt.first_unbuilt.Goals as goal

pub returns-then-not-is_built_kind-clause-place : goal.returns-then-not-is_built_kind-clause-place
returns-then-not-is_built_kind-clause-place c text fits =
    command_fits text c.args.query.now c.as_slice-command-items.result.now c.loop-command.command-index c.command-item.result c.as_slice-command-items.ensures fits c.loop-command-test.true c.command-item.is
