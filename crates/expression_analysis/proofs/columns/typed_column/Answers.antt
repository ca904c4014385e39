use Rattle.expression_analysis.proofs.Leaves.{column_shown, column_unknown}
use Rattle.row_semantics.specs.Typed.{visible_named}
use Rattle.expression_analysis.proofs.columns.typed_column.Goals as goal

pub returns-in-Some : goal.returns-in-Some
returns-in-Some c = column_shown c.args.node c.args.span (visible_named c.args.columns.now c.args.name.now) c.in-Some.shown c.in-Some.ensures

pub returns-in-None : goal.returns-in-None
returns-in-None c = column_unknown c.args.node c.args.span (visible_named c.args.columns.now c.args.name.now) c.in-None.ensures
