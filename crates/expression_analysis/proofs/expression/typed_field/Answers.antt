use Rattle.std.proofs.Common.{List}
use Rattle.esql_plan.specs.declared.plan.OutColumn.{OutColumn}
use Rattle.row_semantics.specs.declared.call.CallColumn.{CallColumn}
use Rattle.row_semantics.specs.Scopes.{in_field}
use Rattle.expression_analysis.specs.Steps.{Over}
use Rattle.expression_analysis.proofs.Answered as answered
use Rattle.expression_analysis.proofs.expression.typed_field.Goals as goal

abbrev inside : List OutColumn → List CallColumn → Over
inside columns calls = record { columns = columns; calls = calls; standing = in_field }

pub returns-clause-typed : goal.returns-clause-typed
returns-clause-typed g c = answered.typed _ g.M.Maker.refused g.M.Maker.last c.args.maker.now c.typed.new.maker c.args.expr.now (inside c.args.columns.now c.args.calls.now) c.args.patterns.now c.typed.new.patterns c.typed.result c.typed.ensures c.requires.whole c.requires.free

pub returns-clause-kind : goal.returns-clause-kind
returns-clause-kind g c = answered.kind _ g.M.Maker.refused g.M.Maker.last c.args.maker.now c.typed.new.maker c.args.expr.now (inside c.args.columns.now c.args.calls.now) c.args.patterns.now c.typed.new.patterns c.typed.result c.typed.ensures

pub returns-clause-read : goal.returns-clause-read
returns-clause-read g c = answered.read _ g.M.Maker.refused g.M.Maker.last c.args.maker.now c.typed.new.maker c.args.expr.now (inside c.args.columns.now c.args.calls.now) c.args.patterns.now c.typed.new.patterns c.typed.result c.typed.ensures

pub returns-clause-refusal : goal.returns-clause-refusal
returns-clause-refusal g c = answered.refusal _ g.M.Maker.refused g.M.Maker.last c.args.maker.now c.typed.new.maker c.args.expr.now (inside c.args.columns.now c.args.calls.now) c.args.patterns.now c.typed.new.patterns c.typed.result c.typed.ensures

pub returns-clause-room : goal.returns-clause-room
returns-clause-room g c = answered.room _ g.M.Maker.refused g.M.Maker.last c.args.maker.now c.typed.new.maker c.args.expr.now (inside c.args.columns.now c.args.calls.now) c.args.patterns.now c.typed.new.patterns c.typed.result c.typed.ensures

pub returns-clause-count : goal.returns-clause-count
returns-clause-count g c = answered.counted _ g.M.Maker.refused g.M.Maker.last c.args.maker.now c.typed.new.maker c.args.expr.now (inside c.args.columns.now c.args.calls.now) c.args.patterns.now c.typed.new.patterns c.typed.result c.typed.ensures

pub returns-clause-quiet : goal.returns-clause-quiet
returns-clause-quiet g c = answered.quiet _ g.M.Maker.refused g.M.Maker.last c.args.maker.now c.typed.new.maker c.args.expr.now (inside c.args.columns.now c.args.calls.now) c.args.patterns.now c.typed.new.patterns c.typed.result c.typed.ensures
