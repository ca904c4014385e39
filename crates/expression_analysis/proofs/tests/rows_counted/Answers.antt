use Rattle.std.proofs.Common.{true, List, Option, Some, None, refl, ap, ◌∙◌}
use Rattle.esql_types.specs.declared.places.Span.{Span}
use Rattle.esql_types.specs.declared.names.NodeId.{NodeId}
use Rattle.esql_ast.specs.declared.expr.Form.TheVariants.{Call}
use Rattle.esql_ast.specs.declared.expr.Form.TheViews.{outs-Call}
use Rattle.esql_ast.specs.declared.query.NameAt.{NameAt}
use Rattle.esql_plan.specs.declared.function.AggFunction.{AggFunction}
use Rattle.esql_plan.specs.declared.names.FunctionRow.{FunctionRow}
use Rattle.esql_plan.specs.Names.{function_named, aggregate_named}
use Rattle.row_semantics.specs.Forms.{Part, call_by}
use Rattle.row_semantics.specs.Typed.{Typing, typing}
use Rattle.expression_analysis.specs.Steps.{Readings, typings}
use Rattle.expression_analysis.proofs.Seens.{HasNoPattern, readings_opened}
use Rattle.expression_analysis.proofs.tests.rows_counted.Goals as goal

-- a call of `*` has no pattern, whatever its name is found as
star_quiet : (node : NodeId) (span at : Span) (found : Option FunctionRow) (other : Option AggFunction) (args : List (Part Typing)) → HasNoPattern (typing node span (call_by found other at true args span))
star_quiet node span at (Some row) other args = record { whole = refl; free = refl }
star_quiet node span at None (Some function) args = record { whole = refl; free = refl }
star_quiet node span at None None args = record { whole = refl; free = refl }

abbrev place : Span
place = record { from = 3; to = 7 }

pub returns-clause-whole : goal.returns-clause-whole
returns-clause-whole c =
    let function : NameAt = record { name = c.in_ok-name.name; span = place } in
    ap (λ (read : Readings). read.typing.whole) (readings_opened _ (Call function c.new.result true) _ refl (outs-Call function c.new.result true))
    ∙ (star_quiet c.args.node place place (function_named function.name) (aggregate_named function.name) (typings c.new.result)).whole

pub returns-clause-free : goal.returns-clause-free
returns-clause-free c =
    let function : NameAt = record { name = c.in_ok-name.name; span = place } in
    ap (λ (read : Readings). read.typing.free) (readings_opened _ (Call function c.new.result true) _ refl (outs-Call function c.new.result true))
    ∙ (star_quiet c.args.node place place (function_named function.name) (aggregate_named function.name) (typings c.new.result)).free
