use Rattle.std.proofs.Common.{refl, ap}
use Rattle.esql_ast.specs.declared.expr.Form.TheVariants.{Column}
use Rattle.esql_ast.specs.declared.expr.Form.TheViews.{outs-Column}
use Rattle.expression_analysis.specs.Steps.{Readings}
use Rattle.expression_analysis.proofs.Seens.{readings_opened}
use Rattle.expression_analysis.proofs.tests.named.Goals as goal

pub returns-clause-whole : goal.returns-clause-whole
returns-clause-whole c = ap (λ (read : Readings). read.typing.whole) (readings_opened _ (Column c.in_ok-name.name) _ refl (outs-Column c.in_ok-name.name))

pub returns-clause-free : goal.returns-clause-free
returns-clause-free c = ap (λ (read : Readings). read.typing.free) (readings_opened _ (Column c.in_ok-name.name) _ refl (outs-Column c.in_ok-name.name))
