use Rattle.std.proofs.Common.{◌≡◌, take}
use Rattle.expression_analysis.specs.Steps.{marks_of, over_of, AreTyped}
use Rattle.expression_analysis.proofs.expression.+typed.Given as goal

abbrev pub invariant-add_all-loop-expr : goal.invariant-add_all-loop-expr
invariant-add_all-loop-expr g l = record {
  are : AreTyped (over_of l.sight) (take l.expr-index l.exprs) l.fn.parts l.parts l.fn.patterns l.patterns;
  quiet : marks_of g.M.Maker.refused g.M.Maker.last l.maker ≡ marks_of g.M.Maker.refused g.M.Maker.last l.fn.maker;
}
