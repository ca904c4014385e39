use Rattle.std.proofs.Common.{◌≡◌, ◌+◌, ◌++◌, map}
use Rattle.std.specs.Vec.Iter.{into_iter_items}
use Rattle.esql_ast.specs.Numbering.{numbering_of, size_all, numbered_all}
use Rattle.esql_ast.proofs.numbering.+number.Given as goal

abbrev pub invariant-number_exprs-loop-expr : goal.invariant-number_exprs-loop-expr
invariant-number_exprs-loop-expr l = record {
  can_next : (goal.iterator-number_exprs-loop-expr).can_next l.expr-iterator;
  is_finite : (goal.iterator-number_exprs-loop-expr).is_finite l.expr-iterator;
  made : l.made ++ numbered_all (map numbering_of (into_iter_items l.expr-iterator)) l.next ≡ numbered_all (map numbering_of l.fn.exprs) l.fn.next;
  next : l.next + size_all (map numbering_of (into_iter_items l.expr-iterator)) ≡ l.fn.next + size_all (map numbering_of l.fn.exprs);
}
