use Rattle.std.proofs.Common.{◌≡◌, ◌+◌, ◌++◌, map}
use Rattle.std.specs.Vec.Iter.{into_iter_items}
use Rattle.esql_ast.specs.Numbering.{numbering_of_field, size_all, numbered_all}
use Rattle.esql_ast.proofs.numbering.number_fields.Given as goal

abbrev pub invariant-loop-field : goal.invariant-loop-field
invariant-loop-field l = record {
  made : l.made ++ numbered_all (map numbering_of_field (into_iter_items l.field-iterator)) l.next ≡ numbered_all (map numbering_of_field l.fn.fields) l.fn.next;
  next : l.next + size_all (map numbering_of_field (into_iter_items l.field-iterator)) ≡ l.fn.next + size_all (map numbering_of_field l.fn.fields);
}
