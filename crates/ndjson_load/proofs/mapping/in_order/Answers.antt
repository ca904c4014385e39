use Rattle.std.proofs.Common.{◌≡◌, Some, None, sym, ap, ◌∙◌}
use Rattle.ndjson_load.specs.declared.cause.MappingCause.TheVariants.{Twice}
use Rattle.ndjson_load.specs.Mappings.{first_twice}
use Rattle.ndjson_load.proofs.mapping.in_order.Goals as goal

pub returns-in-None-clause-ok : goal.returns-in-None-clause-ok
returns-in-None-clause-ok c =
    let none : first_twice c.sort_by_name.new.columns.items ≡ None = sym (c.in-None.ensures ∙ ap first_twice c.as_slice.ensures.value) in
    rw c.from_vec.ensures (c.sort_by_name.ensures, none)

pub returns-in_ok-path-in-Some-clause-twice : goal.returns-in_ok-path-in-Some-clause-twice
returns-in_ok-path-in-Some-clause-twice c =
    let twice : first_twice c.sort_by_name.new.columns.items ≡ Some c.in-Some.column.now.column.name = sym (c.in-Some.ensures ∙ ap first_twice c.as_slice.ensures.value) in
    (c.sort_by_name.new.columns.items, c.in-Some.column.now.column.name, c.sort_by_name.ensures, twice, ap Twice c.in_ok-path-in-Some.ensures)
