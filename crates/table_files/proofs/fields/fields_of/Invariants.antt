use Rattle.std.proofs.Common.{◌≡◌, take, Ok}
use Rattle.std.specs.BTreeMap.{get_by_text}
use Rattle.table_files.specs.Fields.{fields_by}
use Rattle.table_files.proofs.fields.fields_of.Given as goal

abbrev pub invariant-loop-name : goal.invariant-loop-name
invariant-loop-name l = fields_by (get_by_text l.kinds) (take l.name-index l.names) ≡ Ok l.fields
