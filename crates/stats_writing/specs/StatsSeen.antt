-- The columns of conditions, of arguments and of what rows are grouped by, as they are seen.
use Rattle.std.specs.Prelude.{List, map, Option}
use Rattle.std.specs.Option.{option_map}
use Rattle.query_semantics.specs.WrittenStats.{Flag, CallInput, GroupInput}
use Rattle.stats_writing.specs.declared.stats_inputs.Flag.{Flag as MadeFlag}
use Rattle.stats_writing.specs.declared.stats_inputs.CallInput.{CallInput as MadeCall}
use Rattle.stats_writing.specs.declared.stats_inputs.GroupInput.{GroupInput as MadeGroup}

abbrev pub flag_in : MadeFlag → Flag
flag_in flag = record { node = flag.node; id = flag.id }

abbrev pub flag_seen : Option MadeFlag → Option Flag
flag_seen flag = option_map flag_in flag

abbrev pub call_in : MadeCall → CallInput
call_in call = record { node = call.node; function = call.function; input = call.input }

abbrev pub calls_seen : List MadeCall → List CallInput
calls_seen calls = map call_in calls

abbrev pub group_in : MadeGroup → GroupInput
group_in group = record { id = group.id; kind = group.kind }

abbrev pub groups_seen : List MadeGroup → List GroupInput
groups_seen groups = map group_in groups
