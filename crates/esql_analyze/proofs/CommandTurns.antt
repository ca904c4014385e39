-- Keys and commands that are written in turn.
use Rattle.std.proofs.Common.{ℕ, ◌+◌, ◌*◌, List, [], length, refl, arith}
use Rattle.std.specs.List.{flat_map}
use Rattle.std.proofs.lemmas.List.{length-append}
use Rattle.esql_ast.specs.declared.query.SortKey.{SortKey}
use Rattle.esql_ast.specs.declared.query.Command.{Command}
use Rattle.esql_plan.specs.declared.catalog.Catalog.{Catalog}
use Rattle.esql_ast.specs.Nodes.{nodes_of_key, nodes_of_command}
use Rattle.query_semantics.specs.Sizes.{appended_by, appended_in}
use Rattle.query_semantics.specs.Shapes.{shape_of_keys, shape_of_command, shape_of_commands}
use Rattle.query_semantics.specs.Writings.{write_input}
use Rattle.query_semantics.specs.Written.{write_command}
use Rattle.plan_writing.specs.Contexts.{over, over_catalog}
use Rattle.esql_analyze.proofs.ShapeStays.{shape_of_key, keys_more, key_stays, command_stays}
use Rattle.plan_writing.proofs.PlainRooms.{input_room}
use Rattle.esql_analyze.proofs.Rooms.{command_room}
use Rattle.plan_writing.proofs.Turns.{Turn}

abbrev pub keys_turn : Turn SortKey
keys_turn = record {
  shape = λ accepts. shape_of_key (over [] accepts);
  shapes = λ accepts. shape_of_keys (over [] accepts);
  write = λ writing key. write_input writing key.expr;
  size = λ key. length (nodes_of_key key);
  sizes = λ keys. length (flat_map nodes_of_key keys);
  sizes_more = λ key keys. length-append (nodes_of_key key) (flat_map nodes_of_key keys);
  none = λ accepts columns. refl;
  more = λ accepts. keys_more (over [] accepts);
  stays = key_stays [];
  room = λ key. input_room key.expr;
}

abbrev pub commands_turn : List ℕ → Catalog → Turn Command
commands_turn text catalog = record {
  shape = λ accepts. shape_of_command (over_catalog text catalog accepts);
  shapes = λ accepts. shape_of_commands (over_catalog text catalog accepts);
  write = write_command text catalog.policies;
  size = λ command. 2 * length (nodes_of_command command) + appended_by catalog.policies command.kind;
  sizes = λ commands. 2 * length (flat_map nodes_of_command commands) + appended_in catalog.policies commands;
  sizes_more = λ command commands. let both = length-append (nodes_of_command command) (flat_map nodes_of_command commands) in omega (arith, both);
  none = λ accepts columns. refl;
  more = λ accepts command commands columns. refl;
  stays = command_stays text catalog;
  room = command_room text catalog.policies;
}
