-- What a lexeme makes of a command that is being read, and what the command says where it ends.
use Rattle.std.specs.Prelude.{Option, Some, None}
use Rattle.esql_ast.specs.declared.query.CommandKind.{CommandKind}
use Rattle.esql_phrases.specs.declared.lexeme.Lexeme.{Lexeme}
use Rattle.esql_commands.specs.declared.place.CommandEnd.{CommandEnd}
use Rattle.esql_commands.specs.declared.place.CommandEnd.TheVariants.{Piped}
use Rattle.esql_commands.specs.declared.place.Move.{Move}
use Rattle.esql_commands.specs.declared.place.Move.TheVariants.{To}
use Rattle.esql_commands.specs.declared.place.Place.{Place}
use Rattle.esql_commands.specs.declared.place.Point.{Point}
use Rattle.esql_commands.specs.declared.place.Point.TheVariants.{Ended, From, Pattern, Rename, Sort, Limit, Expand, Stats, Dissect, Enrich, Join, Whole}
use Rattle.esql_commands.specs.Dissect.{continue_dissect, finished_dissect}
use Rattle.esql_commands.specs.Enrich.{continue_enrich, finished_enrich}
use Rattle.esql_commands.specs.Expand.{want_column}
use Rattle.esql_commands.specs.From.{continue_from, finished_from}
use Rattle.esql_commands.specs.Join.{continue_join}
use Rattle.esql_commands.specs.Limit.{want_count}
use Rattle.esql_commands.specs.Lexemes.{name_in}
use Rattle.esql_commands.specs.Patterns.{continue_pattern, finished_pattern}
use Rattle.esql_commands.specs.Rename.{continue_rename, finished_rename}
use Rattle.esql_commands.specs.Slots.{continue_slot, finished_slot}
use Rattle.esql_commands.specs.Sort.{continue_sort, finished_sort}
use Rattle.esql_commands.specs.Stats.{have_stats}

abbrev pub moved : Option Place → Option Move
moved (Some place) = Some (To place)
moved None = None

-- what a lexeme other than `|` and the end makes of a command
abbrev pub continue_command : Point → Lexeme → Option Move
continue_command (Ended slot part) x = moved (continue_slot slot part x)
continue_command (From here) x = moved (continue_from here x)
continue_command (Pattern of here) x = moved (continue_pattern of here x)
continue_command (Rename here) x = moved (continue_rename here x)
continue_command (Sort here) x = moved (continue_sort here x)
continue_command Limit x = moved (want_count x)
continue_command Expand x = moved (want_column (name_in x))
continue_command Stats x = Some (have_stats x)
continue_command (Dissect here) x = moved (continue_dissect here x)
continue_command (Enrich here) x = moved (continue_enrich here x)
continue_command (Join here) x = moved (continue_join here x)
continue_command (Whole kind) x = None

abbrev pub piped : Option CommandKind → Option CommandEnd
piped (Some kind) = Some (Piped kind)
piped None = None

-- what a command says that ends at a point, where one may end there
abbrev pub finished_command : Point → Option CommandEnd
finished_command (Ended slot part) = finished_slot slot part
finished_command (From here) = finished_from here
finished_command (Pattern of here) = piped (finished_pattern of here)
finished_command (Rename here) = piped (finished_rename here)
finished_command (Sort here) = piped (finished_sort here)
finished_command Limit = None
finished_command Expand = None
finished_command Stats = None
finished_command (Dissect here) = piped (finished_dissect here)
finished_command (Enrich here) = piped (finished_enrich here)
finished_command (Join here) = None
finished_command (Whole kind) = Some (Piped kind)
