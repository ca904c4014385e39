-- What a lexeme makes of the fields of STATS and of their conditions.
use Rattle.std.specs.Prelude.{List, [], ◌∷◌, ◌++◌, Option, Some, None}
use Rattle.esql_lex.specs.declared.token.Reserved.TheVariants as word
use Rattle.esql_lex.specs.declared.token.Sign.TheVariants as sign
use Rattle.esql_ast.specs.declared.query.NameAt.{NameAt}
use Rattle.esql_ast.specs.declared.query.Field.{Field}
use Rattle.esql_ast.specs.declared.query.StatsField.{StatsField}
use Rattle.esql_ast.specs.declared.query.CommandKind.{CommandKind}
use Rattle.esql_ast.specs.declared.query.CommandKind.TheVariants as command
use Rattle.esql_phrases.specs.declared.lexeme.Lexeme.{Lexeme}
use Rattle.esql_phrases.specs.declared.lexeme.Lexeme.TheVariants.{Plain, Word, Sign as Mark}
use Rattle.esql_phrases.specs.declared.part.Part.{Part}
use Rattle.esql_commands.specs.declared.field.Clause.TheVariants.{Groups}
use Rattle.esql_commands.specs.declared.place.Move.{Move}
use Rattle.esql_commands.specs.declared.place.Move.TheVariants.{To, Begins}
use Rattle.esql_commands.specs.declared.place.Place.{Place}
use Rattle.esql_commands.specs.declared.place.Place.TheVariants.{Expression}
use Rattle.esql_commands.specs.declared.place.Slot.TheVariants as slot
use Rattle.esql_commands.specs.declared.words.CommandWord.{CommandWord}
use Rattle.esql_commands.specs.declared.words.CommandWord.TheVariants.{Where}
use Rattle.esql_commands.specs.Fields.{want_field, column_name}
use Rattle.esql_commands.specs.Grammar.{node_zero, field_of}
use Rattle.esql_commands.specs.Words.{command_word}

-- a field of STATS begins as an expression
abbrev pub want_aggregate : List StatsField → Place
want_aggregate fields = Expression (slot.Aggregate fields None)

-- after BY a group comes
abbrev pub want_group : List StatsField → Place
want_group fields = want_field (Groups fields) []

abbrev pub without_condition : Field → StatsField
without_condition field = record { field = field; condition = None }

abbrev pub with_condition : Field → Part → StatsField
with_condition field part = record { field = field; condition = Some (record { node = node_zero; expr = part.expr }) }

-- where `=` comes after a name with which a field begins, the field's expression follows
abbrev pub name_aggregate : List StatsField → Option NameAt → Option NameAt → Option Place
name_aggregate fields None (Some column) = Some (Expression (slot.Aggregate fields (Some column)))
name_aggregate fields None None = None
name_aggregate fields (Some name) column = None

-- after WHERE the condition of the field comes
abbrev pub want_condition : List StatsField → Field → Option CommandWord → Option Place
want_condition fields field (Some Where) = Some (Expression (slot.Condition fields field))
want_condition fields field _ = None

-- after the expression of a field WHERE, BY or a comma may come
abbrev pub have_aggregate : List StatsField → Option NameAt → Part → Lexeme → Option Place
have_aggregate fields name part (Mark sign.Comma at) = Some (want_aggregate (fields ++ without_condition (field_of name part) ∷ []))
have_aggregate fields name part (Mark sign.Assign at) = name_aggregate fields name (column_name part)
have_aggregate fields name part (Plain where_) = want_condition fields (field_of name part) (command_word where_.name)
have_aggregate fields name part (Word word.By at) = Some (want_group (fields ++ without_condition (field_of name part) ∷ []))
have_aggregate fields name part _ = None

-- after its condition BY or a comma may come
abbrev pub have_condition : List StatsField → Field → Part → Lexeme → Option Place
have_condition fields field part (Mark sign.Comma at) = Some (want_aggregate (fields ++ with_condition field part ∷ []))
have_condition fields field part (Word word.By at) = Some (want_group (fields ++ with_condition field part ∷ []))
have_condition fields field part _ = None

-- after STATS its groups may come; else a field has to begin
abbrev pub have_stats : Lexeme → Move
have_stats (Word word.By at) = To (want_group [])
have_stats x = Begins (slot.Aggregate [] None) x

-- STATS may end after a field, with no groups
abbrev pub finished_stats : List StatsField → StatsField → CommandKind
finished_stats fields field = command.Stats (fields ++ field ∷ []) []
