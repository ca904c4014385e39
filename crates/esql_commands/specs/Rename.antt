-- What a lexeme makes of RENAME.
use Rattle.std.specs.Prelude.{List, [], ◌∷◌, ◌++◌, Option, Some, None}
use Rattle.esql_lex.specs.declared.token.Reserved.TheVariants as word
use Rattle.esql_lex.specs.declared.token.Sign.TheVariants as sign
use Rattle.esql_ast.specs.declared.query.NameAt.{NameAt}
use Rattle.esql_ast.specs.declared.query.RenamePair.{RenamePair}
use Rattle.esql_ast.specs.declared.query.CommandKind.{CommandKind}
use Rattle.esql_ast.specs.declared.query.CommandKind.TheVariants as command
use Rattle.esql_phrases.specs.declared.lexeme.Lexeme.{Lexeme}
use Rattle.esql_phrases.specs.declared.lexeme.Lexeme.TheVariants.{Word, Sign as Mark}
use Rattle.esql_commands.specs.declared.rename.RenamePoint.{RenamePoint}
use Rattle.esql_commands.specs.declared.rename.RenamePoint.TheVariants.{Want, Before, As, Have}
use Rattle.esql_commands.specs.declared.place.Place.{Place}
use Rattle.esql_commands.specs.declared.place.Place.TheVariants.{At}
use Rattle.esql_commands.specs.declared.place.Point.TheVariants as point
use Rattle.esql_commands.specs.Lexemes.{name_in, after_comma}

-- after RENAME or a comma the name before comes
abbrev pub want_before : List RenamePair → Option NameAt → Option Place
want_before pairs (Some before) = Some (At (point.Rename (Before pairs before)))
want_before pairs None = None

-- after it AS comes
abbrev pub have_before : List RenamePair → NameAt → Lexeme → Option Place
have_before pairs before (Word word.As at) = Some (At (point.Rename (As pairs before)))
have_before pairs before _ = None

-- after AS the name after comes
abbrev pub want_after : List RenamePair → NameAt → Option NameAt → Option Place
want_after pairs before (Some after) = Some (At (point.Rename (Have (pairs ++ record { before = before; after = after } ∷ []))))
want_after pairs before None = None

abbrev pub continue_rename : RenamePoint → Lexeme → Option Place
continue_rename (Want pairs) x = want_before pairs (name_in x)
continue_rename (Before pairs before) x = have_before pairs before x
continue_rename (As pairs before) x = want_after pairs before (name_in x)
continue_rename (Have pairs) x = after_comma x (At (point.Rename (Want pairs)))

-- RENAME may end after a pair
abbrev pub finished_rename : RenamePoint → Option CommandKind
finished_rename (Want pairs) = None
finished_rename (Before pairs before) = None
finished_rename (As pairs before) = None
finished_rename (Have pairs) = Some (command.Rename pairs)
