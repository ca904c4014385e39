-- Where a name has to come, or a comma may.
use Rattle.std.specs.Prelude.{Bool, true, false, if◌then◌else◌, Option, Some, None}
use Rattle.esql_lex.specs.declared.token.Sign.TheVariants as sign
use Rattle.esql_ast.specs.declared.query.NameAt.{NameAt}
use Rattle.esql_phrases.specs.declared.lexeme.Lexeme.{Lexeme}
use Rattle.esql_phrases.specs.declared.lexeme.Lexeme.TheVariants.{Plain, Dotted, Quoted, Sign as Mark}
use Rattle.esql_commands.specs.declared.place.Place.{Place}

-- the name that a lexeme is: of one part, of several, or in backticks
abbrev pub name_in : Lexeme → Option NameAt
name_in (Plain name) = Some name
name_in (Dotted name) = Some name
name_in (Quoted name) = Some name
name_in _ = None

abbrev pub is_comma : Lexeme → Bool
is_comma (Mark sign.Comma at) = true
is_comma _ = false

-- after an item of a list a comma may come, and then the next item
abbrev pub after_comma : Lexeme → Place → Option Place
after_comma x next = if is_comma x then Some next else None
