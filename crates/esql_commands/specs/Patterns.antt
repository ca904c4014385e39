-- What a lexeme makes of KEEP and DROP.
use Rattle.std.specs.Prelude.{false, List, [], ◌∷◌, ◌++◌, Option, Some, None}
use Rattle.esql_lex.specs.declared.token.Sign.TheVariants as sign
use Rattle.esql_ast.specs.declared.query.NamePattern.{NamePattern}
use Rattle.esql_ast.specs.declared.query.CommandKind.{CommandKind}
use Rattle.esql_ast.specs.declared.query.CommandKind.TheVariants as command
use Rattle.esql_phrases.specs.declared.lexeme.Lexeme.{Lexeme}
use Rattle.esql_phrases.specs.declared.lexeme.Lexeme.TheVariants.{Quoted, Pattern, Sign as Mark}
use Rattle.esql_commands.specs.declared.pattern.PatternPoint.{PatternPoint}
use Rattle.esql_commands.specs.declared.pattern.PatternPoint.TheVariants.{Want, Have}
use Rattle.esql_commands.specs.declared.pattern.PatternUse.{PatternUse}
use Rattle.esql_commands.specs.declared.pattern.PatternUse.TheVariants.{Keep, Drop}
use Rattle.esql_commands.specs.declared.place.Place.{Place}
use Rattle.esql_commands.specs.declared.place.Place.TheVariants.{At}
use Rattle.esql_commands.specs.declared.place.Point.TheVariants as point
use Rattle.esql_commands.specs.Lexemes.{after_comma}

-- the pattern that a lexeme is; a name in backticks is one without `*`
abbrev pub pattern_in : Lexeme → Option NamePattern
pattern_in (Pattern pattern) = Some pattern
pattern_in (Quoted name) = Some (record { text = name.name; wild = false; span = name.span })
pattern_in _ = None

-- after the word or a comma a pattern comes
abbrev pub want_pattern : PatternUse → List NamePattern → Option NamePattern → Option Place
want_pattern of patterns (Some pattern) = Some (At (point.Pattern of (Have (patterns ++ pattern ∷ []))))
want_pattern of patterns None = None

abbrev pub continue_pattern : PatternUse → PatternPoint → Lexeme → Option Place
continue_pattern of (Want patterns) x = want_pattern of patterns (pattern_in x)
continue_pattern of (Have patterns) x = after_comma x (At (point.Pattern of (Want patterns)))

abbrev pub patterns_kind : PatternUse → List NamePattern → CommandKind
patterns_kind Keep patterns = command.Keep patterns
patterns_kind Drop patterns = command.Drop patterns

-- the command may end after a pattern
abbrev pub finished_pattern : PatternUse → PatternPoint → Option CommandKind
finished_pattern of (Want patterns) = None
finished_pattern of (Have patterns) = Some (patterns_kind of patterns)
