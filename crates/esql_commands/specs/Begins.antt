-- What has to come after the word of a command.
use Rattle.std.specs.Prelude.{[], if◌then◌else◌, Option, Some, None}
use Rattle.esql_phrases.specs.declared.lexeme.Lexeme.{Lexeme}
use Rattle.esql_phrases.specs.declared.lexeme.Lexeme.TheVariants.{Plain}
use Rattle.esql_commands.specs.declared.enrich.EnrichPoint.TheVariants as enrich
use Rattle.esql_commands.specs.declared.field.Clause.TheVariants as clause
use Rattle.esql_commands.specs.declared.from.FromPoint.TheVariants as from
use Rattle.esql_commands.specs.declared.join.JoinPoint.TheVariants as join
use Rattle.esql_commands.specs.declared.pattern.PatternPoint.TheVariants as pattern
use Rattle.esql_commands.specs.declared.pattern.PatternUse.{PatternUse}
use Rattle.esql_commands.specs.declared.pattern.PatternUse.TheVariants as pattern_use
use Rattle.esql_commands.specs.declared.place.Place.{Place}
use Rattle.esql_commands.specs.declared.place.Place.TheVariants.{At, Expression}
use Rattle.esql_commands.specs.declared.place.Point.TheVariants as point
use Rattle.esql_commands.specs.declared.place.Slot.TheVariants as slot
use Rattle.esql_commands.specs.declared.rename.RenamePoint.TheVariants as rename
use Rattle.esql_commands.specs.declared.words.CommandWord.{CommandWord}
use Rattle.esql_commands.specs.declared.words.CommandWord.TheVariants.{From, Row, Where, Eval, Keep, Drop, Rename, Sort, Limit, MvExpand, Stats, Dissect, Grok, Enrich, Lookup}
use Rattle.esql_commands.specs.Fields.{want_field}
use Rattle.esql_commands.specs.Sort.{want_key}
use Rattle.esql_commands.specs.Words.{command_word, is_source}

abbrev pub want_pattern : PatternUse → Place
want_pattern of = At (point.Pattern of (pattern.Want []))

-- what has to come after the word of a command
abbrev pub place_after : CommandWord → Place
place_after From = At (point.From (from.Want []))
place_after Row = want_field clause.Row []
place_after Where = Expression slot.Filter
place_after Eval = want_field clause.Eval []
place_after Keep = want_pattern pattern_use.Keep
place_after Drop = want_pattern pattern_use.Drop
place_after Rename = At (point.Rename (rename.Want []))
place_after Sort = want_key []
place_after Limit = At point.Limit
place_after MvExpand = At point.Expand
place_after Stats = At point.Stats
place_after Dissect = Expression slot.Dissect
place_after Grok = Expression slot.Grok
place_after Enrich = At (point.Enrich enrich.Want)
place_after Lookup = At (point.Join join.Lookup)

abbrev pub source_place : Option CommandWord → Option Place
source_place (Some word) = if is_source word then Some (place_after word) else None
source_place None = None

abbrev pub piped_place : Option CommandWord → Option Place
piped_place (Some word) = if is_source word then None else Some (place_after word)
piped_place None = None

-- the word of a command that a lexeme is
abbrev pub word_in : Lexeme → Option CommandWord
word_in (Plain name) = command_word name.name
word_in _ = None

-- a source command begins with its word
abbrev pub begin_source : Lexeme → Option Place
begin_source x = source_place (word_in x)

-- a command after `|` begins with the word of another
abbrev pub begin_command : Lexeme → Option Place
begin_command x = piped_place (word_in x)
