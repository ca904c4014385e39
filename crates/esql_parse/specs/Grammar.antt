-- The grammar of queries: a source command, and commands after it.
use Rattle.std.specs.Prelude.{◌≡◌, ℕ, max, List, [], ◌∷◌, ◌++◌, Option, Some, None}
use Rattle.esql_types.specs.declared.places.Span.{Span}
use Rattle.esql_lex.specs.declared.token.Sign.TheVariants as sign
use Rattle.esql_ast.specs.declared.query.SourceCommand.TheVariants as source
use Rattle.esql_phrases.specs.declared.lexeme.Lexeme.{Lexeme}
use Rattle.esql_phrases.specs.declared.lexeme.Lexeme.TheVariants.{Sign as Mark, End}
use Rattle.esql_commands.specs.declared.place.CommandEnd.{CommandEnd}
use Rattle.esql_commands.specs.declared.place.CommandEnd.TheVariants as end
use Rattle.esql_parse.specs.declared.state.Written.{Written}
use Rattle.esql_commands.specs.Grammar.{node_zero, CommandLine}

-- a query begins with a source command
abbrev pub begin_with : CommandEnd → Span → Option Written
begin_with (end.From tables) span = Some (record { source = source.Tables node_zero span tables; commands = [] })
begin_with (end.Row fields) span = Some (record { source = source.OneRow node_zero span fields; commands = [] })
begin_with (end.Piped kind) span = None

-- no source command stands later
abbrev pub continue_with : Written → CommandEnd → Span → Option Written
continue_with written (end.Piped kind) span = Some (record { source = written.source; commands = written.commands ++ record { node = node_zero; span = span; kind = kind } ∷ [] })
continue_with written _ span = None

abbrev pub with_command : Option Written → CommandEnd → Span → Option Written
with_command None says span = begin_with says span
with_command (Some written) says span = continue_with written says span

-- source { "|" command }
pub data Piped : List Lexeme → Written → ℕ → Type 0 where
  source_line : {w : List Lexeme} {says : CommandEnd} {span : Span} {d : ℕ} {written : Written} → CommandLine w says span d → begin_with says span ≡ Some written → Piped w written d
  pipe_line : (bar : Span) {u w : List Lexeme} {says : CommandEnd} {span : Span} {d e : ℕ} {before written : Written} → Piped u before d → CommandLine w says span e → continue_with before says span ≡ Some written
      → Piped (u ++ Mark sign.Bar bar ∷ w) written (max d e)

-- query = source { "|" command } End; the greatest depth of an expression in it
pub data SpellsQuery : List Lexeme → Written → ℕ → Type 0 where
  query_line : (end : Span) {w : List Lexeme} {written : Written} {d : ℕ} → Piped w written d → SpellsQuery (w ++ End end ∷ []) written d
