-- The depth that the grammar gives a query is that of its tree.
use Rattle.std.proofs.Common.{◌≡◌, ◌⊎◌, ℕ, ◌≤◌, max, List, length, Option, Some, None, Result, Ok, Err, IfOk, MatchResult, sym, ap, subst, ◌∙◌, arith}
use Rattle.esql_types.specs.declared.places.Span.{Span}
use Rattle.esql_lex.specs.declared.token.Token.{Token}
use Rattle.esql_ast.specs.declared.query.Command.{Command}
use Rattle.esql_ast.specs.declared.query.Query.{Query}
use Rattle.esql_ast.specs.declared.query.SourceCommand.{SourceCommand}
use Rattle.esql_ast.specs.Depths.{greatest, depth_of_command, depth_of_query}
use Rattle.esql_ast.specs.Laws.{as_it_was}
use Rattle.esql_ast.specs.Numbering.{numbered_query}
use Rattle.esql_ast.proofs.DepthParts.{greatest_push}
use Rattle.esql_ast.proofs.KeepsDepth.{keeps_commands}
use Rattle.esql_phrases.specs.declared.lexeme.Lexeme.{Lexeme}
use Rattle.esql_parse.specs.declared.error.ParseError.{ParseError}
use Rattle.esql_commands.specs.declared.place.CommandEnd.{CommandEnd}
use Rattle.esql_commands.specs.declared.place.CommandEnd.TheVariants as end
use Rattle.esql_parse.specs.declared.state.Written.{Written}
use Rattle.esql_commands.specs.Grammar.{node_zero}
use Rattle.esql_parse.specs.Grammar.{begin_with, continue_with, Piped, source_line, pipe_line, SpellsQuery, query_line}
use Rattle.esql_parse.specs.Spells.{Spells, Refuses, IsWantOfMemory}
use Rattle.esql_parse.specs.WithinLimits.{IsWithinLimits}
use Rattle.esql_commands.specs.Depths.{depth_of_end}
use Rattle.esql_commands.proofs.Depths.{line_depth}

-- the greatest depth of what is written
abbrev pub depth_of_written : Written → ℕ
depth_of_written written = depth_of_query (as_it_was written.source written.commands)

abbrev pub depth_so_far : Option Written → ℕ
depth_so_far None = 0
depth_so_far (Some written) = depth_of_written written

begun_depth : (b : CommandEnd) (span : Span) (written : Written) → begin_with b span ≡ Some written → depth_of_written written ≡ depth_of_end b
begun_depth (end.From tables) span written is = let s = ap depth_so_far is in omega arith
begun_depth (end.Row fields) span written is = let s = ap depth_so_far is in omega arith
begun_depth (end.Piped kind) span written is = cc

more_depth : (before : Written) (b : CommandEnd) (span : Span) (written : Written) → continue_with before b span ≡ Some written
    → depth_of_written written ≡ max (depth_of_written before) (depth_of_end b)
more_depth before (end.From tables) span written is = cc
more_depth before (end.Row fields) span written is = cc
more_depth before (end.Piped kind) span written is =
    let s = ap depth_so_far is in
    let last = greatest_push depth_of_command before.commands (record { node = node_zero; span = span; kind = kind }) in omega arith

piped_depth : {w : List Lexeme} {written : Written} {d : ℕ} → Piped w written d → d ≡ depth_of_written written
piped_depth (source_line {says = b} {span = span} {written = written} line is) = let s = line_depth line in let t = begun_depth b span written is in omega arith
piped_depth (pipe_line bar {says = b} {span = span} {before = before} {written = written} those line is) =
    let s = piped_depth those in let t = line_depth line in let more = more_depth before b span written is in omega arith

-- the depth of a query that is spelled is the greatest of an expression in it
pub spelled_depth : (w : List Lexeme) (written : Written) (depth : ℕ) → SpellsQuery w written depth → depth ≡ depth_of_query (as_it_was written.source written.commands)
spelled_depth w written depth (query_line end those) = piped_depth those

-- what is parsed is within the limits
pub within : (text : List ℕ) (tokens : List Token) (result : Result Query ParseError)
    → ((source : SourceCommand) (commands : List Command) → depth_of_query (numbered_query source commands) ≡ depth_of_query (as_it_was source commands))
    → MatchResult result (Spells text tokens) (λ error. IsWantOfMemory error ⊎ Refuses text tokens error) → IfOk result IsWithinLimits
within text tokens (Ok query) keeps is =
    let source = is.written.source in
    let commands = is.written.commands in
    let depth : depth_of_query (numbered_query source commands) ≤ 100 =
    subst (λ (n : ℕ). n ≤ 100) (spelled_depth _ is.written is.depth is.spells ∙ sym (keeps source commands)) is.shallow in
    let count : length (numbered_query source commands).commands ≤ 200 = subst (λ (n : ℕ). n ≤ 200) (sym (keeps_commands source commands)) is.few in
    subst IsWithinLimits (sym is.numbered) (record { shallow = depth; few = count })
within text tokens (Err error) keeps is = tt
