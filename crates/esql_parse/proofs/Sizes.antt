-- A query has at most as many nodes as lexemes.
use Rattle.std.proofs.Common.{◌≡◌, ℕ, ◌+◌, ◌≤◌, List, [], ◌∷◌, length, Option, Some, None, ap, length-append, arith}
use Rattle.esql_types.specs.declared.places.Span.{Span}
use Rattle.esql_lex.specs.declared.token.Sign.TheVariants as sign
use Rattle.esql_ast.specs.Numbering.{numbering_of_command, size_of_query}
use Rattle.esql_phrases.specs.declared.lexeme.Lexeme.{Lexeme}
use Rattle.esql_phrases.specs.declared.lexeme.Lexeme.TheVariants.{Sign as Mark, End}
use Rattle.esql_commands.specs.declared.place.CommandEnd.{CommandEnd}
use Rattle.esql_commands.specs.declared.place.CommandEnd.TheVariants as end
use Rattle.esql_parse.specs.declared.state.Written.{Written}
use Rattle.esql_parse.specs.Grammar.{begin_with, continue_with, Piped, source_line, pipe_line, SpellsQuery, query_line}
use Rattle.esql_phrases.proofs.Sizes.{sizes_one_more}
use Rattle.esql_commands.proofs.Sizes.{size_of_end, line_size}

abbrev pub size_in : Option Written → ℕ
size_in None = 0
size_in (Some written) = size_of_query written.source written.commands

begun_size : (b : CommandEnd) (span : Span) (written : Written) → begin_with b span ≡ Some written → size_of_query written.source written.commands ≡ 1 + size_of_end b
begun_size (end.From tables) span written e = let s = ap size_in e in omega arith
begun_size (end.Row fields) span written e = let s = ap size_in e in omega arith
begun_size (end.Piped kind) span written e = cc

more_size : (before : Written) (b : CommandEnd) (span : Span) (written : Written) → continue_with before b span ≡ Some written
    → size_of_query written.source written.commands ≡ size_of_query before.source before.commands + (1 + size_of_end b)
more_size before (end.From tables) span written e = cc
more_size before (end.Row fields) span written e = cc
more_size before (end.Piped kind) span written e =
    let s = ap size_in e in
    let n = sizes_one_more numbering_of_command before.commands (record { node = record { 0 = 0 }; span = span; kind = kind }) in omega arith

piped_size : {w : List Lexeme} {written : Written} {d : ℕ} → Piped w written d → size_of_query written.source written.commands ≤ length w
piped_size (source_line {says = b} {span = span} {written = written} line is) = let s = line_size line in let e = begun_size b span written is in omega arith
piped_size (pipe_line bar {u = u} {w = w} {says = b} {span = span} {before = before} {written = written} q line is) =
    let s = piped_size q in let t = line_size line in let e = more_size before b span written is in let n = length-append u (Mark sign.Bar bar ∷ w) in omega arith

-- a query has at most as many nodes as lexemes
pub query_size : {w : List Lexeme} {written : Written} {d : ℕ} → SpellsQuery w written d → size_of_query written.source written.commands ≤ length w
query_size (query_line end {w = w} q) = let s = piped_size q in let n = length-append w (End end ∷ []) in omega arith
