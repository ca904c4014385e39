-- The spans of the query that the tokens of a text spell are parts of the text.
use Rattle.std.proofs.Common.{ℕ, ◌≤◌, List, [], ◌∷◌, length, Option, Some, None, All, subst}
use Rattle.std.specs.List.{flat_map}
use Rattle.std.proofs.lemmas.List.Elements.{All-nil, All-cons, All-append}
use Rattle.esql_types.specs.declared.places.Span.{Span}
use Rattle.esql_types.specs.Spans.{SpanFits}
use Rattle.esql_lex.specs.declared.token.Token.{Token}
use Rattle.esql_lex.specs.declared.token.Sign.TheVariants as sign
use Rattle.esql_lex.specs.Tokens.{FitsText}
use Rattle.esql_ast.specs.declared.query.Command.{Command}
use Rattle.esql_ast.specs.Fits.{KindFits, SourceFits, QueryFits}
use Rattle.esql_ast.specs.Laws.{as_it_was}
use Rattle.esql_ast.specs.Nodes.{nodes_of_field, nodes_of_kind, nodes_of_command, nodes_of_source}
use Rattle.esql_ast.specs.Numbering.{numbered_query}
use Rattle.esql_ast.proofs.KeepsFit as numbering
use Rattle.esql_ast.proofs.NodesFit.{NodesFit, no_nodes, node_then, nodes_then, flat_fits, fields_nodes_fit, kind_nodes_fit}
use Rattle.esql_phrases.specs.declared.lexeme.Lexeme.{Lexeme}
use Rattle.esql_phrases.specs.declared.lexeme.Lexeme.TheVariants.{Sign as Mark, End}
use Rattle.esql_phrases.specs.Stands.{Stands}
use Rattle.esql_phrases.proofs.Stands.{front, back, lexemes_stand}
use Rattle.esql_commands.specs.declared.place.CommandEnd.{CommandEnd}
use Rattle.esql_commands.specs.declared.place.CommandEnd.TheVariants as end
use Rattle.esql_parse.specs.declared.state.Written.{Written}
use Rattle.esql_commands.specs.Grammar.{node_zero}
use Rattle.esql_parse.specs.Grammar.{begin_with, continue_with, Piped, source_line, pipe_line, SpellsQuery, query_line}
use Rattle.esql_parse.specs.Spells.{lexemes_of}
use Rattle.esql_commands.specs.Fits.{EndFits}
use Rattle.esql_commands.proofs.Fits.{command_fits}

pub record WrittenFits (text : List ℕ) (written : Written) : Type 0 where
  pub source_nodes : NodesFit text (nodes_of_source written.source)
  pub source : SourceFits text written.source
  pub command_nodes : All (λ (c : Command). NodesFit text (nodes_of_command c)) written.commands
  pub commands : All (λ (c : Command). KindFits text c.kind) written.commands

-- what is written so far, if anything is, fits the text
abbrev pub MaybeFits : List ℕ → Option Written → Type 0
MaybeFits text None = Unit {0}
MaybeFits text (Some written) = WrittenFits text written

begin_fits : {text : List ℕ} (says : CommandEnd) (span : Span) → SpanFits text span → EndFits text says → MaybeFits text (begin_with says span)
begin_fits {text} (end.From tables) span own fits = record {
  source_nodes = node_then (record { node = node_zero; span = span }) [] own (no_nodes text);
  source = fits;
  command_nodes = All-nil (λ (c : Command). NodesFit text (nodes_of_command c));
  commands = All-nil (λ (c : Command). KindFits text c.kind);
}
begin_fits {text} (end.Row fields) span own fits = record {
  source_nodes = node_then (record { node = node_zero; span = span }) (flat_map nodes_of_field fields) own (fields_nodes_fit text fields fits);
  source = fits;
  command_nodes = All-nil (λ (c : Command). NodesFit text (nodes_of_command c));
  commands = All-nil (λ (c : Command). KindFits text c.kind);
}
begin_fits (end.Piped kind) span own fits = tt

continue_fits : {text : List ℕ} (written : Written) (says : CommandEnd) (span : Span) → WrittenFits text written → SpanFits text span → EndFits text says → MaybeFits text (continue_with written says span)
continue_fits written (end.From tables) span before own fits = tt
continue_fits written (end.Row fields) span before own fits = tt
continue_fits {text} written (end.Piped kind) span before own fits =
    let P : Command → Type 0 = λ c. NodesFit text (nodes_of_command c) in
    let Q : Command → Type 0 = λ c. KindFits text c.kind in
    let c : Command = record { node = node_zero; span = span; kind = kind } in
    let nodes : P c = node_then (record { node = node_zero; span = span }) (nodes_of_kind kind) own (kind_nodes_fit text kind fits) in
    record {
      source_nodes = before.source_nodes;
      source = before.source;
      command_nodes = All-append P written.commands (c ∷ []) before.command_nodes (All-cons P c [] nodes (All-nil P));
      commands = All-append Q written.commands (c ∷ []) before.commands (All-cons Q c [] fits (All-nil Q));
    }

piped_fits : {text : List ℕ} {w : List Lexeme} {written : Written} {d : ℕ} → Piped w written d → Stands text w → WrittenFits text written
piped_fits {text} (source_line {says = says} {span = span} line e) s =
    let fits = command_fits line s in
    subst (λ (o : Option Written). MaybeFits text o) e (begin_fits says span fits.0 fits.1)
piped_fits {text} (pipe_line bar {u = u} {w = w} {says = says} {span = span} {before = before} those line e) s =
    let fits = command_fits line (back (Mark sign.Bar bar ∷ []) w (back u (Mark sign.Bar bar ∷ w) s)) in
    let so_far = piped_fits those (front u (Mark sign.Bar bar ∷ w) s) in
    subst (λ (o : Option Written). MaybeFits text o) e (continue_fits before says span so_far fits.0 fits.1)

-- where lexemes that spell a query stand in a text, the spans of the query are parts of it
pub query_fits : {text : List ℕ} {w : List Lexeme} {written : Written} {d : ℕ} → SpellsQuery w written d → Stands text w → QueryFits text (as_it_was written.source written.commands)
query_fits {written = written} (query_line end {w = w} those) s =
    let fits = piped_fits those (front w (End end ∷ []) s) in
    record {
      nodes = nodes_then (nodes_of_source written.source) (flat_map nodes_of_command written.commands) fits.source_nodes (flat_fits nodes_of_command written.commands fits.command_nodes);
      source = fits.source;
      commands = fits.commands;
    }

-- the spans of the query that the tokens of a text spell are parts of the text
pub spelled_fits : (text : List ℕ) (tokens : List Token) (written : Written) (depth : ℕ) → length text ≤ 65536 → FitsText text tokens → SpellsQuery (lexemes_of text tokens) written depth
    → QueryFits text (numbered_query written.source written.commands)
spelled_fits text tokens written depth small fits spells =
    numbering.query_fits text written.source written.commands (query_fits spells (lexemes_stand text tokens small fits))
