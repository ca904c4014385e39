-- A query that the tokens of a text of at most 65,536 bytes spell is short.
use Rattle.std.proofs.Common.{◌≡◌, ℕ, ◌+◌, ◌≤◌, List, [], ◌∷◌, ◌++◌, length, Option, Some, None, IfSome, All, refl, sym, subst, arith, length-append}
use Rattle.std.proofs.lemmas.List.{length-map}
use Rattle.std.proofs.lemmas.List.Elements.{All-nil, All-cons, All-head, All-tail, All-append}
use Rattle.esql_types.proofs.Lists.{All-front, All-back}
use Rattle.esql_types.specs.declared.places.Span.{Span}
use Rattle.esql_lex.specs.declared.token.Token.{Token}
use Rattle.esql_lex.specs.declared.token.Sign.TheVariants as sign
use Rattle.esql_lex.specs.Tokens.{FitsText}
use Rattle.esql_ast.specs.declared.query.Command.{Command}
use Rattle.esql_ast.specs.declared.query.CommandKind.{CommandKind}
use Rattle.esql_ast.specs.declared.query.CommandKind.TheVariants.{Filter, Eval, Keep, Drop, Rename, Sort, Limit, Expand, Stats, Dissect, Grok, Enrich, Join}
use Rattle.esql_ast.specs.declared.query.EnrichItem.{EnrichItem}
use Rattle.esql_ast.specs.declared.query.Query.{Query}
use Rattle.esql_ast.specs.declared.query.TextAt.{TextAt}
use Rattle.esql_ast.specs.Numbering.{numbering_of_command, numbered_commands, numbered_kind, size_of_source}
use Rattle.esql_phrases.specs.declared.lexeme.Lexeme.{Lexeme}
use Rattle.esql_phrases.specs.declared.lexeme.Lexeme.TheVariants.{Plain, Source, Text, Sign as Mark, End}
use Rattle.esql_phrases.specs.Lexemes.{lexeme_of}
use Rattle.esql_commands.specs.declared.place.CommandEnd.{CommandEnd}
use Rattle.esql_commands.specs.declared.place.CommandEnd.TheVariants as end
use Rattle.esql_commands.specs.declared.words.CommandWord.{CommandWord}
use Rattle.esql_commands.specs.Grammar.{Listed, first_item, next_item, ItemLine, item_line, WithItems, no_items, with_items, Says, from_says, row_says, where_says, eval_says, keep_says, drop_says, rename_says, sort_says, limit_says, expand_says, stats_says, stats_by_says, dissect_says, grok_says, enrich_says, join_says, node_zero, CommandLine, command_line}
use Rattle.esql_parse.specs.declared.state.Written.{Written}
use Rattle.esql_parse.specs.Grammar.{begin_with, continue_with, Piped, source_line, pipe_line, SpellsQuery, query_line}
use Rattle.esql_parse.specs.Spells.{Spells, lexemes_of}
use Rattle.query_semantics.specs.Sizes.{IsShort, IsShortQuery}
use Rattle.esql_answer.proofs.ShortTexts.{HasShortText, lexemes_short}

-- lexemes of a short text: so many at most, and no text among them is longer
pub record AreShort (w : List Lexeme) : Type 0 where
  pub few : length w ≤ 65537
  pub texts : All HasShortText w

front : (u w : List Lexeme) → AreShort (u ++ w) → AreShort u
front u w short = let few = short.few in let n = length-append u w in record { few = omega arith; texts = All-front HasShortText u w short.texts }

back : (u w : List Lexeme) → AreShort (u ++ w) → AreShort w
back u w short = let few = short.few in let n = length-append u w in record { few = omega arith; texts = All-back HasShortText u w short.texts }

first_short : (text : TextAt) (w : List Lexeme) → AreShort (Text text ∷ w) → length text.text ≤ 65536
first_short text w short = All-head HasShortText (Text text) w short.texts

-- each item is a lexeme at least
items_few : {w : List Lexeme} {items : List EnrichItem} {d : ℕ} → Listed ItemLine w items d → length items ≤ length w
items_few (first_item (item_line {m = m} {x = x} name field)) = let n = length-append m (x ∷ []) in omega arith
items_few (next_item comma {u = u} {w = w} {items = items} {a = item} those one) =
    let before = items_few those in let n = length-append u (Mark sign.Comma comma ∷ w) in let i = length-append items (item ∷ []) in omega arith

with_few : {w : List Lexeme} {items : Option (List EnrichItem)} → WithItems w items → AreShort w → IfSome items (λ (these : List EnrichItem). length these ≤ 65537)
with_few no_items short = tt
with_few (with_items with_ {w = w} those) short = let few = short.few in let n = items_few those in omega arith

-- a command behind the source is short
abbrev pub IsShortEnd : CommandEnd → Type 0
IsShortEnd (end.From tables) = Unit {0}
IsShortEnd (end.Row fields) = Unit {0}
IsShortEnd (end.Piped kind) = IsShort kind

says_short : {begin : CommandWord} {w : List Lexeme} {says : CommandEnd} {d : ℕ} → Says begin w says d → AreShort w → IsShortEnd says
says_short (from_says those) short = tt
says_short (row_says those) short = tt
says_short (where_says q) short = tt
says_short (eval_says those) short = tt
says_short (keep_says those) short = tt
says_short (drop_says those) short = tt
says_short (rename_says those) short = tt
says_short (sort_says those) short = tt
says_short (limit_says count at) short = tt
says_short (expand_says name) short = tt
says_short (stats_says those by) short = tt
says_short (stats_by_says by_ those) short = tt
says_short (dissect_says {w = w} {v = v} pattern q _) short = first_short pattern v (back w (Text pattern ∷ v) short)
says_short (grok_says {w = w} pattern q) short = first_short pattern [] (back w (Text pattern ∷ []) short)
says_short (enrich_says policy {u = u} {w = w} on items) short = with_few items (back u w (back (Source policy ∷ []) (u ++ w) short))
says_short (join_says join_ table on is name) short = tt

line_short : {w : List Lexeme} {says : CommandEnd} {span : Span} {d : ℕ} → CommandLine w says span d → AreShort w → IsShortEnd says
line_short (command_line name {w = w} is whole) short = says_short whole (back (Plain name ∷ []) w short)

abbrev pub HasShortCommands : Option Written → Type 0
HasShortCommands None = Unit {0}
HasShortCommands (Some written) = All (λ (command : Command). IsShort command.kind) written.commands

begin_short : (says : CommandEnd) (span : Span) → HasShortCommands (begin_with says span)
begin_short (end.From tables) span = All-nil (λ (command : Command). IsShort command.kind)
begin_short (end.Row fields) span = All-nil (λ (command : Command). IsShort command.kind)
begin_short (end.Piped kind) span = tt

continue_short : (written : Written) (says : CommandEnd) (span : Span) → All (λ (command : Command). IsShort command.kind) written.commands → IsShortEnd says → HasShortCommands (continue_with written says span)
continue_short written (end.From tables) span before own = tt
continue_short written (end.Row fields) span before own = tt
continue_short written (end.Piped kind) span before own =
    let P : Command → Type 0 = λ command. IsShort command.kind in
    let last : Command = record { node = node_zero; span = span; kind = kind } in
    All-append P written.commands (last ∷ []) before (All-cons P last [] own (All-nil P))

piped_short : {w : List Lexeme} {written : Written} {d : ℕ} → Piped w written d → AreShort w → All (λ (command : Command). IsShort command.kind) written.commands
piped_short (source_line {says = says} {span = span} line e) short = subst HasShortCommands e (begin_short says span)
piped_short (pipe_line bar {u = u} {w = w} {says = says} {span = span} {before = before} those line e) short =
    let own = line_short line (back (Mark sign.Bar bar ∷ []) w (back u (Mark sign.Bar bar ∷ w) short)) in
    subst HasShortCommands e (continue_short before says span (piped_short those (front u (Mark sign.Bar bar ∷ w) short)) own)

written_short : {w : List Lexeme} {written : Written} {d : ℕ} → SpellsQuery w written d → AreShort w → All (λ (command : Command). IsShort command.kind) written.commands
written_short (query_line end {w = w} those) short = piped_short those (front w (End end ∷ []) short)

-- a command is as short when it is numbered
kind_short : (kind : CommandKind) (node : ℕ) → IsShort kind → IsShort (numbered_kind kind node)
kind_short (Filter condition) node short = tt
kind_short (Eval fields) node short = tt
kind_short (Keep patterns) node short = tt
kind_short (Drop patterns) node short = tt
kind_short (Rename pairs) node short = tt
kind_short (Sort keys) node short = tt
kind_short (Limit count) node short = tt
kind_short (Expand column) node short = tt
kind_short (Stats fields groups) node short = tt
kind_short (Dissect input pattern separator) node short = short
kind_short (Grok input pattern) node short = short
kind_short (Enrich policy on items) node short = short
kind_short (Join table on) node short = tt

commands_short : (commands : List Command) (node : ℕ) → All (λ (command : Command). IsShort command.kind) commands → All (λ (command : Command). IsShort command.kind) (numbered_commands commands node)
commands_short [] node short = All-nil (λ (command : Command). IsShort command.kind)
commands_short (command ∷ commands) node short =
    let P : Command → Type 0 = λ (one : Command). IsShort one.kind in
    let numbering = numbering_of_command command in
    All-cons P (numbering.at node) (numbered_commands commands (node + numbering.size)) (kind_short command.kind (node + 1) (All-head P command commands short))
    (commands_short commands (node + numbering.size) (All-tail P command commands short))

as_many : (commands : List Command) (node : ℕ) → length (numbered_commands commands node) ≡ length commands
as_many [] node = refl
as_many (command ∷ commands) node = let rest = as_many commands (node + (numbering_of_command command).size) in omega arith

-- the query that the tokens of a text spell is short
pub spelled_short : (text : List ℕ) (tokens : List Token) (query : Query) → length text ≤ 65536 → FitsText text tokens → Spells text tokens query → IsShortQuery query
spelled_short text tokens query small fits spells =
    let written = spells.written in
    let few = spells.few in
    let count = fits.count in
    let many = length-map tokens (lexeme_of text) in
    let short : AreShort (lexemes_of text tokens) = record { few = omega arith; texts = lexemes_short text tokens small } in
    subst IsShortQuery (sym spells.numbered) (record {
      commands = let same = as_many written.commands (size_of_source written.source) in omega arith;
      each = commands_short written.commands (size_of_source written.source) (written_short spells.spells short);
    })
