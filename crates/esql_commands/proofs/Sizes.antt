-- A command has at most as many nodes as lexemes: those of its expressions, and a condition has its WHERE.
use Rattle.std.proofs.Common.{ℕ, ◌+◌, ◌≤◌, List, [], ◌∷◌, ◌++◌, length, map, length-append, arith}
use Rattle.esql_types.specs.declared.places.Span.{Span}
use Rattle.esql_lex.specs.declared.token.Sign.TheVariants as sign
use Rattle.esql_ast.specs.declared.query.Field.{Field}
use Rattle.esql_ast.specs.declared.query.StatsField.{StatsField}
use Rattle.esql_ast.specs.declared.query.SortKey.{SortKey}
use Rattle.esql_ast.specs.Numbering.{Numbering, size_all, numbering_of_field, numbering_of_stats, numbering_of_key, size_of_fields, size_of_kind}
use Rattle.esql_phrases.specs.declared.lexeme.Lexeme.{Lexeme}
use Rattle.esql_phrases.specs.declared.lexeme.Lexeme.TheVariants.{Plain, Text, Sign as Mark}
use Rattle.esql_commands.specs.declared.place.CommandEnd.{CommandEnd}
use Rattle.esql_commands.specs.declared.place.CommandEnd.TheVariants as end
use Rattle.esql_commands.specs.declared.words.CommandWord.{CommandWord}
use Rattle.esql_commands.specs.Grammar.{Listed, first_item, next_item as later_item, FieldLine, field_line, StatsLine, open_line, where_line, KeyLine, key_line, ByFields, no_groups, by_fields, Says, from_says, row_says, where_says, eval_says, keep_says, drop_says, rename_says, sort_says, limit_says, expand_says, stats_says, stats_by_says, dissect_says, grok_says, enrich_says, join_says, CommandLine, command_line}
use Rattle.esql_phrases.proofs.Sizes.{phrase_size, sizes_one_more}

field_size : {w : List Lexeme} {f : Field} {d : ℕ} → FieldLine w f d → (numbering_of_field f).size ≤ length w
field_size (field_line {m = m} {w = w} name q) = let s = phrase_size q in let n = length-append m w in omega arith

stats_size : {w : List Lexeme} {f : StatsField} {d : ℕ} → StatsLine w f d → (numbering_of_stats f).size ≤ length w
stats_size (open_line f) = let s = field_size f in omega arith
stats_size (where_line where_ {u = u} {w = w} f c q) = let s = field_size f in let t = phrase_size q in let n = length-append u (Plain where_ ∷ w) in omega arith

key_size : {w : List Lexeme} {k : SortKey} {d : ℕ} → KeyLine w k d → (numbering_of_key k).size ≤ length w
key_size (key_line {w = w} {m = m} {k = k} q _ _) = let s = phrase_size q in let n = length-append w (m ++ k) in omega arith

listed_size : {X : Type 0} {One : List Lexeme → X → ℕ → Type 0} (number : X → Numbering X) → ((w : List Lexeme) (x : X) (d : ℕ) → One w x d → (number x).size ≤ length w)
    → {w : List Lexeme} {xs : List X} {d : ℕ} → Listed One w xs d → size_all (map number xs) ≤ length w
listed_size number one (first_item {w = w} {a = x} {d = d} i) = let s = one w x d i in omega arith
listed_size number one (later_item comma {u = u} {w = w} {items = xs} {a = x} {e = d} more i) =
    let s = listed_size number one more in let t = one w x d i in let n = length-append u (Mark sign.Comma comma ∷ w) in
    let e = sizes_one_more number xs x in omega arith

fields_size : {w : List Lexeme} {fields : List Field} {d : ℕ} → Listed FieldLine w fields d → size_of_fields fields ≤ length w
fields_size i = listed_size numbering_of_field (λ w x d. field_size) i

groups_size : {w : List Lexeme} {fields : List Field} {d : ℕ} → ByFields w fields d → size_of_fields fields ≤ length w
groups_size no_groups = omega arith
groups_size (by_fields by_ i) = let s = fields_size i in omega arith

abbrev pub size_of_end : CommandEnd → ℕ
size_of_end (end.From tables) = 0
size_of_end (end.Row fields) = size_of_fields fields
size_of_end (end.Piped kind) = size_of_kind kind

says_size : {begin : CommandWord} {w : List Lexeme} {says : CommandEnd} {d : ℕ} → Says begin w says d → size_of_end says ≤ length w
says_size (from_says i) = omega arith
says_size (row_says i) = fields_size i
says_size (where_says q) = phrase_size q
says_size (eval_says i) = fields_size i
says_size (keep_says i) = omega arith
says_size (drop_says i) = omega arith
says_size (rename_says i) = omega arith
says_size (sort_says i) = listed_size numbering_of_key (λ w x d. key_size) i
says_size (limit_says count at) = omega arith
says_size (expand_says x) = omega arith
says_size (stats_says {w = w} {v = v} i g) = let s = listed_size numbering_of_stats (λ w x d. stats_size) i in let t = groups_size g in let n = length-append w v in omega arith
says_size (stats_by_says by_ i) = let s = fields_size i in omega arith
says_size (dissect_says {w = w} {v = v} pattern q s) = let t = phrase_size q in let n = length-append w (Text pattern ∷ v) in omega arith
says_size (grok_says {w = w} pattern q) = let t = phrase_size q in let n = length-append w (Text pattern ∷ []) in omega arith
says_size (enrich_says policy on items) = omega arith
says_size (join_says join_ table on is x) = omega arith

pub line_size : {w : List Lexeme} {says : CommandEnd} {span : Span} {d : ℕ} → CommandLine w says span d → 1 + size_of_end says ≤ length w
line_size (command_line name c whole) = let s = says_size whole in omega arith
