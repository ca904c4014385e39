-- The depth that the grammar gives a command is that of what it says.
use Rattle.std.proofs.Common.{◌≡◌, ℕ, List, map, refl, arith}
use Rattle.esql_types.specs.declared.places.Span.{Span}
use Rattle.esql_ast.specs.declared.query.Field.{Field}
use Rattle.esql_ast.specs.declared.query.NameAt.{NameAt}
use Rattle.esql_ast.specs.declared.query.NamePattern.{NamePattern}
use Rattle.esql_ast.specs.declared.query.RenamePair.{RenamePair}
use Rattle.esql_ast.specs.declared.query.SortKey.{SortKey}
use Rattle.esql_ast.specs.declared.query.StatsField.{StatsField}
use Rattle.esql_ast.specs.Depths.{greatest, depth_of_field, depth_of_stats, depth_of_key}
use Rattle.esql_ast.proofs.DepthParts.{greatest_push}
use Rattle.esql_phrases.specs.declared.lexeme.Lexeme.{Lexeme}
use Rattle.esql_phrases.proofs.DepthOfTree.{phrase_depth}
use Rattle.esql_commands.specs.declared.place.CommandEnd.{CommandEnd}
use Rattle.esql_commands.specs.declared.words.CommandWord.{CommandWord}
use Rattle.esql_commands.specs.Grammar.{Listed, first_item, next_item, FieldLine, field_line, StatsLine, open_line, where_line, KeyLine, key_line, TableLine, table_line, PatternLine, pattern_line, full_name_line, PairLine, pair_line, ByFields, no_groups, by_fields, Says, from_says, row_says, where_says, eval_says, keep_says, drop_says, rename_says, sort_says, limit_says, expand_says, stats_says, stats_by_says, dissect_says, grok_says, enrich_says, join_says, CommandLine, command_line}
use Rattle.esql_commands.specs.Depths.{depth_of_end}

-- where each item has its depth, the items of a list have the greatest of theirs
listed_depth : {X : Type 0} {One : List Lexeme → X → ℕ → Type 0} (depth : X → ℕ) → ((w : List Lexeme) (x : X) (d : ℕ) → One w x d → d ≡ depth x)
    → {w : List Lexeme} {xs : List X} {d : ℕ} → Listed One w xs d → d ≡ greatest (map depth xs)
listed_depth depth one (first_item {w = w} {a = x} {d = d} i) = let s = one w x d i in omega arith
listed_depth depth one (next_item comma {w = w} {items = xs} {a = x} {e = e} more i) =
    let s = listed_depth depth one more in let t = one w x e i in let last = greatest_push depth xs x in omega arith

-- items without expressions
listed_flat : {X : Type 0} {One : List Lexeme → X → ℕ → Type 0} → ((w : List Lexeme) (x : X) (d : ℕ) → One w x d → d ≡ 0)
    → {w : List Lexeme} {xs : List X} {d : ℕ} → Listed One w xs d → d ≡ 0
listed_flat one (first_item {w = w} {a = x} {d = d} i) = one w x d i
listed_flat one (next_item comma {w = w} {a = x} {e = e} more i) = let s = listed_flat one more in let t = one w x e i in omega arith

field_depth : {w : List Lexeme} {f : Field} {d : ℕ} → FieldLine w f d → d ≡ depth_of_field f
field_depth (field_line name q) = phrase_depth q

stats_depth : {w : List Lexeme} {f : StatsField} {d : ℕ} → StatsLine w f d → d ≡ depth_of_stats f
stats_depth (open_line f) = let s = field_depth f in omega arith
stats_depth (where_line where_ f is q) = let s = field_depth f in let t = phrase_depth q in omega arith

key_depth : {w : List Lexeme} {k : SortKey} {d : ℕ} → KeyLine w k d → d ≡ depth_of_key k
key_depth (key_line q _ _) = phrase_depth q

table_depth : {w : List Lexeme} {x : NameAt} {d : ℕ} → TableLine w x d → d ≡ 0
table_depth (table_line name) = refl

pattern_depth : {w : List Lexeme} {x : NamePattern} {d : ℕ} → PatternLine w x d → d ≡ 0
pattern_depth (pattern_line pattern) = refl
pattern_depth (full_name_line name) = refl

pair_depth : {w : List Lexeme} {x : RenamePair} {d : ℕ} → PairLine w x d → d ≡ 0
pair_depth (pair_line as_ before after) = refl

fields_depth : {w : List Lexeme} {fields : List Field} {d : ℕ} → Listed FieldLine w fields d → d ≡ greatest (map depth_of_field fields)
fields_depth i = listed_depth depth_of_field (λ w x d. field_depth) i

groups_depth : {w : List Lexeme} {fields : List Field} {d : ℕ} → ByFields w fields d → d ≡ greatest (map depth_of_field fields)
groups_depth no_groups = refl
groups_depth (by_fields by_ i) = fields_depth i

pub says_depth : {begin : CommandWord} {w : List Lexeme} {says : CommandEnd} {d : ℕ} → Says begin w says d → d ≡ depth_of_end says
says_depth (from_says i) = listed_flat (λ w x d. table_depth) i
says_depth (row_says i) = fields_depth i
says_depth (where_says q) = phrase_depth q
says_depth (eval_says i) = fields_depth i
says_depth (keep_says i) = listed_flat (λ w x d. pattern_depth) i
says_depth (drop_says i) = listed_flat (λ w x d. pattern_depth) i
says_depth (rename_says i) = listed_flat (λ w x d. pair_depth) i
says_depth (sort_says i) = listed_depth depth_of_key (λ w x d. key_depth) i
says_depth (limit_says count at) = refl
says_depth (expand_says x) = refl
says_depth (stats_says i g) = let s = listed_depth depth_of_stats (λ w x d. stats_depth) i in let t = groups_depth g in omega arith
says_depth (stats_by_says by_ i) = let s = fields_depth i in omega arith
says_depth (dissect_says pattern q s) = phrase_depth q
says_depth (grok_says pattern q) = phrase_depth q
says_depth (enrich_says policy on items) = refl
says_depth (join_says join_ table on is x) = refl

pub line_depth : {w : List Lexeme} {says : CommandEnd} {span : Span} {d : ℕ} → CommandLine w says span d → d ≡ depth_of_end says
line_depth (command_line name is whole) = says_depth whole
