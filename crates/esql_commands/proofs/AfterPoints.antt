-- A lexeme at a point leads where the command continues.
use Rattle.std.proofs.Common.{◌≡◌, ℕ, ◌+◌, max, Bool, true, false, List, [], ◌∷◌, ◌++◌, Option, Some, None, refl, sym, append_assoc, append-nil, arith}
use Rattle.std.specs.Prelude.{pos}
use Rattle.esql_types.specs.declared.places.Span.{Span}
use Rattle.esql_lex.specs.declared.token.Reserved.TheVariants as word
use Rattle.esql_lex.specs.declared.token.Sign.TheVariants as sign
use Rattle.esql_ast.specs.declared.query.NameAt.{NameAt}
use Rattle.esql_ast.specs.declared.query.TextAt.{TextAt}
use Rattle.esql_ast.specs.declared.query.NamePattern.{NamePattern}
use Rattle.esql_ast.specs.declared.query.RenamePair.{RenamePair}
use Rattle.esql_ast.specs.declared.query.SortKey.{SortKey}
use Rattle.esql_ast.specs.declared.query.EnrichItem.{EnrichItem}
use Rattle.esql_phrases.specs.declared.lexeme.Lexeme.{Lexeme}
use Rattle.esql_phrases.specs.declared.part.Part.{Part}
use Rattle.esql_phrases.specs.declared.lexeme.Lexeme.TheVariants.{Plain, Quoted, Pattern, Source, Text, Number, Word, Sign as Mark}
use Rattle.esql_phrases.specs.Phrases.{IsName, Phrase}
use Rattle.esql_commands.specs.declared.pattern.PatternUse.{PatternUse}
use Rattle.esql_commands.specs.declared.from.FromPoint.TheVariants as from
use Rattle.esql_commands.specs.declared.pattern.PatternPoint.TheVariants as pattern
use Rattle.esql_commands.specs.declared.rename.RenamePoint.TheVariants as rename
use Rattle.esql_commands.specs.declared.place.Point.TheVariants as point
use Rattle.esql_commands.specs.declared.place.Move.TheVariants.{To}
use Rattle.esql_commands.specs.declared.place.Place.{Place}
use Rattle.esql_commands.specs.declared.place.Place.TheVariants.{At}
use Rattle.esql_commands.specs.declared.place.Point.{Point}
use Rattle.esql_commands.specs.declared.words.CommandWord.{CommandWord}
use Rattle.esql_commands.specs.declared.words.CommandWord.TheVariants as begins
use Rattle.esql_commands.specs.Grammar.{Listed, no_name, named, Direction, descending, no_order, nulls_first, nulls_last, KeyLine, key_line, TableLine, table_line, PatternLine, pattern_line, full_name_line, PairLine, pair_line, ItemLine, item_line, OnName, no_on, on_name, separator, limit_says, expand_says, dissect_says, join_says}
use Rattle.esql_commands.specs.Dissect.{have_word as have_separator_word, have_pattern as have_dissect_pattern, have_separator, have_assign as have_separator_assign}
use Rattle.esql_commands.specs.Enrich.{want_policy, have_policy, have_on, have_column, have_with, have_name, have_assign, want_item}
use Rattle.esql_commands.specs.Expand.{want_column}
use Rattle.esql_commands.specs.From.{want_table}
use Rattle.esql_commands.specs.Join.{have_word as have_join_word, have_lookup, have_join, have_table as have_join_table, have_on as have_join_on}
use Rattle.esql_commands.specs.Limit.{want_count}
use Rattle.esql_commands.specs.Lexemes.{name_in, after_comma}
use Rattle.esql_commands.specs.Patterns.{pattern_in, want_pattern}
use Rattle.esql_commands.specs.Points.{moved, continue_command}
use Rattle.esql_commands.specs.Rename.{want_before, have_before, want_after}
use Rattle.esql_commands.specs.Sort.{want_key, have_direction, want_end, have_nulls}
use Rattle.esql_commands.specs.Stats.{have_stats}
use Rattle.esql_commands.specs.Words.{is_join, is_append_separator}
use Rattle.esql_commands.proofs.Lists.{with_one, reached_as, to, is_name}
use Rattle.esql_commands.proofs.Reached.{SoFar, none_yet, so_far, only_groups, field_before, key_before, PatternWord, Reached, in_slot, expr_ended, from_next, from_table, pattern_next, pattern_read, rename_next, rename_before, rename_as, rename_after, key_directed, key_nulls, key_whole, limit_wants, expand_wants, stats_wants, dissect_pattern, dissect_separator, dissect_assign, enrich_wants, enrich_policy, enrich_on, enrich_column, enrich_next, enrich_name, enrich_assign, enrich_field, lookup_wants, join_wants, join_table, join_on, whole}
use Rattle.esql_commands.proofs.AfterExpressions.{expr_goes}

table_comes : {m : List Lexeme} {tables : List NameAt} {d : ℕ} {place : Place} (x : Lexeme) → SoFar TableLine m tables d → moved (want_table tables x) ≡ Some (To place) → Reached begins.From place (m ++ x ∷ []) d
table_comes (Source name) i g = to (reached_as refl (omega arith) (from_table (with_one i (table_line name)))) g
table_comes _ i g = cc

table_goes : {w : List Lexeme} {tables : List NameAt} {d : ℕ} {place : Place} (x : Lexeme) → Listed TableLine w tables d → moved (after_comma x (At (point.From (from.Want tables)))) ≡ Some (To place) → Reached begins.From place (w ++ x ∷ []) d
table_goes (Mark sign.Comma at) l g = to (from_next (so_far at l)) g
table_goes _ l g = cc

pattern_comes : {begin : CommandWord} {of : PatternUse} {m : List Lexeme} {patterns : List NamePattern} {d : ℕ} {place : Place} (x : Lexeme)
    → PatternWord begin of → SoFar PatternLine m patterns d → moved (want_pattern of patterns (pattern_in x)) ≡ Some (To place) → Reached begin place (m ++ x ∷ []) d
pattern_comes (Pattern pattern) k i g = to (reached_as refl (omega arith) (pattern_read k (with_one i (pattern_line pattern)))) g
pattern_comes (Quoted name) k i g = to (reached_as refl (omega arith) (pattern_read k (with_one i (full_name_line name)))) g
pattern_comes _ k i g = cc

pattern_goes : {begin : CommandWord} {of : PatternUse} {w : List Lexeme} {patterns : List NamePattern} {d : ℕ} {place : Place} (x : Lexeme)
    → PatternWord begin of → Listed PatternLine w patterns d → moved (after_comma x (At (point.Pattern of (pattern.Want patterns)))) ≡ Some (To place) → Reached begin place (w ++ x ∷ []) d
pattern_goes (Mark sign.Comma at) k l g = to (pattern_next k (so_far at l)) g
pattern_goes _ k l g = cc

before_comes : {m : List Lexeme} {pairs : List RenamePair} {d : ℕ} {place : Place} (x : Lexeme) (o : Option NameAt)
    → name_in x ≡ o → SoFar PairLine m pairs d → moved (want_before pairs o) ≡ Some (To place) → Reached begins.Rename place (m ++ x ∷ []) d
before_comes x (Some name) n i g = to (rename_before i (is_name x name n)) g
before_comes x None n i g = cc

as_comes : {m : List Lexeme} {pairs : List RenamePair} {y : Lexeme} {before : NameAt} {d : ℕ} {place : Place} (x : Lexeme)
    → SoFar PairLine m pairs d → IsName y before → moved (have_before pairs before x) ≡ Some (To place) → Reached begins.Rename place ((m ++ y ∷ []) ++ x ∷ []) d
as_comes {m} {y = y} (Word word.As at) i n g = to (reached_as (sym (append_assoc m (y ∷ []) _)) refl (rename_as at i n)) g
as_comes _ i n g = cc

after_comes : {m : List Lexeme} {pairs : List RenamePair} {y : Lexeme} {before : NameAt} {d : ℕ} {place : Place} (as_ : Span) (x : Lexeme) (o : Option NameAt)
    → name_in x ≡ o → SoFar PairLine m pairs d → IsName y before → moved (want_after pairs before o) ≡ Some (To place) → Reached begins.Rename place ((m ++ y ∷ Word word.As as_ ∷ []) ++ x ∷ []) d
after_comes {m} {y = y} as_ x (Some name) n i b g = to (reached_as (sym (append_assoc m (y ∷ Word word.As as_ ∷ []) (x ∷ []))) (omega arith) (rename_after (with_one i (pair_line as_ b (is_name x name n))))) g
after_comes as_ x None n i b g = cc

pair_goes : {w : List Lexeme} {pairs : List RenamePair} {d : ℕ} {place : Place} (x : Lexeme) → Listed PairLine w pairs d → moved (after_comma x (At (point.Rename (rename.Want pairs)))) ≡ Some (To place) → Reached begins.Rename place (w ++ x ∷ []) d
pair_goes (Mark sign.Comma at) l g = to (rename_next (so_far at l)) g
pair_goes _ l g = cc

direction_goes : {m w k : List Lexeme} {keys : List SortKey} {p : Part} {descending : Bool} {d : ℕ} {place : Place} (x : Lexeme)
    → SoFar KeyLine m keys d → Phrase 0 w p → Direction k descending → moved (have_direction keys p.expr descending x) ≡ Some (To place) → Reached begins.Sort place ((m ++ (w ++ k)) ++ x ∷ []) (max d p.depth)
direction_goes (Mark sign.Comma at) i q c g = to (reached_as (simp (append_assoc, append-nil)) refl (in_slot (key_before (so_far at (with_one i (key_line q c no_order)))))) g
direction_goes (Word word.Nulls at) i q c g = to (reached_as (sym (simp append_assoc)) refl (key_nulls at i q c)) g
direction_goes _ i q c g = cc

nulls_go : {m w k : List Lexeme} {keys : List SortKey} {p : Part} {descending : Bool} {d : ℕ} {place : Place} (nulls : Span) (x : Lexeme)
    → SoFar KeyLine m keys d → Phrase 0 w p → Direction k descending → moved (have_nulls keys p.expr descending (want_end x)) ≡ Some (To place)
    → Reached begins.Sort place ((m ++ (w ++ (k ++ Word word.Nulls nulls ∷ []))) ++ x ∷ []) (max d p.depth)
nulls_go nulls (Word word.First at) i q c g = to (reached_as (sym (simp append_assoc)) refl (key_whole (with_one i (key_line q c (nulls_first nulls at))))) g
nulls_go nulls (Word word.Last at) i q c g = to (reached_as (sym (simp append_assoc)) refl (key_whole (with_one i (key_line q c (nulls_last nulls at))))) g
nulls_go nulls _ i q c g = cc

whole_key_goes : {w : List Lexeme} {keys : List SortKey} {d : ℕ} {place : Place} (x : Lexeme) → Listed KeyLine w keys d → moved (after_comma x (want_key keys)) ≡ Some (To place) → Reached begins.Sort place (w ++ x ∷ []) d
whole_key_goes (Mark sign.Comma at) l g = to (in_slot (key_before (so_far at l))) g
whole_key_goes _ l g = cc

count_comes : {place : Place} (x : Lexeme) → moved (want_count x) ≡ Some (To place) → Reached begins.Limit place (x ∷ []) 0
count_comes (Number (pos count) at) g = to (whole (limit_says count at)) g
count_comes _ g = cc

column_comes : {place : Place} (x : Lexeme) (o : Option NameAt) → name_in x ≡ o → moved (want_column o) ≡ Some (To place) → Reached begins.MvExpand place (x ∷ []) 0
column_comes x (Some name) n g = to (whole (expand_says (is_name x name n))) g
column_comes x None n g = cc

stats_go : {place : Place} (x : Lexeme) → Some (have_stats x) ≡ Some (To place) → Reached begins.Stats place (x ∷ []) 0
stats_go (Word word.By at) g = to (reached_as refl (omega arith) (in_slot (field_before (only_groups at) none_yet no_name))) g
stats_go _ g = cc

separator_word : {w : List Lexeme} {p : Part} {place : Place} (pattern : TextAt) (name : NameAt) (is : Bool)
    → Phrase 8 w p → is_append_separator name.name ≡ is → moved (have_separator_word p.expr pattern is) ≡ Some (To place) → Reached begins.Dissect place ((w ++ Text pattern ∷ []) ++ Plain name ∷ []) p.depth
separator_word {w} pattern name true q s g = to (reached_as (sym (append_assoc w (Text pattern ∷ []) _)) refl (dissect_separator pattern name q s)) g
separator_word pattern name false q s g = cc

dissect_pattern_goes : {w : List Lexeme} {p : Part} {place : Place} (pattern : TextAt) (x : Lexeme)
    → Phrase 8 w p → moved (have_dissect_pattern p.expr pattern x) ≡ Some (To place) → Reached begins.Dissect place ((w ++ Text pattern ∷ []) ++ x ∷ []) p.depth
dissect_pattern_goes pattern (Plain name) q g = separator_word pattern name (is_append_separator name.name) q refl g
dissect_pattern_goes pattern _ q g = cc

separator_goes : {w : List Lexeme} {p : Part} {place : Place} (pattern : TextAt) (name : NameAt) (x : Lexeme)
    → Phrase 8 w p → is_append_separator name.name ≡ true → moved (have_separator p.expr pattern x) ≡ Some (To place) → Reached begins.Dissect place ((w ++ Text pattern ∷ Plain name ∷ []) ++ x ∷ []) p.depth
separator_goes {w} pattern name (Mark sign.Assign at) q s g = to (reached_as (sym (append_assoc w (Text pattern ∷ Plain name ∷ []) _)) refl (dissect_assign pattern name at q s)) g
separator_goes pattern name _ q s g = cc

separator_comes : {w : List Lexeme} {p : Part} {place : Place} (pattern : TextAt) (name : NameAt) (assign : Span) (x : Lexeme)
    → Phrase 8 w p → is_append_separator name.name ≡ true → moved (have_separator_assign p.expr pattern x) ≡ Some (To place)
    → Reached begins.Dissect place ((w ++ Text pattern ∷ Plain name ∷ Mark sign.Assign assign ∷ []) ++ x ∷ []) p.depth
separator_comes {w} pattern name assign (Text text) q s g = to (reached_as (sym (append_assoc w (Text pattern ∷ Plain name ∷ Mark sign.Assign assign ∷ []) _)) refl (whole (dissect_says pattern q (separator name assign text s)))) g
separator_comes pattern name assign _ q s g = cc

policy_comes : {place : Place} (x : Lexeme) → moved (want_policy x) ≡ Some (To place) → Reached begins.Enrich place (x ∷ []) 0
policy_comes (Source policy) g = to (enrich_policy policy) g
policy_comes _ g = cc

policy_goes : {place : Place} (policy : NameAt) (x : Lexeme) → moved (have_policy policy x) ≡ Some (To place) → Reached begins.Enrich place (Source policy ∷ x ∷ []) 0
policy_goes policy (Word word.On at) g = to (enrich_on policy at) g
policy_goes policy (Word word.With at) g = to (enrich_next policy at no_on none_yet) g
policy_goes policy _ g = cc

on_comes : {place : Place} (policy : NameAt) (at : Span) (x : Lexeme) (o : Option NameAt) → name_in x ≡ o → moved (have_on policy o) ≡ Some (To place) → Reached begins.Enrich place (Source policy ∷ Word word.On at ∷ x ∷ []) 0
on_comes policy at x (Some name) n g = to (enrich_column policy at (is_name x name n)) g
on_comes policy at x None n g = cc

on_goes : {y : Lexeme} {on : NameAt} {place : Place} (policy : NameAt) (at : Span) (x : Lexeme)
    → IsName y on → moved (have_column policy on x) ≡ Some (To place) → Reached begins.Enrich place (Source policy ∷ Word word.On at ∷ y ∷ x ∷ []) 0
on_goes policy at (Word word.With with_) n g = to (enrich_next policy with_ (on_name at n) none_yet) g
on_goes policy at _ n g = cc

item_comes : {u m : List Lexeme} {on : Option NameAt} {items : List EnrichItem} {d : ℕ} {place : Place} (policy : NameAt) (with_ : Span) (x : Lexeme) (o : Option NameAt)
    → name_in x ≡ o → OnName u on → SoFar ItemLine m items d → moved (have_with policy on items o) ≡ Some (To place) → Reached begins.Enrich place ((Source policy ∷ (u ++ Word word.With with_ ∷ m)) ++ x ∷ []) 0
item_comes policy with_ x (Some name) n o i g = to (reached_as (sym (simp append_assoc)) refl (enrich_name policy with_ o i (is_name x name n))) g
item_comes policy with_ x None n o i g = cc

item_name_goes : {u m : List Lexeme} {on : Option NameAt} {items : List EnrichItem} {y : Lexeme} {name : NameAt} {d : ℕ} {place : Place} (policy : NameAt) (with_ : Span) (x : Lexeme)
    → OnName u on → SoFar ItemLine m items d → IsName y name → moved (have_name policy on items name x) ≡ Some (To place)
    → Reached begins.Enrich place ((Source policy ∷ (u ++ Word word.With with_ ∷ (m ++ y ∷ []))) ++ x ∷ []) 0
item_name_goes policy with_ (Mark sign.Assign at) o i n g = to (reached_as (sym (simp append_assoc)) refl (enrich_assign policy with_ at o i n)) g
item_name_goes policy with_ (Mark sign.Comma at) o i n g = to (reached_as (simp append_assoc) refl (enrich_next policy with_ o (so_far at (with_one i (item_line no_name n))))) g
item_name_goes policy with_ _ o i n g = cc

item_field_comes : {u m : List Lexeme} {on : Option NameAt} {items : List EnrichItem} {y : Lexeme} {name : NameAt} {d : ℕ} {place : Place} (policy : NameAt) (with_ assign : Span) (x : Lexeme) (o : Option NameAt)
    → name_in x ≡ o → OnName u on → SoFar ItemLine m items d → IsName y name → moved (have_assign policy on items name o) ≡ Some (To place)
    → Reached begins.Enrich place ((Source policy ∷ (u ++ Word word.With with_ ∷ (m ++ y ∷ Mark sign.Assign assign ∷ []))) ++ x ∷ []) 0
item_field_comes policy with_ assign x (Some field) n o i b g = to (reached_as (sym (simp append_assoc)) refl (enrich_field policy with_ o (with_one i (item_line (named assign b) (is_name x field n))))) g
item_field_comes policy with_ assign x None n o i b g = cc

item_goes : {u w : List Lexeme} {on : Option NameAt} {items : List EnrichItem} {d : ℕ} {place : Place} (policy : NameAt) (with_ : Span) (x : Lexeme)
    → OnName u on → Listed ItemLine w items d → moved (after_comma x (want_item policy on items)) ≡ Some (To place) → Reached begins.Enrich place ((Source policy ∷ (u ++ Word word.With with_ ∷ w)) ++ x ∷ []) 0
item_goes policy with_ (Mark sign.Comma at) o l g = to (reached_as (sym (simp append_assoc)) refl (enrich_next policy with_ o (so_far at l))) g
item_goes policy with_ _ o l g = cc

join_is : {place : Place} (name : NameAt) (is : Bool) → is_join name.name ≡ is → moved (have_join_word is) ≡ Some (To place) → Reached begins.Lookup place (Plain name ∷ []) 0
join_is name true j g = to (join_wants name j) g
join_is name false j g = cc

join_comes : {place : Place} (x : Lexeme) → moved (have_lookup x) ≡ Some (To place) → Reached begins.Lookup place (x ∷ []) 0
join_comes (Plain name) g = join_is name (is_join name.name) refl g
join_comes _ g = cc

join_table_comes : {place : Place} (join_ : NameAt) (x : Lexeme) → is_join join_.name ≡ true → moved (have_join x) ≡ Some (To place) → Reached begins.Lookup place (Plain join_ ∷ x ∷ []) 0
join_table_comes join_ (Source table) j g = to (join_table join_ table j) g
join_table_comes join_ _ j g = cc

join_table_goes : {place : Place} (join_ table : NameAt) (x : Lexeme) → is_join join_.name ≡ true → moved (have_join_table table x) ≡ Some (To place) → Reached begins.Lookup place (Plain join_ ∷ Source table ∷ x ∷ []) 0
join_table_goes join_ table (Word word.On on) j g = to (join_on join_ table on j) g
join_table_goes join_ table _ j g = cc

join_column_comes : {place : Place} (join_ table : NameAt) (on : Span) (x : Lexeme) (o : Option NameAt)
    → name_in x ≡ o → is_join join_.name ≡ true → moved (have_join_on table o) ≡ Some (To place) → Reached begins.Lookup place (Plain join_ ∷ Source table ∷ Word word.On on ∷ x ∷ []) 0
join_column_comes join_ table on x (Some name) n j g = to (whole (join_says join_ table on j (is_name x name n))) g
join_column_comes join_ table on x None n j g = cc

-- a lexeme with which a command continues leads where it does
pub point_read : {begin : CommandWord} {here : Point} {v : List Lexeme} {d : ℕ} {place : Place} (x : Lexeme) → Reached begin (At here) v d → continue_command here x ≡ Some (To place) → Reached begin place (v ++ x ∷ []) d
point_read x (expr_ended before q) g = expr_goes x before q g
point_read x (from_next i) g = table_comes x i g
point_read x (from_table l) g = table_goes x l g
point_read x (pattern_next k i) g = pattern_comes x k i g
point_read x (pattern_read k l) g = pattern_goes x k l g
point_read x (rename_next i) g = before_comes x (name_in x) refl i g
point_read x (rename_before i n) g = as_comes x i n g
point_read x (rename_as as_ i n) g = after_comes as_ x (name_in x) refl i n g
point_read x (rename_after l) g = pair_goes x l g
point_read x (key_directed i q c) g = direction_goes x i q c g
point_read x (key_nulls nulls i q c) g = nulls_go nulls x i q c g
point_read x (key_whole l) g = whole_key_goes x l g
point_read x limit_wants g = count_comes x g
point_read x expand_wants g = column_comes x (name_in x) refl g
point_read x stats_wants g = stats_go x g
point_read x (dissect_pattern pattern q) g = dissect_pattern_goes pattern x q g
point_read x (dissect_separator pattern name q s) g = separator_goes pattern name x q s g
point_read x (dissect_assign pattern name assign q s) g = separator_comes pattern name assign x q s g
point_read x enrich_wants g = policy_comes x g
point_read x (enrich_policy policy) g = policy_goes policy x g
point_read x (enrich_on policy at) g = on_comes policy at x (name_in x) refl g
point_read x (enrich_column policy at n) g = on_goes policy at x n g
point_read x (enrich_next policy with_ o i) g = item_comes policy with_ x (name_in x) refl o i g
point_read x (enrich_name policy with_ o i n) g = item_name_goes policy with_ x o i n g
point_read x (enrich_assign policy with_ assign o i n) g = item_field_comes policy with_ assign x (name_in x) refl o i n g
point_read x (enrich_field policy with_ o l) g = item_goes policy with_ x o l g
point_read x lookup_wants g = join_comes x g
point_read x (join_wants join_ j) g = join_table_comes join_ x j g
point_read x (join_table join_ table j) g = join_table_goes join_ table x j g
point_read x (join_on join_ table on j) g = join_column_comes join_ table on x (name_in x) refl j g
point_read x (whole s) g = cc
