-- A command that may end says what was read of it.
use Rattle.std.proofs.Common.{◌≡◌, ℕ, ◌+◌, max, List, [], ◌∷◌, ◌++◌, Some, refl, sym, ap, subst, append_assoc, append-nil, arith}
use Rattle.esql_lex.specs.declared.token.Reserved.TheVariants as word
use Rattle.esql_ast.specs.declared.query.Field.{Field}
use Rattle.esql_ast.specs.declared.query.StatsField.{StatsField}
use Rattle.esql_ast.specs.declared.query.CommandKind.TheVariants as command
use Rattle.esql_phrases.specs.declared.lexeme.Lexeme.{Lexeme}
use Rattle.esql_phrases.specs.declared.part.Part.{Part}
use Rattle.esql_phrases.specs.declared.lexeme.Lexeme.TheVariants.{Word}
use Rattle.esql_phrases.specs.Phrases.{Phrase}
use Rattle.esql_phrases.proofs.Lines.{depth_one}
use Rattle.esql_commands.specs.declared.field.Clause.{Clause}
use Rattle.esql_commands.specs.declared.place.CommandEnd.{CommandEnd}
use Rattle.esql_commands.specs.declared.place.CommandEnd.TheVariants as end
use Rattle.esql_commands.specs.declared.place.Place.TheVariants.{At}
use Rattle.esql_commands.specs.declared.place.Point.{Point}
use Rattle.esql_commands.specs.declared.place.Slot.{Slot}
use Rattle.esql_commands.specs.declared.words.CommandWord.{CommandWord}
use Rattle.esql_commands.specs.declared.words.CommandWord.TheVariants as begins
use Rattle.esql_commands.specs.Grammar.{Listed, no_name, FieldLine, field_line, StatsLine, open_line, where_line, no_direction, no_order, key_line, item_line, no_on, on_name, no_items, with_items, no_groups, by_fields, no_separator, Says, from_says, row_says, where_says, eval_says, keep_says, drop_says, rename_says, sort_says, stats_says, stats_by_says, dissect_says, enrich_says}
use Rattle.esql_commands.specs.Fields.{finished_fields}
use Rattle.esql_commands.specs.Points.{finished_command}
use Rattle.esql_commands.specs.Slots.{line_in, finished_slot}
use Rattle.esql_commands.proofs.Lists.{listed_as, with_one, says_as, name_depth_low}
use Rattle.esql_commands.proofs.Reached.{Opens, row_opens, eval_opens, groups_open, only_groups, Before, field_before, aggregate_before, condition_before, filter_before, key_before, dissect_before, grok_before, keeps, drops, Reached, expr_ended, from_next, from_table, pattern_next, pattern_read, rename_next, rename_before, rename_as, rename_after, key_directed, key_nulls, key_whole, limit_wants, expand_wants, stats_wants, dissect_pattern, dissect_separator, dissect_assign, enrich_wants, enrich_policy, enrich_on, enrich_column, enrich_next, enrich_name, enrich_assign, enrich_field, lookup_wants, join_wants, join_table, join_on, whole}

clause_says : {of : Clause} {begin : CommandWord} {u w : List Lexeme} {fields : List Field} {d e : ℕ} → Opens of begin u d → Listed FieldLine w fields e → Says begin (u ++ w) (finished_fields of fields) (max d e)
clause_says row_opens l = says_as refl (omega arith) (row_says l)
clause_says eval_opens l = says_as refl (omega arith) (eval_says l)
clause_says {w = w} (groups_open by_ {w = u} f) l = says_as (sym (append_assoc u (Word word.By by_ ∷ []) w)) refl (stats_says f (by_fields by_ l))
clause_says (only_groups by_) l = says_as refl (omega arith) (stats_by_says by_ l)

stats_only : {w : List Lexeme} {fields : List StatsField} {d : ℕ} → Listed StatsLine w fields d → Says begins.Stats w (end.Piped (command.Stats fields [])) d
stats_only {w} l = says_as (append-nil w) (omega arith) (stats_says l no_groups)

says_so : {begin : CommandWord} {w : List Lexeme} {a b : CommandEnd} {d : ℕ} → Says begin w a d → Some a ≡ Some b → Says begin w b d
says_so {begin} {w} {a} {b} {d} s e = let same : a ≡ b = cc in subst (λ (y : CommandEnd). Says begin w y d) same s

-- where an expression ended
expr_says : {begin : CommandWord} {slot : Slot} {u w : List Lexeme} {p : Part} {d : ℕ} {says : CommandEnd} → Before begin slot u d → Phrase (line_in slot) w p → finished_slot slot p ≡ Some says → Says begin (u ++ w) says (max d p.depth)
expr_says (field_before {name = name} o i f) q e =
    let one = depth_one q in
    let low = name_depth_low name in
    says_so (says_as (sym (simp append_assoc)) (omega arith) (clause_says o (with_one i (field_line f q)))) e
expr_says {w = w} (aggregate_before {m = m} {n = n} {name = name} i f) q e =
    let one = depth_one q in
    let low = name_depth_low name in
    says_so (says_as (sym (append_assoc m n w)) (omega arith) (stats_only (with_one i (open_line (field_line f q))))) e
expr_says (condition_before where_ i f c) q e = says_so (says_as (sym (simp append_assoc)) (omega arith) (stats_only (with_one i (where_line where_ f c q)))) e
expr_says filter_before q e = says_so (says_as refl (omega arith) (where_says q)) e
expr_says {u = u} {w = w} (key_before i) q e = says_so (sort_says (listed_as (ap (λ v. u ++ v) (append-nil w)) refl (with_one i (key_line q no_direction no_order)))) e
expr_says dissect_before q e = cc
expr_says grok_before q e = cc

pub ends_says : {begin : CommandWord} {here : Point} {v : List Lexeme} {d : ℕ} {says : CommandEnd} → Reached begin (At here) v d → finished_command here ≡ Some says → Says begin v says d
ends_says (expr_ended before q) e = expr_says before q e
ends_says (from_next i) e = cc
ends_says (from_table l) e = says_so (from_says l) e
ends_says (pattern_next k i) e = cc
ends_says (pattern_read keeps l) e = says_so (keep_says l) e
ends_says (pattern_read drops l) e = says_so (drop_says l) e
ends_says (rename_next i) e = cc
ends_says (rename_before i n) e = cc
ends_says (rename_as as_ i n) e = cc
ends_says (rename_after l) e = says_so (rename_says l) e
ends_says (key_directed {m = m} {w = w} {k = k} i q c) e = says_so (sort_says (listed_as (ap (λ v. m ++ (w ++ v)) (append-nil k)) refl (with_one i (key_line q c no_order)))) e
ends_says (key_nulls nulls i q c) e = cc
ends_says (key_whole l) e = says_so (sort_says l) e
ends_says limit_wants e = cc
ends_says expand_wants e = cc
ends_says stats_wants e = cc
ends_says (dissect_pattern pattern q) e = says_so (dissect_says pattern q no_separator) e
ends_says (dissect_separator pattern name q s) e = cc
ends_says (dissect_assign pattern name assign q s) e = cc
ends_says enrich_wants e = cc
ends_says (enrich_policy policy) e = says_so (enrich_says policy no_on no_items) e
ends_says (enrich_on policy at) e = cc
ends_says (enrich_column policy at n) e = says_so (enrich_says policy (on_name at n) no_items) e
ends_says (enrich_next policy with_ o i) e = cc
ends_says (enrich_name policy with_ o i n) e = says_so (enrich_says policy o (with_items with_ (with_one i (item_line no_name n)))) e
ends_says (enrich_assign policy with_ assign o i n) e = cc
ends_says (enrich_field policy with_ o l) e = says_so (enrich_says policy o (with_items with_ l)) e
ends_says lookup_wants e = cc
ends_says (join_wants join_ j) e = cc
ends_says (join_table join_ table j) e = cc
ends_says (join_on join_ table on j) e = cc
ends_says (whole s) e = says_so s e
