-- A command can end, wherever lexemes lead in it.
use Rattle.std.proofs.Common.{◌≡◌, ℕ, ◌+◌, ◌≤◌, max, true, false, List, [], ◌∷◌, ◌++◌, Some, refl, sym, ap, subst, append_assoc, append-nil, arith}
use Rattle.std.specs.Prelude.{codes}
use Rattle.std.specs.Prelude.{pos}
use Rattle.esql_types.specs.declared.places.Span.{Span}
use Rattle.esql_lex.specs.declared.token.Reserved.TheVariants as word
use Rattle.esql_lex.specs.declared.token.Sign.TheVariants as sign
use Rattle.esql_ast.specs.declared.expr.Expr.{Expr}
use Rattle.esql_ast.specs.declared.query.NameAt.{NameAt}
use Rattle.esql_ast.specs.declared.query.TextAt.{TextAt}
use Rattle.esql_ast.specs.declared.query.NamePattern.{NamePattern}
use Rattle.esql_ast.specs.declared.query.RenamePair.{RenamePair}
use Rattle.esql_phrases.specs.declared.lexeme.Lexeme.{Lexeme}
use Rattle.esql_phrases.specs.declared.part.Part.{Part}
use Rattle.esql_phrases.specs.declared.lexeme.Lexeme.TheVariants.{Plain, Pattern, Source, Text, Number, Word, Sign as Mark}
use Rattle.esql_phrases.specs.Phrases.{Phrase, number_line}
use Rattle.esql_phrases.proofs.Lines.{lift}
use Rattle.esql_commands.specs.declared.dissect.DissectPoint.TheVariants as dissect
use Rattle.esql_commands.specs.declared.join.JoinPoint.TheVariants as join
use Rattle.esql_commands.specs.declared.place.CommandEnd.{CommandEnd}
use Rattle.esql_commands.specs.declared.place.Move.TheVariants.{To}
use Rattle.esql_commands.specs.declared.place.Place.{Place}
use Rattle.esql_commands.specs.declared.place.Place.TheVariants.{At, Expression}
use Rattle.esql_commands.specs.declared.place.Point.{Point}
use Rattle.esql_commands.specs.declared.place.Point.TheVariants as point
use Rattle.esql_commands.specs.declared.place.Slot.{Slot}
use Rattle.esql_commands.specs.declared.place.Slot.TheVariants as slot
use Rattle.esql_commands.specs.declared.rename.RenamePoint.TheVariants as rename
use Rattle.esql_commands.specs.declared.words.CommandWord.{CommandWord}
use Rattle.esql_commands.specs.declared.words.CommandWord.TheVariants as begins
use Rattle.esql_commands.specs.Grammar.{no_name}
use Rattle.esql_commands.specs.Begins.{place_after}
use Rattle.esql_commands.specs.Join.{have_word as have_join_word, have_lookup}
use Rattle.esql_commands.specs.Leads.{Leads, Completes, need_at, need_of}
use Rattle.esql_commands.specs.Points.{moved, continue_command, finished_command}
use Rattle.esql_commands.specs.Slots.{line_in}
use Rattle.esql_commands.specs.Words.{is_join}
use Rattle.esql_commands.proofs.Lists.{says_as, to}
use Rattle.esql_commands.proofs.Reached.{none_yet, Before, field_before, aggregate_before, condition_before, filter_before, key_before, dissect_before, grok_before, Reached, in_slot, expr_ended, from_next, from_table, pattern_next, pattern_read, rename_next, rename_before, rename_as, rename_after, key_directed, key_nulls, key_whole, limit_wants, expand_wants, stats_wants, dissect_pattern, dissect_separator, dissect_assign, enrich_wants, enrich_policy, enrich_on, enrich_column, enrich_next, enrich_name, enrich_assign, enrich_field, lookup_wants, join_wants, join_table, join_on, whole}
use Rattle.esql_commands.proofs.AfterPoints.{point_read}
use Rattle.esql_commands.proofs.Ends.{ends_says}
use Rattle.esql_commands.proofs.Sound.{reached}

pub nowhere : Span
nowhere = record { from = 0; to = 0 }

pub nameless : NameAt
nameless = record { name = []; span = nowhere }

no_text : TextAt
no_text = record { text = []; span = nowhere }

no_pattern : NamePattern
no_pattern = record { text = []; wild = false; span = nowhere }

pub completed_with : {begin : CommandWord} {v : List Lexeme} {m : ℕ} (w : List Lexeme) → Completes begin (v ++ w) m → Completes begin v m
completed_with {v = v} w c = record { rest = w ++ c.rest; says = c.says; whole = says_as (append_assoc v w c.rest) refl c.whole }

pub completed_deep : {begin : CommandWord} {v : List Lexeme} {m n : ℕ} → m ≡ n → Completes begin v m → Completes begin v n
completed_deep {begin} {v} e c = subst (λ (m : ℕ). Completes begin v m) e c

-- the command may end
ends_now : {begin : CommandWord} {here : Point} {v : List Lexeme} {d : ℕ} (says : CommandEnd) → Reached begin (At here) v d → finished_command here ≡ Some says → Completes begin v d
ends_now {v = v} says i e = record { rest = []; says = says; whole = says_as (sym (append-nil v)) refl (ends_says i e) }

-- it may end after one lexeme more
ends_after : {begin : CommandWord} {here next : Point} {v : List Lexeme} {d : ℕ} (x : Lexeme) (says : CommandEnd) → Reached begin (At here) v d → continue_command here x ≡ Some (To (At next)) → finished_command next ≡ Some says → Completes begin v d
ends_after x says i e f = completed_with (x ∷ []) (ends_now says (point_read x i e) f)

-- an expression may end
expr_completes : {begin : CommandWord} {slot : Slot} {u w : List Lexeme} {p : Part} {d : ℕ} → Before begin slot u d → Phrase (line_in slot) w p → Completes begin (u ++ w) (max d p.depth)
expr_completes (field_before o i f) q = ends_now _ (expr_ended (field_before o i f) q) refl
expr_completes (aggregate_before i f) q = ends_now _ (expr_ended (aggregate_before i f) q) refl
expr_completes (condition_before where_ i f c) q = ends_now _ (expr_ended (condition_before where_ i f c) q) refl
expr_completes filter_before q = ends_now _ (expr_ended filter_before q) refl
expr_completes (key_before i) q = ends_now _ (expr_ended (key_before i) q) refl
expr_completes dissect_before q = ends_after (Text no_text) _ (expr_ended dissect_before q) refl refl
expr_completes grok_before q = ends_after (Text no_text) _ (expr_ended grok_before q) refl refl

join_word : is_join (codes "JOIN") ≡ true
unfolding is_join
join_word = refl

join_name : NameAt
unfolding nowhere
join_name = record { name = codes "JOIN"; span = nowhere }

joins : moved (have_lookup (Plain join_name)) ≡ Some (To (At (point.Join join.Join)))
unfolding join_name
joins = ap (λ is. moved (have_join_word is)) join_word

renames_after : {v : List Lexeme} {pairs : List RenamePair} {before : NameAt} {d : ℕ} → Reached begins.Rename (At (point.Rename (rename.Before pairs before))) v d → Completes begins.Rename v d
renames_after i = completed_with (Word word.As nowhere ∷ []) (ends_after (Plain nameless) _ (point_read (Word word.As nowhere) i refl) refl refl)

separates_after : {v : List Lexeme} {input : Expr} {pattern : TextAt} {d : ℕ} → Reached begins.Dissect (At (point.Dissect (dissect.Separator input pattern))) v d → Completes begins.Dissect v d
separates_after i = completed_with (Mark sign.Assign nowhere ∷ []) (ends_after (Text no_text) _ (point_read (Mark sign.Assign nowhere) i refl) refl refl)

joins_on : {v : List Lexeme} {table : NameAt} {d : ℕ} → Reached begins.Lookup (At (point.Join (join.Table table))) v d → Completes begins.Lookup v d
joins_on i = completed_with (Word word.On nowhere ∷ []) (ends_after (Plain nameless) _ (point_read (Word word.On nowhere) i refl) refl refl)

joins_table : {v : List Lexeme} {d : ℕ} → Reached begins.Lookup (At (point.Join join.Join)) v d → Completes begins.Lookup v d
joins_table i = completed_with (Source nameless ∷ []) (joins_on (point_read (Source nameless) i refl))

pub line_low : (slot : Slot) → line_in slot ≤ 8
line_low slot.Dissect = omega arith
line_low slot.Grok = omega arith
line_low _ = omega arith

-- a slot takes a number
slot_completes : {begin : CommandWord} {slot : Slot} {u : List Lexeme} {d : ℕ} → Before begin slot u d → Completes begin u (max d 1)
slot_completes {slot = slot} b = completed_with (Number (pos 0) nowhere ∷ []) (expr_completes b (lift (line_low slot) (number_line (pos 0) nowhere)))

-- it says no deeper expression
at_completes : {begin : CommandWord} {here : Point} {v : List Lexeme} {d : ℕ} → Reached begin (At here) v d → Completes begin v (max d (need_at here))
at_completes (expr_ended b q) = completed_deep (omega arith) (expr_completes b q)
at_completes (from_next i) = completed_deep (omega arith) (ends_after (Source nameless) _ (from_next i) refl refl)
at_completes (from_table l) = completed_deep (omega arith) (ends_now _ (from_table l) refl)
at_completes (pattern_next k i) = completed_deep (omega arith) (ends_after (Pattern no_pattern) _ (pattern_next k i) refl refl)
at_completes (pattern_read k l) = completed_deep (omega arith) (ends_now _ (pattern_read k l) refl)
at_completes (rename_next i) = completed_deep (omega arith) (completed_with (Plain nameless ∷ []) (renames_after (point_read (Plain nameless) (rename_next i) refl)))
at_completes (rename_before i n) = completed_deep (omega arith) (renames_after (rename_before i n))
at_completes (rename_as as_ i n) = completed_deep (omega arith) (ends_after (Plain nameless) _ (rename_as as_ i n) refl refl)
at_completes (rename_after l) = completed_deep (omega arith) (ends_now _ (rename_after l) refl)
at_completes (key_directed i q c) = completed_deep (omega arith) (ends_now _ (key_directed i q c) refl)
at_completes (key_nulls nulls i q c) = completed_deep (omega arith) (ends_after (Word word.First nowhere) _ (key_nulls nulls i q c) refl refl)
at_completes (key_whole l) = completed_deep (omega arith) (ends_now _ (key_whole l) refl)
at_completes limit_wants = completed_deep (omega arith) (ends_after (Number (pos 0) nowhere) _ limit_wants refl refl)
at_completes expand_wants = completed_deep (omega arith) (ends_after (Plain nameless) _ expand_wants refl refl)
at_completes stats_wants = completed_deep (omega arith) (slot_completes (aggregate_before none_yet no_name))
at_completes (dissect_pattern pattern q) = completed_deep (omega arith) (ends_now _ (dissect_pattern pattern q) refl)
at_completes (dissect_separator pattern name q s) = completed_deep (omega arith) (separates_after (dissect_separator pattern name q s))
at_completes (dissect_assign pattern name assign q s) = completed_deep (omega arith) (ends_after (Text no_text) _ (dissect_assign pattern name assign q s) refl refl)
at_completes enrich_wants = completed_deep (omega arith) (ends_after (Source nameless) _ enrich_wants refl refl)
at_completes (enrich_policy policy) = completed_deep (omega arith) (ends_now _ (enrich_policy policy) refl)
at_completes (enrich_on policy at) = completed_deep (omega arith) (ends_after (Plain nameless) _ (enrich_on policy at) refl refl)
at_completes (enrich_column policy at n) = completed_deep (omega arith) (ends_now _ (enrich_column policy at n) refl)
at_completes (enrich_next policy with_ o i) = completed_deep (omega arith) (ends_after (Plain nameless) _ (enrich_next policy with_ o i) refl refl)
at_completes (enrich_name policy with_ o i n) = completed_deep (omega arith) (ends_now _ (enrich_name policy with_ o i n) refl)
at_completes (enrich_assign policy with_ assign o i n) = completed_deep (omega arith) (ends_after (Plain nameless) _ (enrich_assign policy with_ assign o i n) refl refl)
at_completes (enrich_field policy with_ o l) = completed_deep (omega arith) (ends_now _ (enrich_field policy with_ o l) refl)
at_completes lookup_wants = completed_deep (omega arith) (completed_with (Plain join_name ∷ []) (joins_table (point_read (Plain join_name) lookup_wants joins)))
at_completes (join_wants join_ j) = completed_deep (omega arith) (joins_table (join_wants join_ j))
at_completes (join_table join_ table j) = completed_deep (omega arith) (joins_on (join_table join_ table j))
at_completes (join_on join_ table on j) = completed_deep (omega arith) (ends_after (Plain nameless) _ (join_on join_ table on j) refl refl)
at_completes (whole s) = completed_deep (omega arith) (ends_now _ (whole s) refl)

place_completes : {begin : CommandWord} (place : Place) {v : List Lexeme} {d : ℕ} → Reached begin place v d → Completes begin v (max d (need_of place))
place_completes (At here) r = at_completes r
place_completes (Expression slot) (in_slot b) = slot_completes b

-- wherever lexemes lead, some lexemes more say a whole command
pub completes : (begin : CommandWord) (w : List Lexeme) (d : ℕ) (place : Place) → Leads (place_after begin) w d place → Completes begin w (max d (need_of place))
completes begin w d place l = place_completes place (reached l)
