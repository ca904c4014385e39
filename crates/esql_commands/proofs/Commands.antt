-- Lexemes that say a whole command lead to where it ends.
use Rattle.std.proofs.Common.{ℕ, ◌+◌, max, List, [], ◌++◌, refl, sym, ap, append-nil, arith}
use Rattle.std.specs.Prelude.{pos}
use Rattle.esql_lex.specs.declared.token.Reserved.TheVariants as word
use Rattle.esql_lex.specs.declared.token.Sign.TheVariants as sign
use Rattle.esql_ast.specs.declared.expr.Expr.{Expr}
use Rattle.esql_ast.specs.declared.query.TextAt.{TextAt}
use Rattle.esql_ast.specs.declared.query.Field.{Field}
use Rattle.esql_ast.specs.declared.query.StatsField.{StatsField}
use Rattle.esql_ast.specs.declared.query.CommandKind.TheVariants as command
use Rattle.esql_phrases.specs.declared.lexeme.Lexeme.{Lexeme}
use Rattle.esql_phrases.specs.declared.lexeme.Lexeme.TheVariants.{Plain, Source, Text, Number, Word, Sign as Mark}
use Rattle.esql_commands.specs.declared.dissect.DissectPoint.TheVariants as dissect
use Rattle.esql_commands.specs.declared.field.Clause.TheVariants as clause
use Rattle.esql_commands.specs.declared.pattern.PatternUse.TheVariants as pattern_use
use Rattle.esql_commands.specs.declared.place.CommandEnd.{CommandEnd}
use Rattle.esql_commands.specs.declared.place.CommandEnd.TheVariants as end
use Rattle.esql_commands.specs.declared.place.Place.{Place}
use Rattle.esql_commands.specs.declared.place.Place.TheVariants.{At}
use Rattle.esql_commands.specs.declared.place.Point.TheVariants as point
use Rattle.esql_commands.specs.declared.place.Slot.TheVariants as slot
use Rattle.esql_commands.specs.declared.words.CommandWord.{CommandWord}
use Rattle.esql_commands.specs.Grammar.{Listed, StatsLine, ByFields, no_groups, by_fields, Separator, no_separator, separator, Says, from_says, row_says, where_says, eval_says, keep_says, drop_says, rename_says, sort_says, limit_says, expand_says, stats_says, stats_by_says, dissect_says, grok_says, enrich_says, join_says}
use Rattle.esql_commands.specs.Begins.{place_after}
use Rattle.esql_commands.specs.Dissect.{have_word as have_separator_word}
use Rattle.esql_commands.specs.Expand.{want_column}
use Rattle.esql_commands.specs.Join.{have_word as have_join_word, have_on as have_join_on}
use Rattle.esql_commands.specs.Leads.{Leads, stays, continues, begins_field, Finishes}
use Rattle.esql_commands.specs.Points.{moved}
use Rattle.esql_commands.proofs.Walks.{leads-append, leads_as, reads_whole}
use Rattle.esql_commands.proofs.Items.{Item, reads_fields, reads_stats, reads_keys}
use Rattle.esql_commands.proofs.Names.{named_in, reads_tables, reads_patterns, reads_pairs, Saying, reads_policy}

finishes_at : {begin : CommandWord} {w : List Lexeme} {says : CommandEnd} {d : ℕ} → Item w d (place_after begin) (Saying says) → Finishes begin w says d
finishes_at i = record { here = i.here; leads = i.leads; ends = i.holds }

-- an expression, and lexemes without one after it
past : {from mid to_ : Place} {u w : List Lexeme} {d : ℕ} → Leads from u d mid → Leads mid w 0 to_ → Leads from (u ++ w) d to_
past l k = leads_as refl (omega arith) (leads-append l k)

-- fields of STATS and its groups
reads_groups : {w v : List Lexeme} {fields : List StatsField} {groups : List Field} {d e : ℕ} → Listed StatsLine w fields d → ByFields v groups e
    → Item (w ++ v) (max d e) (At point.Stats) (Saying (end.Piped (command.Stats fields groups)))
reads_groups {w} list no_groups =
    let r = reads_stats list in
    record { here = r.here; leads = leads_as (sym (append-nil w)) (omega arith) (begins_field r.leads); holds = r.holds.rests.ends }
reads_groups {fields = fields} list (by_fields by_ groups) =
    let r = reads_stats list in
    let q = reads_fields (clause.Groups fields) groups in
    record { here = q.here; leads = leads-append (begins_field r.leads) (continues (Word word.By by_) (r.holds.groups by_) q.leads); holds = q.holds.ends }

-- what follows the pattern of DISSECT
reads_separator : (input : Expr) (pattern : TextAt) {v : List Lexeme} {between : List ℕ} → Separator v between
    → Item v 0 (At (point.Dissect (dissect.Pattern input pattern))) (Saying (end.Piped (command.Dissect input pattern between)))
reads_separator input pattern no_separator = record { here = point.Dissect (dissect.Pattern input pattern); leads = stays; holds = refl }
reads_separator input pattern (separator name assign text e) = record {
  here = point.Whole (command.Dissect input pattern text.text);
  leads = continues (Plain name) (ap (λ is. moved (have_separator_word input pattern is)) e) (continues (Mark sign.Assign assign) refl (continues (Text text) refl stays));
  holds = refl;
}

reads_command : {begin : CommandWord} {w : List Lexeme} {says : CommandEnd} {d : ℕ} → Says begin w says d → Item w d (place_after begin) (Saying says)
reads_command (from_says list) = let r = reads_tables list in record { here = r.here; leads = r.leads; holds = r.holds.ends }
reads_command (row_says list) = let r = reads_fields clause.Row list in record { here = r.here; leads = r.leads; holds = r.holds.ends }
reads_command (where_says {p = p} phrase) = record { here = point.Ended slot.Filter p; leads = reads_whole phrase; holds = refl }
reads_command (eval_says list) = let r = reads_fields clause.Eval list in record { here = r.here; leads = r.leads; holds = r.holds.ends }
reads_command (keep_says list) = let r = reads_patterns pattern_use.Keep list in record { here = r.here; leads = r.leads; holds = r.holds.ends }
reads_command (drop_says list) = let r = reads_patterns pattern_use.Drop list in record { here = r.here; leads = r.leads; holds = r.holds.ends }
reads_command (rename_says list) = let r = reads_pairs list in record { here = r.here; leads = r.leads; holds = r.holds.ends }
reads_command (sort_says list) = let r = reads_keys list in record { here = r.here; leads = r.leads; holds = r.holds.ends }
reads_command (limit_says count at) = record { here = point.Whole (command.Limit count); leads = continues (Number (pos count) at) refl stays; holds = refl }
reads_command (expand_says {x = x} {column = column} n) = record { here = point.Whole (command.Expand column); leads = continues x (ap (λ o. moved (want_column o)) (named_in n)) stays; holds = refl }
reads_command (stats_says list groups) = reads_groups list groups
reads_command (stats_by_says by_ list) =
    let r = reads_fields (clause.Groups []) list in
    record { here = r.here; leads = continues (Word word.By by_) refl r.leads; holds = r.holds.ends }
reads_command (dissect_says {p = p} pattern phrase v) =
    let r = reads_separator p.expr pattern v in
    record { here = r.here; leads = past (reads_whole phrase) (continues (Text pattern) refl r.leads); holds = r.holds }
reads_command (grok_says {p = p} pattern phrase) = record {
  here = point.Whole (command.Grok p.expr pattern);
  leads = past (reads_whole phrase) (continues (Text pattern) refl stays);
  holds = refl;
}
reads_command (enrich_says policy on items) =
    let r = reads_policy policy on items in
    record { here = r.here; leads = continues (Source policy) refl r.leads; holds = r.holds }
reads_command (join_says join_ table on {x = x} {name = name} e n) = record {
  here = point.Whole (command.Join table name);
  leads =
      continues (Plain join_) (ap (λ is. moved (have_join_word is)) e)
      (continues (Source table) refl
      (continues (Word word.On on) refl
      (continues x (ap (λ o. moved (have_join_on table o)) (named_in n)) stays)));
  holds = refl;
}

-- lexemes that say a whole command lead to where it ends, and it says the same there
pub finishes : (begin : CommandWord) (w : List Lexeme) (says : CommandEnd) (d : ℕ) → Says begin w says d → Finishes begin w says d
finishes begin w says d s = finishes_at (reads_command s)
