-- What lexemes lead to was read of a command, and where it ends, they say what it says.
use Rattle.std.proofs.Common.{ℕ, ◌+◌, max, List, [], ◌∷◌, ◌++◌, refl, sym, append_assoc, append-nil, arith}
use Rattle.esql_phrases.specs.declared.lexeme.Lexeme.{Lexeme}
use Rattle.esql_commands.specs.declared.place.CommandEnd.{CommandEnd}
use Rattle.esql_commands.specs.declared.place.Place.{Place}
use Rattle.esql_commands.specs.declared.words.CommandWord.{CommandWord}
use Rattle.esql_commands.specs.declared.words.CommandWord.TheVariants as begins
use Rattle.esql_commands.specs.Grammar.{no_name, Says}
use Rattle.esql_commands.specs.Begins.{place_after}
use Rattle.esql_commands.specs.Leads.{Leads, stays, continues, reads, begins_field, Finishes}
use Rattle.esql_commands.proofs.Lists.{reached_as}
use Rattle.esql_commands.proofs.Reached.{none_yet, row_opens, eval_opens, field_before, aggregate_before, filter_before, key_before, dissect_before, grok_before, keeps, drops, Reached, in_slot, expr_ended, from_next, pattern_next, rename_next, limit_wants, expand_wants, stats_wants, enrich_wants, lookup_wants}
use Rattle.esql_commands.proofs.AfterPoints.{point_read}
use Rattle.esql_commands.proofs.Ends.{ends_says}

first_reached : (begin : CommandWord) → Reached begin (place_after begin) [] 0
first_reached begins.From = from_next none_yet
first_reached begins.Row = reached_as refl (omega arith) (in_slot (field_before row_opens none_yet no_name))
first_reached begins.Where = in_slot filter_before
first_reached begins.Eval = reached_as refl (omega arith) (in_slot (field_before eval_opens none_yet no_name))
first_reached begins.Keep = pattern_next keeps none_yet
first_reached begins.Drop = pattern_next drops none_yet
first_reached begins.Rename = rename_next none_yet
first_reached begins.Sort = in_slot (key_before none_yet)
first_reached begins.Limit = limit_wants
first_reached begins.MvExpand = expand_wants
first_reached begins.Stats = stats_wants
first_reached begins.Dissect = in_slot dissect_before
first_reached begins.Grok = in_slot grok_before
first_reached begins.Enrich = enrich_wants
first_reached begins.Lookup = lookup_wants

reached_on : {begin : CommandWord} {from to_ : Place} {v w : List Lexeme} {d e : ℕ} → Reached begin from v d → Leads from w e to_ → Reached begin to_ (v ++ w) (max d e)
reached_on {v = v} r stays = reached_as (sym (append-nil v)) (omega arith) r
reached_on {v = v} r (continues x {w = w} g l) = reached_as (append_assoc v (x ∷ []) w) refl (reached_on (point_read x r g) l)
reached_on {v = v} (in_slot b) (reads {u = u} {w = w} q l) = reached_as (append_assoc v u w) (omega arith) (reached_on (expr_ended b q) l)
reached_on stats_wants (begins_field l) = reached_on (reached_as refl (omega arith) (in_slot (aggregate_before none_yet no_name))) l

pub reached : {begin : CommandWord} {place : Place} {w : List Lexeme} {d : ℕ} → Leads (place_after begin) w d place → Reached begin place w d
reached {begin} l = reached_as refl (omega arith) (reached_on (first_reached begin) l)

-- where a command ends, the lexemes that lead there say what it says
pub finished_says : (begin : CommandWord) (w : List Lexeme) (says : CommandEnd) (d : ℕ) → Finishes begin w says d → Says begin w says d
finished_says begin w says d f = ends_says (reached f.leads) f.ends
