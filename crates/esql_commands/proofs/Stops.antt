-- No command continues with `|` or with the end; and where a lexeme begins an expression.
use Rattle.std.proofs.Common.{◌≡◌, [], Option, Some, None, refl}
use Rattle.esql_phrases.specs.declared.lexeme.Lexeme.TheVariants.{End}
use Rattle.esql_commands.specs.declared.place.Move.TheVariants.{Begins}
use Rattle.esql_commands.specs.declared.dissect.DissectPoint.{DissectPoint}
use Rattle.esql_commands.specs.declared.enrich.EnrichPoint.{EnrichPoint}
use Rattle.esql_commands.specs.declared.from.FromPoint.{FromPoint}
use Rattle.esql_commands.specs.declared.join.JoinPoint.{JoinPoint}
use Rattle.esql_commands.specs.declared.pattern.PatternPoint.{PatternPoint}
use Rattle.esql_commands.specs.declared.rename.RenamePoint.{RenamePoint}
use Rattle.esql_commands.specs.declared.sort.SortPoint.{SortPoint}
use Rattle.esql_commands.specs.Dissect.{continue_dissect}
use Rattle.esql_commands.specs.Enrich.{continue_enrich}
use Rattle.esql_commands.specs.From.{continue_from}
use Rattle.esql_commands.specs.Join.{continue_join}
use Rattle.esql_commands.specs.Patterns.{continue_pattern}
use Rattle.esql_commands.specs.Rename.{continue_rename}
use Rattle.esql_commands.specs.Sort.{continue_sort}
use Rattle.esql_types.specs.declared.places.Span.{Span}
use Rattle.esql_lex.specs.declared.token.Reserved.TheVariants as word
use Rattle.esql_lex.specs.declared.token.Sign.TheVariants as sign
use Rattle.esql_phrases.specs.declared.lexeme.Lexeme.{Lexeme}
use Rattle.esql_phrases.specs.declared.part.Part.{Part}
use Rattle.esql_phrases.specs.declared.lexeme.Lexeme.TheVariants.{Word, Sign as Mark}
use Rattle.esql_commands.specs.declared.dissect.DissectPoint.TheVariants as dissect
use Rattle.esql_commands.specs.declared.enrich.EnrichPoint.TheVariants as enrich
use Rattle.esql_commands.specs.declared.from.FromPoint.TheVariants as from
use Rattle.esql_commands.specs.declared.join.JoinPoint.TheVariants as join
use Rattle.esql_commands.specs.declared.pattern.PatternPoint.TheVariants as pattern
use Rattle.esql_commands.specs.declared.pattern.PatternUse.{PatternUse}
use Rattle.esql_commands.specs.declared.place.Move.TheVariants.{To}
use Rattle.esql_commands.specs.declared.place.Place.{Place}
use Rattle.esql_commands.specs.declared.place.Point.{Point}
use Rattle.esql_commands.specs.declared.place.Point.TheVariants as point
use Rattle.esql_commands.specs.declared.place.Slot.{Slot}
use Rattle.esql_commands.specs.declared.place.Slot.TheVariants as slot
use Rattle.esql_commands.specs.declared.rename.RenamePoint.TheVariants as rename
use Rattle.esql_commands.specs.declared.sort.SortPoint.TheVariants as sort
use Rattle.esql_commands.specs.Points.{moved, continue_command}
use Rattle.esql_commands.specs.Slots.{continue_slot}
use Rattle.esql_commands.specs.Stats.{have_stats}

-- what ends a command
pub data Ender : Lexeme → Type 0 where
  bar_ends : (at : Span) → Ender (Mark sign.Bar at)
  end_ends : (at : Span) → Ender (End at)

slot_stops : {x : Lexeme} → Ender x → (slot : Slot) (part : Part) → continue_slot slot part x ≡ None
slot_stops (bar_ends at) (slot.Field of fields name) part = refl
slot_stops (bar_ends at) (slot.Aggregate fields name) part = refl
slot_stops (bar_ends at) (slot.Condition fields field) part = refl
slot_stops (bar_ends at) slot.Filter part = refl
slot_stops (bar_ends at) (slot.Key keys) part = refl
slot_stops (bar_ends at) slot.Dissect part = refl
slot_stops (bar_ends at) slot.Grok part = refl
slot_stops (end_ends at) (slot.Field of fields name) part = refl
slot_stops (end_ends at) (slot.Aggregate fields name) part = refl
slot_stops (end_ends at) (slot.Condition fields field) part = refl
slot_stops (end_ends at) slot.Filter part = refl
slot_stops (end_ends at) (slot.Key keys) part = refl
slot_stops (end_ends at) slot.Dissect part = refl
slot_stops (end_ends at) slot.Grok part = refl

from_stops : {x : Lexeme} → Ender x → (here : FromPoint) → continue_from here x ≡ None
from_stops (bar_ends at) (from.Want tables) = refl
from_stops (bar_ends at) (from.Have tables) = refl
from_stops (end_ends at) (from.Want tables) = refl
from_stops (end_ends at) (from.Have tables) = refl

pattern_stops : {x : Lexeme} → Ender x → (of : PatternUse) (here : PatternPoint) → continue_pattern of here x ≡ None
pattern_stops (bar_ends at) of (pattern.Want patterns) = refl
pattern_stops (bar_ends at) of (pattern.Have patterns) = refl
pattern_stops (end_ends at) of (pattern.Want patterns) = refl
pattern_stops (end_ends at) of (pattern.Have patterns) = refl

rename_stops : {x : Lexeme} → Ender x → (here : RenamePoint) → continue_rename here x ≡ None
rename_stops (bar_ends at) (rename.Want pairs) = refl
rename_stops (bar_ends at) (rename.Before pairs before) = refl
rename_stops (bar_ends at) (rename.As pairs before) = refl
rename_stops (bar_ends at) (rename.Have pairs) = refl
rename_stops (end_ends at) (rename.Want pairs) = refl
rename_stops (end_ends at) (rename.Before pairs before) = refl
rename_stops (end_ends at) (rename.As pairs before) = refl
rename_stops (end_ends at) (rename.Have pairs) = refl

sort_stops : {x : Lexeme} → Ender x → (here : SortPoint) → continue_sort here x ≡ None
sort_stops (bar_ends at) (sort.Directed keys expr descending) = refl
sort_stops (bar_ends at) (sort.Nulls keys expr descending) = refl
sort_stops (bar_ends at) (sort.Have keys) = refl
sort_stops (end_ends at) (sort.Directed keys expr descending) = refl
sort_stops (end_ends at) (sort.Nulls keys expr descending) = refl
sort_stops (end_ends at) (sort.Have keys) = refl

dissect_stops : {x : Lexeme} → Ender x → (here : DissectPoint) → continue_dissect here x ≡ None
dissect_stops (bar_ends at) (dissect.Pattern input pattern) = refl
dissect_stops (bar_ends at) (dissect.Separator input pattern) = refl
dissect_stops (bar_ends at) (dissect.Assign input pattern) = refl
dissect_stops (end_ends at) (dissect.Pattern input pattern) = refl
dissect_stops (end_ends at) (dissect.Separator input pattern) = refl
dissect_stops (end_ends at) (dissect.Assign input pattern) = refl

enrich_stops : {x : Lexeme} → Ender x → (here : EnrichPoint) → continue_enrich here x ≡ None
enrich_stops (bar_ends at) enrich.Want = refl
enrich_stops (bar_ends at) (enrich.Policy policy) = refl
enrich_stops (bar_ends at) (enrich.On policy) = refl
enrich_stops (bar_ends at) (enrich.Column policy on) = refl
enrich_stops (bar_ends at) (enrich.With policy on items) = refl
enrich_stops (bar_ends at) (enrich.Name policy on items name) = refl
enrich_stops (bar_ends at) (enrich.Assign policy on items name) = refl
enrich_stops (bar_ends at) (enrich.Have policy on items) = refl
enrich_stops (end_ends at) enrich.Want = refl
enrich_stops (end_ends at) (enrich.Policy policy) = refl
enrich_stops (end_ends at) (enrich.On policy) = refl
enrich_stops (end_ends at) (enrich.Column policy on) = refl
enrich_stops (end_ends at) (enrich.With policy on items) = refl
enrich_stops (end_ends at) (enrich.Name policy on items name) = refl
enrich_stops (end_ends at) (enrich.Assign policy on items name) = refl
enrich_stops (end_ends at) (enrich.Have policy on items) = refl

join_stops : {x : Lexeme} → Ender x → (here : JoinPoint) → continue_join here x ≡ None
join_stops (bar_ends at) join.Lookup = refl
join_stops (bar_ends at) join.Join = refl
join_stops (bar_ends at) (join.Table table) = refl
join_stops (bar_ends at) (join.On table) = refl
join_stops (end_ends at) join.Lookup = refl
join_stops (end_ends at) join.Join = refl
join_stops (end_ends at) (join.Table table) = refl
join_stops (end_ends at) (join.On table) = refl

not_moved : (o : Option Place) (next : Place) → o ≡ None → moved o ≡ Some (To next) → ⊥
not_moved None next e f = cc
not_moved (Some place) next e f = cc

-- no command continues with it
pub stops : {x : Lexeme} → Ender x → (here : Point) (next : Place) → continue_command here x ≡ Some (To next) → ⊥
stops ender (point.Ended slot part) next e = not_moved _ next (slot_stops ender slot part) e
stops ender (point.From here) next e = not_moved _ next (from_stops ender here) e
stops ender (point.Pattern of here) next e = not_moved _ next (pattern_stops ender of here) e
stops ender (point.Rename here) next e = not_moved _ next (rename_stops ender here) e
stops ender (point.Sort here) next e = not_moved _ next (sort_stops ender here) e
stops (bar_ends at) point.Limit next e = cc
stops (end_ends at) point.Limit next e = cc
stops (bar_ends at) point.Expand next e = cc
stops (end_ends at) point.Expand next e = cc
stops (bar_ends at) point.Stats next e = cc
stops (end_ends at) point.Stats next e = cc
stops ender (point.Dissect here) next e = not_moved _ next (dissect_stops ender here) e
stops ender (point.Enrich here) next e = not_moved _ next (enrich_stops ender here) e
stops ender (point.Join here) next e = not_moved _ next (join_stops ender here) e
stops ender (point.Whole kind) next e = cc

not_begun : (o : Option Place) (slot : Slot) (y : Lexeme) → moved o ≡ Some (Begins slot y) → ⊥
not_begun None slot y e = cc
not_begun (Some place) slot y e = cc

-- a lexeme begins an expression after STATS alone, in the first field, and is handed back
pub record BeginsField (here : Point) (taken : Slot) (x y : Lexeme) : Type 0 where
  pub stats : point.Stats ≡ here
  pub first : slot.Aggregate [] None ≡ taken
  pub same : x ≡ y

field_begins : (x : Lexeme) (slot : Slot) (y : Lexeme) → Some (have_stats x) ≡ Some (Begins slot y) → BeginsField point.Stats slot x y
field_begins (Word word.By at) slot y e = cc
field_begins x slot y e = record { stats = refl; first = cc; same = cc }

pub begins_so : (here : Point) (x : Lexeme) (slot : Slot) (y : Lexeme) → continue_command here x ≡ Some (Begins slot y) → BeginsField here slot x y
begins_so (point.Ended place part) x slot y e = absurd (not_begun _ slot y e)
begins_so (point.From here) x slot y e = absurd (not_begun _ slot y e)
begins_so (point.Pattern of here) x slot y e = absurd (not_begun _ slot y e)
begins_so (point.Rename here) x slot y e = absurd (not_begun _ slot y e)
begins_so (point.Sort here) x slot y e = absurd (not_begun _ slot y e)
begins_so point.Limit x slot y e = absurd (not_begun _ slot y e)
begins_so point.Expand x slot y e = absurd (not_begun _ slot y e)
begins_so point.Stats x slot y e = field_begins x slot y e
begins_so (point.Dissect here) x slot y e = absurd (not_begun _ slot y e)
begins_so (point.Enrich here) x slot y e = absurd (not_begun _ slot y e)
begins_so (point.Join here) x slot y e = absurd (not_begun _ slot y e)
begins_so (point.Whole kind) x slot y e = cc
