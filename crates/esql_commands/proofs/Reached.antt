-- The lexemes that lead from the word of a command to each place in it.
use Rattle.std.proofs.Common.{◌≡◌, ℕ, max, Bool, true, false, List, [], ◌∷◌, ◌++◌, Option, Some, None}
use Rattle.esql_types.specs.declared.places.Span.{Span}
use Rattle.esql_lex.specs.declared.token.Reserved.TheVariants as word
use Rattle.esql_lex.specs.declared.token.Sign.TheVariants as sign
use Rattle.esql_ast.specs.declared.query.NameAt.{NameAt}
use Rattle.esql_ast.specs.declared.query.TextAt.{TextAt}
use Rattle.esql_ast.specs.declared.query.Field.{Field}
use Rattle.esql_ast.specs.declared.query.StatsField.{StatsField}
use Rattle.esql_ast.specs.declared.query.NamePattern.{NamePattern}
use Rattle.esql_ast.specs.declared.query.RenamePair.{RenamePair}
use Rattle.esql_ast.specs.declared.query.SortKey.{SortKey}
use Rattle.esql_ast.specs.declared.query.EnrichItem.{EnrichItem}
use Rattle.esql_ast.specs.declared.query.CommandKind.{CommandKind}
use Rattle.esql_phrases.specs.declared.lexeme.Lexeme.{Lexeme}
use Rattle.esql_phrases.specs.declared.lexeme.Lexeme.TheVariants.{Plain, Source, Text, Word, Sign as Mark}
use Rattle.esql_phrases.specs.declared.part.Part.{Part}
use Rattle.esql_phrases.specs.Phrases.{IsName, Phrase}
use Rattle.esql_commands.specs.declared.place.CommandEnd.TheVariants as end
use Rattle.esql_commands.specs.declared.field.Clause.{Clause}
use Rattle.esql_commands.specs.declared.field.Clause.TheVariants as clause
use Rattle.esql_commands.specs.declared.enrich.EnrichPoint.TheVariants as enrich
use Rattle.esql_commands.specs.declared.dissect.DissectPoint.TheVariants as dissect
use Rattle.esql_commands.specs.declared.from.FromPoint.TheVariants as from
use Rattle.esql_commands.specs.declared.join.JoinPoint.TheVariants as join
use Rattle.esql_commands.specs.declared.pattern.PatternPoint.TheVariants as pattern
use Rattle.esql_commands.specs.declared.rename.RenamePoint.TheVariants as rename
use Rattle.esql_commands.specs.declared.sort.SortPoint.TheVariants as sort
use Rattle.esql_commands.specs.declared.pattern.PatternUse.{PatternUse}
use Rattle.esql_commands.specs.declared.pattern.PatternUse.TheVariants as pattern_use
use Rattle.esql_commands.specs.declared.words.CommandWord.{CommandWord}
use Rattle.esql_commands.specs.declared.words.CommandWord.TheVariants as begins
use Rattle.esql_commands.specs.declared.place.Place.{Place}
use Rattle.esql_commands.specs.declared.place.Place.TheVariants.{At, Expression}
use Rattle.esql_commands.specs.declared.place.Point.TheVariants as point
use Rattle.esql_commands.specs.declared.place.Slot.{Slot}
use Rattle.esql_commands.specs.declared.place.Slot.TheVariants as slot
use Rattle.esql_commands.specs.Grammar.{Listed, FieldName, FieldLine, StatsLine, Direction, KeyLine, TableLine, PatternLine, PairLine, ItemLine, OnName, Says}
use Rattle.esql_commands.specs.Slots.{line_in}
use Rattle.esql_commands.specs.Words.{command_word, is_join, is_append_separator}

-- the items so far, each with its comma
pub data SoFar {A : Type 0} (One : List Lexeme → A → ℕ → Type 0) : List Lexeme → List A → ℕ → Type 0 where
  none_yet : SoFar One [] [] 0
  so_far : (comma : Span) {w : List Lexeme} {items : List A} {d : ℕ} → Listed One w items d → SoFar One (w ++ Mark sign.Comma comma ∷ []) items d

-- what stands before the fields of a clause
pub data Opens : Clause → CommandWord → List Lexeme → ℕ → Type 0 where
  row_opens : Opens clause.Row begins.Row [] 0
  eval_opens : Opens clause.Eval begins.Eval [] 0
  groups_open : (by_ : Span) {w : List Lexeme} {fields : List StatsField} {d : ℕ} → Listed StatsLine w fields d → Opens (clause.Groups fields) begins.Stats (w ++ Word word.By by_ ∷ []) d
  only_groups : (by_ : Span) → Opens (clause.Groups []) begins.Stats (Word word.By by_ ∷ []) 0

-- a name before an expression was read as a column, of depth 1
abbrev pub name_depth : Option NameAt → ℕ
name_depth None = 0
name_depth (Some name) = 1

-- what stands in a command before an expression, and the greatest depth of what was read as an expression
pub data Before : CommandWord → Slot → List Lexeme → ℕ → Type 0 where
  field_before : {of : Clause} {begin : CommandWord} {u m n : List Lexeme} {fields : List Field} {name : Option NameAt} {d e : ℕ}
      → Opens of begin u d → SoFar FieldLine m fields e → FieldName n name → Before begin (slot.Field of fields name) (u ++ (m ++ n)) (max (max d e) (name_depth name))
  aggregate_before : {m n : List Lexeme} {fields : List StatsField} {name : Option NameAt} {d : ℕ}
      → SoFar StatsLine m fields d → FieldName n name → Before begins.Stats (slot.Aggregate fields name) (m ++ n) (max d (name_depth name))
  condition_before : (where_ : NameAt) {m w : List Lexeme} {fields : List StatsField} {field : Field} {d e : ℕ}
      → SoFar StatsLine m fields d → FieldLine w field e → command_word where_.name ≡ Some begins.Where → Before begins.Stats (slot.Condition fields field) (m ++ (w ++ Plain where_ ∷ [])) (max d e)
  filter_before : Before begins.Where slot.Filter [] 0
  key_before : {m : List Lexeme} {keys : List SortKey} {d : ℕ} → SoFar KeyLine m keys d → Before begins.Sort (slot.Key keys) m d
  dissect_before : Before begins.Dissect slot.Dissect [] 0
  grok_before : Before begins.Grok slot.Grok [] 0

pub data PatternWord : CommandWord → PatternUse → Type 0 where
  keeps : PatternWord begins.Keep pattern_use.Keep
  drops : PatternWord begins.Drop pattern_use.Drop

-- what was read of a command after its word, and the greatest depth of an expression that ended in it
pub data Reached : CommandWord → Place → List Lexeme → ℕ → Type 0 where
  in_slot : {begin : CommandWord} {slot : Slot} {u : List Lexeme} {d : ℕ} → Before begin slot u d → Reached begin (Expression slot) u d
  expr_ended : {begin : CommandWord} {slot : Slot} {p : Part} {u w : List Lexeme} {d : ℕ}
      → Before begin slot u d → Phrase (line_in slot) w p → Reached begin (At (point.Ended slot p)) (u ++ w) (max d p.depth)
  from_next : {m : List Lexeme} {tables : List NameAt} {d : ℕ} → SoFar TableLine m tables d → Reached begins.From (At (point.From (from.Want tables))) m d
  from_table : {w : List Lexeme} {tables : List NameAt} {d : ℕ} → Listed TableLine w tables d → Reached begins.From (At (point.From (from.Have tables))) w d
  pattern_next : {begin : CommandWord} {of : PatternUse} {m : List Lexeme} {patterns : List NamePattern} {d : ℕ}
      → PatternWord begin of → SoFar PatternLine m patterns d → Reached begin (At (point.Pattern of (pattern.Want patterns))) m d
  pattern_read : {begin : CommandWord} {of : PatternUse} {w : List Lexeme} {patterns : List NamePattern} {d : ℕ}
      → PatternWord begin of → Listed PatternLine w patterns d → Reached begin (At (point.Pattern of (pattern.Have patterns))) w d
  rename_next : {m : List Lexeme} {pairs : List RenamePair} {d : ℕ} → SoFar PairLine m pairs d → Reached begins.Rename (At (point.Rename (rename.Want pairs))) m d
  rename_before : {m : List Lexeme} {pairs : List RenamePair} {x : Lexeme} {before : NameAt} {d : ℕ}
      → SoFar PairLine m pairs d → IsName x before → Reached begins.Rename (At (point.Rename (rename.Before pairs before))) (m ++ x ∷ []) d
  rename_as : (as_ : Span) {m : List Lexeme} {pairs : List RenamePair} {x : Lexeme} {before : NameAt} {d : ℕ}
      → SoFar PairLine m pairs d → IsName x before → Reached begins.Rename (At (point.Rename (rename.As pairs before))) (m ++ x ∷ Word word.As as_ ∷ []) d
  rename_after : {w : List Lexeme} {pairs : List RenamePair} {d : ℕ} → Listed PairLine w pairs d → Reached begins.Rename (At (point.Rename (rename.Have pairs))) w d
  key_directed : {m w k : List Lexeme} {keys : List SortKey} {p : Part} {descending : Bool} {d : ℕ}
      → SoFar KeyLine m keys d → Phrase 0 w p → Direction k descending → Reached begins.Sort (At (point.Sort (sort.Directed keys p.expr descending))) (m ++ (w ++ k)) (max d p.depth)
  key_nulls : (nulls : Span) {m w k : List Lexeme} {keys : List SortKey} {p : Part} {descending : Bool} {d : ℕ}
      → SoFar KeyLine m keys d → Phrase 0 w p → Direction k descending → Reached begins.Sort (At (point.Sort (sort.Nulls keys p.expr descending))) (m ++ (w ++ (k ++ Word word.Nulls nulls ∷ []))) (max d p.depth)
  key_whole : {w : List Lexeme} {keys : List SortKey} {d : ℕ} → Listed KeyLine w keys d → Reached begins.Sort (At (point.Sort (sort.Have keys))) w d
  limit_wants : Reached begins.Limit (At point.Limit) [] 0
  expand_wants : Reached begins.MvExpand (At point.Expand) [] 0
  stats_wants : Reached begins.Stats (At point.Stats) [] 0
  dissect_pattern : (pattern : TextAt) {w : List Lexeme} {p : Part} → Phrase 8 w p → Reached begins.Dissect (At (point.Dissect (dissect.Pattern p.expr pattern))) (w ++ Text pattern ∷ []) p.depth
  dissect_separator : (pattern : TextAt) (name : NameAt) {w : List Lexeme} {p : Part}
      → Phrase 8 w p → is_append_separator name.name ≡ true → Reached begins.Dissect (At (point.Dissect (dissect.Separator p.expr pattern))) (w ++ Text pattern ∷ Plain name ∷ []) p.depth
  dissect_assign : (pattern : TextAt) (name : NameAt) (assign : Span) {w : List Lexeme} {p : Part}
      → Phrase 8 w p → is_append_separator name.name ≡ true → Reached begins.Dissect (At (point.Dissect (dissect.Assign p.expr pattern))) (w ++ Text pattern ∷ Plain name ∷ Mark sign.Assign assign ∷ []) p.depth
  enrich_wants : Reached begins.Enrich (At (point.Enrich enrich.Want)) [] 0
  enrich_policy : (policy : NameAt) → Reached begins.Enrich (At (point.Enrich (enrich.Policy policy))) (Source policy ∷ []) 0
  enrich_on : (policy : NameAt) (at : Span) → Reached begins.Enrich (At (point.Enrich (enrich.On policy))) (Source policy ∷ Word word.On at ∷ []) 0
  enrich_column : (policy : NameAt) (at : Span) {x : Lexeme} {on : NameAt} → IsName x on → Reached begins.Enrich (At (point.Enrich (enrich.Column policy on))) (Source policy ∷ Word word.On at ∷ x ∷ []) 0
  enrich_next : (policy : NameAt) (with_ : Span) {u m : List Lexeme} {on : Option NameAt} {items : List EnrichItem} {d : ℕ}
      → OnName u on → SoFar ItemLine m items d → Reached begins.Enrich (At (point.Enrich (enrich.With policy on items))) (Source policy ∷ (u ++ Word word.With with_ ∷ m)) 0
  enrich_name : (policy : NameAt) (with_ : Span) {u m : List Lexeme} {on : Option NameAt} {items : List EnrichItem} {x : Lexeme} {name : NameAt} {d : ℕ}
      → OnName u on → SoFar ItemLine m items d → IsName x name → Reached begins.Enrich (At (point.Enrich (enrich.Name policy on items name))) (Source policy ∷ (u ++ Word word.With with_ ∷ (m ++ x ∷ []))) 0
  enrich_assign : (policy : NameAt) (with_ assign : Span) {u m : List Lexeme} {on : Option NameAt} {items : List EnrichItem} {x : Lexeme} {name : NameAt} {d : ℕ}
      → OnName u on → SoFar ItemLine m items d → IsName x name
      → Reached begins.Enrich (At (point.Enrich (enrich.Assign policy on items name))) (Source policy ∷ (u ++ Word word.With with_ ∷ (m ++ x ∷ Mark sign.Assign assign ∷ []))) 0
  enrich_field : (policy : NameAt) (with_ : Span) {u w : List Lexeme} {on : Option NameAt} {items : List EnrichItem} {d : ℕ}
      → OnName u on → Listed ItemLine w items d → Reached begins.Enrich (At (point.Enrich (enrich.Have policy on items))) (Source policy ∷ (u ++ Word word.With with_ ∷ w)) 0
  lookup_wants : Reached begins.Lookup (At (point.Join join.Lookup)) [] 0
  join_wants : (join_ : NameAt) → is_join join_.name ≡ true → Reached begins.Lookup (At (point.Join join.Join)) (Plain join_ ∷ []) 0
  join_table : (join_ table : NameAt) → is_join join_.name ≡ true → Reached begins.Lookup (At (point.Join (join.Table table))) (Plain join_ ∷ Source table ∷ []) 0
  join_on : (join_ table : NameAt) (on : Span) → is_join join_.name ≡ true → Reached begins.Lookup (At (point.Join (join.On table))) (Plain join_ ∷ Source table ∷ Word word.On on ∷ []) 0
  whole : {begin : CommandWord} {w : List Lexeme} {kind : CommandKind} {d : ℕ} → Says begin w (end.Piped kind) d → Reached begin (At (point.Whole kind)) w d
