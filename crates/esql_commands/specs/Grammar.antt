-- The grammar of commands: which lexemes spell which command.
use Rattle.std.specs.Prelude.{◌≡◌, ℕ, max, pos, Bool, true, false, List, [], ◌∷◌, ◌++◌, Option, Some, None}
use Rattle.esql_types.specs.declared.names.NodeId.{NodeId}
use Rattle.esql_types.specs.declared.places.Span.{Span}
use Rattle.esql_lex.specs.declared.token.Reserved.TheVariants as word
use Rattle.esql_lex.specs.declared.token.Sign.TheVariants as sign
use Rattle.esql_ast.specs.declared.query.NameAt.{NameAt}
use Rattle.esql_ast.specs.declared.query.TextAt.{TextAt}
use Rattle.esql_ast.specs.declared.query.Field.{Field}
use Rattle.esql_ast.specs.declared.query.StatsField.{StatsField}
use Rattle.esql_ast.specs.declared.query.NamePattern.{NamePattern}
use Rattle.esql_ast.specs.declared.query.RenamePair.{RenamePair}
use Rattle.esql_ast.specs.declared.query.SortKey.{SortKey}
use Rattle.esql_ast.specs.declared.query.EnrichItem.{EnrichItem}
use Rattle.esql_ast.specs.declared.query.CommandKind.TheVariants as command
use Rattle.esql_phrases.specs.declared.lexeme.Lexeme.{Lexeme}
use Rattle.esql_phrases.specs.declared.lexeme.Lexeme.TheVariants.{Plain, Quoted, Pattern, Source, Text, Number, Word, Sign as Mark}
use Rattle.esql_phrases.specs.declared.part.Part.{Part}
use Rattle.esql_phrases.specs.Ends.{span_at}
use Rattle.esql_phrases.specs.Parts.{join, span_of}
use Rattle.esql_phrases.specs.Phrases.{IsName, Phrase}
use Rattle.esql_commands.specs.declared.place.CommandEnd.{CommandEnd}
use Rattle.esql_commands.specs.declared.place.CommandEnd.TheVariants as end
use Rattle.esql_commands.specs.declared.words.CommandWord.{CommandWord}
use Rattle.esql_commands.specs.declared.words.CommandWord.TheVariants as begins
use Rattle.esql_commands.specs.Words.{command_word, is_join, is_append_separator}

-- one item or more with a comma between each two, and the greatest depth of their expressions
pub data Listed {A : Type 0} (One : List Lexeme → A → ℕ → Type 0) : List Lexeme → List A → ℕ → Type 0 where
  first_item : {w : List Lexeme} {a : A} {d : ℕ} → One w a d → Listed One w (a ∷ []) d
  next_item : (comma : Span) {u w : List Lexeme} {items : List A} {a : A} {d e : ℕ} → Listed One u items d → One w a e
      → Listed One (u ++ Mark sign.Comma comma ∷ w) (items ++ a ∷ []) (max d e)

-- the number of a node that is not numbered yet
abbrev pub node_zero : NodeId
node_zero = record { 0 = 0 }

-- the span of a field is its expression's
abbrev pub field_of : Option NameAt → Part → Field
field_of name part = record { name = name; expr = part.expr; span = span_of part }

-- [ name "=" ]
pub data FieldName : List Lexeme → Option NameAt → Type 0 where
  no_name : FieldName [] None
  named : (assign : Span) {x : Lexeme} {name : NameAt} → IsName x name → FieldName (x ∷ Mark sign.Assign assign ∷ []) (Some name)

-- field = [ name "=" ] expr
pub data FieldLine : List Lexeme → Field → ℕ → Type 0 where
  field_line : {m w : List Lexeme} {name : Option NameAt} {p : Part} → FieldName m name → Phrase 0 w p → FieldLine (m ++ w) (field_of name p) p.depth

-- statfield = field [ WHERE expr ]
pub data StatsLine : List Lexeme → StatsField → ℕ → Type 0 where
  open_line : {w : List Lexeme} {f : Field} {d : ℕ} → FieldLine w f d → StatsLine w (record { field = f; condition = None }) d
  where_line : (where_ : NameAt) {u w : List Lexeme} {f : Field} {d : ℕ} {p : Part} → FieldLine u f d → command_word where_.name ≡ Some begins.Where → Phrase 0 w p
      → StatsLine (u ++ Plain where_ ∷ w) (record { field = f; condition = Some (record { node = node_zero; expr = p.expr }) }) (max d p.depth)

-- [ ASC | DESC ]
pub data Direction : List Lexeme → Bool → Type 0 where
  no_direction : Direction [] false
  ascending : (at : Span) → Direction (Word word.Asc at ∷ []) false
  descending : (at : Span) → Direction (Word word.Desc at ∷ []) true

-- [ NULLS ( FIRST | LAST ) ]: nulls stand first where the direction descends, unless it is written
pub data NullOrder : List Lexeme → Bool → Bool → Type 0 where
  no_order : {descending : Bool} → NullOrder [] descending descending
  nulls_first : (nulls first : Span) {descending : Bool} → NullOrder (Word word.Nulls nulls ∷ Word word.First first ∷ []) descending true
  nulls_last : (nulls last : Span) {descending : Bool} → NullOrder (Word word.Nulls nulls ∷ Word word.Last last ∷ []) descending false

-- key = expr [ ASC | DESC ] [ NULLS ( FIRST | LAST ) ]
pub data KeyLine : List Lexeme → SortKey → ℕ → Type 0 where
  key_line : {w m k : List Lexeme} {p : Part} {descending first : Bool} → Phrase 0 w p → Direction m descending → NullOrder k descending first
      → KeyLine (w ++ (m ++ k)) (record { expr = p.expr; descending = descending; nulls_first = first }) p.depth

pub data TableLine : List Lexeme → NameAt → ℕ → Type 0 where
  table_line : (name : NameAt) → TableLine (Source name ∷ []) name 0

-- pattern = Pattern | QuotedName
pub data PatternLine : List Lexeme → NamePattern → ℕ → Type 0 where
  pattern_line : (pattern : NamePattern) → PatternLine (Pattern pattern ∷ []) pattern 0
  full_name_line : (name : NameAt) → PatternLine (Quoted name ∷ []) (record { text = name.name; wild = false; span = name.span }) 0

-- name AS name
pub data PairLine : List Lexeme → RenamePair → ℕ → Type 0 where
  pair_line : (as_ : Span) {x y : Lexeme} {before after : NameAt} → IsName x before → IsName y after → PairLine (x ∷ Word word.As as_ ∷ y ∷ []) (record { before = before; after = after }) 0

-- item = [ name "=" ] name
pub data ItemLine : List Lexeme → EnrichItem → ℕ → Type 0 where
  item_line : {m : List Lexeme} {x : Lexeme} {name : Option NameAt} {field : NameAt} → FieldName m name → IsName x field → ItemLine (m ++ x ∷ []) (record { name = name; field = field }) 0

-- [ ON name ]
pub data OnName : List Lexeme → Option NameAt → Type 0 where
  no_on : OnName [] None
  on_name : (on : Span) {x : Lexeme} {name : NameAt} → IsName x name → OnName (Word word.On on ∷ x ∷ []) (Some name)

-- [ WITH item { "," item } ]
pub data WithItems : List Lexeme → Option (List EnrichItem) → Type 0 where
  no_items : WithItems [] None
  with_items : (with_ : Span) {w : List Lexeme} {items : List EnrichItem} {d : ℕ} → Listed ItemLine w items d → WithItems (Word word.With with_ ∷ w) (Some items)

-- [ BY fields ]
pub data ByFields : List Lexeme → List Field → ℕ → Type 0 where
  no_groups : ByFields [] [] 0
  by_fields : (by_ : Span) {w : List Lexeme} {fields : List Field} {d : ℕ} → Listed FieldLine w fields d → ByFields (Word word.By by_ ∷ w) fields d

-- [ APPEND_SEPARATOR "=" Text ]: the separator is empty unless it is written
pub data Separator : List Lexeme → List ℕ → Type 0 where
  no_separator : Separator [] []
  separator : (name : NameAt) (assign : Span) (text : TextAt) → is_append_separator name.name ≡ true → Separator (Plain name ∷ Mark sign.Assign assign ∷ Text text ∷ []) text.text

-- source = FROM Source { "," Source } | ROW fields
-- command = WHERE expr | EVAL fields | KEEP pattern { "," pattern } | DROP pattern { "," pattern }
--   | RENAME name AS name { "," name AS name } | SORT key { "," key } | LIMIT Number | MV_EXPAND name
--   | STATS statfields [ BY fields ] | STATS BY fields | DISSECT primary Text [ APPEND_SEPARATOR "=" Text ] | GROK primary Text
--   | ENRICH Source [ ON name ] [ WITH item { "," item } ] | LOOKUP JOIN Source ON name
-- what follows the word of a command
pub data Says : CommandWord → List Lexeme → CommandEnd → ℕ → Type 0 where
  from_says : {w : List Lexeme} {tables : List NameAt} {d : ℕ} → Listed TableLine w tables d → Says begins.From w (end.From tables) d
  row_says : {w : List Lexeme} {fields : List Field} {d : ℕ} → Listed FieldLine w fields d → Says begins.Row w (end.Row fields) d
  where_says : {w : List Lexeme} {p : Part} → Phrase 0 w p → Says begins.Where w (end.Piped (command.Filter p.expr)) p.depth
  eval_says : {w : List Lexeme} {fields : List Field} {d : ℕ} → Listed FieldLine w fields d → Says begins.Eval w (end.Piped (command.Eval fields)) d
  keep_says : {w : List Lexeme} {patterns : List NamePattern} {d : ℕ} → Listed PatternLine w patterns d → Says begins.Keep w (end.Piped (command.Keep patterns)) d
  drop_says : {w : List Lexeme} {patterns : List NamePattern} {d : ℕ} → Listed PatternLine w patterns d → Says begins.Drop w (end.Piped (command.Drop patterns)) d
  rename_says : {w : List Lexeme} {pairs : List RenamePair} {d : ℕ} → Listed PairLine w pairs d → Says begins.Rename w (end.Piped (command.Rename pairs)) d
  sort_says : {w : List Lexeme} {keys : List SortKey} {d : ℕ} → Listed KeyLine w keys d → Says begins.Sort w (end.Piped (command.Sort keys)) d
  limit_says : (count : ℕ) (at : Span) → Says begins.Limit (Number (pos count) at ∷ []) (end.Piped (command.Limit count)) 0
  expand_says : {x : Lexeme} {column : NameAt} → IsName x column → Says begins.MvExpand (x ∷ []) (end.Piped (command.Expand column)) 0
  stats_says : {w v : List Lexeme} {fields : List StatsField} {groups : List Field} {d e : ℕ} → Listed StatsLine w fields d → ByFields v groups e → Says begins.Stats (w ++ v) (end.Piped (command.Stats fields groups)) (max d e)
  stats_by_says : (by_ : Span) {w : List Lexeme} {groups : List Field} {d : ℕ} → Listed FieldLine w groups d → Says begins.Stats (Word word.By by_ ∷ w) (end.Piped (command.Stats [] groups)) d
  dissect_says : {w v : List Lexeme} {p : Part} {separator : List ℕ} (pattern : TextAt) → Phrase 8 w p → Separator v separator → Says begins.Dissect (w ++ Text pattern ∷ v) (end.Piped (command.Dissect p.expr pattern separator)) p.depth
  grok_says : {w : List Lexeme} {p : Part} (pattern : TextAt) → Phrase 8 w p → Says begins.Grok (w ++ Text pattern ∷ []) (end.Piped (command.Grok p.expr pattern)) p.depth
  enrich_says : (policy : NameAt) {u w : List Lexeme} {on : Option NameAt} {items : Option (List EnrichItem)} → OnName u on → WithItems w items → Says begins.Enrich (Source policy ∷ (u ++ w)) (end.Piped (command.Enrich policy on items)) 0
  join_says : (join_ table : NameAt) (on : Span) {x : Lexeme} {name : NameAt} → is_join join_.name ≡ true → IsName x name → Says begins.Lookup (Plain join_ ∷ Source table ∷ Word word.On on ∷ x ∷ []) (end.Piped (command.Join table name)) 0

-- the span of the last lexeme
abbrev pub last_span : Span → List Lexeme → Span
last_span last [] = last
last_span last (x ∷ w) = last_span (span_at x) w

-- a command's span is from its word to its last lexeme
pub data CommandLine : List Lexeme → CommandEnd → Span → ℕ → Type 0 where
  command_line : (name : NameAt) {begin : CommandWord} {w : List Lexeme} {says : CommandEnd} {d : ℕ} → command_word name.name ≡ Some begin → Says begin w says d
      → CommandLine (Plain name ∷ w) says (join name.span (last_span name.span w)) d
