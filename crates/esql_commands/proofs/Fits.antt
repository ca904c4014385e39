-- The spans of a command are parts of the text that its lexemes stand in.
use Rattle.std.proofs.Common.{◌≡◌, ℕ, List, [], ◌∷◌, ◌++◌, Option, IfSome, All, refl, subst, append_assoc}
use Rattle.std.proofs.lemmas.List.Elements.{All-nil, All-cons, All-append}
use Rattle.esql_types.specs.declared.places.Span.{Span}
use Rattle.esql_types.specs.Spans.{SpanFits}
use Rattle.esql_lex.specs.declared.token.Reserved.TheVariants as word
use Rattle.esql_lex.specs.declared.token.Sign.TheVariants as sign
use Rattle.esql_ast.specs.declared.query.EnrichItem.{EnrichItem}
use Rattle.esql_ast.specs.declared.query.Field.{Field}
use Rattle.esql_ast.specs.declared.query.NameAt.{NameAt}
use Rattle.esql_ast.specs.declared.query.NamePattern.{NamePattern}
use Rattle.esql_ast.specs.declared.query.RenamePair.{RenamePair}
use Rattle.esql_ast.specs.declared.query.SortKey.{SortKey}
use Rattle.esql_ast.specs.declared.query.StatsField.{StatsField}
use Rattle.esql_ast.specs.Fits.{NameFits, PatternFits, FieldFits, FieldsFit, StatsFits, KeyFits, PairFits, ItemFits}
use Rattle.esql_phrases.specs.declared.lexeme.Lexeme.{Lexeme}
use Rattle.esql_phrases.specs.declared.lexeme.Lexeme.TheVariants.{Plain, Quoted, Pattern, Source, Text, Word, Sign as Mark}
use Rattle.esql_phrases.specs.declared.part.Part.{Part}
use Rattle.esql_phrases.specs.Ends.{span_at, last_to}
use Rattle.esql_phrases.specs.Parts.{join, span_of}
use Rattle.esql_phrases.specs.Phrases.{Phrase}
use Rattle.esql_phrases.specs.Stands.{Stands}
use Rattle.esql_phrases.proofs.Stands.{front, back, first_fits, run_fits, same_ends_fit}
use Rattle.esql_phrases.proofs.Fits.{name_fits, phrase_span_fits, joined_fits, phrase_fits}
use Rattle.esql_commands.specs.declared.place.CommandEnd.{CommandEnd}
use Rattle.esql_commands.specs.declared.words.CommandWord.{CommandWord}
use Rattle.esql_commands.specs.Grammar.{Listed, first_item, next_item, FieldName, no_name, named, FieldLine, field_line, StatsLine, open_line, where_line, KeyLine, key_line, TableLine, table_line, PatternLine, pattern_line, full_name_line, PairLine, pair_line, ItemLine, item_line, OnName, no_on, on_name, WithItems, no_items, with_items, ByFields, no_groups, by_fields, Says, from_says, row_says, where_says, eval_says, keep_says, drop_says, rename_says, sort_says, limit_says, expand_says, stats_says, stats_by_says, dissect_says, grok_says, enrich_says, join_says, last_span, CommandLine, command_line}
use Rattle.esql_commands.specs.Fits.{EndFits}

-- what each item has whose lexemes stand in the text, all items of a list have
all_listed : {A : Type 0} {One : List Lexeme → A → ℕ → Type 0} (text : List ℕ) (P : A → Type 0)
    → ((w : List Lexeme) (a : A) (d : ℕ) → One w a d → Stands text w → P a)
    → {w : List Lexeme} {items : List A} {d : ℕ} → Listed One w items d → Stands text w → All P items
all_listed text P each (first_item {w = w} {a = a} {d = d} one) s = All-cons P a [] (each w a d one s) (All-nil P)
all_listed text P each (next_item comma {u = u} {w = w} {items = items} {a = a} {e = e} those one) s =
    let last = each w a e one (back (Mark sign.Comma comma ∷ []) w (back u (Mark sign.Comma comma ∷ w) s)) in
    All-append P items (a ∷ []) (all_listed text P each those (front u (Mark sign.Comma comma ∷ w) s)) (All-cons P a [] last (All-nil P))

field_name_fits : {text : List ℕ} {w : List Lexeme} {name : Option NameAt} → FieldName w name → Stands text w → IfSome name (NameFits text)
field_name_fits no_name s = tt
field_name_fits (named assign {x = x} name) s = name_fits name (first_fits x (Mark sign.Assign assign ∷ []) s)

field_fits : (text : List ℕ) (w : List Lexeme) (f : Field) (d : ℕ) → FieldLine w f d → Stands text w → FieldFits text f
field_fits text _ _ _ (field_line {m = m} {w = w} name q) s =
    let after = back m w s in
    record { span = phrase_span_fits q after; name = field_name_fits name (front m w s); expr = phrase_fits q after }

fields_fit : {text : List ℕ} {w : List Lexeme} {fields : List Field} {d : ℕ} → Listed FieldLine w fields d → Stands text w → FieldsFit text fields
fields_fit {text} those s = all_listed text (FieldFits text) (field_fits text) those s

-- what stands from the start of a field's expression to the end of its condition
where_fits : {text : List ℕ} (where_ : NameAt) {u w : List Lexeme} {f : Field} {d : ℕ} {p : Part} → FieldLine u f d → Phrase 0 w p → Stands text (u ++ Plain where_ ∷ w)
    → SpanFits text (record { from = f.span.from; to = (span_of p).to })
where_fits {text} where_ {w = w} (field_line {m = m} {w = v} name one) other s =
    joined_fits (Plain where_ ∷ []) one other (back m (v ++ Plain where_ ∷ w) (subst (Stands text) (append_assoc m v (Plain where_ ∷ w)) s))

stats_fits : (text : List ℕ) (w : List Lexeme) (stats : StatsField) (d : ℕ) → StatsLine w stats d → Stands text w → StatsFits text stats
stats_fits text w _ d (open_line {f = f} line) s = record { field = field_fits text w f d line s; condition = tt }
stats_fits text _ _ _ (where_line where_ {u = u} {w = w} {f = f} {d = d} {p = p} line is q) s = record {
  field = field_fits text u f d line (front u (Plain where_ ∷ w) s);
  condition = record { expr = phrase_fits q (back (Plain where_ ∷ []) w (back u (Plain where_ ∷ w) s)); whole = where_fits where_ line q s };
}

key_fits : (text : List ℕ) (w : List Lexeme) (key : SortKey) (d : ℕ) → KeyLine w key d → Stands text w → KeyFits text key
key_fits text _ _ _ (key_line {w = w} {m = m} {k = k} q _ _) s = phrase_fits q (front w (m ++ k) s)

table_fits : (text : List ℕ) (w : List Lexeme) (table : NameAt) (d : ℕ) → TableLine w table d → Stands text w → NameFits text table
table_fits text w table d (table_line name) s = first_fits _ [] s

pattern_fits : (text : List ℕ) (w : List Lexeme) (pattern : NamePattern) (d : ℕ) → PatternLine w pattern d → Stands text w → PatternFits text pattern
pattern_fits text _ _ _ (pattern_line pattern) s = first_fits (Pattern pattern) [] s
pattern_fits text _ _ _ (full_name_line name) s = first_fits (Quoted name) [] s

pair_fits : (text : List ℕ) (w : List Lexeme) (pair : RenamePair) (d : ℕ) → PairLine w pair d → Stands text w → PairFits text pair
pair_fits text _ _ _ (pair_line as_ {x = x} {y = y} before after) s = record {
  before = name_fits before (first_fits x (Word word.As as_ ∷ y ∷ []) s);
  after = name_fits after (first_fits y [] (back (x ∷ Word word.As as_ ∷ []) (y ∷ []) s));
}

item_fits : (text : List ℕ) (w : List Lexeme) (item : EnrichItem) (d : ℕ) → ItemLine w item d → Stands text w → ItemFits text item
item_fits text _ _ _ (item_line {m = m} {x = x} name field) s =
    record { name = field_name_fits name (front m (x ∷ []) s); field = name_fits field (first_fits x [] (back m (x ∷ []) s)) }

groups_fit : {text : List ℕ} {w : List Lexeme} {groups : List Field} {d : ℕ} → ByFields w groups d → Stands text w → FieldsFit text groups
groups_fit {text} no_groups s = All-nil (FieldFits text)
groups_fit (by_fields by_ {w = w} those) s = fields_fit those (back (Word word.By by_ ∷ []) w s)

on_fits : {text : List ℕ} {w : List Lexeme} {on : Option NameAt} → OnName w on → Stands text w → IfSome on (NameFits text)
on_fits no_on s = tt
on_fits (on_name on {x = x} name) s = name_fits name (first_fits x [] (back (Word word.On on ∷ []) (x ∷ []) s))

items_fit : {text : List ℕ} {w : List Lexeme} {items : Option (List EnrichItem)} → WithItems w items → Stands text w → IfSome items (All (ItemFits text))
items_fit no_items s = tt
items_fit {text} (with_items with_ {w = w} those) s = all_listed text (ItemFits text) (item_fits text) those (back (Word word.With with_ ∷ []) w s)

pub says_fits : {text : List ℕ} {begin : CommandWord} {w : List Lexeme} {says : CommandEnd} {d : ℕ} → Says begin w says d → Stands text w → EndFits text says
says_fits {text} (from_says those) s = all_listed text (NameFits text) (table_fits text) those s
says_fits (row_says those) s = fields_fit those s
says_fits (where_says q) s = phrase_fits q s
says_fits (eval_says those) s = fields_fit those s
says_fits {text} (keep_says those) s = all_listed text (PatternFits text) (pattern_fits text) those s
says_fits {text} (drop_says those) s = all_listed text (PatternFits text) (pattern_fits text) those s
says_fits {text} (rename_says those) s = all_listed text (PairFits text) (pair_fits text) those s
says_fits {text} (sort_says those) s = all_listed text (KeyFits text) (key_fits text) those s
says_fits (limit_says count at) s = tt
says_fits (expand_says {x = x} name) s = name_fits name (first_fits x [] s)
says_fits {text} (stats_says {w = w} {v = v} those by) s = (all_listed text (StatsFits text) (stats_fits text) those (front w v s), groups_fit by (back w v s))
says_fits {text} (stats_by_says by_ {w = w} those) s = (All-nil (StatsFits text), fields_fit those (back (Word word.By by_ ∷ []) w s))
says_fits (dissect_says {w = w} {v = v} pattern q _) s = (phrase_fits q (front w (Text pattern ∷ v) s), first_fits (Text pattern) v (back w (Text pattern ∷ v) s))
says_fits (grok_says {w = w} pattern q) s = (phrase_fits q (front w (Text pattern ∷ []) s), first_fits (Text pattern) [] (back w (Text pattern ∷ []) s))
says_fits (enrich_says policy {u = u} {w = w} on items) s =
    let after = back (Source policy ∷ []) (u ++ w) s in
    (first_fits (Source policy) (u ++ w) s, on_fits on (front u w after), items_fit items (back u w after))
says_fits (join_says join_ table on {x = x} is name) s = (
  first_fits (Source table) (Word word.On on ∷ x ∷ []) (back (Plain join_ ∷ []) (Source table ∷ Word word.On on ∷ x ∷ []) s),
  name_fits name (first_fits x [] (back (Plain join_ ∷ Source table ∷ Word word.On on ∷ []) (x ∷ []) s)),
)

last_span_to : (x : Lexeme) (w : List Lexeme) → last_to (x ∷ w) ≡ (last_span (span_at x) w).to
last_span_to x [] = refl
last_span_to x (y ∷ w) = last_span_to y w

-- the span of a command is a part of the text, and what it says fits
pub command_fits : {text : List ℕ} {w : List Lexeme} {says : CommandEnd} {span : Span} {d : ℕ} → CommandLine w says span d → Stands text w → SpanFits text span × EndFits text says
command_fits (command_line name {w = w} is whole) s = (
  same_ends_fit (join name.span (last_span name.span w)) refl (last_span_to (Plain name) w) (run_fits (Plain name) w s),
  says_fits whole (back (Plain name ∷ []) w s),
)
