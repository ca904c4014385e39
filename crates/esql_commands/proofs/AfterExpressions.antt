-- A lexeme after an expression leads where the command continues.
use Rattle.std.proofs.Common.{◌≡◌, ℕ, ◌+◌, max, List, [], ◌∷◌, ◌++◌, Option, Some, None, refl, sym, ◌∙◌, ap, append_assoc, append-nil, arith}
use Rattle.esql_types.specs.declared.places.Span.{Span}
use Rattle.esql_lex.specs.declared.token.Reserved.TheVariants as word
use Rattle.esql_lex.specs.declared.token.Sign.TheVariants as sign
use Rattle.esql_ast.specs.declared.query.NameAt.{NameAt}
use Rattle.esql_ast.specs.declared.query.Field.{Field}
use Rattle.esql_ast.specs.declared.query.StatsField.{StatsField}
use Rattle.esql_ast.specs.declared.query.SortKey.{SortKey}
use Rattle.esql_phrases.specs.declared.lexeme.Lexeme.{Lexeme}
use Rattle.esql_phrases.specs.declared.part.Part.{Part}
use Rattle.esql_phrases.specs.declared.lexeme.Lexeme.TheVariants.{Plain, Text, Word, Sign as Mark}
use Rattle.esql_phrases.specs.Phrases.{Phrase}
use Rattle.esql_phrases.proofs.Lines.{depth_one}
use Rattle.esql_commands.specs.declared.field.Clause.{Clause}
use Rattle.esql_commands.specs.declared.place.Move.TheVariants.{To}
use Rattle.esql_commands.specs.declared.place.Place.{Place}
use Rattle.esql_commands.specs.declared.place.Slot.{Slot}
use Rattle.esql_commands.specs.declared.words.CommandWord.{CommandWord}
use Rattle.esql_commands.specs.declared.words.CommandWord.TheVariants as begins
use Rattle.esql_commands.specs.Grammar.{Listed, FieldName, no_name, named, FieldLine, field_line, StatsLine, open_line, where_line, no_direction, ascending, descending, no_order, KeyLine, key_line, grok_says}
use Rattle.esql_commands.specs.Dissect.{have_input, have_grok_input}
use Rattle.esql_commands.specs.Fields.{column_name, name_field, have_field}
use Rattle.esql_commands.specs.Points.{moved}
use Rattle.esql_commands.specs.Slots.{line_in, continue_slot}
use Rattle.esql_commands.specs.Sort.{have_key}
use Rattle.esql_commands.specs.Stats.{want_group, name_aggregate, want_condition, have_aggregate, have_condition}
use Rattle.esql_commands.specs.Words.{command_word}
use Rattle.esql_commands.proofs.Columns.{column_of}
use Rattle.esql_commands.proofs.Lists.{with_one, reached_as, to, name_depth_low}
use Rattle.esql_commands.proofs.Reached.{name_depth, SoFar, none_yet, so_far, Opens, groups_open, Before, field_before, aggregate_before, condition_before, filter_before, key_before, dissect_before, grok_before, Reached, in_slot, key_directed, key_nulls, dissect_pattern, whole}

assigned_field : {of : Clause} {begin : CommandWord} {u m n w : List Lexeme} {fields : List Field} {name : Option NameAt} {p : Part} {d e : ℕ} {place : Place} (at : Span) (column : Option NameAt)
    → column_name p ≡ column → Opens of begin u d → SoFar FieldLine m fields e → FieldName n name → Phrase 0 w p → moved (name_field of fields name column) ≡ Some (To place)
    → Reached begin place (((u ++ (m ++ n)) ++ w) ++ Mark sign.Assign at ∷ []) (max (max (max d e) (name_depth name)) p.depth)
assigned_field {u = u} {m = m} at (Some column) c o i no_name q g =
    let x = column_of q c in
    let deep = x.deep in
    to (reached_as ((simp append_assoc) ∙ ap (λ y. ((u ++ (m ++ [])) ++ y) ++ Mark sign.Assign at ∷ []) (sym x.alone)) (omega arith) (in_slot (field_before o i (named at x.is)))) g
assigned_field at (Some column) c o i (named _ _) q g = cc
assigned_field {name = None} at None c o i f q g = cc
assigned_field {name = Some name} at None c o i f q g = cc

field_goes : {of : Clause} {begin : CommandWord} {u m n w : List Lexeme} {fields : List Field} {name : Option NameAt} {p : Part} {d e : ℕ} {place : Place} (x : Lexeme)
    → Opens of begin u d → SoFar FieldLine m fields e → FieldName n name → Phrase 0 w p → moved (have_field of fields name p x) ≡ Some (To place)
    → Reached begin place (((u ++ (m ++ n)) ++ w) ++ x ∷ []) (max (max (max d e) (name_depth name)) p.depth)
field_goes {name = name} (Mark sign.Comma at) o i f q g =
    let one = depth_one q in
    let low = name_depth_low name in
    to (reached_as (simp append_assoc) (omega arith) (in_slot (field_before o (so_far at (with_one i (field_line f q))) no_name))) g
field_goes {p = p} (Mark sign.Assign at) o i f q g = assigned_field at (column_name p) refl o i f q g
field_goes _ o i f q g = cc

assigned_aggregate : {m n w : List Lexeme} {fields : List StatsField} {name : Option NameAt} {p : Part} {d : ℕ} {place : Place} (at : Span) (column : Option NameAt)
    → column_name p ≡ column → SoFar StatsLine m fields d → FieldName n name → Phrase 0 w p → moved (name_aggregate fields name column) ≡ Some (To place)
    → Reached begins.Stats place (((m ++ n) ++ w) ++ Mark sign.Assign at ∷ []) (max (max d (name_depth name)) p.depth)
assigned_aggregate {m = m} at (Some column) c i no_name q g =
    let x = column_of q c in
    let deep = x.deep in
    to (reached_as ((simp append_assoc) ∙ ap (λ y. ((m ++ []) ++ y) ++ Mark sign.Assign at ∷ []) (sym x.alone)) (omega arith) (in_slot (aggregate_before i (named at x.is)))) g
assigned_aggregate at (Some column) c i (named _ _) q g = cc
assigned_aggregate {name = None} at None c i f q g = cc
assigned_aggregate {name = Some name} at None c i f q g = cc

-- the condition of a field of STATS begins
conditional : {m w : List Lexeme} {fields : List StatsField} {field : Field} {d e : ℕ} {place : Place} (where_ : NameAt) (begin : Option CommandWord)
    → command_word where_.name ≡ begin → SoFar StatsLine m fields d → FieldLine w field e → moved (want_condition fields field begin) ≡ Some (To place) → Reached begins.Stats place (m ++ (w ++ Plain where_ ∷ [])) (max d e)
conditional where_ (Some begins.Where) c i f g = to (in_slot (condition_before where_ i f c)) g
conditional where_ (Some _) c i f g = cc
conditional where_ None c i f g = cc

-- the groups of STATS begin
pub grouped : {w : List Lexeme} {fields : List StatsField} {d : ℕ} (at : Span) → Listed StatsLine w fields d → Reached begins.Stats (want_group fields) (w ++ Word word.By at ∷ []) d
grouped {w} at l = reached_as (append-nil (w ++ Word word.By at ∷ [])) (omega arith) (in_slot (field_before (groups_open at l) none_yet no_name))

aggregate_goes : {m n w : List Lexeme} {fields : List StatsField} {name : Option NameAt} {p : Part} {d : ℕ} {place : Place} (x : Lexeme)
    → SoFar StatsLine m fields d → FieldName n name → Phrase 0 w p → moved (have_aggregate fields name p x) ≡ Some (To place)
    → Reached begins.Stats place (((m ++ n) ++ w) ++ x ∷ []) (max (max d (name_depth name)) p.depth)
aggregate_goes {name = name} (Mark sign.Comma at) i f q g =
    let one = depth_one q in
    let low = name_depth_low name in
    to (reached_as (simp append_assoc) (omega arith) (in_slot (aggregate_before (so_far at (with_one i (open_line (field_line f q)))) no_name))) g
aggregate_goes {p = p} (Mark sign.Assign at) i f q g = assigned_aggregate at (column_name p) refl i f q g
aggregate_goes {name = name} (Plain where_) i f q g =
    let one = depth_one q in
    let low = name_depth_low name in
    reached_as (simp append_assoc) (omega arith) (conditional where_ (command_word where_.name) refl i (field_line f q) g)
aggregate_goes {name = name} (Word word.By at) i f q g =
    let one = depth_one q in
    let low = name_depth_low name in
    to (reached_as (simp append_assoc) (omega arith) (grouped at (with_one i (open_line (field_line f q))))) g
aggregate_goes _ i f q g = cc

condition_goes : {m w v : List Lexeme} {fields : List StatsField} {field : Field} {p : Part} {d e : ℕ} {place : Place} (where_ : NameAt) (x : Lexeme)
    → SoFar StatsLine m fields d → FieldLine w field e → command_word where_.name ≡ Some begins.Where → Phrase 0 v p → moved (have_condition fields field p x) ≡ Some (To place)
    → Reached begins.Stats place (((m ++ (w ++ Plain where_ ∷ [])) ++ v) ++ x ∷ []) (max (max d e) p.depth)
condition_goes where_ (Mark sign.Comma at) i f c q g = to (reached_as (simp append_assoc) (omega arith) (in_slot (aggregate_before (so_far at (with_one i (where_line where_ f c q))) no_name))) g
condition_goes where_ (Word word.By at) i f c q g = to (reached_as (simp append_assoc) (omega arith) (grouped at (with_one i (where_line where_ f c q)))) g
condition_goes where_ _ i f c q g = cc

key_goes : {m w : List Lexeme} {keys : List SortKey} {p : Part} {d : ℕ} {place : Place} (x : Lexeme)
    → SoFar KeyLine m keys d → Phrase 0 w p → moved (have_key keys p x) ≡ Some (To place) → Reached begins.Sort place ((m ++ w) ++ x ∷ []) (max d p.depth)
key_goes (Mark sign.Comma at) i q g = to (reached_as (simp append_assoc) refl (in_slot (key_before (so_far at (with_one i (key_line q no_direction no_order)))))) g
key_goes {m} {w} (Word word.Asc at) i q g = to (reached_as (sym (append_assoc m w _)) refl (key_directed i q (ascending at))) g
key_goes {m} {w} (Word word.Desc at) i q g = to (reached_as (sym (append_assoc m w _)) refl (key_directed i q (descending at))) g
key_goes {m} {w} (Word word.Nulls at) i q g = to (reached_as (sym (append_assoc m w _)) refl (key_nulls at i q no_direction)) g
key_goes _ i q g = cc

dissect_goes : {w : List Lexeme} {p : Part} {place : Place} (x : Lexeme) → Phrase 8 w p → moved (have_input p x) ≡ Some (To place) → Reached begins.Dissect place (w ++ x ∷ []) p.depth
dissect_goes (Text pattern) q g = to (dissect_pattern pattern q) g
dissect_goes _ q g = cc

grok_goes : {w : List Lexeme} {p : Part} {place : Place} (x : Lexeme) → Phrase 8 w p → moved (have_grok_input p x) ≡ Some (To place) → Reached begins.Grok place (w ++ x ∷ []) p.depth
grok_goes (Text pattern) q g = to (whole (grok_says pattern q)) g
grok_goes _ q g = cc

pub expr_goes : {begin : CommandWord} {slot : Slot} {u w : List Lexeme} {p : Part} {d : ℕ} {place : Place} (x : Lexeme)
    → Before begin slot u d → Phrase (line_in slot) w p → moved (continue_slot slot p x) ≡ Some (To place) → Reached begin place ((u ++ w) ++ x ∷ []) (max d p.depth)
expr_goes x (field_before o i f) q g = field_goes x o i f q g
expr_goes x (aggregate_before i f) q g = aggregate_goes x i f q g
expr_goes x (condition_before where_ i f c) q g = condition_goes where_ x i f c q g
expr_goes x filter_before q g = cc
expr_goes x (key_before i) q g = key_goes x i q g
expr_goes x dissect_before q g = reached_as refl (omega arith) (dissect_goes x q g)
expr_goes x grok_before q g = reached_as refl (omega arith) (grok_goes x q g)
