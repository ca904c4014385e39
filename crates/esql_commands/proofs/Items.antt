-- Items of a list lead from one comma to the next, or to where the command may end.
use Rattle.std.proofs.Common.{◌≡◌, ℕ, ◌+◌, Bool, true, false, List, [], ◌∷◌, ◌++◌, Option, Some, None, refl, sym, ap, subst, append-nil, arith}
use Rattle.esql_ast.specs.declared.expr.Form.TheViews.{outs-Column}
use Rattle.esql_types.specs.declared.places.Span.{Span}
use Rattle.esql_lex.specs.declared.token.Reserved.TheVariants as word
use Rattle.esql_lex.specs.declared.token.Sign.TheVariants as sign
use Rattle.esql_ast.specs.declared.expr.Expr.{Expr}
use Rattle.esql_ast.specs.declared.query.NameAt.{NameAt}
use Rattle.esql_ast.specs.declared.query.Field.{Field}
use Rattle.esql_ast.specs.declared.query.StatsField.{StatsField}
use Rattle.esql_ast.specs.declared.query.SortKey.{SortKey}
use Rattle.esql_ast.specs.declared.query.CommandKind.TheVariants as command
use Rattle.esql_phrases.specs.declared.lexeme.Lexeme.{Lexeme}
use Rattle.esql_phrases.specs.declared.part.Part.{Part}
use Rattle.esql_phrases.specs.declared.lexeme.Lexeme.TheVariants.{Plain, Word, Sign as Mark}
use Rattle.esql_phrases.specs.Phrases.{IsName, Phrase, looser, name_line}
use Rattle.esql_phrases.specs.Parts.{column_part}
use Rattle.esql_phrases.proofs.Lines.{depth_one}
use Rattle.esql_commands.specs.declared.field.Clause.{Clause}
use Rattle.esql_commands.specs.declared.place.CommandEnd.{CommandEnd}
use Rattle.esql_commands.specs.declared.place.CommandEnd.TheVariants as end
use Rattle.esql_commands.specs.declared.place.Move.TheVariants.{To}
use Rattle.esql_commands.specs.declared.place.Place.{Place}
use Rattle.esql_commands.specs.declared.place.Place.TheVariants.{At, Expression}
use Rattle.esql_commands.specs.declared.place.Point.{Point}
use Rattle.esql_commands.specs.declared.place.Point.TheVariants as point
use Rattle.esql_commands.specs.declared.place.Slot.{Slot}
use Rattle.esql_commands.specs.declared.place.Slot.TheVariants as slot
use Rattle.esql_commands.specs.declared.sort.SortPoint.TheVariants as sort
use Rattle.esql_commands.specs.declared.words.CommandWord.TheVariants as begins
use Rattle.esql_commands.specs.Grammar.{Listed, first_item, next_item, field_of, no_name, named, FieldLine, field_line, StatsLine, open_line, where_line, no_direction, ascending, descending, NullOrder, no_order, nulls_first, nulls_last, KeyLine, key_line}
use Rattle.esql_commands.specs.Fields.{column_in, column_name, want_field, name_field, finished_fields}
use Rattle.esql_commands.specs.Leads.{Leads, stays, continues}
use Rattle.esql_commands.specs.Points.{moved, continue_command, finished_command}
use Rattle.esql_commands.specs.Slots.{line_in}
use Rattle.esql_commands.specs.Sort.{want_key, key_of}
use Rattle.esql_commands.specs.Stats.{want_aggregate, want_group, without_condition, name_aggregate, want_condition}
use Rattle.esql_commands.specs.Words.{command_word}
use Rattle.esql_commands.proofs.Walks.{leads-append, leads_as, reads_whole}

-- the lexemes lead from a place to a point of which something holds
pub record Item (w : List Lexeme) (d : ℕ) (from : Place) (Holds : Point → Type 0) : Type 0 where
  pub here : Point
  pub leads : Leads from w d (At here)
  pub holds : Holds here

-- after the items a comma leads to the next one, and the command may end
pub record Rests {A : Type 0} (next : List A → Place) (says : List A → CommandEnd) (items : List A) (here : Point) : Type 0 where
  pub comma : (at : Span) → continue_command here (Mark sign.Comma at) ≡ Some (To (next items))
  pub ends : finished_command here ≡ Some (says items)

-- a list is read where each item is, and a comma leads to the next one
pub listed : {A : Type 0} {One : List Lexeme → A → ℕ → Type 0} (next : List A → Place) (Holds : List A → Point → Type 0)
    → ((items : List A) (here : Point) → Holds items here → (at : Span) → continue_command here (Mark sign.Comma at) ≡ Some (To (next items)))
    → ((items : List A) (w : List Lexeme) (a : A) (d : ℕ) → One w a d → Item w d (next items) (Holds (items ++ a ∷ [])))
    → {w : List Lexeme} {items : List A} {d : ℕ} → Listed One w items d → Item w d (next []) (Holds items)
listed next Holds comma item (first_item {w = w} {a = a} {d = d} one) = item [] w a d one
listed next Holds comma item (next_item at {w = w} {items = items} {a = a} {e = e} list one) =
    let u = listed next Holds comma item list in
    let v = item items w a e one in
    record { here = v.here; leads = leads-append u.leads (continues (Mark sign.Comma at) (comma items u.here u.holds at) v.leads); holds = v.holds }

name_phrase : {x : Lexeme} {name : NameAt} → IsName x name → Phrase 0 (x ∷ []) (column_part name)
name_phrase n = looser (looser (looser (looser (looser (looser (looser (looser (name_line n))))))))

-- a name that is read as an expression is that column
is_column : (name : NameAt) → column_name (column_part name) ≡ Some name
is_column name = ap (λ f. column_in f name.span) (outs-Column name.name)

-- the field's expression ended in its slot
data FieldAt (slot_of : Option NameAt → Slot) : Field → Point → Type 0 where
  field_at : (name : Option NameAt) (p : Part) → FieldAt slot_of (field_of name p) (point.Ended (slot_of name) p)

-- a name and `=` lead to the named field
abbrev Assigns : (Option NameAt → Slot) → Type 0
Assigns slot_of = (name : NameAt) (at : Span) → continue_command (point.Ended (slot_of None) (column_part name)) (Mark sign.Assign at) ≡ Some (To (Expression (slot_of (Some name))))

-- the slots take any expression
abbrev TakesAll : (Option NameAt → Slot) → Type 0
TakesAll slot_of = (name : Option NameAt) → line_in (slot_of name) ≡ 0

phrase_at : (slot : Slot) {w : List Lexeme} {p : Part} → line_in slot ≡ 0 → Phrase 0 w p → Leads (Expression slot) w p.depth (At (point.Ended slot p))
phrase_at slot {w} {p} e q = reads_whole (subst (λ (n : ℕ). Phrase n w p) (sym e) q)

field_read : (slot_of : Option NameAt → Slot) → TakesAll slot_of → Assigns slot_of → {w : List Lexeme} {f : Field} {d : ℕ} → FieldLine w f d → Item w d (Expression (slot_of None)) (FieldAt slot_of f)
field_read slot_of takes assigns (field_line {p = p} no_name phrase) = record { here = point.Ended (slot_of None) p; leads = phrase_at (slot_of None) (takes None) phrase; holds = field_at None p }
field_read slot_of takes assigns (field_line {p = p} (named at {name = name} n) phrase) =
    let one = depth_one phrase in
    record {
      here = point.Ended (slot_of (Some name)) p;
      leads = leads_as refl (omega arith) (leads-append (phrase_at (slot_of None) (takes None) (name_phrase n)) (continues (Mark sign.Assign at) (assigns name at) (phrase_at (slot_of (Some name)) (takes (Some name)) phrase)));
      holds = field_at (Some name) p;
    }

-- fields of a clause
abbrev FieldRests : Clause → List Field → Point → Type 0
FieldRests of = Rests (want_field of) (finished_fields of)

field_rests : (of : Clause) (fields : List Field) {f : Field} {here : Point} → FieldAt (λ name. slot.Field of fields name) f here → FieldRests of (fields ++ f ∷ []) here
field_rests of fields (field_at name p) = record { comma = λ at. refl; ends = refl }

field_item : (of : Clause) (fields : List Field) {w : List Lexeme} {f : Field} {d : ℕ} → FieldLine w f d → Item w d (want_field of fields) (FieldRests of (fields ++ f ∷ []))
field_item of fields line =
    let r = field_read (λ name. slot.Field of fields name) (λ name. refl) (λ name at. ap (λ o. moved (name_field of fields None o)) (is_column name)) line in
    record { here = r.here; leads = r.leads; holds = field_rests of fields r.holds }

pub reads_fields : (of : Clause) {w : List Lexeme} {fields : List Field} {d : ℕ} → Listed FieldLine w fields d → Item w d (want_field of []) (FieldRests of fields)
reads_fields of list = listed (want_field of) (FieldRests of) (λ items here r at. r.comma at) (λ items w a d line. field_item of items line) list

-- after the fields of STATS groups may follow
pub record StatsRests (fields : List StatsField) (here : Point) : Type 0 where
  pub rests : Rests want_aggregate (λ items. end.Piped (command.Stats items [])) fields here
  pub groups : (at : Span) → continue_command here (Word word.By at) ≡ Some (To (want_group fields))

aggregate_rests : (fields : List StatsField) {f : Field} {here : Point} → FieldAt (λ name. slot.Aggregate fields name) f here → StatsRests (fields ++ without_condition f ∷ []) here
aggregate_rests fields (field_at name p) = record { rests = record { comma = λ at. refl; ends = refl }; groups = λ at. refl }

aggregate_read : (fields : List StatsField) {w : List Lexeme} {f : Field} {d : ℕ} → FieldLine w f d → Item w d (want_aggregate fields) (FieldAt (λ name. slot.Aggregate fields name) f)
aggregate_read fields line = field_read (λ name. slot.Aggregate fields name) (λ name. refl) (λ name at. ap (λ o. moved (name_aggregate fields None o)) (is_column name)) line

-- WHERE leads to the condition of the field
conditional : (fields : List StatsField) {f : Field} {here : Point} → FieldAt (λ name. slot.Aggregate fields name) f here → (where_ : NameAt) → command_word where_.name ≡ Some begins.Where
    → continue_command here (Plain where_) ≡ Some (To (Expression (slot.Condition fields f)))
conditional fields (field_at name p) where_ e = ap (λ o. moved (want_condition fields (field_of name p) o)) e

stats_item : (fields : List StatsField) {w : List Lexeme} {f : StatsField} {d : ℕ} → StatsLine w f d → Item w d (want_aggregate fields) (StatsRests (fields ++ f ∷ []))
stats_item fields (open_line line) =
    let r = aggregate_read fields line in
    record { here = r.here; leads = r.leads; holds = aggregate_rests fields r.holds }
stats_item fields (where_line where_ {f = f} {p = p} line e phrase) =
    let r = aggregate_read fields line in
    record {
      here = point.Ended (slot.Condition fields f) p;
      leads = leads-append r.leads (continues (Plain where_) (conditional fields r.holds where_ e) (reads_whole phrase));
      holds = record { rests = record { comma = λ at. refl; ends = refl }; groups = λ at. refl };
    }

pub reads_stats : {w : List Lexeme} {fields : List StatsField} {d : ℕ} → Listed StatsLine w fields d → Item w d (want_aggregate []) (StatsRests fields)
reads_stats list = listed want_aggregate StatsRests (λ items here r at. r.rests.comma at) (λ items w a d line. stats_item items line) list

-- keys of SORT
abbrev KeyRests : List SortKey → Point → Type 0
KeyRests = Rests want_key (λ keys. end.Piped (command.Sort keys))

-- after the expression of a key nothing has an expression
past : {from mid to_ : Place} {u w : List Lexeme} {d : ℕ} → Leads from u d mid → Leads mid w 0 to_ → Leads from (u ++ w) d to_
past l k = leads_as refl (omega arith) (leads-append l k)

nulls_item : (keys : List SortKey) (expr : Expr) {k : List Lexeme} {descending first : Bool} → NullOrder k descending first
    → Item k 0 (At (point.Sort (sort.Directed keys expr descending))) (KeyRests (keys ++ key_of expr descending first ∷ []))
nulls_item keys expr {descending = down} no_order = record { here = point.Sort (sort.Directed keys expr down); leads = stays; holds = record { comma = λ at. refl; ends = refl } }
nulls_item keys expr {descending = down} (nulls_first nulls first) = record {
  here = point.Sort (sort.Have (keys ++ key_of expr down true ∷ []));
  leads = continues (Word word.Nulls nulls) refl (continues (Word word.First first) refl stays);
  holds = record { comma = λ at. refl; ends = refl };
}
nulls_item keys expr {descending = down} (nulls_last nulls last) = record {
  here = point.Sort (sort.Have (keys ++ key_of expr down false ∷ []));
  leads = continues (Word word.Nulls nulls) refl (continues (Word word.Last last) refl stays);
  holds = record { comma = λ at. refl; ends = refl };
}

key_item : (keys : List SortKey) {w : List Lexeme} {key : SortKey} {d : ℕ} → KeyLine w key d → Item w d (want_key keys) (KeyRests (keys ++ key ∷ []))
key_item keys (key_line {w = w} {p = p} phrase no_direction no_order) = record {
  here = point.Ended (slot.Key keys) p;
  leads = leads_as (sym (append-nil w)) refl (reads_whole phrase);
  holds = record { comma = λ at. refl; ends = refl };
}
key_item keys (key_line {p = p} phrase no_direction (nulls_first nulls first)) = record {
  here = point.Sort (sort.Have (keys ++ key_of p.expr false true ∷ []));
  leads = past (reads_whole phrase) (continues (Word word.Nulls nulls) refl (continues (Word word.First first) refl stays));
  holds = record { comma = λ at. refl; ends = refl };
}
key_item keys (key_line {p = p} phrase no_direction (nulls_last nulls last)) = record {
  here = point.Sort (sort.Have (keys ++ key_of p.expr false false ∷ []));
  leads = past (reads_whole phrase) (continues (Word word.Nulls nulls) refl (continues (Word word.Last last) refl stays));
  holds = record { comma = λ at. refl; ends = refl };
}
key_item keys (key_line {p = p} phrase (ascending asc) order) =
    let r = nulls_item keys p.expr order in
    record { here = r.here; leads = past (reads_whole phrase) (continues (Word word.Asc asc) refl r.leads); holds = r.holds }
key_item keys (key_line {p = p} phrase (descending desc) order) =
    let r = nulls_item keys p.expr order in
    record { here = r.here; leads = past (reads_whole phrase) (continues (Word word.Desc desc) refl r.leads); holds = r.holds }

pub reads_keys : {w : List Lexeme} {keys : List SortKey} {d : ℕ} → Listed KeyLine w keys d → Item w d (want_key []) (KeyRests keys)
reads_keys list = listed want_key KeyRests (λ items here r at. r.comma at) (λ items w a d line. key_item items line) list
