-- What follows an expression in a command continues no operand and no name.
use Rattle.std.proofs.Common.{◌≡◌, List, Option, Some, None, refl}
use Rattle.esql_lex.specs.declared.token.Reserved.TheVariants as word
use Rattle.esql_lex.specs.declared.token.Sign.TheVariants as sign
use Rattle.esql_ast.specs.declared.query.Field.{Field}
use Rattle.esql_ast.specs.declared.query.NameAt.{NameAt}
use Rattle.esql_ast.specs.declared.query.SortKey.{SortKey}
use Rattle.esql_ast.specs.declared.query.StatsField.{StatsField}
use Rattle.esql_phrases.specs.declared.lexeme.Lexeme.{Lexeme}
use Rattle.esql_phrases.specs.declared.lexeme.Lexeme.TheVariants.{Plain, Text, Word, Sign as Mark}
use Rattle.esql_phrases.specs.declared.part.Part.{Part}
use Rattle.esql_expr.specs.Machine.{opener}
use Rattle.esql_expr.proofs.Walks.{NoParen}
use Rattle.esql_commands.specs.declared.field.Clause.{Clause}
use Rattle.esql_commands.specs.declared.place.Move.TheVariants.{To}
use Rattle.esql_commands.specs.declared.place.Place.{Place}
use Rattle.esql_commands.specs.declared.place.Point.{Point}
use Rattle.esql_commands.specs.declared.place.Point.TheVariants as point
use Rattle.esql_commands.specs.declared.place.Slot.{Slot}
use Rattle.esql_commands.specs.declared.place.Slot.TheVariants as slot
use Rattle.esql_commands.specs.Dissect.{have_input, have_grok_input}
use Rattle.esql_commands.specs.Fields.{have_field}
use Rattle.esql_commands.specs.Points.{moved, continue_command}
use Rattle.esql_commands.specs.Slots.{continue_slot}
use Rattle.esql_commands.specs.Sort.{have_key}
use Rattle.esql_commands.specs.Stats.{have_aggregate, have_condition}

abbrev pub Stops : Lexeme → Type 0
Stops x = (opener x ≡ None) × NoParen x

-- after an expression the lexeme does not continue it
abbrev pub Passes : Point → Lexeme → Type 0
Passes (point.Ended slot part) x = Stops x
Passes _ x = Unit {0}

field_follows : (of : Clause) (fields : List Field) (name : Option NameAt) (part : Part) (x : Lexeme) (next : Place) → moved (have_field of fields name part x) ≡ Some (To next) → Stops x
field_follows of fields name part (Mark sign.Comma at) next e = (refl, tt)
field_follows of fields name part (Mark sign.Assign at) next e = (refl, tt)
field_follows of fields name part _ next e = cc

aggregate_follows : (fields : List StatsField) (name : Option NameAt) (part : Part) (x : Lexeme) (next : Place) → moved (have_aggregate fields name part x) ≡ Some (To next) → Stops x
aggregate_follows fields name part (Mark sign.Comma at) next e = (refl, tt)
aggregate_follows fields name part (Mark sign.Assign at) next e = (refl, tt)
aggregate_follows fields name part (Plain where_) next e = (refl, tt)
aggregate_follows fields name part (Word word.By at) next e = (refl, tt)
aggregate_follows fields name part _ next e = cc

condition_follows : (fields : List StatsField) (field : Field) (part : Part) (x : Lexeme) (next : Place) → moved (have_condition fields field part x) ≡ Some (To next) → Stops x
condition_follows fields field part (Mark sign.Comma at) next e = (refl, tt)
condition_follows fields field part (Word word.By at) next e = (refl, tt)
condition_follows fields field part _ next e = cc

key_follows : (keys : List SortKey) (part : Part) (x : Lexeme) (next : Place) → moved (have_key keys part x) ≡ Some (To next) → Stops x
key_follows keys part (Mark sign.Comma at) next e = (refl, tt)
key_follows keys part (Word word.Asc at) next e = (refl, tt)
key_follows keys part (Word word.Desc at) next e = (refl, tt)
key_follows keys part (Word word.Nulls at) next e = (refl, tt)
key_follows keys part _ next e = cc

input_follows : (part : Part) (x : Lexeme) (next : Place) → moved (have_input part x) ≡ Some (To next) → Stops x
input_follows part (Text pattern) next e = (refl, tt)
input_follows part _ next e = cc

grok_follows : (part : Part) (x : Lexeme) (next : Place) → moved (have_grok_input part x) ≡ Some (To next) → Stops x
grok_follows part (Text pattern) next e = (refl, tt)
grok_follows part _ next e = cc

slot_follows : (slot : Slot) (part : Part) (x : Lexeme) (next : Place) → moved (continue_slot slot part x) ≡ Some (To next) → Stops x
slot_follows (slot.Field of fields name) part x next e = field_follows of fields name part x next e
slot_follows (slot.Aggregate fields name) part x next e = aggregate_follows fields name part x next e
slot_follows (slot.Condition fields field) part x next e = condition_follows fields field part x next e
slot_follows slot.Filter part x next e = cc
slot_follows (slot.Key keys) part x next e = key_follows keys part x next e
slot_follows slot.Dissect part x next e = input_follows part x next e
slot_follows slot.Grok part x next e = grok_follows part x next e

pub follows : (here : Point) (x : Lexeme) (next : Place) → continue_command here x ≡ Some (To next) → Passes here x
follows (point.Ended slot part) x next e = slot_follows slot part x next e
follows _ x next e = tt

-- the bar and the end pass every point
pub stop_passes : (x : Lexeme) (here : Point) → Stops x → Passes here x
stop_passes x (point.Ended slot part) s = s
stop_passes x _ s = tt
