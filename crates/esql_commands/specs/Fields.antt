-- What a lexeme makes of the fields of ROW, of EVAL and of the groups of STATS.
use Rattle.std.specs.Prelude.{List, [], ◌∷◌, ◌++◌, Option, Some, None}
use Rattle.esql_types.specs.declared.places.Span.{Span}
use Rattle.esql_lex.specs.declared.token.Sign.TheVariants as sign
use Rattle.esql_ast.specs.declared.expr.Expr.{Expr, out-Expr}
use Rattle.esql_ast.specs.declared.expr.Form.{out-Form}
use Rattle.esql_ast.specs.declared.expr.Form.TheOpen.{Form-F, Column}
use Rattle.esql_ast.specs.declared.query.NameAt.{NameAt}
use Rattle.esql_ast.specs.declared.query.Field.{Field}
use Rattle.esql_ast.specs.declared.query.CommandKind.TheVariants as command
use Rattle.esql_phrases.specs.declared.lexeme.Lexeme.{Lexeme}
use Rattle.esql_phrases.specs.declared.lexeme.Lexeme.TheVariants.{Sign as Mark}
use Rattle.esql_phrases.specs.declared.part.Part.{Part}
use Rattle.esql_phrases.specs.Parts.{span_of}
use Rattle.esql_commands.specs.declared.field.Clause.{Clause}
use Rattle.esql_commands.specs.declared.field.Clause.TheVariants.{Row, Eval, Groups}
use Rattle.esql_commands.specs.declared.place.CommandEnd.{CommandEnd}
use Rattle.esql_commands.specs.declared.place.CommandEnd.TheVariants as end
use Rattle.esql_commands.specs.declared.place.Place.{Place}
use Rattle.esql_commands.specs.declared.place.Place.TheVariants.{Expression}
use Rattle.esql_commands.specs.declared.place.Slot.TheVariants as slot
use Rattle.esql_commands.specs.Grammar.{field_of}

-- a field begins as an expression
abbrev pub want_field : Clause → List Field → Place
want_field of fields = Expression (slot.Field of fields None)

-- the name that an expression is
abbrev pub column_in : {A B : Type 0} → Form-F A B → Span → Option NameAt
column_in (Column name) span = Some (record { name = name; span = span })
column_in _ span = None

abbrev pub column_name : Part → Option NameAt
column_name part = column_in (out-Form (out-Expr part.expr).form) (span_of part)

-- where `=` comes after a name with which a field begins, the field's expression follows
abbrev pub name_field : Clause → List Field → Option NameAt → Option NameAt → Option Place
name_field of fields None (Some column) = Some (Expression (slot.Field of fields (Some column)))
name_field of fields None None = None
name_field of fields (Some name) column = None

-- after the expression of a field a comma may come
abbrev pub have_field : Clause → List Field → Option NameAt → Part → Lexeme → Option Place
have_field of fields name part (Mark sign.Comma at) = Some (want_field of (fields ++ field_of name part ∷ []))
have_field of fields name part (Mark sign.Assign at) = name_field of fields name (column_name part)
have_field of fields name part _ = None

-- the command may end after the expression of a field
abbrev pub finished_fields : Clause → List Field → CommandEnd
finished_fields Row fields = end.Row fields
finished_fields Eval fields = end.Piped (command.Eval fields)
finished_fields (Groups aggregates) fields = end.Piped (command.Stats aggregates fields)
