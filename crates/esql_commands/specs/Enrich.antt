-- What a lexeme makes of ENRICH.
use Rattle.std.specs.Prelude.{List, [], ◌∷◌, ◌++◌, Option, Some, None}
use Rattle.esql_lex.specs.declared.token.Reserved.TheVariants as word
use Rattle.esql_lex.specs.declared.token.Sign.TheVariants as sign
use Rattle.esql_ast.specs.declared.query.NameAt.{NameAt}
use Rattle.esql_ast.specs.declared.query.EnrichItem.{EnrichItem}
use Rattle.esql_ast.specs.declared.query.CommandKind.{CommandKind}
use Rattle.esql_ast.specs.declared.query.CommandKind.TheVariants as command
use Rattle.esql_phrases.specs.declared.lexeme.Lexeme.{Lexeme}
use Rattle.esql_phrases.specs.declared.lexeme.Lexeme.TheVariants.{Source, Word as Reserved, Sign as Mark}
use Rattle.esql_commands.specs.declared.enrich.EnrichPoint.{EnrichPoint}
use Rattle.esql_commands.specs.declared.enrich.EnrichPoint.TheVariants.{Want, Policy, On, Column, With, Name, Assign, Have}
use Rattle.esql_commands.specs.declared.place.Place.{Place}
use Rattle.esql_commands.specs.declared.place.Place.TheVariants.{At}
use Rattle.esql_commands.specs.declared.place.Point.TheVariants as point
use Rattle.esql_commands.specs.Lexemes.{name_in, after_comma}

-- after ENRICH a policy comes
abbrev pub want_policy : Lexeme → Option Place
want_policy (Source policy) = Some (At (point.Enrich (Policy policy)))
want_policy _ = None

-- after WITH or a comma an item comes
abbrev pub want_item : NameAt → Option NameAt → List EnrichItem → Place
want_item policy on items = At (point.Enrich (With policy on items))

-- after the policy ON or WITH may come
abbrev pub have_policy : NameAt → Lexeme → Option Place
have_policy policy (Reserved word.On at) = Some (At (point.Enrich (On policy)))
have_policy policy (Reserved word.With at) = Some (want_item policy None [])
have_policy policy _ = None

-- after ON a name comes
abbrev pub have_on : NameAt → Option NameAt → Option Place
have_on policy (Some on) = Some (At (point.Enrich (Column policy on)))
have_on policy None = None

-- after it WITH may come
abbrev pub have_column : NameAt → NameAt → Lexeme → Option Place
have_column policy on (Reserved word.With at) = Some (want_item policy (Some on) [])
have_column policy on _ = None

-- an item begins with a name
abbrev pub have_with : NameAt → Option NameAt → List EnrichItem → Option NameAt → Option Place
have_with policy on items (Some name) = Some (At (point.Enrich (Name policy on items name)))
have_with policy on items None = None

abbrev pub with_item : List EnrichItem → Option NameAt → NameAt → List EnrichItem
with_item items name field = items ++ record { name = name; field = field } ∷ []

-- the name was a new one where `=` comes, and that of a field where a comma comes
abbrev pub have_name : NameAt → Option NameAt → List EnrichItem → NameAt → Lexeme → Option Place
have_name policy on items name (Mark sign.Assign at) = Some (At (point.Enrich (Assign policy on items name)))
have_name policy on items name (Mark sign.Comma at) = Some (want_item policy on (with_item items None name))
have_name policy on items name _ = None

-- after `=` the name of the field comes
abbrev pub have_assign : NameAt → Option NameAt → List EnrichItem → NameAt → Option NameAt → Option Place
have_assign policy on items name (Some field) = Some (At (point.Enrich (Have policy on (with_item items (Some name) field))))
have_assign policy on items name None = None

abbrev pub continue_enrich : EnrichPoint → Lexeme → Option Place
continue_enrich Want x = want_policy x
continue_enrich (Policy policy) x = have_policy policy x
continue_enrich (On policy) x = have_on policy (name_in x)
continue_enrich (Column policy on) x = have_column policy on x
continue_enrich (With policy on items) x = have_with policy on items (name_in x)
continue_enrich (Name policy on items name) x = have_name policy on items name x
continue_enrich (Assign policy on items name) x = have_assign policy on items name (name_in x)
continue_enrich (Have policy on items) x = after_comma x (want_item policy on items)

-- ENRICH may end after the policy, the column and an item
abbrev pub finished_enrich : EnrichPoint → Option CommandKind
finished_enrich Want = None
finished_enrich (Policy policy) = Some (command.Enrich policy None None)
finished_enrich (On policy) = None
finished_enrich (Column policy on) = Some (command.Enrich policy (Some on) None)
finished_enrich (With policy on items) = None
finished_enrich (Name policy on items name) = Some (command.Enrich policy on (Some (with_item items None name)))
finished_enrich (Assign policy on items name) = None
finished_enrich (Have policy on items) = Some (command.Enrich policy on (Some items))
