-- What a lexeme makes of SORT.
use Rattle.std.specs.Prelude.{Bool, true, false, List, [], ◌∷◌, ◌++◌, Option, Some, None}
use Rattle.esql_lex.specs.declared.token.Reserved.TheVariants as word
use Rattle.esql_lex.specs.declared.token.Sign.TheVariants as sign
use Rattle.esql_ast.specs.declared.expr.Expr.{Expr}
use Rattle.esql_ast.specs.declared.query.SortKey.{SortKey}
use Rattle.esql_ast.specs.declared.query.CommandKind.{CommandKind}
use Rattle.esql_ast.specs.declared.query.CommandKind.TheVariants as command
use Rattle.esql_phrases.specs.declared.lexeme.Lexeme.{Lexeme}
use Rattle.esql_phrases.specs.declared.lexeme.Lexeme.TheVariants.{Word, Sign as Mark}
use Rattle.esql_phrases.specs.declared.part.Part.{Part}
use Rattle.esql_commands.specs.declared.sort.SortPoint.{SortPoint}
use Rattle.esql_commands.specs.declared.sort.SortPoint.TheVariants.{Directed, Nulls, Have}
use Rattle.esql_commands.specs.declared.place.Place.{Place}
use Rattle.esql_commands.specs.declared.place.Place.TheVariants.{At, Expression}
use Rattle.esql_commands.specs.declared.place.Point.TheVariants as point
use Rattle.esql_commands.specs.Lexemes.{after_comma}
use Rattle.esql_commands.specs.declared.place.Slot.TheVariants as slot

-- after SORT or a comma a key comes, which begins with an expression
abbrev pub want_key : List SortKey → Place
want_key keys = Expression (slot.Key keys)

abbrev pub key_of : Expr → Bool → Bool → SortKey
key_of expr descending first = record { expr = expr; descending = descending; nulls_first = first }

-- after the expression of a key its direction, NULLS or a comma may come
abbrev pub have_key : List SortKey → Part → Lexeme → Option Place
have_key keys part (Mark sign.Comma at) = Some (want_key (keys ++ key_of part.expr false false ∷ []))
have_key keys part (Word word.Asc at) = Some (At (point.Sort (Directed keys part.expr false)))
have_key keys part (Word word.Desc at) = Some (At (point.Sort (Directed keys part.expr true)))
have_key keys part (Word word.Nulls at) = Some (At (point.Sort (Nulls keys part.expr false)))
have_key keys part _ = None

-- after its direction NULLS or a comma may come; nulls stand first where it descends
abbrev pub have_direction : List SortKey → Expr → Bool → Lexeme → Option Place
have_direction keys expr descending (Mark sign.Comma at) = Some (want_key (keys ++ key_of expr descending descending ∷ []))
have_direction keys expr descending (Word word.Nulls at) = Some (At (point.Sort (Nulls keys expr descending)))
have_direction keys expr descending _ = None

-- after NULLS either FIRST or LAST comes
abbrev pub want_end : Lexeme → Option Bool
want_end (Word word.First at) = Some true
want_end (Word word.Last at) = Some false
want_end _ = None

abbrev pub have_nulls : List SortKey → Expr → Bool → Option Bool → Option Place
have_nulls keys expr descending (Some first) = Some (At (point.Sort (Have (keys ++ key_of expr descending first ∷ []))))
have_nulls keys expr descending None = None

abbrev pub continue_sort : SortPoint → Lexeme → Option Place
continue_sort (Directed keys expr descending) x = have_direction keys expr descending x
continue_sort (Nulls keys expr descending) x = have_nulls keys expr descending (want_end x)
continue_sort (Have keys) x = after_comma x (want_key keys)

abbrev pub finished_key : List SortKey → Expr → Bool → CommandKind
finished_key keys expr descending = command.Sort (keys ++ key_of expr descending descending ∷ [])

-- SORT may end after a key
abbrev pub finished_sort : SortPoint → Option CommandKind
finished_sort (Directed keys expr descending) = Some (finished_key keys expr descending)
finished_sort (Nulls keys expr descending) = None
finished_sort (Have keys) = Some (command.Sort keys)
