-- An expression that is a column is a name, and stands as one.
use Rattle.std.proofs.Common.{◌≡◌, ℕ, List, [], ◌∷◌, Some, None, refl, sym, ◌∙◌, ap, subst}
use Rattle.esql_types.specs.declared.places.Span.{Span}
use Rattle.esql_ast.specs.declared.expr.Expr.{Expr}
use Rattle.esql_ast.specs.declared.expr.Form.{Form}
use Rattle.esql_ast.specs.declared.expr.Form.TheOpen.{Form-F}
use Rattle.esql_ast.specs.declared.expr.Form.TheViews.{out-Form, outs-Constant, outs-List, outs-Column, outs-Group, outs-Call, outs-Minus, outs-Not, outs-Binary, outs-Within, outs-Like, outs-IsNull, outs-Cast}
use Rattle.esql_ast.specs.declared.query.NameAt.{NameAt}
use Rattle.esql_phrases.specs.declared.lexeme.Lexeme.{Lexeme}
use Rattle.esql_phrases.specs.declared.part.Part.{Part}
use Rattle.esql_phrases.specs.Phrases.{IsName, Phrase, looser, number_line, text_line, true_line, false_line, null_line, list_line, name_line, group_line, empty_line, star_line, call_line, cast_line, minus_line, not_line, binary_line, in_line, like_line, is_line}
use Rattle.esql_commands.specs.Fields.{column_in, column_name}

-- the lexemes are one name, and an expression of them has the depth of a column
pub record OneName (w : List Lexeme) (depth : ℕ) (name : NameAt) : Type 0 where
  pub lexeme : Lexeme
  pub alone : w ≡ lexeme ∷ []
  pub is : IsName lexeme name
  pub deep : depth ≡ 1

-- a form of another kind is no column
other : {w : List Lexeme} {d : ℕ} {name : NameAt} (span : Span) (form : Form) (layer : Form-F Form Expr) → out-Form form ≡ layer → column_in layer span ≡ None → column_in (out-Form form) span ≡ Some name → OneName w d name
other {name = name} span form layer e f g =
    let h : column_in layer span ≡ Some name = subst (λ (l : Form-F Form Expr). column_in l span ≡ Some name) e g in
    cc

pub column_of : {n : ℕ} {w : List Lexeme} {p : Part} {name : NameAt} → Phrase n w p → column_name p ≡ Some name → OneName w p.depth name
column_of (looser p) e = column_of p e
column_of (number_line number at) e = other _ _ _ (outs-Constant _ _) refl e
column_of (text_line text) e = other _ _ _ (outs-Constant _ _) refl e
column_of (true_line at) e = other _ _ _ (outs-Constant _ _) refl e
column_of (false_line at) e = other _ _ _ (outs-Constant _ _) refl e
column_of (null_line at) e = other _ _ _ (outs-Constant _ _) refl e
column_of (list_line opening closing vs) e = other _ _ _ (outs-List _) refl e
column_of {name = name} (name_line {x = x} {name = other_name} is) e =
    let f : Some other_name ≡ Some name = ap (λ l. column_in l other_name.span) (sym (outs-Column other_name.name)) ∙ e in
    let same : other_name ≡ name = cc in
    record { lexeme = x; alone = refl; is = subst (λ (m : NameAt). IsName x m) same is; deep = refl }
column_of (group_line opening closing p) e = other _ _ _ (outs-Group _) refl e
column_of (empty_line function opening closing) e = other _ _ _ (outs-Call _ _ _) refl e
column_of (star_line function opening star closing) e = other _ _ _ (outs-Call _ _ _) refl e
column_of (call_line function opening closing es) e = other _ _ _ (outs-Call _ _ _) refl e
column_of (cast_line cast p kind) e = other _ _ _ (outs-Cast _ _) refl e
column_of (minus_line minus p) e = other _ _ _ (outs-Minus _) refl e
column_of (not_line not p) e = other _ _ _ (outs-Not _) refl e
column_of (binary_line op at p q) e = other _ _ _ (outs-Binary _ _ _) refl e
column_of (in_line opening closing m p es) e = other _ _ _ (outs-Within _ _ _) refl e
column_of (like_line pattern m p) e = other _ _ _ (outs-Like _ _ _ _) refl e
column_of (is_line m p) e = other _ _ _ (outs-IsNull _ _) refl e
