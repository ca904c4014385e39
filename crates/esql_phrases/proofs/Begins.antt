-- What a phrase begins with.
use Rattle.std.proofs.Common.{◌≡◌, ℕ, List, [], ◌∷◌, ◌++◌, refl, ap}
use Rattle.esql_lex.specs.declared.token.Sign.TheVariants as sign
use Rattle.esql_ast.specs.declared.expr.Expr.{Expr}
use Rattle.esql_ast.specs.declared.query.NameAt.{NameAt}
use Rattle.esql_phrases.specs.declared.lexeme.Lexeme.{Lexeme}
use Rattle.esql_phrases.specs.declared.lexeme.Lexeme.TheVariants.{Sign as Mark}
use Rattle.esql_phrases.specs.declared.part.Part.{Part}
use Rattle.esql_phrases.specs.Phrases.{IsName, plain_name, dotted_name, quoted_name, Phrase, looser, number_line, text_line, true_line, false_line, null_line, list_line, name_line, group_line, empty_line, star_line, call_line, cast_line, minus_line, not_line, binary_line, in_line, like_line, is_line, Items, one_item, next_item}

-- it is neither what ends the arguments of a function nor `*`
abbrev pub Beginner : Lexeme → Type 0
Beginner (Mark sign.CloseParen at) = ⊥
Beginner (Mark sign.Star at) = ⊥
Beginner _ = Unit {0}

-- there is a first lexeme, with which an expression can begin
pub record Begins (w : List Lexeme) : Type 0 where
  pub first : Lexeme
  pub rest : List Lexeme
  pub whole : w ≡ first ∷ rest
  pub can : Beginner first

begins_so : (x : Lexeme) (w : List Lexeme) → Beginner x → Begins (x ∷ w)
begins_so x w b = record { first = x; rest = w; whole = refl; can = b }

begins_before : {w : List Lexeme} → Begins w → (v : List Lexeme) → Begins (w ++ v)
begins_before b v = record { first = b.first; rest = b.rest ++ v; whole = ap (λ u. u ++ v) b.whole; can = b.can }

begins_name : {x : Lexeme} {name : NameAt} → IsName x name → Begins (x ∷ [])
begins_name (plain_name name) = begins_so _ _ tt
begins_name (dotted_name name) = begins_so _ _ tt
begins_name (quoted_name name) = begins_so _ _ tt

pub begins : {n : ℕ} {w : List Lexeme} {p : Part} → Phrase n w p → Begins w
begins (looser p) = begins p
begins (number_line number at) = begins_so _ _ tt
begins (text_line text) = begins_so _ _ tt
begins (true_line at) = begins_so _ _ tt
begins (false_line at) = begins_so _ _ tt
begins (null_line at) = begins_so _ _ tt
begins (list_line opening closing vs) = begins_so _ _ tt
begins (name_line name) = begins_name name
begins (group_line opening closing p) = begins_so _ _ tt
begins (empty_line function opening closing) = begins_so _ _ tt
begins (star_line function opening star closing) = begins_so _ _ tt
begins (call_line function opening closing es) = begins_so _ _ tt
begins (cast_line cast p kind) = begins_before (begins p) _
begins (minus_line minus p) = begins_so _ _ tt
begins (not_line not p) = begins_so _ _ tt
begins (binary_line op at p q) = begins_before (begins p) _
begins (in_line opening closing m p es) = begins_before (begins p) _
begins (like_line pattern m p) = begins_before (begins p) _
begins (is_line m p) = begins_before (begins p) _

pub begins_items : {w : List Lexeme} {es : List Expr} {d : ℕ} → Items w es d → Begins w
begins_items (one_item p) = begins p
begins_items (next_item comma es p) = begins_before (begins_items es) _
