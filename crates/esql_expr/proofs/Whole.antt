-- What a phrase is for those who read on after it.
use Rattle.std.proofs.Common.{◌≡◌, ℕ, List, [], Option, Some, None, refl, sym, ◌∙◌, ap, arith}
use Rattle.esql_phrases.specs.declared.lexeme.Lexeme.{Lexeme}
use Rattle.esql_phrases.specs.declared.lexeme.Lexeme.TheVariants.{End}
use Rattle.esql_phrases.specs.declared.part.Part.{Part}
use Rattle.esql_expr.specs.declared.machine.Reader.{Reader}
use Rattle.esql_expr.specs.declared.machine.Stepped.TheVariants.{Ends}
use Rattle.esql_phrases.specs.Phrases.{Phrase}
use Rattle.esql_expr.specs.Machine.{start, opener, close, step, walk}
use Rattle.esql_expr.proofs.Walks.{leaves_all, NoParen, none_stops}
use Rattle.esql_expr.proofs.Complete.{reads}

-- the lexemes are read, and the next one ends the expression
pub record EndsAt (least : ℕ) (w : List Lexeme) (p : Part) (x : Lexeme) : Type 0 where
  pub reader : Reader
  pub walked : walk w (start least) ≡ Some reader
  pub ends : step reader x ≡ Ends p x

-- a phrase ends before any lexeme that goes on with no operand and no name
pub ends_at : {least : ℕ} {w : List Lexeme} {p : Part} → Phrase least w p → (x : Lexeme) → opener x ≡ None → NoParen x → EndsAt least w p x
unfolding close
ends_at {least} {p = p} phrase x e f =
    let r = reads phrase least [] (omega arith) in
    record { reader = r.after; walked = r.walked; ends = r.agrees x (none_stops least x e f) ∙ leaves_all least [] p x e }

-- one reader ends before a lexeme with one expression
one_end : (a : Option Reader) (r s : Reader) (p q : Part) (x : Lexeme) → a ≡ Some r → a ≡ Some s → step r x ≡ Ends p x → step s x ≡ Ends q x → p ≡ q
one_end a r s p q x e f g h =
    let same : r ≡ s = cc in
    let ends : Ends p x ≡ Ends q x = sym g ∙ ap (λ t. step t x) same ∙ h in
    cc

-- lexemes are at most one expression of a line
pub one_phrase : {least : ℕ} {w : List Lexeme} {p q : Part} → Phrase least w p → Phrase least w q → p ≡ q
one_phrase {least} {w} {p} {q} a b =
    let x = End (record { from = 0; to = 0 }) in
    let i = ends_at a x refl tt in
    let j = ends_at b x refl tt in
    one_end (walk w (start least)) i.reader j.reader p q x i.walked j.walked i.ends j.ends
