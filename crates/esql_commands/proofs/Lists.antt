-- Lists of items in a command, and what was read of it in other words.
use Rattle.std.proofs.Common.{◌≡◌, ℕ, ◌+◌, ◌≤◌, max, List, [], ◌∷◌, ◌++◌, Option, Some, None, refl, sym, subst, append_assoc, arith}
use Rattle.esql_lex.specs.declared.token.Sign.TheVariants as sign
use Rattle.esql_ast.specs.declared.query.NameAt.{NameAt}
use Rattle.esql_phrases.specs.declared.lexeme.Lexeme.{Lexeme}
use Rattle.esql_phrases.specs.declared.lexeme.Lexeme.TheVariants.{Plain, Dotted, Quoted, Sign as Mark}
use Rattle.esql_phrases.specs.Phrases.{IsName, plain_name, dotted_name, quoted_name}
use Rattle.esql_commands.specs.declared.place.CommandEnd.{CommandEnd}
use Rattle.esql_commands.specs.declared.place.Move.TheVariants.{To}
use Rattle.esql_commands.specs.declared.place.Place.{Place}
use Rattle.esql_commands.specs.declared.words.CommandWord.{CommandWord}
use Rattle.esql_commands.specs.Grammar.{Listed, first_item, next_item, Says}
use Rattle.esql_commands.specs.Lexemes.{name_in}
use Rattle.esql_commands.proofs.Reached.{name_depth, SoFar, none_yet, so_far, Reached}

pub listed_as : {A : Type 0} {One : List Lexeme → A → ℕ → Type 0} {v w : List Lexeme} {items : List A} {d e : ℕ} → v ≡ w → d ≡ e → Listed One v items d → Listed One w items e
listed_as {One = One} {w = w} {items = items} {d = d} p q l = subst (λ (n : ℕ). Listed One w items n) q (subst (λ (y : List Lexeme). Listed One y items d) p l)

-- one item more
pub with_one : {A : Type 0} {One : List Lexeme → A → ℕ → Type 0} {m w : List Lexeme} {items : List A} {a : A} {d e : ℕ} → SoFar One m items d → One w a e → Listed One (m ++ w) (items ++ a ∷ []) (max d e)
with_one {w = w} none_yet one = listed_as refl (omega arith) (first_item one)
with_one {w = w} (so_far comma {w = u} l) one = listed_as (sym (append_assoc u (Mark sign.Comma comma ∷ []) w)) refl (next_item comma l one)

pub says_as : {begin : CommandWord} {v w : List Lexeme} {says : CommandEnd} {d e : ℕ} → v ≡ w → d ≡ e → Says begin v says d → Says begin w says e
says_as {begin} {w = w} {says} {d = d} p q s = subst (λ (n : ℕ). Says begin w says n) q (subst (λ (y : List Lexeme). Says begin y says d) p s)

pub reached_as : {begin : CommandWord} {place : Place} {v w : List Lexeme} {d e : ℕ} → v ≡ w → d ≡ e → Reached begin place v d → Reached begin place w e
reached_as {begin} {place} {w = w} {d = d} p q i = subst (λ (n : ℕ). Reached begin place w n) q (subst (λ (y : List Lexeme). Reached begin place y d) p i)

pub to : {begin : CommandWord} {from place : Place} {v : List Lexeme} {d : ℕ} → Reached begin from v d → Some (To from) ≡ Some (To place) → Reached begin place v d
to {begin} {from} {place} {v} {d} i e = let same : from ≡ place = cc in subst (λ (y : Place). Reached begin y v d) same i

pub is_name : (x : Lexeme) (name : NameAt) → name_in x ≡ Some name → IsName x name
is_name (Plain other) name e = let same : other ≡ name = cc in subst (λ (n : NameAt). IsName (Plain other) n) same (plain_name other)
is_name (Dotted other) name e = let same : other ≡ name = cc in subst (λ (n : NameAt). IsName (Dotted other) n) same (dotted_name other)
is_name (Quoted other) name e = let same : other ≡ name = cc in subst (λ (n : NameAt). IsName (Quoted other) n) same (quoted_name other)
is_name _ name e = cc

pub name_depth_low : (name : Option NameAt) → name_depth name ≤ 1
name_depth_low None = omega arith
name_depth_low (Some name) = omega arith
