-- Where a lexeme is refused, and why; there is one refusal at most, and none of a query within the limits.
use Rattle.std.proofs.Common.{◌≡◌, ℕ, suc, ◌+◌, ◌<◌, ◌≤◌, inl, inr, List, [], ◌∷◌, ◌++◌, length, take, drop, Option, Some, None, sym, ◌∙◌, ap, subst, append_assoc, append-nil, length-append, arith}
use Rattle.std.proofs.Math.Seq.{take-append_seam, take-append-add, take-length}
use Rattle.std.proofs.lemmas.List.{take-append-drop, take-append-le, length-take-le}
use Rattle.std.proofs.lemmas.Bool.{cases_order}
use Rattle.esql_lex.specs.declared.token.Sign.TheVariants as sign
use Rattle.esql_phrases.specs.declared.lexeme.Lexeme.{Lexeme}
use Rattle.esql_phrases.specs.declared.lexeme.Lexeme.TheVariants.{Sign as Mark}
use Rattle.esql_expr.specs.Machine.{and_then}
use Rattle.esql_parse.specs.declared.error.ParseError.{ParseError}
use Rattle.esql_parse.specs.declared.error.ParseError.TheVariants.{Unexpected, TooDeep, TooMany, Memory}
use Rattle.esql_parse.specs.declared.state.State.{State}
use Rattle.esql_parse.specs.declared.state.Written.{Written}
use Rattle.esql_parse.specs.Grammar.{SpellsQuery}
use Rattle.esql_parse.specs.Machine.{step, need, pipes, start, walk}
use Rattle.esql_parse.specs.Refusals.{Front, FrontWithin, bar_at, bars, Breaks, RefusesAt}
use Rattle.esql_parse.proofs.Fronts.{front, front_within, front_walked, front_within_walked}
use Rattle.esql_parse.proofs.Grows.{step_grows, counted}
use Rattle.esql_parse.proofs.Sound.{walked}
use Rattle.esql_parse.proofs.Steps.{walk-append}

walk_one : (v : List Lexeme) (x : Lexeme) (s : State) (o : Option State) → walk v start ≡ Some s → step s x ≡ o → walk (v ++ x ∷ []) start ≡ and_then o (walk [])
walk_one v x s o e f = walk-append v (x ∷ []) start ∙ ap (λ o. and_then o (walk (x ∷ []))) e ∙ ap (λ o. and_then o (walk [])) f

-- the lexemes so far lead on
pub walk_next : (v : List Lexeme) (x : Lexeme) (s r : State) → walk v start ≡ Some s → step s x ≡ Some r → walk (v ++ x ∷ []) start ≡ Some r
walk_next v x s r e f = walk_one v x s (Some r) e f

some_same : {A : Type 0} {a b : A} → Some a ≡ Some b → a ≡ b
some_same e = cc

take_before : (v rest : List Lexeme) (x : Lexeme) → take (length v) (v ++ x ∷ rest) ≡ v
take_before v rest x = take-append_seam v (x ∷ rest)

take_with : (v rest : List Lexeme) (x : Lexeme) → take (length v + 1) (v ++ x ∷ rest) ≡ v ++ x ∷ []
take_with v rest x = take-append-add v (x ∷ rest) 1

place_within : (v rest : List Lexeme) (x : Lexeme) → length v < length (v ++ x ∷ rest)
place_within v rest x = let n = length-append v (x ∷ rest) in omega arith

-- no query within the limits continues with the lexeme, where the state after it, if there is one, leaves them
breaks : (limit most : ℕ) (v rest : List Lexeme) (x : Lexeme) (s : State) → walk v start ≡ Some s → need s ≤ limit → pipes s ≤ most
    → ((r : State) → walk (v ++ x ∷ []) start ≡ Some r → need r ≤ limit → pipes r ≤ most → ⊥) → Breaks limit most (v ++ x ∷ rest) (length v)
breaks limit most v rest x s e h c out = record {
  at = place_within v rest x;
  before = subst (λ (y : List Lexeme). FrontWithin limit most y) (sym (take_before v rest x)) (front_within limit most v s e h c);
  not_with = λ z. let n = front_within_walked (subst (λ (y : List Lexeme). FrontWithin limit most y) (take_with v rest x) z) in out n.0 n.1 n.2 n.3;
}

pub refuses_unexpected : (limit most : ℕ) (v rest : List Lexeme) (x : Lexeme) (s : State) → walk v start ≡ Some s → need s ≤ limit → pipes s ≤ most → step s x ≡ None
    → RefusesAt limit most (v ++ x ∷ rest) (Unexpected (length v))
refuses_unexpected limit most v rest x s e h c f =
    let a : walk (v ++ x ∷ []) start ≡ None = walk_one v x s None e f in (
      breaks limit most v rest x s e h c (λ r b _ _. cc),
      λ z. let r = front_walked (subst (λ (y : List Lexeme). Front y) (take_with v rest x) z) in let b = r.1 in cc,
    )

bar_one : (x : Lexeme) → bar_at x ≤ 1
bar_one (Mark sign.Bar at) = omega arith
bar_one _ = omega arith

-- the lexeme is `|`, and begins one command too many
pub refuses_many : (limit most : ℕ) (v rest : List Lexeme) (x : Lexeme) (s r : State) → walk v start ≡ Some s → need s ≤ limit → pipes s ≤ most → step s x ≡ Some r → suc most ≤ pipes r
    → RefusesAt limit most (v ++ x ∷ rest) (TooMany (length v))
refuses_many limit most v rest x s r e h c f past =
    let a : walk (v ++ x ∷ []) start ≡ Some r = walk_next v x s r e f in
    let grown = step_grows x (walked e) f in
    let counts = grown.counts in
    let one = bar_one x in
    let before = counted v s e in
    let after = counted (v ++ x ∷ []) r a in (
      breaks limit most v rest x s e h c (λ q b _ n. let same : q ≡ r = some_same (sym b ∙ a) in let low : pipes r ≤ most = subst (λ (y : State). pipes y ≤ most) same n in absurd (omega arith)),
      subst (λ (y : List Lexeme). Front y) (sym (take_with v rest x)) (front (v ++ x ∷ []) r a),
      subst (λ (y : List Lexeme). bars y ≡ suc most) (sym (take_with v rest x)) (omega arith),
      subst (λ (y : List Lexeme). bars y ≡ most) (sym (take_before v rest x)) (omega arith),
    )

-- with the lexeme an expression is too deep
pub refuses_deep : (limit most : ℕ) (v rest : List Lexeme) (x : Lexeme) (s r : State) → walk v start ≡ Some s → need s ≤ limit → pipes s ≤ most → step s x ≡ Some r → pipes r ≤ most → suc limit ≤ need r
    → RefusesAt limit most (v ++ x ∷ rest) (TooDeep (length v))
refuses_deep limit most v rest x s r e h c f few past =
    let a : walk (v ++ x ∷ []) start ≡ Some r = walk_next v x s r e f in
    let after = counted (v ++ x ∷ []) r a in (
      breaks limit most v rest x s e h c (λ q b n _. let same : q ≡ r = some_same (sym b ∙ a) in let low : need r ≤ limit = subst (λ (y : State). need y ≤ limit) same n in absurd (omega arith)),
      subst (λ (y : List Lexeme). Front y) (sym (take_with v rest x)) (front (v ++ x ∷ []) r a),
      subst (λ (y : List Lexeme). bars y ≤ most) (sym (take_with v rest x)) (omega arith),
    )

-- ---- one refusal

shorter : {limit most : ℕ} (v w : List Lexeme) → FrontWithin limit most (v ++ w) → FrontWithin limit most v
shorter v w f = record { rest = w ++ f.rest; written = f.written; depth = f.depth; spells = subst (λ (y : List Lexeme). SpellsQuery y f.written f.depth) (append_assoc v w f.rest) f.spells; shallow = f.shallow; few = f.few }

-- fewer of the lexemes are a front too
fewer : {limit most : ℕ} (w : List Lexeme) (m n : ℕ) → m ≤ n → n ≤ length w → FrontWithin limit most (take n w) → FrontWithin limit most (take m w)
fewer {limit} {most} w m n h k f =
    let front_n = take n w in
    let split = take-append-drop m front_n in
    let long : length front_n ≡ n = length-take-le n w k in
    let same : take m front_n ≡ take m w = sym (take-append-le m front_n (drop n w) (omega arith)) ∙ ap (take m) (take-append-drop n w) in
    subst (λ (y : List Lexeme). FrontWithin limit most y) same (shorter (take m front_n) (drop m front_n) (subst (λ (y : List Lexeme). FrontWithin limit most y) (sym split) f))

not_before : {limit most : ℕ} {w : List Lexeme} {m n : ℕ} → Breaks limit most w m → Breaks limit most w n → m < n → ⊥
not_before {w = w} {m = m} {n = n} a b h = let k = b.at in a.not_with (fewer w (m + 1) n (omega arith) (omega arith) b.before)

-- lexemes leave the queries within the limits at one place
one_place : {limit most : ℕ} {w : List Lexeme} {m n : ℕ} → Breaks limit most w m → Breaks limit most w n → m ≡ n
one_place {m = m} {n = n} a b = elim (cases_order m n) [
  | inl e ↦ e
  | inr r ↦ elim r [ inl h ↦ absurd (not_before a b h) | inr h ↦ absurd (not_before b a h) ]
]

-- the lexemes up to a place and the place itself
up_to : (P : List Lexeme → Type 0) (w : List Lexeme) {m n : ℕ} → m ≡ n → P (take (m + 1) w) → P (take (n + 1) w)
up_to P w e p = subst (λ (k : ℕ). P (take (k + 1) w)) e p

-- lexemes are refused in one way
pub one_refusal : (limit most : ℕ) (w : List Lexeme) (e f : ParseError) → RefusesAt limit most w e → RefusesAt limit most w f → e ≡ f
one_refusal limit most w (Unexpected m) (Unexpected n) a b = ap Unexpected (one_place a.0 b.0)
one_refusal limit most w (Unexpected m) (TooDeep n) a b = absurd (a.1 (up_to (λ (y : List Lexeme). Front y) w (sym (one_place a.0 b.0)) b.1))
one_refusal limit most w (Unexpected m) (TooMany n) a b = absurd (a.1 (up_to (λ (y : List Lexeme). Front y) w (sym (one_place a.0 b.0)) b.1))
one_refusal limit most w (TooDeep m) (Unexpected n) a b = absurd (b.1 (up_to (λ (y : List Lexeme). Front y) w (one_place a.0 b.0) a.1))
one_refusal limit most w (TooDeep m) (TooDeep n) a b = ap TooDeep (one_place a.0 b.0)
one_refusal limit most w (TooDeep m) (TooMany n) a b = let few = up_to (λ (y : List Lexeme). bars y ≤ most) w (one_place a.0 b.0) a.2 in let many = b.2 in absurd (omega arith)
one_refusal limit most w (TooMany m) (Unexpected n) a b = absurd (b.1 (up_to (λ (y : List Lexeme). Front y) w (one_place a.0 b.0) a.1))
one_refusal limit most w (TooMany m) (TooDeep n) a b = let few = up_to (λ (y : List Lexeme). bars y ≤ most) w (one_place b.0 a.0) b.2 in let many = a.2 in absurd (omega arith)
one_refusal limit most w (TooMany m) (TooMany n) a b = ap TooMany (one_place a.0 b.0)
one_refusal limit most w (Memory error) f a b = absurd a
one_refusal limit most w e (Memory error) a b = absurd b

no_break : {limit most : ℕ} {w : List Lexeme} {place : ℕ} → FrontWithin limit most w → Breaks limit most w place → ⊥
no_break {limit} {most} {w} {place} f b =
    let k = b.at in
    b.not_with (fewer w (place + 1) (length w) (omega arith) (omega arith) (subst (λ (y : List Lexeme). FrontWithin limit most y) (sym (take-length w)) f))

breaks_at : {limit most : ℕ} {w : List Lexeme} (e : ParseError) → RefusesAt limit most w e → (place : ℕ) × Breaks limit most w place
breaks_at (Unexpected place) r = (place, r.0)
breaks_at (TooDeep place) r = (place, r.0)
breaks_at (TooMany place) r = (place, r.0)
breaks_at (Memory error) r = absurd r

-- no query within the limits is refused
pub spelled_not_refused : (limit most : ℕ) {w : List Lexeme} {written : Written} {d : ℕ} (e : ParseError) → SpellsQuery w written d → d ≤ limit → length written.commands ≤ most → RefusesAt limit most w e → ⊥
spelled_not_refused limit most {w = w} {written = written} {d = d} e spells shallow few r =
    let b = breaks_at e r in
    no_break (record { rest = []; written = written; depth = d; spells = subst (λ (y : List Lexeme). SpellsQuery y written d) (sym (append-nil w)) spells; shallow = shallow; few = few }) b.1
