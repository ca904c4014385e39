-- What the machine reads and ends, in terms of the grammar.
use Rattle.std.proofs.Common.{◌≡◌, ℕ, ◌≤◌, List, [], ◌∷◌, ◌++◌, Some, refl, sym, ◌∙◌, subst, arith}
use Rattle.esql_phrases.specs.declared.lexeme.Lexeme.{Lexeme}
use Rattle.esql_phrases.specs.declared.lexeme.Lexeme.TheVariants.{End}
use Rattle.esql_phrases.specs.declared.part.Part.{Part}
use Rattle.esql_expr.specs.declared.machine.Reader.{Reader}
use Rattle.esql_expr.specs.declared.machine.Stepped.TheVariants.{Goes, Ends}
use Rattle.esql_phrases.specs.Phrases.{Phrase}
use Rattle.esql_expr.specs.Machine.{start, step, going, walk, need}
use Rattle.esql_expr.proofs.Walks.{walk-append}
use Rattle.esql_expr.proofs.Whole.{ends_at}
use Rattle.esql_expr.proofs.Grows.{step_grows, ends_needs}
use Rattle.esql_expr.proofs.Sound.{going_goes, and_then_some, walked, step_ends}
use Rattle.esql_expr.proofs.Viable.{viable}

-- where the machine ends an expression, the lexemes spell it, and it has the depth that was needed
pub ends_spelled : (least : ℕ) (w : List Lexeme) (r : Reader) (p : Part) (x y : Lexeme) → least ≤ 8 → walk w (start least) ≡ Some r → step r x ≡ Ends p y → Phrase least w p × (y ≡ x) × (p.depth ≡ need r)
ends_spelled least w r p x y k e f =
    let way = walked least w r k e in
    let kept : r.least ≡ least = way.kept in
    let ended = step_ends r x p y (subst (λ (m : ℕ). m ≤ 8) (sym kept) k) way.reads f in
    (subst (λ (m : ℕ). Phrase m w p) kept ended.0, ended.1, ends_needs r x p y f)

-- while the machine goes on, some expression begins so, and it has the depth that is needed
pub goes_on : (least : ℕ) (w : List Lexeme) (r : Reader) → least ≤ 8 → walk w (start least) ≡ Some r → (rest : List Lexeme) × (p : Part) × Phrase least (w ++ rest) p × (p.depth ≡ need r)
goes_on least w r k e =
    let way = walked least w r k e in
    let kept : r.least ≡ least = way.kept in
    let c = viable r.least r.frames r.top (subst (λ (m : ℕ). m ≤ 8) (sym kept) k) way.reads in
    (c.rest, c.part, subst (λ (m : ℕ). Phrase m (w ++ c.rest) c.part) kept c.phrase, c.deep)

-- the depth that is needed never falls
pub need_grows : (r to : Reader) (x : Lexeme) → step r x ≡ Goes to → need r ≤ need to
need_grows r to x e = step_grows r to x e

pub walk_grows : (w : List Lexeme) (r to : Reader) → walk w r ≡ Some to → need r ≤ need to
walk_grows [] r to e = let same : r ≡ to = cc in subst (λ (s : Reader). need r ≤ need s) same (omega arith)
walk_grows (x ∷ w) r to e =
    let n = and_then_some (going (step r x)) (walk w) to e in
    let first = step_grows r n.0 x (going_goes (step r x) n.0 n.1) in
    let others = walk_grows w n.0 to n.2 in
    omega arith

-- the machine goes on with all that an expression begins with, and never needs a depth beyond that expression's
pub front_walked : (least : ℕ) (w rest : List Lexeme) (p : Part) → Phrase least (w ++ rest) p → (r : Reader) × (walk w (start least) ≡ Some r) × (need r ≤ p.depth)
front_walked least w rest p phrase =
    let x = End (record { from = 0; to = 0 }) in
    let whole = ends_at phrase x refl tt in
    let n = and_then_some (walk w (start least)) (walk rest) whole.reader (sym (walk-append w rest (start least)) ∙ whole.walked) in
    let grown = walk_grows rest n.0 whole.reader n.2 in
    let deep = ends_needs whole.reader x p x whole.ends in
    (n.0, n.1, omega arith)
