-- What the loop over the tokens of a text keeps, and what it answers.
use Rattle.std.proofs.Common.{◌≡◌, refl, ℕ, ◌+◌, ◌≤◌, ◌<◌, suc, List, [], ◌∷◌, ◌++◌, length, take, drop, get_or, Option, Some, ap, sym, ◌∙◌, subst, arith}
use Rattle.std.proofs.lemmas.List.{map-append, take-append-drop, length-map, length-take-le}
use Rattle.std.proofs.Math.Seq.{drop-cons, take-suc}
use Rattle.esql_types.specs.declared.places.Span.{Span}
use Rattle.esql_lex.specs.declared.token.Token.{Token}
use Rattle.esql_lex.specs.declared.token.TokenKind.{TokenKind}
use Rattle.esql_lex.specs.declared.token.TokenKind.TheVariants as kind
use Rattle.esql_lex.specs.Tokens.{slice_of, EndsOnce}
use Rattle.esql_ast.specs.Numbering.{size_of_query}
use Rattle.esql_phrases.specs.declared.lexeme.Lexeme.{Lexeme}
use Rattle.esql_phrases.specs.declared.lexeme.Lexeme.TheVariants.{End}
use Rattle.esql_phrases.specs.Lexemes.{lexeme_at, lexeme_of}
use Rattle.esql_parse.specs.declared.error.ParseError.{ParseError}
use Rattle.esql_parse.specs.declared.error.ParseError.TheVariants.{Unexpected, TooDeep, TooMany, Memory}
use Rattle.esql_parse.specs.declared.state.Written.{Written}
use Rattle.esql_parse.specs.declared.state.State.{State}
use Rattle.esql_parse.specs.declared.state.Inside.TheVariants.{Done}
use Rattle.esql_parse.specs.Grammar.{SpellsQuery}
use Rattle.esql_parse.specs.Limits.{Continues, Leaves, written_in, written_of}
use Rattle.esql_parse.specs.Machine.{need, need_inside, pipes, piped, start, walk}
use Rattle.esql_parse.specs.Refusals.{RefusesAt}
use Rattle.esql_parse.specs.Spells.{lexemes_of}
use Rattle.esql_parse.proofs.Fronts.{ends_done}
use Rattle.esql_parse.proofs.Refusals.{walk_next, refuses_unexpected, refuses_many, refuses_deep}
use Rattle.esql_parse.proofs.Sizes.{query_size}
use Rattle.esql_parse.proofs.Sound.{spelled}

-- the state after the tokens before a place, within the limits
pub record Reaches (text : List ℕ) (tokens : List Token) (place : ℕ) (s : State) : Type 0 where
  pub walks : walk (lexemes_of text (take place tokens)) start ≡ Some s
  pub shallow : need s ≤ 100
  pub few : pipes s ≤ 200

cut_at : (tokens : List Token) (place : ℕ) (token d : Token) → place < length tokens → token ≡ get_or tokens place d → drop place tokens ≡ token ∷ drop (place + 1) tokens
cut_at tokens place token d within is =
    let next : suc place ≡ place + 1 = omega arith in
    drop-cons tokens place d within ∙ ap (λ (t : Token). t ∷ drop (suc place) tokens) (sym is) ∙ ap (λ n. token ∷ drop n tokens) next

-- the lexemes before a place, the one at it, and the rest
parted : (text : List ℕ) (tokens : List Token) (place : ℕ) (token d : Token) → place < length tokens → token ≡ get_or tokens place d
    → lexemes_of text (take place tokens) ++ lexeme_of text token ∷ lexemes_of text (drop (place + 1) tokens) ≡ lexemes_of text tokens
parted text tokens place token d within is =
    sym (map-append (lexeme_of text) (take place tokens) (token ∷ drop (place + 1) tokens))
    ∙ ap (λ (rest : List Token). lexemes_of text (take place tokens ++ rest)) (sym (cut_at tokens place token d within is))
    ∙ ap (lexemes_of text) (take-append-drop place tokens)

count_before : (text : List ℕ) (tokens : List Token) (place : ℕ) → place < length tokens → length (lexemes_of text (take place tokens)) ≡ place
count_before text tokens place within = length-map (take place tokens) (lexeme_of text) ∙ length-take-le place tokens (omega arith)

leaves_refused : (v rest : List Lexeme) (x : Lexeme) (s : State) (e : ParseError) → walk v start ≡ Some s → need s ≤ 100 → pipes s ≤ 200 → Leaves s x (length v) e → RefusesAt 100 200 (v ++ x ∷ rest) e
leaves_refused v rest x s (Unexpected at) walks shallow few leaves =
    subst (λ n. RefusesAt 100 200 (v ++ x ∷ rest) (Unexpected n)) (sym leaves.0) (refuses_unexpected 100 200 v rest x s walks shallow few leaves.1)
leaves_refused v rest x s (TooMany at) walks shallow few leaves =
    subst (λ n. RefusesAt 100 200 (v ++ x ∷ rest) (TooMany n)) (sym leaves.0) (refuses_many 100 200 v rest x s leaves.1.0 walks shallow few leaves.1.1 leaves.1.2)
leaves_refused v rest x s (TooDeep at) walks shallow few leaves =
    subst (λ n. RefusesAt 100 200 (v ++ x ∷ rest) (TooDeep n)) (sym leaves.0) (refuses_deep 100 200 v rest x s leaves.1.0 walks shallow few leaves.1.1 leaves.1.2 leaves.1.3)
leaves_refused v rest x s (Memory error) walks shallow few leaves = absurd leaves

-- a token that leaves the queries is refused
pub refused_at : (text : List ℕ) (tokens : List Token) (place : ℕ) (token d : Token) (s : State) (e : ParseError) → place < length tokens → token ≡ get_or tokens place d
    → Reaches text tokens place s → Leaves s (lexeme_of text token) place e → RefusesAt 100 200 (lexemes_of text tokens) e
refused_at text tokens place token d s e within is reaches leaves =
    let v = lexemes_of text (take place tokens) in
    subst (λ (w : List Lexeme). RefusesAt 100 200 w e) (parted text tokens place token d within is)
    (leaves_refused v (lexemes_of text (drop (place + 1) tokens)) (lexeme_of text token) s e reaches.walks reaches.shallow reaches.few
    (subst (λ n. Leaves s (lexeme_of text token) n e) (sym (count_before text tokens place within)) leaves))

end_lexeme : (k : TokenKind) (slice : List ℕ) (span : Span) → k ≡ kind.End → lexeme_at k slice span ≡ End span
end_lexeme k slice span e = ap (λ k. lexeme_at k slice span) e

-- the last lexeme is the end
end_last : (text : List ℕ) (tokens : List Token) (once : EndsOnce tokens) → lexemes_of text tokens ≡ lexemes_of text once.front ++ End once.last.span ∷ []
end_last text tokens once =
    ap (lexemes_of text) once.whole ∙ map-append (lexeme_of text) once.front (once.last ∷ [])
    ∙ ap (λ (x : Lexeme). lexemes_of text once.front ++ x ∷ []) (end_lexeme once.last.kind (slice_of text once.last) once.last.span once.end)

done_written : (s : State) (o : Option Written) → s.inside ≡ Done → written_of s ≡ o → s.progress.before ≡ o
done_written s o e f = sym (ap (written_in s.progress.before) e) ∙ f

-- every token was read, and the lexemes spell the query of the state
pub read_whole : (text : List ℕ) (tokens : List Token) (s : State) → EndsOnce tokens → walk (lexemes_of text tokens) start ≡ Some s
    → (written : Written) × (written_of s ≡ Some written) × SpellsQuery (lexemes_of text tokens) written s.progress.deepest × (s.inside ≡ Done)
read_whole text tokens s once walks =
    let done : s.inside ≡ Done = ends_done (lexemes_of text once.front) once.last.span s (subst (λ (w : List Lexeme). walk w start ≡ Some s) (end_last text tokens once) walks) in
    let spelled = spelled walks done in
    (spelled.0, ap (written_in s.progress.before) done ∙ spelled.1, spelled.2, done)

some_same : {A : Type 0} {a b : A} → Some a ≡ Some b → a ≡ b
some_same e = cc

-- the query of the last state, within the limits
pub read_answer : (text : List ℕ) (tokens : List Token) (s : State) (written : Written) → EndsOnce tokens → walk (lexemes_of text tokens) start ≡ Some s → need s ≤ 100 → pipes s ≤ 200
    → written_of s ≡ Some written → (depth : ℕ) × SpellsQuery (lexemes_of text tokens) written depth × (depth ≤ 100) × (length written.commands ≤ 200)
read_answer text tokens s written once walks shallow few is =
    let whole = read_whole text tokens s once walks in
    let same : whole.0 ≡ written = some_same (sym whole.1 ∙ is) in
    let done : s.inside ≡ Done = whole.3 in
    let before : s.progress.before ≡ Some whole.0 = done_written s (Some whole.0) done whole.1 in
    let deep : s.progress.deepest ≤ 100 = subst (λ i. need_inside s.progress.deepest i ≤ 100) done shallow in
    let piped_done : piped s.progress.before Done ≤ 200 = subst (λ i. piped s.progress.before i ≤ 200) done few in
    let count : length whole.0.commands ≤ 200 = subst (λ b. piped b Done ≤ 200) before piped_done in
    subst (λ (w : Written). (depth : ℕ) × SpellsQuery (lexemes_of text tokens) w depth × (depth ≤ 100) × (length w.commands ≤ 200)) same (s.progress.deepest, whole.2, deep, count)

take_one_more : (tokens : List Token) (place : ℕ) (token d : Token) → place < length tokens → token ≡ get_or tokens place d → take (place + 1) tokens ≡ take place tokens ++ token ∷ []
take_one_more tokens place token d within is =
    let next : place + 1 ≡ suc place = omega arith in
    ap (λ n. take n tokens) next ∙ take-suc tokens place d within ∙ ap (λ (t : Token). take place tokens ++ t ∷ []) (sym is)

-- a token with which the query continues leads to the next state
pub reaches_next : (text : List ℕ) (tokens : List Token) (place : ℕ) (token d : Token) (s next : State) → place < length tokens → token ≡ get_or tokens place d
    → Reaches text tokens place s → Continues s (lexeme_of text token) next → Reaches text tokens (place + 1) next
reaches_next text tokens place token d s next within is reaches goes =
    let v = lexemes_of text (take place tokens) in
    let more : lexemes_of text (take (place + 1) tokens) ≡ v ++ lexeme_of text token ∷ [] =
    ap (lexemes_of text) (take_one_more tokens place token d within is) ∙ map-append (lexeme_of text) (take place tokens) (token ∷ []) in
    record {
      walks = subst (λ (w : List Lexeme). walk w start ≡ Some next) (sym more) (walk_next v (lexeme_of text token) s next reaches.walks goes.steps);
      shallow = goes.shallow;
      few = goes.few;
    }

take_whole : (tokens : List Token) (place : ℕ) → length tokens ≤ place → take place tokens ≡ tokens
take_whole [] ℕ.zero h = refl
take_whole [] (ℕ.suc place) h = refl
take_whole (t ∷ tokens) ℕ.zero h = absurd (omega (arith, h))
take_whole (t ∷ tokens) (ℕ.suc place) h = ap (λ (rest : List Token). t ∷ rest) (take_whole tokens place (omega (arith, h)))

-- past the last token every token was read
pub reaches_all : (text : List ℕ) (tokens : List Token) (place : ℕ) (s : State) → length tokens ≤ place → Reaches text tokens place s → walk (lexemes_of text tokens) start ≡ Some s
reaches_all text tokens place s past reaches = subst (λ (t : List Token). walk (lexemes_of text t) start ≡ Some s) (take_whole tokens place past) reaches.walks

-- the nodes of a query that tokens of a short text spell have numbers
pub few_nodes : (text : List ℕ) (tokens : List Token) (written : Written) (depth : ℕ) → SpellsQuery (lexemes_of text tokens) written depth → length text ≤ 65536 → length tokens ≤ length text + 1
    → size_of_query written.source written.commands < 4294967296
few_nodes text tokens written depth spells short count =
    let size = query_size spells in let n : length (lexemes_of text tokens) ≡ length tokens = length-map tokens (lexeme_of text) in omega (arith, size, n, short, count)
