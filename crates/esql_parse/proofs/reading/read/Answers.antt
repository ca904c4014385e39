use Rattle.std.proofs.Common.{◌⊎◌, List, ℕ, get_or, inl, inr, sym, ◌∙◌, subst, refl}
use Rattle.std.proofs.lemmas.Result.{err_from_is_err_and}
use Rattle.esql_lex.specs.declared.token.Token.{Token}
use Rattle.esql_lex.specs.declared.token.TokenKind.TheVariants.{Name}
use Rattle.esql_parse.specs.declared.error.ParseError.{ParseError}
use Rattle.esql_parse.specs.Limits.{Continues, Leaves}
use Rattle.esql_parse.specs.Spells.{IsWantOfMemory, Refuses}
use Rattle.esql_parse.proofs.Readings.{refused_at, reaches_next, reaches_all, read_whole, read_answer}
use Rattle.esql_parse.proofs.reading.read.Goals as goal

abbrev no_token : Token
no_token = record { kind = Name; span = record { from = 0; to = 0 } }

pub returns-in_err-state : goal.returns-in_err-state
returns-in_err-state c =
    let text : List ℕ = c.args.text.now in
    let tokens : List Token = c.args.tokens.now in
    let place = c.loop-place.place in
    let p = err_from_is_err_and c.from_residual-in_err-state.result c.from_residual-in_err-state.ensures.1 in
    let error : ParseError = c.in_err-state.field-0.0 in
    let answered : IsWantOfMemory error ⊎ Refuses text tokens error = elim c.in_err-state.ensures [
      | inl memory ↦ inl memory
      | inr leaves ↦ inr (refused_at text tokens place (get_or tokens place no_token) no_token c.loop-place.state error c.loop-place-test.true refl c.loop-place.invariant
          (subst (λ x. Leaves c.loop-place.state x place error) c.in_ok-lexeme.ensures leaves))
    ] in
    rw p.1 (subst (λ (e : ParseError). IsWantOfMemory e ⊎ Refuses text tokens e) (sym p.2) answered)

pub loop-place-preserved : goal.loop-place-preserved
loop-place-preserved c =
    let text : List ℕ = c.args.text.now in
    let tokens : List Token = c.args.tokens.now in
    let place = c.loop-place.place in
    reaches_next text tokens place (get_or tokens place no_token) no_token c.loop-place.state c.in_ok-state.state c.loop-place-test.true refl c.loop-place.invariant
    (subst (λ x. Continues c.loop-place.state x c.in_ok-state.state) c.in_ok-lexeme.ensures c.in_ok-state.ensures)

pub unreachable-requires : goal.unreachable-requires
unreachable-requires c =
    let whole = read_whole c.args.text.now c.args.tokens.now c.loop-place.state c.requires.fit.ends
    (reaches_all c.args.text.now c.args.tokens.now c.loop-place.place c.loop-place.state c.loop-place-test.false c.loop-place.invariant) in
    let some = whole.1 in let is = c.written_of.ensures in let none = c.in-None.is in cc

pub returns : goal.returns
returns c =
    read_answer c.args.text.now c.args.tokens.now c.loop-place.state c.in-Some.written c.requires.fit.ends
    (reaches_all c.args.text.now c.args.tokens.now c.loop-place.place c.loop-place.state c.loop-place-test.false c.loop-place.invariant)
    c.loop-place.invariant.shallow c.loop-place.invariant.few (sym c.written_of.ensures ∙ c.in-Some.is)
