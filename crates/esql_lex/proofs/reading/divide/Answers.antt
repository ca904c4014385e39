use Rattle.std.proofs.Common.{◌≡◌, ◌≤◌, ◌<◌, ◌+◌, ◌-◌, [], ◌∷◌, ◌++◌, length, take, drop, sym, ◌∙◌, ap, subst, arith, inl, inr}
use Rattle.std.proofs.lemmas.List.{nil_from_length, drop-drop}
use Rattle.std.proofs.lemmas.Result.{err_from_is_err_and}
use Rattle.esql_lex.specs.declared.mode.State.TheVariants.{First}
use Rattle.esql_lex.specs.Gaps.{SplitsGap, piece_len}
use Rattle.esql_lex.specs.Modes.{mode_of, state_after}
use Rattle.esql_lex.specs.Tokens.{LexFault, BeginsWith, IsFaultAt, Divides}
use Rattle.esql_lex.proofs.Divisions.{GapAt, turn, whole, faulted, token_within, past_state}
use Rattle.esql_lex.proofs.reading.divide.Goals as goal

pub returns-in_err-push : goal.returns-in_err-push
returns-in_err-push c = let p = err_from_is_err_and c.from_residual.result c.from_residual.ensures.1 in rw p.1 (inl p.2)

pub returns-then-is_empty : goal.returns-then-is_empty
returns-then-is_empty c =
    let gap : GapAt c.args.text.now c.tokens.at c.gap_len.result = subst (λ xs. (c.gap_len.result ≤ length xs) × SplitsGap xs (take c.gap_len.result xs) (drop c.gap_len.result xs)) c.split_at.ensures.back (c.gap_len.ensures.within, c.gap_len.ensures.splits) in
    let size : length c.split_at-in-tokens.result.1.now ≡ 0 = grind (arith, c.is_empty.ensures, c.if-is_empty.true) in
    let empty : c.split_at-in-tokens.result.1.now ≡ [] = nil_from_length c.split_at-in-tokens.result.1.now size in
    rw c.in_ok-push.ensures.ok (whole c.tokens.tokens c.args.text.now c.tokens.at c.gap_len.result c.tokens.state c.tokens.invariant.divides gap (sym c.split_at-in-tokens.ensures.back ∙ empty))

pub token_at-requires-clause-no_gap : goal.token_at-requires-clause-no_gap
token_at-requires-clause-no_gap c =
    let gap : GapAt c.args.text.now c.tokens.at c.gap_len.result = subst (λ xs. (c.gap_len.result ≤ length xs) × SplitsGap xs (take c.gap_len.result xs) (drop c.gap_len.result xs)) c.split_at.ensures.back (c.gap_len.ensures.within, c.gap_len.ensures.splits) in
    ap piece_len (c.split_at-in-tokens.ensures.back ∙ sym (drop-drop c.gap_len.result c.tokens.at c.args.text.now)) ∙ gap.1.whole

pub returns-in_err-token : goal.returns-in_err-token
returns-in_err-token c =
    let p = err_from_is_err_and c.from_residual-in_err-token.result c.from_residual-in_err-token.ensures.1 in
    let gap : GapAt c.args.text.now c.tokens.at c.gap_len.result = subst (λ xs. (c.gap_len.result ≤ length xs) × SplitsGap xs (take c.gap_len.result xs) (drop c.gap_len.result xs)) c.split_at.ensures.back (c.gap_len.ensures.within, c.gap_len.ensures.splits) in
    let fault : IsFaultAt (mode_of c.tokens.state) (c.tokens.at + c.gap_len.result) (drop (c.tokens.at + c.gap_len.result) c.args.text.now) c.in_err-token.field-0.0 = subst (λ m. IsFaultAt m (c.tokens.at + c.gap_len.result) (drop (c.tokens.at + c.gap_len.result) c.args.text.now) c.in_err-token.field-0.0) c.mode.ensures (subst (λ xs. IsFaultAt c.mode.result (c.tokens.at + c.gap_len.result) xs c.in_err-token.field-0.0) c.split_at-in-tokens.ensures.back c.in_err-token.ensures) in
    rw p.1 (inr (subst (LexFault c.args.text.now) (sym p.2) (faulted c.tokens.tokens c.args.text.now c.tokens.at c.gap_len.result c.tokens.state c.in_err-token.field-0.0 c.tokens.invariant.divides gap fault)))

pub tokens-smaller : goal.tokens-smaller
tokens-smaller c =
    let gap : GapAt c.args.text.now c.tokens.at c.gap_len.result = subst (λ xs. (c.gap_len.result ≤ length xs) × SplitsGap xs (take c.gap_len.result xs) (drop c.gap_len.result xs)) c.split_at.ensures.back (c.gap_len.ensures.within, c.gap_len.ensures.splits) in
    let begins : BeginsWith (mode_of c.tokens.state) (c.tokens.at + c.gap_len.result) (drop (c.tokens.at + c.gap_len.result) c.args.text.now) c.in_ok-token.token (drop (c.in_ok-token.token.span.to - (c.tokens.at + c.gap_len.result)) (drop (c.tokens.at + c.gap_len.result) c.args.text.now)) = subst (λ m. BeginsWith m (c.tokens.at + c.gap_len.result) (drop (c.tokens.at + c.gap_len.result) c.args.text.now) c.in_ok-token.token (drop (c.in_ok-token.token.span.to - (c.tokens.at + c.gap_len.result)) (drop (c.tokens.at + c.gap_len.result) c.args.text.now))) c.mode.ensures (subst (λ xs. BeginsWith c.mode.result (c.tokens.at + c.gap_len.result) xs c.in_ok-token.token (drop (c.in_ok-token.token.span.to - (c.tokens.at + c.gap_len.result)) xs)) c.split_at-in-tokens.ensures.back c.in_ok-token.ensures) in
    let within : (c.tokens.at < c.in_ok-token.token.span.to) × (c.in_ok-token.token.span.to ≤ length c.args.text.now) = token_within (mode_of c.tokens.state) c.args.text.now c.tokens.at c.gap_len.result c.in_ok-token.token _ c.tokens.invariant.within gap begins in
    omega (arith, within.0, within.1)

pub tokens-preserved : goal.tokens-preserved
tokens-preserved c =
    let gap : GapAt c.args.text.now c.tokens.at c.gap_len.result = subst (λ xs. (c.gap_len.result ≤ length xs) × SplitsGap xs (take c.gap_len.result xs) (drop c.gap_len.result xs)) c.split_at.ensures.back (c.gap_len.ensures.within, c.gap_len.ensures.splits) in
    let begins : BeginsWith (mode_of c.tokens.state) (c.tokens.at + c.gap_len.result) (drop (c.tokens.at + c.gap_len.result) c.args.text.now) c.in_ok-token.token (drop (c.in_ok-token.token.span.to - (c.tokens.at + c.gap_len.result)) (drop (c.tokens.at + c.gap_len.result) c.args.text.now)) = subst (λ m. BeginsWith m (c.tokens.at + c.gap_len.result) (drop (c.tokens.at + c.gap_len.result) c.args.text.now) c.in_ok-token.token (drop (c.in_ok-token.token.span.to - (c.tokens.at + c.gap_len.result)) (drop (c.tokens.at + c.gap_len.result) c.args.text.now))) c.mode.ensures (subst (λ xs. BeginsWith c.mode.result (c.tokens.at + c.gap_len.result) xs c.in_ok-token.token (drop (c.in_ok-token.token.span.to - (c.tokens.at + c.gap_len.result)) xs)) c.split_at-in-tokens.ensures.back c.in_ok-token.ensures) in
    let within : (c.tokens.at < c.in_ok-token.token.span.to) × (c.in_ok-token.token.span.to ≤ length c.args.text.now) = token_within (mode_of c.tokens.state) c.args.text.now c.tokens.at c.gap_len.result c.in_ok-token.token _ c.tokens.invariant.within gap begins in
    record {
      within = within.1;
      divides = rw c.in_ok-push-2.ensures.ok (subst (λ st. Divides (c.tokens.tokens ++ c.in_ok-token.token ∷ []) First 0 c.args.text.now st c.in_ok-token.token.span.to (drop c.in_ok-token.token.span.to c.args.text.now))
          (past_state (mode_of c.tokens.state) c.tokens.state (c.tokens.at + c.gap_len.result) (drop (c.tokens.at + c.gap_len.result) c.args.text.now) c.in_ok-token.token _ begins ∙ ap (state_after c.tokens.state c.in_ok-token.token.kind) (ap (take (c.in_ok-token.token.span.to - (c.tokens.at + c.gap_len.result))) (sym c.split_at-in-tokens.ensures.back) ∙ sym c.split_at-in-tokens-2.ensures.front) ∙ sym c.after-state.ensures)
          (turn c.tokens.tokens c.in_ok-token.token c.args.text.now c.tokens.at c.gap_len.result c.tokens.state c.tokens.invariant.divides gap begins));
    }

pub returns-in_err-push-2 : goal.returns-in_err-push-2
returns-in_err-push-2 c = let p = err_from_is_err_and c.from_residual-in_err-push-2.result c.from_residual-in_err-push-2.ensures.1 in rw p.1 (inl p.2)
