use Rattle.std.proofs.Common.{⊎_elim}
use Rattle.esql_answer.specs.Queries.{unexpected, too_deep, too_many}
use Rattle.esql_answer.proofs.Queries.{refusal_unread}
use Rattle.esql_answer.proofs.ShortQueries.{spelled_short}
use Rattle.esql_answer.proofs.query.parse_tokens.Goals as goal

pub returns-in-Ok-clause-short : goal.returns-in-Ok-clause-short
returns-in-Ok-clause-short c = spelled_short c.args.text.now c.args.tokens.now c.in-Ok.query c.requires.short c.requires.fit c.in-Ok.ensures.exact

pub returns-in-Err-Unexpected-clause-read : goal.returns-in-Err-Unexpected-clause-read
returns-in-Err-Unexpected-clause-read c =
    let refused = refusal_unread c.args.text.now c.args.tokens.now c.refused.result _ c.in-Err-Unexpected.token _ _ c.requires.short c.requires.lexed c.requires.fit (unexpected c.in-Err-Unexpected.token _)
    (rw c.in-Err-Unexpected.field-0-is at c.in-Err-Unexpected.ensures.place) (rw (c.unexpected_kind.ensures, c.as_slice.ensures) at c.refused.ensures) in
    ⊎_elim (λ want. absurd want) refused (rw c.in-Err-Unexpected.field-0-is at c.in-Err-Unexpected.ensures.exact)

pub returns-in-Err-TooDeep-clause-read : goal.returns-in-Err-TooDeep-clause-read
returns-in-Err-TooDeep-clause-read c =
    let refused = refusal_unread c.args.text.now c.args.tokens.now c.refused-in-Err-TooDeep.result _ c.in-Err-TooDeep.token _ _ c.requires.short c.requires.lexed c.requires.fit (too_deep c.in-Err-TooDeep.token _)
    (rw c.in-Err-TooDeep.field-0-is at c.in-Err-TooDeep.ensures.place) (rw c.as_slice-in-Err-TooDeep.ensures at c.refused-in-Err-TooDeep.ensures) in
    ⊎_elim (λ want. absurd want) refused (rw c.in-Err-TooDeep.field-0-is at c.in-Err-TooDeep.ensures.exact)

pub returns-in-Err-TooMany-clause-read : goal.returns-in-Err-TooMany-clause-read
returns-in-Err-TooMany-clause-read c =
    let refused = refusal_unread c.args.text.now c.args.tokens.now c.refused-in-Err-TooMany.result _ c.in-Err-TooMany.token _ _ c.requires.short c.requires.lexed c.requires.fit (too_many c.in-Err-TooMany.token _)
    (rw c.in-Err-TooMany.field-0-is at c.in-Err-TooMany.ensures.place) (rw c.as_slice-in-Err-TooMany.ensures at c.refused-in-Err-TooMany.ensures) in
    ⊎_elim (λ want. absurd want) refused (rw c.in-Err-TooMany.field-0-is at c.in-Err-TooMany.ensures.exact)
