use Rattle.std.proofs.Common.{sym, subst, arith}
use Rattle.std.proofs.lemmas.Str.{IsCharBoundary-start}
use Rattle.esql_answer.specs.Queries.{IsUnread, too_long, bad_character, open_string, bad_escape, open_comment, wide_number}
use Rattle.esql_answer.proofs.Queries.{point, fault_unread}
use Rattle.esql_answer.proofs.query.read_query.Goals as goal

pub returns-then-text-gt-LONGEST_QUERY-clause-read : goal.returns-then-text-gt-LONGEST_QUERY-clause-read
returns-then-text-gt-LONGEST_QUERY-clause-read c =
    subst (IsUnread c.args.text.now) (sym c.refused_at.ensures) (too_long c.if-text-gt-LONGEST_QUERY.true, point c.args.text.now 0 (IsCharBoundary-start c.args.text.now c.utf8.text) (omega arith))

pub returns-in-Err-BadCharacter-clause-read : goal.returns-in-Err-BadCharacter-clause-read
returns-in-Err-BadCharacter-clause-read c =
    fault_unread c.args.text.now c.refused_at-in-Err-BadCharacter.result _ _ _ c.if-text-gt-LONGEST_QUERY.false (bad_character c.in-Err-BadCharacter.at) (λ want. want)
    (rw c.in-Err-BadCharacter.field-0-is at c.in-Err-BadCharacter.ensures.exact) (rw c.in-Err-BadCharacter.field-0-is at c.in-Err-BadCharacter.ensures.place) (rw c.in-Err-BadCharacter.field-0-is at c.refused_at-in-Err-BadCharacter.ensures)

pub returns-in-Err-OpenString-clause-read : goal.returns-in-Err-OpenString-clause-read
returns-in-Err-OpenString-clause-read c =
    fault_unread c.args.text.now c.refused_at-in-Err-OpenString.result _ _ _ c.if-text-gt-LONGEST_QUERY.false (open_string c.in-Err-OpenString.at) (λ want. want)
    (rw c.in-Err-OpenString.field-0-is at c.in-Err-OpenString.ensures.exact) (rw c.in-Err-OpenString.field-0-is at c.in-Err-OpenString.ensures.place) (rw c.in-Err-OpenString.field-0-is at c.refused_at-in-Err-OpenString.ensures)

pub returns-in-Err-BadEscape-clause-read : goal.returns-in-Err-BadEscape-clause-read
returns-in-Err-BadEscape-clause-read c =
    fault_unread c.args.text.now c.refused_at-in-Err-BadEscape.result _ _ _ c.if-text-gt-LONGEST_QUERY.false (bad_escape c.in-Err-BadEscape.at) (λ want. want)
    (rw c.in-Err-BadEscape.field-0-is at c.in-Err-BadEscape.ensures.exact) (rw c.in-Err-BadEscape.field-0-is at c.in-Err-BadEscape.ensures.place) (rw c.in-Err-BadEscape.field-0-is at c.refused_at-in-Err-BadEscape.ensures)

pub returns-in-Err-OpenComment-clause-read : goal.returns-in-Err-OpenComment-clause-read
returns-in-Err-OpenComment-clause-read c =
    fault_unread c.args.text.now c.refused_at-in-Err-OpenComment.result _ _ _ c.if-text-gt-LONGEST_QUERY.false (open_comment c.in-Err-OpenComment.at) (λ want. want)
    (rw c.in-Err-OpenComment.field-0-is at c.in-Err-OpenComment.ensures.exact) (rw c.in-Err-OpenComment.field-0-is at c.in-Err-OpenComment.ensures.place) (rw c.in-Err-OpenComment.field-0-is at c.refused_at-in-Err-OpenComment.ensures)

pub returns-in-Err-WideNumber-clause-read : goal.returns-in-Err-WideNumber-clause-read
returns-in-Err-WideNumber-clause-read c =
    fault_unread c.args.text.now c.refused_at-in-Err-WideNumber.result _ _ _ c.if-text-gt-LONGEST_QUERY.false (wide_number c.in-Err-WideNumber.at) (λ want. want)
    (rw c.in-Err-WideNumber.field-0-is at c.in-Err-WideNumber.ensures.exact) (rw c.in-Err-WideNumber.field-0-is at c.in-Err-WideNumber.ensures.place) (rw c.in-Err-WideNumber.field-0-is at c.refused_at-in-Err-WideNumber.ensures)
