use Rattle.std.proofs.Common.{[], ap, refl, inl, inr, sym, ◌∙◌}
use Rattle.answer_text.specs.Messages.{cannot_read}
use Rattle.esql_run.specs.declared.status.Status.TheVariants.{ReadFault, NoMemory, PatternRoom}
use Rattle.esql_run.proofs.Ends.{line_fronts, line_taken}
use Rattle.esql_run.proofs.top.run.Goals as goal

pub returns-in-Ok-cannot_read-clause-prefixes : goal.returns-in-Ok-cannot_read-clause-prefixes
returns-in-Ok-cannot_read-clause-prefixes g c =
    let called = rw c.in-Err-ReadFault.field-0-is at c.in-Err-ReadFault.ensures.called in
    line_fronts ReadFault _ _ _ _ _ _ c.write_both-in-Ok-cannot_read.result _ _ _ _ _ _ (λ e. cc)
    (inr (inl (called.1.rose, rw called.1.named called.0, c.in-Ok-cannot_read.ensures ∙ ap cannot_read (c.as_str-in-Err-ReadFault.ensures ∙ sym called.1.named))))
    (ap (λ x. ([], x)) c.as_str-in-Ok-cannot_read.ensures) c.write_both-in-Ok-cannot_read.ensures.writes

pub returns-in-Err-ReadFault-clause-prefixes : goal.returns-in-Err-ReadFault-clause-prefixes
returns-in-Err-ReadFault-clause-prefixes g c =
    line_fronts NoMemory _ _ _ _ _ _ c.write_both-in-Err.result _ _ _ _ _ _ (λ e. cc) (inl refl) (ap (λ x. ([], x)) c.out_of_memory.ensures) c.write_both-in-Err.ensures.writes

pub returns-clause-prefixes : goal.returns-clause-prefixes
returns-clause-prefixes g c =
    line_fronts NoMemory _ _ _ _ _ _ c.write_both-in-Err-Memory.result _ _ _ _ _ _ (λ e. cc) (inl refl) (ap (λ x. ([], x)) c.out_of_memory-in-Err-Memory.ensures) c.write_both-in-Err-Memory.ensures.writes

pub returns-in-Err-PatternRoom-clause-prefixes : goal.returns-in-Err-PatternRoom-clause-prefixes
returns-in-Err-PatternRoom-clause-prefixes g c =
    let made = rw c.in-Err-PatternRoom.field-0-is at c.in-Err-PatternRoom.ensures.made in
    line_fronts PatternRoom c.in-Err-PatternRoom.line _ _ _ _ _ c.write_both-in-Err-PatternRoom.result _ _ _ _ _ _ (λ e. cc) (inr (inr made)) (ap (λ x. ([], x)) c.as_str-in-Err-PatternRoom.ensures)
    c.write_both-in-Err-PatternRoom.ensures.writes

pub returns-in-Ok-cannot_read-clause-faults : goal.returns-in-Ok-cannot_read-clause-faults
returns-in-Ok-cannot_read-clause-faults g c =
    let called = rw c.in-Err-ReadFault.field-0-is at c.in-Err-ReadFault.ensures.called in
    line_taken ReadFault _ _ c.write_both-in-Ok-cannot_read.result _ _ _ _ _ _ (λ e. cc) (ap (λ x. ([], x)) c.as_str-in-Ok-cannot_read.ensures)
    (c.in-Ok-cannot_read.ensures ∙ ap cannot_read (c.as_str-in-Err-ReadFault.ensures ∙ sym called.1.named)) c.write_both-in-Ok-cannot_read.ensures.writes
