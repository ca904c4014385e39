use Rattle.std.proofs.Common.{ℕ, List, ◌<◌, ◌∙◌, ap, sym, subst, length}
use Rattle.std.specs.Vec.Iter.{into_iter_items}
use Rattle.std.proofs.lemmas.List.Elements.{All-rest}
use Rattle.esql_types.specs.declared.cause.Cause.{Cause}
use Rattle.esql_types.specs.declared.cause.Failure.{Failure}
use Rattle.plan_semantics.specs.Laws.{AreBelow}
use Rattle.warn_log.specs.Logs.{logged}
use Rattle.plan_rows.proofs.steps.note_failures.Goals as goal

pub loop-failure-preserved : goal.loop-failure-preserved
loop-failure-preserved c =
    let items = into_iter_items c.loop-failure.failure-iterator in
    let rest = into_iter_items c.next.new.self in
    let next = c.in-Some.ensures.steps.0 in
    let before = c.loop-failure.log in
    record {
      below = subst (λ (nodes : ℕ). AreBelow nodes rest) (sym c.note.ensures.nodes)
          (All-rest (λ (failure : Failure). failure.node.0 < length before) c.in-Some.failure rest items next c.loop-failure.invariant.below);
      log = ap (λ (log : List (List Cause)). logged log rest) c.note.ensures.log ∙ ap (logged before) (sym next) ∙ c.loop-failure.invariant.log;
      nodes = c.note.ensures.nodes ∙ c.loop-failure.invariant.nodes;
    }
