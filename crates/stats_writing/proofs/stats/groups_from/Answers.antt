use Rattle.std.proofs.Common.{List, ◌++◌, ap, sym, ◌∙◌, arith}
use Rattle.std.proofs.lemmas.List.{append-nil, drop_all}
use Rattle.query_semantics.specs.WrittenStats.{groups_from}
use Rattle.stats_writing.specs.declared.stats_inputs.GroupInput.{GroupInput as MadeGroup}
use Rattle.stats_writing.specs.StatsSeen.{groups_seen}
use Rattle.stats_writing.proofs.stats.groups_from.Goals as goal

pub returns : goal.returns
returns c =
    let inputs = c.args.inputs.now in
    let groups = c.loop-input.groups in
    sym (append-nil groups)
    ∙ sym (ap (λ (rest : List MadeGroup). groups ++ groups_from c.loop-input.next (groups_seen rest)) (drop_all c.loop-input.input-index inputs (omega (arith, c.loop-input-test.false)))) ∙ c.loop-input.invariant.groups
