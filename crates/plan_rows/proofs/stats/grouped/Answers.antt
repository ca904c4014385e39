use Rattle.std.proofs.Common.{List, sym, ap, ◌∙◌, arith, rules}
use Rattle.std.proofs.lemmas.List.{nil_from_length}
use Rattle.std.specs.Vec.Iter.{into_iter_items}
use Rattle.esql_types.specs.declared.value.Value.{Value}
use Rattle.plan_rows.proofs.StatsRows.{with_none, with_rows, with_rows_turn}
use Rattle.plan_rows.proofs.stats.grouped.Goals as goal

pub loop-row-preserved : goal.loop-row-preserved
loop-row-preserved c = record {
  counted = search rules;
  rows = with_rows_turn c.args.aggregates.now c.args.groups.now c.args.rows c.in-Some.row (into_iter_items c.next.new.self) (into_iter_items c.loop-row.row-iterator)
      c.loop-row.grouped c.add_row.new.self c.loop-row.invariant.rows c.in-Some.ensures.steps.0 c.in_ok-add_row.ensures.ok;
}

pub returns : goal.returns
returns c =
    let none = nil_from_length (into_iter_items c.loop-row.row-iterator) (omega (arith, c.loop-row.invariant.counted, c.in-None.ensures.steps.0)) in
    sym (with_none c.args.aggregates.now c.args.groups.now c.loop-row.grouped)
    ∙ ap (λ (these : List (List (List Value))). with_rows c.args.aggregates.now c.args.groups.now these c.loop-row.grouped) (sym none)
    ∙ c.loop-row.invariant.rows
