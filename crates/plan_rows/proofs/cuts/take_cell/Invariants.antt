use Rattle.std.proofs.Common.{◌≡◌, ◌++◌, List, Some, drop, fold}
use Rattle.std.specs.List.{flat_map}
use Rattle.esql_types.specs.declared.value.Value.{Value}
use Rattle.plan_semantics.specs.Taken.{joined_cells, grokked_by, nulls}
use Rattle.plan_rows.proofs.cuts.take_cell.Given as goal

abbrev pub invariant-loop-value : goal.invariant-loop-value
invariant-loop-value l = record {
  cells : fold (λ (cells : List (List Value)) (one : Value). joined_cells cells (grokked_by l.node (Some l.grok) one).cells) l.cells (drop l.value-index l.value-items)
      ≡ fold (λ (cells : List (List Value)) (one : Value). joined_cells cells (grokked_by l.node (Some l.grok) one).cells) (nulls l.count) l.value-items;
  failures : l.failures ++ flat_map (λ (one : Value). (grokked_by l.node (Some l.grok) one).failures) (drop l.value-index l.value-items)
      ≡ l.initial.failures ++ flat_map (λ (one : Value). (grokked_by l.node (Some l.grok) one).failures) l.value-items;
}
