use Rattle.std.proofs.Common.{◌≡◌, ◌++◌, List, map}
use Rattle.std.specs.List.{flat_map}
use Rattle.std.specs.Vec.Iter.{into_iter_items}
use Rattle.esql_types.specs.declared.value.Value.{Value}
use Rattle.enrich_match.specs.Matches.{matched_cell}
use Rattle.plan_rows.specs.Kept.{kept_enriched}
use Rattle.plan_rows.proofs.enrich.enrich_rows.Given as goal

abbrev pub invariant-loop-row : goal.invariant-loop-row
invariant-loop-row l =
    l.new ++ flat_map (kept_enriched (λ (cell : List Value). map (matched_cell l.lookup.rows cell) l.fields) l.on l.to) (into_iter_items l.row-iterator)
    ≡ flat_map (kept_enriched (λ (cell : List Value). map (matched_cell l.lookup.rows cell) l.fields) l.on l.to) l.fn.rows
