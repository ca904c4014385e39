use Rattle.std.proofs.Common.{◌≡◌, map, take}
use Rattle.enrich_match.specs.Matches.{matched_cell}
use Rattle.plan_rows.proofs.enrich.fields_found.Given as goal

abbrev pub invariant-loop-field : goal.invariant-loop-field
invariant-loop-field l = l.cells ≡ map (matched_cell l.lookup.rows l.key) (take l.field-index l.fields)
