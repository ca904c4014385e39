use Rattle.std.proofs.Common.{◌≡◌, map, take}
use Rattle.plan_semantics.specs.Taken.{keyword_column}
use Rattle.esql_analyze.proofs.cuts.keyword_columns.Given as goal

abbrev pub invariant-loop-name : goal.invariant-loop-name
invariant-loop-name l = l.columns ≡ map keyword_column (take l.name-index l.names)
