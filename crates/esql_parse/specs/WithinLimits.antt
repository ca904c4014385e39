-- A query within the limits.
use Rattle.std.specs.Prelude.{◌≤◌, length}
use Rattle.esql_ast.specs.declared.query.Query.{Query}
use Rattle.esql_ast.specs.Depths.{depth_of_query}

-- no expression is deeper than 100, and at most 200 commands stand after the source
pub record IsWithinLimits (query : Query) : Type 0 where
  pub shallow : depth_of_query query ≤ 100
  pub few : length query.commands ≤ 200
