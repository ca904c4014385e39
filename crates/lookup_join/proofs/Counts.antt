-- How many tables a query joins at most.
use Rattle.std.proofs.Common.{◌≡◌, suc, ◌+◌, ◌≤◌, Bool, true, false, cond, not, List, [], ◌∷◌, ◌++◌, length, map, Option, Some, None, arith}
use Rattle.std.specs.List.{filter, filter_map, flat_map, cons_option}
use Rattle.std.specs.Str.{bytes_eq}
use Rattle.std.proofs.lemmas.List.{length-append, length-map}
use Rattle.esql_ast.specs.declared.query.Command.{Command}
use Rattle.esql_ast.specs.declared.query.CommandKind.{CommandKind}
use Rattle.esql_ast.specs.declared.query.CommandKind.TheVariants.{Filter, Eval, Keep, Drop, Rename, Sort, Limit, Expand, Stats, Dissect, Grok, Enrich, Join}
use Rattle.esql_plan.specs.declared.catalog.TableShape.{TableShape}
use Rattle.function_rules.specs.Lists.{distinct_of}
use Rattle.row_semantics.specs.Sources.{table_named}
use Rattle.lookup_join.specs.declared.joins.JoinAt.{JoinAt}
use Rattle.lookup_join.specs.Extended.{joins_in_command, joins_in_kind, shapes_named, tables_of_joins}

fewer_found : {X Y : Type 0} (found : X → Option Y) (items : List X) → length (filter_map found items) ≤ length items
fewer_found found [] = omega arith
fewer_found found (item ∷ items) = go (found item) (fewer_found found items)
  where
    go : (one : Option _) → length (filter_map found items) ≤ length items → length (cons_option one (filter_map found items)) ≤ suc (length items)
    go None rest = omega (arith, rest)
    go (Some one) rest = omega (arith, rest)

fewer_pass : {X : Type 0} (test : X → Bool) (items : List X) → length (filter test items) ≤ length items
fewer_pass test [] = omega arith
fewer_pass test (item ∷ items) = go (test item) (fewer_pass test items)
  where
    go : (passes : Bool) → length (filter test items) ≤ length items → length (cond passes (item ∷ filter test items) (filter test items)) ≤ suc (length items)
    go true rest = omega (arith, rest)
    go false rest = omega (arith, rest)

fewer_distinct : {X : Type 0} (same : X → X → Bool) (items : List X) → length (distinct_of same items) ≤ length items
fewer_distinct same [] = omega arith
fewer_distinct same (item ∷ items) =
    let pass = fewer_pass (λ other. not (same item other)) (distinct_of same items) in
    let rest = fewer_distinct same items in
    omega (arith, pass, rest)

one_at_most : (kind : CommandKind) → length (joins_in_kind kind) ≤ 1
one_at_most (Filter condition) = omega arith
one_at_most (Eval fields) = omega arith
one_at_most (Keep patterns) = omega arith
one_at_most (Drop patterns) = omega arith
one_at_most (Rename pairs) = omega arith
one_at_most (Sort keys) = omega arith
one_at_most (Limit count) = omega arith
one_at_most (Expand column) = omega arith
one_at_most (Stats fields groups) = omega arith
one_at_most (Dissect input pattern separator) = omega arith
one_at_most (Grok input pattern) = omega arith
one_at_most (Enrich policy on fields) = omega arith
one_at_most (Join table on) = omega arith

fewer_joins : (commands : List Command) → length (flat_map joins_in_command commands) ≤ length commands
fewer_joins [] = omega arith
fewer_joins (command ∷ commands) =
    let both : length (joins_in_command command ++ flat_map joins_in_command commands) ≡ length (joins_in_command command) + length (flat_map joins_in_command commands) =
    length-append (joins_in_command command) (flat_map joins_in_command commands) in
    let here = one_at_most command.kind in
    let rest = fewer_joins commands in
    omega (arith, both, here, rest)

-- the tables of a query's joins are as many as its commands at most
pub few_shapes : (tables : List TableShape) (commands : List Command) → length (shapes_named tables (tables_of_joins (flat_map joins_in_command commands))) ≤ length commands
few_shapes tables commands =
    let joins = flat_map joins_in_command commands in
    let found = fewer_found (table_named tables) (tables_of_joins joins) in
    let distinct = fewer_distinct bytes_eq (map (λ (join : JoinAt). join.table) joins) in
    let mapped : length (map (λ (join : JoinAt). join.table) joins) ≡ length joins = length-map joins (λ (join : JoinAt). join.table) in
    let few = fewer_joins commands in
    omega (arith, found, distinct, mapped, few)
