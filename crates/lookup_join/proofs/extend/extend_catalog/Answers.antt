use Rattle.std.proofs.Common.{◌≡◌, ◌≤◌, List, length, sym, ap, subst, ◌∙◌, arith}
use Rattle.esql_plan.specs.declared.catalog.TableShape.{TableShape}
use Rattle.lookup_join.specs.Extended.{joins_of, shapes_named, tables_of_joins}
use Rattle.lookup_join.proofs.Counts.{few_shapes}
use Rattle.lookup_join.proofs.extend.extend_catalog.Goals as goal

pub push_row_policies-requires : goal.push_row_policies-requires
push_row_policies-requires c =
    let few = few_shapes c.args.catalog.tables c.args.query.now.commands in
    let names = c.as_slice-4.ensures ∙ c.in_ok-names.ensures ∙ ap tables_of_joins (c.as_slice.ensures ∙ c.in_ok-joins.ensures) in
    let shapes : c.as_slice-5.result.now ≡ shapes_named c.args.catalog.tables (tables_of_joins (joins_of c.args.query.now)) =
    c.as_slice-5.ensures ∙ c.in_ok-shapes.ensures ∙ (λ i. shapes_named (c.as_slice-3.ensures i) (names i)) in
    let count : length c.as_slice-5.result.now ≤ length c.args.query.now.commands =
    subst (λ (these : List TableShape). length these ≤ length c.args.query.now.commands) (sym shapes) few in
    let tables : c.len-number.result ≡ length c.args.catalog.tables = grind arith in
    omega (arith, count, tables, c.requires)

pub push_pairs-requires : goal.push_pairs-requires
push_pairs-requires c =
    let few = few_shapes c.args.catalog.tables c.args.query.now.commands in
    let names = c.as_slice-4.ensures ∙ c.in_ok-names.ensures ∙ ap tables_of_joins (c.as_slice.ensures ∙ c.in_ok-joins.ensures) in
    let shapes : c.as_slice-6.result.now ≡ shapes_named c.args.catalog.tables (tables_of_joins (joins_of c.args.query.now)) =
    c.as_slice-6.ensures ∙ c.in_ok-shapes.ensures ∙ (λ i. shapes_named (c.as_slice-3.ensures i) (names i)) in
    let count : length c.as_slice-6.result.now ≤ length c.args.query.now.commands =
    subst (λ (these : List TableShape). length these ≤ length c.args.query.now.commands) (sym shapes) few in
    let tables : c.len-number.result ≡ length c.args.catalog.tables = grind arith in
    omega (arith, count, tables, c.requires)
