use Rattle.std.proofs.Common.{◌≤◌, List, length, ap, sym, subst, ◌∙◌}
use Rattle.esql_plan.specs.declared.catalog.PolicyShape.{PolicyShape}
use Rattle.query_semantics.specs.Appended.{policy_named}
use Rattle.esql_analyze.specs.Policies.{found_of}
use Rattle.esql_analyze.proofs.EnrichWrites.{catalog_policies_few, catalog_fields_few}
use Rattle.esql_analyze.proofs.enrich.write_enrich.Goals as goal

pub find_policy-requires : goal.find_policy-requires
find_policy-requires c = subst (λ (policies : List PolicyShape). length policies ≤ 4294967295) (sym c.as_slice.ensures) (catalog_policies_few c.args.catalog.now c.requires.catalog)

pub write_policy-requires-clause-few : goal.write_policy-requires-clause-few
write_policy-requires-clause-few c =
    let name = c.args.policy.now.name in
    catalog_fields_few c.args.catalog.now name (found_of c.in-Some.found) c.requires.catalog
    (ap (λ (policies : List PolicyShape). policy_named policies name) (sym c.as_slice.ensures) ∙ sym c.in-Some.ensures)
