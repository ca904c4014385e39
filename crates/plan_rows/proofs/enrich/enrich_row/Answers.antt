use Rattle.std.proofs.Common.{◌≡◌, List, IfOk, map, sym, ap, subst, ◌∙◌}
use Rattle.std.specs.Option.{option_copied}
use Rattle.esql_scalar.proofs.Parts.{nothing_at}
use Rattle.esql_types.specs.declared.value.Value.{Value}
use Rattle.enrich_match.specs.Matches.{matched_cell}
use Rattle.plan_rows.proofs.enrich.enrich_row.Goals as goal

pub returns-in-None : goal.returns-in-None
returns-in-None c =
    subst (λ (cell : List Value). IfOk c.fields_found-in-None-2.result (λ cells. cells ≡ map (matched_cell c.args.lookup.now.rows cell) c.args.fields.now))
    (c.null.ensures ∙ nothing_at c.args.row.now c.args.on.0 (sym c.at.ensures.value ∙ ap option_copied c.in-None.is)) c.fields_found-in-None-2.ensures
