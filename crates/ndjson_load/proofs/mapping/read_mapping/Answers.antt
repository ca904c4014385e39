use Rattle.std.proofs.Common.{◌≡◌, None, All}
use Rattle.std.proofs.lemmas.Result.{IfOk-weaker}
use Rattle.ndjson_load.specs.Mappings.{AreOrdered, first_twice}
use Rattle.ndjson_load.specs.Shapes.{IsLoadable, NamesRise}
use Rattle.ndjson_load.proofs.Loadable.{ordered_loadable}
use Rattle.ndjson_load.proofs.OneMapping.{ordered_rise}
use Rattle.ndjson_load.proofs.mapping.read_mapping.Goals as goal

pub returns-clause-loadable : goal.returns-clause-loadable
returns-clause-loadable c =
    let found = c.in_ok-found.found.items in
    IfOk-weaker c.in_order.result (λ columns. AreOrdered found columns × (first_twice columns ≡ None)) (All IsLoadable)
    (λ columns h. ordered_loadable c.args.bytes.now found columns c.in_ok-found.ensures.ok h.0) c.in_order.ensures.ok

pub returns-clause-rise : goal.returns-clause-rise
returns-clause-rise c =
    let found = c.in_ok-found.found.items in
    IfOk-weaker c.in_order.result (λ columns. AreOrdered found columns × (first_twice columns ≡ None)) NamesRise
    (λ columns h. ordered_rise columns h.0.order h.1) c.in_order.ensures.ok
