use Rattle.std.proofs.Common.{[], ◌∙◌, ap, slice_index_or}
use Rattle.std.specs.Option.{unwrap_or}
use Rattle.std.proofs.lemmas.Option.{unwrap_or-slice_get}
use Rattle.page_ops.proofs.places.cell_at.Goals as goal

pub returns : goal.returns
returns c =
    let (_, _, _, (_, found), _) = c.in_ok-get.ensures.lookup in
    ap (λ cell. unwrap_or cell []) c.at.ensures.value
    ∙ unwrap_or-slice_get c.in_ok-get.field-0.now c.args.place []
    ∙ ap (λ row. slice_index_or row c.args.place []) (found [])
