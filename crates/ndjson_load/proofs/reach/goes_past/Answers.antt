use Rattle.std.proofs.Common.{sym, ◌∙◌}
use Rattle.std.specs.Prelude.{nat_eq}
use Rattle.std.specs.List.{starts_with}
use Rattle.std.proofs.lemmas.Bool.{both_ways, false_from_ne_true}
use Rattle.ndjson_load.specs.Spreading.{goes_under}
use Rattle.ndjson_load.proofs.Bounds.{under_starts}
use Rattle.ndjson_load.proofs.reach.goes_past.Goals as goal

pub returns-then-rest-key : goal.returns-then-rest-key
returns-then-rest-key c = λ none.
    let rest = c.args.rest.now in
    let key = c.args.key.now in
    false_from_ne_true (goes_under key rest) (λ h. both_ways (starts_with nat_eq rest key) (sym c.starts_with.ensures.value ∙ none) (under_starts key rest h))
