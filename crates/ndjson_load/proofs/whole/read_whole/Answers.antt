use Rattle.std.proofs.Common.{ap, ◌∙◌, option_map, drop}
use Rattle.ndjson_load.proofs.Wholes.{long_held}
use Rattle.ndjson_load.proofs.whole.read_whole.Goals as goal

pub returns-in-Err-read_rest-clause-too_large : goal.returns-in-Err-read_rest-clause-too_large
returns-in-Err-read_rest-clause-too_large g c = λ e. long_held _ _ _ _ (rw c.in-Ok-true.field-0-test at c.in-Ok-true.ensures.found) c.in-Ok-true.ensures.whole (c.in-Err-read_rest.ensures.too_large (cc))

pub returns-in-Err-read_rest-clause-given_up : goal.returns-in-Err-read_rest-clause-given_up
returns-in-Err-read_rest-clause-given_up g c = λ e. c.in-Err-read_rest.ensures.given_up (cc) ∙ ap (option_map (drop 268435457)) c.in-Ok-true.ensures.whole
