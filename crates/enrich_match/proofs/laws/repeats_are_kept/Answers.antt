use Rattle.std.proofs.Common.{[], filter}
use Rattle.std.specs.Prelude.{slice_index_or}
use Rattle.std.proofs.lemmas.List.Concat.{length-flat_map}
use Rattle.enrich_match.specs.Matches.{MatchRow, is_match}
use Rattle.enrich_match.proofs.laws.repeats_are_kept.Goals as goal

pub returns : goal.returns
returns c = λ rows cell field. length-flat_map (λ (row : MatchRow). slice_index_or row.fields field []) (filter (is_match cell) rows)
