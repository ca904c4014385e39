use Rattle.std.proofs.Common.{ap, ◌∙◌}
use Rattle.regex.specs.Strings.{regex_names}
use Rattle.dissect_grok.specs.Groups.{index_of}
use Rattle.dissect_grok.proofs.Indexes.{index_is}
use Rattle.dissect_grok.proofs.groups.group_of.Goals as goal

pub returns : goal.returns
returns c =
    index_is (regex_names c.args.regex.now) c.as_str.result.now c.capture_index.result c.capture_index.ensures
    ∙ ap (λ name. index_of name (regex_names c.args.regex.now)) (c.as_str.ensures.value ∙ c.in_ok-name.ensures)
