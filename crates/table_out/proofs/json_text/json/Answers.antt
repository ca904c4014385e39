use Rattle.std.proofs.Common.{ap₂, ◌∙◌}
use Rattle.table_out.specs.Json.{shown_json}
use Rattle.table_out.proofs.Tables.{pushed_table}
use Rattle.table_out.proofs.json_text.json.Goals as goal

pub returns : goal.returns
returns c =
    c.from_string.ensures
    ∙ pushed_table c.as_slice.result.now c.as_slice-2.result.now _ _ _ _ _ _ c.new-out.ensures.bytes c.in_ok-push_str.ensures.bytes
    c.in_ok-push_array.ensures c.in_ok-push_str-2.ensures.bytes c.in_ok-push_array-2.ensures c.in_ok-push_str-3.ensures.bytes
    ∙ ap₂ shown_json c.as_slice.ensures c.as_slice-2.ensures
