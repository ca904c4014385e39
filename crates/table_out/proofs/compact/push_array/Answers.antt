use Rattle.table_out.proofs.Arrays.{pushed_array}
use Rattle.table_out.proofs.compact.push_array.Goals as goal

pub returns-after-loop-item : goal.returns-after-loop-item
returns-after-loop-item g c =
    pushed_array c.push_str-in-len1-up-2.result g.T.Compact.tree c.args.items.now c.first-item.result _ _ _ _ _ c.loop-item.item-index
    c.in-len1-up.len_at_least c.first-item.is c.in_ok-push_str-in-len1-up.ensures.bytes c.in_ok-push_compact-in-len1-up.ensures
    c.loop-item.invariant c.loop-item-test.false c.push_str-in-len1-up-2.ensures.bytes
