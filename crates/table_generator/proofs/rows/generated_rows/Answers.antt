use Rattle.table_generator.proofs.Turns.{turn}
use Rattle.table_generator.proofs.rows.generated_rows.Goals as goal

pub loop-before-preserved : goal.loop-before-preserved
loop-before-preserved c =
    turn c.loop-before.made c.push.new.self _ c.in_ok-cells_of.field-0 c.args.rows c.loop-before.before c.loop-before.number c.next_number-number.result c.taken_of.result
    c.in_ok-push.ensures.ok c.in_ok-cells_of.ensures c.taken_of.ensures.taken c.next_number-number.ensures c.loop-before-test.true c.loop-before.invariant
