use Rattle.std.proofs.Common.{subst}
use Rattle.table_out.specs.Writers.{TakesField}
use Rattle.table_out.proofs.Fields.{takes_field}
use Rattle.table_out.proofs.records.push_text.Goals as goal
use Rattle.table_out.proofs.records.push_text.Goals.{in-Ok, in-Err}

pub returns : goal.returns
returns c =
    let old = c.args.writer.now in
    let new = c.write_field.new.self in
    elim c.match-write_field.branch [
      | in-Ok w ↦
          let e = w.in-Ok.ensures in
          rw w.result-is
          (subst (λ field. TakesField old new field) c.as_bytes.ensures.value
          (takes_field old new c.as_bytes.result.now c.as_bytes.ensures.utf8 e.text e.same e.count e.wrote e.stays))
      | in-Err w ↦ rw w.result-is tt
    ]
