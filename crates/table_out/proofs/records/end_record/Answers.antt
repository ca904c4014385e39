use Rattle.table_out.proofs.Fields.{ends_record}
use Rattle.table_out.proofs.records.end_record.Goals as goal
use Rattle.table_out.proofs.records.end_record.Goals.{in-Ok, in-Err}

pub returns : goal.returns
returns c =
    elim c.match-end_record.branch [
      | in-Ok w ↦
          let e = w.in-Ok.ensures in
          rw w.result-is (ends_record c.args.writer.now c.end_record.new.self e.bytes e.same e.fields e.wrote)
      | in-Err w ↦ rw w.result-is tt
    ]
