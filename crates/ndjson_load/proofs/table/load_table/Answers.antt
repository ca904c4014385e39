use Rattle.std.proofs.Common.{◌≡◌, length, Ok, Err, ap, subst, arith}
use Rattle.ndjson_load.specs.Loading.{IfBadRow}
use Rattle.ndjson_load.specs.Rows.{table_of}
use Rattle.ndjson_load.proofs.Shaped.{table_wide, table_few, table_kinds}
use Rattle.ndjson_load.proofs.Overs.{over_rows, over_none, over_bad}
use Rattle.ndjson_load.proofs.table.load_table.Goals as goal

pub returns-in-Ok-clause-wide : goal.returns-in-Ok-clause-wide
returns-in-Ok-clause-wide g c =
    let of = subst (λ columns. table_of columns c.as_slice.result.now ≡ Ok c.in-Ok.table) c.as_slice-in-Ok-Some.ensures c.in-Ok.ensures.ok in
    table_wide c.args.columns.now c.as_slice.result.now c.in-Ok.table of

pub returns-in-Ok-clause-kinds : goal.returns-in-Ok-clause-kinds
returns-in-Ok-clause-kinds g c =
    let of = subst (λ columns. table_of columns c.as_slice.result.now ≡ Ok c.in-Ok.table) c.as_slice-in-Ok-Some.ensures c.in-Ok.ensures.ok in
    table_kinds c.args.columns.now c.as_slice.result.now c.in-Ok.table of

pub returns-in-Ok-clause-few : goal.returns-in-Ok-clause-few
returns-in-Ok-clause-few g c =
    let few = table_few c.as_slice-in-Ok-Some.result.now c.as_slice.result.now c.in-Ok.table c.in-Ok.ensures.ok in
    let within = rw c.in-Ok-Some.field-0-is at c.in-Ok-Some.ensures.within in
    omega (arith, few, within, ap length c.as_slice.ensures)

pub returns-in-Ok-clause-loaded : goal.returns-in-Ok-clause-loaded
returns-in-Ok-clause-loaded g c =
    let of = subst (λ columns. table_of columns c.as_slice.result.now ≡ Ok c.in-Ok.table) c.as_slice-in-Ok-Some.ensures c.in-Ok.ensures.ok in
    over_rows (g.F.Files.holds c.args.files.now) c.args.file.now c.args.columns.now c.in-Ok-Some.field-0 c.in-Ok-Some.bytes c.in-Ok.table c.in-Ok-Some.field-0-is
    c.in-Ok-Some.ensures.held (rw c.in-Ok-Some.field-0-is at c.in-Ok-Some.ensures.within) (subst (λ bytes. table_of c.args.columns.now bytes ≡ Ok c.in-Ok.table) c.as_slice.ensures of)

pub returns-in-Ok-None-clause-loaded : goal.returns-in-Ok-None-clause-loaded
returns-in-Ok-None-clause-loaded g c =
    over_none (g.F.Files.holds c.args.files.now) c.args.file.now c.args.columns.now c.in-Ok-None.field-0 c.in-Ok-None.field-0-is c.in-Ok-None.ensures.held

pub returns-in-Ok-Some-clause-bad : goal.returns-in-Ok-Some-clause-bad
returns-in-Ok-Some-clause-bad g c =
    let of = subst (λ columns. IfBadRow c.in-Err.error (λ bad. table_of columns c.as_slice.result.now ≡ Err bad)) c.as_slice-in-Ok-Some.ensures c.in-Err.ensures.bad in
    over_bad (g.F.Files.holds c.args.files.now) c.args.file.now c.args.columns.now c.in-Ok-Some.field-0 c.in-Ok-Some.bytes c.in-Err.error c.in-Ok-Some.field-0-is
    c.in-Ok-Some.ensures.held (rw c.in-Ok-Some.field-0-is at c.in-Ok-Some.ensures.within) (subst (λ bytes. IfBadRow c.in-Err.error (λ bad. table_of c.args.columns.now bytes ≡ Err bad)) c.as_slice.ensures of)
