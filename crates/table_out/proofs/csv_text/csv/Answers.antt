use Rattle.std.proofs.Common.{[], ◌++◌, flat_map, ap, ap₂, ◌∙◌, append-nil}
use Rattle.csv.specs.Writing.{default_writer, row_text}
use Rattle.table_out.specs.Csv.{fields_of, names_of}
use Rattle.table_out.proofs.Fields.{starts, if_ok_too}
use Rattle.table_out.proofs.csv_text.csv.Goals as goal

pub finish-requires : goal.finish-requires
finish-requires c =
    let made = c.from_writer-writer.ensures in
    let begun = starts c.from_writer-writer.result made.cfg (ap (λ v. v.items) made.wtr ∙ c.new.ensures.items) made.empty made.fields made.wrote in
    (c.in_ok-push_rows.ensures _ (c.in_ok-push_record.ensures [] begun)).4

pub returns : goal.returns
returns c =
    let made = c.from_writer-writer.ensures in
    let begun = starts c.from_writer-writer.result made.cfg (ap (λ v. v.items) made.wtr ∙ c.new.ensures.items) made.empty made.fields made.wrote in
    let whole = c.in_ok-push_rows.ensures _ (c.in_ok-push_record.ensures [] begun) in
    let names = ap (λ columns. row_text default_writer (names_of columns)) c.as_slice.ensures in
    let rows = ap (λ rows. flat_map (λ row. row_text default_writer (fields_of row)) rows) c.as_slice-2.ensures in
    if_ok_too c.finish.result (λ text same. same ∙ whole.1 ∙ append-nil _ ∙ ap₂ (λ front back. front ++ back) names rows) c.finish.ensures
