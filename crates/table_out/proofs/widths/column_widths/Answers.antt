use Rattle.std.proofs.Common.{◌∷◌, length, map, replicate, ap, ap₂, sym, ◌∙◌, arith}
use Rattle.answer_text.specs.Txt.{heads_of, texts_of, widths}
use Rattle.table_out.proofs.ByPlace.{found_widths}
use Rattle.table_out.proofs.widths.column_widths.Goals as goal

pub returns : goal.returns
returns c =
    let made = c.in_ok-widths.ensures in
    let zeros = made.items_if_clones_equal (λ copy same. same) ∙ ap (λ count. replicate count 0) (c.len.ensures ∙ ap length (sym c.as_slice.ensures)) in
    found_widths c.as_slice.result.now c.as_slice-2.result.now c.in_ok-widths.widths.items c.as_mut_slice-places.result.now c.widen.new.widths c.widen_by_rows.new.widths c.in_ok-widths.widths.len
    zeros c.in_ok-widths.widths.ok.0 c.as_mut_slice-places.ensures.value (omega (arith, c.widen.auto.widths)) (omega (arith, c.widen_by_rows.auto.widths)) c.in_ok-widen.ensures c.in_ok-widen_by_rows.ensures
    ∙ ap₂ (λ columns rows. widths (heads_of columns ∷ map texts_of rows) (length columns)) c.as_slice.ensures c.as_slice-2.ensures
