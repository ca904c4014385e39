use Rattle.std.proofs.Common.{◌≡◌, ◌∷◌, ◌++◌, length, map, codes, All, ap, ap₂, sym, ◌∙◌, subst}
use Rattle.std.specs.List.{flat_map, zip}
use Rattle.std.specs.String.{string_bytes}
use Rattle.answer_text.specs.Txt.{dashes, heads_of, line_of, texts_of}
use Rattle.table_out.proofs.ByPlace.{length-widths}
use Rattle.table_out.proofs.Pages.{pushed_lines}
use Rattle.table_out.proofs.table.txt.Goals as goal

pub push_line-requires : goal.push_line-requires
push_line-requires c =
    ap length c.as_slice.ensures
    ∙ sym (ap length c.deref.ensures.value ∙ ap length c.in_ok-widths.ensures ∙ length-widths (heads_of c.args.columns.now ∷ map texts_of c.args.rows.now) (length c.args.columns.now))

pub push_rows-requires : goal.push_rows-requires
push_rows-requires c =
    let wide = ap length c.deref-3.ensures.value ∙ ap length c.in_ok-widths.ensures ∙ length-widths (heads_of c.args.columns.now ∷ map texts_of c.args.rows.now) (length c.args.columns.now) in
    subst (λ rows. All (λ row. length row ≡ length c.deref-3.result.now) rows) (sym c.as_slice-2.ensures)
    (subst (λ count. All (λ row. length row ≡ count) c.args.rows.now) (sym wide) c.requires)

pub returns : goal.returns
returns c =
    let one = string_bytes c.new-out.result in
    let two = string_bytes c.push_line.new.out in
    let three = string_bytes c.push_dashes.new.out in
    c.from_string.ensures
    ∙ pushed_lines c.args.columns.now c.args.rows.now one two three (string_bytes c.push_rows.new.out) c.new-out.ensures.bytes
    (c.in_ok-push_line.ensures ∙ ap₂ (λ wide columns. one ++ (line_of (zip wide (heads_of columns)) ++ codes "\n")) (c.deref.ensures.value ∙ c.in_ok-widths.ensures) c.as_slice.ensures)
    (c.in_ok-push_dashes.ensures ∙ ap (λ wide. two ++ (dashes wide ++ codes "\n")) (c.deref-2.ensures.value ∙ c.in_ok-widths.ensures))
    (c.in_ok-push_rows.ensures ∙ ap₂ (λ wide rows. three ++ flat_map (λ row. line_of (zip wide (texts_of row)) ++ codes "\n") rows) (c.deref-3.ensures.value ∙ c.in_ok-widths.ensures) c.as_slice-2.ensures)
