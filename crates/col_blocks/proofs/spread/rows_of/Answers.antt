use Rattle.std.proofs.Common.{◌≡◌, ℕ, ◌+◌, ◌-◌, ◌<◌, ◌≤◌, Bool, true, false, cond, leb, eqb, List, [], ◌∷◌, ◌++◌, map, replicate, length, get_or, take, drop, refl, sym, ap, ◌∙◌, subst, arith}
use Rattle.std.specs.List.{list_all}
use Rattle.col_blocks.specs.declared.form.BlockForm.{BlockForm}
use Rattle.col_blocks.specs.declared.form.BlockForm.TheVariants.{Vector as VectorForm, Nullable as NullableForm, Multi as MultiForm}
use Rattle.col_blocks.specs.Pieces.{pieces}
use Rattle.col_blocks.specs.Stored.{values_of, kind_of}
use Rattle.col_blocks.proofs.Flat.{null_cells, single_cells, form_other}
use Rattle.col_blocks.proofs.spread.rows_of.Goals as goal

pub returns-in-Null-clause-cells : goal.returns-in-Null-clause-cells
returns-in-Null-clause-cells c =
    (λ i. replicate ((c.len.ensures ∙ c.args.ends.ok.0) i) (c.null.ensures i)) ∙ sym (null_cells c.args.values c.args.ends.items (c.requires.fits.of_kind ∙ c.in-Null.is))

pub returns-then-single : goal.returns-then-single
returns-then-single c =
    let cells = pieces (values_of c.args.values) 0 c.args.ends.items in
    let one : list_all (λ cell. eqb (length cell) 1) cells ≡ true = sym c.requires.fits.each_one ∙ c.if-single.true in
    record {
      fit = c.requires.fits.of_kind;
      form = sym (form_other c.args.kind cells c.in_default.not-Null ∙ ap (λ (one : Bool). cond {A = BlockForm} one VectorForm (cond {A = BlockForm} (list_all (λ cell. leb (length cell) 1) cells) NullableForm MultiForm)) one);
      cells = single_cells (values_of c.args.values) c.args.ends.items c.requires.fits.rises c.requires.whole one;
    }
