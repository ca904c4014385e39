use Rattle.std.proofs.Common.{◌≡◌, ℕ, ◌+◌, ◌-◌, ◌<◌, ◌≤◌, Bool, true, false, cond, List, [], ◌∷◌, Some, None, length, get_or, refl, sym, ap, ◌∙◌, subst, arith}
use Rattle.col_blocks.specs.Seen.{BlockSeen, ints_seen, longs_seen}
use Rattle.col_blocks.specs.Rows.{cells_of, form_of, RowsFit, where_valid}
use Rattle.col_blocks.specs.Stored.{values_of}
use Rattle.std.proofs.lemmas.List.{get_or_read, length-map}
use Rattle.col_blocks.proofs.Cuts.{length-pieces, rises_at}
use Rattle.col_blocks.proofs.AtRow.{byte_is, single_length, valid_length, piece_length, length-where_valid}
use Rattle.col_blocks.proofs.block.Block.count_at.Goals as goal

pub index-requires : goal.index-requires
index-requires c =
    let cells = ap cells_of (sym c.in-Multi.is) ∙ ap (λ (block : BlockSeen). block.cells) c.self.view_is in
    let same = ap length cells in
    let long = length-pieces (values_of c.in-Multi.values) 0 c.in-Multi.ends.items in
    omega (arith, c.in-Multi.ends.ok.0)

pub begin_of-requires : goal.begin_of-requires
begin_of-requires c =
    let cells = ap cells_of (sym c.in-Multi.is) ∙ ap (λ (block : BlockSeen). block.cells) c.self.view_is in
    let same = ap length cells in
    let long = length-pieces (values_of c.in-Multi.values) 0 c.in-Multi.ends.items in
    let items = ap length c.as_slice.ensures.value in
    omega arith

pub overflow_sub-result : goal.overflow_sub-result
overflow_sub-result c =
    let row = c.args.row in
    let ends = c.in-Multi.ends.items in
    let cells = ap cells_of (sym c.in-Multi.is) ∙ ap (λ (block : BlockSeen). block.cells) c.self.view_is in
    let same = ap length cells in
    let long = length-pieces (values_of c.in-Multi.values) 0 ends in
    let fits = subst (RowsFit c.self.inside.kind) c.in-Multi.is c.self.invariant in
    let begins : c.begin_of.result ≡ get_or (0 ∷ ends) row 0 = c.begin_of.ensures ∙ ap (λ (ends : List ℕ). get_or (0 ∷ ends) row 0) c.as_slice.ensures.value in
    let end : c.index.result.now ≡ get_or ends row 0 = get_or_read ends row c.index.result.now (omega arith) c.index.ensures 0 in
    omega (arith, rises_at 0 ends (length (values_of c.in-Multi.values)) row fits.1 (omega arith))

pub returns-in-Vector : goal.returns-in-Vector
returns-in-Vector c =
    let cells = ap cells_of (sym c.in-Vector.is) ∙ ap (λ (block : BlockSeen). block.cells) c.self.view_is in
    let same = ap length cells in
    let long = length-map (values_of c.in-Vector.values) (λ value. value ∷ []) in
    sym (single_length (values_of c.in-Vector.values) c.args.row (omega arith)) ∙ ap (λ cells. length (get_or cells c.args.row [])) cells

pub returns-in-Nullable : goal.returns-in-Nullable
returns-in-Nullable c =
    let valid = c.in-Nullable.valid in
    let values = values_of c.in-Nullable.values in
    let cells = ap cells_of (sym c.in-Nullable.is) ∙ ap (λ (block : BlockSeen). block.cells) c.self.view_is in
    let same = ap length cells in
    let fits = subst (RowsFit c.self.inside.kind) c.in-Nullable.is c.self.invariant in
    let long = length-where_valid valid values fits.1.as_long in
    c.from.ensures ∙ byte_is c.get.result ∙ ap (λ (valid : Bool). cond {A = ℕ} valid 1 0) c.get.ensures
    ∙ sym (valid_length valid values c.args.row fits.1.as_long (omega (arith, fits.1.as_long)))
    ∙ ap (λ cells. length (get_or cells c.args.row [])) cells

pub returns-in-Multi : goal.returns-in-Multi
returns-in-Multi c =
    let row = c.args.row in
    let ends = c.in-Multi.ends.items in
    let cells = ap cells_of (sym c.in-Multi.is) ∙ ap (λ (block : BlockSeen). block.cells) c.self.view_is in
    let same = ap length cells in
    let long = length-pieces (values_of c.in-Multi.values) 0 ends in
    let fits = subst (RowsFit c.self.inside.kind) c.in-Multi.is c.self.invariant in
    let begins : c.begin_of.result ≡ get_or (0 ∷ ends) row 0 = c.begin_of.ensures ∙ ap (λ (ends : List ℕ). get_or (0 ∷ ends) row 0) c.as_slice.ensures.value in
    let end : c.index.result.now ≡ get_or ends row 0 = get_or_read ends row c.index.result.now (omega arith) c.index.ensures 0 in
    (λ i. end i - begins i) ∙ sym (piece_length (values_of c.in-Multi.values) ends row fits.1 (omega arith)) ∙ ap (λ cells. length (get_or cells row [])) cells
