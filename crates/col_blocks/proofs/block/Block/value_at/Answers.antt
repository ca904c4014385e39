use Rattle.std.proofs.Common.{◌≡◌, ℕ, ◌+◌, ◌-◌, ◌<◌, ◌≤◌, Bool, true, false, cond, List, [], ◌∷◌, Some, None, length, get_or, refl, sym, ap, ◌∙◌, subst, arith}
use Rattle.col_blocks.specs.Seen.{BlockSeen, ints_seen, longs_seen}
use Rattle.col_blocks.specs.Rows.{cells_of, form_of, RowsFit, where_valid}
use Rattle.col_blocks.specs.Stored.{values_of, value_read}
use Rattle.std.specs.List.{slice_get}
use Rattle.std.specs.Option.{IfSome}
use Rattle.esql_types.specs.declared.value.Value.{Value}
use Rattle.esql_types.specs.declared.value.Kind.{Kind}
use Rattle.std.proofs.lemmas.List.{get_or_read, length-map}
use Rattle.col_blocks.proofs.Cuts.{length-pieces, rises_at}
use Rattle.col_blocks.proofs.OfKind.{read_kind}
use Rattle.col_blocks.proofs.Gets.{get_at}
use Rattle.col_blocks.proofs.AtRow.{single_at, single_past, if_past, false_value, valid_at, piece_at, piece_past, length-where_valid}
use Rattle.col_blocks.proofs.block.Block.value_at.Goals as goal
use Rattle.col_blocks.proofs.block.Block.value_at.Goals.{else-place-eq0-2-via-then-place-eq0-2+else-get, else-place-eq0-2-via-else-place-eq0-2}

pub returns-in-Constant-clause-kind : goal.returns-in-Constant-clause-kind
returns-in-Constant-clause-kind c =
    let fits = subst (RowsFit c.self.inside.kind) c.in-Constant.is c.self.invariant in
    rw (sym (ap (λ (block : BlockSeen). block.kind) c.self.view_is)) (read_kind c.self.inside.kind c.in-Constant.cell c.args.place c.read_at.result fits c.read_at.ensures)

pub begin_of-begin-requires : goal.begin_of-begin-requires
begin_of-begin-requires c =
    let cells = ap cells_of (sym c.in-Multi.is) ∙ ap (λ (block : BlockSeen). block.cells) c.self.view_is in
    let same = ap length cells in
    let long = length-pieces (values_of c.in-Multi.values) 0 c.in-Multi.ends.items in
    let items = ap length c.as_slice.ensures.value in
    omega arith

pub index-requires : goal.index-requires
index-requires c =
    let cells = ap cells_of (sym c.in-Multi.is) ∙ ap (λ (block : BlockSeen). block.cells) c.self.view_is in
    let same = ap length cells in
    let long = length-pieces (values_of c.in-Multi.values) 0 c.in-Multi.ends.items in
    omega (arith, c.in-Multi.ends.ok.0)

pub overflow_sub-index : goal.overflow_sub-index
overflow_sub-index c =
    let row = c.args.row in
    let ends = c.in-Multi.ends.items in
    let cells = ap cells_of (sym c.in-Multi.is) ∙ ap (λ (block : BlockSeen). block.cells) c.self.view_is in
    let same = ap length cells in
    let long = length-pieces (values_of c.in-Multi.values) 0 ends in
    let fits = subst (RowsFit c.self.inside.kind) c.in-Multi.is c.self.invariant in
    let begins : c.begin_of-begin.result ≡ get_or (0 ∷ ends) row 0 = c.begin_of-begin.ensures ∙ ap (λ (ends : List ℕ). get_or (0 ∷ ends) row 0) c.as_slice.ensures.value in
    let end : c.index.result.now ≡ get_or ends row 0 = get_or_read ends row c.index.result.now (omega arith) c.index.ensures 0 in
    omega (arith, rises_at 0 ends (length (values_of c.in-Multi.values)) row fits.1 (omega arith))

pub at-requires-then-place-index : goal.at-requires-then-place-index
at-requires-then-place-index c =
    let row = c.args.row in
    let ends = c.in-Multi.ends.items in
    let cells = ap cells_of (sym c.in-Multi.is) ∙ ap (λ (block : BlockSeen). block.cells) c.self.view_is in
    let same = ap length cells in
    let long = length-pieces (values_of c.in-Multi.values) 0 ends in
    let fits = subst (RowsFit c.self.inside.kind) c.in-Multi.is c.self.invariant in
    let end : c.index.result.now ≡ get_or ends row 0 = get_or_read ends row c.index.result.now (omega arith) c.index.ensures 0 in
    omega (arith, rises_at 0 ends (length (values_of c.in-Multi.values)) row fits.1 (omega arith))

pub returns-then-place-eq0-clause-value : goal.returns-then-place-eq0-clause-value
returns-then-place-eq0-clause-value c =
    let cells = ap cells_of (sym c.in-Vector.is) ∙ ap (λ (block : BlockSeen). block.cells) c.self.view_is in
    let one = single_at (values_of c.in-Vector.values) c.args.row (value_read c.at.result) c.at.ensures.value in
    (λ i. slice_get (sym one i) (sym c.if-place-eq0.true i)) ∙ ap (λ cells. slice_get (get_or cells c.args.row []) c.args.place) cells

pub returns-else-place-eq0-clause-value : goal.returns-else-place-eq0-clause-value
returns-else-place-eq0-clause-value c =
    let values = values_of c.in-Vector.values in
    let cells = ap cells_of (sym c.in-Vector.is) ∙ ap (λ (block : BlockSeen). block.cells) c.self.view_is in
    let same = ap length cells in
    let long = length-map values (λ value. value ∷ []) in
    let value = get_or values c.args.row false_value in
    let one = single_at values c.args.row value (get_at values c.args.row false_value (omega arith)) in
    sym (single_past value c.args.place (omega (arith, c.if-place-eq0.false)))
    ∙ (λ i. slice_get (sym one i) c.args.place) ∙ ap (λ cells. slice_get (get_or cells c.args.row []) c.args.place) cells

pub returns-then-get-clause-value : goal.returns-then-get-clause-value
returns-then-get-clause-value c =
    let values = values_of c.in-Nullable.values in
    let cells = ap cells_of (sym c.in-Nullable.is) ∙ ap (λ (block : BlockSeen). block.cells) c.self.view_is in
    let fits = subst (RowsFit c.self.inside.kind) c.in-Nullable.is c.self.invariant in
    let value = value_read c.at-then-get.result in
    let set : get_or c.in-Nullable.valid c.args.row false ≡ true = sym c.get.ensures ∙ c.if-get.true in
    let one = valid_at c.in-Nullable.valid values c.args.row value fits.1.as_long c.at-then-get.ensures.value in
    (λ i. slice_get (cond {A = List Value} (sym set i) (value ∷ []) []) (sym c.if-place-eq0-2.true i))
    ∙ (λ i. slice_get (sym one i) c.args.place)
    ∙ ap (λ cells. slice_get (get_or cells c.args.row []) c.args.place) cells

pub returns-else-place-eq0-2-clause-value : goal.returns-else-place-eq0-2-clause-value
returns-else-place-eq0-2-clause-value c =
    let valid = c.in-Nullable.valid in
    let values = values_of c.in-Nullable.values in
    let cells = ap cells_of (sym c.in-Nullable.is) ∙ ap (λ (block : BlockSeen). block.cells) c.self.view_is in
    let same = ap length cells in
    let fits = subst (RowsFit c.self.inside.kind) c.in-Nullable.is c.self.invariant in
    let long = length-where_valid valid values fits.1.as_long in
    let value = get_or values c.args.row false_value in
    let one = valid_at valid values c.args.row value fits.1.as_long (get_at values c.args.row false_value (omega arith)) in
    elim c.else-place-eq0-2.branch [
      | else-place-eq0-2-via-then-place-eq0-2+else-get w ↦ sym (ap (λ (valid : Bool). slice_get (cond {A = List Value} valid (value ∷ []) []) c.args.place) (sym w.get.ensures ∙ w.if-get.false))
          ∙ (λ i. slice_get (sym one i) c.args.place) ∙ ap (λ cells. slice_get (get_or cells c.args.row []) c.args.place) cells
      | else-place-eq0-2-via-else-place-eq0-2 w ↦ sym (if_past (get_or valid c.args.row false) value c.args.place (omega (arith, w.if-place-eq0-2.false)))
          ∙ (λ i. slice_get (sym one i) c.args.place) ∙ ap (λ cells. slice_get (get_or cells c.args.row []) c.args.place) cells
    ]

pub returns-then-place-index-clause-value : goal.returns-then-place-index-clause-value
returns-then-place-index-clause-value c =
    let row = c.args.row in
    let ends = c.in-Multi.ends.items in
    let values = values_of c.in-Multi.values in
    let cells = ap cells_of (sym c.in-Multi.is) ∙ ap (λ (block : BlockSeen). block.cells) c.self.view_is in
    let same = ap length cells in
    let long = length-pieces values 0 ends in
    let begins : c.begin_of-begin.result ≡ get_or (0 ∷ ends) row 0 = c.begin_of-begin.ensures ∙ ap (λ (ends : List ℕ). get_or (0 ∷ ends) row 0) c.as_slice.ensures.value in
    let end : c.index.result.now ≡ get_or ends row 0 = get_or_read ends row c.index.result.now (omega arith) c.index.ensures 0 in
    sym c.at-then-place-index.ensures.value
    ∙ ap (λ (begin : ℕ). slice_get values (begin + c.args.place)) begins
    ∙ sym (piece_at values ends row c.args.place (omega arith) (omega (arith, c.if-place-index.true)))
    ∙ ap (λ cells. slice_get (get_or cells row []) c.args.place) cells

pub returns-else-place-index-clause-value : goal.returns-else-place-index-clause-value
returns-else-place-index-clause-value c =
    let row = c.args.row in
    let ends = c.in-Multi.ends.items in
    let values = values_of c.in-Multi.values in
    let cells = ap cells_of (sym c.in-Multi.is) ∙ ap (λ (block : BlockSeen). block.cells) c.self.view_is in
    let same = ap length cells in
    let long = length-pieces values 0 ends in
    let begins : c.begin_of-begin.result ≡ get_or (0 ∷ ends) row 0 = c.begin_of-begin.ensures ∙ ap (λ (ends : List ℕ). get_or (0 ∷ ends) row 0) c.as_slice.ensures.value in
    let end : c.index.result.now ≡ get_or ends row 0 = get_or_read ends row c.index.result.now (omega arith) c.index.ensures 0 in
    sym (piece_past values ends row c.args.place (omega arith) (omega (arith, c.if-place-index.false)))
    ∙ ap (λ cells. slice_get (get_or cells row []) c.args.place) cells
