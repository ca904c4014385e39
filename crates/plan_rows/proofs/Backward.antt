-- One turn of a loop that goes over a list from its end.
use Rattle.std.proofs.Common.{◌≡◌, ℕ, suc, ◌+◌, ◌-◌, ◌<◌, List, ◌∷◌, length, get_or, drop, cond, Some, ap, sym, ◌∙◌, arith, drop-cons}
use Rattle.std.specs.Str.{bytes_eq}
use Rattle.esql_types.specs.declared.names.Column.{Column}
use Rattle.plan_rows.specs.Places.{place_from}

pub drop_back : {A : Type 0} (items : List A) (back : ℕ) (item : A) → back < length items → item ≡ get_or items (length items - 1 - back) item
    → drop (length items - (back + 1)) items ≡ item ∷ drop (length items - back) items
drop_back items back item within is =
    let place : length items - (back + 1) ≡ length items - 1 - back = omega arith in
    let next : suc (length items - 1 - back) ≡ length items - back = omega arith in
    ap (λ n. drop n items) place
    ∙ drop-cons items (length items - 1 - back) item (omega arith)
    ∙ ap (λ first. first ∷ drop (suc (length items - 1 - back)) items) (sym is)
    ∙ ap (λ n. item ∷ drop n items) next

-- one more column stands before those of which the first of a name is known
pub place_from-turn : (columns : List Column) (back : ℕ) (column : Column) (name : List ℕ) → back < length columns → column ≡ get_or columns (length columns - 1 - back) column
    → cond (bytes_eq column.name name) (Some (length columns - 1 - back)) (place_from (drop (length columns - back) columns) (length columns - back) name)
    ≡ place_from (drop (length columns - (back + 1)) columns) (length columns - (back + 1)) name
place_from-turn columns back column name within is =
    let place : length columns - 1 - back ≡ length columns - (back + 1) = omega arith in
    let next : length columns - back ≡ length columns - (back + 1) + 1 = omega arith in
    ap (λ at. cond (bytes_eq column.name name) (Some at) (place_from (drop (length columns - back) columns) (length columns - back) name)) place
    ∙ ap (λ at. cond (bytes_eq column.name name) (Some (length columns - (back + 1))) (place_from (drop (length columns - back) columns) at name)) next
    ∙ ap (λ these. place_from these (length columns - (back + 1)) name) (sym (drop_back columns back column within is))
