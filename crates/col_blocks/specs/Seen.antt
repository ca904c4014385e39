-- A block as contracts see it: a kind, a form, and a cell for each row.
use Rattle.std.specs.Prelude.{ℕ, ◌==◌, ℤ, Bool, true, false, ◌&&◌, if◌then◌else◌, List, [], ◌∷◌, map, length, nat_le, Option, Some, None}
use Rattle.std.specs.List.{list_all}
use Rattle.esql_types.specs.declared.value.Kind.{Kind}
use Rattle.esql_types.specs.declared.value.Kind.TheVariants.{Integer, Long as LongKind, Null}
use Rattle.esql_types.specs.declared.value.Value.{Value}
use Rattle.col_blocks.specs.declared.form.BlockForm.{BlockForm}
use Rattle.col_blocks.specs.declared.form.BlockForm.TheVariants.{Constant, Vector, Nullable, Multi}
use Rattle.col_blocks.specs.Cells.{int_of, long_of, has_value}

pub record BlockSeen : Type 0 where
  pub kind : Kind
  pub form : BlockForm
  pub cells : List (List Value)

-- the form of a block that is built of cells: that of no more than they need
abbrev pub form_by : Kind → List (List Value) → BlockForm
form_by Null cells = Constant
form_by kind cells =
    if list_all (λ cell. length cell == 1) cells then Vector
    else if list_all (λ cell. nat_le (length cell) 1) cells then Nullable
    else Multi

-- one place a row is kept
abbrev pub is_flat : BlockForm → Bool
is_flat Vector = true
is_flat Nullable = true
is_flat form = false

abbrev pub is_nullable : BlockForm → Bool
is_nullable Nullable = true
is_nullable form = false

abbrev pub is_integer : Kind → Bool
is_integer Integer = true
is_integer kind = false

abbrev pub is_long : Kind → Bool
is_long LongKind = true
is_long kind = false

-- the numbers of a flat block of integers, 0 at a null
abbrev pub ints_seen : BlockSeen → Option (List ℤ)
ints_seen block = if is_integer block.kind && is_flat block.form then Some (map int_of block.cells) else None

-- the numbers of a flat block of longs, 0 at a null
abbrev pub longs_seen : BlockSeen → Option (List ℤ)
longs_seen block = if is_long block.kind && is_flat block.form then Some (map long_of block.cells) else None

-- which rows of a nullable block have a value
abbrev pub valid_seen : BlockSeen → Option (List Bool)
valid_seen block = if is_nullable block.form then Some (map has_value block.cells) else None
