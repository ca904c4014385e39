-- The cells of the rows of a block, in each of the four forms.
use Rattle.std.specs.Prelude.{ℕ, ◌≡◌, Bool, true, false, if◌then◌else◌, List, [], ◌∷◌, map, length, replicate}
use Rattle.esql_types.specs.declared.value.Kind.{Kind}
use Rattle.esql_types.specs.declared.value.Value.{Value}
use Rattle.col_blocks.specs.declared.form.BlockForm.{BlockForm}
use Rattle.col_blocks.specs.declared.form.BlockForm.TheVariants.{Constant as ConstantForm, Vector as VectorForm, Nullable as NullableForm, Multi as MultiForm}
use Rattle.col_blocks.specs.declared.rows.Rows.{Rows}
use Rattle.col_blocks.specs.declared.rows.Rows.TheVariants.{Constant, Vector, Nullable, Multi}
use Rattle.col_blocks.specs.Cells.{IsOfKind, blank, first_or}
use Rattle.col_blocks.specs.Pieces.{pieces, Rises}
use Rattle.col_blocks.specs.Stored.{values_of, kind_of}

-- a cell for each value
abbrev pub singles : List Value → List (List Value)
singles values = map (λ value. value ∷ []) values

-- a cell for each place: its value where the place is valid, else null
abbrev pub where_valid : List Bool → List Value → List (List Value)
where_valid [] values = []
where_valid (valid ∷ rest) [] = []
where_valid (valid ∷ rest) (value ∷ values) = (if valid then value ∷ [] else []) ∷ where_valid rest values

abbrev pub cells_of : Rows → List (List Value)
cells_of (Constant cell len) = replicate len cell
cells_of (Vector values) = singles (values_of values)
cells_of (Nullable values valid) = where_valid valid (values_of values)
cells_of (Multi values ends) = pieces (values_of values) 0 ends.items

abbrev pub form_of : Rows → BlockForm
form_of (Constant cell len) = ConstantForm
form_of (Vector values) = VectorForm
form_of (Nullable values valid) = NullableForm
form_of (Multi values ends) = MultiForm

-- values of which one stands at each place, a blank where the place is not valid
pub record IsFlat (kind : Kind) (valid : List Bool) (values : List Value) : Type 0 where
  pub as_long : length valid ≡ length values
  pub blanks : values ≡ map (first_or (blank kind)) (where_valid valid values)

-- the rows are kept as their form says
abbrev pub RowsFit : Kind → Rows → Type 0
RowsFit kind (Constant cell len) = IsOfKind kind cell
RowsFit kind (Vector values) = kind_of values ≡ kind
RowsFit kind (Nullable values valid) = (kind_of values ≡ kind) × IsFlat kind valid (values_of values)
RowsFit kind (Multi values ends) = (kind_of values ≡ kind) × Rises 0 ends.items (length (values_of values))
