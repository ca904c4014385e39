-- When a typed expression is well formed for patterns, which are seen as two lists of texts: the wrapped texts of those that are
-- matched against whole texts, and the texts of those that are searched for in a text.
use Rattle.std.specs.Prelude.{◌≡◌, ℕ, Bool, true, false, ◌&&◌, List, [], ◌∷◌, map, length, All, Option, Some, None, is_some, option_map, slice_get}
use Rattle.std.specs.List.{list_all, list_any, flat_map}
use Rattle.std.specs.Str.{bytes_eq}
use Rattle.esql_types.specs.declared.names.ColId.{ColId}
use Rattle.esql_types.specs.declared.value.Kind.{Kind}
use Rattle.esql_types.specs.declared.value.Value.{Value}
use Rattle.esql_types.specs.declared.value.Value.TheVariants.{Int, Long, Bool as Boolean, Text as Keyword}
use Rattle.esql_types.specs.Values.{kind_of_value}
use Rattle.function_rules.specs.Found.{wrapped}
use Rattle.esql_plan.specs.declared.function.Function.{Function}
use Rattle.esql_plan.specs.declared.typed.TypedExpr.{TypedExpr}
use Rattle.esql_plan.specs.declared.typed.TypedForm.TheOpen.{TypedForm-F, Constant, Column, Apply}
use Rattle.esql_plan.specs.declared.typed.TypedForm.TheFolds.{fold-TypedExpr}
use Rattle.esql_plan.specs.Signatures.{Want, a_boolean, a_keyword, a_number, a_value, an_ordered, like_pattern, whole_pattern, free_pattern, signature_of, is_count, wants_of, same_kind, result_kind}
use Rattle.esql_plan.specs.Values.{NumberedRow}

-- the values of a cell have a kind; only null has that of NULL
abbrev pub has_kind : Kind → List Value → Bool
has_kind kind cell = list_all (λ value. same_kind (kind_of_value value) kind) cell

abbrev pub text_in : Value → Option (List ℕ)
text_in (Int number) = None
text_in (Long number) = None
text_in (Boolean truth) = None
text_in (Keyword text) = Some text

-- the text of a constant that is one keyword
abbrev pub literal_in : List Value → Option (List ℕ)
literal_in [] = None
literal_in (value ∷ []) = text_in value
literal_in (value ∷ next ∷ rest) = None

-- what is seen of a typed expression where it is an argument: its kind, its text where it is a literal, and whether it is
-- well formed
pub record Part : Type 0 where
  pub kind : Kind
  pub literal : Option (List ℕ)
  pub fits : Bool

abbrev pub same_text : Option (List ℕ) → Option (List ℕ) → Bool
same_text None None = false
same_text None (Some that) = false
same_text (Some this) None = false
same_text (Some this) (Some that) = bytes_eq this that

-- the pattern of the number has this text
abbrev pub is_pattern : List (List ℕ) → Option ℕ → Option (List ℕ) → Bool
is_pattern patterns None literal = false
is_pattern patterns (Some place) literal = same_text (slice_get patterns place) literal

-- a part is the literal that is wanted, and the pattern of the number is read from it
abbrev pub literal_fits : List (List ℕ) → List (List ℕ) → Option ℕ → Want → Part → Bool
literal_fits whole free pattern a_boolean part = true
literal_fits whole free pattern a_keyword part = true
literal_fits whole free pattern a_number part = true
literal_fits whole free pattern a_value part = true
literal_fits whole free pattern an_ordered part = true
literal_fits whole free pattern like_pattern part = is_some part.literal
literal_fits whole free pattern whole_pattern part = is_pattern whole pattern (option_map wrapped part.literal)
literal_fits whole free pattern free_pattern part = is_pattern free pattern part.literal

abbrev pub literals_fit : List (List ℕ) → List (List ℕ) → Option ℕ → List Want → List Part → Bool
literals_fit whole free pattern [] parts = true
literals_fit whole free pattern (want ∷ wants) [] = true
literals_fit whole free pattern (want ∷ wants) (part ∷ parts) =
    literal_fits whole free pattern want part && literals_fit whole free pattern wants parts

-- the argument is a pattern that has a number
abbrev pub is_numbered : Want → Bool
is_numbered a_boolean = false
is_numbered a_keyword = false
is_numbered a_number = false
is_numbered a_value = false
is_numbered an_ordered = false
is_numbered like_pattern = false
is_numbered whole_pattern = true
is_numbered free_pattern = true

-- only a function with a numbered pattern has a number
abbrev pub number_fits : List Want → Option ℕ → Bool
number_fits wants None = true
number_fits wants (Some place) = list_any is_numbered wants

abbrev pub is_result : Option Kind → Kind → Bool
is_result None kind = false
is_result (Some result) kind = same_kind result kind

-- A function of parts is well formed: there are as many as it takes, they fit by their kinds and give this kind, and its
-- literals are there with their patterns.
abbrev pub call_fits : List (List ℕ) → List (List ℕ) → Function → List Part → Option ℕ → Kind → Bool
call_fits whole free function parts pattern kind =
    let wants : List Want = wants_of (signature_of function).parameters (length parts) in
    (is_count (signature_of function).parameters (length parts) && is_result (result_kind function (map (λ part. part.kind) parts)) kind)
    && (literals_fit whole free pattern wants parts && number_fits wants pattern)

abbrev pub part_of_form : List (List ℕ) → List (List ℕ) → TypedForm-F (Kind → Part) Part → Kind → Part
part_of_form whole free (Constant cell) kind = record { kind = kind; literal = literal_in cell; fits = has_kind kind cell }
part_of_form whole free (Column id) kind = record { kind = kind; literal = None; fits = true }
part_of_form whole free (Apply function parts pattern) kind = record {
  kind = kind;
  literal = None;
  fits = list_all (λ (part : Part). part.fits) parts && call_fits whole free function parts pattern kind;
}

abbrev pub part_of : List (List ℕ) → List (List ℕ) → TypedExpr → Part
part_of whole free = fold-TypedExpr (Kind → Part) Part (part_of_form whole free) (λ expr. expr.form expr.kind)

-- the expression is well formed for the patterns
abbrev pub ExprFits : List (List ℕ) → List (List ℕ) → TypedExpr → Type 0
ExprFits whole free expr = (part_of whole free expr).fits ≡ true

-- a column that an expression reads, and the kind that it has there
pub record ReadColumn : Type 0 where
  pub id : ColId
  pub kind : Kind

abbrev pub columns_of_form : TypedForm-F (Kind → List ReadColumn) (List ReadColumn) → Kind → List ReadColumn
columns_of_form (Constant cell) kind = []
columns_of_form (Column id) kind = record { id = id; kind = kind } ∷ []
columns_of_form (Apply function parts pattern) kind = flat_map (λ columns. columns) parts

-- the columns that an expression reads, from the left
abbrev pub columns_read : TypedExpr → List ReadColumn
columns_read = fold-TypedExpr (Kind → List ReadColumn) (List ReadColumn) columns_of_form (λ expr. expr.form expr.kind)

-- a row has a cell of its kind in each column that the expression reads
abbrev pub RowFits : TypedExpr → NumberedRow → Type 0
RowFits expr row = All (λ column. has_kind column.kind (row column.id.0) ≡ true) (columns_read expr)
