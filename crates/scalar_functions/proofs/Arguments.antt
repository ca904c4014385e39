-- Arguments that are taken as one value each, one after another.
use Rattle.std.proofs.Common.{◌≡◌, ◌≢◌, ℕ, suc, List, [], ◌∷◌, length, ◌++◌, refl, ap, sym, ◌∙◌, arith}
use Rattle.std.specs.List.{flat_map}
use Rattle.std.proofs.lemmas.Grind.{flat_map-append}
use Rattle.function_rules.specs.Lists.{first_of}
use Rattle.esql_types.specs.declared.value.Value.{Value}
use Rattle.esql_plan.specs.Rules.{Given, given_nothing, with_argument, arguments_of, text_of}
use Rattle.esql_plan.specs.Functions.{of_one, of_two, of_three, substring_rule, alone, append_rule, slice_rule}
use Rattle.scalar_functions.specs.declared.singles.Singles.{Singles}
use Rattle.scalar_functions.specs.declared.singles.Singles.TheVariants.{Are, Null, Several}
use Rattle.scalar_functions.specs.Results.{arguments_by, first_values, AreSingle}

with_told : (value : Value) (told : Singles) (cells : List (List Value)) → with_argument value (arguments_by told cells) ≡ arguments_by told ((value ∷ []) ∷ cells)
with_told value Are cells = refl
with_told value Null cells = refl
with_told value Several cells = refl

-- one more argument of exactly one value changes nothing that is told of the others
pub arguments_next : (cell : List Value) (value : Value) (cells : List (List Value)) (told : Singles) → cell ≡ value ∷ [] → arguments_of cells ≡ arguments_by told cells
    → arguments_of (cell ∷ cells) ≡ arguments_by told (cell ∷ cells)
arguments_next cell value cells told is others = rw is (ap (with_argument value) others ∙ with_told value told cells)

-- cells of exactly one value have as many first values
pub values_as_many : (cells : List (List Value)) → AreSingle cells → length (first_values cells) ≡ length cells
values_as_many [] single = refl
values_as_many ([] ∷ cells) single = absurd (let h : 0 ≡ 1 = single.0 in omega arith)
values_as_many ((value ∷ rest) ∷ cells) single = ap suc (values_as_many cells single.1)

-- what is given of another number of values than a rule takes
pub of_one_not : (rule : Value → Given) (values : List Value) → length values ≢ 1 → of_one rule values ≡ given_nothing
of_one_not rule [] other = refl
of_one_not rule (first ∷ []) other = absurd (other refl)
of_one_not rule (first ∷ second ∷ rest) other = refl

pub of_two_not : (rule : Value → Value → Given) (values : List Value) → length values ≢ 2 → of_two rule values ≡ given_nothing
of_two_not rule [] other = refl
of_two_not rule (first ∷ []) other = refl
of_two_not rule (first ∷ second ∷ []) other = absurd (other refl)
of_two_not rule (first ∷ second ∷ third ∷ rest) other = refl

pub of_three_not : (rule : Value → Value → Value → Given) (values : List Value) → length values ≢ 3 → of_three rule values ≡ given_nothing
of_three_not rule [] other = refl
of_three_not rule (first ∷ []) other = refl
of_three_not rule (first ∷ second ∷ []) other = refl
of_three_not rule (first ∷ second ∷ third ∷ []) other = absurd (other refl)
of_three_not rule (first ∷ second ∷ third ∷ fourth ∷ rest) other = refl

pub substring_not : (values : List Value) → length values ≢ 2 → length values ≢ 3 → substring_rule values ≡ given_nothing
substring_not [] two three = refl
substring_not (first ∷ []) two three = refl
substring_not (first ∷ second ∷ []) two three = absurd (two refl)
substring_not (first ∷ second ∷ third ∷ []) two three = absurd (three refl)
substring_not (first ∷ second ∷ third ∷ fourth ∷ rest) two three = refl

pub alone_not : (rule : List Value → Given) (list values : List Value) → length values ≢ 0 → alone rule list values ≡ given_nothing
alone_not rule list [] other = absurd (other refl)
alone_not rule list (value ∷ rest) other = refl

pub slice_not : (list values : List Value) → length values ≢ 1 → length values ≢ 2 → slice_rule list values ≡ given_nothing
slice_not list [] one two = refl
slice_not list (first ∷ []) one two = absurd (one refl)
slice_not list (first ∷ second ∷ []) one two = absurd (two refl)
slice_not list (first ∷ second ∷ third ∷ rest) one two = refl

pub append_not : (cells : List (List Value)) → length cells ≢ 2 → append_rule cells ≡ given_nothing
append_not [] other = refl
append_not (first ∷ []) other = refl
append_not (first ∷ second ∷ []) other = absurd (other refl)
append_not (first ∷ second ∷ third ∷ rest) other = refl

-- the texts of the first values of cells, joined cell by cell
pub texts_joined : (cells : List (List Value)) → flat_map (λ cell. flat_map text_of (first_of cell)) cells ≡ flat_map text_of (first_values cells)
texts_joined [] = refl
texts_joined (cell ∷ cells) =
    ap (λ (rest : List ℕ). flat_map text_of (first_of cell) ++ rest) (texts_joined cells)
    ∙ sym (flat_map-append text_of (first_of cell) (first_values cells))
