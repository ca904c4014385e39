-- A block that is being built, as contracts see it: its cells so far, and the values of the row that is open.
use Rattle.std.specs.Prelude.{ℕ, ◌≡◌, ◌==◌, Bool, List, length, nat_le}
use Rattle.std.specs.List.{list_all}
use Rattle.esql_types.specs.declared.value.Kind.{Kind}
use Rattle.esql_types.specs.declared.value.Value.{Value}
use Rattle.col_blocks.specs.declared.values.Values.{Values}
use Rattle.col_blocks.specs.Pieces.{pieces, Rises}
use Rattle.col_blocks.specs.Stored.{values_of, kind_of}

pub record Building : Type 0 where
  pub kind : Kind
  pub cells : List (List Value)
  pub row : List Value

-- the values so far fit the ends of the rows so far, and it is known whether each has one value, and at most one
pub record BuilderFits (kind : Kind) (values : Values) (ends : List ℕ) (single few : Bool) : Type 0 where
  pub of_kind : kind_of values ≡ kind
  pub rises : Rises 0 ends (length (values_of values))
  pub each_one : single ≡ list_all (λ cell. length cell == 1) (pieces (values_of values) 0 ends)
  pub each_few : few ≡ list_all (λ cell. nat_le (length cell) 1) (pieces (values_of values) 0 ends)
