-- What is written item after item, each over the columns of those before it.
use Rattle.std.proofs.Common.{◌≡◌, ℕ, suc, ◌+◌, ◌<◌, Bool, List, [], ◌∷◌, length, fold, drop, get_or, Result, Ok, Err, ap, sym, subst, ◌∙◌, arith}
use Rattle.std.proofs.Math.Seq.{drop-cons}
use Rattle.std.proofs.lemmas.Result.{err_from_is_err_and}
use Rattle.std.specs.Result.{IsErrAnd}
use Rattle.esql_types.specs.declared.names.Column.{Column}
use Rattle.plan_semantics.specs.Plans.{columns_of}
use Rattle.row_semantics.specs.Regulars.{Regular, is_accepted}
use Rattle.row_semantics.specs.Kinds.{and_then}
use Rattle.query_semantics.specs.Shapes.{Shape}
use Rattle.query_semantics.specs.Writings.{Writing}
use Rattle.expression_analysis.specs.declared.error.AnalyzeError.{AnalyzeError}
use Rattle.expression_analysis.specs.Answers.{IsRefusal}
use Rattle.plan_writing.specs.declared.writing.Writing.{Writing as Made}
use Rattle.plan_writing.specs.Writings.{seen, HasRoom}
use Rattle.plan_writing.proofs.Stays.{Stays}
use Rattle.plan_writing.proofs.Refusals.{refused_behind, refused_first, refused_as}

-- items that are written in turn
pub record Turn (Item : Type 0) : Type 0 where
  pub shape : (Regular → Bool) → Item → List Column → Shape
  pub shapes : (Regular → Bool) → List Item → List Column → Shape
  pub write : Writing → Item → Writing
  pub size : Item → ℕ
  pub sizes : List Item → ℕ
  pub sizes_more : (item : Item) (items : List Item) → sizes (item ∷ items) ≡ size item + sizes items
  pub none : (accepts : Regular → Bool) (columns : List Column) → shapes accepts [] columns ≡ Ok columns
  pub more : (accepts : Regular → Bool) (item : Item) (items : List Item) (columns : List Column) → shapes accepts (item ∷ items) columns ≡ and_then (shape accepts item columns) (shapes accepts items)
  pub stays : (item : Item) (columns : List Column) → Stays (λ accepts. shape accepts item columns)
  pub room : (item : Item) (writing : Writing) (count : ℕ) → HasRoom writing (size item + count) → HasRoom (write writing item) count

-- where the rest of the items is left to be written
pub record Along {Item : Type 0} (turn : Turn Item) (items : List Item) (start : Made) (rest : List Item) (made : Made) : Type 0 where
  pub written : fold turn.write (seen made) rest ≡ fold turn.write (seen start) items
  pub shape : turn.shapes is_accepted rest (columns_of made.visible) ≡ turn.shapes is_accepted items (columns_of start.visible)
  pub refusal : (error : AnalyzeError) → IsRefusal (λ accepts. turn.shapes accepts rest (columns_of made.visible)) error → IsRefusal (λ accepts. turn.shapes accepts items (columns_of start.visible)) error
  pub room : HasRoom (seen made) (turn.sizes rest)

item_room : {Item : Type 0} (turn : Turn Item) (item : Item) (rest : List Item) (writing : Writing) → HasRoom writing (turn.sizes (item ∷ rest))
    → HasRoom writing (turn.size item + turn.sizes rest)
item_room turn item rest writing room = subst (HasRoom writing) (turn.sizes_more item rest) room

pub along_more : {Item : Type 0} (turn : Turn Item) (items : List Item) (start : Made) (item : Item) (rest : List Item) (made new : Made) → Along turn items start (item ∷ rest) made
    → (seen new ≡ turn.write (seen made) item) × (turn.shape is_accepted item (columns_of made.visible) ≡ Ok (columns_of new.visible)) → Along turn items start rest new
along_more turn items start item rest made new along writes =
    let columns : List Column = columns_of made.visible in
    record {
      written = ap (λ (writing : Writing). fold turn.write writing rest) writes.0 ∙ along.written;
      shape = sym (turn.more is_accepted item rest columns ∙ ap (λ (found : Shape). and_then found (turn.shapes is_accepted rest)) writes.1) ∙ along.shape;
      refusal = λ error refused. along.refusal error
          (refused_as (λ accepts. turn.shapes accepts (item ∷ rest) columns) (λ accepts. and_then (turn.shape accepts item columns) (turn.shapes accepts rest)) error
          (λ accepts. turn.more accepts item rest columns)
          (refused_behind (λ accepts. turn.shape accepts item columns) (λ accepts. turn.shapes accepts rest) (columns_of new.visible) error (turn.stays item columns) writes.1 refused));
      room = subst (λ (writing : Writing). HasRoom writing (turn.sizes rest)) (sym writes.0) (turn.room item (seen made) _ (item_room turn item rest (seen made) along.room));
    }

pub along_refused : {Item : Type 0} (turn : Turn Item) (items : List Item) (start : Made) (item : Item) (rest : List Item) (made : Made) (error : AnalyzeError) → Along turn items start (item ∷ rest) made
    → IsRefusal (λ accepts. turn.shape accepts item (columns_of made.visible)) error → IsRefusal (λ accepts. turn.shapes accepts items (columns_of start.visible)) error
along_refused turn items start item rest made error along refused =
    let columns : List Column = columns_of made.visible in
    along.refusal error
    (refused_as (λ accepts. turn.shapes accepts (item ∷ rest) columns) (λ accepts. and_then (turn.shape accepts item columns) (turn.shapes accepts rest)) error
    (λ accepts. turn.more accepts item rest columns)
    (refused_first (λ accepts. turn.shape accepts item columns) (λ accepts. turn.shapes accepts rest) error refused))

-- the item at a place of a list, and what is behind it
pub dropped : {A : Type 0} (i : ℕ) (xs : List A) (x : A) → i < length xs → x ≡ get_or xs i x → drop i xs ≡ x ∷ drop (i + 1) xs
dropped i xs x less is = let next : suc i ≡ i + 1 = omega arith in drop-cons xs i x less ∙ (λ k. sym is k ∷ drop (next k) xs)

-- what the exit of a `?` gives
pub err_is : {T E : Type 0} (result : Result T E) (error : E) → IsErrAnd result (λ (other : E). other ≡ error) → result ≡ Err error
err_is result error is = let found = err_from_is_err_and result is in found.1 ∙ ap Err found.2
