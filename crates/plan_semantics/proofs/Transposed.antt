-- Where a node fails in one part at most, its causes are the same row by row as part by part.
use Rattle.std.proofs.Common.{◌≡◌, ℕ, ◌+◌, ◌≤◌, ◌==◌, Bool, true, false, List, [], ◌∷◌, ◌++◌, map, filter, refl, ap, sym, ◌∙◌, arith, cond, if◌then◌else◌}
use Rattle.std.specs.Prelude.{◌||◌}
use Rattle.std.specs.List.{flat_map}
use Rattle.std.proofs.lemmas.List.{append-nil, map-append}
use Rattle.std.proofs.lemmas.List.Elements.{filter-append}
use Rattle.esql_types.specs.declared.cause.Cause.{Cause}
use Rattle.esql_types.specs.declared.cause.Failure.{Failure}
use Rattle.esql_types.specs.declared.names.NodeId.{NodeId}
use Rattle.plan_semantics.specs.Agrees.{causes_at}
use Rattle.plan_semantics.specs.Parts.{over_rows, fails_at, count_of}

-- a list is empty where what it is the front of is, and so is what stands behind it
pub both_nil : {X : Type 0} (xs ys : List X) → xs ++ ys ≡ [] → (xs ≡ []) × (ys ≡ [])
both_nil [] ys is = (refl, is)
both_nil (x ∷ xs) ys is = absurd cc

pub count_of-append : {X : Type 0} (test : X → Bool) (xs ys : List X) → count_of test (xs ++ ys) ≡ count_of test xs + count_of test ys
count_of-append test [] ys = omega arith
count_of-append test (x ∷ xs) ys = omega (arith, count_of-append test xs ys)

-- row by row, and part by part
abbrev pub by_rows : {Row : Type 0} → List (Row → List Failure) → List Row → List Failure
by_rows parts rows = flat_map (λ row. flat_map (λ part. part row) parts) rows

abbrev pub by_parts : {Row : Type 0} → List (Row → List Failure) → List Row → List Failure
by_parts parts rows = flat_map (λ part. flat_map part rows) parts

-- what each part fails with on one row
abbrev pub on : {Row : Type 0} → List (Row → List Failure) → Row → List (List Failure)
on parts row = map (λ part. part row) parts

module _ (node : NodeId) where
  pub causes-append : (xs ys : List Failure) → causes_at node (xs ++ ys) ≡ causes_at node xs ++ causes_at node ys
  causes-append xs ys =
      ap (map (λ (failure : Failure). failure.cause)) (filter-append (λ (failure : Failure). failure.node.0 == node.0) xs ys)
      ∙ map-append (λ (failure : Failure). failure.cause) (filter (λ (failure : Failure). failure.node.0 == node.0) xs) (filter (λ (failure : Failure). failure.node.0 == node.0) ys)

  pub quiet : (xs : List Failure) → fails_at node xs ≡ false → causes_at node xs ≡ []
  quiet [] is = refl
  quiet (failure ∷ xs) is =
      elim (failure.node.0 == node.0) as (λ b. b || fails_at node xs ≡ false
      → map (λ (failure : Failure). failure.cause) (if b then failure ∷ filter (λ (failure : Failure). failure.node.0 == node.0) xs else filter (λ (failure : Failure). failure.node.0 == node.0) xs) ≡ [])
      [ true ↦ λ no. absurd cc | false ↦ λ no. quiet xs no ] is

  -- a part that is quiet is one that does not count
  pub uncounted : (xs : List Failure) (others : ℕ) → (if fails_at node xs then 1 else 0) + others ≤ 0 → causes_at node xs ≡ []
  uncounted xs others none = by_case (fails_at node xs) refl
    where
      by_case : (b : Bool) → fails_at node xs ≡ b → causes_at node xs ≡ []
      by_case false is = quiet xs is
      by_case true is = absurd (let one = ap (λ (b : Bool). cond {A = ℕ} b 1 0) is in omega (arith, one, none))

  -- where the first of two is quiet, or the second, there is the other alone
  pub second_alone : {Row : Type 0} (f g : Row → List Failure) (rows : List Row) → causes_at node (flat_map f rows) ≡ []
      → causes_at node (flat_map (λ row. f row ++ g row) rows) ≡ causes_at node (flat_map g rows)
  second_alone f g [] is = refl
  second_alone f g (row ∷ rows) is =
      let split = both_nil (causes_at node (f row)) (causes_at node (flat_map f rows)) (sym (causes-append (f row) (flat_map f rows)) ∙ is) in
      causes-append (f row ++ g row) (flat_map (λ row. f row ++ g row) rows)
      ∙ (λ i. (causes-append (f row) (g row) ∙ ap (λ (these : List Cause). these ++ causes_at node (g row)) split.0) i ++ second_alone f g rows split.1 i)
      ∙ sym (causes-append (g row) (flat_map g rows))

  pub first_alone : {Row : Type 0} (f g : Row → List Failure) (rows : List Row) → causes_at node (flat_map g rows) ≡ []
      → causes_at node (flat_map (λ row. f row ++ g row) rows) ≡ causes_at node (flat_map f rows)
  first_alone f g [] is = refl
  first_alone f g (row ∷ rows) is =
      let split = both_nil (causes_at node (g row)) (causes_at node (flat_map g rows)) (sym (causes-append (g row) (flat_map g rows)) ∙ is) in
      causes-append (f row ++ g row) (flat_map (λ row. f row ++ g row) rows)
      ∙ (λ i. (causes-append (f row) (g row) ∙ ap (λ (these : List Cause). causes_at node (f row) ++ these) split.0 ∙ append-nil (causes_at node (f row))) i ++ first_alone f g rows split.1 i)
      ∙ sym (causes-append (f row) (flat_map f rows))

  nothing : {Row : Type 0} (rows : List Row) → causes_at node (by_rows [] rows) ≡ []
  nothing [] = refl
  nothing (row ∷ rows) = nothing rows

  -- no part fails at the node
  pub all_quiet : {Row : Type 0} (parts : List (Row → List Failure)) (rows : List Row) → count_of (fails_at node) (over_rows parts rows) ≤ 0 → causes_at node (by_parts parts rows) ≡ []
  all_quiet [] rows none = refl
  all_quiet (part ∷ parts) rows none =
      causes-append (flat_map part rows) (by_parts parts rows)
      ∙ (λ i. uncounted (flat_map part rows) (count_of (fails_at node) (over_rows parts rows)) none i ++ all_quiet parts rows (omega (arith, none)) i)

  step : {Row : Type 0} (part : Row → List Failure) (parts : List (Row → List Failure)) (rows : List Row) (b : Bool) → fails_at node (flat_map part rows) ≡ b
      → count_of (fails_at node) (over_rows (part ∷ parts) rows) ≤ 1
      → causes_at node (by_rows parts rows) ≡ causes_at node (by_parts parts rows)
      → causes_at node (by_rows (part ∷ parts) rows) ≡ causes_at node (by_parts (part ∷ parts) rows)
  step part parts rows false is once rest =
      let none = quiet (flat_map part rows) is in
      second_alone part (λ row. flat_map (λ part. part row) parts) rows none
      ∙ rest
      ∙ sym (causes-append (flat_map part rows) (by_parts parts rows) ∙ ap (λ (these : List Cause). these ++ causes_at node (by_parts parts rows)) none)
  step part parts rows true is once rest =
      let one = ap (λ (b : Bool). cond {A = ℕ} b 1 0) is in
      let none = all_quiet parts rows (omega (arith, one, once)) in
      first_alone part (λ row. flat_map (λ part. part row) parts) rows (rest ∙ none)
      ∙ sym (causes-append (flat_map part rows) (by_parts parts rows) ∙ ap (λ (these : List Cause). causes_at node (flat_map part rows) ++ these) none ∙ append-nil (causes_at node (flat_map part rows)))

  pub same_at : {Row : Type 0} (parts : List (Row → List Failure)) (rows : List Row) → count_of (fails_at node) (over_rows parts rows) ≤ 1
      → causes_at node (by_rows parts rows) ≡ causes_at node (by_parts parts rows)
  same_at [] rows once = nothing rows
  same_at (part ∷ parts) rows once = step part parts rows (fails_at node (flat_map part rows)) refl once (same_at parts rows (omega (arith, once)))

  -- no more parts fail on a row than on it and others
  front_fails : (xs ys : List Failure) → fails_at node xs ≡ true → fails_at node (xs ++ ys) ≡ true
  front_fails [] ys is = absurd cc
  front_fails (failure ∷ xs) ys is =
      elim (failure.node.0 == node.0) as (λ b. b || fails_at node xs ≡ true → b || fails_at node (xs ++ ys) ≡ true)
      [ true ↦ λ yes. refl | false ↦ λ yes. front_fails xs ys yes ] is

  back_fails : (xs ys : List Failure) → fails_at node ys ≡ true → fails_at node (xs ++ ys) ≡ true
  back_fails [] ys is = is
  back_fails (failure ∷ xs) ys is = elim (failure.node.0 == node.0) as (λ b. b || fails_at node (xs ++ ys) ≡ true) [ true ↦ refl | false ↦ back_fails xs ys is ]

  fewer : (this that : List Failure) → (fails_at node this ≡ true → fails_at node that ≡ true) → cond {A = ℕ} (fails_at node this) 1 0 ≤ cond {A = ℕ} (fails_at node that) 1 0
  fewer this that so = by_cases (fails_at node this) (fails_at node that) so
    where
      by_cases : (b c : Bool) → (b ≡ true → c ≡ true) → cond {A = ℕ} b 1 0 ≤ cond {A = ℕ} c 1 0
      by_cases true true so = omega arith
      by_cases true false so = absurd (let no : false ≡ true = so refl in cc)
      by_cases false true so = omega arith
      by_cases false false so = omega arith

  pub fails_first : {Row : Type 0} (parts : List (Row → List Failure)) (row : Row) (rows : List Row)
      → count_of (fails_at node) (on parts row) ≤ count_of (fails_at node) (over_rows parts (row ∷ rows))
  fails_first [] row rows = omega arith
  fails_first (part ∷ parts) row rows =
      omega (arith, fewer (part row) (part row ++ flat_map part rows) (front_fails (part row) (flat_map part rows)), fails_first parts row rows)

  pub fails_later : {Row : Type 0} (parts : List (Row → List Failure)) (row : Row) (rows : List Row)
      → count_of (fails_at node) (over_rows parts rows) ≤ count_of (fails_at node) (over_rows parts (row ∷ rows))
  fails_later [] row rows = omega arith
  fails_later (part ∷ parts) row rows =
      omega (arith, fewer (flat_map part rows) (part row ++ flat_map part rows) (back_fails (part row) (flat_map part rows)), fails_later parts row rows)

  -- What is the same as the parts on each row, where the node fails in one part of it at most, is the same as the parts over all
  -- rows.
  pub alike_over : {Row : Type 0} (of : Row → List Failure) (parts : List (Row → List Failure))
      → ((row : Row) → count_of (fails_at node) (on parts row) ≤ 1 → causes_at node (of row) ≡ causes_at node (flat_map (λ part. part row) parts))
      → (rows : List Row) → count_of (fails_at node) (over_rows parts rows) ≤ 1 → causes_at node (flat_map of rows) ≡ causes_at node (by_rows parts rows)
  alike_over of parts alike [] once = refl
  alike_over of parts alike (row ∷ rows) once =
      causes-append (of row) (flat_map of rows)
      ∙ (λ i. alike row (omega (arith, once, fails_first parts row rows)) i ++ alike_over of parts alike rows (omega (arith, once, fails_later parts row rows)) i)
      ∙ sym (causes-append (flat_map (λ part. part row) parts) (by_rows parts rows))
