-- Causes and failures one at a time.
use Rattle.std.proofs.Common.{◌≡◌, ◌≢◌, ◌||◌, eq-eqb, ℕ, ◌+◌, ◌<◌, ◌≤◌, ◌==◌, get_or, Bool, true, false, not, cond, List, [], ◌∷◌, ◌++◌, map, take, length, filter, refl, ap, ◌∙◌, sym, arith, append-nil, length-append, length-take}
use Rattle.std.specs.List.{list_any, flat_map, AllByRecursion, IsDistinct}
use Rattle.std.proofs.lemmas.List.{map-append, take-append-le, take_all, take_more}
use Rattle.std.proofs.lemmas.Bool.{ne_eqb}
use Rattle.std.proofs.lemmas.Grind.{flat_map-append}
use Rattle.std.proofs.lemmas.List.Elements.{filter-append}
use Rattle.esql_types.specs.declared.cause.Cause.{Cause}
use Rattle.esql_types.specs.declared.cause.Failure.{Failure}
use Rattle.esql_types.specs.declared.names.NodeId.{NodeId}
use Rattle.esql_ast.specs.declared.nodes.NodeAt.{NodeAt}
use Rattle.answer_text.specs.Warnings.{at_node, distinct, cause_eq, warned}

-- the causes at a node after one more failure
at_node_more : (front : List Failure) (failure : Failure) (node : NodeId)
    → at_node (front ++ failure ∷ []) node ≡ at_node front node ++ cond (failure.node.0 == node.0) (failure.cause ∷ []) []
at_node_more [] failure node = elim (failure.node.0 == node.0) as (λ b. map (λ (f : Failure). f.cause) (cond b (failure ∷ []) []) ≡ cond b (failure.cause ∷ []) []) [ true ↦ refl | false ↦ refl ]
at_node_more (first ∷ front) failure node = elim (first.node.0 == node.0) as (λ b. map (λ (f : Failure). f.cause) (cond b (first ∷ filter (λ (f : Failure). f.node.0 == node.0) (front ++ failure ∷ [])) (filter (λ (f : Failure). f.node.0 == node.0) (front ++ failure ∷ []))) ≡ map (λ (f : Failure). f.cause) (cond b (first ∷ filter (λ (f : Failure). f.node.0 == node.0) front) (filter (λ (f : Failure). f.node.0 == node.0) front)) ++ cond (failure.node.0 == node.0) (failure.cause ∷ []) []) [ true ↦ ap (λ cs. first.cause ∷ cs) (at_node_more front failure node) | false ↦ at_node_more front failure node ]

module _ {X : Type 0} (eq : X → X → Bool) where
  -- an element that was kept out of a list by another
  keeps_out : (first x : X) (seen : Bool) → filter (λ y. not (eq first y)) (cond seen [] (x ∷ [])) ≡ cond (eq first x || seen) [] (x ∷ [])
  keeps_out first x true = elim (eq first x) as (λ b. [] ≡ cond (b || true) [] (x ∷ [])) [ true ↦ refl | false ↦ refl ]
  keeps_out first x false = elim (eq first x) as (λ b. cond (not b) (x ∷ []) [] ≡ cond (b || false) [] (x ∷ [])) [ true ↦ refl | false ↦ refl ]

-- whether an image passes a test
list_any-map : {A B : Type 0} (f : A → B) (test : B → Bool) (xs : List A) → list_any test (map f xs) ≡ list_any (λ x. test (f x)) xs
list_any-map f test [] = refl
list_any-map f test (x ∷ xs) = ap (λ b. test (f x) || b) (list_any-map f test xs)

-- the distinct causes after one more
pub distinct_more : (front : List Cause) (cause : Cause)
    → distinct (front ++ cause ∷ []) ≡ distinct front ++ cond (list_any (λ earlier. cause_eq earlier cause) front) [] (cause ∷ [])
distinct_more [] cause = refl
distinct_more (first ∷ front) cause =
    let seen : Bool = list_any (λ earlier. cause_eq earlier cause) front in
    ap (λ cs. first ∷ filter (λ other. not (cause_eq first other)) cs) (distinct_more front cause)
    ∙ ap (λ cs. first ∷ cs) (filter-append (λ other. not (cause_eq first other)) (distinct front) (cond seen [] (cause ∷ [])))
    ∙ ap (λ cs. first ∷ (filter (λ other. not (cause_eq first other)) (distinct front) ++ cs)) (keeps_out cause_eq first cause seen)

module _ {X : Type 0} where
  -- the first elements of a list that has as many, after one more
  first_full : (n : ℕ) (xs more : List X) → n ≤ length (take n xs) → take n (xs ++ more) ≡ take n xs
  first_full n xs more full = take-append-le n xs more (omega (arith, length-take n xs))

  -- the first elements of a list that has fewer, after one more
  first_grown : (n : ℕ) (xs : List X) (x : X) → length (take n xs) < n → take n (xs ++ x ∷ []) ≡ take n xs ++ x ∷ []
  first_grown n xs x few =
      let short : length xs < n = omega (arith, length-take n xs) in
      let grown : length (xs ++ x ∷ []) ≤ n = omega (arith, length-append xs (x ∷ [])) in
      take_all n (xs ++ x ∷ []) grown ∙ ap (λ ys. ys ++ x ∷ []) (sym (take_all n xs (omega arith)))

module _ (failures : List Failure) (i : ℕ) (failure : Failure) (node : NodeId) (within : i < length failures) (is : failure ≡ get_or failures i failure) where
  more : at_node (take (i + 1) failures) node ≡ at_node (take i failures) node ++ cond (failure.node.0 == node.0) (failure.cause ∷ []) []
  more =
      ap (λ fs. at_node fs node) (take_more failures i failure within)
      ∙ ap (λ f. at_node (take i failures ++ f ∷ []) node) (sym is)
      ∙ at_node_more (take i failures) failure node

  -- the first causes at a node after a failure elsewhere, after one that is still told of, and after one that is not
  pub told_elsewhere : failure.node.0 ≢ node.0 → take 20 (at_node (take i failures) node) ≡ take 20 (at_node (take (i + 1) failures) node)
  told_elsewhere other = ap (take 20) (sym (more ∙ ap (λ b. at_node (take i failures) node ++ cond b (failure.cause ∷ []) []) (ne_eqb failure.node.0 node.0 other) ∙ append-nil _))

  pub told_more : failure.node.0 ≡ node.0 → length (take 20 (at_node (take i failures) node)) < 20
      → take 20 (at_node (take i failures) node) ++ failure.cause ∷ [] ≡ take 20 (at_node (take (i + 1) failures) node)
  told_more here few =
      sym (ap (take 20) (more ∙ ap (λ b. at_node (take i failures) node ++ cond b (failure.cause ∷ []) []) (eq-eqb failure.node.0 node.0 here)) ∙ first_grown 20 (at_node (take i failures) node) failure.cause few)

  pub told_full : failure.node.0 ≡ node.0 → 20 ≤ length (take 20 (at_node (take i failures) node))
      → take 20 (at_node (take i failures) node) ≡ take 20 (at_node (take (i + 1) failures) node)
  told_full here full =
      sym (ap (take 20) (more ∙ ap (λ b. at_node (take i failures) node ++ cond b (failure.cause ∷ []) []) (eq-eqb failure.node.0 node.0 here)) ∙ first_full 20 (at_node (take i failures) node) (failure.cause ∷ []) full)

-- what is said of the distinct causes after one more, where a test tells whether it stood before
module _ {A : Type 0} (now : A → Cause) (line : Cause → List ℕ) (causes : List A) (i : ℕ) (cause : A) (within : i < length causes) (is : cause ≡ get_or causes i cause) where
  said_next : flat_map line (distinct (map now (take (i + 1) causes))) ≡ flat_map line (distinct (map now (take i causes))) ++ flat_map line (cond (list_any (λ earlier. cause_eq (now earlier) (now cause)) (take i causes)) [] (now cause ∷ []))
  said_next =
      ap (λ xs. flat_map line (distinct (map now xs))) (take_more causes i cause within ∙ ap (λ x. take i causes ++ x ∷ []) (sym is))
      ∙ ap (λ xs. flat_map line (distinct xs)) (map-append now (take i causes) (cause ∷ []))
      ∙ ap (flat_map line) (distinct_more (map now (take i causes)) (now cause))
      ∙ ap (λ b. flat_map line (distinct (map now (take i causes)) ++ cond b [] (now cause ∷ []))) (list_any-map now (λ earlier. cause_eq earlier (now cause)) (take i causes))
      ∙ flat_map-append line (distinct (map now (take i causes))) (cond (list_any (λ earlier. cause_eq (now earlier) (now cause)) (take i causes)) [] (now cause ∷ []))

  pub said_again : list_any (λ earlier. cause_eq (now earlier) (now cause)) (take i causes) ≡ true
      → flat_map line (distinct (map now (take (i + 1) causes))) ≡ flat_map line (distinct (map now (take i causes)))
  said_again seen = said_next ∙ ap (λ b. flat_map line (distinct (map now (take i causes))) ++ flat_map line (cond b [] (now cause ∷ []))) seen ∙ append-nil _

  pub said_more : list_any (λ earlier. cause_eq (now earlier) (now cause)) (take i causes) ≡ false
      → flat_map line (distinct (map now (take (i + 1) causes))) ≡ flat_map line (distinct (map now (take i causes))) ++ line (now cause)
  said_more new =
      said_next
      ∙ ap (λ b. flat_map line (distinct (map now (take i causes))) ++ flat_map line (cond b [] (now cause ∷ []))) new
      ∙ ap (λ xs. flat_map line (distinct (map now (take i causes))) ++ xs) (append-nil (line (now cause)))

-- without failures nothing is said of any node
pub warned-no_failures : (text : List ℕ) (nodes : List NodeAt) → warned text nodes [] ≡ []
warned-no_failures text [] = refl
warned-no_failures text (at ∷ nodes) = warned-no_failures text nodes

module _ {X : Type 0} (eq : X → X → Bool) where
  all_filter : (P : X → Type 0) (test : X → Bool) (xs : List X) → AllByRecursion P xs → AllByRecursion P (filter test xs)
  all_filter P test [] all = tt
  all_filter P test (x ∷ xs) all = elim (test x) as (λ b. AllByRecursion P (cond b (x ∷ filter test xs) (filter test xs))) [ true ↦ (all.0, all_filter P test xs all.1) | false ↦ all_filter P test xs all.1 ]

  distinct_filter : (test : X → Bool) (xs : List X) → IsDistinct eq xs → IsDistinct eq (filter test xs)
  unfolding IsDistinct
  distinct_filter test [] apart = tt
  distinct_filter test (x ∷ xs) apart = elim (test x) as (λ b. IsDistinct eq (cond b (x ∷ filter test xs) (filter test xs))) [ true ↦ (all_filter (λ y. eq x y ≡ false) test xs apart.0, distinct_filter test xs apart.1) | false ↦ distinct_filter test xs apart.1 ]

  kept_by : (x y : X) (b : Bool) (ys : List X) → eq x y ≡ b → AllByRecursion (λ z. eq x z ≡ false) ys → AllByRecursion (λ z. eq x z ≡ false) (cond (not b) (y ∷ ys) ys)
  kept_by x y true ys is all = all
  kept_by x y false ys is all = (is, all)

  filtered : (x : X) (xs : List X) → AllByRecursion (λ y. eq x y ≡ false) (filter (λ y. not (eq x y)) xs)
  filtered x [] = tt
  filtered x (y ∷ xs) = kept_by x y (eq x y) (filter (λ z. not (eq x z)) xs) refl (filtered x xs)

-- no two of the distinct causes are the same
pub distinct-IsDistinct : (causes : List Cause) → IsDistinct cause_eq (distinct causes)
unfolding IsDistinct
distinct-IsDistinct [] = tt
distinct-IsDistinct (cause ∷ causes) = (filtered cause_eq cause (distinct causes), distinct_filter cause_eq (λ other. not (cause_eq cause other)) (distinct causes) (distinct-IsDistinct causes))
