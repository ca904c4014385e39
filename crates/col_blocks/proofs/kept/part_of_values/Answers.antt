use Rattle.std.proofs.Common.{◌≡◌, ℕ, ℤ, ◌+◌, ◌-◌, ◌<◌, ◌≤◌, Bool, true, false, cond, List, [], ◌∷◌, ◌++◌, Some, None, map, replicate, length, get_or, take, drop, refl, sym, ap, ◌∙◌, subst, arith}
use Rattle.esql_types.specs.declared.value.Value.{Value}
use Rattle.esql_types.specs.declared.value.Value.TheVariants.{Int, Long, Bool as Boolean, Text as Keyword}
use Rattle.col_blocks.specs.Stored.{values_of, kind_of}
use Rattle.std.proofs.lemmas.List.{take-map, drop-map}
use Rattle.col_blocks.specs.declared.values.Values.{Values}
use Rattle.col_blocks.proofs.kept.part_of_values.Goals as goal

part-map : {X : Type 0} (f : X → Value) (start len : ℕ) (xs : List X) → map f (take len (drop start xs)) ≡ take len (drop start (map f xs))
part-map f start len xs = sym (take-map f len (drop start xs)) ∙ ap (take len) (sym (drop-map f start xs))

pub returns-in_ok-part_of_items-in-Integers-clause-values : goal.returns-in_ok-part_of_items-in-Integers-clause-values
returns-in_ok-part_of_items-in-Integers-clause-values c =
    let start = c.args.start in
    let len = c.args.len in
    let h = c.in_ok-part_of_items-in-Integers.ensures in
    ap (map Int) (h ∙ ap (λ (items : List ℤ). take len (drop start items)) c.as_slice.ensures.value) ∙ part-map Int start len c.in-Integers.numbers.items ∙ ap (λ (values : Values). take len (drop start (values_of values))) (sym c.in-Integers.is)

pub returns-in_ok-part_of_items-in-Longs-clause-values : goal.returns-in_ok-part_of_items-in-Longs-clause-values
returns-in_ok-part_of_items-in-Longs-clause-values c =
    let start = c.args.start in
    let len = c.args.len in
    let h = c.in_ok-part_of_items-in-Longs.ensures in
    ap (map Long) (h ∙ ap (λ (items : List ℤ). take len (drop start items)) c.as_slice-in-Longs.ensures.value) ∙ part-map Long start len c.in-Longs.numbers.items ∙ ap (λ (values : Values). take len (drop start (values_of values))) (sym c.in-Longs.is)

pub returns-in_ok-part_of_items-in-Booleans-clause-values : goal.returns-in_ok-part_of_items-in-Booleans-clause-values
returns-in_ok-part_of_items-in-Booleans-clause-values c =
    let start = c.args.start in
    let len = c.args.len in
    let h = c.in_ok-part_of_items-in-Booleans.ensures in
    ap (map Boolean) (h ∙ ap (λ (items : List Bool). take len (drop start items)) c.as_slice-in-Booleans.ensures.value) ∙ part-map Boolean start len c.in-Booleans.truths.items ∙ ap (λ (values : Values). take len (drop start (values_of values))) (sym c.in-Booleans.is)

pub returns-in_ok-part_of_texts-in-Keywords-clause-values : goal.returns-in_ok-part_of_texts-in-Keywords-clause-values
returns-in_ok-part_of_texts-in-Keywords-clause-values c =
    let start = c.args.start in
    let len = c.args.len in
    let h = c.in_ok-part_of_texts-in-Keywords.ensures in
    ap (map Keyword) h ∙ part-map Keyword start len c.in-Keywords.texts ∙ ap (λ (values : Values). take len (drop start (values_of values))) (sym c.in-Keywords.is)
