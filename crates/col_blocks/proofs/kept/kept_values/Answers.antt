use Rattle.std.proofs.Common.{◌≡◌, ℕ, ℤ, ◌+◌, ◌-◌, ◌<◌, ◌≤◌, Bool, true, false, cond, List, [], ◌∷◌, ◌++◌, Some, None, map, replicate, length, get_or, take, drop, refl, sym, ap, ◌∙◌, subst, arith}
use Rattle.esql_types.specs.declared.value.Value.{Value}
use Rattle.esql_types.specs.declared.value.Value.TheVariants.{Int, Long, Bool as Boolean, Text as Keyword}
use Rattle.col_blocks.specs.Stored.{values_of, kind_of}
use Rattle.col_blocks.specs.declared.values.Values.{Values}
use Rattle.col_blocks.specs.Kept.{kept_by}
use Rattle.col_blocks.proofs.Keeps.{kept-map}
use Rattle.col_blocks.proofs.kept.kept_values.Goals as goal

pub returns-in_ok-kept_items-in-Integers-clause-values : goal.returns-in_ok-kept_items-in-Integers-clause-values
returns-in_ok-kept_items-in-Integers-clause-values c =
    let keep = c.args.keep.now in
    let h = c.in_ok-kept_items-in-Integers.ensures in
    ap (map Int) (h ∙ ap (λ (items : List ℤ). kept_by keep items) c.as_slice.ensures.value) ∙ kept-map Int keep c.in-Integers.numbers.items ∙ ap (λ (values : Values). kept_by keep (values_of values)) (sym c.in-Integers.is)

pub returns-in_ok-kept_items-in-Longs-clause-values : goal.returns-in_ok-kept_items-in-Longs-clause-values
returns-in_ok-kept_items-in-Longs-clause-values c =
    let keep = c.args.keep.now in
    let h = c.in_ok-kept_items-in-Longs.ensures in
    ap (map Long) (h ∙ ap (λ (items : List ℤ). kept_by keep items) c.as_slice-in-Longs.ensures.value) ∙ kept-map Long keep c.in-Longs.numbers.items ∙ ap (λ (values : Values). kept_by keep (values_of values)) (sym c.in-Longs.is)

pub returns-in_ok-kept_items-in-Booleans-clause-values : goal.returns-in_ok-kept_items-in-Booleans-clause-values
returns-in_ok-kept_items-in-Booleans-clause-values c =
    let keep = c.args.keep.now in
    let h = c.in_ok-kept_items-in-Booleans.ensures in
    ap (map Boolean) (h ∙ ap (λ (items : List Bool). kept_by keep items) c.as_slice-in-Booleans.ensures.value) ∙ kept-map Boolean keep c.in-Booleans.truths.items ∙ ap (λ (values : Values). kept_by keep (values_of values)) (sym c.in-Booleans.is)

pub returns-in_ok-kept_texts-in-Keywords-clause-values : goal.returns-in_ok-kept_texts-in-Keywords-clause-values
returns-in_ok-kept_texts-in-Keywords-clause-values c =
    let keep = c.args.keep.now in
    let h = c.in_ok-kept_texts-in-Keywords.ensures in
    ap (map Keyword) h ∙ kept-map Keyword keep c.in-Keywords.texts ∙ ap (λ (values : Values). kept_by keep (values_of values)) (sym c.in-Keywords.is)
