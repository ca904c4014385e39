use Rattle.std.proofs.Common.{◌≡◌, ℕ, ◌+◌, ◌-◌, ◌<◌, ◌≤◌, ℤ, pos, Bool, true, false, leb, eqb, List, [], ◌∷◌, ◌++◌, map, length, get_or, take, drop, refl, sym, ap, ◌∙◌, subst, arith}
use Rattle.esql_types.specs.declared.value.Value.{Value}
use Rattle.esql_types.specs.declared.value.Value.TheVariants.{Int, Long, Bool as Boolean, Text as Keyword}
use Rattle.col_blocks.specs.declared.values.Values.{Values}
use Rattle.col_blocks.specs.Cells.{first_or, blank}
use Rattle.col_blocks.specs.Pieces.{pieces}
use Rattle.col_blocks.specs.Stored.{values_of, kind_of}
use Rattle.col_blocks.proofs.FirstOf.{first_mapped}
use Rattle.col_blocks.proofs.spread.spread.Goals as goal

abbrev firsts : List ℕ → Values → List Value
firsts ends values = map (first_or (blank (kind_of values))) (pieces (values_of values) 0 ends)

pub returns-in_ok-spread_items-in-Integers-clause-values : goal.returns-in_ok-spread_items-in-Integers-clause-values
returns-in_ok-spread_items-in-Integers-clause-values c =
    let h = c.in_ok-spread_items-in-Integers.ensures in
    ap (map Int) (h ∙ ap (λ (items : List ℤ). map (first_or (pos 0)) (pieces items 0 c.args.ends.now)) c.as_slice.ensures.value)
    ∙ first_mapped Int (pos 0) c.in-Integers.numbers.items 0 c.args.ends.now
    ∙ ap (firsts c.args.ends.now) (sym c.in-Integers.is)

pub returns-in_ok-spread_items-in-Longs-clause-values : goal.returns-in_ok-spread_items-in-Longs-clause-values
returns-in_ok-spread_items-in-Longs-clause-values c =
    let h = c.in_ok-spread_items-in-Longs.ensures in
    ap (map Long) (h ∙ ap (λ (items : List ℤ). map (first_or (pos 0)) (pieces items 0 c.args.ends.now)) c.as_slice-in-Longs.ensures.value)
    ∙ first_mapped Long (pos 0) c.in-Longs.numbers.items 0 c.args.ends.now
    ∙ ap (firsts c.args.ends.now) (sym c.in-Longs.is)

pub returns-in_ok-spread_items-in-Booleans-clause-values : goal.returns-in_ok-spread_items-in-Booleans-clause-values
returns-in_ok-spread_items-in-Booleans-clause-values c =
    let h = c.in_ok-spread_items-in-Booleans.ensures in
    ap (map Boolean) (h ∙ ap (λ (items : List Bool). map (first_or (false)) (pieces items 0 c.args.ends.now)) c.as_slice-in-Booleans.ensures.value)
    ∙ first_mapped Boolean (false) c.in-Booleans.truths.items 0 c.args.ends.now
    ∙ ap (firsts c.args.ends.now) (sym c.in-Booleans.is)

pub returns-in_ok-spread_texts-in-Keywords-clause-values : goal.returns-in_ok-spread_texts-in-Keywords-clause-values
returns-in_ok-spread_texts-in-Keywords-clause-values c = let h = c.in_ok-spread_texts-in-Keywords.ensures in
    ap (map Keyword) h ∙ first_mapped Keyword [] c.in-Keywords.texts 0 c.args.ends.now ∙ ap (firsts c.args.ends.now) (sym c.in-Keywords.is)
