use Rattle.std.proofs.Common.{◌≡◌, ℕ, List, take, ap, ◌∙◌, arith}
use Rattle.std.specs.List.{flat_map}
use Rattle.std.proofs.lemmas.List.{take_all}
use Rattle.function_rules.specs.Lists.{first_of}
use Rattle.esql_types.specs.declared.value.Value.{Value}
use Rattle.esql_types.specs.declared.value.Value.TheVariants.{Text as Keyword}
use Rattle.esql_plan.specs.Rules.{text_of, given_one}
use Rattle.scalar_functions.proofs.Arguments.{texts_joined}
use Rattle.scalar_functions.proofs.single.concat.Goals as goal

pub returns : goal.returns
returns c =
    let all : take c.loop-cell.cell-index c.args.cells.now ≡ c.args.cells.now = take_all c.loop-cell.cell-index c.args.cells.now (omega arith) in
    ap (λ (text : List ℕ). given_one (Keyword text))
    (c.finish.ensures
    ∙ c.loop-cell.invariant
    ∙ ap (flat_map (λ (cell : List Value). flat_map text_of (first_of cell))) all
    ∙ texts_joined c.args.cells.now)
