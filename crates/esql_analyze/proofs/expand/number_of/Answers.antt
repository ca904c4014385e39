use Rattle.std.proofs.Common.{List, ℕ, ap, sym, ◌∙◌}
use Rattle.std.specs.Option.{option_map}
use Rattle.row_semantics.specs.Typed.{visible_named}
use Rattle.esql_analyze.proofs.ExpandWrites.{id_of, id_shown, id_unknown}
use Rattle.esql_analyze.proofs.expand.number_of.Goals as goal

pub returns-in-Some : goal.returns-in-Some
returns-in-Some c =
    id_shown (visible_named c.args.visible.now c.as_str.result.now) c.in-Some.shown c.in-Some.ensures
    ∙ ap (λ (name : List ℕ). option_map id_of (visible_named c.args.visible.now name)) c.as_str.ensures

pub returns-in-None : goal.returns-in-None
returns-in-None c =
    id_unknown (visible_named c.args.visible.now c.as_str.result.now) c.in-None.ensures
    ∙ ap (λ (name : List ℕ). option_map id_of (visible_named c.args.visible.now name)) c.as_str.ensures
