use Rattle.std.proofs.Common.{List, ℕ, refl, sym, ap, ◌∙◌}
use Rattle.name_rules.specs.NameRules.{keep_places, at_places}
use Rattle.plan_semantics.specs.Plans.{columns_of}
use Rattle.row_semantics.specs.Columns.{names_of}
use Rattle.query_semantics.proofs.Named.{names_of-columns}
use Rattle.plan_writing.specs.Writings.{joined}
use Rattle.esql_analyze.proofs.NameWrites.{kept_writes, pattern_told}
use Rattle.esql_analyze.proofs.names.write_keep.Goals as goal

pub returns-in-Err : goal.returns-in-Err
returns-in-Err c =
    let patterns = c.args.patterns.now in
    let visible = c.args.writing.visible in
    pattern_told c.in_ok-apart.apart.names patterns (columns_of visible) (at_places (keep_places (names_of (columns_of visible)) patterns) (columns_of visible)) c.in-Err.error c.pattern_error.result
    (names_of-columns visible ∙ sym c.in_ok-apart.ensures.names) c.in-Err.ensures c.pattern_error.ensures

pub returns : goal.returns
returns c =
    let old = c.args.writing in
    let apart = c.in_ok-apart.apart in
    kept_writes c.args.patterns.now old (record { visible = c.in_ok-visible.visible; next = old.next; patterns = old.patterns; cutters = old.cutters; steps = old.steps }) apart c.in-Ok.places
    c.in_ok-apart.ensures.names c.in_ok-apart.ensures.shown c.in-Ok.ensures.0 c.in-Ok.ensures.1
    (c.in_ok-visible.ensures ∙ ap (λ (places : List ℕ). at_places places (joined apart.names apart.shown)) c.as_slice.ensures) refl refl refl refl
