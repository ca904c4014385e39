use Rattle.std.proofs.Common.{ℕ, List, Err, ap, sym, ◌∙◌}
use Rattle.std.specs.Option.{option_map}
use Rattle.esql_types.specs.declared.places.Span.{Span}
use Rattle.row_semantics.specs.declared.rule.NameRule.TheVariants as rule
use Rattle.row_semantics.specs.Typed.{visible_named}
use Rattle.query_semantics.specs.Shapes.{Shape}
use Rattle.esql_analyze.specs.Policies.{found_of}
use Rattle.visible_columns.specs.Columns.{shown_of}
use Rattle.esql_analyze.proofs.EnrichWrites.{no_matched, bad_kind, fields_refused, policy_writes, known_fields, fields_as_taken, refused_fields}
use Rattle.esql_analyze.proofs.enrich.write_policy.Goals as goal

pub returns-in-None : goal.returns-in-None
returns-in-None c =
    let found = found_of c.args.found in
    let on = c.args.on.now in
    let is = ap (λ (name : List ℕ). option_map shown_of (visible_named c.args.writing.visible name)) (sym (c.as_str.ensures ∙ c.matched_name-name.ensures)) ∙ sym c.in-None.ensures in
    no_matched found c.args.policy.now on c.args.items.now c.args.writing.visible is
    ∙ ap (λ (at : Span). let shape : Shape = Err (record { rule = rule.UnknownColumn; span = at }) in shape) (sym c.matched_at-at.ensures)

pub returns-then-not-kinds_match : goal.returns-then-not-kinds_match
returns-then-not-kinds_match c =
    let found = found_of c.args.found in
    let on = c.args.on.now in
    let is = ap (λ (name : List ℕ). option_map shown_of (visible_named c.args.writing.visible name)) (sym (c.as_str.ensures ∙ c.matched_name-name.ensures)) ∙ sym c.in-Some.ensures in
    bad_kind found c.args.policy.now on c.args.items.now c.args.writing.visible c.in-Some.matched is (sym c.kinds_match.ensures ∙ c.if-not-kinds_match.true)
    ∙ ap (λ (at : Span). let shape : Shape = Err (record { rule = rule.BadKind; span = at }) in shape) (sym c.matched_at-at.ensures)

pub returns-in-Err : goal.returns-in-Err
returns-in-Err c =
    let found = found_of c.args.found in
    let on = c.args.on.now in
    let items = c.args.items.now in
    let is = ap (λ (name : List ℕ). option_map shown_of (visible_named c.args.writing.visible name)) (sym (c.as_str.ensures ∙ c.matched_name-name.ensures)) ∙ sym c.in-Some.ensures in
    fields_refused found c.args.policy.now on items c.args.writing.visible c.in-Some.matched c.in-Err.error is (sym c.kinds_match.ensures ∙ c.if-not-kinds_match.false)
    (refused_fields c.as_slice.result.now found.shape.fields items c.in-Err.error c.as_slice.ensures c.in-Err.ensures.refusal)

pub returns-in-Ok-add_enrich : goal.returns-in-Ok-add_enrich
returns-in-Ok-add_enrich c =
    let found = found_of c.args.found in
    let on = c.args.on.now in
    let items = c.args.items.now in
    let taken = c.in-Ok.taken in
    let is = ap (λ (name : List ℕ). option_map shown_of (visible_named c.args.writing.visible name)) (sym (c.as_str.ensures ∙ c.matched_name-name.ensures)) ∙ sym c.in-Some.ensures in
    policy_writes found c.args.policy.now on items c.args.writing c.in-Ok-add_enrich.writing c.in-Some.matched taken is (sym c.kinds_match.ensures ∙ c.if-not-kinds_match.false)
    (known_fields c.as_slice.result.now found.shape.fields items c.as_slice.ensures c.in-Ok.ensures.known)
    (fields_as_taken c.as_slice.result.now found.shape.fields items taken c.as_slice.ensures c.in-Ok.ensures.taken)
    c.in-Ok-add_enrich.ensures
