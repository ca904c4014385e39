use Rattle.std.proofs.Common.{List, length, ap, sym, ◌∙◌, arith}
use Rattle.esql_plan.specs.declared.plan.OutColumn.{OutColumn}
use Rattle.text_match.specs.declared.patterns.Patterns.{Patterns}
use Rattle.row_semantics.specs.Kinds.{kind_or_rule}
use Rattle.row_semantics.specs.Regulars.{is_accepted}
use Rattle.row_semantics.specs.Typed.{typed_of}
use Rattle.expression_analysis.specs.Answers.{visible_of, scope_of}
use Rattle.plan_writing.proofs.Expressions.{patterns_at_most}
use Rattle.plan_writing.proofs.FieldWrites.{field_writes}
use Rattle.plan_writing.proofs.fields.write_field.Goals as goal

pub typed_expr-requires-clause-whole : goal.typed_expr-requires-clause-whole
typed_expr-requires-clause-whole g c = omega (arith, c.requires.room.whole, (patterns_at_most c.args.field.now.expr).whole)

pub typed_expr-requires-clause-free : goal.typed_expr-requires-clause-free
typed_expr-requires-clause-free g c = omega (arith, c.requires.room.free, (patterns_at_most c.args.field.now.expr).free)

pub returns-in-Ok-clause-writes : goal.returns-in-Ok-clause-writes
returns-in-Ok-clause-writes g c =
    let expr = c.args.field.now.expr in
    field_writes c.args.text.now c.args.field.now c.args.writing c.in-Ok.writing c.in_ok-typed.typed
    c.in_ok-typed.ensures.typed
    c.in_ok-typed.ensures.kind
    c.in-Ok.ensures.visible c.in-Ok.ensures.next
    (ap (λ (these : Patterns). these.whole) c.in-Ok.ensures.patterns ∙ c.in_ok-typed.ensures.read.0)
    (ap (λ (these : Patterns). these.free) c.in-Ok.ensures.patterns ∙ c.in_ok-typed.ensures.read.1)
    c.in-Ok.ensures.cutters c.in-Ok.ensures.steps
