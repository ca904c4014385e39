use Rattle.std.proofs.Common.{rules}
use Rattle.dissect_grok.specs.GrokParts.{read_in}
use Rattle.dissect_grok.specs.Groks.{nothing_read, read_from}
use Rattle.dissect_grok.proofs.Expansions.{next_added, rest_shorter}
use Rattle.dissect_grok.proofs.expansion.expansion_of.Goals as goal

pub loop-literal-smaller : goal.loop-literal-smaller
loop-literal-smaller c =
    rest_shorter c.loop-literal.left.now (c.in-Some.literal.now, c.in-Some.behind.now) (c.in-Some-cut_at.reference.now, c.in-Some-cut_at.rest.now) c.in-Some.ensures c.in-Some-cut_at.ensures

pub loop-literal-preserved : goal.loop-literal-preserved
loop-literal-preserved c = (
  search rules,
  next_added (read_from nothing_read c.args.pattern.now) (read_in c.loop-literal.read) (read_in c.add_reference.new.self) _ c.loop-literal.left.now c.in-Some.literal.now c.in-Some.behind.now
      c.in-Some-cut_at.reference.now c.in-Some-cut_at.rest.now c.in_ok-add_reference.field-0 c.in-Some.ensures c.in-Some-cut_at.ensures c.in_ok-push_str.ensures.bytes c.in_ok-add_reference.ensures
      c.if-not-branch.false c.loop-literal.invariant.1,
)
