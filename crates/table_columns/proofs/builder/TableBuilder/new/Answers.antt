use Rattle.std.proofs.Common.{◌≡◌, [], get_or, take, map, refl, sym, ap, ◌∙◌, subst, arith}
use Rattle.std.proofs.lemmas.List.{take_all}
use Rattle.std.proofs.lemmas.List.Elements.{All-push}
use Rattle.esql_types.specs.declared.value.Kind.TheVariants.{Integer}
use Rattle.table_columns.specs.Held.{Held, IsClosed, AreClosed, all_grown}
use Rattle.table_columns.proofs.Empty.{empty_kinds, empty_held, empty_more}
use Rattle.table_columns.proofs.builder.TableBuilder.new.Goals as goal

pub loop-kind-preserved : goal.loop-kind-preserved
loop-kind-preserved c =
    let kinds = c.args.kinds.now in
    let k = c.loop-kind.kind-index in
    let old = c.loop-kind.columns.items in
    let pushed = c.in_ok-push.ensures.items in
    record {
      closed = subst AreClosed (sym pushed) (All-push IsClosed old c.new.result c.loop-kind.invariant.closed c.new.ensures.closed);
      empty = empty_more kinds k (get_or kinds k Integer) Integer old c.push.new.self.items c.new.result c.loop-kind-test.true refl c.new.ensures.empty pushed c.loop-kind.invariant.empty;
    }

pub invariant_of-result : goal.invariant_of-result
invariant_of-result c = (c.loop-kind.invariant.closed, empty_held (take c.loop-kind.kind-index c.args.kinds.now) (all_grown c.loop-kind.columns.items) c.loop-kind.invariant.empty)

pub returns : goal.returns
returns c =
    let kinds = c.args.kinds.now in
    let all : take c.loop-kind.kind-index kinds ≡ kinds = take_all c.loop-kind.kind-index kinds (omega arith) in
    λ i. record {
      kinds = (ap (map (λ (column : Held). column.kind)) c.loop-kind.invariant.empty ∙ empty_kinds (take c.loop-kind.kind-index kinds) ∙ all) i;
      rows = [];
    }
