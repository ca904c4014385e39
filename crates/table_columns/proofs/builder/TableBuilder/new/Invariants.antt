use Rattle.std.proofs.Common.{◌≡◌, [], map, take}
use Rattle.esql_types.specs.declared.value.Kind.{Kind}
use Rattle.table_columns.specs.Held.{AreClosed, all_grown}
use Rattle.table_columns.proofs.builder.TableBuilder.new.Given as goal

abbrev pub invariant-loop-kind : goal.invariant-loop-kind
invariant-loop-kind l = record {
  closed : AreClosed l.columns.items;
  empty : all_grown l.columns.items ≡ map (λ (kind : Kind). record { kind = kind; numbers = []; cells = [] }) (take l.kind-index l.kinds);
}
