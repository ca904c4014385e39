-- The plan that a query is written as is well formed.
use Rattle.std.proofs.Common.{◌≡◌, ℕ, ◌≤◌, ◌<◌, ◌==◌, nat_lt, Bool, true, false, cond, List, [], ◌∷◌, All, Ok, refl, ap, arith}
use Rattle.std.specs.List.{flat_map}
use Rattle.std.proofs.lemmas.Bool.Decides.{nat_tests}
use Rattle.std.proofs.lemmas.List.Elements.{All-nil, All-cons}
use Rattle.esql_types.specs.declared.names.Column.{Column}
use Rattle.esql_types.specs.declared.names.NodeId.{NodeId}
use Rattle.esql_ast.specs.declared.query.Query.{Query}
use Rattle.esql_ast.specs.Laws.{IsNumbered}
use Rattle.esql_plan.specs.declared.catalog.Catalog.{Catalog}
use Rattle.plan_semantics.specs.WellFormed.{MadeColumn, source_made, step_nodes, Bounds, bounds_of, IsWellFormed}
use Rattle.plan_semantics.proofs.OwnNodes.{places}
use Rattle.row_semantics.specs.Regulars.{is_accepted}
use Rattle.query_semantics.specs.Catalogs.{IsCatalog}
use Rattle.query_semantics.specs.Cuts.{last_count}
use Rattle.query_semantics.specs.Shapes.{Context, shape_of, shape_of_source, shape_of_commands}
use Rattle.query_semantics.specs.Writings.{Writing}
use Rattle.query_semantics.specs.Written.{source_in_plan, write_source, writing_of, written_of}
use Rattle.query_semantics.proofs.Kinded.{found_of}
use Rattle.query_semantics.proofs.Named.{eq_itself}
use Rattle.written_laws.proofs.Shown.{source_shows}
use Rattle.written_laws.proofs.Apart.{source_distinct}
use Rattle.written_laws.proofs.ColumnsOnce.{written_made_once}
use Rattle.written_laws.proofs.Numbers.{all_at}
use Rattle.written_laws.proofs.NodesWritten.{commands_once, written_below}
use Rattle.written_laws.proofs.StepsFormed.{Start, IsNodeBelow, IsWithin, IsFormed, limit_formed, steps_show}
use Rattle.written_laws.proofs.CommandsFormed.{commands_formed}
use Rattle.written_laws.proofs.SourceFormed.{start_of, source_formed, source_stands}

-- nodes are below a number where none from there on is among them
all_below : (nodes : ℕ) (ones : List NodeId) → ((node : NodeId) → nodes ≤ node.0 → places node ones ≤ 0) → All (IsNodeBelow nodes) ones
all_below nodes [] none = All-nil (IsNodeBelow nodes)
all_below nodes (one ∷ ones) none =
    All-cons (IsNodeBelow nodes) one ones (by_test (nat_lt one.0 nodes) refl) (all_below nodes ones (λ node above. fewer node (none node above)))
  where
    fewer : (node : NodeId) → places node (one ∷ ones) ≤ 0 → places node ones ≤ 0
    fewer node few = omega (arith, few)

    by_test : (below : Bool) → nat_lt one.0 nodes ≡ below → one.0 < nodes
    by_test true is = grind (arith, nat_tests, is)
    by_test false is =
        let above : nodes ≤ one.0 = grind (arith, nat_tests, is) in
        let here : cond {A = ℕ} (one.0 == one.0) 1 0 ≡ 1 = ap (λ (b : Bool). cond {A = ℕ} b 1 0) (eq_itself one.0) in
        absurd (omega (arith, here, none one above))

pub written_formed : (text : List ℕ) (catalog : Catalog) (query : Query) (columns : List Column) → IsCatalog catalog → IsNumbered query → shape_of text catalog query ≡ Ok columns
    → IsWellFormed catalog (written_of text catalog query).whole (written_of text catalog query).free (written_of text catalog query).cutters (written_of text catalog query).plan
written_formed text catalog query columns is_catalog numbered is =
    let context : Context = record { text = text; catalog = catalog; accepts = is_accepted } in
    let found = found_of (shape_of_source context query.source) (shape_of_commands context query.commands) columns is in
    let writing : Writing = writing_of text catalog query in
    let made : List MadeColumn = source_made (source_in_plan catalog query.source) in
    let start : Start = start_of context query.source in
    let commands = commands_formed made start context refl is_catalog query.commands found.value columns (write_source text catalog query.source) (source_formed context query.source found.value found.is)
    (source_shows context query.source found.value found.is) (source_distinct context query.source found.value found.is)
    (λ node. commands_once node query numbered) found.next_is in
    let formed : IsFormed made start writing = limit_formed made start _ commands (last_count query) in
    let bounds : Bounds = bounds_of catalog writing.whole writing.free writing.cutters (written_of text catalog query).plan in
    let within : IsWithin start bounds writing = record {
      catalog = refl;
      whole = all_at writing.whole;
      free = all_at writing.free;
      cutters = all_at writing.cutters;
      next = omega arith;
      nodes = all_below query.nodes (flat_map step_nodes writing.steps) (λ node above. written_below node text catalog query numbered above);
    } in
    record {
      source = source_stands context query.source found.value is_catalog found.is bounds formed.later;
      steps = steps_show bounds writing.visible made writing.steps (formed.stand bounds within) formed.columns.seen;
      once = written_made_once text catalog query;
    }
