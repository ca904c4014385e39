-- A LIMIT drops no failure.
use Rattle.std.proofs.Common.{◌≡◌, ℕ, List, [], ◌∷◌, ◌++◌, take, refl, ap, sym, ◌∙◌, append_assoc}
use Rattle.esql_types.specs.declared.cause.Failure.{Failure}
use Rattle.esql_ast.specs.declared.query.Command.{Command}
use Rattle.esql_ast.specs.declared.query.CommandKind.{CommandKind}
use Rattle.esql_ast.specs.declared.query.CommandKind.TheVariants.{Limit}
use Rattle.plan_semantics.specs.Tables.{CatalogHeld}
use Rattle.row_semantics.specs.Rows.{Row}
use Rattle.query_semantics.specs.Commands.{rows_of_kind, failures_of_kind, rows_of_commands, failures_of_commands}
use Rattle.query_semantics.specs.Meaning.{rows_of_source, failures_of_source}
use Rattle.written_laws.specs.Laws.{LimitsKeepFailures}

failures_split : (text : List ℕ) (held : CatalogHeld) (before after : List Command) (rows : List Row)
    → failures_of_commands text held (before ++ after) rows ≡ failures_of_commands text held before rows ++ failures_of_commands text held after (rows_of_commands text held before rows)
failures_split text held [] after rows = refl
failures_split text held (command ∷ before) after rows =
    let own : List Failure = failures_of_kind text command.node command.kind rows in
    let next : List Row = rows_of_kind text held command.node command.kind rows in
    ap (λ (these : List Failure). own ++ these) (failures_split text held before after next)
    ∙ sym (append_assoc own (failures_of_commands text held before next) (failures_of_commands text held after (rows_of_commands text held before next)))

limit_fails : (text : List ℕ) (held : CatalogHeld) (limit : Command) (count : ℕ) (after : List Command) (rows : List Row) → limit.kind ≡ Limit count
    → failures_of_commands text held (limit ∷ after) rows ≡ failures_of_commands text held after (take count rows)
limit_fails text held limit count after rows is = ap (λ (kind : CommandKind). failures_of_kind text limit.node kind rows ++ failures_of_commands text held after (rows_of_kind text held limit.node kind rows)) is

pub limits_keep : LimitsKeepFailures
limits_keep text held source before limit count after is =
    let rows : List Row = rows_of_source text held.tables source in
    let first : List Failure = failures_of_source text source in
    let behind : List Row = rows_of_commands text held before rows in
    ap (λ (these : List Failure). first ++ these) (failures_split text held before (limit ∷ after) rows ∙ ap (λ (these : List Failure). failures_of_commands text held before rows ++ these) (limit_fails text held limit count after behind is))
    ∙ sym (append_assoc first (failures_of_commands text held before rows) (failures_of_commands text held after (take count behind)))
