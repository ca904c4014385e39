use Rattle.std.proofs.Common.{option_copied, ◌≡◌, ℕ, ◌+◌, ◌<◌, ◌++◌, ◌∷◌, [], List, drop, map, take, ap, sym, subst, ◌∙◌, arith}
use Rattle.std.specs.List.{AllZip}
use Rattle.std.proofs.lemmas.List.{at_drop_more, drop_all, get_or-map, length-map, map-append, take_more}
use Rattle.std.proofs.lemmas.Slice.Zip.{all_zipped_more}
use Rattle.std.proofs.lemmas.Result.{err_from_is_err_and}
use Rattle.esql_types.specs.Spans.{SpanFits}
use Rattle.esql_io.proofs.Calls.{none_then}
use Rattle.table_files.specs.declared.tables.FoundTable.{FoundTable}
use Rattle.table_files.specs.Asked.{AskedToLoad}
use Rattle.table_files.specs.Catalog.{row_file}
use Rattle.table_files.specs.Found.{table_in}
use Rattle.table_files.specs.Tables.{IsTableOf}
use Rattle.table_files.proofs.RowsRead.{asks_rows_more, asks_rows_one, loaded_more, loaded_all, loaded_halt}
use Rattle.table_files.proofs.Stopped.{stopped_then}
use Rattle.table_files.proofs.loading.load_tables.Goals as goal

pub load_found-requires : goal.load_found-requires
load_found-requires g c =
    let sources = c.args.sources.now in
    let i = c.loop-source.source-index in
    let source = c.source-item.result in
    let found = table_in source in
    subst (λ (one : FoundTable). SpanFits c.args.text.now one.span)
    (get_or-map table_in sources i source found c.loop-source-test.true ∙ ap table_in (sym c.source-item.is) ∙ sym c.table_in.ensures)
    (c.requires i found (subst (λ (n : ℕ). i < n) (sym (length-map sources table_in)) c.loop-source-test.true))

pub returns-in_err-table-clause-told : goal.returns-in_err-table-clause-told
returns-in_err-table-clause-told g c =
    let sources = c.args.sources.now in
    let i = c.loop-source.source-index in
    let source = c.source-item.result in
    let found = c.table_in.result.now in
    let cut = ap (map table_in) (at_drop_more (λ ss. ss) sources i source c.loop-source-test.true ∙ ap (λ s. s ∷ drop (i + 1) sources) (sym c.source-item.is)) ∙ ap (λ t. t ∷ map table_in (drop (i + 1) sources)) (sym c.table_in.ensures) in
    let p = err_from_is_err_and c.from_residual.result c.from_residual.ensures.1 in
    rw (p.1, p.2) (loaded_halt c.args.text.now (option_copied c.args.folder) (g.F.Files.holds c.args.files.now) _ (map table_in sources) (map table_in (drop i sources)) (map table_in (drop (i + 1) sources)) found c.loop-source.tables _
    c.loop-source.invariant.none_failed.held cut c.loop-source.invariant.told c.in_err-table.ensures.told)

pub returns-in_err-table-clause-called : goal.returns-in_err-table-clause-called
returns-in_err-table-clause-called g c =
    let sources = c.args.sources.now in
    let i = c.loop-source.source-index in
    let source = c.source-item.result in
    let found = c.table_in.result.now in
    let cut = ap (map table_in) (at_drop_more (λ ss. ss) sources i source c.loop-source-test.true ∙ ap (λ s. s ∷ drop (i + 1) sources) (sym c.source-item.is)) ∙ ap (λ t. t ∷ map table_in (drop (i + 1) sources)) (sym c.table_in.ensures) in
    let p = err_from_is_err_and c.from_residual.result c.from_residual.ensures.1 in
    rw (p.1, p.2) (stopped_then (λ asked. asked ≡ row_file (option_copied c.args.folder) found.name) (AskedToLoad (option_copied c.args.folder) (g.F.Files.holds c.args.files.now) (map table_in sources)) _ _ _ _ c.loop-source.invariant.none_failed
    (asks_rows_one (option_copied c.args.folder) (g.F.Files.holds c.args.files.now) (map table_in sources) (map table_in (drop i sources)) (map table_in (drop (i + 1) sources)) found cut c.loop-source.invariant.asked) c.in_err-table.ensures.called)

pub loop-source-preserved : goal.loop-source-preserved
loop-source-preserved g c =
    let sources = c.args.sources.now in
    let i = c.loop-source.source-index in
    let source = c.source-item.result in
    let found = c.table_in.result.now in
    let table = c.in_ok-table.table in
    let tables = c.loop-source.tables in
    let cut = ap (map table_in) (at_drop_more (λ ss. ss) sources i source c.loop-source-test.true ∙ ap (λ s. s ∷ drop (i + 1) sources) (sym c.source-item.is)) ∙ ap (λ t. t ∷ map table_in (drop (i + 1) sources)) (sym c.table_in.ensures) in
    let front = ap (λ t. map table_in (take i sources) ++ t ∷ []) c.table_in.ensures ∙ sym (map-append table_in (take i sources) (source ∷ []))
    ∙ ap (map table_in) (ap (λ s. take i sources ++ s ∷ []) c.source-item.is ∙ sym (take_more sources i source c.loop-source-test.true)) in
    record {
      told = loaded_more (option_copied c.args.folder) (g.F.Files.holds c.args.files.now) _ (map table_in sources) (map table_in (drop i sources)) (map table_in (drop (i + 1) sources)) found table tables _
          c.loop-source.invariant.none_failed.held cut c.in_ok-push.ensures.ok c.loop-source.invariant.told c.in_ok-table.ensures.told;
      asked = asks_rows_more (option_copied c.args.folder) (g.F.Files.holds c.args.files.now) _ (map table_in sources) (map table_in (drop i sources)) (map table_in (drop (i + 1) sources)) found table
          c.loop-source.invariant.none_failed.held cut c.loop-source.invariant.asked c.in_ok-table.ensures.told;
      shaped = rw c.in_ok-push.ensures.ok (subst (λ (ts : List FoundTable). AllZip IsTableOf ts (tables ++ table ∷ [])) front
          (all_zipped_more IsTableOf (map table_in (take i sources)) tables found table c.loop-source.invariant.shaped c.in_ok-table.ensures.shaped));
      none_failed = none_then c.loop-source.invariant.none_failed c.in_ok-table.ensures.called;
    }

pub returns-clause-told : goal.returns-clause-told
returns-clause-told g c =
    loaded_all (option_copied c.args.folder) (g.F.Files.holds c.args.files.now) (map table_in c.args.sources.now) (map table_in (drop c.loop-source.source-index c.args.sources.now)) c.loop-source.tables
    (ap (map table_in) (drop_all c.loop-source.source-index c.args.sources.now (omega (arith, c.loop-source-test.false)))) c.loop-source.invariant.told
