use Rattle.std.proofs.Common.{option_copied, ◌≡◌, ◌+◌, ℕ, List, [], ◌∷◌, ◌++◌, true, take, drop, All, refl, ap, sym, subst, ◌∙◌, arith}
use Rattle.std.proofs.lemmas.List.{at_drop_more, drop_all, take_all, take_more}
use Rattle.std.proofs.lemmas.List.Elements.{All-nil}
use Rattle.std.proofs.lemmas.Result.{err_from_is_err_and}
use Rattle.esql_ast.specs.declared.query.NameAt.{NameAt}
use Rattle.esql_io.specs.Files.{Held}
use Rattle.esql_io.proofs.Calls.{none_yet, none_then}
use Rattle.table_files.specs.Asked.{AskedForTable}
use Rattle.table_files.specs.Catalog.{AddsTable}
use Rattle.table_files.specs.Found.{has_table}
use Rattle.table_files.specs.InTurn.{AskedInTurn}
use Rattle.table_files.specs.Policies.{names_at}
use Rattle.table_files.proofs.Adds.{adds_policies, all_found}
use Rattle.table_files.proofs.Stopped.{stopped_then}
use Rattle.table_files.proofs.Turns.{asks_more, asks_none, asks_one, turns_all, turns_halt, turns_more, turns_none}
use Rattle.table_files.proofs.lookups.find_tables.Goals as goal

pub returns-in_err-findings-clause-told : goal.returns-in_err-findings-clause-told
returns-in_err-findings-clause-told g c =
    let names = c.args.names.now in
    let i = c.loop-name.name-index in
    let name = c.name-item.result in
    let at : NameAt = record { name = c.as_str.result.now; span = c.args.span } in
    let cut = ap (names_at c.args.span) (at_drop_more (λ ns. ns) names i name c.loop-name-test.true ∙ ap (λ n. n ∷ drop (i + 1) names) (sym (c.as_str.ensures ∙ c.name-item.is))) in
    let p = err_from_is_err_and c.from_residual.result c.from_residual.ensures.1 in
    rw (p.1, p.2) (turns_halt c.args.text.now (λ (h : Held). AddsTable (option_copied c.args.folder) h true c.args.beside) (g.F.Files.holds c.args.files.now) _ c.args.findings c.loop-name.findings
    (names_at c.args.span names) (names_at c.args.span (drop i names)) (names_at c.args.span (drop (i + 1) names)) at _
    c.loop-name.invariant.none_failed.held cut c.loop-name.invariant.told c.in_err-findings.ensures.told)

pub returns-in_err-findings-clause-called : goal.returns-in_err-findings-clause-called
returns-in_err-findings-clause-called g c =
    let names = c.args.names.now in
    let i = c.loop-name.name-index in
    let name = c.name-item.result in
    let at : NameAt = record { name = c.as_str.result.now; span = c.args.span } in
    let cut = ap (names_at c.args.span) (at_drop_more (λ ns. ns) names i name c.loop-name-test.true ∙ ap (λ n. n ∷ drop (i + 1) names) (sym (c.as_str.ensures ∙ c.name-item.is))) in
    let p = err_from_is_err_and c.from_residual.result c.from_residual.ensures.1 in
    rw (p.1, p.2) (stopped_then (AskedForTable (option_copied c.args.folder) (g.F.Files.holds c.loop-name.files) c.loop-name.findings at)
    (AskedInTurn (AddsTable (option_copied c.args.folder) (g.F.Files.holds c.args.files.now) true c.args.beside) (AskedForTable (option_copied c.args.folder) (g.F.Files.holds c.args.files.now)) c.args.findings (names_at c.args.span names)) _ _ _ _
    c.loop-name.invariant.none_failed
    (asks_one (λ (h : Held). AddsTable (option_copied c.args.folder) h true c.args.beside) (λ (h : Held). AskedForTable (option_copied c.args.folder) h) (g.F.Files.holds c.args.files.now) _ c.args.findings c.loop-name.findings
    (names_at c.args.span names) (names_at c.args.span (drop i names)) (names_at c.args.span (drop (i + 1) names)) at
    c.loop-name.invariant.none_failed.held cut c.loop-name.invariant.asked)
    c.in_err-findings.ensures.called)

pub loop-name-init : goal.loop-name-init
loop-name-init g c = record {
  told = turns_none (AddsTable (option_copied c.args.folder) (g.F.Files.holds c.args.files.now) true c.args.beside) c.args.findings c.args.findings (names_at c.args.span c.args.names.now) _ refl refl;
  asked = asks_none (AddsTable (option_copied c.args.folder) (g.F.Files.holds c.args.files.now) true c.args.beside) (AskedForTable (option_copied c.args.folder) (g.F.Files.holds c.args.files.now)) c.args.findings c.args.findings
      (names_at c.args.span c.args.names.now) _ refl refl;
  finding = c.requires.finding;
  room = c.requires.room;
  all = All-nil (λ (name : List ℕ). has_table c.args.findings.tables name ≡ true);
  same = refl;
  none_failed = none_yet _ _ _ _;
}

pub loop-name-preserved : goal.loop-name-preserved
loop-name-preserved g c =
    let names = c.args.names.now in
    let i = c.loop-name.name-index in
    let name = c.name-item.result in
    let next = c.in_ok-findings.findings in
    let at : NameAt = record { name = c.as_str.result.now; span = c.args.span } in
    let cut = ap (names_at c.args.span) (at_drop_more (λ ns. ns) names i name c.loop-name-test.true ∙ ap (λ n. n ∷ drop (i + 1) names) (sym (c.as_str.ensures ∙ c.name-item.is))) in
    let front = ap (λ n. take i names ++ n ∷ []) c.name-item.is ∙ sym (take_more names i name c.loop-name-test.true) in
    record {
      told = turns_more (λ (h : Held). AddsTable (option_copied c.args.folder) h true c.args.beside) (g.F.Files.holds c.args.files.now) _ c.args.findings c.loop-name.findings next
          (names_at c.args.span names) (names_at c.args.span (drop i names)) (names_at c.args.span (drop (i + 1) names)) at
          c.loop-name.invariant.none_failed.held cut c.loop-name.invariant.told c.in_ok-findings.ensures.told;
      asked = asks_more (λ (h : Held). AddsTable (option_copied c.args.folder) h true c.args.beside) (λ (h : Held). AskedForTable (option_copied c.args.folder) h) (g.F.Files.holds c.args.files.now) _ c.args.findings c.loop-name.findings next
          (names_at c.args.span names) (names_at c.args.span (drop i names)) (names_at c.args.span (drop (i + 1) names)) at
          c.loop-name.invariant.none_failed.held cut c.loop-name.invariant.asked c.in_ok-findings.ensures.told;
      finding = c.in_ok-findings.ensures.finding;
      room = c.in_ok-findings.ensures.room;
      all = subst (All (λ (name : List ℕ). has_table next.tables name ≡ true)) front
          (all_found (option_copied c.args.folder) (g.F.Files.holds c.loop-name.files) true c.args.beside c.loop-name.findings next at (take i names) name c.as_str.ensures c.in_ok-findings.ensures.told c.loop-name.invariant.all);
      same = adds_policies (option_copied c.args.folder) (g.F.Files.holds c.loop-name.files) true c.args.beside c.loop-name.findings next at c.in_ok-findings.ensures.told ∙ c.loop-name.invariant.same;
      none_failed = none_then c.loop-name.invariant.none_failed c.in_ok-findings.ensures.called;
    }

pub returns-clause-told : goal.returns-clause-told
returns-clause-told g c =
    turns_all (AddsTable (option_copied c.args.folder) (g.F.Files.holds c.args.files.now) true c.args.beside) c.args.findings c.loop-name.findings (names_at c.args.span c.args.names.now)
    (names_at c.args.span (drop c.loop-name.name-index c.args.names.now)) (ap (names_at c.args.span) (drop_all c.loop-name.name-index c.args.names.now (omega (arith, c.loop-name-test.false)))) c.loop-name.invariant.told

pub returns-clause-all : goal.returns-clause-all
returns-clause-all g c =
    subst (All (λ (name : List ℕ). has_table c.loop-name.findings.tables name ≡ true)) (take_all c.loop-name.name-index c.args.names.now (omega (arith, c.loop-name-test.false))) c.loop-name.invariant.all
