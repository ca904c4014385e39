use Rattle.std.proofs.Common.{option_copied, ◌+◌, ◌∷◌, drop, refl, ap, sym, subst, ◌∙◌, arith}
use Rattle.std.proofs.lemmas.List.{at_drop_more, drop_all}
use Rattle.std.proofs.lemmas.Result.{err_from_is_err_and}
use Rattle.esql_io.specs.Files.{Held}
use Rattle.esql_io.proofs.Calls.{none_yet, none_then}
use Rattle.table_files.specs.Asked.{AskedForUse, AskedToFind}
use Rattle.table_files.specs.Catalog.{AddsUse}
use Rattle.table_files.specs.Found.{nothing}
use Rattle.table_files.specs.Reading.{IsFinding}
use Rattle.table_files.proofs.PolicyFound.{finding_nothing}
use Rattle.table_files.proofs.Stopped.{stopped_then}
use Rattle.table_files.proofs.Turns.{asks_more, asks_none, asks_one, turns_all, turns_halt, turns_more, turns_none}
use Rattle.table_files.proofs.gathering.find_uses.Goals as goal

pub returns-in_err-findings-clause-told : goal.returns-in_err-findings-clause-told
returns-in_err-findings-clause-told g c =
    let uses = c.args.uses.now in
    let i = c.loop-used.used-index in
    let one = c.used-item.result in
    let cut = at_drop_more (λ us. us) uses i one c.loop-used-test.true ∙ ap (λ u. u ∷ drop (i + 1) uses) (sym c.used-item.is) in
    let p = err_from_is_err_and c.from_residual.result c.from_residual.ensures.1 in
    rw (p.1, p.2) (turns_halt c.args.text.now (λ (h : Held). AddsUse (option_copied c.args.folder) h) (g.F.Files.holds c.args.files.now) _ nothing c.loop-used.findings uses (drop i uses) (drop (i + 1) uses) one _
    c.loop-used.invariant.none_failed.held cut c.loop-used.invariant.told c.in_err-findings.ensures.told)

pub returns-in_err-findings-clause-called : goal.returns-in_err-findings-clause-called
returns-in_err-findings-clause-called g c =
    let uses = c.args.uses.now in
    let i = c.loop-used.used-index in
    let one = c.used-item.result in
    let cut = at_drop_more (λ us. us) uses i one c.loop-used-test.true ∙ ap (λ u. u ∷ drop (i + 1) uses) (sym c.used-item.is) in
    let p = err_from_is_err_and c.from_residual.result c.from_residual.ensures.1 in
    rw (p.1, p.2) (stopped_then (AskedForUse (option_copied c.args.folder) (g.F.Files.holds c.loop-used.files) c.loop-used.findings one)
    (AskedToFind (option_copied c.args.folder) (g.F.Files.holds c.args.files.now) nothing uses) _ _ _ _
    c.loop-used.invariant.none_failed
    (asks_one (λ (h : Held). AddsUse (option_copied c.args.folder) h) (λ (h : Held). AskedForUse (option_copied c.args.folder) h) (g.F.Files.holds c.args.files.now) _ nothing c.loop-used.findings uses (drop i uses) (drop (i + 1) uses) one
    c.loop-used.invariant.none_failed.held cut c.loop-used.invariant.asked)
    c.in_err-findings.ensures.called)

pub loop-used-init : goal.loop-used-init
loop-used-init g c = record {
  told = turns_none (AddsUse (option_copied c.args.folder) (g.F.Files.holds c.args.files.now)) nothing _ c.args.uses.now _ c.new-findings.ensures refl;
  asked = asks_none (AddsUse (option_copied c.args.folder) (g.F.Files.holds c.args.files.now)) (AskedForUse (option_copied c.args.folder) (g.F.Files.holds c.args.files.now)) nothing _ c.args.uses.now _ c.new-findings.ensures refl;
  finding = subst IsFinding (sym c.new-findings.ensures) finding_nothing;
  none_failed = none_yet _ _ _ _;
}

pub loop-used-preserved : goal.loop-used-preserved
loop-used-preserved g c =
    let uses = c.args.uses.now in
    let i = c.loop-used.used-index in
    let one = c.used-item.result in
    let cut = at_drop_more (λ us. us) uses i one c.loop-used-test.true ∙ ap (λ u. u ∷ drop (i + 1) uses) (sym c.used-item.is) in
    record {
      told = turns_more (λ (h : Held). AddsUse (option_copied c.args.folder) h) (g.F.Files.holds c.args.files.now) _ nothing c.loop-used.findings c.in_ok-findings.findings uses (drop i uses) (drop (i + 1) uses) one
          c.loop-used.invariant.none_failed.held cut c.loop-used.invariant.told c.in_ok-findings.ensures.told;
      asked = asks_more (λ (h : Held). AddsUse (option_copied c.args.folder) h) (λ (h : Held). AskedForUse (option_copied c.args.folder) h) (g.F.Files.holds c.args.files.now) _ nothing c.loop-used.findings c.in_ok-findings.findings uses (drop i uses) (drop (i + 1) uses) one
          c.loop-used.invariant.none_failed.held cut c.loop-used.invariant.asked c.in_ok-findings.ensures.told;
      finding = c.in_ok-findings.ensures.finding;
      none_failed = none_then c.loop-used.invariant.none_failed c.in_ok-findings.ensures.called;
    }

pub returns-clause-told : goal.returns-clause-told
returns-clause-told g c =
    turns_all (AddsUse (option_copied c.args.folder) (g.F.Files.holds c.args.files.now)) nothing c.loop-used.findings c.args.uses.now (drop c.loop-used.used-index c.args.uses.now)
    (drop_all c.loop-used.used-index c.args.uses.now (omega (arith, c.loop-used-test.false))) c.loop-used.invariant.told
