use Rattle.std.proofs.Common.{ℕ, List, [], ◌∷◌, ◌++◌, ap, sym, ◌∙◌}
use Rattle.std.proofs.lemmas.List.{append-nil}
use Rattle.std.proofs.lemmas.Result.{err_from_is_err_and}
use Rattle.expression_analysis.specs.Steps.{marks_of}
use Rattle.expression_analysis.proofs.Regexes.{free_accepted, free_error, marks_same}
use Rattle.expression_analysis.proofs.patterns.add_free.Goals as goal

pub returns-in_ok-push-in-Ok : goal.returns-in_ok-push-in-Ok
returns-in_ok-push-in-Ok g c =
    let before = marks_of g.M.Maker.refused g.M.Maker.last c.args.maker.now in
    let after = marks_of g.M.Maker.refused g.M.Maker.last c.new.new.maker in (
      record {
        accepted = free_accepted c.args.span c.args.text.now c.in-Ok.ensures.readable;
        frees_are = c.in_ok-push-in-Ok.ensures.ok ∙ ap (λ (made : List ℕ). c.args.patterns.now.free ++ made ∷ []) c.in-Ok.ensures.text;
        wholes_are = sym (append-nil c.args.patterns.now.whole);
      },
      marks_same before after (c.in-Ok.ensures.uncounted (λ is. cc)) (c.in-Ok.ensures.kept (λ is. cc)),
    )

pub returns-in_err-push-in-Ok : goal.returns-in_err-push-in-Ok
returns-in_err-push-in-Ok g c =
    let before = marks_of g.M.Maker.refused g.M.Maker.last c.args.maker.now in
    let after = marks_of g.M.Maker.refused g.M.Maker.last c.new.new.maker in
    let p = err_from_is_err_and c.from_residual.result c.from_residual.ensures.1 in
    rw (p.1, p.2) (marks_same before after (c.in-Ok.ensures.uncounted (λ is. cc)) (c.in-Ok.ensures.kept (λ is. cc)))

pub returns-in-Err : goal.returns-in-Err
returns-in-Err g c =
    let before = marks_of g.M.Maker.refused g.M.Maker.last c.args.maker.now in
    let after = marks_of g.M.Maker.refused g.M.Maker.last c.new.new.maker in
    rw c.refusal_of.ensures (free_error (List ℕ) c.args.span c.args.text.now c.in-Err.error before after
    (record { rose = c.in-Err.ensures.rose; count = c.in-Err.ensures.count; kept = c.in-Err.ensures.kept; uncounted = c.in-Err.ensures.uncounted })
    c.in-Err.ensures.not_read c.in-Err.ensures.noted)
