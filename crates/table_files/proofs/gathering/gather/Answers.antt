use Rattle.std.proofs.Common.{All, subst, sym, ◌∙◌}
use Rattle.esql_ast.specs.declared.uses.SourceUse.{SourceUse}
use Rattle.esql_ast.specs.Fits.{NameFits}
use Rattle.table_files.proofs.SourceNames.{uses_fit}
use Rattle.table_files.proofs.gathering.gather.Goals as goal

pub find_uses-requires : goal.find_uses-requires
find_uses-requires g c =
    subst (All (λ (use_ : SourceUse). NameFits c.args.text.now use_.name)) (sym (c.as_slice.ensures ∙ c.in_ok-uses.ensures)) (uses_fit c.args.text.now c.args.query.now c.requires)
