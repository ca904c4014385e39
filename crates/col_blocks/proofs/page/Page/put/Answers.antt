use Rattle.std.proofs.Common.{◌≡◌, ℕ, List, [], ◌∷◌, ◌++◌, map, sym, ap, ◌∙◌}
use Rattle.std.proofs.lemmas.List.{map_push, length-map}
use Rattle.col_blocks.specs.Seen.{BlockSeen}
use Rattle.col_blocks.specs.Pages.{rows_by, blocks_of}
use Rattle.col_blocks.proofs.Columned.{columned, put_columns}
use Rattle.col_blocks.proofs.page.Page.put.Goals as goal

pub returns-clause-rows : goal.returns-clause-rows
returns-clause-rows c =
    let now = c.args.self.now in
    let columns = c.in_ok-push.ensures.ok in
    let blocks = c.in_ok-push-2.ensures.ok in
    ap (rows_by now.rows) (
    (λ i. columned (columns i) (blocks_of (record now { blocks = blocks i })))
    ∙ ap (columned (now.columns ++ c.args.id ∷ [])) (map_push _ now.blocks c.args.block)
    ∙ put_columns now.columns (blocks_of now) c.args.id c.args.block.value c.requires.even.as_many c.requires.new
    )
