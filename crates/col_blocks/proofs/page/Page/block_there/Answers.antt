use Rattle.col_blocks.specs.Pages.{blocks_of}
use Rattle.col_blocks.proofs.Columned.{found_there}
use Rattle.col_blocks.proofs.page.Page.block_there.Goals as goal

pub unreachable-requires : goal.unreachable-requires
unreachable-requires c = found_there c.args.self.now.columns (blocks_of c.args.self.now) c.args.id.0 c.requires.even.as_many c.requires.there c.in-None.ensures
