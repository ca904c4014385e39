use Rattle.std.proofs.Common.{◌≡◌, Some, map, take}
use Rattle.col_blocks.specs.Pages.{found_by, blocks_of}
use Rattle.col_blocks.proofs.page.Page.project.Given as goal

abbrev pub invariant-loop-id : goal.invariant-loop-id
invariant-loop-id l = record {
  numbers : l.columns.items ≡ take l.id-index l.id-items;
  found : map Some (map (λ rc. rc.value) l.blocks.items) ≡ map (λ id. found_by l.self.columns (blocks_of l.self) id.0) (take l.id-index l.id-items);
}
