use Rattle.std.proofs.Common.{codes}
use Rattle.table_files.proofs.Pushed.{pushed}
use Rattle.table_files.proofs.messages.push_mapping_text.Goals as goal

pub returns-in-BadParameter : goal.returns-in-BadParameter
returns-in-BadParameter c = rw c.in-BadParameter.is c.push_path-in-BadParameter.ensures

pub returns-in-NotMatchPolicy : goal.returns-in-NotMatchPolicy
returns-in-NotMatchPolicy c = rw c.in-NotMatchPolicy.is (pushed _ _ _ (codes "not a match policy") c.push_str-in-NotMatchPolicy.ensures.bytes)

pub returns-in-KindConflict : goal.returns-in-KindConflict
returns-in-KindConflict c = rw c.in-KindConflict.is c.push_path-in-KindConflict.ensures
