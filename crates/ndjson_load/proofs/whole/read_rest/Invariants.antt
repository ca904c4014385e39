use Rattle.std.proofs.Common.{◌≡◌, ◌-◌, ◌≤◌, length, drop, vec_len, option_map}
use Rattle.std.specs.Option.{IfSome}
use Rattle.esql_io.specs.Calls.{NoneFailed}
use Rattle.ndjson_load.proofs.Wholes.{IsFront}
use Rattle.ndjson_load.proofs.whole.read_rest.Given as goal

abbrev pub invariant-pieces : goal.invariant-pieces
invariant-pieces g l = record {
  piece : length l.piece ≡ 8192;
  front : IfSome (g.F.Files.left l.initial.files) (IsFront (vec_len l.bytes) l.bytes.items);
  left : g.F.Files.left l.files ≡ option_map (drop (vec_len l.bytes)) (g.F.Files.left l.initial.files);
  opened : g.F.Files.opened l.files ≡ g.F.Files.opened l.initial.files;
  none_failed : NoneFailed g.F.Files.holds g.F.Files.faults g.F.Files.failed l.initial.files l.files;
  within : vec_len l.bytes ≤ 268435457;
}

abbrev pub decreases-pieces : goal.decreases-pieces
decreases-pieces g l = 268435457 - vec_len l.bytes
