use Rattle.std.proofs.Common.{arith, ap, refl, ◌∙◌, ◌<◌, ◌≡◌, length, take, drop, vec_len, option_map, length-append, length-take, length-drop}
use Rattle.esql_io.proofs.Calls.{none_yet, none_then}
use Rattle.ndjson_load.proofs.Wholes.{front_none, left_none, front_more, left_more, front_all, front_long}
use Rattle.ndjson_load.proofs.whole.read_rest.Goals as goal

pub pieces-init : goal.pieces-init
pieces-init g c = record {
  piece = search;
  front = front_none _ _ _ c.new-bytes.ensures.len c.new-bytes.ensures.items;
  left = left_none _ _ c.new-bytes.ensures.len;
  opened = refl;
  none_failed = none_yet _ _ _ _;
  within = omega (arith, c.new-bytes.ensures.len);
}

pub returns-then-count-eq0-clause-all : goal.returns-then-count-eq0-clause-all
returns-then-count-eq0-clause-all g c =
    let had = c.pieces.invariant in
    let now = c.in_ok-count.ensures in
    let all = front_more _ _ _ _ _ _ _ _ now.len had.front had.left now.next now.read in
    let some : 0 < length (take c.min-wanted.result c.pieces.piece) = omega (arith, length-take c.min-wanted.result c.pieces.piece, had.piece, c.min-wanted.ensures, c.len-in-pieces.ensures, c.pieces-test.true) in
    rw c.from_vec.ensures (front_all _ _ _ _ _ _ _ c.if-count-eq0.true now.len some all had.left now.next)

pub pieces-preserved : goal.pieces-preserved
pieces-preserved g c =
    let len = c.in_ok-count.ensures.len in record {
      piece = omega (arith, length-append c.read_piece.new.into (drop c.min-wanted.result c.pieces.piece), length-take c.min-wanted.result c.pieces.piece, length-drop c.min-wanted.result c.pieces.piece, c.pieces.invariant.piece, c.read_piece.auto.into, c.min-wanted.ensures);
      front = front_more _ _ _ _ _ _ _ _ len c.pieces.invariant.front c.pieces.invariant.left c.in_ok-count.ensures.next c.in_ok-count.ensures.read;
      left = left_more _ _ _ _ _ _ len c.pieces.invariant.left c.in_ok-count.ensures.moved;
      opened = c.in_ok-count.ensures.opened ∙ c.pieces.invariant.opened;
      none_failed = none_then c.pieces.invariant.none_failed c.in_ok-count.ensures.called;
      within = omega (arith, len, c.in_ok-count.ensures.count, length-take c.min-wanted.result c.pieces.piece, c.min-wanted.ensures, c.len-in-pieces.ensures, c.pieces.invariant.within, c.pieces-test.true);
    }

pub returns-clause-too_large : goal.returns-clause-too_large
returns-clause-too_large g c = λ _. front_long _ _ _ _ (omega (arith, c.len.ensures)) c.pieces.invariant.front

pub returns-clause-given_up : goal.returns-clause-given_up
returns-clause-given_up g c = λ _.
    let full : vec_len c.pieces.bytes ≡ 268435457 = omega (arith, c.len.ensures) in
    c.pieces.invariant.left ∙ ap (λ n. option_map (drop n) (g.F.Files.left c.args.files.now)) full
