use Rattle.std.proofs.Common.{◌≡◌, map, rules}
use Rattle.function_rules.specs.Texts.{split_of}
use Rattle.plain_functions.specs.Keywords.{keyword}
use Rattle.plain_functions.proofs.Joins.{finished, grown, shorter}
use Rattle.plain_functions.proofs.pieces.split.Goals as goal

pub loop-front-preserved : goal.loop-front-preserved
loop-front-preserved c =
    let all = map keyword (split_of c.args.text.now c.args.delimiter.now) in (
      search rules,
      grown c.loop-front.rest.now c.args.delimiter.now c.in-Some.front.now c.in-Some.back.now c.loop-front.cell c.push_piece.new.cell all
          c.requires c.in-Some.ensures c.loop-front.invariant.1 c.in_ok-push_piece.ensures,
    )

pub returns : goal.returns
returns c =
    let all = map keyword (split_of c.args.text.now c.args.delimiter.now) in
    finished c.loop-front.rest.now c.args.delimiter.now c.loop-front.cell c.push_piece-2.new.cell all c.in_default.ensures c.loop-front.invariant.1 c.in_ok-push_piece-2.ensures
