use Rattle.std.proofs.Common.{◌+◌, ◌∷◌, ◌++◌, ℕ, Bool, cond, List, [], drop, length, get_or, string_bytes, sym, ap, ◌∙◌, subst}
use Rattle.std.proofs.lemmas.List.{at_drop_more}
use Rattle.std.proofs.lemmas.Result.{on_ok_weaker}
use Rattle.serde_json.specs.View.{view, items_view, members_view}
use Rattle.ndjson_load.specs.Gathering.{gather, gather_items, gather_members, gather_rest, rest_of}
use Rattle.ndjson_load.specs.Spreading.{Spreads, at_key, nothing, rest_at, under_key}
use Rattle.ndjson_load.proofs.Bounds.{two_ways}
use Rattle.ndjson_load.proofs.Spreads.{spreads_as, spreads_more, spreads_none, spreads_then, spreads_with}
use Rattle.ndjson_load.proofs.spread.+spread.Goals as goal

pub spread_items-loop-item-preserved : goal.spread_items-loop-item-preserved
spread_items-loop-item-preserved t c =
    let columns = c.args.columns.now in
    let reach = c.args.reach in
    let all = c.deref-item-items.result.now in
    let i = c.loop-item.item-index in
    let item = c.item-item.result in
    let rest = drop (i + 1) all in
    let cut = at_drop_more (λ vs. vs) all i item c.loop-item-test.true ∙ ap (λ v. v ∷ rest) (sym c.item-item.is) in
    spreads_more columns reach.depth reach.low reach.high (gather_items (items_view all)) (gather (view item)) (gather_items (items_view rest)) c.args.cells.now c.loop-item.cells c.spread_open.new.cells
    (subst (λ vs. Spreads columns reach.depth reach.low reach.high (gather_items (items_view all)) (gather_items (items_view vs)) c.args.cells.now c.loop-item.cells) cut c.loop-item.invariant)
    c.in_ok-spread_open.ensures

pub spread_members-loop-key-preserved : goal.spread_members-loop-key-preserved
spread_members-loop-key-preserved t c =
    let columns = c.args.columns.now in
    let reach = c.args.reach in
    let all = c.into_iter-key-iterator.result in
    let member = view c.in-Some.member.now in
    let rest = c.next.new.self in
    let old = c.args.cells.now in
    let mid = c.loop-key.cells in
    let new = c.spread_member.new.cells in
    let taken_key = subst (λ (key : List ℕ). Spreads columns reach.depth reach.low reach.high (λ path. gather_rest member (rest_of key path)) nothing mid new) c.as_bytes.ensures.value c.in_ok-spread_member.ensures in
    spreads_more columns reach.depth reach.low reach.high (gather_members (members_view all)) (λ path. gather_rest member (rest_of (string_bytes c.in-Some.key.now) path)) (gather_members (members_view rest)) old mid new
    (subst (λ es. Spreads columns reach.depth reach.low reach.high (gather_members (members_view all)) (gather_members (members_view es)) old mid) c.in-Some.ensures.steps c.loop-key.invariant)
    taken_key

pub spread_member-returns-then-may_go_under : goal.spread_member-returns-then-may_go_under
spread_member-returns-then-may_go_under t c =
    let columns = c.args.columns.now in
    let depth = c.args.reach.depth in
    let low = c.args.reach.low in
    let high = c.args.reach.high in
    let key = c.args.key.now in
    let give = gather (view c.args.member.now) in
    let old = c.args.cells.now in
    let mid = c.take_ending.new.cells in
    let new = c.spread_under.new.cells in
    on_ok_weaker c.spread_under.result
    (λ (under : Spreads columns depth low high (under_key key give) nothing mid new). spreads_as columns depth low high (λ path. gather_rest (view c.args.member.now) (rest_of key path)) (λ path. at_key key give path ++ under_key key give path) nothing old new
    (λ i d from upto. two_ways give key _)
    (spreads_then columns depth low high (λ path. at_key key give path ++ under_key key give path) (under_key key give) nothing old mid new
    (spreads_with columns depth low high (at_key key give) (under_key key give) old mid c.in_ok-take_ending.ensures) under))
    c.spread_under.ensures

pub spread_member-returns-else-may_go_under : goal.spread_member-returns-else-may_go_under
spread_member-returns-else-may_go_under t c =
    let columns = c.args.columns.now in
    let depth = c.args.reach.depth in
    let low = c.args.reach.low in
    let high = c.args.reach.high in
    let key = c.args.key.now in
    let give = gather (view c.args.member.now) in
    let old = c.args.cells.now in
    let mid = c.take_ending.new.cells in
    let none = c.may_go_under.ensures c.if-may_go_under.false in
    spreads_as columns depth low high (λ path. gather_rest (view c.args.member.now) (rest_of key path)) (λ path. at_key key give path ++ under_key key give path) nothing old mid
    (λ i d from upto. two_ways give key _)
    (spreads_then columns depth low high (λ path. at_key key give path ++ under_key key give path) (under_key key give) nothing old mid mid
    (spreads_with columns depth low high (at_key key give) (under_key key give) old mid c.in_ok-take_ending.ensures)
    (spreads_none columns depth low high (under_key key give) mid (λ i d from upto. ap (λ (b : Bool). cond b (give (drop (length key + 1) (rest_at depth (get_or columns i d)))) []) (none i d from upto))))
