use Rattle.std.proofs.Common.{◌≡◌, ◌-◌, ◌<◌, length, drop, arith, ap, sym, subst, ◌∙◌, set}
use Rattle.std.proofs.lemmas.List.Elements.{All-get_or}
use Rattle.plan_rows.specs.Places.{place_from, places_of}
use Rattle.plan_rows.proofs.Backward.{drop_back}
use Rattle.plan_rows.proofs.Scans.{IsScannedBelow, length-places_of}
use Rattle.plan_rows.proofs.source.places_of.Goals as goal

pub replace-requires : goal.replace-requires
replace-requires c =
    let scanned = c.args.scanned.now in
    let back = c.loop-back.back in
    let column = c.index-scanned-scanned.result in
    let below : column.to.0 < c.args.count =
    subst (IsScannedBelow c.args.count) (sym c.index-scanned-scanned.is) (All-get_or (IsScannedBelow c.args.count) scanned (length scanned - 1 - back) column (omega arith) c.requires) in
    let long : length c.loop-back.places ≡ c.args.count =
    ap length c.loop-back.invariant ∙ length-places_of c.args.count (drop (length scanned - back) scanned) c.args.columns.now in
    omega (arith, below, long)

pub loop-back-preserved : goal.loop-back-preserved
loop-back-preserved c =
    let scanned = c.args.scanned.now in
    let columns = c.args.columns.now in
    let back = c.loop-back.back in
    let column = c.index-scanned-scanned.result in
    let place : c.place_named-place.result ≡ place_from columns 0 column.name = c.place_named-place.ensures ∙ c.in_ok-named.ensures column.name in
    c.replace.ensures.new
    ∙ ap (λ these. set these column.to.0 c.place_named-place.result) c.loop-back.invariant
    ∙ ap (set (places_of c.args.count (drop (length scanned - back) scanned) columns) column.to.0) place
    ∙ ap (λ these. places_of c.args.count these columns) (sym (drop_back scanned back column (omega arith) c.index-scanned-scanned.is))
