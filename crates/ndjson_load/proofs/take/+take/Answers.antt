use Rattle.std.proofs.Common.{◌≡◌, ◌+◌, ◌∷◌, Ok, Err, drop, string_bytes, sym, ap, ◌∙◌, subst, rules}
use Rattle.std.proofs.lemmas.List.{at_drop_more}
use Rattle.std.proofs.lemmas.Result.{err_from_is_err_and}
use Rattle.serde_json.specs.View.{view, items_view, members_view}
use Rattle.ndjson_load.specs.Gathering.{gather, gather_items, gather_members, gather_rest, rest_of}
use Rattle.ndjson_load.specs.Joining.{after}
use Rattle.ndjson_load.specs.Loading.{Takes}
use Rattle.ndjson_load.specs.Rows.{taken}
use Rattle.ndjson_load.proofs.Takings.{taken_more, Takes-fault}
use Rattle.ndjson_load.proofs.take.+take.Goals as goal

pub take_items-loop-item-preserved : goal.take_items-loop-item-preserved
take_items-loop-item-preserved t c =
    let path = c.args.path.now in
    let column = c.args.column.now in
    let had = c.loop-item.cell in
    let all = c.deref-item-items.result.now in
    let i = c.loop-item.item-index in
    let item = c.item-item.result in
    let cut = at_drop_more (λ vs. after had (taken column (gather_items (items_view vs) path))) all i item c.loop-item-test.true in
    let here = ap (λ v. after had (taken column (gather_items (items_view (v ∷ drop (i + 1) all)) path))) (sym c.item-item.is) in
    c.loop-item.invariant ∙ cut ∙ here ∙ taken_more column had c.take.new.cell (gather (view item) path) (gather_items (items_view (drop (i + 1) all)) path) c.in_ok-take.ensures

pub take_items-returns-in_err-take : goal.take_items-returns-in_err-take
take_items-returns-in_err-take t c =
    let path = c.args.path.now in
    let column = c.args.column.now in
    let had = c.loop-item.cell in
    let all = c.deref-item-items.result.now in
    let i = c.loop-item.item-index in
    let item = c.item-item.result in
    let cut = at_drop_more (λ vs. after had (taken column (gather_items (items_view vs) path))) all i item c.loop-item-test.true in
    let here = ap (λ v. after had (taken column (gather_items (items_view (v ∷ drop (i + 1) all)) path))) (sym c.item-item.is) in
    let begun = ap (λ vs. after c.args.cell.now (taken column (gather_items (items_view vs) path))) (sym c.deref-item-items.ensures.value) in
    let p = err_from_is_err_and c.from_residual.result c.from_residual.ensures.1 in
    rw (p.1, p.2) (Takes-fault (Unit {0}) column had c.take.new.cell (gather (view item) path) (gather_items (items_view (drop (i + 1) all)) path) _ _ (begun ∙ c.loop-item.invariant ∙ cut ∙ here) c.in_err-take.ensures)

pub take_members-loop-key-preserved : goal.take_members-loop-key-preserved
take_members-loop-key-preserved t c =
    let path = c.args.path.now in
    let column = c.args.column.now in
    let had = c.loop-key.cell in
    let now = c.take_member.new.cell in
    let member = view c.in-Some.member.now in
    let cut = ap (λ es. after had (taken column (gather_members (members_view es) path))) c.in-Some.ensures.steps in
    let taken_key = subst (λ key. after had (taken column (gather_rest member (rest_of key path))) ≡ Ok now) c.as_bytes.ensures.value c.in_ok-take_member.ensures in
    c.loop-key.invariant ∙ cut ∙ taken_more column had now (gather_rest member (rest_of (string_bytes c.in-Some.key.now) path)) (gather_members (members_view c.next.new.self) path) taken_key

pub take_members-returns-in_err-take_member : goal.take_members-returns-in_err-take_member
take_members-returns-in_err-take_member t c =
    let path = c.args.path.now in
    let column = c.args.column.now in
    let had = c.loop-key.cell in
    let now = c.take_member.new.cell in
    let member = view c.in-Some.member.now in
    let cut = ap (λ es. after had (taken column (gather_members (members_view es) path))) c.in-Some.ensures.steps in
    let all : c.args.members.now.entries ≡ c.into_iter-key-iterator.result = search rules in
    let begun = ap (λ es. after c.args.cell.now (taken column (gather_members (members_view es) path))) all in
    let bad = subst (λ key. Takes {T = Unit {0}} (after had (taken column (gather_rest member (rest_of key path)))) (Err c.in_err-take_member.field-0.0) now) c.as_bytes.ensures.value c.in_err-take_member.ensures in
    let p = err_from_is_err_and c.from_residual.result c.from_residual.ensures.1 in
    rw (p.1, p.2) (Takes-fault (Unit {0}) column had now (gather_rest member (rest_of (string_bytes c.in-Some.key.now) path)) (gather_members (members_view c.next.new.self) path) _ _ (begun ∙ c.loop-key.invariant ∙ cut) bad)
