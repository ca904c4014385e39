-- The members of an object, as its map has them.
use Rattle.std.proofs.Common.{◌≡◌, List, [], ◌∷◌, map, Some, None, refl, ap}
use Rattle.serde_json.specs.View.{view, members_view}
use Rattle.serde_json.specs.declared.value.Value.{Value}
use Rattle.serde_json.proofs.Views.{Entry}
use Rattle.ndjson_load.specs.Mappings.{only_member}

pub only_one : (es : List Entry) (v : Value) → map (λ (e : Entry). e.1) es ≡ v ∷ [] → Some (view v) ≡ only_member (members_view es)
only_one [] v is = absurd (cc)
only_one (e ∷ []) v is = let same : v ≡ e.1 = cc in ap (λ w. Some (view w)) same
only_one (e ∷ e' ∷ es) v is = absurd (cc)

pub only_more : (es : List Entry) (v w : Value) (vs : List Value) → map (λ (e : Entry). e.1) es ≡ v ∷ w ∷ vs → None ≡ only_member (members_view es)
only_more [] v w vs is = absurd (cc)
only_more (e ∷ []) v w vs is = absurd (cc)
only_more (e ∷ e' ∷ es) v w vs is = refl
