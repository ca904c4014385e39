use Rattle.std.proofs.Common.{◌≡◌, ℕ, ◌≤◌, List, [], ◌∷◌, length, get_or, ap, sym, ◌∙◌, subst, arith}
use Rattle.std.proofs.lemmas.List.{get_or_read}
use Rattle.std.specs.List.{slice_range}
use Rattle.std.specs.Str.{IsUtf8, IsCharBoundary}
use Rattle.std.specs.String.{string_bytes}
use Rattle.col_blocks.proofs.Cuts.{length-pieces, rises_at, get_or-pieces}
use Rattle.col_blocks.proofs.CutTexts.{begin_boundary}
use Rattle.col_blocks.proofs.texts.Texts.at.Goals as goal

pub begin_of-begin-requires : goal.begin_of-begin-requires
begin_of-begin-requires c =
    let long = length-pieces (string_bytes c.self.inside.bytes) 0 c.self.inside.ends.items in
    let same = ap length c.self.view_is in
    let items = ap length c.as_slice.ensures.value in
    omega arith

pub index-requires : goal.index-requires
index-requires c =
    let long = length-pieces (string_bytes c.self.inside.bytes) 0 c.self.inside.ends.items in
    let same = ap length c.self.view_is in
    omega (arith, c.self.inside.ends.ok.0)

pub range-requires-clause-start_le_end : goal.range-requires-clause-start_le_end
range-requires-clause-start_le_end c =
    let ends = c.self.inside.ends.items in
    let place = c.args.place in
    let long = length-pieces (string_bytes c.self.inside.bytes) 0 ends in
    let same = ap length c.self.view_is in
    let begins : c.begin_of-begin.result ≡ get_or (0 ∷ ends) place 0 = c.begin_of-begin.ensures ∙ ap (λ (ends : List ℕ). get_or (0 ∷ ends) place 0) c.as_slice.ensures.value in
    let end : c.index.result.now ≡ get_or ends place 0 = get_or_read ends place c.index.result.now (omega arith) c.index.ensures 0 in
    omega (arith, rises_at 0 ends (length (string_bytes c.self.inside.bytes)) place c.self.invariant.rises (omega arith))

pub range-requires-clause-start_boundary : goal.range-requires-clause-start_boundary
range-requires-clause-start_boundary c = λ positive.
    let ends = c.self.inside.ends.items in
    let place = c.args.place in
    let long = length-pieces (string_bytes c.self.inside.bytes) 0 ends in
    let same = ap length c.self.view_is in
    let begins : c.begin_of-begin.result ≡ get_or (0 ∷ ends) place 0 = c.begin_of-begin.ensures ∙ ap (λ (ends : List ℕ). get_or (0 ∷ ends) place 0) c.as_slice.ensures.value in
    let text = c.as_str-bytes.ensures.value in
    subst (λ (n : ℕ). IsCharBoundary c.as_str-bytes.result.now n) (sym begins)
    (subst (λ (bytes : List ℕ). IsCharBoundary bytes (get_or (0 ∷ ends) place 0)) (sym text)
    (begin_boundary (string_bytes c.self.inside.bytes) ends place (subst IsUtf8 text c.as_str-bytes.utf8) c.self.invariant (omega arith)))

pub range-requires-clause-end_boundary : goal.range-requires-clause-end_boundary
range-requires-clause-end_boundary c =
    let ends = c.self.inside.ends.items in
    let place = c.args.place in
    let long = length-pieces (string_bytes c.self.inside.bytes) 0 ends in
    let same = ap length c.self.view_is in
    let end : c.index.result.now ≡ get_or ends place 0 = get_or_read ends place c.index.result.now (omega arith) c.index.ensures 0 in
    subst (λ (n : ℕ). IsCharBoundary c.as_str-bytes.result.now n) (sym end)
    (subst (λ (bytes : List ℕ). IsCharBoundary bytes (get_or ends place 0)) (sym c.as_str-bytes.ensures.value)
    (c.self.invariant.between_characters place (omega arith)))

pub returns : goal.returns
returns c =
    let ends = c.self.inside.ends.items in
    let bytes = string_bytes c.self.inside.bytes in
    let place = c.args.place in
    let long = length-pieces bytes 0 ends in
    let same = ap length c.self.view_is in
    let begins : c.begin_of-begin.result ≡ get_or (0 ∷ ends) place 0 = c.begin_of-begin.ensures ∙ ap (λ (ends : List ℕ). get_or (0 ∷ ends) place 0) c.as_slice.ensures.value in
    let end : c.index.result.now ≡ get_or ends place 0 = get_or_read ends place c.index.result.now (omega arith) c.index.ensures 0 in
    c.range.ensures.value
    ∙ (λ i. slice_range (c.as_str-bytes.ensures.value i) (begins i) (end i))
    ∙ sym (get_or-pieces bytes 0 ends place (omega arith))
    ∙ ap (λ (texts : List (List ℕ)). get_or texts place []) c.self.view_is
