use Rattle.std.proofs.Common.{◌≡◌, ℕ, List, [], ◌∷◌, ◌++◌, length, ap, sym, ◌∙◌, subst}
use Rattle.std.specs.String.{string_bytes}
use Rattle.col_blocks.specs.Pieces.{pieces, IsCutText}
use Rattle.col_blocks.proofs.CutTexts.{cut_more, texts_more}
use Rattle.col_blocks.proofs.texts.Texts.push.Goals as goal

pub invariant_of-self-2 : goal.invariant_of-self-2
invariant_of-self-2 c =
    let bytes : string_bytes c.push_str.new.self ≡ string_bytes c.self.inside.bytes ++ c.args.text.now = c.in_ok-push_str.ensures.bytes in
    let ends = c.push_reserved.ensures.items ∙ ap (λ (ends : List ℕ). ends ++ c.len.result ∷ []) c.reserve.ensures.items in
    let end = c.len.ensures ∙ c.push_str.new.self.bytes.ok.0 ∙ ap length bytes in
    subst (λ (ends : List ℕ). IsCutText (string_bytes c.push_str.new.self) ends) (sym ends)
    (subst (λ (bytes : List ℕ). IsCutText bytes (c.self.inside.ends.items ++ c.len.result ∷ [])) (sym bytes)
    (cut_more (string_bytes c.self.inside.bytes) c.args.text.now c.self.inside.ends.items c.len.result c.utf8.text c.self.invariant end))

pub returns-clause-ok : goal.returns-clause-ok
returns-clause-ok c =
    let bytes : string_bytes c.push_str.new.self ≡ string_bytes c.self.inside.bytes ++ c.args.text.now = c.in_ok-push_str.ensures.bytes in
    let ends = c.push_reserved.ensures.items ∙ ap (λ (ends : List ℕ). ends ++ c.len.result ∷ []) c.reserve.ensures.items in
    let end = c.len.ensures ∙ c.push_str.new.self.bytes.ok.0 ∙ ap length bytes in
    (λ i. pieces (bytes i) 0 (ends i))
    ∙ texts_more (string_bytes c.self.inside.bytes) c.args.text.now c.self.inside.ends.items c.len.result c.utf8.text c.self.invariant end
    ∙ ap (λ (texts : List (List ℕ)). texts ++ c.args.text.now ∷ []) c.self.view_is
