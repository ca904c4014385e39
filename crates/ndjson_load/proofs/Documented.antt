-- What `serde_json` answers on bytes, beside the definition.
use Rattle.std.proofs.Common.{◌≡◌, ℕ, Bool, true, false, cond, List, Option, Some, None, refl, sym, ap, ◌∙◌}
use Rattle.std.specs.Str.{IsUtf8, is_utf8}
use Rattle.std.proofs.lemmas.Str.{IsUtf8-from_is_utf8, is_utf8-from_IsUtf8}
use Rattle.serde_json.specs.Data.{Data}
use Rattle.serde_json.specs.Read.{read}
use Rattle.ndjson_load.specs.Documents.{document_of}

pub document_some : (bytes : List ℕ) (d : Data) → IsUtf8 bytes → read bytes ≡ Some d → Some d ≡ document_of bytes
document_some bytes d utf8 is = sym is ∙ ap (λ b. cond b (read bytes) None) (sym (is_utf8-from_IsUtf8 bytes utf8))

none_of : (b : Bool) (o : Option Data) → (b ≡ true → o ≡ None) → None ≡ cond b o None
none_of true o h = sym (h refl)
none_of false o h = refl

pub document_none : (bytes : List ℕ) → (IsUtf8 bytes → read bytes ≡ None) → None ≡ document_of bytes
document_none bytes h = none_of (is_utf8 bytes) (read bytes) (λ e. h (IsUtf8-from_is_utf8 bytes e))
