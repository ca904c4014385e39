-- When two causes are the same.
use Rattle.std.proofs.Common.{◌≡◌, true, false, refl, ap}
use Rattle.std.specs.Bool.{Decides}
use Rattle.std.proofs.lemmas.Bool.Decides.{Decides-int_eq}
use Rattle.std.proofs.lemmas.Slice.Eq.{bytes_eq-Decides}
use Rattle.esql_types.specs.declared.cause.Cause.{Cause}
use Rattle.esql_types.specs.declared.cause.Cause.TheVariants.{Multi, IntegerOverflow, LongOverflow, ByZero, CannotParse, OutOfInteger, NegativeLength, EmptyDelimiter}
use Rattle.answer_text.specs.Warnings.{cause_eq}

itself : {P : Type 0} → P → Decides true P
itself p = (λ e. p, λ q. refl)

never : (left right : Cause) → (left ≡ right → ⊥) → Decides false (left ≡ right)
never left right apart = (λ e. absurd cc, λ same. absurd (apart same))

pub cause_eq-Decides : (left right : Cause) → Decides (cause_eq left right) (left ≡ right)
cause_eq-Decides Multi Multi = itself refl
cause_eq-Decides IntegerOverflow IntegerOverflow = itself refl
cause_eq-Decides LongOverflow LongOverflow = itself refl
cause_eq-Decides ByZero ByZero = itself refl
cause_eq-Decides (CannotParse left) (CannotParse right) =
    let decides = bytes_eq-Decides left right in
    (λ e. ap CannotParse (decides.0 e), λ same. decides.1 cc)
cause_eq-Decides (OutOfInteger left) (OutOfInteger right) =
    let decides = Decides-int_eq left right in
    (λ e. ap OutOfInteger (decides.0 e), λ same. decides.1 cc)
cause_eq-Decides (NegativeLength left) (NegativeLength right) =
    let decides = Decides-int_eq left right in
    (λ e. ap NegativeLength (decides.0 e), λ same. decides.1 cc)
cause_eq-Decides EmptyDelimiter EmptyDelimiter = itself refl
cause_eq-Decides left right = never left right (λ same. cc)
