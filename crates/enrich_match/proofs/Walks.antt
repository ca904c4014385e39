-- The step that both walks of `AddedRows` take: a struct without fields of the program is made from nothing. Assumes `Logic`.
use Rattle.std.proofs.Common.{List, [], ◌∷◌, refl}
use seplogic.Ra.Ura.{Ura}
use mir.Val.{Val, vstruct, vnil}
use types.Logic.{Logic}
use types.Kit.{Goal, Step, step, Item, ‵, ◌$◌, fjoin, fpack, feq_i}
use denote.RattleType.{RattleType, Valss}
use denote.Steps.{nothing}
use denote.Struct.Struct.{Struct, within}

-- the value of a struct without fields
abbrev pub empty_value : Val
empty_value = vstruct vnil

abbrev pub Empty : RattleType
Empty = Struct (record { name = []; args = []; types = []; fields = [] })

pub made_empty : {M : Type 1} {𝓤 : Ura M} {𝓛 : Logic 𝓤} {K : Type 0} {Γ : List (Item 𝓤)} {G : Goal 𝓤 𝓛.H} → K → Step K 𝓛 (‵ (Empty.own_val tt (empty_value ∷ [])) ∷ Γ) G Γ G
made_empty token = step (λ rest.
    nothing token $ feq_i token (List Val) (empty_value ∷ []) (empty_value ∷ []) refl $ fjoin token $
    fpack token (Valss []) (within (record { name = []; args = []; types = []; fields = [] }) tt (empty_value ∷ [])) tt $ rest)
