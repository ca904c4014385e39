-- Steps over the arguments of a call.
use Rattle.std.proofs.Common.{◌≡◌, ℕ, ◌+◌, ◌<◌, ◌≤◌, Bool, true, false, List, [], ◌∷◌, length, drop, get_or, Option, Some, None, option_map, if◌then◌else◌, refl, sym, ap, ◌∙◌, add-zero, arith}
use Rattle.std.proofs.lemmas.List.{drop_all, drop_more}
use Rattle.esql_types.specs.declared.value.Kind.{Kind}
use Rattle.esql_plan.specs.Signatures.{Want, OneKinds, Argument, arguments, argument_fits, with_kind, first_misfit}

arguments-nil : (wants : List Want) → arguments wants [] ≡ []
arguments-nil [] = refl
arguments-nil (want ∷ wants) = refl

pub arguments-end : (wants : List Want) (place : ℕ) (kinds : List Kind) → length kinds ≤ place → arguments wants (drop place kinds) ≡ []
arguments-end wants place kinds past = ap (λ (rest : List Kind). arguments wants rest) (drop_all place kinds past) ∙ arguments-nil wants

-- an argument and those behind it
arguments-cons : (wants more : List Want) (kinds rest : List Kind) (want : Want) (kind : Kind) → wants ≡ want ∷ more → kinds ≡ kind ∷ rest
    → arguments wants kinds ≡ record { want = want; kind = kind } ∷ arguments more rest
arguments-cons wants more kinds rest want kind wanted given = λ i. arguments (wanted i) (given i)

-- the first misfit among arguments that stand behind so many others
abbrev pub misfit_behind : ℕ → Bool → OneKinds → List Argument → Option ℕ
misfit_behind count widens so_far args = option_map (λ place. place + count) (first_misfit widens so_far args)

behind_none : (found : Option ℕ) → found ≡ option_map (λ place. place + 0) found
behind_none None = refl
behind_none (Some place) = ap (λ (at : ℕ). Some at) (sym (add-zero place))

pub misfit-all : (widens : Bool) (so_far : OneKinds) (args : List Argument) → first_misfit widens so_far args ≡ misfit_behind 0 widens so_far args
misfit-all widens so_far args = behind_none (first_misfit widens so_far args)

behind_more : (count : ℕ) (found : Option ℕ) → option_map (λ place. place + count) (option_map (λ place. place + 1) found) ≡ option_map (λ place. place + (count + 1)) found
behind_more count None = refl
behind_more count (Some place) = ap (λ (at : ℕ). Some at) (omega arith)

choice_fits : (fits : Bool) (count : ℕ) (found : Option ℕ) → fits ≡ true
    → option_map (λ place. place + count) (if fits then option_map (λ place. place + 1) found else Some 0) ≡ option_map (λ place. place + (count + 1)) found
choice_fits true count found is = behind_more count found
choice_fits false count found is = cc

fits_first : (count : ℕ) (widens : Bool) (so_far : OneKinds) (argument : Argument) (args : List Argument) → argument_fits widens so_far argument ≡ true
    → misfit_behind count widens so_far (argument ∷ args) ≡ misfit_behind (count + 1) widens (with_kind argument.want argument.kind so_far) args
fits_first count widens so_far argument args fits =
    choice_fits (argument_fits widens so_far argument) count (first_misfit widens (with_kind argument.want argument.kind so_far) args) fits

pub misfit-fits : (place : ℕ) (widens : Bool) (so_far : OneKinds) (wants more : List Want) (kinds : List Kind) (want : Want) (default : Kind) → place < length kinds
    → drop place wants ≡ want ∷ more → argument_fits widens so_far (record { want = want; kind = get_or kinds place default }) ≡ true
    → misfit_behind place widens so_far (arguments (drop place wants) (drop place kinds))
    ≡ misfit_behind (place + 1) widens (with_kind want (get_or kinds place default) so_far) (arguments more (drop (place + 1) kinds))
misfit-fits place widens so_far wants more kinds want default within wanted fits =
    let kind = get_or kinds place default in
    let next = arguments-cons (drop place wants) more (drop place kinds) (drop (place + 1) kinds) want kind wanted (drop_more kinds place default within) in
    ap (λ (args : List Argument). misfit_behind place widens so_far args) next
    ∙ fits_first place widens so_far (record { want = want; kind = kind }) (arguments more (drop (place + 1) kinds)) fits
