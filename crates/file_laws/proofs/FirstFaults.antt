-- Where what a list gives is joined, its fault is that of the first that is bad.
use Rattle.std.proofs.Common.{◌≡◌, List, [], ◌∷◌, ◌++◌, Result, Ok, Err, All, refl, ap, sym, ◌∙◌}
use Rattle.std.proofs.lemmas.List.Elements.{All-nil, All-cons}
use Rattle.ndjson_load.specs.Joining.{joined, join_all}
use Rattle.file_laws.specs.FirstFaults.{IsFirstFault, IsGood}

module _ {X Y E : Type 0} (gives : X → Result (List Y) E) where
  behind_one : (x : X) (items : List X) (given : List Y) (fault : E) → gives x ≡ Ok given → IsFirstFault gives items fault → IsFirstFault gives (x ∷ items) fault
  behind_one x items given fault good is = record {
    before = x ∷ is.before;
    item = is.item;
    behind = is.behind;
    is = ap (λ rest. x ∷ rest) is.is;
    good = All-cons (λ y. IsGood (gives y)) x is.before (given, good) is.good;
    bad = is.bad;
  }

  later : (given : List Y) (rest : Result (List Y) E) (fault : E) → joined (Ok given) rest ≡ Err fault → rest ≡ Err fault
  later given (Ok back) fault is = absurd cc
  later given (Err other) fault is = is

  by_case : (x : X) (items : List X) (fault : E) (one : Result (List Y) E) → gives x ≡ one → joined (gives x) (join_all gives items) ≡ Err fault
      → ((given : List Y) → join_all gives items ≡ Err fault → IsFirstFault gives items fault) → IsFirstFault gives (x ∷ items) fault
  by_case x items fault (Err other) own is rest = record {
    before = [];
    item = x;
    behind = items;
    is = refl;
    good = All-nil (λ y. IsGood (gives y));
    bad = own ∙ sym (ap (λ result. joined result (join_all gives items)) own) ∙ is;
  }
  by_case x items fault (Ok given) own is rest =
      behind_one x items given fault own (rest given (later given (join_all gives items) fault (sym (ap (λ result. joined result (join_all gives items)) own) ∙ is)))

  pub first_fault : (items : List X) (fault : E) → join_all gives items ≡ Err fault → IsFirstFault gives items fault
  first_fault [] fault is = absurd cc
  first_fault (x ∷ items) fault is = by_case x items fault (gives x) refl is (λ given later_is. first_fault items fault later_is)
