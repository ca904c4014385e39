-- What is joined to a list, one part after another.
use Rattle.std.proofs.Common.{◌≡◌, List, [], ◌∷◌, ◌++◌, Result, Ok, Err, refl, sym, ap, ◌∙◌, append_assoc}
use Rattle.ndjson_load.specs.Joining.{joined, join_all, after}

-- the one part was joined, and the rest comes after
pub after_more : {Y E : Type 0} (had now : List Y) (part rest : Result (List Y) E) → after had part ≡ Ok now → after had (joined part rest) ≡ after now rest
after_more had now (Err fault) rest is = absurd (cc)
after_more had now (Ok front) (Err fault) is = refl
after_more {Y} {E} had now (Ok front) (Ok back) is =
    let front_is : had ++ front ≡ now = cc in
    let whole : had ++ (front ++ back) ≡ now ++ back = sym (append_assoc had front back) ∙ ap (λ xs. xs ++ back) front_is in
    ap Ok whole

-- the one part has a fault
pub after_fault : {Y E : Type 0} (had : List Y) (fault : E) (part rest : Result (List Y) E) → after had part ≡ Err fault → after had (joined part rest) ≡ Err fault
after_fault had fault (Err other) rest is = is
after_fault had fault (Ok front) rest is = absurd (cc)

joined-assoc : {Y E : Type 0} (a b c : Result (List Y) E) → joined (joined a b) c ≡ joined a (joined b c)
joined-assoc (Err fault) b c = refl
joined-assoc (Ok front) (Err fault) c = refl
joined-assoc (Ok front) (Ok middle) (Err fault) = refl
joined-assoc (Ok front) (Ok middle) (Ok back) = ap Ok (append_assoc front middle back)

pub joined-none : {Y E : Type 0} (part : Result (List Y) E) → part ≡ joined (Ok []) part
joined-none (Err fault) = refl
joined-none (Ok list) = refl

pub join_all-append : {X Y E : Type 0} (f : X → Result (List Y) E) (xs ys : List X) → join_all f (xs ++ ys) ≡ joined (join_all f xs) (join_all f ys)
join_all-append f [] ys = joined-none (join_all f ys)
join_all-append f (x ∷ xs) ys = ap (joined (f x)) (join_all-append f xs ys) ∙ sym (joined-assoc (f x) (join_all f xs) (join_all f ys))

-- the lists that are joined after the first items
pub join_all-more : {X Y E : Type 0} (f : X → Result (List Y) E) (had now : List Y) (xs ys : List X) → after had (join_all f xs) ≡ Ok now → after had (join_all f (xs ++ ys)) ≡ after now (join_all f ys)
join_all-more f had now xs ys is = ap (after had) (join_all-append f xs ys) ∙ after_more had now (join_all f xs) (join_all f ys) is

pub join_all-fault : {X Y E : Type 0} (f : X → Result (List Y) E) (had : List Y) (fault : E) (xs ys : List X) → after had (join_all f xs) ≡ Err fault → after had (join_all f (xs ++ ys)) ≡ Err fault
join_all-fault f had fault xs ys is = ap (after had) (join_all-append f xs ys) ∙ after_fault had fault (join_all f xs) (join_all f ys) is
