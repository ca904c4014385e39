-- What each of a list gives, joined.
use Rattle.std.specs.Prelude.{List, [], ◌∷◌, ◌++◌, Result, Ok, Err}

-- the one list and then the other, or the first fault
abbrev pub joined : {Y E : Type 0} → Result (List Y) E → Result (List Y) E → Result (List Y) E
joined (Err fault) later = Err fault
joined (Ok front) (Err fault) = Err fault
joined (Ok front) (Ok back) = Ok (front ++ back)

-- what each item gives, joined in their order, or the first fault
abbrev pub join_all : {X Y E : Type 0} → (X → Result (List Y) E) → List X → Result (List Y) E
join_all f [] = Ok []
join_all f (x ∷ xs) = joined (f x) (join_all f xs)

-- a list, and then what is given after it
abbrev pub after : {Y E : Type 0} → List Y → Result (List Y) E → Result (List Y) E
after had more = joined (Ok had) more
