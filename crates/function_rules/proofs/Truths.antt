-- Laws of three-valued logic, by the truths.
use Rattle.std.proofs.Common.{◌≡◌, Bool, true, false, Option, Some, None, refl}
use Rattle.function_rules.specs.Logic.{and_of, not_of, or_of}

pub not_and : (left right : Option Bool) → not_of (and_of left right) ≡ or_of (not_of left) (not_of right)
not_and (Some false) (Some false) = refl
not_and (Some false) (Some true) = refl
not_and (Some false) None = refl
not_and (Some true) (Some false) = refl
not_and (Some true) (Some true) = refl
not_and (Some true) None = refl
not_and None (Some false) = refl
not_and None (Some true) = refl
not_and None None = refl

pub not_or : (left right : Option Bool) → not_of (or_of left right) ≡ and_of (not_of left) (not_of right)
not_or (Some false) (Some false) = refl
not_or (Some false) (Some true) = refl
not_or (Some false) None = refl
not_or (Some true) (Some false) = refl
not_or (Some true) (Some true) = refl
not_or (Some true) None = refl
not_or None (Some false) = refl
not_or None (Some true) = refl
not_or None None = refl

pub and_symmetric : (left right : Option Bool) → and_of left right ≡ and_of right left
and_symmetric (Some false) (Some false) = refl
and_symmetric (Some false) (Some true) = refl
and_symmetric (Some false) None = refl
and_symmetric (Some true) (Some false) = refl
and_symmetric (Some true) (Some true) = refl
and_symmetric (Some true) None = refl
and_symmetric None (Some false) = refl
and_symmetric None (Some true) = refl
and_symmetric None None = refl

pub or_symmetric : (left right : Option Bool) → or_of left right ≡ or_of right left
or_symmetric (Some false) (Some false) = refl
or_symmetric (Some false) (Some true) = refl
or_symmetric (Some false) None = refl
or_symmetric (Some true) (Some false) = refl
or_symmetric (Some true) (Some true) = refl
or_symmetric (Some true) None = refl
or_symmetric None (Some false) = refl
or_symmetric None (Some true) = refl
or_symmetric None None = refl

pub and_associative : (left middle right : Option Bool) → and_of (and_of left middle) right ≡ and_of left (and_of middle right)
and_associative (Some false) (Some false) (Some false) = refl
and_associative (Some false) (Some false) (Some true) = refl
and_associative (Some false) (Some false) None = refl
and_associative (Some false) (Some true) (Some false) = refl
and_associative (Some false) (Some true) (Some true) = refl
and_associative (Some false) (Some true) None = refl
and_associative (Some false) None (Some false) = refl
and_associative (Some false) None (Some true) = refl
and_associative (Some false) None None = refl
and_associative (Some true) (Some false) (Some false) = refl
and_associative (Some true) (Some false) (Some true) = refl
and_associative (Some true) (Some false) None = refl
and_associative (Some true) (Some true) (Some false) = refl
and_associative (Some true) (Some true) (Some true) = refl
and_associative (Some true) (Some true) None = refl
and_associative (Some true) None (Some false) = refl
and_associative (Some true) None (Some true) = refl
and_associative (Some true) None None = refl
and_associative None (Some false) (Some false) = refl
and_associative None (Some false) (Some true) = refl
and_associative None (Some false) None = refl
and_associative None (Some true) (Some false) = refl
and_associative None (Some true) (Some true) = refl
and_associative None (Some true) None = refl
and_associative None None (Some false) = refl
and_associative None None (Some true) = refl
and_associative None None None = refl

pub or_associative : (left middle right : Option Bool) → or_of (or_of left middle) right ≡ or_of left (or_of middle right)
or_associative (Some false) (Some false) (Some false) = refl
or_associative (Some false) (Some false) (Some true) = refl
or_associative (Some false) (Some false) None = refl
or_associative (Some false) (Some true) (Some false) = refl
or_associative (Some false) (Some true) (Some true) = refl
or_associative (Some false) (Some true) None = refl
or_associative (Some false) None (Some false) = refl
or_associative (Some false) None (Some true) = refl
or_associative (Some false) None None = refl
or_associative (Some true) (Some false) (Some false) = refl
or_associative (Some true) (Some false) (Some true) = refl
or_associative (Some true) (Some false) None = refl
or_associative (Some true) (Some true) (Some false) = refl
or_associative (Some true) (Some true) (Some true) = refl
or_associative (Some true) (Some true) None = refl
or_associative (Some true) None (Some false) = refl
or_associative (Some true) None (Some true) = refl
or_associative (Some true) None None = refl
or_associative None (Some false) (Some false) = refl
or_associative None (Some false) (Some true) = refl
or_associative None (Some false) None = refl
or_associative None (Some true) (Some false) = refl
or_associative None (Some true) (Some true) = refl
or_associative None (Some true) None = refl
or_associative None None (Some false) = refl
or_associative None None (Some true) = refl
or_associative None None None = refl
