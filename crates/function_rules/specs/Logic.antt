-- Three-valued logic: a truth is true, false or not known.
use Rattle.std.specs.Prelude.{Bool, true, false, List, [], ◌∷◌, Option, Some, None}

-- AND: false where a side is false, else not known where a side is not known, else true
abbrev pub and_of : Option Bool → Option Bool → Option Bool
and_of (Some false) (Some false) = Some false
and_of (Some false) (Some true) = Some false
and_of (Some false) None = Some false
and_of (Some true) (Some false) = Some false
and_of (Some true) (Some true) = Some true
and_of (Some true) None = None
and_of None (Some false) = Some false
and_of None (Some true) = None
and_of None None = None

-- OR: true where a side is true, else not known where a side is not known, else false
abbrev pub or_of : Option Bool → Option Bool → Option Bool
or_of (Some false) (Some false) = Some false
or_of (Some false) (Some true) = Some true
or_of (Some false) None = None
or_of (Some true) (Some false) = Some true
or_of (Some true) (Some true) = Some true
or_of (Some true) None = Some true
or_of None (Some false) = None
or_of None (Some true) = Some true
or_of None None = None

-- NOT: what is not known stays so
abbrev pub not_of : Option Bool → Option Bool
not_of (Some false) = Some true
not_of (Some true) = Some false
not_of None = None

-- IN: whether some item is the left side, where it is not known of an unknown item
abbrev pub any_of : List (Option Bool) → Option Bool
any_of [] = Some false
any_of (item ∷ items) = or_of item (any_of items)
