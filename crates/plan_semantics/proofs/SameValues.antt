-- Values are the same exactly where they are equal.
use Rattle.std.specs.Prelude.{◌≡◌, true, false}
use Rattle.std.specs.Bool.{Decides}
use Rattle.std.specs.Cmp.{int_cmp_total, signed_Decides, tied_itself}
use Rattle.std.specs.Cmp.Lexicographic.{nat_list_cmp_total, same_text, texts_ties}
use Rattle.std.specs.Ordering.{is_eq}
use Rattle.std.proofs.Common.{refl, sym, ap, ◌∙◌}
use Rattle.esql_types.specs.declared.value.Value.{Value}
use Rattle.esql_types.specs.declared.value.Value.TheVariants.{Int, Long, Bool as Boolean, Text as Keyword}
use Rattle.plan_semantics.specs.Groups.{same_value}

value_equal : (this that : Value) → same_value this that ≡ true → this ≡ that
value_equal (Int this) (Int that) is = ap Int ((signed_Decides this that).0 is)
value_equal (Int this) (Long that) is = absurd cc
value_equal (Int this) (Boolean that) is = absurd cc
value_equal (Int this) (Keyword that) is = absurd cc
value_equal (Long this) (Int that) is = absurd cc
value_equal (Long this) (Long that) is = ap Long ((signed_Decides this that).0 is)
value_equal (Long this) (Boolean that) is = absurd cc
value_equal (Long this) (Keyword that) is = absurd cc
value_equal (Boolean this) (Int that) is = absurd cc
value_equal (Boolean this) (Long that) is = absurd cc
value_equal (Boolean true) (Boolean true) is = refl
value_equal (Boolean true) (Boolean false) is = absurd cc
value_equal (Boolean false) (Boolean true) is = absurd cc
value_equal (Boolean false) (Boolean false) is = refl
value_equal (Boolean this) (Keyword that) is = absurd cc
value_equal (Keyword this) (Int that) is = absurd cc
value_equal (Keyword this) (Long that) is = absurd cc
value_equal (Keyword this) (Boolean that) is = absurd cc
value_equal (Keyword this) (Keyword that) is = ap Keyword (same_text this that (sym (texts_ties this that ∙ is)))

value_itself : (value : Value) → same_value value value ≡ true
value_itself (Int number) = ap is_eq (tied_itself int_cmp_total number)
value_itself (Long number) = ap is_eq (tied_itself int_cmp_total number)
value_itself (Boolean true) = refl
value_itself (Boolean false) = refl
value_itself (Keyword text) = ap is_eq (tied_itself nat_list_cmp_total text)

pub value_decides : (this that : Value) → Decides (same_value this that) (this ≡ that)
value_decides this that = (value_equal this that, λ equal. ap (same_value this) (sym equal) ∙ value_itself this)
