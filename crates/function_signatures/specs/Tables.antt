-- What the table of the program says, in the words of the signatures.
use Rattle.std.specs.Prelude.{[], ◌∷◌}
use Rattle.esql_plan.specs.Signatures.{Want, a_boolean, a_keyword, a_number, a_value, an_ordered, like_pattern, whole_pattern, free_pattern, Parameters, these, optional, repeated, branches, Gives, always, of_values, of_numbers, Signature, OneKinds}
use Rattle.function_signatures.specs.declared.table.Want.{Want as TableWant}
use Rattle.function_signatures.specs.declared.table.Want.TheVariants as want
use Rattle.function_signatures.specs.declared.table.Parameters.{Parameters as TableParameters}
use Rattle.function_signatures.specs.declared.table.Parameters.TheVariants as parameters
use Rattle.function_signatures.specs.declared.table.Gives.{Gives as TableGives}
use Rattle.function_signatures.specs.declared.table.Gives.TheVariants as gives
use Rattle.function_signatures.specs.declared.table.Signature.{Signature as TableSignature}
use Rattle.function_signatures.specs.declared.kinds.OneKinds.{OneKinds as KindsSoFar}

abbrev pub want_meant : TableWant → Want
want_meant want.Boolean = a_boolean
want_meant want.Keyword = a_keyword
want_meant want.Number = a_number
want_meant want.Value = a_value
want_meant want.Ordered = an_ordered
want_meant want.LikePattern = like_pattern
want_meant want.WholePattern = whole_pattern
want_meant want.FreePattern = free_pattern

abbrev pub parameters_meant : TableParameters → Parameters
parameters_meant (parameters.One only) = these (want_meant only ∷ [])
parameters_meant (parameters.Two first second) = these (want_meant first ∷ want_meant second ∷ [])
parameters_meant (parameters.Three first second third) = these (want_meant first ∷ want_meant second ∷ want_meant third ∷ [])
parameters_meant (parameters.TwoOrThree first second third) = optional (want_meant first ∷ want_meant second ∷ []) (want_meant third)
parameters_meant (parameters.OneOrMore each) = repeated (want_meant each ∷ []) (want_meant each)
parameters_meant (parameters.TwoOrMore each) = repeated (want_meant each ∷ want_meant each ∷ []) (want_meant each)
parameters_meant parameters.Branches = branches

abbrev pub gives_meant : TableGives → Gives
gives_meant (gives.Always kind) = always kind
gives_meant gives.OfValues = of_values
gives_meant gives.OfNumbers = of_numbers

abbrev pub signature_meant : TableSignature → Signature
signature_meant signature = record {
  parameters = parameters_meant signature.parameters;
  widens = signature.widens;
  gives = gives_meant signature.gives;
}

abbrev pub kinds_meant : KindsSoFar → OneKinds
kinds_meant kinds = record { values = kinds.values; numbers = kinds.numbers }
