-- A row that is bad, as the code answers it.
use Rattle.ndjson_load.specs.Rows.{RowFault}
use Rattle.ndjson_load.specs.declared.cause.LoadError.{LoadError}
use Rattle.ndjson_load.specs.declared.cause.LoadError.TheVariants.{ReadFault, TooLarge, BadRow, Memory}
use Rattle.ndjson_load.specs.Loading.{IfBadRow}

pub IfBadRow-weaker : (error : LoadError) (P Q : RowFault → Type 0) → ((bad : RowFault) → P bad → Q bad) → IfBadRow error P → IfBadRow error Q
IfBadRow-weaker ReadFault P Q step h = h
IfBadRow-weaker TooLarge P Q step h = h
IfBadRow-weaker (BadRow line field cause) P Q step h = step (record { line = line; field = field; cause = cause }) h
IfBadRow-weaker (Memory error) P Q step h = tt
