-- What a stop says, and what was asked for before it.
use Rattle.std.proofs.Common.{◌≡◌, ℕ, List, [], Option, Some, None, Result, Err, refl, sym, subst, inl, inr}
use Rattle.esql_io.specs.Files.{Held}
use Rattle.esql_io.specs.Calls.{NoneFailed}
use Rattle.esql_io.proofs.Calls.{none_then, one_then}
use Rattle.esql_types.specs.Spans.{SpanFits}
use Rattle.esql_types.specs.declared.places.Span.{Span}
use Rattle.answer_text.specs.Messages.{bad_data_line}
use Rattle.table_files.specs.declared.stop.Stop.{Stop}
use Rattle.table_files.specs.declared.stop.Stop.TheVariants.{Refused, BadData, ReadFault, Memory}
use Rattle.table_files.specs.Halts.{Halt, bad, place_of}
use Rattle.table_files.specs.Stops.{CalledToStop, IsNoReadFault, Says, halt_line}

-- ---- what is said

-- what a stop says of one thing it says of another
pub says_of : {A B : Type 0} (text : List ℕ) (P : Result A Halt → Type 0) (Q : Result B Halt → Type 0) (stop : Stop)
    → ((halt : Halt) → P (Err halt) → Q (Err halt)) → Says text P (Err stop) → Says text Q (Err stop)
says_of text P Q (Refused line) step says =
    record { halt = says.halt; halts = step says.halt says.halts; span = says.span; place = says.place; fits = says.fits; is = says.is }
says_of text P Q (BadData line) step says = record { message = says.message; halts = step (bad says.message) says.halts; is = says.is }
says_of text P Q (ReadFault file) step says = tt
says_of text P Q (Memory error) step says = tt

-- a name is refused where it stands
pub says_refused : {A : Type 0} (text : List ℕ) (Means : Result A Halt → Type 0) (halt : Halt) (span : Span) (stop : Stop) → stop ≡ Refused (halt_line text halt) → place_of halt ≡ Some span
    → SpanFits text span → Means (Err halt) → Says text Means (Err stop)
says_refused text Means halt span stop is place fits means =
    subst (λ (s : Stop). Says text Means (Err s)) (sym is) (record { halt = halt; halts = means; span = span; place = place; fits = fits; is = refl })

-- a file is bad, as the line says
pub says_bad : {A : Type 0} (text : List ℕ) (Means : Result A Halt → Type 0) (message : List ℕ) (stop : Stop) → stop ≡ BadData (bad_data_line message) → Means (Err (bad message))
    → Says text Means (Err stop)
says_bad text Means message stop is means = subst (λ (s : Stop). Says text Means (Err s)) (sym is) (record { message = message; halts = means; is = refl })

placed_nowhere : {A : Type 0} {place : Option Span} {span : Span} → place ≡ None → place ≡ Some span → A
placed_nowhere none some = absurd cc

-- of what halts at no name no text is refused, so what is said of it is said for every text
pub says_any : {A : Type 0} (text : List ℕ) (Means : Result A Halt → Type 0) (stop : Stop) → ((halt : Halt) → Means (Err halt) → place_of halt ≡ None)
    → Says [] Means (Err stop) → Says text Means (Err stop)
says_any text Means (Refused line) nowhere says = placed_nowhere (nowhere says.halt says.halts) says.place
says_any text Means (BadData line) nowhere says = says
says_any text Means (ReadFault named) nowhere says = tt
says_any text Means (Memory error) nowhere says = tt

-- ---- what was asked for

-- no call failed before one that stops
pub stopped_then : {Files : Type 0} {holds : Files → Held} {faults : Files → ℕ} {failed : Files → List ℕ} (P Q : List ℕ → Type 0) (stop : Stop) (old now new : Files)
    → NoneFailed holds faults failed old now → ((file : List ℕ) → P file → Q file) → CalledToStop holds faults failed P stop now new
    → CalledToStop holds faults failed Q stop old new
stopped_then P Q (Refused line) old now new before asks called = none_then before called
stopped_then P Q (BadData line) old now new before asks called = none_then before called
stopped_then P Q (ReadFault file) old now new before asks (asked, called) = (asks file asked, one_then before called)
stopped_then P Q (Memory error) old now new before asks (inl called) = inl (none_then before called)
stopped_then P Q (Memory error) old now new before asks (inr (file, asked, called)) = inr (file, asks file asked, one_then before called)

-- no file is asked for any more
pub none_asked : {Files : Type 0} {holds : Files → Held} {faults : Files → ℕ} {failed : Files → List ℕ} (Q : List ℕ → Type 0) (stop : Stop) {old new : Files}
    → IsNoReadFault stop → NoneFailed holds faults failed old new → CalledToStop holds faults failed Q stop old new
none_asked Q (Refused line) none called = called
none_asked Q (BadData line) none called = called
none_asked Q (ReadFault file) none called = absurd none
none_asked Q (Memory error) none called = inl called
