-- When an answer is right that writes a part of a query, and what the maker is heard to say on the way.
use Rattle.std.specs.Prelude.{◌≡◌, ◌≤◌, ℕ, Bool, List, Result, Ok, Err}
use Rattle.plan_semantics.specs.Plans.{columns_of}
use Rattle.row_semantics.specs.Regulars.{Regular, is_accepted}
use Rattle.query_semantics.specs.Shapes.{Shape}
use Rattle.query_semantics.specs.Writings.{Writing}
use Rattle.expression_analysis.specs.declared.error.AnalyzeError.{AnalyzeError}
use Rattle.expression_analysis.specs.declared.error.AnalyzeError.TheVariants.{Broken as BrokenAt, PatternRoom, Memory}
use Rattle.expression_analysis.specs.Answers.{IsRefusal, IsTold, IsUntouched}
use Rattle.plan_writing.specs.declared.writing.Writing.{Writing as Made}
use Rattle.plan_writing.specs.Writings.{seen}

-- What was written is as it is to be, over the columns of the shape; or the shape is refused, as the error says.
abbrev pub Writes : ((Regular → Bool) → Shape) → Writing → Result Made AnalyzeError → Type 0
Writes shape written (Ok made) = (seen made ≡ written) × (shape is_accepted ≡ Ok (columns_of made.visible))
Writes shape written (Err error) = IsRefusal shape error

-- The maker told of a pattern that was too large, which is one of these, exactly where the error tells of it.
abbrev pub IsHeard : {M : Type 0} → (M → ℕ) → (M → List ℕ) → List Regular → M → M → AnalyzeError → Type 0
IsHeard count last these old new (BrokenAt rule span) = IsUntouched count last old new
IsHeard count last these old new (PatternRoom span) = IsTold count last these old new (PatternRoom span) × (count old ≤ count new)
IsHeard count last these old new (Memory error) = IsUntouched count last old new

abbrev pub Hears : {M A : Type 0} → (M → ℕ) → (M → List ℕ) → List Regular → M → M → Result A AnalyzeError → Type 0
Hears count last these old new (Ok value) = IsUntouched count last old new
Hears count last these old new (Err error) = IsHeard count last these old new error
