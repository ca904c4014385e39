-- A pattern of GROK that was not read is refused as the shape is, and the maker is heard to say why.
use Rattle.std.proofs.Common.{◌≡◌, inl, ℕ, ◌==◌, ◌&&◌, ◌≤◌, not, Bool, true, false, cond, List, Option, Some, None, Result, Ok, Err, refl, ap, sym, subst, ◌∙◌, arith}
use Rattle.std.proofs.lemmas.Bool.Decides.{nat_tests}
use Rattle.esql_types.specs.Counts.{Rose}
use Rattle.esql_types.specs.Patterns.{IsUnreadable}
use Rattle.esql_types.specs.declared.places.Span.{Span}
use Rattle.esql_types.specs.declared.names.Column.{Column}
use Rattle.dissect_grok.specs.Groks.{GrokRead, grok_of}
use Rattle.dissect_grok.specs.declared.error.GrokError.{GrokError}
use Rattle.dissect_grok.specs.declared.error.GrokError.TheVariants.{Bad, NotRead, TooLarge, Memory}
use Rattle.plan_semantics.specs.Taken.{columns_of_grok}
use Rattle.row_semantics.specs.declared.rule.NameRule.TheVariants as rule
use Rattle.row_semantics.specs.Kinds.{breaks}
use Rattle.row_semantics.specs.Regulars.{Regular, is_accepted}
use Rattle.query_semantics.specs.Appended.{put_columns}
use Rattle.query_semantics.specs.AppendedShapes.{regular_of_grok, shape_of_grok_read}
use Rattle.query_semantics.specs.Shapes.{Shape}
use Rattle.expression_analysis.specs.Answers.{accepted_but, same_span, IsRefusal, OneIsNoted}
use Rattle.expression_analysis.proofs.Regexes.{unreadable}
use Rattle.plan_writing.specs.Answers.{IsHeard}
use Rattle.esql_analyze.specs.Names.{told_of_grok}
use Rattle.esql_analyze.specs.Regulars.{regulars_of_grok}

abbrev pub IsErr : GrokError → GrokError → Type 0
IsErr error other = ◌≡◌ {A = Result GrokRead GrokError} (Err error) (Err other)

-- what is said of a pattern that was not read
pub record Tells {M : Type 0} (count : M → ℕ) (last : M → List ℕ) (pattern : List ℕ) (old new : M) (error : GrokError) : Type 0 where
  pub bad : IsErr error Bad → grok_of pattern ≡ None
  pub not_read : IsErr error NotRead → (read : GrokRead) × (grok_of pattern ≡ Some read) × IsUnreadable read.expansion
  pub rose : IsErr error TooLarge → Rose (count old) (count new)
  pub noted : IsErr error TooLarge → (read : GrokRead) × (grok_of pattern ≡ Some read) × (last new ≡ read.expansion)
  pub counted : count old ≤ count new
  pub kept : (IsErr error TooLarge → ⊥) → last new ≡ last old
  pub uncounted : (IsErr error TooLarge → ⊥) → count new ≡ count old

same_number : (n : ℕ) → (n == n) ≡ true
same_number n = grind (arith, nat_tests)

not_there : (accepted : Bool) (span : Span) → (accepted && not (same_span span span)) ≡ false
not_there true span = let same : same_span span span ≡ true = λ i. same_number span.from i && same_number span.to i in ap not same
not_there false span = refl

shape_read : (accepts : Regular → Bool) (pattern : List ℕ) (span : Span) (columns : List Column) (read : GrokRead) → grok_of pattern ≡ Some read → accepts (regular_of_grok span read) ≡ false
    → shape_of_grok_read accepts (grok_of pattern) span columns ≡ Err (record { rule = rule.BadRegex; span = span })
shape_read accepts pattern span columns read is refused =
    ap (λ (these : Option GrokRead). shape_of_grok_read accepts these span columns) is
    ∙ ap (λ (these : Bool). let shape : Shape = cond these (Ok (put_columns columns (columns_of_grok (Some read)))) (breaks rule.BadRegex span) in shape) refused

pub grok_refused : {M : Type 0} (count : M → ℕ) (last : M → List ℕ) (pattern : List ℕ) (span : Span) (columns : List Column) (old new : M) (error : GrokError) → Tells count last pattern old new error
    → IsRefusal (λ accepts. shape_of_grok_read accepts (grok_of pattern) span columns) (told_of_grok error span)
grok_refused count last pattern span columns old new Bad tells = ap (λ (these : Option GrokRead). shape_of_grok_read is_accepted these span columns) (tells.bad refl)
grok_refused count last pattern span columns old new NotRead tells =
    let found = tells.not_read refl in
    shape_read is_accepted pattern span columns found.0 found.1 (ap (λ (readable : Bool). readable && true) (unreadable found.0.expansion found.2))
grok_refused count last pattern span columns old new TooLarge tells =
    let found = tells.noted refl in
    shape_read (accepted_but span) pattern span columns found.0 found.1 (not_there (is_accepted (regular_of_grok span found.0)) span)
grok_refused count last pattern span columns old new (Memory error) tells = tt

pub grok_heard : {M : Type 0} (count : M → ℕ) (last : M → List ℕ) (pattern : List ℕ) (span : Span) (old new : M) (error : GrokError) → Tells count last pattern old new error
    → IsHeard count last (regulars_of_grok span (grok_of pattern)) old new (told_of_grok error span)
grok_heard count last pattern span old new Bad tells = record { counted = tells.uncounted (λ is. cc); noted = tells.kept (λ is. cc) }
grok_heard count last pattern span old new NotRead tells = record { counted = tells.uncounted (λ is. cc); noted = tells.kept (λ is. cc) }
grok_heard count last pattern span old new TooLarge tells =
    let found = tells.noted refl in (
      record {
        rose = tells.rose refl;
        noted_one = subst (λ (these : Option GrokRead). OneIsNoted (regulars_of_grok span these) span (last new)) (sym found.1) (inl (record { place = refl; text = inl found.2 }));
      },
      tells.counted,
    )
grok_heard count last pattern span old new (Memory error) tells = record { counted = tells.uncounted (λ is. cc); noted = tells.kept (λ is. cc) }
