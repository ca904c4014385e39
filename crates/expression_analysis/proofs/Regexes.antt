-- Regular expressions that are read, or refused.
use Rattle.std.proofs.Common.{◌≡◌, ◌⊎◌, inl, inr, ℕ, ◌<◌, ◌≤◌, nat_le, Bool, true, false, not, ◌&&◌, ◌==◌, List, [], ◌∷◌, length, Some, None, option_map, Result, Ok, Err, refl, ap, arith}
use Rattle.std.specs.Prelude.{unwrap_or, IfSome, IsSomeAnd, if◌then◌else◌}
use Rattle.std.specs.Str.{chars}
use Rattle.std.proofs.lemmas.Bool.Decides.{nat_tests}
use Rattle.regex_hir.specs.Meaning.{meaning}
use Rattle.regex_syntax.specs.Captures.{SameCaptures}
use Rattle.regex_syntax.specs.Grammar.{read, group_count}
use Rattle.regex_syntax.specs.Verdict.{default_config, Reads}
use Rattle.esql_types.specs.Counts.{Rose}
use Rattle.esql_types.specs.Patterns.{IsReadable, IsUnreadable}
use Rattle.esql_types.specs.declared.places.Span.{Span}
use Rattle.esql_types.specs.declared.value.Kind.TheVariants as kind
use Rattle.esql_types.specs.declared.maker.PatternError.{PatternError}
use Rattle.esql_types.specs.declared.maker.PatternError.TheVariants.{NotRead, TooLarge, Memory}
use Rattle.function_rules.specs.Found.{wrapped}
use Rattle.row_semantics.specs.Kinds.{breaks}
use Rattle.row_semantics.specs.declared.rule.NameRule.TheVariants.{BadRegex}
use Rattle.row_semantics.specs.Regulars.{Regular, is_readable, is_accepted}
use Rattle.expression_analysis.specs.Answers.{same_span, accepted_but, IsNoted}
use Rattle.expression_analysis.specs.Steps.{Marks, IsErrorOf, refusal_of, if_read}

-- readable ------------------------------------------------------------------------------------------------------------------------

within : (depth limit : ℕ) → depth ≤ limit → nat_le depth limit ≡ true
within depth limit is = grind (arith, nat_tests)

beyond : (depth limit : ℕ) → limit < depth → nat_le depth limit ≡ false
beyond depth limit is = grind (arith, nat_tests)

pub readable : (text : List ℕ) → IsReadable text → is_readable text ≡ true
unfolding Reads
readable text is =
    elim (read default_config (chars text)) as (λ told. IsSomeAnd told (λ (tree, found). (tree.depth ≤ default_config.nest_limit) × SameCaptures (meaning is.0) tree.value × (is.1 ≡ found) × (group_count (meaning is.0) ≤ length is.1)) → unwrap_or (option_map (λ (tree, _). nat_le tree.depth default_config.nest_limit) told) false ≡ true)
    [ None ↦ λ none. absurd none | Some made ↦ λ some. within made.0.depth default_config.nest_limit some.0 ] is.2

pub unreadable : (text : List ℕ) → IsUnreadable text → is_readable text ≡ false
unreadable text (inl is) = ap (λ told. unwrap_or (option_map (λ (tree, _). nat_le tree.depth default_config.nest_limit) told) false) is
unreadable text (inr is) =
    elim (read default_config (chars text)) as (λ told. IfSome told (λ (tree, _). default_config.nest_limit < tree.depth) → unwrap_or (option_map (λ (tree, _). nat_le tree.depth default_config.nest_limit) told) false ≡ false)
    [ None ↦ λ none. refl | Some made ↦ λ some. beyond made.0.depth default_config.nest_limit some ] is

abbrev pub whole_at : Span → List ℕ → Regular
whole_at span text = record { span = span; text = text; is_whole = true }

abbrev pub free_at : Span → List ℕ → Regular
free_at span text = record { span = span; text = text; is_whole = false }

both : (first next : Bool) → first ≡ true → next ≡ true → first && next ≡ true
both first next is also = (λ i. is i && also i)

either : (first next : Bool) → (first ≡ false) ⊎ (next ≡ false) → first && next ≡ false
either true next (inl is) = absurd cc
either false next (inl is) = refl
either true next (inr is) = is
either false next (inr is) = refl

pub whole_accepted : (span : Span) (text : List ℕ) → IsReadable text → IsReadable (wrapped text) → is_accepted (whole_at span text) ≡ true
whole_accepted span text is also = both (is_readable text) (is_readable (wrapped text)) (readable text is) (readable (wrapped text) also)

pub free_accepted : (span : Span) (text : List ℕ) → IsReadable text → is_accepted (free_at span text) ≡ true
free_accepted span text is = both (is_readable text) true (readable text is) refl

whole_refused : (span : Span) (text : List ℕ) → IsUnreadable text ⊎ IsUnreadable (wrapped text) → is_accepted (whole_at span text) ≡ false
whole_refused span text (inl is) = either (is_readable text) (is_readable (wrapped text)) (inl (unreadable text is))
whole_refused span text (inr is) = either (is_readable text) (is_readable (wrapped text)) (inr (unreadable (wrapped text) is))

free_refused : (span : Span) (text : List ℕ) → IsUnreadable text → is_accepted (free_at span text) ≡ false
free_refused span text is = either (is_readable text) true (inl (unreadable text is))

-- errors --------------------------------------------------------------------------------------------------------------------------

same_number : (n : ℕ) → (n == n) ≡ true
same_number n = grind (arith, nat_tests)

not_there : (accepted : Bool) (span : Span) → accepted && not (same_span span span) ≡ false
not_there accepted span = either accepted (not (same_span span span)) (inr (ap not (both (span.from == span.from) (span.to == span.to) (same_number span.from) (same_number span.to))))

refused_by : (regular : Regular) (accepts : Regular → Bool) → accepts regular ≡ false → if_read (Some regular) accepts ≡ breaks BadRegex regular.span
refused_by regular accepts is = ap (λ (accepted : Bool). if accepted then Ok kind.Null else breaks BadRegex regular.span) is

pub marks_same : (before after : Marks) → after.count ≡ before.count → after.last ≡ before.last → after ≡ before
marks_same before after count last = λ i. record { count = count i; last = last i }

abbrev pub IsErr : (T : Type 0) → PatternError → PatternError → Type 0
IsErr T error other = ◌≡◌ {A = Result T PatternError} (Err error) (Err other)

-- what a maker tells of a pattern that was not built
pub record Tells (T : Type 0) (error : PatternError) (before after : Marks) : Type 0 where
  pub rose : IsErr T error TooLarge → Rose before.count after.count
  pub count : before.count ≤ after.count
  pub kept : (IsErr T error TooLarge → ⊥) → after.last ≡ before.last
  pub uncounted : (IsErr T error TooLarge → ⊥) → after.count ≡ before.count

refused_error : (T : Type 0) (regular : Regular) (error : PatternError) (before after : Marks) → Tells T error before after
    → (IsErr T error NotRead → is_accepted regular ≡ false) → (IsErr T error TooLarge → IsNoted regular regular.span after.last)
    → IsErrorOf (if_read (Some regular)) (regular ∷ []) before after (refusal_of error regular.span)
refused_error T regular NotRead before after tells unread noted =
    (refused_by regular is_accepted (unread refl), marks_same before after (tells.uncounted (λ is. cc)) (tells.kept (λ is. cc)))
refused_error T regular TooLarge before after tells unread noted = (
  refused_by regular (accepted_but regular.span) (not_there (is_accepted regular) regular.span),
  record { rose = tells.rose refl; count = tells.count; noted = inl (noted refl) },
)
refused_error T regular (Memory memory) before after tells unread noted = marks_same before after (tells.uncounted (λ is. cc)) (tells.kept (λ is. cc))

pub whole_error : (T : Type 0) (span : Span) (text : List ℕ) (error : PatternError) (before after : Marks) → Tells T error before after
    → (IsErr T error NotRead → IsUnreadable text ⊎ IsUnreadable (wrapped text)) → (IsErr T error TooLarge → (after.last ≡ text) ⊎ (after.last ≡ wrapped text))
    → IsErrorOf (if_read (Some (whole_at span text))) (whole_at span text ∷ []) before after (refusal_of error span)
whole_error T span text error before after tells unread noted =
    refused_error T (whole_at span text) error before after tells (λ is. whole_refused span text (unread is)) (λ is. record { place = refl; text = wrap (noted is) })
  where
    wrap : (after.last ≡ text) ⊎ (after.last ≡ wrapped text) → (after.last ≡ text) ⊎ ((true ≡ true) × (after.last ≡ wrapped text))
    wrap (inl is) = inl is
    wrap (inr is) = inr (refl, is)

pub free_error : (T : Type 0) (span : Span) (text : List ℕ) (error : PatternError) (before after : Marks) → Tells T error before after
    → (IsErr T error NotRead → IsUnreadable text) → (IsErr T error TooLarge → after.last ≡ text)
    → IsErrorOf (if_read (Some (free_at span text))) (free_at span text ∷ []) before after (refusal_of error span)
free_error T span text error before after tells unread noted =
    refused_error T (free_at span text) error before after tells (λ is. free_refused span text (unread is)) (λ is. record { place = refl; text = inl (noted is) })
