-- Words have at most one outcome.
use Rattle.std.proofs.Common.{◌≡◌, inl, inr, ℕ, ◌<◌, List, [], length, slice_get, Option, Some, None, refl, sym, ap, ◌∙◌, subst, arith}
use Rattle.esql_lex.specs.declared.error.LexError.{LexError}
use Rattle.esql_lex.specs.declared.error.LexError.TheVariants as fault
use Rattle.esql_lex.specs.declared.token.Token.{Token}
use Rattle.esql_lex.specs.Tokens.{Tokens, LexFault}
use Rattle.esql_ast.specs.declared.query.Query.{Query}
use Rattle.esql_ast.specs.Uses.{source_names}
use Rattle.esql_parse.specs.declared.error.ParseError.{ParseError}
use Rattle.esql_parse.specs.declared.error.ParseError.TheVariants.{Unexpected, TooDeep, TooMany, Memory}
use Rattle.esql_parse.specs.Spells.{Spells, Refuses}
use Rattle.esql_types.specs.declared.places.Span.{Span}
use Rattle.answer_text.specs.declared.refusals.Refusal.{Refusal}
use Rattle.answer_text.specs.declared.refusals.Refusal.TheVariants as refusal
use Rattle.esql_io.specs.Files.{Held}
use Rattle.ndjson_load.specs.Over.{BytesOf}
use Rattle.esql_run.specs.Bytes.{Outcome, refused}
use Rattle.esql_run.specs.Built.{unbuilt_of}
use Rattle.esql_run.specs.declared.generated.Generation.{Generation}
use Rattle.esql_run.specs.Generated.{generated_by, IsGenerated}
use Rattle.table_generator.specs.Words.{generated_query}
use Rattle.esql_run.specs.Outcome.{IsAnswer, IsOutcome, AnswersBy, AnswersQuery, AnswersOptions, AnswersRequest, OptionsReadKnown, ReadsKnown, ReadsNoFile}
use Rattle.esql_words.specs.declared.options.Format.{Format}
use Rattle.esql_words.specs.declared.options.Options.{Options}
use Rattle.esql_words.specs.declared.options.Request.{Request}
use Rattle.esql_words.specs.declared.options.Request.TheVariants.{Query as AskQuery, Generate}
use Rattle.esql_words.specs.Words.{options_of}
use Rattle.esql_answer.specs.Queries.{IsQuery, IsNoQuery, too_long, bad_character, open_string, bad_escape, open_comment, wide_number, unexpected, too_deep, too_many, HasFault, HasRefusal, unexpected_kind, point_at}
use Rattle.esql_run.proofs.OneTables.{TableLaws, one_over_tables, over_any}

-- where a fault stands, and how it is refused
abbrev fault_at : LexError → Span
fault_at (fault.BadCharacter at) = point_at at
fault_at (fault.OpenString at) = point_at at
fault_at (fault.BadEscape at) = point_at at
fault_at (fault.OpenComment at) = point_at at
fault_at (fault.WideNumber at) = point_at at
fault_at (fault.Memory error) = point_at 0

abbrev fault_refusal : LexError → Refusal
fault_refusal (fault.BadCharacter at) = refusal.BadCharacter
fault_refusal (fault.OpenString at) = refusal.OpenString
fault_refusal (fault.BadEscape at) = refusal.BadEscape
fault_refusal (fault.OpenComment at) = refusal.OpenComment
fault_refusal (fault.WideNumber at) = refusal.WideNumber
fault_refusal (fault.Memory error) = refusal.TooLong

-- the token that a refusal names, and how it is refused
abbrev number_of : ParseError → ℕ
number_of (Unexpected number) = number
number_of (TooDeep number) = number
number_of (TooMany number) = number
number_of (Memory error) = 0

abbrev token_refusal : Token → ParseError → Refusal
token_refusal token (Unexpected number) = unexpected_kind token.kind
token_refusal token (TooDeep number) = refusal.TooDeep
token_refusal token (TooMany number) = refusal.TooMany
token_refusal token (Memory error) = refusal.TooLong

-- the three ways in which a text is no query
data Reason (text : List ℕ) (why : Refusal) (span : Span) : Type 0 where
  by_length : 65536 < length text → why ≡ refusal.TooLong → span ≡ point_at 0 → Reason text why span
  by_fault : (error : LexError) → HasFault text error → why ≡ fault_refusal error → span ≡ fault_at error → Reason text why span
  by_refusal : (error : ParseError) (token : Token) → HasRefusal text error (number_of error) token → why ≡ token_refusal token error → span ≡ token.span → Reason text why span

reason : {text : List ℕ} {why : Refusal} {span : Span} → IsNoQuery text why span → Reason text why span
reason (too_long long) = by_length long refl refl
reason (bad_character at has) = by_fault (fault.BadCharacter at) has refl refl
reason (open_string at has) = by_fault (fault.OpenString at) has refl refl
reason (bad_escape at has) = by_fault (fault.BadEscape at) has refl refl
reason (open_comment at has) = by_fault (fault.OpenComment at) has refl refl
reason (wide_number at has) = by_fault (fault.WideNumber at) has refl refl
reason (unexpected number token has) = by_refusal (Unexpected number) token has refl refl
reason (too_deep number token has) = by_refusal (TooDeep number) token has refl refl
reason (too_many number token has) = by_refusal (TooMany number) token has refl refl

-- the laws of tokens, of the grammar and of tables
pub record Laws : Type 0 where
  pub one_list : (text : List ℕ) (tokens others : List Token) → Tokens text tokens → Tokens text others → tokens ≡ others
  pub one_fault : (text : List ℕ) (error other : LexError) → LexFault text error → LexFault text other → error ≡ other
  pub not_both : (text : List ℕ) (tokens : List Token) (error : LexError) → Tokens text tokens → LexFault text error → ⊥
  pub one_query : (text : List ℕ) (tokens : List Token) (query other : Query) → Spells text tokens query → Spells text tokens other → query ≡ other
  pub one_refusal : (text : List ℕ) (tokens : List Token) (error other : ParseError) → Refuses text tokens error → Refuses text tokens other → error ≡ other
  pub no_refusal : (text : List ℕ) (tokens : List Token) (query : Query) (error : ParseError) → Spells text tokens query → Refuses text tokens error → ⊥
  pub tables : TableLaws

some_same : {A : Type 0} {a b : A} → Some a ≡ Some b → a ≡ b
some_same e = cc

abbrev Same : Refusal → Span → Refusal → Span → Type 0
Same why span other place = (why ≡ other) × (span ≡ place)

-- the same refusal of the same tokens names the same token
same_token : (laws : Laws) (text : List ℕ) (e f : ParseError) (a b : Token) → HasRefusal text e (number_of e) a → HasRefusal text f (number_of f) b → (e ≡ f) × (a ≡ b)
same_token laws text e f a b one other =
    let tokens : one.tokens ≡ other.tokens = laws.one_list text one.tokens other.tokens one.lexed other.lexed in
    let error : e ≡ f = laws.one_refusal text one.tokens e f one.refuses (subst (λ ts. Refuses text ts f) (sym tokens) other.refuses) in
    let stands : slice_get one.tokens (number_of e) ≡ slice_get other.tokens (number_of f) = ap (λ ts. slice_get ts (number_of e)) tokens ∙ ap (λ x. slice_get other.tokens (number_of x)) error in
    (error, some_same (sym one.stands ∙ stands ∙ other.stands))

one_reason : (laws : Laws) (text : List ℕ) (why how : Refusal) (span place : Span) → Reason text why span → Reason text how place → Same why span how place
one_reason laws text why how span place (by_length _ a b) (by_length _ c d) = (a ∙ sym c, b ∙ sym d)
one_reason laws text why how span place (by_length long a b) (by_fault f has c d) = let short = has.short in absurd (omega arith)
one_reason laws text why how span place (by_length long a b) (by_refusal f t has c d) = let short = has.short in absurd (omega arith)
one_reason laws text why how span place (by_fault e has a b) (by_length long c d) = let short = has.short in absurd (omega arith)
one_reason laws text why how span place (by_fault e has a b) (by_fault f other c d) =
    let same : e ≡ f = laws.one_fault text e f has.fault other.fault in
    (a ∙ ap fault_refusal same ∙ sym c, b ∙ ap fault_at same ∙ sym d)
one_reason laws text why how span place (by_fault e has a b) (by_refusal f t other c d) = absurd (laws.not_both text other.tokens e other.lexed has.fault)
one_reason laws text why how span place (by_refusal e t has a b) (by_length long c d) = let short = has.short in absurd (omega arith)
one_reason laws text why how span place (by_refusal e t has a b) (by_fault f other c d) = absurd (laws.not_both text has.tokens f has.lexed other.fault)
one_reason laws text why how span place (by_refusal e t has a b) (by_refusal f u other c d) =
    let same = same_token laws text e f t u has other in
    (a ∙ ap (λ (x : Token). token_refusal x e) same.1 ∙ ap (token_refusal u) same.0 ∙ sym c, b ∙ ap (λ (x : Token). x.span) same.1 ∙ sym d)

-- what has a query is refused nowhere
no_reason : (laws : Laws) (text : List ℕ) (query : Query) (why : Refusal) (span : Span) → IsQuery text query → Reason text why span → ⊥
no_reason laws text query why span is (by_length long a b) = let short = is.short in omega arith
no_reason laws text query why span is (by_fault e has a b) = laws.not_both text is.tokens e is.lexed has.fault
no_reason laws text query why span is (by_refusal e t has a b) =
    let tokens : is.tokens ≡ has.tokens = laws.one_list text is.tokens has.tokens is.lexed has.lexed in
    laws.no_refusal text has.tokens query e (subst (λ ts. Spells text ts query) tokens is.spelled) has.refuses

-- over files that tell what they hold, a query has one answer
one_by : (laws : Laws) (unbuilt : Option Span) (folder : Option (List ℕ)) (format : Format) (text : List ℕ) (held : BytesOf) (query : Query) (outcome other : Outcome)
    → AnswersBy unbuilt folder format text (Some held) query outcome → AnswersBy unbuilt folder format text (Some held) query other → outcome ≡ other
one_by laws (Some span) folder format text held query outcome other is was = is ∙ sym was
one_by laws None folder format text held query outcome other is was = one_over_tables laws.tables folder format held text query outcome other is was

-- so has one for which no file is read
one_unread : (laws : Laws) (unbuilt : Option Span) (folder : Option (List ℕ)) (format : Format) (text : List ℕ) (query : Query) (outcome other : Outcome) → (unbuilt ≡ None → source_names query ≡ [])
    → AnswersBy unbuilt folder format text None query outcome → AnswersBy unbuilt folder format text None query other → outcome ≡ other
one_unread laws (Some span) folder format text query outcome other none is was = is ∙ sym was
one_unread laws None folder format text query outcome other none (one, is) (held, was) =
    one_over_tables laws.tables folder format held text query outcome other (over_any folder format one held text query outcome (none refl) is) was

-- what is read for a text is known
abbrev TextReadsKnown : List ℕ → Held → Type 0
TextReadsKnown text (Some held) = Unit {0}
TextReadsKnown text None = ReadsNoFile text

same_answer : (laws : Laws) (folder : Option (List ℕ)) (format : Format) (text : List ℕ) (held : Held) (query : Query) (outcome other : Outcome) → TextReadsKnown text held → IsQuery text query
    → AnswersQuery folder format text held query outcome → AnswersQuery folder format text held query other → outcome ≡ other
same_answer laws folder format text (Some held) query outcome other known is a b = one_by laws (unbuilt_of query) folder format text held query outcome other a b
same_answer laws folder format text None query outcome other known is a b = one_unread laws (unbuilt_of query) folder format text query outcome other (known query is) a b

same_query : (laws : Laws) (text : List ℕ) (query other : Query) → IsQuery text query → IsQuery text other → query ≡ other
same_query laws text query other is was =
    let tokens : is.tokens ≡ was.tokens = laws.one_list text is.tokens was.tokens is.lexed was.lexed in
    laws.one_query text was.tokens query other (subst (λ ts. Spells text ts query) tokens is.spelled) was.spelled

one_answer : (laws : Laws) (folder : Option (List ℕ)) (format : Format) (text : List ℕ) (held : Held) (outcome other : Outcome) → TextReadsKnown text held → IsAnswer folder format text held outcome
    → IsAnswer folder format text held other → outcome ≡ other
one_answer laws folder format text held outcome other known (inl (query, is, a)) (inl (query2, was, b)) =
    same_answer laws folder format text held query outcome other known is a (subst (λ (q : Query). AnswersQuery folder format text held q other) (sym (same_query laws text query query2 is was)) b)
one_answer laws folder format text held outcome other known (inl (query, is, a)) (inr (why, span, none, f)) = absurd (no_reason laws text query why span is (reason none))
one_answer laws folder format text held outcome other known (inr (why, span, none, e)) (inl (query, was, b)) = absurd (no_reason laws text query why span was (reason none))
one_answer laws folder format text held outcome other known (inr (why, span, none, e)) (inr (how, place, also, f)) =
    let same = one_reason laws text why how span place (reason none) (reason also) in
    e ∙ ap (λ (r : Refusal). refused text r span) same.0 ∙ ap (refused text how) same.1 ∙ sym f

-- a table that is made has one answer
one_generated : (laws : Laws) (generation : Generation) (outcome other : Outcome) → IsGenerated generation outcome → IsGenerated generation other → outcome ≡ other
one_generated laws generation outcome other (inl (query, is, a)) (inl (query2, was, b)) =
    a ∙ ap (λ (q : Query). generated_by (unbuilt_of q) generation generated_query q) (same_query laws generated_query query query2 is was) ∙ sym b
one_generated laws generation outcome other (inl (query, is, a)) (inr (why, span, none, f)) = absurd (no_reason laws generated_query query why span is (reason none))
one_generated laws generation outcome other (inr (why, span, none, e)) (inl (query, was, b)) = absurd (no_reason laws generated_query query why span was (reason none))
one_generated laws generation outcome other (inr (why, span, none, e)) (inr (how, place, also, f)) =
    let same = one_reason laws generated_query why how span place (reason none) (reason also) in
    e ∙ ap (λ (r : Refusal). refused generated_query r span) same.0 ∙ ap (refused generated_query how) same.1 ∙ sym f

-- what is asked has one outcome
one_request : (laws : Laws) (folder : Option (List ℕ)) (format : Format) (page_size : ℕ) (request : Request) (held : Held) (outcome other : Outcome)
    → OptionsReadKnown (Some (record { folder = folder; page_size = page_size; format = format; request = request })) held
    → AnswersRequest folder format request held outcome → AnswersRequest folder format request held other → outcome ≡ other
one_request laws folder format page_size (AskQuery text) (Some held) outcome other known a b = one_answer laws folder format text (Some held) outcome other tt a b
one_request laws folder format page_size (AskQuery text) None outcome other known a b = one_answer laws folder format text None outcome other known a b
one_request laws folder format page_size (Generate seed rows) held outcome other known a b = one_generated laws (record { seed = seed; rows = rows; format = format }) outcome other a b

one_for_options : (laws : Laws) (options : Option Options) (held : Held) (outcome other : Outcome) → OptionsReadKnown options held → AnswersOptions options held outcome → AnswersOptions options held other → outcome ≡ other
one_for_options laws None held outcome other known a b = a ∙ sym b
one_for_options laws (Some options) held outcome other known a b = one_request laws options.folder options.format options.page_size options.request held outcome other known a b

pub one_outcome : (laws : Laws) (words : List (List ℕ)) (held : Held) (outcome other : Outcome) → ReadsKnown words held → IsOutcome words held outcome → IsOutcome words held other → outcome ≡ other
one_outcome laws words held outcome other known a b = one_for_options laws (options_of words) held outcome other known a b
