-- What a DISSECT pattern is read as: a literal, and keys `%{..}` each followed by a literal, its delimiter.
use Rattle.std.specs.Prelude.{◌≡◌, ⊤, ℕ, zero, suc, ◌==◌, ◌&&◌, ◌||◌, not, nat_lt, nat_le, Bool, true, false, List, [], ◌∷◌, ◌++◌, fold, length, Option, Some, None, Result, Ok, Err, option_map, option_and_then, codes, if◌then◌else◌}
use Rattle.std.specs.List.{list_any}
use Rattle.std.specs.Str.{all_ascii_digits, bytes_eq}
use Rattle.std.specs.Str.Parse.{digits_value}
use Rattle.dissect_grok.specs.declared.error.DissectError.{DissectError}
use Rattle.dissect_grok.specs.declared.error.DissectError.TheVariants.{Bad, Memory}
use Rattle.dissect_grok.specs.declared.keys.Form.{Form}
use Rattle.dissect_grok.specs.declared.keys.Form.TheVariants.{Skipped, Named, Appended}
use Rattle.dissect_grok.specs.declared.keys.Key.{Key}
use Rattle.dissect_grok.specs.Texts.{before_back, behind_front, cut_at}

-- what a reading answers: what is meant, `Bad` exactly where nothing is, or want of memory
abbrev pub IsRead : {Item : Type 0} → Option Item → Result Item DissectError → Type 0
IsRead meant (Ok item) = meant ≡ Some item
IsRead meant (Err Bad) = meant ≡ None
IsRead meant (Err (Memory error)) = ⊤

-- one of `+`, `?`, `*` and `&`
abbrev pub is_sign : ℕ → Bool
is_sign byte = byte == 43 || (byte == 63 || (byte == 42 || byte == 38))

abbrev pub has_slash : List ℕ → Bool
has_slash text = list_any (λ byte. byte == 47) text

abbrev pub begins_with_sign : List ℕ → Bool
begins_with_sign [] = false
begins_with_sign (first ∷ rest) = is_sign first

-- the text begins with no sign and has no slash
abbrev pub is_plain : List ℕ → Bool
is_plain text = not (begins_with_sign text) && not (has_slash text)

-- a name is plain and not empty
abbrev pub is_name : List ℕ → Bool
is_name text = not (length text == 0) && is_plain text

-- the number that decimal digits spell, at most 4294967295
abbrev pub number_of : List ℕ → Option ℕ
number_of text =
    if (nat_lt 0 (length text) && all_ascii_digits text) && nat_le (digits_value 10 text) 4294967295 then Some (digits_value 10 text) else None

-- the form of a key where there is one
abbrev pub form_if : Bool → Form → Option Form
form_if is_form form = if is_form then Some form else None

-- a key with `+` of a name and a number, where they are one
abbrev pub appended_form : List ℕ → Option ℕ → Option Form
appended_form name None = None
appended_form name (Some order) = form_if (is_name name) (Appended name order)

-- a name, and the number behind the first slash where there is one, else 0
abbrev pub appended_parts : List ℕ → Option (List ℕ × List ℕ) → Option Form
appended_parts text None = appended_form text (Some 0)
appended_parts text (Some (name, digits)) = appended_form name (number_of digits)

-- `+name` or `+name/n`, behind the `+`
abbrev pub appended_of : List ℕ → Option Form
appended_of text = appended_parts text (cut_at (codes "/") text)

-- an empty key, or a name
abbrev pub unsigned_form : List ℕ → Option Form
unsigned_form [] = Some Skipped
unsigned_form (first ∷ rest) = form_if (is_name (first ∷ rest)) (Named (first ∷ rest))

-- a key with `+` before its text, or with none
abbrev pub form_behind_plus : List ℕ → Option (List ℕ) → Option Form
form_behind_plus text None = unsigned_form text
form_behind_plus text (Some rest) = appended_of rest

-- a key with `?` before its text, or with none
abbrev pub form_behind_question : List ℕ → Option (List ℕ) → Option Form
form_behind_question text None = form_behind_plus text (behind_front (codes "+") text)
form_behind_question text (Some name) = form_if (is_plain name) Skipped

-- the form of a key: empty or `?name`, which are skipped; `name`; `+name` and `+name/n`
abbrev pub form_of : List ℕ → Option Form
form_of text = form_behind_question text (behind_front (codes "?") text)

-- a key of a form
abbrev pub key_with : Bool → List ℕ → Form → Key
key_with repeats delimiter form = record { form = form; repeats = repeats; delimiter = delimiter }

-- the key of a text, which may have `->` at its end, with its delimiter
abbrev pub key_behind : List ℕ → Option (List ℕ) → List ℕ → Option Key
key_behind text None delimiter = option_map (key_with false delimiter) (form_of text)
key_behind text (Some front) delimiter = option_map (key_with true delimiter) (form_of front)

abbrev pub key_of : List ℕ → List ℕ → Option Key
key_of text delimiter = key_behind text (before_back (codes "->") text) delimiter

-- A key as it is written: its text, its delimiter, and what stands behind the next `%{` if there is one.
pub record Part : Type 0 where
  pub text : List ℕ
  pub delimiter : List ℕ
  pub rest : Option (List ℕ)

-- what stands behind a key's `}`, which the next `%{` ends; a delimiter before it is not empty
abbrev pub part_of : List ℕ → List ℕ → Option (List ℕ × List ℕ) → Option Part
part_of text behind None = Some (record { text = text; delimiter = behind; rest = None })
part_of text behind (Some ([], rest)) = None
part_of text behind (Some (byte ∷ bytes, rest)) = Some (record { text = text; delimiter = byte ∷ bytes; rest = Some rest })

-- what stands behind `%{`, which the first `}` ends
abbrev pub first_part : List ℕ → Option Part
first_part text = option_and_then (λ parts. part_of parts.0 parts.1 (cut_at (codes "%{") parts.1)) (cut_at (codes "}") text)

-- a key and the keys behind it, where all are keys
abbrev pub with_key : Option Key → Option (List Key) → Option (List Key)
with_key None keys = None
with_key (Some key) keys = option_map (λ more. key ∷ more) keys

-- the keys of what stands behind a key, as `more` reads it
abbrev pub keys_behind : (List ℕ → Option (List Key)) → Option (List ℕ) → Option (List Key)
keys_behind more None = Some []
keys_behind more (Some rest) = more rest

-- the key of a part, and the keys behind it
abbrev pub keys_from : (List ℕ → Option (List Key)) → Option Part → Option (List Key)
keys_from more None = None
keys_from more (Some part) = with_key (key_of part.text part.delimiter) (keys_behind more part.rest)

-- the keys of what stands behind `%{`, of which there are at most so many
abbrev pub keys_within : ℕ → List ℕ → Option (List Key)
keys_within zero text = None
keys_within (suc count) text = keys_from (λ rest. keys_within count rest) (first_part text)

-- the keys of what stands behind the first `%{`: never more than it has bytes
abbrev pub keys_of : List ℕ → Option (List Key)
keys_of text = keys_within (length text) text

-- the name of a key that is not skipped
abbrev pub name_in : Form → Option (List ℕ)
name_in Skipped = None
name_in (Named name) = Some name
name_in (Appended name order) = Some name

-- names, with one more where it is not among them
abbrev pub with_name : List (List ℕ) → Option (List ℕ) → List (List ℕ)
with_name names None = names
with_name names (Some name) = if list_any (bytes_eq name) names then names else names ++ name ∷ []

-- the names of keys, each once, by its first place
abbrev pub names_of : List Key → List (List ℕ)
names_of keys = fold (λ names (key : Key). with_name names (name_in key.form)) [] keys

-- the key has the name, without `+`
abbrev pub is_named : List ℕ → Form → Bool
is_named name Skipped = false
is_named name (Named other) = bytes_eq name other
is_named name (Appended other order) = false

-- the form is a name without `+` that a later key has without `+` too
abbrev pub is_named_again : Form → List Key → Bool
is_named_again Skipped keys = false
is_named_again (Named name) keys = list_any (λ (key : Key). is_named name key.form) keys
is_named_again (Appended name order) keys = false

-- two keys have one name without `+`
abbrev pub have_name_twice : List Key → Bool
have_name_twice [] = false
have_name_twice (key ∷ keys) = is_named_again key.form keys || have_name_twice keys

-- What a pattern is read as, with the separator of the texts of one name.
pub record Reading : Type 0 where
  pub first : List ℕ
  pub keys : List Key
  pub separator : List ℕ

-- some key is not skipped, and none has another's name without `+`
abbrev pub are_good : List Key → Bool
are_good keys = not (length (names_of keys) == 0) && not (have_name_twice keys)

abbrev pub reading_with : List ℕ → List ℕ → Option (List Key) → Option Reading
reading_with first separator None = None
reading_with first separator (Some keys) = if are_good keys then Some (record { first = first; keys = keys; separator = separator }) else None

-- what a pattern is read as; a bad one is read as nothing
abbrev pub reading_of : List ℕ → List ℕ → Option Reading
reading_of pattern separator = option_and_then (λ parts. reading_with parts.0 separator (keys_of parts.1)) (cut_at (codes "%{") pattern)
