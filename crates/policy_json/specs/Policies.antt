-- The policy that a document is.
use Rattle.std.specs.Prelude.{ℕ, ◌==◌, ◌||◌, ◌&&◌, not, Bool, true, List, [], ◌∷◌, codes, Option, Some, None, option_and_then, option_map, Result, Ok, Err, if◌then◌else◌}
use Rattle.std.specs.List.{list_all, list_any}
use Rattle.std.specs.Str.{bytes_eq}
use Rattle.serde_json.specs.Data.{Data, null, boolean, number, string, array, object, Items, no_items, item, Members, no_members, member}
use Rattle.serde_json.specs.Find.{get_member, as_str}
use Rattle.ndjson_load.specs.Documents.{document_of}
use Rattle.ndjson_load.specs.declared.cause.MappingCause.{MappingCause}
use Rattle.ndjson_load.specs.declared.cause.MappingCause.TheVariants.{NotJson, NotMatchPolicy}
use Rattle.policy_json.specs.declared.policy.PolicyText.{PolicyText}

-- ---- texts

abbrev pub onto_texts : Data → Option (List (List ℕ)) → Option (List (List ℕ))
onto_texts null texts = None
onto_texts (boolean b) texts = None
onto_texts (number n) texts = None
onto_texts (string s) texts = option_map (λ (rest : List (List ℕ)). s ∷ rest) texts
onto_texts (array ds) texts = None
onto_texts (object ms) texts = None

-- the texts of an array, where each item is one
abbrev pub texts_in : Items → Option (List (List ℕ))
texts_in no_items = Some []
texts_in (item d ds) = onto_texts d (texts_in ds)

abbrev pub at_least_one : List (List ℕ) → Option (List (List ℕ))
at_least_one [] = None
at_least_one (text ∷ texts) = Some (text ∷ texts)

-- a text, or an array of texts, at least one
abbrev pub texts_of : Data → Option (List (List ℕ))
texts_of null = None
texts_of (boolean b) = None
texts_of (number n) = None
texts_of (string s) = Some (s ∷ [])
texts_of (array ds) = option_and_then at_least_one (texts_in ds)
texts_of (object ms) = None

-- a text with the byte `#` in it
abbrev pub has_hash : List ℕ → Bool
has_hash text = list_any (λ b. b == 35) text

abbrev pub without_hash : List (List ℕ) → Option (List (List ℕ))
without_hash names = if list_all (λ name. not (has_hash name)) names then Some names else None

-- the names of tables: texts without `#`
abbrev pub names_of : Data → Option (List (List ℕ))
names_of d = option_and_then without_hash (texts_of d)

-- ---- the members of a policy

abbrev pub is_part : List ℕ → Bool
is_part key = bytes_eq key (codes "indices") || (bytes_eq key (codes "match_field") || bytes_eq key (codes "enrich_fields"))

-- an object has no other members than `indices`, `match_field` and `enrich_fields`
abbrev pub has_parts_only : Members → Bool
has_parts_only no_members = true
has_parts_only (member key d ms) = is_part key && has_parts_only ms

abbrev pub policy_with : Option (List (List ℕ)) → Option (List ℕ) → Option (List (List ℕ)) → Option PolicyText
policy_with None match_field fields = None
policy_with (Some indices) None fields = None
policy_with (Some indices) (Some match_field) None = None
policy_with (Some indices) (Some match_field) (Some fields) = Some (record { indices = indices; match_field = match_field; fields = fields })

-- the policy of members, which has each of the three
abbrev pub policy_from : Members → Option PolicyText
policy_from ms =
    policy_with (option_and_then names_of (get_member (codes "indices") ms)) (option_and_then as_str (get_member (codes "match_field") ms))
    (option_and_then texts_of (get_member (codes "enrich_fields") ms))

-- the policy that the value of `match` is: an object of these three members and no other
abbrev pub policy_of : Data → Option PolicyText
policy_of null = None
policy_of (boolean b) = None
policy_of (number n) = None
policy_of (string s) = None
policy_of (array ds) = None
policy_of (object ms) = if has_parts_only ms then policy_from ms else None

-- ---- the document

-- the value of the member of a name, where the object has no other member
abbrev pub sole_member : List ℕ → Members → Option Data
sole_member name no_members = None
sole_member name (member key d no_members) = if bytes_eq key name then Some d else None
sole_member name (member key d (member key' d' ms)) = None

-- the policy in a document: an object of the one member `match`
abbrev pub policy_in : Data → Option PolicyText
policy_in null = None
policy_in (boolean b) = None
policy_in (number n) = None
policy_in (string s) = None
policy_in (array ds) = None
policy_in (object ms) = option_and_then policy_of (sole_member (codes "match") ms)

abbrev pub or_no_policy : Option PolicyText → Result PolicyText MappingCause
or_no_policy None = Err NotMatchPolicy
or_no_policy (Some policy) = Ok policy

abbrev pub policy_read : Option Data → Result PolicyText MappingCause
policy_read None = Err NotJson
policy_read (Some d) = or_no_policy (policy_in d)

-- the policy that bytes are, or why they are none
abbrev pub policy_text : List ℕ → Result PolicyText MappingCause
policy_text bytes = policy_read (document_of bytes)
