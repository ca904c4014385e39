-- The texts that keys take, one after another, and what they are of the text.
use Rattle.std.proofs.Common.{◌≡◌, ℕ, zero, suc, ◌+◌, ◌-◌, ◌<◌, Bool, true, false, if◌then◌else◌, nat_eq, List, [], ◌∷◌, ◌++◌, length, drop, map, Option, Some, None, sym, ap, subst, ◌∙◌, arith, refl, append_assoc}
use Rattle.std.specs.Option.{option_map, option_and_then}
use Rattle.std.specs.List.{starts_with}
use Rattle.std.proofs.Math.Seq.{drop-nil}
use Rattle.std.proofs.lemmas.List.{append-nil}
use Rattle.std.proofs.lemmas.Slice.Eq.{bytes_eq-Decides}
use Rattle.dissect_grok.specs.Cuts.{cut_of, left_behind, taken_by, taken_to, texts_by_name, texts_from, texts_of}
use Rattle.dissect_grok.specs.Joined.{joined, text_at, with_turn}
use Rattle.dissect_grok.specs.Laws.{AreJoined, copies}
use Rattle.dissect_grok.specs.Patterns.{Reading}
use Rattle.dissect_grok.specs.Texts.{behind_bytes, behind_copies, behind_front, cut_at}
use Rattle.dissect_grok.specs.declared.keys.Form.{Form}
use Rattle.dissect_grok.specs.declared.keys.Form.TheVariants.{Named}
use Rattle.dissect_grok.specs.declared.keys.Key.{Key}
use Rattle.dissect_grok.specs.declared.turns.Turn.{Turn}
use Rattle.dissect_grok.proofs.Cutting.{behind_is, cut_whole, stands_front}

-- the texts that were taken, and those that are left
abbrev pub behind_texts : List (List ℕ) → Option (List (List ℕ)) → Option (List (List ℕ))
behind_texts done left = option_map (λ more. done ++ more) left

text_pushed : (done : List (List ℕ)) (taken : List ℕ) (left : Option (List (List ℕ))) →
    behind_texts done (option_map (λ more. taken ∷ more) left) ≡ behind_texts (done ++ taken ∷ []) left
text_pushed done taken None = refl
text_pushed done taken (Some more) = ap Some (sym (append_assoc done (taken ∷ []) more))

pub next_text : (all : Option (List (List ℕ))) (done : List (List ℕ)) (key : Key) (keys : List Key) (text taken left : List ℕ) → taken_by key text ≡ Some (taken, left) →
    all ≡ behind_texts done (texts_of (key ∷ keys) text) → all ≡ behind_texts (done ++ taken ∷ []) (texts_of keys left)
next_text all done key keys text taken left took held =
    held ∙ ap (λ (t : Option (List ℕ × List ℕ)). behind_texts done (texts_from (λ rest. texts_of keys rest) t)) took ∙ text_pushed done taken (texts_of keys left)

pub no_text : (all : Option (List (List ℕ))) (done : List (List ℕ)) (key : Key) (keys : List Key) (text : List ℕ) → taken_by key text ≡ None →
    all ≡ behind_texts done (texts_of (key ∷ keys) text) → all ≡ None
no_text all done key keys text took held =
    held ∙ ap (λ (t : Option (List ℕ × List ℕ)). behind_texts done (texts_from (λ rest. texts_of keys rest) t)) took

pub all_texts : (all : Option (List (List ℕ))) (done : List (List ℕ)) (text : List ℕ) → all ≡ behind_texts done (texts_of [] text) → all ≡ Some done
all_texts all done text held = held ∙ ap Some (append-nil done)

-- copies that are passed
dropped : (byte : ℕ) (bytes : List ℕ) (many : ℕ) → 0 < many → drop many (byte ∷ bytes) ≡ drop (many - 1) bytes
dropped byte bytes zero some = absurd (omega arith)
dropped byte bytes (suc many) some = ap (λ n. drop n bytes) (omega arith)

copies_step : (delimiter : List ℕ) (byte : ℕ) (bytes : List ℕ) → 0 < length delimiter →
    ((skip : ℕ) → (more : ℕ) × (drop skip bytes ≡ copies more delimiter ++ behind_bytes delimiter skip bytes)) →
    (test : Bool) → starts_with nat_eq (byte ∷ bytes) delimiter ≡ test →
    (more : ℕ) × (byte ∷ bytes ≡ copies more delimiter ++ (if test then behind_bytes delimiter (length delimiter - 1) bytes else byte ∷ bytes))
copies_step delimiter byte bytes some behind true present =
    let rest = behind_bytes delimiter (length delimiter - 1) bytes in
    let more = behind (length delimiter - 1) in (
      suc more.0,
      stands_front delimiter (byte ∷ bytes) present
          ∙ ap (λ back. delimiter ++ back) (dropped byte bytes (length delimiter) some ∙ more.1)
          ∙ sym (append_assoc delimiter (copies more.0 delimiter) rest),
    )
copies_step delimiter byte bytes some behind false missing = (0, refl)

copies_behind : (delimiter text : List ℕ) (skip : ℕ) → 0 < length delimiter → (more : ℕ) × (drop skip text ≡ copies more delimiter ++ behind_bytes delimiter skip text)
copies_behind delimiter [] skip some = (0, drop-nil skip)
copies_behind delimiter (byte ∷ bytes) (suc skip) some = copies_behind delimiter bytes skip some
copies_behind delimiter (byte ∷ bytes) zero some = copies_step delimiter byte bytes some (λ skip. copies_behind delimiter bytes skip some) _ refl

-- what a key takes
record IsTaken (key : Key) (text taken left : List ℕ) : Type 0 where
  pub more : ℕ
  pub whole : text ≡ taken ++ (key.delimiter ++ (copies more key.delimiter ++ left))
  pub once : key.repeats ≡ false → more ≡ 0

left_whole : (form : Form) (repeats : Bool) (delimiter text : List ℕ) (parts : List ℕ × List ℕ) → 0 < length delimiter → text ≡ parts.0 ++ (delimiter ++ parts.1) →
    (taken left : List ℕ) → left_behind repeats delimiter parts ≡ (taken, left) → IsTaken (record { form = form; repeats = repeats; delimiter = delimiter }) text taken left
left_whole form false delimiter text parts some is taken left e =
    record {
      more = 0;
      whole = is ∙ ap (λ (p : List ℕ × List ℕ). p.0 ++ (delimiter ++ p.1)) e;
      once = λ once. refl;
    }
left_whole form true delimiter text parts some is taken left e =
    let passed = copies_behind delimiter parts.1 0 some in
    record {
      more = passed.0;
      whole = is ∙ ap (λ back. parts.0 ++ (delimiter ++ back)) passed.1
          ∙ ap (λ (p : List ℕ × List ℕ). p.0 ++ (delimiter ++ (copies passed.0 delimiter ++ p.1))) e;
      once = λ once. absurd (cc);
    }

taken_cut : (form : Form) (repeats : Bool) (delimiter text : List ℕ) → 0 < length delimiter → (cut : Option (List ℕ × List ℕ)) → cut_at delimiter text ≡ cut →
    (taken left : List ℕ) → option_map (left_behind repeats delimiter) cut ≡ Some (taken, left) → IsTaken (record { form = form; repeats = repeats; delimiter = delimiter }) text taken left
taken_cut form repeats delimiter text some None is taken left e = absurd (cc)
taken_cut form repeats delimiter text some (Some parts) is taken left e =
    left_whole form repeats delimiter text parts some (cut_whole delimiter text parts is) taken left (let same : left_behind repeats delimiter parts ≡ (taken, left) = cc in same)

taken_whole : (form : Form) (repeats : Bool) (delimiter text taken left : List ℕ) → taken_to repeats delimiter text ≡ Some (taken, left) →
    IsTaken (record { form = form; repeats = repeats; delimiter = delimiter }) text taken left
taken_whole form repeats [] text taken left e =
    let same : (taken, left) ≡ (text, []) = cc in
    record { more = 0; whole = sym (append-nil text) ∙ sym (ap (λ (p : List ℕ × List ℕ). p.0 ++ p.1) same); once = λ once. refl }
taken_whole form repeats (byte ∷ bytes) text taken left e = taken_cut form repeats (byte ∷ bytes) text (omega arith) _ refl taken left e

-- a law: the texts with their delimiters are a front of the text
abbrev IsFront : List Key → List ℕ → List (List ℕ) → Type 0
IsFront keys text texts = (front : List ℕ) × (back : List ℕ) × (text ≡ front ++ back) × AreJoined keys texts front

front_more : (key : Key) (keys : List Key) (text taken left : List ℕ) (texts : List (List ℕ)) → IsTaken key text taken left → IsFront keys left texts → IsFront (key ∷ keys) text (taken ∷ texts)
front_more key keys text taken left texts took (front, back, is, joined) =
    let delimiter = key.delimiter in
    let some = copies took.more delimiter in (
      taken ++ (delimiter ++ (some ++ front)),
      back,
      took.whole ∙ ap (λ rest. taken ++ (delimiter ++ (some ++ rest))) is
          ∙ ap (λ rest. taken ++ (delimiter ++ rest)) (sym (append_assoc some front back))
          ∙ ap (λ rest. taken ++ rest) (sym (append_assoc delimiter (some ++ front) back))
          ∙ sym (append_assoc taken (delimiter ++ (some ++ front)) back),
      (took.more, front, refl, took.once, joined),
    )

front_behind : (key : Key) (keys : List Key) (text taken left : List ℕ) → IsTaken key text taken left → (more : Option (List (List ℕ))) →
    ((texts : List (List ℕ)) → more ≡ Some texts → IsFront keys left texts) → (texts : List (List ℕ)) → option_map (λ rest. taken ∷ rest) more ≡ Some texts →
    IsFront (key ∷ keys) text texts
front_behind key keys text taken left took None behind texts e = absurd (cc)
front_behind key keys text taken left took (Some rest) behind texts e =
    let same : taken ∷ rest ≡ texts = cc in
    subst (IsFront (key ∷ keys) text) same (front_more key keys text taken left rest took (behind rest refl))

front_of_key : (key : Key) (keys : List Key) (text : List ℕ) → ((left : List ℕ) (texts : List (List ℕ)) → texts_of keys left ≡ Some texts → IsFront keys left texts) →
    (took : Option (List ℕ × List ℕ)) → taken_by key text ≡ took → (texts : List (List ℕ)) → texts_from (λ left. texts_of keys left) took ≡ Some texts → IsFront (key ∷ keys) text texts
front_of_key key keys text behind None is texts e = absurd (cc)
front_of_key key keys text behind (Some (taken, left)) is texts e =
    front_behind key keys text taken left (taken_whole key.form key.repeats key.delimiter text taken left is) (texts_of keys left) (behind left) texts e

pub front_of_text : (keys : List Key) (text : List ℕ) (texts : List (List ℕ)) → texts_of keys text ≡ Some texts →
    (front : List ℕ) × (back : List ℕ) × (text ≡ front ++ back) × AreJoined keys texts front
front_of_text [] text [] e = ([], text, refl, refl)
front_of_text [] text (first ∷ texts) e = absurd (cc)
front_of_text (key ∷ keys) text texts e = front_of_key key keys text (λ left more is. front_of_text keys left more is) _ refl texts e

-- a law: one key takes the rest
pub rest_of_text : (first text name separator : List ℕ) (repeats : Bool) →
    cut_of (record { first = first; keys = record { form = Named name; repeats = repeats; delimiter = [] } ∷ []; separator = separator }) (first ++ text) ≡ Some (text ∷ [])
rest_of_text first text name separator repeats =
    let keys : List Key = record { form = Named name; repeats = repeats; delimiter = [] } ∷ [] in
    let reading : Reading = record { first = first; keys = keys; separator = separator } in
    let turn : Turn = record { order = 0; place = 0 } in
    ap (λ (rest : Option (List ℕ)). option_map (texts_by_name reading) (option_and_then (texts_of keys) rest)) (behind_is first text)
    ∙ ap (λ (test : Bool). Some (joined separator (map (text_at (text ∷ [])) (if test then with_turn [] turn else [])) ∷ [])) ((bytes_eq-Decides name name).1 refl)

-- before the first text
pub texts_first : (left : Option (List (List ℕ))) → left ≡ behind_texts [] left
texts_first None = refl
texts_first (Some texts) = refl
