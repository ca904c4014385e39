-- The tables and policies that a query names: each that is mentioned, once, where it is mentioned first.
use Rattle.std.proofs.Common.{◌≡◌, Bool, true, false, ◌&&◌, ◌||◌, List, [], ◌∷◌, ◌++◌, All, ℕ, refl, sym, ap, ◌∙◌, subst}
use Rattle.std.specs.Prelude.{fold, map, not, if◌then◌else◌}
use Rattle.std.specs.List.{AllByRecursion, IsDistinct, flat_map, list_any}
use Rattle.std.specs.Str.{bytes_eq}
use Rattle.std.proofs.lemmas.Bool.{or_parts}
use Rattle.std.proofs.lemmas.List.Elements.{All-nil, All-cons, All-head, All-tail, All-push}
use Rattle.std.proofs.lemmas.List.Folds.{fold-map, list_any-append}
use Rattle.std.proofs.lemmas.List.Sums.{fold-append}
use Rattle.std.proofs.lemmas.Slice.Eq.{bytes_eq-Decides}
use Rattle.esql_ast.specs.declared.query.NameAt.{NameAt}
use Rattle.esql_ast.specs.declared.query.Query.{Query}
use Rattle.esql_ast.specs.declared.query.Command.{Command}
use Rattle.esql_ast.specs.declared.query.CommandKind.{CommandKind}
use Rattle.esql_ast.specs.declared.query.CommandKind.TheVariants.{Filter, Eval, Keep, Drop, Rename, Sort, Limit, Expand, Stats, Dissect, Grok, Enrich, Join}
use Rattle.esql_ast.specs.declared.query.SourceCommand.{SourceCommand}
use Rattle.esql_ast.specs.declared.query.SourceCommand.TheVariants.{Tables, OneRow}
use Rattle.esql_ast.specs.declared.uses.SourceUse.{SourceUse}
use Rattle.esql_ast.specs.Uses.{same_bool, is_use_of, with_use, uses_in_source, with_kind, with_command, source_names}
use Rattle.esql_ast.specs.UseLaws.{mention, mentions_in_source, mentions_in_kind, mentions, is_same_use, IsFirstMention, UsesDiffer, MentionedAreUsed, UsesAreFirst}

-- ---- the uses are the mentions, each added in turn

abbrev added : List SourceUse → SourceUse → List SourceUse
added uses use_ = with_use use_.policy uses use_.name

kind_added : (uses : List SourceUse) (kind : CommandKind) → with_kind uses kind ≡ fold added uses (mentions_in_kind kind)
kind_added uses (Filter condition) = refl
kind_added uses (Eval fields) = refl
kind_added uses (Keep patterns) = refl
kind_added uses (Drop patterns) = refl
kind_added uses (Rename pairs) = refl
kind_added uses (Sort keys) = refl
kind_added uses (Limit count) = refl
kind_added uses (Expand column) = refl
kind_added uses (Stats fields groups) = refl
kind_added uses (Dissect input pattern separator) = refl
kind_added uses (Grok input pattern) = refl
kind_added uses (Enrich policy on fields) = refl
kind_added uses (Join table on) = refl

commands_added : (uses : List SourceUse) (commands : List Command) → fold with_command uses commands ≡ fold added uses (flat_map (λ (command : Command). mentions_in_kind command.kind) commands)
commands_added uses [] = refl
commands_added uses (command ∷ commands) =
    commands_added (with_kind uses command.kind) commands
    ∙ ap (λ start. fold added start (flat_map (λ (next : Command). mentions_in_kind next.kind) commands)) (kind_added uses command.kind)
    ∙ sym (fold-append added uses (mentions_in_kind command.kind) (flat_map (λ (next : Command). mentions_in_kind next.kind) commands))

source_added : (source : SourceCommand) → uses_in_source source ≡ fold added [] (mentions_in_source source)
source_added (Tables node span tables) = sym (fold-map added (mention false) [] tables)
source_added (OneRow node span fields) = refl

uses_are_added : (query : Query) → source_names query ≡ fold added [] (mentions query)
uses_are_added query =
    commands_added (uses_in_source query.source) query.commands
    ∙ ap (λ start. fold added start (flat_map (λ (command : Command). mentions_in_kind command.kind) query.commands)) (source_added query.source)
    ∙ sym (fold-append added [] (mentions_in_source query.source) (flat_map (λ (command : Command). mentions_in_kind command.kind) query.commands))

-- ---- one name, and both of a policy or both of a table

same_self : (policy : Bool) → same_bool policy policy ≡ true
same_self true = refl
same_self false = refl

is_own : (use_ : SourceUse) → is_use_of use_.name.name use_.policy use_ ≡ true
is_own use_ = ap (λ (same : Bool). same && same_bool use_.policy use_.policy) ((bytes_eq-Decides use_.name.name use_.name.name).1 refl) ∙ same_self use_.policy

both : (left right : Bool) → (left && right) ≡ true → (left ≡ true) × (right ≡ true)
both true true is = (refl, refl)
both true false is = absurd cc
both false right is = absurd cc

one_policy : (left right : Bool) → same_bool left right ≡ true → left ≡ right
one_policy true true is = refl
one_policy true false is = absurd cc
one_policy false true is = absurd cc
one_policy false false is = refl

-- what is of one table or policy is named by the same two
as_named : (use_ : SourceUse) (name : List ℕ) (policy : Bool) (uses : List SourceUse) → is_use_of name policy use_ ≡ true
    → list_any (is_use_of use_.name.name use_.policy) uses ≡ list_any (is_use_of name policy) uses
as_named use_ name policy uses is =
    let parts = both (bytes_eq use_.name.name name) (same_bool use_.policy policy) is in
    ap (λ same. list_any (is_use_of same use_.policy) uses) ((bytes_eq-Decides use_.name.name name).0 parts.0)
    ∙ ap (λ same. list_any (is_use_of name same) uses) (one_policy use_.policy policy parts.1)

-- ---- what holds of the uses of the mentions so far

record AreFirst (done uses : List SourceUse) : Type 0 where
  differ : IsDistinct is_same_use uses
  first : All (IsFirstMention done) uses
  named : (name : List ℕ) (policy : Bool) → list_any (is_use_of name policy) uses ≡ list_any (is_use_of name policy) done

none_are : AreFirst [] []
unfolding IsDistinct
none_are = record { differ = tt; first = All-nil (IsFirstMention []); named = λ name policy. refl }

append_assoc : (front : List SourceUse) (use_ : SourceUse) (behind : List SourceUse) (more : SourceUse) → (front ++ use_ ∷ behind) ++ more ∷ [] ≡ front ++ use_ ∷ (behind ++ more ∷ [])
append_assoc [] use_ behind more = refl
append_assoc (next ∷ front) use_ behind more = ap (λ rest. next ∷ rest) (append_assoc front use_ behind more)

still_first : (done : List SourceUse) (more use_ : SourceUse) → IsFirstMention done use_ → IsFirstMention (done ++ more ∷ []) use_
still_first done more use_ is = record {
  before = is.before;
  behind = is.behind ++ more ∷ [];
  is = ap (λ uses. uses ++ more ∷ []) is.is ∙ append_assoc is.before use_ is.behind more;
  first = is.first;
}

all_still : (done : List SourceUse) (more : SourceUse) (uses : List SourceUse) → All (IsFirstMention done) uses → All (IsFirstMention (done ++ more ∷ [])) uses
all_still done more [] all = All-nil (IsFirstMention (done ++ more ∷ []))
all_still done more (use_ ∷ uses) all =
    All-cons (IsFirstMention (done ++ more ∷ [])) use_ uses (still_first done more use_ (All-head (IsFirstMention done) use_ uses all))
    (all_still done more uses (All-tail (IsFirstMention done) use_ uses all))

apart_push : (uses : List SourceUse) (use_ new : SourceUse) → AllByRecursion (λ other. is_same_use use_ other ≡ false) uses → is_same_use use_ new ≡ false
    → AllByRecursion (λ other. is_same_use use_ other ≡ false) (uses ++ new ∷ [])
apart_push [] use_ new are is = (is, tt)
apart_push (next ∷ uses) use_ new are is = (are.0, apart_push uses use_ new are.1 is)

differ_push : (uses : List SourceUse) (new : SourceUse) → IsDistinct is_same_use uses → list_any (is_use_of new.name.name new.policy) uses ≡ false → IsDistinct is_same_use (uses ++ new ∷ [])
unfolding IsDistinct
differ_push [] new are none = (tt, tt)
differ_push (use_ ∷ uses) new are none =
    let parts = or_parts (is_use_of new.name.name new.policy use_) (list_any (is_use_of new.name.name new.policy) uses) none in
    (apart_push uses use_ new are.0 parts.0, differ_push uses new are.1 parts.1)

-- a mention of what is used already
or_true : (known : Bool) (more : Bool) → (more ≡ true → known ≡ true) → known ≡ (known || more)
or_true true more implies = refl
or_true false true implies = implies refl
or_true false false implies = refl

or_false : (more : Bool) → (more || false) ≡ more
or_false true = refl
or_false false = refl

named_more : (name : List ℕ) (policy : Bool) (done : List SourceUse) (more : SourceUse)
    → list_any (is_use_of name policy) (done ++ more ∷ []) ≡ (list_any (is_use_of name policy) done || is_use_of name policy more)
named_more name policy done more =
    list_any-append (is_use_of name policy) done (more ∷ []) ∙ ap (λ last. list_any (is_use_of name policy) done || last) (or_false (is_use_of name policy more))

used_again : (done uses : List SourceUse) (more : SourceUse) → AreFirst done uses → list_any (is_use_of more.name.name more.policy) uses ≡ true → AreFirst (done ++ more ∷ []) uses
used_again done uses more are is = record {
  differ = are.differ;
  first = all_still done more uses are.first;
  named = λ name policy.
      or_true (list_any (is_use_of name policy) uses) (is_use_of name policy more) (λ own. sym (as_named more name policy uses own) ∙ is)
      ∙ ap (λ known. known || is_use_of name policy more) (are.named name policy) ∙ sym (named_more name policy done more);
}

-- a mention of something new
first_now : (done uses : List SourceUse) (more : SourceUse) → AreFirst done uses → list_any (is_use_of more.name.name more.policy) uses ≡ false → AreFirst (done ++ more ∷ []) (uses ++ more ∷ [])
first_now done uses more are none = record {
  differ = differ_push uses more are.differ none;
  first = All-push (IsFirstMention (done ++ more ∷ [])) uses more (all_still done more uses are.first)
      (record { before = done; behind = []; is = refl; first = sym (are.named more.name.name more.policy) ∙ none });
  named = λ name policy.
      named_more name policy uses more ∙ ap (λ known. known || is_use_of name policy more) (are.named name policy) ∙ sym (named_more name policy done more);
}

add_one : (done uses : List SourceUse) (more : SourceUse) → AreFirst done uses → AreFirst (done ++ more ∷ []) (added uses more)
add_one done uses more are = go (list_any (is_use_of more.name.name more.policy) uses) refl
  where
    go : (known : Bool) → list_any (is_use_of more.name.name more.policy) uses ≡ known → AreFirst (done ++ more ∷ []) (if known then uses else uses ++ more ∷ [])
    go true is = used_again done uses more are is
    go false is = first_now done uses more are is

one_more : (done : List SourceUse) (more : SourceUse) (rest : List SourceUse) → (done ++ more ∷ []) ++ rest ≡ done ++ more ∷ rest
one_more [] more rest = refl
one_more (next ∷ done) more rest = ap (λ behind. next ∷ behind) (one_more done more rest)

add_all : (done uses rest : List SourceUse) → AreFirst done uses → AreFirst (done ++ rest) (fold added uses rest)
add_all done uses [] are = subst (λ whole. AreFirst whole uses) (sym (append_nil done)) are
  where
    append_nil : (front : List SourceUse) → front ++ [] ≡ front
    append_nil [] = refl
    append_nil (next ∷ front) = ap (λ behind. next ∷ behind) (append_nil front)
add_all done uses (more ∷ rest) are =
    subst (λ whole. AreFirst whole (fold added (added uses more) rest)) (one_more done more rest) (add_all (done ++ more ∷ []) (added uses more) rest (add_one done uses more are))

are_first : (query : Query) → AreFirst (mentions query) (source_names query)
are_first query = subst (λ uses. AreFirst (mentions query) uses) (sym (uses_are_added query)) (add_all [] [] (mentions query) none_are)

-- ---- the laws

pub uses_differ : (query : Query) → UsesDiffer query
uses_differ query = (are_first query).differ

pub uses_are_first : (query : Query) → UsesAreFirst query
uses_are_first query = (are_first query).first

each_named : (uses ms : List SourceUse) → ((name : List ℕ) (policy : Bool) → list_any (is_use_of name policy) ms ≡ true → list_any (is_use_of name policy) uses ≡ true)
    → All (λ (use_ : SourceUse). list_any (is_use_of use_.name.name use_.policy) uses ≡ true) ms
each_named uses [] named = All-nil (λ (use_ : SourceUse). list_any (is_use_of use_.name.name use_.policy) uses ≡ true)
each_named uses (one ∷ ms) named =
    All-cons (λ (use_ : SourceUse). list_any (is_use_of use_.name.name use_.policy) uses ≡ true) one ms
    (named one.name.name one.policy (ap (λ own. own || list_any (is_use_of one.name.name one.policy) ms) (is_own one)))
    (each_named uses ms (λ name policy is. named name policy (later (is_use_of name policy one) (list_any (is_use_of name policy) ms) is)))
  where
    later : (own rest : Bool) → rest ≡ true → (own || rest) ≡ true
    later true rest is = refl
    later false rest is = is

pub mentioned_are_used : (query : Query) → MentionedAreUsed query
mentioned_are_used query = each_named (source_names query) (mentions query) (λ name policy is. (are_first query).named name policy ∙ is)
