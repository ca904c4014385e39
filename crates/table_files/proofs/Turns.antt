-- Steps that are taken one after another.
use Rattle.std.proofs.Common.{◌≡◌, ℕ, List, [], ◌∷◌, Result, Ok, Err, sym, subst}
use Rattle.esql_io.specs.Files.{Held}
use Rattle.table_files.specs.declared.stop.Stop.{Stop}
use Rattle.table_files.specs.Halts.{Halt}
use Rattle.table_files.specs.InTurn.{InTurn, no_items, halts, goes_on, AskedInTurn, first, behind}
use Rattle.table_files.specs.Stops.{Says}
use Rattle.table_files.proofs.Stopped.{says_of}

-- what is reached from here by the items that are left is reached from the start by all items
abbrev pub TurnsTo : {S X : Type 0} → (S → X → Result S Halt → Type 0) → S → List X → S → List X → Type 0
TurnsTo {S} Step start items state left = (result : Result S Halt) → InTurn Step state left result → InTurn Step start items result

pub turns_none : {S X : Type 0} (Step : S → X → Result S Halt → Type 0) (start state : S) (items left : List X) → state ≡ start → left ≡ items → TurnsTo Step start items state left
turns_none {S} {X} Step start state items left same all = λ result turns.
    subst (λ (s : S). InTurn Step s items result) same (subst (λ (xs : List X). InTurn Step state xs result) all turns)

pub turns_more : {S X : Type 0} (Step : Held → S → X → Result S Halt → Type 0) (held now : Held) (start state next : S) (items left rest : List X) (item : X) → now ≡ held → left ≡ item ∷ rest
    → TurnsTo (Step held) start items state left → Step now state item (Ok next) → TurnsTo (Step held) start items next rest
turns_more {S} {X} Step held now start state next items left rest item same cut before step = λ result turns.
    before result (subst (λ (xs : List X). InTurn (Step held) state xs result) (sym cut)
    (goes_on state item rest next result (subst (λ (h : Held). Step h state item (Ok next)) same step) turns))

pub turns_all : {S X : Type 0} (Step : S → X → Result S Halt → Type 0) (start state : S) (items left : List X) → left ≡ [] → TurnsTo Step start items state left → InTurn Step start items (Ok state)
turns_all {S} {X} Step start state items left end before = before (Ok state) (subst (λ (xs : List X). InTurn Step state xs (Ok state)) (sym end) (no_items state))

pub turns_halt : {S X : Type 0} (text : List ℕ) (Step : Held → S → X → Result S Halt → Type 0) (held now : Held) (start state : S) (items left rest : List X) (item : X) (stop : Stop) → now ≡ held → left ≡ item ∷ rest
    → TurnsTo (Step held) start items state left → Says text (Step now state item) (Err stop) → Says text (InTurn (Step held) start items) (Err stop)
turns_halt {S} {X} text Step held now start state items left rest item stop same cut before says =
    says_of text (Step now state item) (InTurn (Step held) start items) stop
    (λ halt at. before (Err halt) (subst (λ (xs : List X). InTurn (Step held) state xs (Err halt)) (sym cut) (halts state item rest halt (subst (λ (h : Held). Step h state item (Err halt)) same at)))) says

-- ---- the files that are asked for

-- what is asked for from here by the items that are left is asked for from the start by all items
abbrev pub AsksTo : {S X : Type 0} → (S → X → Result S Halt → Type 0) → (S → X → List ℕ → Type 0) → S → List X → S → List X → Type 0
AsksTo Step Asks start items state left = (file : List ℕ) → AskedInTurn Step Asks state left file → AskedInTurn Step Asks start items file

pub asks_none : {S X : Type 0} (Step : S → X → Result S Halt → Type 0) (Asks : S → X → List ℕ → Type 0) (start state : S) (items left : List X) → state ≡ start → left ≡ items → AsksTo Step Asks start items state left
asks_none {S} {X} Step Asks start state items left same all = λ file asked.
    subst (λ (s : S). AskedInTurn Step Asks s items file) same (subst (λ (xs : List X). AskedInTurn Step Asks state xs file) all asked)

pub asks_more : {S X : Type 0} (Step : Held → S → X → Result S Halt → Type 0) (Asks : Held → S → X → List ℕ → Type 0) (held now : Held) (start state next : S) (items left rest : List X) (item : X) → now ≡ held → left ≡ item ∷ rest
    → AsksTo (Step held) (Asks held) start items state left → Step now state item (Ok next) → AsksTo (Step held) (Asks held) start items next rest
asks_more {S} {X} Step Asks held now start state next items left rest item same cut before step = λ file asked.
    before file (subst (λ (xs : List X). AskedInTurn (Step held) (Asks held) state xs file) (sym cut)
    (behind state item rest next file (subst (λ (h : Held). Step h state item (Ok next)) same step) asked))

pub asks_one : {S X : Type 0} (Step : Held → S → X → Result S Halt → Type 0) (Asks : Held → S → X → List ℕ → Type 0) (held now : Held) (start state : S) (items left rest : List X) (item : X) → now ≡ held → left ≡ item ∷ rest
    → AsksTo (Step held) (Asks held) start items state left → (file : List ℕ) → Asks now state item file → AskedInTurn (Step held) (Asks held) start items file
asks_one {S} {X} Step Asks held now start state items left rest item same cut before file asked =
    before file (subst (λ (xs : List X). AskedInTurn (Step held) (Asks held) state xs file) (sym cut) (first state item rest file (subst (λ (h : Held). Asks h state item file) same asked)))
