-- Steps that are taken in turn: what holds of each step holds of all.
use Rattle.std.proofs.Common.{◌≡◌, ◌⊎◌, inl, inr, List, [], ◌∷◌, Some, None, Result, Ok, Err, refl, sym, ◌∙◌, subst}
use Rattle.esql_io.specs.Files.{Held}
use Rattle.ndjson_load.specs.Over.{BytesOf}
use Rattle.table_files.specs.Halts.{Halt}
use Rattle.table_files.specs.InTurn.{InTurn, no_items, halts, goes_on}

-- ---- the first step

-- a halt is the end, and from a state that is reached come the steps that are left
abbrev Then : {S X : Type 0} (Step : S → X → Result S Halt → Type 0) → List X → Result S Halt → Result S Halt → Type 0
Then Step items (Err halt) result = result ≡ Err halt
Then Step items (Ok next) result = InTurn Step next items result

first_step : {S X : Type 0} (Step : S → X → Result S Halt → Type 0) (state : S) (item : X) (items : List X) (result : Result S Halt) → InTurn Step state (item ∷ items) result
    → (first : Result S Halt) × Step state item first × Then Step items first result
first_step Step state item items result (halts _ _ _ halt is) = (Err halt, is, refl)
first_step Step state item items result (goes_on _ _ _ next _ is later) = (Ok next, is, later)

no_steps : {S X : Type 0} (Step : S → X → Result S Halt → Type 0) (state : S) (result : Result S Halt) → InTurn Step state [] result → result ≡ Ok state
no_steps Step state result (no_items _) = refl

-- where each step is one at most, so are all in turn
module _ {S X : Type 0} (Step : S → X → Result S Halt → Type 0) (one : (state : S) (item : X) (result other : Result S Halt) → Step state item result → Step state item other → result ≡ other) where
  one_then : (items : List X) (first result other : Result S Halt) → ((state : S) (one_result also : Result S Halt) → InTurn Step state items one_result → InTurn Step state items also → one_result ≡ also)
      → Then Step items first result → Then Step items first other → result ≡ other
  one_then items (Err halt) result other later is was = is ∙ sym was
  one_then items (Ok next) result other later is was = later next result other is was

  pub one_in_turn : (state : S) (items : List X) (result other : Result S Halt) → InTurn Step state items result → InTurn Step state items other → result ≡ other
  one_in_turn state [] result other is was = no_steps Step state result is ∙ sym (no_steps Step state other was)
  one_in_turn state (item ∷ items) result other is was =
      let (first, step, then_is) = first_step Step state item items result is in
      let (second, also, then_was) = first_step Step state item items other was in
      let same : second ≡ first = one state item second first also step in
      one_then items first result other (λ next. one_in_turn next items) then_is (subst (λ (f : Result S Halt). Then Step items f other) same then_was)

-- ---- what holds of the states that are reached

-- what each step keeps
module _ {S X : Type 0} (Step : S → X → Result S Halt → Type 0) (P : S → Type 0) (keeps : (state : S) (item : X) (next : S) → Step state item (Ok next) → P state → P next) where
  pub in_turn_keeps : (state : S) (items : List X) (last : S) → InTurn Step state items (Ok last) → P state → P last
  in_turn_keeps state [] last (no_items _) p = p
  in_turn_keeps state (item ∷ items) last (goes_on _ _ _ next _ is later) p = in_turn_keeps next items last later (keeps state item next is p)

-- what holds before each step if it holds after it
module _ {S X : Type 0} (Step : S → X → Result S Halt → Type 0) (Q : S → Type 0) (back : (state : S) (item : X) (next : S) → Step state item (Ok next) → Q next → Q state) where
  in_turn_back : (state : S) (items : List X) (last : S) → InTurn Step state items (Ok last) → Q last → Q state
  in_turn_back state [] last (no_items _) q = q
  in_turn_back state (item ∷ items) last (goes_on _ _ _ next _ is later) q = back state item next is (in_turn_back next items last later q)

-- ---- other steps

-- where what each step reaches allows the other step
module _ {S X : Type 0} (Step Other : S → X → Result S Halt → Type 0) (Q : S → Type 0) (back : (state : S) (item : X) (next : S) → Step state item (Ok next) → Q next → Q state)
    (also : (state : S) (item : X) (next : S) → Q next → Step state item (Ok next) → Other state item (Ok next)) where
  pub in_turn_back_to : (state : S) (items : List X) (last : S) → Q last → InTurn Step state items (Ok last) → InTurn Other state items (Ok last)
  in_turn_back_to state [] last q (no_items _) = no_items state
  in_turn_back_to state (item ∷ items) last q (goes_on _ _ _ next _ is later) =
      goes_on state item items next (Ok last) (also state item next (in_turn_back Step Q back next items last later q) is) (in_turn_back_to next items last q later)

-- where what holds before each step allows the other step
module _ {S X : Type 0} (Step Other : S → X → Result S Halt → Type 0) (P : S → List X → Type 0)
    (keeps : (state : S) (item : X) (items : List X) (next : S) → P state (item ∷ items) → Step state item (Ok next) → P next items)
    (also : (state : S) (item : X) (items : List X) (result : Result S Halt) → P state (item ∷ items) → Step state item result → Other state item result) where
  pub in_turn_as : (state : S) (items : List X) (result : Result S Halt) → P state items → InTurn Step state items result → InTurn Other state items result
  in_turn_as state [] result p (no_items _) = no_items state
  in_turn_as state (item ∷ items) result p (halts _ _ _ halt is) = halts state item items halt (also state item items (Err halt) p is)
  in_turn_as state (item ∷ items) result p (goes_on _ _ _ next _ is later) =
      goes_on state item items next result (also state item items (Ok next) p is) (in_turn_as next items result (keeps state item items next p is) later)

-- where the other step halts once, or goes on as long as it has not
module _ {S X : Type 0} (Step Other : S → X → Result S Halt → Type 0) (P Q : S → Type 0) (halt : Halt) (back : (state : S) (item : X) (next : S) → Step state item (Ok next) → Q next → Q state)
    (or : (state : S) (item : X) (next : S) → P state → Q next → Step state item (Ok next) → (P next × Other state item (Ok next)) ⊎ Other state item (Err halt)) where
  halts_behind : (state : S) (item : X) (items : List X) (next last : S) → Other state item (Ok next) → (P last × InTurn Other next items (Ok last)) ⊎ InTurn Other next items (Err halt)
      → (P last × InTurn Other state (item ∷ items) (Ok last)) ⊎ InTurn Other state (item ∷ items) (Err halt)
  halts_behind state item items next last is (inl (p, later)) = inl (p, goes_on state item items next (Ok last) is later)
  halts_behind state item items next last is (inr later) = inr (goes_on state item items next (Err halt) is later)

  halts_or : (state : S) (item : X) (items : List X) (next last : S) → (P next → (P last × InTurn Other next items (Ok last)) ⊎ InTurn Other next items (Err halt))
      → (P next × Other state item (Ok next)) ⊎ Other state item (Err halt) → (P last × InTurn Other state (item ∷ items) (Ok last)) ⊎ InTurn Other state (item ∷ items) (Err halt)
  halts_or state item items next last later (inl (p, is)) = halts_behind state item items next last is (later p)
  halts_or state item items next last later (inr is) = inr (halts state item items halt is)

  pub in_turn_halts : (state : S) (items : List X) (last : S) → P state → Q last → InTurn Step state items (Ok last) → (P last × InTurn Other state items (Ok last)) ⊎ InTurn Other state items (Err halt)
  in_turn_halts state [] last p q (no_items _) = inl (p, no_items state)
  in_turn_halts state (item ∷ items) last p q (goes_on _ _ _ next _ is later) =
      halts_or state item items next last (λ at. in_turn_halts next items last at q later) (or state item next p (in_turn_back Step Q back next items last later q) is)

-- ---- steps over files

-- over files that do not tell what they hold, steps in turn are those over some contents, where the contents of a first step and
-- of those after it can be joined
module _ {S X : Type 0} (Step : Held → S → X → Result S Halt → Type 0) (P : List X → Type 0) (rest : (item : X) (items : List X) → P (item ∷ items) → P items)
    (some : (state : S) (item : X) (result : Result S Halt) → Step None state item result → (held : BytesOf) × Step (Some held) state item result)
    (join : (state : S) (item : X) (items : List X) (next : S) (result : Result S Halt) (here there : BytesOf) → P (item ∷ items) → Step (Some here) state item (Ok next)
    → InTurn (Step (Some there)) next items result → (held : BytesOf) × Step (Some held) state item (Ok next) × InTurn (Step (Some held)) next items result) where
  pub in_turn_some : (state : S) (items : List X) (result : Result S Halt) → P items → InTurn (Step None) state items result → (held : BytesOf) × InTurn (Step (Some held)) state items result
  in_turn_some state [] result p (no_items _) = ((λ file. None), no_items state)
  in_turn_some state (item ∷ items) result p (halts _ _ _ halt is) = let (held, step) = some state item (Err halt) is in (held, halts state item items halt step)
  in_turn_some state (item ∷ items) result p (goes_on _ _ _ next _ is later) =
      let (here, step) = some state item (Ok next) is in
      let (there, steps) = in_turn_some next items result (rest item items p) later in
      let (held, first, behind_it) = join state item items next result here there p step steps in
      (held, goes_on state item items next result first behind_it)
