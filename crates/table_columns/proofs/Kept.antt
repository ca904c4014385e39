-- Columns that are kept one by one.
use Rattle.std.proofs.Common.{◌≡◌, List, [], ◌∷◌, ◌++◌, sym, ap, ◌∙◌, append_assoc}
use Rattle.std.proofs.lemmas.List.{map_push}
use Rattle.table_columns.specs.declared.held.HeldColumn.{HeldColumn}
use Rattle.table_columns.specs.declared.growing.GrowingColumn.{GrowingColumn}
use Rattle.table_columns.specs.Held.{Held, held, grown, all_held, all_grown}

pub kept_more : (old new : List HeldColumn) (kept : HeldColumn) (column : GrowingColumn) (before after : List GrowingColumn) (all : List Held) → new ≡ old ++ kept ∷ [] → held kept ≡ grown column → before ≡ column ∷ after
    → all_held old ++ all_grown before ≡ all → all_held new ++ all_grown after ≡ all
kept_more old new kept column before after all pushed same step is =
    ap (λ (columns : List HeldColumn). all_held columns ++ all_grown after) pushed
    ∙ ap (λ (columns : List Held). columns ++ all_grown after) (map_push held old kept)
    ∙ append_assoc (all_held old) (held kept ∷ []) (all_grown after)
    ∙ (λ i. all_held old ++ same i ∷ all_grown after)
    ∙ ap (λ (columns : List GrowingColumn). all_held old ++ all_grown columns) (sym step)
    ∙ is
