-- Lexemes lead on where others lead.
use Rattle.std.proofs.Common.{◌≡◌, ℕ, ◌+◌, max, List, [], ◌∷◌, ◌++◌, Some, refl, sym, subst, append_assoc, append-nil, arith}
use Rattle.esql_phrases.specs.declared.lexeme.Lexeme.{Lexeme}
use Rattle.esql_phrases.specs.declared.part.Part.{Part}
use Rattle.esql_phrases.specs.Phrases.{Phrase}
use Rattle.esql_commands.specs.declared.place.Move.TheVariants.{To}
use Rattle.esql_commands.specs.declared.place.Place.{Place}
use Rattle.esql_commands.specs.declared.place.Place.TheVariants.{At, Expression}
use Rattle.esql_commands.specs.declared.place.Point.{Point}
use Rattle.esql_commands.specs.declared.place.Point.TheVariants as point
use Rattle.esql_commands.specs.declared.place.Slot.{Slot}
use Rattle.esql_commands.specs.Leads.{Leads, stays, continues, reads, begins_field}
use Rattle.esql_commands.specs.Points.{continue_command}
use Rattle.esql_commands.specs.Slots.{line_in}
use Rattle.esql_commands.proofs.Lists.{to}

pub leads_as : {from to : Place} {v w : List Lexeme} {d e : ℕ} → v ≡ w → d ≡ e → Leads from v d to → Leads from w e to
leads_as {from} {to} {w = w} {d = d} p q l = subst (λ (n : ℕ). Leads from w n to) q (subst (λ (y : List Lexeme). Leads from y d to) p l)

pub leads-append : {from mid to : Place} {v w : List Lexeme} {d e : ℕ} → Leads from v d mid → Leads mid w e to → Leads from (v ++ w) (max d e) to
leads-append stays k = leads_as refl (omega arith) k
leads-append (continues x g l) k = continues x g (leads-append l k)
leads-append {w = v} (reads {u = u} {w = w} q l) k = leads_as (sym (append_assoc u w v)) (omega arith) (reads q (leads-append l k))
leads-append (begins_field l) k = begins_field (leads-append l k)

-- one lexeme more
pub one_more : {from next : Place} {here : Point} {v : List Lexeme} {d : ℕ} (x : Lexeme) → Leads from v d (At here) → continue_command here x ≡ Some (To next) → Leads from (v ++ x ∷ []) d next
one_more x l g = leads_as refl (omega arith) (leads-append l (continues x g stays))

-- an expression alone in its slot
pub reads_whole : {slot : Slot} {w : List Lexeme} {p : Part} → Phrase (line_in slot) w p → Leads (Expression slot) w p.depth (At (point.Ended slot p))
reads_whole {w = w} q = leads_as (append-nil w) (omega arith) (reads q stays)

-- an expression more
pub then_reads : {from : Place} {slot : Slot} {v w : List Lexeme} {p : Part} {d : ℕ} → Leads from v d (Expression slot) → Phrase (line_in slot) w p → Leads from (v ++ w) (max d p.depth) (At (point.Ended slot p))
then_reads l q = leads-append l (reads_whole q)
