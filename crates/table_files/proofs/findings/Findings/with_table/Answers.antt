use Rattle.std.proofs.Common.{◌≡◌, ℕ, Option, Some, cond, length, sym, ap, ◌∙◌, arith}
use Rattle.std.specs.BTreeMap.{get_by_text}
use Rattle.std.specs.Str.{bytes_eq}
use Rattle.std.proofs.lemmas.Map.Text.{text_keys}
use Rattle.table_files.specs.Found.{Found, has_table}
use Rattle.table_files.specs.Numbers.{number_if}
use Rattle.table_files.specs.Shapes.{entries_of}
use Rattle.table_files.proofs.Numbered.{number_more, entries_more, tables_few}
use Rattle.table_files.proofs.findings.Findings.with_table.Goals as goal

pub overflow_cast-len : goal.overflow_cast-len
overflow_cast-len c = omega (arith, c.len.ensures, c.requires.room, tables_few c.args.self.tables, ap (λ (found : Found). length found.tables) c.self.view_is)

pub invariant_of-result : goal.invariant_of-result
invariant_of-result c = record {
  numbers = λ other.
      let put : get_by_text c.insert.new.self other ≡ cond (bytes_eq c.args.table.name other) (Some (length c.self.inside.tables)) (get_by_text c.self.inside.numbers other) = grind (arith, text_keys) in
      put ∙ ap (λ (before : Option ℕ). cond (bytes_eq c.args.table.name other) (Some (length c.self.inside.tables)) before) (c.self.invariant.numbers other)
      ∙ sym (number_more c.self.inside.tables c.args.table other (ap (λ (found : Found). has_table found.tables c.args.table.name) c.self.view_is ∙ c.requires.other)) ∙ ap (λ tables. number_if tables other) (sym c.in_ok-push.ensures.ok);
  entries_are = omega (arith, c.self.invariant.entries_are, c.len-2.ensures, entries_more c.self.inside.tables c.args.table, ap entries_of c.in_ok-push.ensures.ok);
}
