use Rattle.std.proofs.Common.{◌≡◌, ◌<◌, true, ◌∙◌, ap, sym, Some, slice_get, length, option_map, arith}
use Rattle.std.specs.Str.{bytes_eq}
use Rattle.std.proofs.lemmas.Option.{slice_get-get_or}
use Rattle.std.proofs.lemmas.Slice.Eq.{bytes_eq-Decides}
use Rattle.esql_io.specs.declared.memory_files.HeldFile.{HeldFile}
use Rattle.esql_io.proofs.Held.{held_here}
use Rattle.esql_io.proofs.memory_files.find.Goals as goal

pub returns-then-eq : goal.returns-then-eq
returns-then-eq c =
    let files = c.args.files.now in
    let place = c.loop-place.place in
    let file = c.index-files-place.result in
    let within : place < length files = omega arith in
    let at : slice_get files place ≡ Some file = slice_get-get_or files place file within ∙ ap Some (sym c.index-files-place.is) in
    let same : bytes_eq file.name c.args.name.now ≡ true = ap (λ n. bytes_eq n c.args.name.now) (sym c.as_str.ensures) ∙ sym c.if-eq.ensures in
    let name_is = (bytes_eq-Decides file.name c.args.name.now).0 same in (
      ap (option_map (λ (f : HeldFile). f.name)) at ∙ ap Some name_is,
      ap (option_map (λ (f : HeldFile). f.bytes)) at ∙ sym (held_here files c.args.name.now place file at same) ∙ c.loop-place.invariant,
    )
