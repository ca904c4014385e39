-- What a name stands for, from what was answered of its two files.
use Rattle.std.proofs.Common.{◌≡◌, ℕ, ◌+◌, ◌≤◌, List, [], ◌++◌, length, codes, cond, Bool, true, false, Ok, Err, Option, Some, None, refl, ap, sym, subst, ◌∙◌, arith, length-append}
use Rattle.std.proofs.Math.Dec.{ltb}
use Rattle.std.proofs.lemmas.Bool.{lt-ltb, le-ltb}
use Rattle.esql_ast.specs.declared.query.NameAt.{NameAt}
use Rattle.esql_io.specs.Files.{Held}
use Rattle.ndjson_load.specs.Mappings.{IsMapping}
use Rattle.ndjson_load.specs.Over.{BytesOf, Over}
use Rattle.ndjson_load.specs.declared.column.MappedColumn.{MappedColumn}
use Rattle.table_files.specs.declared.stop.Stop.{Stop}
use Rattle.table_files.specs.Asked.{AskedForFiles, the_mapping, the_rows}
use Rattle.table_files.specs.Catalog.{Holds, NamesTable, no_mapping, wide_mapping, no_rows, bad_mapping, crowded, table, StandsFor, folder_text, mapping_file, row_file}
use Rattle.table_files.specs.Halts.{Halt, absent, place_of}
use Rattle.table_files.specs.Reading.{ReadsFile, is_wide, ReadsOver, FindsFile, finds, lacks, FindsOver, ReadsColumns, columns_are, fault_is, too_many_are}
use Rattle.table_files.specs.Stops.{Says}
use Rattle.table_files.proofs.Documents.{columns_nowhere}
use Rattle.table_files.proofs.FilesRead.{over_weaker, over_never, holds_of, missing_of, found_of, lacking_of}
use Rattle.table_files.proofs.Stopped.{says_any, says_of}

-- the contents of the two files of a name alone, the longer of whose names is that of the mapping
abbrev pub two_files : Option (List ℕ) → List ℕ → Option (List ℕ) → Option (List ℕ) → BytesOf
two_files folder name mapped read = λ file. cond (ltb (length (row_file folder name)) (length file)) mapped read

pub two_rows : (folder : Option (List ℕ)) (name : List ℕ) (mapped read : Option (List ℕ)) → two_files folder name mapped read (row_file folder name) ≡ read
two_rows folder name mapped read = ap (λ (b : Bool). cond b mapped read) (le-ltb (length (row_file folder name)) (length (row_file folder name)) (omega arith))

pub two_mapping : (folder : Option (List ℕ)) (name : List ℕ) (mapped read : Option (List ℕ)) → two_files folder name mapped read (mapping_file folder name) ≡ mapped
two_mapping folder name mapped read =
    let before : ℕ = length (folder_text folder) in
    let long : length (mapping_file folder name) ≡ before + (length name + 13) =
    length-append (folder_text folder) (name ++ codes ".mapping.json") ∙ ap (λ n. before + n) (length-append name (codes ".mapping.json")) in
    let short : length (row_file folder name) ≡ before + (length name + 7) =
    length-append (folder_text folder) (name ++ codes ".ndjson") ∙ ap (λ n. before + n) (length-append name (codes ".ndjson")) in
    ap (λ (b : Bool). cond b mapped read) (lt-ltb (length (row_file folder name)) (length (mapping_file folder name)) (omega arith))

-- ---- both files of a name

abbrev Both : Option (List ℕ) → List ℕ → List ℕ → Bool → BytesOf → Type 0
Both folder name bytes found h = Holds h (mapping_file folder name) bytes × FindsFile h (row_file folder name) (Ok found)

both_some : (folder : Option (List ℕ)) (name bytes : List ℕ) (found : Bool) → length bytes ≤ 268435456 → (held : BytesOf) × Both folder name bytes found held
both_some folder name bytes true fits =
    (two_files folder name (Some bytes) (Some []), (record { is = two_mapping folder name (Some bytes) (Some []); fits = fits }, finds [] (two_rows folder name (Some bytes) (Some []))))
both_some folder name bytes false fits =
    (two_files folder name (Some bytes) None, (record { is = two_mapping folder name (Some bytes) None; fits = fits }, lacks (two_rows folder name (Some bytes) None)))

-- the mapping was read, and then the row file was looked for
pub over_both : (folder : Option (List ℕ)) (held now : Held) (name file named bytes : List ℕ) (read : Option (List ℕ)) (found : Bool) → now ≡ held → file ≡ mapping_file folder name → named ≡ row_file folder name
    → read ≡ Some bytes → ReadsOver held file (Ok read) → FindsOver now named (Ok found) → Over held (Both folder name bytes found)
over_both folder None now name file named bytes read found same is again whole reads sought =
    both_some folder name bytes found (holds_of reads.0 file bytes (subst (λ r. ReadsFile reads.0 file (Ok r)) whole reads.1)).fits
over_both folder (Some h) now name file named bytes read found same is again whole reads sought = (
  subst (λ f. Holds h f bytes) is (holds_of h file bytes (subst (λ r. ReadsFile h file (Ok r)) whole reads)),
  subst (λ f. FindsFile h f (Ok found)) again (subst (λ o. FindsOver o named (Ok found)) same sought),
)

-- ---- what the name stands for

pub over_nowhere : (held : Held) (file : List ℕ) (halt : Halt) → ReadsOver held file (Err halt) → place_of halt ≡ None
over_nowhere None file halt (h, is_wide large) = refl
over_nowhere (Some h) file halt (is_wide large) = refl

unread : (folder : Option (List ℕ)) (h : BytesOf) (policy : Bool) (entries : ℕ) (name : NameAt) (halt : Halt) → ReadsFile h (mapping_file folder name.name) (Err halt) → NamesTable folder h policy entries name (Err halt)
unread folder h policy entries name halt (is_wide large) = wide_mapping large

pub name_unread : (text : List ℕ) (folder : Option (List ℕ)) (held : Held) (policy : Bool) (entries : ℕ) (name : NameAt) (file : List ℕ) (stop : Stop) → file ≡ mapping_file folder name.name
    → Says [] (ReadsOver held file) (Err stop) → Says text (StandsFor folder held policy entries name) (Err stop)
name_unread text folder held policy entries name file stop is says =
    says_of text (ReadsOver held file) (StandsFor folder held policy entries name) stop
    (λ halt at. over_weaker held (λ h. ReadsFile h file (Err halt)) (λ h. NamesTable folder h policy entries name (Err halt))
    (λ h wide. unread folder h policy entries name halt (subst (λ f. ReadsFile h f (Err halt)) is wide)) at)
    (says_any text (ReadsOver held file) stop (over_nowhere held file) says)

pub name_missing : (folder : Option (List ℕ)) (held : Held) (policy : Bool) (entries : ℕ) (name : NameAt) (file : List ℕ) (read : Option (List ℕ)) → file ≡ mapping_file folder name.name → read ≡ None
    → ReadsOver held file (Ok read) → StandsFor folder held policy entries name (Err (absent policy name))
name_missing folder held policy entries name file read is none reads =
    over_weaker held (λ h. ReadsFile h file (Ok read)) (λ h. NamesTable folder h policy entries name (Err (absent policy name)))
    (λ h missing. no_mapping (subst (λ f. h f ≡ None) is (missing_of h file (subst (λ r. ReadsFile h file (Ok r)) none missing)))) reads

finds_not : (h : BytesOf) (file : List ℕ) (halt : Halt) → FindsFile h file (Err halt) → ⊥
finds_not h file halt found = elim found [ ]

-- a file that is looked for halts no name
pub name_unfound : (text : List ℕ) (folder : Option (List ℕ)) (held now : Held) (policy : Bool) (entries : ℕ) (name : NameAt) (file : List ℕ) (stop : Stop)
    → Says [] (FindsOver now file) (Err stop) → Says text (StandsFor folder held policy entries name) (Err stop)
name_unfound text folder held now policy entries name file stop says =
    says_of text (FindsOver now file) (StandsFor folder held policy entries name) stop
    (λ halt at. over_never now (λ h. FindsFile h file (Err halt)) (λ h. finds_not h file halt) at)
    (says_any text (FindsOver now file) stop (λ halt at. over_never now (λ h. FindsFile h file (Err halt)) (λ h. finds_not h file halt) at) says)

pub name_rowless : (folder : Option (List ℕ)) (held now : Held) (policy : Bool) (entries : ℕ) (name : NameAt) (file named bytes : List ℕ) (read : Option (List ℕ)) (found : Bool) → now ≡ held → file ≡ mapping_file folder name.name
    → named ≡ row_file folder name.name → read ≡ Some bytes → found ≡ false → ReadsOver held file (Ok read) → FindsOver now named (Ok found) → StandsFor folder held policy entries name (Err (absent policy name))
name_rowless folder held now policy entries name file named bytes read found same is again whole not_found reads sought =
    over_weaker held (Both folder name.name bytes false) (λ h. NamesTable folder h policy entries name (Err (absent policy name)))
    (λ h both. no_rows bytes both.0 (lacking_of h (row_file folder name.name) both.1))
    (over_both folder held now name.name file named bytes read false same is again whole reads (subst (λ f. FindsOver now named (Ok f)) not_found sought))

badly_mapped : (folder : Option (List ℕ)) (h : BytesOf) (policy : Bool) (entries : ℕ) (name : NameAt) (bytes rows : List ℕ) → Holds h (mapping_file folder name.name) bytes → h (row_file folder name.name) ≡ Some rows
    → (halt : Halt) → ReadsColumns bytes (mapping_file folder name.name) entries (Err halt) → NamesTable folder h policy entries name (Err halt)
badly_mapped folder h policy entries name bytes rows holds found halt (fault_is cause fault) = bad_mapping bytes rows cause holds found fault
badly_mapped folder h policy entries name bytes rows holds found halt (too_many_are columns mapping wide) = crowded bytes rows columns holds found mapping wide

pub name_bad : (text : List ℕ) (folder : Option (List ℕ)) (held now : Held) (policy : Bool) (entries : ℕ) (name : NameAt) (file named shown bytes also : List ℕ) (read : Option (List ℕ)) (found : Bool) (stop : Stop) → now ≡ held
    → file ≡ mapping_file folder name.name → named ≡ row_file folder name.name → shown ≡ mapping_file folder name.name → read ≡ Some bytes → also ≡ bytes → found ≡ true
    → ReadsOver held file (Ok read) → FindsOver now named (Ok found) → Says [] (ReadsColumns also shown entries) (Err stop) → Says text (StandsFor folder held policy entries name) (Err stop)
name_bad text folder held now policy entries name file named shown bytes also read found stop same is again of whole copied is_found reads sought says =
    says_of text (ReadsColumns also shown entries) (StandsFor folder held policy entries name) stop
    (λ halt at. over_weaker held (Both folder name.name bytes true) (λ h. NamesTable folder h policy entries name (Err halt))
    (λ h both. let (rows, there) = found_of h (row_file folder name.name) both.1 in badly_mapped folder h policy entries name bytes rows both.0 there halt
    (subst (λ f. ReadsColumns bytes f entries (Err halt)) of (subst (λ b. ReadsColumns b shown entries (Err halt)) copied at)))
    (over_both folder held now name.name file named bytes read true same is again whole reads (subst (λ f. FindsOver now named (Ok f)) is_found sought)))
    (says_any text (ReadsColumns also shown entries) stop (columns_nowhere also shown entries) says)

mapping_of : (bytes file : List ℕ) (entries : ℕ) (columns : List MappedColumn) → ReadsColumns bytes file entries (Ok columns) → IsMapping bytes columns × (entries + 1 + length columns ≤ 100000)
mapping_of bytes file entries columns (columns_are _ mapping few) = (mapping, few)

pub name_table : (folder : Option (List ℕ)) (held now : Held) (policy : Bool) (entries : ℕ) (name : NameAt) (file named shown bytes also copy : List ℕ) (read : Option (List ℕ)) (found : Bool) (columns : List MappedColumn) → now ≡ held
    → file ≡ mapping_file folder name.name → named ≡ row_file folder name.name → read ≡ Some bytes → also ≡ bytes → found ≡ true → copy ≡ name.name
    → ReadsOver held file (Ok read) → FindsOver now named (Ok found) → ReadsColumns also shown entries (Ok columns)
    → StandsFor folder held policy entries name (Ok (record { name = copy; span = name.span; policy = policy; columns = columns }))
name_table folder held now policy entries name file named shown bytes also copy read found columns same is again whole copied is_found named_so reads sought maps =
    subst (λ (n : List ℕ). StandsFor folder held policy entries name (Ok (record { name = n; span = name.span; policy = policy; columns = columns }))) (sym named_so)
    (over_weaker held (Both folder name.name bytes true) (λ h. NamesTable folder h policy entries name (Ok (record { name = name.name; span = name.span; policy = policy; columns = columns })))
    (λ h both. let (rows, there) = found_of h (row_file folder name.name) both.1 in
    let of = mapping_of bytes shown entries columns (subst (λ b. ReadsColumns b shown entries (Ok columns)) copied maps) in
    table bytes rows columns both.0 there of.0 of.1)
    (over_both folder held now name.name file named bytes read true same is again whole reads (subst (λ f. FindsOver now named (Ok f)) is_found sought)))

-- the place of a name that is no table's
pub placed : (policy : Bool) (name : NameAt) → place_of (absent policy name) ≡ Some name.span
placed true name = refl
placed false name = refl

-- ---- the files that are asked for of a name

pub asks_mapping : (folder : Option (List ℕ)) (held : Held) (name file : List ℕ) → file ≡ mapping_file folder name → (asked : List ℕ) → asked ≡ file → AskedForFiles folder held name asked
asks_mapping folder held name file is asked same = subst (AskedForFiles folder held name) (sym (same ∙ is)) the_mapping

pub asks_rows : (folder : Option (List ℕ)) (held : Held) (name file named bytes : List ℕ) (read : Option (List ℕ)) → file ≡ mapping_file folder name → named ≡ row_file folder name → read ≡ Some bytes → ReadsOver held file (Ok read)
    → (asked : List ℕ) → asked ≡ named → AskedForFiles folder held name asked
asks_rows folder held name file named bytes read is again whole reads asked same =
    subst (AskedForFiles folder held name) (sym (same ∙ again))
    (the_rows bytes (over_weaker held (λ h. ReadsFile h file (Ok read)) (λ h. Holds h (mapping_file folder name) bytes)
    (λ h at. subst (λ f. Holds h f bytes) is (holds_of h file bytes (subst (λ r. ReadsFile h file (Ok r)) whole at))) reads))
