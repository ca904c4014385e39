-- Parts of STATS that are written in turn, each of which gives something for the step that makes the groups.
use Rattle.std.proofs.Common.{◌≡◌, ℕ, ◌+◌, List, [], ◌∷◌, ◌++◌, length, Option, refl, ap, sym, subst, append_assoc, ◌∙◌, arith}
use Rattle.std.specs.List.{flat_map}
use Rattle.std.specs.Option.{option_copied}
use Rattle.std.proofs.lemmas.List.{append-nil, length-append}
use Rattle.esql_ast.specs.declared.query.Field.{Field}
use Rattle.esql_ast.specs.declared.query.StatsField.{StatsField}
use Rattle.esql_ast.specs.Nodes.{nodes_of_stats, nodes_of_field}
use Rattle.esql_plan.specs.declared.plan.OutColumn.{OutColumn}
use Rattle.row_semantics.specs.Regulars.{Regular}
use Rattle.query_semantics.specs.Calls.{AggregateCall, calls_of}
use Rattle.query_semantics.specs.Writings.{Writing, typed_in, write_input, input_of}
use Rattle.query_semantics.specs.WrittenStats.{Flag, CallInput, GroupInput, write_call, write_calls, call_input, function_of_call, inputs_of_calls, write_before, inputs_before, write_all_before, all_inputs, write_groups, group_inputs}
use Rattle.expression_analysis.specs.declared.error.AnalyzeError.{AnalyzeError}
use Rattle.stats_writing.specs.declared.calls.Call.{Call}
use Rattle.stats_writing.specs.CallsSeen.{call_of, nodes_of_argument, size_of_call, size_of_calls}
use Rattle.stats_writing.specs.Parts.{Judgement, OneIsRefused, judged_outside, judged_argument, judged_arguments, judged_before, judged_groups, regulars_of_argument, regulars_of_arguments, regulars_before}
use Rattle.plan_writing.specs.Regulars.{regulars_of_field}
use Rattle.plan_writing.specs.Writings.{HasRoom}
use Rattle.plan_writing.proofs.Heard.{IsWithin, within_front, within_back}
use Rattle.stats_writing.proofs.CallsRegulars.{within_then}
use Rattle.stats_writing.proofs.OneRefused.{refused_front, refused_back}
use Rattle.plan_writing.proofs.PlainRooms.{less_room, input_room}
use Rattle.stats_writing.proofs.StatsRooms.{call_room, before_room}

pub record Series (Item Out : Type 0) : Type 0 where
  pub write : Item → Writing → Writing
  pub writes : List Item → Writing → Writing
  pub gives : Item → Writing → List Out
  pub all_give : List Item → Writing → List Out
  pub size : Item → ℕ
  pub sizes : List Item → ℕ
  pub judged : Item → List Judgement
  pub all_judged : List Item → List Judgement
  pub regulars : Item → List Regular
  pub all_regulars : List Item → List Regular
  pub writes_none : (writing : Writing) → writes [] writing ≡ writing
  pub writes_more : (item : Item) (items : List Item) (writing : Writing) → writes (item ∷ items) writing ≡ writes items (write item writing)
  pub gives_none : (writing : Writing) → all_give [] writing ≡ []
  pub gives_more : (item : Item) (items : List Item) (writing : Writing) → all_give (item ∷ items) writing ≡ gives item writing ++ all_give items (write item writing)
  pub sizes_more : (item : Item) (items : List Item) → sizes (item ∷ items) ≡ size item + sizes items
  pub judged_more : (item : Item) (items : List Item) → all_judged (item ∷ items) ≡ judged item ++ all_judged items
  pub regulars_more : (item : Item) (items : List Item) → all_regulars (item ∷ items) ≡ regulars item ++ all_regulars items
  pub room : (item : Item) (writing : Writing) (more : ℕ) → HasRoom writing (size item + more) → HasRoom (write item writing) more

-- where the rest of the items is left to be written
pub record SeriesAlong {Item Out : Type 0} (series : Series Item Out) (items : List Item) (start : Writing) (before : List Out) (rest : List Item) (made : Writing) (given : List Out) : Type 0 where
  pub written : series.writes rest made ≡ series.writes items start
  pub gives : given ++ series.all_give rest made ≡ before ++ series.all_give items start
  pub visible : made.visible ≡ start.visible
  pub room : HasRoom made (series.sizes rest)
  pub refusal : (error : AnalyzeError) → OneIsRefused (series.all_judged rest) error → OneIsRefused (series.all_judged items) error
  pub within : IsWithin (series.all_regulars rest) (series.all_regulars items)

module _ {Item Out : Type 0} (series : Series Item Out) (items : List Item) (start : Writing) (before : List Out) where
  pub series_start : HasRoom start (series.sizes items) → SeriesAlong series items start before items start before
  series_start room = record { written = refl; gives = refl; visible = refl; room = room; refusal = λ error refused. refused; within = λ span noted one. one }

  pub item_room : (item : Item) (rest : List Item) (made : Writing) (given : List Out) → SeriesAlong series items start before (item ∷ rest) made given → HasRoom made (series.size item)
  item_room item rest made given along = less_room made (series.sizes (item ∷ rest)) (series.size item) (let more = series.sizes_more item rest in omega (arith, more)) along.room

  pub item_refused : (item : Item) (rest : List Item) (made : Writing) (given : List Out) (error : AnalyzeError) → SeriesAlong series items start before (item ∷ rest) made given
      → OneIsRefused (series.judged item) error → OneIsRefused (series.all_judged items) error
  item_refused item rest made given error along refused =
      along.refusal error (subst (λ (these : List Judgement). OneIsRefused these error) (sym (series.judged_more item rest)) (refused_front (series.judged item) (series.all_judged rest) error refused))

  pub item_within : (item : Item) (rest : List Item) (made : Writing) (given : List Out) → SeriesAlong series items start before (item ∷ rest) made given → IsWithin (series.regulars item) (series.all_regulars items)
  item_within item rest made given along =
      within_then (series.regulars item) (series.all_regulars (item ∷ rest)) (series.all_regulars items)
      (subst (λ (these : List Regular). IsWithin (series.regulars item) these) (sym (series.regulars_more item rest)) (within_front (series.regulars item) (series.all_regulars rest))) along.within

  pub series_more : (item : Item) (rest : List Item) (made new : Writing) (given more : List Out) → SeriesAlong series items start before (item ∷ rest) made given
      → new ≡ series.write item made → new.visible ≡ made.visible → more ≡ given ++ series.gives item made → SeriesAlong series items start before rest new more
  series_more item rest made new given more along is shown pushed = record {
    written = ap (series.writes rest) is ∙ sym (series.writes_more item rest made) ∙ along.written;
    gives = (λ i. pushed i ++ series.all_give rest (is i)) ∙ append_assoc given (series.gives item made) (series.all_give rest (series.write item made))
        ∙ ap (λ (these : List Out). given ++ these) (sym (series.gives_more item rest made)) ∙ along.gives;
    visible = shown ∙ along.visible;
    room = subst (λ (writing : Writing). HasRoom writing (series.sizes rest)) (sym is)
        (series.room item made (series.sizes rest) (subst (HasRoom made) (series.sizes_more item rest) along.room));
    refusal = λ error refused. along.refusal error (subst (λ (these : List Judgement). OneIsRefused these error) (sym (series.judged_more item rest)) (refused_back (series.judged item) (series.all_judged rest) error refused));
    within = within_then (series.all_regulars rest) (series.all_regulars (item ∷ rest)) (series.all_regulars items)
        (subst (λ (these : List Regular). IsWithin (series.all_regulars rest) these) (sym (series.regulars_more item rest)) (within_back (series.regulars item) (series.all_regulars rest))) along.within;
  }

  pub series_written : (made : Writing) (given : List Out) → SeriesAlong series items start before [] made given → made ≡ series.writes items start
  series_written made given along = sym (series.writes_none made) ∙ along.written

  pub series_given : (made : Writing) (given : List Out) → SeriesAlong series items start before [] made given → given ≡ before ++ series.all_give items start
  series_given made given along = sym (append-nil given) ∙ ap (λ (these : List Out). given ++ these) (sym (series.gives_none made)) ∙ along.gives

-- the calls of a field, the fields, and what rows are grouped by ----------------------------------------------------------------

abbrev pub call_gives : Option Flag → AggregateCall → Writing → CallInput
call_gives flag call writing = record { node = call.node; function = function_of_call flag call.function; input = call_input flag call.argument writing }

abbrev pub calls_series : Option Flag → List OutColumn → Series AggregateCall CallInput
calls_series flag columns = record {
  write = λ call. write_call flag call.argument;
  writes = write_calls flag;
  gives = λ call writing. call_gives flag call writing ∷ [];
  all_give = inputs_of_calls flag;
  size = size_of_call;
  sizes = size_of_calls;
  judged = λ call. judged_argument columns call.argument;
  all_judged = judged_arguments columns;
  regulars = λ call. regulars_of_argument call.argument;
  all_regulars = regulars_of_arguments;
  writes_none = λ writing. refl;
  writes_more = λ call calls writing. refl;
  gives_none = λ writing. refl;
  gives_more = λ call calls writing. refl;
  sizes_more = λ call calls. refl;
  judged_more = λ call calls. refl;
  regulars_more = λ call calls. refl;
  room = λ call writing more room. less_room (write_call flag call.argument writing) (1 + more) more (omega arith) (call_room flag call writing more room);
}

abbrev pub fields_series : List OutColumn → Series StatsField CallInput
fields_series columns = record {
  write = write_before;
  writes = write_all_before;
  gives = inputs_before;
  all_give = all_inputs;
  size = λ stats. length (nodes_of_stats stats);
  sizes = λ fields. length (flat_map nodes_of_stats fields);
  judged = judged_before columns;
  all_judged = flat_map (judged_before columns);
  regulars = regulars_before;
  all_regulars = flat_map regulars_before;
  writes_none = λ writing. refl;
  writes_more = λ stats fields writing. refl;
  gives_none = λ writing. refl;
  gives_more = λ stats fields writing. refl;
  sizes_more = λ stats fields. length-append (nodes_of_stats stats) (flat_map nodes_of_stats fields);
  judged_more = λ stats fields. refl;
  regulars_more = λ stats fields. refl;
  room = λ stats writing more room. less_room (write_before stats writing) (length (calls_of stats.field.expr) + more) more (omega arith) (before_room stats writing more room);
}

abbrev pub group_gives : Field → Writing → GroupInput
group_gives group writing = record { id = input_of writing group.expr; kind = (typed_in writing group.expr).kind }

abbrev pub groups_series : List OutColumn → Series Field GroupInput
groups_series columns = record {
  write = λ group writing. write_input writing group.expr;
  writes = write_groups;
  gives = λ group writing. group_gives group writing ∷ [];
  all_give = group_inputs;
  size = λ group. length (nodes_of_field group);
  sizes = λ groups. length (flat_map nodes_of_field groups);
  judged = λ group. judged_outside columns group.expr ∷ [];
  all_judged = judged_groups columns;
  regulars = regulars_of_field;
  all_regulars = flat_map regulars_of_field;
  writes_none = λ writing. refl;
  writes_more = λ group groups writing. refl;
  gives_none = λ writing. refl;
  gives_more = λ group groups writing. refl;
  sizes_more = λ group groups. length-append (nodes_of_field group) (flat_map nodes_of_field groups);
  judged_more = λ group groups. refl;
  regulars_more = λ group groups. refl;
  room = λ group. input_room group.expr;
}

-- room for a call is room for its argument
pub less_argument : (call : Call) (writing : Writing) → HasRoom writing (size_of_call (call_of call)) → HasRoom writing (length (nodes_of_argument (option_copied call.argument)))
less_argument call writing room = less_room writing (size_of_call (call_of call)) (length (nodes_of_argument (option_copied call.argument))) (omega arith) room
