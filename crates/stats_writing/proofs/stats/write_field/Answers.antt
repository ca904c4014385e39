use Rattle.std.proofs.Common.{◌≡◌, List, length, ap, ◌∙◌, arith}
use Rattle.row_semantics.specs.declared.call.CallColumn.{CallColumn}
use Rattle.row_semantics.specs.Typed.{typed_of}
use Rattle.query_semantics.specs.Calls.{AggregateCall, calls_of}
use Rattle.query_semantics.specs.WrittenStats.{call_columns}
use Rattle.stats_writing.specs.declared.calls.Call.{Call}
use Rattle.stats_writing.specs.CallsSeen.{seen_calls}
use Rattle.plan_writing.specs.Writings.{seen}
use Rattle.stats_writing.proofs.InputsWritten.{field_written, columns_counted, calls_counted, expr_has_room, next_has_room}
use Rattle.stats_writing.proofs.stats.write_field.Goals as goal

pub call_columns-requires : goal.call_columns-requires
call_columns-requires g c =
    let calls = ap (λ (items : List Call). seen_calls items) c.deref.ensures.value ∙ c.in_ok-found.ensures.calls in
    let count = calls_counted c.deref.result.now (calls_of c.args.stats.now.field.expr) calls in
    omega (arith, count, c.requires.few)

pub type_field-requires : goal.type_field-requires
type_field-requires g c = expr_has_room c.args.stats.now (seen c.args.behind.writing) c.requires.room

pub add_field-requires-clause-room : goal.add_field-requires-clause-room
add_field-requires-clause-room g c = next_has_room c.args.stats.now (seen c.args.behind.writing) (seen c.in_ok-made.made.writing) c.requires.room c.in_ok-made.ensures.seen

pub returns-clause-written : goal.returns-clause-written
returns-clause-written g c =
    let text = c.args.text.now in
    let before = c.args.before.now in
    let behind = c.args.behind in
    let stats = c.args.stats.now in
    let old = behind.writing in
    let calls = ap (λ (items : List Call). seen_calls items) c.deref.ensures.value ∙ c.in_ok-found.ensures.calls in
    let columns : c.as_slice.result.now ≡ call_columns behind.number (calls_of stats.field.expr) = c.as_slice.ensures ∙ c.in_ok-calls.ensures ∙ ap (call_columns behind.number) calls in
    let typed = c.in_ok-made.ensures.typed
    ∙ ap (λ (these : List CallColumn). typed_of stats.field.expr (record { columns = before; calls = these }) (length old.patterns.whole) (length old.patterns.free)) columns in
    field_written text before behind.number stats (seen old) (seen c.in_ok-made.made.writing) (seen c.in_ok-writing.writing) c.in_ok-made.made.typed typed c.in_ok-made.ensures.seen c.in_ok-writing.ensures

pub returns-clause-number : goal.returns-clause-number
returns-clause-number g c =
    let behind = c.args.behind in
    let expr = c.args.stats.now.field.expr in
    let calls = ap (λ (items : List Call). seen_calls items) c.deref.ensures.value ∙ c.in_ok-found.ensures.calls in
    let count = ap (λ (these : List CallColumn). length these) c.in_ok-calls.ensures ∙ columns_counted behind.number (seen_calls c.deref.result.now) ∙ ap (λ (these : List AggregateCall). length these) calls in
    omega (arith, count, c.len.ensures)

pub overflow_cast-result : goal.overflow_cast-result
overflow_cast-result g c =
    let behind = c.args.behind in
    let calls = ap (λ (items : List Call). seen_calls items) c.deref.ensures.value ∙ c.in_ok-found.ensures.calls in
    let count = ap (λ (these : List CallColumn). length these) c.in_ok-calls.ensures ∙ columns_counted behind.number (seen_calls c.deref.result.now) ∙ ap (λ (these : List AggregateCall). length these) calls in
    omega (arith, count, c.len.ensures, c.requires.few)

pub overflow_add-result : goal.overflow_add-result
overflow_add-result g c =
    let behind = c.args.behind in
    let calls = ap (λ (items : List Call). seen_calls items) c.deref.ensures.value ∙ c.in_ok-found.ensures.calls in
    let count = ap (λ (these : List CallColumn). length these) c.in_ok-calls.ensures ∙ columns_counted behind.number (seen_calls c.deref.result.now) ∙ ap (λ (these : List AggregateCall). length these) calls in
    omega (arith, count, c.len.ensures, c.requires.few)
