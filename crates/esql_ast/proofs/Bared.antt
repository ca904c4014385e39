-- Numbering a query changes nothing but the numbers of its nodes.
use Rattle.std.proofs.Common.{◌≡◌, ℕ, ◌+◌, List, [], ◌∷◌, map, All, Option, Some, None, refl, sym, ap, subst, ◌∙◌}
use Rattle.std.proofs.lemmas.List.Elements.{All-nil, All-cons, All-head, All-tail}
use Rattle.std.specs.Prelude.{option_map}
use denote.Hole.Holds.{Such}
use Rattle.esql_ast.specs.declared.expr.Expr.{Expr}
use Rattle.esql_ast.specs.declared.expr.Form.{Form}
use Rattle.esql_ast.specs.declared.expr.Form.TheVariants as form
use Rattle.esql_ast.specs.declared.expr.Form.TheBlock.{the_family, member-Form, member-Expr}
use Rattle.esql_ast.specs.declared.expr.Form.TheOpen.{Expr-F, Form-F, Constant, List as Listed, Column, Group, Call, Minus, Not, Binary, Within, Like, IsNull, Cast}
use Rattle.esql_ast.specs.declared.expr.Form.TheViews.{roll-Form, roll-Expr, out-Form, outs-Constant, outs-List, outs-Column, outs-Group, outs-Call, outs-Minus, outs-Not, outs-Binary, outs-Within, outs-Like, outs-IsNull, outs-Cast}
use Rattle.esql_ast.specs.declared.expr.Form.TheFolds.{claims, map-Form, map-Expr, fold_out-Form, fold-roll-Form, fold-roll-Expr, ind-Expr}
use Rattle.esql_ast.specs.declared.query.Condition.{Condition}
use Rattle.esql_ast.specs.declared.query.Field.{Field}
use Rattle.esql_ast.specs.declared.query.StatsField.{StatsField}
use Rattle.esql_ast.specs.declared.query.SortKey.{SortKey}
use Rattle.esql_ast.specs.declared.query.Command.{Command}
use Rattle.esql_ast.specs.declared.query.CommandKind.{CommandKind}
use Rattle.esql_ast.specs.declared.query.CommandKind.TheVariants.{Filter, Eval, Keep, Drop, Rename, Sort, Limit, Expand, Stats, Dissect, Grok, Enrich, Join}
use Rattle.esql_ast.specs.declared.query.SourceCommand.{SourceCommand}
use Rattle.esql_ast.specs.declared.query.SourceCommand.TheVariants.{Tables, OneRow}
use Rattle.esql_ast.specs.Bare.{bare_form, bare_own, bare, bare_in, bare_field, bare_condition, bare_stats, bare_key, bare_kind, bare_command, bare_source, bare_query}
use Rattle.esql_ast.specs.Laws.{as_it_was}
use Rattle.esql_ast.specs.Numbering.{Numbering, node_id, numbered_all, numbering_in, own_before_inner, numbering_of, numbering_of_form, numbered, numbered_form, size_of, numbering_of_field, numbering_of_condition, numbering_of_stats, numbering_of_key, numbering_of_command, size_of_stats, size_of_source, numbered_kind, numbered_source, numbered_query}

-- numbered from any number on, a part is the same without its numbers
abbrev Same : {Part : Type 0} → (Part → Part) → Part → Numbering Part → Type 0
Same bared part numbering = (node : ℕ) → bared (numbering.at node) ≡ bared part

abbrev ExprSame : Expr → Type 0
ExprSame expr = Same bare expr (numbering_of expr)

abbrev FormSame : Form → Type 0
FormSame one = Same bare_in one (numbering_of_form one)

all_same : {Part : Type 0} (bared : Part → Part) (numbering : Part → Numbering Part) (parts : List Part) → All (λ (part : Part). Same bared part (numbering part)) parts
    → (node : ℕ) → map bared (numbered_all (map numbering parts) node) ≡ map bared parts
all_same bared numbering [] all node = refl
all_same {Part} bared numbering (part ∷ parts) all node =
    let Q : Part → Type 0 = λ each_part. Same bared each_part (numbering each_part) in
    ap (λ (one : Part). one ∷ map bared (numbered_all (map numbering parts) (node + (numbering part).size))) (All-head Q part parts all node)
    ∙ ap (λ (rest : List Part). bared part ∷ rest) (all_same bared numbering parts (All-tail Q part parts all) (node + (numbering part).size))

-- ---- expressions

abbrev GoodForm : Type 0
GoodForm = Such the_family (claims FormSame ExprSame) member-Form

abbrev GoodExpr : Type 0
GoodExpr = Such the_family (claims FormSame ExprSame) member-Expr

abbrev the_expr : GoodExpr → Expr
the_expr good = good.0

abbrev the_form : GoodForm → Form
the_form good = good.0

abbrev layer_of : Form-F GoodForm GoodExpr → Form-F Form Expr
layer_of = map-Form GoodForm GoodExpr Form Expr the_form the_expr

all_good : (goods : List GoodExpr) → All ExprSame (map the_expr goods)
all_good [] = All-nil ExprSame
all_good (good ∷ goods) = All-cons ExprSame (the_expr good) (map the_expr goods) good.1 (all_good goods)

-- a form without its numbers, by one layer of it
bared_layer : (layer : Form-F Form Expr) → bare_in (roll-Form layer) ≡ bare_form (map-Form Form Expr Form Expr bare_in bare layer)
bared_layer layer = fold-roll-Form Form Expr bare_form bare_own layer

bared_form : (one : Form) (layer : Form-F Form Expr) → out-Form one ≡ layer → bare_in one ≡ bare_form (map-Form Form Expr Form Expr bare_in bare layer)
bared_form one layer is =
    fold_out-Form Form Expr bare_form bare_own one ∙ ap (λ (these : Form-F Form Expr). bare_form (map-Form Form Expr Form Expr bare_in bare these)) is

carried : (layer : Form-F Form Expr)
    → ((node : ℕ) → bare_in ((numbering_in (map-Form Form Expr (Numbering Form) (Numbering Expr) numbering_of_form numbering_of layer)).at node)
    ≡ bare_form (map-Form Form Expr Form Expr bare_in bare layer))
    → FormSame (roll-Form layer)
carried layer at node =
    ap (λ (n : Numbering Form). bare_in (n.at node)) (fold-roll-Form (Numbering Form) (Numbering Expr) numbering_in own_before_inner layer)
    ∙ at node
    ∙ sym (bared_layer layer)

form_same : (layer : Form-F GoodForm GoodExpr) → FormSame (roll-Form (layer_of layer))
form_same (Constant cell kind) = carried (Constant cell kind) (λ node. bared_form _ _ (outs-Constant cell kind))
form_same (Listed values) = carried (Listed values) (λ node. bared_form _ _ (outs-List values))
form_same (Column name) = carried (Column name) (λ node. bared_form _ _ (outs-Column name))
form_same (Group inner) = carried (layer_of (Group inner)) (λ node. bared_form _ _ (outs-Group (numbered inner.0 node)) ∙ ap form.Group (inner.1 node))
form_same (Call function args star) =
    let exprs : List Expr = map the_expr args in
    carried (layer_of (Call function args star))
    (λ node. bared_form _ _ (outs-Call function (numbered_all (map numbering_of exprs) node) star)
    ∙ ap (λ these. form.Call function these star) (all_same bare numbering_of exprs (all_good args) node))
form_same (Minus arg) = carried (layer_of (Minus arg)) (λ node. bared_form _ _ (outs-Minus (numbered arg.0 node)) ∙ ap form.Minus (arg.1 node))
form_same (Not arg) = carried (layer_of (Not arg)) (λ node. bared_form _ _ (outs-Not (numbered arg.0 node)) ∙ ap form.Not (arg.1 node))
form_same (Binary op left right) =
    carried (layer_of (Binary op left right))
    (λ node. bared_form _ _ (outs-Binary op (numbered left.0 node) (numbered right.0 (node + size_of left.0)))
    ∙ ap (λ this. form.Binary op this (bare (numbered right.0 (node + size_of left.0)))) (left.1 node)
    ∙ ap (λ that. form.Binary op (bare left.0) that) (right.1 (node + size_of left.0)))
form_same (Within negated left items) =
    let exprs : List Expr = map the_expr items in
    carried (layer_of (Within negated left items))
    (λ node. bared_form _ _ (outs-Within negated (numbered left.0 node) (numbered_all (map numbering_of exprs) (node + size_of left.0)))
    ∙ ap (λ this. form.Within negated this (map bare (numbered_all (map numbering_of exprs) (node + size_of left.0)))) (left.1 node)
    ∙ ap (λ these. form.Within negated (bare left.0) these) (all_same bare numbering_of exprs (all_good items) (node + size_of left.0)))
form_same (Like negated regex left pattern) =
    carried (layer_of (Like negated regex left pattern))
    (λ node. bared_form _ _ (outs-Like negated regex (numbered left.0 node) pattern) ∙ ap (λ this. form.Like negated regex this pattern) (left.1 node))
form_same (IsNull negated arg) =
    carried (layer_of (IsNull negated arg)) (λ node. bared_form _ _ (outs-IsNull negated (numbered arg.0 node)) ∙ ap (form.IsNull negated) (arg.1 node))
form_same (Cast arg kind) = carried (layer_of (Cast arg kind)) (λ node. bared_form _ _ (outs-Cast (numbered arg.0 node) kind) ∙ ap (λ this. form.Cast this kind) (arg.1 node))

own_same : (own : Expr-F Form Expr) → FormSame own.form → ExprSame (roll-Expr own)
own_same own inner node =
    ap (λ (n : Numbering Expr). bare (n.at node)) (fold-roll-Expr (Numbering Form) (Numbering Expr) numbering_in own_before_inner own)
    ∙ fold-roll-Expr Form Expr bare_form bare_own (record { node = node_id node; span = own.span; form = numbered_form own.form (node + 1) })
    ∙ ap (λ (this : Form). roll-Expr (record { node = node_id 0; span = own.span; form = this })) (inner (node + 1))
    ∙ sym (fold-roll-Expr Form Expr bare_form bare_own own)

expr_same : (expr : Expr) → ExprSame expr
expr_same =
    ind-Expr FormSame ExprSame (λ layer goods is. let P : Form-F Form Expr → Type 0 = λ these. FormSame (roll-Form these) in subst P is (form_same goods))
    (λ own good is. let P : Expr-F Form Expr → Type 0 = λ this. ExprSame (roll-Expr this) in subst P is (own_same (map-Expr GoodForm GoodExpr Form Expr the_form the_expr good) good.form.1))

-- ---- commands

each_same : {Part : Type 0} (bared : Part → Part) (numbering : Part → Numbering Part) → ((part : Part) → Same bared part (numbering part)) → (parts : List Part)
    → All (λ (part : Part). Same bared part (numbering part)) parts
each_same {Part} bared numbering same [] = All-nil (λ (part : Part). Same bared part (numbering part))
each_same {Part} bared numbering same (part ∷ parts) =
    All-cons (λ (one : Part). Same bared one (numbering one)) part parts (same part) (each_same bared numbering same parts)

row_same : {Part : Type 0} (bared : Part → Part) (numbering : Part → Numbering Part) → ((part : Part) → Same bared part (numbering part))
    → (parts : List Part) (node : ℕ) → map bared (numbered_all (map numbering parts) node) ≡ map bared parts
row_same bared numbering same parts = all_same bared numbering parts (each_same bared numbering same parts)

field_same : (field : Field) → Same bare_field field (numbering_of_field field)
field_same field node = ap (λ (expr : Expr). record { name = field.name; expr = expr; span = field.span }) (expr_same field.expr node)

key_same : (key : SortKey) → Same bare_key key (numbering_of_key key)
key_same key node = ap (λ (expr : Expr). record { expr = expr; descending = key.descending; nulls_first = key.nulls_first }) (expr_same key.expr node)

condition_same : (condition : Option Condition) (node : ℕ) → option_map bare_condition ((numbering_of_condition condition).at node) ≡ option_map bare_condition condition
condition_same None node = refl
condition_same (Some condition) node = ap (λ (expr : Expr). Some (record { node = node_id 0; expr = expr })) (expr_same condition.expr (node + 1))

stats_same : (stats : StatsField) → Same bare_stats stats (numbering_of_stats stats)
stats_same stats node =
    ap (λ (field : Field). record { field = field; condition = option_map bare_condition ((numbering_of_condition stats.condition).at (node + size_of stats.field.expr)) }) (field_same stats.field node)
    ∙ ap (λ (condition : Option Condition). record { field = bare_field stats.field; condition = condition }) (condition_same stats.condition (node + size_of stats.field.expr))

fields_same : (fields : List Field) (node : ℕ) → map bare_field (numbered_all (map numbering_of_field fields) node) ≡ map bare_field fields
fields_same = row_same bare_field numbering_of_field field_same

kind_same : (kind : CommandKind) (node : ℕ) → bare_kind (numbered_kind kind node) ≡ bare_kind kind
kind_same (Filter condition) node = ap Filter (expr_same condition node)
kind_same (Eval fields) node = ap Eval (fields_same fields node)
kind_same (Keep patterns) node = refl
kind_same (Drop patterns) node = refl
kind_same (Rename pairs) node = refl
kind_same (Sort keys) node = ap Sort (row_same bare_key numbering_of_key key_same keys node)
kind_same (Limit count) node = refl
kind_same (Expand column) node = refl
kind_same (Stats fields groups) node =
    ap (λ these. Stats these (map bare_field (numbered_all (map numbering_of_field groups) (node + size_of_stats fields)))) (row_same bare_stats numbering_of_stats stats_same fields node)
    ∙ ap (λ these. Stats (map bare_stats fields) these) (fields_same groups (node + size_of_stats fields))
kind_same (Dissect input pattern separator) node = ap (λ this. Dissect this pattern separator) (expr_same input node)
kind_same (Grok input pattern) node = ap (λ this. Grok this pattern) (expr_same input node)
kind_same (Enrich policy on fields) node = refl
kind_same (Join table on) node = refl

command_same : (command : Command) → Same bare_command command (numbering_of_command command)
command_same command node = ap (λ (kind : CommandKind). record { node = node_id 0; span = command.span; kind = kind }) (kind_same command.kind (node + 1))

source_same : (source : SourceCommand) → bare_source (numbered_source source) ≡ bare_source source
source_same (Tables node span tables) = refl
source_same (OneRow node span fields) = ap (OneRow (node_id 0) span) (fields_same fields 1)

pub numbering_keeps_all : (source : SourceCommand) (commands : List Command) → bare_query (numbered_query source commands) ≡ bare_query (as_it_was source commands)
numbering_keeps_all source commands =
    ap (λ (bared : SourceCommand). record { source = bared; commands = map bare_command (numbered_query source commands).commands; nodes = 0 }) (source_same source)
    ∙ ap (λ (bared : List Command). record { source = bare_source source; commands = bared; nodes = 0 })
    (row_same bare_command numbering_of_command command_same commands (size_of_source source))
