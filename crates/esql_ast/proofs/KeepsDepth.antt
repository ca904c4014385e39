-- A query that is numbered is as deep as it was.
use Rattle.std.proofs.Common.{◌≡◌, ℕ, ◌+◌, max, List, [], ◌∷◌, map, length, All, Option, Some, None, refl, sym, ap, subst, ◌∙◌, arith}
use Rattle.std.proofs.lemmas.List.Elements.{All-nil, All-cons, All-head, All-tail}
use denote.Hole.Holds.{Such}
use Rattle.esql_ast.specs.declared.expr.Expr.{Expr}
use Rattle.esql_ast.specs.declared.expr.Form.{Form}
use Rattle.esql_ast.specs.declared.expr.Form.TheBlock.{the_family, member-Form, member-Expr}
use Rattle.esql_ast.specs.declared.expr.Form.TheOpen.{Expr-F, Form-F, Constant, List as Listed, Column, Group, Call, Minus, Not, Binary, Within, Like, IsNull, Cast}
use Rattle.esql_ast.specs.declared.expr.Form.TheViews.{roll-Form, roll-Expr}
use Rattle.esql_ast.specs.declared.expr.Form.TheFolds.{claims, map-Form, map-Expr, fold-roll-Form, fold-roll-Expr, ind-Expr}
use Rattle.esql_ast.specs.declared.query.Condition.{Condition}
use Rattle.esql_ast.specs.declared.query.Field.{Field}
use Rattle.esql_ast.specs.declared.query.StatsField.{StatsField}
use Rattle.esql_ast.specs.declared.query.SortKey.{SortKey}
use Rattle.esql_ast.specs.declared.query.Command.{Command}
use Rattle.esql_ast.specs.declared.query.CommandKind.{CommandKind}
use Rattle.esql_ast.specs.declared.query.CommandKind.TheVariants.{Filter, Eval, Keep, Drop, Rename, Sort, Limit, Expand, Stats, Dissect, Grok, Enrich, Join}
use Rattle.esql_ast.specs.declared.query.SourceCommand.{SourceCommand}
use Rattle.esql_ast.specs.declared.query.SourceCommand.TheVariants.{Tables, OneRow}
use Rattle.esql_ast.specs.Depths.{greatest, deepest_in, one_deeper, depth_of_expr, deepest_part, depth_of_field, depth_of_condition, depth_of_stats, depth_of_key, depth_of_kind, depth_of_command, depth_of_source, depth_of_query}
use Rattle.esql_ast.specs.Laws.{as_it_was}
use Rattle.esql_ast.specs.Numbering.{Numbering, node_id, numbered_all, numbering_in, own_before_inner, numbering_of, numbering_of_form, numbered, numbered_form, size_of, numbering_of_field, numbering_of_condition, numbering_of_stats, numbering_of_key, numbering_of_command, size_of_stats, size_of_source, numbered_kind, numbered_source, numbered_query}
use Rattle.esql_ast.proofs.DepthParts.{constant_depth, list_depth, column_depth, group_depth, call_depth, minus_depth, not_depth, binary_depth, within_depth, like_depth, is_null_depth, cast_depth}

-- numbered from any number on, a part is as deep as it was
abbrev pub Keeps : {Part : Type 0} → (Part → ℕ) → Part → Numbering Part → Type 0
Keeps depth part numbering = (node : ℕ) → depth (numbering.at node) ≡ depth part

abbrev pub ExprKeeps : Expr → Type 0
ExprKeeps expr = Keeps depth_of_expr expr (numbering_of expr)

abbrev pub FormKeeps : Form → Type 0
FormKeeps form = Keeps deepest_part form (numbering_of_form form)

-- a row of parts, each of which is as deep as it was
all_keep : {Part : Type 0} (depth : Part → ℕ) (numbering : Part → Numbering Part) (parts : List Part) → All (λ (part : Part). Keeps depth part (numbering part)) parts
    → (node : ℕ) → greatest (map depth (numbered_all (map numbering parts) node)) ≡ greatest (map depth parts)
all_keep depth numbering [] all node = refl
all_keep {Part} depth numbering (part ∷ parts) all node =
    let Q : Part → Type 0 = λ part. Keeps depth part (numbering part) in
    ap (λ (n : ℕ). max n (greatest (map depth (numbered_all (map numbering parts) (node + (numbering part).size))))) (All-head Q part parts all node)
    ∙ ap (λ (n : ℕ). max (depth part) n) (all_keep depth numbering parts (All-tail Q part parts all) (node + (numbering part).size))

-- two parts, of which the greater depth counts
pub both : (a b c d : ℕ) → a ≡ c → b ≡ d → max a b ≡ max c d
both a b c d left right = ap (λ (n : ℕ). max n b) left ∙ ap (λ (n : ℕ). max c n) right

-- ---- expressions

abbrev GoodForm : Type 0
GoodForm = Such the_family (claims FormKeeps ExprKeeps) member-Form

abbrev GoodExpr : Type 0
GoodExpr = Such the_family (claims FormKeeps ExprKeeps) member-Expr

abbrev the_expr : GoodExpr → Expr
the_expr good = good.0

abbrev the_form : GoodForm → Form
the_form good = good.0

abbrev layer_of : Form-F GoodForm GoodExpr → Form-F Form Expr
layer_of = map-Form GoodForm GoodExpr Form Expr the_form the_expr

all_good : (goods : List GoodExpr) → All ExprKeeps (map the_expr goods)
all_good [] = All-nil ExprKeeps
all_good (good ∷ goods) = All-cons ExprKeeps (the_expr good) (map the_expr goods) good.1 (all_good goods)

-- a layer of a form, with the depth that it comes to
carried : (layer : Form-F Form Expr) (depth : ℕ)
    → deepest_in (map-Form Form Expr ℕ ℕ deepest_part depth_of_expr layer) ≡ depth
    → ((node : ℕ) → deepest_part ((numbering_in (map-Form Form Expr (Numbering Form) (Numbering Expr) numbering_of_form numbering_of layer)).at node) ≡ depth)
    → FormKeeps (roll-Form layer)
carried layer depth is at node =
    ap (λ (n : Numbering Form). deepest_part (n.at node)) (fold-roll-Form (Numbering Form) (Numbering Expr) numbering_in own_before_inner layer)
    ∙ at node
    ∙ sym (fold-roll-Form ℕ ℕ deepest_in one_deeper layer ∙ is)

form_keeps : (layer : Form-F GoodForm GoodExpr) → FormKeeps (roll-Form (layer_of layer))
form_keeps (Constant cell kind) = carried (Constant cell kind) 0 refl (λ node. constant_depth cell kind)
form_keeps (Listed values) = carried (Listed values) 0 refl (λ node. list_depth values)
form_keeps (Column name) = carried (Column name) 0 refl (λ node. column_depth name)
form_keeps (Group inner) = carried (layer_of (Group inner)) (depth_of_expr inner.0) refl (λ node. group_depth (numbered inner.0 node) ∙ inner.1 node)
form_keeps (Call function args star) =
    let exprs : List Expr = map the_expr args in
    carried (layer_of (Call function args star)) (greatest (map depth_of_expr exprs)) refl
    (λ node. call_depth function (numbered_all (map numbering_of exprs) node) star ∙ all_keep depth_of_expr numbering_of exprs (all_good args) node)
form_keeps (Minus arg) = carried (layer_of (Minus arg)) (depth_of_expr arg.0) refl (λ node. minus_depth (numbered arg.0 node) ∙ arg.1 node)
form_keeps (Not arg) = carried (layer_of (Not arg)) (depth_of_expr arg.0) refl (λ node. not_depth (numbered arg.0 node) ∙ arg.1 node)
form_keeps (Binary op left right) =
    carried (layer_of (Binary op left right)) (max (depth_of_expr left.0) (depth_of_expr right.0)) refl
    (λ node. binary_depth op (numbered left.0 node) (numbered right.0 (node + size_of left.0)) ∙ both _ _ _ _ (left.1 node) (right.1 (node + size_of left.0)))
form_keeps (Within negated left items) =
    let exprs : List Expr = map the_expr items in
    carried (layer_of (Within negated left items)) (max (depth_of_expr left.0) (greatest (map depth_of_expr exprs))) refl
    (λ node. within_depth negated (numbered left.0 node) (numbered_all (map numbering_of exprs) (node + size_of left.0))
    ∙ both _ _ _ _ (left.1 node) (all_keep depth_of_expr numbering_of exprs (all_good items) (node + size_of left.0)))
form_keeps (Like negated regex left pattern) =
    carried (layer_of (Like negated regex left pattern)) (depth_of_expr left.0) refl (λ node. like_depth negated regex (numbered left.0 node) pattern ∙ left.1 node)
form_keeps (IsNull negated arg) = carried (layer_of (IsNull negated arg)) (depth_of_expr arg.0) refl (λ node. is_null_depth negated (numbered arg.0 node) ∙ arg.1 node)
form_keeps (Cast arg kind) = carried (layer_of (Cast arg kind)) (depth_of_expr arg.0) refl (λ node. cast_depth (numbered arg.0 node) kind ∙ arg.1 node)

-- an expression's number is no part of its depth
own_keeps : (own : Expr-F Form Expr) → FormKeeps own.form → ExprKeeps (roll-Expr own)
own_keeps own form node =
    ap (λ (n : Numbering Expr). depth_of_expr (n.at node)) (fold-roll-Expr (Numbering Form) (Numbering Expr) numbering_in own_before_inner own)
    ∙ fold-roll-Expr ℕ ℕ deepest_in one_deeper (record { node = node_id node; span = own.span; form = numbered_form own.form (node + 1) })
    ∙ ap (λ (n : ℕ). 1 + n) (form (node + 1))
    ∙ sym (fold-roll-Expr ℕ ℕ deepest_in one_deeper own)

pub expr_keeps : (expr : Expr) → ExprKeeps expr
expr_keeps =
    ind-Expr FormKeeps ExprKeeps (λ layer goods is. let P : Form-F Form Expr → Type 0 = λ these. FormKeeps (roll-Form these) in subst P is (form_keeps goods))
    (λ own good is. let P : Expr-F Form Expr → Type 0 = λ this. ExprKeeps (roll-Expr this) in subst P is (own_keeps (map-Expr GoodForm GoodExpr Form Expr the_form the_expr good) good.form.1))

-- ---- commands

each_keeps : {Part : Type 0} (depth : Part → ℕ) (numbering : Part → Numbering Part) → ((part : Part) → Keeps depth part (numbering part)) → (parts : List Part)
    → All (λ (part : Part). Keeps depth part (numbering part)) parts
each_keeps {Part} depth numbering each [] = All-nil (λ (part : Part). Keeps depth part (numbering part))
each_keeps {Part} depth numbering each (part ∷ parts) =
    All-cons (λ (part : Part). Keeps depth part (numbering part)) part parts (each part) (each_keeps depth numbering each parts)

row_keeps : {Part : Type 0} (depth : Part → ℕ) (numbering : Part → Numbering Part) → ((part : Part) → Keeps depth part (numbering part))
    → (parts : List Part) (node : ℕ) → greatest (map depth (numbered_all (map numbering parts) node)) ≡ greatest (map depth parts)
row_keeps depth numbering each parts = all_keep depth numbering parts (each_keeps depth numbering each parts)

field_keeps : (field : Field) → Keeps depth_of_field field (numbering_of_field field)
field_keeps field = expr_keeps field.expr

key_keeps : (key : SortKey) → Keeps depth_of_key key (numbering_of_key key)
key_keeps key = expr_keeps key.expr

condition_keeps : (condition : Option Condition) → Keeps depth_of_condition condition (numbering_of_condition condition)
condition_keeps None node = refl
condition_keeps (Some condition) node = expr_keeps condition.expr (node + 1)

stats_keep : (stats : StatsField) → Keeps depth_of_stats stats (numbering_of_stats stats)
stats_keep stats node = both _ _ _ _ (field_keeps stats.field node) (condition_keeps stats.condition (node + size_of stats.field.expr))

fields_keep : (fields : List Field) (node : ℕ) → greatest (map depth_of_field (numbered_all (map numbering_of_field fields) node)) ≡ greatest (map depth_of_field fields)
fields_keep = row_keeps depth_of_field numbering_of_field field_keeps

kind_keeps : (kind : CommandKind) (node : ℕ) → depth_of_kind (numbered_kind kind node) ≡ depth_of_kind kind
kind_keeps (Filter condition) node = expr_keeps condition node
kind_keeps (Eval fields) node = fields_keep fields node
kind_keeps (Keep patterns) node = refl
kind_keeps (Drop patterns) node = refl
kind_keeps (Rename pairs) node = refl
kind_keeps (Sort keys) node = row_keeps depth_of_key numbering_of_key key_keeps keys node
kind_keeps (Limit count) node = refl
kind_keeps (Expand column) node = refl
kind_keeps (Stats fields groups) node =
    both _ _ _ _ (row_keeps depth_of_stats numbering_of_stats stats_keep fields node) (fields_keep groups (node + size_of_stats fields))
kind_keeps (Dissect input pattern separator) node = expr_keeps input node
kind_keeps (Grok input pattern) node = expr_keeps input node
kind_keeps (Enrich policy on fields) node = refl
kind_keeps (Join table on) node = refl

command_keeps : (command : Command) → Keeps depth_of_command command (numbering_of_command command)
command_keeps command node = kind_keeps command.kind (node + 1)

source_keeps : (source : SourceCommand) → depth_of_source (numbered_source source) ≡ depth_of_source source
source_keeps (Tables node span tables) = refl
source_keeps (OneRow node span fields) = fields_keep fields 1

pub keeps_depth : (source : SourceCommand) (commands : List Command) → depth_of_query (numbered_query source commands) ≡ depth_of_query (as_it_was source commands)
keeps_depth source commands = both _ _ _ _ (source_keeps source) (row_keeps depth_of_command numbering_of_command command_keeps commands (size_of_source source))

-- a row has as many parts as it had
all_length : {Part : Type 0} (numbering : Part → Numbering Part) (parts : List Part) (node : ℕ) → length (numbered_all (map numbering parts) node) ≡ length parts
all_length numbering [] node = refl
all_length numbering (part ∷ parts) node = let rest = all_length numbering parts (node + (numbering part).size) in omega arith

pub keeps_commands : (source : SourceCommand) (commands : List Command) → length (numbered_query source commands).commands ≡ length commands
keeps_commands source commands = all_length numbering_of_command commands (size_of_source source)
