-- What a statement is in memory, and how much a walk over it has before it.
use Rattle.std.proofs.Common.{◌≡◌, ℕ, ◌+◌, ◌*◌, ◌<◌, length, drop, get_or, List, [], ◌∷◌, map, Bool, false, Option, Some, arith, rules, refl, sym, ap, ◌∙◌}
use Rattle.std.proofs.lemmas.List.{at_drop_more, length-append}
use Rattle.std.specs.Global.{Vec}
use Rattle.f3_places.specs.declared.source.Place.{Place}
use Rattle.f3_tree.specs.declared.expression.Expression.{Expression}
use Rattle.f3_tree.specs.declared.statement.Action.{Action}
use Rattle.f3_tree.specs.declared.statement.Control.{Control}
use Rattle.f3_tree.specs.declared.statement.Association.{Association}
use Rattle.f3_tree.specs.declared.statement.Selector.{Selector}
use Rattle.f3_tree.specs.declared.statement.Statement.{Statement, If, Select, Do, Associate, LogicalIf, the_lemmas}
use Rattle.f3_tree.specs.declared.statement.Statement.{Action as Acts}
use Rattle.f3_tree.specs.Expressions.{Tree, expression_view}
use Rattle.f3_tree.specs.Statements.{StatementTree, Controls, AssociationTree, acts, acts_if, branches, selects, repeats, associates, Block, Branches, Alternative, Cases, case_block}
use Rattle.f3_tree.specs.Statements.{alternative, Selects, values, default, selector_view, action_view, control_view, association_view, statement_view, block_of, block_view}
use Rattle.f3_scopes.specs.Blocks.{branches_view, alternative_view, cases_view}
use Rattle.f3_scopes.proofs.Views.{view_if, view_select, view_associate}
use Rattle.f3_kinds.specs.Things.{Context}
use Rattle.f3_type_rules.specs.Associates.{constructs_of, constructs_of_block, constructs_of_branches, constructs_of_other, constructs_of_cases}
use Rattle.f3_elaboration.specs.Nodes as n
use Rattle.f3_elaboration.specs.Nodes.{ExpressionNode, StatementNode, StatementNodes}
use Rattle.f3_elaboration.specs.Context.{Surroundings}
use Rattle.f3_elaboration.specs.Expressions.{expression}
use Rattle.f3_elaboration.specs.Statements as e
use Rattle.f3_elaboration.specs.Statements.{statement}
use Rattle.f3_elaboration.specs.Views.{statements_of}
use Rattle.f3_statement_nodes.specs.Inner.Along.{statements_at, branches_at}
use Rattle.f3_statement_nodes.specs.Inner.Counts.{count_of, count_of_block, count_of_branches, count_of_other, count_of_cases}
use Rattle.f3_construct_nodes.specs.Nested.{BranchNode, CaseNode, branched, chosen, case_before}
use Rattle.f3_statement_nodes.specs.Inner.Weights.{weight, weight_of_block, weight_of_branches, weight_of_other, weight_of_cases}

-- ---- statements in memory, as trees

abbrev tree_of : List Statement → Block
tree_of xs = block_of (map statement_view xs)

view_action : (p : Place) (a : Action) → statement_view (Acts p a) ≡ acts p (action_view a)
view_action p a = search (rules, the_lemmas)

view_logical : (p : Place) (e : Expression) (q : Place) (a : Action) → statement_view (LogicalIf p e q a) ≡ acts_if p (expression_view e) q (action_view a)
view_logical p e q a = search (rules, the_lemmas)

view_do : (p : Place) (k : Control) (body : Vec Statement) → statement_view (Do p k body) ≡ repeats p (control_view k) (block_view body)
view_do p k body = search (rules, the_lemmas)

pub action_is : (s : Statement) (p : Place) (a : Action) → s ≡ Acts p a → statement_view s ≡ acts p (action_view a)
action_is s p a e = ap statement_view e ∙ view_action p a

pub logical_is : (s : Statement) (p : Place) (x : Expression) (q : Place) (a : Action) → s ≡ LogicalIf p x q a → statement_view s ≡ acts_if p (expression_view x) q (action_view a)
logical_is s p x q a e = ap statement_view e ∙ view_logical p x q a

pub if_is : (s : Statement) (bs : Vec (Place × Expression × Vec Statement)) (other : Option (Vec Statement)) (xs : List (Place × Expression × Vec Statement)) → s ≡ If bs other → xs ≡ bs.items
    → statement_view s ≡ branches (branches_view xs) (alternative_view other)
if_is s bs other xs e x = ap statement_view e ∙ view_if bs other ∙ ap (λ ys. branches (branches_view ys) (alternative_view other)) (sym x)

pub select_is : (s : Statement) (p : Place) (x : Expression) (cs : Vec (Place × Selector × Vec Statement)) (xs : List (Place × Selector × Vec Statement)) → s ≡ Select p x cs → xs ≡ cs.items
    → statement_view s ≡ selects p (expression_view x) (cases_view xs)
select_is s p x cs xs e i = ap statement_view e ∙ view_select p x cs ∙ ap (λ ys. selects p (expression_view x) (cases_view ys)) (sym i)

pub do_is : (s : Statement) (p : Place) (k : Control) (body : Vec Statement) (xs : List Statement) → s ≡ Do p k body → xs ≡ body.items → statement_view s ≡ repeats p (control_view k) (tree_of xs)
do_is s p k body xs e x = ap statement_view e ∙ view_do p k body ∙ ap (λ ys. repeats p (control_view k) (tree_of ys)) (sym x)

pub associate_is : (s : Statement) (p : Place) (list : Vec Association) (body : Vec Statement) (ls : List Association) (xs : List Statement) → s ≡ Associate p list body → ls ≡ list.items → xs ≡ body.items
    → statement_view s ≡ associates p (map association_view ls) (tree_of xs)
associate_is s p list body ls xs e a x =
    ap statement_view e ∙ view_associate p list body
    ∙ ap (λ ys. associates p (map association_view list.items) (tree_of ys)) (sym x) ∙ ap (λ ys. associates p (map association_view ys) (tree_of xs)) (sym a)

-- the statements of a block in memory
pub held : (v : Vec Statement) (xs : List Statement) → xs ≡ v.items → tree_of xs ≡ block_view v
held v xs e = ap tree_of e

pub else_is : (other : Option (Vec Statement)) (body : Vec Statement) (xs : List Statement) → other ≡ Some body → xs ≡ body.items → alternative_view other ≡ alternative (tree_of xs)
else_is other body xs o x = ap alternative_view o ∙ ap alternative (sym (held body xs x))

-- ---- counts and weights

pub branches_count : (bs : Branches) (other : Alternative) → count_of (branches bs other) ≡ count_of_branches bs + count_of_other other
branches_count bs other = length-append (constructs_of_branches bs) (constructs_of_other other)

pub if_weight : (t : StatementTree) (bs : Branches) (other : Alternative) → t ≡ branches bs other → 3 * (weight_of_branches bs + weight_of_other other) + 2 < 3 * weight t + 2
if_weight t bs other v = let e : weight t ≡ weight_of_branches bs + weight_of_other other + 1 = ap weight v in omega (arith, e)

pub select_weight : (t : StatementTree) (p : Place) (x : Tree) (cs : Cases) → t ≡ selects p x cs → 3 * weight_of_cases cs + 1 < 3 * weight t + 2
select_weight t p x cs v = let e : weight t ≡ weight_of_cases cs + 1 = ap weight v in omega (arith, e)

pub do_weight : (t : StatementTree) (p : Place) (k : Controls) (b : Block) → t ≡ repeats p k b → 3 * weight_of_block b + 1 < 3 * weight t + 2
do_weight t p k b v = let e : weight t ≡ weight_of_block b + 1 = ap weight v in omega (arith, e)

pub associate_weight : (t : StatementTree) (p : Place) (xs : List AssociationTree) (b : Block) → t ≡ associates p xs b → 3 * weight_of_block b + 1 < 3 * weight t + 2
associate_weight t p xs b v = let e : weight t ≡ weight_of_block b + 1 = ap weight v in omega (arith, e)

pub statements_sum : (x : Statement) (xs : List Statement) → count_of_block (tree_of (x ∷ xs)) ≡ count_of (statement_view x) + count_of_block (tree_of xs)
statements_sum x xs = length-append (constructs_of (statement_view x)) (constructs_of_block (tree_of xs))

pub branches_sum : (x : Place × Expression × Vec Statement) (xs : List (Place × Expression × Vec Statement))
    → count_of_branches (branches_view (x ∷ xs)) ≡ count_of_block (block_view x.2) + count_of_branches (branches_view xs)
branches_sum x xs = length-append (constructs_of_block (block_view x.2)) (constructs_of_branches (branches_view xs))

pub cases_sum : (x : Place × Selector × Vec Statement) (xs : List (Place × Selector × Vec Statement))
    → count_of_cases (cases_view (x ∷ xs)) ≡ count_of_block (block_view x.2) + count_of_cases (cases_view xs)
cases_sum x xs = length-append (constructs_of_block (block_view x.2)) (constructs_of_cases (cases_view xs))

-- ---- what lists of nodes make

pub block_made : (s : Surroundings) (next : ℕ) (xs : List Statement) → statements_of (statements_at s next xs) ≡ e.block s next (tree_of xs)
block_made s next [] = refl
block_made s next (x ∷ xs) = ap (n.statements (statement s next (statement_view x))) (block_made s (next + count_of (statement_view x)) xs)

pub branches_made : (s : Surroundings) (next : ℕ) (begins : Bool) (xs : List (Place × Expression × Vec Statement)) (o : StatementNode)
    → branched begins (branches_at s next xs) o ≡ e.branches s next begins (branches_view xs) o
branches_made s next begins [] o = refl
branches_made s next begins (x ∷ xs) o =
    ap (λ y. n.at x.0 begins (n.branch (expression s (expression_view x.1)) (n.block (e.block s next (block_view x.2))) y)) (branches_made s (next + count_of_block (block_view x.2)) false xs o)

-- a block, as it is made where statements stand, or where the same is known
pub body_is : (s s' : Surroundings) (next : ℕ) (b b' : Block) (x : StatementNode) (xs : StatementNodes) → x ≡ n.block xs → xs ≡ e.block s' next b' → s' ≡ s → b' ≡ b → x ≡ n.block (e.block s next b)
body_is s s' next b b' x xs m h same is = m ∙ ap n.block (h ∙ ap (λ y. e.block y next b') same ∙ ap (e.block s next) is)

pub branch_is : (p : Place) (x y : ExpressionNode) (a b : StatementNode) → x ≡ y → a ≡ b
    → (let made : BranchNode = record { place = p; condition = x; block = a } in made) ≡ record { place = p; condition = y; block = b }
branch_is p x y a b h k =
    ap (λ z. let made : BranchNode = record { place = p; condition = z; block = a } in made) h ∙ ap (λ z. let made : BranchNode = record { place = p; condition = y; block = z } in made) k

case_made : (s : Surroundings) (next : ℕ) (p : Place) (x : Selects) (b : Block) (cs : Cases) (o : StatementNode)
    → e.cases s next (case_block p x b cs) o ≡ case_before s.context x (n.block (e.block s next b)) (λ y. e.cases s (next + count_of_block b) cs y) o
case_made s next p (values vs) b cs o = refl
case_made s next p default b cs o = refl

-- one case more
pub case_walked : (s : Surroundings) (xs : List (Place × Selector × Vec Statement)) (i : ℕ) (x : Place × Selector × Vec Statement) (next behind : ℕ) (found found' : List CaseNode) (known : Context)
    (body o o' whole : StatementNode) → i < length xs → x ≡ get_or xs i x → known ≡ s.context → body ≡ n.block (e.block s next (block_view x.2)) → behind ≡ next + count_of_block (block_view x.2)
    → ((others : StatementNode → StatementNode) → chosen found' (others o') ≡ chosen found (case_before known (selector_view x.1) body others o))
    → chosen found (e.cases s next (cases_view (drop i xs)) o) ≡ whole → chosen found' (e.cases s behind (cases_view (drop (i + 1) xs)) o') ≡ whole
case_walked s xs i x next behind found found' known body o o' whole lt is k b m h w =
    let rest = drop (i + 1) xs in
    h (λ y. e.cases s behind (cases_view rest) y)
    ∙ ap (λ (z : Context). chosen found (case_before z (selector_view x.1) body (λ y. e.cases s behind (cases_view rest) y) o)) k
    ∙ ap (λ (z : StatementNode). chosen found (case_before s.context (selector_view x.1) z (λ y. e.cases s behind (cases_view rest) y) o)) b
    ∙ ap (λ (z : ℕ). chosen found (case_before s.context (selector_view x.1) (n.block (e.block s next (block_view x.2))) (λ y. e.cases s z (cases_view rest) y) o)) m
    ∙ ap (chosen found) (sym (case_made s next x.0 (selector_view x.1) (block_view x.2) (cases_view rest) o))
    ∙ ap (chosen found) (sym (at_drop_more (λ ys. e.cases s next (cases_view ys) o) xs i x lt ∙ ap (λ z. e.cases s next (cases_view (z ∷ rest)) o) (sym is)))
    ∙ w
