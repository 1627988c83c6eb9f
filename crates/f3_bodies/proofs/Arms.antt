-- What a statement is in memory, and what the walk has of it.
use Rattle.std.proofs.Common.{◌≡◌, ℕ, ◌+◌, ◌<◌, suc, length, List, ◌∷◌, ◌++◌, map, Option, None, Some, IsSome, arith, rules, refl, sym, ap, ◌∙◌, subst, append_assoc}
use Rattle.std.proofs.lemmas.List.{length-append, append-nil}
use Rattle.std.specs.Global.{Vec}
use Rattle.std.specs.List.{flat_map}
use Rattle.std.specs.Map.{lookup}
use Rattle.std.specs.Prelude.{nat_eq}
use Rattle.f3_rules.specs.declared.breaks.Break.{Break}
use Rattle.f3_places.specs.declared.source.Place.{Place}
use Rattle.f3_tree.specs.declared.expression.Expression.{Expression}
use Rattle.f3_tree.specs.declared.statement.Action.{Action}
use Rattle.f3_tree.specs.declared.statement.Control.{Control}
use Rattle.f3_tree.specs.declared.statement.Association.{Association}
use Rattle.f3_tree.specs.declared.statement.Selector.{Selector}
use Rattle.f3_tree.specs.declared.statement.Statement.{Statement, If, Select, Do, Associate, LogicalIf, the_lemmas}
use Rattle.f3_tree.specs.declared.statement.Statement.{Action as Acts}
use Rattle.f3_tree.specs.Expressions.{Tree, expression_view}
use Rattle.f3_tree.specs.Statements.{StatementTree, Act, Controls, AssociationTree, acts, acts_if, branches, selects, repeats, associates, Block, Branches, no_branches, Cases, no_cases, no_alternative, alternative, action_view, control_view, association_view, statement_view, block_of, block_view}
use Rattle.f3_scopes.specs.Blocks.{branches_view, branches_in, alternative_view, cases_view, cases_in}
use Rattle.f3_scopes.proofs.Views.{view_if, view_select, view_associate}
use Rattle.f3_kinds.specs.declared.said.Said.{Said}
use Rattle.f3_kinds.specs.Things.{map_or}
use Rattle.f3_type_rules.specs.Statements.{condition_breaks}
use Rattle.f3_type_rules.specs.Definitions.{Site, in_loop}
use Rattle.f3_type_rules.specs.Cases.{select_breaks}
use Rattle.f3_type_rules.specs.Associates.{associated, associate_nature, site_inside, constructs_of, constructs_of_block, constructs_of_branches, constructs_of_cases}
use Rattle.f3_type_rules.specs.Bodies.{act_rows, control_rows, selector_rows, statement_breaks, block_breaks, branch_breaks, case_breaks}
use Rattle.f3_typed_parts.specs.Noted.{noted}
use Rattle.f3_typed_parts.proofs.Noting.{noted_more, noted_none}
use Rattle.f3_associates.specs.Known.{IsSettled}
use Rattle.f3_bodies.specs.Inner.Counts.{count_of, count_of_block, count_of_branches, count_of_cases}
use Rattle.f3_bodies.specs.Inner.Weights.{weight, weight_of_block, weight_of_branches, weight_of_other, weight_of_cases}
use Rattle.f3_bodies.specs.Inner.Loops.{active_by, with_active}

-- ---- statements in memory, as trees

abbrev tree_of : List Statement → Block
tree_of xs = block_of (map statement_view xs)

view_action : (p : Place) (a : Action) → statement_view (Acts p a) ≡ acts p (action_view a)
view_action p a = search (rules, the_lemmas)

view_logical : (p : Place) (e : Expression) (q : Place) (a : Action) → statement_view (LogicalIf p e q a) ≡ acts_if p (expression_view e) q (action_view a)
view_logical p e q a = search (rules, the_lemmas)

view_do : (p : Place) (k : Control) (body : Vec Statement) → statement_view (Do p k body) ≡ repeats p (control_view k) (block_view body)
view_do p k body = search (rules, the_lemmas)

pub action_is : (s : Statement) (p : Place) (a : Action) → s ≡ Acts p a → statement_view s ≡ acts p (action_view a)
action_is s p a e = ap statement_view e ∙ view_action p a

pub logical_is : (s : Statement) (p : Place) (x : Expression) (q : Place) (a : Action) → s ≡ LogicalIf p x q a → statement_view s ≡ acts_if p (expression_view x) q (action_view a)
logical_is s p x q a e = ap statement_view e ∙ view_logical p x q a

pub if_is : (s : Statement) (bs : Vec (Place × Expression × Vec Statement)) (other : Option (Vec Statement)) → s ≡ If bs other → statement_view s ≡ branches (branches_view bs.items) (alternative_view other)
if_is s bs other e = ap statement_view e ∙ view_if bs other

pub else_is : (s : Statement) (bs : Vec (Place × Expression × Vec Statement)) (other : Option (Vec Statement)) (body : Vec Statement) (xs : List Statement) → s ≡ If bs other → other ≡ Some body → xs ≡ body.items
    → statement_view s ≡ branches (branches_view bs.items) (alternative (tree_of xs))
else_is s bs other body xs e o x = if_is s bs other e ∙ ap (λ (a : Option (Vec Statement)). branches (branches_view bs.items) (alternative_view a)) o ∙ ap (λ ys. branches (branches_view bs.items) (alternative (tree_of ys))) (sym x)

pub no_else_is : (s : Statement) (bs : Vec (Place × Expression × Vec Statement)) (other : Option (Vec Statement)) → s ≡ If bs other → other ≡ None → statement_view s ≡ branches (branches_view bs.items) no_alternative
no_else_is s bs other e o = if_is s bs other e ∙ ap (λ (a : Option (Vec Statement)). branches (branches_view bs.items) (alternative_view a)) o

pub select_is : (s : Statement) (p : Place) (x : Expression) (cs : Vec (Place × Selector × Vec Statement)) → s ≡ Select p x cs → statement_view s ≡ selects p (expression_view x) (cases_view cs.items)
select_is s p x cs e = ap statement_view e ∙ view_select p x cs

pub do_is : (s : Statement) (p : Place) (k : Control) (body : Vec Statement) (xs : List Statement) → s ≡ Do p k body → xs ≡ body.items → statement_view s ≡ repeats p (control_view k) (tree_of xs)
do_is s p k body xs e x = ap statement_view e ∙ view_do p k body ∙ ap (λ ys. repeats p (control_view k) (tree_of ys)) (sym x)

pub associate_is : (s : Statement) (p : Place) (list : Vec Association) (body : Vec Statement) (ls : List Association) (xs : List Statement) → s ≡ Associate p list body → ls ≡ list.items → xs ≡ body.items
    → statement_view s ≡ associates p (map association_view ls) (tree_of xs)
associate_is s p list body ls xs e a x =
    ap statement_view e ∙ view_associate p list body
    ∙ ap (λ ys. associates p (map association_view list.items) (tree_of ys)) (sym x) ∙ ap (λ ys. associates p (map association_view ys) (tree_of xs)) (sym a)

-- ---- what is noted of a statement

module _ (s : Site) (n : ℕ) (t : StatementTree) where
  pub action_noted : (p : Place) (a : Act) (before after : Option Break) → t ≡ acts p a → after ≡ noted before (act_rows s p a) → after ≡ noted before (statement_breaks s n t)
  action_noted p a before after v e = e ∙ ap (λ x. noted before (statement_breaks s n x)) (sym v)

  pub logical_noted : (p : Place) (x : Tree) (q : Place) (a : Act) (before mid after : Option Break) → t ≡ acts_if p x q a → mid ≡ noted before (condition_breaks s.context x) → after ≡ noted mid (act_rows s q a)
      → after ≡ noted before (statement_breaks s n t)
  logical_noted p x q a before mid after v m e =
      e ∙ ap (λ y. noted y (act_rows s q a)) m ∙ noted_more before (condition_breaks s.context x) (act_rows s q a) ∙ ap (λ y. noted before (statement_breaks s n y)) (sym v)

  pub no_else_noted : (bs : Branches) (before after : Option Break) → t ≡ branches bs no_alternative → after ≡ noted before (branch_breaks s n bs) → after ≡ noted before (statement_breaks s n t)
  no_else_noted bs before after v e = e ∙ ap (noted before) (sym (append-nil (branch_breaks s n bs))) ∙ ap (λ y. noted before (statement_breaks s n y)) (sym v)

  pub else_noted : (s' : Site) (bs : Branches) (b : Block) (m : ℕ) (before mid after : Option Break) → t ≡ branches bs (alternative b) → s' ≡ s → m ≡ n + count_of_branches bs
      → mid ≡ noted before (branch_breaks s n bs) → after ≡ noted mid (block_breaks s' m b) → after ≡ noted before (statement_breaks s n t)
  else_noted s' bs b m before mid after v same number e f =
      f ∙ ap (λ y. noted mid (block_breaks y m b)) same ∙ ap (λ k. noted mid (block_breaks s k b)) number ∙ ap (λ y. noted y (block_breaks s (n + count_of_branches bs) b)) e
      ∙ noted_more before (branch_breaks s n bs) (block_breaks s (n + count_of_branches bs) b) ∙ ap (λ y. noted before (statement_breaks s n y)) (sym v)

  pub select_noted : (p : Place) (x : Tree) (cs : Cases) (before mid after : Option Break) → t ≡ selects p x cs → mid ≡ noted before (select_breaks s.context x cs) → after ≡ noted mid (case_breaks s n cs)
      → after ≡ noted before (statement_breaks s n t)
  select_noted p x cs before mid after v m e =
      e ∙ ap (λ y. noted y (case_breaks s n cs)) m ∙ noted_more before (select_breaks s.context x cs) (case_breaks s n cs) ∙ ap (λ y. noted before (statement_breaks s n y)) (sym v)

  pub do_noted : (s' : Site) (p : Place) (k : Controls) (b : Block) (before mid after : Option Break) → t ≡ repeats p k b → s' ≡ in_loop s k → mid ≡ noted before (control_rows s k) → after ≡ noted mid (block_breaks s' n b)
      → after ≡ noted before (statement_breaks s n t)
  do_noted s' p k b before mid after v inner m e =
      e ∙ ap (λ y. noted mid (block_breaks y n b)) inner ∙ ap (λ y. noted y (block_breaks (in_loop s k) n b)) m ∙ noted_more before (control_rows s k) (block_breaks (in_loop s k) n b)
      ∙ ap (λ y. noted before (statement_breaks s n y)) (sym v)

  pub associate_noted : (s' : Site) (p : Place) (xs : List AssociationTree) (b : Block) (before mid after : Option Break) → t ≡ associates p xs b → s' ≡ site_inside n xs s → mid ≡ noted before (selector_rows s xs)
      → after ≡ noted mid (block_breaks s' (n + 1) b) → after ≡ noted before (statement_breaks s n t)
  associate_noted s' p xs b before mid after v inner m e =
      e ∙ ap (λ y. noted mid (block_breaks y (n + 1) b)) inner ∙ ap (λ y. noted y (block_breaks (site_inside n xs s) (n + 1) b)) m
      ∙ noted_more before (selector_rows s xs) (block_breaks (site_inside n xs s) (n + 1) b) ∙ ap (λ y. noted before (statement_breaks s n y)) (sym v)

-- ---- sites

pub loop_site : (s s' : Site) (v : Option ℕ) (k : Controls) → s' ≡ with_active (active_by v ++ s.active) s → (in_loop s k).active ≡ active_by v ++ s.active → s' ≡ in_loop s k
loop_site s s' v k e a = e ∙ ap (λ xs. with_active xs s) (sym a)

pub loop_settled : (s s' : Site) (active : List ℕ) → s' ≡ with_active active s → IsSettled s → IsSettled s'
loop_settled s s' active e h = subst IsSettled (sym e) h

pub loop_left : (s s' s'' s''' : Site) (v : Option ℕ) → s' ≡ with_active (active_by v ++ s.active) s → s'' ≡ s' → ((active : List ℕ) → s''.active ≡ active_by v ++ active → s''' ≡ with_active active s'') → s''' ≡ s
loop_left s s' s'' s''' v a b c = c s.active (ap (λ (x : Site). x.active) (b ∙ a)) ∙ ap (with_active s.active) (b ∙ a)

inside_some : (s : Site) (e : ℕ) (o : Option Said) → IsSome ((s.context).nature e) → IsSome (map_or ((s.context).nature e) (λ d. Some (associate_nature d)) o)
inside_some s e None h = h
inside_some s e (Some d) h = refl

pub inside_settled : (s s' : Site) (n : ℕ) (xs : List AssociationTree) → s' ≡ site_inside n xs s → IsSettled s → IsSettled s'
inside_settled s s' n xs e h = subst IsSettled (sym e) (λ scope symbol x l. inside_some s x (lookup (nat_eq x) (flat_map (associated s.context n) xs)) (h scope symbol x l))

pub settled_by : (s s' : Site) → s' ≡ s → IsSettled s → IsSettled s'
settled_by s s' e h = subst IsSettled (sym e) h

-- ---- counts and weights

pub branches_count : (t : StatementTree) (bs : Branches) (b : Block) → t ≡ branches bs (alternative b) → count_of t ≡ count_of_branches bs + count_of_block b
branches_count t bs b v = ap count_of v ∙ length-append _ _

pub no_else_count : (t : StatementTree) (bs : Branches) → t ≡ branches bs no_alternative → count_of t ≡ count_of_branches bs
no_else_count t bs v = ap count_of v ∙ ap length (append-nil _)

pub select_count : (t : StatementTree) (p : Place) (x : Tree) (cs : Cases) → t ≡ selects p x cs → count_of t ≡ count_of_cases cs
select_count t p x cs v = ap count_of v

pub do_count : (t : StatementTree) (p : Place) (k : Controls) (b : Block) → t ≡ repeats p k b → count_of t ≡ count_of_block b
do_count t p k b v = ap count_of v

pub associate_count : (t : StatementTree) (p : Place) (xs : List AssociationTree) (b : Block) → t ≡ associates p xs b → count_of t ≡ count_of_block b + 1
associate_count t p xs b v = let e : count_of t ≡ suc (count_of_block b) = ap count_of v in omega (arith, e)

pub else_weight : (t : StatementTree) (bs : Branches) (b : Block) → t ≡ branches bs (alternative b) → weight_of_block b < weight t
else_weight t bs b v = let e : weight t ≡ weight_of_branches bs + weight_of_block b + 1 = ap weight v in omega (arith, e)

pub do_weight : (t : StatementTree) (p : Place) (k : Controls) (b : Block) → t ≡ repeats p k b → weight_of_block b < weight t
do_weight t p k b v = let e : weight t ≡ weight_of_block b + 1 = ap weight v in omega (arith, e)

pub associate_weight : (t : StatementTree) (p : Place) (xs : List AssociationTree) (b : Block) → t ≡ associates p xs b → weight_of_block b < weight t
associate_weight t p xs b v = let e : weight t ≡ weight_of_block b + 1 = ap weight v in omega (arith, e)

-- ---- the loops over branches and cases

pub branches_are : (s : Statement) (bs : Vec (Place × Expression × Vec Statement)) (other : Option (Vec Statement)) (xs : List (Place × Expression × Vec Statement)) → s ≡ If bs other → xs ≡ bs.items
    → branches_in (statement_view s) ≡ branches_view xs
branches_are s bs other xs e i = ap (λ (x : StatementTree). branches_in x) (if_is s bs other e) ∙ ap branches_view (sym i)

pub cases_are : (s : Statement) (p : Place) (x : Expression) (cs : Vec (Place × Selector × Vec Statement)) (xs : List (Place × Selector × Vec Statement)) → s ≡ Select p x cs → xs ≡ cs.items
    → cases_in (statement_view s) ≡ cases_view xs
cases_are s p x cs xs e i = ap (λ (y : StatementTree). cases_in y) (select_is s p x cs e) ∙ ap cases_view (sym i)

pub branch_noted : (s s' : Site) (n : ℕ) (x : Tree) (b b' : Block) (before mid after : Option Break) → s' ≡ s → b' ≡ b → mid ≡ noted before (condition_breaks s'.context x) → after ≡ noted mid (block_breaks s' n b')
    → after ≡ noted before (condition_breaks s.context x ++ block_breaks s n b)
branch_noted s s' n x b b' before mid after same held m e =
    e ∙ ap (λ y. noted y (block_breaks s' n b')) m ∙ noted_more before (condition_breaks s'.context x) (block_breaks s' n b')
    ∙ ap (λ (y : Site). noted before (condition_breaks y.context x ++ block_breaks y n b')) same ∙ ap (λ y. noted before (condition_breaks s.context x ++ block_breaks s n y)) held

pub case_noted : (s s' : Site) (n : ℕ) (b b' : Block) (before after : Option Break) → s' ≡ s → b' ≡ b → after ≡ noted before (block_breaks s' n b') → after ≡ noted before (block_breaks s n b)
case_noted s s' n b b' before after same held e = e ∙ ap (λ y. noted before (block_breaks y n b')) same ∙ ap (λ y. noted before (block_breaks s n y)) held

-- the rows of branches, one and then the others
pub branches_more : (s : Site) (n : ℕ) (x : Place × Expression × Vec Statement) (xs : List (Place × Expression × Vec Statement))
    → branch_breaks s n (branches_view (x ∷ xs)) ≡ (condition_breaks s.context (expression_view x.1) ++ block_breaks s n (block_view x.2)) ++ branch_breaks s (n + count_of_block (block_view x.2)) (branches_view xs)
branches_more s n x xs = sym (append_assoc (condition_breaks s.context (expression_view x.1)) (block_breaks s n (block_view x.2)) (branch_breaks s (n + count_of_block (block_view x.2)) (branches_view xs)))

pub if_weight : (s : Statement) (bs : Vec (Place × Expression × Vec Statement)) (other : Option (Vec Statement)) (xs : List (Place × Expression × Vec Statement)) → s ≡ If bs other → xs ≡ bs.items
    → weight_of_branches (branches_view xs) < weight (statement_view s)
if_weight s bs other xs e i =
    let v : weight (statement_view s) ≡ weight_of_branches (branches_view bs.items) + weight_of_other (alternative_view other) + 1 = ap weight (if_is s bs other e) in
    let j : weight_of_branches (branches_view xs) ≡ weight_of_branches (branches_view bs.items) = ap (λ ys. weight_of_branches (branches_view ys)) i in
    omega (arith, v, j)

pub select_weight : (s : Statement) (p : Place) (x : Expression) (cs : Vec (Place × Selector × Vec Statement)) (xs : List (Place × Selector × Vec Statement)) → s ≡ Select p x cs → xs ≡ cs.items
    → weight_of_cases (cases_view xs) < weight (statement_view s)
select_weight s p x cs xs e i =
    let v : weight (statement_view s) ≡ weight_of_cases (cases_view cs.items) + 1 = ap weight (select_is s p x cs e) in
    let j : weight_of_cases (cases_view xs) ≡ weight_of_cases (cases_view cs.items) = ap (λ ys. weight_of_cases (cases_view ys)) i in
    omega (arith, v, j)

pub one_noted : (s s' : Site) (n : ℕ) (t : StatementTree) (before after : Option Break) → s' ≡ s → after ≡ noted before (statement_breaks s' n t) → after ≡ noted before (statement_breaks s n t)
one_noted s s' n t before after same e = e ∙ ap (λ y. noted before (statement_breaks y n t)) same

-- ---- sums of counts

pub statements_sum : (x : Statement) (xs : List Statement) → count_of_block (tree_of (x ∷ xs)) ≡ count_of (statement_view x) + count_of_block (tree_of xs)
statements_sum x xs = length-append (constructs_of (statement_view x)) (constructs_of_block (tree_of xs))

pub branches_sum : (x : Place × Expression × Vec Statement) (xs : List (Place × Expression × Vec Statement))
    → count_of_branches (branches_view (x ∷ xs)) ≡ count_of_block (block_view x.2) + count_of_branches (branches_view xs)
branches_sum x xs = length-append (constructs_of_block (block_view x.2)) (constructs_of_branches (branches_view xs))

pub cases_sum : (x : Place × Selector × Vec Statement) (xs : List (Place × Selector × Vec Statement))
    → count_of_cases (cases_view (x ∷ xs)) ≡ count_of_block (block_view x.2) + count_of_cases (cases_view xs)
cases_sum x xs = length-append (constructs_of_block (block_view x.2)) (constructs_of_cases (cases_view xs))

-- the statements of a block in memory
pub held : (v : Vec Statement) (xs : List Statement) → xs ≡ v.items → tree_of xs ≡ block_view v
held v xs e = ap tree_of e

pub select_in : (s : Statement) (p : Place) (x : Expression) (cs : Vec (Place × Selector × Vec Statement)) (xs : List (Place × Selector × Vec Statement)) → s ≡ Select p x cs → xs ≡ cs.items
    → statement_view s ≡ selects p (expression_view x) (cases_view xs)
select_in s p x cs xs e i = select_is s p x cs e ∙ ap (λ ys. selects p (expression_view x) (cases_view ys)) (sym i)

-- ---- statements without branches, and without cases

pub no_branches_noted : (s : Site) (n : ℕ) (t t' : StatementTree) (a : Option Break) → t ≡ t' → branches_in t' ≡ no_branches → a ≡ noted a (branch_breaks s n (branches_in t))
no_branches_noted s n t t' a v z = sym (noted_none a) ∙ ap (λ b. noted a (branch_breaks s n b)) (sym (ap (λ (x : StatementTree). branches_in x) v ∙ z))

pub no_branches_next : (n : ℕ) (t t' : StatementTree) → t ≡ t' → branches_in t' ≡ no_branches → n ≡ n + count_of_branches (branches_in t)
no_branches_next n t t' v z = let e : count_of_branches (branches_in t) ≡ 0 = ap count_of_branches (ap (λ (x : StatementTree). branches_in x) v ∙ z) in omega (arith, e)

pub no_cases_noted : (s : Site) (n : ℕ) (t t' : StatementTree) (a : Option Break) → t ≡ t' → cases_in t' ≡ no_cases → a ≡ noted a (case_breaks s n (cases_in t))
no_cases_noted s n t t' a v z = sym (noted_none a) ∙ ap (λ b. noted a (case_breaks s n b)) (sym (ap (λ (x : StatementTree). cases_in x) v ∙ z))

pub no_cases_next : (n : ℕ) (t t' : StatementTree) → t ≡ t' → cases_in t' ≡ no_cases → n ≡ n + count_of_cases (cases_in t)
no_cases_next n t t' v z = let e : count_of_cases (cases_in t) ≡ 0 = ap count_of_cases (ap (λ (x : StatementTree). cases_in x) v ∙ z) in omega (arith, e)
