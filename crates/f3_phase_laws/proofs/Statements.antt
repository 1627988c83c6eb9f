-- The breaks of executable statements.
use Rattle.std.proofs.Common.{◌≡◌, ℕ, ◌+◌, true, false, List, [], ◌∷◌, map, length, Option, Some, None, refl}
use Rattle.f3_places.specs.declared.source.Place.{Place}
use Rattle.f3_rules.specs.declared.breaks.Break.{Break}
use Rattle.f3_tree.specs.declared.expression.Name.{Name}
use Rattle.f3_tree.specs.Expressions.{Tree, text, Parts, arguments_of}
use Rattle.f3_tree.specs.Statements.{Act, assign, call, allocate, deallocate, print, stop, Controls, forever, counted, while}
use Rattle.f3_tree.specs.Statements.{CaseTree, one as one_value, from, up_to, range, Cases}
use Rattle.f3_tree.specs.Statements.{AssociationTree, StatementTree, acts, acts_if, branches, selects, repeats, associates}
use Rattle.f3_tree.specs.Statements.{Block, no_statements, statements, Branches, no_branches, branch}
use Rattle.f3_tree.specs.Statements.{Alternative, no_alternative, alternative, no_cases, case_block}
use Rattle.f3_kinds.specs.declared.types.DataType.{DataType}
use Rattle.f3_kinds.specs.declared.types.Wanted.TheVariants as wanted
use Rattle.f3_kinds.specs.declared.said.Form.{Form}
use Rattle.f3_kinds.specs.declared.said.Form.TheVariants.{Computed, Constant, Variable}
use Rattle.f3_kinds.specs.declared.said.Has.{Has}
use Rattle.f3_kinds.specs.declared.said.Said.{Said}
use Rattle.f3_kinds.specs.declared.said.Given.{Given}
use Rattle.f3_kinds.specs.declared.said.Role.TheVariants as role
use Rattle.f3_kinds.specs.declared.things.Intrinsic.TheVariants as intrinsic_is
use Rattle.f3_kinds.specs.Things.{constant, variable, derived, subroutine, function, Context, Meaning, nothing, several, intrinsic, entity, meaning_of}
use Rattle.f3_kinds.specs.Typing.{said, said_arguments, designator_at}
use Rattle.f3_type_rules.specs.declared.definition.Holder.{Holder}
use Rattle.f3_type_rules.specs.Statements.{assigned_has, called_rows, moving_dummies, item_rows, item_breaks, act_breaks, number_defined, condition_breaks, number_breaks, variable_of, control_breaks}
use Rattle.f3_type_rules.specs.Cases.{selected_type, case_rows, Span, span_of, overlap_rows, all_values, defaults, default_rows, select_breaks}
use Rattle.f3_type_rules.specs.Definitions.{Site, holder_rows, link_rows, form_rows, definition_rows, called_impure, impure, act_definitions, in_loop}
use Rattle.f3_type_rules.specs.Associates.{constructs_of, constructs_of_branches, constructs_of_block, site_inside}
use Rattle.f3_type_rules.specs.Bodies.{act_rows, control_rows, selector_rows, statement_breaks, block_breaks, branch_breaks, other_breaks, case_breaks}
use Rattle.f3_phase_laws.proofs.Lists.{IsHere, is_timely, Timely, none, one, both, one_unless, each, lists}
use Rattle.f3_phase_laws.proofs.Expressions.{scalar_timely, call_timely, breaks_timely, arguments_timely, designator_breaks_timely}
use Rattle.f3_phase_laws.proofs.Declarations.{constant_timely}

-- ---- actions

assigned_timely : (p : Place) (v e : Option Has) → Timely 6 (assigned_has p v e)
assigned_timely p None e = none
assigned_timely p (Some v) None = none
assigned_timely p (Some v) (Some e) = search lists

called_timely : (moving : ℕ × ℕ) (n : Name) (m : Meaning) (gs : List Given) → Timely 6 (called_rows moving n m gs)
called_timely moving n nothing gs = one _ refl
called_timely moving n several gs = one _ refl
called_timely moving n (entity e (subroutine pure ds)) gs = call_timely n ds gs
called_timely moving n (entity e (constant o)) gs = one _ refl
called_timely moving n (entity e (variable o)) gs = one _ refl
called_timely moving n (entity e (derived home ks f)) gs = one _ refl
called_timely moving n (entity e (function pure ds o)) gs = one _ refl
called_timely moving n (intrinsic intrinsic_is.MoveAlloc) gs = call_timely n (moving_dummies moving gs) gs
called_timely moving n (intrinsic _) gs = one _ refl

item_rows_timely : (s : Said) → Timely 6 (item_rows s)
item_rows_timely s = search lists

item_timely : (c : Context) → IsHere 6 c.phase → (e : Tree) → Timely 6 (item_breaks c e)
item_timely c h (text p k) = none
item_timely c h e = both (breaks_timely c h e) (item_rows_timely (said c e))

number_defined_timely : (c : Context) → IsHere 6 c.phase → (v : Parts) → Timely 6 (number_defined c v)
number_defined_timely c h v = both (designator_breaks_timely c h role.Variable v) (scalar_timely wanted.Integer (designator_at c role.Variable v))

act_timely : (c : Context) → IsHere 6 c.phase → (a : Act) → Timely 6 (act_breaks c a)
act_timely c h (assign v e) = both (designator_breaks_timely c h role.Variable v) (both (breaks_timely c h e) (assigned_timely (said c e).place (designator_at c role.Variable v).has (said c e).has))
act_timely c h (call n list) = both (arguments_timely c h (arguments_of list)) (called_timely c.moving n (meaning_of c n.symbol) (said_arguments c (arguments_of list)))
act_timely c h (allocate vs stat) = search (lists, designator_breaks_timely c h role.Allocated, number_defined_timely c h)
act_timely c h (deallocate vs stat) = search (lists, designator_breaks_timely c h role.Deallocated, number_defined_timely c h)
act_timely c h (print es) = search (lists, item_timely c h)
act_timely c h _ = none

condition_timely : (c : Context) → IsHere 6 c.phase → (e : Tree) → Timely 6 (condition_breaks c e)
condition_timely c h e = both (breaks_timely c h e) (scalar_timely wanted.Logical (said c e))

number_timely : (c : Context) → IsHere 6 c.phase → (e : Tree) → Timely 6 (number_breaks c e)
number_timely c h e = both (breaks_timely c h e) (scalar_timely wanted.Integer (said c e))

control_timely : (c : Context) → IsHere 6 c.phase → (x : Controls) → Timely 6 (control_breaks c x)
control_timely c h forever = none
control_timely c h (while e) = condition_timely c h e
control_timely c h (counted n first last step) =
    both (number_defined_timely c h (variable_of n)) (both (number_timely c h first) (both (number_timely c h last) (search (lists, number_timely c h))))

-- ---- SELECT CASE

case_timely : (c : Context) → IsHere 6 c.phase → (t : Option DataType) (v : CaseTree) → Timely 6 (case_rows c t v)
case_timely c h t (one_value e) = constant_timely 6 refl c h _ e
case_timely c h t (from e) = constant_timely 6 refl c h _ e
case_timely c h t (up_to p e) = constant_timely 6 refl c h _ e
case_timely c h t (range e f) = both (constant_timely 6 refl c h _ e) (constant_timely 6 refl c h _ f)

overlap_timely : (c : Context) (t : Option DataType) (spans : List Span) (vs : List CaseTree) → Timely 6 (overlap_rows c t spans vs)
overlap_timely c t spans [] = none
overlap_timely c t spans (v ∷ vs) = both (one_unless _ _ refl) (overlap_timely c t (span_of c t v ∷ spans) vs)

places_timely : (f : Place → Break) → ((p : Place) → is_timely 6 (f p) ≡ true) → (ps : List Place) → Timely 6 (map f ps)
places_timely f h [] = none
places_timely f h (p ∷ ps) = both (one (f p) (h p)) (places_timely f h ps)

default_timely : (ps : List Place) → Timely 6 (default_rows ps)
default_timely [] = none
default_timely (p ∷ ps) = places_timely _ (λ p. refl) ps

select_timely : (c : Context) → IsHere 6 c.phase → (e : Tree) (cs : Cases) → Timely 6 (select_breaks c e cs)
select_timely c h e cs =
    let t : Option DataType = selected_type (said c e) in
    let values_timely = both (each (case_rows c t) (all_values cs) (case_timely c h t)) (both (overlap_timely c t [] (all_values cs)) (default_timely (defaults cs))) in
    both (breaks_timely c h e) (both (scalar_timely wanted.Intrinsic (said c e)) values_timely)

-- ---- definitions

holder_timely : (site : Site) (s : Said) (h : Holder) → Timely 6 (holder_rows site s h)
holder_timely site s h = search lists

link_timely : (site : Site) (s : Said) (e : ℕ) → Timely 6 (link_rows site s e)
link_timely site s e = search (lists, holder_timely)

form_timely : (site : Site) (s : Said) (f : Form) → Timely 6 (form_rows site s f)
form_timely site s (Variable e) = search (lists, link_timely)
form_timely site s Computed = one _ refl
form_timely site s Constant = one _ refl

definition_timely : (site : Site) (s : Said) → Timely 6 (definition_rows site s)
definition_timely site s = search (lists, form_timely)

called_impure_timely : (n : Name) (m : Meaning) → Timely 6 (called_impure n m)
called_impure_timely n (entity e (subroutine false ds)) = one _ refl
called_impure_timely n (entity e (subroutine true ds)) = none
called_impure_timely n (entity e (constant o)) = none
called_impure_timely n (entity e (variable o)) = none
called_impure_timely n (entity e (derived home ks f)) = none
called_impure_timely n (entity e (function pure ds o)) = none
called_impure_timely n (intrinsic i) = none
called_impure_timely n nothing = none
called_impure_timely n several = none

impure_timely : (c : Context) (p : Place) (a : Act) → Timely 6 (impure c p a)
impure_timely c p (print es) = one _ refl
impure_timely c p (stop digits) = one _ refl
impure_timely c p (call n list) = called_impure_timely n (meaning_of c n.symbol)
impure_timely c p _ = none

act_definitions_timely : (site : Site) (p : Place) (a : Act) → Timely 6 (act_definitions site p a)
act_definitions_timely site p a = search (lists, definition_timely, impure_timely)

-- ---- statements and blocks

act_rows_timely : (site : Site) → IsHere 6 (site.context).phase → (p : Place) (a : Act) → Timely 6 (act_rows site p a)
act_rows_timely site h p a = both (act_timely site.context h a) (act_definitions_timely site p a)

control_rows_timely : (site : Site) → IsHere 6 (site.context).phase → (x : Controls) → Timely 6 (control_rows site x)
control_rows_timely site h x = both (control_timely site.context h x) (search (lists, definition_timely))

selectors_timely : (site : Site) → IsHere 6 (site.context).phase → (xs : List AssociationTree) → Timely 6 (selector_rows site xs)
selectors_timely site h xs = search (lists, breaks_timely site.context h)

mutual
  statement_timely : (site : Site) → IsHere 6 (site.context).phase → (next : ℕ) (s : StatementTree) → Timely 6 (statement_breaks site next s)
  statement_timely site h next (acts p a) = act_rows_timely site h p a
  statement_timely site h next (acts_if p e q a) = both (condition_timely site.context h e) (act_rows_timely site h q a)
  statement_timely site h next (branches bs other) = both (branches_timely site h next bs) (other_timely site h (next + length (constructs_of_branches bs)) other)
  statement_timely site h next (selects p e cs) = both (select_timely site.context h e cs) (cases_timely site h next cs)
  statement_timely site h next (repeats p x body) = both (control_rows_timely site h x) (block_timely (in_loop site x) h next body)
  statement_timely site h next (associates p xs body) = both (selectors_timely site h xs) (block_timely (site_inside next xs site) h (next + 1) body)

  pub block_timely : (site : Site) → IsHere 6 (site.context).phase → (next : ℕ) (b : Block) → Timely 6 (block_breaks site next b)
  block_timely site h next no_statements = none
  block_timely site h next (statements s b) = both (statement_timely site h next s) (block_timely site h (next + length (constructs_of s)) b)

  branches_timely : (site : Site) → IsHere 6 (site.context).phase → (next : ℕ) (bs : Branches) → Timely 6 (branch_breaks site next bs)
  branches_timely site h next no_branches = none
  branches_timely site h next (branch p e b bs) =
      both (condition_timely site.context h e) (both (block_timely site h next b) (branches_timely site h (next + length (constructs_of_block b)) bs))

  other_timely : (site : Site) → IsHere 6 (site.context).phase → (next : ℕ) (o : Alternative) → Timely 6 (other_breaks site next o)
  other_timely site h next no_alternative = none
  other_timely site h next (alternative b) = block_timely site h next b

  cases_timely : (site : Site) → IsHere 6 (site.context).phase → (next : ℕ) (cs : Cases) → Timely 6 (case_breaks site next cs)
  cases_timely site h next no_cases = none
  cases_timely site h next (case_block p vs b cs) = both (block_timely site h next b) (cases_timely site h (next + length (constructs_of_block b)) cs)
