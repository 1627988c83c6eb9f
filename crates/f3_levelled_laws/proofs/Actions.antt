-- What tokens spell as an action, or as the head of a construct, has expressions with operators of one sort.
use Rattle.std.proofs.Common.{◌≡◌, List, [], ◌∷◌, Option, Some, None, sym, subst, inl, inr}
use Rattle.f3_tree.specs.Expressions.{Tree, Parts, ArgumentTree, arguments_of}
use Rattle.f3_tree.specs.Statements.{Act, assign, call, allocate, deallocate, print, stop, return, cycle, exit, continue}
use Rattle.f3_tree.specs.Statements.{Controls, forever, counted, while, AssociationTree}
use Rattle.f3_words.specs.declared.item.Keyword.{Keyword}
use Rattle.f3_words.specs.declared.item.Keyword.TheVariants as keyword
use Rattle.f3_words.specs.declared.item.Item.{Item}
use Rattle.f3_expressions.specs.Grammar.{EatsExpression}
use Rattle.f3_actions.specs.Actions.{IsAssignment, IsCallArguments, IsCall, EatsObject, EatsStatus, EatsObjects, AreObjects, IsAllocation, IsAllocate}
use Rattle.f3_actions.specs.Actions.{IsDeallocate, AreItems, EatsItems, IsPrint, IsStop, IsActionOf, IsHeadedAction, IsAction, EatsCondition}
use Rattle.f3_actions.specs.Actions.{IsCondition, IsThen, EatsStepPerhaps, IsSteps, IsCounted, IsWhile, IsControl, IsDo, EatsAssociation}
use Rattle.f3_actions.specs.Actions.{AreAssociations, IsAssociate}
use Rattle.f3_meaning_whole.specs.Permitted.{Each}
use Rattle.f3_formed_laws.specs.Levels.{IsLevelled, ArePartsLevelled, AreArgumentsLevelled, IsStatLevelled, IsActLevelled, IsStepLevelled, IsControlLevelled}
use Rattle.f3_spelled_laws.proofs.Lists.{each_list}
use Rattle.f3_levelled_laws.proofs.Expressions.{expression, variable, given}

-- what is made of such parts
made : (a b : Act) → a ≡ b → IsActLevelled b → IsActLevelled a
made a b same h = subst IsActLevelled (sym same) h

assignment : (a : Act) (ts : List Item) → IsAssignment a ts → IsActLevelled a
unfolding IsAssignment
assignment a ts h = made a (assign h.0 h.1) h.7 (variable h.0 ts h.2 h.4, expression h.1 h.3 [] h.6)

-- ---- CALL

called_with : (xs : List ArgumentTree) (ts : List Item) → IsCallArguments xs ts → AreArgumentsLevelled (arguments_of xs)
unfolding IsCallArguments
called_with xs ts (inl h) = subst (λ (l : List ArgumentTree). AreArgumentsLevelled (arguments_of l)) (sym h.1) tt
called_with xs ts (inr h) = given xs ts [] h.1

calls : (a : Act) (ts : List Item) → IsCall a ts → IsActLevelled a
unfolding IsCall
calls a ts h = made a (call h.0 h.1) h.5 (called_with h.1 h.2 h.4)

-- ---- ALLOCATE and DEALLOCATE

object : (v : Parts) (ts r : List Item) → EatsObject v ts r → ArePartsLevelled v
unfolding EatsObject
object v ts r h = variable v ts r h.0

status : (stat : Option Parts) (ts r : List Item) → EatsStatus stat ts r → IsStatLevelled stat
unfolding EatsStatus
status None ts r h = tt
status (Some v) ts r h = variable v h.1 r h.4

objects : (vs : List Parts) (stat : Option Parts) (ts r : List Item) → EatsObjects vs stat ts r → Each ArePartsLevelled vs × IsStatLevelled stat
objects [] stat ts r h = absurd h
objects (v ∷ []) stat ts r h = ((object v ts h.0 h.1, tt), status stat h.0 r h.2)
objects (v ∷ w ∷ vs) stat ts r h =
    let others = objects (w ∷ vs) stat h.1 r h.4 in
    ((object v ts h.0 h.2, others.0), others.1)

allocation : (x : List Parts × Option Parts) (ts : List Item) → IsAllocation x ts → Each ArePartsLevelled x.0 × IsStatLevelled x.1
unfolding IsAllocation AreObjects
allocation x ts h = objects x.0 x.1 h.0 h.1 h.3

allocates : (a : Act) (ts : List Item) → IsAllocate a ts → IsActLevelled a
unfolding IsAllocate
allocates a ts h = made a (allocate (h.0).0 (h.0).1) h.2 (allocation h.0 ts h.1)

deallocates : (a : Act) (ts : List Item) → IsDeallocate a ts → IsActLevelled a
unfolding IsDeallocate
deallocates a ts h = made a (deallocate (h.0).0 (h.0).1) h.2 (allocation h.0 ts h.1)

-- ---- PRINT and STOP

items : (es : List Tree) (ts r : List Item) → EatsItems es ts r → Each IsLevelled es
unfolding EatsItems AreItems
items es ts r (inl h) = each_list IsLevelled EatsExpression expression es h.0 r h.2
items es ts r (inr h) = subst (Each IsLevelled) (sym h.0) tt

prints : (a : Act) (ts : List Item) → IsPrint a ts → IsActLevelled a
unfolding IsPrint
prints a ts h = made a (print h.0) h.4 (items h.0 h.1 [] h.3)

stops : (a : Act) (ts : List Item) → IsStop a ts → IsActLevelled a
unfolding IsStop
stops a ts (inl h) = made a (stop None) h.1 tt
stops a ts (inr h) = made a (stop (Some h.1)) h.4 tt

-- ---- all actions

action_of : (k : Keyword) (a : Act) (ts : List Item) → IsActionOf k a ts → IsActLevelled a
action_of keyword.Call a ts h = calls a ts h
action_of keyword.Allocate a ts h = allocates a ts h
action_of keyword.Deallocate a ts h = deallocates a ts h
action_of keyword.Print a ts h = prints a ts h
action_of keyword.Stop a ts h = stops a ts h
action_of keyword.Return a ts h = made a return h.1 tt
action_of keyword.Cycle a ts h = made a cycle h.1 tt
action_of keyword.Exit a ts h = made a exit h.1 tt
action_of keyword.Continue a ts h = made a continue h.1 tt
action_of k a ts h = absurd h

pub action : (a : Act) (ts : List Item) → IsAction a ts → IsActLevelled a
unfolding IsAction IsHeadedAction
action a ts (inl h) = assignment a ts h
action a ts (inr h) = let g = h.1 in action_of g.1 a g.2 g.5

-- ---- conditions

pub condition_before : (e : Tree) (ts r : List Item) → EatsCondition e ts r → IsLevelled e
unfolding EatsCondition
condition_before e ts r h = expression e h.0 h.1 h.3

pub condition : (e : Tree) (ts : List Item) → IsCondition e ts → IsLevelled e
unfolding IsCondition
condition e ts h = condition_before e ts [] h

pub then : (e : Tree) (ts : List Item) → IsThen e ts → IsLevelled e
unfolding IsThen
then e ts h = condition_before e ts h.0 h.1

-- ---- controls

step : (x : Option Tree) (ts r : List Item) → EatsStepPerhaps x ts r → IsStepLevelled x
unfolding EatsStepPerhaps
step None ts r h = tt
step (Some e) ts r h = expression e h.0 r h.2

abbrev AreStepsLevelled : Tree × Tree × Option Tree → Type 0
AreStepsLevelled x = IsLevelled x.0 × IsLevelled x.1 × IsStepLevelled x.2

steps : (x : Tree × Tree × Option Tree) (ts : List Item) → IsSteps x ts → AreStepsLevelled x
unfolding IsSteps
steps x ts h = subst AreStepsLevelled (sym h.10) (expression h.0 ts h.3 h.6, expression h.1 h.4 h.5 h.8, step h.2 h.5 [] h.9)

made_control : (x y : Controls) → x ≡ y → IsControlLevelled y → IsControlLevelled x
made_control x y same h = subst IsControlLevelled (sym same) h

control : (x : Controls) (ts : List Item) → IsControl x ts → IsControlLevelled x
unfolding IsControl IsWhile IsCounted
control x ts (inl h) = made_control x (while h.0) h.4 (condition h.0 h.1 h.3)
control x ts (inr h) = let g = h.1 in made_control x (counted g.0 (g.1).0 (g.1).1 (g.1).2) g.7 (steps g.1 g.3 g.6)

pub loop : (x : Controls) (ts : List Item) → IsDo x ts → IsControlLevelled x
unfolding IsDo
loop x ts (inl h) = made_control x forever h.1 tt
loop x ts (inr h) = control x ts h.1

-- ---- associations

abbrev pub IsSelectorLevelled : AssociationTree → Type 0
IsSelectorLevelled x = IsLevelled x.selector

association : (x : AssociationTree) (ts r : List Item) → EatsAssociation x ts r → IsSelectorLevelled x
unfolding EatsAssociation
association x ts r h = subst IsSelectorLevelled (sym h.7) (expression h.1 h.3 r h.6)

pub associations : (xs : List AssociationTree) (ts : List Item) → IsAssociate xs ts → Each IsSelectorLevelled xs
unfolding IsAssociate AreAssociations
associations xs ts h = each_list IsSelectorLevelled EatsAssociation association xs h.0 h.1 h.3
