-- What tokens spell as an action, or as the head of a construct, has literals of at most 64 bits.
use Rattle.std.proofs.Common.{◌≡◌, List, [], ◌∷◌, Option, Some, None, sym, subst, inl, inr}
use Rattle.f3_tree.specs.declared.expression.Name.{Name as Identifier}
use Rattle.f3_tree.specs.Expressions.{Tree, Parts, ArgumentTree, arguments_of}
use Rattle.f3_tree.specs.Statements.{Act, assign, call, allocate, deallocate, print, stop, return, cycle, exit, continue}
use Rattle.f3_tree.specs.Statements.{CaseTree, one, from, up_to, range, Selects, Controls, forever, counted, while, AssociationTree}
use Rattle.f3_words.specs.declared.item.Keyword.{Keyword}
use Rattle.f3_words.specs.declared.item.Keyword.TheVariants as keyword
use Rattle.f3_words.specs.declared.item.Word.{Word}
use Rattle.f3_words.specs.declared.item.Item.{Item}
use Rattle.f3_words.specs.Lists.{is_comma, EatsRun, Separated, EatsList}
use Rattle.f3_reading.specs.Parts.{EatsWord, EatsName}
use Rattle.f3_expressions.specs.Grammar.{EatsExpression}
use Rattle.f3_actions.specs.Actions.{IsAssignment, IsCallArguments, IsCall, EatsStatusHead, EatsObject, EatsStatus, EatsObjects, AreObjects, IsAllocation, IsAllocate}
use Rattle.f3_actions.specs.Actions.{IsDeallocate, AreItems, EatsItems, IsPrint, IsStop, IsActionOf, IsHeadedAction, IsAction, EatsCondition}
use Rattle.f3_actions.specs.Actions.{IsCondition, IsThen, EatsCase, AreCases, IsCaseList, IsDefault, AreValues, IsCase, EatsStepPerhaps, IsSteps, IsCounted, IsWhile}
use Rattle.f3_actions.specs.Actions.{IsControl, IsDo, EatsAssociation, AreAssociations, IsAssociate}
use Rattle.f3_meaning_whole.specs.Permitted.{Each}
use Rattle.f3_spelled_laws.proofs.Expressions as written
use Rattle.f3_spelled_laws.proofs.Lists.{each_list}
use Rattle.f3_levelled_laws.proofs.Expressions as levelled
use Rattle.f3_fitting_laws.specs.Bounded.{IsBounded, ArePartsBounded, AreArgumentsBounded, IsStatBounded, IsActBounded, IsStepBounded, IsControlBounded}
use Rattle.f3_fitting_laws.specs.Bounded.{IsValueSpelled, IsCaseSpelled, AreValuesSpelled}
use Rattle.f3_bounded_laws.proofs.Tokens.{AreWords}
use Rattle.f3_bounded_laws.proofs.Expressions.{expression, variable, given}

-- ---- tokens behind others

pub behind : (x : Word) (ts r : List Item) → EatsWord x ts r → AreWords ts → AreWords r
unfolding EatsWord
behind x ts r h w = let v : AreWords (h.0 ∷ r) = subst AreWords h.1 w in v.1

behind_name : (n : Identifier) (ts r : List Item) → EatsName n ts r → AreWords ts → AreWords r
unfolding EatsName
behind_name n ts r h w = let v : AreWords (h.0 ∷ r) = subst AreWords h.1 w in v.1

-- each element of a list, where the tokens behind one are as those before it
module _ {A : Type 0} (P : A → Type 0) (Is : A → List Item → List Item → Type 0)
    (sure : (x : A) (ts r : List Item) → AreWords ts → Is x ts r → P x × AreWords r) where
  each_run : (xs : List A) (ts r : List Item) → AreWords ts → EatsRun is_comma (Separated Is) xs ts r → Each P xs
  each_run [] ts r w h = tt
  each_run (x ∷ xs) ts r w h =
      let v : AreWords (h.0 ∷ h.1) = subst AreWords h.3 w in
      let a = sure x h.1 h.2 v.1 h.5 in
      (a.0, each_run xs h.2 r a.1 h.6)

  each_word : (xs : List A) (ts r : List Item) → AreWords ts → EatsList Is xs ts r → Each P xs
  each_word xs ts r w h =
      let a = sure h.0 ts h.2 w h.4 in
      subst (Each P) (sym h.3) (a.0, each_run h.1 h.2 r a.1 h.5)

-- what is made of such parts
made : (a b : Act) → a ≡ b → IsActBounded b → IsActBounded a
made a b same h = subst IsActBounded (sym same) h

assignment : (a : Act) (ts : List Item) → AreWords ts → IsAssignment a ts → IsActBounded a
unfolding IsAssignment
assignment a ts w h =
    let v = variable h.0 ts h.2 w h.4 in
    made a (assign h.0 h.1) h.7 (v.0, (expression h.1 h.3 [] (behind _ h.2 h.3 h.5 v.1) h.6).0)

-- ---- CALL

called_with : (xs : List ArgumentTree) (ts : List Item) → AreWords ts → IsCallArguments xs ts → AreArgumentsBounded (arguments_of xs)
unfolding IsCallArguments
called_with xs ts w (inl h) = subst (λ (l : List ArgumentTree). AreArgumentsBounded (arguments_of l)) (sym h.1) tt
called_with xs ts w (inr h) = (given xs ts [] w h.1).0

calls : (a : Act) (ts : List Item) → AreWords ts → IsCall a ts → IsActBounded a
unfolding IsCall
calls a ts w h = made a (call h.0 h.1) h.5 (called_with h.1 h.2 (behind_name h.0 ts h.2 h.3 w) h.4)

-- ---- ALLOCATE and DEALLOCATE

object : (v : Parts) (ts r : List Item) → AreWords ts → EatsObject v ts r → ArePartsBounded v × AreWords r
unfolding EatsObject
object v ts r w h = variable v ts r w h.0

status_head : (ts r : List Item) → EatsStatusHead ts r → AreWords ts → AreWords r
unfolding EatsStatusHead
status_head ts r h w = behind _ h.0 r h.2 (behind _ ts h.0 h.1 w)

status : (stat : Option Parts) (ts r : List Item) → AreWords ts → EatsStatus stat ts r → IsStatBounded stat
unfolding EatsStatus
status None ts r w h = tt
status (Some v) ts r w h = (variable v h.1 r (status_head h.0 h.1 h.3 (behind _ ts h.0 h.2 w)) h.4).0

objects : (vs : List Parts) (stat : Option Parts) (ts r : List Item) → AreWords ts → EatsObjects vs stat ts r → Each ArePartsBounded vs × IsStatBounded stat
objects [] stat ts r w h = absurd h
objects (v ∷ []) stat ts r w h =
    let a = object v ts h.0 w h.1 in
    ((a.0, tt), status stat h.0 r a.1 h.2)
objects (v ∷ x ∷ vs) stat ts r w h =
    let a = object v ts h.0 w h.2 in
    let others = objects (x ∷ vs) stat h.1 r (behind _ h.0 h.1 h.3 a.1) h.4 in
    ((a.0, others.0), others.1)

allocation : (x : List Parts × Option Parts) (ts : List Item) → AreWords ts → IsAllocation x ts → Each ArePartsBounded x.0 × IsStatBounded x.1
unfolding IsAllocation AreObjects
allocation x ts w h = objects x.0 x.1 h.0 h.1 (behind _ ts h.0 h.2 w) h.3

allocates : (a : Act) (ts : List Item) → AreWords ts → IsAllocate a ts → IsActBounded a
unfolding IsAllocate
allocates a ts w h = made a (allocate (h.0).0 (h.0).1) h.2 (allocation h.0 ts w h.1)

deallocates : (a : Act) (ts : List Item) → AreWords ts → IsDeallocate a ts → IsActBounded a
unfolding IsDeallocate
deallocates a ts w h = made a (deallocate (h.0).0 (h.0).1) h.2 (allocation h.0 ts w h.1)

-- ---- PRINT and STOP

items : (es : List Tree) (ts r : List Item) → AreWords ts → EatsItems es ts r → Each IsBounded es
unfolding EatsItems AreItems
items es ts r w (inl h) = each_word IsBounded EatsExpression expression es h.0 r (behind _ ts h.0 h.1 w) h.2
items es ts r w (inr h) = subst (Each IsBounded) (sym h.0) tt

prints : (a : Act) (ts : List Item) → AreWords ts → IsPrint a ts → IsActBounded a
unfolding IsPrint
prints a ts w h = made a (print h.0) h.4 (items h.0 h.1 [] (behind _ ts h.1 h.2 w) h.3)

stops : (a : Act) (ts : List Item) → IsStop a ts → IsActBounded a
unfolding IsStop
stops a ts (inl h) = made a (stop None) h.1 tt
stops a ts (inr h) = made a (stop (Some h.1)) h.4 tt

-- ---- all actions

action_of : (k : Keyword) (a : Act) (ts : List Item) → AreWords ts → IsActionOf k a ts → IsActBounded a
action_of keyword.Call a ts w h = calls a ts w h
action_of keyword.Allocate a ts w h = allocates a ts w h
action_of keyword.Deallocate a ts w h = deallocates a ts w h
action_of keyword.Print a ts w h = prints a ts w h
action_of keyword.Stop a ts w h = stops a ts h
action_of keyword.Return a ts w h = made a return h.1 tt
action_of keyword.Cycle a ts w h = made a cycle h.1 tt
action_of keyword.Exit a ts w h = made a exit h.1 tt
action_of keyword.Continue a ts w h = made a continue h.1 tt
action_of k a ts w h = absurd h

pub action : (a : Act) (ts : List Item) → AreWords ts → IsAction a ts → IsActBounded a
unfolding IsAction IsHeadedAction
action a ts w (inl h) = assignment a ts w h
action a ts w (inr h) =
    let g = h.1 in
    let v : AreWords (g.0 ∷ g.2) = subst AreWords g.3 w in
    action_of g.1 a g.2 v.1 g.5

-- ---- conditions

pub condition_before : (e : Tree) (ts r : List Item) → AreWords ts → EatsCondition e ts r → IsBounded e × AreWords r
unfolding EatsCondition
condition_before e ts r w h =
    let a = expression e h.0 h.1 (behind _ ts h.0 h.2 w) h.3 in
    (a.0, behind _ h.1 r h.4 a.1)

pub condition : (e : Tree) (ts : List Item) → AreWords ts → IsCondition e ts → IsBounded e
unfolding IsCondition
condition e ts w h = (condition_before e ts [] w h).0

pub then : (e : Tree) (ts : List Item) → AreWords ts → IsThen e ts → IsBounded e
unfolding IsThen
then e ts w h = (condition_before e ts h.0 w h.1).0

-- ---- the values of a CASE

spelled : (e : Tree) (ts r : List Item) → EatsExpression e ts r → IsValueSpelled e
spelled e ts r h = (written.expression e ts r h, levelled.expression e ts r h)

one_case : (x : CaseTree) (ts r : List Item) → EatsCase x ts r → IsCaseSpelled x
unfolding EatsCase
one_case (one e) ts r h = spelled e ts r h.1
one_case (from e) ts r h = spelled e ts h.0 h.2
one_case (range e f) ts r h = (spelled e ts h.0 h.3, spelled f h.1 r h.6)
one_case (up_to p f) ts r h = spelled f h.1 r h.5

case_list : (cs : List CaseTree) (ts : List Item) → IsCaseList cs ts → Each IsCaseSpelled cs
unfolding IsCaseList AreCases
case_list cs ts h = each_list IsCaseSpelled EatsCase one_case cs h.0 h.1 h.3

pub case_values : (x : Selects) (ts : List Item) → IsCase x ts → AreValuesSpelled x
unfolding IsCase IsDefault AreValues
case_values x ts (inl h) = subst AreValuesSpelled (sym h.1) tt
case_values x ts (inr h) = let g = h.1 in subst AreValuesSpelled (sym g.2) (case_list g.0 ts g.1)

-- ---- controls

step : (x : Option Tree) (ts r : List Item) → AreWords ts → EatsStepPerhaps x ts r → IsStepBounded x
unfolding EatsStepPerhaps
step None ts r w h = tt
step (Some e) ts r w h = (expression e h.0 r (behind _ ts h.0 h.1 w) h.2).0

abbrev AreStepsBounded : Tree × Tree × Option Tree → Type 0
AreStepsBounded x = IsBounded x.0 × IsBounded x.1 × IsStepBounded x.2

steps : (x : Tree × Tree × Option Tree) (ts : List Item) → AreWords ts → IsSteps x ts → AreStepsBounded x
unfolding IsSteps
steps x ts w h =
    let a = expression h.0 ts h.3 w h.6 in
    let b = expression h.1 h.4 h.5 (behind _ h.3 h.4 h.7 a.1) h.8 in
    subst AreStepsBounded (sym h.10) (a.0, b.0, step h.2 h.5 [] b.1 h.9)

made_control : (x y : Controls) → x ≡ y → IsControlBounded y → IsControlBounded x
made_control x y same h = subst IsControlBounded (sym same) h

control : (x : Controls) (ts : List Item) → AreWords ts → IsControl x ts → IsControlBounded x
unfolding IsControl IsWhile IsCounted
control x ts w (inl h) = made_control x (while h.0) h.4 (condition h.0 h.1 (behind _ ts h.1 h.2 w) h.3)
control x ts w (inr h) =
    let g = h.1 in
    made_control x (counted g.0 (g.1).0 (g.1).1 (g.1).2) g.7 (steps g.1 g.3 (behind _ g.2 g.3 g.5 (behind_name g.0 ts g.2 g.4 w)) g.6)

pub loop : (x : Controls) (ts : List Item) → AreWords ts → IsDo x ts → IsControlBounded x
unfolding IsDo
loop x ts w (inl h) = made_control x forever h.1 tt
loop x ts w (inr h) = control x ts w h.1

-- ---- associations

abbrev pub IsSelectorBounded : AssociationTree → Type 0
IsSelectorBounded x = IsBounded x.selector

association : (x : AssociationTree) (ts r : List Item) → AreWords ts → EatsAssociation x ts r → IsSelectorBounded x × AreWords r
unfolding EatsAssociation
association x ts r w h =
    let a = expression h.1 h.3 r (behind _ h.2 h.3 h.5 (behind_name h.0 ts h.2 h.4 w)) h.6 in
    (subst IsSelectorBounded (sym h.7) a.0, a.1)

pub associations : (xs : List AssociationTree) (ts : List Item) → AreWords ts → IsAssociate xs ts → Each IsSelectorBounded xs
unfolding IsAssociate AreAssociations
associations xs ts w h = each_word IsSelectorBounded EatsAssociation association xs h.0 h.1 (behind _ ts h.0 h.2 w) h.3
