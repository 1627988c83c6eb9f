-- Actions are spelled in one way.
use Rattle.std.proofs.Common.{◌≡◌, ℤ, List, [], ◌∷◌, Option, Some, None, refl, sym, ap, subst, ◌∙◌, inl, inr}
use Rattle.f3_tree.specs.declared.expression.Name.{Name as Identifier}
use Rattle.f3_tree.specs.declared.expression.Operator.TheVariants.{Multiply}
use Rattle.f3_tree.specs.Expressions.{Tree, Parts, ArgumentTree}
use Rattle.f3_tree.specs.Statements.{assign, call, allocate, deallocate, print, stop}
use Rattle.f3_words.specs.declared.item.Keyword.{Keyword}
use Rattle.f3_words.specs.declared.item.Keyword.TheVariants as keyword
use Rattle.f3_words.specs.declared.item.Word.TheVariants as word
use Rattle.f3_words.specs.declared.item.Item.{Item}
use Rattle.f3_reading.specs.Parts.{EatsWord}
use Rattle.f3_reading.specs.Laws.{IsOne, IsOneWhole}
use Rattle.f3_reading.proofs.Words.{lacked}
use Rattle.f3_reading.proofs.Ones.{names, lists, enclosed, behind_comma}
use Rattle.f3_expressions.specs.Grammar.{EatsExpression, EatsDesignator}
use Rattle.f3_actions.specs.Actions.{IsAssignment, IsCallArguments, IsCall, EatsStatusHead, EatsObject, EatsStatus, EatsObjects, AreObjects, IsAllocation, IsAllocate, IsDeallocate, AreItems, EatsItems, IsPrint, stop_code, IsStop, IsActionOf, IsHeadedAction, IsAction}
use Rattle.f3_grammar_laws.proofs.Parts.{ap2, along, whole_along, sign, sign_along, front, at_keyword_whole, first_of}
use Rattle.f3_grammar_laws.proofs.Ones.{expressions, designators, argument_lists}

assignments : IsOneWhole IsAssignment
unfolding IsAssignment
assignments x y ts a b =
    let v = designators a.0 b.0 ts a.2 b.2 a.4 b.4 in
    let equals = sign_along word.Equals a.2 b.2 a.3 b.3 v.1 a.5 b.5 in
    let e = along EatsExpression expressions a.1 b.1 a.3 b.3 [] [] equals a.6 b.6 in
    a.7 ∙ ap2 (λ (z : Parts) (w : Tree). assign z w) v.0 e.0 ∙ sym b.7

-- ---- CALL

call_arguments : IsOneWhole IsCallArguments
unfolding IsCallArguments
call_arguments xs ys ts (inl a) (inl b) = a.1 ∙ sym b.1
call_arguments xs ys ts (inl a) (inr b) = absurd (b.0 a.0)
call_arguments xs ys ts (inr a) (inl b) = absurd (a.0 b.0)
call_arguments xs ys ts (inr a) (inr b) = (argument_lists xs ys ts [] [] a.1 b.1).0

calls : IsOneWhole IsCall
unfolding IsCall
calls x y ts a b =
    let n = names a.0 b.0 ts a.2 b.2 a.3 b.3 in
    let xs = whole_along IsCallArguments call_arguments a.1 b.1 a.2 b.2 n.1 a.4 b.4 in
    a.5 ∙ ap2 (λ (z : Identifier) (zs : List ArgumentTree). call z zs) n.0 xs ∙ sym b.5

-- ---- ALLOCATE and DEALLOCATE

status_heads : (ts r s : List Item) → EatsStatusHead ts r → EatsStatusHead ts s → r ≡ s
unfolding EatsStatusHead
status_heads ts r s a b =
    let stat = sign (word.Name keyword.Stat) ts a.0 b.0 a.1 b.1 in
    sign_along word.Equals a.0 b.0 r s stat a.2 b.2

objects : IsOne EatsObject
unfolding EatsObject
objects v w ts r s a b = designators v w ts r s a.0 b.0

statuses : IsOne EatsStatus
unfolding EatsStatus
statuses None None ts r s a b = (refl, sym a.0 ∙ b.0)
statuses None (Some w) ts r s a b = absurd (lacked word.Comma ts b.0 a.1 b.2)
statuses (Some v) None ts r s a b = absurd (lacked word.Comma ts a.0 b.1 a.2)
statuses (Some v) (Some w) ts r s a b =
    let comma = sign word.Comma ts a.0 b.0 a.2 b.2 in
    let head = status_heads b.0 a.1 b.1 (subst (λ (l : List Item). EatsStatusHead l a.1) comma a.3) b.3 in
    let o = along EatsDesignator designators v w a.1 b.1 r s head a.4 b.4 in
    (ap (λ (z : Parts). Some z) o.0, o.1)

no_object : (v : Parts) (ts r a : List Item) → EatsObject v ts r → EatsStatusHead ts a → ⊥
unfolding EatsObject
no_object v ts r a h = h.1 a

-- no object stands where the status stands
no_objects : (v : Parts) (vs : List Parts) (stat : Option Parts) (ts r a : List Item) → EatsObjects (v ∷ vs) stat ts r → EatsStatusHead ts a → ⊥
no_objects v [] stat ts r a h = no_object v ts h.0 a h.1
no_objects v (w ∷ ws) stat ts r a h = no_object v ts h.0 a h.2

-- what stands behind the last object is no further one
last_object : (stat x : Option Parts) (v : Parts) (vs : List Parts) (ts r tail s : List Item) → EatsStatus stat ts r → EatsWord word.Comma ts tail → EatsObjects (v ∷ vs) x tail s → ⊥
unfolding EatsStatus
last_object None x v vs ts r tail s a comma h = lacked word.Comma ts tail a.1 comma
last_object (Some w) x v vs ts r tail s a comma h =
    no_objects v vs x tail s a.1 h (subst (λ (l : List Item). EatsStatusHead l a.1) (sign word.Comma ts a.0 tail a.2 comma) a.3)

all_objects : (vs ws : List Parts) (x y : Option Parts) (ts r s : List Item) → EatsObjects vs x ts r → EatsObjects ws y ts s → (vs ≡ ws) × (x ≡ y) × (r ≡ s)
all_objects [] ws x y ts r s a b = absurd a
all_objects (v ∷ []) [] x y ts r s a b = absurd b
all_objects (v ∷ v' ∷ vs) [] x y ts r s a b = absurd b
all_objects (v ∷ []) (w ∷ []) x y ts r s a b =
    let o = objects v w ts a.0 b.0 a.1 b.1 in
    let stat = along EatsStatus statuses x y a.0 b.0 r s o.1 a.2 b.2 in
    (ap (λ (z : Parts). z ∷ []) o.0, stat.0, stat.1)
all_objects (v ∷ []) (w ∷ w' ∷ ws) x y ts r s a b =
    let o = objects v w ts a.0 b.0 a.1 b.2 in
    absurd (last_object x y w' ws b.0 r b.1 s (subst (λ (l : List Item). EatsStatus x l r) o.1 a.2) b.3 b.4)
all_objects (v ∷ v' ∷ vs) (w ∷ []) x y ts r s a b =
    let o = objects w v ts b.0 a.0 b.1 a.2 in
    absurd (last_object y x v' vs a.0 s a.1 r (subst (λ (l : List Item). EatsStatus y l s) o.1 b.2) a.3 a.4)
all_objects (v ∷ v' ∷ vs) (w ∷ w' ∷ ws) x y ts r s a b =
    let o = objects v w ts a.0 b.0 a.2 b.2 in
    let comma = sign_along word.Comma a.0 b.0 a.1 b.1 o.1 a.3 b.3 in
    let rest = all_objects (v' ∷ vs) (w' ∷ ws) x y b.1 r s (subst (λ (l : List Item). EatsObjects (v' ∷ vs) x l r) comma a.4) b.4 in
    (ap2 (λ (z : Parts) (zs : List Parts). z ∷ zs) o.0 rest.0, rest.1, rest.2)

abbrev paired : List Parts → Option Parts → List Parts × Option Parts
paired vs stat = (vs, stat)

object_lists : IsOne AreObjects
unfolding AreObjects
object_lists x y ts r s a b = let o = all_objects x.0 y.0 x.1 y.1 ts r s a b in (ap2 paired o.0 o.1, o.2)

allocations : IsOneWhole IsAllocation
unfolding IsAllocation
allocations x y ts a b = (enclosed AreObjects object_lists x y ts [] [] a b).0

allocates : IsOneWhole IsAllocate
unfolding IsAllocate
allocates x y ts a b = a.2 ∙ ap (λ (z : List Parts × Option Parts). allocate z.0 z.1) (allocations a.0 b.0 ts a.1 b.1) ∙ sym b.2

deallocates : IsOneWhole IsDeallocate
unfolding IsDeallocate
deallocates x y ts a b = a.2 ∙ ap (λ (z : List Parts × Option Parts). deallocate z.0 z.1) (allocations a.0 b.0 ts a.1 b.1) ∙ sym b.2

-- ---- PRINT and STOP

item_lists : IsOne AreItems
unfolding AreItems
item_lists xs ys ts r s a b = lists EatsExpression expressions xs ys ts r s a b

items : IsOne EatsItems
unfolding EatsItems
items xs ys ts r s a b = behind_comma AreItems item_lists xs ys ts r s a b

prints : IsOneWhole IsPrint
unfolding IsPrint
prints x y ts a b =
    let star = sign (word.Operator Multiply) ts a.1 b.1 a.2 b.2 in
    let es = along EatsItems items a.0 b.0 a.1 b.1 [] [] star a.3 b.3 in
    a.4 ∙ ap (λ (zs : List Tree). print zs) es.0 ∙ sym b.4

some_item : (i : Item) (ts us : List Item) → us ≡ [] → us ≡ i ∷ ts → ⊥
some_item i ts us p q = cc

stops : IsOneWhole IsStop
unfolding IsStop
stops x y ts (inl a) (inl b) = a.1 ∙ sym b.1
stops x y ts (inl a) (inr b) = absurd (some_item b.0 [] ts a.0 b.2)
stops x y ts (inr a) (inl b) = absurd (some_item a.0 [] ts b.0 a.2)
stops x y ts (inr a) (inr b) =
    let same = (front ts a.0 b.0 [] [] a.2 b.2).0 in
    let code : Some a.1 ≡ Some b.1 = sym a.3 ∙ ap (λ (i : Item). stop_code i.word i.value) same ∙ b.3 in
    a.4 ∙ ap (λ (z : Option ℤ). stop z) code ∙ sym b.4

-- ---- all actions

action_of : (k : Keyword) → IsOneWhole (IsActionOf k)
action_of keyword.Call x y ts a b = calls x y ts a b
action_of keyword.Allocate x y ts a b = allocates x y ts a b
action_of keyword.Deallocate x y ts a b = deallocates x y ts a b
action_of keyword.Print x y ts a b = prints x y ts a b
action_of keyword.Stop x y ts a b = stops x y ts a b
action_of keyword.Return x y ts a b = a.1 ∙ sym b.1
action_of keyword.Cycle x y ts a b = a.1 ∙ sym b.1
action_of keyword.Exit x y ts a b = a.1 ∙ sym b.1
action_of keyword.Continue x y ts a b = a.1 ∙ sym b.1
action_of k x y ts a b = absurd a

headed_actions : IsOneWhole IsHeadedAction
unfolding IsHeadedAction
headed_actions x y ts a b = at_keyword_whole IsActionOf action_of x y a.0 b.0 a.1 b.1 a.2 b.2 ts a.3 a.4 a.5 b.3 b.4 b.5

pub actions : IsOneWhole IsAction
unfolding IsAction
actions x y ts a b = first_of IsAssignment IsHeadedAction assignments headed_actions x y ts a b
