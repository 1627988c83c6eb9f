-- How statements that are no assignments begin.
use Rattle.std.proofs.Common.{◌≡◌, ℤ, List, [], ◌∷◌, Bool, true, false, Option, Some, None, refl, sym, ap, subst, ◌∙◌, inl, inr}
use Rattle.f3_places.specs.declared.source.Place.{Place}
use Rattle.f3_tree.specs.declared.expression.Name.{Name as Identifier}
use Rattle.f3_tree.specs.declared.expression.Operator.TheVariants.{Multiply}
use Rattle.f3_tree.specs.declared.declaration.Accessibility.{Accessibility}
use Rattle.f3_tree.specs.declared.declaration.Accessibility.TheVariants as accessibility
use Rattle.f3_tree.specs.declared.expression.IntegerKind.{IntegerKind}
use Rattle.f3_tree.specs.declared.expression.IntegerLiteral.{IntegerLiteral}
use Rattle.f3_tree.specs.declared.declaration.TypeSpecifier.{TypeSpecifier}
use Rattle.f3_words.specs.declared.item.Word.{Word}
use Rattle.f3_declarations.specs.Kinds.{EatsKindPerhaps, EatsInteger}
use Rattle.f3_tree.specs.Expressions.{Tree}
use Rattle.f3_tree.specs.Statements.{Act, Selects, Controls}
use Rattle.f3_tree.specs.Declarations.{UseTree, AccessTree, DeclarationTree, EntityTree, Placed}
use Rattle.f3_tree.specs.Tree.{HeaderTree}
use Rattle.f3_words.specs.declared.item.Keyword.{Keyword}
use Rattle.f3_words.specs.declared.item.Keyword.TheVariants as keyword
use Rattle.f3_words.specs.declared.item.Word.TheVariants as word
use Rattle.f3_words.specs.declared.item.Item.{Item}
use Rattle.f3_words.specs.Words.{is_name}
use Rattle.f3_words.specs.Lists.{starts}
use Rattle.f3_expressions.specs.Grammar.{is_open}
use Rattle.f3_declarations.specs.declared.procedures.Prefix.{Prefix}
use Rattle.f3_declarations.specs.declared.procedures.Prefixes.{Prefixes}
use Rattle.f3_declarations.specs.Specifications.{IsUse, IsAccessList, IsAccess, EatsDerived, EatsSpecifierOf, EatsSpecifier, EatsEntity, AreEntities, EatsAttributes, IsDeclarationBehind, IsDeclaration, EatsTyped, EatsPrefixOf, EatsPrefix, ArePrefixes, EatsPrefixes, IsSubroutine, IsFunction, IsProcedureOf, IsProcedureBehind, IsHeader, EatsTypeAccess, IsTypeBegin}
use Rattle.f3_form.specs.declared.form.Ended.{Ended}
use Rattle.f3_form.specs.declared.form.Ended.TheVariants as ended
use Rattle.f3_actions.specs.Actions.{IsCall, IsAllocate, IsDeallocate, IsPrint, stop_code, IsStop, IsActionOf, IsHeadedAction, IsAction, EatsCondition, IsCondition, IsThen, IsDefault, AreValues, IsCase, IsCounted, IsWhile, IsControl, IsDo}
use Rattle.f3_form.specs.Forms.{FormTree}
use Rattle.f3_forms.specs.Grammar.{IsEndLabel, IsJoinedEnd, IsEnd, IsType, IsBlockIf, IsLogicalIf, IsIfBehind, IsIf, IsElse, IsSelect, IsImplicit, IsFormOf, IsHeaded}
use Rattle.f3_grammar_laws.proofs.Enclosures.{Within, condition_within, name_within, kind_within, allocation_within, cases_within}
use Rattle.f3_grammar_laws.proofs.Associations.{associations_there}
use Rattle.f3_grammar_laws.proofs.Assigned.{is_target, is_acting, Apart, Opposed, enclosed_there, assigned, Headed, named_apart, eats_name, name_there, keyword_there, word_there, nothing_there, same_there, colons_there, whole_name_there, label_there, name_list_there}

-- ---- actions with a keyword

-- what is a code of STOP begins no assignment
stop_apart : (w : Word) (v : IntegerLiteral) (z : ℤ) → stop_code w v ≡ Some z → (is_target w ≡ false) × (is_open w ≡ false)
stop_apart (word.KindDigit k) v z e = (refl, refl)
stop_apart word.ShortInteger v z e = (refl, refl)
stop_apart w v z e = absurd (cc)

stop_there : (a : Act) (ts : List Item) → IsStop a ts → Apart ts
unfolding IsStop
stop_there a ts (inl h) = nothing_there ts h.0
stop_there a ts (inr h) =
    let x = stop_apart (h.0).word (h.0).value h.1 h.3 in
    (ap (starts is_target) h.2 ∙ x.0, ap (starts is_open) h.2 ∙ x.1)

call_there : (a : Act) (ts : List Item) → IsCall a ts → Apart ts
unfolding IsCall
call_there a ts h = name_there h.0 ts h.2 h.3

print_there : (a : Act) (ts : List Item) → IsPrint a ts → Apart ts
unfolding IsPrint
print_there a ts h = word_there (word.Operator Multiply) ts h.1 refl refl h.2

allocate_there : (a : Act) (ts : List Item) → IsAllocate a ts → Opposed ts
unfolding IsAllocate
allocate_there a ts h = enclosed_there ts [] (allocation_within h.0 ts h.1) refl

deallocate_there : (a : Act) (ts : List Item) → IsDeallocate a ts → Opposed ts
unfolding IsDeallocate
deallocate_there a ts h = enclosed_there ts [] (allocation_within h.0 ts h.1) refl

action_there : (k : Keyword) (a : Act) (ts : List Item) → IsActionOf k a ts → Opposed ts
action_there keyword.Call a ts h = inl (call_there a ts h)
action_there keyword.Allocate a ts h = allocate_there a ts h
action_there keyword.Deallocate a ts h = deallocate_there a ts h
action_there keyword.Print a ts h = inl (print_there a ts h)
action_there keyword.Stop a ts h = inl (stop_there a ts h)
action_there keyword.Return a ts h = inl (nothing_there ts h.0)
action_there keyword.Cycle a ts h = inl (nothing_there ts h.0)
action_there keyword.Exit a ts h = inl (nothing_there ts h.0)
action_there keyword.Continue a ts h = inl (nothing_there ts h.0)
action_there k a ts h = absurd h

action_acts : (k : Keyword) (a : Act) (ts : List Item) → IsActionOf k a ts → is_acting k ≡ true
action_acts keyword.Call a ts h = refl
action_acts keyword.Allocate a ts h = refl
action_acts keyword.Deallocate a ts h = refl
action_acts keyword.Print a ts h = refl
action_acts keyword.Stop a ts h = refl
action_acts keyword.Return a ts h = refl
action_acts keyword.Cycle a ts h = refl
action_acts keyword.Exit a ts h = refl
action_acts keyword.Continue a ts h = refl
action_acts k a ts h = absurd h

pub headed_action : (a : Act) (ts : List Item) → IsHeadedAction a ts → Headed true ts
unfolding IsHeadedAction
headed_action a ts h = record { first = h.0; keyword = h.1; tail = h.2; is = h.3; word_is = h.4; acts = action_acts h.1 a h.2 h.5; opposed = action_there h.1 a h.2 h.5 }

-- an action begins with a name
pub action_named : (a : Act) (ts : List Item) → IsAction a ts → starts is_name ts ≡ true
unfolding IsAction
action_named a ts (inl h) = let w = assigned a ts h in ap (starts is_name) w.is ∙ w.named
action_named a ts (inr h) = let w = headed_action a ts h.1 in ap (starts is_name) w.is ∙ ap is_name w.word_is

-- ---- specifiers, declarations and headers

derived_there : (s : TypeSpecifier) (ts r : List Item) → EatsDerived s ts r → Apart r → Opposed ts
unfolding EatsDerived
derived_there s ts r h a = enclosed_there ts r (name_within h.0 ts r h.1) a.0

kind_there : (k : Option IntegerKind) (ts r : List Item) → EatsKindPerhaps k ts r → Apart r → Opposed ts
unfolding EatsKindPerhaps
kind_there None ts r h a = inl (same_there ts r h.0 a)
kind_there (Some k) ts r h a = enclosed_there ts r (kind_within k ts h.0 r h.1 h.2) a.0

integer_there : (s : TypeSpecifier) (ts r : List Item) → EatsInteger s ts r → Apart r → Opposed ts
unfolding EatsInteger
integer_there s ts r h a = kind_there h.0 ts r h.1 a

specifier_there : (k : Keyword) (s : TypeSpecifier) (ts r : List Item) → EatsSpecifierOf k s ts r → Apart r → Opposed ts
specifier_there keyword.Integer s ts r h a = integer_there s ts r h a
specifier_there keyword.Logical s ts r h a = inl (same_there ts r h.0 a)
specifier_there keyword.Type s ts r h a = derived_there s ts r h a
specifier_there k s ts r h a = absurd h

attributes_there : (xs : List Placed) (ts r : List Item) → EatsAttributes xs ts r → Apart r → Apart ts
unfolding EatsAttributes
attributes_there xs ts r (inl h) a = word_there word.Comma ts h.0 refl refl h.1
attributes_there xs ts r (inr h) a = same_there ts r h.1 a

entity_there : (e : EntityTree) (ts r : List Item) → EatsEntity e ts r → Apart ts
unfolding EatsEntity
entity_there e ts r h = name_there h.0 ts h.3 h.5

entities_there : (es : List EntityTree) (ts r : List Item) → AreEntities es ts r → Apart ts
unfolding AreEntities
entities_there es ts r h = entity_there h.0 ts h.2 h.4

behind_specifier : (place : Place) (s : TypeSpecifier) (d : DeclarationTree) (ts : List Item) → IsDeclarationBehind place s d ts → Apart ts
unfolding IsDeclarationBehind
behind_specifier place s d ts h = attributes_there h.0 ts h.3 h.5 (colons_there h.1 h.3 h.4 h.6 (entities_there h.2 h.4 [] h.7))

specifier_rests : (k : Keyword) (s : TypeSpecifier) (ts r : List Item) → EatsSpecifierOf k s ts r → is_acting k ≡ false
specifier_rests keyword.Call s ts r h = absurd h
specifier_rests keyword.Allocate s ts r h = absurd h
specifier_rests keyword.Deallocate s ts r h = absurd h
specifier_rests keyword.Print s ts r h = absurd h
specifier_rests keyword.Stop s ts r h = absurd h
specifier_rests keyword.Return s ts r h = absurd h
specifier_rests keyword.Cycle s ts r h = absurd h
specifier_rests keyword.Exit s ts r h = absurd h
specifier_rests keyword.Continue s ts r h = absurd h
specifier_rests k s ts r h = refl

specifier_headed : (s : TypeSpecifier) (ts r : List Item) → EatsSpecifier s ts r → Apart r → Headed false ts
unfolding EatsSpecifier
specifier_headed s ts r h a = record { first = h.0; keyword = h.1; tail = h.2; is = h.3; word_is = h.4; acts = specifier_rests h.1 s h.2 r h.5; opposed = specifier_there h.1 s h.2 r h.5 a }

pub declaration_headed : (place : Place) (d : DeclarationTree) (ts : List Item) → IsDeclaration place d ts → Headed false ts
unfolding IsDeclaration
declaration_headed place d ts h = specifier_headed h.0 ts h.1 h.2 (behind_specifier place h.0 d h.1 h.3)

subroutine_named : (place : Place) (p : Prefixes) (x : HeaderTree) (ts : List Item) → IsSubroutine place p x ts → starts is_name ts ≡ true
unfolding IsSubroutine
subroutine_named place p x ts h = eats_name h.0 ts h.2 h.4

function_named : (place : Place) (p : Prefixes) (x : HeaderTree) (ts : List Item) → IsFunction place p x ts → starts is_name ts ≡ true
unfolding IsFunction
function_named place p x ts h = eats_name h.0 ts h.3 h.5

pub procedure_named : (k : Keyword) (place : Place) (p : Prefixes) (x : HeaderTree) (ts : List Item) → IsProcedureOf k place p x ts → starts is_name ts ≡ true
procedure_named keyword.Subroutine place p x ts h = subroutine_named place p x ts h
procedure_named keyword.Function place p x ts h = function_named place p x ts h
procedure_named k place p x ts h = absurd h

procedure_rests : (k : Keyword) (place : Place) (p : Prefixes) (x : HeaderTree) (ts : List Item) → IsProcedureOf k place p x ts → is_acting k ≡ false
procedure_rests keyword.Call place p x ts h = absurd h
procedure_rests keyword.Allocate place p x ts h = absurd h
procedure_rests keyword.Deallocate place p x ts h = absurd h
procedure_rests keyword.Print place p x ts h = absurd h
procedure_rests keyword.Stop place p x ts h = absurd h
procedure_rests keyword.Return place p x ts h = absurd h
procedure_rests keyword.Cycle place p x ts h = absurd h
procedure_rests keyword.Exit place p x ts h = absurd h
procedure_rests keyword.Continue place p x ts h = absurd h
procedure_rests k place p x ts h = refl

pub procedure_headed : (place : Place) (p : Prefixes) (x : HeaderTree) (ts : List Item) → IsProcedureBehind place p x ts → Headed false ts
unfolding IsProcedureBehind
procedure_headed place p x ts h = record { first = h.0; keyword = h.1; tail = h.2; is = h.3; word_is = h.4; acts = procedure_rests h.1 place p x h.2 h.5; opposed = inl (named_apart h.2 (procedure_named h.1 place p x h.2 h.5)) }

pub headed_named : (acting : Bool) (ts : List Item) → Headed acting ts → starts is_name ts ≡ true
headed_named acting ts h = ap (starts is_name) h.is ∙ ap is_name h.word_is

prefix_there : (k : Keyword) (x : Prefix) (ts r : List Item) → EatsPrefixOf k x ts r → Apart r → Opposed ts
unfolding EatsTyped
prefix_there keyword.Pure x ts r h a = inl (same_there ts r h.0 a)
prefix_there keyword.Recursive x ts r h a = inl (same_there ts r h.0 a)
prefix_there k x ts r h a = specifier_there k h.0 ts r h.1 a

prefix_rests : (k : Keyword) (x : Prefix) (ts r : List Item) → EatsPrefixOf k x ts r → is_acting k ≡ false
unfolding EatsTyped
prefix_rests keyword.Call x ts r h = absurd h.1
prefix_rests keyword.Allocate x ts r h = absurd h.1
prefix_rests keyword.Deallocate x ts r h = absurd h.1
prefix_rests keyword.Print x ts r h = absurd h.1
prefix_rests keyword.Stop x ts r h = absurd h.1
prefix_rests keyword.Return x ts r h = absurd h.1
prefix_rests keyword.Cycle x ts r h = absurd h.1
prefix_rests keyword.Exit x ts r h = absurd h.1
prefix_rests keyword.Continue x ts r h = absurd h.1
prefix_rests k x ts r h = refl

prefix_headed : (x : Prefix) (ts r : List Item) → EatsPrefix x ts r → Apart r → Headed false ts
unfolding EatsPrefix
prefix_headed x ts r h a = record { first = h.0; keyword = h.1; tail = h.2; is = h.3; word_is = h.4; acts = prefix_rests h.1 x h.2 r h.5; opposed = prefix_there h.1 x h.2 r h.5 a }

pub prefixes_headed : (xs : List Prefix) (ts r : List Item) → ArePrefixes xs ts r → Headed false r → Headed false ts
unfolding ArePrefixes
prefixes_headed [] ts r h w = subst (λ (l : List Item). Headed false l) (sym h.0) w
prefixes_headed (x ∷ xs) ts r h w =
    let rest = prefixes_headed xs h.0 r h.3 w in
    prefix_headed x ts h.0 h.2 (named_apart h.0 (headed_named false h.0 rest))

pub header_headed : (place : Place) (x : HeaderTree) (ts : List Item) → IsHeader place x ts → Headed false ts
unfolding IsHeader EatsPrefixes
header_headed place x ts h = prefixes_headed (h.2).0 ts h.1 (h.2).1 (procedure_headed place h.0 x h.1 h.3)

-- ---- forms with a keyword of their own

condition_there : (e : Tree) (ts r : List Item) → EatsCondition e ts r → starts is_target r ≡ false → Opposed ts
condition_there e ts r h none = enclosed_there ts r (condition_within e ts r h) none

whole_condition_there : (e : Tree) (ts : List Item) → IsCondition e ts → Opposed ts
unfolding IsCondition
whole_condition_there e ts h = condition_there e ts [] h refl

then_there : (e : Tree) (ts : List Item) → IsThen e ts → Opposed ts
unfolding IsThen
then_there e ts h = condition_there e ts h.0 h.1 (keyword_there keyword.Then h.0 [] h.2).0

if_behind_there : (e : Tree) (f : FormTree) (ts : List Item) → IsIfBehind e f ts → Apart ts
unfolding IsIfBehind IsBlockIf IsLogicalIf
if_behind_there e f ts (inl h) = keyword_there keyword.Then ts [] h.0
if_behind_there e f ts (inr h) = named_apart ts (action_named (h.1).0 ts (h.1).4)

if_there : (f : FormTree) (ts : List Item) → IsIf f ts → Opposed ts
unfolding IsIf
if_there f ts h = condition_there h.0 ts h.1 h.2 (if_behind_there h.0 f h.1 h.3).0

else_there : (f : FormTree) (ts : List Item) → IsElse f ts → Apart ts
unfolding IsElse
else_there f ts (inl h) = nothing_there ts h.0
else_there f ts (inr h) = keyword_there keyword.If ts h.1 h.3

select_there : (f : FormTree) (ts : List Item) → IsSelect f ts → Apart ts
unfolding IsSelect
select_there f ts h = keyword_there keyword.Case ts h.1 h.2

pub default_there : (s : Selects) (ts : List Item) → IsDefault s ts → Apart ts
unfolding IsDefault
default_there s ts h = keyword_there keyword.Default ts [] h.0

pub values_there : (s : Selects) (ts : List Item) → AreValues s ts → Within ts []
unfolding AreValues
values_there s ts h = cases_within h.0 ts h.1

case_there : (s : Selects) (ts : List Item) → IsCase s ts → Opposed ts
unfolding IsCase
case_there s ts (inl h) = inl (default_there s ts h)
case_there s ts (inr h) = enclosed_there ts [] (values_there s ts h.1) refl

while_there : (c : Controls) (ts : List Item) → IsWhile c ts → Apart ts
unfolding IsWhile
while_there c ts h = keyword_there keyword.While ts h.1 h.2

counted_there : (c : Controls) (ts : List Item) → IsCounted c ts → Apart ts
unfolding IsCounted
counted_there c ts h = name_there h.0 ts h.2 h.4

control_there : (c : Controls) (ts : List Item) → IsControl c ts → Apart ts
unfolding IsControl
control_there c ts (inl h) = while_there c ts h
control_there c ts (inr h) = counted_there c ts h.1

do_there : (c : Controls) (ts : List Item) → IsDo c ts → Apart ts
unfolding IsDo
do_there c ts (inl h) = nothing_there ts h.0
do_there c ts (inr h) = control_there c ts h.1

joined_there : (what : Ended) (f : FormTree) (ts : List Item) → IsJoinedEnd what f ts → Apart ts
unfolding IsJoinedEnd IsEndLabel
joined_there what f ts h = label_there h.0 ts (h.1).0

end_there : (f : FormTree) (ts : List Item) → IsEnd f ts → Apart ts
unfolding IsEnd
end_there f ts (inl h) = nothing_there ts h.0
end_there f ts (inr h) = named_apart ts (ap (starts is_name) h.4 ∙ ap is_name h.5)

use_there : (place : Place) (u : UseTree) (ts : List Item) → IsUse place u ts → Apart ts
unfolding IsUse
use_there place u ts h = colons_there h.2 ts h.3 h.5 (name_there h.0 h.3 h.4 h.6)

access_list_there : (ns : List Identifier) (ts : List Item) → IsAccessList ns ts → Apart ts
unfolding IsAccessList
access_list_there ns ts (inl h) = nothing_there ts h.0
access_list_there ns ts (inr h) = name_list_there ns ts h.1

access_there : (place : Place) (a : Accessibility) (x : AccessTree) (ts : List Item) → IsAccess place a x ts → Apart ts
unfolding IsAccess
access_there place a x ts h = access_list_there h.0 ts h.1

implicit_there : (f : FormTree) (ts : List Item) → IsImplicit f ts → Apart ts
unfolding IsImplicit
implicit_there f ts h = keyword_there keyword.NoneWord ts [] h.0

type_access_there : (x : Place × Accessibility) (ts r : List Item) → EatsTypeAccess x ts r → Apart ts
unfolding EatsTypeAccess
type_access_there x ts r h = word_there word.Comma ts h.0 refl refl h.2

type_begin_there : (x : Option (Place × Accessibility)) (n : Identifier) (ts : List Item) → IsTypeBegin x n ts → Apart ts
unfolding IsTypeBegin
type_begin_there None n ts h = colons_there h.0 ts h.1 h.3 (whole_name_there n h.1 h.4)
type_begin_there (Some x) n ts h = type_access_there x ts h.0 h.1

pub type_there : (f : FormTree) (ts : List Item) → IsType f ts → Apart ts
unfolding IsType
type_there f ts h = type_begin_there h.0 h.1 ts h.2

form_there : (k : Keyword) (place : Place) (f : FormTree) (ts : List Item) → IsFormOf k place f ts → Opposed ts
form_there keyword.Module place f ts h = inl (whole_name_there h.0 ts h.2)
form_there keyword.Program place f ts h = inl (whole_name_there h.0 ts h.2)
form_there keyword.Contains place f ts h = inl (nothing_there ts h.0)
form_there keyword.End place f ts h = inl (end_there f ts h)
form_there keyword.EndModule place f ts h = inl (joined_there ended.Module f ts h)
form_there keyword.EndProgram place f ts h = inl (joined_there ended.Program f ts h)
form_there keyword.EndSubroutine place f ts h = inl (joined_there ended.Subroutine f ts h)
form_there keyword.EndFunction place f ts h = inl (joined_there ended.Function f ts h)
form_there keyword.EndType place f ts h = inl (joined_there ended.Type f ts h)
form_there keyword.EndIf place f ts h = inl (joined_there ended.If f ts h)
form_there keyword.EndSelect place f ts h = inl (joined_there ended.Select f ts h)
form_there keyword.EndDo place f ts h = inl (joined_there ended.Do f ts h)
form_there keyword.EndAssociate place f ts h = inl (joined_there ended.Associate f ts h)
form_there keyword.Use place f ts h = inl (use_there place h.0 ts h.2)
form_there keyword.Implicit place f ts h = inl (implicit_there f ts h)
form_there keyword.Public place f ts h = inl (access_there place accessibility.Public h.0 ts h.2)
form_there keyword.Private place f ts h = inl (access_there place accessibility.Private h.0 ts h.2)
form_there keyword.Protected place f ts h = inl (name_list_there h.0 ts h.2)
form_there keyword.Save place f ts h = inl (nothing_there ts h.0)
form_there keyword.Type place f ts h = inl (type_there f ts h)
form_there keyword.Final place f ts h = inl (name_list_there h.0 ts h.2)
form_there keyword.If place f ts h = if_there f ts h
form_there keyword.Else place f ts h = inl (else_there f ts h)
form_there keyword.ElseIf place f ts h = then_there h.0 ts h.2
form_there keyword.Select place f ts h = inl (select_there f ts h)
form_there keyword.SelectCase place f ts h = whole_condition_there h.0 ts h.2
form_there keyword.Case place f ts h = case_there h.0 ts h.2
form_there keyword.Do place f ts h = inl (do_there h.0 ts h.2)
form_there keyword.Associate place f ts h = associations_there h.0 ts h.2
form_there k place f ts h = absurd h

form_rests : (k : Keyword) (place : Place) (f : FormTree) (ts : List Item) → IsFormOf k place f ts → is_acting k ≡ false
form_rests keyword.Call place f ts h = absurd h
form_rests keyword.Allocate place f ts h = absurd h
form_rests keyword.Deallocate place f ts h = absurd h
form_rests keyword.Print place f ts h = absurd h
form_rests keyword.Stop place f ts h = absurd h
form_rests keyword.Return place f ts h = absurd h
form_rests keyword.Cycle place f ts h = absurd h
form_rests keyword.Exit place f ts h = absurd h
form_rests keyword.Continue place f ts h = absurd h
form_rests k place f ts h = refl

pub form_headed : (f : FormTree) (ts : List Item) → IsHeaded f ts → Headed false ts
unfolding IsHeaded
form_headed f ts h = record { first = h.0; keyword = h.1; tail = h.2; is = h.3; word_is = h.4; acts = form_rests h.1 (h.0).place f h.2 h.5; opposed = form_there h.1 (h.0).place f h.2 h.5 }
