-- The roles that statements have.
use Rattle.std.proofs.Common.{◌≡◌, List, [], ◌∷◌, true, Option, Some, None, refl, sym, subst, ◌∙◌, inl, inr}
use Rattle.std.proofs.lemmas.Bool.{true≢false}
use Rattle.f3_places.specs.declared.source.Place.{Place}
use Rattle.f3_tree.specs.declared.expression.Name.{Name}
use Rattle.f3_tree.specs.declared.program.UnitKind.TheVariants.{Module, Program}
use Rattle.f3_tree.specs.Tree.{HeaderTree}
use Rattle.f3_words.specs.declared.item.Keyword.{Keyword}
use Rattle.f3_words.specs.declared.item.Keyword.TheVariants as keyword
use Rattle.f3_words.specs.declared.item.Item.{Item}
use Rattle.f3_reading.specs.Names.{IsName, IsLabel}
use Rattle.f3_declarations.specs.Specifications.{IsHeader}
use Rattle.f3_form.specs.declared.form.Ended.{Ended}
use Rattle.f3_form.specs.declared.form.Ended.TheVariants as ended
use Rattle.f3_form.specs.Forms.{FormTree}
use Rattle.f3_form.specs.Forms as form
use Rattle.f3_forms.specs.Grammar.{has_name, IsEndLabel, IsJoinedEnd, IsEnd, IsType, IsBlockIf, IsLogicalIf, IsIfBehind, IsIf, IsElse, IsSelect, IsImplicit, IsFormOf, IsHeaded, AtFirst, IsAct, IsProcedure, IsDeclared, IsForm}
use Rattle.f3_units.specs.Roles.{Role, begins, contains, heads, ends, specifies, executes, role}
use Rattle.f3_grammar_laws.specs.Laws.{IsOfAKind}
use Rattle.f3_grammar_laws.proofs.Alternatives.{of_a_kind, kinds}
use Rattle.f3_source_laws.specs.Roles.{IsRole, RolesAreSpelled, FormsHaveRoles}
use Rattle.f3_source_laws.proofs.Headers.{key, named, name_there, of_header, header_there, header_at}

abbrev IsSpelled : Role → Type 0
IsSpelled r = (f : FormTree) × (ts : List Item) × IsForm f ts × (role f ≡ r)

somewhere : Place
somewhere = record { file = 1; line = 1; column = 1 }

-- a form with a keyword of its own
keyed : (k : Keyword) (f : FormTree) (tail : List Item) → IsFormOf k somewhere f tail → IsSpelled (role f)
unfolding IsHeaded
keyed k f tail h = (f, key k somewhere ∷ tail, of_a_kind f (key k somewhere ∷ tail) (inr (inr (key k somewhere, k, tail, refl, refl, h))), refl)

name_alone : (n : Name) → IsName n (named n ∷ [])
unfolding IsName
name_alone n = name_there n []

some_tokens : (i : Item) (ts : List Item) → i ∷ ts ≡ [] → ⊥
some_tokens i ts e = cc

label_there : (n : Option Name) → (ts : List Item) × IsLabel n ts
unfolding IsLabel
label_there None = ([], inl (refl, refl))
label_there (Some n) = (named n ∷ [], inr (n, some_tokens (named n) [], name_alone n, refl))

joined_end : (what : Ended) (n : Option Name) (ts : List Item) → has_name what ≡ true → IsLabel n ts → IsJoinedEnd what (form.ends (Some what) n) ts
unfolding IsJoinedEnd IsEndLabel
joined_end what n ts has h = (n, (h, λ lacks. absurd (true≢false (sym has ∙ lacks))), refl)

end_alone : IsEnd (form.ends None None) []
unfolding IsEnd
end_alone = inl (refl, refl)

else_alone : IsElse form.else_alone []
unfolding IsElse
else_alone = inl (refl, refl)

header_spelled : (h : HeaderTree) → IsSpelled (heads h)
unfolding IsProcedure
header_spelled h =
    let w = header_at h in
    let at_first : AtFirst IsHeader h (of_header h) = (w.first, w.tail, w.is, subst (λ (p : Place). IsHeader p h (of_header h)) (sym w.there) (header_there h)) in
    (form.procedure h, of_header h, of_a_kind (form.procedure h) (of_header h) (inl (inr (h, refl, at_first))), refl)

pub spelled : RolesAreSpelled
spelled (begins Module n) h = keyed keyword.Module (form.unit Module n) (named n ∷ []) (n, refl, name_alone n)
spelled (begins Program n) h = keyed keyword.Program (form.unit Program n) (named n ∷ []) (n, refl, name_alone n)
spelled contains h = keyed keyword.Contains form.contains [] (refl, refl)
spelled (heads x) h = header_spelled x
spelled (ends None None) h = keyed keyword.End (form.ends None None) [] end_alone
spelled (ends None (Some n)) h = absurd h
spelled (ends (Some ended.Module) n) h = let l = label_there n in keyed keyword.EndModule (form.ends (Some ended.Module) n) l.0 (joined_end ended.Module n l.0 refl l.1)
spelled (ends (Some ended.Program) n) h = let l = label_there n in keyed keyword.EndProgram (form.ends (Some ended.Program) n) l.0 (joined_end ended.Program n l.0 refl l.1)
spelled (ends (Some ended.Subroutine) n) h = let l = label_there n in keyed keyword.EndSubroutine (form.ends (Some ended.Subroutine) n) l.0 (joined_end ended.Subroutine n l.0 refl l.1)
spelled (ends (Some ended.Function) n) h = let l = label_there n in keyed keyword.EndFunction (form.ends (Some ended.Function) n) l.0 (joined_end ended.Function n l.0 refl l.1)
spelled (ends (Some ended.Type) n) h = absurd h
spelled (ends (Some ended.If) n) h = absurd h
spelled (ends (Some ended.Select) n) h = absurd h
spelled (ends (Some ended.Do) n) h = absurd h
spelled (ends (Some ended.Associate) n) h = absurd h
spelled specifies h = keyed keyword.Save form.saves [] (refl, refl)
spelled executes h = keyed keyword.Else form.else_alone [] else_alone

-- ---- each form has such a role

made : (f g : FormTree) → f ≡ g → IsRole (role g) → IsRole (role f)
made f g same h = subst (λ (x : FormTree). IsRole (role x)) (sym same) h

joined_role : (what : Ended) (n : Option Name) → IsRole (role (form.ends (Some what) n))
joined_role ended.Module n = tt
joined_role ended.Program n = tt
joined_role ended.Subroutine n = tt
joined_role ended.Function n = tt
joined_role ended.Type n = tt
joined_role ended.If n = tt
joined_role ended.Select n = tt
joined_role ended.Do n = tt
joined_role ended.Associate n = tt

joined_ends : (what : Ended) (f : FormTree) (ts : List Item) → IsJoinedEnd what f ts → IsRole (role f)
unfolding IsJoinedEnd
joined_ends what f ts h = made f (form.ends (Some what) h.0) h.2 (joined_role what h.0)

all_ends : (f : FormTree) (ts : List Item) → IsEnd f ts → IsRole (role f)
unfolding IsEnd
all_ends f ts (inl h) = made f (form.ends None None) h.1 tt
all_ends f ts (inr h) = joined_ends h.2 f h.3 h.7

types : (f : FormTree) (ts : List Item) → IsType f ts → IsRole (role f)
unfolding IsType
types f ts h = made f (form.type_begins h.0 h.1) h.3 tt

ifs : (f : FormTree) (ts : List Item) → IsIf f ts → IsRole (role f)
unfolding IsIf IsIfBehind IsBlockIf IsLogicalIf
ifs f ts (e, a, condition, inl h) = made f (form.if_then e) h.1 tt
ifs f ts (e, a, condition, inr h) = let g = h.1 in made f (form.acts_if e (g.1).place g.0) g.5 tt

elses : (f : FormTree) (ts : List Item) → IsElse f ts → IsRole (role f)
unfolding IsElse
elses f ts (inl h) = made f form.else_alone h.1 tt
elses f ts (inr h) = made f (form.else_if h.0) h.5 tt

selects : (f : FormTree) (ts : List Item) → IsSelect f ts → IsRole (role f)
unfolding IsSelect
selects f ts h = made f (form.select_case h.0) h.4 tt

implicits : (f : FormTree) (ts : List Item) → IsImplicit f ts → IsRole (role f)
unfolding IsImplicit
implicits f ts h = made f form.implicit_none h.1 tt

form_of : (k : Keyword) (place : Place) (f : FormTree) (ts : List Item) → IsFormOf k place f ts → IsRole (role f)
form_of keyword.Module place f ts h = made f (form.unit Module h.0) h.1 tt
form_of keyword.Program place f ts h = made f (form.unit Program h.0) h.1 tt
form_of keyword.Contains place f ts h = made f form.contains h.1 tt
form_of keyword.End place f ts h = all_ends f ts h
form_of keyword.EndModule place f ts h = joined_ends ended.Module f ts h
form_of keyword.EndProgram place f ts h = joined_ends ended.Program f ts h
form_of keyword.EndSubroutine place f ts h = joined_ends ended.Subroutine f ts h
form_of keyword.EndFunction place f ts h = joined_ends ended.Function f ts h
form_of keyword.EndType place f ts h = joined_ends ended.Type f ts h
form_of keyword.EndIf place f ts h = joined_ends ended.If f ts h
form_of keyword.EndSelect place f ts h = joined_ends ended.Select f ts h
form_of keyword.EndDo place f ts h = joined_ends ended.Do f ts h
form_of keyword.EndAssociate place f ts h = joined_ends ended.Associate f ts h
form_of keyword.Use place f ts h = made f (form.uses h.0) h.1 tt
form_of keyword.Implicit place f ts h = implicits f ts h
form_of keyword.Public place f ts h = made f (form.accesses h.0) h.1 tt
form_of keyword.Private place f ts h = made f (form.accesses h.0) h.1 tt
form_of keyword.Protected place f ts h = made f (form.protects h.0) h.1 tt
form_of keyword.Save place f ts h = made f form.saves h.1 tt
form_of keyword.Type place f ts h = types f ts h
form_of keyword.Final place f ts h = made f (form.finals h.0) h.1 tt
form_of keyword.If place f ts h = ifs f ts h
form_of keyword.Else place f ts h = elses f ts h
form_of keyword.ElseIf place f ts h = made f (form.else_if h.0) h.1 tt
form_of keyword.Select place f ts h = selects f ts h
form_of keyword.SelectCase place f ts h = made f (form.select_case h.0) h.1 tt
form_of keyword.Case place f ts h = made f (form.case_of h.0) h.1 tt
form_of keyword.Do place f ts h = made f (form.repeats h.0) h.1 tt
form_of keyword.Associate place f ts h = made f (form.associates h.0) h.1 tt
form_of k place f ts h = absurd h

kind_role : (f : FormTree) (ts : List Item) → IsOfAKind f ts → IsRole (role f)
unfolding IsAct IsProcedure IsDeclared IsHeaded
kind_role f ts (inl (inl h)) = made f (form.acts h.0) h.1 tt
kind_role f ts (inl (inr h)) = made f (form.procedure h.0) h.1 tt
kind_role f ts (inr (inl h)) = made f (form.declares h.0) h.1 tt
kind_role f ts (inr (inr h)) = form_of h.1 (h.0).place f h.2 h.5

pub roles : FormsHaveRoles
roles f ts h = kind_role f ts ((kinds f ts).0 h)
