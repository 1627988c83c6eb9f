-- Statements are spelled in one way.
use Rattle.std.proofs.Common.{◌≡◌, List, [], ◌∷◌, Option, Some, sym, ap, subst, ◌∙◌, inl, inr}
use Rattle.f3_places.specs.declared.source.Place.{Place}
use Rattle.f3_tree.specs.declared.declaration.Accessibility.{Accessibility}
use Rattle.f3_tree.specs.declared.declaration.Accessibility.TheVariants as accessibility
use Rattle.f3_tree.specs.declared.expression.Name.{Name as Identifier}
use Rattle.f3_tree.specs.declared.program.UnitKind.TheVariants as unit_kind
use Rattle.f3_tree.specs.Expressions.{Tree}
use Rattle.f3_tree.specs.Statements.{Act}
use Rattle.f3_words.specs.declared.item.Keyword.{Keyword}
use Rattle.f3_words.specs.declared.item.Keyword.TheVariants as keyword
use Rattle.f3_words.specs.declared.item.Word.TheVariants as word
use Rattle.f3_words.specs.declared.item.Item.{Item}
use Rattle.f3_reading.specs.Names.{IsName, IsNameList}
use Rattle.f3_reading.specs.Laws.{IsOneWhole}
use Rattle.f3_reading.proofs.Ones.{whole_names, labels, whole_lists}
use Rattle.f3_declarations.specs.Specifications.{IsUse, IsAccess, IsDeclaration, IsHeader}
use Rattle.f3_form.specs.declared.form.Ended.{Ended}
use Rattle.f3_form.specs.declared.form.Ended.TheVariants as ended
use Rattle.f3_actions.specs.Actions.{IsAction, IsCondition, IsThen, IsCase, IsDo, IsAssociate}
use Rattle.f3_form.specs.Forms.{FormTree, unit, ends, procedure, uses, accesses, protects, declares, type_begins, finals, acts, acts_if, else_if, select_case, case_of, repeats, associates}
use Rattle.f3_forms.specs.Grammar.{Makes, ended_of, IsEndLabel, IsJoinedEnd, IsEnd, IsType, IsBlockIf, IsLogicalIf, IsIfBehind, IsIf, IsElse, IsSelect, IsImplicit, IsFormOf, IsHeaded, AtFirst, IsAct, IsProcedure, IsDeclared, IsSpecified, IsPassive, IsForm}
use Rattle.f3_grammar_laws.proofs.Parts.{ap2, whole_along, sign, front, one_keyword, first_of}
use Rattle.f3_grammar_laws.proofs.Declarations as declarations
use Rattle.f3_grammar_laws.proofs.Headers as headers
use Rattle.f3_grammar_laws.proofs.Actions.{actions}
use Rattle.f3_grammar_laws.proofs.Constructs.{conditions, whole_conditions, thens, selectors, does, all_associations}

makes : {A : Type 0} (make : A → FormTree) (Is : A → List Item → Type 0) → IsOneWhole Is → IsOneWhole (Makes make Is)
makes make Is one f g ts a b = a.1 ∙ ap make (one a.0 b.0 ts a.2 b.2) ∙ sym b.1

some_item : (i : Item) (ts us : List Item) → us ≡ [] → us ≡ i ∷ ts → ⊥
some_item i ts us p q = cc

-- ---- END

end_labels : (what : Ended) → IsOneWhole (IsEndLabel what)
unfolding IsEndLabel
end_labels what x y ts a b = labels x y ts a.0 b.0

joined_ends : (what : Ended) → IsOneWhole (IsJoinedEnd what)
unfolding IsJoinedEnd
joined_ends what x y ts a b = a.2 ∙ ap (λ (n : Option Identifier). ends (Some what) n) (end_labels what a.0 b.0 ts a.1 b.1) ∙ sym b.2

all_ends : IsOneWhole IsEnd
unfolding IsEnd
all_ends x y ts (inl a) (inl b) = a.1 ∙ sym b.1
all_ends x y ts (inl a) (inr b) = absurd (some_item b.0 b.3 ts a.0 b.4)
all_ends x y ts (inr a) (inl b) = absurd (some_item a.0 a.3 ts b.0 a.4)
all_ends x y ts (inr a) (inr b) =
    let f = front ts a.0 b.0 a.3 b.3 a.4 b.4 in
    let words = one_keyword a.0 b.0 a.1 b.1 f.0 a.5 b.5 in
    let kinds : Some a.2 ≡ Some b.2 = sym a.6 ∙ ap ended_of words ∙ b.6 in
    let kind : a.2 ≡ b.2 = cc in
    whole_along (IsJoinedEnd b.2) (joined_ends b.2) x y a.3 b.3 f.1 (subst (λ (z : Ended). IsJoinedEnd z x a.3) kind a.7) b.7

-- ---- types and constructs

types : IsOneWhole IsType
unfolding IsType
types x y ts a b =
    let o = headers.type_begins a.0 b.0 a.1 b.1 ts a.2 b.2 in
    a.3 ∙ ap2 (λ (z : Option (Place × Accessibility)) (n : Identifier). type_begins z n) o.0 o.1 ∙ sym b.3

block_ifs : (e : Tree) → IsOneWhole (IsBlockIf e)
unfolding IsBlockIf
block_ifs e x y ts a b = a.1 ∙ sym b.1

logical_ifs : (e : Tree) → IsOneWhole (IsLogicalIf e)
unfolding IsLogicalIf
logical_ifs e x y ts a b =
    let f = front ts a.1 b.1 a.2 b.2 a.3 b.3 in
    a.5 ∙ ap2 (λ (p : Place) (act : Act). acts_if e p act) (ap (λ (i : Item). i.place) f.0) (actions a.0 b.0 ts a.4 b.4) ∙ sym b.5

ifs_behind : (e : Tree) → IsOneWhole (IsIfBehind e)
unfolding IsIfBehind
ifs_behind e x y ts a b = first_of (IsBlockIf e) (IsLogicalIf e) (block_ifs e) (logical_ifs e) x y ts a b

ifs : IsOneWhole IsIf
unfolding IsIf
ifs x y ts a b =
    let o = conditions a.0 b.0 ts a.1 b.1 a.2 b.2 in
    whole_along (IsIfBehind b.0) (ifs_behind b.0) x y a.1 b.1 o.1 (subst (λ (e : Tree). IsIfBehind e x a.1) o.0 a.3) b.3

elses : IsOneWhole IsElse
unfolding IsElse
elses x y ts (inl a) (inl b) = a.1 ∙ sym b.1
elses x y ts (inl a) (inr b) = absurd (b.2 a.0)
elses x y ts (inr a) (inl b) = absurd (a.2 b.0)
elses x y ts (inr a) (inr b) =
    let w = sign (word.Name keyword.If) ts a.1 b.1 a.3 b.3 in
    a.5 ∙ ap (λ (e : Tree). else_if e) (whole_along IsThen thens a.0 b.0 a.1 b.1 w a.4 b.4) ∙ sym b.5

selects : IsOneWhole IsSelect
unfolding IsSelect
selects x y ts a b =
    let w = sign (word.Name keyword.Case) ts a.1 b.1 a.2 b.2 in
    a.4 ∙ ap (λ (e : Tree). select_case e) (whole_along IsCondition whole_conditions a.0 b.0 a.1 b.1 w a.3 b.3) ∙ sym b.4

implicits : IsOneWhole IsImplicit
unfolding IsImplicit
implicits x y ts a b = a.1 ∙ sym b.1

-- ---- forms with a keyword of their own

form_of : (place : Place) (k : Keyword) → IsOneWhole (IsFormOf k place)
form_of place keyword.Module x y ts a b = makes (unit unit_kind.Module) IsName whole_names x y ts a b
form_of place keyword.Program x y ts a b = makes (unit unit_kind.Program) IsName whole_names x y ts a b
form_of place keyword.Contains x y ts a b = a.1 ∙ sym b.1
form_of place keyword.End x y ts a b = all_ends x y ts a b
form_of place keyword.EndModule x y ts a b = joined_ends ended.Module x y ts a b
form_of place keyword.EndProgram x y ts a b = joined_ends ended.Program x y ts a b
form_of place keyword.EndSubroutine x y ts a b = joined_ends ended.Subroutine x y ts a b
form_of place keyword.EndFunction x y ts a b = joined_ends ended.Function x y ts a b
form_of place keyword.EndType x y ts a b = joined_ends ended.Type x y ts a b
form_of place keyword.EndIf x y ts a b = joined_ends ended.If x y ts a b
form_of place keyword.EndSelect x y ts a b = joined_ends ended.Select x y ts a b
form_of place keyword.EndDo x y ts a b = joined_ends ended.Do x y ts a b
form_of place keyword.EndAssociate x y ts a b = joined_ends ended.Associate x y ts a b
form_of place keyword.Use x y ts a b = makes uses (IsUse place) (declarations.uses place) x y ts a b
form_of place keyword.Implicit x y ts a b = implicits x y ts a b
form_of place keyword.Public x y ts a b = makes accesses (IsAccess place accessibility.Public) (declarations.accesses place accessibility.Public) x y ts a b
form_of place keyword.Private x y ts a b = makes accesses (IsAccess place accessibility.Private) (declarations.accesses place accessibility.Private) x y ts a b
form_of place keyword.Protected x y ts a b = makes protects IsNameList whole_lists x y ts a b
form_of place keyword.Save x y ts a b = a.1 ∙ sym b.1
form_of place keyword.Type x y ts a b = types x y ts a b
form_of place keyword.Final x y ts a b = makes finals IsNameList whole_lists x y ts a b
form_of place keyword.If x y ts a b = ifs x y ts a b
form_of place keyword.Else x y ts a b = elses x y ts a b
form_of place keyword.ElseIf x y ts a b = makes else_if IsThen thens x y ts a b
form_of place keyword.Select x y ts a b = selects x y ts a b
form_of place keyword.SelectCase x y ts a b = makes select_case IsCondition whole_conditions x y ts a b
form_of place keyword.Case x y ts a b = makes case_of IsCase selectors x y ts a b
form_of place keyword.Do x y ts a b = makes repeats IsDo does x y ts a b
form_of place keyword.Associate x y ts a b = makes associates IsAssociate all_associations x y ts a b
form_of place k x y ts a b = absurd a

headed : IsOneWhole IsHeaded
unfolding IsHeaded
headed x y ts a b =
    let f = front ts a.0 b.0 a.2 b.2 a.3 b.3 in
    let same = one_keyword a.0 b.0 a.1 b.1 f.0 a.4 b.4 in
    let at_item = subst (λ (i : Item). IsFormOf a.1 i.place x a.2) f.0 a.5 in
    let at_keyword = subst (λ (k : Keyword). IsFormOf k (b.0).place x a.2) same at_item in
    form_of (b.0).place b.1 x y b.2 (subst (λ (l : List Item). IsFormOf b.1 (b.0).place x l) f.1 at_keyword) b.5

-- ---- all forms

at_first : {A : Type 0} (Is : Place → A → List Item → Type 0) → ((place : Place) → IsOneWhole (Is place)) → IsOneWhole (AtFirst Is)
at_first {A} Is one x y ts a b =
    let f = front ts a.0 b.0 a.1 b.1 a.2 b.2 in
    one (b.0).place x y ts (subst (λ (i : Item). Is i.place x ts) f.0 a.3) b.3

form_acts : IsOneWhole IsAct
unfolding IsAct
form_acts x y ts a b = makes acts IsAction actions x y ts a b

procedures : IsOneWhole IsProcedure
unfolding IsProcedure
procedures x y ts a b = makes procedure (AtFirst IsHeader) (at_first IsHeader headers.headers) x y ts a b

declared : IsOneWhole IsDeclared
unfolding IsDeclared
declared x y ts a b = makes declares (AtFirst IsDeclaration) (at_first IsDeclaration declarations.declarations) x y ts a b

specified : IsOneWhole IsSpecified
unfolding IsSpecified
specified x y ts a b = first_of IsDeclared IsHeaded declared headed x y ts a b

passive : IsOneWhole IsPassive
unfolding IsPassive
passive x y ts a b = first_of IsProcedure IsSpecified procedures specified x y ts a b

pub forms : IsOneWhole IsForm
unfolding IsForm
forms x y ts a b = first_of IsAct IsPassive form_acts passive x y ts a b
