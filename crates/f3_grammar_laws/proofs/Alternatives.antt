-- Where one reading stands before another, no tokens have both.
use Rattle.std.proofs.Common.{◌≡◌, List, [], ◌∷◌, Bool, true, false, Option, Some, None, refl, sym, ap, subst, ◌∙◌, inl, inr}
use Rattle.std.proofs.lemmas.Bool.{true≢false}
use Rattle.f3_places.specs.declared.source.Place.{Place}
use Rattle.f3_tree.specs.declared.declaration.Rename.{Rename}
use Rattle.f3_tree.specs.declared.declaration.TypeSpecifier.{TypeSpecifier}
use Rattle.f3_tree.specs.Expressions.{Tree, designator}
use Rattle.f3_tree.specs.Declarations.{Bounds, ShapeTree, EntityTree, DeclarationTree, Placed}
use Rattle.f3_tree.specs.Tree.{HeaderTree}
use Rattle.f3_tree.specs.Statements.{Act}
use Rattle.f3_words.specs.declared.item.Keyword.{Keyword}
use Rattle.f3_words.specs.declared.item.Keyword.TheVariants as keyword
use Rattle.f3_words.specs.declared.item.Word.{Word}
use Rattle.f3_words.specs.declared.item.Word.TheVariants as word
use Rattle.f3_words.specs.declared.item.Item.{Item}
use Rattle.f3_words.specs.Words.{is_name}
use Rattle.f3_words.specs.Lists.{starts, is_comma, EatsRun, Separated}
use Rattle.f3_reading.specs.Parts.{EatsWord, EatsKeyword, EatsName}
use Rattle.f3_reading.specs.Names.{EatsEnclosedName, EatsColons}
use Rattle.f3_expressions.specs.Grammar.{Eats, is_open, EatsExpression, EatsDesignator}
use Rattle.f3_expressions.specs.Readings.{ends_bound}
use Rattle.f3_expressions.proofs.Fronts.{name_equals}
use Rattle.f3_declarations.specs.declared.procedures.Prefix.{Prefix}
use Rattle.f3_declarations.specs.declared.procedures.Prefix.TheVariants as prefix
use Rattle.f3_declarations.specs.declared.procedures.Prefixes.{Prefixes}
use Rattle.f3_declarations.specs.Specifications.{EatsRename, AreRenames, EatsOnlyHead, IsRenameList, EatsDerived, EatsSpecifierOf, EatsSpecifier, EatsInitialPerhaps, EatsEntity, AreEntities, EatsAttributes, IsDeclarationBehind, IsDeclaration, EatsTyped, EatsPrefixOf, EatsPrefix, ArePrefixes, no_prefix, with_prefixes, EatsPrefixes, IsProcedureOf, IsProcedureBehind, IsHeader}
use Rattle.f3_shapes.specs.Shapes.{EatsBound, EatsBounds, EatsLower, AreBounds, AreLowers, EatsExplicit, EatsDeferred, EatsShapePerhaps}
use Rattle.f3_actions.specs.Actions.{IsAssignment, EatsStatusHead, IsHeadedAction, IsAction, EatsCondition, IsCondition, IsDefault, AreValues, IsWhile, IsCounted}
use Rattle.f3_form.specs.Forms.{FormTree}
use Rattle.f3_forms.specs.Grammar.{IsType, IsBlockIf, IsLogicalIf, IsFormOf, IsHeaded, IsAct, IsProcedure, IsDeclared, IsSpecified, IsPassive, IsForm}
use Rattle.f3_grammar_laws.specs.Laws.{Exclude, IsOfAKind, FormsAreOfFourKinds, ShapesExclude, SelectionsExclude, StatusIsNoObject}
use Rattle.f3_grammar_laws.proofs.Parts.{sign, sign_along, lacked_along, front, one_keyword}
use Rattle.f3_grammar_laws.proofs.Ones.{expressions}
use Rattle.f3_grammar_laws.proofs.Bounds.{begins_no_bound}
use Rattle.f3_grammar_laws.proofs.Declarations.{specifier_of}
use Rattle.f3_grammar_laws.proofs.Assigned.{assigned, opens, Headed, not_assigned, not_acting}
use Rattle.f3_grammar_laws.proofs.Heads.{headed_action, declaration_headed, header_headed, procedure_named, procedure_headed, headed_named, prefixes_headed, type_there, default_there, values_there, form_headed}

-- ---- assignments and actions

pub assignments : Exclude IsAssignment IsHeadedAction
assignments x y ts a b = not_assigned true ts (assigned x ts a) (headed_action y ts b)

then_alone : (ts : List Item) → EatsKeyword keyword.Then ts [] → Headed false ts
unfolding EatsWord
then_alone ts h = record { first = h.0; keyword = keyword.Then; tail = []; is = h.1; word_is = h.2; acts = refl; opposed = inl (refl, refl) }

no_action : (a : Act) (ts : List Item) → IsAction a ts → Headed false ts → ⊥
unfolding IsAction
no_action a ts (inl h) w = not_assigned false ts (assigned a ts h) w
no_action a ts (inr h) w = not_acting ts (headed_action a ts h.1) w

pub block_ifs : (e : Tree) → Exclude (IsBlockIf e) (IsLogicalIf e)
unfolding IsBlockIf IsLogicalIf
block_ifs e x y ts a b = no_action b.0 ts b.4 (then_alone ts a.0)

procedure_alone : (f : FormTree) (ts : List Item) → IsProcedure f ts → Headed false ts
unfolding IsProcedure
procedure_alone f ts h = header_headed ((h.2).0).place h.0 ts (h.2).3

declared_alone : (f : FormTree) (ts : List Item) → IsDeclared f ts → Headed false ts
unfolding IsDeclared
declared_alone f ts h = declaration_headed ((h.2).0).place h.0 ts (h.2).3

specified_alone : (f : FormTree) (ts : List Item) → IsSpecified f ts → Headed false ts
unfolding IsSpecified
specified_alone f ts (inl h) = declared_alone f ts h
specified_alone f ts (inr h) = form_headed f ts h.1

passive_alone : (f : FormTree) (ts : List Item) → IsPassive f ts → Headed false ts
unfolding IsPassive
passive_alone f ts (inl h) = procedure_alone f ts h
passive_alone f ts (inr h) = specified_alone f ts h.1

pub form_acts : Exclude IsAct IsPassive
unfolding IsAct
form_acts x y ts a b = no_action a.0 ts a.2 (passive_alone y ts b)

-- ---- CASE and DO

pub defaults : Exclude IsDefault AreValues
defaults x y ts a b = let w = values_there y ts b in true≢false (sym (opens w.list ts [] w.eats).0 ∙ (default_there x ts a).1)

condition_opens : (e : Tree) (ts : List Item) → IsCondition e ts → starts is_open ts ≡ true
unfolding IsCondition EatsCondition EatsWord
condition_opens e ts h = ap (starts is_open) (h.2).1 ∙ ap is_open (h.2).2

pub whiles : Exclude IsWhile IsCounted
unfolding IsWhile IsCounted EatsName EatsWord
whiles x y ts a b =
    let same = (front ts (a.2).0 (b.4).0 a.1 b.2 (a.2).1 (b.4).1).1 in
    true≢false (sym (condition_opens a.0 a.1 a.3) ∙ ap (starts is_open) (same ∙ (b.5).1) ∙ ap is_open (b.5).2)

-- ---- declarations and forms with a keyword of their own

derived_not_type : (s : TypeSpecifier) (f : FormTree) (ts r : List Item) → EatsDerived s ts r → IsType f ts → ⊥
unfolding EatsDerived EatsEnclosedName EatsWord
derived_not_type s f ts r h g = let opening = (h.1).2 in true≢false (sym (ap (starts is_open) opening.1 ∙ ap is_open opening.2) ∙ (type_there f ts g).1)

specifier_not_form : (k : Keyword) (s : TypeSpecifier) (ts r : List Item) (place : Place) (f : FormTree) → EatsSpecifierOf k s ts r → IsFormOf k place f ts → ⊥
specifier_not_form keyword.Integer s ts r place f h g = g
specifier_not_form keyword.Logical s ts r place f h g = g
specifier_not_form keyword.Type s ts r place f h g = derived_not_type s f ts r h g
specifier_not_form k s ts r place f h g = h

specifier_not_headed : (s : TypeSpecifier) (f : FormTree) (ts r : List Item) → EatsSpecifier s ts r → IsHeaded f ts → ⊥
unfolding EatsSpecifier IsHeaded
specifier_not_headed s f ts r h g =
    let fr = front ts h.0 g.0 h.2 g.2 h.3 g.3 in
    let same = one_keyword h.0 g.0 h.1 g.1 fr.0 h.4 g.4 in
    specifier_not_form g.1 s g.2 r (g.0).place f (subst (λ (k : Keyword). EatsSpecifierOf k s g.2 r) same (subst (λ (l : List Item). EatsSpecifierOf h.1 s l r) fr.1 h.5)) g.5

declaration_not_headed : (place : Place) (d : DeclarationTree) (f : FormTree) (ts : List Item) → IsDeclaration place d ts → IsHeaded f ts → ⊥
unfolding IsDeclaration
declaration_not_headed place d f ts h g = specifier_not_headed h.0 f ts h.1 h.2 g

pub declarations : Exclude IsDeclared IsHeaded
unfolding IsDeclared
declarations x y ts a b = declaration_not_headed ((a.2).0).place a.0 y ts (a.2).3 b

-- ---- headers and forms with a keyword of their own

procedure_not_form : (k : Keyword) (place there : Place) (p : Prefixes) (x : HeaderTree) (f : FormTree) (ts : List Item) → IsProcedureOf k place p x ts → IsFormOf k there f ts → ⊥
procedure_not_form keyword.Subroutine place there p x f ts h g = g
procedure_not_form keyword.Function place there p x f ts h g = g
procedure_not_form k place there p x f ts h g = h

procedure_not_headed : (place : Place) (p : Prefixes) (x : HeaderTree) (f : FormTree) (ts : List Item) → IsProcedureBehind place p x ts → IsHeaded f ts → ⊥
unfolding IsProcedureBehind IsHeaded
procedure_not_headed place p x f ts h g =
    let fr = front ts h.0 g.0 h.2 g.2 h.3 g.3 in
    let same = one_keyword h.0 g.0 h.1 g.1 fr.0 h.4 g.4 in
    procedure_not_form g.1 place (g.0).place p x f g.2 (subst (λ (k : Keyword). IsProcedureOf k place p x g.2) same (subst (λ (l : List Item). IsProcedureOf h.1 place p x l) fr.1 h.5)) g.5

prefix_not_form : (k : Keyword) (x : Prefix) (ts r : List Item) (place : Place) (f : FormTree) → EatsPrefixOf k x ts r → IsFormOf k place f ts → ⊥
unfolding EatsTyped
prefix_not_form keyword.Pure x ts r place f h g = g
prefix_not_form keyword.Recursive x ts r place f h g = g
prefix_not_form k x ts r place f h g = specifier_not_form k h.0 ts r place f h.1 g

prefix_not_headed : (x : Prefix) (f : FormTree) (ts r : List Item) → EatsPrefix x ts r → IsHeaded f ts → ⊥
unfolding EatsPrefix IsHeaded
prefix_not_headed x f ts r h g =
    let fr = front ts h.0 g.0 h.2 g.2 h.3 g.3 in
    let same = one_keyword h.0 g.0 h.1 g.1 fr.0 h.4 g.4 in
    prefix_not_form g.1 x g.2 r (g.0).place f (subst (λ (k : Keyword). EatsPrefixOf k x g.2 r) same (subst (λ (l : List Item). EatsPrefixOf h.1 x l r) fr.1 h.5)) g.5

prefixes_not_headed : (xs : List Prefix) (place : Place) (p : Prefixes) (x : HeaderTree) (f : FormTree) (ts r : List Item) → ArePrefixes xs ts r → IsProcedureBehind place p x r → IsHeaded f ts → ⊥
unfolding ArePrefixes
prefixes_not_headed [] place p x f ts r h b g = procedure_not_headed place p x f ts (subst (λ (l : List Item). IsProcedureBehind place p x l) (sym h.0) b) g
prefixes_not_headed (y ∷ ys) place p x f ts r h b g = prefix_not_headed y f ts h.0 h.2 g

header_not_headed : (place : Place) (x : HeaderTree) (f : FormTree) (ts : List Item) → IsHeader place x ts → IsHeaded f ts → ⊥
unfolding IsHeader EatsPrefixes
header_not_headed place x f ts h g = prefixes_not_headed (h.2).0 place h.0 x f ts h.1 (h.2).1 h.3 g

-- ---- headers and declarations: of two names side by side the second is no entity's

others_front : (es : List EntityTree) (ts : List Item) → EatsRun is_comma (Separated EatsEntity) es ts [] → starts is_name ts ≡ false
others_front [] ts h = ap (starts is_name) h.0
others_front (e ∷ es) ts h = ap (starts is_name) h.3 ∙ comma_no_name (h.0).word h.4
  where
    comma_no_name : (w : Word) → is_comma w ≡ true → is_name w ≡ false
    comma_no_name word.Comma c = refl
    comma_no_name w c = absurd (cc)

initial_front : (v : Option Tree) (ts r : List Item) → EatsInitialPerhaps v ts r → starts is_name r ≡ false → starts is_name ts ≡ false
unfolding EatsInitialPerhaps EatsWord
initial_front None ts r h none = ap (starts is_name) h.0 ∙ none
initial_front (Some e) ts r h none = ap (starts is_name) (h.1).1 ∙ ap is_name (h.1).2

shape_front : (s : Option ShapeTree) (ts r : List Item) → EatsShapePerhaps s ts r → starts is_name r ≡ false → starts is_name ts ≡ false
unfolding EatsShapePerhaps EatsWord
shape_front None ts r h none = ap (starts is_name) h.0 ∙ none
shape_front (Some s) ts r h none = ap (starts is_name) (h.1).1 ∙ ap is_name (h.1).2

-- no two names stand at the front
abbrev Single : List Item → Type 0
Single ts = (i : Item) (tail : List Item) → ts ≡ i ∷ tail → is_name i.word ≡ true → starts is_name tail ≡ false

entity_single : (e : EntityTree) (ts r : List Item) → EatsEntity e ts r → starts is_name r ≡ false → Single ts
unfolding EatsEntity EatsName
entity_single e ts r h none i tail is named =
    let same = (front ts (h.5).0 i h.3 tail (h.5).1 is).1 in
    ap (starts is_name) (sym same) ∙ shape_front h.1 h.3 h.4 h.6 (initial_front h.2 h.4 r h.7 none)

entities_single : (es : List EntityTree) (ts : List Item) → AreEntities es ts [] → Single ts
unfolding AreEntities
entities_single es ts h = entity_single h.0 ts h.2 h.4 (others_front h.1 h.2 h.5)

not_named : (w : Word) (ts r : List Item) → is_name w ≡ false → EatsWord w ts r → Single ts
unfolding EatsWord
not_named w ts r other h i tail is named =
    let same = (front ts h.0 i r tail h.1 is).0 in
    absurd (true≢false (sym named ∙ ap (λ (x : Item). is_name x.word) (sym same) ∙ ap is_name h.2 ∙ other))

colons_single : (c : Bool) (ts r : List Item) → EatsColons c ts r → Single r → Single ts
unfolding EatsColons
colons_single true ts r h single = not_named word.Colons ts r refl h
colons_single false ts r h single = subst (λ (l : List Item). Single l) (sym h.0) single

attributes_single : (xs : List Placed) (ts r : List Item) → EatsAttributes xs ts r → Single r → Single ts
unfolding EatsAttributes
attributes_single xs ts r (inl h) single = not_named word.Comma ts h.0 refl h.1
attributes_single xs ts r (inr h) single = subst (λ (l : List Item). Single l) (sym h.1) single

declaration_single : (place : Place) (s : TypeSpecifier) (d : DeclarationTree) (ts : List Item) → IsDeclarationBehind place s d ts → Single ts
unfolding IsDeclarationBehind
declaration_single place s d ts h = attributes_single h.0 ts h.3 h.5 (colons_single h.1 h.3 h.4 h.6 (entities_single h.2 h.4 h.7))

-- two names at the front
record Double (ts : List Item) : Type 0 where
  first : Item
  tail : List Item
  is : ts ≡ first ∷ tail
  named : is_name first.word ≡ true
  second : starts is_name tail ≡ true

not_single : (ts : List Item) → Double ts → Single ts → ⊥
not_single ts a b = true≢false (sym a.second ∙ b a.first a.tail a.is a.named)

prefix_second : (k : Keyword) (x : Prefix) (ts r : List Item) → EatsPrefixOf k x ts r → starts is_name r ≡ true → ((s : TypeSpecifier) → x ≡ prefix.Typed s → ⊥) → starts is_name ts ≡ true
unfolding EatsTyped
prefix_second keyword.Pure x ts r h named none = ap (starts is_name) h.0 ∙ named
prefix_second keyword.Recursive x ts r h named none = ap (starts is_name) h.0 ∙ named
prefix_second k x ts r h named none = absurd (none h.0 h.2)

prefix_double : (x : Prefix) (ts r : List Item) → EatsPrefix x ts r → starts is_name r ≡ true → ((s : TypeSpecifier) → x ≡ prefix.Typed s → ⊥) → Double ts
unfolding EatsPrefix
prefix_double x ts r h named none = record { first = h.0; tail = h.2; is = h.3; named = ap is_name h.4; second = prefix_second h.1 x h.2 r h.5 named none }

procedure_double : (place : Place) (p : Prefixes) (x : HeaderTree) (ts : List Item) → IsProcedureBehind place p x ts → Double ts
unfolding IsProcedureBehind
procedure_double place p x ts h = record { first = h.0; tail = h.2; is = h.3; named = ap is_name h.4; second = procedure_named h.1 place p x h.2 h.5 }

two_typed : (s t : TypeSpecifier) (xs : List Prefix) (p : Prefixes) → with_prefixes no_prefix (prefix.Typed s ∷ prefix.Typed t ∷ xs) ≡ Some p → ⊥
two_typed s t xs p h = cc

-- behind a specifier that begins a header no second one stands
behind_typed : (s : TypeSpecifier) (xs : List Prefix) (p : Prefixes) (place : Place) (q : Prefixes) (x : HeaderTree) (ts r : List Item)
    → with_prefixes no_prefix (prefix.Typed s ∷ xs) ≡ Some p → ArePrefixes xs ts r → IsProcedureBehind place q x r → Double ts
unfolding ArePrefixes
behind_typed s [] p place q x ts r all h b = procedure_double place q x ts (subst (λ (l : List Item). IsProcedureBehind place q x l) (sym h.0) b)
behind_typed s (y ∷ ys) p place q x ts r all h b =
    let rest = prefixes_headed ys h.0 r h.3 (procedure_headed place q x r b) in
    prefix_double y ts h.0 h.2 (headed_named false h.0 rest) (λ t is. two_typed s t ys p (subst (λ (z : Prefix). with_prefixes no_prefix (prefix.Typed s ∷ z ∷ ys) ≡ Some p) is all))

procedure_not_specifier : (k : Keyword) (place : Place) (p : Prefixes) (x : HeaderTree) (s : TypeSpecifier) (ts r : List Item) → IsProcedureOf k place p x ts → EatsSpecifierOf k s ts r → ⊥
procedure_not_specifier keyword.Subroutine place p x s ts r h g = g
procedure_not_specifier keyword.Function place p x s ts r h g = g
procedure_not_specifier k place p x s ts r h g = h

procedure_not_specified : (place : Place) (p : Prefixes) (x : HeaderTree) (s : TypeSpecifier) (ts r : List Item) → IsProcedureBehind place p x ts → EatsSpecifier s ts r → ⊥
unfolding IsProcedureBehind EatsSpecifier
procedure_not_specified place p x s ts r h g =
    let fr = front ts h.0 g.0 h.2 g.2 h.3 g.3 in
    let same = one_keyword h.0 g.0 h.1 g.1 fr.0 h.4 g.4 in
    procedure_not_specifier g.1 place p x s g.2 r (subst (λ (k : Keyword). IsProcedureOf k place p x g.2) same (subst (λ (l : List Item). IsProcedureOf h.1 place p x l) fr.1 h.5)) g.5

-- a prefix that is a specifier
record IsTyped (x : Prefix) (r b : List Item) : Type 0 where
  specifier : TypeSpecifier
  is : x ≡ prefix.Typed specifier
  same : r ≡ b

typed_prefix_of : (k : Keyword) (x : Prefix) (s : TypeSpecifier) (ts r b : List Item) → EatsPrefixOf k x ts r → EatsSpecifierOf k s ts b → IsTyped x r b
unfolding EatsTyped
typed_prefix_of keyword.Pure x s ts r b h g = absurd g
typed_prefix_of keyword.Recursive x s ts r b h g = absurd g
typed_prefix_of k x s ts r b h g = record { specifier = h.0; is = h.2; same = (specifier_of k h.0 s ts r b h.1 g).1 }

typed_prefix : (x : Prefix) (s : TypeSpecifier) (ts r b : List Item) → EatsPrefix x ts r → EatsSpecifier s ts b → IsTyped x r b
unfolding EatsPrefix EatsSpecifier
typed_prefix x s ts r b h g =
    let fr = front ts h.0 g.0 h.2 g.2 h.3 g.3 in
    let same = one_keyword h.0 g.0 h.1 g.1 fr.0 h.4 g.4 in
    typed_prefix_of g.1 x s g.2 r b (subst (λ (k : Keyword). EatsPrefixOf k x g.2 r) same (subst (λ (l : List Item). EatsPrefixOf h.1 x l r) fr.1 h.5)) g.5

prefixes_not_declared : (xs : List Prefix) (p : Prefixes) (place there : Place) (q : Prefixes) (x : HeaderTree) (s : TypeSpecifier) (d : DeclarationTree) (ts r b : List Item)
    → with_prefixes no_prefix xs ≡ Some p → ArePrefixes xs ts r → IsProcedureBehind place q x r → EatsSpecifier s ts b → IsDeclarationBehind there s d b → ⊥
unfolding ArePrefixes
prefixes_not_declared [] p place there q x s d ts r b all h behind g rest =
    procedure_not_specified place q x s ts b (subst (λ (l : List Item). IsProcedureBehind place q x l) (sym h.0) behind) g
prefixes_not_declared (y ∷ ys) p place there q x s d ts r b all h behind g rest =
    let typed = typed_prefix y s ts h.0 b h.2 g in
    let first = subst (λ (z : Prefix). with_prefixes no_prefix (z ∷ ys) ≡ Some p) typed.is all in
    not_single h.0 (behind_typed typed.specifier ys p place q x h.0 r first h.3 behind) (subst (λ (l : List Item). Single l) (sym typed.same) (declaration_single there s d b rest))

header_not_declared : (place there : Place) (x : HeaderTree) (d : DeclarationTree) (ts : List Item) → IsHeader place x ts → IsDeclaration there d ts → ⊥
unfolding IsHeader EatsPrefixes IsDeclaration
header_not_declared place there x d ts h g = prefixes_not_declared (h.2).0 h.0 place there h.0 x g.0 d ts h.1 g.1 (h.2).2 (h.2).1 h.3 g.2 g.3

header_not_specified : (place : Place) (x : HeaderTree) (f : FormTree) (ts : List Item) → IsHeader place x ts → IsSpecified f ts → ⊥
unfolding IsSpecified IsDeclared
header_not_specified place x f ts h (inl g) = header_not_declared place ((g.2).0).place x g.0 ts h (g.2).3
header_not_specified place x f ts h (inr g) = header_not_headed place x f ts h g.1

pub procedures : Exclude IsProcedure IsSpecified
unfolding IsProcedure
procedures x y ts a b = header_not_specified ((a.2).0).place a.0 y ts (a.2).3 b

-- ---- each of them is a form

specified : (f : FormTree) (ts : List Item) → IsSpecified f ts → IsForm f ts
unfolding IsForm IsPassive
specified f ts h =
    let other = inr ((λ y a. procedures y f ts a h), h) in
    inr ((λ y a. form_acts y f ts a other), other)

procedural : (f : FormTree) (ts : List Item) → IsProcedure f ts → IsForm f ts
unfolding IsForm IsPassive
procedural f ts h = inr ((λ y a. form_acts y f ts a (inl h)), inl h)

acting : (f : FormTree) (ts : List Item) → IsAct f ts → IsForm f ts
unfolding IsForm
acting f ts h = inl h

declared : (f : FormTree) (ts : List Item) → IsDeclared f ts → IsForm f ts
unfolding IsSpecified
declared f ts h = specified f ts (inl h)

headed : (f : FormTree) (ts : List Item) → IsHeaded f ts → IsForm f ts
unfolding IsSpecified
headed f ts h = specified f ts (inr ((λ y a. declarations y f ts a h), h))

some_kind : (f : FormTree) (ts : List Item) → IsForm f ts → IsOfAKind f ts
unfolding IsForm IsPassive IsSpecified
some_kind f ts (inl h) = inl (inl h)
some_kind f ts (inr (a, inl h)) = inl (inr h)
some_kind f ts (inr (a, inr (b, inl h))) = inr (inl h)
some_kind f ts (inr (a, inr (b, inr h))) = inr (inr h.1)

pub of_a_kind : (f : FormTree) (ts : List Item) → IsOfAKind f ts → IsForm f ts
of_a_kind f ts (inl (inl h)) = acting f ts h
of_a_kind f ts (inl (inr h)) = procedural f ts h
of_a_kind f ts (inr (inl h)) = declared f ts h
of_a_kind f ts (inr (inr h)) = headed f ts h

pub kinds : FormsAreOfFourKinds
kinds f ts = (some_kind f ts, of_a_kind f ts)

-- ---- shapes, selections of USE, objects of ALLOCATE

lower_front : (ys : List (Option Tree)) (ts r tail : List Item) → EatsRun is_comma (Separated EatsLower) ys ts r → EatsWord word.Close r tail → starts ends_bound ts ≡ true
unfolding EatsWord
lower_front [] ts r tail h closes = ap (starts ends_bound) (h.0 ∙ closes.1) ∙ ap ends_bound closes.2
lower_front (y ∷ ys) ts r tail h closes = ap (starts ends_bound) h.3 ∙ comma_ends (h.0).word h.4
  where
    comma_ends : (w : Word) → is_comma w ≡ true → ends_bound w ≡ true
    comma_ends word.Comma c = refl
    comma_ends w c = absurd (cc)

colon_front : (ts r : List Item) → EatsWord word.Colon ts r → starts ends_bound ts ≡ true
unfolding EatsWord
colon_front ts r h = ap (starts ends_bound) h.1 ∙ ap ends_bound h.2

no_bound : (e : Tree) (ts r : List Item) → EatsExpression e ts r → starts ends_bound ts ≡ true → ⊥
unfolding EatsExpression
no_bound e ts r h front_is = true≢false (sym front_is ∙ begins_no_bound e ts r h.0)

bound_not_lower : (l : Option Tree) (u : Tree) (y : Option Tree) (ts r s : List Item) → EatsBound l u ts r → EatsLower y ts s → starts ends_bound s ≡ true → ⊥
unfolding EatsLower
bound_not_lower None u None ts r s h g after = no_bound u ts r h.0 (colon_front ts s g)
bound_not_lower (Some l) u None ts r s h g after = no_bound l ts h.0 h.2 (colon_front ts s g)
bound_not_lower None u (Some m) ts r s h g after = lacked_along word.Colon r g.0 s (expressions u m ts r g.0 h.0 g.2).1 h.1 g.3
bound_not_lower (Some l) u (Some m) ts r s h g after =
    let same = sign_along word.Colon h.0 g.0 h.1 s (expressions l m ts h.0 g.0 h.2 g.2).1 h.3 g.3 in
    no_bound u h.1 r h.4 (ap (starts ends_bound) same ∙ after)

bounds_not_lowers : (xs : List Bounds) (ys : List (Option Tree)) (ts r s tail : List Item) → AreBounds xs ts r → AreLowers ys ts s → EatsWord word.Close s tail → ⊥
unfolding AreBounds AreLowers EatsBounds
bounds_not_lowers xs ys ts r s tail h g closes =
    let b = h.4 in
    bound_not_lower b.0 b.1 g.0 ts h.2 g.2 b.2 g.4 (lower_front g.1 g.2 s tail g.5 closes)

pub shapes : ShapesExclude
unfolding EatsExplicit EatsDeferred
shapes xs ys ts r s a b = bounds_not_lowers xs ys ts a.0 b.0 s a.1 b.1 b.2

rename_not_only : (x : Rename) (ts r a b : List Item) → EatsRename x ts r → EatsKeyword keyword.Only ts a → EatsWord word.Colon a b → ⊥
unfolding EatsRename EatsName EatsWord
rename_not_only x ts r a b h only_word colon =
    let same = (front ts (h.4).0 only_word.0 h.2 a (h.4).1 only_word.1).1 in
    let signs = (front a (h.5).0 colon.0 h.3 b (sym same ∙ (h.5).1) colon.1).0 in
    let words : word.Arrow ≡ word.Colon = sym (h.5).2 ∙ ap (λ (i : Item). i.word) signs ∙ colon.2 in
    cc

renames_not_only : (xs : List Rename) (ts r a b : List Item) → AreRenames xs ts r → EatsKeyword keyword.Only ts a → EatsWord word.Colon a b → ⊥
unfolding AreRenames
renames_not_only xs ts r a b h only_word colon = rename_not_only h.0 ts h.2 a b h.4 only_word colon

no_comma : (ts r : List Item) → ts ≡ [] → EatsWord word.Comma ts r → ⊥
unfolding EatsWord
no_comma ts r none h = let e : [] ≡ h.0 ∷ r = sym none ∙ h.1 in cc

pub selections : SelectionsExclude
unfolding IsRenameList EatsOnlyHead
selections xs ts a (inl h) g = no_comma ts g.0 h.0 g.2
selections xs ts a (inr h) g =
    let same = sign word.Comma ts h.0 g.0 h.1 g.2 in
    renames_not_only xs g.0 [] g.1 a (subst (λ (l : List Item). AreRenames xs l []) same h.2) g.3 g.4

pub objects : StatusIsNoObject
unfolding EatsDesignator EatsStatusHead EatsWord
objects v ts r a h g =
    let stat = g.1 in
    let equals = g.2 in
    let whole : ts ≡ stat.0 ∷ equals.0 ∷ a = stat.1 ∙ ap (λ (l : List Item). stat.0 ∷ l) equals.1 in
    (equals.0, name_equals 9 (designator v) stat.0 equals.0 a r (ap is_name stat.2) equals.2 (subst (λ (l : List Item). Eats 9 (designator v) l r) whole h), equals.2)
