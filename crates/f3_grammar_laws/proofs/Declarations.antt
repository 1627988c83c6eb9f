-- The statements of a specification part, and headers, are spelled in one way.
use Rattle.std.proofs.Common.{◌≡◌, List, [], Option, Some, None, refl, sym, ap, subst, ◌∙◌, inl, inr}
use Rattle.f3_places.specs.declared.source.Place.{Place}
use Rattle.f3_tree.specs.declared.expression.Name.{Name as Identifier}
use Rattle.f3_tree.specs.declared.declaration.Rename.{Rename}
use Rattle.f3_tree.specs.declared.declaration.Only.{Only}
use Rattle.f3_tree.specs.declared.declaration.Only.TheVariants as only_of
use Rattle.f3_tree.specs.declared.declaration.Accessibility.{Accessibility}
use Rattle.f3_tree.specs.declared.declaration.Intent.{Intent}
use Rattle.f3_tree.specs.declared.declaration.Intent.TheVariants as intent_of
use Rattle.std.specs.Prelude.{unwrap_or}
use Rattle.f3_tree.specs.declared.expression.IntegerKind.{IntegerKind}
use Rattle.f3_tree.specs.declared.expression.IntegerKind.TheVariants as kind
use Rattle.f3_tree.specs.declared.declaration.TypeSpecifier.{TypeSpecifier}
use Rattle.f3_tree.specs.declared.declaration.TypeSpecifier.TheVariants as specifier
use Rattle.f3_tree.specs.Expressions.{Tree}
use Rattle.f3_tree.specs.Declarations.{Selects, all, only, UseTree, Bounds, ShapeTree, explicit, deferred, AttributeTree, dimension, intent, Placed, EntityTree, DeclarationTree, AccessTree}
use Rattle.f3_words.specs.declared.item.Keyword.{Keyword}
use Rattle.f3_words.specs.declared.item.Keyword.TheVariants as keyword
use Rattle.f3_words.specs.declared.item.Word.TheVariants as word
use Rattle.f3_words.specs.declared.item.Item.{Item}
use Rattle.f3_reading.specs.Parts.{EatsWord, EatsName, EatsKeyword, Lacks}
use Rattle.f3_reading.specs.Names.{EatsColons}
use Rattle.f3_reading.specs.Laws.{IsOne, IsOneWhole}
use Rattle.f3_reading.proofs.Words.{lacked}
use Rattle.f3_reading.proofs.Ones.{words, names, enclosed_names, colons, whole_lists, lists, enclosed, perhaps, behind_comma}
use Rattle.f3_expressions.specs.Grammar.{EatsExpression}
use Rattle.f3_declarations.specs.Specifications.{EatsRename, EatsOnly, AreRenames, AreOnly, EatsOnlyHead, IsOnlyList, IsRenameList, IsSelection, IsUse, IsAccessList, IsAccess, EatsDerived, EatsSpecifierOf, EatsSpecifier, EatsIntent, EatsEnclosedIntent, EatsDimension, EatsIntentOf, EatsAttributeOf, EatsAttribute, AreAttributes, EatsInitialPerhaps, EatsEntity, AreEntities, EatsAttributes, IsDeclarationBehind, IsDeclaration}
use Rattle.f3_declarations.specs.Kinds.{EatsKindName, EatsKindDigit, EatsKindBehind, EatsKindPerhaps, EatsInteger}
use Rattle.f3_shapes.specs.Shapes.{EatsBound, EatsBounds, EatsLower, AreBounds, AreLowers, EatsExplicit, EatsDeferred, EatsShapeBehind, EatsShape, EatsShapePerhaps}
use Rattle.f3_grammar_laws.proofs.Parts.{ap2, ap3, along, whole_along, sign, sign_along, lacked_along, same_keyword, at_keyword}
use Rattle.f3_grammar_laws.proofs.Ones.{expressions}

-- ---- USE

abbrev rename_of : Identifier → Identifier → Rename
rename_of l o = record { local = l; original = o }

renames : IsOne EatsRename
unfolding EatsRename
renames x y ts r s a b =
    let l = names a.0 b.0 ts a.2 b.2 a.4 b.4 in
    let w = sign_along word.Arrow a.2 b.2 a.3 b.3 l.1 a.5 b.5 in
    let o = along EatsName names a.1 b.1 a.3 b.3 r s w a.6 b.6 in
    (a.7 ∙ ap2 rename_of l.0 o.0 ∙ sym b.7, o.1)

not_renamed : (n : Identifier) (x : Rename) (ts r s : List Item) → EatsName n ts r → Lacks word.Arrow r → EatsRename x ts s → ⊥
unfolding EatsRename
not_renamed n x ts r s a none b = lacked_along word.Arrow r b.2 b.3 (names n b.0 ts r b.2 a b.4).1 none b.5

only_names : IsOne EatsOnly
unfolding EatsOnly
only_names (only_of.Name n) (only_of.Name m) ts r s a b = let o = names n m ts r s a.0 b.0 in (ap (λ (z : Identifier). only_of.Name z) o.0, o.1)
only_names (only_of.Name n) (only_of.Rename y) ts r s a b = absurd (not_renamed n y ts r s a.0 a.1 b)
only_names (only_of.Rename x) (only_of.Name m) ts r s a b = absurd (not_renamed m x ts s r b.0 b.1 a)
only_names (only_of.Rename x) (only_of.Rename y) ts r s a b = let o = renames x y ts r s a b in (ap (λ (z : Rename). only_of.Rename z) o.0, o.1)

rename_lists : IsOne AreRenames
unfolding AreRenames
rename_lists xs ys ts r s a b = lists EatsRename renames xs ys ts r s a b

only_lists : IsOne AreOnly
unfolding AreOnly
only_lists xs ys ts r s a b = lists EatsOnly only_names xs ys ts r s a b

only_heads : (ts r s : List Item) → EatsOnlyHead ts r → EatsOnlyHead ts s → r ≡ s
unfolding EatsOnlyHead
only_heads ts r s a b =
    let comma = sign word.Comma ts a.0 b.0 a.2 b.2 in
    let only_word = sign_along (word.Name keyword.Only) a.0 b.0 a.1 b.1 comma a.3 b.3 in
    sign_along word.Colon a.1 b.1 r s only_word a.4 b.4

whole_only : IsOneWhole IsOnlyList
unfolding IsOnlyList
whole_only xs ys ts (inl a) (inl b) = a.1 ∙ sym b.1
whole_only xs ys ts (inl a) (inr b) = absurd (b.0 a.0)
whole_only xs ys ts (inr a) (inl b) = absurd (a.0 b.0)
whole_only xs ys ts (inr a) (inr b) = (only_lists xs ys ts [] [] a.1 b.1).0

whole_renames : IsOneWhole IsRenameList
unfolding IsRenameList
whole_renames xs ys ts (inl a) (inl b) = a.1 ∙ sym b.1
whole_renames xs ys ts (inl a) (inr b) = absurd (b.3 a.0)
whole_renames xs ys ts (inr a) (inl b) = absurd (a.3 b.0)
whole_renames xs ys ts (inr a) (inr b) = (along AreRenames rename_lists xs ys a.0 b.0 [] [] (sign word.Comma ts a.0 b.0 a.1 b.1) a.2 b.2).0

selections : IsOneWhole IsSelection
unfolding IsSelection
selections (all xs) (all ys) ts a b = ap (λ (z : List Rename). all z) (whole_renames xs ys ts a.0 b.0)
selections (all xs) (only ys) ts a b = absurd (a.1 b.0 b.1)
selections (only xs) (all ys) ts a b = absurd (b.1 a.0 a.1)
selections (only xs) (only ys) ts a b = ap (λ (z : List Only). only z) (whole_along IsOnlyList whole_only xs ys a.0 b.0 (only_heads ts a.0 b.0 a.1 b.1) a.2 b.2)

abbrev use_of : Place → Identifier → Selects → UseTree
use_of p n s = record { place = p; from = n; selection = s }

pub uses : (place : Place) → IsOneWhole (IsUse place)
unfolding IsUse
uses place x y ts a b =
    let c = colons a.2 b.2 ts a.3 b.3 a.5 b.5 in
    let n = along EatsName names a.0 b.0 a.3 b.3 a.4 b.4 c.1 a.6 b.6 in
    let s = whole_along IsSelection selections a.1 b.1 a.4 b.4 n.1 a.7 b.7 in
    a.8 ∙ ap2 (use_of place) n.0 s ∙ sym b.8

-- ---- PUBLIC and PRIVATE

access_lists : IsOneWhole IsAccessList
unfolding IsAccessList
access_lists xs ys ts (inl a) (inl b) = a.1 ∙ sym b.1
access_lists xs ys ts (inl a) (inr b) = absurd (b.0 a.0)
access_lists xs ys ts (inr a) (inl b) = absurd (a.0 b.0)
access_lists xs ys ts (inr a) (inr b) = whole_lists xs ys ts a.1 b.1

abbrev access_of : Place → Accessibility → List Identifier → AccessTree
access_of p a ns = record { place = p; accessibility = a; names = ns }

pub accesses : (place : Place) (kind : Accessibility) → IsOneWhole (IsAccess place kind)
unfolding IsAccess
accesses place kind x y ts a b = a.2 ∙ ap (λ (ns : List Identifier). access_of place kind ns) (access_lists a.0 b.0 ts a.1 b.1) ∙ sym b.2

-- ---- specifiers

derived : IsOne EatsDerived
unfolding EatsDerived
derived x y ts r s a b =
    let n = enclosed_names a.0 b.0 ts r s a.1 b.1 in
    (a.2 ∙ ap (λ (z : Identifier). specifier.Derived z) n.0 ∙ sym b.2, n.1)

-- the kind of INTEGER
kind_names : (ts r s : List Item) → EatsKindName ts r → EatsKindName ts s → r ≡ s
unfolding EatsKindName
kind_names ts r s (inl a) (inl b) = sign_along word.Equals a.0 b.0 r s (sign (word.Name keyword.Kind) ts a.0 b.0 a.1 b.1) a.2 b.2
kind_names ts r s (inl a) (inr b) = absurd (lacked (word.Name keyword.Kind) ts a.0 b.1 a.1)
kind_names ts r s (inr a) (inl b) = absurd (lacked (word.Name keyword.Kind) ts b.0 a.1 b.1)
kind_names ts r s (inr a) (inr b) = sym a.0 ∙ b.0

same_digit : (x y : IntegerKind) → word.KindDigit x ≡ word.KindDigit y → x ≡ y
same_digit x y e = cc

kinds : IsOne EatsKindBehind
unfolding EatsKindBehind EatsKindDigit
kinds x y ts r s a b =
    let n = kind_names ts a.0 b.0 a.2 b.2 in
    let d = words (word.KindDigit x) (word.KindDigit y) b.0 a.1 b.1 (subst (λ (l : List Item). EatsWord (word.KindDigit x) l a.1) n a.3) b.3 in
    (same_digit x y d.0, sign_along word.Close a.1 b.1 r s d.1 a.4 b.4)

integers : IsOne EatsInteger
unfolding EatsInteger EatsKindPerhaps
integers x y ts r s a b =
    let o = perhaps word.Open EatsKindBehind kinds a.0 b.0 ts r s a.1 b.1 in
    (a.2 ∙ ap (λ (k : Option IntegerKind). specifier.Integer (unwrap_or k kind.Four)) o.0 ∙ sym b.2, o.1)

pub specifier_of : (k : Keyword) → IsOne (EatsSpecifierOf k)
specifier_of keyword.Integer x y ts r s a b = integers x y ts r s a b
specifier_of keyword.Logical x y ts r s a b = (a.1 ∙ sym b.1, sym a.0 ∙ b.0)
specifier_of keyword.Type x y ts r s a b = derived x y ts r s a b
specifier_of k x y ts r s a b = absurd a

specifiers : IsOne EatsSpecifier
unfolding EatsSpecifier
specifiers x y ts r s a b =
    let o = at_keyword EatsSpecifierOf specifier_of x y a.0 b.0 a.1 b.1 a.2 b.2 ts r s a.3 a.4 a.5 b.3 b.4 b.5 in
    (o.1, o.2)

-- ---- shapes

one_bound : (l m : Option Tree) (e f : Tree) (ts r s : List Item) → EatsBound l e ts r → EatsBound m f ts s → (l ≡ m) × (e ≡ f) × (r ≡ s)
one_bound None None e f ts r s a b = let o = expressions e f ts r s a.0 b.0 in (refl, o.0, o.1)
one_bound None (Some m) e f ts r s a b = absurd (lacked_along word.Colon r b.0 b.1 (expressions e m ts r b.0 a.0 b.2).1 a.1 b.3)
one_bound (Some l) None e f ts r s a b = absurd (lacked_along word.Colon s a.0 a.1 (expressions f l ts s a.0 b.0 a.2).1 b.1 a.3)
one_bound (Some l) (Some m) e f ts r s a b =
    let lower = expressions l m ts a.0 b.0 a.2 b.2 in
    let colon = sign_along word.Colon a.0 b.0 a.1 b.1 lower.1 a.3 b.3 in
    let upper = along EatsExpression expressions e f a.1 b.1 r s colon a.4 b.4 in
    (ap (λ (z : Tree). Some z) lower.0, upper.0, upper.1)

abbrev bounds_of : Option Tree → Tree → Bounds
bounds_of l u = record { lower = l; upper = u }

bounds : IsOne EatsBounds
unfolding EatsBounds
bounds x y ts r s a b =
    let o = one_bound a.0 b.0 a.1 b.1 ts r s a.2 b.2 in
    (a.3 ∙ ap2 bounds_of o.0 o.1 ∙ sym b.3, o.2)

lowers : IsOne EatsLower
unfolding EatsLower
lowers None None ts r s a b = (refl, sign word.Colon ts r s a b)
lowers None (Some m) ts r s a b = absurd (lacked word.Colon ts r b.1 a)
lowers (Some l) None ts r s a b = absurd (lacked word.Colon ts s a.1 b)
lowers (Some l) (Some m) ts r s a b =
    let lower = expressions l m ts a.0 b.0 a.2 b.2 in
    (ap (λ (z : Tree). Some z) lower.0, sign_along word.Colon a.0 b.0 r s lower.1 a.3 b.3)

bound_lists : IsOne AreBounds
unfolding AreBounds
bound_lists xs ys ts r s a b = lists EatsBounds bounds xs ys ts r s a b

lower_lists : IsOne AreLowers
unfolding AreLowers
lower_lists xs ys ts r s a b = lists EatsLower lowers xs ys ts r s a b

explicits : IsOne EatsExplicit
unfolding EatsExplicit
explicits xs ys ts r s a b =
    let o = bound_lists xs ys ts a.0 b.0 a.1 b.1 in
    (o.0, sign_along word.Close a.0 b.0 r s o.1 a.2 b.2)

deferreds : IsOne EatsDeferred
unfolding EatsDeferred
deferreds xs ys ts r s a b =
    let o = lower_lists xs ys ts a.0 b.0 a.1 b.1 in
    (o.0, sign_along word.Close a.0 b.0 r s o.1 a.2 b.2)

shapes_behind : IsOne EatsShapeBehind
unfolding EatsShapeBehind
shapes_behind (explicit xs) (explicit ys) ts r s a b = let o = explicits xs ys ts r s a b in (ap (λ (z : List Bounds). explicit z) o.0, o.1)
shapes_behind (explicit xs) (deferred ys) ts r s a b = absurd (b.1 xs r a)
shapes_behind (deferred xs) (explicit ys) ts r s a b = absurd (a.1 ys s b)
shapes_behind (deferred xs) (deferred ys) ts r s a b = let o = deferreds xs ys ts r s a.0 b.0 in (ap (λ (z : List (Option Tree)). deferred z) o.0, o.1)

shapes : IsOne EatsShape
unfolding EatsShape
shapes x y ts r s a b = along EatsShapeBehind shapes_behind x y a.0 b.0 r s (sign word.Open ts a.0 b.0 a.1 b.1) a.2 b.2

-- ---- attributes

in_word : (ts r s : List Item) → EatsKeyword keyword.In ts r → EatsKeyword keyword.In ts s → r ≡ s
in_word ts r s a b = sign (word.Name keyword.In) ts r s a b

not_out : (ts r s : List Item) → EatsKeyword keyword.In ts r → EatsKeyword keyword.Out ts s → ⊥
not_out ts r s a b = let same = same_keyword keyword.In keyword.Out ts r s a b in cc

not_joined : (ts r s : List Item) → EatsKeyword keyword.In ts r → EatsKeyword keyword.InOut ts s → ⊥
not_joined ts r s a b = let same = same_keyword keyword.In keyword.InOut ts r s a b in cc

out_not_joined : (ts r s : List Item) → EatsKeyword keyword.Out ts r → EatsKeyword keyword.InOut ts s → ⊥
out_not_joined ts r s a b = let same = same_keyword keyword.Out keyword.InOut ts r s a b in cc

-- IN alone is not IN OUT
in_alone : (ts r a s : List Item) → EatsKeyword keyword.In ts r → Lacks (word.Name keyword.Out) r → EatsKeyword keyword.In ts a → EatsKeyword keyword.Out a s → ⊥
in_alone ts r a s h none k g = lacked_along (word.Name keyword.Out) r a s (in_word ts r a h k) none g

intents : IsOne EatsIntent
unfolding EatsIntent
intents intent_of.In intent_of.In ts r s a b = (refl, in_word ts r s a.0 b.0)
intents intent_of.In intent_of.Out ts r s a b = absurd (not_out ts r s a.0 b)
intents intent_of.In intent_of.InOut ts r s a (inl b) = absurd (not_joined ts r s a.0 b)
intents intent_of.In intent_of.InOut ts r s a (inr b) = absurd (in_alone ts r b.0 s a.0 a.1 b.1 b.2)
intents intent_of.Out intent_of.In ts r s a b = absurd (not_out ts s r b.0 a)
intents intent_of.Out intent_of.Out ts r s a b = (refl, sign (word.Name keyword.Out) ts r s a b)
intents intent_of.Out intent_of.InOut ts r s a (inl b) = absurd (out_not_joined ts r s a b)
intents intent_of.Out intent_of.InOut ts r s a (inr b) = absurd (not_out ts b.0 r b.1 a)
intents intent_of.InOut intent_of.In ts r s (inl a) b = absurd (not_joined ts s r b.0 a)
intents intent_of.InOut intent_of.In ts r s (inr a) b = absurd (in_alone ts s a.0 r b.0 b.1 a.1 a.2)
intents intent_of.InOut intent_of.Out ts r s (inl a) b = absurd (out_not_joined ts s r b a)
intents intent_of.InOut intent_of.Out ts r s (inr a) b = absurd (not_out ts a.0 s a.1 b)
intents intent_of.InOut intent_of.InOut ts r s (inl a) (inl b) = (refl, sign (word.Name keyword.InOut) ts r s a b)
intents intent_of.InOut intent_of.InOut ts r s (inl a) (inr b) = absurd (not_joined ts b.0 r b.1 a)
intents intent_of.InOut intent_of.InOut ts r s (inr a) (inl b) = absurd (not_joined ts a.0 s a.1 b)
intents intent_of.InOut intent_of.InOut ts r s (inr a) (inr b) = (refl, sign_along (word.Name keyword.Out) a.0 b.0 r s (in_word ts a.0 b.0 a.1 b.1) a.2 b.2)

enclosed_intents : IsOne EatsEnclosedIntent
unfolding EatsEnclosedIntent
enclosed_intents x y ts r s a b = enclosed EatsIntent intents x y ts r s a b

dimensions : IsOne EatsDimension
unfolding EatsDimension
dimensions x y ts r s a b =
    let o = shapes a.0 b.0 ts r s a.1 b.1 in
    (a.2 ∙ ap (λ (z : ShapeTree). dimension z) o.0 ∙ sym b.2, o.1)

intents_of : IsOne EatsIntentOf
unfolding EatsIntentOf
intents_of x y ts r s a b =
    let o = enclosed_intents a.0 b.0 ts r s a.1 b.1 in
    (a.2 ∙ ap (λ (z : Intent). intent z) o.0 ∙ sym b.2, o.1)

attribute_of : (k : Keyword) → IsOne (EatsAttributeOf k)
attribute_of keyword.Public x y ts r s a b = (a.1 ∙ sym b.1, sym a.0 ∙ b.0)
attribute_of keyword.Private x y ts r s a b = (a.1 ∙ sym b.1, sym a.0 ∙ b.0)
attribute_of keyword.Protected x y ts r s a b = (a.1 ∙ sym b.1, sym a.0 ∙ b.0)
attribute_of keyword.Parameter x y ts r s a b = (a.1 ∙ sym b.1, sym a.0 ∙ b.0)
attribute_of keyword.Save x y ts r s a b = (a.1 ∙ sym b.1, sym a.0 ∙ b.0)
attribute_of keyword.Allocatable x y ts r s a b = (a.1 ∙ sym b.1, sym a.0 ∙ b.0)
attribute_of keyword.Dimension x y ts r s a b = dimensions x y ts r s a b
attribute_of keyword.Intent x y ts r s a b = intents_of x y ts r s a b
attribute_of k x y ts r s a b = absurd a

abbrev placed : Place → AttributeTree → Placed
placed p a = record { place = p; attribute = a }

attributes_at : IsOne EatsAttribute
unfolding EatsAttribute
attributes_at x y ts r s a b =
    let o = at_keyword EatsAttributeOf attribute_of a.3 b.3 a.0 b.0 a.1 b.1 a.2 b.2 ts r s a.4 a.5 a.6 b.4 b.5 b.6 in
    (a.7 ∙ ap2 placed (ap (λ (i : Item). i.place) o.0) o.1 ∙ sym b.7, o.2)

attribute_lists : IsOne AreAttributes
unfolding AreAttributes
attribute_lists xs ys ts r s a b = lists EatsAttribute attributes_at xs ys ts r s a b

attributes_behind : IsOne EatsAttributes
unfolding EatsAttributes
attributes_behind xs ys ts r s a b = behind_comma AreAttributes attribute_lists xs ys ts r s a b

-- ---- entities and declarations

shapes_perhaps : IsOne EatsShapePerhaps
unfolding EatsShapePerhaps
shapes_perhaps x y ts r s a b = perhaps word.Open EatsShapeBehind shapes_behind x y ts r s a b

initials_perhaps : IsOne EatsInitialPerhaps
unfolding EatsInitialPerhaps
initials_perhaps x y ts r s a b = perhaps word.Equals EatsExpression expressions x y ts r s a b

abbrev entity_of : Identifier → Option ShapeTree → Option Tree → EntityTree
entity_of n s v = record { name = n; shape = s; initial = v }

entities : IsOne EatsEntity
unfolding EatsEntity
entities x y ts r s a b =
    let n = names a.0 b.0 ts a.3 b.3 a.5 b.5 in
    let shape = along EatsShapePerhaps shapes_perhaps a.1 b.1 a.3 b.3 a.4 b.4 n.1 a.6 b.6 in
    let initial = along EatsInitialPerhaps initials_perhaps a.2 b.2 a.4 b.4 r s shape.1 a.7 b.7 in
    (a.8 ∙ ap3 entity_of n.0 shape.0 initial.0 ∙ sym b.8, initial.1)

entity_lists : IsOne AreEntities
unfolding AreEntities
entity_lists xs ys ts r s a b = lists EatsEntity entities xs ys ts r s a b

abbrev declaration_of : Place → TypeSpecifier → List Placed → List EntityTree → DeclarationTree
declaration_of p s attributes entities = record { place = p; specifier = s; attributes = attributes; entities = entities }

declarations_behind : (place : Place) (s : TypeSpecifier) → IsOneWhole (IsDeclarationBehind place s)
unfolding IsDeclarationBehind
declarations_behind place s x y ts a b =
    let attributes = attributes_behind a.0 b.0 ts a.3 b.3 a.5 b.5 in
    let c = along EatsColons colons a.1 b.1 a.3 b.3 a.4 b.4 attributes.1 a.6 b.6 in
    let es = along AreEntities entity_lists a.2 b.2 a.4 b.4 [] [] c.1 a.7 b.7 in
    a.9 ∙ ap2 (declaration_of place s) attributes.0 es.0 ∙ sym b.9

pub declarations : (place : Place) → IsOneWhole (IsDeclaration place)
unfolding IsDeclaration
declarations place x y ts a b =
    let s = specifiers a.0 b.0 ts a.1 b.1 a.2 b.2 in
    whole_along (IsDeclarationBehind place b.0) (declarations_behind place b.0) x y a.1 b.1 s.1 (subst (λ (z : TypeSpecifier). IsDeclarationBehind place z x a.1) s.0 a.3) b.3
