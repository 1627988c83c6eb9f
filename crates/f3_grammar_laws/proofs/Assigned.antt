-- What an assignment begins with, and that no other statement begins so.
use Rattle.std.proofs.Common.{◌≡◌, List, [], ◌∷◌, Bool, true, false, Option, refl, sym, ap, subst, ◌∙◌, inl, inr}
use Rattle.std.specs.Prelude.{◌⊎◌}
use Rattle.std.proofs.lemmas.Bool.{true≢false}
use Rattle.f3_tree.specs.declared.expression.Name.{Name as Identifier}
use Rattle.f3_tree.specs.Expressions.{Parts, no_parts, parts, Behind, bare, within, Arguments, no_arguments, arguments}
use Rattle.f3_tree.specs.Statements.{Act}
use Rattle.f3_words.specs.declared.item.Keyword.{Keyword}
use Rattle.f3_words.specs.declared.item.Keyword.TheVariants as keyword
use Rattle.f3_words.specs.declared.item.Word.{Word}
use Rattle.f3_words.specs.declared.item.Word.TheVariants as word
use Rattle.f3_words.specs.declared.item.Item.{Item}
use Rattle.f3_words.specs.Words.{is_name}
use Rattle.f3_words.specs.Lists.{starts}
use Rattle.f3_reading.specs.Parts.{EatsWord, EatsName}
use Rattle.f3_reading.specs.Names.{EatsColons, AreNames, IsName, IsLabel, IsNameList}
use Rattle.f3_expressions.specs.Grammar.{is_open, EatsParts, EatsComponents, EatsBehind, EatsWithin, EatsDesignator}
use Rattle.f3_actions.specs.Actions.{IsAssignment}
use Rattle.f3_grammar_laws.proofs.Parts.{front, one_keyword}
use Rattle.f3_grammar_laws.proofs.Enclosures.{Within, within_one}

-- what goes on behind the name of a variable, or behind its arguments, before `=`
abbrev pub is_target : Word → Bool
is_target word.Percent = true
is_target word.Equals = true
is_target _ = false

-- behind the first name of an assignment
abbrev Goes : List Item → Type 0
Goes ts = (starts is_target ts ≡ true) ⊎ ((list : Arguments) × (mid : List Item) × EatsWithin list ts mid × (starts is_target mid ≡ true))

-- at the front stands a word that no assignment has behind its name
abbrev pub Apart : List Item → Type 0
Apart ts = (starts is_target ts ≡ false) × (starts is_open ts ≡ false)

-- behind the first name of any other statement: such a word; or no target, and none behind any arguments
abbrev pub Opposed : List Item → Type 0
Opposed ts =
    Apart ts ⊎ ((starts is_target ts ≡ false) × ((list : Arguments) (mid : List Item) → EatsWithin list ts mid → starts is_target mid ≡ false))

pub opens : (l : Arguments) (ts r : List Item) → EatsWithin l ts r → (starts is_open ts ≡ true) × (starts is_target ts ≡ false)
opens no_arguments ts r h = (ap (starts is_open) h.2 ∙ ap is_open h.3, ap (starts is_target) h.2 ∙ ap is_target h.3)
opens (arguments a others) ts r h = (ap (starts is_open) h.4 ∙ ap is_open h.5, ap (starts is_target) h.4 ∙ ap is_target h.5)

clash : (ts : List Item) → Opposed ts → Goes ts → ⊥
clash ts (inl a) (inl b) = true≢false (sym b ∙ a.0)
clash ts (inl a) (inr b) = true≢false (sym (opens b.0 ts b.1 b.2).0 ∙ a.1)
clash ts (inr a) (inl b) = true≢false (sym b ∙ a.0)
clash ts (inr a) (inr b) = true≢false (sym b.3 ∙ a.1 b.0 b.1 b.2)

-- arguments behind which no target stands
pub enclosed_there : (ts mid : List Item) → Within ts mid → starts is_target mid ≡ false → Opposed ts
enclosed_there ts mid w none =
    inr ((opens w.list ts mid w.eats).1, λ l r h. ap (starts is_target) (within_one l w.list ts r mid h w.eats) ∙ none)

-- ---- assignments

pub record Assigned (ts : List Item) : Type 0 where
  pub first : Item
  pub tail : List Item
  pub is : ts ≡ first ∷ tail
  pub named : is_name first.word ≡ true
  pub goes : Goes tail

components_go : (ps : Parts) (ts r : List Item) → EatsComponents ps ts r → starts is_target r ≡ true → starts is_target ts ≡ true
components_go no_parts ts r h t = ap (starts is_target) h.0 ∙ t
components_go (parts n b ps) ts r h t = ap (starts is_target) h.4 ∙ ap is_target h.5

behind_goes : (b : Behind) (ts r : List Item) → EatsBehind b ts r → starts is_target r ≡ true → Goes ts
behind_goes bare ts r h t = inl (ap (starts is_target) h.0 ∙ t)
behind_goes (within l) ts r h t = inr (l, r, h, t)

parts_go : (ps : Parts) (ts r : List Item) → EatsParts ps ts r → starts is_target r ≡ true → Assigned ts
parts_go no_parts ts r h t = absurd h
parts_go (parts n b ps) ts r h t = record { first = h.0; tail = h.1; is = h.3; named = h.4; goes = behind_goes b h.1 h.2 h.6 (components_go ps h.2 r h.7 t) }

pub assigned : (a : Act) (ts : List Item) → IsAssignment a ts → Assigned ts
unfolding IsAssignment EatsDesignator EatsWord
assigned a ts h = parts_go h.0 ts h.2 h.4 (ap (starts is_target) (h.5).1 ∙ ap is_target (h.5).2)

-- ---- other statements

-- the keyword of an action
abbrev pub is_acting : Keyword → Bool
is_acting keyword.Call = true
is_acting keyword.Allocate = true
is_acting keyword.Deallocate = true
is_acting keyword.Print = true
is_acting keyword.Stop = true
is_acting keyword.Return = true
is_acting keyword.Cycle = true
is_acting keyword.Exit = true
is_acting keyword.Continue = true
is_acting _ = false

-- a statement that begins with a keyword, that of an action or not, and goes on as no assignment does
pub record Headed (acting : Bool) (ts : List Item) : Type 0 where
  pub first : Item
  pub keyword : Keyword
  pub tail : List Item
  pub is : ts ≡ first ∷ tail
  pub word_is : first.word ≡ word.Name keyword
  pub acts : is_acting keyword ≡ acting
  pub opposed : Opposed tail

pub not_assigned : (acting : Bool) (ts : List Item) → Assigned ts → Headed acting ts → ⊥
not_assigned acting ts a b = clash b.tail b.opposed (subst (λ (l : List Item). Goes l) (front ts a.first b.first a.tail b.tail a.is b.is).1 a.goes)

pub not_acting : (ts : List Item) → Headed true ts → Headed false ts → ⊥
not_acting ts a b =
    let same = one_keyword a.first b.first a.keyword b.keyword (front ts a.first b.first a.tail b.tail a.is b.is).0 a.word_is b.word_is in
    true≢false (sym a.acts ∙ ap is_acting same ∙ b.acts)

name_apart : (w : Word) → is_name w ≡ true → (is_target w ≡ false) × (is_open w ≡ false)
name_apart (word.Name k) h = (refl, refl)
name_apart w h = absurd (cc)

pub named_apart : (ts : List Item) → starts is_name ts ≡ true → Apart ts
named_apart [] h = absurd (true≢false (sym h))
named_apart (i ∷ ts) h = name_apart i.word h

pub eats_name : (n : Identifier) (ts r : List Item) → EatsName n ts r → starts is_name ts ≡ true
unfolding EatsName
eats_name n ts r h = ap (starts is_name) h.1 ∙ h.2

pub eats_keyword : (k : Keyword) (ts r : List Item) → EatsWord (word.Name k) ts r → starts is_name ts ≡ true
unfolding EatsWord
eats_keyword k ts r h = ap (starts is_name) h.1 ∙ ap is_name h.2

pub name_there : (n : Identifier) (ts r : List Item) → EatsName n ts r → Apart ts
name_there n ts r h = named_apart ts (eats_name n ts r h)

pub keyword_there : (k : Keyword) (ts r : List Item) → EatsWord (word.Name k) ts r → Apart ts
keyword_there k ts r h = named_apart ts (eats_keyword k ts r h)

pub word_there : (w : Word) (ts r : List Item) → is_target w ≡ false → is_open w ≡ false → EatsWord w ts r → Apart ts
unfolding EatsWord
word_there w ts r other none h = (ap (starts is_target) h.1 ∙ ap is_target h.2 ∙ other, ap (starts is_open) h.1 ∙ ap is_open h.2 ∙ none)

pub nothing_there : (ts : List Item) → ts ≡ [] → Apart ts
nothing_there ts h = (ap (starts is_target) h, ap (starts is_open) h)

pub same_there : (ts us : List Item) → ts ≡ us → Apart us → Apart ts
same_there ts us same h = subst (λ (l : List Item). Apart l) (sym same) h

pub colons_there : (c : Bool) (ts r : List Item) → EatsColons c ts r → Apart r → Apart ts
unfolding EatsColons
colons_there true ts r h a = word_there word.Colons ts r refl refl h
colons_there false ts r h a = same_there ts r h.0 a

pub whole_name_there : (n : Identifier) (ts : List Item) → IsName n ts → Apart ts
unfolding IsName
whole_name_there n ts h = name_there n ts [] h

pub label_there : (n : Option Identifier) (ts : List Item) → IsLabel n ts → Apart ts
unfolding IsLabel
label_there n ts (inl h) = nothing_there ts h.0
label_there n ts (inr h) = whole_name_there h.0 ts h.2

pub name_list_there : (ns : List Identifier) (ts : List Item) → IsNameList ns ts → Apart ts
unfolding IsNameList AreNames
name_list_there ns ts h = colons_there h.0 ts h.1 h.2 (name_there (h.3).0 h.1 (h.3).2 (h.3).4)
