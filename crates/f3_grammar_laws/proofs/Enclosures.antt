-- What stands in parentheses in a statement is spelled as arguments are: with one closing parenthesis.
use Rattle.std.proofs.Common.{◌≡◌, List, [], ◌∷◌, Bool, true, false, Option, Some, None, refl, sym, ap, subst, ◌∙◌, inl, inr}
use Rattle.f3_tree.specs.declared.expression.Name.{Name as Identifier}
use Rattle.f3_tree.specs.Expressions.{Tree, integer, designator, Parts, no_parts, parts, bare, Arguments, no_arguments, arguments, ArgumentTree, value, triplet, absent, present}
use Rattle.f3_tree.specs.Statements.{CaseTree, one, from, up_to, range}
use Rattle.f3_words.specs.declared.item.Word.{Word}
use Rattle.f3_words.specs.declared.item.Word.TheVariants as word
use Rattle.f3_words.specs.declared.item.Item.{Item}
use Rattle.f3_words.specs.Words.{is_name, name_of}
use Rattle.f3_words.specs.Lists.{starts, is_comma, EatsRun, Separated}
use Rattle.f3_reading.specs.Parts.{EatsWord, EatsName}
use Rattle.f3_reading.specs.Names.{EatsEnclosedName}
use Rattle.f3_tree.specs.declared.expression.IntegerKind.{IntegerKind}
use Rattle.f3_declarations.specs.Kinds.{EatsKindName, EatsKindDigit, EatsKindBehind}
use Rattle.f3_expressions.specs.Grammar.{Eats, is_open, is_percent, is_integer, EatsWithin, EatsOthers, EatsArgument, EatsExpression, EatsDesignator}
use Rattle.f3_expressions.proofs.Fronts.{front}
use Rattle.f3_expressions.proofs.Operands.{list_of_arguments, arguments_back}
use Rattle.f3_actions.specs.Actions.{EatsCondition, EatsCase, AreCases, IsCaseList, EatsStatusHead, EatsObject, EatsStatus, EatsObjects, AreObjects, IsAllocation}
use Rattle.f3_grammar_laws.proofs.Trees.{within_reads}

-- what stands behind arguments is one
pub within_one : (l m : Arguments) (ts r s : List Item) → EatsWithin l ts r → EatsWithin m ts s → r ≡ s
within_one l m ts r s a b = sym ((within_reads l ts r a).only (list_of_arguments m) s (subst (λ (x : Arguments). EatsWithin x ts s) (sym (arguments_back m)) b)).1

-- arguments in parentheses
pub record Within (ts r : List Item) : Type 0 where
  pub list : Arguments
  pub eats : EatsWithin list ts r

-- one argument and others
record Several (ts r : List Item) : Type 0 where
  first : ArgumentTree
  others : Arguments
  mid : List Item
  eats_first : EatsArgument first ts mid
  eats_others : EatsOthers others mid r

enclose : (ts a b r : List Item) → EatsWord word.Open ts a → Several a b → EatsWord word.Close b r → Within ts r
unfolding EatsWord
enclose ts a b r opens s closes = record {
  list = arguments s.first s.others;
  eats = (opens.0, a, s.mid, closes.0, opens.1, opens.2, s.eats_first, subst (λ (l : List Item). EatsOthers s.others s.mid l) closes.1 s.eats_others, closes.2);
}

alone : (e : Tree) (ts r : List Item) → Eats 9 e ts r → Several ts r
alone e ts r h = record { first = value None e; others = no_arguments; mid = r; eats_first = (ts, refl, h); eats_others = refl }

pub condition_within : (e : Tree) (ts r : List Item) → EatsCondition e ts r → Within ts r
unfolding EatsCondition EatsExpression
condition_within e ts r h = enclose ts h.0 h.1 r h.2 (alone e h.0 h.1 (h.3).0) h.4

closed_front : (test : Word → Bool) (ts r : List Item) → test word.Close ≡ false → EatsWord word.Close ts r → starts test ts ≡ false
unfolding EatsWord
closed_front test ts r other h = ap (starts test) h.1 ∙ ap test h.2 ∙ other

pub name_within : (n : Identifier) (ts r : List Item) → EatsEnclosedName n ts r → Within ts r
unfolding EatsEnclosedName EatsName
name_within n ts r h =
    let i = h.3 in
    let behind = closed_front is_open h.1 r refl h.4 in
    let after = closed_front is_percent h.1 r refl h.4 in
    let eats : Eats 9 (designator (parts n bare no_parts)) h.0 h.1 = (i.0, h.1, h.1, i.1, i.2, i.3, (refl, behind), (refl, after)) in
    enclose ts h.0 h.1 r h.2 (alone (designator (parts n bare no_parts)) h.0 h.1 eats) h.4

-- ---- the objects of an ALLOCATE

behind_comma : (ts a r : List Item) → EatsWord word.Comma ts a → (s : Several a r) → EatsOthers (arguments s.first s.others) ts r
unfolding EatsWord
behind_comma ts a r comma s = (comma.0, a, s.mid, comma.1, comma.2, s.eats_first, s.eats_others)

status_argument : (v : Parts) (ts a r : List Item) → EatsStatusHead ts a → EatsDesignator v a r → Several ts r
unfolding EatsStatusHead EatsDesignator EatsWord
status_argument v ts a r h d =
    let stat = h.1 in
    let equals = h.2 in
    let whole : ts ≡ stat.0 ∷ equals.0 ∷ a = stat.1 ∙ ap (λ (l : List Item). stat.0 ∷ l) equals.1 in
    record {
      first = value (Some (name_of stat.0)) (designator v);
      others = no_arguments;
      mid = r;
      eats_first = (a, (stat.0, equals.0, whole, ap is_name stat.2, refl, equals.2), d);
      eats_others = refl;
    }

object_argument : (v : Parts) (ts r : List Item) → EatsObject v ts r → EatsArgument (value None (designator v)) ts r
unfolding EatsObject EatsDesignator
object_argument v ts r h = (ts, refl, h.0)

last_object : (v : Parts) (stat : Option Parts) (ts a r : List Item) → EatsObject v ts a → EatsStatus stat a r → Several ts r
unfolding EatsStatus
last_object v None ts a r h s = record { first = value None (designator v); others = no_arguments; mid = a; eats_first = object_argument v ts a h; eats_others = s.0 }
last_object v (Some w) ts a r h s =
    let rest = status_argument w s.0 s.1 r s.3 s.4 in
    record { first = value None (designator v); others = arguments rest.first rest.others; mid = a; eats_first = object_argument v ts a h; eats_others = behind_comma a s.0 r s.2 rest }

several_objects : (vs : List Parts) (stat : Option Parts) (ts r : List Item) → EatsObjects vs stat ts r → Several ts r
several_objects [] stat ts r h = absurd h
several_objects (v ∷ []) stat ts r h = last_object v stat ts h.0 r h.1 h.2
several_objects (v ∷ w ∷ vs) stat ts r h =
    let rest = several_objects (w ∷ vs) stat h.1 r h.4 in
    record { first = value None (designator v); others = arguments rest.first rest.others; mid = h.0; eats_first = object_argument v ts h.0 h.2; eats_others = behind_comma h.0 h.1 r h.3 rest }

pub allocation_within : (x : List Parts × Option Parts) (ts : List Item) → IsAllocation x ts → Within ts []
unfolding IsAllocation AreObjects
allocation_within x ts h = enclose ts h.0 h.1 [] h.2 (several_objects x.0 x.1 h.0 h.1 h.3) h.4

-- ---- the values of a CASE

record Argued (ts r : List Item) : Type 0 where
  argument : ArgumentTree
  eats : EatsArgument argument ts r

case_argument : (c : CaseTree) (ts r : List Item) → EatsCase c ts r → Argued ts r
unfolding EatsCase EatsExpression EatsWord
case_argument (one e) ts r h = record { argument = value None e; eats = (ts, refl, (h.1).0) }
case_argument (from e) ts r h =
    let w = front 9 e ts h.0 (h.2).0 in
    let colon = h.3 in
    let first : Eats 9 e ts (colon.0 ∷ r) = subst (λ (l : List Item). Eats 9 e ts l) colon.1 (h.2).0 in
    record { argument = triplet (w.i).place (present e) absent absent; eats = (w.i, w.tail, colon.0, r, r, w.is, refl, first, colon.2, refl, refl) }
case_argument (range e f) ts r h =
    let w = front 9 e ts h.0 (h.3).0 in
    let colon = h.4 in
    let first : Eats 9 e ts (colon.0 ∷ h.1) = subst (λ (l : List Item). Eats 9 e ts l) colon.1 (h.3).0 in
    record { argument = triplet (w.i).place (present e) (present f) absent; eats = (w.i, w.tail, colon.0, h.1, r, w.is, refl, first, colon.2, (h.6).0, refl) }
case_argument (up_to p e) ts r h =
    let colon = h.2 in
    record { argument = triplet (h.0).place absent (present e) absent; eats = (h.0, h.1, colon.0, h.1, r, h.3, refl, colon.1, colon.2, (h.5).0, refl) }

comma_word : (w : Word) → is_comma w ≡ true → w ≡ word.Comma
comma_word word.Comma h = refl
comma_word w h = absurd (cc)

record Others (ts r : List Item) : Type 0 where
  list : Arguments
  eats : EatsOthers list ts r

other_cases : (cs : List CaseTree) (ts r : List Item) → EatsRun is_comma (Separated EatsCase) cs ts r → Others ts r
other_cases [] ts r h = record { list = no_arguments; eats = h.0 }
other_cases (c ∷ cs) ts r h =
    let x = case_argument c h.1 h.2 h.5 in
    let rest = other_cases cs h.2 r h.6 in
    record { list = arguments x.argument rest.list; eats = (h.0, h.1, h.2, h.3, comma_word (h.0).word h.4, x.eats, rest.eats) }

several_cases : (cs : List CaseTree) (ts r : List Item) → AreCases cs ts r → Several ts r
unfolding AreCases
several_cases cs ts r h =
    let x = case_argument h.0 ts h.2 h.4 in
    let rest = other_cases h.1 h.2 r h.5 in
    record { first = x.argument; others = rest.list; mid = h.2; eats_first = x.eats; eats_others = rest.eats }

pub cases_within : (cs : List CaseTree) (ts : List Item) → IsCaseList cs ts → Within ts []
unfolding IsCaseList
cases_within cs ts h = enclose ts h.0 h.1 [] h.2 (several_cases cs h.0 h.1 h.3) h.4

-- ---- the kind of INTEGER

kind_argument : (k : IntegerKind) (ts a r : List Item) → EatsKindName ts a → EatsKindDigit k a r → Argued ts r
unfolding EatsKindName EatsKindDigit EatsWord
kind_argument k ts a r (inl n) d =
    let i = n.1 in
    let equals = n.2 in
    record {
      argument = value (Some (name_of i.0)) (integer (d.0).place (d.0).value);
      eats = (a, (i.0, equals.0, i.1 ∙ ap (λ (l : List Item). i.0 ∷ l) equals.1, ap is_name i.2, refl, equals.2), (d.0, d.1, ap is_integer d.2, refl, refl));
    }
kind_argument k ts a r (inr n) d = record {
  argument = value None (integer (d.0).place (d.0).value);
  eats = (a, n.0, (d.0, d.1, ap is_integer d.2, refl, refl));
}

pub kind_within : (k : IntegerKind) (ts a r : List Item) → EatsWord word.Open ts a → EatsKindBehind k a r → Within ts r
unfolding EatsKindBehind
kind_within k ts a r opens h =
    let x = kind_argument k a h.0 h.1 h.2 h.3 in
    enclose ts a h.1 r opens (record { first = x.argument; others = no_arguments; mid = h.1; eats_first = x.eats; eats_others = refl }) h.4
