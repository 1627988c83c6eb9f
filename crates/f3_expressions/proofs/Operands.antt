-- Literals, expressions in parentheses, array constructors and designators.
use Rattle.std.proofs.Common.{◌≡◌, ℕ, ◌<◌, Bool, true, false, List, [], ◌∷◌, map, Option, Some, None, Result, Ok, Err, refl, sym, ap, subst, ◌∙◌, arith}
use Rattle.std.proofs.lemmas.Bool.{true≢false}
use Rattle.std.specs.Global.{Vec}
use Rattle.f3_places.specs.declared.source.Place.{Place}
use Rattle.f3_tree.specs.declared.expression.Name.{Name}
use Rattle.std.specs.Borrow.{Bor}
use Rattle.f3_tree.specs.declared.expression.Argument.{Argument}
use Rattle.f3_tree.specs.declared.expression.Operator.{Operator}
use Rattle.f3_tree.specs.declared.expression.Operator.TheVariants.{Add, Subtract}
use Rattle.f3_tree.specs.declared.expression.IntegerKind.{IntegerKind}
use Rattle.f3_tree.specs.Expressions.{Tree, integer, truth, text, designator, group, array, signed, negation, comparison, chain, Trees, no_trees, trees, trees_of, Parts, no_parts, parts, Behind, bare, within, Arguments, no_arguments, arguments, ArgumentTree, arguments_of, argument_view, part_view, parts_list, designator_view}
use Rattle.f3_words.specs.declared.item.Word.{Word}
use Rattle.f3_words.specs.declared.item.Word.TheVariants as word
use Rattle.f3_words.specs.declared.item.Item.{Item}
use Rattle.f3_words.specs.Words.{is_name, name_of}
use Rattle.f3_words.specs.Lists.{starts, is_comma, EatsRun, Separated}
use Rattle.f3_words.specs.declared.error.ReadError.{ReadError}
use Rattle.f3_words.specs.declared.error.ReadError.TheVariants.{Memory, NoForm}
use Rattle.f3_words.specs.declared.item.Keyword.{Keyword}
use Rattle.f3_words.specs.Reads.{IsRead, Fails, Reads, AreBehind}
use Rattle.f3_expressions.specs.Levels.{joins, Ends}
use Rattle.f3_expressions.specs.Grammar.{Eats, EatsElements, EatsFurther, EatsParts, EatsComponents, EatsWithin, is_integer, is_open, is_percent, closer_of}
use Rattle.f3_expressions.specs.Readings.{EatsUpTo, is_opener, IsPart, EatsWhole, EatsList}
use Rattle.f3_expressions.specs.Views.{named_view, parts_view}
use Rattle.f3_expressions.proofs.Fronts.{ends_none, ends_there, not_front, not_empty, rank}

-- ---- what a primary is, by its first word

data Kind : Type 0 where
  number : Kind
  boolean : Kind
  characters : Kind
  named : Kind
  grouped : Kind
  listed : Kind
  other : Kind

abbrev kind_of_tree : Tree → Kind
kind_of_tree (integer p n) = number
kind_of_tree (truth p b) = boolean
kind_of_tree (text p n) = characters
kind_of_tree (designator ps) = named
kind_of_tree (group p e) = grouped
kind_of_tree (array p es) = listed
kind_of_tree _ = other

abbrev kind_of : Word → Kind
kind_of (word.KindDigit k) = number
kind_of word.ShortInteger = number
kind_of word.LongInteger = number
kind_of (word.Truth b) = boolean
kind_of word.Text = characters
kind_of (word.Name k) = named
kind_of word.Open = grouped
kind_of word.OpenBracket = listed
kind_of word.OpenSlash = listed
kind_of _ = other

number_kind : (w : Word) → is_integer w ≡ true → kind_of w ≡ number
number_kind (word.KindDigit k) h = refl
number_kind word.ShortInteger h = refl
number_kind word.LongInteger h = refl
number_kind w h = absurd (cc)

name_kind : (w : Word) → is_name w ≡ true → kind_of w ≡ named
name_kind (word.Name k) h = refl
name_kind w h = absurd (cc)

closer_kind : (w x : Word) → closer_of w ≡ Some x → kind_of w ≡ listed
closer_kind word.OpenBracket x h = refl
closer_kind word.OpenSlash x h = refl
closer_kind w x h = absurd (cc)

opener_kind : (w : Word) → is_opener w ≡ true → kind_of w ≡ listed
opener_kind word.OpenBracket h = refl
opener_kind word.OpenSlash h = refl
opener_kind w h = absurd (cc)

first_kind : (i j : Item) (ts us : List Item) → i ∷ ts ≡ j ∷ us → kind_of j.word ≡ kind_of i.word
first_kind i j ts us e = let same : i ≡ j = cc in ap (λ (x : Item). kind_of x.word) (sym same)

same_kind : (t : Tree) (i : Item) (ts r : List Item) → Eats 0 t (i ∷ ts) r → kind_of_tree t ≡ kind_of i.word
same_kind (integer p n) i ts r h = sym (number_kind (h.0).word h.2) ∙ first_kind i h.0 ts r h.1
same_kind (truth p b) i ts r h = sym (ap kind_of h.2) ∙ first_kind i h.0 ts r h.1
same_kind (text p n) i ts r h = sym (ap kind_of h.2) ∙ first_kind i h.0 ts r h.1
same_kind (designator no_parts) i ts r h = absurd h
same_kind (designator (parts n b ps)) i ts r h = sym (name_kind (h.0).word h.4) ∙ first_kind i h.0 ts h.1 h.3
same_kind (group p e) i ts r h = sym (ap kind_of h.4) ∙ first_kind i h.0 ts h.1 h.3
same_kind (array p es) i ts r h = sym (closer_kind (h.0).word (h.2).word h.4) ∙ first_kind i h.0 ts h.1 h.3
same_kind (signed p s e) i ts r h = absurd (omega (arith, h.2))
same_kind (negation p e) i ts r h = absurd (omega (arith, h.2))
same_kind (comparison e x f) i ts r h = absurd (omega (arith, h.2))
same_kind (chain e os) i ts r h = absurd (omega (arith, h.2))

pub nothing_fails : Fails (EatsUpTo 0) []
nothing_fails t r h = not_empty 0 t r h.0

pub other_fails : (i : Item) (ts : List Item) → 0 < rank i.word → Fails (EatsUpTo 0) (i ∷ ts)
other_fails i ts lt t r h = not_front 0 t i ts r lt h.0

-- ---- literals

integer_only : (i : Item) (ts : List Item) → kind_of i.word ≡ number → (t : Tree) (r : List Item) → Eats 0 t (i ∷ ts) r → kind_of_tree t ≡ number → (t ≡ integer i.place i.value) × (r ≡ ts)
integer_only i ts w (integer p n) r h k =
    let first : i ≡ h.0 = let e = h.1 in cc in
    let behind : ts ≡ r = let e = h.1 in cc in
    (ap (λ (x : Place). integer x n) h.3 ∙ ap (λ x. integer (h.0).place x) h.4 ∙ ap (λ (x : Item). integer x.place x.value) (sym first), sym behind)
integer_only i ts w t r h k = absurd (cc)

pub integer_reads : (ts : List Item) (i : Item) (tail : List Item) → ts ≡ i ∷ tail → is_integer i.word ≡ true → IsRead (EatsUpTo 0) ts (integer i.place i.value) tail
integer_reads ts i tail is w = record {
  eats = ((i, is, w, refl, refl), ends_none tail);
  only = λ t r h.
      let here = subst (λ (x : List Item). Eats 0 t x r) is h.0 in
      integer_only i tail (number_kind i.word w) t r here (same_kind t i tail r here ∙ number_kind i.word w);
}

truth_only : (i : Item) (ts : List Item) (b : Bool) → i.word ≡ word.Truth b → (t : Tree) (r : List Item) → Eats 0 t (i ∷ ts) r → kind_of_tree t ≡ boolean → (t ≡ truth i.place b) × (r ≡ ts)
truth_only i ts b w (truth p c) r h k =
    let first : i ≡ h.0 = let e = h.1 in cc in
    let behind : ts ≡ r = let e = h.1 in cc in
    let words : word.Truth c ≡ word.Truth b = sym h.2 ∙ ap (λ (x : Item). x.word) (sym first) ∙ w in
    let same : c ≡ b = cc in
    (ap (λ (x : Place). truth x c) (h.3 ∙ ap (λ (x : Item). x.place) (sym first)) ∙ ap (λ (x : Bool). truth i.place x) same, sym behind)
truth_only i ts b w t r h k = absurd (cc)

pub truth_reads : (ts : List Item) (i : Item) (tail : List Item) (b : Bool) → ts ≡ i ∷ tail → i.word ≡ word.Truth b → IsRead (EatsUpTo 0) ts (truth i.place b) tail
truth_reads ts i tail b is w = record {
  eats = ((i, is, w, refl), ends_none tail);
  only = λ t r h.
      let here = subst (λ (x : List Item). Eats 0 t x r) is h.0 in
      truth_only i tail b w t r here (same_kind t i tail r here ∙ ap kind_of w);
}

text_only : (i : Item) (ts : List Item) → (t : Tree) (r : List Item) → Eats 0 t (i ∷ ts) r → kind_of_tree t ≡ characters → (t ≡ text i.place i.symbol) × (r ≡ ts)
text_only i ts (text p n) r h k =
    let first : i ≡ h.0 = let e = h.1 in cc in
    let behind : ts ≡ r = let e = h.1 in cc in
    (ap (λ (x : Place). text x n) h.3 ∙ ap (λ (x : ℕ). text (h.0).place x) h.4 ∙ ap (λ (x : Item). text x.place x.symbol) (sym first), sym behind)
text_only i ts t r h k = absurd (cc)

pub text_reads : (ts : List Item) (i : Item) (tail : List Item) → ts ≡ i ∷ tail → i.word ≡ word.Text → IsRead (EatsUpTo 0) ts (text i.place i.symbol) tail
text_reads ts i tail is w = record {
  eats = ((i, is, w, refl, refl), ends_none tail);
  only = λ t r h.
      let here = subst (λ (x : List Item). Eats 0 t x r) is h.0 in
      text_only i tail t r here (same_kind t i tail r here ∙ ap kind_of w);
}

-- ---- parentheses

record InGroup (i : Item) (ts : List Item) (g : Tree) (r : List Item) : Type 0 where
  inner : Tree
  last : Item
  is : g ≡ group i.place inner
  eats : EatsWhole inner ts (last ∷ r)
  closed : last.word ≡ word.Close

in_group_kind : (i : Item) (ts : List Item) (g : Tree) (r : List Item) → Eats 0 g (i ∷ ts) r → kind_of_tree g ≡ grouped → InGroup i ts g r
in_group_kind i ts (group p e) r h k =
    let first : i ≡ h.0 = let e = h.3 in cc in
    let behind : ts ≡ h.1 = let e = h.3 in cc in
    record {
      inner = e;
      last = h.2;
      is = ap (λ (x : Place). group x e) (h.5 ∙ ap (λ (x : Item). x.place) (sym first));
      eats = (subst (λ (x : List Item). Eats 9 e x (h.2 ∷ r)) (sym behind) h.6, ends_there 9 h.2 r (ap joins h.7));
      closed = h.7;
    }
in_group_kind i ts g r h k = absurd (cc)

in_group : (i : Item) (ts : List Item) (g : Tree) (r : List Item) → i.word ≡ word.Open → Eats 0 g (i ∷ ts) r → InGroup i ts g r
in_group i ts g r w h = in_group_kind i ts g r h (same_kind g i ts r h ∙ ap kind_of w)

pub group_reads : (i : Item) (ts : List Item) (e : Tree) (rest : List Item) (last : Item) (r : List Item) → i.word ≡ word.Open → IsRead EatsWhole ts e rest → rest ≡ last ∷ r → last.word ≡ word.Close → IsRead (EatsUpTo 0) (i ∷ ts) (group i.place e) r
group_reads i ts e rest last r w a is closed = record {
  eats = ((i, ts, last, refl, w, refl, subst (λ (x : List Item). Eats 9 e ts x) is (a.eats).0, closed), ends_none r);
  only = λ t s h.
      let g = in_group i ts t s w h.0 in
      let same = a.only g.inner (g.last ∷ s) g.eats in
      let whole : g.last ∷ s ≡ last ∷ r = same.1 ∙ is in
      (g.is ∙ ap (λ (x : Tree). group i.place x) same.0, (cc));
}

pub group_fails : (i : Item) (ts : List Item) → i.word ≡ word.Open → Fails EatsWhole ts → Fails (EatsUpTo 0) (i ∷ ts)
group_fails i ts w a t s h =
    let g = in_group i ts t s w h.0 in
    a g.inner (g.last ∷ s) g.eats

pub group_unclosed : (i : Item) (ts : List Item) (e : Tree) (rest : List Item) → i.word ≡ word.Open → IsRead EatsWhole ts e rest → ((j : Item) (tail : List Item) → rest ≡ j ∷ tail → j.word ≡ word.Close → ⊥) → Fails (EatsUpTo 0) (i ∷ ts)
group_unclosed i ts e rest w a none t s h =
    let g = in_group i ts t s w h.0 in
    let same = a.only g.inner (g.last ∷ s) g.eats in
    none g.last s (sym same.1) g.closed

-- ---- array constructors

abbrev list_of_trees : Trees → List Tree
list_of_trees no_trees = []
list_of_trees (trees e es) = e ∷ list_of_trees es

trees_back : (es : Trees) → trees_of (list_of_trees es) ≡ es
trees_back no_trees = refl
trees_back (trees e es) = ap (λ (x : Trees). trees e x) (trees_back es)

abbrev Elements : List Tree → List Item → List Item → Type 0
Elements = EatsRun is_comma (Separated EatsWhole)

further_ends : (es : Trees) (ts r : List Item) → EatsFurther es ts r → Ends 9 r → Ends 9 ts
further_ends no_trees ts r h ends = subst (λ (x : List Item). Ends 9 x) (sym h) ends
further_ends (trees e es) ts r h ends = subst (λ (x : List Item). Ends 9 x) (sym h.3) (ends_there 9 h.0 h.1 (ap joins h.4))

further_run : (es : Trees) (ts r : List Item) → EatsFurther es ts r → Ends 9 r → starts is_comma r ≡ false → Elements (list_of_trees es) ts r
further_run no_trees ts r h ends none = (h, none)
further_run (trees e es) ts r h ends none = (h.0, h.1, h.2, h.3, ap is_comma h.4, (h.5, further_ends es h.2 r h.6 ends), further_run es h.2 r h.6 ends none)

comma_word : (w : Word) → is_comma w ≡ true → w ≡ word.Comma
comma_word word.Comma h = refl
comma_word w h = absurd (cc)

run_further : (es : List Tree) (ts r : List Item) → Elements es ts r → EatsFurther (trees_of es) ts r
run_further [] ts r h = h.0
run_further (e ∷ es) ts r h = (h.0, h.1, h.2, h.3, comma_word (h.0).word h.4, (h.5).0, run_further es h.2 r h.6)

closer_word : (w x : Word) → closer_of w ≡ Some x → (joins x ≡ None) × (is_comma x ≡ false)
closer_word word.OpenBracket x h = let same : word.CloseBracket ≡ x = cc in (sym (ap joins same), sym (ap is_comma same))
closer_word word.OpenSlash x h = let same : word.CloseSlash ≡ x = cc in (sym (ap joins same), sym (ap is_comma same))
closer_word w x h = absurd (cc)

record InArray (i : Item) (ts : List Item) (t : Tree) (r : List Item) : Type 0 where
  first : Tree
  others : Trees
  mid : List Item
  last : Item
  is : t ≡ array i.place (trees first others)
  eats_first : EatsWhole first ts mid
  eats_others : Elements (list_of_trees others) mid (last ∷ r)
  closed : closer_of i.word ≡ Some last.word

in_array_kind : (i : Item) (ts : List Item) (t : Tree) (r : List Item) → Eats 0 t (i ∷ ts) r → kind_of_tree t ≡ listed → InArray i ts t r
in_array_kind i ts (array p no_trees) r h k = absurd h.6
in_array_kind i ts (array p (trees e es)) r h k =
    let first : i ≡ h.0 = let e = h.3 in cc in
    let behind : ts ≡ h.1 = let e = h.3 in cc in
    let last = closer_word (h.0).word (h.2).word h.4 in
    let ends = ends_there 9 h.2 r last.0 in
    let f = h.6 in
    record {
      first = e;
      others = es;
      mid = f.0;
      last = h.2;
      is = ap (λ (x : Place). array x (trees e es)) (h.5 ∙ ap (λ (x : Item). x.place) (sym first));
      eats_first = (subst (λ (x : List Item). Eats 9 e x f.0) (sym behind) f.1, further_ends es f.0 (h.2 ∷ r) f.2 ends);
      eats_others = further_run es f.0 (h.2 ∷ r) f.2 ends last.1;
      closed = ap (λ (x : Item). closer_of x.word) first ∙ h.4;
    }
in_array_kind i ts t r h k = absurd (cc)

in_array : (i : Item) (ts : List Item) (t : Tree) (r : List Item) → is_opener i.word ≡ true → Eats 0 t (i ∷ ts) r → InArray i ts t r
in_array i ts t r w h = in_array_kind i ts t r h (same_kind t i ts r h ∙ opener_kind i.word w)

pub array_reads : (i : Item) (ts : List Item) (e : Tree) (mid : List Item) (all : List Tree) (rest : List Item) (last : Item) (r : List Item)
    → is_opener i.word ≡ true → IsRead EatsWhole ts e mid → IsRead (AreBehind e (EatsRun is_comma (Separated EatsWhole))) mid all rest → rest ≡ last ∷ r → closer_of i.word ≡ Some last.word
    → IsRead (EatsUpTo 0) (i ∷ ts) (array i.place (trees_of all)) r
array_reads i ts e mid all rest last r w a b is closed = record {
  eats =
      let run = subst (λ (x : List Item). Elements (b.eats).0 mid x) is (b.eats).2 in
      let elements : EatsElements (trees_of (e ∷ (b.eats).0)) ts (last ∷ r) = (mid, (a.eats).0, run_further (b.eats).0 mid (last ∷ r) run) in
      ((i, ts, last, refl, closed, refl, subst (λ (x : List Tree). EatsElements (trees_of x) ts (last ∷ r)) (sym (b.eats).1) elements), ends_none r);
  only = λ t s h.
      let g = in_array i ts t s w h.0 in
      let one = a.only g.first g.mid g.eats_first in
      let two = b.only (e ∷ list_of_trees g.others) (g.last ∷ s) (list_of_trees g.others, refl, subst (λ (x : List Item). Elements (list_of_trees g.others) x (g.last ∷ s)) one.1 g.eats_others) in
      let whole : g.last ∷ s ≡ last ∷ r = two.1 ∙ is in
      let same : trees e g.others ≡ trees_of all = sym (trees_back (trees e g.others)) ∙ ap trees_of two.0 in
      (g.is ∙ ap (λ (x : Tree). array i.place (trees x g.others)) one.0 ∙ ap (λ (x : Trees). array i.place x) same, (cc));
}

pub array_fails : (i : Item) (ts : List Item) → is_opener i.word ≡ true → Fails EatsWhole ts → Fails (EatsUpTo 0) (i ∷ ts)
array_fails i ts w a t s h = let g = in_array i ts t s w h.0 in a g.first g.mid g.eats_first

pub elements_fail : (i : Item) (ts : List Item) (e : Tree) (mid : List Item) → is_opener i.word ≡ true → IsRead EatsWhole ts e mid → Fails (AreBehind e (EatsRun is_comma (Separated EatsWhole))) mid → Fails (EatsUpTo 0) (i ∷ ts)
elements_fail i ts e mid w a b t s h =
    let g = in_array i ts t s w h.0 in
    let one = a.only g.first g.mid g.eats_first in
    b (e ∷ list_of_trees g.others) (g.last ∷ s) (list_of_trees g.others, refl, subst (λ (x : List Item). Elements (list_of_trees g.others) x (g.last ∷ s)) one.1 g.eats_others)

pub array_unclosed : (i : Item) (ts : List Item) (e : Tree) (mid : List Item) (all : List Tree) (rest : List Item)
    → is_opener i.word ≡ true → IsRead EatsWhole ts e mid → IsRead (AreBehind e (EatsRun is_comma (Separated EatsWhole))) mid all rest → ((j : Item) (tail : List Item) → rest ≡ j ∷ tail → closer_of i.word ≡ Some j.word → ⊥)
    → Fails (EatsUpTo 0) (i ∷ ts)
array_unclosed i ts e mid all rest w a b none t s h =
    let g = in_array i ts t s w h.0 in
    let one = a.only g.first g.mid g.eats_first in
    let two = b.only (e ∷ list_of_trees g.others) (g.last ∷ s) (list_of_trees g.others, refl, subst (λ (x : List Item). Elements (list_of_trees g.others) x (g.last ∷ s)) one.1 g.eats_others) in
    none g.last s (sym two.1) g.closed

-- ---- designators

record InDesignator (i : Item) (ts : List Item) (t : Tree) (r : List Item) : Type 0 where
  all : Parts
  is : t ≡ designator all
  eats : EatsParts all (i ∷ ts) r

in_designator : (i : Item) (ts : List Item) (t : Tree) (r : List Item) → Eats 0 t (i ∷ ts) r → kind_of_tree t ≡ named → InDesignator i ts t r
in_designator i ts (designator ps) r h k = record { all = ps; is = refl; eats = h }
in_designator i ts t r h k = absurd (cc)

pub designator_reads : (ts : List Item) (i : Item) (tail : List Item) (ps : Parts) (r : List Item) → ts ≡ i ∷ tail → is_name i.word ≡ true → IsRead EatsParts ts ps r → IsRead (EatsUpTo 0) ts (designator ps) r
designator_reads ts i tail ps r is w a = record {
  eats = (a.eats, ends_none r);
  only = λ t s h.
      let here = subst (λ (x : List Item). Eats 0 t x s) is h.0 in
      let g = in_designator i tail t s here (same_kind t i tail s here ∙ name_kind i.word w) in
      let same = a.only g.all s (subst (λ (x : List Item). EatsParts g.all x s) (sym is) g.eats) in
      (g.is ∙ ap (λ (x : Parts). designator x) same.0, same.1);
}

pub designator_fails : (ts : List Item) (i : Item) (tail : List Item) → ts ≡ i ∷ tail → is_name i.word ≡ true → Fails EatsParts ts → Fails (EatsUpTo 0) ts
designator_fails ts i tail is w a t s h =
    let here = subst (λ (x : List Item). Eats 0 t x s) is h.0 in
    let g = in_designator i tail t s here (same_kind t i tail s here ∙ name_kind i.word w) in
    a g.all s (subst (λ (x : List Item). EatsParts g.all x s) (sym is) g.eats)

-- ---- the parts of a designator

abbrev pub parts_from : List (Name × Behind) → Parts
parts_from [] = no_parts
parts_from (p ∷ ps) = parts p.0 p.1 (parts_from ps)

abbrev list_of_parts : Parts → List (Name × Behind)
list_of_parts no_parts = []
list_of_parts (parts n b ps) = (n, b) ∷ list_of_parts ps

parts_back : (ps : Parts) → parts_from (list_of_parts ps) ≡ ps
parts_back no_parts = refl
parts_back (parts n b ps) = ap (λ (x : Parts). parts n b x) (parts_back ps)

abbrev Components : List (Name × Behind) → List Item → List Item → Type 0
Components = EatsRun is_percent (Separated IsPart)

components_run : (ps : Parts) (ts r : List Item) → EatsComponents ps ts r → Components (list_of_parts ps) ts r
components_run no_parts ts r h = h
components_run (parts n b ps) ts r h = (h.0, h.1 ∷ h.2, h.3, h.4, ap is_percent h.5, (h.1, h.2, refl, h.6, h.7, h.8), components_run ps h.3 r h.9)

percent_word : (w : Word) → is_percent w ≡ true → w ≡ word.Percent
percent_word word.Percent h = refl
percent_word w h = absurd (cc)

run_components : (ps : List (Name × Behind)) (ts r : List Item) → Components ps ts r → EatsComponents (parts_from ps) ts r
run_components [] ts r h = h
run_components (p ∷ ps) ts r h =
    let q = h.5 in
    (h.0, q.0, q.1, h.2, h.3 ∙ ap (λ (x : List Item). h.0 ∷ x) q.2, percent_word (h.0).word h.4, q.3, q.4, q.5, run_components ps h.2 r h.6)

record Unparted (first : Name × Behind) (mid : List Item) (ps : Parts) (r : List Item) : Type 0 where
  others : Parts
  is : ps ≡ parts first.0 first.1 others
  eats : Components (list_of_parts others) mid r

unpart : (ts : List Item) (first : Name × Behind) (mid : List Item) → IsRead IsPart ts first mid → (ps : Parts) (r : List Item) → EatsParts ps ts r → Unparted first mid ps r
unpart ts first mid a no_parts r h = absurd h
unpart ts first mid a (parts n b ps) r h =
    let same = a.only (n, b) h.2 (h.0, h.1, h.3, h.4, h.5, h.6) in
    record {
      others = ps;
      is = ap (λ (x : Name × Behind). parts x.0 x.1 ps) same.0;
      eats = subst (λ (x : List Item). Components (list_of_parts ps) x r) same.1 (components_run ps h.2 r h.7);
    }

pub parts_read : (ts : List Item) (first : Name × Behind) (mid : List Item) (all : List (Name × Behind)) (r : List Item) → IsRead IsPart ts first mid → IsRead (AreBehind first (EatsRun is_percent (Separated IsPart))) mid all r → IsRead EatsParts ts (parts_from all) r
parts_read ts first mid all r a b = record {
  eats =
      let p = a.eats in
      let here : EatsParts (parts_from (first ∷ (b.eats).0)) ts r = (p.0, p.1, mid, p.2, p.3, p.4, p.5, run_components (b.eats).0 mid r (b.eats).2) in
      subst (λ (x : List (Name × Behind)). EatsParts (parts_from x) ts r) (sym (b.eats).1) here;
  only = λ ps s h.
      let u = unpart ts first mid a ps s h in
      let same = b.only (first ∷ list_of_parts u.others) s (list_of_parts u.others, refl, u.eats) in
      (u.is ∙ ap (λ (x : Parts). parts first.0 first.1 x) (sym (parts_back u.others)) ∙ ap parts_from same.0, same.1);
}

pub first_part_fails : (ts : List Item) → Fails IsPart ts → Fails EatsParts ts
first_part_fails ts a no_parts s h = absurd h
first_part_fails ts a (parts n b ps) s h = a (n, b) h.2 (h.0, h.1, h.3, h.4, h.5, h.6)

pub components_fail : (ts : List Item) (first : Name × Behind) (mid : List Item) → IsRead IsPart ts first mid → Fails (AreBehind first (EatsRun is_percent (Separated IsPart))) mid → Fails EatsParts ts
components_fail ts first mid a b ps s h =
    let u = unpart ts first mid a ps s h in
    b (first ∷ list_of_parts u.others) s (list_of_parts u.others, refl, u.eats)

one_more_seen : (n : Name) (b : Option (Vec Argument)) (xs : List (Name × Option (Vec Argument))) → parts_from (map named_view xs) ≡ parts_list (map part_view xs) → parts_from (map named_view ((n, b) ∷ xs)) ≡ parts_list (map part_view ((n, b) ∷ xs))
one_more_seen n None xs h = ap (λ (y : Parts). parts n bare y) h
one_more_seen n (Some v) xs h = ap (λ (y : Parts). parts n (within (arguments_of (map argument_view v.items))) y) h

pub parts_seen : (xs : List (Name × Option (Vec Argument))) → parts_from (map named_view xs) ≡ parts_list (map part_view xs)
parts_seen [] = refl
parts_seen (x ∷ xs) = one_more_seen x.0 x.1 xs (parts_seen xs)

abbrev pair : Name → Behind → Name × Behind
pair n b = (n, b)

pub parts_result : (ts : List Item) (first : Name × Behind) (mid : List Item) → IsRead IsPart ts first mid → (result : Result (Vec (Name × Option (Vec Argument)) × Bor (List Item)) ReadError)
    → Reads (AreBehind first (EatsRun is_percent (Separated IsPart))) parts_view result mid → Reads EatsParts designator_view result ts
parts_result ts first mid a (Ok x) h = subst (λ (ps : Parts). IsRead EatsParts ts ps x.1.now) (parts_seen x.0.items) (parts_read ts first mid (parts_view x.0) x.1.now a h)
parts_result ts first mid a (Err Memory) h = tt
parts_result ts first mid a (Err NoForm) h = components_fail ts first mid a h

-- ---- one part

pub part_bare : (ts : List Item) (i : Item) (tail : List Item) → ts ≡ i ∷ tail → is_name i.word ≡ true → starts is_open tail ≡ false → IsRead IsPart ts (name_of i, bare) tail
part_bare ts i tail is w none = record { eats = (i, tail, is, w, refl, (refl, none)); only = λ p r h. by p.0 p.1 r h }
  where
    by : (n : Name) (b : Behind) (r : List Item) → IsPart (n, b) ts r → (pair n b ≡ pair (name_of i) bare) × (r ≡ tail)
    by n bare r h =
        let whole : i ∷ tail ≡ h.0 ∷ h.1 = sym is ∙ h.2 in
        let first : i ≡ h.0 = cc in
        let behind : tail ≡ h.1 = cc in
        (ap (λ (x : Name). pair x bare) (h.4 ∙ ap name_of (sym first)), sym (h.5).0 ∙ sym behind)
    by n (within list) r h = absurd (not_within list n r h)
      where
        not_within : (list : Arguments) (n : Name) (r : List Item) → IsPart (n, within list) ts r → ⊥
        not_within no_arguments n r h =
            let whole : i ∷ tail ≡ h.0 ∷ h.1 = sym is ∙ h.2 in
            let behind : tail ≡ h.1 = cc in
            true≢false (ap is_open (sym (h.5).3) ∙ ap (starts is_open) (sym (h.5).2 ∙ sym behind) ∙ none)
        not_within (arguments a others) n r h =
            let whole : i ∷ tail ≡ h.0 ∷ h.1 = sym is ∙ h.2 in
            let behind : tail ≡ h.1 = cc in
            true≢false (ap is_open (sym (h.5).5) ∙ ap (starts is_open) (sym (h.5).4 ∙ sym behind) ∙ none)

abbrev pub list_of_arguments : Arguments → List ArgumentTree
list_of_arguments no_arguments = []
list_of_arguments (arguments a others) = a ∷ list_of_arguments others

pub arguments_back : (list : Arguments) → arguments_of (list_of_arguments list) ≡ list
arguments_back no_arguments = refl
arguments_back (arguments a others) = ap (λ (x : Arguments). arguments a x) (arguments_back others)

record WithinPart (i : Item) (tail : List Item) (p : Name × Behind) (r : List Item) : Type 0 where
  list : Arguments
  is : p ≡ pair (name_of i) (within list)
  eats : EatsWithin list tail r

-- behind a name and an open parenthesis stand arguments
within_part : (ts : List Item) (i : Item) (tail : List Item) (j : Item) (inner : List Item) → ts ≡ i ∷ tail → tail ≡ j ∷ inner → j.word ≡ word.Open → (n : Name) (b : Behind) (r : List Item) → IsPart (n, b) ts r → WithinPart i tail (n, b) r
within_part ts i tail j inner is begins w n bare r h =
    let whole : i ∷ tail ≡ h.0 ∷ h.1 = sym is ∙ h.2 in
    let behind : tail ≡ h.1 = cc in
    absurd (true≢false (ap is_open (sym w) ∙ ap (starts is_open) (sym begins ∙ behind ∙ (h.5).0) ∙ (h.5).1))
within_part ts i tail j inner is begins w n (within list) r h =
    let whole : i ∷ tail ≡ h.0 ∷ h.1 = sym is ∙ h.2 in
    let first : i ≡ h.0 = cc in
    let behind : tail ≡ h.1 = cc in
    record {
      list = list;
      is = ap (λ (x : Name). pair x (within list)) (h.4 ∙ ap name_of (sym first));
      eats = subst (λ (x : List Item). EatsWithin list x r) (sym behind) h.5;
    }

pub part_within : (ts : List Item) (i : Item) (tail : List Item) (j : Item) (inner : List Item) (list : List ArgumentTree) (r : List Item) → ts ≡ i ∷ tail → is_name i.word ≡ true → tail ≡ j ∷ inner → j.word ≡ word.Open → IsRead EatsList tail list r → IsRead IsPart ts (name_of i, within (arguments_of list)) r
part_within ts i tail j inner list r is w begins opens a = record {
  eats = (i, tail, is, w, refl, a.eats);
  only = λ p s h.
      let g = within_part ts i tail j inner is begins opens p.0 p.1 s h in
      let same = a.only (list_of_arguments g.list) s (subst (λ (x : Arguments). EatsWithin x tail s) (sym (arguments_back g.list)) g.eats) in
      (g.is ∙ ap (λ (x : Arguments). pair (name_of i) (within x)) (sym (arguments_back g.list) ∙ ap arguments_of same.0), same.1);
}

pub part_within_fails : (ts : List Item) (i : Item) (tail : List Item) (j : Item) (inner : List Item) → ts ≡ i ∷ tail → tail ≡ j ∷ inner → j.word ≡ word.Open → Fails EatsList tail → Fails IsPart ts
part_within_fails ts i tail j inner is begins opens a p s h =
    let g = within_part ts i tail j inner is begins opens p.0 p.1 s h in
    a (list_of_arguments g.list) s (subst (λ (x : Arguments). EatsWithin x tail s) (sym (arguments_back g.list)) g.eats)

pub no_part : (ts : List Item) → starts is_name ts ≡ false → Fails IsPart ts
no_part ts none p s h = true≢false (sym h.3 ∙ ap (starts is_name) (sym h.2) ∙ none)

-- ---- a sign that is not at the front

pub starts_no_percent : (ts : List Item) → ((j : Item) (tail : List Item) → ts ≡ j ∷ tail → j.word ≡ word.Percent → ⊥) → starts is_percent ts ≡ false
starts_no_percent [] h = refl
starts_no_percent (j ∷ tail) h = by j.word (h j tail refl)
  where
    by : (w : Word) → (w ≡ word.Percent → ⊥) → is_percent w ≡ false
    by word.Percent n = absurd (n refl)
    by w n = refl

operator_rank : (o : Operator) → 0 < rank (word.Operator o)
operator_rank Add = omega arith
operator_rank Subtract = omega arith
operator_rank o = omega arith

-- a word that begins no primary
pub other_rank : (w : Word) → ((k : Keyword) → w ≡ word.Name k → ⊥) → ((k : IntegerKind) → w ≡ word.KindDigit k → ⊥) → (w ≡ word.ShortInteger → ⊥) → (w ≡ word.LongInteger → ⊥) → ((b : Bool) → w ≡ word.Truth b → ⊥) → (w ≡ word.Text → ⊥) → (w ≡ word.Open → ⊥) → (w ≡ word.OpenSlash → ⊥) → (w ≡ word.OpenBracket → ⊥) → 0 < rank w
other_rank (word.Name k) a z b c d e f g h = absurd (a k refl)
other_rank (word.KindDigit k) a z b c d e f g h = absurd (z k refl)
other_rank word.ShortInteger a z b c d e f g h = absurd (b refl)
other_rank word.LongInteger a z b c d e f g h = absurd (c refl)
other_rank (word.Truth v) a z b c d e f g h = absurd (d v refl)
other_rank word.Text a z b c d e f g h = absurd (e refl)
other_rank word.Open a z b c d e f g h = absurd (f refl)
other_rank word.OpenSlash a z b c d e f g h = absurd (g refl)
other_rank word.OpenBracket a z b c d e f g h = absurd (h refl)
other_rank (word.Operator o) a z b c d e f g h = operator_rank o
other_rank w a z b c d e f g h = omega arith

pub starts_no_open : (ts : List Item) → ((j : Item) (tail : List Item) → ts ≡ j ∷ tail → j.word ≡ word.Open → ⊥) → starts is_open ts ≡ false
starts_no_open [] h = refl
starts_no_open (j ∷ tail) h = by j.word (h j tail refl)
  where
    by : (w : Word) → (w ≡ word.Open → ⊥) → is_open w ≡ false
    by word.Open n = absurd (n refl)
    by w n = refl
