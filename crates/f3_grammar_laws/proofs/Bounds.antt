-- Parts of arguments, each read where what it holds is read.
use Rattle.std.proofs.Common.{◌≡◌, ◌≤◌, true, false, List, [], ◌∷◌, Some, None, refl, sym, ap, subst, ◌∙◌, arith}
use Rattle.std.proofs.lemmas.Bool.{true≢false}
use Rattle.f3_places.specs.declared.source.Place.{Place}
use Rattle.f3_tree.specs.Expressions.{Tree, Arguments, no_arguments, arguments, ArgumentTree, value, triplet, Perhaps, absent, present, Behind, bare, within}
use Rattle.f3_tree.specs.declared.expression.Name.{Name}
use Rattle.f3_words.specs.declared.item.Word.{Word}
use Rattle.f3_words.specs.declared.item.Word.TheVariants as word
use Rattle.f3_words.specs.declared.item.Item.{Item}
use Rattle.f3_words.specs.Words.{name_of}
use Rattle.f3_words.specs.Lists.{starts}
use Rattle.f3_words.specs.Reads.{IsRead}
use Rattle.f3_expressions.specs.Levels.{joins}
use Rattle.f3_expressions.specs.Grammar.{Eats, is_open, EatsWithin, EatsOthers, EatsPerhaps}
use Rattle.f3_expressions.specs.Readings.{is_colon, ends_argument, ends_bound, HasKeyword, IsBound, IsStride, IsTriplet, IsPart, IsPositional, IsArgument, EatsWhole, EatsList}
use Rattle.f3_expressions.proofs.Fronts.{ends_there, rank, front}
use Rattle.f3_expressions.proofs.Operands.{list_of_arguments, arguments_back, part_bare, part_within}
use Rattle.f3_expressions.proofs.Lists.{none_read, triplet_reads, bound_absent, bound_present, stride_absent, value_reads}

-- ---- where bounds and arguments end

not_bound : (w : Word) → rank w ≤ 9 → ends_bound w ≡ false
not_bound word.Comma h = absurd (omega (arith, h))
not_bound word.Close h = absurd (omega (arith, h))
not_bound word.Colon h = absurd (omega (arith, h))
not_bound w h = refl

-- no bound ends where an expression begins
pub begins_no_bound : (e : Tree) (ts r : List Item) → Eats 9 e ts r → starts ends_bound ts ≡ false
begins_no_bound e ts r h = let w = front 9 e ts r h in ap (starts ends_bound) w.is ∙ not_bound (w.i).word w.ranks

not_colon : (w : Word) → ends_argument w ≡ true → is_colon w ≡ false
not_colon word.Comma h = refl
not_colon word.Close h = refl
not_colon w h = absurd (cc)

pub no_colon : (r : List Item) → starts ends_argument r ≡ true → starts is_colon r ≡ false
no_colon [] h = refl
no_colon (i ∷ r) h = not_colon i.word h

-- arguments behind commas begin with a comma, or with the parenthesis behind them
pub others_begin : (list : Arguments) (ts : List Item) (last : Item) (r : List Item) → last.word ≡ word.Close → EatsOthers list ts (last ∷ r) → starts ends_argument ts ≡ true
others_begin no_arguments ts last r w h = ap (starts ends_argument) h ∙ ap ends_argument w
others_begin (arguments a others) ts last r w h = ap (starts ends_argument) h.3 ∙ ap ends_argument h.4

-- ---- bounds and strides

pub present_bound : (ts : List Item) (e : Tree) (r : List Item) → IsRead EatsWhole ts e r → IsRead IsBound ts (present e) r
present_bound ts e r a = bound_present ts e r (begins_no_bound e ts r (a.eats).0) a

pub absent_bound : (ts r : List Item) → IsBound absent ts r → IsRead IsBound ts absent r
absent_bound ts r h = subst (λ (x : List Item). IsRead IsBound ts absent x) h.0 (bound_absent ts h.1)

pub absent_stride : (ts r : List Item) → IsStride absent ts r → IsRead IsStride ts absent r
absent_stride ts r h = subst (λ (x : List Item). IsRead IsStride ts absent x) h.0 (stride_absent ts h.1)

-- ---- arguments without a keyword

positional_is : (ts : List Item) → HasKeyword None ts → (t : ArgumentTree) (r : List Item) → IsPositional t ts r → IsArgument t ts r
positional_is ts none (value None e) r h = (none, h)
positional_is ts none (value (Some n) e) r h = absurd h
positional_is ts none (triplet p x y z) r h = (none, h)

is_positional : (ts : List Item) → HasKeyword None ts → (t : ArgumentTree) (r : List Item) → IsArgument t ts r → IsPositional t ts r
is_positional ts none (value None e) r h = h.1
is_positional ts none (value (Some n) e) r h = let b = h.1 in absurd (none b.0 b.1 h.0 b.2 b.3 b.5)
is_positional ts none (triplet p x y z) r h = h.1

pub positional_reads : (ts : List Item) (t : ArgumentTree) (r : List Item) → HasKeyword None ts → IsRead IsPositional ts t r → IsRead IsArgument ts t r
positional_reads ts t r none a = record { eats = positional_is ts none t r a.eats; only = λ u s h. a.only u s (is_positional ts none u s h) }

-- an expression at whose front and behind which no colon stands
pub positional_value : (ts : List Item) (e : Tree) (r : List Item) → IsRead EatsWhole ts e r → starts is_colon r ≡ false → IsRead IsPositional ts (value None e) r
positional_value ts e r a none = value_reads ts e r
    (λ j tail is w. true≢false (sym (ap (starts ends_bound) is ∙ ap ends_bound w) ∙ begins_no_bound e ts r (a.eats).0))
    a
    (λ j tail is w. true≢false (sym (ap (starts is_colon) is ∙ ap is_colon w) ∙ none))

-- ---- triplets

-- before this colon stands this bound and no other, and no expression that no colon follows
pub record BeforeColon (ts : List Item) (first : Perhaps) (colon : Item) (behind : List Item) : Type 0 where
  pub bound : (x : Perhaps) (i : Item) (s : List Item) → i.word ≡ word.Colon → EatsPerhaps x ts (i ∷ s) → (x ≡ first) × (i ∷ s ≡ colon ∷ behind)
  pub no_value : (f : Tree) (s : List Item) → EatsWhole f ts s → starts is_colon s ≡ false → ⊥

pub nothing_before : (ts : List Item) (colon : Item) (behind : List Item) → colon.word ≡ word.Colon → ts ≡ colon ∷ behind → BeforeColon ts absent colon behind
nothing_before ts colon behind w is = record { bound = λ x i s v h. by x i s v h; no_value = λ f s h none. nothing f s h.0 }
  where
    nothing : (f : Tree) (s : List Item) → Eats 9 f ts s → ⊥
    nothing f s h = true≢false (sym (ap (starts ends_bound) is ∙ ap ends_bound w) ∙ begins_no_bound f ts s h)

    by : (x : Perhaps) (i : Item) (s : List Item) → i.word ≡ word.Colon → EatsPerhaps x ts (i ∷ s) → (x ≡ absent) × (i ∷ s ≡ colon ∷ behind)
    by absent i s v h = (refl, sym h ∙ is)
    by (present f) i s v h = absurd (nothing f (i ∷ s) h)

pub bound_before : (ts : List Item) (e : Tree) (colon : Item) (behind : List Item) → colon.word ≡ word.Colon → IsRead EatsWhole ts e (colon ∷ behind) → BeforeColon ts (present e) colon behind
bound_before ts e colon behind w a = record {
  bound = λ x i s v h. by x i s v h;
  no_value = λ f s h none. true≢false (sym (ap (starts is_colon) (a.only f s h).1 ∙ ap is_colon w) ∙ none);
}
  where
    by : (x : Perhaps) (i : Item) (s : List Item) → i.word ≡ word.Colon → EatsPerhaps x ts (i ∷ s) → (x ≡ present e) × (i ∷ s ≡ colon ∷ behind)
    by absent i s v h = absurd (true≢false (sym (ap (starts ends_bound) h ∙ ap ends_bound v) ∙ begins_no_bound e ts (colon ∷ behind) (a.eats).0))
    by (present f) i s v h = let same = a.only f (i ∷ s) (h, ends_there 9 i s (ap joins v)) in (ap (λ (t : Tree). present t) same.0, same.1)

pub triplet_there : (ts : List Item) (p : Place) (first last stride : Perhaps) (r : List Item) → (h : IsPositional (triplet p first last stride) ts r)
    → BeforeColon ts first h.2 h.3 → IsRead IsBound h.3 last (h.7).0 → IsRead IsStride (h.7).0 stride r → IsRead IsPositional ts (triplet p first last stride) r
triplet_there ts p first last stride r h before a b = record { eats = h; only = λ t s k. by t s k }
  where
    here : IsRead (IsTriplet p first) h.3 (triplet p first last stride) r
    here = triplet_reads p first h.3 last (h.7).0 stride r a b

    by : (t : ArgumentTree) (s : List Item) → IsPositional t ts s → (t ≡ triplet p first last stride) × (s ≡ r)
    by (value None f) s k = absurd (before.no_value f s k.0 k.1)
    by (value (Some n) f) s k = absurd k
    by (triplet q x y z) s k =
        let one = before.bound x k.2 k.3 k.6 k.5 in
        let colons : k.2 ∷ k.3 ≡ h.2 ∷ h.3 = one.1 in
        let same : k.3 ≡ h.3 = cc in
        let whole : k.0 ∷ k.1 ≡ h.0 ∷ h.1 = sym k.4 ∙ h.4 in
        let head : k.0 ≡ h.0 = cc in
        let place : q ≡ p = (k.7).1 ∙ ap (λ (i : Item). i.place) head ∙ sym (h.7).1 in
        here.only (triplet q x y z) s ((k.7).0, place, one.0, subst (λ (l : List Item). IsBound y l (k.7).0) same (k.7).3, (k.7).4)

-- ---- one part of a designator

record Opened (ts : List Item) : Type 0 where
  first : Item
  inner : List Item
  is : ts ≡ first ∷ inner
  opens : first.word ≡ word.Open

opened : (list : Arguments) (ts r : List Item) → EatsWithin list ts r → Opened ts
opened no_arguments ts r h = record { first = h.0; inner = h.1 ∷ r; is = h.2; opens = h.3 }
opened (arguments a others) ts r h = record { first = h.0; inner = h.1; is = h.4; opens = h.5 }

abbrev pair : Name → Behind → Name × Behind
pair n b = (n, b)

pub bare_part : (n : Name) (ts r : List Item) → IsPart (n, bare) ts r → IsRead IsPart ts (n, bare) r
bare_part n ts r h =
    let none = ap (starts is_open) (h.5).0 ∙ (h.5).1 in
    subst (λ (m : Name). IsRead IsPart ts (pair m bare) r) (sym h.4) (subst (λ (x : List Item). IsRead IsPart ts (pair (name_of h.0) bare) x) (h.5).0 (part_bare ts h.0 h.1 h.2 h.3 none))

pub within_part : (n : Name) (list : Arguments) (ts r : List Item) → (h : IsPart (n, within list) ts r) → IsRead EatsList h.1 (list_of_arguments list) r → IsRead IsPart ts (n, within list) r
within_part n list ts r h a =
    let o = opened list h.1 r h.5 in
    let named = part_within ts h.0 h.1 o.first o.inner (list_of_arguments list) r h.2 h.3 o.is o.opens a in
    subst (λ (m : Name). IsRead IsPart ts (pair m (within list)) r) (sym h.4) (subst (λ (l : Arguments). IsRead IsPart ts (pair (name_of h.0) (within l)) r) (arguments_back list) named)

-- behind a parenthesis that opens arguments none closes them at once
pub not_closed : (a : ArgumentTree) (others : Arguments) (ts r : List Item) → (h : EatsWithin (arguments a others) ts r) → (j : Item) (tail : List Item) → h.1 ≡ j ∷ tail → j.word ≡ word.Close → ⊥
not_closed a others ts r h j tail is w =
    let empty = none_read ts h.0 h.1 j tail h.4 h.5 is w in
    let same = (empty.only (list_of_arguments (arguments a others)) r (subst (λ (l : Arguments). EatsWithin l ts r) (sym (arguments_back (arguments a others))) h)).0 in
    some_first a (list_of_arguments others) same
  where
    some_first : (x : ArgumentTree) (xs : List ArgumentTree) → x ∷ xs ≡ [] → ⊥
    some_first x xs e = cc
