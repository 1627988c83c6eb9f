-- Arguments and triplets, and the parentheses around them.
use Rattle.std.proofs.Common.{◌≡◌, ◌≢◌, true, false, List, [], ◌∷◌, Some, None, Result, Ok, Err, refl, sym, ap, subst, ◌∙◌, arith}
use Rattle.std.proofs.lemmas.Bool.{true≢false}
use Rattle.std.specs.Borrow.{Bor}
use Rattle.f3_places.specs.declared.source.Place.{Place}
use Rattle.f3_tree.specs.declared.expression.Name.{Name}
use Rattle.f3_tree.specs.declared.expression.Argument.{Argument}
use Rattle.f3_tree.specs.Expressions.{Tree, Arguments, no_arguments, arguments, ArgumentTree, value, triplet, Perhaps, absent, present, arguments_of, argument_view}
use Rattle.f3_words.specs.declared.error.ReadError.{ReadError}
use Rattle.f3_words.specs.declared.error.ReadError.TheVariants.{Memory, NoForm}
use Rattle.f3_words.specs.declared.item.Word.{Word}
use Rattle.f3_words.specs.declared.item.Word.TheVariants as word
use Rattle.f3_words.specs.declared.item.Item.{Item}
use Rattle.f3_words.specs.Words.{is_name, name_of}
use Rattle.f3_words.specs.Lists.{starts, is_comma, EatsRun, Separated}
use Rattle.f3_words.specs.Reads.{IsRead, Fails, Reads, AreBehind}
use Rattle.f3_expressions.specs.Levels.{joins, Ends}
use Rattle.f3_expressions.specs.Grammar.{Eats, EatsOthers, EatsArgument, EatsPerhaps, EatsStride}
use Rattle.f3_expressions.specs.Readings.{is_colon, ends_argument, ends_bound, HasKeyword, IsBound, IsStride, IsTriplet, IsPositional, IsArgument, EatsWhole, EatsList}
use Rattle.f3_expressions.proofs.Fronts.{ends_there, not_front, not_empty, rank, name_equals}
use Rattle.f3_expressions.proofs.Operands.{list_of_arguments}

-- ---- where an argument ends

end_word : (w : Word) → ends_argument w ≡ true → (joins w ≡ None) × (is_colon w ≡ false) × (ends_bound w ≡ true) × (is_name w ≡ false) × (w ≢ word.Equals)
end_word word.Comma h = (refl, refl, refl, refl, λ e. cc)
end_word word.Close h = (refl, refl, refl, refl, λ e. cc)
end_word w h = absurd (cc)

ends_at_end : (r : List Item) → starts ends_argument r ≡ true → Ends 9 r
ends_at_end [] h = tt
ends_at_end (i ∷ r) h = ends_there 9 i r (end_word i.word h).0

no_colon_at_end : (r : List Item) → starts ends_argument r ≡ true → starts is_colon r ≡ false
no_colon_at_end [] h = refl
no_colon_at_end (i ∷ r) h = (end_word i.word h).1

bound_at_end : (r : List Item) → starts ends_argument r ≡ true → starts ends_bound r ≡ true
bound_at_end [] h = absurd (true≢false (sym h))
bound_at_end (i ∷ r) h = (end_word i.word h).2

bound_word : (w : Word) → ends_bound w ≡ true → (joins w ≡ None) × (rank w ≡ 10)
bound_word word.Comma h = (refl, refl)
bound_word word.Close h = (refl, refl)
bound_word word.Colon h = (refl, refl)
bound_word w h = absurd (cc)

ends_at_bound : (r : List Item) → starts ends_bound r ≡ true → Ends 9 r
ends_at_bound [] h = tt
ends_at_bound (i ∷ r) h = ends_there 9 i r (bound_word i.word h).0

-- no expression begins where a bound ends
nothing_at_bound : (ts : List Item) (e : Tree) (r : List Item) → starts ends_bound ts ≡ true → Eats 9 e ts r → ⊥
nothing_at_bound [] e r h eats = not_empty 9 e r eats
nothing_at_bound (i ∷ ts) e r h eats = let ten = (bound_word i.word h).1 in not_front 9 e i ts r (omega (arith, ten)) eats

-- ---- bounds and strides

pub bound_absent : (ts : List Item) → starts ends_bound ts ≡ true → IsRead IsBound ts absent ts
bound_absent ts h = record { eats = (refl, h); only = λ b r is. by b r is }
  where
    by : (b : Perhaps) (r : List Item) → IsBound b ts r → (b ≡ absent) × (r ≡ ts)
    by absent r is = (refl, sym is.0)
    by (present e) r is = absurd (nothing_at_bound ts e r h is.0)

pub bound_present : (ts : List Item) (e : Tree) (r : List Item) → starts ends_bound ts ≡ false → IsRead EatsWhole ts e r → IsRead IsBound ts (present e) r
bound_present ts e r h a = record { eats = a.eats; only = λ b s is. by b s is }
  where
    by : (b : Perhaps) (s : List Item) → IsBound b ts s → (b ≡ present e) × (s ≡ r)
    by absent s is = absurd (true≢false (sym is.1 ∙ h))
    by (present f) s is = let same = a.only f s is in (ap (λ (x : Tree). present x) same.0, same.1)

pub bound_fails : (ts : List Item) → starts ends_bound ts ≡ false → Fails EatsWhole ts → Fails IsBound ts
bound_fails ts h a absent s is = true≢false (sym is.1 ∙ h)
bound_fails ts h a (present f) s is = a f s is

pub stride_absent : (ts : List Item) → starts is_colon ts ≡ false → IsRead IsStride ts absent ts
stride_absent ts h = record { eats = (refl, h); only = λ b r is. by b r is }
  where
    by : (b : Perhaps) (r : List Item) → IsStride b ts r → (b ≡ absent) × (r ≡ ts)
    by absent r is = (refl, sym is.0)
    by (present e) r is = absurd (true≢false (ap is_colon (sym is.3) ∙ ap (starts is_colon) (sym is.2) ∙ h))

pub stride_present : (ts : List Item) (i : Item) (tail : List Item) (e : Tree) (r : List Item) → ts ≡ i ∷ tail → i.word ≡ word.Colon → IsRead EatsWhole tail e r → IsRead IsStride ts (present e) r
stride_present ts i tail e r begins w a = record { eats = (i, tail, begins, w, a.eats); only = λ b s is. by b s is }
  where
    by : (b : Perhaps) (s : List Item) → IsStride b ts s → (b ≡ present e) × (s ≡ r)
    by absent s is = absurd (true≢false (ap is_colon (sym w) ∙ ap (starts is_colon) (sym begins) ∙ is.1))
    by (present f) s is =
        let whole : i ∷ tail ≡ is.0 ∷ is.1 = sym begins ∙ is.2 in
        let behind : tail ≡ is.1 = cc in
        let same = a.only f s (subst (λ (x : List Item). EatsWhole f x s) (sym behind) is.4) in
        (ap (λ (x : Tree). present x) same.0, same.1)

pub stride_fails : (ts : List Item) (i : Item) (tail : List Item) → ts ≡ i ∷ tail → i.word ≡ word.Colon → Fails EatsWhole tail → Fails IsStride ts
stride_fails ts i tail begins w a absent s is = true≢false (ap is_colon (sym w) ∙ ap (starts is_colon) (sym begins) ∙ is.1)
stride_fails ts i tail begins w a (present f) s is =
    let whole : i ∷ tail ≡ is.0 ∷ is.1 = sym begins ∙ is.2 in
    let behind : tail ≡ is.1 = cc in
    a f s (subst (λ (x : List Item). EatsWhole f x s) (sym behind) is.4)

pub starts_no_colon : (ts : List Item) → ((j : Item) (tail : List Item) → ts ≡ j ∷ tail → j.word ≡ word.Colon → ⊥) → starts is_colon ts ≡ false
starts_no_colon [] h = refl
starts_no_colon (j ∷ tail) h = by j.word (h j tail refl)
  where
    by : (w : Word) → (w ≡ word.Colon → ⊥) → is_colon w ≡ false
    by word.Colon n = absurd (n refl)
    by w n = refl

pub starts_no_comma : (ts : List Item) → ((j : Item) (tail : List Item) → ts ≡ j ∷ tail → j.word ≡ word.Comma → ⊥) → starts is_comma ts ≡ false
starts_no_comma [] h = refl
starts_no_comma (j ∷ tail) h = by j.word (h j tail refl)
  where
    by : (w : Word) → (w ≡ word.Comma → ⊥) → is_comma w ≡ false
    by word.Comma n = absurd (n refl)
    by w n = refl

-- ---- triplets, behind their first colon

pub triplet_reads : (p : Place) (a : Perhaps) (ts : List Item) (b : Perhaps) (mid : List Item) (c : Perhaps) (r : List Item) → IsRead IsBound ts b mid → IsRead IsStride mid c r → IsRead (IsTriplet p a) ts (triplet p a b c) r
triplet_reads p a ts b mid c r f g = record { eats = (mid, refl, refl, f.eats, g.eats); only = λ t s h. by t s h }
  where
    by : (t : ArgumentTree) (s : List Item) → IsTriplet p a t ts s → (t ≡ triplet p a b c) × (s ≡ r)
    by (value n e) s h = absurd h
    by (triplet q x y z) s h =
        let last = f.only y h.0 h.3 in
        let stride = g.only z s (subst (λ (l : List Item). IsStride z l s) last.1 h.4) in
        (ap (λ (v : Place). triplet v x y z) h.1 ∙ ap (λ (v : Perhaps). triplet p v y z) h.2 ∙ ap (λ (v : Perhaps). triplet p a v z) last.0 ∙ ap (λ (v : Perhaps). triplet p a b v) stride.0, stride.1)

pub triplet_fails : (p : Place) (a : Perhaps) (ts : List Item) → Fails IsBound ts → Fails (IsTriplet p a) ts
triplet_fails p a ts f (value n e) s h = absurd h
triplet_fails p a ts f (triplet q x y z) s h = f y h.0 h.3

pub triplet_stride_fails : (p : Place) (a : Perhaps) (ts : List Item) (b : Perhaps) (mid : List Item) → IsRead IsBound ts b mid → Fails IsStride mid → Fails (IsTriplet p a) ts
triplet_stride_fails p a ts b mid f g (value n e) s h = absurd h
triplet_stride_fails p a ts b mid f g (triplet q x y z) s h =
    let last = f.only y h.0 h.3 in
    g z s (subst (λ (l : List Item). IsStride z l s) last.1 h.4)

-- ---- arguments without a keyword

-- from a triplet behind its first colon, with what stands before that
from_triplet : (ts : List Item) (i : Item) (others : List Item) (first : Perhaps) (colon : Item) (behind : List Item) → ts ≡ i ∷ others → EatsPerhaps first ts (colon ∷ behind) → colon.word ≡ word.Colon → (t : ArgumentTree) (r : List Item) → IsTriplet i.place first t behind r → IsPositional t ts r
from_triplet ts i others first colon behind is eats w (value n e) r h = absurd h
from_triplet ts i others first colon behind is eats w (triplet p a b c) r h =
    (i, others, colon, behind, is, subst (λ (x : Perhaps). EatsPerhaps x ts (colon ∷ behind)) (sym h.2) eats, w, (h.0, h.1, refl, h.3, h.4))

only_triplets_reads : (ts : List Item) (i : Item) (others : List Item) (first : Perhaps) (colon : Item) (behind : List Item) → ts ≡ i ∷ others → EatsPerhaps first ts (colon ∷ behind) → colon.word ≡ word.Colon
    → ((t : ArgumentTree) (r : List Item) → IsPositional t ts r → IsTriplet i.place first t behind r)
    → (result : Result (Argument × Bor (List Item)) ReadError) → Reads (IsTriplet i.place first) argument_view result behind → Reads IsPositional argument_view result ts
only_triplets_reads ts i others first colon behind is eats w back (Ok x) h = record {
  eats = from_triplet ts i others first colon behind is eats w (argument_view x.0) x.1.now h.eats;
  only = λ t r k. h.only t r (back t r k);
}
only_triplets_reads ts i others first colon behind is eats w back (Err Memory) h = tt
only_triplets_reads ts i others first colon behind is eats w back (Err NoForm) h = λ t r k. h t r (back t r k)

-- a colon at the front
pub colon_first : (ts : List Item) (i : Item) (others : List Item) (colon : Item) (behind : List Item) → ts ≡ i ∷ others → ts ≡ colon ∷ behind → colon.word ≡ word.Colon
    → (result : Result (Argument × Bor (List Item)) ReadError) → Reads (IsTriplet i.place absent) argument_view result behind → Reads IsPositional argument_view result ts
colon_first ts i others colon behind is begins w result h = only_triplets_reads ts i others absent colon behind is begins w (λ t r k. back t r k) result h
  where
    at_bound : starts ends_bound ts ≡ true
    at_bound = ap (starts ends_bound) begins ∙ ap ends_bound w

    back : (t : ArgumentTree) (r : List Item) → IsPositional t ts r → IsTriplet i.place absent t behind r
    back (value None e) r k = absurd (nothing_at_bound ts e r at_bound (k.0).0)
    back (value (Some n) e) r k = absurd k
    back (triplet p (present e) b c) r k = absurd (nothing_at_bound ts e (k.2 ∷ k.3) at_bound k.5)
    back (triplet p absent b c) r k =
        let whole : i ∷ others ≡ k.0 ∷ k.1 = sym is ∙ k.4 in
        let first : i ≡ k.0 = cc in
        let colons : colon ∷ behind ≡ k.2 ∷ k.3 = sym begins ∙ k.5 in
        let same : behind ≡ k.3 = cc in
        let q = k.7 in
        (q.0, q.1 ∙ ap (λ (x : Item). x.place) (sym first), refl, subst (λ (x : List Item). IsBound b x q.0) (sym same) q.3, q.4)

-- an expression, and a colon behind it
pub colon_behind : (ts : List Item) (i : Item) (others : List Item) (e : Tree) (rest : List Item) (colon : Item) (behind : List Item) → ts ≡ i ∷ others → IsRead EatsWhole ts e rest → rest ≡ colon ∷ behind → colon.word ≡ word.Colon
    → (result : Result (Argument × Bor (List Item)) ReadError) → Reads (IsTriplet i.place (present e)) argument_view result behind → Reads IsPositional argument_view result ts
colon_behind ts i others e rest colon behind is a begins w result h =
    only_triplets_reads ts i others (present e) colon behind is (subst (λ (x : List Item). Eats 9 e ts x) begins (a.eats).0) w (λ t r k. back t r k) result h
  where
    back : (t : ArgumentTree) (r : List Item) → IsPositional t ts r → IsTriplet i.place (present e) t behind r
    back (value None f) r k =
        let same = a.only f r k.0 in
        absurd (true≢false (ap is_colon (sym w) ∙ ap (starts is_colon) (sym begins ∙ sym same.1) ∙ k.1))
    back (value (Some n) f) r k = absurd k
    back (triplet p absent b c) r k =
        absurd (nothing_at_bound ts e rest (ap (starts ends_bound) k.5 ∙ ap ends_bound k.6) (a.eats).0)
    back (triplet p (present f) b c) r k =
        let whole : i ∷ others ≡ k.0 ∷ k.1 = sym is ∙ k.4 in
        let first : i ≡ k.0 = cc in
        let bound = a.only f (k.2 ∷ k.3) (k.5, ends_there 9 k.2 k.3 (ap joins k.6)) in
        let colons : k.2 ∷ k.3 ≡ colon ∷ behind = bound.1 ∙ begins in
        let same : k.3 ≡ behind = cc in
        let q = k.7 in
        (q.0, q.1 ∙ ap (λ (x : Item). x.place) (sym first), ap (λ (x : Tree). present x) bound.0, subst (λ (x : List Item). IsBound b x q.0) same q.3, q.4)

-- an expression, and no colon behind it
pub value_reads : (ts : List Item) (e : Tree) (rest : List Item) → ((j : Item) (tail : List Item) → ts ≡ j ∷ tail → j.word ≡ word.Colon → ⊥) → IsRead EatsWhole ts e rest → ((j : Item) (tail : List Item) → rest ≡ j ∷ tail → j.word ≡ word.Colon → ⊥)
    → IsRead IsPositional ts (value None e) rest
value_reads ts e rest before a none = record { eats = (a.eats, starts_no_colon rest none); only = λ t r k. back t r k }
  where
    back : (t : ArgumentTree) (r : List Item) → IsPositional t ts r → (t ≡ value None e) × (r ≡ rest)
    back (value None f) r k = let same = a.only f r k.0 in (ap (λ (x : Tree). value None x) same.0, same.1)
    back (value (Some n) f) r k = absurd k
    back (triplet p absent b c) r k = absurd (before k.2 k.3 k.5 k.6)
    back (triplet p (present f) b c) r k =
        let bound = a.only f (k.2 ∷ k.3) (k.5, ends_there 9 k.2 k.3 (ap joins k.6)) in
        absurd (none k.2 k.3 (sym bound.1) k.6)

pub value_fails : (ts : List Item) → ((j : Item) (tail : List Item) → ts ≡ j ∷ tail → j.word ≡ word.Colon → ⊥) → Fails EatsWhole ts → Fails IsPositional ts
value_fails ts before a (value None f) r k = a f r k.0
value_fails ts before a (value (Some n) f) r k = absurd k
value_fails ts before a (triplet p absent b c) r k = before k.2 k.3 k.5 k.6
value_fails ts before a (triplet p (present f) b c) r k = a f (k.2 ∷ k.3) (k.5, ends_there 9 k.2 k.3 (ap joins k.6))

pub no_argument : Fails IsPositional []
no_argument (value None f) r k = not_empty 9 f r (k.0).0
no_argument (value (Some n) f) r k = absurd k
no_argument (triplet p first b c) r k = let e = k.4 in absurd (cc)

-- ---- arguments

pub named_reads : (ts : List Item) (n : Name) (i equals : Item) (tail : List Item) (e : Tree) (r : List Item) → ts ≡ i ∷ equals ∷ tail → is_name i.word ≡ true → n ≡ name_of i → equals.word ≡ word.Equals → IsRead EatsWhole tail e r → IsRead IsArgument ts (value (Some n) e) r
named_reads ts n i equals tail e r is w named q a = record { eats = (tail, (i, equals, is, w, named, q), a.eats); only = λ t s k. back t s k }
  where
    back : (t : ArgumentTree) (s : List Item) → IsArgument t ts s → (t ≡ value (Some n) e) × (s ≡ r)
    back (value None f) s k = absurd (k.0 i equals tail is w q)
    back (triplet p x y z) s k = absurd (k.0 i equals tail is w q)
    back (value (Some m) f) s k =
        let b = k.1 in
        let whole : i ∷ equals ∷ tail ≡ b.0 ∷ b.1 ∷ k.0 = sym is ∙ b.2 in
        let first : i ≡ b.0 = cc in
        let behind : tail ≡ k.0 = cc in
        let same = a.only f s (subst (λ (x : List Item). EatsWhole f x s) (sym behind) k.2) in
        let names : m ≡ n = b.4 ∙ ap name_of (sym first) ∙ sym named in
        (ap (λ (x : Name). value (Some x) f) names ∙ ap (λ (x : Tree). value (Some n) x) same.0, same.1)

pub named_fails : (ts : List Item) (n : Name) (i equals : Item) (tail : List Item) → ts ≡ i ∷ equals ∷ tail → is_name i.word ≡ true → equals.word ≡ word.Equals → Fails EatsWhole tail → Fails IsArgument ts
named_fails ts n i equals tail is w q a (value None f) s k = k.0 i equals tail is w q
named_fails ts n i equals tail is w q a (triplet p x y z) s k = k.0 i equals tail is w q
named_fails ts n i equals tail is w q a (value (Some m) f) s k =
    let b = k.1 in
    let whole : i ∷ equals ∷ tail ≡ b.0 ∷ b.1 ∷ k.0 = sym is ∙ b.2 in
    let behind : tail ≡ k.0 = cc in
    a f s (subst (λ (x : List Item). EatsWhole f x s) (sym behind) k.2)

unnamed_is : (ts : List Item) → HasKeyword None ts → (t : ArgumentTree) (r : List Item) → IsPositional t ts r → IsArgument t ts r
unnamed_is ts none (value None e) r h = (none, h)
unnamed_is ts none (value (Some n) e) r h = absurd h
unnamed_is ts none (triplet p x y z) r h = (none, h)

is_unnamed : (ts : List Item) → HasKeyword None ts → (t : ArgumentTree) (r : List Item) → IsArgument t ts r → IsPositional t ts r
is_unnamed ts none (value None e) r h = h.1
is_unnamed ts none (value (Some n) e) r h = let b = h.1 in none b.0 b.1 h.0 b.2 b.3 b.5
is_unnamed ts none (triplet p x y z) r h = h.1

pub unnamed_reads : (ts : List Item) → HasKeyword None ts → (result : Result (Argument × Bor (List Item)) ReadError) → Reads IsPositional argument_view result ts → Reads IsArgument argument_view result ts
unnamed_reads ts none (Ok x) h = record { eats = unnamed_is ts none (argument_view x.0) x.1.now h.eats; only = λ t r k. h.only t r (is_unnamed ts none t r k) }
unnamed_reads ts none (Err Memory) h = tt
unnamed_reads ts none (Err NoForm) h = λ t r k. h t r (is_unnamed ts none t r k)

-- ---- what the reader finds is what the grammar says

bound_eats : (b : Perhaps) (ts r : List Item) → IsBound b ts r → EatsPerhaps b ts r
bound_eats absent ts r h = h.0
bound_eats (present e) ts r h = h.0

stride_eats : (b : Perhaps) (ts r : List Item) → IsStride b ts r → EatsStride b ts r
stride_eats absent ts r h = h.0
stride_eats (present e) ts r h = (h.0, h.1, h.2, h.3, (h.4).0)

pub argument_eats : (t : ArgumentTree) (ts r : List Item) → IsArgument t ts r → EatsArgument t ts r
argument_eats (value None e) ts r h = (ts, refl, ((h.1).0).0)
argument_eats (value (Some n) e) ts r h = (h.0, h.1, (h.2).0)
argument_eats (triplet p a b c) ts r h =
    let k = h.1 in
    let q = k.7 in
    (k.0, k.1, k.2, k.3, q.0, k.4, q.1, k.5, k.6, bound_eats b k.3 q.0 q.3, stride_eats c q.0 r q.4)

eats_bound : (b : Perhaps) (ts r : List Item) → starts ends_bound r ≡ true → EatsPerhaps b ts r → IsBound b ts r
eats_bound absent ts r end h = (h, ap (starts ends_bound) h ∙ end)
eats_bound (present e) ts r end h = (h, ends_at_bound r end)

eats_stride : (b : Perhaps) (ts r : List Item) → starts ends_argument r ≡ true → EatsStride b ts r → IsStride b ts r
eats_stride absent ts r end h = (h, ap (starts is_colon) h ∙ no_colon_at_end r end)
eats_stride (present e) ts r end h = (h.0, h.1, h.2, h.3, (h.4, ends_at_end r end))

stride_front : (b : Perhaps) (ts r : List Item) → starts ends_argument r ≡ true → EatsStride b ts r → starts ends_bound ts ≡ true
stride_front absent ts r end h = ap (starts ends_bound) h ∙ bound_at_end r end
stride_front (present e) ts r end h = ap (starts ends_bound) h.2 ∙ ap ends_bound h.3

-- a name and `=` begin no expression that ends elsewhere
no_keyword : (e : Tree) (ts r : List Item) → Eats 9 e ts r → ((equals : Item) (tail : List Item) → r ≡ equals ∷ tail → equals.word ≡ word.Equals → ⊥) → HasKeyword None ts
no_keyword e ts r h other i equals tail is named q = other equals tail (name_equals 9 e i equals tail r named q (subst (λ (x : List Item). Eats 9 e x r) is h)) q

end_no_equals : (r : List Item) → starts ends_argument r ≡ true → (equals : Item) (tail : List Item) → r ≡ equals ∷ tail → equals.word ≡ word.Equals → ⊥
end_no_equals r end equals tail is q = true≢false (sym end ∙ ap (starts ends_argument) is ∙ ap ends_argument q)

pub eats_argument : (t : ArgumentTree) (ts r : List Item) → starts ends_argument r ≡ true → EatsArgument t ts r → IsArgument t ts r
eats_argument (value None e) ts r end h =
    let here = subst (λ (x : List Item). Eats 9 e x r) (sym h.1) h.2 in
    (no_keyword e ts r here (end_no_equals r end), ((here, ends_at_end r end), no_colon_at_end r end))
eats_argument (value (Some n) e) ts r end h = (h.0, h.1, (h.2, ends_at_end r end))
eats_argument (triplet p absent b c) ts r end h = (
  λ i equals tail is named q. true≢false (sym named ∙ ap (starts is_name) (sym is ∙ h.7) ∙ ap is_name h.8),
  (h.0, h.1, h.2, h.3, h.5, h.7, h.8, (h.4, h.6, refl, eats_bound b h.3 h.4 (stride_front c h.4 r end h.10) h.9, eats_stride c h.4 r end h.10)),
)
eats_argument (triplet p (present e) b c) ts r end h = (
  no_keyword e ts (h.2 ∷ h.3) h.7 (λ equals tail is q. let same : h.2 ≡ equals = cc in let colon : word.Colon ≡ word.Equals = sym h.8 ∙ ap (λ (x : Item). x.word) same ∙ q in cc),
  (h.0, h.1, h.2, h.3, h.5, h.7, h.8, (h.4, h.6, refl, eats_bound b h.3 h.4 (stride_front c h.4 r end h.10) h.9, eats_stride c h.4 r end h.10)),
)

-- ---- lists of arguments

abbrev Further : List ArgumentTree → List Item → List Item → Type 0
Further = EatsRun is_comma (Separated IsArgument)

others_front : (list : Arguments) (ts : List Item) (last : Item) (r : List Item) → last.word ≡ word.Close → EatsOthers list ts (last ∷ r) → starts ends_argument ts ≡ true
others_front no_arguments ts last r w h = ap (starts ends_argument) h ∙ ap ends_argument w
others_front (arguments a others) ts last r w h = ap (starts ends_argument) h.3 ∙ ap ends_argument h.4

others_run : (list : Arguments) (ts : List Item) (last : Item) (r : List Item) → last.word ≡ word.Close → EatsOthers list ts (last ∷ r) → Further (list_of_arguments list) ts (last ∷ r)
others_run no_arguments ts last r w h = (h, ap is_comma w)
others_run (arguments a others) ts last r w h =
    (h.0, h.1, h.2, h.3, ap is_comma h.4, eats_argument a h.1 h.2 (others_front others h.2 last r w h.6) h.5, others_run others h.2 last r w h.6)

comma_word : (w : Word) → is_comma w ≡ true → w ≡ word.Comma
comma_word word.Comma h = refl
comma_word w h = absurd (cc)

run_others : (list : List ArgumentTree) (ts r : List Item) → Further list ts r → EatsOthers (arguments_of list) ts r
run_others [] ts r h = h.0
run_others (a ∷ others) ts r h = (h.0, h.1, h.2, h.3, comma_word (h.0).word h.4, argument_eats a h.1 h.2 h.5, run_others others h.2 r h.6)

list_there : (list : List ArgumentTree) → list_of_arguments (arguments_of list) ≡ list
list_there [] = refl
list_there (a ∷ others) = ap (λ (x : List ArgumentTree). a ∷ x) (list_there others)

pub no_parenthesis : (ts : List Item) → ((j : Item) (tail : List Item) → ts ≡ j ∷ tail → j.word ≡ word.Open → ⊥) → Fails EatsList ts
no_parenthesis ts none [] s h = none h.0 (h.1 ∷ s) h.2 h.3
no_parenthesis ts none (a ∷ others) s h = none h.0 h.1 h.4 h.5

-- no argument begins with the parenthesis that closes
at_close : (i : Item) (ts : List Item) (a : ArgumentTree) (r : List Item) → i.word ≡ word.Close → EatsArgument a (i ∷ ts) r → ⊥
at_close i ts (value None e) r w h = nothing_at_bound (i ∷ ts) e r (ap ends_bound w) (subst (λ (x : List Item). Eats 9 e x r) (sym h.1) h.2)
at_close i ts (value (Some n) e) r w h =
    let k = h.1 in
    let first : i ≡ k.0 = let e = k.2 in cc in
    true≢false (sym k.3 ∙ ap (λ (x : Item). is_name x.word) (sym first) ∙ ap is_name w)
at_close i ts (triplet p (present e) b c) r w h = nothing_at_bound (i ∷ ts) e (h.2 ∷ h.3) (ap ends_bound w) h.7
at_close i ts (triplet p absent b c) r w h =
    let first : i ≡ h.2 = let e = h.7 in cc in
    let words : word.Close ≡ word.Colon = sym w ∙ ap (λ (x : Item). x.word) first ∙ h.8 in
    absurd (cc)

pub none_read : (ts : List Item) (first : Item) (inner : List Item) (last : Item) (tail : List Item) → ts ≡ first ∷ inner → first.word ≡ word.Open → inner ≡ last ∷ tail → last.word ≡ word.Close → IsRead EatsList ts [] tail
none_read ts first inner last tail is w closes v = record { eats = (first, last, is ∙ ap (λ (x : List Item). first ∷ x) closes, w, v); only = λ list r h. back list r h }
  where
    back : (list : List ArgumentTree) (r : List Item) → EatsList list ts r → (list ≡ []) × (r ≡ tail)
    back [] r h =
        let whole : first ∷ inner ≡ h.0 ∷ h.1 ∷ r = sym is ∙ h.2 in
        let behind : inner ≡ h.1 ∷ r = cc in
        let both : last ∷ tail ≡ h.1 ∷ r = sym closes ∙ behind in
        (refl, (cc))
    back (a ∷ others) r h =
        let whole : first ∷ inner ≡ h.0 ∷ h.1 = sym is ∙ h.4 in
        let behind : inner ≡ h.1 = cc in
        absurd (at_close last tail a h.2 v (subst (λ (x : List Item). EatsArgument a x h.2) (sym behind ∙ closes) h.6))

record InList (inner : List Item) (list : List ArgumentTree) (r : List Item) : Type 0 where
  first : ArgumentTree
  others : List ArgumentTree
  mid : List Item
  last : Item
  is : list ≡ first ∷ others
  eats_first : IsArgument first inner mid
  eats_others : Further others mid (last ∷ r)
  closed : last.word ≡ word.Close

in_list : (ts : List Item) (first : Item) (inner : List Item) → ts ≡ first ∷ inner → ((j : Item) (tail : List Item) → inner ≡ j ∷ tail → j.word ≡ word.Close → ⊥) → (list : List ArgumentTree) (r : List Item) → EatsList list ts r → InList inner list r
in_list ts first inner is none [] r h =
    let whole : first ∷ inner ≡ h.0 ∷ h.1 ∷ r = sym is ∙ h.2 in
    let behind : inner ≡ h.1 ∷ r = cc in
    absurd (none h.1 r behind h.4)
in_list ts first inner is none (a ∷ others) r h =
    let whole : first ∷ inner ≡ h.0 ∷ h.1 = sym is ∙ h.4 in
    let behind : inner ≡ h.1 = cc in
    record {
      first = a;
      others = others;
      mid = h.2;
      last = h.3;
      is = refl;
      eats_first = eats_argument a inner h.2 (others_front (arguments_of others) h.2 h.3 r h.8 h.7) (subst (λ (x : List Item). EatsArgument a x h.2) (sym behind) h.6);
      eats_others = subst (λ (x : List ArgumentTree). Further x h.2 (h.3 ∷ r)) (list_there others) (others_run (arguments_of others) h.2 h.3 r h.8 h.7);
      closed = h.8;
    }

pub arguments_read : (ts : List Item) (first : Item) (inner : List Item) (a : ArgumentTree) (mid : List Item) (all : List ArgumentTree) (rest : List Item) (last : Item) (tail : List Item)
    → ts ≡ first ∷ inner → first.word ≡ word.Open → ((j : Item) (t : List Item) → inner ≡ j ∷ t → j.word ≡ word.Close → ⊥) → IsRead IsArgument inner a mid → IsRead (AreBehind a (EatsRun is_comma (Separated IsArgument))) mid all rest → rest ≡ last ∷ tail → last.word ≡ word.Close
    → IsRead EatsList ts all tail
arguments_read ts first inner a mid all rest last tail is w none f g closes v = record {
  eats =
      let run = subst (λ (x : List Item). Further (g.eats).0 mid x) closes (g.eats).2 in
      let here : EatsList (a ∷ (g.eats).0) ts tail = (first, inner, mid, last, is, w, argument_eats a inner mid f.eats, run_others (g.eats).0 mid (last ∷ tail) run, v) in
      subst (λ (x : List ArgumentTree). EatsList x ts tail) (sym (g.eats).1) here;
  only = λ list r h.
      let u = in_list ts first inner is none list r h in
      let one = f.only u.first u.mid u.eats_first in
      let two = g.only (a ∷ u.others) (u.last ∷ r) (u.others, refl, subst (λ (x : List Item). Further u.others x (u.last ∷ r)) one.1 u.eats_others) in
      let whole : u.last ∷ r ≡ last ∷ tail = two.1 ∙ closes in
      (u.is ∙ ap (λ (x : ArgumentTree). x ∷ u.others) one.0 ∙ two.0, (cc));
}

pub argument_fails : (ts : List Item) (first : Item) (inner : List Item) → ts ≡ first ∷ inner → ((j : Item) (t : List Item) → inner ≡ j ∷ t → j.word ≡ word.Close → ⊥) → Fails IsArgument inner → Fails EatsList ts
argument_fails ts first inner is none f list r h = let u = in_list ts first inner is none list r h in f u.first u.mid u.eats_first

pub further_fails : (ts : List Item) (first : Item) (inner : List Item) (a : ArgumentTree) (mid : List Item) → ts ≡ first ∷ inner → ((j : Item) (t : List Item) → inner ≡ j ∷ t → j.word ≡ word.Close → ⊥) → IsRead IsArgument inner a mid → Fails (AreBehind a (EatsRun is_comma (Separated IsArgument))) mid → Fails EatsList ts
further_fails ts first inner a mid is none f g list r h =
    let u = in_list ts first inner is none list r h in
    let one = f.only u.first u.mid u.eats_first in
    g (a ∷ u.others) (u.last ∷ r) (u.others, refl, subst (λ (x : List Item). Further u.others x (u.last ∷ r)) one.1 u.eats_others)

pub arguments_unclosed : (ts : List Item) (first : Item) (inner : List Item) (a : ArgumentTree) (mid : List Item) (all : List ArgumentTree) (rest : List Item)
    → ts ≡ first ∷ inner → ((j : Item) (t : List Item) → inner ≡ j ∷ t → j.word ≡ word.Close → ⊥) → IsRead IsArgument inner a mid → IsRead (AreBehind a (EatsRun is_comma (Separated IsArgument))) mid all rest → ((j : Item) (t : List Item) → rest ≡ j ∷ t → j.word ≡ word.Close → ⊥)
    → Fails EatsList ts
arguments_unclosed ts first inner a mid all rest is none f g open_end list r h =
    let u = in_list ts first inner is none list r h in
    let one = f.only u.first u.mid u.eats_first in
    let two = g.only (a ∷ u.others) (u.last ∷ r) (u.others, refl, subst (λ (x : List Item). Further u.others x (u.last ∷ r)) one.1 u.eats_others) in
    open_end u.last r (sym two.1) u.closed
