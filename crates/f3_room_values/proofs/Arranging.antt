-- Objects, arrays of them and allocatables, as they were read.
use Rattle.std.proofs.Common.{◌≡◌, ℕ, zero, suc, ◌+◌, ◌*◌, ◌<◌, ◌≤◌, ℤ, pos, true, false, List, [], ◌∷◌, length, take, refl, sym, ap, subst, ◌∙◌, arith, get_or}
use Rattle.std.specs.Prelude.{if◌then◌else◌}
use Rattle.f3_program.specs.declared.declarations.Base.{Base}
use Rattle.f3_program.specs.declared.declarations.Base.TheVariants as base
use Rattle.f3_program.specs.declared.declarations.Component.{Component}
use Rattle.f3_program.specs.declared.declarations.Declared.{Declared}
use Rattle.f3_program.specs.declared.declarations.Derived.{Derived}
use Rattle.f3_live_blocks.specs.Blocks.{Live, words_of}
use Rattle.f3_meaning_whole.specs.Value.{Span, Value, Composite, Array, Unallocated, Allocated, more, joined, count}
use Rattle.f3_meaning_whole.specs.Shape.{Shape, Record, shape_in, shapes_of, parts_in, spans_declared}
use Rattle.f3_room_values.proofs.Trees.{tree_is}
use Rattle.f3_rooms.specs.Held.{Held, Row, Empty, Holds, Parts as Divided, parts_of, first, others}
use Rattle.f3_rooms.specs.Forms.{Laid, Allocatable, form_of, form_words, laid_words, words_for, words_for_parts, room, total}
use Rattle.f3_rooms.specs.Values.{word, laid, holding, formed, object, components, variable, variables}
use Rattle.f3_rooms.specs.Sound.{Fact, Each, AreLaid, IsAllocated, IsHolder, IsForm, IsObject, AreComponents, AreVariables}
use Rattle.f3_room_values.specs.Reads.{IsVariable, Reading, IsRead, AreRead, VariablesRead, declared_each, bounds_told}
use Rattle.f3_room_values.proofs.Telling.{ranked_bounds}

-- ---- objects of derived types

parts_total : (ts : List Shape) (cs : List Component) → words_for_parts (parts_in ts cs) ≡ total ts (declared_each cs)
parts_total ts [] = refl
parts_total ts (c ∷ cs) = ap (λ n. room ts c.declared + n) (parts_total ts cs)

module _ (ts : List Shape) (m : Live) where
  parts_are : (cs : List Component) (b o : ℕ) (hs : Row) → AreComponents m (parts_in ts cs) b o hs → AreVariables ts m (declared_each cs) b o hs
  parts_are [] b o hs has = has
  parts_are (c ∷ cs) b o hs has = (has.0, parts_are cs b (o + room ts c.declared) (others hs) has.1)

  parts_values : (cs : List Component) (b o : ℕ) (hs : Row) → components m (parts_in ts cs) b o hs ≡ joined (variables ts m (declared_each cs) b o hs)
  parts_values [] b o hs = refl
  parts_values (c ∷ cs) b o hs = ap (more (variable ts m c.declared b o (first hs))) (parts_values cs b (o + room ts c.declared) (others hs))

  parts_read : (t : ℕ) (cs : List Component) (b o : ℕ) (v : Value) (vs : List Value) (next : ℕ) → VariablesRead ts m (declared_each cs) b o vs next → v ≡ Composite (joined vs)
      → IsRead (words_for (Record t (parts_in ts cs))) (IsObject m (Record t (parts_in ts cs))) (object m (Record t (parts_in ts cs))) b o v next
  parts_read t cs b o v vs next r e = record {
    value = λ h has. e ∙ ap (λ us. Composite (joined us)) (r.values (parts_of h) (parts_are cs b o (parts_of h) has.1)) ∙ ap Composite (sym (parts_values cs b o (parts_of h)));
    behind = r.behind ∙ ap (λ k. o + k) (sym (parts_total ts cs));
  }

-- the tree of a type
tree_of : (xs : List Derived) (of : Base) (t : ℕ) (x d : Derived) (cs : List Component) → of ≡ base.Derived t → t < length xs → x ≡ get_or xs t d → cs ≡ x.components.items
    → shape_in (shapes_of xs) of ≡ Record t (parts_in (shapes_of (take t xs)) cs)
tree_of xs of t x d cs is lt e its = ap (shape_in (shapes_of xs)) is ∙ tree_is xs t x d lt e ∙ ap (λ ys. Record t (parts_in (shapes_of (take t xs)) ys)) (sym its)

pub record_words : (xs : List Derived) (of : Base) (t : ℕ) (x d : Derived) (cs : List Component) → of ≡ base.Derived t → t < length xs → x ≡ get_or xs t d → cs ≡ x.components.items
    → words_for (shape_in (shapes_of xs) of) ≡ total (shapes_of (take t xs)) (declared_each cs)
record_words xs of t x d cs is lt e its = ap words_for (tree_of xs of t x d cs is lt e its) ∙ parts_total (shapes_of (take t xs)) cs

pub record_held : (xs : List Derived) (of : Base) (t : ℕ) (x d : Derived) (cs : List Component) → of ≡ base.Derived t → t < length xs → x ≡ get_or xs t d → cs ≡ x.components.items
    → (m : Live) (b o : ℕ) (h : Held) → IsObject m (shape_in (shapes_of xs) of) b o h → (hs : Row) × AreVariables (shapes_of (take t xs)) m (declared_each cs) b o hs
record_held xs of t x d cs is lt e its m b o h has =
    let own = subst (λ s. IsObject m s b o h) (tree_of xs of t x d cs is lt e its) has in
    (parts_of h, parts_are (shapes_of (take t xs)) m cs b o (parts_of h) own.1)

pub record_read : (xs : List Derived) (of : Base) (t : ℕ) (x d : Derived) (cs : List Component) → of ≡ base.Derived t → t < length xs → x ≡ get_or xs t d → cs ≡ x.components.items
    → (m : Live) (b o : ℕ) (v : Value) (vs : List Value) (next : ℕ) → VariablesRead (shapes_of (take t xs)) m (declared_each cs) b o vs next → v ≡ Composite (joined vs)
    → IsRead (words_for (shape_in (shapes_of xs) of)) (IsObject m (shape_in (shapes_of xs) of)) (object m (shape_in (shapes_of xs) of)) b o v next
record_read xs of t x d cs is lt e its m b o v vs next r made =
    subst (λ s. IsRead (words_for s) (IsObject m s) (object m s) b o v next) (sym (tree_of xs of t x d cs is lt e its))
    (parts_read (shapes_of (take t xs)) m t cs b o v vs next r made)

-- ---- arrays

module _ (n : ℕ) (P : Fact) (f : Reading) where
  abbrev pub LaidRead : ℕ → List Span → ℕ → ℕ → Value → ℕ → Type 0
  LaidRead rank ss b o v next = IsRead (laid_words rank ss n) (AreLaid rank ss n P) (laid rank ss n f) b o v next

  pub single_words : (rank : ℕ) (ss : List Span) → rank ≡ 0 → laid_words rank ss n ≡ n
  single_words zero ss e = refl
  single_words (suc rank) ss e = absurd (omega arith)

  pub single_held : (rank : ℕ) (ss : List Span) (b o : ℕ) (h : Held) → rank ≡ 0 → AreLaid rank ss n P b o h → P b o h
  single_held zero ss b o h e has = has
  single_held (suc rank) ss b o h e has = absurd (omega arith)

  pub single_read : (rank : ℕ) (ss : List Span) (b o : ℕ) (v : Value) (next : ℕ) → rank ≡ 0 → IsRead n P f b o v next → LaidRead rank ss b o v next
  single_read zero ss b o v next e r = r
  single_read (suc rank) ss b o v next e r = absurd (omega arith)

  pub array_words : (rank : ℕ) (ss : List Span) (many : ℕ) → (rank ≡ 0 → ⊥) → many ≡ count ss → laid_words rank ss n ≡ many * n
  array_words zero ss many not e = absurd (not refl)
  array_words (suc rank) ss many not e = ap (λ k. k * n) (sym e)

  pub array_held : (rank : ℕ) (ss : List Span) (many b o : ℕ) (h : Held) → (rank ≡ 0 → ⊥) → many ≡ count ss → AreLaid rank ss n P b o h → (hs : Row) × Each many n P b o hs
  array_held zero ss many b o h not e has = absurd (not refl)
  array_held (suc rank) ss many b o h not e has = (parts_of h, subst (λ k. Each k n P b o (parts_of h)) (sym e) has.1)

  pub array_read : (rank : ℕ) (ss : List Span) (many b o : ℕ) (v : Value) (vs : List Value) (next : ℕ) → (rank ≡ 0 → ⊥) → many ≡ count ss → AreRead many n P f b o vs next
      → v ≡ Array ss (joined vs) → LaidRead rank ss b o v next
  array_read zero ss many b o v vs next not e r made = absurd (not refl)
  array_read (suc rank) ss many b o v vs next not e r made =
      let all : AreRead (count ss) n P f b o vs next = subst (λ k. AreRead k n P f b o vs next) e r in
      record { value = λ h has. made ∙ ap (λ us. Array ss (joined us)) (all.values (parts_of h) has.1); behind = all.behind }

-- ---- allocatables

-- what a word that names a block says of what is held
pub record Names (m : Live) (rank n : ℕ) (P : Fact) (b o c : ℕ) (h : Held) : Type 0 where
  pub spans : List Span
  pub inner : Held
  pub is : h ≡ Holds c spans inner
  pub holds : IsAllocated m rank n P b o c spans inner

module _ (m : Live) (rank n : ℕ) (P : Fact) (b o : ℕ) where
  same_block : (i k : ℕ) → pos i ≡ pos k → i ≡ k
  same_block i k e = cc

  pub names : (z : ℤ) (own : ℕ) (h : Held) → z ≡ word m b o → z ≡ pos own → 0 < own → IsHolder m rank n P b o h → Names m rank n P b o own h
  names z own Empty read is named has = let e : own ≡ 0 = same_block own 0 (sym is ∙ read ∙ has) in absurd (omega arith)
  names z own (Holds c ss inner) read is named has =
      let e : c ≡ own = same_block c own (sym has.names ∙ sym read ∙ is) in
      record {
        spans = ss;
        inner = inner;
        is = ap (λ k. Holds k ss inner) e;
        holds = subst (λ k. IsAllocated m rank n P b o k ss inner) e has;
      }
  names z own (Divided hs) read is named has = absurd has

  -- one that names none
  pub names_none : (f : Reading) (z : ℤ) (h : Held) → z ≡ word m b o → ((own : ℕ) → 0 < own → z ≡ pos own → ⊥) → IsHolder m rank n P b o h → Unallocated ≡ holding rank n f h
  names_none f z Empty read not has = refl
  names_none f z (Holds c ss inner) read not has = absurd (not c has.named (read ∙ has.names))
  names_none f z (Divided hs) read not has = absurd has

  module _ (own : ℕ) (h : Held) (k : Names m rank n P b o own h) (ss : List Span) (told : ss ≡ bounds_told rank m b (o + 1)) where
    own_spans : ss ≡ k.spans
    own_spans = told ∙ ranked_bounds rank m b (o + 1) k.spans (k.holds).ranked (k.holds).bounds

    pub own_within : 0 + laid_words rank ss n ≤ length (words_of m own)
    own_within = let e : laid_words rank ss n ≡ laid_words rank k.spans n = ap (λ us. laid_words rank us n) own_spans in omega (arith, (k.holds).words)

    pub own_held : (u : Held) × AreLaid rank ss n P own 0 u
    own_held = (k.inner, subst (λ us. AreLaid rank us n P own 0 k.inner) (sym own_spans) (k.holds).within)

    pub own_value : (f : Reading) (v : Value) (next : ℕ) → LaidRead n P f rank ss own 0 v next → Allocated v ≡ holding rank n f h
    own_value f v next r =
        ap Allocated (r.value k.inner (subst (λ us. AreLaid rank us n P own 0 k.inner) (sym own_spans) (k.holds).within) ∙ ap (λ us. laid rank us n f own 0 k.inner) own_spans) ∙ ap (holding rank n f) (sym k.is)

-- ---- variables

holder_form : (d : Declared) → d.kind.is_allocatable ≡ true → form_of d ≡ Allocatable d.kind.rank
holder_form d e = ap (λ b. if b then Allocatable d.kind.rank else Laid d.kind.rank (spans_declared d.dimensions.items)) e

laid_form : (d : Declared) (ss : List Span) → d.kind.is_allocatable ≡ false → ss ≡ spans_declared d.dimensions.items → form_of d ≡ Laid d.kind.rank ss
laid_form d ss e same =
    ap (λ b. if b then Allocatable d.kind.rank else Laid d.kind.rank (spans_declared d.dimensions.items)) e ∙ ap (Laid d.kind.rank) (sym same)

module _ (ts : List Shape) (m : Live) (d : Declared) where
  abbrev pub size : ℕ
  size = words_for (shape_in ts d.kind.of)

  abbrev pub sound : Fact
  sound = IsObject m (shape_in ts d.kind.of)

  abbrev pub reading : Reading
  reading = object m (shape_in ts d.kind.of)

  pub holder_words : d.kind.is_allocatable ≡ true → room ts d ≡ 1 + 2 * d.kind.rank
  holder_words e = ap (λ f. form_words f size) (holder_form d e)

  pub holder_held : d.kind.is_allocatable ≡ true → (b o : ℕ) (h : Held) → IsVariable ts m d b o h → IsHolder m d.kind.rank size sound b o h
  holder_held e b o h has = subst (λ f. IsForm m f size sound b o h) (holder_form d e) has

  pub holder_read : d.kind.is_allocatable ≡ true → (b o : ℕ) (v : Value) (next : ℕ) → ((h : Held) → IsHolder m d.kind.rank size sound b o h → v ≡ holding d.kind.rank size reading h)
      → next ≡ o + 1 + 2 * d.kind.rank → IsRead (room ts d) (IsVariable ts m d) (variable ts m d) b o v next
  holder_read e b o v next r far =
      let on : next ≡ o + (1 + 2 * d.kind.rank) = omega arith in
      subst (λ f. IsRead (form_words f size) (IsForm m f size sound) (formed f size reading) b o v next) (sym (holder_form d e)) (record { value = r; behind = on })

  module _ (ss : List Span) (e : d.kind.is_allocatable ≡ false) (same : ss ≡ spans_declared d.dimensions.items) where
    pub plain_words : room ts d ≡ laid_words d.kind.rank ss size
    plain_words = ap (λ f. form_words f size) (laid_form d ss e same)

    pub plain_held : (b o : ℕ) (h : Held) → IsVariable ts m d b o h → AreLaid d.kind.rank ss size sound b o h
    plain_held b o h has = subst (λ f. IsForm m f size sound b o h) (laid_form d ss e same) has

    pub plain_read : (b o : ℕ) (v : Value) (next : ℕ) → LaidRead size sound reading d.kind.rank ss b o v next → IsRead (room ts d) (IsVariable ts m d) (variable ts m d) b o v next
    plain_read b o v next r = subst (λ f. IsRead (form_words f size) (IsForm m f size sound) (formed f size reading) b o v next) (sym (laid_form d ss e same)) r
