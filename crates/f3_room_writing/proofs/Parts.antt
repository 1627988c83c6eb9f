-- Objects, arrays of them and allocatables, as they were written.
use Rattle.std.proofs.Common.{◌≡◌, ℕ, zero, suc, ◌+◌, ◌*◌, ◌<◌, ◌≤◌, ℤ, pos, List, [], ◌∷◌, length, take, refl, sym, ap, subst, ◌∙◌, arith, get_or, Box, Global}
use Rattle.std.proofs.lemmas.List.{length-replicate, length-map}
use Rattle.std.specs.Prelude.{None}
use Rattle.std.specs.FinMap.{get as find}
use Rattle.f3_program.specs.declared.declarations.Base.{Base}
use Rattle.f3_program.specs.declared.declarations.Base.TheVariants as base
use Rattle.f3_program.specs.declared.declarations.Component.{Component}
use Rattle.f3_program.specs.declared.declarations.Derived.{Derived}
use Rattle.f3_live_blocks.specs.Blocks.{Live, IsLive, words_of, with_taken}
use Rattle.f3_live_blocks.proofs.Laws.{live-insert_same, words-insert_same}
use Rattle.f3_meaning_whole.specs.Value.{Span, Value, Number, Truth, Composite, Array, Unallocated, Allocated, more, joined, count, spans_of as bounds_of}
use Rattle.f3_meaning_whole.specs.Shape.{Shape, Record, shape_in, shapes_of, parts_in}
use Rattle.f3_data.specs.declared.value.Span.{Span as DataSpan}
use Rattle.f3_data.specs.declared.value.Elements.{Elements}
use Rattle.f3_data.specs.declared.value.Value as v
use Rattle.f3_data.specs.Values.{spans_of, value_of, values_of}
use Rattle.f3_data.proofs.Rows.{composite_is, array_is}
use Rattle.f3_rooms.specs.Held.{Row, Empty, Holds, Parts as Divided, blocks_in, others, first}
use Rattle.f3_rooms.specs.Forms.{laid_words, words_for, words_for_parts, room, total}
use Rattle.f3_rooms.specs.Values.{is_set, elements, object, components, variable, variables}
use Rattle.f3_rooms.specs.Places.{with_word}
use Rattle.f3_rooms.specs.Laws.{with_holder}
use Rattle.f3_rooms.specs.Sound.{Each, IsObject, AreComponents, AreVariables, IsAllocated}
use Rattle.f3_rooms.proofs.Framing.{Same, Kept, kept_here, kept_beneath, laid_stays, object_stays, laid_persist, object_persists}
use Rattle.f3_rooms.proofs.Words.{put_there, holder_names, holder_told}
use Rattle.f3_room_values.specs.Reads.{declared_each, scalar_of}
use Rattle.f3_room_values.proofs.Trees.{tree_is}
use Rattle.f3_room_writing.specs.Writes.{most_words, Fills, ObjectWritten, LaidWritten, HolderWritten, EachWritten, AllWritten}
use Rattle.f3_room_writing.proofs.Bounding.{as_many}
use Rattle.f3_room_writing.proofs.Filling.{fills_so, fills_word, fills_wider, fills_then, front_kept, fills_holder, fills_taken, fills_beneath}

-- ---- scalars

scalar_put : (ts : List Shape) (m : Live) (of : Base) (b o : ℕ) (z : ℤ) (x : Value) → ((t : ℕ) → of ≡ base.Derived t → ⊥) → IsLive m b → o < length (words_of m b)
    → x ≡ scalar_of of z → ObjectWritten m (with_word m b o z) (shape_in ts of) b o x (o + 1)
scalar_put ts m base.Integer b o z x not live within e =
    record { held = Empty; sound = refl; value = ap Number (put_there m b o z within) ∙ sym e; fills = fills_word m b o z live; behind = refl }
scalar_put ts m base.Long b o z x not live within e =
    record { held = Empty; sound = refl; value = ap Number (put_there m b o z within) ∙ sym e; fills = fills_word m b o z live; behind = refl }
scalar_put ts m base.Logical b o z x not live within e = record {
  held = Empty;
  sound = refl;
  value = ap (λ y. Truth (is_set y)) (put_there m b o z within) ∙ sym e;
  fills = fills_word m b o z live;
  behind = refl;
}
scalar_put ts m (base.Derived t) b o z x not live within e = absurd (not t refl)

pub scalar_written : (ts : List Shape) (m n : Live) (of : Base) (b o : ℕ) (z : ℤ) (x : Value) → ((t : ℕ) → of ≡ base.Derived t → ⊥) → IsLive m b → o < length (words_of m b)
    → x ≡ scalar_of of z → n ≡ with_word m b o z → ObjectWritten m n (shape_in ts of) b o x (o + 1)
scalar_written ts m n of b o z x not live within e is =
    subst (λ k. ObjectWritten m k (shape_in ts of) b o x (o + 1)) (sym is) (scalar_put ts m of b o z x not live within e)

-- ---- objects of derived types

parts_total : (ts : List Shape) (cs : List Component) → words_for_parts (parts_in ts cs) ≡ total ts (declared_each cs)
parts_total ts [] = refl
parts_total ts (c ∷ cs) = ap (λ n. room ts c.declared + n) (parts_total ts cs)

module _ (ts : List Shape) (n : Live) where
  are_parts : (cs : List Component) (b o : ℕ) (hs : Row) → AreVariables ts n (declared_each cs) b o hs → AreComponents n (parts_in ts cs) b o hs
  are_parts [] b o hs has = has
  are_parts (c ∷ cs) b o hs has = (has.0, are_parts cs b (o + room ts c.declared) (others hs) has.1)

  parts_values : (cs : List Component) (b o : ℕ) (hs : Row) → components n (parts_in ts cs) b o hs ≡ joined (variables ts n (declared_each cs) b o hs)
  parts_values [] b o hs = refl
  parts_values (c ∷ cs) b o hs = ap (more (variable ts n c.declared b o (first hs))) (parts_values cs b (o + room ts c.declared) (others hs))

  parts_written : (m : Live) (t : ℕ) (cs : List Component) (b o : ℕ) (xs : List Value) (next : ℕ) → AllWritten m n ts (declared_each cs) b o xs next
      → ObjectWritten m n (Record t (parts_in ts cs)) b o (Composite (joined xs)) next
  parts_written m t cs b o xs next h =
      let w = h.writes in
      record {
        held = Divided w.row;
        sound = (tt, are_parts cs b o w.row w.sound);
        value = ap Composite (parts_values cs b o w.row ∙ ap joined w.values);
        fills = subst (λ k. Fills m n b o k (blocks_in (Divided w.row))) (sym (parts_total ts cs)) w.fills;
        behind = h.behind ∙ ap (λ k. o + k) (sym (parts_total ts cs));
      }

-- the tree of a type
tree_of : (xs : List Derived) (of : Base) (t : ℕ) (x d : Derived) (cs : List Component) → of ≡ base.Derived t → t < length xs → x ≡ get_or xs t d → cs ≡ x.components.items
    → shape_in (shapes_of xs) of ≡ Record t (parts_in (shapes_of (take t xs)) cs)
tree_of xs of t x d cs is lt e its = ap (shape_in (shapes_of xs)) is ∙ tree_is xs t x d lt e ∙ ap (λ ys. Record t (parts_in (shapes_of (take t xs)) ys)) (sym its)

pub record_written : (xs : List Derived) (of : Base) (t : ℕ) (x d : Derived) (cs : List Component) (u : v.Value) (vs : _) (us : List v.Value) (m n : Live) (b o next : ℕ) → of ≡ base.Derived t
    → t < length xs → x ≡ get_or xs t d → cs ≡ x.components.items → u ≡ v.Composite vs → us ≡ vs.items → AllWritten m n (shapes_of (take t xs)) (declared_each cs) b o (values_of us) next
    → ObjectWritten m n (shape_in (shapes_of xs) of) b o (value_of u) next
record_written xs of t x d cs u vs us m n b o next is lt e its made same h =
    let value : value_of u ≡ Composite (joined (values_of us)) = ap value_of made ∙ composite_is vs ∙ ap (λ ys. Composite (joined (values_of ys))) (sym same) in
    subst (λ s. ObjectWritten m n s b o (value_of u) next) (sym (tree_of xs of t x d cs is lt e its))
    (subst (λ y. ObjectWritten m n (Record t (parts_in (shapes_of (take t xs)) cs)) b o y next) (sym value) (parts_written (shapes_of (take t xs)) n m t cs b o (values_of us) next h))

-- ---- arrays

laid_written : (m n : Live) (s : Shape) (rank : ℕ) (ss : List Span) (b o : ℕ) (x : Value) (xs : List Value) (next : ℕ) → (rank ≡ 0 → ⊥) → length xs ≡ count ss → x ≡ Array ss (joined xs)
    → EachWritten m n s b o xs next → LaidWritten m n rank ss s b o x next
laid_written m n s zero ss b o x xs next not many made h = absurd (not refl)
laid_written m n s (suc rank) ss b o x xs next not many made h = record {
  held = Divided h.row;
  sound = (tt, subst (λ k. Each k (words_for s) (IsObject n s) b o h.row) many h.sound);
  value = ap (λ us. Array ss (joined us)) (subst (λ k. elements k (words_for s) (object n s) b o h.row ≡ xs) many h.values) ∙ sym made;
  fills = subst (λ k. Fills m n b o (k * words_for s) (blocks_in (Divided h.row))) many h.fills;
  behind = subst (λ k. next ≡ o + k * words_for s) many h.behind;
}

pub array_written : (m n : Live) (s : Shape) (rank b o next : ℕ) (x : v.Value) (a : Box Elements Global) (es : Elements) (xs : List v.Value) → (rank ≡ 0 → ⊥) → x ≡ v.Array a → es ≡ a.value
    → xs ≡ es.values.items → length es.values.items ≡ count (spans_of es.spans.items) → EachWritten m n s b o (values_of xs) next
    → LaidWritten m n rank (bounds_of (value_of x)) s b o (value_of x) next
array_written m n s rank b o next x a es xs not is its same many h =
    let value : value_of x ≡ Array (spans_of es.spans.items) (joined (values_of xs)) = ap value_of is ∙ array_is a ∙ ap (λ (e : Elements). Array (spans_of e.spans.items) (joined (values_of e.values.items))) (sym its)
    ∙ ap (λ ys. Array (spans_of es.spans.items) (joined (values_of ys))) (sym same) in
    let full : length (values_of xs) ≡ count (bounds_of (value_of x)) = length-map xs value_of ∙ ap length same ∙ many ∙ ap (λ y. count (bounds_of y)) (sym value) in
    laid_written m n s rank (bounds_of (value_of x)) b o (value_of x) (values_of xs) next not full (value ∙ ap (λ y. Array (bounds_of y) (joined (values_of xs))) (sym value)) h

-- ---- allocatables

pub vacant_written : (m n : Live) (b o rank : ℕ) (s : Shape) (x : Value) → IsLive m b → o < length (words_of m b) → n ≡ with_word m b o (pos 0) → x ≡ Unallocated
    → HolderWritten m n rank s b o x (o + 1 + 2 * rank)
vacant_written m n b o rank s x live within is e =
    let all : HolderWritten m (with_word m b o (pos 0)) rank s b o x (o + 1 + 2 * rank) = record {
      held = Empty;
      sound = put_there m b o (pos 0) within;
      value = sym e;
      fills = fills_wider m (with_word m b o (pos 0)) b o o 1 (1 + 2 * rank) [] (omega arith) (omega arith) (fills_word m b o (pos 0) live);
      behind = omega arith;
    } in
    subst (λ k. HolderWritten m k rank s b o x (o + 1 + 2 * rank)) (sym is) all

-- how many words an object of a rank with such bounds has
pub record IsSized (k rank : ℕ) (ss : List Span) (w : ℕ) : Type 0 where
  pub words : k ≡ laid_words rank ss w
  pub few : k ≤ most_words
  pub ranked : length ss ≡ rank

pub sized : (k rank w : ℕ) (vs : List DataSpan) (ss : List Span) → spans_of vs ≡ ss → length vs ≡ rank → (k ≡ laid_words rank (spans_of vs) w) × (k ≤ most_words) → IsSized k rank ss w
sized k rank w vs ss e ranked h = record {
  words = h.0 ∙ ap (λ us. laid_words rank us w) e;
  few = h.1;
  ranked = sym (ap length e) ∙ as_many vs ∙ ranked;
}

-- a block was taken for it
module _ (m one : Live) (c k rank : ℕ) (ss : List Span) (w : ℕ) (taken : one ≡ with_taken m c k) (size : IsSized k rank ss w) where
  pub own_live : IsLive one c
  own_live = subst (λ j. IsLive j c) (sym taken) (live-insert_same m c _)

  pub own_long : length (words_of one c) ≡ laid_words rank ss w
  own_long = ap (λ j. length (words_of j c)) taken ∙ ap length (words-insert_same m c _) ∙ length-replicate k (pos 0) ∙ size.words

  pub own_within : 0 + laid_words rank ss w ≤ length (words_of one c)
  own_within = let e = own_long in omega arith

-- and it was written there
module _ (m one two : Live) (b o c k rank : ℕ) (ss : List Span) (s : Shape) (x : Value) (next : ℕ) (live : IsLive m b) (within : o + (1 + 2 * rank) ≤ length (words_of m b))
    (fresh : find m c ≡ None) (taken : one ≡ with_taken m c k) (size : IsSized k rank ss (words_for s)) (inner : LaidWritten one two rank ss s c 0 x next) where
  abbrev w : ℕ
  w = words_for s

  held_fills : Fills m two b o 0 (c ∷ blocks_in inner.held)
  held_fills = fills_beneath m one two b o c (laid_words rank ss w) (blocks_in inner.held) live
      (subst (λ j. Fills m j b o 0 (c ∷ [])) (sym taken) (fills_taken m b o c k live fresh size.few)) inner.fills

  pub held_live : IsLive two b
  held_live = held_fills.live

  pub held_long : o + (1 + 2 * length ss) ≤ length (words_of two b)
  held_long = let e = held_fills.long in let r = size.ranked in omega arith

  abbrev all : Live
  all = with_holder two b o c ss

  holder_fills : Fills two all b (o + 0) (1 + 2 * length ss) []
  holder_fills = fills_so two all b o (o + 0) (1 + 2 * length ss) (1 + 2 * length ss) [] (omega arith) refl (fills_holder two b o c ss held_live)

  kept : Kept two all (c ∷ blocks_in inner.held)
  kept = front_kept m two all b o 0 (1 + 2 * length ss) (c ∷ blocks_in inner.held) [] live held_fills holder_fills

  own_same : Same two all c 0 (laid_words rank ss w)
  own_same i l r = (kept_here two all c (blocks_in inner.held) kept).same i

  is_allocated : 0 < c → IsAllocated all rank w (IsObject all s) b o c ss inner.held
  is_allocated named =
      let own = kept_here two all c (blocks_in inner.held) kept in
      let i = inner.fills in
      record {
        names = holder_names two b o c ss held_long;
        named = named;
        bounds = holder_told two b o c ss held_long;
        ranked = size.ranked;
        live = own.live i.live;
        words = own.long ∙ i.long ∙ own_long m one c k rank ss w taken size;
        within = laid_persist two all rank ss w (IsObject two s) (IsObject all s) (object_persists two all s) c 0 inner.held own_same (kept_beneath two all c (blocks_in inner.held) kept) inner.sound;
      }

  pub held_written : (n : Live) (y : Value) → n ≡ all → 0 < c → y ≡ Allocated x → HolderWritten m n rank s b o y (o + 1 + 2 * rank)
  held_written n y is named e =
      let bs = c ∷ blocks_in inner.held in
      let made : HolderWritten m all rank s b o y (o + 1 + 2 * rank) = record {
        held = Holds c ss inner.held;
        sound = is_allocated named;
        value = ap Allocated (laid_stays two all rank ss w (object two s) (object all s) (object_stays two all s) c 0 inner.held own_same (kept_beneath two all c (blocks_in inner.held) kept) ∙ inner.value)
            ∙ sym e;
        fills = fills_so m all b o o (0 + (1 + 2 * length ss)) (1 + 2 * rank) bs refl (let r = size.ranked in omega arith)
            (fills_then m two all b o 0 (1 + 2 * length ss) bs [] live held_fills holder_fills bs (λ q. omega arith));
        behind = omega arith;
      } in
      subst (λ j. HolderWritten m j rank s b o y (o + 1 + 2 * rank)) (sym is) made
