-- Layouts of types by the numbers of their pieces.
use Rattle.std.proofs.Common.{◌≡◌, ℕ, zero, suc, ◌+◌, ◌*◌, ◌<◌, ◌≤◌, true, false, nat_lt, IsTrue, List, [], ◌∷◌, ◌++◌, map, length, take, get_or, refl, sym, ap, subst, ◌∙◌, arith}
use Rattle.std.specs.List.{list_all}
use Rattle.std.specs.Prelude.{◌^◌, All, Option, None, Some, MatchOption, Result, Ok, Err, IfOk, slice_get}
use Rattle.std.specs.declared.alloc.AllocError.{AllocError}
use Rattle.std.proofs.lemmas.Bool.{ltb-true, and_from, lt-ltb}
use Rattle.std.proofs.lemmas.List.{take_more}
use Rattle.std.proofs.lemmas.List.Elements.{All-push}
use Rattle.std.proofs.lemmas.Option.{slice_get_read}
use Rattle.f3_program.specs.declared.declarations.Component.{Component}
use Rattle.f3_program.specs.declared.declarations.Declared.{Declared}
use Rattle.f3_program.specs.declared.declarations.Derived.{Derived}
use Rattle.f3_meaning_whole.specs.Value.{count}
use Rattle.f3_meaning_whole.specs.Shape.{Shape, Whole, Record, Parts, nothing, and, shape_in, parts_in, shapes_of, spans_declared}
use Rattle.f3_desc.specs.declared.piece.Piece.{Piece}
use Rattle.f3_desc.specs.Shape.{Shape as Layout, Plain, Holder, Times, width, row, shape_at, most_words}
use Rattle.f3_desc.specs.Layout.{pieces_of, shapes}
use Rattle.f3_desc.specs.declared.layout.Layout as layout
use Rattle.f3_desc.proofs.Shapes.{test_at, shapes_length}
use Rattle.f3_rooms.specs.Forms.{Laid, Allocatable, form_of, form_words, words_for, words_for_parts, room}
use Rattle.f3_room_objects.specs.Trees.{layout_for, layouts_for, formed_as}
use Rattle.f3_room_objects.proofs.Planting.{width_for}
use Rattle.f3_room_types.specs.Pieces.{HasPiece, HavePieces, HasLayout, layouts_of, IsAt, AreAt, ArePartsAt, AreNumbered, Begins, Has, AddsPart, AddsType, HasParts}
use Rattle.f3_type_words.proofs.TableLaws.{shape_next, next_shape, shape_stands, shapes_number, words_among}
use Rattle.f3_room_types.proofs.PieceLaws.{begins_same, begins_trans, at_begins}

-- ---- numbers of types

type_at : (ls : List Layout) (ss : List Shape) (ks : List ℕ) (u d : ℕ) → AreAt ls ss ks → u < length ks → IsAt ls (layout_for (get_or ss u Whole)) (get_or ks u d)
type_at ls [] [] u d h lt = absurd (omega arith)
type_at ls [] (k ∷ ks) u d h lt = absurd h
type_at ls (s ∷ ss) [] u d h lt = absurd h
type_at ls (s ∷ ss) (k ∷ ks) zero d h lt = h.0
type_at ls (s ∷ ss) (k ∷ ks) (suc u) d h lt = type_at ls ss ks u d h.1 (omega arith)

past_types : (ls : List Layout) (ss : List Shape) (ks : List ℕ) (u : ℕ) → AreAt ls ss ks → length ks ≤ u → get_or ss u Whole ≡ Whole
past_types ls [] [] u h le = refl
past_types ls [] (k ∷ ks) u h le = absurd h
past_types ls (s ∷ ss) [] u h le = absurd h
past_types ls (s ∷ ss) (k ∷ ks) zero h le = absurd (omega arith)
past_types ls (s ∷ ss) (k ∷ ks) (suc u) h le = past_types ls ss ks u h.1 (omega arith)

pub number_at : (ls : List Layout) (ts : List Shape) (ks : List ℕ) (u d : ℕ) → AreNumbered ls ts ks → u < length ks → IsAt ls (layout_for (get_or ts u Whole)) (get_or ks u d)
number_at ls ts ks u d h lt = type_at ls ts ks u d h.types lt

pub no_number : (ls : List Layout) (ts : List Shape) (ks : List ℕ) (u : ℕ) → AreNumbered ls ts ks → length ks ≤ u → IsAt ls (layout_for (get_or ts u Whole)) 0
no_number ls ts ks u h le = subst (λ s. IsAt ls (layout_for s) 0) (sym (past_types ls ts ks u h.types le)) h.word

pub number_within : (ks : List ℕ) (u d n : ℕ) → u < length ks → IsTrue (list_all (λ k. nat_lt k n) ks) → get_or ks u d < n
number_within ks u d n lt all = ltb-true (get_or ks u d) n (test_at (λ k. nat_lt k n) ks u d lt all)

-- pieces more change no numbers
types_begin : (ls ms : List Layout) (ss : List Shape) (ks : List ℕ) → Begins ls ms → AreAt ls ss ks → AreAt ms ss ks
types_begin ls ms [] [] b h = tt
types_begin ls ms [] (k ∷ ks) b h = absurd h
types_begin ls ms (s ∷ ss) [] b h = absurd h
types_begin ls ms (s ∷ ss) (k ∷ ks) b h = (at_begins ls ms (layout_for s) k b h.0, types_begin ls ms ss ks b h.1)

pub numbered_begins : (ls ms : List Layout) (ts : List Shape) (ks : List ℕ) → Begins ls ms → AreNumbered ls ts ks → AreNumbered ms ts ks
numbered_begins ls ms ts ks b h = record { word = at_begins ls ms Plain 0 b h.word; types = types_begin ls ms ts ks b h.types }

types_more : (ls : List Layout) (ss : List Shape) (ks : List ℕ) (s : Shape) (k : ℕ) → AreAt ls ss ks → IsAt ls (layout_for s) k → AreAt ls (ss ++ s ∷ []) (ks ++ k ∷ [])
types_more ls [] [] s k h at = (at, tt)
types_more ls [] (j ∷ ks) s k h at = absurd h
types_more ls (r ∷ ss) [] s k h at = absurd h
types_more ls (r ∷ ss) (j ∷ ks) s k h at = (h.0, types_more ls ss ks s k h.1 at)

-- ---- a component

is_holder : (d : Declared) → d.kind.is_allocatable ≡ true → form_of d ≡ Allocatable d.kind.rank
is_holder d e = rw e refl

is_laid : (d : Declared) → d.kind.is_allocatable ≡ false → form_of d ≡ Laid d.kind.rank (spans_declared d.dimensions.items)
is_laid d e = rw e refl

-- it is of the type of a number
module _ (ts : List Shape) (d : Declared) (old new : List Piece) (of : ℕ) (typed : IsAt (layouts_of old) (layout_for (shape_in ts d.kind.of)) of) where
  s : Shape
  s = shape_in ts d.kind.of

  pub allocatable_part : (k : ℕ) → d.kind.is_allocatable ≡ true → d.kind.rank ≤ 7 → Has old new (Holder d.kind.rank (shape_at (layouts_of old) of)) k → AddsPart ts d old new (Some k)
  allocatable_part k e le h = (
    subst HasPiece (sym (is_holder d e)) le,
    subst (λ l. Has old new l k) (ap (Holder d.kind.rank) typed.layout ∙ ap (λ f. formed_as f (layout_for (shape_in ts d.kind.of))) (sym (is_holder d e))) h,
  )

  pub scalar_part : d.kind.is_allocatable ≡ false → d.kind.rank ≡ 0 → AddsPart ts d old old (Some of)
  scalar_part e scalar =
      let l : formed_as (form_of d) (layout_for (shape_in ts d.kind.of)) ≡ layout_for (shape_in ts d.kind.of)
      = ap (λ f. formed_as f (layout_for (shape_in ts d.kind.of))) (is_laid d e ∙ ap (λ r. Laid r (spans_declared d.dimensions.items)) scalar) in
      (subst HasPiece (sym (is_laid d e ∙ ap (λ r. Laid r (spans_declared d.dimensions.items)) scalar)) tt, record { begins = begins_same (layouts_of old); is = subst (λ m. IsAt (layouts_of old) m of) (sym l) typed })

  is_array : (r : ℕ) → d.kind.is_allocatable ≡ false → d.kind.rank ≡ suc r → form_of d ≡ Laid (suc r) (spans_declared d.dimensions.items)
  is_array r e rank = is_laid d e ∙ ap (λ n. Laid n (spans_declared d.dimensions.items)) rank

  array_made : (r n : ℕ) (o : Option ℕ) → form_of d ≡ Laid (suc r) (spans_declared d.dimensions.items) → n ≡ count (spans_declared d.dimensions.items) → n < 2 ^ 64
      → MatchOption o (most_words < n * width (shape_at (layouts_of old) of)) (Has old new (Times n (shape_at (layouts_of old) of))) → AddsPart ts d old new o
  array_made r n None form is fits h = λ has few.
      let wide : width (shape_at (layouts_of old) of) ≡ words_for (shape_in ts d.kind.of) = ap width typed.layout ∙ width_for (shape_in ts d.kind.of) in
      let total : n * width (shape_at (layouts_of old) of) ≡ count (spans_declared d.dimensions.items) * words_for (shape_in ts d.kind.of)
      = ap (λ k. k * width (shape_at (layouts_of old) of)) is ∙ ap (λ k. count (spans_declared d.dimensions.items) * k) wide in
      let words : room ts d ≡ count (spans_declared d.dimensions.items) * words_for (shape_in ts d.kind.of) = ap (λ f. form_words f (words_for (shape_in ts d.kind.of))) form in
      omega (arith, h, few, total, words)
  array_made r n (Some k) form is fits h =
      let few : count (spans_declared d.dimensions.items) < 2 ^ 64 = omega arith in (
        subst HasPiece (sym form) few,
        subst (λ l. Has old new l k) (ap (λ m. Times m (shape_at (layouts_of old) of)) is ∙ (ap (Times (count (spans_declared d.dimensions.items))) typed.layout ∙ ap (λ f. formed_as f (layout_for (shape_in ts d.kind.of))) (sym form))) h,
      )

  pub array_part : (n : ℕ) (o : Option ℕ) → d.kind.is_allocatable ≡ false → 0 < d.kind.rank → n ≡ count (spans_declared d.dimensions.items) → n < 2 ^ 64
      → MatchOption o (most_words < n * width (shape_at (layouts_of old) of)) (Has old new (Times n (shape_at (layouts_of old) of))) → AddsPart ts d old new o
  array_part n o e lt is fits h = by_rank d.kind.rank refl lt
    where
      by_rank : (r : ℕ) → d.kind.rank ≡ r → 0 < r → AddsPart ts d old new o
      by_rank zero rank pos = absurd (omega arith)
      by_rank (suc r) rank pos = array_made r n o (is_array r e rank) is fits h

-- one that cannot be a piece
pub high_part : (ts : List Shape) (d : Declared) (old new : List Piece) → d.kind.is_allocatable ≡ true → 7 < d.kind.rank → AddsPart ts d old new None
high_part ts d old new e lt = λ has few. let le : d.kind.rank ≤ 7 = subst HasPiece (is_holder d e) has in omega arith

pub long_part : (ts : List Shape) (d : Declared) (old new : List Piece) → d.kind.is_allocatable ≡ false → 0 < d.kind.rank → 2 ^ 64 ≤ count (spans_declared d.dimensions.items) → AddsPart ts d old new None
long_part ts d old new e lt much = by_rank d.kind.rank refl lt
  where
    by_rank : (r : ℕ) → d.kind.rank ≡ r → 0 < r → AddsPart ts d old new None
    by_rank zero rank pos = absurd (omega arith)
    by_rank (suc r) rank pos = λ has few.
        let lt : count (spans_declared d.dimensions.items) < 2 ^ 64 = subst HasPiece (is_laid d e ∙ ap (λ n. Laid n (spans_declared d.dimensions.items)) rank) has in
        omega (arith, much, lt)

-- ---- components

parts_begin : (ls ms : List Layout) (parts : Parts) (ks : List ℕ) → Begins ls ms → ArePartsAt ls parts ks → ArePartsAt ms parts ks
parts_begin ls ms nothing [] b h = tt
parts_begin ls ms nothing (k ∷ ks) b h = absurd h
parts_begin ls ms (and c s rest) [] b h = absurd h
parts_begin ls ms (and c s rest) (k ∷ ks) b h = (at_begins ls ms (formed_as (form_of c.declared) (layout_for s)) k b h.0, parts_begin ls ms rest ks b h.1)

parts_more : (ls : List Layout) (ts : List Shape) (cs : List Component) (ks : List ℕ) (c : Component) (k : ℕ) → ArePartsAt ls (parts_in ts cs) ks
    → IsAt ls (formed_as (form_of c.declared) (layout_for (shape_in ts c.declared.kind.of))) k → ArePartsAt ls (parts_in ts (cs ++ c ∷ [])) (ks ++ k ∷ [])
parts_more ls ts [] [] c k h at = (at, tt)
parts_more ls ts [] (j ∷ ks) c k h at = absurd h
parts_more ls ts (b ∷ cs) [] c k h at = absurd h
parts_more ls ts (b ∷ cs) (j ∷ ks) c k h at = (h.0, parts_more ls ts cs ks c k h.1 at)

pub parts_within : (ls : List Layout) (parts : Parts) (ks : List ℕ) → ArePartsAt ls parts ks → list_all (λ k. nat_lt k (length ls)) ks ≡ true
parts_within ls nothing [] h = refl
parts_within ls nothing (k ∷ ks) h = absurd h
parts_within ls (and c s rest) [] h = absurd h
parts_within ls (and c s rest) (k ∷ ks) h = and_from (nat_lt k (length ls)) (list_all (λ k. nat_lt k (length ls)) ks) (lt-ltb k (length ls) h.0.within) (parts_within ls rest ks h.1)

row_made : (ls : List Layout) (parts : Parts) (ks : List ℕ) → ArePartsAt ls parts ks → map (shape_at ls) ks ≡ layouts_for parts
row_made ls nothing [] h = refl
row_made ls nothing (k ∷ ks) h = absurd h
row_made ls (and c s rest) [] h = absurd h
row_made ls (and c s rest) (k ∷ ks) h =
    ap (λ l. l ∷ map (shape_at ls) ks) h.0.layout ∙ ap (λ ms. formed_as (form_of c.declared) (layout_for s) ∷ ms) (row_made ls rest ks h.1)

component_is : (ts : List Shape) (cs : List Component) (i : ℕ) (c : Component) → slice_get cs i ≡ Some c → HavePieces (parts_in ts cs) → HasPiece (form_of c.declared)
component_is ts [] i c e h = absurd (cc)
component_is ts (b ∷ cs) zero c e h = let f : b ≡ c = cc in subst (λ (x : Component). HasPiece (form_of x.declared)) f h.0
component_is ts (b ∷ cs) (suc i) c e h = component_is ts cs i c e h.1

pieces_more : (ts : List Shape) (cs : List Component) (c : Component) → HavePieces (parts_in ts cs) → HasPiece (form_of c.declared) → HavePieces (parts_in ts (cs ++ c ∷ []))
pieces_more ts [] c h k = (k, tt)
pieces_more ts (b ∷ cs) c h k = (h.0, pieces_more ts cs c h.1 k)

-- those up to one, behind the pieces of types
pub record ArePlaced (old now : List Piece) (numbers : List ℕ) (cs : List Component) (ks : List ℕ) : Type 0 where
  pub begins : Begins (layouts_of old) (layouts_of now)
  pub are : (ts : List Shape) → AreNumbered (layouts_of old) ts numbers → ArePartsAt (layouts_of now) (parts_in ts cs) ks
  pub pieces : (ts : List Shape) → AreNumbered (layouts_of old) ts numbers → HavePieces (parts_in ts cs)

pub placed_first : (old : List Piece) (numbers : List ℕ) → ArePlaced old old numbers [] []
placed_first old numbers = record { begins = begins_same (layouts_of old); are = λ ts h. tt; pieces = λ ts h. tt }

module _ (old now new : List Piece) (numbers : List ℕ) (cs : List Component) (i : ℕ) (c : Component) (ks : List ℕ) (lt : i < length cs) (is : c ≡ get_or cs i c)
    (placed : ArePlaced old now numbers (take i cs) ks) where
  at : slice_get cs i ≡ Some c
  at = slice_get_read cs (length cs) i c refl lt is

  next : take (i + 1) cs ≡ take i cs ++ c ∷ []
  next = take_more cs i c lt ∙ ap (λ y. take i cs ++ y ∷ []) (sym is)

  pub placed_more : (o : Option ℕ) (k : ℕ) (js : List ℕ) → (some : List Shape) → AreNumbered (layouts_of old) some numbers → o ≡ Some k
      → ((ts : List Shape) → AreNumbered (layouts_of now) ts numbers → AddsPart ts c.declared now new o) → js ≡ ks ++ k ∷ [] → ArePlaced old new numbers (take (i + 1) cs) js
  placed_more o k js some numbered e h all =
      let added : (ts : List Shape) → AreNumbered (layouts_of old) ts numbers → AddsPart ts c.declared now new (Some k)
      = λ ts have. subst (AddsPart ts c.declared now new) e (h ts (numbered_begins (layouts_of old) (layouts_of now) ts numbers placed.begins have)) in
      record {
        begins = begins_trans (layouts_of old) (layouts_of now) (layouts_of new) placed.begins (added some numbered).1.begins;
        are = λ ts have.
            let b : Begins (layouts_of now) (layouts_of new) = (added ts have).1.begins in
            let before : ArePartsAt (layouts_of new) (parts_in ts (take i cs)) ks = parts_begin (layouts_of now) (layouts_of new) (parts_in ts (take i cs)) ks b (placed.are ts have) in
            let both : ArePartsAt (layouts_of new) (parts_in ts (take i cs ++ c ∷ [])) (ks ++ k ∷ []) = parts_more (layouts_of new) ts (take i cs) ks c k before (added ts have).1.is in
            subst (ArePartsAt (layouts_of new) (parts_in ts (take (i + 1) cs))) (sym all) (subst (λ ds. ArePartsAt (layouts_of new) (parts_in ts ds) (ks ++ k ∷ [])) (sym next) both);
        pieces = λ ts have. subst (λ ds. HavePieces (parts_in ts ds)) (sym next) (pieces_more ts (take i cs) c (placed.pieces ts have) (added ts have).0);
      }

  pub not_placed : (o : Option ℕ) (ts : List Shape) (t : ℕ) → AreNumbered (layouts_of old) ts numbers → o ≡ None
      → ((ts : List Shape) → AreNumbered (layouts_of now) ts numbers → AddsPart ts c.declared now new o) → ¬ (HasLayout (Record t (parts_in ts cs)))
  not_placed o ts t have e h = λ has.
      let none : AddsPart ts c.declared now new None = subst (AddsPart ts c.declared now new) e (h ts (numbered_begins (layouts_of old) (layouts_of now) ts numbers placed.begins have)) in
      none (component_is ts cs i c at has.1) (omega (arith, words_among ts cs i c at, has.0))

-- ---- a type

-- a row of parts is made a piece, or has too many words
abbrev pub IsRow : List Piece → List Piece → List ℕ → Option ℕ → Type 0
IsRow mid new ks o = MatchOption o (most_words < width (row (map (shape_at (layouts_of mid)) ks)))
    (λ k. Has mid new (row (map (shape_at (layouts_of mid)) ks)) k × (width (row (map (shape_at (layouts_of mid)) ks)) ≤ most_words))

row_words : (ts : List Shape) (t : ℕ) (cs : List Component) (mid : List Piece) (ks : List ℕ) → ArePartsAt (layouts_of mid) (parts_in ts cs) ks
    → width (row (map (shape_at (layouts_of mid)) ks)) ≡ words_for_parts (parts_in ts cs)
row_words ts t cs mid ks h = ap (λ ls. width (row ls)) (row_made (layouts_of mid) (parts_in ts cs) ks h) ∙ width_for (Record t (parts_in ts cs))

pub whole_made : (ts : List Shape) (t : ℕ) (cs : List Component) (old mid new : List Piece) (ks : List ℕ) (o : Option ℕ) → HasParts old mid (parts_in ts cs) ks
    → IsRow mid new ks o → AddsType (Record t (parts_in ts cs)) old new o
whole_made ts t cs old mid new ks None h much = λ has.
    omega (arith, much, row_words ts t cs mid ks h.are, has.0)
whole_made ts t cs old mid new ks (Some k) h made = (
  (omega (arith, made.1, row_words ts t cs mid ks h.are), h.pieces),
  record {
    begins = begins_trans (layouts_of old) (layouts_of mid) (layouts_of new) h.begins made.0.begins;
    is = subst (λ ls. IsAt (layouts_of new) (row ls) k) (row_made (layouts_of mid) (parts_in ts cs) ks h.are) made.0.is;
  },
)

-- ---- the types of a program

module _ (xs : List Derived) (i : ℕ) (x : Derived) (cs : List Component) (old new : List Piece) (us ks : List ℕ) (o : Option ℕ) (lt : i < length xs) (is : x ≡ get_or xs i x)
    (same : us ≡ ks) (its : cs ≡ x.components.items) (numbered : AreNumbered (layouts_of old) (shapes_of (take i xs)) ks)
    (h : (ts : List Shape) (t : ℕ) → AreNumbered (layouts_of old) ts us → AddsType (Record t (parts_in ts cs)) old new o) where
  is_made : AddsType (shape_next (take i xs) x) old new o
  is_made =
      let ss : List Shape = shapes_of (take i xs) in
      subst (λ ds. AddsType (Record (length ss) (parts_in ss ds)) old new o) its (h ss (length ss) (subst (AreNumbered (layouts_of old) ss) (sym same) numbered))

  pub next_number : (k : ℕ) (js : List ℕ) → o ≡ Some k → js ≡ ks ++ k ∷ [] → AreNumbered (layouts_of new) (shapes_of (take (i + 1) xs)) js
  next_number k js e all =
      let ss : List Shape = shapes_of (take i xs) in
      let s : Shape = shape_next (take i xs) x in
      let made : Has old new (layout_for s) k = (subst (AddsType s old new) e is_made).1 in
      let before : AreNumbered (layouts_of new) ss ks = numbered_begins (layouts_of old) (layouts_of new) ss ks made.begins numbered in
      let types : AreAt (layouts_of new) (ss ++ s ∷ []) (ks ++ k ∷ []) = types_more (layouts_of new) ss ks s k before.types made.is in
      record {
        word = before.word;
        types = subst (AreAt (layouts_of new) (shapes_of (take (i + 1) xs))) (sym all) (subst (λ rs. AreAt (layouts_of new) rs (ks ++ k ∷ [])) (sym (next_shape xs i x lt is)) types);
      }

  pub no_layout : o ≡ None → ¬ (All HasLayout (shapes_of xs))
  no_layout e = λ all.
      let none : ¬ (HasLayout (shape_next (take i xs) x)) = subst (AddsType (shape_next (take i xs) x) old new) e is_made in
      none (subst HasLayout (shape_stands xs i x Whole lt is) (all i Whole (omega (arith, shapes_number xs))))

  pub next_layout : (k : ℕ) → o ≡ Some k → All HasLayout (shapes_of (take i xs)) → All HasLayout (shapes_of (take (i + 1) xs))
  next_layout k e all =
      let s : Shape = shape_next (take i xs) x in
      subst (All HasLayout) (sym (next_shape xs i x lt is)) (All-push HasLayout (shapes_of (take i xs)) s all (subst (AddsType s old new) e is_made).0)

pub types_within : (ps : List Piece) (ss : List Shape) (ks : List ℕ) → AreAt (layouts_of ps) ss ks → list_all (λ k. nat_lt k (length ps)) ks ≡ true
types_within ps [] [] h = refl
types_within ps [] (k ∷ ks) h = absurd h
types_within ps (s ∷ ss) [] h = absurd h
types_within ps (s ∷ ss) (k ∷ ks) h =
    let lt : k < length ps = omega (arith, h.0.within, shapes_length [] ps) in
    and_from (nat_lt k (length ps)) (list_all (λ k. nat_lt k (length ps)) ks) (lt-ltb k (length ps) lt) (types_within ps ss ks h.1)

-- ---- what calls return

-- an array that has become a piece, or has too many words
pub array_result : (d : Declared) (old new : List Piece) (numbers : List ℕ) (of n : ℕ) (r : Result (Option ℕ) AllocError)
    → ((ts : List Shape) → AreNumbered (layouts_of old) ts numbers → IsAt (layouts_of old) (layout_for (shape_in ts d.kind.of)) of)
    → d.kind.is_allocatable ≡ false → 0 < d.kind.rank → n ≡ count (spans_declared d.dimensions.items) → n < 2 ^ 64
    → IfOk r (λ o. MatchOption o (most_words < n * width (shape_at (layouts_of old) of)) (Has old new (Times n (shape_at (layouts_of old) of))))
    → IfOk r (λ o. (ts : List Shape) → AreNumbered (layouts_of old) ts numbers → AddsPart ts d old new o)
array_result d old new numbers of n (Ok o) typed e lt is fits h = λ ts have. array_part ts d old new of (typed ts have) n o e lt is fits h
array_result d old new numbers of n (Err x) typed e lt is fits h = tt

-- the components together
pub whole_result : (cs : List Component) (old mid new : List Piece) (numbers ks : List ℕ) (r : Result (Option ℕ) AllocError)
    → ((ts : List Shape) → ℕ → AreNumbered (layouts_of old) ts numbers → HasParts old mid (parts_in ts cs) ks)
    → IfOk r (IsRow mid new ks) → IfOk r (λ o. (ts : List Shape) (t : ℕ) → AreNumbered (layouts_of old) ts numbers → AddsType (Record t (parts_in ts cs)) old new o)
whole_result cs old mid new numbers ks (Ok o) parts h = λ ts t have. whole_made ts t cs old mid new ks o (parts ts t have) h
whole_result cs old mid new numbers ks (Err x) parts h = tt

-- ---- the layout of all pieces

pub some_piece : (ps qs : List Piece) → qs ≡ ps → 0 < length (layouts_of ps) → 0 < length qs
some_piece ps qs e h = omega (arith, ap length e, h, shapes_length [] ps)

pub all_within : (ps qs : List Piece) (ss : List Shape) (ks : List ℕ) → qs ≡ ps → AreAt (layouts_of ps) ss ks → list_all (λ k. nat_lt k (length qs)) ks ≡ true
all_within ps qs ss ks e h = subst (λ rs. list_all (λ k. nat_lt k (length rs)) ks ≡ true) (sym e) (types_within ps ss ks h)

pub are_layouts : (l : layout.Layout) (ps : List Piece) (ts : List Shape) (ks : List ℕ) → pieces_of l ≡ ps → AreNumbered (layouts_of ps) ts ks → AreNumbered (shapes l) ts ks
unfolding shapes
are_layouts l ps ts ks e h = subst (λ qs. AreNumbered (layouts_of qs) ts ks) (sym e) h
