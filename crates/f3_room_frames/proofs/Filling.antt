-- Words with which variables begin, one after another.
use Rattle.std.proofs.Common.{◌≡◌, ℕ, zero, suc, ◌+◌, ◌<◌, ℤ, Bool, true, false, add-one, append-nil, List, [], ◌∷◌, ◌++◌, length, map, take, replicate, refl, sym, ap, subst, ◌∙◌, arith, get_or, append_assoc}
use Rattle.std.proofs.lemmas.List.{take_more, map-append, replicate-append-replicate}
use Rattle.std.specs.Prelude.{None, Some, is_some, slice_get}
use Rattle.std.specs.Bool.{MatchBool}
use Rattle.std.proofs.lemmas.Option.{slice_get_read}
use Rattle.f3_program.specs.declared.declarations.Base.{Base}
use Rattle.f3_program.specs.declared.declarations.Constant.{Constant}
use Rattle.f3_meaning_whole.specs.Shape.{Shape}
use Rattle.f3_room_frames.specs.Scalars.{word_for}
use Rattle.f3_program.specs.declared.declarations.Declared.{Declared}
use Rattle.f3_room_frames.specs.declared.layout.Variable.{Variable}
use Rattle.f3_room_frames.specs.declared.layout.Layout.{Layout}
use Rattle.f3_rooms.specs.Forms.{room}
use Rattle.f3_room_frames.specs.Layouts.{AreLaidOut, IsLayout}
use Rattle.f3_room_frames.specs.Initial.{word_or_zero, initial_word, initial_by, initial_in, initial_words, AreOf, AreEnough, CanBegin, AllCanBegin}
use Rattle.f3_room_frames.proofs.LayoutLaws.{next_is}

pub next_copy : (xs ys zs : List ℤ) (n : ℕ) (z : ℤ) → ys ≡ xs ++ replicate n z → zs ≡ ys ++ z ∷ [] → zs ≡ xs ++ replicate (n + 1) z
next_copy xs ys zs n z e f = f ∙ ap (λ us. us ++ z ∷ []) e ∙ append_assoc xs (replicate n z) (z ∷ []) ∙ ap (λ us. xs ++ us) (replicate-append-replicate n 1 z)

of_more : (of : Base) (vs : List Constant) (v : Constant) → AreOf of vs → is_some (word_for of v) ≡ true → AreOf of (vs ++ v ∷ [])
of_more of [] v h s = (s, tt)
of_more of (u ∷ vs) v h s = (h.0, of_more of vs v h.1 s)

pub next_value : (of : Base) (vs : List Constant) (i : ℕ) (d : Constant) (w u : ℤ) (xs ys zs : List ℤ) → i < length vs → Some w ≡ word_for of (get_or vs i d) → u ≡ w
    → AreOf of (take i vs) × (ys ≡ xs ++ map (initial_word of) (take i vs)) → zs ≡ ys ++ u ∷ []
    → AreOf of (take (i + 1) vs) × (zs ≡ xs ++ map (initial_word of) (take (i + 1) vs))
next_value of vs i d w u xs ys zs lt is same h e =
    let next : take (i + 1) vs ≡ take i vs ++ get_or vs i d ∷ [] = take_more vs i d lt in
    let z : u ≡ initial_word of (get_or vs i d) = same ∙ ap word_or_zero is in (
      subst (AreOf of) (sym next) (of_more of (take i vs) (get_or vs i d) h.0 (ap is_some (sym is))),
      e ∙ ap (λ us. us ++ u ∷ []) h.1 ∙ append_assoc xs (map (initial_word of) (take i vs)) (u ∷ []) ∙ ap (λ k. xs ++ (map (initial_word of) (take i vs) ++ k ∷ [])) z
          ∙ ap (λ us. xs ++ us) (sym (map-append (initial_word of) (take i vs) (get_or vs i d ∷ []))) ∙ ap (λ us. xs ++ map (initial_word of) us) (sym next),
    )

pub not_of : (of : Base) (vs : List Constant) (i : ℕ) (d : Constant) → i < length vs → None ≡ word_for of (get_or vs i d) → AreOf of vs → ⊥
not_of of [] i d lt is h = omega arith
not_of of (v ∷ vs) zero d lt is h = let e : is_some (word_for of v) ≡ true = h.0 in cc
not_of of (v ∷ vs) (suc i) d lt is h = not_of of vs i d (omega arith) is h.1

-- ---- variables

begin_more : (ts : List Shape) (ds : List Declared) (d : Declared) → AllCanBegin ts ds → CanBegin ts d → AllCanBegin ts (ds ++ d ∷ [])
begin_more ts [] d h k = (k, tt)
begin_more ts (c ∷ ds) d h k = (h.0, begin_more ts ds d h.1 k)

words_more : (ts : List Shape) (ds : List Declared) (d : Declared) → initial_words ts (ds ++ d ∷ []) ≡ initial_words ts ds ++ initial_in ts d
words_more ts [] d = append-nil (initial_in ts d)
words_more ts (c ∷ ds) d = ap (λ ws. initial_in ts c ++ ws) (words_more ts ds d) ∙ sym (append_assoc (initial_in ts c) (initial_words ts ds) (initial_in ts d))

begin_at : (ts : List Shape) (ds : List Declared) (i : ℕ) (d : Declared) → AllCanBegin ts ds → slice_get ds i ≡ Some d → CanBegin ts d
begin_at ts [] i d h e = absurd (cc)
begin_at ts (c ∷ ds) zero d h e = let f : c ≡ d = cc in subst (CanBegin ts) f h.0
begin_at ts (c ∷ ds) (suc i) d h e = begin_at ts ds i d h.1 e

pub cannot_begin : (ts : List Shape) (ds : List Declared) (i : ℕ) (d : Declared) (n : ℕ) (b : Bool) (P : Type 0)
    → MatchBool b P (AreOf d.kind.of d.initial.items → AreEnough d.kind.rank n d.initial.items → (d.kind.is_allocatable ≡ true → d.initial.items ≡ []) → ⊥) → n ≡ room ts d → b ≡ false → slice_get ds i ≡ Some d → AllCanBegin ts ds → ⊥
cannot_begin ts ds i d n true P h same e f all = cc
cannot_begin ts ds i d n false P h same e f all =
    let can : CanBegin ts d = begin_at ts ds i d all f in
    h can.typed (subst (λ m. AreEnough d.kind.rank m d.initial.items) (sym same) can.enough) can.bare

pub next_begins : (ts : List Shape) (ds : List Declared) (i : ℕ) (d : Declared) (n : ℕ) (b : Bool) (ws us : List ℤ) (Q : Type 0)
    → MatchBool b (AreOf d.kind.of d.initial.items × AreEnough d.kind.rank n d.initial.items × (d.kind.is_allocatable ≡ true → d.initial.items ≡ []) × (us ≡ ws ++ initial_by n d.kind.of d.initial.items)) Q → n ≡ room ts d → b ≡ true
    → slice_get ds i ≡ Some d → AllCanBegin ts (take i ds) × (ws ≡ initial_words ts (take i ds)) → AllCanBegin ts (take (i + 1) ds) × (us ≡ initial_words ts (take (i + 1) ds))
next_begins ts ds i d n true ws us Q h same e f k =
    let next : take (i + 1) ds ≡ take i ds ++ d ∷ [] = rw add-one (next_is i ds d f) in
    let can : CanBegin ts d = record { typed = h.0; enough = subst (λ m. AreEnough d.kind.rank m d.initial.items) same h.1; bare = h.2 } in (
      subst (AllCanBegin ts) (sym next) (begin_more ts (take i ds) d k.0 can),
      h.3 ∙ ap (λ m. ws ++ initial_by m d.kind.of d.initial.items) same ∙ ap (λ vs. vs ++ initial_in ts d) k.1 ∙ sym (words_more ts (take i ds) d) ∙ ap (initial_words ts) (sym next),
    )
next_begins ts ds i d n false ws us Q h same e f k = absurd (cc)

laid_many : (ts : List Shape) (at : ℕ) (ds : List Declared) (vs : List Variable) → AreLaidOut ts at ds vs → length vs ≡ length ds
laid_many ts at [] [] h = refl
laid_many ts at [] (v ∷ vs) h = absurd h
laid_many ts at (d ∷ ds) [] h = absurd h
laid_many ts at (d ∷ ds) (v ∷ vs) h = ap suc (laid_many ts (at + room ts d) ds vs h.1)

pub has_slot : (ts : List Shape) (ds : List Declared) (l : Layout) (i : ℕ) → IsLayout ts ds l → i < length ds → i < length l.variables.items
has_slot ts ds l i h lt = omega (arith, laid_many ts 0 ds l.variables.items h.variables)

room_at : (ts : List Shape) (at : ℕ) (ds : List Declared) (vs : List Variable) (i : ℕ) (d : Declared) (v : Variable) → AreLaidOut ts at ds vs → slice_get ds i ≡ Some d → slice_get vs i ≡ Some v → v.words ≡ room ts d
room_at ts at [] [] i d v h e f = absurd (cc)
room_at ts at [] (w ∷ vs) i d v h e f = absurd h
room_at ts at (c ∷ ds) [] i d v h e f = absurd h
room_at ts at (c ∷ ds) (w ∷ vs) zero d v h e f =
    let g : c ≡ d = cc in
    let k : w ≡ v = cc in
    ap (λ (x : Variable). x.words) (sym k) ∙ (h.0).words ∙ ap (room ts) g
room_at ts at (c ∷ ds) (w ∷ vs) (suc i) d v h e f = room_at ts (at + room ts c) ds vs i d v h.1 e f

pub slot_room : (ts : List Shape) (ds : List Declared) (l : Layout) (i : ℕ) (d : Declared) (v : Variable) → IsLayout ts ds l → slice_get ds i ≡ Some d → i < length l.variables.items → v ≡ get_or l.variables.items i v → v.words ≡ room ts d
slot_room ts ds l i d v h e lt f = room_at ts 0 ds l.variables.items i d v h.variables e (slice_get_read l.variables.items (length l.variables.items) i v refl lt f)
