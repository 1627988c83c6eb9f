-- Tables of types one after another.
use Rattle.std.proofs.Common.{◌≡◌, ℕ, zero, suc, ◌+◌, ◌<◌, ◌≤◌, List, [], ◌∷◌, ◌++◌, length, take, drop, get_or, refl, sym, ap, subst, ◌∙◌, arith}
use Rattle.std.specs.Prelude.{All, Any, Option, Some, MatchOption, slice_get}
use Rattle.std.proofs.lemmas.List.{take_more, get_or_append_left, get_or-append-add, length-take-le, take-append-drop}
use Rattle.std.proofs.lemmas.List.Elements.{All-push}
use Rattle.std.proofs.lemmas.Option.{slice_get_read}
use Rattle.f3_program.specs.declared.declarations.Component.{Component}
use Rattle.f3_program.specs.declared.declarations.Derived.{Derived}
use Rattle.f3_meaning_whole.specs.Shape.{Shape, Whole, Logical, Record, parts_in, shapes_from, shapes_of}
use Rattle.f3_type_words.specs.Most.{most_words}
use Rattle.f3_rooms.specs.Forms.{room, words_for, words_for_parts}
use Rattle.f3_type_words.specs.declared.table.TypeTable.{TypeTable}
use Rattle.f3_type_words.specs.Tables.{IsTable, AreTables, offsets_from}

-- ---- types one after another

table_words : (s : Shape) (x : TypeTable) → IsTable s x → x.words ≡ words_for s
table_words Whole x h = absurd h
table_words Logical x h = absurd h
table_words (Record t parts) x h = h.0

-- the words of a type that is there
pub words_of_type : (ss : List Shape) (xs : List TypeTable) (u : ℕ) (d : TypeTable) → AreTables ss xs → u < length xs → (get_or xs u d).words ≡ words_for (get_or ss u Whole)
words_of_type [] [] u d h lt = absurd (omega arith)
words_of_type [] (x ∷ xs) u d h lt = absurd h
words_of_type (s ∷ ss) [] u d h lt = absurd h
words_of_type (s ∷ ss) (x ∷ xs) zero d h lt = table_words s x h.0
words_of_type (s ∷ ss) (x ∷ xs) (suc u) d h lt = words_of_type ss xs u d h.1 (omega arith)

-- and of one that is not
pub words_of_none : (ss : List Shape) (xs : List TypeTable) (u : ℕ) → AreTables ss xs → length xs ≤ u → 1 ≡ words_for (get_or ss u Whole)
words_of_none [] [] u h le = refl
words_of_none [] (x ∷ xs) u h le = absurd h
words_of_none (s ∷ ss) [] u h le = absurd h
words_of_none (s ∷ ss) (x ∷ xs) zero h le = absurd (omega arith)
words_of_none (s ∷ ss) (x ∷ xs) (suc u) h le = words_of_none ss xs u h.1 (omega arith)

-- one type more
tables_more : (ss : List Shape) (xs : List TypeTable) (s : Shape) (x : TypeTable) → AreTables ss xs → IsTable s x → AreTables (ss ++ s ∷ []) (xs ++ x ∷ [])
tables_more [] [] s x h k = (k, tt)
tables_more [] (y ∷ xs) s x h k = absurd h
tables_more (r ∷ ss) [] s x h k = absurd h
tables_more (r ∷ ss) (y ∷ xs) s x h k = (h.0, tables_more ss xs s x h.1 k)

pub shapes_more : (ss : List Shape) (ts : List Derived) (x : Derived)
    → shapes_from ss (ts ++ x ∷ []) ≡ shapes_from ss ts ++ Record (length (shapes_from ss ts)) (parts_in (shapes_from ss ts) x.components.items) ∷ []
shapes_more ss [] x = refl
shapes_more ss (t ∷ ts) x = shapes_more (ss ++ Record (length ss) (parts_in ss t.components.items) ∷ []) ts x

-- the tree of the type of a number, by the types before it
abbrev pub shape_next : List Derived → Derived → Shape
shape_next ts x = Record (length (shapes_of ts)) (parts_in (shapes_of ts) x.components.items)

pub next_shape : (xs : List Derived) (i : ℕ) (x : Derived) → i < length xs → x ≡ get_or xs i x → shapes_of (take (i + 1) xs) ≡ shapes_of (take i xs) ++ shape_next (take i xs) x ∷ []
next_shape xs i x lt f = ap shapes_of (take_more xs i x lt ∙ ap (λ y. take i xs ++ y ∷ []) (sym f)) ∙ shapes_more [] (take i xs) x

pub next_table : (xs : List Derived) (i : ℕ) (x : Derived) (ys zs : List TypeTable) (y : TypeTable) → i < length xs → x ≡ get_or xs i x
    → AreTables (shapes_of (take i xs)) ys → IsTable (shape_next (take i xs) x) y → zs ≡ ys ++ y ∷ [] → AreTables (shapes_of (take (i + 1) xs)) zs
next_table xs i x ys zs y lt f h k e =
    subst (AreTables (shapes_of (take (i + 1) xs))) (sym e)
    (subst (λ rs. AreTables rs (ys ++ y ∷ [])) (sym (next_shape xs i x lt f)) (tables_more (shapes_of (take i xs)) ys (shape_next (take i xs) x) y h k))

-- what is made of the type of a number by the types before it
abbrev pub IsMade : Shape → Option TypeTable → Type 0
IsMade s o = MatchOption o (most_words < words_for s) (λ x. IsTable s x × (x.words ≤ most_words))

pub is_made : (xs : List Derived) (i : ℕ) (x : Derived) (ys us : List TypeTable) (cs : List Component) (o : Option TypeTable) → us ≡ ys → cs ≡ x.components.items
    → ((ts : List Shape) (t : ℕ) → AreTables ts us → IsMade (Record t (parts_in ts cs)) o) → AreTables (shapes_of (take i xs)) ys → IsMade (shape_next (take i xs) x) o
is_made xs i x ys us cs o same its h have =
    let ss : List Shape = shapes_of (take i xs) in
    subst (λ ds. IsMade (Record (length ss) (parts_in ss ds)) o) its (h ss (length ss) (subst (AreTables ss) (sym same) have))

-- ---- components

-- one component more
words_more : (ts : List Shape) (cs : List Component) (c : Component) → words_for_parts (parts_in ts (cs ++ c ∷ [])) ≡ words_for_parts (parts_in ts cs) + room ts c.declared
words_more ts [] c = omega arith
words_more ts (b ∷ cs) c = let e : words_for_parts (parts_in ts (cs ++ c ∷ [])) ≡ words_for_parts (parts_in ts cs) + room ts c.declared = words_more ts cs c in omega arith

offsets_more : (at : ℕ) (ts : List Shape) (cs : List Component) (c : Component)
    → offsets_from at (parts_in ts (cs ++ c ∷ [])) ≡ offsets_from at (parts_in ts cs) ++ (at + words_for_parts (parts_in ts cs)) ∷ []
offsets_more at ts [] c = let e : at ≡ at + 0 = omega arith in ap (λ k. k ∷ []) e
offsets_more at ts (b ∷ cs) c =
    let e : (at + room ts b.declared) + words_for_parts (parts_in ts cs) ≡ at + (room ts b.declared + words_for_parts (parts_in ts cs)) = omega arith in
    ap (λ ks. at ∷ ks) (offsets_more (at + room ts b.declared) ts cs c ∙ ap (λ k. offsets_from (at + room ts b.declared) (parts_in ts cs) ++ k ∷ []) e)

pub words_among : (ts : List Shape) (cs : List Component) (i : ℕ) (c : Component) → slice_get cs i ≡ Some c
    → words_for_parts (parts_in ts (take i cs)) + room ts c.declared ≤ words_for_parts (parts_in ts cs)
words_among ts [] i c e = absurd (cc)
words_among ts (b ∷ cs) zero c e = let f : b ≡ c = cc in subst (λ (x : Component). 0 + room ts x.declared ≤ room ts b.declared + words_for_parts (parts_in ts cs)) f (omega arith)
words_among ts (b ∷ cs) (suc i) c e =
    let h : words_for_parts (parts_in ts (take i cs)) + room ts c.declared ≤ words_for_parts (parts_in ts cs) = words_among ts cs i c e in omega arith

-- the words of the components up to one, and where they begin
pub record AreTabled (xs : List TypeTable) (cs : List Component) (words : ℕ) (offsets : List ℕ) : Type 0 where
  pub small : words ≤ most_words
  pub are : (ts : List Shape) → AreTables ts xs → (words ≡ words_for_parts (parts_in ts cs)) × (offsets ≡ offsets_from 0 (parts_in ts cs))

module _ (xs : List TypeTable) (cs : List Component) (i : ℕ) (c : Component) (lt : i < length cs) (is : c ≡ get_or cs i c) (words : ℕ) (offsets : List ℕ)
    (tabled : AreTabled xs (take i cs) words offsets) where
  at : slice_get cs i ≡ Some c
  at = slice_get_read cs (length cs) i c refl lt is

  next : take (i + 1) cs ≡ take i cs ++ c ∷ []
  next = take_more cs i c lt ∙ ap (λ y. take i cs ++ y ∷ []) (sym is)

  pub tabled_more : (n all : ℕ) (more : List ℕ) → ((ts : List Shape) → AreTables ts xs → n ≡ room ts c.declared) → all ≡ words + n → all ≤ most_words → more ≡ offsets ++ words ∷ []
      → AreTabled xs (take (i + 1) cs) all more
  tabled_more n all more h total few e = record {
    small = few;
    are = λ ts have.
        let k : n ≡ room ts c.declared = h ts have in
        let w : words_for_parts (parts_in ts (take (i + 1) cs)) ≡ words_for_parts (parts_in ts (take i cs)) + room ts c.declared
        = ap (λ ds. words_for_parts (parts_in ts ds)) next ∙ words_more ts (take i cs) c in
        let o : offsets_from 0 (parts_in ts (take (i + 1) cs)) ≡ offsets_from 0 (parts_in ts (take i cs)) ++ (0 + words_for_parts (parts_in ts (take i cs))) ∷ []
        = ap (λ ds. offsets_from 0 (parts_in ts ds)) next ∙ offsets_more 0 ts (take i cs) c in
        let b : 0 + words_for_parts (parts_in ts (take i cs)) ≡ words = omega (arith, (tabled.are ts have).0) in
        (omega (arith, w, (tabled.are ts have).0, k), e ∙ (ap (λ os. os ++ words ∷ []) (tabled.are ts have).1 ∙ (ap (λ k. offsets_from 0 (parts_in ts (take i cs)) ++ k ∷ []) (sym b) ∙ sym o)));
  }

  -- no room for the component
  pub not_tabled : (n : ℕ) → most_words < words + n → (ts : List Shape) → AreTables ts xs → n ≤ room ts c.declared → most_words < words_for_parts (parts_in ts cs)
  not_tabled n much ts have le = omega (arith, words_among ts cs i c at, (tabled.are ts have).0)

-- ---- the trees of all types begin with those of the first ones

length_more : (ss : List Shape) (s : Shape) → length (ss ++ s ∷ []) ≡ length ss + 1
length_more [] s = omega arith
length_more (r ∷ ss) s = omega (arith, length_more ss s)

shapes_length : (ss : List Shape) (ts : List Derived) → length (shapes_from ss ts) ≡ length ss + length ts
shapes_length ss [] = omega arith
shapes_length ss (t ∷ ts) =
    let s : Shape = Record (length ss) (parts_in ss t.components.items) in
    omega (arith, shapes_length (ss ++ s ∷ []) ts, length_more ss s)

pub shapes_number : (ts : List Derived) → length (shapes_of ts) ≡ length ts
shapes_number ts = shapes_length [] ts ∙ omega arith

shapes_kept : (ss : List Shape) (ts : List Derived) (k : ℕ) (d : Shape) → k < length ss → get_or (shapes_from ss ts) k d ≡ get_or ss k d
shapes_kept ss [] k d lt = refl
shapes_kept ss (t ∷ ts) k d lt =
    let s : Shape = Record (length ss) (parts_in ss t.components.items) in
    shapes_kept (ss ++ s ∷ []) ts k d (omega (arith, length_more ss s)) ∙ get_or_append_left ss (s ∷ []) d k lt

shapes_split : (ss : List Shape) (ts us : List Derived) → shapes_from ss (ts ++ us) ≡ shapes_from (shapes_from ss ts) us
shapes_split ss [] us = refl
shapes_split ss (t ∷ ts) us = shapes_split (ss ++ Record (length ss) (parts_in ss t.components.items) ∷ []) ts us

pub shape_stands : (xs : List Derived) (i : ℕ) (x : Derived) (d : Shape) → i < length xs → x ≡ get_or xs i x → get_or (shapes_of xs) i d ≡ shape_next (take i xs) x
shape_stands xs i x d lt f =
    let ss : List Shape = shapes_of (take i xs) in
    let s : Shape = shape_next (take i xs) x in
    let n : length ss ≡ i = shapes_number (take i xs) ∙ length-take-le i xs (omega arith) in
    let all : shapes_of xs ≡ shapes_from (ss ++ s ∷ []) (drop (i + 1) xs)
    = ap shapes_of (sym (take-append-drop (i + 1) xs)) ∙ (shapes_split [] (take (i + 1) xs) (drop (i + 1) xs) ∙ ap (λ rs. shapes_from rs (drop (i + 1) xs)) (next_shape xs i x lt f)) in
    let here : get_or (ss ++ s ∷ []) (length ss + 0) d ≡ s = get_or-append-add ss (s ∷ []) 0 d in
    let at : length ss + 0 ≡ i = omega arith in
    ap (λ rs. get_or rs i d) all ∙ (shapes_kept (ss ++ s ∷ []) (drop (i + 1) xs) i d (omega (arith, length_more ss s)) ∙ subst (λ k. get_or (ss ++ s ∷ []) k d ≡ s) at here)

-- ---- types with too many words

pub some_large : (xs : List Derived) (i : ℕ) (x : Derived) → i < length xs → x ≡ get_or xs i x → most_words < words_for (shape_next (take i xs) x) → Any (λ s. most_words < words_for s) (shapes_of xs)
some_large xs i x lt f much =
    let n : i < length (shapes_of xs) = omega (arith, shapes_number xs) in
    (i, shape_next (take i xs) x, n, shape_stands xs i x _ lt f, much)

pub is_small : (s : Shape) (x : TypeTable) → IsTable s x × (x.words ≤ most_words) → words_for s ≤ most_words
is_small s x h = omega (arith, table_words s x h.0, h.1)

pub all_small : (xs : List Derived) (i : ℕ) (x : Derived) → i < length xs → x ≡ get_or xs i x → All (λ s. words_for s ≤ most_words) (shapes_of (take i xs))
    → words_for (shape_next (take i xs) x) ≤ most_words → All (λ s. words_for s ≤ most_words) (shapes_of (take (i + 1) xs))
all_small xs i x lt f few le = subst (All (λ s. words_for s ≤ most_words)) (sym (next_shape xs i x lt f)) (All-push (λ s. words_for s ≤ most_words) (shapes_of (take i xs)) (shape_next (take i xs) x) few le)
