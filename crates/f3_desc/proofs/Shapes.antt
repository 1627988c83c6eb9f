-- Laws on shapes and their tables.
use Rattle.std.proofs.Common.{zero, suc, ◌≡◌, ℕ, ◌+◌, ◌<◌, true, false, Bool, nat_le, nat_lt, List, [], ◌∷◌, ◌++◌, map, length, get_or, refl, ap, sym, subst, ◌∙◌, arith, length-append, IsTrue}
use Rattle.std.specs.List.{list_all, All}
use Rattle.std.proofs.lemmas.Bool.{ltb-true, and_parts}
use Rattle.std.proofs.lemmas.List.{get_or_append_left, get_or-append-add, length-map, get_or_read}
use Rattle.std.proofs.Math.ListN.{get_or-map}
use Rattle.std.proofs.lemmas.List.Elements.{All-from_get_or}
use Rattle.f3_desc.specs.declared.piece.Piece.{Piece}
use Rattle.f3_desc.specs.declared.piece.Piece.TheVariants.{Word, Allocatable, Record, Array}
use Rattle.f3_desc.specs.Shape.{Shape, Nothing, Holder, Times, width, has_holder, row, shape_at, shape_of, shapes_from, is_piece, are_pieces, is_layout}
use Rattle.f3_desc.specs.Layout.{NamesBefore}

-- a test that each element passes, at one of them
pub test_at : {X : Type 0} (p : X → Bool) (xs : List X) (k : ℕ) (d : X) → k < length xs → list_all p xs ≡ true → p (get_or xs k d) ≡ true
test_at p [] k d l e = absurd (omega arith)
test_at p (x ∷ xs) zero d l e = (and_parts (p x) (list_all p xs) e).0
test_at p (x ∷ xs) (suc k) d l e = test_at p xs k d (omega arith) ((and_parts (p x) (list_all p xs) e).1)

-- a table read at a place
pub width_at : (before : List Shape) (k : ℕ) → get_or (map width before) k 0 ≡ width (shape_at before k)
width_at before k = get_or-map width before k Nothing

pub holder_at : (before : List Shape) (k : ℕ) → get_or (map has_holder before) k false ≡ has_holder (shape_at before k)
holder_at before k = get_or-map has_holder before k Nothing

-- the shapes of pieces begin with those of the pieces before
pub shapes_begin : (before : List Shape) (ps : List Piece) (k : ℕ) → k < length before → shape_at (shapes_from before ps) k ≡ shape_at before k
shapes_begin before [] k l = refl
shapes_begin before (p ∷ ps) k l =
    let len = length-append before (shape_of before p ∷ []) in
    shapes_begin (before ++ shape_of before p ∷ []) ps k (omega arith) ∙ get_or_append_left before (shape_of before p ∷ []) Nothing k l

pub shapes_length : (before : List Shape) (ps : List Piece) → length (shapes_from before ps) ≡ length before + length ps
shapes_length before [] = omega arith
shapes_length before (p ∷ ps) =
    let h = shapes_length (before ++ shape_of before p ∷ []) ps in
    let len = length-append before (shape_of before p ∷ []) in
    omega arith

same_row : (before all : List Shape) → ((k : ℕ) → k < length before → shape_at all k ≡ shape_at before k) → (parts : List ℕ) → list_all (λ k. nat_lt k (length before)) parts ≡ true → row (map (shape_at all) parts) ≡ row (map (shape_at before) parts)
same_row before all same [] e = refl
same_row before all same (k ∷ parts) e =
    let h = and_parts (nat_lt k (length before)) (list_all (λ k. nat_lt k (length before)) parts) e in
    let here : shape_at all k ≡ shape_at before k = same k (ltb-true k (length before) h.0) in
    let rest : row (map (shape_at all) parts) ≡ row (map (shape_at before) parts) = same_row before all same parts h.1 in
    cc

-- a piece has the same shape by all pieces
same_shape : (before all : List Shape) → ((k : ℕ) → k < length before → shape_at all k ≡ shape_at before k) → (p : Piece) → is_piece before p ≡ true → shape_of all p ≡ shape_of before p
same_shape before all same Word e = refl
same_shape before all same (Allocatable rank of) e = ap (Holder rank) (same of (ltb-true of (length before) (and_parts (nat_le rank 7) (nat_lt of (length before)) e).1))
same_shape before all same (Record parts) e = same_row before all same parts.items (and_parts (list_all (λ k. nat_lt k (length before)) parts.items) _ e).0
same_shape before all same (Array count of) e = ap (Times count) (same of (ltb-true of (length before) (and_parts (nat_lt of (length before)) _ e).0))

parts_before : (n : ℕ) (parts : List ℕ) → list_all (λ k. nat_lt k n) parts ≡ true → All (λ p. p < n) parts
parts_before n parts e = All-from_get_or (λ p. p < n) parts 0 (λ i l. ltb-true (get_or parts i 0) n (test_at (λ k. nat_lt k n) parts i 0 l e))

names_before : (before : List Shape) (p : Piece) → is_piece before p ≡ true → NamesBefore (length before) p
names_before before Word e = tt
names_before before (Allocatable rank of) e = ltb-true of (length before) (and_parts (nat_le rank 7) (nat_lt of (length before)) e).1
names_before before (Record parts) e = parts_before (length before) parts.items (and_parts (list_all (λ k. nat_lt k (length before)) parts.items) _ e).0
names_before before (Array count of) e = ltb-true of (length before) (and_parts (nat_lt of (length before)) _ e).0

-- each piece has its shape by all pieces, and names earlier ones
pub piece_shape : (before : List Shape) (ps : List Piece) (k : ℕ) (d : Piece) → k < length ps → are_pieces before ps ≡ true → shape_of (shapes_from before ps) (get_or ps k d) ≡ shape_at (shapes_from before ps) (length before + k)
piece_shape before [] k d l e = absurd (omega arith)
piece_shape before (p ∷ ps) zero d l e =
    let h = and_parts (is_piece before p) (are_pieces (before ++ shape_of before p ∷ []) ps) e in
    let next = before ++ shape_of before p ∷ [] in
    let len : length next ≡ length before + 1 = length-append before (shape_of before p ∷ []) in
    let same : (k : ℕ) → k < length before → shape_at (shapes_from next ps) k ≡ shape_at before k = (λ k l. shapes_begin before (p ∷ ps) k l) in
    let own : shape_at next (length before + 0) ≡ shape_of before p = get_or-append-add before (shape_of before p ∷ []) 0 Nothing in
    same_shape before (shapes_from next ps) same p h.0 ∙ sym (shapes_begin next ps (length before + 0) (omega arith) ∙ own)
piece_shape before (p ∷ ps) (suc k) d l e =
    let h = and_parts (is_piece before p) (are_pieces (before ++ shape_of before p ∷ []) ps) e in
    let next = before ++ shape_of before p ∷ [] in
    let len : length next ≡ length before + 1 = length-append before (shape_of before p ∷ []) in
    let n : length next + k ≡ length before + suc k = omega arith in
    piece_shape next ps k d (omega arith) h.1 ∙ ap (shape_at (shapes_from next ps)) n

pub piece_names : (before : List Shape) (ps : List Piece) (k : ℕ) (d : Piece) → k < length ps → are_pieces before ps ≡ true → NamesBefore (length before + k) (get_or ps k d)
piece_names before [] k d l e = absurd (omega arith)
piece_names before (p ∷ ps) zero d l e =
    let h = and_parts (is_piece before p) (are_pieces (before ++ shape_of before p ∷ []) ps) e in
    let n : length before ≡ length before + 0 = omega arith in
    let P : ℕ → Type 0 = λ n. NamesBefore n p in
    subst P n (names_before before p h.0)
piece_names before (p ∷ ps) (suc k) d l e =
    let h = and_parts (is_piece before p) (are_pieces (before ++ shape_of before p ∷ []) ps) e in
    let next = before ++ shape_of before p ∷ [] in
    let len : length next ≡ length before + 1 = length-append before (shape_of before p ∷ []) in
    let n : length next + k ≡ length before + suc k = omega arith in
    let P : ℕ → Type 0 = λ n. NamesBefore n (get_or ps k d) in
    subst P n (piece_names next ps k d (omega arith) h.1)

-- tables of all pieces, and what they say of one
pub table_length : (ws : List ℕ) (ps : List Piece) → ws ≡ map width (shapes_from [] ps) → length ws ≡ length ps
table_length ws ps e = ap length e ∙ (length-map (shapes_from [] ps) width ∙ (shapes_length [] ps ∙ omega arith))

pub marks_length : (hs : List Bool) (ps : List Piece) → hs ≡ map has_holder (shapes_from [] ps) → length hs ≡ length ps
marks_length hs ps e = ap length e ∙ (length-map (shapes_from [] ps) has_holder ∙ (shapes_length [] ps ∙ omega arith))

pub table_read : (ws : List ℕ) (ps : List Piece) (k x : ℕ) → ws ≡ map width (shapes_from [] ps) → k < length ps → x ≡ get_or ws k x → x ≡ width (shape_at (shapes_from [] ps) k)
table_read ws ps k x e l r =
    let n = table_length ws ps e in
    get_or_read ws k x (omega arith) r 0 ∙ (ap (λ (t : List ℕ). get_or t k 0) e ∙ width_at (shapes_from [] ps) k)

pub marks_read : (hs : List Bool) (ps : List Piece) (k : ℕ) (x : Bool) → hs ≡ map has_holder (shapes_from [] ps) → k < length ps → x ≡ get_or hs k x → x ≡ has_holder (shape_at (shapes_from [] ps) k)
marks_read hs ps k x e l r =
    let n = marks_length hs ps e in
    get_or_read hs k x (omega arith) r false ∙ (ap (λ (t : List Bool). get_or t k false) e ∙ holder_at (shapes_from [] ps) k)

pub piece_read : (ps : List Piece) (k : ℕ) (p : Piece) → IsTrue (is_layout ps) → k < length ps → p ≡ get_or ps k p → shape_of (shapes_from [] ps) p ≡ shape_at (shapes_from [] ps) k
piece_read ps k p s l r =
    ap (shape_of (shapes_from [] ps)) r ∙ (piece_shape [] ps k p l (and_parts (nat_lt 0 (length ps)) (are_pieces [] ps) s).1 ∙ ap (shape_at (shapes_from [] ps)) (omega arith))

pub names_read : (ps : List Piece) (k : ℕ) (p : Piece) → IsTrue (is_layout ps) → k < length ps → p ≡ get_or ps k p → NamesBefore k p
names_read ps k p s l r =
    let n : 0 + k ≡ k = omega arith in
    let P : Piece → Type 0 = λ x. NamesBefore k x in
    let Q : ℕ → Type 0 = λ m. NamesBefore m (get_or ps k p) in
    subst P (sym r) (subst Q n (piece_names [] ps k p l (and_parts (nat_lt 0 (length ps)) (are_pieces [] ps) s).1))

pub not_empty : (ps : List Piece) → IsTrue (is_layout ps) → 0 < length ps
not_empty ps s = ltb-true 0 (length ps) (and_parts (nat_lt 0 (length ps)) (are_pieces [] ps) s).0
