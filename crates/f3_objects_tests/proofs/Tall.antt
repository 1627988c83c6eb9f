-- Laws on layouts that grow by a piece.
use Rattle.std.proofs.Common.{◌≡◌, ℕ, ◌+◌, ◌<◌, ◌≤◌, true, false, Bool, ◌&&◌, nat_lt, List, [], ◌∷◌, ◌++◌, map, length, refl, ap, sym, ◌∙◌, arith, IsTrue}
use Rattle.std.specs.List.{list_all}
use Rattle.std.proofs.lemmas.Bool.{lt-ltb, le-leb, and_from}
use Rattle.std.proofs.lemmas.List.{get_or-append-add, length_push}
use Rattle.f3_desc.specs.declared.piece.Piece.{Piece}
use Rattle.f3_desc.specs.declared.piece.Piece.TheVariants.{Word, Allocatable, Record, Array}
use Rattle.f3_desc.specs.Shape.{Shape, Nothing, width, row, shape_at, shape_of, shapes_from, is_piece, are_pieces, is_layout, most_words}
use Rattle.f3_desc.proofs.Shapes.{shapes_length}

shapes_push : (before : List Shape) (ps : List Piece) (p : Piece) → shapes_from before (ps ++ p ∷ []) ≡ shapes_from before ps ++ shape_of (shapes_from before ps) p ∷ []
shapes_push before [] p = refl
shapes_push before (q ∷ ps) p = shapes_push (before ++ shape_of before q ∷ []) ps p

and_true : (a : Bool) → (a && true) ≡ a
and_true true = refl
and_true false = refl

and_regroup : (a b c : Bool) → ((a && b) && c) ≡ (a && (b && c))
and_regroup true b c = refl
and_regroup false b c = refl

are_push : (before : List Shape) (ps : List Piece) (p : Piece) → are_pieces before (ps ++ p ∷ []) ≡ (are_pieces before ps && is_piece (shapes_from before ps) p)
are_push before [] p = and_true (is_piece before p)
are_push before (q ∷ ps) p = ap (λ (k : Bool). is_piece before q && k) (are_push (before ++ shape_of before q ∷ []) ps p) ∙ sym (and_regroup (is_piece before q) (are_pieces (before ++ shape_of before q ∷ []) ps) (is_piece (shapes_from before (q ∷ ps)) p))

-- a sound list of pieces, the last of which has one word at most
pub record IsTower (ps : List Piece) (n : ℕ) : Type 0 where
  pub sized : length ps ≡ n + 1
  pub sound : are_pieces [] ps ≡ true
  pub narrow : width (shape_at (shapes_from [] ps) n) ≤ 1

-- a type with one component
abbrev pub HasOne : Piece → ℕ → Type 0
HasOne Word n = ⊥
HasOne (Allocatable rank of) n = ⊥
HasOne (Record parts) n = parts.items ≡ n ∷ []
HasOne (Array count of) n = ⊥

one_row : (ss : List Shape) (parts : List ℕ) (n : ℕ) → parts ≡ n ∷ [] → width (shape_at ss n) ≤ 1 → width (row (map (shape_at ss) parts)) ≤ 1
one_row ss parts n e l = let f : width (row (map (shape_at ss) parts)) ≡ width (shape_at ss n) + 0 = ap (λ (k : List ℕ). width (row (map (shape_at ss) k))) e in omega arith

one_width : (ss : List Shape) (p : Piece) (n : ℕ) → HasOne p n → width (shape_at ss n) ≤ 1 → width (shape_of ss p) ≤ 1
one_width ss Word n e l = absurd e
one_width ss (Allocatable rank of) n e l = absurd e
one_width ss (Record parts) n e l = one_row ss parts.items n e l
one_width ss (Array count of) n e l = absurd e

one_sound : (ss : List Shape) (p : Piece) (n : ℕ) → HasOne p n → n < length ss → width (shape_at ss n) ≤ 1 → is_piece ss p ≡ true
one_sound ss Word n e m l = absurd e
one_sound ss (Allocatable rank of) n e m l = absurd e
one_sound ss (Record parts) n e m l =
    let early : nat_lt n (length ss) ≡ true = lt-ltb n (length ss) m in
    let a : list_all (λ k. nat_lt k (length ss)) parts.items ≡ true = ap (list_all (λ k. nat_lt k (length ss))) e ∙ and_from (nat_lt n (length ss)) true early refl in
    let w = one_row ss parts.items n e l in
    and_from _ _ a (le-leb (width (shape_of ss (Record parts))) most_words (omega arith))
one_sound ss (Array count of) n e m l = absurd e

-- one type more, with a component of the last
pub tower_more : (ps : List Piece) (n : ℕ) (p : Piece) → IsTower ps n → HasOne p n → IsTower (ps ++ p ∷ []) (n + 1)
tower_more ps n p t o =
    let ss = shapes_from [] ps in
    let k : length ss ≡ n + 1 = shapes_length [] ps ∙ (let z = t.sized in omega arith) in
    let m : n < length ss = omega arith in
    let last : shape_at (ss ++ shape_of ss p ∷ []) (n + 1) ≡ shape_of ss p = ap (shape_at (ss ++ shape_of ss p ∷ [])) (let q : n + 1 ≡ length ss + 0 = omega arith in q) ∙ get_or-append-add ss (shape_of ss p ∷ []) 0 Nothing in
    let same : width (shape_at (shapes_from [] (ps ++ p ∷ [])) (n + 1)) ≡ width (shape_of ss p) = ap (λ (x : List Shape). width (shape_at x (n + 1))) (shapes_push [] ps p) ∙ ap width last in
    let w = one_width ss p n o t.narrow in
    record {
      sized = let z = t.sized in let y = length_push ps p in omega arith;
      sound = are_push [] ps p ∙ and_from _ _ t.sound (one_sound ss p n o m t.narrow);
      narrow = omega arith;
    }

pub tower_layout : (ps : List Piece) (n : ℕ) → IsTower ps n → IsTrue (is_layout ps)
tower_layout ps n t = and_from _ _ (lt-ltb 0 (length ps) (let z = t.sized in omega arith)) t.sound
