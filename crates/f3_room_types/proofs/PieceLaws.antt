-- Pieces one after another.
use Rattle.std.proofs.Common.{◌≡◌, ℕ, ◌+◌, true, List, [], ◌∷◌, ◌++◌, map, length, get_or, refl, sym, ap, subst, ◌∙◌, arith, length-append}
use Rattle.std.proofs.lemmas.Bool.{and_parts, and_from}
use Rattle.std.proofs.lemmas.List.{get_or_append_left, get_or-append-add}
use Rattle.f3_desc.specs.declared.piece.Piece.{Piece}
use Rattle.f3_desc.specs.Shape.{Shape as Layout, Nothing, width, shape_of, shapes_from, is_piece, are_pieces}
use Rattle.f3_desc.proofs.Shapes.{shapes_length}
use Rattle.f3_room_types.specs.Pieces.{layouts_of, IsAt, Begins, Has}

-- ---- one piece more

more_from : (before : List Layout) (ps : List Piece) (p : Piece) → shapes_from before (ps ++ p ∷ []) ≡ shapes_from before ps ++ shape_of (shapes_from before ps) p ∷ []
more_from before [] p = refl
more_from before (q ∷ ps) p = more_from (before ++ shape_of before q ∷ []) ps p

pub layouts_more : (ps qs : List Piece) (p : Piece) → qs ≡ ps ++ p ∷ [] → layouts_of qs ≡ layouts_of ps ++ shape_of (layouts_of ps) p ∷ []
layouts_more ps qs p e = ap layouts_of e ∙ more_from [] ps p

pieces_from : (before : List Layout) (ps : List Piece) (p : Piece) → are_pieces before ps ≡ true → is_piece (shapes_from before ps) p ≡ true → are_pieces before (ps ++ p ∷ []) ≡ true
pieces_from before [] p s h = and_from (is_piece before p) true h refl
pieces_from before (q ∷ ps) p s h =
    let next : List Layout = before ++ shape_of before q ∷ [] in
    let both = and_parts (is_piece before q) (are_pieces next ps) s in
    and_from (is_piece before q) (are_pieces next (ps ++ p ∷ [])) both.0 (pieces_from next ps p both.1 h)

pub pieces_more : (ps qs : List Piece) (p : Piece) → qs ≡ ps ++ p ∷ [] → are_pieces [] ps ≡ true → is_piece (layouts_of ps) p ≡ true → are_pieces [] qs ≡ true
pieces_more ps qs p e s h = ap (are_pieces []) e ∙ pieces_from [] ps p s h

map_more : (ls : List Layout) (l : Layout) → map width (ls ++ l ∷ []) ≡ map width ls ++ width l ∷ []
map_more [] l = refl
map_more (x ∷ ls) l = ap (λ ns. width x ∷ ns) (map_more ls l)

pub widths_more : (ps qs : List Piece) (p : Piece) (ws us vs : List ℕ) (n : ℕ) → qs ≡ ps ++ p ∷ [] → ws ≡ map width (layouts_of ps) → us ≡ ws → vs ≡ us ++ n ∷ [] → n ≡ width (shape_of (layouts_of ps) p) → vs ≡ map width (layouts_of qs)
widths_more ps qs p ws us vs n e sized same more wide =
    more
    ∙ (ap (λ ks. ks ++ n ∷ []) (same ∙ sized)
    ∙ (ap (λ k. map width (layouts_of ps) ++ k ∷ []) wide
    ∙ (sym (map_more (layouts_of ps) (shape_of (layouts_of ps) p)) ∙ sym (ap (map width) (layouts_more ps qs p e)))))

pub has_more : (ps qs : List Piece) (p : Piece) (k : ℕ) → qs ≡ ps ++ p ∷ [] → k ≡ length ps → Has ps qs (shape_of (layouts_of ps) p) k
has_more ps qs p k e n =
    let ls : List Layout = layouts_of ps in
    let l : Layout = shape_of ls p in
    let all : layouts_of qs ≡ ls ++ l ∷ [] = layouts_more ps qs p e in
    let len : length (layouts_of qs) ≡ length ls + 1 = ap length all ∙ length-append ls (l ∷ []) in
    let at : length ls + 0 ≡ k = omega (arith, shapes_length [] ps) in
    let own : get_or (ls ++ l ∷ []) (length ls + 0) Nothing ≡ l = get_or-append-add ls (l ∷ []) 0 Nothing in
    record {
      begins = record {
        longer = omega (arith, len);
        same = λ j lt. ap (λ rs. get_or rs j Nothing) all ∙ get_or_append_left ls (l ∷ []) Nothing j lt;
      };
      is = record { within = omega (arith, len, at); layout = ap (λ rs. get_or rs k Nothing) all ∙ subst (λ i. get_or (ls ++ l ∷ []) i Nothing ≡ l) at own };
    }

-- ---- pieces behind others

pub begins_same : (ls : List Layout) → Begins ls ls
begins_same ls = record { longer = omega arith; same = λ k lt. refl }

pub begins_trans : (ls ms ns : List Layout) → Begins ls ms → Begins ms ns → Begins ls ns
begins_trans ls ms ns h k = record { longer = omega (arith, h.longer, k.longer); same = λ i lt. k.same i (omega (arith, h.longer)) ∙ h.same i lt }

pub at_begins : (ls ms : List Layout) (l : Layout) (k : ℕ) → Begins ls ms → IsAt ls l k → IsAt ms l k
at_begins ls ms l k b h = record { within = omega (arith, b.longer, h.within); layout = b.same k h.within ∙ h.layout }
