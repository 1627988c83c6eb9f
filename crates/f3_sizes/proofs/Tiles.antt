-- Pieces with what was found of them: the lines that ways lead to, and how many cells these need.
use Rattle.std.proofs.Common.{◌≡◌, ◌≤◌, ◌<◌, ℕ, zero, suc, ◌+◌, ◌-◌, Bool, true, false, List, [], ◌∷◌, ◌++◌, length, Option, None, Some, refl, sym, ap, ◌∙◌, subst, arith, length-append, if◌then◌else◌, ◌⊎◌, inl, inr}
use Rattle.std.specs.Prelude.{slice_get, slice_index, nat_lt}
use Rattle.std.proofs.lemmas.Option.{slice_get_within}
use Rattle.std.proofs.lemmas.List.{length-map}
use Rattle.f3_meaning_whole.specs.Act.{Setting}
use Rattle.f3_code.specs.declared.instruction.Instruction.{Instruction}
use Rattle.f3_code.specs.declared.instruction.Instruction.TheVariants as i
use Rattle.f3_code.specs.State as code
use Rattle.f3_gen_values.specs.declared.line.Line.{Line}
use Rattle.f3_gen_values.specs.Emitted.{line_in, lines_in}
use Rattle.f3_heights.specs.Effect.{Far, effect}
use Rattle.f3_heights.specs.Heights.{IsAt}
use Rattle.f3_heights.specs.Needs.{IsKept}
use Rattle.f3_heights.specs.Room.{greatest, alike}
use Rattle.f3_heights.proofs.Parts.{HeightsAt, heights_front, heights_back}
use Rattle.f3_heights.proofs.Regions.{all_of, greatest_first, Own, own}
use Rattle.f3_sizes.specs.Part.{IntoNext, IntoFar, LeadsInto, IsDepth}
use Rattle.f3_sizes.proofs.Pieces.{Piece, lines_of, heights_of, as_many, emitted_from, piece_is_part}

-- ---- what was found of a piece

pub record Explored (p : Piece) (d : ℕ) : Type 0 where
  pub reached : ℕ → Bool
  pub begins : reached 0 ≡ true
  pub within : (k : ℕ) → reached k ≡ true → k < length p.lines
  pub closed : (k : ℕ) (l : code.Line) → slice_get p.lines k ≡ Some l → reached k ≡ true → LeadsInto (λ j. reached j ≡ true) k l.act
  pub low : (k : ℕ) → reached k ≡ true → slice_index p.heights k ≤ d
  pub met : d ≤ greatest p.heights

index_greatest : (hs : List ℕ) (k : ℕ) → slice_index hs k ≤ greatest hs
index_greatest [] k = omega arith
index_greatest (h ∷ hs) zero = (greatest_first h hs).0
index_greatest (h ∷ hs) (suc k) = omega (arith, index_greatest hs k, (greatest_first h hs).1)

pub explored : (g : Setting) (ls : List Line) (p : Piece) (d : ℕ) → lines_in g ls ≡ p.lines → IsDepth ls p.first d → Explored p d
explored g ls p d e h =
    let same : length ls ≡ length p.lines = sym (length-map ls (line_in g)) ∙ ap (λ (xs : List code.Line). length xs) e in
    let part = piece_is_part p g ls e in
    let most = h.met (slice_index p.heights) part in record {
      reached = h.reached;
      begins = h.begins;
      within = λ k r. omega (arith, h.within k r, same);
      closed = λ k l is r.
          let m = emitted_from g ls p.lines k l e is in
          subst (λ x. LeadsInto (λ j. h.reached j ≡ true) k x) m.2 (h.closed k m.0 m.1 r);
      low = h.low (slice_index p.heights) part;
      met = omega (arith, most.2, index_greatest p.heights most.0);
    }

-- ---- tiles: how many cells the piece needs, with so many more for what it runs

pub record Tile : Type 0 where
  pub piece : Piece
  pub depth : ℕ
  pub more : ℕ
  pub found : Explored piece depth

abbrev pub need_of : Tile → ℕ
need_of t = t.depth + t.more

abbrev pub pieces_in : List Tile → List Piece
pieces_in [] = []
pieces_in (t ∷ ts) = t.piece ∷ pieces_in ts

abbrev pub needs_in : List Tile → List ℕ
needs_in [] = []
needs_in (t ∷ ts) = alike (need_of t) t.piece.heights ++ needs_in ts

-- the lines that ways lead to
abbrev pub reach : List Tile → ℕ → Bool
reach [] pc = false
reach (t ∷ ts) pc = if nat_lt pc (length t.piece.lines) then t.found.reached pc else reach ts (pc - length t.piece.lines)

if_true : {A : Type 0} (b : Bool) (x y : A) → b ≡ true → (if b then x else y) ≡ x
if_true true x y e = refl
if_true false x y e = cc

if_false : {A : Type 0} (b : Bool) (x y : A) → b ≡ false → (if b then x else y) ≡ y
if_false true x y e = cc
if_false false x y e = refl

less_so : (a b : ℕ) → a < b → nat_lt a b ≡ true
less_so a b lt = grind arith

less_not : (a b : ℕ) → b ≤ a → nat_lt a b ≡ false
less_not a b le = grind arith

so_less : (a b : ℕ) → nat_lt a b ≡ true → a < b
so_less a b e = grind arith

not_less : (a b : ℕ) → nat_lt a b ≡ false → b ≤ a
not_less a b e = grind arith

pub reach_within : (ts : List Tile) (pc : ℕ) → reach ts pc ≡ true → pc < length (lines_of (pieces_in ts))
reach_within [] pc e = cc
reach_within (t ∷ ts) pc e = by_test (nat_lt pc (length t.piece.lines)) refl e (reach_within ts (pc - length t.piece.lines))
  where
    all : length (t.piece.lines ++ lines_of (pieces_in ts)) ≡ length t.piece.lines + length (lines_of (pieces_in ts))
    all = length-append t.piece.lines (lines_of (pieces_in ts))

    by_test : (b : Bool) → nat_lt pc (length t.piece.lines) ≡ b → (if b then t.found.reached pc else reach ts (pc - length t.piece.lines)) ≡ true →
        (reach ts (pc - length t.piece.lines) ≡ true → pc - length t.piece.lines < length (lines_of (pieces_in ts))) → pc < length (lines_of (pieces_in (t ∷ ts)))
    by_test true is e rest = omega (arith, so_less pc (length t.piece.lines) is, all)
    by_test false is e rest = omega (arith, rest e, not_less pc (length t.piece.lines) is, all)

-- something of each tile, where it stands
abbrev pub AllTiles : (ℕ → Tile → Type 0) → ℕ → List Tile → Type 0
AllTiles P at [] = Unit {0}
AllTiles P at (t ∷ ts) = P at t × AllTiles P (at + length t.piece.lines) ts

pub tiles_front : (P : ℕ → Tile → Type 0) (at : ℕ) (a b : List Tile) → AllTiles P at (a ++ b) → AllTiles P at a
tiles_front P at [] b h = tt
tiles_front P at (t ∷ a) b h = (h.0, tiles_front P (at + length t.piece.lines) a b h.1)

pub tiles_back : (P : ℕ → Tile → Type 0) (at : ℕ) (a b : List Tile) → AllTiles P at (a ++ b) → AllTiles P (at + length (lines_of (pieces_in a))) b
tiles_back P at [] b h = let e : at ≡ at + 0 = omega arith in subst (λ n. AllTiles P n b) e h
tiles_back P at (t ∷ a) b h =
    let e : at + length t.piece.lines + length (lines_of (pieces_in a)) ≡ at + length (t.piece.lines ++ lines_of (pieces_in a)) =
    omega (arith, length-append t.piece.lines (lines_of (pieces_in a))) in
    subst (λ n. AllTiles P n b) e (tiles_back P (at + length t.piece.lines) a b h.1)

pub alike_length : (c : ℕ) (hs : List ℕ) → length (alike c hs) ≡ length hs
alike_length c [] = refl
alike_length c (h ∷ hs) = ap suc (alike_length c hs)

-- ---- ways, from where the piece stands

module _ (P Q : ℕ → Type 0) (at k : ℕ) (on : (j : ℕ) → P j → Q (at + j)) where
  next_on : (o : Option ℕ) → IntoNext P k o → IntoNext Q (at + k) o
  next_on None h = tt
  next_on (Some left) h = let e : at + (k + 1) ≡ at + k + 1 = omega arith in subst Q e (on (k + 1) h)

  far_on : (xs : List Far) → IntoFar P k xs → IntoFar Q (at + k) xs
  far_on [] h = tt
  far_on (x ∷ xs) h = let e : at + (k + 1 + x.over) ≡ at + k + 1 + x.over = omega arith in (subst Q e (on (k + 1 + x.over) h.0), far_on xs h.1)

  leads_from : (x : Instruction) → LeadsInto P k x → LeadsInto Q (at + k) x
  leads_from (i.GoBack d) h =
      let e : at + (k - d) ≡ at + k - d = omega (arith, h.0) in
      (omega (arith, h.0), subst Q e (on (k - d) h.1))
  leads_from x h = record { next = next_on (effect x).next h.next; far = far_on (effect x).far h.far }

module _ (R : ℕ → Bool) (height N : ℕ → ℕ) where
  pub record TileAt (at : ℕ) (t : Tile) : Type 0 where
    pub reached : (k : ℕ) → k < length t.piece.lines → R (at + k) ≡ t.found.reached k
    pub heights : HeightsAt height at t.piece.heights
    pub needs : HeightsAt N at (alike (need_of t) t.piece.heights)

  pub tiles_at : (ts : List Tile) (at : ℕ) → ((k : ℕ) → R (at + k) ≡ reach ts k) → HeightsAt height at (heights_of (pieces_in ts)) → HeightsAt N at (needs_in ts) →
      AllTiles TileAt at ts
  tiles_at [] at r h n = tt
  tiles_at (t ∷ ts) at r h n =
      let len = length t.piece.lines in
      let hs = t.piece.heights in
      let many = as_many t.piece in
      let same : at + length hs ≡ at + len = omega (arith, many) in
      let same' : at + length (alike (need_of t) hs) ≡ at + len = omega (arith, many, alike_length (need_of t) hs) in
      let rest : (k : ℕ) → R (at + len + k) ≡ reach ts k = λ k.
      let e : at + len + k ≡ at + (len + k) = omega arith in
      let back : len + k - len ≡ k = omega arith in
      ap R e ∙ r (len + k) ∙ if_false (nat_lt (len + k) len) (t.found.reached (len + k)) (reach ts (len + k - len)) (less_not (len + k) len (omega arith)) ∙ ap (reach ts) back in (
        record {
          reached = λ k lt. r k ∙ if_true (nat_lt k len) (t.found.reached k) (reach ts (k - len)) (less_so k len lt);
          heights = heights_front height at hs (heights_of (pieces_in ts)) h;
          needs = heights_front N at (alike (need_of t) hs) (needs_in ts) n;
        },
        tiles_at ts (at + len) rest (subst (λ m. HeightsAt height m (heights_of (pieces_in ts))) same (heights_back height at hs (heights_of (pieces_in ts)) h))
            (subst (λ m. HeightsAt N m (needs_in ts)) same' (heights_back N at (alike (need_of t) hs) (needs_in ts) n)),
      )

  -- what is known of a line of a piece that needs so much
  pub record LineAt (depth need pc : ℕ) (l : code.Line) : Type 0 where
    pub at : IsAt height pc l.act
    pub kept : IsKept N pc l.act
    pub same : N pc ≡ need
    pub closed : R pc ≡ true → LeadsInto (λ j. R j ≡ true) pc l.act
    pub low : R pc ≡ true → height pc ≤ depth

  height_index : (at : ℕ) (hs : List ℕ) (k : ℕ) → HeightsAt height at hs → k < length hs → height (at + k) ≡ slice_index hs k
  height_index at [] k h lt = absurd (omega arith)
  height_index at (x ∷ hs) zero h lt = let e : at + 0 ≡ at = omega arith in ap height e ∙ h.0
  height_index at (x ∷ hs) (suc k) h lt = let e : at + suc k ≡ at + 1 + k = omega arith in ap height e ∙ height_index (at + 1) hs k h.1 (omega arith)

  pub tile_line : (at : ℕ) (t : Tile) → TileAt at t → (k : ℕ) (l : code.Line) → slice_get t.piece.lines k ≡ Some l → LineAt t.depth (need_of t) (at + k) l
  tile_line at t h k l is =
      let p = t.piece in
      let all = own height N (need_of t) at p.lines p.heights p.first p.is h.heights h.needs in
      let one = all_of (Own height N (greatest p.heights) (need_of t)) p.lines at k l all.1 is in
      let lt = slice_get_within p.lines k l is in
      let on : (j : ℕ) → t.found.reached j ≡ true → R (at + j) ≡ true = λ j r. h.reached j (t.found.within j r) ∙ r in record {
        at = one.at;
        kept = one.kept;
        same = one.same;
        closed = λ r. leads_from (λ j. t.found.reached j ≡ true) (λ j. R j ≡ true) at k on l.act (t.found.closed k l is (sym (h.reached k lt) ∙ r));
        low = λ r.
            let there = height_index at p.heights k h.heights (omega (arith, lt, as_many p)) in
            omega (arith, there, t.found.low k (sym (h.reached k lt) ∙ r));
      }

  -- a line of the whole is one of a tile
  pub record InTile (P : ℕ → Tile → Type 0) (pc : ℕ) (l : code.Line) : Type 0 where
    pub at : ℕ
    pub tile : Tile
    pub holds : P at tile
    pub k : ℕ
    pub is : slice_get tile.piece.lines k ≡ Some l
    pub here : at + k ≡ pc

split_get : (a b : List code.Line) (k : ℕ) (l : code.Line) → slice_get (a ++ b) k ≡ Some l → (slice_get a k ≡ Some l) ⊎ ((length a ≤ k) × (slice_get b (k - length a) ≡ Some l))
split_get [] b k l e = let z : k ≡ k - 0 = omega arith in inr (omega arith, subst (λ n. slice_get b n ≡ Some l) z e)
split_get (x ∷ a) b zero l e = inl e
split_get (x ∷ a) b (suc k) l e = by_side (split_get a b k l e)
  where
    by_side : (slice_get a k ≡ Some l) ⊎ ((length a ≤ k) × (slice_get b (k - length a) ≡ Some l)) →
        (slice_get a k ≡ Some l) ⊎ ((length (x ∷ a) ≤ suc k) × (slice_get b (suc k - length (x ∷ a)) ≡ Some l))
    by_side (inl h) = inl h
    by_side (inr h) = let z : k - length a ≡ suc k - length (x ∷ a) = omega arith in inr (omega (arith, h.0), subst (λ n. slice_get b n ≡ Some l) z h.1)

pub line_in_tile : (R : ℕ → Bool) (height N : ℕ → ℕ) (P : ℕ → Tile → Type 0) (ts : List Tile) (at k : ℕ) (l : code.Line) → AllTiles P at ts → slice_get (lines_of (pieces_in ts)) k ≡ Some l →
    InTile R height N P (at + k) l
line_in_tile R height N P [] at k l h e = cc
line_in_tile R height N P (t ∷ ts) at k l h e = by_side (split_get t.piece.lines (lines_of (pieces_in ts)) k l e)
    (λ is. line_in_tile R height N P ts (at + length t.piece.lines) (k - length t.piece.lines) l h.1 is)
  where
    by_side : (slice_get t.piece.lines k ≡ Some l) ⊎ ((length t.piece.lines ≤ k) × (slice_get (lines_of (pieces_in ts)) (k - length t.piece.lines) ≡ Some l)) →
        (slice_get (lines_of (pieces_in ts)) (k - length t.piece.lines) ≡ Some l → InTile R height N P (at + length t.piece.lines + (k - length t.piece.lines)) l) →
        InTile R height N P (at + k) l
    by_side (inl is) more = record { at = at; tile = t; holds = h.0; k = k; is = is; here = refl }
    by_side (inr b) more =
        let e : at + length t.piece.lines + (k - length t.piece.lines) ≡ at + k = omega (arith, b.0) in
        subst (λ n. InTile R height N P n l) e (more b.1)
