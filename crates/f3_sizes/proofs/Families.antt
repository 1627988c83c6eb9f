-- Pieces stand in the code that was emitted.
use Rattle.std.proofs.Common.{◌≡◌, ◌≤◌, ◌<◌, ℕ, zero, suc, ◌+◌, ◌-◌, List, [], ◌∷◌, ◌++◌, length, take, drop, Some, refl, sym, ap, ◌∙◌, subst, arith, append_assoc, length-append}
use Rattle.std.specs.Prelude.{slice_get, slice_index, slice_range}
use Rattle.std.proofs.Math.Seq.{drop-append_seam}
use Rattle.std.proofs.lemmas.List.{length-map, take-map, drop-map}
use Rattle.f3_meaning_whole.specs.Act.{Setting}
use Rattle.f3_code.specs.State as code
use Rattle.f3_gen_values.specs.declared.line.Line.{Line}
use Rattle.f3_gen_values.specs.Emitted.{line_in, lines_in}
use Rattle.f3_sizes.specs.Part.{ArePart}
use Rattle.f3_sizes.specs.Parts.{first_of, behind, part_lines, AreParts}
use Rattle.f3_sizes.proofs.Pieces.{Piece, lines_of, starts_of, piece_is_part}

pub take_front : (a b : List code.Line) → take (length a) (a ++ b) ≡ a
take_front [] b = refl
take_front (x ∷ a) b = ap (λ ls. x ∷ ls) (take_front a b)

-- from one line to another stands a piece
pub record StandsAt (g : Setting) (ls : List Line) (start end : ℕ) (p : Piece) : Type 0 where
  pub order : start ≤ end
  pub within : end ≤ length ls
  pub are : lines_in g (slice_range ls start end) ≡ p.lines

pub first_start : (at : ℕ) (ps : List Piece) (end : ℕ) → end ≡ at + length (lines_of ps) → first_of (starts_of at ps) end ≡ at
first_start at [] end e = omega (arith, e)
first_start at (p ∷ ps) end e = refl

one_stands : (g : Setting) (ls : List Line) (pre rest : List code.Line) (p : Piece) (at end : ℕ) → lines_in g ls ≡ pre ++ (p.lines ++ rest) → at ≡ length pre →
    end ≡ at + length p.lines → StandsAt g ls at end p
one_stands g ls pre rest p at end e here there =
    let all : length ls ≡ length pre + (length p.lines + length rest) = sym (length-map ls (line_in g)) ∙ ap (λ (xs : List code.Line). length xs) e
    ∙ length-append pre (p.lines ++ rest) ∙ ap (λ n. length pre + n) (length-append p.lines rest) in
    let n : end - at ≡ length p.lines = omega (arith, there) in
    let behind : drop at (lines_in g ls) ≡ p.lines ++ rest = ap (λ k. drop k (lines_in g ls)) here ∙ ap (λ xs. drop (length pre) xs) e ∙ drop-append_seam pre (p.lines ++ rest) in
    let maps : lines_in g (slice_range ls at end) ≡ take (end - at) (drop at (lines_in g ls)) =
    sym (take-map (line_in g) (end - at) (drop at ls)) ∙ ap (λ xs. take (end - at) xs) (sym (drop-map (line_in g) at ls)) in record {
      order = omega (arith, there);
      within = omega (arith, there, here, all);
      are = maps ∙ ap (λ xs. take (end - at) xs) behind ∙ ap (λ k. take k (p.lines ++ rest)) n ∙ take_front p.lines rest;
    }

pub stands : (g : Setting) (ls : List Line) (pre : List code.Line) (ps : List Piece) (post : List code.Line) (at end : ℕ) → lines_in g ls ≡ pre ++ (lines_of ps ++ post) →
    at ≡ length pre → end ≡ at + length (lines_of ps) → (i : ℕ) (p : Piece) → slice_get ps i ≡ Some p →
    StandsAt g ls (slice_index (starts_of at ps) i) (behind (starts_of at ps) end i) p
stands g ls pre [] post at end e here there i p is = cc
stands g ls pre (q ∷ ps) post at end e here there zero p is =
    let same : q ≡ p = cc in
    let e' = e ∙ ap (λ xs. pre ++ xs) (append_assoc q.lines (lines_of ps) post) in
    let n : end ≡ at + length q.lines + length (lines_of ps) = there ∙ omega (arith, length-append q.lines (lines_of ps)) in
    subst (λ p. StandsAt g ls at (first_of (starts_of (at + length q.lines) ps) end) p) same
    (one_stands g ls pre (lines_of ps ++ post) q at (first_of (starts_of (at + length q.lines) ps) end) e' here (first_start (at + length q.lines) ps end n))
stands g ls pre (q ∷ ps) post at end e here there (suc i) p is =
    let e' = e ∙ ap (λ xs. pre ++ xs) (append_assoc q.lines (lines_of ps) post) ∙ sym (append_assoc pre q.lines (lines_of ps ++ post)) in
    let here' : at + length q.lines ≡ length (pre ++ q.lines) = omega (arith, here, length-append pre q.lines) in
    let n : end ≡ at + length q.lines + length (lines_of ps) = there ∙ omega (arith, length-append q.lines (lines_of ps)) in
    let r = stands g ls (pre ++ q.lines) ps post (at + length q.lines) end e' here' n i p is in
    let one : suc (i + 1) ≡ suc i + 1 = omega arith in
    subst (λ k. StandsAt g ls (slice_index (starts_of (at + length q.lines) ps) i) (first_of (drop k (at ∷ starts_of (at + length q.lines) ps)) end) p) one r

pub starts_length : (at : ℕ) (ps : List Piece) → length (starts_of at ps) ≡ length ps
starts_length at [] = refl
starts_length at (p ∷ ps) = ap suc (starts_length (at + length p.lines) ps)

-- each of them begins with so many cells
abbrev pub AllBegin : ℕ → List Piece → Type 0
AllBegin first [] = Unit {0}
AllBegin first (p ∷ ps) = (p.first ≡ first) × AllBegin first ps

pub begin_at : (first : ℕ) (ps : List Piece) (i : ℕ) (p : Piece) → AllBegin first ps → slice_get ps i ≡ Some p → p.first ≡ first
begin_at first [] i p h e = cc
begin_at first (q ∷ ps) zero p h e = let same : q ≡ p = cc in subst (λ (x : Piece). x.first ≡ first) same h.0
begin_at first (q ∷ ps) (suc i) p h e = begin_at first ps i p h.1 e

piece_of : (ps : List Piece) (i : ℕ) → i < length ps → (p : Piece) × (slice_get ps i ≡ Some p)
piece_of [] i lt = absurd (omega arith)
piece_of (p ∷ ps) zero lt = (p, refl)
piece_of (p ∷ ps) (suc i) lt = piece_of ps i (omega arith)

pub are_parts : (g : Setting) (ls : List Line) (pre : List code.Line) (ps : List Piece) (post : List code.Line) (at end first : ℕ) (starts : List ℕ) →
    lines_in g ls ≡ pre ++ (lines_of ps ++ post) → at ≡ length pre → end ≡ at + length (lines_of ps) → AllBegin first ps → starts_of at ps ≡ starts →
    AreParts ls starts end first
are_parts g ls pre ps post at end first starts e here there begin same = subst (λ ss. AreParts ls ss end first) same (λ i lt.
    let q = piece_of ps i (omega (arith, lt, starts_length at ps)) in
    let s = stands g ls pre ps post at end e here there i q.0 q.1 in record {
      order = s.order;
      within = s.within;
      height = slice_index q.0.heights;
      part = subst (λ n. ArePart (slice_index q.0.heights) n (part_lines ls (starts_of at ps) end i)) (begin_at first ps i q.0 begin q.1)
          (piece_is_part q.0 g (part_lines ls (starts_of at ps) end i) s.are);
    })
