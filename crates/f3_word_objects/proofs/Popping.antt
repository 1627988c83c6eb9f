-- Cells that are taken one after another.
use Rattle.std.proofs.Common.{◌≡◌, ◌∙◌, ℕ, zero, suc, ◌+◌, ◌-◌, ◌<◌, ◌≤◌, List, [], ◌∷◌, ◌++◌, length, map, reverse, take, drop, refl, sym, ap, subst, arith, length-take-le}
use Rattle.std.proofs.lemmas.List.{reverse-append, length-reverse, length-drop}
use Rattle.std.specs.Prelude.{slice_set}
use Rattle.f3_cells.specs.declared.cell.Chosen.{Chosen}
use Rattle.f3_word_cells.specs.declared.cell.Cell.{Cell}
use Rattle.f3_word_cells.specs.declared.cell.Cell.TheVariants as c
use Rattle.f3_word_cells.specs.declared.state.State.{State}
use Rattle.f3_word_cells.specs.Does.{Keeps}
use Rattle.f3_word_cells.specs.Moves.{Popped}
use Rattle.f3_word_cells.specs.States.{own}
use Rattle.f3_word_objects.specs.Taken.{PoppedAll}

pub popped-own : (zs : List Cell) (old new : State) → PoppedAll zs old new → own old ≡ zs ++ own new
popped-own [] old new h = ap own (sym h)
popped-own (a ∷ zs) old new h = h.1.cells ∙ ap (λ l. a ∷ l) (popped-own zs h.0 new h.2)

abbrev pub choice-cells : List Chosen → List Cell
choice-cells cs = map c.Choice cs

pub popped-pc : (zs : List Cell) (old new : State) → PoppedAll zs old new → new.pc ≡ old.pc
popped-pc [] old new h = ap (λ (w : State). w.pc) h
popped-pc (a ∷ zs) old new h = popped-pc zs h.0 new h.2 ∙ h.1.pc

popped-more : (zs : List Cell) (a : Cell) (old mid new : State) → PoppedAll zs old mid → Popped a mid new → PoppedAll (zs ++ a ∷ []) old new
popped-more [] a old mid new h more = (new, subst (λ (w : State). Popped a w new) h more, refl)
popped-more (b ∷ zs) a old mid new h more = (h.0, h.1, popped-more zs a h.0 mid new h.2 more)

pub keeps-then : (a b d : State) → Keeps a b → Keeps b d → Keeps a d
keeps-then a b d g h = record {
  cells = h.cells ∙ g.cells;
  names = h.names ∙ g.names;
  callers = h.callers ∙ g.callers;
  blocks = h.blocks ∙ g.blocks;
  levels = h.levels ∙ g.levels;
}

-- the last i of n are taken
pub record Taking (n i : ℕ) (cs : List Chosen) (old now : State) : Type 0 where
  pub within : n ≤ length cs
  pub popped : PoppedAll (map c.Choice (reverse (drop (n - i) (take n cs)))) old now
  pub keeps : Keeps old now

taken-set : (j n : ℕ) (cs : List Chosen) (x : Chosen) → j < n → n ≤ length cs → drop j (take n (slice_set cs j x)) ≡ x ∷ drop (suc j) (take n cs)
taken-set j zero cs x lt le = absurd (omega arith)
taken-set j (suc n) [] x lt le = absurd (omega arith)
taken-set zero (suc n) (y ∷ cs) x lt le = refl
taken-set (suc j) (suc n) (y ∷ cs) x lt le = taken-set j n cs x (omega arith) (omega arith)

set-many : (cs : List Chosen) (j : ℕ) (x : Chosen) → length (slice_set cs j x) ≡ length cs
set-many [] j x = refl
set-many (y ∷ cs) zero x = refl
set-many (y ∷ cs) (suc j) x = let e = set-many cs j x in omega arith

mapped-append : (xs ys : List Chosen) → map c.Choice (xs ++ ys) ≡ map c.Choice xs ++ map c.Choice ys
mapped-append [] ys = refl
mapped-append (x ∷ xs) ys = ap (λ l. c.Choice x ∷ l) (mapped-append xs ys)

nothing-left : (n : ℕ) (cs : List Chosen) → drop n (take n cs) ≡ []
nothing-left zero cs = refl
nothing-left (suc n) [] = refl
nothing-left (suc n) (c ∷ cs) = nothing-left n cs

pub taking-none : (n : ℕ) (cs : List Chosen) (old : State) → n ≤ length cs → Keeps old old → Taking n 0 cs old old
taking-none n cs old le keeps = record {
  within = le;
  popped = subst (λ (l : List Chosen). PoppedAll (map c.Choice (reverse l)) old old) (sym (ap (λ k. drop k (take n cs)) (let e : n - 0 ≡ n = omega arith in e) ∙ nothing-left n cs)) refl;
  keeps = keeps;
}

pub taking-more : (n i : ℕ) (cs : List Chosen) (x : Chosen) (old mid new : State) → i < n → Taking n i cs old mid → Popped (c.Choice x) mid new → Keeps mid new
    → Taking n (i + 1) (slice_set cs (n - 1 - i) x) old new
taking-more n i cs x old mid new lt h popped keeps =
    let j : ℕ = n - 1 - i in
    let next : n - (i + 1) ≡ j = omega arith in
    let here : suc j ≡ n - i = omega arith in
    let rest : List Chosen = drop (n - i) (take n cs) in
    let set : drop (n - (i + 1)) (take n (slice_set cs j x)) ≡ x ∷ rest =
    ap (λ k. drop k (take n (slice_set cs j x))) next ∙ taken-set j n cs x (omega arith) h.within ∙ ap (λ k. x ∷ drop k (take n cs)) here in
    let cells : map c.Choice (reverse (drop (n - (i + 1)) (take n (slice_set cs j x)))) ≡ map c.Choice (reverse rest) ++ c.Choice x ∷ [] =
    ap (λ l. map c.Choice (reverse l)) set ∙ ap (map c.Choice) (reverse-append (x ∷ []) rest) ∙ mapped-append (reverse rest) (x ∷ []) in
    record {
      within = let e = set-many cs j x in let w = h.within in omega arith;
      popped = subst (λ (zs : List Cell). PoppedAll zs old new) (sym cells) (popped-more (map c.Choice (reverse rest)) (c.Choice x) old mid new h.popped popped);
      keeps = keeps-then old mid new h.keeps keeps;
    }

-- a choice is still there
same-front : (xs ys us vs : List Cell) → xs ++ us ≡ ys ++ vs → length xs ≤ length ys → us ≡ drop (length xs) ys ++ vs
same-front [] ys us vs e le = e
same-front (x ∷ xs) [] us vs e le = absurd (omega arith)
same-front (x ∷ xs) (y ∷ ys) us vs e le = same-front xs ys us vs (let t : xs ++ us ≡ ys ++ vs = cc in t) (omega arith)

next-choice : (k : ℕ) (cs : List Chosen) (rest : List Cell) → k < length cs → (x : Chosen) × (more : List Cell) × (drop k (map c.Choice cs) ++ rest ≡ c.Choice x ∷ more)
next-choice k [] rest lt = absurd (omega arith)
next-choice zero (x ∷ cs) rest lt = (x, map c.Choice cs ++ rest, refl)
next-choice (suc k) (x ∷ cs) rest lt = next-choice k cs rest (omega arith)

mapped-many : (cs : List Chosen) → length (map c.Choice cs) ≡ length cs
mapped-many [] = refl
mapped-many (x ∷ cs) = let e = mapped-many cs in omega arith

reverse-many : (cs : List Chosen) → length (reverse cs) ≡ length cs
reverse-many cs = length-reverse cs

left-many : (n i : ℕ) (cs : List Chosen) → n ≤ length cs → i ≤ n → length (drop (n - i) (take n cs)) ≡ i
left-many n i cs le lt = let a = length-drop (n - i) (take n cs) in let b = length-take-le n cs le in omega arith

pub choice-left : (n i : ℕ) (cs : List Chosen) (old mid : State) → i < n → Taking n i cs old mid → (hs : List Chosen) (rest : List Cell) → length hs ≡ n → own old ≡ map c.Choice hs ++ rest
    → (x : Chosen) × (more : List Cell) × (own mid ≡ c.Choice x ∷ more)
choice-left n i cs old mid lt h hs rest many there =
    let taken : List Cell = map c.Choice (reverse (drop (n - i) (take n cs))) in
    let size : length taken ≡ i = mapped-many (reverse (drop (n - i) (take n cs))) ∙ reverse-many (drop (n - i) (take n cs)) ∙ left-many n i cs h.within (omega arith) in
    let all : length (map c.Choice hs) ≡ n = mapped-many hs ∙ many in
    let left = same-front taken (map c.Choice hs) (own mid) rest (sym (popped-own taken old mid h.popped) ∙ there) (omega arith) in
    let next = next-choice (length taken) hs rest (omega arith) in
    (next.0, next.1, left ∙ next.2)
