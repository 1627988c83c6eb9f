-- Subscripts and triplets are taken from above an object.
use Rattle.std.proofs.Common.{◌≡◌, ◌∙◌, ℕ, ◌≤◌, List, [], ◌∷◌, ◌++◌, length, map, reverse, take, refl, sym, ap, arith, length-take-le}
use Rattle.std.specs.Prelude.{None}
use Rattle.std.proofs.lemmas.List.{reverse-append, length-reverse, append-nil}
use Rattle.f3_program.specs.declared.program.Program.{Program}
use Rattle.f3_live_blocks.specs.Blocks.{Live}
use Rattle.f3_meaning_whole.specs.Act as act
use Rattle.f3_code.specs.State as s
use Rattle.f3_cell_kinds.specs.Types.{CellType}
use Rattle.f3_cell_kinds.specs.Types as cell
use Rattle.f3_cells.specs.declared.cell.Chosen.{Chosen}
use Rattle.f3_cells.specs.Cells.{chosen_of}
use Rattle.f3_rooms.specs.Rooms.{Rooms}
use Rattle.f3_word_cells.specs.declared.cell.Cell.{Cell}
use Rattle.f3_word_cells.specs.declared.cell.Cell.TheVariants as c
use Rattle.f3_word_cells.specs.declared.state.State.{State}
use Rattle.f3_word_cells.specs.Cells.{IsCell}
use Rattle.f3_word_cells.specs.States.{IsKnown, Stands, own}
use Rattle.f3_word_cells.proofs.Amid.{Amid, amid_first}
use Rattle.f3_word_objects.specs.Taken.{PoppedAll, TookChoices}
use Rattle.f3_word_objects.proofs.Choosing.{ChoicesOnTop, cells-there, choices-taken}
use Rattle.f3_word_objects.proofs.Tops.{top-cell}

-- how many are chosen
pub chosen-many : (xs : List Chosen) → length (map chosen_of xs) ≡ length xs
chosen-many [] = refl
chosen-many (b ∷ xs) = let e = chosen-many xs in omega arith

module _ (p : Program) (t : s.State) (m : Live) (old : State) (x : Rooms) (n : ℕ) (k : CellType) (rest : List CellType) (st : Stands p m old x t) (h : ChoicesOnTop p t n k rest) where
  abbrev pub stack : List s.Cell
  stack = map s.Choice h.choices ++ s.Object h.reference ∷ h.below

  pub first : Amid p t m old old x (map cell.Choice h.triplets ++ (k ∷ rest)) stack (t.world).store []
  first = amid_first p t m old x (map cell.Choice h.triplets ++ (k ∷ rest)) stack st h.before h.split

  pub in-memory : (cs : List Chosen) × (a : Cell) × (more : List Cell) × (own old ≡ map c.Choice cs ++ a ∷ more) × (length cs ≡ length h.choices)
      × IsCell p x m old.names.items.items a (s.Object h.reference) × IsKnown p k a
  in-memory = cells-there p m _ x old.names.items.items old.here t.here (own old) h.triplets k rest h.choices h.reference h.below (h.many ∙ sym h.count) first.known first.cells

  -- the choices are there
  pub choices-there : (mid : State) → TookChoices n None old mid → ⊥
  choices-there mid none =
      let f = in-memory in
      none f.0 (f.1 ∷ f.2) (f.4 ∙ h.count) f.3

  -- they are taken
  module _ (mid : State) (ch : List Chosen) (all : n ≤ length ch) (choices : PoppedAll (map c.Choice (reverse (take n ch))) old mid) where
    abbrev pub taken : List act.Chosen
    taken = map chosen_of (take n ch)

    pub taken-many : length taken ≡ n
    taken-many = chosen-many (take n ch) ∙ length-take-le n ch all

    pub afterwards : (map chosen_of (reverse (take n ch)) ≡ h.choices) × Amid p t m old mid x (k ∷ rest) (s.Object h.reference ∷ h.below) (t.world).store []
    afterwards = choices-taken p t m old old mid x (k ∷ rest) h.triplets h.choices (s.Object h.reference ∷ h.below) (t.world).store (reverse (take n ch))
        (length-reverse (take n ch) ∙ length-take-le n ch all ∙ sym h.count) (h.many ∙ sym h.count) first choices

    -- in the order of the dimensions
    pub in-order : reverse h.choices ++ [] ≡ taken
    in-order = append-nil (reverse h.choices) ∙ ap reverse (sym afterwards.0) ∙ turned (take n ch)
      where
        mapped : (xs ys : List Chosen) → map chosen_of (xs ++ ys) ≡ map chosen_of xs ++ map chosen_of ys
        mapped [] ys = refl
        mapped (a ∷ xs) ys = ap (λ l. chosen_of a ∷ l) (mapped xs ys)

        turned : (xs : List Chosen) → reverse (map chosen_of (reverse xs)) ≡ map chosen_of xs
        turned [] = refl
        turned (a ∷ xs) =
            ap (λ l. reverse (map chosen_of l)) (reverse-append (a ∷ []) xs) ∙ ap reverse (mapped (reverse xs) (a ∷ []))
            ∙ reverse-append (map chosen_of (reverse xs)) (chosen_of a ∷ []) ∙ ap (λ l. chosen_of a ∷ l) (turned xs)

    -- the cell beneath them
    pub cell-beneath : (a : Cell) × (more : List Cell) × (own mid ≡ a ∷ more) × IsCell p x m old.names.items.items a (s.Object h.reference) × IsKnown p k a
    cell-beneath = top-cell p m _ x old.names.items.items old.here t.here (own mid) (s.Object h.reference) h.below k rest afterwards.1.known afterwards.1.cells
