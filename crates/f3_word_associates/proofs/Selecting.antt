-- Selectors on top.
use Rattle.std.proofs.Common.{◌≡◌, ◌∙◌, ℕ, zero, suc, ◌+◌, true, List, [], ◌∷◌, ◌++◌, length, map, reverse, append_assoc, refl, sym, ap, subst, arith}
use Rattle.std.specs.Prelude.{⊤}
use Rattle.std.proofs.lemmas.List.{reverse-append}
use Rattle.f3_program.specs.declared.declarations.Base.{Base}
use Rattle.f3_program.specs.declared.declarations.Constant.{Constant}
use Rattle.f3_program.specs.declared.declarations.Constant.TheVariants as constant
use Rattle.f3_program.specs.declared.declarations.Derived.{Derived}
use Rattle.f3_program.specs.declared.declarations.Kind.{Kind}
use Rattle.f3_program.specs.declared.program.Program.{Program}
use Rattle.f3_live_blocks.specs.Blocks.{Live}
use Rattle.f3_meaning_whole.specs.Act as act
use Rattle.f3_meaning_whole.specs.Arithmetic.{constant_value}
use Rattle.f3_meaning_whole.specs.Exec as exec
use Rattle.f3_meaning_whole.specs.Value.{Value}
use Rattle.f3_code.specs.Machine.{on_many, selector_of}
use Rattle.f3_code.specs.State.{Next}
use Rattle.f3_code.specs.State as s
use Rattle.f3_cell_kinds.specs.Types.{CellType, selectors_on}
use Rattle.f3_cell_kinds.specs.Types as cell
use Rattle.f3_cell_kinds.specs.Holds.{IsOf, IsSelector}
use Rattle.f3_cell_kinds.specs.Laws.{site_at}
use Rattle.f3_rooms.specs.Places.{is_scalar_shape}
use Rattle.f3_rooms.specs.Rooms.{Rooms, Slot}
use Rattle.f3_word_cells.specs.declared.cell.Association.{Association}
use Rattle.f3_word_cells.specs.declared.cell.Association.TheVariants as association
use Rattle.f3_word_cells.specs.declared.cell.Datum.{Datum}
use Rattle.f3_word_cells.specs.declared.cell.Datum.TheVariants as datum
use Rattle.f3_word_cells.specs.declared.cell.Here.{Here}
use Rattle.f3_word_cells.specs.declared.cell.Cell.{Cell}
use Rattle.f3_word_cells.specs.declared.cell.Cell.TheVariants as c
use Rattle.f3_word_cells.specs.declared.state.Name.{Name}
use Rattle.f3_word_cells.specs.Areas.{IsDatum, IsObject, shape_for}
use Rattle.f3_word_cells.specs.Cells.{AreCells, IsAssociation}
use Rattle.f3_word_cells.specs.States.{AreAtHand, AreKnown, AreTight, IsKnown}
use Rattle.f3_word_cells.specs.Does.{IsTold}
use Rattle.f3_word_cells.proofs.OnTop.{AreOf, cells_taken, of_selector}
use Rattle.f3_word_cells.proofs.Scalars.{condition_truth, shape_of_number, shape_of_truth, whole_number}

-- ---- the other way round

-- the last one first, in front of others
abbrev pub onto : {A : Type 0} → List A → List A → List A
onto [] acc = acc
onto (x ∷ xs) acc = onto xs (x ∷ acc)

pub onto_reverse : {A : Type 0} (xs acc : List A) → onto xs acc ≡ reverse xs ++ acc
onto_reverse [] acc = refl
onto_reverse (x ∷ xs) acc =
    onto_reverse xs (x ∷ acc) ∙ sym (ap (λ l. l ++ acc) (reverse-append (x ∷ []) xs) ∙ append_assoc (reverse xs) (x ∷ []) acc)

pub onto_length : {A : Type 0} (xs acc : List A) → length (onto xs acc) ≡ length xs + length acc
onto_length [] acc = omega arith
onto_length (x ∷ xs) acc = let e = onto_length xs (x ∷ acc) in omega (arith, e)

pub onto_map : {A B : Type 0} (f : A → B) (xs acc : List A) → onto (map f xs) (map f acc) ≡ map f (onto xs acc)
onto_map f [] acc = refl
onto_map f (x ∷ xs) acc = onto_map f xs (x ∷ acc)

-- ---- kinds

pub selectors_are : (ks acc : List Kind) → selectors_on ks (map cell.Selector acc) ≡ map cell.Selector (onto ks acc)
selectors_are [] acc = refl
selectors_are (k ∷ ks) acc = selectors_are ks (k ∷ acc)

module _ (types : List Derived) where
  abbrev pub AreSelectors : List Kind → List exec.Association → Type 0
  AreSelectors [] [] = ⊤
  AreSelectors (k ∷ ks) (b ∷ bs) = IsSelector types k b × AreSelectors ks bs
  AreSelectors ks bs = ⊥

  pub selectors_length : (ks : List Kind) (bs : List exec.Association) → AreSelectors ks bs → length bs ≡ length ks
  selectors_length [] [] are = refl
  selectors_length [] (b ∷ bs) are = absurd are
  selectors_length (k ∷ ks) [] are = absurd are
  selectors_length (k ∷ ks) (b ∷ bs) are = let e = selectors_length ks bs are.1 in omega (arith, e)

  above : (ks : List Kind) (tops : List s.Cell) → AreOf types (map cell.Selector ks) tops
      → (bs : List exec.Association) × (tops ≡ map s.Selector bs) × AreSelectors ks bs
  above [] [] are = ([], refl, tt)
  above [] (a ∷ tops) are = absurd are
  above (k ∷ ks) [] are = absurd are
  above (k ∷ ks) (a ∷ tops) are =
      let one = of_selector types k a are.0 in
      let rest = above ks tops are.1 in
      (one.0 ∷ rest.0, ap (λ (y : s.Cell). y ∷ tops) one.1 ∙ ap (λ l. s.Selector one.0 ∷ l) rest.1, (one.2, rest.2))

-- so many selectors, the last one first
pub record SelectorsOnTop (types : List Derived) (ks : List Kind) (stack : List s.Cell) : Type 0 where
  pub found : List exec.Association
  pub below : List s.Cell
  pub split : stack ≡ map s.Selector found ++ below
  pub are : AreSelectors types ks found

pub selectors_on_top : (p : Program) (t : s.State) (ks : List Kind) (rest : List CellType) → IsTold p t
    → (site_at p t.pc).cells ≡ map cell.Selector ks ++ rest → SelectorsOnTop p.types.items ks t.stack
selectors_on_top p t ks rest told e =
    let top = cells_taken p t (map cell.Selector ks) rest told e in
    let h = above p.types.items ks top.tops top.are in
    record { found = h.0; below = top.below; split = top.split ∙ ap (λ l. l ++ top.below) h.1; are = h.2 }

-- ---- the machine over values

pub takes_selectors : (bs xs : List exec.Association) (below : List s.Cell) (n : ℕ) (f : List exec.Association → List s.Cell → Next) → length bs ≡ n
    → on_many selector_of n xs (map s.Selector bs ++ below) f ≡ f (onto bs xs) below
takes_selectors [] xs below zero f e = refl
takes_selectors [] xs below (suc n) f e = absurd (omega (arith, e))
takes_selectors (b ∷ bs) xs below zero f e = absurd (omega (arith, e))
takes_selectors (b ∷ bs) xs below (suc n) f e = takes_selectors bs (b ∷ xs) below n f (omega (arith, e))

-- ---- in memory

module _ (p : Program) (m : Live) (x : Rooms) where
  -- a value may be held for a type
  abbrev pub Suits : Base → Datum → Type 0
  Suits of (datum.Scalar k) = is_scalar_shape (shape_for p of) ≡ true
  Suits of (datum.Block a) = shape_for p a.of ≡ shape_for p of

  abbrev pub IsMet : Association → exec.Association → Type 0
  IsMet (association.Holds of d) (exec.Holds of' v) = (of' ≡ of) × IsDatum p m d v × Suits of d
  IsMet (association.Means z) (exec.Means r) = IsObject p x z r
  IsMet (association.Holds of d) (exec.Means r) = ⊥
  IsMet (association.Means z) (exec.Holds of v) = ⊥

  abbrev pub AreMet : List Association → List exec.Association → Type 0
  AreMet [] [] = ⊤
  AreMet (a ∷ gs) (b ∷ bs) = IsMet a b × AreMet gs bs
  AreMet gs bs = ⊥

  scalar_suits : (k : Kind) (z : Constant) → IsOf p.types.items k (constant_value z) → is_scalar_shape (shape_for p k.of) ≡ true
  scalar_suits k (constant.Number z) of = ap is_scalar_shape (shape_of_number p k.of (whole_number k of.0))
  scalar_suits k (constant.Truth b) of = ap is_scalar_shape (shape_of_truth p k.of (condition_truth k of))

  is_met : (ns : List Name) (k : Kind) (a : Association) (b : exec.Association) → IsAssociation p x m ns a b → IsKnown p (cell.Selector k) (c.Selector a)
      → IsSelector p.types.items k b → IsMet a b
  is_met ns k (association.Holds of (datum.Scalar z)) (exec.Holds of' v) is known selects = (
    is.0,
    is.1,
    subst (λ j. is_scalar_shape (shape_for p j) ≡ true) (selects.0 ∙ is.0)
        (scalar_suits k z (subst (λ (y : Value). IsOf p.types.items k y) is.1 selects.1)),
  )
  is_met ns k (association.Holds of (datum.Block a)) (exec.Holds of' v) is known selects =
      (is.0, is.1, known ∙ ap (shape_for p) (selects.0 ∙ is.0))
  is_met ns k (association.Means z) (exec.Means r) is known selects = is
  is_met ns k (association.Holds of d) (exec.Means r) is known selects = absurd is
  is_met ns k (association.Means z) (exec.Holds of v) is known selects = absurd is

  pub met_onto : (gs accs : List Association) (bs accb : List exec.Association) → AreMet gs bs → AreMet accs accb → AreMet (onto gs accs) (onto bs accb)
  met_onto [] accs [] accb are acc = acc
  met_onto [] accs (b ∷ bs) accb are acc = absurd are
  met_onto (a ∷ gs) accs [] accb are acc = absurd are
  met_onto (a ∷ gs) accs (b ∷ bs) accb are acc = met_onto gs (a ∷ accs) bs (b ∷ accb) are.1 (are.0, acc)

  pub met_length : (gs : List Association) (bs : List exec.Association) → AreMet gs bs → length gs ≡ length bs
  met_length [] [] are = refl
  met_length [] (b ∷ bs) are = absurd are
  met_length (a ∷ gs) [] are = absurd are
  met_length (a ∷ gs) (b ∷ bs) are = let e = met_length gs bs are.1 in omega (arith, e)

  -- the cells on top are selectors
  pub record SelectorsThere (Rest : Rooms → List Name → Type 0) (ns : List Name) (h : Here) (here : act.Here) (zs : List Cell) (bs : List exec.Association)
      (below : List s.Cell) (rest : List CellType) : Type 0 where
    pub selectors : List Association
    pub more : List Cell
    pub split : zs ≡ map c.Selector selectors ++ more
    pub met : AreMet selectors bs
    pub cells : AreCells p m Rest x ns h here more below
    pub known : AreKnown p rest more

  pub selectors_there : (Rest : Rooms → List Name → Type 0) (ns : List Name) (h : Here) (here : act.Here) (zs : List Cell) (bs : List exec.Association)
      (below : List s.Cell) (ks : List Kind) (rest : List CellType) → AreCells p m Rest x ns h here zs (map s.Selector bs ++ below)
      → AreKnown p (map cell.Selector ks ++ rest) zs → AreSelectors p.types.items ks bs → SelectorsThere Rest ns h here zs bs below rest
  selectors_there Rest ns h here zs [] below [] rest are known select =
      record { selectors = []; more = zs; split = refl; met = tt; cells = are; known = known }
  selectors_there Rest ns h here zs [] below (k ∷ ks) rest are known select = absurd select
  selectors_there Rest ns h here zs (b ∷ bs) below [] rest are known select = absurd select
  selectors_there Rest ns h here [] (b ∷ bs) below (k ∷ ks) rest are known select = absurd are
  selectors_there Rest ns h here (c.Selector a ∷ zs) (b ∷ bs) below (k ∷ ks) rest are known select =
      let more = selectors_there Rest ns h here zs bs below ks rest are.2 known.1 select.1 in
      record {
        selectors = a ∷ more.selectors;
        more = more.more;
        split = ap (λ l. c.Selector a ∷ l) more.split;
        met = (is_met ns k a b are.0 known.0 select.0, more.met);
        cells = more.cells;
        known = more.known;
      }
  selectors_there Rest ns h here (a ∷ zs) (b ∷ bs) below (k ∷ ks) rest are known select = absurd are.0

-- names and levels beneath selectors are those with them
pub hand_beneath : (n : ℕ) (h : Here) (gs : List Association) (zs : List Cell) → AreAtHand n h (map c.Selector gs ++ zs) → AreAtHand n h zs
hand_beneath n h [] zs are = are
hand_beneath n h (a ∷ gs) zs are = hand_beneath n h gs zs are

pub tight_beneath : (Rest : List (List Slot) → ℕ → Type 0) (ls : List (List Slot)) (n : ℕ) (gs : List Association) (zs : List Cell)
    → AreTight Rest ls n (map c.Selector gs ++ zs) → AreTight Rest ls n zs
tight_beneath Rest ls n [] zs are = are
tight_beneath Rest ls n (a ∷ gs) zs are = tight_beneath Rest ls n gs zs are
