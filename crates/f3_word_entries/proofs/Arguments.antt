-- The arguments of a call, on top of a stack.
use Rattle.std.proofs.Common.{◌≡◌, ◌∙◌, ℕ, suc, ◌+◌, ◌≤◌, List, [], ◌∷◌, ◌++◌, length, drop, reverse, append_assoc, refl, sym, ap, arith}
use Rattle.std.specs.Prelude.{⊤}
use Rattle.std.proofs.lemmas.List.{append-nil, drop-append-le, length-append, length-drop, length-reverse, reverse-append, reverse-reverse}
use Rattle.f3_program.specs.declared.declarations.Derived.{Derived}
use Rattle.f3_program.specs.declared.program.Program.{Program}
use Rattle.f3_meaning_whole.specs.Act as m
use Rattle.f3_meaning_whole.specs.Formed.{Given}
use Rattle.f3_code.specs.State as s
use Rattle.f3_code.specs.State.{Next}
use Rattle.f3_code.specs.Machine.{argument_of, on_many}
use Rattle.f3_cell_kinds.specs.Types.{CellType, arguments_on}
use Rattle.f3_cell_kinds.specs.Types as cell
use Rattle.f3_cell_kinds.specs.Laws.{site_at}
use Rattle.f3_cell_kinds.proofs.Reaching.{AllPassed}
use Rattle.f3_rooms.specs.Rooms.{Rooms, Slot}
use Rattle.f3_live_blocks.specs.Blocks.{Live}
use Rattle.f3_word_cells.specs.declared.cell.Here.{Here}
use Rattle.f3_word_cells.specs.declared.cell.Cell.{Cell}
use Rattle.f3_word_cells.specs.declared.cell.Cell.TheVariants as c
use Rattle.f3_word_cells.specs.declared.state.Name.{Name}
use Rattle.f3_word_cells.specs.Cells.{AreCells, IsPassed}
use Rattle.f3_word_cells.specs.Does.{IsTold}
use Rattle.f3_word_cells.specs.States.{AreAtHand, AreKnown, AreTight, IsKnown, cells_from}
use Rattle.f3_word_cells.proofs.OnTop.{AreOf, cells_taken, of_argument}

-- arguments on a stack, the last one on top
abbrev pub passed_on : List m.Passed → List s.Cell → List s.Cell
passed_on [] st = st
passed_on (a ∷ ps) st = passed_on ps (s.Argument a ∷ st)

passed_append : (ps : List m.Passed) (xs ys : List s.Cell) → passed_on ps xs ++ ys ≡ passed_on ps (xs ++ ys)
passed_append [] xs ys = refl
passed_append (a ∷ ps) xs ys = passed_append ps (s.Argument a ∷ xs) ys

-- ---- over values

module _ (types : List Derived) where
  record Taken (gs : List Given) (hs : List CellType) (tops : List s.Cell) : Type 0 where
    pub passed : List m.Passed
    pub rest : List s.Cell
    pub split : tops ≡ passed_on passed rest
    pub are : AllPassed types gs passed
    pub others : AreOf types hs rest

  taken : (gs : List Given) (hs : List CellType) (tops : List s.Cell) → AreOf types (arguments_on gs hs) tops → Taken gs hs tops
  taken [] hs tops are = record { passed = []; rest = tops; split = refl; are = tt; others = are }
  taken (g ∷ gs) hs tops are =
      let more = taken gs (cell.Argument g ∷ hs) tops are in
      one more.passed more.rest more.split more.are more.others
    where
      one : (ps : List m.Passed) (rest : List s.Cell) → tops ≡ passed_on ps rest → AllPassed types gs ps → AreOf types (cell.Argument g ∷ hs) rest → Taken (g ∷ gs) hs tops
      one ps [] e are others = absurd others
      one ps (b ∷ rest) e are others =
          let is = of_argument types g b others.0 in
          record { passed = is.0 ∷ ps; rest = rest; split = e ∙ ap (λ z. passed_on ps (z ∷ rest)) is.1; are = (is.2, are); others = others.1 }

  none_left : (rest : List s.Cell) → AreOf types [] rest → rest ≡ []
  none_left [] are = refl
  none_left (b ∷ rest) are = absurd are

pub record AreArguments (types : List Derived) (gs : List Given) (stack : List s.Cell) : Type 0 where
  pub passed : List m.Passed
  pub below : List s.Cell
  pub split : stack ≡ passed_on passed below
  pub are : AllPassed types gs passed

-- the arguments of a call are on the stack
pub arguments_on_top : (p : Program) (t : s.State) (gs : List Given) (rest : List CellType) → IsTold p t → (site_at p t.pc).cells ≡ arguments_on gs [] ++ rest
    → AreArguments p.types.items gs t.stack
arguments_on_top p t gs rest told e =
    let h = cells_taken p t (arguments_on gs []) rest told e in
    let more = taken p.types.items gs [] h.tops h.are in
    let none = none_left p.types.items more.rest more.others in
    record {
      passed = more.passed;
      below = h.below;
      split = h.split ∙ ap (λ zs. zs ++ h.below) more.split ∙ passed_append more.passed more.rest h.below ∙ ap (λ zs. passed_on more.passed (zs ++ h.below)) none;
      are = more.are;
    }

pub passed_many : (types : List Derived) (gs : List Given) (ps : List m.Passed) → AllPassed types gs ps → length ps ≡ length gs
passed_many types [] [] are = refl
passed_many types [] (a ∷ ps) are = absurd are
passed_many types (g ∷ gs) [] are = absurd are
passed_many types (g ∷ gs) (a ∷ ps) are = ap suc (passed_many types gs ps are.1)

many_taken : (f : List m.Passed → List s.Cell → Next) (ps : List m.Passed) (j : ℕ) (xs : List m.Passed) (st : List s.Cell)
    → on_many argument_of (length ps + j) xs (passed_on ps st) f ≡ on_many argument_of j (ps ++ xs) st f
many_taken f [] j xs st = let e : 0 + j ≡ j = omega arith in ap (λ n. on_many argument_of n xs st f) e
many_taken f (a ∷ ps) j xs st =
    let e : suc (length ps) + j ≡ length ps + suc j = omega arith in
    ap (λ n. on_many argument_of n xs (passed_on ps (s.Argument a ∷ st)) f) e ∙ many_taken f ps (suc j) xs (s.Argument a ∷ st)

-- an instruction takes them
pub arguments_taken : (f : List m.Passed → List s.Cell → Next) (n : ℕ) (ps : List m.Passed) (st : List s.Cell) → length ps ≡ n
    → on_many argument_of n [] (passed_on ps st) f ≡ f ps st
arguments_taken f n ps st many =
    let e : n ≡ length ps + 0 = omega (arith, many) in
    ap (λ k. on_many argument_of k [] (passed_on ps st) f) e ∙ many_taken f ps 0 [] st ∙ ap (λ qs. f qs st) (append-nil ps)

-- ---- in memory

abbrev pub cells_on : List Cell → List Cell → List Cell
cells_on [] zs = zs
cells_on (a ∷ cs) zs = cells_on cs (a ∷ zs)

pub cells_on_is : (cs zs : List Cell) → cells_on cs zs ≡ reverse cs ++ zs
cells_on_is [] zs = refl
cells_on_is (a ∷ cs) zs =
    cells_on_is cs (a ∷ zs)
    ∙ sym (ap (λ l. l ++ zs) (reverse-append (a ∷ []) cs) ∙ append_assoc (reverse cs) (a ∷ []) zs)

module _ (p : Program) (x : Rooms) (live : Live) (ns : List Name) where
  -- an argument over values and in memory
  abbrev pub IsArgument : Given → m.Passed → Cell → Type 0
  IsArgument g a (c.Argument b) = IsPassed p x live ns b a × IsKnown p (cell.Argument g) (c.Argument b)
  IsArgument g a z = ⊥

  abbrev pub Correspond : List Given → List m.Passed → List Cell → Type 0
  Correspond [] [] [] = ⊤
  Correspond (g ∷ gs) (a ∷ ps) (z ∷ cs) = IsArgument g a z × Correspond gs ps cs
  Correspond gs ps cs = ⊥

  pub record Split (Rest : Rooms → List Name → Type 0) (h : Here) (here : m.Here) (gs : List Given) (ps : List m.Passed) (hs : List CellType) (below : List s.Cell)
      (zs : List Cell) : Type 0 where
    pub arguments : List Cell
    pub left : List Cell
    pub split : zs ≡ cells_on arguments left
    pub are : Correspond gs ps arguments
    pub cells : AreCells p live Rest x ns h here left below
    pub known : AreKnown p hs left

  pub cells_split : (Rest : Rooms → List Name → Type 0) (h : Here) (here : m.Here) (gs : List Given) (ps : List m.Passed) → AllPassed p.types.items gs ps
      → (hs : List CellType) (below : List s.Cell) (zs : List Cell) → AreCells p live Rest x ns h here zs (passed_on ps below) → AreKnown p (arguments_on gs hs) zs
      → Split Rest h here gs ps hs below zs
  cells_split Rest h here [] [] all hs below zs cells known = record { arguments = []; left = zs; split = refl; are = tt; cells = cells; known = known }
  cells_split Rest h here [] (a ∷ ps) all hs below zs cells known = absurd all
  cells_split Rest h here (g ∷ gs) [] all hs below zs cells known = absurd all
  cells_split Rest h here (g ∷ gs) (a ∷ ps) all hs below zs cells known =
      let more = cells_split Rest h here gs ps all.1 (cell.Argument g ∷ hs) (s.Argument a ∷ below) zs cells known in
      one more.arguments more.left more.split more.are more.cells more.known
    where
      one : (cs left : List Cell) → zs ≡ cells_on cs left → Correspond gs ps cs → AreCells p live Rest x ns h here left (s.Argument a ∷ below)
          → AreKnown p (cell.Argument g ∷ hs) left → Split Rest h here (g ∷ gs) (a ∷ ps) hs below zs
      one cs [] e are cells known = absurd cells
      one cs (c.Argument b ∷ left) e are cells known = record {
        arguments = c.Argument b ∷ cs;
        left = left;
        split = e;
        are = ((cells.0, known.0), are);
        cells = cells.2;
        known = known.1;
      }
      one cs (z ∷ left) e are cells known = absurd cells.0

  pub correspond_many : (gs : List Given) (ps : List m.Passed) (cs : List Cell) → Correspond gs ps cs → length cs ≡ length gs
  correspond_many [] [] [] are = refl
  correspond_many [] [] (z ∷ cs) are = absurd are
  correspond_many [] (a ∷ ps) cs are = absurd are
  correspond_many (g ∷ gs) [] cs are = absurd are
  correspond_many (g ∷ gs) (a ∷ ps) [] are = absurd are
  correspond_many (g ∷ gs) (a ∷ ps) (z ∷ cs) are = ap suc (correspond_many gs ps cs are.1)

  -- they are cells of no construct
  pub hand_on : (n : ℕ) (h : Here) (gs : List Given) (ps : List m.Passed) (cs zs : List Cell) → Correspond gs ps cs → AreAtHand n h (cells_on cs zs) → AreAtHand n h zs
  hand_on n h [] [] [] zs are hand = hand
  hand_on n h [] [] (z ∷ cs) zs are hand = absurd are
  hand_on n h [] (a ∷ ps) cs zs are hand = absurd are
  hand_on n h (g ∷ gs) [] cs zs are hand = absurd are
  hand_on n h (g ∷ gs) (a ∷ ps) [] zs are hand = absurd are
  hand_on n h (g ∷ gs) (a ∷ ps) (c.Argument b ∷ cs) zs are hand = hand_on n h gs ps cs (c.Argument b ∷ zs) are.1 hand
  hand_on n h (g ∷ gs) (a ∷ ps) (z ∷ cs) zs are hand = absurd are.0

  pub tight_on : (Rest : List (List Slot) → ℕ → Type 0) (ls : List (List Slot)) (n : ℕ) (gs : List Given) (ps : List m.Passed) (cs zs : List Cell) → Correspond gs ps cs
      → AreTight Rest ls n (cells_on cs zs) → AreTight Rest ls n zs
  tight_on Rest ls n [] [] [] zs are tight = tight
  tight_on Rest ls n [] [] (z ∷ cs) zs are tight = absurd are
  tight_on Rest ls n [] (a ∷ ps) cs zs are tight = absurd are
  tight_on Rest ls n (g ∷ gs) [] cs zs are tight = absurd are
  tight_on Rest ls n (g ∷ gs) (a ∷ ps) [] zs are tight = absurd are
  tight_on Rest ls n (g ∷ gs) (a ∷ ps) (c.Argument b ∷ cs) zs are tight = tight_on Rest ls n gs ps cs (c.Argument b ∷ zs) are.1 tight
  tight_on Rest ls n (g ∷ gs) (a ∷ ps) (z ∷ cs) zs are tight = absurd are.0

-- ---- the same cells, as they were cut

same_front : {A : Type 0} (xs ys us vs : List A) → length xs ≡ length ys → xs ++ us ≡ ys ++ vs → (xs ≡ ys) × (us ≡ vs)
same_front [] [] us vs many e = (refl, e)
same_front [] (y ∷ ys) us vs many e = absurd (omega (arith, many))
same_front (x ∷ xs) [] us vs many e = absurd (omega (arith, many))
same_front (x ∷ xs) (y ∷ ys) us vs many e =
    let first : x ≡ y = cc in
    let tails : xs ++ us ≡ ys ++ vs = cc in
    let more = same_front xs ys us vs (omega (arith, many)) tails in
    (ap (λ z. z ∷ xs) first ∙ ap (λ l. y ∷ l) more.0, more.1)

pub record IsCut (base : ℕ) (keep args cs left : List Cell) : Type 0 where
  pub bottom : base ≤ length keep
  pub arguments : args ≡ cs
  pub left_is : cells_from base keep ≡ left

pub cut_is : (base : ℕ) (all keep args cs left : List Cell) → base ≤ length all → all ≡ keep ++ args → length args ≡ length cs → cells_from base all ≡ cells_on cs left
    → IsCut base keep args cs left
cut_is base all keep args cs left within split many e =
    let longs = ap length split ∙ length-append keep args in
    let shown : length (cells_from base all) ≡ length (reverse cs ++ left) = ap length (e ∙ cells_on_is cs left) in
    let whole = length-append (reverse cs) left in
    let turned = length-reverse cs in
    let rest = length-reverse (drop base all) ∙ length-drop base all in
    let bottom : base ≤ length keep = omega (arith, longs, shown, whole, turned, rest, many, within) in
    let parts : cells_from base all ≡ reverse args ++ cells_from base keep =
    ap (λ l. reverse (drop base l)) split ∙ ap reverse (drop-append-le base keep args bottom) ∙ reverse-append (drop base keep) args in
    let both = same_front (reverse args) (reverse cs) (cells_from base keep) left (length-reverse args ∙ many ∙ sym turned) (sym parts ∙ e ∙ cells_on_is cs left) in
    record {
      bottom = bottom;
      arguments = sym (reverse-reverse args) ∙ ap reverse both.0 ∙ reverse-reverse cs;
      left_is = both.1;
    }
