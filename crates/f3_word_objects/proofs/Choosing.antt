-- What is selected in dimensions stands above an array.
use Rattle.std.proofs.Common.{◌≡◌, ◌∙◌, ℕ, zero, suc, Bool, List, [], ◌∷◌, ◌++◌, length, map, reverse, refl, sym, ap, subst, arith, append_assoc}
use Rattle.std.specs.Prelude.{⊤}
use Rattle.std.proofs.lemmas.List.{reverse-append}
use Rattle.f3_program.specs.declared.declarations.Derived.{Derived}
use Rattle.f3_program.specs.declared.declarations.Kind.{Kind}
use Rattle.f3_program.specs.declared.program.Program.{Program}
use Rattle.f3_live_blocks.specs.Blocks.{Live}
use Rattle.f3_meaning_whole.specs.Act as act
use Rattle.f3_meaning_whole.specs.Reference.{Reference}
use Rattle.f3_meaning_whole.specs.Store.{Store}
use Rattle.f3_code.specs.State as s
use Rattle.f3_code.specs.State.{Next}
use Rattle.f3_code.specs.Machine.{on_many, choice_of}
use Rattle.f3_cell_kinds.specs.Types.{CellType, choices_on}
use Rattle.f3_cell_kinds.specs.Types as cell
use Rattle.f3_cell_kinds.specs.Holds.{Is, IsChoice}
use Rattle.f3_cell_kinds.specs.Laws.{site_at}
use Rattle.f3_cells.specs.declared.cell.Chosen.{Chosen}
use Rattle.f3_cells.specs.Cells.{chosen_of}
use Rattle.f3_rooms.specs.Rooms.{Rooms}
use Rattle.f3_word_cells.specs.declared.cell.Cell.{Cell}
use Rattle.f3_word_cells.specs.declared.cell.Cell.TheVariants as c
use Rattle.f3_word_cells.specs.declared.cell.Here.{Here}
use Rattle.f3_word_cells.specs.declared.state.Name.{Name}
use Rattle.f3_word_cells.specs.declared.state.State.{State}
use Rattle.f3_word_cells.specs.Cells.{AreCells, IsCell}
use Rattle.f3_word_cells.specs.Does.{IsTold}
use Rattle.f3_word_cells.specs.States.{AreKnown, IsKnown}
use Rattle.f3_word_cells.proofs.Amid.{Amid, amid_popped}
use Rattle.f3_word_cells.proofs.OnTop.{AreOf, cells_taken, of_each, of_object, of_choice}
use Rattle.f3_word_objects.specs.Taken.{PoppedAll}

-- ---- kinds

pub choices-on-is : (bs : List Bool) (ks : List CellType) → choices_on bs ks ≡ map cell.Choice (reverse bs) ++ ks
choices-on-is [] ks = refl
choices-on-is (b ∷ bs) ks =
    choices-on-is bs (cell.Choice b ∷ ks)
    ∙ sym (ap (λ l. map cell.Choice l ++ ks) (reverse-append (b ∷ []) bs) ∙ ap (λ l. l ++ ks) (mapped (reverse bs) b) ∙ append_assoc (map cell.Choice (reverse bs)) (cell.Choice b ∷ []) ks)
  where
    mapped : (xs : List Bool) (b : Bool) → map cell.Choice (xs ++ b ∷ []) ≡ map cell.Choice xs ++ cell.Choice b ∷ []
    mapped [] b = refl
    mapped (x ∷ xs) b = ap (λ l. cell.Choice x ∷ l) (mapped xs b)

-- a subscript or a triplet for each
abbrev pub AreChosen : List Bool → List act.Chosen → Type 0
AreChosen [] [] = ⊤
AreChosen (b ∷ bs) (h ∷ hs) = IsChoice b h × AreChosen bs hs
AreChosen bs hs = ⊥

-- cells of a type are objects
abbrev pub OfObject : List Derived → CellType → Type 0
OfObject types k = (b : s.Cell) → Is types k b → (r : Reference) × (b ≡ s.Object r)

pub object-type : (types : List Derived) (k : Kind) → OfObject types (cell.Object k)
object-type types k b is = let o = of_object types k b is in (o.0, o.1)

pub each-type : (types : List Derived) (k : Kind) (n : ℕ) (j : Kind) → OfObject types (cell.Each k n j)
each-type types k n j b is = let o = of_each types k n j b is in (o.0, o.1)

-- subscripts and triplets above a cell that is an object, the last one on top
pub record ChoicesOnTop (p : Program) (t : s.State) (n : ℕ) (k : CellType) (rest : List CellType) : Type 0 where
  pub triplets : List Bool
  pub before : (site_at p t.pc).cells ≡ map cell.Choice triplets ++ (k ∷ rest)
  pub choices : List act.Chosen
  pub reference : Reference
  pub below : List s.Cell
  pub split : t.stack ≡ map s.Choice choices ++ s.Object reference ∷ below
  pub count : length choices ≡ n
  pub many : length triplets ≡ n
  pub is : Is p.types.items k (s.Object reference)
  pub chosen : AreChosen triplets choices

above : (types : List Derived) (k : CellType) (bs : List Bool) (tops : List s.Cell) → OfObject types k → AreOf types (map cell.Choice bs ++ k ∷ []) tops
    → (hs : List act.Chosen) × (r : Reference) × (tops ≡ map s.Choice hs ++ s.Object r ∷ []) × (length hs ≡ length bs) × Is types k (s.Object r) × AreChosen bs hs
above types k [] [] of are = absurd are
above types k [] (a ∷ []) of are = let o = of a are.0 in ([], o.0, ap (λ (y : s.Cell). y ∷ []) o.1, refl, subst (λ (y : s.Cell). Is types k y) o.1 are.0, tt)
above types k [] (a ∷ b ∷ tops) of are = absurd are.1
above types k (b ∷ bs) [] of are = absurd are
above types k (b ∷ bs) (a ∷ tops) of are =
    let h = of_choice types b a are.0 in
    let rest = above types k bs tops of are.1 in
    (h.0 ∷ rest.0, rest.1, ap (λ (y : s.Cell). y ∷ tops) h.1 ∙ ap (λ l. s.Choice h.0 ∷ l) rest.2, (let e = rest.3 in omega arith), rest.4, (h.2, rest.5))

above-is : (stack tops below : List s.Cell) (hs : List act.Chosen) (r : Reference) → stack ≡ tops ++ below → tops ≡ map s.Choice hs ++ s.Object r ∷ []
    → stack ≡ map s.Choice hs ++ s.Object r ∷ below
above-is stack tops below hs r e f = e ∙ ap (λ l. l ++ below) f ∙ append_assoc (map s.Choice hs) (s.Object r ∷ []) below

pub choices-on-top : (p : Program) (t : s.State) (n : ℕ) (k : CellType) (bs : List Bool) (rest : List CellType) → OfObject p.types.items k → IsTold p t → length bs ≡ n
    → (site_at p t.pc).cells ≡ map cell.Choice bs ++ (k ∷ rest) → (h : ChoicesOnTop p t n k rest) × (h.triplets ≡ bs)
choices-on-top p t n k bs rest of told many e =
    let top = cells_taken p t (map cell.Choice bs ++ k ∷ []) rest told (e ∙ sym (append_assoc (map cell.Choice bs) (k ∷ []) rest)) in
    let h = above p.types.items k bs top.tops of top.are in (
      record {
        triplets = bs;
        before = e;
        choices = h.0;
        reference = h.1;
        below = top.below;
        split = above-is t.stack top.tops top.below h.0 h.1 top.split h.2;
        count = h.3 ∙ many;
        many = many;
        is = h.4;
        chosen = h.5;
      },
      refl,
    )

-- ---- cells in memory

pub cells-there : (p : Program) (m : Live) (Rest : Rooms → List Name → Type 0) (x : Rooms) (ns : List Name) (h : Here) (here : act.Here) (zs : List Cell) (bs : List Bool) (k : CellType) (ks : List CellType)
    (hs : List act.Chosen) (r : Reference) (below : List s.Cell) → length bs ≡ length hs → AreKnown p (map cell.Choice bs ++ (k ∷ ks)) zs
    → AreCells p m Rest x ns h here zs (map s.Choice hs ++ s.Object r ∷ below)
    → (cs : List Chosen) × (a : Cell) × (more : List Cell) × (zs ≡ map c.Choice cs ++ a ∷ more) × (length cs ≡ length hs) × IsCell p x m ns a (s.Object r) × IsKnown p k a
cells-there p m Rest x ns h here [] bs k ks [] r below e known are = absurd are
cells-there p m Rest x ns h here (a ∷ zs) [] k ks [] r below e known are = ([], a, zs, refl, refl, are.0, known.0)
cells-there p m Rest x ns h here (a ∷ zs) (b ∷ bs) k ks [] r below e known are = absurd (omega arith)
cells-there p m Rest x ns h here [] bs k ks (g ∷ hs) r below e known are = absurd are
cells-there p m Rest x ns h here (a ∷ zs) [] k ks (g ∷ hs) r below e known are = absurd (omega arith)
cells-there p m Rest x ns h here (c.Choice a ∷ zs) (b ∷ bs) k ks (g ∷ hs) r below e known are =
    let rest = cells-there p m Rest x ns h here zs bs k ks hs r below (omega arith) known.1 are.2 in
    (a ∷ rest.0, rest.1, rest.2, ap (λ l. c.Choice a ∷ l) rest.3, (let e = rest.4 in omega arith), rest.5, rest.6)
cells-there p m Rest x ns h here (a ∷ zs) (b ∷ bs) k ks (g ∷ hs) r below e known are = absurd are.0

-- they are taken
pub choices-taken : (p : Program) (t : s.State) (m : Live) (old mid new : State) (x : Rooms) (ks : List CellType) (bs : List Bool) (hs : List act.Chosen) (below : List s.Cell) (store : Store) (cs : List Chosen)
    → length cs ≡ length hs → length bs ≡ length hs → Amid p t m old mid x (map cell.Choice bs ++ ks) (map s.Choice hs ++ below) store [] → PoppedAll (map c.Choice cs) mid new
    → (map chosen_of cs ≡ hs) × Amid p t m old new x ks below store []
choices-taken p t m old mid new x ks [] [] below store [] e f amid h = (refl, subst (λ (w : State). Amid p t m old w x ks below store []) (sym h) amid)
choices-taken p t m old mid new x ks [] [] below store (a ∷ cs) e f amid h = absurd (omega arith)
choices-taken p t m old mid new x ks [] (g ∷ hs) below store cs e f amid h = absurd (omega arith)
choices-taken p t m old mid new x ks (b ∷ bs) [] below store cs e f amid h = absurd (omega arith)
choices-taken p t m old mid new x ks (b ∷ bs) (g ∷ hs) below store [] e f amid h = absurd (omega arith)
choices-taken p t m old mid new x ks (b ∷ bs) (g ∷ hs) below store (a ∷ cs) e f amid h =
    let one = amid_popped p t m old mid h.0 x (cell.Choice b) (map cell.Choice bs ++ ks) (s.Choice g) (map s.Choice hs ++ below) store [] (c.Choice a) amid h.1 tt in
    let rest = choices-taken p t m old h.0 new x ks bs hs below store cs (omega arith) (omega arith) one.2 h.2 in
    (λ i. sym one.0 i ∷ rest.0 i, rest.1)

-- ---- the machine over values

pub takes-choices : (hs xs : List act.Chosen) (below : List s.Cell) (n : ℕ) (f : List act.Chosen → List s.Cell → Next) → length hs ≡ n
    → on_many choice_of n xs (map s.Choice hs ++ below) f ≡ f (reverse hs ++ xs) below
takes-choices [] xs below zero f e = refl
takes-choices [] xs below (suc n) f e = absurd (omega arith)
takes-choices (h ∷ hs) xs below zero f e = absurd (omega arith)
takes-choices (h ∷ hs) xs below (suc n) f e =
    takes-choices hs (h ∷ xs) below n f (omega arith)
    ∙ ap (λ l. f l below) (sym (ap (λ l. l ++ xs) (reverse-append (h ∷ []) hs) ∙ append_assoc (reverse hs) (h ∷ []) xs))
