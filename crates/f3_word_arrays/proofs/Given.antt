-- Values of one type stand on top, as arguments.
use Rattle.std.proofs.Common.{◌≡◌, ◌∙◌, ℕ, suc, ◌+◌, ◌<◌, true, false, List, [], ◌∷◌, ◌++◌, length, map, reverse, refl, sym, ap, subst, arith, append_assoc}
use Rattle.std.specs.Prelude.{⊤, Some, slice_get, ◌&&◌}
use Rattle.std.proofs.lemmas.Bool.{eqb-true}
use Rattle.std.proofs.lemmas.List.{reverse-append, length-reverse}
use Rattle.f3_program.specs.declared.declarations.Base.{Base}
use Rattle.f3_program.specs.declared.declarations.Base.TheVariants as base
use Rattle.f3_program.specs.declared.declarations.Kind.{Kind}
use Rattle.f3_program.specs.declared.program.Program.{Program}
use Rattle.f3_meaning_whole.specs.Act as m
use Rattle.f3_meaning_whole.specs.Formed as formed
use Rattle.f3_meaning_whole.specs.Formed.{all, alike, constructed, is_number, is_scalar, of_kind}
use Rattle.f3_meaning_whole.specs.Value.{Value}
use Rattle.f3_code.specs.declared.instruction.Instruction.TheVariants as i
use Rattle.f3_code.specs.State.{Line}
use Rattle.f3_code.specs.State as s
use Rattle.f3_cell_kinds.specs.Effect.{are_values}
use Rattle.f3_cell_kinds.specs.Holds.{IsOf, IsPassed}
use Rattle.f3_cell_kinds.specs.Laws.{site_at}
use Rattle.f3_cell_kinds.specs.Types.{CellType, arguments_on}
use Rattle.f3_cell_kinds.specs.Types as cell
use Rattle.f3_cell_kinds.proofs.Asked.{and_is, not_is, only_is}
use Rattle.f3_word_cells.specs.Areas.{shape_for}
use Rattle.f3_word_cells.specs.Does.{IsTold}
use Rattle.f3_word_cells.specs.Scenes.{code_of}
use Rattle.f3_word_cells.proofs.OnTop.{AreOf, cells_taken, line_kinds, of_argument}
use Rattle.f3_word_cells.proofs.Orderly.{IsAfter, after_cells, after_way}

-- ---- kinds

-- numbers of both types are alike
pub shape-alike : (p : Program) (a b : Base) → alike a b ≡ true → shape_for p a ≡ shape_for p b
shape-alike p base.Integer base.Integer e = refl
shape-alike p base.Integer base.Long e = refl
shape-alike p base.Integer base.Logical e = absurd cc
shape-alike p base.Integer (base.Derived t) e = absurd cc
shape-alike p base.Long base.Integer e = refl
shape-alike p base.Long base.Long e = refl
shape-alike p base.Long base.Logical e = absurd cc
shape-alike p base.Long (base.Derived t) e = absurd cc
shape-alike p base.Logical base.Integer e = absurd cc
shape-alike p base.Logical base.Long e = absurd cc
shape-alike p base.Logical base.Logical e = refl
shape-alike p base.Logical (base.Derived t) e = absurd cc
shape-alike p (base.Derived t) base.Integer e = absurd cc
shape-alike p (base.Derived t) base.Long e = absurd cc
shape-alike p (base.Derived t) base.Logical e = absurd cc
shape-alike p (base.Derived t) (base.Derived u) e = ap (λ (k : ℕ). shape_for p (base.Derived k)) (eqb-true t u e)

-- a scalar of a type, that is no variable
pub record Suits (p : Program) (of : Base) (g : formed.Given) : Type 0 where
  pub scalar : is_scalar g.kind ≡ true
  pub shape : shape_for p g.kind.of ≡ shape_for p of
  pub value : g.is_variable ≡ false

abbrev AllSuit : Program → Base → List formed.Given → Type 0
AllSuit p of [] = ⊤
AllSuit p of (g ∷ gs) = Suits p of g × AllSuit p of gs

all-suit : (p : Program) (of : Base) (gs : List formed.Given) → all (λ (x : formed.Given). is_scalar x.kind && alike x.kind.of of) gs ≡ true → are_values gs ≡ true
    → AllSuit p of gs
all-suit p of [] e f = tt
all-suit p of (g ∷ gs) e f =
    let here = and_is _ _ e in
    let one = and_is _ _ here.0 in
    let there = and_is _ _ f in
    (record { scalar = one.0; shape = shape-alike p g.kind.of of one.1; value = not_is _ there.0 }, all-suit p of gs here.1 there.1)

both-suit : (p : Program) (of : Base) (gs hs : List formed.Given) → AllSuit p of gs → AllSuit p of hs → AllSuit p of (gs ++ hs)
both-suit p of [] hs a b = b
both-suit p of (g ∷ gs) hs a b = (a.0, both-suit p of gs hs a.1 b)

all-reverse : (p : Program) (of : Base) (gs : List formed.Given) → AllSuit p of gs → AllSuit p of (reverse gs)
all-reverse p of [] h = tt
all-reverse p of (g ∷ gs) h = subst (AllSuit p of) (sym (reverse-append (g ∷ []) gs)) (both-suit p of (reverse gs) (g ∷ []) (all-reverse p of gs h.1) (h.0, tt))

-- the type of the first is that of all
first-type : (p : Program) (gs : List formed.Given) (k : Kind) → constructed gs ≡ Some k → are_values gs ≡ true
    → (of : Base) × (k ≡ of_kind of 1) × AllSuit p of gs × (0 < length gs)
first-type p [] k e f = absurd cc
first-type p (g ∷ gs) k e f =
    let test = only_is (all (λ (x : formed.Given). is_scalar x.kind && alike x.kind.of g.kind.of) (g ∷ gs)) (of_kind g.kind.of 1) k e in
    (g.kind.of, sym test.1, all-suit p g.kind.of (g ∷ gs) test.0 f, omega arith)

pub arguments-on-is : (gs : List formed.Given) (ks : List CellType) → arguments_on gs ks ≡ map cell.Argument (reverse gs) ++ ks
arguments-on-is [] ks = refl
arguments-on-is (g ∷ gs) ks =
    arguments-on-is gs (cell.Argument g ∷ ks)
    ∙ sym (ap (λ l. map cell.Argument l ++ ks) (reverse-append (g ∷ []) gs) ∙ ap (λ l. l ++ ks) (mapped (reverse gs) g) ∙ append_assoc (map cell.Argument (reverse gs)) (cell.Argument g ∷ []) ks)
  where
    mapped : (xs : List formed.Given) (g : formed.Given) → map cell.Argument (xs ++ g ∷ []) ≡ map cell.Argument xs ++ cell.Argument g ∷ []
    mapped [] g = refl
    mapped (x ∷ xs) g = ap (λ l. cell.Argument x ∷ l) (mapped xs g)

-- ---- cells

-- a value of a kind that is a scalar, and of this type
pub record IsItem (p : Program) (of : Base) (g : formed.Given) (v : Value) : Type 0 where
  pub scalar : is_scalar g.kind ≡ true
  pub shape : shape_for p g.kind.of ≡ shape_for p of
  pub value : IsOf p.types.items g.kind v

-- one for each
abbrev pub AreItems : Program → Base → List formed.Given → List m.Passed → Type 0
AreItems p of [] [] = ⊤
AreItems p of (g ∷ gs) (m.Given k v ∷ ps) = IsItem p of g v × AreItems p of gs ps
AreItems p of gs ps = ⊥

-- the kinds at the line, and the values on top, the last one first
pub record OnArray (p : Program) (t : s.State) (n : ℕ) : Type 0 where
  pub of : Base
  pub givens : List formed.Given
  pub rest : List CellType
  pub kinds : (site_at p t.pc).cells ≡ map cell.Argument givens ++ rest
  pub next : IsAfter p t.pc (t.pc + 1) (cell.Datum (of_kind of 1) ∷ rest)
  pub items : List m.Passed
  pub below : List s.Cell
  pub split : t.stack ≡ map s.Argument items ++ below
  pub are : AreItems p of givens items
  pub many : length items ≡ n
  pub some : 0 < n

one-item : (p : Program) (of : Base) (g : formed.Given) (a : m.Passed) → Suits p of g → IsPassed p.types.items g a → (k : ℕ) × (v : Value) × (a ≡ m.Given k v) × IsItem p of g v
one-item p of g (m.Given k v) suits is = (k, v, refl, record { scalar = suits.scalar; shape = suits.shape; value = is.2 })
one-item p of g (m.Lent k r) suits is = absurd (let e : true ≡ false = sym is.0 ∙ suits.value in cc)

items-there : (p : Program) (of : Base) (gs : List formed.Given) (tops : List s.Cell) → AllSuit p of gs → AreOf p.types.items (map cell.Argument gs) tops
    → (ps : List m.Passed) × (tops ≡ map s.Argument ps) × AreItems p of gs ps × (length ps ≡ length gs)
items-there p of [] [] suit are = ([], refl, tt, refl)
items-there p of [] (c ∷ tops) suit are = absurd are
items-there p of (g ∷ gs) [] suit are = absurd are
items-there p of (g ∷ gs) (c ∷ tops) suit are =
    let top = of_argument p.types.items g c are.0 in
    let item = one-item p of g top.0 suit.0 top.2 in
    let more = items-there p of gs tops suit.1 are.1 in (
      m.Given item.0 item.1 ∷ more.0,
      ap (λ (y : s.Cell). y ∷ tops) (top.1 ∙ ap s.Argument item.2) ∙ ap (λ l. s.Argument (m.Given item.0 item.1) ∷ l) more.1,
      (item.3, more.2),
      ap suc more.3,
    )

pub on-array : (p : Program) (t : s.State) (l : Line) (n : ℕ) → IsTold p t → slice_get (code_of p).lines t.pc ≡ Some l → l.act ≡ i.Array n → OnArray p t n
on-array p t l n told there is =
    let lead = line_kinds p t l (i.Array n) told there is in
    let gs = lead.0 in
    let leads = lead.5 in
    let first = first-type p gs lead.1 lead.3 lead.4 in
    let kinds = leads.before ∙ ap (λ ks. ks ++ leads.rest) (arguments-on-is gs []) ∙ append_assoc (map cell.Argument (reverse gs)) [] leads.rest in
    let top = cells_taken p t (map cell.Argument (reverse gs)) leads.rest told kinds in
    let items = items-there p first.0 (reverse gs) top.tops (all-reverse p first.0 gs first.2) top.are in
    let many : length items.0 ≡ n = items.3 ∙ length-reverse gs ∙ lead.2 in
    let some : 0 < length gs = first.3 in
    let long : length gs ≡ n = lead.2 in
    record {
      of = first.0;
      givens = reverse gs;
      rest = leads.rest;
      kinds = kinds;
      next = after_cells (after_way p t.pc (t.pc + 1) (cell.Datum lead.1 ∷ []) leads.rest leads.next) (ap (λ (k : Kind). cell.Datum k ∷ leads.rest) first.1);
      items = items.0;
      below = top.below;
      split = top.split ∙ ap (λ l. l ++ top.below) items.1;
      are = items.2;
      many = many;
      some = omega arith;
    }
