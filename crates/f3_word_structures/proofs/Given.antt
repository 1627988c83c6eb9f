-- Values for components stand on top, as arguments.
use Rattle.std.proofs.Common.{◌≡◌, ◌∙◌, ℕ, suc, ◌+◌, Bool, true, false, List, [], ◌∷◌, ◌++◌, length, map, reverse, refl, sym, ap, subst, append_assoc}
use Rattle.std.specs.Prelude.{⊤, ◌&&◌, ◌||◌, Some, if◌then◌else◌, not, slice_get}
use Rattle.std.proofs.lemmas.List.{length-reverse, reverse-append}
use Rattle.f3_program.specs.declared.declarations.Base.{Base}
use Rattle.f3_program.specs.declared.declarations.Base.TheVariants as base
use Rattle.f3_program.specs.declared.declarations.Component.{Component}
use Rattle.f3_program.specs.declared.declarations.Derived.{Derived}
use Rattle.f3_program.specs.declared.declarations.Kind.{Kind}
use Rattle.f3_program.specs.declared.program.Program.{Program}
use Rattle.f3_meaning_whole.specs.Act as m
use Rattle.f3_meaning_whole.specs.Formed as formed
use Rattle.f3_meaning_whole.specs.Formed.{all, at_most_once, component_takes, fits_component, of_kind, only, some, structured, takes}
use Rattle.f3_meaning_whole.specs.Value.{Value}
use Rattle.f3_code.specs.declared.instruction.Instruction.TheVariants as i
use Rattle.f3_code.specs.State.{Line}
use Rattle.f3_code.specs.State as s
use Rattle.f3_cell_kinds.specs.Effect.{are_for, is_whole_for}
use Rattle.f3_cell_kinds.specs.Holds.{IsOf, IsPassed}
use Rattle.f3_cell_kinds.specs.Laws.{site_at}
use Rattle.f3_cell_kinds.specs.Types.{CellType, arguments_on}
use Rattle.f3_cell_kinds.specs.Types as cell
use Rattle.f3_cell_kinds.proofs.Asked.{and_is, found_is, not_is, only_is, some_at, some_is, some_same}
use Rattle.f3_word_arrays.proofs.Given.{arguments-on-is}
use Rattle.f3_word_cells.specs.Does.{IsTold}
use Rattle.f3_word_cells.specs.Scenes.{code_of}
use Rattle.f3_word_cells.proofs.OnTop.{AreOf, cells_taken, line_kinds, of_argument}
use Rattle.f3_word_cells.proofs.Orderly.{IsAfter, after_cells, after_way}
use Rattle.f3_word_objects.proofs.Members.{plain-component}

-- ---- kinds

-- a value of this kind is given for a component of a type, and no object
pub record Suits (y : Derived) (g : formed.Given) : Type 0 where
  pub component : Component
  pub there : slice_get y.components.items g.number ≡ Some component
  pub plain : component.declared.kind.is_allocatable ≡ false
  pub takes : takes component.declared.kind g.kind ≡ true
  pub value : g.is_variable ≡ false

abbrev AllSuit : Derived → List formed.Given → Type 0
AllSuit y [] = ⊤
AllSuit y (g ∷ gs) = Suits y g × AllSuit y gs

-- no component is allocatable
abbrev pub IsPlainType : Derived → Type 0
IsPlainType y = (k : ℕ) (c : Component) → slice_get y.components.items k ≡ Some c → c.declared.kind.is_allocatable ≡ false

fixed-takes : (k : Kind) (g : formed.Given) → k.is_allocatable ≡ false → component_takes k g ≡ true → takes k g.kind ≡ true
fixed-takes k g fixed e = by _ k.is_allocatable fixed e
  where
    by : (a b : Bool) → b ≡ false → (if b then a else takes k g.kind) ≡ true → takes k g.kind ≡ true
    by a true f e = absurd cc
    by a false f e = e

or-not : (a b c : Bool) → c ≡ false → (a || (b && c)) ≡ true → a ≡ true
or-not true b c f e = refl
or-not false true c f e = absurd cc
or-not false false c f e = absurd cc

one-suits : (y : Derived) (g : formed.Given) → IsPlainType y → fits_component y.components.items g ≡ true → is_whole_for y.components.items g ≡ true → Suits y g
one-suits y g plain fits whole =
    let found = some_is (slice_get y.components.items g.number) (λ c. component_takes c.declared.kind g) fits in
    let fixed = plain g.number found.0 found.1 in
    let held : some (slice_get y.components.items g.number) (λ c. c.declared.kind.is_allocatable) ≡ false =
    ap (λ o. some o (λ (c : Component). c.declared.kind.is_allocatable)) found.1 ∙ fixed in
    record {
      component = found.0;
      there = found.1;
      plain = fixed;
      takes = fixed-takes found.0.declared.kind g fixed found.2;
      value = not_is g.is_variable (or-not (not g.is_variable) g.kind.is_allocatable _ held whole);
    }

all-suit : (y : Derived) (hs gs : List formed.Given) → IsPlainType y → all (λ g. fits_component y.components.items g && at_most_once hs g) gs ≡ true
    → all (is_whole_for y.components.items) gs ≡ true → AllSuit y gs
all-suit y hs [] plain fits whole = tt
all-suit y hs (g ∷ gs) plain fits whole =
    let here = and_is _ _ fits in
    let there = and_is _ _ whole in
    (one-suits y g plain (and_is _ _ here.0).0 there.0, all-suit y hs gs plain here.1 there.1)

both-suit : (y : Derived) (gs hs : List formed.Given) → AllSuit y gs → AllSuit y hs → AllSuit y (gs ++ hs)
both-suit y [] hs a b = b
both-suit y (g ∷ gs) hs a b = (a.0, both-suit y gs hs a.1 b)

all-reverse : (y : Derived) (gs : List formed.Given) → AllSuit y gs → AllSuit y (reverse gs)
all-reverse y [] h = tt
all-reverse y (g ∷ gs) h = subst (AllSuit y) (sym (reverse-append (g ∷ []) gs)) (both-suit y (reverse gs) (g ∷ []) (all-reverse y gs h.1) (h.0, tt))

-- ---- cells

-- a value for a component that takes it
pub record IsMember (p : Program) (y : Derived) (g : formed.Given) (v : Value) : Type 0 where
  pub suits : Suits y g
  pub value : IsOf p.types.items g.kind v

-- one for each
abbrev pub AreMembers : Program → Derived → List formed.Given → List m.Passed → Type 0
AreMembers p y [] [] = ⊤
AreMembers p y (g ∷ gs) (m.Given k v ∷ ps) = (g.number ≡ k) × IsMember p y g v × AreMembers p y gs ps
AreMembers p y gs ps = ⊥

-- the kinds at the line, and the values on top, the last one first
pub record OnStructure (p : Program) (t : s.State) (of n : ℕ) : Type 0 where
  pub type : Derived
  pub there : slice_get p.types.items of ≡ Some type
  pub plain : IsPlainType type
  pub givens : List formed.Given
  pub rest : List CellType
  pub kinds : (site_at p t.pc).cells ≡ map cell.Argument givens ++ rest
  pub next : IsAfter p t.pc (t.pc + 1) (cell.Datum (of_kind (base.Derived of) 0) ∷ rest)
  pub items : List m.Passed
  pub below : List s.Cell
  pub split : t.stack ≡ map s.Argument items ++ below
  pub are : AreMembers p type givens items
  pub many : length items ≡ n

one-member : (p : Program) (y : Derived) (g : formed.Given) (a : m.Passed) → Suits y g → IsPassed p.types.items g a
    → (k : ℕ) × (v : Value) × (a ≡ m.Given k v) × (g.number ≡ k) × IsMember p y g v
one-member p y g (m.Given k v) suits is = (k, v, refl, is.1, record { suits = suits; value = is.2 })
one-member p y g (m.Lent k r) suits is = absurd (let e : true ≡ false = sym is.0 ∙ suits.value in cc)

members-there : (p : Program) (y : Derived) (gs : List formed.Given) (tops : List s.Cell) → AllSuit y gs → AreOf p.types.items (map cell.Argument gs) tops
    → (ps : List m.Passed) × (tops ≡ map s.Argument ps) × AreMembers p y gs ps × (length ps ≡ length gs)
members-there p y [] [] suit are = ([], refl, tt, refl)
members-there p y [] (c ∷ tops) suit are = absurd are
members-there p y (g ∷ gs) [] suit are = absurd are
members-there p y (g ∷ gs) (c ∷ tops) suit are =
    let top = of_argument p.types.items g c are.0 in
    let one = one-member p y g top.0 suit.0 top.2 in
    let more = members-there p y gs tops suit.1 are.1 in (
      m.Given one.0 one.1 ∷ more.0,
      ap (λ (z : s.Cell). z ∷ tops) (top.1 ∙ ap s.Argument one.2) ∙ ap (λ l. s.Argument (m.Given one.0 one.1) ∷ l) more.1,
      (one.3, one.4, more.2),
      ap suc more.3,
    )

pub on-structure : (p : Program) (t : s.State) (l : Line) (of n : ℕ) → IsTold p t → slice_get (code_of p).lines t.pc ≡ Some l → l.act ≡ i.Structure of n → OnStructure p t of n
on-structure p t l of n told at act =
    let lead = line_kinds p t l (i.Structure of n) told at act in
    let gs = lead.0 in
    let leads = lead.5 in
    let found = found_is (slice_get p.types.items of) _ lead.1 lead.3 in
    let y = found.0 in
    let test = only_is (all (λ g. fits_component y.components.items g && at_most_once gs g) gs) (of_kind (base.Derived of) 0) lead.1 found.2 in
    let plain : IsPlainType y = λ k c e. plain-component p (base.Derived of) k c told.plain.types (ap (λ o. m.component_in o k) found.1 ∙ e) in
    let whole = some_at (slice_get p.types.items of) y (λ (z : Derived). all (is_whole_for z.components.items) gs) (λ z e. some_same (sym e ∙ found.1)) lead.4 in
    let suit = all-reverse y gs (all-suit y gs gs plain test.0 whole) in
    let kinds = leads.before ∙ ap (λ ks. ks ++ leads.rest) (arguments-on-is gs []) ∙ append_assoc (map cell.Argument (reverse gs)) [] leads.rest in
    let top = cells_taken p t (map cell.Argument (reverse gs)) leads.rest told kinds in
    let members = members-there p y (reverse gs) top.tops suit top.are in
    record {
      type = y;
      there = found.1;
      plain = plain;
      givens = reverse gs;
      rest = leads.rest;
      kinds = kinds;
      next = after_cells (after_way p t.pc (t.pc + 1) (cell.Datum lead.1 ∷ []) leads.rest leads.next) (ap (λ (k : Kind). cell.Datum k ∷ leads.rest) (sym test.1));
      items = members.0;
      below = top.below;
      split = top.split ∙ ap (λ l. l ++ top.below) members.1;
      are = members.2;
      many = members.3 ∙ length-reverse gs ∙ lead.2;
    }
