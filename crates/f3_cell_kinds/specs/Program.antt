-- The sites of the code of a Core program: each function stands beside the one of the same code.
use Rattle.std.specs.Prelude.{ℕ, suc, true, false, nat_eq, nat_lt, List, [], ◌∷◌, ◌++◌, length, drop, Option, Some, None, slice_get}
use Rattle.f3_program.specs.declared.declarations.Base.TheVariants as base
use Rattle.f3_program.specs.declared.declarations.Declared.{Declared}
use Rattle.f3_program.specs.declared.declarations.Kind.{Kind}
use Rattle.f3_program.specs.declared.expression.Designator as d
use Rattle.f3_program.specs.declared.expression.Expression as e
use Rattle.f3_program.specs.declared.statement.Bounds.{Bounds}
use Rattle.f3_program.specs.declared.statement.Item.{Item}
use Rattle.f3_program.specs.declared.statement.Item.TheVariants as item
use Rattle.f3_program.specs.declared.statement.Range.{Range}
use Rattle.f3_program.specs.declared.program.Program.{Program}
use Rattle.f3_meaning_whole.specs.Formed.{of_kind, kinds_of}
use Rattle.f3_code.specs.Work as w
use Rattle.f3_code.specs.Core as c
use Rattle.f3_code.specs.Lower.{lowered_program}
use Rattle.f3_cell_kinds.specs.Types.{Scope, Around, Told, Untold, InRoutine, CellType, Site, selecting, associating, selectors_on}
use Rattle.f3_cell_kinds.specs.Types as cell
use Rattle.f3_cell_kinds.specs.Effect.{truth, held_kind, result_in, extents_on}
use Rattle.f3_cell_kinds.specs.Values.{kind_or, at, stacked, reached_if, value_at, object_at, value_sites, locate_sites, work_sites}

-- the kind of a variable, by its number
abbrev pub variable_in : Option Declared → Kind
variable_in None = truth
variable_in (Some y) = y.kind

abbrev pub variable_kind : Around → ℕ → Kind
variable_kind (Told s) n = variable_in (slice_get s.variables n)
variable_kind o n = truth

-- beneath the object of the routine of a type nothing is told
abbrev pub in_routine : ℕ → Site
in_routine t = record { is_reached = true; returns = of_kind (base.Derived t) 0; scope = InRoutine; cells = [] }

module _ (p : Program) where
  -- ---- parts of statements

  -- above the cells of a site stand a value and a variable, of such kinds
  abbrev pub transfer_sites : ℕ → Site → Kind → Kind → c.Transfer → List Site
  transfer_sites m h k j (c.Conforming x) = stacked (cell.Object k ∷ cell.Datum j ∷ []) h ∷ transfer_sites m h k j x
  transfer_sites m h k j (c.By_state x y z) = stacked (cell.Object k ∷ cell.Datum j ∷ []) h ∷ (transfer_sites m h k j x
      ++ (h ∷ (transfer_sites m (reached_if (nat_lt 0 j.rank) h) k j y ++ (reached_if (nat_lt 0 j.rank) h ∷ transfer_sites m h k j z))))
  transfer_sites m h k j (c.Of_rank rank x) = stacked (cell.Object k ∷ cell.Datum j ∷ []) h ∷ transfer_sites m (reached_if (nat_eq rank j.rank) h) k j x
  transfer_sites m h k j (c.Behind x y) = work_sites p m (stacked (cell.Datum j ∷ []) h) k x ++ transfer_sites m h k j y
  transfer_sites m h k j (c.New rank element x) = stacked (cell.Object k ∷ cell.Datum j ∷ []) h ∷ transfer_sites m h k j x
  transfer_sites m h k j (c.In_contents x) = stacked (cell.Object k ∷ cell.Datum j ∷ []) h ∷ transfer_sites m h (held_kind k) j x
  transfer_sites m h k j (c.Take of) = stacked (cell.Object k ∷ cell.Datum j ∷ []) h ∷ []
  transfer_sites m h k j (c.Fill of) = stacked (cell.Object k ∷ cell.Datum j ∷ []) h ∷ []

  abbrev pub free_sites : ℕ → Site → Kind → w.Work → List Site
  free_sites m h k x = stacked (cell.Object k ∷ []) h ∷ (work_sites p m h k x ++ (stacked (cell.Object k ∷ []) h ∷ h ∷ []))

  module _ (m : ℕ) (r : Kind) (s : Scope) where
    abbrev pub dimensions_sites : List CellType → List Bounds → List Site
    dimensions_sites h [] = []
    dimensions_sites h (b ∷ bs) = value_sites p r s h b.lower ++ (value_sites p r s (cell.Datum (value_at p r s b.lower) ∷ h) b.upper
        ++ (at r s (cell.Datum (value_at p r s b.upper) ∷ cell.Datum (value_at p r s b.lower) ∷ h) ∷ dimensions_sites (cell.Extent ∷ h) bs))

    abbrev pub allocate_sites : List CellType → List c.Allocation → List Site
    allocate_sites h [] = at r s h ∷ []
    allocate_sites h (x ∷ xs) = locate_sites p r s h x.object ++ (dimensions_sites (cell.Object (object_at p r s x.object) ∷ h) x.bounds
        ++ (at r s (extents_on (length x.bounds) (cell.Object (object_at p r s x.object) ∷ h)) ∷ at r s (cell.Status ∷ h) ∷ allocate_sites h xs))

    abbrev pub deallocate_sites : List CellType → List c.Deallocation → List Site
    deallocate_sites h [] = at r s h ∷ []
    deallocate_sites h (x ∷ xs) = locate_sites p r s h x.object ++ (free_sites m (at r s h) (object_at p r s x.object) x.free
        ++ (at r s (cell.Status ∷ h) ∷ deallocate_sites h xs))

    abbrev pub status_sites : List CellType → Option d.Designator → List Site
    status_sites h None = at r s (cell.Status ∷ h) ∷ []
    status_sites h (Some d) = locate_sites p r s (cell.Status ∷ h) d ++ at r s (cell.Object (object_at p r s d) ∷ cell.Status ∷ h) ∷ []

    abbrev pub bytes_sites : List CellType → List ℕ → List Site
    bytes_sites h [] = []
    bytes_sites h (b ∷ bs) = at r s h ∷ bytes_sites h bs

    abbrev pub items_sites : List CellType → List Item → List Site
    items_sites h [] = at r s h ∷ []
    items_sites h (item.Value e ∷ xs) = value_sites p r s h e ++ (at r s (cell.Datum (value_at p r s e) ∷ h) ∷ items_sites h xs)
    items_sites h (item.Text t ∷ xs) = bytes_sites h (32 ∷ t.items) ++ items_sites h xs

    abbrev pub ranges_sites : List CellType → List Range → List Site
    ranges_sites h [] = []
    ranges_sites h (x ∷ xs) = at r s h ∷ at r s (cell.Datum truth ∷ h) ∷ ranges_sites h xs

    -- the kinds of associate names
    abbrev pub selected_at : List c.Selector → List Kind
    selected_at [] = []
    selected_at (c.Bind d ∷ xs) = object_at p r s d ∷ selected_at xs
    selected_at (c.Hold of e x ∷ xs) = of_kind of (value_at p r s e).rank ∷ selected_at xs

    abbrev pub selectors_sites : List CellType → List c.Selector → List Site
    selectors_sites h [] = []
    selectors_sites h (c.Bind d ∷ xs) = locate_sites p r s h d ++ (at r s (cell.Object (object_at p r s d) ∷ h)
        ∷ selectors_sites (cell.Selector (object_at p r s d) ∷ h) xs)
    selectors_sites h (c.Hold of e x ∷ xs) = value_sites p r s h e ++ (at r s (cell.Datum (value_at p r s e) ∷ h)
        ∷ selectors_sites (cell.Selector (of_kind of (value_at p r s e).rank) ∷ h) xs)

    -- above such cells stand the objects that are left
    abbrev pub discards_sites : List CellType → List Kind → List c.Selector → List Site
    discards_sites h ks [] = []
    discards_sites h [] (x ∷ xs) = []
    discards_sites h (k ∷ ks) (c.Bind d ∷ xs) = at r s (cell.Objects (k ∷ ks) ∷ h) ∷ at r s (cell.Object k ∷ cell.Objects ks ∷ h) ∷ discards_sites h ks xs
    discards_sites h (k ∷ ks) (c.Hold of e x ∷ xs) = at r s (cell.Objects (k ∷ ks) ∷ h) ∷ (work_sites p m (at r s (cell.Objects ks ∷ h)) k x
        ++ (at r s (cell.Object k ∷ cell.Objects ks ∷ h) ∷ discards_sites h ks xs))

    abbrev pub leaving_sites : List CellType → List Site
    leaving_sites h = at r s h ∷ at r s h ∷ at r s h ∷ at r s h ∷ []

    -- above such cells stands how the construct was left; so many go at a RETURN
    abbrev pub departing_sites : List CellType → ℕ → List Site
    departing_sites h cells = at r s (cell.Going ∷ h) ∷ at r s h ∷ at r s (drop cells h) ∷ []

    abbrev pub if_sites : List CellType → List Site → List Site → List Site → List Site
    if_sites h test x y = test ++ (at r s (cell.Datum truth ∷ h) ∷ (x ++ (at r s h ∷ y)))

    abbrev pub case_sites : List CellType → List Range → List Site → List Site → List Site
    case_sites h rs x y = ranges_sites h rs ++ (at r s h ∷ (x ++ (at r s h ∷ y)))

    abbrev pub while_sites : List CellType → List Site → List Site → List Site
    while_sites h test x = test ++ (at r s (cell.Datum truth ∷ h) ∷ (x ++ at r s h ∷ []))

    -- above such cells stand the turns of a DO
    abbrev pub up_sites : List CellType → d.Designator → List Site
    up_sites h d = locate_sites p r s (cell.Turns ∷ h) d ++ at r s (cell.Object (object_at p r s d) ∷ cell.Turns ∷ h) ∷ []

    abbrev pub turns_sites : List CellType → List Site → List Site → List Site
    turns_sites h x up = at r s (cell.Turns ∷ h) ∷ (x ++ (up ++ (at r s (cell.Turns ∷ h) ∷ at r s (cell.Turns ∷ h) ∷ [])))

    -- the three values of a DO, each of the kind of its variable in the end
    abbrev pub limits_sites : List CellType → Kind → e.Expression → e.Expression → e.Expression → List Site → List Site
    limits_sites h k from to by rest = value_sites p r s h from ++ (at r s (cell.Datum (value_at p r s from) ∷ h)
        ∷ (value_sites p r s (cell.Datum k ∷ h) to ++ (at r s (cell.Datum (value_at p r s to) ∷ cell.Datum k ∷ h)
        ∷ (value_sites p r s (cell.Datum k ∷ cell.Datum k ∷ h) by ++ (at r s (cell.Datum (value_at p r s by) ∷ cell.Datum k ∷ cell.Datum k ∷ h)
        ∷ at r s (cell.Datum k ∷ cell.Datum k ∷ cell.Datum k ∷ h) ∷ rest)))))

  -- ---- statements: behind such cells as before; so many go at a RETURN

  module _ (m : ℕ) (r : Kind) where
    abbrev pub code_sites : Scope → List CellType → ℕ → c.Core → List Site
    code_sites s h cells (c.At place true x) = at r s h ∷ code_sites s h cells x
    code_sites s h cells (c.At place false x) = code_sites s h cells x
    code_sites s h cells c.Skip = []
    code_sites s h cells (c.Then x y) = code_sites s h cells x ++ code_sites s h cells y
    code_sites s h cells (c.Assign d x e) = value_sites p r s h e ++ (locate_sites p r s (cell.Datum (value_at p r s e) ∷ h) d
        ++ transfer_sites m (at r s h) (object_at p r s d) (value_at p r s e) x)
    code_sites s h cells (c.Call e) = value_sites p r s h e ++ at r s (cell.Datum (value_at p r s e) ∷ h) ∷ []
    code_sites s h cells (c.Move true x d e) = locate_sites p r s h d ++ (locate_sites p r s (cell.Object (object_at p r s d) ∷ h) e
        ++ (at r s (cell.Object (object_at p r s e) ∷ cell.Object (object_at p r s d) ∷ h)
        ∷ (work_sites p m (at r s (cell.Object (object_at p r s d) ∷ h)) (object_at p r s e) x
        ++ at r s (cell.Object (object_at p r s e) ∷ cell.Object (object_at p r s d) ∷ h) ∷ [])))
    code_sites s h cells (c.Move false x d e) = locate_sites p r s h d ++ (locate_sites p r s (cell.Object (object_at p r s d) ∷ h) e
        ++ (at r s (cell.Object (object_at p r s e) ∷ cell.Object (object_at p r s d) ∷ h)
        ∷ at r s (cell.Object (object_at p r s d) ∷ cell.Object (object_at p r s e) ∷ h)
        ∷ (work_sites p m (at r s (cell.Object (object_at p r s e) ∷ h)) (object_at p r s d) x
        ++ at r s (cell.Object (object_at p r s d) ∷ cell.Object (object_at p r s e) ∷ h) ∷ [])))
    code_sites s h cells (c.Allocate xs stat) = allocate_sites m r s h xs ++ status_sites m r s h stat
    code_sites s h cells (c.Deallocate xs stat) = deallocate_sites m r s h xs ++ status_sites m r s h stat
    code_sites s h cells (c.Print xs) = items_sites m r s h xs
    code_sites s h cells (c.Stop number) = at r s h ∷ []
    code_sites s h cells c.Return = at r s h ∷ at r s h ∷ at r s (drop cells h) ∷ []
    code_sites s h cells c.Cycle = at r s h ∷ []
    code_sites s h cells c.Exit = at r s h ∷ []
    code_sites s h cells (c.If e x y) = if_sites m r s h (value_sites p r s h e) (code_sites s h cells x) (code_sites s h cells y)
    code_sites s h cells (c.Select e x) = value_sites p r s h e ++ (at r s (cell.Datum (value_at p r s e) ∷ h)
        ∷ (code_sites (selecting (value_at p r s e) s) (cell.Outside s ∷ h) 0 x
        ++ (leaving_sites m r (selecting (value_at p r s e) s) (cell.Outside s ∷ h) ++ departing_sites m r s h cells)))
    code_sites s h cells (c.Case rs x y) = case_sites m r s h rs (code_sites s h cells x) (code_sites s h cells y)
    code_sites s h cells (c.While e x) = while_sites m r s h (value_sites p r s h e) (code_sites s h cells x)
    code_sites s h cells (c.Count d k from to by x) = limits_sites m r s h (of_kind k.of 0) from to by
        (locate_sites p r s (cell.Datum (of_kind k.of 0) ∷ cell.Datum (of_kind k.of 0) ∷ cell.Datum (of_kind k.of 0) ∷ h) d
        ++ (at r s (cell.Object (object_at p r s d) ∷ cell.Datum (of_kind k.of 0) ∷ cell.Datum (of_kind k.of 0) ∷ cell.Datum (of_kind k.of 0) ∷ h)
        ∷ turns_sites m r s h (code_sites s (cell.Turns ∷ h) (suc cells) x) (up_sites m r s h d)))
    code_sites s h cells (c.Associate xs x) =
        let ks = selected_at m r s xs in let inner = associating ks s in
        selectors_sites m r s h xs ++ (at r s (selectors_on ks h)
        ∷ (code_sites inner (cell.Outside s ∷ cell.Level ks ∷ h) 0 x
        ++ (leaving_sites m r inner (cell.Outside s ∷ cell.Level ks ∷ h) ++ (at r s (cell.Going ∷ cell.Level ks ∷ h)
        ∷ (discards_sites m r s (cell.Going ∷ cell.Level ks ∷ h) ks xs
        ++ (at r s (cell.Objects [] ∷ cell.Going ∷ cell.Level ks ∷ h) ∷ departing_sites m r s h cells))))))

  -- ---- procedures

  -- above the cells of a site stand the objects that are left, of such kinds
  abbrev pub each_sites : ℕ → Site → List Kind → List w.Work → List Site
  each_sites m h ks [] = []
  each_sites m h [] (x ∷ xs) = []
  each_sites m h (k ∷ ks) (x ∷ xs) = stacked (cell.Objects (k ∷ ks) ∷ []) h ∷ (work_sites p m (stacked (cell.Objects ks ∷ []) h) k x
      ++ (stacked (cell.Object k ∷ cell.Objects ks ∷ []) h ∷ each_sites m h ks xs))

  abbrev pub finish_sites : ℕ → Site → ℕ → List w.Work → List Site
  finish_sites m h n [] = []
  finish_sites m h n (x ∷ xs) =
      h ∷ (work_sites p m h (variable_kind h.scope n) x ++ (stacked (cell.Object (variable_kind h.scope n) ∷ []) h ∷ finish_sites m h (suc n) xs))

  abbrev pub scope_of : c.Procedure → Scope
  scope_of q = record { variables = q.variables; names = kinds_of q.dummies; selected = None }

  abbrev pub returns_of : c.Procedure → Kind
  returns_of q = kind_or (result_in q.variables q.result)

  -- where a procedure looks at its caller
  abbrev pub outward : Kind → List CellType → Site
  outward r h = record { is_reached = true; returns = r; scope = Untold; cells = h }

  abbrev pub last_sites : ℕ → c.Procedure → List Site
  last_sites m q = finish_sites m (at (returns_of q) (scope_of q) []) 0 q.finish
      ++ (at (returns_of q) (scope_of q) [] ∷ at (returns_of q) (scope_of q) (cell.Datum (returns_of q) ∷ [])
      ∷ (each_sites m (outward (returns_of q) (cell.Datum (returns_of q) ∷ [])) (kinds_of q.dummies) q.discard
      ++ outward (returns_of q) (cell.Objects [] ∷ cell.Datum (returns_of q) ∷ []) ∷ []))

  abbrev pub body_sites : ℕ → c.Procedure → List Site
  body_sites m q = at (returns_of q) (scope_of q) []
      ∷ (each_sites m (at (returns_of q) (scope_of q) []) (kinds_of q.dummies) q.begin
      ++ (at (returns_of q) (scope_of q) (cell.Objects [] ∷ []) ∷ (code_sites m (returns_of q) (scope_of q) [] 0 q.body
      ++ (at (returns_of q) (scope_of q) [] ∷ at (returns_of q) (scope_of q) [] ∷ last_sites m q))))

  abbrev pub main_sites : ℕ → c.Procedure → List Site
  main_sites m q = code_sites m (returns_of q) (scope_of q) [] 0 q.body
      ++ (at (returns_of q) (scope_of q) [] ∷ at (returns_of q) (scope_of q) [] ∷ [])

  abbrev pub procedures_sites : ℕ → List c.Procedure → List Site
  procedures_sites m [] = []
  procedures_sites m (q ∷ qs) = body_sites m q ++ procedures_sites m qs

  abbrev pub routines_sites : List w.Work → List Site
  routines_sites [] = []
  routines_sites (x ∷ xs) = work_sites p (length xs) (in_routine (length xs)) (of_kind (base.Derived (length xs)) 0) x
      ++ (stacked (cell.Object (of_kind (base.Derived (length xs)) 0) ∷ []) (in_routine (length xs)) ∷ routines_sites xs)

  -- of each line of the code of a Core program with the declarations of this one
  abbrev pub code_of_sites : c.Program → List Site
  code_of_sites x = main_sites (length x.routines) x.main ++ (routines_sites x.routines ++ procedures_sites (length x.routines) x.procedures)

-- of each line of the code of a program
abbrev pub program_sites : Program → List Site
program_sites p = code_of_sites p (lowered_program p)
