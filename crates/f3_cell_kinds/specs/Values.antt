-- The sites of the code of expressions, designators and work on objects: each function stands beside the one of the same code.
use Rattle.std.specs.Prelude.{ℕ, Bool, true, false, not, ◌&&◌, nat_eq, nat_lt, if◌then◌else◌, List, [], ◌∷◌, ◌++◌, Option, Some, None, slice_get}
use Rattle.f3_program.specs.declared.declarations.Component.{Component}
use Rattle.f3_program.specs.declared.declarations.Kind.{Kind}
use Rattle.f3_program.specs.declared.expression.Argument as a
use Rattle.f3_program.specs.declared.expression.Designator as d
use Rattle.f3_program.specs.declared.expression.Expression as e
use Rattle.f3_program.specs.declared.expression.Selection as l
use Rattle.f3_program.specs.declared.expression.Subscript as u
use Rattle.f3_program.specs.declared.program.Procedure.{Procedure}
use Rattle.f3_program.specs.declared.program.Program.{Program}
use Rattle.f3_meaning_whole.specs.Act.{component_of}
use Rattle.f3_meaning_whole.specs.Formed.{Given, of_kind, value_kind, object_kind, kind_of_name}
use Rattle.f3_code.specs.Work as w
use Rattle.f3_cell_kinds.specs.Types.{Scope, Told, CellType, Site, arguments_on, choices_on}
use Rattle.f3_cell_kinds.specs.Types as cell
use Rattle.f3_cell_kinds.specs.Effect.{truth, held_kind, declared_kind, part_cell}

abbrev pub kind_or : Option Kind → Kind
kind_or None = truth
kind_or (Some k) = k

-- in a scope of a procedure that returns with a value of a kind, with these cells
abbrev pub at : Kind → Scope → List CellType → Site
at r s h = record { is_reached = true; returns = r; scope = Told s; cells = h }

-- more cells on top
abbrev pub stacked : List CellType → Site → Site
stacked xs h = record { is_reached = h.is_reached; returns = h.returns; scope = h.scope; cells = xs ++ h.cells }

-- reached where this holds too
abbrev pub reached_if : Bool → Site → Site
reached_if b h = record { is_reached = b && h.is_reached; returns = h.returns; scope = h.scope; cells = h.cells }

-- the kind of a component, by its number
abbrev pub kind_of_part : Option Component → Kind
kind_of_part None = truth
kind_of_part (Some x) = x.declared.kind

abbrev pub is_triplet : u.Subscript → Bool
is_triplet (u.At' p x) = false
is_triplet (u.Range' has_lower p x has_upper q y r z) = true

abbrev pub triplets : {m : _} → l.Row_of-Subscript m → List Bool
triplets l.end_of-Subscript = []
triplets (l.more_of-Subscript x rest) = is_triplet x ∷ triplets rest

-- the kind of the value with which a procedure returns
abbrev pub kind_of_procedure : Option Procedure → Kind
kind_of_procedure None = truth
kind_of_procedure (Some q) = declared_kind q.result

module _ (p : Program) where
  abbrev pub returned : ℕ → Kind
  returned f = kind_of_procedure (slice_get p.procedures.items f)

  abbrev pub component_at : Kind → ℕ → Kind
  component_at k n = kind_of_part (component_of p.types.items k.of n)

  -- ---- expressions and designators in a scope of a procedure, above such cells

  module _ (r : Kind) (s : Scope) where
    abbrev pub value_at : e.Expression → Kind
    value_at x = kind_or (value_kind p s.variables s.names x)

    abbrev pub object_at : d.Designator → Kind
    object_at x = kind_or (object_kind p s.variables s.names x)

    abbrev pub argument_at : a.Argument → Given
    argument_at (a.Value' k q x) = record { number = k; kind = value_at x; is_variable = false }
    argument_at (a.Variable' k q x) = record { number = k; kind = object_at x; is_variable = true }

    abbrev pub arguments_at : {m : _} → e.Row_of-Argument m → List Given
    arguments_at e.end_of-Argument = []
    arguments_at (e.more_of-Argument x rest) = argument_at x ∷ arguments_at rest

    abbrev mutual
      pub value_sites : List CellType → e.Expression → List Site
      value_sites h (e.Literal c) = at r s h ∷ []
      value_sites h (e.Variable' q x) = locate_sites h x ++ at r s (cell.Object (object_at x) ∷ h) ∷ []
      value_sites h (e.Group' q x) = value_sites h x ++ at r s (cell.Datum (value_at x) ∷ h) ∷ []
      value_sites h (e.Unary' o t q x) = value_sites h x ++ at r s (cell.Datum (value_at x) ∷ h) ∷ []
      value_sites h (e.Binary' o t q x q' y) = value_sites h x ++ (value_sites (cell.Datum (value_at x) ∷ h) y
          ++ at r s (cell.Datum (value_at y) ∷ cell.Datum (value_at x) ∷ h) ∷ [])
      value_sites h (e.Array' k xs) = arguments_sites h xs ++ at r s (arguments_on (arguments_at xs) h) ∷ []
      value_sites h (e.Structure' t k xs) = arguments_sites h xs ++ at r s (arguments_on (arguments_at xs) h) ∷ []
      value_sites h (e.Call' f k xs) = arguments_sites h xs ++ (at r s (arguments_on (arguments_at xs) h) ∷ at r s (cell.Datum (returned f) ∷ h) ∷ [])
      value_sites h (e.Allocated' q x) = locate_sites h x ++ at r s (cell.Object (object_at x) ∷ h) ∷ []
      value_sites h (e.Size' q x) = bounds_sites h x ++ at r s (cell.Bounds (argument_at x).kind.rank ∷ h) ∷ []
      value_sites h (e.Bound' o q x q' y) = bounds_sites h x ++ (value_sites (cell.Bounds (argument_at x).kind.rank ∷ h) y
          ++ at r s (cell.Datum (value_at y) ∷ cell.Bounds (argument_at x).kind.rank ∷ h) ∷ [])

      pub bounds_sites : List CellType → a.Argument → List Site
      bounds_sites h (a.Value' k q x) = value_sites h x ++ at r s (cell.Datum (value_at x) ∷ h) ∷ []
      bounds_sites h (a.Variable' k q x) = locate_sites h x ++ at r s (cell.Object (object_at x) ∷ h) ∷ []

      pub argument_sites : List CellType → a.Argument → List Site
      argument_sites h (a.Value' k q x) = value_sites h x ++ at r s (cell.Datum (value_at x) ∷ h) ∷ []
      argument_sites h (a.Variable' k q x) = locate_sites h x ++ at r s (cell.Object (object_at x) ∷ h) ∷ []

      pub arguments_sites : {m : _} → List CellType → e.Row_of-Argument m → List Site
      arguments_sites h e.end_of-Argument = []
      arguments_sites h (e.more_of-Argument x rest) = argument_sites h x ++ arguments_sites (cell.Argument (argument_at x) ∷ h) rest

      pub locate_sites : List CellType → d.Designator → List Site
      locate_sites h (d.Name x how) = at r s h ∷ select_sites h (kind_or (kind_of_name p s.variables s.names x)) how
      locate_sites h (d.Component' q x n how) = locate_sites h x ++ select_of_sites h (object_at x) n how

      -- above such cells stands the object, of this kind
      pub select_sites : List CellType → Kind → l.Selection → List Site
      select_sites h k l.Whole = []
      select_sites h k l.Contents = at r s (cell.Object k ∷ h) ∷ []
      select_sites h k (l.Elements' is_opened n xs) = chosen_sites (cell.Object k ∷ h) xs ++ at r s (choices_on (triplets xs) (cell.Object k ∷ h)) ∷ []

      -- a component of the object
      pub select_of_sites : List CellType → Kind → ℕ → l.Selection → List Site
      select_of_sites h k n l.Whole = at r s (cell.Object k ∷ h) ∷ []
      select_of_sites h k n l.Contents = at r s (cell.Object k ∷ h) ∷ at r s (cell.Object (component_at k n) ∷ h) ∷ []
      select_of_sites h k n (l.Elements' is_opened m xs) = at r s (cell.Object k ∷ h)
          ∷ (chosen_sites (part_cell k n (component_at k n) ∷ cell.Object k ∷ h) xs
          ++ at r s (choices_on (triplets xs) (part_cell k n (component_at k n) ∷ cell.Object k ∷ h)) ∷ [])

      pub chosen_sites : {m : _} → List CellType → l.Row_of-Subscript m → List Site
      chosen_sites h l.end_of-Subscript = []
      chosen_sites h (l.more_of-Subscript x rest) = subscript_sites h x ++ chosen_sites (cell.Choice (is_triplet x) ∷ h) rest

      pub subscript_sites : List CellType → u.Subscript → List Site
      subscript_sites h (u.At' q x) = value_sites h x ++ at r s (cell.Datum (value_at x) ∷ h) ∷ []
      subscript_sites h (u.Range' has_lower q x has_upper q' y q'' z) =
          (if has_lower then value_sites h x ++ at r s (cell.Datum (value_at x) ∷ h) ∷ [] else at r s h ∷ [])
          ++ ((if has_upper then value_sites (cell.Bound ∷ h) y ++ at r s (cell.Datum (value_at y) ∷ cell.Bound ∷ h) ∷ [] else at r s (cell.Bound ∷ h) ∷ [])
          ++ (value_sites (cell.Bound ∷ cell.Bound ∷ h) z ++ at r s (cell.Datum (value_at z) ∷ cell.Bound ∷ cell.Bound ∷ h) ∷ []))

  -- ---- work on an object of a kind, above the cells of a site, where there are so many routines

  abbrev pub work_sites : ℕ → Site → Kind → w.Work → List Site
  work_sites m h k w.Rest = []
  work_sites m h k (w.And x y) = work_sites m h k x ++ work_sites m h k y
  work_sites m h k (w.Lending x) = stacked (cell.Object k ∷ []) h ∷ (work_sites m h k x ++ stacked (cell.Object k ∷ []) h ∷ [])
  work_sites m h k (w.Of_rank rank x y) = stacked (cell.Object k ∷ []) h ∷ (work_sites m (reached_if (nat_eq rank k.rank) h) k x
      ++ (stacked (cell.Object k ∷ []) (reached_if (nat_eq rank k.rank) h) ∷ work_sites m (reached_if (not (nat_eq rank k.rank)) h) k y))
  work_sites m h k (w.Final f) = stacked (cell.Object k ∷ []) h
      ∷ stacked (cell.Argument (record { number = 0; kind = k; is_variable = true }) ∷ cell.Object k ∷ []) h
      ∷ stacked (cell.Datum (returned f) ∷ cell.Object k ∷ []) h ∷ []
  work_sites m h k (w.Routine t) = if nat_lt t m then stacked (cell.Object k ∷ []) h ∷ [] else []
  work_sites m h k (w.Of_component n x) = stacked (cell.Object k ∷ []) h ∷ (work_sites m (stacked (cell.Object k ∷ []) h) (component_at k n) x
      ++ stacked (cell.Object (component_at k n) ∷ cell.Object k ∷ []) h ∷ [])
  work_sites m h k (w.Of_elements x) = stacked (cell.Object k ∷ []) h ∷ stacked (cell.Elements k.of ∷ cell.Object k ∷ []) h
      ∷ (work_sites m (stacked (cell.Elements k.of ∷ cell.Object k ∷ []) h) (of_kind k.of 0) x
      ++ (stacked (cell.Object (of_kind k.of 0) ∷ cell.Elements k.of ∷ cell.Object k ∷ []) h ∷ stacked (cell.Elements k.of ∷ cell.Object k ∷ []) h ∷ []))
  work_sites m h k (w.If_allocated x) = stacked (cell.Object k ∷ []) h ∷ work_sites m h k x
  work_sites m h k (w.Of_contents x) = stacked (cell.Object k ∷ []) h ∷ (work_sites m (stacked (cell.Object k ∷ []) h) (held_kind k) x
      ++ (stacked (cell.Object (held_kind k) ∷ cell.Object k ∷ []) h ∷ stacked (cell.Object k ∷ []) h ∷ []))
  work_sites m h k w.Clear = stacked (cell.Object k ∷ []) h ∷ []
  work_sites m h k (w.Set v) = stacked (cell.Object k ∷ []) h ∷ []
  work_sites m h k w.Discard = stacked (cell.Object k ∷ []) h ∷ []
