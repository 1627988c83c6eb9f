-- Where the parts are there to which references lead, objects stand.
use Rattle.std.proofs.Common.{◌≡◌, ◌∙◌, sym, ap, ℕ, zero, suc, ◌<◌, Bool, List, [], ◌∷◌, map, Option, Some, refl, subst, arith, ◌⊎◌, inl, inr}
use Rattle.std.specs.Prelude.{slice_get}
use Rattle.f3_program.specs.declared.declarations.Declared.{Declared}
use Rattle.f3_program.specs.declared.declarations.Derived.{Derived}
use Rattle.f3_program.specs.declared.declarations.Kind.{Kind}
use Rattle.f3_program.specs.declared.expression.Name.TheVariants as name
use Rattle.f3_program.specs.declared.program.Program.{Program}
use Rattle.f3_program.specs.declared.program.Static.{Static}
use Rattle.f3_meaning_whole.specs.Value.{joined}
use Rattle.f3_meaning_whole.specs.Store as stores
use Rattle.f3_meaning_whole.specs.Store.{Store, Root, Local, Path, get}
use Rattle.f3_meaning_whole.specs.Reference.{Reach, One, Many, Reference, held_at}
use Rattle.f3_meaning_whole.specs.Act.{Here, Passed, whole}
use Rattle.f3_meaning_whole.specs.Act as meaning
use Rattle.f3_meaning_whole.specs.Formed.{IsWellFormed, Given, found, of_kind}
use Rattle.f3_code.specs.State.{Cell, To, State}
use Rattle.f3_code.specs.State as state
use Rattle.f3_cell_kinds.specs.Types.{Scope, Around, Told, Untold, InRoutine, CellType, Site}
use Rattle.f3_cell_kinds.specs.Types as cell
use Rattle.f3_cell_kinds.specs.Holds.{Reaches, Refers, IsOf, AreElements, IsPassed, Is, InScope, Stand, Knows}
use Rattle.f3_cell_kinds.specs.Stands.{PassedStands, CellStands, CellsStand, VariablesStand, Stands}
use Rattle.f3_code.specs.Lower.{lowered_program}
use Rattle.f3_code.specs.Code.{program_code}
use Rattle.f3_heights.specs.Room.{state_after}
use Rattle.f3_cell_kinds.specs.Laws.{site_at}
use Rattle.f3_cell_kinds.specs.Sense.{MakesSense}
use Rattle.f3_cell_kinds.proofs.Running.{runs_hold}
use Rattle.f3_cell_kinds.proofs.Asked.{some_same, found_is}
use Rattle.f3_cell_kinds.proofs.Parting.{mapped_length}
use Rattle.f3_cell_kinds.proofs.Reaching.{shown_length, shown_count, listed_joined}
use Rattle.f3_store_kinds.specs.Typing.{Typing, kind_at, cut, IsTyped, AllLeadTo, LeadsBy, Leads, IsOrNone}
use Rattle.f3_store_kinds.specs.Accords.{IsNamed, PassedLeads, CellLeads, CellsLead, FramesLead}
use Rattle.f3_store_kinds.specs.There.{PathThere, AllThere, ReachThere, PassedThere, CellThere, CellsThere}
use Rattle.f3_store_kinds.specs.Laws.{PartsStand, RunsAccord}
use Rattle.f3_store_kinds.proofs.Running.{stores_hold}
use Rattle.f3_store_kinds.proofs.Stores.{root_is, read_is}
use Rattle.f3_store_kinds.proofs.Leading.{Within, within_cut, within_then, leads_more}
use Rattle.f3_store_kinds.proofs.Objects.{get_map}
use Rattle.f3_store_kinds.proofs.Holding.{named_there}

module _ (p : Program) (sites : ℕ → Site) (here : Here) (g : Typing) (store : Store) (typed : IsTyped p.types.items g store) where
  abbrev types : List Derived
  types = p.types.items

  path_stands : (k : Kind) (q : Path) → PathThere store q → IsOrNone types k (get store q) → IsOf types k (get store q)
  path_stands k q there (inl e) = absurd (there e)
  path_stands k q there (inr h) = h

  paths_stand : (k : Kind) (ps : List Path) → AllLeadTo types g k ps → AllThere store ps → AreElements types k (joined (map (get store) ps))
  paths_stand k [] e there = tt
  paths_stand k (q ∷ ps) e there = (path_stands k q there.0 (read_is types g store k q typed e.0), paths_stand k ps e.1 there.1)

  one_stands : (k : Kind) (q : Path) → ReachThere store k q One → IsOrNone types k (get store q) → IsOf types k (get store q)
  one_stands k q (inl held) (inl e) = subst (λ v. IsOf types k v) (sym e) held
  one_stands k q (inr there) (inl e) = absurd (there e)
  one_stands k q there (inr h) = h

  reach_stands : (k : Kind) (q : Path) (reach : Reach) → Reaches k reach → LeadsBy types g k q reach → ReachThere store k q reach → IsOf types k (held_at store q reach)
  reach_stands k q One h e there = one_stands k q there (read_is types g store k q typed e)
  reach_stands k q (Many ss ps) h e there = (
    h.0,
    h.1,
    shown_length types ss ∙ h.2,
    listed_joined types (map (get store) ps) ∙ mapped_length (get store) ps ∙ h.3 ∙ sym (shown_count types ss),
    paths_stand (of_kind k.of 0) ps e.1 there,
  )

  object_stands : (h : Typing) (k : Kind) (r : Reference) → Within h g → Refers k r → Leads types h k r → ReachThere store k r.path r.reach → IsOf types k (held_at store r.path r.reach)
  object_stands h k r w is e there = reach_stands k r.path r.reach is.1 (leads_more types h g k r w e) there

  passed_stands : (h : Typing) (x : Given) (y : Passed) → Within h g → IsPassed types x y → PassedLeads types h x y → PassedThere store x y → PassedStands types store x y
  passed_stands h x (meaning.Given n v) w is e there = tt
  passed_stands h x (meaning.Lent n r) w is e there = object_stands h x.kind r w is.2 e there

  cell_stands : (h : Typing) (x : CellType) (c : Cell) → Within h g → Is types x c → CellLeads types h x c → CellThere store x c → CellStands p here store x c
  cell_stands h (cell.Object k) (state.Object r) w is e there = object_stands h k r w is e there
  cell_stands h (cell.Argument x) (state.Argument y) w is e there = passed_stands h x y w is e there
  cell_stands h x c w is e there = tt

  cells_stand : (Rest : Typing → Type 0) (Known : Scope → Type 0) (r end : Kind) (h : Typing) (level : ℕ) (names : List Reference) (o a : Around) (xs : List CellType) (stack : List Cell) →
      Within h g → Stand types sites Known a r xs stack end → CellsLead types sites Rest h level names o xs stack → CellsThere store xs stack → CellsStand p here store xs stack
  cells_stand Rest Known r end h level names o a [] stack w is e there = tt
  cells_stand Rest Known r end h level names o a (x ∷ xs) [] w is e there = absurd is
  cells_stand Rest Known r end h level names o a (cell.Outside c ∷ xs) (state.Outside outer ∷ below) w is e there =
      (tt, cells_stand Rest Known r end h outer.level outer.names (Told c) a xs below w is.1 e.1 there.1)
  cells_stand Rest Known r end h level names o a (cell.Level ks ∷ xs) (state.Level from rs ∷ below) w is e there =
      (tt, cells_stand Rest Known r end (cut from h) level names o a xs below (within_then (cut from h) h g (within_cut from h) w) is.1 e.1 there.1)
  cells_stand Rest Known r end h level names o a (x ∷ xs) (c ∷ below) w is e there =
      (cell_stands h x c w is.0 e.0 there.0, cells_stand Rest Known r end h level names o a xs below w is.1 e.1 there.1)

  -- ---- variables

  root_stands : (t u : Root) (k : Kind) → Some u ≡ Some t → kind_at g u ≡ Some k → IsOf types k (get store (whole t))
  root_stands t u k e f = subst (λ z. IsOf types k (get store (whole z))) (some_same e) (root_is types g store u k typed f)

  variables_stand : g.statics ≡ map (λ (y : Static). y.declared.kind) p.statics.items → (c : Scope) → IsNamed types g here.level here.names c → VariablesStand p here store c
  variables_stand same c known (name.Static n) k t e f =
      let y = found_is (slice_get p.statics.items n) _ k e in
      root_stands t (stores.Static n) k f (ap (λ (ks : List Kind). slice_get ks n) same ∙ get_map (λ (y : Static). y.declared.kind) p.statics.items n y.0 y.1 ∙ y.2)
  variables_stand same c known (name.Local n) k t e f =
      let y = found_is (slice_get c.variables n) _ k e in
      root_stands t (Local here.level n) k f
      (ap (λ (o : Option (List Kind)). found o (λ (ks : List Kind). slice_get ks n)) known.0 ∙ get_map (λ (y : Declared). y.kind) c.variables n y.0 y.1 ∙ y.2)
  variables_stand same c known (name.Lent n) k t e f = cc

  scope_stands : g.statics ≡ map (λ (y : Static). y.declared.kind) p.statics.items → (o : Around) → InScope types (IsNamed types g here.level here.names) o →
      InScope types (VariablesStand p here store) o
  scope_stands same (Told c) known = variables_stand same c known
  scope_stands same Untold known = tt
  scope_stands same InRoutine known = tt

pub parts_stand : PartsStand
parts_stand p sites s g fits acc there = record {
  cells = cells_stand p sites s.here g s.world.store acc.store (λ h. FramesLead p.types.items sites h s.frames) (Knows p.types.items s.here) (sites s.pc).returns fits.end g s.here.level s.here.names
      (sites s.pc).scope (sites s.pc).scope (sites s.pc).cells s.stack (record { statics = refl; levels = λ l ks e. e }) fits.stack acc.leads there;
  variables = scope_stands p sites s.here g s.world.store acc.store acc.statics (sites s.pc).scope
      (named_there p.types.items sites (λ h. FramesLead p.types.items sites h s.frames) g s.here.level s.here.names (sites s.pc).scope (sites s.pc).cells s.stack acc.leads);
}

-- ---- runs

by_last : (n j : ℕ) → j < suc n → (j < n) ⊎ (j ≡ n)
by_last zero zero h = inr refl
by_last zero (suc j) h = absurd (omega arith)
by_last (suc n) zero h = inl (omega arith)
by_last (suc n) (suc j) h = one_more (by_last n j (omega arith))
  where
    one_more : (j < n) ⊎ (j ≡ n) → (suc j < suc n) ⊎ (suc j ≡ suc n)
    one_more (inl f) = inl (omega arith)
    one_more (inr f) = inr (ap suc f)

module _ (limit : ℕ) (p : Program) (formed : IsWellFormed p) (sense : MakesSense p) (answers : ℕ → Bool) where
  abbrev At : ℕ → State → Type 0
  At j t = state_after limit (lowered_program p) (program_code (lowered_program p)) answers j ≡ Some t

  -- where parts have been there, objects have stood
  all_stand : (n : ℕ) → ((j : ℕ) (t : State) → j < n → At j t → CellsThere t.world.store (site_at p t.pc).cells t.stack) → (j : ℕ) (t : State) → j < n → At j t → Stands p (site_at p) t
  all_stand zero there j t less f = absurd (omega arith)
  all_stand (suc n) there j t less f = by_number (λ i u h g. all_stand n (λ m v q. there m v (omega arith)) i u h g) (by_last n j less)
    where
      by_number : ((i : ℕ) (u : State) → i < n → At i u → Stands p (site_at p) u) → (j < n) ⊎ (j ≡ n) → Stands p (site_at p) t
      by_number before (inl h) = before j t h f
      by_number before (inr same) =
          let at : At n t = subst (λ m. At m t) same f in
          let acc = stores_hold limit p formed sense answers n t before at in
          parts_stand p (site_at p) t acc.0 (runs_hold limit p formed sense answers n t before at) acc.1 (there j t less f)

pub runs_accord : RunsAccord
runs_accord limit p formed sense answers k s there e =
    let steady = all_stand limit p formed sense answers k there in
    let f = stores_hold limit p formed sense answers k s steady e in
    (runs_hold limit p formed sense answers k s steady e, f.0, f.1)
