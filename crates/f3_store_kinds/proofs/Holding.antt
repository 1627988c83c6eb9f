-- What instructions do keeps to where references lead: the parts.
use Rattle.std.proofs.Common.{◌≡◌, refl, ap, ℕ, zero, suc, ◌+◌, ℤ, Bool, true, false, List, [], ◌∷◌, ◌++◌, length, drop, Option, sym, subst, if◌then◌else◌, arith, map}
use Rattle.f3_program.specs.declared.declarations.Base.{Base}
use Rattle.f3_program.specs.declared.declarations.Derived.{Derived}
use Rattle.f3_program.specs.declared.declarations.Kind.{Kind}
use Rattle.f3_program.specs.declared.program.Program.{Program}
use Rattle.f3_program.specs.declared.program.Static as x
use Rattle.f3_meaning_whole.specs.Value.{Span, Value}
use Rattle.f3_meaning_whole.specs.Store.{Path, Store}
use Rattle.f3_meaning_whole.specs.Reference.{Reference}
use Rattle.f3_meaning_whole.specs.declared.run_error.RunError.{RunError}
use Rattle.f3_meaning_whole.specs.Ran.{Event, World, End, Gives, Fails, Stops, Beyond, Ran}
use Rattle.f3_meaning_whole.specs.Act.{Here, Passed, Chosen}
use Rattle.f3_meaning_whole.specs.Act as meaning
use Rattle.f3_meaning_whole.specs.Exec.{Flow, Association, Holds, Means}
use Rattle.f3_meaning_whole.specs.Formed.{Given, of_kind}
use Rattle.f3_code.specs.State as state
use Rattle.f3_code.specs.State.{Cell, To, Frame, State, Next, Goes, Stays}
use Rattle.f3_code.specs.Machine.{ends_so, performs, on_datum, on_object, on_bound, on_bounds, on_status, on_turns, on_elements, on_objects, on_level, on_outside, on_going, on_any, on_many, extent_of, argument_of, choice_of, selector_of}
use Rattle.f3_cell_kinds.specs.Types.{Scope, Around, Told, Untold, InRoutine, CellType, Site, sort_of_type, arguments_on, choices_on, selectors_on}
use Rattle.f3_cell_kinds.specs.Types as cell
use Rattle.f3_cell_kinds.specs.Effect.{extents_on}
use Rattle.f3_cell_kinds.specs.Holds.{Refers, AllRefer, IsOf, InScope, Stand}
use Rattle.f3_cell_kinds.proofs.Calm.{IsCalm, Calm}
use Rattle.f3_cell_kinds.proofs.Given.{arguments_over}
use Rattle.f3_cell_kinds.proofs.OfActions.{selectors_over}
use Rattle.f3_cell_kinds.proofs.Picking.{AllChosen}
use Rattle.f3_cell_kinds.proofs.Reaching.{AllPassed, AllSelected}
use Rattle.f3_store_kinds.specs.Typing.{Typing, cut, AllLeadTo, EachLeads, PartsBy, Leads, AllLead, IsTyped}
use Rattle.f3_store_kinds.specs.Accords.{AllKnown, LevelsKnown, IsNamed, PassedLeads, SelectorLeads, CellLeads, CellsLead, FramesLead, Accords, Follows, Stays}
use Rattle.f3_store_kinds.specs.Clean.{IsPlain}
use Rattle.f3_store_kinds.proofs.Leading.{Within, within_cut, within_both, path_more, leads_more, each_more, parts_by_more, all_more}
use Rattle.f3_store_kinds.proofs.After.{IsAfter, After}
use Rattle.f3_store_kinds.proofs.Calling.{AllPassedLead, AllSelectedLead}

append_none : {A : Type 0} (xs : List A) → xs ++ [] ≡ xs
append_none [] = refl
append_none (x ∷ xs) = ap (λ l. x ∷ l) (append_none xs)

module _ (types : List Derived) (sites : ℕ → Site) where
  -- ---- plain cells

  pub plain_off : (Rest : Typing → Type 0) (g : Typing) (level : ℕ) (names : List Reference) (o : Around) (x : CellType) (xs : List CellType) (c : Cell) (stack : List Cell) →
      IsPlain (sort_of_type x) → CellsLead types sites Rest g level names o (x ∷ xs) (c ∷ stack) → CellLeads types g x c × CellsLead types sites Rest g level names o xs stack
  plain_off Rest g level names o (cell.Outside d) xs c stack e h = absurd e
  plain_off Rest g level names o (cell.Level ks) xs c stack e h = absurd e
  plain_off Rest g level names o x xs c stack e h = h

  pub plain_on : (Rest : Typing → Type 0) (g : Typing) (level : ℕ) (names : List Reference) (o : Around) (x : CellType) (xs : List CellType) (c : Cell) (stack : List Cell) →
      IsPlain (sort_of_type x) → CellLeads types g x c → CellsLead types sites Rest g level names o xs stack → CellsLead types sites Rest g level names o (x ∷ xs) (c ∷ stack)
  plain_on Rest g level names o (cell.Outside d) xs c stack e f h = absurd e
  plain_on Rest g level names o (cell.Level ks) xs c stack e f h = absurd e
  plain_on Rest g level names o x xs c stack e f h = (f, h)

  -- ---- by a typing that has more

  pub in_more : (g h : Typing) (level : ℕ) (names : List Reference) (o : Around) → Within g h → InScope types (IsNamed types g level names) o → InScope types (IsNamed types h level names) o
  in_more g h level names (Told c) w e = (w.levels level _ e.0, all_more types g h c.names names w e.1)
  in_more g h level names Untold w e = tt
  in_more g h level names InRoutine w e = tt

  -- what may be named there is so by the typing of the whole store
  pub named_there : (Rest : Typing → Type 0) (g : Typing) (level : ℕ) (names : List Reference) (o : Around) (xs : List CellType) (stack : List Cell) →
      CellsLead types sites Rest g level names o xs stack → InScope types (IsNamed types g level names) o
  named_there Rest g level names o [] [] h = h.0
  named_there Rest g level names o [] (To back place ∷ below) h = h.0
  named_there Rest g level names o [] (c ∷ below) h = absurd h
  named_there Rest g level names o (x ∷ xs) [] h = absurd h
  named_there Rest g level names o (cell.Outside c ∷ xs) (state.Outside outer ∷ below) h = h.0
  named_there Rest g level names o (cell.Level ks ∷ xs) (state.Level from rs ∷ below) h =
      in_more (cut from g) g level names o (within_cut from g) (named_there Rest (cut from g) level names o xs below h.1)
  named_there Rest g level names o (x ∷ xs) (c ∷ below) h = named_there Rest g level names o xs below h.1

  paths_more : (g h : Typing) (k : Kind) (ps : List Path) → Within g h → AllLeadTo types g k ps → AllLeadTo types h k ps
  paths_more g h k [] w e = tt
  paths_more g h k (p ∷ ps) w e = (path_more types g h k p w e.0, paths_more g h k ps w e.1)

  pub passed_more : (g h : Typing) (x : Given) (y : Passed) → Within g h → PassedLeads types g x y → PassedLeads types h x y
  passed_more g h x (meaning.Given n v) w e = tt
  passed_more g h x (meaning.Lent n r) w e = leads_more types g h x.kind r w e

  pub selector_more : (g h : Typing) (k : Kind) (a : Association) → Within g h → SelectorLeads types g k a → SelectorLeads types h k a
  selector_more g h k (Holds of v) w e = e
  selector_more g h k (Means r) w e = leads_more types g h k r w e

  cell_more : (g h : Typing) (x : CellType) (c : Cell) → Within g h → CellLeads types g x c → CellLeads types h x c
  cell_more g h (cell.Object k) (state.Object r) w e = leads_more types g h k r w e
  cell_more g h (cell.Each array number k) (state.Object r) w e = (each_more types g h k r w e.0, parts_by_more types g h array.of number r.reach w e.1)
  cell_more g h (cell.Argument x) (state.Argument y) w e = passed_more g h x y w e
  cell_more g h (cell.Elements of) (state.Elements ps) w e = paths_more g h (of_kind of 0) ps w e
  cell_more g h (cell.Objects ks) (state.Objects rs) w e = all_more types g h ks rs w e
  cell_more g h (cell.Selector k) (state.Selector a) w e = selector_more g h k a w e
  cell_more g h x c w e = e

  pub all_passed_more : (g h : Typing) (xs : List Given) (ys : List Passed) → Within g h → AllPassedLead types g xs ys → AllPassedLead types h xs ys
  all_passed_more g h [] ys w e = tt
  all_passed_more g h (x ∷ xs) [] w e = tt
  all_passed_more g h (x ∷ xs) (y ∷ ys) w e = (passed_more g h x y w e.0, all_passed_more g h xs ys w e.1)

  pub all_selected_more : (g h : Typing) (xs : List Kind) (ys : List Association) → Within g h → AllSelectedLead types g xs ys → AllSelectedLead types h xs ys
  all_selected_more g h [] ys w e = tt
  all_selected_more g h (x ∷ xs) [] w e = tt
  all_selected_more g h (x ∷ xs) (y ∷ ys) w e = (selector_more g h x y w e.0, all_selected_more g h xs ys w e.1)

  -- what is beneath the cells of an activation holds by more too
  abbrev pub Keeping : (Typing → Type 0) → Type 0
  Keeping Rest = (g h : Typing) → Within g h → Rest g → Rest h

  pub cells_more : (Rest : Typing → Type 0) → Keeping Rest → (g h : Typing) (level : ℕ) (names : List Reference) (o : Around) (xs : List CellType) (stack : List Cell) → Within g h →
      CellsLead types sites Rest g level names o xs stack → CellsLead types sites Rest h level names o xs stack
  cells_more Rest keep g h level names o [] [] w e = (in_more g h level names o w e.0, keep g h w e.1)
  cells_more Rest keep g h level names o [] (To back place ∷ below) w e =
      (in_more g h level names o w e.0, cells_more Rest keep g h level names (sites back).scope (drop 1 (sites back).cells) below w e.1)
  cells_more Rest keep g h level names o [] (c ∷ below) w e = absurd e
  cells_more Rest keep g h level names o (x ∷ xs) [] w e = absurd e
  cells_more Rest keep g h level names o (cell.Outside c ∷ xs) (state.Outside outer ∷ below) w e =
      (in_more g h level names o w e.0, cells_more Rest keep g h outer.level outer.names (Told c) xs below w e.1)
  cells_more Rest keep g h level names o (cell.Level ks ∷ xs) (state.Level from rs ∷ below) w e =
      (all_more types g h ks rs w e.0, cells_more Rest keep (cut from g) (cut from h) level names o xs below (within_both from g h w) e.1)
  cells_more Rest keep g h level names o (x ∷ xs) (c ∷ below) w e = (cell_more g h x c w e.0, cells_more Rest keep g h level names o xs below w e.1)

  pub frames_more : (fs : List Frame) → Keeping (λ g. FramesLead types sites g fs)
  frames_more [] g h w e = tt
  frames_more (f ∷ fs) g h w e = cells_more (λ y. FramesLead types sites y fs) (frames_more fs) (cut f.level g) (cut f.level h) f.here.level f.here.names (sites f.pc).scope
      (drop 1 (sites f.pc).cells) f.stack (within_both f.level g h w) e

  -- the callers
  pub rest_there : (Rest : Typing → Type 0) → Keeping Rest → (g : Typing) (level : ℕ) (names : List Reference) (o : Around) (xs : List CellType) (stack : List Cell) →
      CellsLead types sites Rest g level names o xs stack → Rest g
  rest_there Rest keep g level names o [] [] h = h.1
  rest_there Rest keep g level names o [] (To back place ∷ below) h = rest_there Rest keep g level names (sites back).scope (drop 1 (sites back).cells) below h.1
  rest_there Rest keep g level names o [] (c ∷ below) h = absurd h
  rest_there Rest keep g level names o (x ∷ xs) [] h = absurd h
  rest_there Rest keep g level names o (cell.Outside c ∷ xs) (state.Outside outer ∷ below) h = rest_there Rest keep g outer.level outer.names (Told c) xs below h.1
  rest_there Rest keep g level names o (cell.Level ks ∷ xs) (state.Level from rs ∷ below) h =
      keep (cut from g) g (within_cut from g) (rest_there Rest keep (cut from g) level names o xs below h.1)
  rest_there Rest keep g level names o (x ∷ xs) (c ∷ below) h = rest_there Rest keep g level names o xs below h.1

  -- where a procedure looks at its caller it is no matter what statements may name
  pub away : (Rest : Typing → Type 0) (g : Typing) (level level' : ℕ) (names names' : List Reference) (Known : Scope → Type 0) (o : Around) (r end : Kind) (xs : List CellType)
      (stack : List Cell) → (o ≡ InRoutine → ⊥) → Stand types sites Known o r xs stack end → CellsLead types sites Rest g level names o xs stack →
      CellsLead types sites Rest g level' names' Untold xs stack
  away Rest g level level' names names' Known o r end [] [] other is h = (tt, h.1)
  away Rest g level level' names names' Known o r end [] (To back place ∷ below) other is h = absurd (other is.0)
  away Rest g level level' names names' Known o r end [] (c ∷ below) other is h = absurd h
  away Rest g level level' names names' Known o r end (x ∷ xs) [] other is h = absurd h
  away Rest g level level' names names' Known o r end (cell.Outside c ∷ xs) (state.Outside outer ∷ below) other is h = (tt, h.1)
  away Rest g level level' names names' Known o r end (cell.Level ks ∷ xs) (state.Level from rs ∷ below) other is h =
      (h.0, away Rest (cut from g) level level' names names' Known o r end xs below other is.1 h.1)
  away Rest g level level' names names' Known o r end (x ∷ xs) (c ∷ below) other is h = (h.0, away Rest g level level' names names' Known o r end xs below other is.1 h.1)

-- a typing of a store
pub record Right (p : Program) (g : Typing) (store : Store) : Type 0 where
  pub typed : IsTyped p.types.items g store
  pub statics : g.statics ≡ map (λ (y : x.Static). y.declared.kind) p.statics.items
  pub static_types : AllKnown p.types.items g.statics
  pub level_types : LevelsKnown p.types.items g.levels

module _ (p : Program) (sites : ℕ → Site) (g : Typing) where
  abbrev types : List Derived
  types = p.types.items

  -- a state accords with a typing that follows on this one
  pub record Found (s : State) : Type 0 where
    pub typing : Typing
    pub follows : Follows g typing
    pub is : Accords p sites typing s

  pub accord_by : {pc : ℕ} {r : Kind} {o : Around} {xs : List CellType} {stack : List Cell} {here : Here} {frames : List Frame} {w : World} (y : Typing) → Follows g y →
      sites pc ≡ record { is_reached = true; returns = r; scope = o; cells = xs } → Right p y w.store →
      CellsLead types sites (λ h. FramesLead types sites h frames) y here.level here.names o xs stack →
      Found (record { pc = pc; stack = stack; here = here; frames = frames; world = w })
  accord_by {stack = stack} {here = here} {frames = frames} y follows e right h = record {
    typing = y;
    follows = follows;
    is = record {
      store = right.typed;
      statics = right.statics;
      static_types = right.static_types;
      level_types = right.level_types;
      leads = subst (λ (z : Site). CellsLead types sites (λ h. FramesLead types sites h frames) y here.level here.names z.scope z.cells stack) (sym e) h;
    };
  }

  pub accord : {pc : ℕ} {r : Kind} {o : Around} {xs : List CellType} {stack : List Cell} {here : Here} {frames : List Frame} {w : World} →
      sites pc ≡ record { is_reached = true; returns = r; scope = o; cells = xs } → Right p g w.store →
      CellsLead types sites (λ h. FramesLead types sites h frames) g here.level here.names o xs stack →
      Found (record { pc = pc; stack = stack; here = here; frames = frames; world = w })
  accord e right h = accord_by g (Stays refl) e right h

  abbrev pub FoundNext : Next → Type 0
  FoundNext (Goes out t) = Found t
  FoundNext (Stays out halt) = Unit {0}

  -- where it goes, the state accords with some typing
  pub record Keeps (n : Next) : Type 0 where
    pub by : FoundNext n

  pub stays_so : {out : List Event} {halt : state.Halt} → Keeps (Stays out halt)
  stays_so = record { by = tt }

  pub goes_so : {out : List Event} {t : State} → Found t → Keeps (Goes out t)
  goes_so h = record { by = h }

  pub performing : {A : Type 0} {P : A → Store → Type 0} (r : Ran A) (w : World) {f : A → World → State} → After P w.store r →
      ((x : A) (u : World) → P x u.store → Found (f x u)) → Keeps (performs r w f)
  performing {A = A} {P = P} r w {f = f} after h = record { by = by_end (r.from w).out (r.from w).end (after.by w refl) }
    where
      by_end : (out : List Event) (end : End A) → IsAfter P end → FoundNext (ends_so out end f)
      by_end out (Gives x u) is = h x u is
      by_end out (Fails error place) is = tt
      by_end out (Stops code) is = tt
      by_end out Beyond is = tt

  pub performing_calm : {A : Type 0} {P : A → Type 0} (r : Ran A) (w : World) {f : A → World → State} → Calm P w.store r →
      ((x : A) (u : World) → P x → u.store ≡ w.store → Found (f x u)) → Keeps (performs r w f)
  performing_calm {A = A} {P = P} r w {f = f} calm h = record { by = by_end (r.from w).out (r.from w).end (calm.by w refl) }
    where
      by_end : (out : List Event) (end : End A) → IsCalm P w.store end → FoundNext (ends_so out end f)
      by_end out (Gives x u) is = h x u is.0 is.1
      by_end out (Fails error place) is = tt
      by_end out (Stops code) is = tt
      by_end out Beyond is = tt

  pub if_keeps : (x : Bool) {m n : Next} → (x ≡ true → Keeps m) → (x ≡ false → Keeps n) → Keeps (if x then m else n)
  if_keeps true h k = h refl
  if_keeps false h k = k refl

  module _ (Rest : Typing → Type 0) (level : ℕ) (names : List Reference) (Known : Scope → Type 0) (o : Around) (r end : Kind) where
    -- cells of such types that lead, and what is beneath
    pub record Has (xs : List CellType) (stack : List Cell) : Type 0 where
      pub by : Stand types sites Known o r xs stack end
      pub leads : CellsLead types sites Rest g level names o xs stack

    -- ---- what stands on top

    pub at_datum : {k : Kind} {rest : List CellType} {f : Value → List Cell → Next} (stack : List Cell) → Has (cell.Datum k ∷ rest) stack →
        ((v : Value) (st : List Cell) → IsOf types k v → Has rest st → Keeps (f v st)) → Keeps (on_datum stack f)
    at_datum [] s h = absurd s.by
    at_datum (state.Datum v ∷ st) s h = h v st s.by.0 (record { by = s.by.1; leads = s.leads.1 })
    at_datum (c ∷ st) s h = stays_so

    pub at_object : {k : Kind} {rest : List CellType} {f : Reference → List Cell → Next} (stack : List Cell) → Has (cell.Object k ∷ rest) stack →
        ((q : Reference) (st : List Cell) → Refers k q → Leads types g k q → Has rest st → Keeps (f q st)) → Keeps (on_object stack f)
    at_object [] s h = absurd s.by
    at_object (state.Object q ∷ st) s h = h q st s.by.0 s.leads.0 (record { by = s.by.1; leads = s.leads.1 })
    at_object (c ∷ st) s h = stays_so

    pub at_each : {a : Kind} {n : ℕ} {k : Kind} {rest : List CellType} {f : Reference → List Cell → Next} (stack : List Cell) → Has (cell.Each a n k ∷ rest) stack →
        ((q : Reference) (st : List Cell) → Refers (of_kind k.of a.rank) q → EachLeads types g k q → PartsBy types g a.of n q.reach → Has rest st → Keeps (f q st)) → Keeps (on_object stack f)
    at_each [] s h = absurd s.by
    at_each (state.Object q ∷ st) s h = h q st s.by.0 s.leads.0.0 s.leads.0.1 (record { by = s.by.1; leads = s.leads.1 })
    at_each (c ∷ st) s h = stays_so

    pub at_bound : {rest : List CellType} {f : (Option ℤ) → List Cell → Next} (stack : List Cell) → Has (cell.Bound ∷ rest) stack →
        ((z : Option ℤ) (st : List Cell) → Has rest st → Keeps (f z st)) → Keeps (on_bound stack f)
    at_bound [] s h = absurd s.by
    at_bound (state.Bound z ∷ st) s h = h z st (record { by = s.by.1; leads = s.leads.1 })
    at_bound (c ∷ st) s h = stays_so

    pub at_bounds : {n : ℕ} {rest : List CellType} {f : (List Span) → List Cell → Next} (stack : List Cell) → Has (cell.Bounds n ∷ rest) stack →
        ((ss : List Span) (st : List Cell) → Has rest st → Keeps (f ss st)) → Keeps (on_bounds stack f)
    at_bounds [] s h = absurd s.by
    at_bounds (state.Bounds ss ∷ st) s h = h ss st (record { by = s.by.1; leads = s.leads.1 })
    at_bounds (c ∷ st) s h = stays_so

    pub at_status : {rest : List CellType} {f : (Option RunError) → List Cell → Next} (stack : List Cell) → Has (cell.Status ∷ rest) stack →
        ((x : Option RunError) (st : List Cell) → Has rest st → Keeps (f x st)) → Keeps (on_status stack f)
    at_status [] s h = absurd s.by
    at_status (state.Status x ∷ st) s h = h x st (record { by = s.by.1; leads = s.leads.1 })
    at_status (c ∷ st) s h = stays_so

    pub at_turns : {rest : List CellType} {f : ℕ → ℤ → List Cell → Next} (stack : List Cell) → Has (cell.Turns ∷ rest) stack →
        ((k : ℕ) (step : ℤ) (st : List Cell) → Has rest st → Keeps (f k step st)) → Keeps (on_turns stack f)
    at_turns [] s h = absurd s.by
    at_turns (state.Turns k step ∷ st) s h = h k step st (record { by = s.by.1; leads = s.leads.1 })
    at_turns (c ∷ st) s h = stays_so

    pub at_elements : {b : Base} {rest : List CellType} {f : (List Path) → List Cell → Next} (stack : List Cell) → Has (cell.Elements b ∷ rest) stack →
        ((ps : List Path) (st : List Cell) → AllLeadTo types g (of_kind b 0) ps → Has rest st → Keeps (f ps st)) → Keeps (on_elements stack f)
    at_elements [] s h = absurd s.by
    at_elements (state.Elements ps ∷ st) s h = h ps st s.leads.0 (record { by = s.by.1; leads = s.leads.1 })
    at_elements (c ∷ st) s h = stays_so

    pub at_objects : {ks : List Kind} {rest : List CellType} {f : (List Reference) → List Cell → Next} (stack : List Cell) → Has (cell.Objects ks ∷ rest) stack →
        ((rs : List Reference) (st : List Cell) → AllRefer ks rs → AllLead types g ks rs → Has rest st → Keeps (f rs st)) → Keeps (on_objects stack f)
    at_objects [] s h = absurd s.by
    at_objects (state.Objects rs ∷ st) s h = h rs st s.by.0 s.leads.0 (record { by = s.by.1; leads = s.leads.1 })
    at_objects (c ∷ st) s h = stays_so

    -- beneath a level the typing is cut
    pub at_level : {ks : List Kind} {rest : List CellType} {f : ℕ → (List Reference) → List Cell → Next} (stack : List Cell) → Has (cell.Level ks ∷ rest) stack →
        ((n : ℕ) (rs : List Reference) (st : List Cell) → AllRefer ks rs → AllLead types g ks rs → CellsLead types sites Rest (cut n g) level names o rest st → Keeps (f n rs st)) →
        Keeps (on_level stack f)
    at_level [] s h = absurd s.by
    at_level (state.Level n rs ∷ st) s h = h n rs st s.by.0 s.leads.0 s.leads.1
    at_level (c ∷ st) s h = stays_so

    pub at_outside : {c : Scope} {rest : List CellType} {f : Here → List Cell → Next} (stack : List Cell) → Has (cell.Outside c ∷ rest) stack →
        ((here : Here) (st : List Cell) → CellsLead types sites Rest g here.level here.names (Told c) rest st → Keeps (f here st)) → Keeps (on_outside stack f)
    at_outside [] s h = absurd s.by
    at_outside (state.Outside here ∷ st) s h = h here st s.leads.1
    at_outside (c ∷ st) s h = stays_so

    pub at_going : {rest : List CellType} {f : Flow → List Cell → Next} (stack : List Cell) → Has (cell.Going ∷ rest) stack →
        ((flow : Flow) (st : List Cell) → Has rest st → Keeps (f flow st)) → Keeps (on_going stack f)
    at_going [] s h = absurd s.by
    at_going (state.Going flow ∷ st) s h = h flow st (record { by = s.by.1; leads = s.leads.1 })
    at_going (c ∷ st) s h = stays_so

    pub at_any : {x : CellType} {rest : List CellType} {f : Cell → List Cell → Next} (stack : List Cell) → IsPlain (sort_of_type x) → Has (x ∷ rest) stack →
        ((c : Cell) (st : List Cell) → CellLeads types g x c → Has rest st → Keeps (f c st)) → Keeps (on_any stack f)
    at_any [] plain s h = absurd s.by
    at_any {x = x} {rest = rest} (c ∷ stack) plain s h =
        let q = plain_off types sites Rest g level names o x rest c stack plain s.leads in h c stack q.0 (record { by = s.by.1; leads = q.1 })

    -- ---- many on top

    front : (n : ℕ) (h : List CellType) → extents_on (suc n) h ≡ cell.Extent ∷ extents_on n h
    front zero h = refl
    front (suc n) h = front n (cell.Extent ∷ h)

    pub at_extents : {h : List CellType} {f : List Span → List Cell → Next} (n many : ℕ) (ss : List Span) (stack : List Cell) → n + length ss ≡ many → Has (extents_on n h) stack →
        ((ss : List Span) (st : List Cell) → length ss ≡ many → Has h st → Keeps (f ss st)) → Keeps (on_many extent_of n ss stack f)
    at_extents zero many ss stack e s k = k ss stack (let m : 0 + length ss ≡ many = e in omega arith) s
    at_extents (suc n) many ss [] e s k = stays_so
    at_extents {h = h} (suc n) many ss (state.Extent x ∷ stack) e s k =
        let t = subst (λ l. Stand types sites Known o r l (state.Extent x ∷ stack) end) (front n h) s.by in
        let u = subst (λ l. CellsLead types sites Rest g level names o l (state.Extent x ∷ stack)) (front n h) s.leads in
        at_extents n many (x ∷ ss) stack (let m : suc n + length ss ≡ many = e in omega arith) (record { by = t.1; leads = u.1 }) k
    at_extents (suc n) many ss (c ∷ stack) e s k = stays_so

    arguments_from : (f : List Passed → List Cell → Next) (gs : List Given) (h : List CellType) (j : ℕ) (xs : List Passed) (stack : List Cell) → Has (arguments_on gs h) stack →
        ((ps : List Passed) (st : List Cell) → AllPassed types gs ps → AllPassedLead types g gs ps → Has h st → Keeps (on_many argument_of j (ps ++ xs) st f)) →
        Keeps (on_many argument_of (length gs + j) xs stack f)
    arguments_from f [] h j xs stack s k =
        let e : j ≡ 0 + j = omega arith in
        subst (λ n. Keeps (on_many argument_of n xs stack f)) e (k [] stack tt tt s)
    arguments_from f (y ∷ gs) h j xs stack s k =
        let e : length gs + suc j ≡ suc (length gs) + j = omega arith in
        subst (λ n. Keeps (on_many argument_of n xs stack f)) e
        (arguments_from f gs (cell.Argument y ∷ h) (suc j) xs stack s (λ ps st are lead c. one ps st are lead c))
      where
        one : (ps : List Passed) (st : List Cell) → AllPassed types gs ps → AllPassedLead types g gs ps → Has (cell.Argument y ∷ h) st → Keeps (on_many argument_of (suc j) (ps ++ xs) st f)
        one ps [] are lead c = absurd c.by
        one ps (state.Argument z ∷ st) are lead c = k (z ∷ ps) st (c.by.0, are) (c.leads.0, lead) (record { by = c.by.1; leads = c.leads.1 })
        one ps (z ∷ st) are lead c = stays_so

    pub at_arguments : {f : List Passed → List Cell → Next} {rest : List CellType} (gs : List Given) (n : ℕ) (stack : List Cell) → length gs ≡ n → Has (arguments_on gs [] ++ rest) stack →
        ((ps : List Passed) (st : List Cell) → AllPassed types gs ps → AllPassedLead types g gs ps → Has rest st → Keeps (f ps st)) → Keeps (on_many argument_of n [] stack f)
    at_arguments {f = f} {rest = rest} gs n stack many s k =
        let e : length gs + 0 ≡ n = omega (arith, many) in
        subst (λ n. Keeps (on_many argument_of n [] stack f)) e
        (arguments_from f gs rest 0 [] stack (subst (λ l. Has l stack) (sym (arguments_over gs [] rest)) s)
        (λ ps st are lead c. subst (λ l. Keeps (f l st)) (sym (append_none ps)) (k ps st are lead c)))

    choices_from : (f : List Chosen → List Cell → Next) (bs : List Bool) (h : List CellType) (j : ℕ) (xs : List Chosen) (stack : List Cell) → Has (choices_on bs h) stack →
        ((cs : List Chosen) (st : List Cell) → AllChosen bs cs → Has h st → Keeps (on_many choice_of j (cs ++ xs) st f)) →
        Keeps (on_many choice_of (length bs + j) xs stack f)
    choices_from f [] h j xs stack s k =
        let e : j ≡ 0 + j = omega arith in
        subst (λ n. Keeps (on_many choice_of n xs stack f)) e (k [] stack tt s)
    choices_from f (y ∷ bs) h j xs stack s k =
        let e : length bs + suc j ≡ suc (length bs) + j = omega arith in
        subst (λ n. Keeps (on_many choice_of n xs stack f)) e
        (choices_from f bs (cell.Choice y ∷ h) (suc j) xs stack s (λ ps st are c. one ps st are c))
      where
        one : (cs : List Chosen) (st : List Cell) → AllChosen bs cs → Has (cell.Choice y ∷ h) st → Keeps (on_many choice_of (suc j) (cs ++ xs) st f)
        one cs [] are c = absurd c.by
        one cs (state.Choice z ∷ st) are c = k (z ∷ cs) st (c.by.0, are) (record { by = c.by.1; leads = c.leads.1 })
        one cs (z ∷ st) are c = stays_so

    pub at_choices : {f : List Chosen → List Cell → Next} {h : List CellType} (bs : List Bool) (n : ℕ) (stack : List Cell) → length bs ≡ n → Has (choices_on bs h) stack →
        ((cs : List Chosen) (st : List Cell) → AllChosen bs cs → Has h st → Keeps (f cs st)) → Keeps (on_many choice_of n [] stack f)
    at_choices {f = f} {h = h} bs n stack many s k =
        let e : length bs + 0 ≡ n = omega (arith, many) in
        subst (λ n. Keeps (on_many choice_of n [] stack f)) e
        (choices_from f bs h 0 [] stack s (λ ps st are c. subst (λ l. Keeps (f l st)) (sym (append_none ps)) (k ps st are c)))

    selectors_from : (f : List Association → List Cell → Next) (ks : List Kind) (h : List CellType) (j : ℕ) (xs : List Association) (stack : List Cell) → Has (selectors_on ks h) stack →
        ((ps : List Association) (st : List Cell) → AllSelected types ks ps → AllSelectedLead types g ks ps → Has h st → Keeps (on_many selector_of j (ps ++ xs) st f)) →
        Keeps (on_many selector_of (length ks + j) xs stack f)
    selectors_from f [] h j xs stack s k =
        let e : j ≡ 0 + j = omega arith in
        subst (λ n. Keeps (on_many selector_of n xs stack f)) e (k [] stack tt tt s)
    selectors_from f (y ∷ ks) h j xs stack s k =
        let e : length ks + suc j ≡ suc (length ks) + j = omega arith in
        subst (λ n. Keeps (on_many selector_of n xs stack f)) e
        (selectors_from f ks (cell.Selector y ∷ h) (suc j) xs stack s (λ ps st are lead c. one ps st are lead c))
      where
        one : (ps : List Association) (st : List Cell) → AllSelected types ks ps → AllSelectedLead types g ks ps → Has (cell.Selector y ∷ h) st → Keeps (on_many selector_of (suc j) (ps ++ xs) st f)
        one ps [] are lead c = absurd c.by
        one ps (state.Selector z ∷ st) are lead c = k (z ∷ ps) st (c.by.0, are) (c.leads.0, lead) (record { by = c.by.1; leads = c.leads.1 })
        one ps (z ∷ st) are lead c = stays_so

    pub at_selectors : {f : List Association → List Cell → Next} {rest : List CellType} (ks : List Kind) (n : ℕ) (stack : List Cell) → length ks ≡ n → Has (selectors_on ks [] ++ rest) stack →
        ((ps : List Association) (st : List Cell) → AllSelected types ks ps → AllSelectedLead types g ks ps → Has rest st → Keeps (f ps st)) → Keeps (on_many selector_of n [] stack f)
    at_selectors {f = f} {rest = rest} ks n stack many s k =
        let e : length ks + 0 ≡ n = omega (arith, many) in
        subst (λ n. Keeps (on_many selector_of n [] stack f)) e
        (selectors_from f ks rest 0 [] stack (subst (λ l. Has l stack) (sym (selectors_over ks [] rest)) s)
        (λ ps st are lead c. subst (λ l. Keeps (f l st)) (sym (append_none ps)) (k ps st are lead c)))
