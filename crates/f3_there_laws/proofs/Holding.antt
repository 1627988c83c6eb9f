-- What instructions do leaves everything there: the parts.
use Rattle.std.proofs.Common.{◌≡◌, refl, ap, ℕ, zero, suc, ◌+◌, ℤ, Bool, true, false, List, [], ◌∷◌, ◌++◌, length, Option, sym, subst, if◌then◌else◌, arith}
use Rattle.f3_program.specs.declared.declarations.Base.{Base}
use Rattle.f3_program.specs.declared.declarations.Derived.{Derived}
use Rattle.f3_program.specs.declared.declarations.Kind.{Kind}
use Rattle.f3_program.specs.declared.program.Program.{Program}
use Rattle.f3_meaning_whole.specs.Value.{Span, Value}
use Rattle.f3_meaning_whole.specs.Store.{Path, Store}
use Rattle.f3_meaning_whole.specs.Reference.{Reference, paths, held_at}
use Rattle.f3_meaning_whole.specs.declared.run_error.RunError.{RunError}
use Rattle.f3_meaning_whole.specs.Ran.{Event, World, End, Gives, Fails, Stops, Beyond, Ran}
use Rattle.f3_meaning_whole.specs.Act.{Here, Passed, Chosen}
use Rattle.f3_meaning_whole.specs.Exec.{Flow, Association}
use Rattle.f3_meaning_whole.specs.Formed.{Given}
use Rattle.f3_code.specs.State as state
use Rattle.f3_code.specs.State.{Cell, State, Next, Goes, Stays}
use Rattle.f3_code.specs.Machine.{ends_so, performs, on_datum, on_object, on_bound, on_bounds, on_status, on_turns, on_elements, on_objects, on_level, on_outside, on_going, on_any, on_many, extent_of, argument_of, choice_of, selector_of}
use Rattle.f3_cell_kinds.specs.Types.{Scope, CellType, Site, sort_of_type, arguments_on, choices_on, selectors_on}
use Rattle.f3_cell_kinds.specs.Types as cell
use Rattle.f3_cell_kinds.specs.Effect.{extents_on}
use Rattle.f3_cell_kinds.specs.Holds.{Refers, AllRefer, IsOf, Knows, Stand, Fits}
use Rattle.f3_cell_kinds.specs.Stands.{CellsStand}
use Rattle.f3_cell_kinds.proofs.Calm.{IsCalm, Calm}
use Rattle.f3_cell_kinds.proofs.Given.{arguments_over}
use Rattle.f3_cell_kinds.proofs.OfActions.{selectors_over}
use Rattle.f3_cell_kinds.proofs.Picking.{AllChosen}
use Rattle.f3_cell_kinds.proofs.Reaching.{AllPassed, AllSelected}
use Rattle.f3_store_kinds.specs.Typing.{Typing, PartsBy, Leads}
use Rattle.f3_store_kinds.specs.Accords.{CellsLead, FramesLead}
use Rattle.f3_store_kinds.specs.Clean.{IsPlain}
use Rattle.f3_store_kinds.specs.There.{PathThere}
use Rattle.f3_store_kinds.proofs.After.{IsAfter, After}
use Rattle.f3_store_kinds.proofs.Holding.{plain_off}
use Rattle.f3_there_laws.proofs.Forms.{IsSet}
use Rattle.f3_there_laws.proofs.Everywhere.{AllAre, AllRefs, AllPasseds, AllSelectors, CellIs, StackIs, FramesAre, Beneath, IsWhole, IsFree, stack_off, free_is}

append_none : {A : Type 0} (xs : List A) → xs ++ [] ≡ xs
append_none [] = refl
append_none (x ∷ xs) = ap (λ l. x ∷ l) (append_none xs)

module _ (p : Program) (sites : ℕ → Site) (g : Typing) where
  abbrev types : List Derived
  types = p.types.items

  -- a state that fits has everything there
  abbrev pub Found : State → Type 0
  Found t = Fits types sites t → IsWhole t

  abbrev pub FoundNext : Next → Type 0
  FoundNext (Goes out t) = Found t
  FoundNext (Stays out halt) = Unit {0}

  pub record Keeps (n : Next) : Type 0 where
    pub by : FoundNext n

  pub stays_so : {out : List Event} {halt : state.Halt} → Keeps (Stays out halt)
  stays_so = record { by = tt }

  pub goes_so : {out : List Event} {t : State} → Found t → Keeps (Goes out t)
  goes_so h = record { by = h }

  pub performing : {A : Type 0} {P : A → Store → Type 0} (r : Ran A) (w : World) {f : A → World → State} → After P w.store r →
      ((x : A) (u : World) → P x u.store → Found (f x u)) → Keeps (performs r w f)
  performing {A = A} {P = P} r w {f = f} after h = record { by = by_end (r.from w).out (r.from w).end (after.by w refl) }
    where
      by_end : (out : List Event) (end : End A) → IsAfter P end → FoundNext (ends_so out end f)
      by_end out (Gives x u) is = h x u is
      by_end out (Fails error place) is = tt
      by_end out (Stops code) is = tt
      by_end out Beyond is = tt

  pub performing_calm : {A : Type 0} {P : A → Type 0} (r : Ran A) (w : World) {f : A → World → State} → Calm P w.store r →
      ((x : A) (u : World) → P x → u.store ≡ w.store → Found (f x u)) → Keeps (performs r w f)
  performing_calm {A = A} {P = P} r w {f = f} calm h = record { by = by_end (r.from w).out (r.from w).end (calm.by w refl) }
    where
      by_end : (out : List Event) (end : End A) → IsCalm P w.store end → FoundNext (ends_so out end f)
      by_end out (Gives x u) is = h x u is.0 is.1
      by_end out (Fails error place) is = tt
      by_end out (Stops code) is = tt
      by_end out Beyond is = tt

  pub if_keeps : (x : Bool) {m n : Next} → (x ≡ true → Keeps m) → (x ≡ false → Keeps n) → Keeps (if x then m else n)
  if_keeps true h k = h refl
  if_keeps false h k = k refl

  module _ (s : State) (end : Kind) where
    abbrev Q : Path → Type 0
    Q = PathThere s.world.store

    abbrev Whole : List Cell → Type 0
    Whole stack = StackIs (FramesAre s.frames) (PathThere s.world.store) s.here.names stack

    -- cells of such types that lead, that stand, and of which everything is there
    pub record Has (xs : List CellType) (stack : List Cell) : Type 0 where
      pub by : Stand types sites (Knows types s.here) (sites s.pc).scope (sites s.pc).returns xs stack end
      pub leads : CellsLead types sites (λ h. FramesLead types sites h s.frames) g s.here.level s.here.names (sites s.pc).scope xs stack
      pub stands : CellsStand p s.here s.world.store xs stack
      pub whole : StackIs (FramesAre s.frames) (PathThere s.world.store) s.here.names stack

    -- ---- what stands on top

    pub at_datum : {k : Kind} {rest : List CellType} {f : Value → List Cell → Next} (stack : List Cell) → Has (cell.Datum k ∷ rest) stack →
        ((v : Value) (st : List Cell) → IsOf types k v → IsSet v → Has rest st → Keeps (f v st)) → Keeps (on_datum stack f)
    at_datum [] s h = absurd s.by
    at_datum (state.Datum v ∷ st) s h = h v st s.by.0 s.whole.0 (record { by = s.by.1; leads = s.leads.1; stands = s.stands.1; whole = s.whole.1 })
    at_datum (c ∷ st) s h = stays_so

    pub at_object : {k : Kind} {rest : List CellType} {f : Reference → List Cell → Next} (stack : List Cell) → Has (cell.Object k ∷ rest) stack →
        ((q : Reference) (st : List Cell) → Refers k q → Leads types g k q → IsOf types k (held_at s.world.store q.path q.reach) → AllAre Q (paths q) → Has rest st → Keeps (f q st)) →
        Keeps (on_object stack f)
    at_object [] s h = absurd s.by
    at_object (state.Object q ∷ st) s h = h q st s.by.0 s.leads.0 s.stands.0 s.whole.0 (record { by = s.by.1; leads = s.leads.1; stands = s.stands.1; whole = s.whole.1 })
    at_object (c ∷ st) s h = stays_so

    pub at_each : {a : Kind} {n : ℕ} {k : Kind} {rest : List CellType} {f : Reference → List Cell → Next} (stack : List Cell) → Has (cell.Each a n k ∷ rest) stack →
        ((q : Reference) (st : List Cell) → PartsBy types g a.of n q.reach → AllAre Q (paths q) → Has rest st → Keeps (f q st)) → Keeps (on_object stack f)
    at_each [] s h = absurd s.by
    at_each (state.Object q ∷ st) s h = h q st s.leads.0.1 s.whole.0 (record { by = s.by.1; leads = s.leads.1; stands = s.stands.1; whole = s.whole.1 })
    at_each (c ∷ st) s h = stays_so

    pub at_bound : {rest : List CellType} {f : (Option ℤ) → List Cell → Next} (stack : List Cell) → Has (cell.Bound ∷ rest) stack →
        ((z : Option ℤ) (st : List Cell) → Has rest st → Keeps (f z st)) → Keeps (on_bound stack f)
    at_bound [] s h = absurd s.by
    at_bound (state.Bound z ∷ st) s h = h z st (record { by = s.by.1; leads = s.leads.1; stands = s.stands.1; whole = s.whole.1 })
    at_bound (c ∷ st) s h = stays_so

    pub at_bounds : {n : ℕ} {rest : List CellType} {f : (List Span) → List Cell → Next} (stack : List Cell) → Has (cell.Bounds n ∷ rest) stack →
        ((ss : List Span) (st : List Cell) → Has rest st → Keeps (f ss st)) → Keeps (on_bounds stack f)
    at_bounds [] s h = absurd s.by
    at_bounds (state.Bounds ss ∷ st) s h = h ss st (record { by = s.by.1; leads = s.leads.1; stands = s.stands.1; whole = s.whole.1 })
    at_bounds (c ∷ st) s h = stays_so

    pub at_status : {rest : List CellType} {f : (Option RunError) → List Cell → Next} (stack : List Cell) → Has (cell.Status ∷ rest) stack →
        ((x : Option RunError) (st : List Cell) → Has rest st → Keeps (f x st)) → Keeps (on_status stack f)
    at_status [] s h = absurd s.by
    at_status (state.Status x ∷ st) s h = h x st (record { by = s.by.1; leads = s.leads.1; stands = s.stands.1; whole = s.whole.1 })
    at_status (c ∷ st) s h = stays_so

    pub at_turns : {rest : List CellType} {f : ℕ → ℤ → List Cell → Next} (stack : List Cell) → Has (cell.Turns ∷ rest) stack →
        ((k : ℕ) (step : ℤ) (st : List Cell) → Has rest st → Keeps (f k step st)) → Keeps (on_turns stack f)
    at_turns [] s h = absurd s.by
    at_turns (state.Turns k step ∷ st) s h = h k step st (record { by = s.by.1; leads = s.leads.1; stands = s.stands.1; whole = s.whole.1 })
    at_turns (c ∷ st) s h = stays_so

    pub at_elements : {b : Base} {rest : List CellType} {f : (List Path) → List Cell → Next} (stack : List Cell) → Has (cell.Elements b ∷ rest) stack →
        ((ps : List Path) (st : List Cell) → AllAre Q ps → Has rest st → Keeps (f ps st)) → Keeps (on_elements stack f)
    at_elements [] s h = absurd s.by
    at_elements (state.Elements ps ∷ st) s h = h ps st s.whole.0 (record { by = s.by.1; leads = s.leads.1; stands = s.stands.1; whole = s.whole.1 })
    at_elements (c ∷ st) s h = stays_so

    pub at_objects : {ks : List Kind} {rest : List CellType} {f : (List Reference) → List Cell → Next} (stack : List Cell) → Has (cell.Objects ks ∷ rest) stack →
        ((rs : List Reference) (st : List Cell) → AllRefer ks rs → AllRefs Q rs → Has rest st → Keeps (f rs st)) → Keeps (on_objects stack f)
    at_objects [] s h = absurd s.by
    at_objects (state.Objects rs ∷ st) s h = h rs st s.by.0 s.whole.0 (record { by = s.by.1; leads = s.leads.1; stands = s.stands.1; whole = s.whole.1 })
    at_objects (c ∷ st) s h = stays_so

    -- beneath a level nothing refers to it
    pub at_level : {ks : List Kind} {rest : List CellType} {f : ℕ → (List Reference) → List Cell → Next} (stack : List Cell) → Has (cell.Level ks ∷ rest) stack →
        ((n : ℕ) (rs : List Reference) (st : List Cell) → AllRefs Q rs → StackIs (FramesAre s.frames) (Beneath n Q) s.here.names st → Keeps (f n rs st)) → Keeps (on_level stack f)
    at_level [] s h = absurd s.by
    at_level (state.Level n rs ∷ st) s h = h n rs st s.whole.0 s.whole.1
    at_level (c ∷ st) s h = stays_so

    pub at_outside : {c : Scope} {rest : List CellType} {f : Here → List Cell → Next} (stack : List Cell) → Has (cell.Outside c ∷ rest) stack →
        ((outer : Here) (st : List Cell) → StackIs (FramesAre s.frames) Q outer.names st → Keeps (f outer st)) → Keeps (on_outside stack f)
    at_outside [] s h = absurd s.by
    at_outside (state.Outside outer ∷ st) s h = h outer st s.whole.1
    at_outside (c ∷ st) s h = stays_so

    pub at_going : {rest : List CellType} {f : Flow → List Cell → Next} (stack : List Cell) → Has (cell.Going ∷ rest) stack →
        ((flow : Flow) (st : List Cell) → Has rest st → Keeps (f flow st)) → Keeps (on_going stack f)
    at_going [] s h = absurd s.by
    at_going (state.Going flow ∷ st) s h = h flow st (record { by = s.by.1; leads = s.leads.1; stands = s.stands.1; whole = s.whole.1 })
    at_going (c ∷ st) s h = stays_so

    -- a cell that is no part of a construct
    pub free_off : (x : CellType) (rest : List CellType) (c : Cell) (stack : List Cell) → IsPlain (sort_of_type x) → Has (x ∷ rest) (c ∷ stack) → IsFree c × CellIs Q c × Has rest stack
    free_off x rest c stack plain h =
        let q = plain_off types sites (λ y. FramesLead types sites y s.frames) g s.here.level s.here.names (sites s.pc).scope x rest c stack plain h.leads in
        let free = free_is types x c plain h.by.0 in
        let w = stack_off (FramesAre s.frames) Q s.here.names c stack free h.whole in
        (free, w.0, record { by = h.by.1; leads = q.1; stands = h.stands.1; whole = w.1 })

    pub at_any : {x : CellType} {rest : List CellType} {f : Cell → List Cell → Next} (stack : List Cell) → IsPlain (sort_of_type x) → Has (x ∷ rest) stack →
        ((c : Cell) (st : List Cell) → IsFree c → CellIs Q c → Has rest st → Keeps (f c st)) → Keeps (on_any stack f)
    at_any [] plain s h = absurd s.by
    at_any {x = x} {rest = rest} (c ∷ stack) plain s h = let q = free_off x rest c stack plain s in h c stack q.0 q.1 q.2

    -- ---- many on top

    front : (n : ℕ) (h : List CellType) → extents_on (suc n) h ≡ cell.Extent ∷ extents_on n h
    front zero h = refl
    front (suc n) h = front n (cell.Extent ∷ h)

    pub at_extents : {h : List CellType} {f : List Span → List Cell → Next} (n : ℕ) (ss : List Span) (stack : List Cell) → Has (extents_on n h) stack →
        ((ss : List Span) (st : List Cell) → Has h st → Keeps (f ss st)) → Keeps (on_many extent_of n ss stack f)
    at_extents zero ss stack s k = k ss stack s
    at_extents (suc n) ss [] s k = stays_so
    at_extents {h = h} (suc n) ss (state.Extent x ∷ stack) s k =
        let t : Has (cell.Extent ∷ extents_on n h) (state.Extent x ∷ stack) = subst (λ l. Has l (state.Extent x ∷ stack)) (front n h) s in
        at_extents n (x ∷ ss) stack (record { by = t.by.1; leads = t.leads.1; stands = t.stands.1; whole = t.whole.1 }) k
    at_extents (suc n) ss (c ∷ stack) s k = stays_so

    arguments_from : (f : List Passed → List Cell → Next) (gs : List Given) (h : List CellType) (j : ℕ) (xs : List Passed) (stack : List Cell) → Has (arguments_on gs h) stack →
        ((ps : List Passed) (st : List Cell) → AllPassed types gs ps → AllPasseds Q ps → Has h st → Keeps (on_many argument_of j (ps ++ xs) st f)) →
        Keeps (on_many argument_of (length gs + j) xs stack f)
    arguments_from f [] h j xs stack s k =
        let e : j ≡ 0 + j = omega arith in
        subst (λ n. Keeps (on_many argument_of n xs stack f)) e (k [] stack tt tt s)
    arguments_from f (y ∷ gs) h j xs stack s k =
        let e : length gs + suc j ≡ suc (length gs) + j = omega arith in
        subst (λ n. Keeps (on_many argument_of n xs stack f)) e
        (arguments_from f gs (cell.Argument y ∷ h) (suc j) xs stack s (λ ps st are there c. one ps st are there c))
      where
        one : (ps : List Passed) (st : List Cell) → AllPassed types gs ps → AllPasseds Q ps → Has (cell.Argument y ∷ h) st → Keeps (on_many argument_of (suc j) (ps ++ xs) st f)
        one ps [] are there c = absurd c.by
        one ps (state.Argument z ∷ st) are there c = k (z ∷ ps) st (c.by.0, are) (c.whole.0, there) (record { by = c.by.1; leads = c.leads.1; stands = c.stands.1; whole = c.whole.1 })
        one ps (z ∷ st) are there c = stays_so

    pub at_arguments : {f : List Passed → List Cell → Next} {rest : List CellType} (gs : List Given) (n : ℕ) (stack : List Cell) → length gs ≡ n → Has (arguments_on gs [] ++ rest) stack →
        ((ps : List Passed) (st : List Cell) → AllPassed types gs ps → AllPasseds Q ps → Has rest st → Keeps (f ps st)) → Keeps (on_many argument_of n [] stack f)
    at_arguments {f = f} {rest = rest} gs n stack many s k =
        let e : length gs + 0 ≡ n = omega (arith, many) in
        subst (λ n. Keeps (on_many argument_of n [] stack f)) e
        (arguments_from f gs rest 0 [] stack (subst (λ l. Has l stack) (sym (arguments_over gs [] rest)) s)
        (λ ps st are there c. subst (λ l. Keeps (f l st)) (sym (append_none ps)) (k ps st are there c)))

    choices_from : (f : List Chosen → List Cell → Next) (bs : List Bool) (h : List CellType) (j : ℕ) (xs : List Chosen) (stack : List Cell) → Has (choices_on bs h) stack →
        ((cs : List Chosen) (st : List Cell) → AllChosen bs cs → Has h st → Keeps (on_many choice_of j (cs ++ xs) st f)) →
        Keeps (on_many choice_of (length bs + j) xs stack f)
    choices_from f [] h j xs stack s k =
        let e : j ≡ 0 + j = omega arith in
        subst (λ n. Keeps (on_many choice_of n xs stack f)) e (k [] stack tt s)
    choices_from f (y ∷ bs) h j xs stack s k =
        let e : length bs + suc j ≡ suc (length bs) + j = omega arith in
        subst (λ n. Keeps (on_many choice_of n xs stack f)) e
        (choices_from f bs (cell.Choice y ∷ h) (suc j) xs stack s (λ ps st are c. one ps st are c))
      where
        one : (cs : List Chosen) (st : List Cell) → AllChosen bs cs → Has (cell.Choice y ∷ h) st → Keeps (on_many choice_of (suc j) (cs ++ xs) st f)
        one cs [] are c = absurd c.by
        one cs (state.Choice z ∷ st) are c = k (z ∷ cs) st (c.by.0, are) (record { by = c.by.1; leads = c.leads.1; stands = c.stands.1; whole = c.whole.1 })
        one cs (z ∷ st) are c = stays_so

    pub at_choices : {f : List Chosen → List Cell → Next} {h : List CellType} (bs : List Bool) (n : ℕ) (stack : List Cell) → length bs ≡ n → Has (choices_on bs h) stack →
        ((cs : List Chosen) (st : List Cell) → AllChosen bs cs → Has h st → Keeps (f cs st)) → Keeps (on_many choice_of n [] stack f)
    at_choices {f = f} {h = h} bs n stack many s k =
        let e : length bs + 0 ≡ n = omega (arith, many) in
        subst (λ n. Keeps (on_many choice_of n [] stack f)) e
        (choices_from f bs h 0 [] stack s (λ ps st are c. subst (λ l. Keeps (f l st)) (sym (append_none ps)) (k ps st are c)))

    selectors_from : (f : List Association → List Cell → Next) (ks : List Kind) (h : List CellType) (j : ℕ) (xs : List Association) (stack : List Cell) → Has (selectors_on ks h) stack →
        ((ps : List Association) (st : List Cell) → AllSelected types ks ps → AllSelectors Q ps → Has h st → Keeps (on_many selector_of j (ps ++ xs) st f)) →
        Keeps (on_many selector_of (length ks + j) xs stack f)
    selectors_from f [] h j xs stack s k =
        let e : j ≡ 0 + j = omega arith in
        subst (λ n. Keeps (on_many selector_of n xs stack f)) e (k [] stack tt tt s)
    selectors_from f (y ∷ ks) h j xs stack s k =
        let e : length ks + suc j ≡ suc (length ks) + j = omega arith in
        subst (λ n. Keeps (on_many selector_of n xs stack f)) e
        (selectors_from f ks (cell.Selector y ∷ h) (suc j) xs stack s (λ ps st are there c. one ps st are there c))
      where
        one : (ps : List Association) (st : List Cell) → AllSelected types ks ps → AllSelectors Q ps → Has (cell.Selector y ∷ h) st → Keeps (on_many selector_of (suc j) (ps ++ xs) st f)
        one ps [] are there c = absurd c.by
        one ps (state.Selector z ∷ st) are there c = k (z ∷ ps) st (c.by.0, are) (c.whole.0, there) (record { by = c.by.1; leads = c.leads.1; stands = c.stands.1; whole = c.whole.1 })
        one ps (z ∷ st) are there c = stays_so

    pub at_selectors : {f : List Association → List Cell → Next} {rest : List CellType} (ks : List Kind) (n : ℕ) (stack : List Cell) → length ks ≡ n → Has (selectors_on ks [] ++ rest) stack →
        ((ps : List Association) (st : List Cell) → AllSelected types ks ps → AllSelectors Q ps → Has rest st → Keeps (f ps st)) → Keeps (on_many selector_of n [] stack f)
    at_selectors {f = f} {rest = rest} ks n stack many s k =
        let e : length ks + 0 ≡ n = omega (arith, many) in
        subst (λ n. Keeps (on_many selector_of n [] stack f)) e
        (selectors_from f ks rest 0 [] stack (subst (λ l. Has l stack) (sym (selectors_over ks [] rest)) s)
        (λ ps st are there c. subst (λ l. Keeps (f l st)) (sym (append_none ps)) (k ps st are there c)))
