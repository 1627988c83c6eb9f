-- Each step that reads from the store keeps to what cells hold, where objects stand.
use Rattle.std.proofs.Common.{◌≡◌, ◌∙◌, sym, ap, ℕ, suc, ◌+◌, Bool, true, false, ◌||◌, List, [], ◌∷◌, ◌++◌, length, Option, Some, None, refl, subst, arith, if◌then◌else◌}
use Rattle.std.specs.Prelude.{nat_eq, slice_get, slice_index_or}
use Rattle.f3_program.specs.declared.declarations.Derived.{Derived}
use Rattle.f3_program.specs.declared.declarations.Kind.{Kind}
use Rattle.f3_program.specs.declared.program.Program.{Program}
use Rattle.f3_meaning_whole.specs.Reference.{Selected, Language, Reach, One, Many, Reference, held_at}
use Rattle.f3_meaning_whole.specs.Ran.{Event, World, Ran, ◌>>=◌, looks}
use Rattle.f3_meaning_whole.specs.Act.{Setting, Here, Passed, Chosen, structure, components_of, named, component, component_of, contents, read, picks_in_each}
use Rattle.f3_meaning_whole.specs.Eval.{built, by_reach, spans_of_component}
use Rattle.f3_meaning_whole.specs.Formed.{Given, all, of_kind, sectioned, element_of_each, IsWellFormed}
use Rattle.f3_meaning_whole.specs.Shape.{Whole, shapes_of}
use Rattle.f3_meaning_whole.specs.Value.{Composite}
use Rattle.f3_code.specs.Exec.{result_at}
use Rattle.f3_code.specs.declared.instruction.Instruction.{Instruction}
use Rattle.f3_code.specs.declared.instruction.Instruction.TheVariants as i
use Rattle.f3_code.specs.State as state
use Rattle.f3_code.specs.State.{Line, placed, Code, Cell, State, Next}
use Rattle.f3_code.specs.Machine.{act, step, does_line, on_object, on_many, argument_of, choice_of, performs, selects, opens}
use Rattle.f3_code.specs.Machine as machine
use Rattle.f3_cell_kinds.specs.Types.{Scope, Around, Told, CellType, Site, arguments_on, choices_on}
use Rattle.f3_cell_kinds.specs.Types as cell
use Rattle.f3_cell_kinds.specs.Effect.{part_cell, is_whole_for}
use Rattle.f3_cell_kinds.specs.Kinds.{AreKinds}
use Rattle.f3_cell_kinds.specs.Kinds as kinds
use Rattle.f3_cell_kinds.specs.Holds.{Reaches, Refers, IsOf, Is, InScope, Fits}
use Rattle.f3_cell_kinds.specs.Stands.{CellsStand, VariablesStand, Stands}
use Rattle.f3_cell_kinds.proofs.Asked.{some_same, found_is, some_is, only_is, and_is, not_is}
use Rattle.f3_cell_kinds.proofs.Scalars.{no_rank, no_both, built_yields}
use Rattle.f3_cell_kinds.proofs.Given.{arguments_over, choices_over}
use Rattle.f3_cell_kinds.proofs.Picking.{AllChosen, each_yields}
use Rattle.f3_cell_kinds.proofs.Reaching.{AllPassed}
use Rattle.f3_cell_kinds.proofs.Initials.{PartsFit, tree_is, components_declared}
use Rattle.f3_cell_kinds.proofs.Building.{AllStand, structure_calm, structure_takes}
use Rattle.f3_cell_kinds.specs.Sense.{MakesSense}
use Rattle.f3_cell_kinds.proofs.Holding.{Keeps, stays_so}
use Rattle.f3_cell_kinds.proofs.Standing.{in_is}
use Rattle.f3_cell_kinds.proofs.Entering as entering
use Rattle.f3_cell_kinds.proofs.Stepping.{act_holds}
use Rattle.f3_cell_kinds.proofs.Reading.{GivesAt, give_then, calm_given, yields_given, selects_given, performing_at, read_given, contents_given, opens_given, named_given, result_given, component_given, part_cell_is, part_kind_is}

append_none : {A : Type 0} (xs : List A) → xs ++ [] ≡ xs
append_none [] = refl
append_none (x ∷ xs) = ap (λ l. x ∷ l) (append_none xs)

reach_one : {A : Type 0} {P : A → Type 0} (k : Kind) (reach : Reach) (x y : Ran A) (w : World) → Reaches k reach → nat_eq k.rank 0 ≡ true → GivesAt P x w → GivesAt P (by_reach reach x y) w
reach_one k One x y w h e f = f
reach_one k (Many ss ps) x y w h e f = absurd (no_rank k.rank e h.1)

reach_many : {A : Type 0} {P : A → Type 0} (k : Kind) (reach : Reach) (x y : Ran A) (w : World) → k.is_allocatable ≡ false → Reaches k reach → nat_eq k.rank 0 ≡ false → GivesAt P y w →
    GivesAt P (by_reach reach x y) w
reach_many k One x y w held h e f = absurd (no_both (nat_eq k.rank 0) (ap (λ (b : Bool). b || nat_eq k.rank 0) (sym held) ∙ h) e)
reach_many k (Many ss ps) x y w held h e f = f

module _ (limit : ℕ) (g : Setting) (p : Program) (code : Code) (sites : ℕ → Site) (are : AreKinds p sites code) (formed : IsWellFormed p) (sense : MakesSense p)
    (types_same : g.program.types.items ≡ p.types.items) (statics_same : g.program.statics.items ≡ p.statics.items) (shapes_same : g.shapes ≡ shapes_of p.types.items) (s : State) (fits : Fits p.types.items sites s) (stands : Stands p sites s) (l : Line) where
  abbrev here : Here
  here = placed l.place s.here

  abbrev Cells : List CellType → List Cell → Type 0
  Cells xs stack = entering.Cells limit g p code sites are s fits l xs stack

  abbrev Kept : Next → Type 0
  Kept n = Keeps p.types.items sites n

  had : {xs : List CellType} → (sites s.pc).cells ≡ xs → Cells xs s.stack
  had e = entering.had limit g p code sites are s fits l e

  top : {c : Cell} {x : CellType} {xs : List CellType} {stack : List Cell} → Is p.types.items x c → Cells xs stack → Cells (x ∷ xs) (c ∷ stack)
  top e h = entering.top limit g p code sites are s fits l e h

  there : {pc : ℕ} {xs : List CellType} {stack : List Cell} {w : World} →
      sites pc ≡ record { is_reached = true; returns = (sites s.pc).returns; scope = (sites s.pc).scope; cells = xs } → Cells xs stack →
      Fits p.types.items sites (record { pc = pc; stack = stack; here = s.here; frames = s.frames; world = w })
  there e h = entering.there limit g p code sites are s fits l e h

  -- an object on top that stands in the store
  standing : {k : Kind} {rest : List CellType} {f : Reference → List Cell → Next} → (sites s.pc).cells ≡ cell.Object k ∷ rest →
      ((q : Reference) (st : List Cell) → Refers k q → IsOf p.types.items k (held_at s.world.store q.path q.reach) → Cells rest st → Kept (f q st)) → Kept (on_object s.stack f)
  standing {k = k} {rest = rest} {f = f} e h = by_stack s.stack (had e) (subst (λ xs. CellsStand p s.here s.world.store xs s.stack) e stands.cells)
    where
      by_stack : (stack : List Cell) → Cells (cell.Object k ∷ rest) stack → CellsStand p s.here s.world.store (cell.Object k ∷ rest) stack → Kept (on_object stack f)
      by_stack [] c d = absurd c.by
      by_stack (state.Object q ∷ st) c d = h q st c.by.0 d.0 (record { by = c.by.1 })
      by_stack (x ∷ st) c d = stays_so p.types.items sites

  -- the same, farther beneath
  beneath : {k : Kind} {rest : List CellType} {f : Reference → List Cell → Next} (stack : List Cell) → Cells (cell.Object k ∷ rest) stack →
      CellsStand p s.here s.world.store (cell.Object k ∷ rest) stack →
      ((q : Reference) (st : List Cell) → Refers k q → IsOf p.types.items k (held_at s.world.store q.path q.reach) → Cells rest st → Kept (f q st)) → Kept (on_object stack f)
  beneath [] c d h = absurd c.by
  beneath (state.Object q ∷ st) c d h = h q st c.by.0 d.0 (record { by = c.by.1 })
  beneath (x ∷ st) c d h = stays_so p.types.items sites

  any_object : {k : Kind} {rest : List CellType} {f : Reference → List Cell → Next} (stack : List Cell) → Cells (cell.Object k ∷ rest) stack →
      ((q : Reference) (st : List Cell) → Refers k q → Cells rest st → Kept (f q st)) → Kept (on_object stack f)
  any_object [] c h = absurd c.by
  any_object (state.Object q ∷ st) c h = h q st c.by.0 (record { by = c.by.1 })
  any_object (x ∷ st) c h = stays_so p.types.items sites

  each_object : {a : Kind} {n : ℕ} {k : Kind} {rest : List CellType} {f : Reference → List Cell → Next} (stack : List Cell) → Cells (cell.Each a n k ∷ rest) stack →
      ((q : Reference) (st : List Cell) → Refers (of_kind k.of a.rank) q → Cells rest st → Kept (f q st)) → Kept (on_object stack f)
  each_object [] c h = absurd c.by
  each_object (state.Object q ∷ st) c h = h q st c.by.0 (record { by = c.by.1 })
  each_object (x ∷ st) c h = stays_so p.types.items sites

  -- subscripts, and what stands beneath them
  choices_from : (f : List Chosen → List Cell → Next) (bs : List Bool) (h : List CellType) (j : ℕ) (xs : List Chosen) (stack : List Cell) → Cells (choices_on bs h) stack →
      CellsStand p s.here s.world.store (choices_on bs h) stack →
      ((cs : List Chosen) (st : List Cell) → AllChosen bs cs → Cells h st → CellsStand p s.here s.world.store h st → Kept (on_many choice_of j (cs ++ xs) st f)) →
      Kept (on_many choice_of (length bs + j) xs stack f)
  choices_from f [] h j xs stack c d k =
      let e : j ≡ 0 + j = omega arith in
      subst (λ n. Kept (on_many choice_of n xs stack f)) e (k [] stack tt c d)
  choices_from f (b ∷ bs) h j xs stack c d k =
      let e : length bs + suc j ≡ suc (length bs) + j = omega arith in
      subst (λ n. Kept (on_many choice_of n xs stack f)) e
      (choices_from f bs (cell.Choice b ∷ h) (suc j) xs stack c d (λ cs st are c d. one cs st are c d))
    where
      one : (cs : List Chosen) (st : List Cell) → AllChosen bs cs → Cells (cell.Choice b ∷ h) st → CellsStand p s.here s.world.store (cell.Choice b ∷ h) st →
          Kept (on_many choice_of (suc j) (cs ++ xs) st f)
      one cs [] are c d = absurd c.by
      one cs (state.Choice x ∷ st) are c d = k (x ∷ cs) st (c.by.0, are) (record { by = c.by.1 }) d.1
      one cs (y ∷ st) are c d = stays_so p.types.items sites

  at_choices : {f : List Chosen → List Cell → Next} {h : List CellType} (bs : List Bool) (n : ℕ) → length bs ≡ n → (sites s.pc).cells ≡ choices_on bs h →
      ((cs : List Chosen) (st : List Cell) → AllChosen bs cs → Cells h st → CellsStand p s.here s.world.store h st → Kept (f cs st)) → Kept (on_many choice_of n [] s.stack f)
  at_choices {f = f} {h = h} bs n many e k =
      let m : length bs + 0 ≡ n = omega (arith, many) in
      subst (λ n. Kept (on_many choice_of n [] s.stack f)) m
      (choices_from f bs h 0 [] s.stack (had e) (subst (λ xs. CellsStand p s.here s.world.store xs s.stack) e stands.cells)
      (λ cs st are c d. subst (λ l. Kept (f l st)) (sym (append_none cs)) (k cs st are c d)))

  -- arguments, and what stands of them
  arguments_from : (f : List Passed → List Cell → Next) (gs : List Given) (h : List CellType) (j : ℕ) (xs : List Passed) (stack : List Cell) → Cells (arguments_on gs h) stack →
      CellsStand p s.here s.world.store (arguments_on gs h) stack →
      ((ps : List Passed) (st : List Cell) → AllPassed p.types.items gs ps → Cells h st → AllStand p.types.items s.world.store gs ps → CellsStand p s.here s.world.store h st →
      Kept (on_many argument_of j (ps ++ xs) st f)) → Kept (on_many argument_of (length gs + j) xs stack f)
  arguments_from f [] h j xs stack c d k =
      let e : j ≡ 0 + j = omega arith in
      subst (λ n. Kept (on_many argument_of n xs stack f)) e (k [] stack tt c tt d)
  arguments_from f (g ∷ gs) h j xs stack c d k =
      let e : length gs + suc j ≡ suc (length gs) + j = omega arith in
      subst (λ n. Kept (on_many argument_of n xs stack f)) e
      (arguments_from f gs (cell.Argument g ∷ h) (suc j) xs stack c d (λ ps st are c stand d. one ps st are c stand d))
    where
      one : (ps : List Passed) (st : List Cell) → AllPassed p.types.items gs ps → Cells (cell.Argument g ∷ h) st → AllStand p.types.items s.world.store gs ps →
          CellsStand p s.here s.world.store (cell.Argument g ∷ h) st → Kept (on_many argument_of (suc j) (ps ++ xs) st f)
      one ps [] are c stand d = absurd c.by
      one ps (state.Argument x ∷ st) are c stand d = k (x ∷ ps) st (c.by.0, are) (record { by = c.by.1 }) (d.0, stand) d.1
      one ps (y ∷ st) are c stand d = stays_so p.types.items sites

  at_arguments : {f : List Passed → List Cell → Next} {rest : List CellType} (gs : List Given) (n : ℕ) → length gs ≡ n → (sites s.pc).cells ≡ arguments_on gs [] ++ rest →
      ((ps : List Passed) (st : List Cell) → AllPassed p.types.items gs ps → Cells rest st → AllStand p.types.items s.world.store gs ps → Kept (f ps st)) →
      Kept (on_many argument_of n [] s.stack f)
  at_arguments {f = f} {rest = rest} gs n many e k =
      let m : length gs + 0 ≡ n = omega (arith, many) in
      let e' = e ∙ sym (arguments_over gs [] rest) in
      subst (λ n. Kept (on_many argument_of n [] s.stack f)) m
      (arguments_from f gs rest 0 [] s.stack (had e') (subst (λ xs. CellsStand p s.here s.world.store xs s.stack) e' stands.cells)
      (λ ps st are c stand d. subst (λ l. Kept (f l st)) (sym (append_none ps)) (k ps st are c stand)))

  variables_at : (c : Scope) → (sites s.pc).scope ≡ Told c → VariablesStand p s.here s.world.store c
  variables_at c e = subst (λ o. InScope p.types.items (VariablesStand p s.here s.world.store) o) e stands.variables

  act_reads : (x : Instruction) → kinds.Goes p sites s.pc l x → Kept (act limit g code x l.value here s)
  act_reads i.Load (k, held, b) = standing b.before (λ q st h is c.
      performing_at p.types.items sites (read q here) s.world (read_given p.types.items k q here s.world is) (λ v f w. there b.next (top f c)))
  act_reads (i.Refer x) b =
      let c = in_is (sites s.pc).scope _ b in
      let lead = c.2.2 in
      performing_at p.types.items sites (named g x here) s.world
      (named_given p.types.items g p c.0 x here c.2.0 s.world statics_same (entering.known_at limit g p code sites are s fits l c.0 c.1) c.2.1
      (λ t e. variables_at c.0 c.1 x c.2.0 t c.2.1 e)) (λ q h w. there lead.next (top h (had lead.before)))
  act_reads (i.Component n) (k, c, j, held, at_n, part, b) = standing b.before (λ q st h is d.
      performing_at p.types.items sites (component g n (Selected here.unit) q) s.world (component_given p.types.items g k c n (Selected here.unit) q s.world types_same held at_n h is)
      (λ y f w. there b.next (top (part_kind_is p.types.items k c.declared.kind j y part f) d)))
  act_reads (i.ComponentOf n) (k, c, held, at_n, b) = standing b.before (λ q st h is d.
      performing_at p.types.items sites (component g n (Selected here.unit) q) s.world (component_given p.types.items g k c n (Selected here.unit) q s.world types_same held at_n h is)
      (λ y f w. there b.next (top (part_cell_is p.types.items k n c.declared.kind y f) (top h d))))
  act_reads (i.WorkComponent n) (k, c, scalar, at_n, b) = standing b.before (λ q st h is d.
      let a = and_is _ _ scalar in
      performing_at p.types.items sites (component g n Language q) s.world (component_given p.types.items g k c n Language q s.world types_same (not_is _ a.0) at_n h is)
      (λ y f w. there b.next (top (f.0, f.1 a.1) (had b.before))))
  act_reads i.Contents (k, held, b) = standing b.before (λ q st h is d.
      performing_at p.types.items sites (contents q here) s.world (contents_given p.types.items k q here s.world h is) (λ y f w. there b.next (top f d)))
  act_reads i.OpenContents (k, held, b) = standing b.before (λ q st h is d.
      performing_at p.types.items sites (opens q here) s.world (opens_given p.types.items k q here s.world h is) (λ y f w. there b.next (top f (had b.before))))
  act_reads (i.ResultOf x) b =
      let c = in_is (sites s.pc).scope _ b in
      let lead = c.2.1 in
      performing_at p.types.items sites (looks (result_at x s.here.level) >>= λ y. built y here) s.world
      (give_then {Q = IsOf p.types.items (sites s.pc).returns} {P = IsOf p.types.items (sites s.pc).returns} s.world
      (result_given p.types.items p c.0 x s.here (sites s.pc).returns s.world c.2.0 (λ n t f e. variables_at c.0 c.1 n (sites s.pc).returns t f e))
      (λ y f. built_yields p.types.items (IsOf p.types.items (sites s.pc).returns) y here f))
      (λ y f w. there lead.next (top f (had lead.before)))
  act_reads (i.Select is_opened n) (k, bs, j, many, part, b) = at_choices bs n many (b.before ∙ sym (choices_over bs (cell.Object k ∷ []) b.rest)) (λ cs st are c d.
      beneath st c d (λ q st' h is c'. performing_at p.types.items sites (selects is_opened cs q here) s.world
      (selects_given p.types.items p is_opened k j bs cs q here s.world part are h is) (λ y f w. there b.next (top f c'))))
  act_reads (i.SelectOf is_opened m n) (k, c, bs, j, many, held, at_m, part, b) =
      at_choices bs n many (b.before ∙ sym (choices_over bs (part_cell k m c.declared.kind ∷ cell.Object k ∷ []) b.rest)) (λ cs st are d stand.
      by_rank (nat_eq k.rank 0) refl cs st are d stand part)
    where
      by_rank : (t : Bool) → nat_eq k.rank 0 ≡ t → (cs : List Chosen) (st : List Cell) → AllChosen bs cs →
          Cells ((if t then cell.Object c.declared.kind else cell.Each k m c.declared.kind) ∷ cell.Object k ∷ b.rest) st →
          CellsStand p s.here s.world.store ((if t then cell.Object c.declared.kind else cell.Each k m c.declared.kind) ∷ cell.Object k ∷ b.rest) st →
          (if t then sectioned p [] [] is_opened (Some bs) c.declared.kind else element_of_each p [] [] is_opened (Some bs) k c.declared.kind) ≡ Some j →
          Kept (on_object st (λ q st. on_object st (λ r st. performs (by_reach r.reach (selects is_opened cs q here)
          (picks_in_each (spans_of_component (component_of g.program.types.items r.of m)) q cs here)) s.world (λ q. machine.on s (state.Object q ∷ st)))))
      by_rank true one cs st are d stand part = beneath st d stand (λ q st1 h is d1. any_object st1 d1 (λ r st2 h2 d2.
          performing_at p.types.items sites _ s.world (reach_one k r.reach _ _ s.world h2.1 one (selects_given p.types.items p is_opened c.declared.kind j bs cs q here s.world part are h is))
          (λ y f w. there b.next (top f d2))))
      by_rank false one cs st are d stand part = each_object st d (λ q st1 h d1. any_object st1 d1 (λ r st2 h2 d2.
          performing_at p.types.items sites _ s.world (reach_many k r.reach _ _ s.world held h2.1 one
          (subst (λ (z : Kind). GivesAt (Refers z) (picks_in_each (spans_of_component (component_of g.program.types.items r.of m)) q cs here) s.world) (only_is _ _ j part).1
          (yields_given s.world (each_yields (of_kind c.declared.kind.of k.rank) q _ cs here h))))
          (λ y f w. there b.next (top f d2))))
  act_reads (i.Structure t n) (gs, k, many, is, whole, b) = at_arguments gs n many b.before (λ ps st passed c stand.
      let v = found_is (slice_get p.types.items t) _ k is in
      let a = only_is _ _ k v.2 in
      let w = some_is (slice_get p.types.items t) (λ (y : Derived). all (is_whole_for y.components.items) gs) whole in
      let same : w.0 ≡ v.0 = some_same (sym w.1 ∙ v.1) in
      let whole' = subst (λ (y : Derived). all (is_whole_for y.components.items) gs ≡ true) same w.2 in
      let parts = subst (λ ss. PartsFit p.types.items v.0.components.items (components_of (slice_index_or ss t Whole))) (sym shapes_same) (tree_is p formed sense t v.0 v.1) in
      let calm = structure_calm p.types.items s.world.store (0 + t) 0 v.0.components.items (components_of (slice_index_or g.shapes t Whole)) gs ps here
      (components_declared p formed sense t v.0 v.1) parts passed stand (structure_takes p.types.items v.0 gs a.0 whole') in
      performing_at p.types.items sites (structure (components_of (slice_index_or g.shapes t Whole)) 0 ps here >>= λ vs. built (Composite vs) here) s.world
      (give_then {P = IsOf p.types.items k} s.world (calm_given s.world calm)
      (λ vs f. built_yields p.types.items (IsOf p.types.items k) (Composite vs) here (subst (λ (z : Kind). IsOf p.types.items z (Composite vs)) a.1 (refl, v.0, v.1, f))))
      (λ y f w. there b.next (top f c)))
  act_reads x b = act_holds limit g p code sites are s fits l x refl b

module _ (limit : ℕ) (g : Setting) (p : Program) (code : Code) (sites : ℕ → Site) (are : AreKinds p sites code) (formed : IsWellFormed p) (sense : MakesSense p)
    (types_same : g.program.types.items ≡ p.types.items) (statics_same : g.program.statics.items ≡ p.statics.items) (shapes_same : g.shapes ≡ shapes_of p.types.items) where
  does_holds : (s : State) (o : Option Line) → slice_get code.lines s.pc ≡ o → Fits p.types.items sites s → Stands p sites s → Keeps p.types.items sites (does_line limit g code o s)
  does_holds s None at_pc fits stands = stays_so p.types.items sites
  does_holds s (Some l) at_pc fits stands =
      act_reads limit g p code sites are formed sense types_same statics_same shapes_same s fits stands l l.act (are.lines s.pc l at_pc fits.is_reached)

  pub standing_steps_hold : (s t : State) (out : List Event) → Fits p.types.items sites s → Stands p sites s → step limit g code s ≡ state.Goes out t → Fits p.types.items sites t
  standing_steps_hold s t out fits stands e =
      (subst (λ n. Keeps p.types.items sites n) e (does_holds s (slice_get code.lines s.pc) refl fits stands)).by
