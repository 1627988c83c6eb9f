-- What an object holds is loaded.
use Rattle.std.proofs.Common.{◌≡◌, ◌∙◌, sym, ap, subst, ℕ, ◌+◌, Bool, true, false, List, [], ◌∷◌, ◌++◌}
use Rattle.std.specs.Prelude.{None, Some, Ok, Err, slice_get}
use Rattle.f3_program.specs.declared.declarations.Base.{Base}
use Rattle.f3_program.specs.declared.declarations.Constant.TheVariants as constant
use Rattle.f3_program.specs.declared.declarations.Kind.{Kind}
use Rattle.f3_program.specs.declared.program.Program.{Program}
use Rattle.f3_live_blocks.specs.Blocks.{Live}
use Rattle.f3_meaning_whole.specs.Value.{Value}
use Rattle.f3_meaning_whole.specs.Store.{Store}
use Rattle.f3_meaning_whole.specs.Reference.{Reference, held_at}
use Rattle.f3_meaning_whole.specs.Ran.{gives, ◌>>=◌}
use Rattle.f3_meaning_whole.specs.Act.{Here, claim_for, needs_storage, read}
use Rattle.f3_meaning_whole.specs.Arithmetic.{constant_value}
use Rattle.f3_meaning_whole.specs.declared.run_error.RunError.TheVariants.{HeapHasNoRoom}
use Rattle.f3_code.specs.declared.instruction.Instruction.TheVariants as i
use Rattle.f3_code.specs.Account.{words}
use Rattle.f3_code.specs.State.{Line, placed}
use Rattle.f3_code.specs.State as s
use Rattle.f3_code.specs.Machine.{performs, on}
use Rattle.f3_code.specs.Heap.{with_answers}
use Rattle.f3_cell_kinds.specs.Types.{CellType}
use Rattle.f3_cell_kinds.specs.Types as cell
use Rattle.f3_cell_kinds.specs.Laws.{site_at}
use Rattle.f3_rooms.specs.Rooms.{Rooms, store_of}
use Rattle.f3_room_places.specs.declared.types.Types.{Types}
use Rattle.f3_word_cells.specs.declared.cell.Datum.{Datum}
use Rattle.f3_word_cells.specs.declared.cell.Datum.TheVariants as datum
use Rattle.f3_word_cells.specs.declared.cell.Object.{Object}
use Rattle.f3_word_cells.specs.declared.cell.Cell.TheVariants as c
use Rattle.f3_word_cells.specs.declared.state.State.{State}
use Rattle.f3_word_cells.specs.declared.state.Stop.{Stop}
use Rattle.f3_word_cells.specs.declared.state.Stop.TheVariants as stop
use Rattle.f3_word_cells.specs.Areas.{types_of, shape_for, IsDatum}
use Rattle.f3_word_cells.specs.Wants.{asked, read_words, wanted}
use Rattle.f3_word_cells.specs.Scenes.{code_of}
use Rattle.f3_word_cells.specs.States.{Stands, IsLaid, datum_blocks}
use Rattle.f3_word_cells.specs.Moves.{Popped, Pushed}
use Rattle.f3_word_cells.specs.Does.{DoesOver, GoesOn, IsTold, RefusedAt, stream}
use Rattle.f3_word_cells.proofs.Scalars.{Large, IsComposite, IsArray, large_block}
use Rattle.f3_word_cells.proofs.OnTop.{line_kinds}
use Rattle.f3_word_cells.proofs.Moving.{moved_to}
use Rattle.f3_word_cells.proofs.Amid.{Amid, amid_first, amid_last, amid_popped, amid_pushed, amid_taken, amid_written}
use Rattle.f3_word_cells.proofs.Orderly.{IsAfter, after_way}
use Rattle.f3_word_cells.proofs.Lines.{answering, with_stack, line_goes, line_refused, performs_gives, first_looks, first_gives, first_granted, first_refused, claim_for_block, claim_for_scalar}
use Rattle.f3_word_reads.specs.Taken.{TookObject}
use Rattle.f3_word_reads.specs.Reads.{IsThere, IsOf, Gains, Reads}
use Rattle.f3_word_reads.proofs.Tops.{ObjectOnTop, object-on-top, object-there}

-- ---- an object on top

-- the kinds at the line, and the object
pub record OnLoad (p : Program) (t : s.State) : Type 0 where
  pub kind : Kind
  pub rest : List CellType
  pub kinds : (site_at p t.pc).cells ≡ cell.Object kind ∷ rest
  pub next : IsAfter p t.pc (t.pc + 1) (cell.Datum kind ∷ rest)
  pub top : ObjectOnTop kind t.stack

pub on-load : (p : Program) (t : s.State) (l : Line) → IsTold p t → slice_get (code_of p).lines t.pc ≡ Some l → l.act ≡ i.Load → OnLoad p t
on-load p t l told at act =
    let d = line_kinds p t l i.Load told at act in
    let leads = d.2 in
    record { kind = d.0; rest = leads.rest; kinds = leads.before; next = after_way p t.pc (t.pc + 1) (cell.Datum d.0 ∷ []) leads.rest leads.next; top = object-on-top p t d.0 leads.rest told leads.before }

pub lost-load : (p : Program) (m n : Live) (old mid new : State) (Full Spent : ℕ → Type 0) → TookObject None old mid → DoesOver Full Spent p i.Load (Err stop.Lost) m n old new
lost-load p m n old mid new Full Spent none t l x told at act st =
    let on = on-load p t l told at act in
    let amid = amid_first p t m old x _ (s.Object on.top.reference ∷ on.top.below) st on.kinds on.top.split in
    let there = object-there p m _ x old.names.items.items old.here t.here _ on.top.reference on.top.below on.kind on.rest amid.known amid.cells in
    absurd (none.0 there.0 there.1 there.2)

-- ---- what a value claims

pub scalar-needs : (c : _) (v : Value) → v ≡ constant_value c → needs_storage v ≡ false
scalar-needs (constant.Number z) v e = ap needs_storage e
scalar-needs (constant.Truth b) v e = ap needs_storage e

large-needs : (ds : _) (v : Value) → Large ds v → needs_storage v ≡ true
large-needs ds v (IsComposite vs none is) = ap needs_storage is
large-needs ds v (IsArray ss vs same is) = ap needs_storage is

pub block-needs : (p : Program) (m : Live) (a : _) (v : Value) → IsDatum p m (datum.Block a) v → needs_storage v ≡ true
block-needs p m a v is = ap needs_storage is.1 ∙ large-needs _ _ (large_block p m a is.0)

-- ---- a block more is in hand

pub amid-gained : (p : Program) (t : s.State) (n o : Live) (old now : State) (x : Rooms) (ks : List CellType) (stack : List s.Cell) (store : Store) (d : Datum) → Amid p t n old now x ks stack store [] → Gains n o (datum_blocks d)
    → Amid p t o old now x ks stack store (datum_blocks d ++ [])
amid-gained p t n o old now x ks stack store (datum.Scalar c) amid is = subst (λ (l : Live). Amid p t l old now x ks stack store []) (sym is) amid
amid-gained p t n o old now x ks stack store (datum.Block a) amid is =
    let b = (a.elements).block in
    subst (λ (l : Live). Amid p t l old now x ks stack store (b ∷ [])) (sym is.is)
    (amid_written p t _ old now x ks stack store b [] (amid_taken p t n old now x ks stack store [] amid b is.room is.fresh) is.written)

-- ---- the line

module _ (p : Program) (t : s.State) (l : Line) (r : Reference) (below : List s.Cell) (act : l.act ≡ i.Load) (stack : t.stack ≡ s.Object r ∷ below) where
  abbrev here : Here
  here = placed l.place t.here

  abbrev value : Value
  value = held_at (t.world).store r.path r.reach

  abbrev next : s.State
  next = moved_to t (t.pc + 1) (s.Datum value ∷ below) t.here t.world

  -- the run of the line, where the heap gives these answers
  reads-so : (answers : ℕ → Bool) → performs (read r here) (answering (t.world).store answers) (λ x. on (with_answers answers (with_stack (s.Object r ∷ below) t)) (s.Datum x ∷ below))
      ≡ performs (claim_for value here >>= λ done. gives value) (answering (t.world).store answers) (λ x. on (with_answers answers (with_stack (s.Object r ∷ below) t)) (s.Datum x ∷ below))
  reads-so answers = first_looks (λ store. held_at store r.path r.reach) (λ v. claim_for v here >>= λ done. gives v) (answering (t.world).store answers) _

  pub goes-scalar : needs_storage value ≡ false → GoesOn p l t next []
  goes-scalar none = line_goes p l t i.Load (s.Object r ∷ below) next [] tt [] act stack (λ rest.
      reads-so (stream [] rest)
      ∙ ap (λ m. performs (m >>= λ done. gives value) (answering (t.world).store (stream [] rest)) (λ x. on (with_answers (stream [] rest) (with_stack (s.Object r ∷ below) t)) (s.Datum x ∷ below)))
      (claim_for_scalar value here none)
      ∙ first_gives tt (λ done. gives value) _ _ ∙ performs_gives value _ _)

  pub goes-block : needs_storage value ≡ true → GoesOn p l t next []
  goes-block some = line_goes p l t i.Load (s.Object r ∷ below) next (false ∷ []) tt [] act stack (λ rest.
      reads-so (stream (false ∷ []) rest)
      ∙ ap (λ m. performs (m >>= λ done. gives value) (answering (t.world).store (stream (false ∷ []) rest)) (λ x. on (with_answers (stream (false ∷ []) rest) (with_stack (s.Object r ∷ below) t)) (s.Datum x ∷ below)))
      (claim_for_block value here some)
      ∙ first_granted here (t.world).store [] rest (λ done. gives value) _ ∙ performs_gives value _ _)

  pub refused : needs_storage value ≡ true → RefusedAt p l t
  refused some = line_refused p l t i.Load (s.Object r ∷ below) act stack (λ rest.
      reads-so (stream (true ∷ []) rest)
      ∙ ap (λ m. performs (m >>= λ done. gives value) (answering (t.world).store (stream (true ∷ []) rest)) (λ x. on (with_answers (stream (true ∷ []) rest) (with_stack (s.Object r ∷ below) t)) (s.Datum x ∷ below)))
      (claim_for_block value here some)
      ∙ first_refused here (t.world).store [] rest (λ done. gives value) _)

  goes-datum : (m : Live) (d : Datum) → IsDatum p m d value → GoesOn p l t next []
  goes-datum m (datum.Scalar c) is = goes-scalar (scalar-needs c value is)
  goes-datum m (datum.Block a) is = goes-block (block-needs p m a value is)

-- the kind of what was read
laid-load : (p : Program) (k : Kind) (d : Datum) (of : Base) → of ≡ k.of → IsOf of d → IsLaid p k d
laid-load p k (datum.Scalar c) of e is = tt
laid-load p k (datum.Block a) of e is = ap (shape_for p) (is ∙ e)

-- an object is read
module _ (p : Program) (m : Live) (old mid : State) (o : Object) (popped : Popped (c.Object o) old mid) (types : Types) (derived : types.derived.now ≡ p.types.items) where
  -- it stands there
  pub there-load : (t : s.State) (l : Line) (x : Rooms) → IsTold p t → slice_get (code_of p).lines t.pc ≡ Some l → l.act ≡ i.Load → Stands p m old x t
      → (on : OnLoad p t) × IsThere p types m x o on.top.reference × Amid p t m old mid x on.rest on.top.below (t.world).store []
  there-load t l x told at act st =
      let on = on-load p t l told at act in
      let amid = amid_popped p t m old old mid x (cell.Object on.kind) on.rest (s.Object on.top.reference) on.top.below (t.world).store [] (c.Object o)
      (amid_first p t m old x (cell.Object on.kind ∷ on.rest) (s.Object on.top.reference ∷ on.top.below) st on.kinds on.top.split) popped tt in
      (on, record { derived = derived; flat = told.plain.types; sound = st.sound; is = amid.0 }, amid.2)

  -- how many words the line asks for
  wants-load : (t : s.State) (l : Line) (x : Rooms) (r : Reference) (below : List s.Cell) → l.act ≡ i.Load → Stands p m old x t → t.stack ≡ s.Object r ∷ below
      → wanted p l.act t ≡ words (held_at (store_of (types_of p) m x) r.path r.reach)
  wants-load t l x r below act st split =
      ap (λ (y : _). wanted p y t) act ∙ ap (read_words (t.world).store) split ∙ ap (λ store. words (held_at store r.path r.reach)) st.store

  module _ (n : Live) (Full Spent : ℕ → Type 0) where
    pub does-load : (new : State) (d : Datum) → ((x : Rooms) (r : Reference) → IsThere p types m x o r → Reads Full Spent p m n x r (Ok d)) → Pushed (c.Datum d) (mid.pc + 1) mid new
        → DoesOver Full Spent p i.Load (Ok tt) m n old new
    does-load new d reads pushed t l x told at act st =
        let there = there-load t l x told at act st in
        let on = there.0 in
        let top = on.top in
        let r = top.reference in
        let read = reads x r there.1 in
        let value = subst (λ store. IsDatum p n d (held_at store r.path r.reach)) (sym st.store) read.value in
        let gained = amid-gained p t m n old mid x on.rest top.below (t.world).store d there.2 read.gains in
        let amid = amid_pushed p t n old mid new x (cell.Datum on.kind) on.rest (s.Datum (held_at (t.world).store r.path r.reach)) top.below (t.world).store [] (c.Datum d) (mid.pc + 1) gained pushed tt value
        (laid-load p on.kind d r.of top.refers.0 read.typed) in
        let line : t.pc + 1 ≡ new.pc = ap (λ k. k + 1) (st.pc ∙ sym popped.pc) ∙ sym pushed.pc in
        record {
          next = moved_to t (t.pc + 1) (s.Datum (held_at (t.world).store r.path r.reach) ∷ top.below) t.here t.world;
          rooms = x;
          goes = goes-datum p t l r top.below act top.split n d value;
          stands = amid_last p t m n old new x (cell.Datum on.kind ∷ on.rest) (t.pc + 1) (s.Datum (held_at (t.world).store r.path r.reach) ∷ top.below) t.world st amid on.next line;
        }

    pub fails-load : (new : State) (e : Stop) → ((x : Rooms) (r : Reference) → IsThere p types m x o r → Reads Full Spent p m n x r (Err e)) → DoesOver Full Spent p i.Load (Err e) m n old new
    fails-load new (stop.Failed HeapHasNoRoom) reads t l x told at act st =
        let there = there-load t l x told at act st in
        let top = (there.0).top in
        let no = reads x top.reference there.1 in (
          refused p t l top.reference top.below act top.split (ap (λ store. needs_storage (held_at store top.reference.path top.reference.reach)) st.store ∙ no.0),
          subst (λ k. Full (asked k)) (sym (wants-load t l x top.reference top.below act st top.split)) no.1,
        )
    fails-load new stop.Memory reads t l x told at act st =
        let there = there-load t l x told at act st in
        let top = (there.0).top in
        subst (λ k. Spent (asked k)) (sym (wants-load t l x top.reference top.below act st top.split)) (reads x top.reference there.1)
    fails-load new e reads t l x told at act st = let there = there-load t l x told at act st in absurd (reads x (there.0).top.reference there.1)
