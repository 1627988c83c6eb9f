-- The result of the function at work.
use Rattle.std.proofs.Common.{◌≡◌, ◌≢◌, ◌∙◌, inl, inr, ℕ, zero, suc, ◌+◌, ◌-◌, ◌*◌, ◌^◌, ◌<◌, ◌≤◌, true, false, List, [], ◌∷◌, ◌++◌, length, take, drop, min, refl, sym, ap, subst, arith}
use Rattle.std.specs.Prelude.{◌⊎◌, ℤ, Ok, Err, None, Some, Option, pos, slice_get}
use Rattle.std.specs.FinMap.{get as find}
use Rattle.std.proofs.lemmas.List.{length-drop, length-take}
use Rattle.f3_program.specs.declared.declarations.Base.{Base}
use Rattle.f3_program.specs.declared.declarations.Constant.{Constant}
use Rattle.f3_program.specs.declared.declarations.Constant.TheVariants as constant
use Rattle.f3_program.specs.declared.declarations.Declared.{Declared}
use Rattle.f3_program.specs.declared.declarations.Kind.{Kind}
use Rattle.f3_program.specs.declared.program.Program.{Program}
use Rattle.f3_live_blocks.specs.Blocks.{Live, IsLive, words_of, with_taken, with_words}
use Rattle.f3_live_blocks.proofs.Laws.{words-insert_same}
use Rattle.f3_meaning_whole.specs.Act.{needs_storage, whole}
use Rattle.f3_meaning_whole.specs.Arithmetic.{constant_value}
use Rattle.f3_meaning_whole.specs.Formed as formed_of
use Rattle.f3_meaning_whole.specs.Shape.{Shape, shapes_of}
use Rattle.f3_meaning_whole.specs.Store.{Local, get}
use Rattle.f3_meaning_whole.specs.Value.{Value}
use Rattle.f3_meaning_whole.specs.declared.run_error.RunError.TheVariants.{HeapHasNoRoom}
use Rattle.f3_code.specs.declared.instruction.Instruction.TheVariants as i
use Rattle.f3_code.specs.Account.{words}
use Rattle.f3_code.specs.Exec.{result_at}
use Rattle.f3_code.specs.State.{Line}
use Rattle.f3_code.specs.State as s
use Rattle.f3_cells.specs.Cells.{variables_of}
use Rattle.f3_cell_kinds.proofs.Standing.{in_is}
use Rattle.f3_cell_kinds.specs.Effect.{on as way_on, result_in}
use Rattle.f3_cell_kinds.specs.Holds.{InScope, Knows}
use Rattle.f3_cell_kinds.specs.Kinds.{Leads}
use Rattle.f3_cell_kinds.specs.Laws.{site_at}
use Rattle.f3_cell_kinds.specs.Types.{Around, CellType, Scope, Told}
use Rattle.f3_cell_kinds.specs.Types as cell
use Rattle.f3_desc.specs.declared.descriptor.Dim.{Dim}
use Rattle.f3_desc.specs.Laws.{IsContiguous, size_of}
use Rattle.f3_objects.proofs.Writes.{words-with}
use Rattle.f3_rooms.specs.Forms.{Form, Laid, Allocatable, form_of, form_words, room, words_for}
use Rattle.f3_rooms.specs.Held.{Empty}
use Rattle.f3_rooms.specs.Laws.{IsWithin}
use Rattle.f3_rooms.specs.Places.{Found, found, is_scalar_shape}
use Rattle.f3_rooms.specs.Rooms.{Rooms}
use Rattle.f3_rooms.specs.Values.{formed, laid as laid-as, object, word}
use Rattle.f3_rooms.specs.Ways.{offset, settled, variable_in}
use Rattle.f3_rooms.proofs.Reading.{parts_are_found}
use Rattle.f3_rooms.proofs.Whole.{locals_stand}
use Rattle.f3_rooms.proofs.Within.{parts_are_within}
use Rattle.f3_word_cells.specs.declared.cell.Area.{Area}
use Rattle.f3_word_cells.specs.declared.cell.Cell.TheVariants as c
use Rattle.f3_word_cells.specs.declared.cell.Datum.{Datum}
use Rattle.f3_word_cells.specs.declared.cell.Datum.TheVariants as datum
use Rattle.f3_word_cells.specs.declared.scene.Scene.{Scene}
use Rattle.f3_word_cells.specs.declared.state.State.{State}
use Rattle.f3_word_cells.specs.declared.state.Stop.{Stop}
use Rattle.f3_word_cells.specs.declared.state.Stop.TheVariants as stop
use Rattle.f3_word_cells.specs.Areas.{IsBlock, IsDatum, shape_for, spans_of, types_of, value_in}
use Rattle.f3_word_cells.specs.Cells.{IsHere}
use Rattle.f3_word_cells.specs.Does.{Becomes, BecomesOver, GoesOn, IsTold}
use Rattle.f3_word_cells.specs.Moves.{Pushed}
use Rattle.f3_word_cells.specs.Scenes.{IsScene, code_of}
use Rattle.f3_word_cells.specs.States.{IsLaid as IsLaidFor, Stands, datum_blocks, own}
use Rattle.f3_word_cells.specs.Wants.{asked, wanted}
use Rattle.f3_word_cells.proofs.Amid.{Amid, amid_first, amid_last, amid_pushed, amid_taken, amid_written, hand_live}
use Rattle.f3_word_cells.proofs.Moving.{Beneath}
use Rattle.f3_word_cells.proofs.OnTop.{line_kinds}
use Rattle.f3_word_cells.proofs.Orderly.{IsAfter, after_way}
use Rattle.f3_word_cells.proofs.Within.{here_stands}
use Rattle.f3_word_cells.proofs.Wording.{flat_shape}
use Rattle.f3_word_areas.specs.Dims.{AreApart}
use Rattle.f3_word_areas.specs.Parts.{AreDimsOf, IsLaid}
use Rattle.f3_word_areas.proofs.Types.{declared-rank}
use Rattle.f3_word_areas.proofs.Variables.{begins-there, ends-within}
use Rattle.f3_word_objects.specs.Variables.{IsBlockOf, IsLocalOf, IsNoLocal}
use Rattle.f3_word_objects.proofs.Named.{at-each, block-there, own-block, plain-in, ranked-in}
use Rattle.f3_word_reads.specs.Scalars.{scalar_of}
use Rattle.f3_word_reads.proofs.Flatness.{flat_for}
use Rattle.f3_word_reads.proofs.Loading.{scalar-needs}
use Rattle.f3_word_reads.proofs.Standing.{scalar-object, scalar-words, tables-for}
use Rattle.f3_word_results.specs.Copies.{Copies, Gives, IsCopy, IsLarge, LiesIn}
use Rattle.f3_word_results.proofs.Forms.{copy-formed, dims-words, formed-needs, formed-words, one-formed, settled-words, taken-within}
use Rattle.f3_word_results.proofs.Returned.{copy-goes, copy-refused, next, scalar-goes, value}

-- elements that follow on one another
dims-apart : (w : ℕ) (form : Form) (ds : List Dim) → AreDimsOf w form ds → AreApart w ds
dims-apart w (Laid zero ss) ds are = inr (subst (IsContiguous (pos w)) (sym are.1) tt)
dims-apart w (Laid (suc rank) ss) ds are = are.2
dims-apart w (Allocatable rank) ds are = absurd are

same-some : {A : Type 0} (a b : A) → Some a ≡ Some b → a ≡ b
same-some a b e = cc

module _ (x : Scene) (scene : IsScene x) (m : Live) (old : State) (rooms : Rooms) (t : s.State) (l : Line) (told : IsTold x.program.now t)
    (there : slice_get (code_of x.program.now).lines t.pc ≡ Some l) (number : Option ℕ) (act : l.act ≡ i.ResultOf number)
    (st : Stands x.program.now m old rooms t) where
  abbrev p : Program
  p = x.program.now

  abbrev ts : List Shape
  ts = types_of p

  abbrev returns : Kind
  returns = (site_at p t.pc).returns

  -- ---- at the line

  record AtResult : Type 0 where
    pub scope : Scope
    pub scoped : (site_at p t.pc).scope ≡ Told scope
    pub result : result_in scope.variables number ≡ Some returns
    pub rest : List CellType
    pub kinds : (site_at p t.pc).cells ≡ rest
    pub next : IsAfter p t.pc (t.pc + 1) (cell.Datum returns ∷ rest)

  at-result : AtResult
  at-result =
      let site = site_at p t.pc in
      let Led : Scope → Type 0 = λ o. (result_in o.variables number ≡ Some site.returns) × Leads (site_at p) t.pc (way_on site [] (cell.Datum site.returns ∷ [])) in
      let lead = in_is site.scope Led (line_kinds p t l (i.ResultOf number) told there act) in
      record {
        scope = lead.0;
        scoped = lead.1;
        result = lead.2.0;
        rest = lead.2.1.rest;
        kinds = lead.2.1.before;
        next = after_way p t.pc (t.pc + 1) (cell.Datum site.returns ∷ []) lead.2.1.rest lead.2.1.next;
      }

  here-is : IsHere p rooms old.names.items.items old.here t.here
  here-is = here_stands p m (Beneath p m old t.frames) rooms old.names.items.items old.here t.here (own old) t.stack st.stack

  first : Amid p t m old old rooms at-result.rest t.stack (t.world).store []
  first = amid_first p t m old rooms at-result.rest t.stack st at-result.kinds refl

  -- a value is on top then
  pushed-so : (n : Live) (d : Datum) (new : State) → Amid p t n old old rooms at-result.rest t.stack (t.world).store (datum_blocks d ++ [])
      → IsDatum p n d (value p t l number act) → IsLaidFor p returns d → GoesOn p l t (next p t l number act) [] → Pushed (c.Datum d) (old.pc + 1) old new → Becomes p l t (Ok tt) n new
  pushed-so n d new amid is laid goes pushed =
      let v = value p t l number act in
      let then = amid_pushed p t n old old new rooms (cell.Datum returns) at-result.rest (s.Datum v) t.stack (t.world).store [] (c.Datum d) (old.pc + 1) amid pushed tt is laid in
      record {
        next = next p t l number act;
        rooms = rooms;
        goes = goes;
        stands = amid_last p t m n old new rooms (cell.Datum returns ∷ at-result.rest) (t.pc + 1) (s.Datum v ∷ t.stack) t.world st then at-result.next
            (ap (λ k. k + 1) st.pc ∙ sym pushed.pc);
      }

  -- a scalar, or what a subroutine gives
  pub scalar-pushed : (k : Constant) (new : State) → value p t l number act ≡ constant_value k → Pushed (c.Datum (datum.Scalar k)) (old.pc + 1) old new → Becomes p l t (Ok tt) m new
  scalar-pushed k new is pushed =
      pushed-so m (datum.Scalar k) new first is tt (scalar-goes p t l number act (scalar-needs k (value p t l number act) is)) pushed

  -- ---- the variable

  module _ (n : ℕ) (some : number ≡ Some n) where
    known : Knows p.types.items t.here at-result.scope
    known = subst (λ (o : Around). InScope p.types.items (Knows p.types.items t.here) o) at-result.scoped told.fits.scope

    record IsDeclared : Type 0 where
      pub declared : Declared
      pub there_is : slice_get (variables_of p old.here.procedure) n ≡ Some declared
      pub kind : declared.kind ≡ returns

    declared-there : (z : Option Declared) → slice_get (variables_of p old.here.procedure) n ≡ z → formed_of.found z (λ (y : Declared). Some y.kind) ≡ Some returns → IsDeclared
    declared-there None e f = absurd (cc)
    declared-there (Some d) e f = record { declared = d; there_is = e; kind = same-some d.kind returns f }

    declared-is : IsDeclared
    declared-is =
        let these : at-result.scope.variables ≡ variables_of p old.here.procedure = sym known.0 ∙ here-is.variables in
        declared-there (slice_get (variables_of p old.here.procedure) n) refl
        (sym (ap (λ ds. result_in ds (Some n)) these) ∙ ap (λ z. result_in at-result.scope.variables z) (sym some) ∙ at-result.result)

    pub result-lost : IsNoLocal x old n → ⊥
    result-lost none = none declared-is.declared here-is.room.block declared-is.there_is (block-there x scene m old rooms t st told.plain told.formed here-is)

    module _ (d : Declared) (a : Area) (h : IsLocalOf x old n d a) where
      abbrev shape : Shape
      shape = shape_for p a.of

      abbrev size : ℕ
      size = words_for shape

      abbrev form : Form
      form = settled (form_of d)

      abbrev dims : List Dim
      dims = (a.elements).dims.items

      is-there : slice_get (variables_of p old.here.procedure) n ≡ Some d
      is-there = ap (λ ds. slice_get ds n) (h.0).of.variables ∙ (h.0).variable.is ∙ ap Some h.1

      kind-is : d.kind ≡ returns
      kind-is = ap (λ (y : Declared). y.kind) (same-some d declared-is.declared (sym is-there ∙ declared-is.there_is)) ∙ declared-is.kind

      plain : d.kind.is_allocatable ≡ false
      plain = at-each (λ (y : Declared). y.kind.is_allocatable ≡ false) (variables_of p old.here.procedure) n d
          (plain-in x scene m old rooms t st told.plain told.formed here-is old.here.procedure) is-there

      ranked : length d.dimensions.items ≡ d.kind.rank
      ranked = declared-rank (length p.types.items) d (ranked-in x scene m old rooms t st told.plain told.formed here-is old.here.procedure n d is-there) plain

      small : room ts d < 2 ^ 62
      small =
          let v = (h.0).variable in
          let e = ends-within ts _ n v.declared v.is in
          let f : room ts v.declared ≡ room ts d = ap (room ts) h.1 in
          let w = (h.0).of.framed.words in
          let b = (h.0).of.framed.small in
          omega (arith, e, f, w, b)

      laid : IsLaid ts d (h.0).block (h.0).variable.start a
      laid = subst (λ (y : Declared). IsLaid ts y (h.0).block (h.0).variable.start a) h.1 (h.0).variable.laid

      block-is : (a.elements).block ≡ here-is.room.block
      block-is = laid.block ∙ own-block x scene m old rooms t st told.plain told.formed here-is (h.0).block (h.0).there

      abbrev part : Found
      part = variable_in ts here-is.room n d

      at-is : (a.elements).offset ≡ part.at
      at-is =
          let v = (h.0).variable in
          let starts = sym v.begins ∙ ap (λ xs. slice_get xs n) (h.0).of.framed.starts ∙ begins-there ts _ 0 n v.declared v.is in
          laid.offset ∙ same-some v.start (0 + offset ts _ n) starts ∙ (let e : 0 + offset ts _ n ≡ offset ts _ n = omega arith in e)
          ∙ ap (λ ds. offset ts ds n) (sym (h.0).of.variables ∙ sym here-is.declared)

      shape-is : shape ≡ part.shape
      shape-is = ap (shape_for p) laid.of

      dims-are : AreDimsOf size form dims
      dims-are = subst (λ (y : Shape). AreDimsOf (words_for y) form dims) (sym shape-is) (laid.dims plain ranked (let e = small in omega (arith, e)))

      leads : found ts rooms (Local t.here.level n) [] ≡ Some part
      leads =
          let number : 0 + n ≡ n = omega arith in
          ap (λ k. found ts rooms (Local k n) []) here-is.level ∙ ap (λ k. found ts rooms (Local old.here.level k) []) (sym number)
          ∙ locals_stand ts rooms old.here.level [] [] here-is.room here-is.stands n d
          (ap (λ ds. slice_get ds n) here-is.declared ∙ is-there)

      lies : IsWithin m part
      lies = (parts_are_within ts m rooms st.sound (Local t.here.level n) [] part leads).0

      -- what the machine over values gives
      value-is : value p t l number act ≡ formed form size (object m shape) (a.elements).block (a.elements).offset part.held
      value-is =
          ap (λ j. result_at j t.here.level t.world.store) some
          ∙ ap (λ y. get y (whole (Local t.here.level n))) st.store
          ∙ parts_are_found ts m rooms (Local t.here.level n) [] part leads
          ∙ ap (λ (y : Shape). formed form (words_for y) (object m y) part.block part.at part.held) (sym shape-is)
          ∙ ap (λ b. formed form size (object m shape) b part.at part.held) (sym block-is)
          ∙ ap (λ o. formed form size (object m shape) (a.elements).block o part.held) (sym at-is)

      room-is : room ts d ≡ form_words form size
      room-is = sym (settled-words (form_of d) _) ∙ ap (λ (y : Shape). form_words form (words_for y)) (sym shape-is)

      pub lies-in : LiesIn ts m d a
      lies-in = record {
        live = subst (IsLive m) (sym block-is) lies.live;
        within =
            let e = lies.within in
            let f : form_words form (words_for part.shape) ≡ room ts d = settled-words (form_of d) _ in
            let g : length (words_of m here-is.room.block) ≡ length (words_of m (a.elements).block) = ap (λ b. length (words_of m b)) (sym block-is) in
            let o = at-is in
            omega (arith, e, f, g, o);
        small = let e = small in omega (arith, e);
        scalar = λ none scalar. room-is ∙ dims-words shape form dims dims-are
            ∙ (let one : size_of dims ≡ 1 = ap size_of none in let w = scalar-words shape scalar in ap (λ k. k * size) one ∙ ap (λ k. 1 * k) w);
      }

      wanted-is : asked (words (value p t l number act)) ≡ room ts d
      wanted-is =
          let e = small in
          let many : words (value p t l number act) ≡ room ts d =
          ap words value-is ∙ formed-words shape (flat_shape ts told.plain.types a.of) m form dims (a.elements).block (a.elements).offset part.held dims-are ∙ sym room-is in
          omega (arith, e, many)

      wanted-so : asked (wanted p l.act t) ≡ room ts d
      wanted-so = ap (λ y. asked (wanted p y t)) act ∙ wanted-is

      large-needs : IsLarge ts a → needs_storage (value p t l number act) ≡ true
      large-needs large = ap needs_storage value-is ∙ formed-needs shape m form dims (a.elements).block (a.elements).offset part.held dims-are large

      laid-for : (b : Area) → b.of ≡ a.of → IsLaidFor p returns (datum.Block b)
      laid-for b of = ap (shape_for p) (of ∙ laid.of ∙ ap (λ (k : Kind). k.of) kind-is)

      -- a scalar
      scalar-is : (k : Constant) → dims ≡ [] → is_scalar_shape shape ≡ true → constant_value k ≡ scalar_of a.of (word m (a.elements).block (a.elements).offset)
          → value p t l number act ≡ constant_value k
      scalar-is k none scalar is =
          value-is ∙ one-formed shape m form dims (a.elements).block (a.elements).offset part.held dims-are none
          ∙ scalar-object p x.types (tables-for p x.types scene.types scene.tables) m a.of (a.elements).block (a.elements).offset part.held scalar ∙ sym is

      -- a copy
      module _ (n' : Live) (b : Area) (copy : IsCopy ts m n' d a b) (large : IsLarge ts a) where
        abbrev new-block : ℕ
        new-block = (b.elements).block

        abbrev copied-words : List ℤ
        copied-words = take (room ts d) (drop (a.elements).offset (words_of m (a.elements).block))

        words-are : words_of n' new-block ≡ copied-words
        words-are = ap (λ (y : Live). words_of y new-block) copy.is ∙ words-with (with_taken m new-block (room ts d)) new-block copied-words

        long : length (words_of n' new-block) ≡ room ts d
        long =
            let e = lies-in.within in
            let f = length-drop (a.elements).offset (words_of m (a.elements).block) in
            let g = length-take (room ts d) (drop (a.elements).offset (words_of m (a.elements).block)) in
            ap length words-are ∙ g ∙ omega (arith, e, f)

        dims-same : (b.elements).dims.items ≡ dims
        dims-same = ap (λ y. y.items) copy.dims

        hand : Amid p t n' old old rooms at-result.rest t.stack (t.world).store (new-block ∷ [])
        hand = subst (λ (y : Live). Amid p t y old old rooms at-result.rest t.stack (t.world).store (new-block ∷ [])) (sym copy.is)
            (amid_written p t _ old old rooms at-result.rest t.stack (t.world).store new-block []
            (amid_taken p t m old old rooms at-result.rest t.stack (t.world).store [] first new-block (room ts d) copy.fresh) copied-words)

        value-same : value p t l number act ≡ value_in p n' b
        value-same =
            value-is
            ∙ copy-formed shape (flat_for ts told.plain.types a.of) m n' form dims (a.elements).block (a.elements).offset new-block part.held dims-are
            (λ j lt. ap (λ k. word n' new-block k) (let e : 0 + j ≡ j = omega arith in e)
            ∙ taken-within (words_of n' new-block) (words_of m (a.elements).block) (a.elements).offset (room ts d) j words-are (let e = room-is in omega (arith, lt, e)))
            ∙ ap (λ (es : List Dim). laid-as (length es) (spans_of es) size (object n' shape) new-block 0 Empty) (sym dims-same)
            ∙ ap (λ (y : Shape). laid-as (length (b.elements).dims.items) (spans_of (b.elements).dims.items) (words_for y) (object n' y) new-block 0 Empty) (sym (ap (shape_for p) copy.of))

        same-shape : shape_for p b.of ≡ shape
        same-shape = ap (shape_for p) copy.of

        large-is : IsLarge ts a → ((b.elements).dims.items ≢ []) ⊎ (is_scalar_shape (shape_for p b.of) ≡ false)
        large-is (inl some) = inl (λ e. some (sym dims-same ∙ e))
        large-is (inr e) = inr (ap is_scalar_shape same-shape ∙ e)

        is-block : IsBlock p n' b
        is-block = record {
          offset = copy.offset;
          large = large-is large;
          contiguous = subst (λ (y : Shape). AreApart (words_for y) (b.elements).dims.items) (sym same-shape)
              (subst (AreApart size) (sym dims-same) (dims-apart size form dims dims-are));
          live = hand_live p t n' old old rooms at-result.rest t.stack (t.world).store new-block [] hand;
          words = long ∙ room-is ∙ dims-words shape form dims dims-are ∙ ap (λ (es : List Dim). size_of es * size) (sym dims-same)
              ∙ ap (λ (y : Shape). size_of (b.elements).dims.items * words_for y) (sym same-shape);
        }

        pub copy-pushed : (new : State) → Pushed (c.Datum (datum.Block b)) (old.pc + 1) old new → Becomes p l t (Ok tt) n' new
        copy-pushed new pushed =
            pushed-so n' (datum.Block b) new hand (is-block, value-same) (laid-for b copy.of) (copy-goes p t l number act (large-needs large)) pushed

      -- what is given is on top then, or there is no room
      pub result-given : (Full Spent : ℕ → Type 0) (n' : Live) (k : Datum) (new : State) → Gives Full Spent ts m n' d a (Ok k) → Pushed (c.Datum k) (old.pc + 1) old new
          → BecomesOver Full Spent p l t (Ok tt) n' new
      result-given Full Spent n' (datum.Scalar k) new gives pushed =
          subst (λ (y : Live). Becomes p l t (Ok tt) y new) (sym gives.0) (scalar-pushed k new (scalar-is k gives.1 gives.2 gives.3) pushed)
      result-given Full Spent n' (datum.Block b) new gives pushed = copy-pushed n' b gives.1 gives.0 new pushed

      pub result-fails : (Full Spent : ℕ → Type 0) (n' : Live) (e : Stop) (new : State) → Gives Full Spent ts m n' d a (Err e) → BecomesOver Full Spent p l t (Err e) n' new
      result-fails Full Spent n' (stop.Failed HeapHasNoRoom) new gives =
          (copy-refused p t l number act (large-needs gives.0), subst Full (sym wanted-so) gives.1)
      result-fails Full Spent n' stop.Memory new gives = subst Spent (sym wanted-so) gives
      result-fails Full Spent n' e new gives = absurd gives
