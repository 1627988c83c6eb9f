-- What a body sees of the line of a structure constructor.
use Rattle.std.proofs.Common.{◌≡◌, ◌∙◌, ℕ, ◌+◌, ◌-◌, ◌^◌, ◌<◌, ◌≤◌, List, length, drop, take, reverse, refl, sym, ap, subst, arith}
use Rattle.std.specs.Prelude.{⊤, None, Some, Result, Ok, Err, slice_get, slice_index_or}
use Rattle.std.specs.FinMap.{get as find}
use Rattle.std.proofs.lemmas.List.{length-drop, take_all}
use Rattle.std.proofs.lemmas.Option.{get_or_from_slice_get, slice_get_within}
use Rattle.f3_program.specs.declared.declarations.Base.TheVariants as base
use Rattle.f3_program.specs.declared.declarations.Component.{Component}
use Rattle.f3_program.specs.declared.declarations.Derived.{Derived}
use Rattle.f3_program.specs.declared.program.Program.{Program}
use Rattle.f3_live_blocks.specs.Blocks.{Live, words_of, with_taken}
use Rattle.f3_meaning_whole.specs.Act.{Passed}
use Rattle.f3_meaning_whole.specs.Shape.{Shape, shape_in, shapes_of}
use Rattle.f3_meaning_whole.specs.declared.run_error.RunError.{RunError}
use Rattle.f3_code.specs.declared.instruction.Instruction.TheVariants as i
use Rattle.f3_code.specs.State.{Line}
use Rattle.f3_code.specs.State as s
use Rattle.f3_rooms.specs.Forms.{total, words_for}
use Rattle.f3_rooms.specs.Rooms.{Rooms}
use Rattle.f3_room_levels.specs.Initial.{AllCanBegin, declared_each}
use Rattle.f3_room_levels.specs.Writing.{IsBlank, with_words_from}
use Rattle.f3_room_places.specs.declared.types.Types.{Types}
use Rattle.f3_room_places.specs.Places.{shapes}
use Rattle.f3_word_cells.specs.declared.cell.Cell.{Cell}
use Rattle.f3_word_cells.specs.declared.state.State.{State}
use Rattle.f3_word_cells.specs.declared.state.Stop.TheVariants as stop
use Rattle.f3_word_cells.specs.Areas.{shape_for, types_of}
use Rattle.f3_word_cells.specs.Does.{BecomesOver, IsTold, RefusedAt}
use Rattle.f3_word_cells.specs.Scenes.{code_of}
use Rattle.f3_word_cells.specs.States.{Stands}
use Rattle.f3_word_cells.specs.Wants.{asked, wanted}
use Rattle.f3_word_structures.specs.Fitting.{AreGiven, Checked}
use Rattle.f3_word_structures.specs.Members.{AreApart, AreWhole, structure_words}
use Rattle.f3_word_structures.proofs.Given.{OnStructure, on-structure}
use Rattle.f3_word_structures.proofs.Popping.{Went}
use Rattle.f3_word_structures.proofs.Structures.{apart-there, blank-there, check-fails, enough, fit-there, given-there, no-room, went-none, whole-there}

-- the last of some cells
tail-cells : (zs us : List Cell) (k : ℕ) → us ≡ zs → take (length us - k) (drop k us) ≡ drop k zs
tail-cells zs us k e =
    let many = length-drop k us in
    take_all (length us - k) (drop k us) (omega (arith, many)) ∙ ap (drop k) e

module _ (p : Program) (m : Live) (old : State) (of n : ℕ) (t : s.State) (l : Line) (x : Rooms) (told : IsTold p t) (there : slice_get (code_of p).lines t.pc ≡ Some l)
    (act : l.act ≡ i.Structure of n) (st : Stands p m old x t) where
  abbrev h : OnStructure p t of n
  h = on-structure p t l of n told there act

  abbrev pub cs : List Component
  cs = (h.type).components.items

  abbrev pub ps : List Passed
  ps = reverse h.items

  pub in-types : of < length p.types.items
  in-types = slice_get_within p.types.items of h.type h.there

  -- how many words are asked for
  pub size-asked : (types : Types) → types.derived.now ≡ p.types.items → (size : ℕ) → size ≡ words_for (shape_in (shapes types) (base.Derived of)) → size < 2 ^ 64
      → (size ≡ words_for (shape_for p (base.Derived of))) × (size ≡ asked (wanted p l.act t))
  size-asked types derived size is small =
      let same : size ≡ words_for (shape_for p (base.Derived of)) = is ∙ ap (λ ds. words_for (shape_in (shapes_of ds) (base.Derived of))) derived in
      let want : wanted p l.act t ≡ words_for (shape_for p (base.Derived of)) = ap (λ y. wanted p y t) act in
      (same, omega (arith, same, want, small))

  module _ (types : Types) (derived : types.derived.now ≡ p.types.items) (len : ℕ) (all : len ≡ length old.cells.items.items) (y : Derived) (is : y ≡ slice_index_or p.types.items of y)
      (members : List Component) (are : members ≡ y.components.items) (seen : List Cell) (same : seen ≡ old.cells.items.items) where
    abbrev pub tops : List Cell
    tops = take (length seen - (len - n)) (drop (len - n) seen)

    tops-are : tops ≡ drop (len - n) old.cells.items.items
    tops-are = tail-cells old.cells.items.items seen (len - n) same

    members-are : members ≡ cs
    members-are = are ∙ ap (λ (z : Derived). z.components.items) (is ∙ get_or_from_slice_get p.types.items of h.type y h.there)

    pub given-tops : AreGiven p types m tops ps
    given-tops = subst (λ zs. AreGiven p types m zs ps) (sym tops-are) (given-there p m old of n t l x told there act st types derived len all)

    abbrev pub Looked : Result ⊤ RunError → Type 0
    Looked r = (q : Program) (us : List Passed) → AreGiven q types m tops us → Checked members us r

    -- a component cannot take its value
    pub looked-fails : (Full Spent : ℕ → Type 0) (live : Live) (new : State) (e : RunError) → Looked (Err e) → BecomesOver Full Spent p l t (Err (stop.Failed e)) live new
    looked-fails Full Spent live new e looked =
        check-fails p m old of n t l x told there act st Full Spent live new len all e (subst (λ zs. Checked zs ps (Err e)) members-are (looked p ps given-tops))

    -- all can
    pub looked-well : (done : ⊤) → Looked (Ok done) → Checked cs ps (Ok tt)
    looked-well done looked = subst (λ zs. Checked zs ps (Ok tt)) members-are (looked p ps given-tops)

    -- so the words of a new block can be written
    module _ (checked : Checked cs ps (Ok tt)) (block size : ℕ) (mid : Live) (fresh : find m block ≡ None) (is-size : size ≡ words_for (shape_for p (base.Derived of)))
        (taken : mid ≡ with_taken m block size) where
      shapes-are : shapes types ≡ types_of p
      shapes-are = ap shapes_of derived

      pub fit-seen : AllCanBegin (shapes types) (declared_each members)
      fit-seen = subst (λ zs. AllCanBegin (shapes types) (declared_each zs)) (sym members-are) (subst (λ ts. AllCanBegin ts (declared_each cs)) (sym shapes-are)
          (fit-there p m old of n t l x told there act st checked len all block size mid fresh is-size taken))

      pub blank-seen : IsBlank mid block 0 (total (shapes types) (declared_each members))
      blank-seen = subst (λ zs. IsBlank mid block 0 (total (shapes types) (declared_each zs))) (sym members-are) (subst (λ ts. IsBlank mid block 0 (total ts (declared_each cs))) (sym shapes-are)
          (blank-there p m old of n t l x told there act st checked len all block size mid fresh is-size taken))

      pub apart-seen : AreApart mid block tops
      apart-seen = subst (AreApart mid block) (sym tops-are) (apart-there p m old of n t l x told there act st checked len all block size mid fresh is-size taken)

      pub whole-seen : AreWhole (shapes types) mid tops 0 members
      whole-seen = subst (λ zs. AreWhole (shapes types) mid tops 0 zs) (sym members-are) (subst (λ zs. AreWhole (shapes types) mid zs 0 cs) (sym tops-are)
          (subst (λ ts. AreWhole ts mid (drop (len - n) old.cells.items.items) 0 cs) (sym shapes-are)
          (whole-there p m old of n t l x told there act st checked len all block size mid fresh is-size taken)))

      pub written-seen : (then : Live) → then ≡ with_words_from mid block 0 (structure_words (shapes types) mid tops 0 members)
          → then ≡ with_words_from mid block 0 (structure_words (types_of p) mid (drop (len - n) old.cells.items.items) 0 cs)
      written-seen then written =
          written ∙ ap (λ zs. with_words_from mid block 0 (structure_words (shapes types) mid tops 0 zs)) members-are
          ∙ ap (λ zs. with_words_from mid block 0 (structure_words (shapes types) mid zs 0 cs)) tops-are
          ∙ ap (λ ts. with_words_from mid block 0 (structure_words ts mid (drop (len - n) old.cells.items.items) 0 cs)) shapes-are
