-- What the machine over values does where a function gives its value.
use Rattle.std.proofs.Common.{◌≡◌, ◌∙◌, ℕ, ◌+◌, Bool, true, false, List, [], ◌∷◌, refl, ap}
use Rattle.std.specs.Prelude.{Option}
use Rattle.f3_program.specs.declared.program.Program.{Program}
use Rattle.f3_meaning_whole.specs.Act.{Here, claim_for, needs_storage}
use Rattle.f3_meaning_whole.specs.Eval.{built}
use Rattle.f3_meaning_whole.specs.Ran.{gives, ◌>>=◌}
use Rattle.f3_meaning_whole.specs.Value.{Value}
use Rattle.f3_code.specs.declared.instruction.Instruction.TheVariants as i
use Rattle.f3_code.specs.Exec.{result_at}
use Rattle.f3_code.specs.Heap.{with_answers}
use Rattle.f3_code.specs.Machine.{on, performs}
use Rattle.f3_code.specs.State.{Line, placed}
use Rattle.f3_code.specs.State as s
use Rattle.f3_word_cells.specs.Does.{GoesOn, RefusedAt, stream}
use Rattle.f3_word_cells.proofs.Lines.{answering, claim_for_block, claim_for_scalar, does_so, first_gives, first_granted, first_looks, first_refused, line_goes, line_refused, performs_gives, with_stack}
use Rattle.f3_word_cells.proofs.Moving.{moved_to}

module _ (p : Program) (t : s.State) (l : Line) (number : Option ℕ) (act : l.act ≡ i.ResultOf number) where
  abbrev here : Here
  here = placed l.place t.here

  abbrev pub value : Value
  value = result_at number (t.here).level (t.world).store

  abbrev pub next : s.State
  next = moved_to t (t.pc + 1) (s.Datum value ∷ t.stack) t.here t.world

  -- the run of the line, where the heap gives these answers
  gives-so : (given : List Bool) (rest : ℕ → Bool) → does_so p l t (i.ResultOf number) t.stack given rest
      ≡ performs (claim_for value here >>= λ done. gives value) (answering (t.world).store (stream given rest)) (λ y. on (with_answers (stream given rest) (with_stack t.stack t)) (s.Datum y ∷ t.stack))
  gives-so given rest = first_looks (result_at number (t.here).level) (λ y. built y here) (answering (t.world).store (stream given rest)) _

  pub scalar-goes : needs_storage value ≡ false → GoesOn p l t next []
  scalar-goes none = line_goes p l t (i.ResultOf number) t.stack next [] tt [] act refl (λ rest.
      gives-so [] rest
      ∙ ap (λ r. performs (r >>= λ done. gives value) (answering (t.world).store (stream [] rest)) (λ y. on (with_answers (stream [] rest) (with_stack t.stack t)) (s.Datum y ∷ t.stack)))
      (claim_for_scalar value here none)
      ∙ first_gives tt (λ done. gives value) _ _ ∙ performs_gives value _ _)

  pub copy-goes : needs_storage value ≡ true → GoesOn p l t next []
  copy-goes some = line_goes p l t (i.ResultOf number) t.stack next (false ∷ []) tt [] act refl (λ rest.
      gives-so (false ∷ []) rest
      ∙ ap (λ r. performs (r >>= λ done. gives value) (answering (t.world).store (stream (false ∷ []) rest)) (λ y. on (with_answers (stream (false ∷ []) rest) (with_stack t.stack t)) (s.Datum y ∷ t.stack)))
      (claim_for_block value here some)
      ∙ first_granted here (t.world).store [] rest (λ done. gives value) _ ∙ performs_gives value _ _)

  pub copy-refused : needs_storage value ≡ true → RefusedAt p l t
  copy-refused some = line_refused p l t (i.ResultOf number) t.stack act refl (λ rest.
      gives-so (true ∷ []) rest
      ∙ ap (λ r. performs (r >>= λ done. gives value) (answering (t.world).store (stream (true ∷ []) rest)) (λ y. on (with_answers (stream (true ∷ []) rest) (with_stack t.stack t)) (s.Datum y ∷ t.stack)))
      (claim_for_block value here some)
      ∙ first_refused here (t.world).store [] rest (λ done. gives value) _)
