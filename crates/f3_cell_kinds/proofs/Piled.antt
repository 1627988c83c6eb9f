-- Arguments and selectors on top of a stack.
use Rattle.std.proofs.Common.{◌≡◌, sym, ap, ℕ, suc, ◌+◌, List, [], ◌∷◌, ◌++◌, length, refl, subst, arith}
use Rattle.f3_program.specs.declared.declarations.Derived.{Derived}
use Rattle.f3_program.specs.declared.declarations.Kind.{Kind}
use Rattle.f3_meaning_whole.specs.Act.{Passed}
use Rattle.f3_meaning_whole.specs.Exec.{Association}
use Rattle.f3_meaning_whole.specs.Formed.{Given}
use Rattle.f3_code.specs.State as state
use Rattle.f3_code.specs.State.{Cell, Next}
use Rattle.f3_code.specs.Machine.{on_many, argument_of, selector_of}
use Rattle.f3_cell_kinds.specs.Types.{Scope, Around, CellType, Site, arguments_on, selectors_on}
use Rattle.f3_cell_kinds.specs.Types as cell
use Rattle.f3_cell_kinds.proofs.Given.{arguments_over}
use Rattle.f3_cell_kinds.proofs.OfActions.{selectors_over}
use Rattle.f3_cell_kinds.proofs.Reaching.{AllPassed, AllSelected}
use Rattle.f3_cell_kinds.proofs.Holding.{Has, Keeps, stays_so}

append_none : {A : Type 0} (xs : List A) → xs ++ [] ≡ xs
append_none [] = refl
append_none (x ∷ xs) = ap (λ l. x ∷ l) (append_none xs)

module _ (types : List Derived) (sites : ℕ → Site) (Known : Scope → Type 0) (o : Around) (r end : Kind) where
  abbrev Cells : List CellType → List Cell → Type 0
  Cells xs stack = Has types sites Known o r end xs stack

  arguments_from : (f : List Passed → List Cell → Next) (gs : List Given) (h : List CellType) (j : ℕ) (xs : List Passed) (stack : List Cell) → Cells (arguments_on gs h) stack →
      ((ps : List Passed) (st : List Cell) → AllPassed types gs ps → Cells h st → Keeps types sites (on_many argument_of j (ps ++ xs) st f)) →
      Keeps types sites (on_many argument_of (length gs + j) xs stack f)
  arguments_from f [] h j xs stack s k =
      let e : j ≡ 0 + j = omega arith in
      subst (λ n. Keeps types sites (on_many argument_of n xs stack f)) e (k [] stack tt s)
  arguments_from f (g ∷ gs) h j xs stack s k =
      let e : length gs + suc j ≡ suc (length gs) + j = omega arith in
      subst (λ n. Keeps types sites (on_many argument_of n xs stack f)) e
      (arguments_from f gs (cell.Argument g ∷ h) (suc j) xs stack s (λ ps st are c. one ps st are c))
    where
      one : (ps : List Passed) (st : List Cell) → AllPassed types gs ps → Cells (cell.Argument g ∷ h) st → Keeps types sites (on_many argument_of (suc j) (ps ++ xs) st f)
      one ps [] are c = absurd c.by
      one ps (state.Argument x ∷ st) are c = k (x ∷ ps) st (c.by.0, are) (record { by = c.by.1 })
      one ps (y ∷ st) are c = stays_so types sites

  pub at_arguments : {f : List Passed → List Cell → Next} {rest : List CellType} (gs : List Given) (n : ℕ) (stack : List Cell) → length gs ≡ n → Cells (arguments_on gs [] ++ rest) stack →
      ((ps : List Passed) (st : List Cell) → AllPassed types gs ps → Cells rest st → Keeps types sites (f ps st)) → Keeps types sites (on_many argument_of n [] stack f)
  at_arguments {f = f} {rest = rest} gs n stack many s k =
      let e : length gs + 0 ≡ n = omega (arith, many) in
      subst (λ n. Keeps types sites (on_many argument_of n [] stack f)) e
      (arguments_from f gs rest 0 [] stack (subst (λ l. Cells l stack) (sym (arguments_over gs [] rest)) s)
      (λ ps st are c. subst (λ l. Keeps types sites (f l st)) (sym (append_none ps)) (k ps st are c)))

  selectors_from : (f : List Association → List Cell → Next) (ks : List Kind) (h : List CellType) (j : ℕ) (xs : List Association) (stack : List Cell) → Cells (selectors_on ks h) stack →
      ((ps : List Association) (st : List Cell) → AllSelected types ks ps → Cells h st → Keeps types sites (on_many selector_of j (ps ++ xs) st f)) →
      Keeps types sites (on_many selector_of (length ks + j) xs stack f)
  selectors_from f [] h j xs stack s k =
      let e : j ≡ 0 + j = omega arith in
      subst (λ n. Keeps types sites (on_many selector_of n xs stack f)) e (k [] stack tt s)
  selectors_from f (g ∷ ks) h j xs stack s k =
      let e : length ks + suc j ≡ suc (length ks) + j = omega arith in
      subst (λ n. Keeps types sites (on_many selector_of n xs stack f)) e
      (selectors_from f ks (cell.Selector g ∷ h) (suc j) xs stack s (λ ps st are c. one ps st are c))
    where
      one : (ps : List Association) (st : List Cell) → AllSelected types ks ps → Cells (cell.Selector g ∷ h) st → Keeps types sites (on_many selector_of (suc j) (ps ++ xs) st f)
      one ps [] are c = absurd c.by
      one ps (state.Selector x ∷ st) are c = k (x ∷ ps) st (c.by.0, are) (record { by = c.by.1 })
      one ps (y ∷ st) are c = stays_so types sites

  pub at_selectors : {f : List Association → List Cell → Next} {rest : List CellType} (ks : List Kind) (n : ℕ) (stack : List Cell) → length ks ≡ n → Cells (selectors_on ks [] ++ rest) stack →
      ((ps : List Association) (st : List Cell) → AllSelected types ks ps → Cells rest st → Keeps types sites (f ps st)) → Keeps types sites (on_many selector_of n [] stack f)
  at_selectors {f = f} {rest = rest} ks n stack many s k =
      let e : length ks + 0 ≡ n = omega (arith, many) in
      subst (λ n. Keeps types sites (on_many selector_of n [] stack f)) e
      (selectors_from f ks rest 0 [] stack (subst (λ l. Cells l stack) (sym (selectors_over ks [] rest)) s)
      (λ ps st are c. subst (λ l. Keeps types sites (f l st)) (sym (append_none ps)) (k ps st are c)))
