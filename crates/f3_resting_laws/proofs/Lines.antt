-- Lines as they were emitted.
use Rattle.std.proofs.Common.{◌≡◌, ℕ, zero, suc, Bool, true, false, List, [], ◌∷◌, map, refl, sym, subst}
use Rattle.std.specs.Prelude.{◌↔◌, Some, slice_get, All}
use Rattle.std.proofs.lemmas.List.Elements.{All-nil, All-cons, All-head, All-tail, All-map}
use Rattle.f3_program.specs.declared.program.Program.{Program}
use Rattle.f3_meaning_whole.specs.Run.{setting_of}
use Rattle.f3_code.specs.State as c
use Rattle.f3_gen_values.specs.declared.emission.Emission.{Emission}
use Rattle.f3_gen_values.specs.declared.line.Line.{Line}
use Rattle.f3_gen_values.specs.Emitted.{line_in}
use Rattle.f3_gen_values.specs.Emission.{code_in}
use Rattle.f3_resting_laws.specs.Rests.{LendsNothing, is_lending}
use Rattle.f3_resting_laws.specs.Laws.{code_of}

abbrev IsCalm : Line → Type 0
IsCalm l = is_lending l.act ≡ false

abbrev IsCalmCode : c.Line → Type 0
IsCalmCode l = is_lending l.act ≡ false

unmapped : (f : Line → c.Line) (ls : List Line) → All IsCalmCode (map f ls) → All (λ (l : Line). IsCalmCode (f l)) ls
unmapped f [] h = All-nil (λ (l : Line). IsCalmCode (f l))
unmapped f (l ∷ ls) h = All-cons (λ (k : Line). IsCalmCode (f k)) l ls (All-head IsCalmCode (f l) (map f ls) h) (unmapped f ls (All-tail IsCalmCode (f l) (map f ls) h))

at_each : (ls : List c.Line) → All IsCalmCode ls → (pc : ℕ) (l : c.Line) → slice_get ls pc ≡ Some l → IsCalmCode l
at_each [] h pc l e = absurd (cc)
at_each (k ∷ ls) h zero l e = let same : k ≡ l = cc in subst IsCalmCode same (All-head IsCalmCode k ls h)
at_each (k ∷ ls) h (suc pc) l e = at_each ls (All-tail IsCalmCode k ls h) pc l e

of_each : (ls : List c.Line) → ((pc : ℕ) (l : c.Line) → slice_get ls pc ≡ Some l → IsCalmCode l) → All IsCalmCode ls
of_each [] h = All-nil IsCalmCode
of_each (k ∷ ls) h = All-cons IsCalmCode k ls (h 0 k refl) (of_each ls (λ pc l e. h (suc pc) l e))

pub lends_nothing_so : (p : Program) (e : Emission) → code_in p e ≡ code_of p → (b : Bool) (ls : List Line) → ls ≡ e.lines.items → (b ≡ true) ↔ All IsCalm ls
    → (b ≡ true) ↔ LendsNothing (code_of p)
lends_nothing_so p e code b ls same told = (
  λ is. at_each (code_of p).lines (subst (λ (z : c.Code). All IsCalmCode z.lines) code
      (All-map IsCalmCode (line_in (setting_of p)) e.lines.items (subst (All IsCalm) same (told.0 is)))),
  λ calm. told.1 (subst (All IsCalm) (sym same) (unmapped (line_in (setting_of p)) e.lines.items
      (subst (λ (z : c.Code). All IsCalmCode z.lines) (sym code) (of_each (code_of p).lines calm)))),
)
