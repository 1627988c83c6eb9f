use Rattle.std.proofs.Common.{ℕ, ◌+◌, List, map, length, take, sym, ap, ◌∙◌, subst}
use Rattle.std.specs.Prelude.{sum}
use Rattle.f3_sizes.specs.Part.{IsDepth}
use Rattle.f3_sizes.specs.Parts.{first_of, IsPartAt, AreDepths}
use Rattle.f3_sizes.proofs.needs.told.Goals as goal

pub depths-requires-clause-parts : goal.depths-requires-clause-parts
depths-requires-clause-parts c = λ i lt.
    let e = c.first_line-behind_routines.ensures in
    subst (λ n. IsPartAt c.args.lines.now c.args.routines.now n 1 i) (sym e) (c.requires.of_routines i lt)

pub returns : goal.returns
returns c =
    let r = c.first_line-behind_routines.ensures in
    let b = c.first_line-behind_main.ensures ∙ ap (λ n. first_of c.args.routines.now n) r in
    let more = c.together-more.ensures ∙ ap (λ (xs : List ℕ). sum xs) c.deref.ensures.value in
    record {
      main = c.in_ok-main.main;
      routine_depths = c.in_ok-of_routines.of_routines.items;
      procedure_depths = c.in_ok-of_procedures.of_procedures.items;
      depth = subst (λ n. IsDepth (take n c.args.lines.now) 0 c.in_ok-main.main) b c.in_ok-main.ensures;
      of_routines = subst (λ n. AreDepths c.args.lines.now c.args.routines.now n 1 (length c.args.routines.now) c.in_ok-of_routines.of_routines.items) r c.in_ok-of_routines.ensures;
      of_procedures = c.in_ok-of_procedures.ensures;
      answer = ap (λ k. c.in_ok-main.main + k) more;
      answers = c.in_ok-raised.ensures ∙ ap (λ xs. map (λ n. n + c.together-more.result) xs) c.deref-2.ensures.value
          ∙ ap (λ k. map (λ d. d + k) c.in_ok-of_procedures.of_procedures.items) more;
    }
