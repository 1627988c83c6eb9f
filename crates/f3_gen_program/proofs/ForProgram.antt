-- Code in front of code, in one program.
use Rattle.std.proofs.Common.{◌≡◌, ℕ, ◌+◌, ◌++◌, List, length, map, reverse, refl, sym, ap, subst, ◌∙◌, append_assoc, arith}
use Rattle.std.proofs.lemmas.List.{reverse-append, length-append}
use Rattle.f3_program.specs.declared.declarations.Derived.{Derived}
use Rattle.f3_program.specs.declared.program.Procedure.{Procedure}
use Rattle.f3_program.specs.declared.program.Program.{Program}
use Rattle.f3_meaning_whole.specs.Act.{Setting}
use Rattle.f3_meaning_whole.specs.Run.{setting_of}
use Rattle.f3_code.specs.Lower.{lowered_main, lowered_procedure, routines}
use Rattle.f3_code.specs.State as c
use Rattle.f3_code.specs.Code.{main_code, procedures_code, routines_code}
use Rattle.f3_gen_values.specs.declared.line.Line.{Line}
use Rattle.f3_gen_values.specs.Emitted.{Emitted, lines_in}
use Rattle.f3_gen_work.specs.EmittedIn.{EmittedIn}
use Rattle.f3_gen_work.proofs.Emitting.{counted_in}
use Rattle.f3_gen_procedures.specs.Ends.{procedure_ends}
use Rattle.f3_gen_program.proofs.EmittedFor.{EmittedFor}

pub in_program : (p : Program) (a b : List Line) (t : List Derived) (x : List Derived → Setting → List c.Line) → t ≡ p.types.items → EmittedIn t a b (x t)
    → EmittedFor p a b (x p.types.items (setting_of p))
in_program p a b t x e u =
    let v : EmittedIn p.types.items a b (x p.types.items) = subst (λ t. EmittedIn t a b (x t)) e u in
    record { in_front = v.in_front (setting_of p) refl; longer = counted_in v (setting_of p) refl }

pub for_any : (p : Program) {a b : List Line} {x : List c.Line} → Emitted a b x → EmittedFor p a b x
for_any p u = record { in_front = u.in_front (setting_of p); longer = u.longer }

pub for_then : {p : Program} {a b d : List Line} {x y : List c.Line} → EmittedFor p a b x → EmittedFor p b d y → EmittedFor p a d (y ++ x)
for_then {p = p} {a = a} {b = b} {d = d} {x = x} {y = y} u v = record {
  in_front = v.in_front ∙ ap (λ l. l ++ reverse y) u.in_front ∙ append_assoc (lines_in (setting_of p) a) (reverse x) (reverse y)
      ∙ ap (λ l. lines_in (setting_of p) a ++ l) (sym (reverse-append y x));
  longer = let m : length b ≡ length a + length x = u.longer in let n : length d ≡ length b + length y = v.longer in omega (arith, length-append y x);
}

pub routines_for : (p : Program) (a b : List Line) (t : List Derived) → t ≡ p.types.items → Emitted a b (routines_code (routines t)) → EmittedFor p a b (routines_code (routines p.types.items))
routines_for p a b t e u = for_any p (subst (λ t. Emitted a b (routines_code (routines t))) e u)

pub main_for : (p : Program) (a b : List Line) (t : List Derived) → t ≡ p.types.items → EmittedIn t a b (λ g. main_code (length t) (lowered_main g p.main))
    → EmittedFor p a b (main_code (length p.types.items) (lowered_main (setting_of p) p.main))
main_for p a b t e u = in_program p a b t (λ t g. main_code (length t) (lowered_main g p.main)) e u

abbrev procedures_of : List Derived → List Procedure → Setting → List c.Line
procedures_of t ps g = procedures_code (length t) (map (lowered_procedure g) ps)

pub procedures_for : (p : Program) (a b : List Line) (t : List Derived) (ps : List Procedure) → t ≡ p.types.items → ps ≡ p.procedures.items
    → EmittedIn t a b (λ g. procedures_code (length t) (map (lowered_procedure g) ps))
    → EmittedFor p a b (procedures_code (length p.types.items) (map (lowered_procedure (setting_of p)) p.procedures.items))
procedures_for p a b t ps e f u = in_program p a b t (λ t g. procedures_of t p.procedures.items g) e (subst (λ qs. EmittedIn t a b (λ g. procedures_of t qs g)) f u)

pub ends_for : (p : Program) (t : List Derived) (ps : List Procedure) (first last : List ℕ) (n : ℕ) → t ≡ p.types.items → ps ≡ p.procedures.items
    → ((g : Setting) → g.program.types.items ≡ t → last ≡ first ++ reverse (procedure_ends (length t) n (map (lowered_procedure g) ps)))
    → last ≡ first ++ reverse (procedure_ends (length p.types.items) n (map (lowered_procedure (setting_of p)) p.procedures.items))
ends_for p t ps first last n e f h =
    subst (λ qs. last ≡ first ++ reverse (procedure_ends (length p.types.items) n (map (lowered_procedure (setting_of p)) qs))) f
    (subst (λ ts. last ≡ first ++ reverse (procedure_ends (length ts) n (map (lowered_procedure (setting_of p)) ps))) e (h (setting_of p) (sym e)))
