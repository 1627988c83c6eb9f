-- Code in front of code.
use Rattle.std.proofs.Common.{◌≡◌, ◌++◌, List, [], reverse, sym, ap, subst, ◌∙◌, append_assoc, ◌+◌, length, arith, Result, Ok, Err, OnOk}
use Rattle.std.specs.declared.alloc.AllocError.{AllocError}
use Rattle.std.proofs.lemmas.List.{reverse-append, append-nil, length-append}
use Rattle.f3_meaning_whole.specs.Act.{Setting}
use Rattle.f3_code.specs.State as c
use Rattle.f3_gen_values.specs.declared.line.Line.{Line}
use Rattle.f3_gen_values.specs.Emitted.{Emitted, lines_in}

pub emitted_none : (a : List Line) → Emitted a a []
emitted_none a = record { in_front = λ g. sym (append-nil (lines_in g a)); longer = omega arith }

pub emitted_then : {a b d : List Line} {x y : List c.Line} → Emitted a b x → Emitted b d y → Emitted a d (y ++ x)
emitted_then {a = a} {b = b} {d = d} {x = x} {y = y} p q = record {
  in_front = λ (g : Setting). q.in_front g ∙ ap (λ l. l ++ reverse y) (p.in_front g) ∙ append_assoc (lines_in g a) (reverse x) (reverse y) ∙ ap (λ l. lines_in g a ++ l) (sym (reverse-append y x));
  longer = let m : length b ≡ length a + length x = p.longer in let n : length d ≡ length b + length y = q.longer in omega (arith, length-append y x);
}

-- a part in front of what was put first
pub then_ok : {a b : List Line} {x z : List c.Line} (d : List Line) (y : List c.Line) (r : Result (Unit {0}) AllocError) → Emitted a b x → OnOk r (Emitted b d y) → z ≡ y ++ x → OnOk r (Emitted a d z)
then_ok {a = a} d y (Ok u) p q e = subst (λ z. Emitted a d z) (sym e) (emitted_then p q)
then_ok d y (Err u) p q e = tt
