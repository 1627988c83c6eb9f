-- The code of lists in statements.
use Rattle.std.proofs.Common.{◌≡◌, ℕ, ◌+◌, ◌++◌, List, [], ◌∷◌, length, map, refl, ap, ◌∙◌, append_assoc, rules, Option, Vec, Box, Global}
use Rattle.f3_places.specs.declared.source.Place.{Place}
use Rattle.f3_program.specs.declared.declarations.Kind.{Kind}
use Rattle.f3_program.specs.declared.expression.Designator.{Designator}
use Rattle.f3_program.specs.declared.expression.Expression.{Expression}
use Rattle.f3_program.specs.declared.statement.Selector.{Selector}
use Rattle.f3_program.specs.declared.statement.Selector.TheVariants as selector
use Rattle.f3_program.specs.declared.statement.Statement as s
use Rattle.f3_meaning_whole.specs.Act.{Setting}
use Rattle.f3_code.specs.Core as o
use Rattle.f3_code.specs.Lower.{lowered, lowered_block, selecting, discard_work}
use Rattle.f3_code.specs.State as c
use Rattle.f3_code.specs.declared.instruction.Instruction.TheVariants as i
use Rattle.f3_code.specs.Code.{discards_code, limits_code, value_code, work_code}
use Rattle.f3_gen_work.proofs.Finals.{discard_any}
use Rattle.f3_gen_statements.specs.Leading.{lowered_list}

in_row : {n : _} (g : Setting) (k : s.Row_of-Statement n) → lowered_block g k ≡ lowered_list g (s.items-the_row-Statement n k)
in_row g s.end_of-Statement = refl
in_row g (s.more_of-Statement x rest) = ap (λ y. o.Then (lowered g x) y) (in_row g rest)

pub block_is : (g : Setting) (v : Vec s.Statement Global) → lowered g (s.Block v) ≡ lowered_list g v.items
block_is g v = search (rules, s.the_lemmas, in_row)

pub count_is : (g : Setting) (x : Designator) (k : Kind) (from to by : Expression) (body : Box s.Statement Global)
    → lowered g (s.Count x k from to by body) ≡ o.Count x k from to by (lowered g body.value)
count_is g x k from to by body = search (rules, s.the_lemmas)

-- what frees held values runs no routines
pub discards_any : (m : ℕ) (p : Option Place) (g : Setting) (xs : List Selector) → discards_code m p (map (selecting g) xs) ≡ discards_code 0 p (map (selecting g) xs)
discards_any m p g [] = refl
discards_any m p g (selector.Variable d ∷ xs) = ap (λ l. c.line p (i.NextObject 1) ∷ c.line p i.Drop ∷ l) (discards_any m p g xs)
discards_any m p g (selector.Value k e ∷ xs) =
    ap (λ w. c.line p (i.NextObject (length w + 1)) ∷ (w ++ (c.line p i.Drop ∷ discards_code m p (map (selecting g) xs)))) (discard_any m p k)
    ∙ ap (λ l. c.line p (i.NextObject (length (work_code 0 p (discard_work k)) + 1)) ∷ (work_code 0 p (discard_work k) ++ (c.line p i.Drop ∷ l))) (discards_any m p g xs)

in_turn : (x y z rest : List c.Line) (k l m n : c.Line) → x ++ (k ∷ (y ++ (l ∷ (z ++ (m ∷ n ∷ rest))))) ≡ (x ++ (k ∷ (y ++ (l ∷ (z ++ (m ∷ n ∷ [])))))) ++ rest
in_turn x y z rest k l m n = simp append_assoc

pub limits_then : (p : Option Place) (k : Kind) (from to by : Expression) (rest : List c.Line) → limits_code p k from to by rest ≡ limits_code p k from to by [] ++ rest
limits_then p k from to by rest = in_turn (value_code p from) (value_code p to) (value_code p by) rest _ _ _ _
