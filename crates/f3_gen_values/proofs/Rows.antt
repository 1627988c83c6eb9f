-- The code of lists in a tree.
use Rattle.std.proofs.Common.{◌≡◌, ℕ, suc, [], ◌∷◌, ◌++◌, length, refl, sym, ap, ◌∙◌, rules, Option, Vec, Global, Bool}
use Rattle.std.specs.List.{flat_map}
use Rattle.f3_places.specs.declared.source.Place.{Place}
use Rattle.f3_program.specs.declared.expression.Argument.{Argument}
use Rattle.f3_program.specs.declared.expression.Expression as e
use Rattle.f3_program.specs.declared.expression.Selection as l
use Rattle.f3_program.specs.declared.expression.Subscript.{Subscript}
use Rattle.f3_code.specs.declared.instruction.Instruction.TheVariants as i
use Rattle.f3_code.specs.State.{line}
use Rattle.f3_code.specs.Code.{value_code, argument_code, arguments_code, argument_count, select_code, select_of_code, subscript_code, chosen_code, subscript_count}

arguments_in_row : {n : _} (k : e.Row_of-Argument n) (o : Option Place) → arguments_code o k ≡ flat_map (argument_code o) (e.items-the_row-Argument n k)
arguments_in_row e.end_of-Argument o = refl
arguments_in_row (e.more_of-Argument x rest) o = ap (λ c. argument_code o x ++ c) (arguments_in_row rest o)

counted : {n : _} (k : e.Row_of-Argument n) → argument_count k ≡ length (e.items-the_row-Argument n k)
counted e.end_of-Argument = refl
counted (e.more_of-Argument x rest) = ap suc (counted rest)

subscripts_in_row : {n : _} (k : l.Row_of-Subscript n) (o : Option Place) → chosen_code o k ≡ flat_map (subscript_code o) (l.items-the_row-Subscript n k)
subscripts_in_row l.end_of-Subscript o = refl
subscripts_in_row (l.more_of-Subscript x rest) o = ap (λ c. subscript_code o x ++ c) (subscripts_in_row rest o)

chosen : {n : _} (k : l.Row_of-Subscript n) → subscript_count k ≡ length (l.items-the_row-Subscript n k)
chosen l.end_of-Subscript = refl
chosen (l.more_of-Subscript x rest) = ap suc (chosen rest)

pub array_is : (v : Vec Argument Global) (o : Option Place) → value_code o (e.Array v) ≡ flat_map (argument_code o) v.items ++ line o (i.Array (length v.items)) ∷ []
array_is v o = search (rules, e.the_lemmas, arguments_in_row, counted)

pub structure_is : (t : ℕ) (v : Vec Argument Global) (o : Option Place) → value_code o (e.Structure t v) ≡ flat_map (argument_code o) v.items ++ line o (i.Structure t (length v.items)) ∷ []
structure_is t v o = search (rules, e.the_lemmas, arguments_in_row, counted)

pub call_is : (f : ℕ) (v : Vec Argument Global) (o : Option Place) → value_code o (e.Call f v) ≡ flat_map (argument_code o) v.items ++ (line o (i.Call f (length v.items)) ∷ line o i.Result ∷ [])
call_is f v o = search (rules, e.the_lemmas, arguments_in_row, counted)

pub elements_are : (b : Bool) (v : Vec Subscript Global) (o : Option Place) → select_code o (l.Elements b v) ≡ flat_map (subscript_code o) v.items ++ line o (i.Select b (length v.items)) ∷ []
elements_are b v o = search (rules, l.the_lemmas, subscripts_in_row, chosen)

pub elements_of_are : (k : ℕ) (b : Bool) (v : Vec Subscript Global) (o : Option Place) → select_of_code o k (l.Elements b v) ≡ line o (i.ComponentOf k) ∷ (flat_map (subscript_code o) v.items ++ line o (i.SelectOf b k (length v.items)) ∷ [])
elements_of_are k b v o = search (rules, l.the_lemmas, subscripts_in_row, chosen)

-- the same with the lengths that are kept

pub array_kept : (v : Vec Argument Global) (o : Option Place) → value_code o (e.Array v) ≡ flat_map (argument_code o) v.items ++ line o (i.Array v.len) ∷ []
array_kept v o = array_is v o ∙ ap (λ k. flat_map (argument_code o) v.items ++ line o (i.Array k) ∷ []) (sym v.ok.0)

pub structure_kept : (t : ℕ) (v : Vec Argument Global) (o : Option Place) → value_code o (e.Structure t v) ≡ flat_map (argument_code o) v.items ++ line o (i.Structure t v.len) ∷ []
structure_kept t v o = structure_is t v o ∙ ap (λ k. flat_map (argument_code o) v.items ++ line o (i.Structure t k) ∷ []) (sym v.ok.0)

pub call_kept : (f : ℕ) (v : Vec Argument Global) (o : Option Place) → value_code o (e.Call f v) ≡ flat_map (argument_code o) v.items ++ (line o (i.Call f v.len) ∷ line o i.Result ∷ [])
call_kept f v o = call_is f v o ∙ ap (λ k. flat_map (argument_code o) v.items ++ (line o (i.Call f k) ∷ line o i.Result ∷ [])) (sym v.ok.0)

pub elements_kept : (b : Bool) (v : Vec Subscript Global) (o : Option Place) → select_code o (l.Elements b v) ≡ flat_map (subscript_code o) v.items ++ line o (i.Select b v.len) ∷ []
elements_kept b v o = elements_are b v o ∙ ap (λ k. flat_map (subscript_code o) v.items ++ line o (i.Select b k) ∷ []) (sym v.ok.0)

pub elements_of_kept : (n : ℕ) (b : Bool) (v : Vec Subscript Global) (o : Option Place) → select_of_code o n (l.Elements b v) ≡ line o (i.ComponentOf n) ∷ (flat_map (subscript_code o) v.items ++ line o (i.SelectOf b n v.len) ∷ [])
elements_of_kept n b v o = elements_of_are n b v o ∙ ap (λ k. line o (i.ComponentOf n) ∷ (flat_map (subscript_code o) v.items ++ line o (i.SelectOf b n k) ∷ [])) (sym v.ok.0)
