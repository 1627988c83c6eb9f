-- The heights of the code of expressions and designators.
use Rattle.std.proofs.Common.{ℕ, suc, ◌+◌, Bool, true, false, List, [], ◌∷◌, ◌++◌, Option, refl, arith, if◌then◌else◌}
use Rattle.f3_places.specs.declared.source.Place.{Place}
use Rattle.f3_program.specs.declared.expression.Argument as a
use Rattle.f3_program.specs.declared.expression.Designator as d
use Rattle.f3_program.specs.declared.expression.Expression as e
use Rattle.f3_program.specs.declared.expression.Selection as l
use Rattle.f3_program.specs.declared.expression.Subscript as u
use Rattle.f3_code.specs.declared.instruction.Instruction.TheVariants as i
use Rattle.f3_code.specs.State.{Line, line}
use Rattle.f3_code.specs.Code.{argument_count, subscript_count, value_code, bounds_code, argument_code, arguments_code, locate_code, select_code, select_of_code, chosen_code, subscript_code}
use Rattle.f3_heights.specs.Program.{value_heights, bounds_heights, argument_heights, arguments_heights, locate_heights, select_heights, select_of_heights, chosen_heights, subscript_heights}
use Rattle.f3_heights.proofs.Parts.{Part, Onto, nothing, seq, falls, plain, first, last, onto_same}

module _ (height : ℕ → ℕ) where
  limit_part : (b : Bool) (o : Option Place) (cx : List Line) (hx : List ℕ) (h : ℕ) → Part height (Onto height (suc h)) cx hx h →
      Part height (Onto height (suc h)) (if b then cx ++ line o i.Limit ∷ [] else line o i.NoLimit ∷ []) (if b then hx ++ suc h ∷ [] else h ∷ []) h
  limit_part true o cx hx h p = seq height p (last height (plain height (line o i.Limit) 1 1 h (λ pc x. x)))
  limit_part false o cx hx h p = last height (plain height (line o i.NoLimit) 0 1 h (λ pc x. x))

  mutual
    pub value_part : (x : e.Expression) (o : Option Place) (h : ℕ) → Part height (Onto height (suc h)) (value_code o x) (value_heights h x) h
    value_part (e.Literal c) o h = last height (plain height (line o (i.Push c)) 0 1 h (λ pc x. x))
    value_part (e.Variable' p x) o h = seq height (locate_part x o h) (last height (plain height (line o i.Load) 1 1 h (λ pc x. x)))
    value_part (e.Group' p x) o h = seq height (value_part x o h) (last height (plain height (line o i.Plain) 1 1 h (λ pc x. x)))
    value_part (e.Unary' c t p x) o h = seq height (value_part x o h) (last height (plain height (line o (i.Unary c t)) 1 1 h (λ pc x. x)))
    value_part (e.Binary' c t p x q y) o h = seq height (value_part x o h) (seq height (value_part y o (suc h))
        (last height (plain height (line o (i.Binary c t)) 2 1 h (λ pc x. x))))
    value_part (e.Array' k xs) o h = seq height (arguments_part xs o h)
        (last height (falls height (line o (i.Array (argument_count xs))) (argument_count xs) 1 h (λ pc x. x) refl (omega arith)))
    value_part (e.Structure' t k xs) o h = seq height (arguments_part xs o h)
        (last height (falls height (line o (i.Structure t (argument_count xs))) (argument_count xs) 1 h (λ pc x. x) refl (omega arith)))
    value_part (e.Call' f k xs) o h = seq height (arguments_part xs o h)
        (first height (falls height (line o (i.Call f (argument_count xs))) (argument_count xs) 1 h (λ pc x. x) refl (omega arith))
        (last height (plain height (line o i.Result) 1 1 h (λ pc x. x))))
    value_part (e.Allocated' p x) o h = seq height (locate_part x o h) (last height (plain height (line o i.IsAllocated) 1 1 h (λ pc x. x)))
    value_part (e.Size' p x) o h = seq height (bounds_part x o h) (last height (plain height (line o i.Size) 1 1 h (λ pc x. x)))
    value_part (e.Bound' q p x r y) o h = seq height (bounds_part x o h) (seq height (value_part y o (suc h))
        (last height (plain height (line o (i.Bound q)) 2 1 h (λ pc x. x))))

    pub bounds_part : (x : a.Argument) (o : Option Place) (h : ℕ) → Part height (Onto height (suc h)) (bounds_code o x) (bounds_heights h x) h
    bounds_part (a.Value' k p x) o h = seq height (value_part x o h) (last height (plain height (line o i.BoundsOfValue) 1 1 h (λ pc x. x)))
    bounds_part (a.Variable' k p x) o h = seq height (locate_part x o h) (last height (plain height (line o i.BoundsOfVariable) 1 1 h (λ pc x. x)))

    pub argument_part : (x : a.Argument) (o : Option Place) (h : ℕ) → Part height (Onto height (suc h)) (argument_code o x) (argument_heights h x) h
    argument_part (a.Value' k p x) o h = seq height (value_part x o h) (last height (plain height (line o (i.PassValue k)) 1 1 h (λ pc x. x)))
    argument_part (a.Variable' k p x) o h = seq height (locate_part x o h) (last height (plain height (line o (i.PassVariable k)) 1 1 h (λ pc x. x)))

    pub arguments_part : {m : _} (xs : e.Row_of-Argument m) (o : Option Place) (h : ℕ) →
        Part height (Onto height (argument_count xs + h)) (arguments_code o xs) (arguments_heights h xs) h
    arguments_part e.end_of-Argument o h = onto_same height h (0 + h) (omega arith) (nothing height h)
    arguments_part (e.more_of-Argument x rest) o h = onto_same height (argument_count rest + suc h) (suc (argument_count rest) + h) (omega arith)
        (seq height (argument_part x o h) (arguments_part rest o (suc h)))

    pub locate_part : (x : d.Designator) (o : Option Place) (h : ℕ) → Part height (Onto height (suc h)) (locate_code o x) (locate_heights h x) h
    locate_part (d.Name x how) o h = first height (plain height (line o (i.Refer x)) 0 1 h (λ pc x. x)) (select_part how o h)
    locate_part (d.Component' p x k how) o h = seq height (locate_part x o h) (select_of_part how o k h)

    pub select_part : (x : l.Selection) (o : Option Place) (h : ℕ) → Part height (Onto height (suc h)) (select_code o x) (select_heights h x) (suc h)
    select_part l.Whole o h = nothing height (suc h)
    select_part l.Contents o h = last height (plain height (line o i.Contents) 1 1 h (λ pc x. x))
    select_part (l.Elements' is_opened k xs) o h = seq height (chosen_part xs o (suc h))
        (last height (falls height (line o (i.Select is_opened (subscript_count xs))) (subscript_count xs + 1) 1 h (λ pc x. x) (omega arith) (omega arith)))

    pub select_of_part : (x : l.Selection) (o : Option Place) (n h : ℕ) →
        Part height (Onto height (suc h)) (select_of_code o n x) (select_of_heights h x) (suc h)
    select_of_part l.Whole o n h = last height (plain height (line o (i.Component n)) 1 1 h (λ pc x. x))
    select_of_part l.Contents o n h = first height (plain height (line o (i.Component n)) 1 1 h (λ pc x. x))
        (last height (plain height (line o i.Contents) 1 1 h (λ pc x. x)))
    select_of_part (l.Elements' is_opened k xs) o n h = first height (plain height (line o (i.ComponentOf n)) 1 2 h (λ pc x. x))
        (seq height (chosen_part xs o (suc (suc h)))
        (last height (falls height (line o (i.SelectOf is_opened n (subscript_count xs))) (subscript_count xs + 2) 1 h (λ pc x. x) (omega arith) (omega arith))))

    pub chosen_part : {m : _} (xs : l.Row_of-Subscript m) (o : Option Place) (h : ℕ) →
        Part height (Onto height (subscript_count xs + h)) (chosen_code o xs) (chosen_heights h xs) h
    chosen_part l.end_of-Subscript o h = onto_same height h (0 + h) (omega arith) (nothing height h)
    chosen_part (l.more_of-Subscript x rest) o h = onto_same height (subscript_count rest + suc h) (suc (subscript_count rest) + h) (omega arith)
        (seq height (subscript_part x o h) (chosen_part rest o (suc h)))

    pub subscript_part : (x : u.Subscript) (o : Option Place) (h : ℕ) → Part height (Onto height (suc h)) (subscript_code o x) (subscript_heights h x) h
    subscript_part (u.At' p x) o h = seq height (value_part x o h) (last height (plain height (line o i.Subscript) 1 1 h (λ pc x. x)))
    subscript_part (u.Range' has_lower p x has_upper q y r z) o h =
        seq height (limit_part has_lower o (value_code o x) (value_heights h x) h (value_part x o h))
        (seq height (limit_part has_upper o (value_code o y) (value_heights (suc h) y) (suc h) (value_part y o (suc h)))
        (seq height (value_part z o (suc (suc h))) (last height (plain height (line o i.Triplet) 3 1 h (λ pc x. x)))))
