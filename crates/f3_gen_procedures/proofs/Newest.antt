-- The routines of types, of the newest first.
use Rattle.std.proofs.Common.{◌≡◌, ℕ, suc, ◌+◌, ◌<◌, ◌++◌, List, ◌∷◌, [], length, take, get_or, refl, sym, ap, ◌∙◌, append_assoc, reverse, arith, None}
use Rattle.std.proofs.lemmas.List.{take_more, length-take-le, reverse-append}
use Rattle.f3_program.specs.declared.declarations.Component.{Component}
use Rattle.f3_program.specs.declared.declarations.Derived.{Derived}
use Rattle.f3_code.specs.Work as w
use Rattle.f3_code.specs.Lower.{routine_of, routines_from}
use Rattle.f3_code.specs.State as c
use Rattle.f3_code.specs.declared.instruction.Instruction.TheVariants as i
use Rattle.f3_code.specs.Code.{routines_code, work_code}

-- a type stands in front of those that stand before it
newest : (types : List Derived) (older : List w.Work) (ts : List Derived) (t : Derived)
    → routines_from types older (ts ++ t ∷ []) ≡ routine_of types (length (routines_from types older ts)) 0 t.components.items ∷ routines_from types older ts
newest types older [] t = refl
newest types older (x ∷ ts) t = newest types (routine_of types (length older) 0 x.components.items ∷ older) ts t

pub length-routines_from : (types : List Derived) (older : List w.Work) (ts : List Derived) → length (routines_from types older ts) ≡ length ts + length older
length-routines_from types older [] = omega arith
length-routines_from types older (x ∷ ts) =
    let h : length (routines_from types (routine_of types (length older) 0 x.components.items ∷ older) ts) ≡ length ts + suc (length older)
    = length-routines_from types (routine_of types (length older) 0 x.components.items ∷ older) ts in
    omega arith

-- one type more
pub newest_routines : (types : List Derived) (n : ℕ) (t : Derived) (cs : List Component) → n < length types → t ≡ get_or types n t → cs ≡ t.components.items
    → routines_from types [] (take (n + 1) types) ≡ routine_of types n 0 cs ∷ routines_from types [] (take n types)
newest_routines types n t cs low is same =
    let more : take (n + 1) types ≡ take n types ++ t ∷ [] = take_more types n t low ∙ ap (λ x. take n types ++ x ∷ []) (sym is) in
    let known : length (take n types) ≡ n = length-take-le n types (omega arith) in
    let so_many : length (routines_from types [] (take n types)) ≡ n = length-routines_from types [] (take n types) ∙ omega arith in
    ap (λ ts. routines_from types [] ts) more ∙ newest types [] (take n types) t
    ∙ ap (λ m. routine_of types m 0 t.components.items ∷ routines_from types [] (take n types)) so_many
    ∙ ap (λ k. routine_of types n 0 k ∷ routines_from types [] (take n types)) (sym same)

-- and its code
pub newest_code : (types : List Derived) (n : ℕ) (cs : List Component) → n < length types
    → routines_code (routine_of types n 0 cs ∷ routines_from types [] (take n types))
    ≡ work_code n None (routine_of types n 0 cs) ++ (c.line None i.Back ∷ routines_code (routines_from types [] (take n types)))
newest_code types n cs low =
    let known : length (take n types) ≡ n = length-take-le n types (omega arith) in
    let so_many : length (routines_from types [] (take n types)) ≡ n = length-routines_from types [] (take n types) ∙ omega arith in
    ap (λ m. work_code m None (routine_of types n 0 cs) ++ (c.line None i.Back ∷ routines_code (routines_from types [] (take n types)))) so_many

-- one number more, behind the others
pub ended_more : (first before after : List ℕ) (k n : ℕ) (ks : List ℕ) → before ≡ first ++ reverse ks → after ≡ before ++ k ∷ [] → k ≡ n → after ≡ first ++ reverse (n ∷ ks)
ended_more first before after k n ks e f same =
    f ∙ ap (λ l. l ++ k ∷ []) e ∙ append_assoc first (reverse ks) (k ∷ []) ∙ ap (λ v. first ++ (reverse ks ++ v ∷ [])) same ∙ ap (λ l. first ++ l) (sym (reverse-append (n ∷ []) ks))
