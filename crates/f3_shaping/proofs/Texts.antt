-- What PRINT writes of values.
use Rattle.std.proofs.Common.{◌≡◌, ℕ, zero, suc, ◌<◌, List, [], ◌∷◌, ◌++◌, length, take, drop}
use Rattle.std.proofs.Common.{sym, ap, ◌∙◌, arith, get_or, append_assoc, Box, Global, OnErr, Result, Ok, Err}
use Rattle.std.specs.Prelude.{flat_map}
use Rattle.f3_meaning_whole.specs.Exec.{text_of}
use Rattle.f3_output.specs.Output.{State, Wrote, Faulted}
use Rattle.f3_output.proofs.Outputs.{faulted_before, faulted_behind}
use Rattle.f3_data.specs.declared.value.Elements.{Elements}
use Rattle.f3_data.specs.declared.value.Value as v
use Rattle.f3_data.specs.Values.{value_of, values_of}
use Rattle.f3_data.proofs.Rows.{array_is}
use Rattle.f3_shaping.specs.Results.{value_text}
use Rattle.f3_shaping.proofs.Spreads.{listed_joined}

-- the bytes of elements
abbrev pub texts : List v.Value → List ℕ
texts vs = flat_map text_of (values_of vs)

texts_split : (xs : List v.Value) (i : ℕ) (x d : v.Value) → i < length xs → x ≡ get_or xs i d →
    (texts (take i xs) ++ text_of (value_of x)) ++ texts (drop (suc i) xs) ≡ texts xs
texts_split [] i x d h e = absurd (omega arith)
texts_split (y ∷ xs) zero x d h e = ap (λ u. text_of (value_of u) ++ texts xs) e
texts_split (y ∷ xs) (suc i) x d h e =
    ap (λ u. u ++ texts (drop (suc i) xs)) (append_assoc (text_of (value_of y)) (texts (take i xs)) (text_of (value_of x)))
    ∙ append_assoc (text_of (value_of y)) (texts (take i xs) ++ text_of (value_of x)) (texts (drop (suc i) xs))
    ∙ ap (λ u. text_of (value_of y) ++ u) (texts_split xs i x d (omega arith) e)

-- a front of the bytes of an element, behind those before it
pub texts_fault : {a b c : State} {E : Type 0} (r : Result (Unit {0}) E) (xs : List v.Value) (i : ℕ) (x d : v.Value) → i < length xs → x ≡ get_or xs i d →
    Wrote a b (texts (take i xs)) → Faulted b c (text_of (value_of x)) → OnErr r (Faulted a c (texts xs))
texts_fault (Ok z) xs i x d h e w f = tt
texts_fault {a} {b} {c} (Err z) xs i x d h e w f = rw (sym (texts_split xs i x d h e)) (faulted_before (texts (drop (suc i) xs)) (faulted_behind w f))

pub text_is : (x : v.Value) (b : Box Elements Global) (ys : List v.Value) → x ≡ v.Array b → ys ≡ b.value.values.items →
    value_text (value_of x) ≡ texts ys
text_is x b ys e f = ap value_text (ap value_of e ∙ array_is b) ∙ ap (flat_map text_of) (listed_joined (values_of b.value.values.items)) ∙ ap texts (sym f)
