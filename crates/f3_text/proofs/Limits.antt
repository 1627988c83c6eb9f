-- No source is past the limit where there is no fault.
use Rattle.std.proofs.Common.{◌≡◌, ℕ, ◌+◌, ◌-◌, ◌≤◌, length, List, [], ◌∷◌, Bool, true, false, Option, None, Some, refl, arith}
use Rattle.std.proofs.lemmas.Bool.{ltb-false}
use Rattle.std.specs.Prelude.{nat_lt}
use Rattle.f3_rules.specs.declared.breaks.Break.{Break}
use Rattle.f3_text.specs.Statements.{Parts, faulty, then_parts, parts_of, parts_from, cut_of}
use Rattle.f3_text.specs.Laws.{EachOf, NoneIsLong}

then_none : (a b : Parts) → (then_parts a b).fault ≡ None → b.fault ≡ None
unfolding then_parts
then_none a b e = by a.fault refl e
  where
    by : (o : Option Break) → a.fault ≡ o → (then_parts a b).fault ≡ None → b.fault ≡ None
    by None h e = rw (h, then_parts) at e
    by (Some f) h e = let k = rw (h, then_parts) at e in cc

weaker : (n m : ℕ) (bs : List (List ℕ)) → n ≤ m → EachOf (λ b. length b ≤ n) bs → EachOf (λ b. length b ≤ m) bs
weaker n m [] h a = tt
weaker n m (b ∷ bs) h a = (omega arith, weaker n m bs h a.1)

fit_from : (file room : ℕ) (bs : List (List ℕ)) → (parts_from file room bs).fault ≡ None → EachOf (λ b. length b ≤ room) bs
unfolding parts_from faulty
fit_from file room [] e = tt
fit_from file room (b ∷ bs) e = by (nat_lt room (length b)) refl e (λ k. fit_from (file + 1) (room - length b) bs k)
  where
    by : (t : Bool) → nat_lt room (length b) ≡ t → (parts_from file room (b ∷ bs)).fault ≡ None → ((parts_from (file + 1) (room - length b) bs).fault ≡ None → EachOf (λ c. length c ≤ room - length b) bs) → EachOf (λ b. length b ≤ room) (b ∷ bs)
    by true h e more = let k = rw (h, parts_from) at e in cc
    by false h e more =
        let k = rw (h, parts_from) at e in
        (ltb-false room (length b) h, weaker (room - length b) room bs (omega arith) (more (then_none (parts_of file b) _ k)))

pub none_is_long : NoneIsLong
unfolding cut_of
none_is_long sources e = fit_from 1 16777216 sources e
