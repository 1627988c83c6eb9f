-- Tables of the types before one.
use Rattle.std.proofs.Common.{◌≡◌, refl, ℕ, zero, suc, ◌<◌, List, [], ◌∷◌, ◌++◌, length, take, sym, ap, subst, ◌∙◌, arith, append-nil, append_assoc}
use Rattle.std.proofs.lemmas.List.{length-take-le}
use Rattle.f3_program.specs.declared.declarations.Derived.{Derived}
use Rattle.f3_meaning_whole.specs.Shape.{Shape, Record, parts_in, shapes_from, shapes_of}
use Rattle.f3_type_words.specs.declared.table.TypeTable.{TypeTable}
use Rattle.f3_type_words.specs.Tables.{AreTables}
use Rattle.f3_type_words.proofs.TableLaws.{shapes_number}

as_many : (ss : List Shape) (xs : List TypeTable) → AreTables ss xs → length xs ≡ length ss
as_many [] [] h = refl
as_many [] (x ∷ xs) h = absurd h
as_many (s ∷ ss) [] h = absurd h
as_many (s ∷ ss) (x ∷ xs) h = ap suc (as_many ss xs h.1)

-- each type has one
pub tables_many : (ts : List Derived) (xs : List TypeTable) → AreTables (shapes_of ts) xs → length xs ≡ length ts
tables_many ts xs h = as_many (shapes_of ts) xs h ∙ shapes_number ts

have_less : (ss rs : List Shape) (xs : List TypeTable) → AreTables (ss ++ rs) xs → AreTables ss (take (length ss) xs)
have_less [] rs xs h = tt
have_less (s ∷ ss) rs [] h = absurd h
have_less (s ∷ ss) rs (x ∷ xs) h = (h.0, have_less ss rs xs h.1)

record IsBegun (ss all : List Shape) : Type 0 where
  pub rest : List Shape
  pub is : all ≡ ss ++ rest

begins : (ss : List Shape) (ts : List Derived) → IsBegun ss (shapes_from ss ts)
begins ss [] = record { rest = []; is = sym (append-nil ss) }
begins ss (t ∷ ts) =
    let r : Shape = Record (length ss) (parts_in ss t.components.items) in
    let h = begins (ss ++ r ∷ []) ts in
    record { rest = r ∷ h.rest; is = h.is ∙ append_assoc ss (r ∷ []) h.rest }

starts : (ss : List Shape) (ts : List Derived) (k : ℕ) → IsBegun (shapes_from ss (take k ts)) (shapes_from ss ts)
starts ss ts zero = begins ss ts
starts ss [] (suc k) = begins ss []
starts ss (t ∷ ts) (suc k) = starts (ss ++ Record (length ss) (parts_in ss t.components.items) ∷ []) ts k

pub tables_before : (ts : List Derived) (xs : List TypeTable) (k : ℕ) → AreTables (shapes_of ts) xs → k < length ts → AreTables (shapes_of (take k ts)) (take k xs)
tables_before ts xs k h lt =
    let b = starts [] ts k in
    let n : length (shapes_of (take k ts)) ≡ k = shapes_number (take k ts) ∙ length-take-le k ts (omega arith) in
    subst (λ j. AreTables (shapes_of (take k ts)) (take j xs)) n (have_less (shapes_of (take k ts)) b.rest xs (subst (λ ss. AreTables ss xs) b.is h))
