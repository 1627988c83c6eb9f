-- Files that are read, one after another, and their bytes part by part.
use Rattle.std.proofs.Common.{ℕ, List, [], ◌∷◌, ◌++◌, Option, None, Some, refl, sym, ap, ◌∙◌}
use Rattle.std.proofs.lemmas.List.{append_assoc}
use Rattle.std.specs.Io.KnownBytes.{Consumes}
use Rattle.f3_places.specs.declared.source.Source.{Source}
use Rattle.f3_files.specs.Reading.{IsOf, AreOf}

-- of what a reader had left these bytes were taken
pub record Taken (old new : Option (List ℕ)) (bytes : List ℕ) : Type 0 where
  pub as_said : Consumes old new bytes

none_as : (known : Option (List ℕ)) → Consumes known known []
none_as None = tt
none_as (Some xs) = refl

pub none_taken : (known : Option (List ℕ)) → Taken known known []
none_taken known = record { as_said = none_as known }

more_as : (old mid new : Option (List ℕ)) (bs cs : List ℕ) → Consumes old mid bs → Consumes mid new cs → Consumes old new (bs ++ cs)
more_as None mid new bs cs p q = tt
more_as (Some xs) None new bs cs p q = absurd p
more_as (Some xs) (Some ys) None bs cs p q = absurd q
more_as (Some xs) (Some ys) (Some zs) bs cs p q = p ∙ ap (λ l. bs ++ l) q ∙ sym (append_assoc bs cs zs)

pub more_taken : (old mid new : Option (List ℕ)) (bs cs : List ℕ) → Taken old mid bs → Consumes mid new cs → Taken old new (bs ++ cs)
more_taken old mid new bs cs p q = record { as_said = more_as old mid new bs cs p.as_said q }

-- one source more
pub one_more : {contents : List ℕ → Option (List ℕ)} (names : List (List ℕ)) (sources : List Source) (name : List ℕ) (source : Source) → AreOf contents names sources → IsOf contents name source → AreOf contents (names ++ name ∷ []) (sources ++ source ∷ [])
one_more [] [] name source are is = (is, tt)
one_more [] (s ∷ ss) name source are is = absurd are
one_more (n ∷ ns) [] name source are is = absurd are
one_more (n ∷ ns) (s ∷ ss) name source are is = (are.0, one_more ns ss name source are.1 is)
