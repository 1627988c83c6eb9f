use Rattle.std.proofs.Common.{◌≡◌, ℕ, zero, suc, ◌+◌, ◌<◌, List, [], ◌∷◌, ◌++◌, Option, length, map, take, get_or, Bor, sym, ap, subst, ◌∙◌, refl, arith}
use Rattle.std.specs.Prelude.{Contains}
use Rattle.std.proofs.lemmas.List.{take_more, map-append}
use Rattle.std.proofs.lemmas.List.Elements.{Contains-append_right}
use Rattle.f3_places.specs.declared.source.Source.{Source}
use Rattle.f3_files.specs.declared.files.ReadFault.{ReadFault}
use Rattle.f3_files.specs.declared.files.ReadFault.TheVariants.{Unreadable, Memory}
use Rattle.f3_files.specs.Reading.{IsOf, AreOf, IsFaultOf, IsFaultAmong}
use Rattle.f3_files.proofs.Reading.{one_more}
use Rattle.f3_files.proofs.files.read_sources.Goals as goal

abbrev texts : List (Bor (List ℕ)) → List (List ℕ)
texts names = map (λ (name : Bor (List ℕ)). name.now) names

-- the file of the next name is read
next_read : (contents : List ℕ → Option (List ℕ)) (names : List (Bor (List ℕ))) (i : ℕ) (d : Bor (List ℕ)) (sources : List Source) (source : Source) → i < length names
    → AreOf contents (texts (take i names)) sources → IsOf contents (get_or names i d).now source → AreOf contents (texts (take (i + 1) names)) (sources ++ source ∷ [])
next_read contents names i d sources source lt are is =
    let split : texts (take (i + 1) names) ≡ texts (take i names) ++ (get_or names i d).now ∷ [] = ap texts (take_more names i d lt) ∙ map-append (λ (name : Bor (List ℕ)). name.now) (take i names) (get_or names i d ∷ []) in
    subst (λ l. AreOf contents l (sources ++ source ∷ [])) (sym split) (one_more (texts (take i names)) sources (get_or names i d).now source are is)

-- a name is among the names
contains_name : (names : List (Bor (List ℕ))) (i : ℕ) (d : Bor (List ℕ)) → i < length names → Contains (texts names) (get_or names i d).now
contains_name [] i d lt = absurd (omega arith)
contains_name (n ∷ ns) zero d lt = (0, omega arith, refl)
contains_name (n ∷ ns) (suc i) d lt = Contains-append_right (n.now ∷ []) (texts ns) (get_or ns i d).now (contains_name ns i d (omega arith))

fault_among : (names : List (Bor (List ℕ))) (i : ℕ) (d : Bor (List ℕ)) (fault : ReadFault) → i < length names → IsFaultOf (get_or names i d).now fault → IsFaultAmong (texts names) fault
fault_among names i d (Unreadable unread) lt is = subst (λ l. Contains (texts names) l) (sym is) (contains_name names i d lt)
fault_among names i d Memory lt is = tt

pub loop-name-preserved : goal.loop-name-preserved
loop-name-preserved g c =
    rw c.in-Ok-push.ensures.items (next_read _ c.args.names.now c.loop-name.name-index _ c.loop-name.sources.items c.in-Ok.source c.loop-name-test.true c.loop-name.invariant c.in-Ok.ensures.read)

pub returns-in-Err-clause-fault : goal.returns-in-Err-clause-fault
returns-in-Err-clause-fault g c = fault_among c.args.names.now c.loop-name.name-index _ c.in-Err.fault c.loop-name-test.true c.in-Err.ensures.fault
