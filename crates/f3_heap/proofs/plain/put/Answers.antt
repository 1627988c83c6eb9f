-- A free slot, or one more.
use Rattle.std.proofs.Common.{◌≡◌, ◌++◌, ◌∷◌, [], List, arith, refl, false, get_or, subst}
use Rattle.std.proofs.lemmas.Grind.{common_steps}
use Rattle.f3_heap.specs.declared.plain.Slot.{Slot}
use Rattle.f3_heap.specs.Plain.{reused, pushed}
use Rattle.f3_heap.proofs.plain.put.Goals as goal

pub returns-then-at-len-clause-put : goal.returns-then-at-len-clause-put
returns-then-at-len-clause-put c =
    reused (omega arith) (λ d. subst (λ (xs : List Slot). (get_or xs c.first_free-at.result d).live ≡ false) c.deref.ensures.value (c.first_free-at.ensures.free d (omega arith))) refl

pub returns-else-is_err-clause-put : goal.returns-else-is_err-clause-put
returns-else-is_err-clause-put c =
    let all : c.push.new.self.items ≡ c.args.slots.now.items ++ c.args.slot ∷ [] = grind (arith, common_steps) in
    pushed (omega arith) all
