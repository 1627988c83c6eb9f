use Rattle.std.proofs.Common.{List, ℕ, nat_eq, ◌∙◌, sym, ap, subst}
use Rattle.std.specs.List.{flat_map}
use Rattle.std.specs.List.Sorted.{IsPermutation}
use Rattle.indexmap.specs.IndexMap.{get}
use Rattle.f3_access.specs.Inner.Calling.{called_by}
use Rattle.f3_selecting.specs.Selecting.{names_in}
use Rattle.f3_selecting.specs.Places.{places_in}
use Rattle.f3_access.specs.Parts.{places_from}
use Rattle.f3_access.proofs.Walks.{walk_silent}
use Rattle.f3_access.proofs.bringing.add_source.Goals as goal

pub add_places-requires-clause-silent : goal.add_places-requires-clause-silent
add_places-requires-clause-silent c =
    let s = c.args.selections.now in
    let source = c.args.source.now in
    let placed : ℕ → List ℕ = λ n. places_in (get nat_eq source.places n) in
    let names : List ℕ = names_in (get nat_eq s.named c.args.from) in
    let permuted : IsPermutation (flat_map placed names) c.deref-3.result.now =
    subst (IsPermutation (flat_map placed names)) (sym c.deref-3.ensures.value) (subst (λ l. IsPermutation (flat_map placed l) c.in_ok-places.places.items) c.names_of.ensures c.in_ok-places.ensures.places) in
    walk_silent (called_by s c.args.from) c.deref-2.result.now names c.deref-3.result.now placed
    (λ n. c.requires.places n ∙ ap (λ l. places_from 0 l n) (sym c.deref-2.ensures.value))
    (λ e no. c.requires.only c.args.from e (sym c.contains.ensures ∙ c.if-contains.false) no) permuted
