use Rattle.std.proofs.Common.{◌≡◌, ◌∙◌, ◌+◌, ◌≤◌, ℕ, List, sym, subst, arith, length, drop, get_or}
use Rattle.std.specs.List.{flat_map}
use Rattle.indexmap.specs.IndexSet.{insert_all}
use Rattle.f3_access.specs.Listing.{same_pair}
use Rattle.f3_access.specs.Inner.Calling.{called_by}
use Rattle.f3_lookups.specs.declared.lookup.Visible.{Visible}
use Rattle.f3_access.specs.Inner.Walk.{RestIsSilent}
use Rattle.f3_access.proofs.Walks.{walk_more, walk_on, walk_ends}
use Rattle.f3_access.proofs.bringing.add_places.Goals.{in-Some+in_ok-add_called, in_default}
use Rattle.f3_access.proofs.bringing.add_places.Goals as goal

pub loop-place-preserved : goal.loop-place-preserved
loop-place-preserved c =
    let f = called_by c.args.selections.now c.args.from in
    let exports = c.args.exports.now in
    let places = c.args.places.now in
    let i = c.loop-place.place-index in
    let all : List Visible = insert_all same_pair c.args.table.now.keys (flat_map f exports) in
    let Left : ℕ → List Visible → Type 0 = λ next keys. (insert_all same_pair keys (flat_map f (drop next exports)) ≡ all) × RestIsSilent f exports next places (i + 1) in
    elim c.match-unseen.branch [
      | in-Some+in_ok-add_called w ↦
          let more = walk_more f exports places c.requires.order c.loop-place.table.keys all c.loop-place.next i w.in-Some.export c.loop-place-test.true (sym c.unseen.ensures.value ∙ w.in-Some.is) c.loop-place.invariant.0 c.loop-place.invariant.1 in
          let keys : c.match-unseen.table.keys ≡ insert_all same_pair c.loop-place.table.keys (f w.in-Some.export) = (λ k. (w.table-is k).keys) ∙ w.in_ok-add_called.ensures in
          subst (λ n. Left n c.match-unseen.table.keys) (sym w.next-is) (subst (Left (get_or places i 0 + 1)) (sym keys) more)
      | in_default w ↦
          let more = walk_on f exports places c.loop-place.next i (sym c.unseen.ensures.value ∙ w.in_default.is) c.loop-place.invariant.1 in
          let keys : c.match-unseen.table.keys ≡ c.loop-place.table.keys = (λ k. (w.table-is k).keys) in
          subst (λ n. Left n c.match-unseen.table.keys) (sym w.next-is) (subst (Left c.loop-place.next) (sym keys) (c.loop-place.invariant.0, more))
    ]

pub returns : goal.returns
returns c =
    let f = called_by c.args.selections.now c.args.from in
    let done : length c.args.places.now ≤ c.loop-place.place-index = omega (arith, c.loop-place-test.false) in
    walk_ends f c.args.exports.now c.args.places.now c.loop-place.table.keys (insert_all same_pair c.args.table.now.keys (flat_map f c.args.exports.now)) c.loop-place.next c.loop-place.place-index done c.loop-place.invariant.0 c.loop-place.invariant.1
