use Rattle.std.proofs.Common.{◌≡◌, [], ℕ, List, map, nat_eq, ap, ◌∙◌}
use Rattle.std.specs.List.{flat_map}
use Rattle.std.proofs.lemmas.Result.{IfOk-weaker}
use Rattle.indexmap.specs.IndexSet.{insert_all}
use Rattle.indexmap.specs.IndexMap.{get}
use Rattle.f3_scopes.specs.Outlines.{using_view}
use Rattle.f3_lookups.specs.declared.lookup.Visible.{Visible}
use Rattle.f3_access.specs.Listing.{same_pair, exports_of, called}
use Rattle.f3_selecting.specs.Sources.{modules_of}
use Rattle.f3_access.specs.Inner.Calling.{called_by}
use Rattle.f3_selecting.specs.Selecting.{AreSelections}
use Rattle.f3_access.specs.Parts.{exports_at}
use Rattle.f3_access.proofs.Chosen.{only_named, called_same, same_flat}
use Rattle.f3_access.proofs.bringing.used_by.Goals as goal

pub selected_by-requires-clause-only : goal.selected_by-requires-clause-only
selected_by-requires-clause-only c = only_named (map using_view c.args.uses.now) c.in_ok-selections.selections c.in_ok-selections.ensures

pub returns : goal.returns
returns c =
    let uses = map using_view c.args.uses.now in
    let s = c.in_ok-selections.selections in
    let are : AreSelections uses s = c.in_ok-selections.ensures in
    let from : ℕ → List Visible = λ m. exports_of (exports_at c.args.tables.now) (get nat_eq c.args.modules.now m) in
    let by : ℕ → List Visible = λ m. flat_map (called_by s m) (from m) in
    let to : ℕ → List Visible = λ m. flat_map (called uses m) (from m) in
    let same : flat_map by s.modules.keys ≡ flat_map to (modules_of uses) =
    same_flat by to s.modules.keys (λ m. same_flat (called_by s m) (called uses m) (from m) (λ e. called_same uses s are m e)) ∙ ap (flat_map to) are.modules in
    IfOk-weaker c.selected_by.result (λ t. t.keys ≡ insert_all same_pair [] (flat_map by s.modules.keys)) (λ t. t.keys ≡ insert_all same_pair [] (flat_map to (modules_of uses)))
    (λ t h. h ∙ ap (insert_all same_pair []) same) c.selected_by.ensures
