-- Parts whose trees become others, in stores.
use Rattle.std.proofs.Common.{◌≡◌, ℕ, ◌≤◌, List, sym, ap, subst, ◌∙◌}
use Rattle.std.specs.Prelude.{Some}
use Rattle.f3_live_blocks.specs.Blocks.{Live}
use Rattle.f3_meaning_whole.specs.Value.{Value}
use Rattle.f3_meaning_whole.specs.Shape.{Shape}
use Rattle.f3_meaning_whole.specs.Store.{Root, Step, get, put}
use Rattle.f3_desc.specs.Shape.{Shape as Layout}
use Rattle.f3_objects.specs.Tree.{Tree, Fits, value, times as times_beneath}
use Rattle.f3_objects.specs.Holds.{Holds as HoldsTree, Replaces as TreeReplaces}
use Rattle.f3_rooms.specs.Rooms.{Rooms, store_of}
use Rattle.f3_rooms.specs.Places.{Found, value_at, found}
use Rattle.f3_rooms.specs.Sound.{IsSound}
use Rattle.f3_rooms.specs.Laws.{IsWithin, IsReplaced, path_at, with_held_in}
use Rattle.f3_rooms.proofs.Reading.{parts_are_found}
use Rattle.f3_rooms.proofs.Stores.{parts_are_replaced}
use Rattle.f3_rooms.proofs.Within.{part_lies}
use Rattle.f3_room_objects.specs.Trees.{formed_as, layout_for, layout_of, tree_at, HaveBounds}
use Rattle.f3_room_objects.specs.Laws.{BecomesTree}
use Rattle.f3_room_objects.specs.Changes.{Puts, PartsAreReady, CopiesArePut}
use Rattle.f3_room_objects.proofs.Bounds.{part_bound, bounds_equal}
use Rattle.f3_room_objects.proofs.Growing.{parts_are_apart, parts_hold_trees, trees_have_their_blocks}
use Rattle.f3_room_objects.proofs.Replacing.{trees_replace_parts}
use Rattle.f3_room_objects.proofs.Values.{read_part, part_read}

-- the value that a part has then is read from the new tree
pub tree_put : (ts : List Shape) (m n : Live) (x : Rooms) → IsSound ts m x → (r : Root) (way : List Step) (f : Found) → found ts x r way ≡ Some f
    → (u : Tree) → Fits (layout_of f) u → HaveBounds u → ((q : ℕ) → times_beneath q u ≤ 1) → TreeReplaces m n f.block f.at (tree_at m f) u
    → (v : Value) → read_part f.form f.shape (value u) ≡ v → Puts ts m n x r way f v
tree_put ts m n x sound r way f at u fits bounds few change v is =
    let b : BecomesTree m n x f u = trees_replace_parts ts m n x sound r way f at u fits bounds few change in
    let g : Found = with_held_in f b.held in
    let p : IsReplaced ts m n x r way f b.held = parts_are_replaced ts m n x sound r way f at b.held b.replaces in
    let e : value_at n g ≡ v = part_read n g ∙ ap (λ t. read_part f.form f.shape (value t)) b.is ∙ is in
    record {
      held = b.held;
      becomes = record { store = p.store ∙ ap (put (store_of ts m x) (path_at r way)) e; sound = p.sound };
      found = p.found;
    }

pub copies_are_put : CopiesArePut
copies_are_put ts m n x sound r q way other f g at there form shape copy fits few same change =
    tree_put ts m n x sound r way f at copy fits (bounds_equal (tree_at m g) copy same (part_bound m g)) few change (get (store_of ts m x) (path_at q other))
    (ap (read_part f.form f.shape) same
    ∙ ap (λ k. read_part k f.shape (value (tree_at m g))) (sym form)
    ∙ ap (λ s. read_part g.form s (value (tree_at m g))) (sym shape)
    ∙ sym (part_read m g) ∙ sym (parts_are_found ts m x q other g there))

pub parts_are_ready : PartsAreReady
parts_are_ready ts m x sound r q way other f g at there form shape apart beneath bare =
    let here : IsWithin m f = part_lies ts m x sound r way f at in
    let source : IsWithin m g = part_lies ts m x sound q other g there in
    let same : layout_of g ≡ layout_of f = ap (λ k. formed_as k (layout_for g.shape)) form ∙ ap (λ s. formed_as f.form (layout_for s)) shape in
    record {
      source = subst (λ (l : Layout). HoldsTree m g.block g.at l (tree_at m g)) same (parts_hold_trees m g source (parts_are_apart ts m x sound q other g there));
      target = parts_hold_trees m f here (parts_are_apart ts m x sound r way f at);
      apart = apart;
      beneath = trees_have_their_blocks m g source f.block ∙ beneath;
      bare = λ b. trees_have_their_blocks m f here b ∙ bare b;
    }
