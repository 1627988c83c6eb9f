-- What an allocatable holds goes over to another.
use Rattle.std.proofs.Common.{◌≡◌, ◌≢◌, inl, inr, ℕ, ◌+◌, ◌*◌, ◌<◌, ◌≤◌, pos, List, length, refl, sym, ap, subst, ◌∙◌, arith}
use Rattle.std.specs.Prelude.{Some}
use Rattle.f3_live_blocks.specs.Blocks.{Live, words_of}
use Rattle.f3_meaning_whole.specs.Value.{Span, Allocated, Unallocated}
use Rattle.f3_meaning_whole.specs.Shape.{Shape}
use Rattle.f3_meaning_whole.specs.Store.{Store, Root, Step, get, put}
use Rattle.f3_rooms.specs.Held.{Held, Empty, Holds, blocks_in, times}
use Rattle.f3_rooms.specs.Forms.{Form, Allocatable, form_words, words_for}
use Rattle.f3_rooms.specs.Values.{laid, formed, object}
use Rattle.f3_rooms.specs.Rooms.{Rooms, store_of, blocks_of}
use Rattle.f3_rooms.specs.Places.{Found, value_at, found, with_word, rooms_with}
use Rattle.f3_rooms.specs.Sound.{IsForm, IsObject, IsHolder, IsAllocated, IsSound}
use Rattle.f3_rooms.specs.Laws.{path_at, Replaces, with_held_in, with_holder, Becomes, ObjectsMove}
use Rattle.f3_rooms.proofs.Framing.{one_here, Steady, Kept, laid_stays, object_stays, laid_persist, object_persists}
use Rattle.f3_rooms.proofs.Reading.{parts_are_found}
use Rattle.f3_rooms.proofs.Within.{size_of, store_owns, part_lies}
use Rattle.f3_rooms.proofs.Stores.{parts_are_replaced}
use Rattle.f3_rooms.proofs.Living.{all_live}
use Rattle.f3_rooms.proofs.Words.{IsWritten, written_word, written_holder, holder_names, holder_told}
use Rattle.f3_rooms.proofs.Freeing.{emptied, emptied_counts}

module _ (ts : List Shape) (m : Live) (x : Rooms) (sound : IsSound ts m x) (r q : Root) (way other : List Step) (f g : Found) (from : found ts x r way ≡ Some f) (rank : ℕ)
    (is : f.form ≡ Allocatable rank) (c : ℕ) (ss : List Span) (h : Held) (held : f.held ≡ Holds c ss h) (to : found ts (rooms_with x r way Empty) q other ≡ Some g)
    (form : g.form ≡ Allocatable rank) (none : g.held ≡ Empty) (shape : g.shape ≡ f.shape) where
  abbrev mid : Live
  mid = with_word m f.block f.at (pos 0)

  abbrev n : Live
  n = with_holder mid g.block g.at c ss

  abbrev y : Rooms
  y = rooms_with x r way Empty

  abbrev u : Held
  u = Holds c ss h

  empty : Becomes ts m mid x y r way Unallocated
  empty = emptied ts m x sound r way f from rank is m (λ b z. refl)

  goes : (b : ℕ) → times b (blocks_of y) + times b (blocks_in u) ≤ times b (blocks_of x)
  goes b = let e : times b (blocks_in f.held) ≡ times b (blocks_in u) = ap (λ k. times b (blocks_in k)) held in let t = emptied_counts ts m x sound r way f from rank is m (λ b z. refl) b in omega arith

  was : IsAllocated m rank (words_for f.shape) (IsObject m f.shape) f.block f.at c ss h
  was = subst (λ k. IsHolder m rank (words_for f.shape) (IsObject m f.shape) f.block f.at k) held
      (subst (λ (k : Form). IsForm m k (words_for f.shape) (IsObject m f.shape) f.block f.at f.held) is (part_lies ts m x sound r way f from).form)

  -- no word of what is held is written
  first : IsWritten m mid f.block f.at 1
  first = written_word m f.block f.at (pos 0)

  second : IsWritten mid n g.block g.at (1 + 2 * length ss)
  second = written_holder mid g.block g.at c ss

  not_from : (b : ℕ) → 0 < times b (blocks_in u) → b ≢ f.block
  not_from b lt e =
      let own = (store_owns ts x r way f from).block in
      let one = sound.apart f.block in
      let same : times b (blocks_in u) ≡ times f.block (blocks_in f.held) = ap (λ k. times k (blocks_in u)) e ∙ ap (λ k. times f.block (blocks_in k)) (sym held) in
      omega arith

  not_to : (b : ℕ) → 0 < times b (blocks_in u) → b ≢ g.block
  not_to b lt e =
      let own = (store_owns ts y q other g to).block in
      let one = sound.apart g.block in
      let all = goes g.block in
      let same : times b (blocks_in u) ≡ times g.block (blocks_in u) = ap (λ k. times k (blocks_in u)) e in
      omega arith

  kept : Kept m n (blocks_in u)
  kept b lt = record {
    live = λ l. second.live b (first.live b l);
    long = second.long b ∙ first.long b;
    same = λ i. second.same b i (λ e. absurd (not_to b lt e)) ∙ first.same b i (λ e. absurd (not_from b lt e));
  }

  kept_own : Steady m n c
  kept_own = kept c (one_here c (blocks_in h))

  kept_beneath : Kept m n (blocks_in h)
  kept_beneath b lt = kept b (omega arith)

  long : g.at + (1 + 2 * length ss) ≤ length (words_of mid g.block)
  long =
      let within : g.at + size_of g ≤ length (words_of mid g.block) = (part_lies ts mid y empty.sound q other g to).within in
      let size : size_of g ≡ 1 + 2 * rank = ap (λ (k : Form). form_words k (words_for g.shape)) form in
      let ranked : length ss ≡ rank = was.ranked in
      omega arith

  allocated : IsAllocated n rank (words_for f.shape) (IsObject n f.shape) g.block g.at c ss h
  allocated = record {
    names = holder_names mid g.block g.at c ss long;
    named = was.named;
    bounds = holder_told mid g.block g.at c ss long;
    ranked = was.ranked;
    live = kept_own.live was.live;
    words = kept_own.long ∙ was.words;
    within = laid_persist m n rank ss (words_for f.shape) (IsObject m f.shape) (IsObject n f.shape) (object_persists m n f.shape) c 0 h (λ i low high. kept_own.same i) kept_beneath was.within;
  }

  replaces : Replaces mid n y g u
  replaces = record {
    live = λ b lt. (second.live b (all_live ts mid y empty.sound b (omega arith)), second.long b);
    same = λ b i lt aside. second.same b i (λ e. elim (aside e) [
      | inl before ↦ inl before
      | inr after ↦ inr (let size : size_of g ≡ 1 + 2 * rank = ap (λ (k : Form). form_words k (words_for g.shape)) form in let ranked : length ss ≡ rank = was.ranked in omega arith)
    ]);
    form = subst (λ (k : Form). IsForm n k (words_for g.shape) (IsObject n g.shape) g.block g.at u) (sym form)
        (subst (λ s. IsHolder n rank (words_for s) (IsObject n s) g.block g.at u) (sym shape) allocated);
    once = λ b. let all = goes b in let one = sound.apart b in omega arith;
    apart = λ b lt. let all = goes b in let one = sound.apart b in omega arith;
  }

  value : value_at n (with_held_in g u) ≡ get (store_of ts m x) (path_at r way)
  value =
      ap (λ (k : Form). formed k (words_for g.shape) (object n g.shape) g.block g.at u) form
      ∙ ap (λ s. Allocated (laid rank ss (words_for s) (object n s) c 0 h)) shape
      ∙ ap Allocated (laid_stays m n rank ss (words_for f.shape) (object m f.shape) (object n f.shape) (object_stays m n f.shape) c 0 h (λ i low high. kept_own.same i) kept_beneath)
      ∙ ap (λ k. formed (Allocatable rank) (words_for f.shape) (object m f.shape) f.block f.at k) (sym held)
      ∙ ap (λ (k : Form). formed k (words_for f.shape) (object m f.shape) f.block f.at f.held) (sym is)
      ∙ sym (parts_are_found ts m x r way f from)

  moves : (store_of ts n (rooms_with y q other u) ≡ put (put (store_of ts m x) (path_at r way) Unallocated) (path_at q other) (get (store_of ts m x) (path_at r way)))
      × IsSound ts n (rooms_with y q other u)
  moves =
      let t = parts_are_replaced ts mid n y empty.sound q other g to u replaces in (
        t.store ∙ ap (put (store_of ts mid y) (path_at q other)) value
            ∙ ap (λ (s : Store). put s (path_at q other) (get (store_of ts m x) (path_at r way))) empty.store,
        t.sound,
      )

pub objects_move : ObjectsMove
objects_move ts m x sound r q way other f g from rank is c ss h held to form none shape = moves ts m x sound r q way other f g from rank is c ss h held to form none shape
