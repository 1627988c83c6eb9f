use Rattle.std.proofs.Common.{◌≡◌, ◌∙◌, sym, ap, subst, refl, ℕ, ◌*◌, ◌/◌, ◌≤◌, List, length, arith}
use Rattle.std.specs.Prelude.{pos}
use Rattle.f3_live_blocks.specs.Blocks.{words_of}
use Rattle.f3_desc.specs.declared.descriptor.Dim.{Dim}
use Rattle.f3_desc.specs.Descriptor.{places}
use Rattle.f3_desc.specs.Laws.{size_of}
use Rattle.f3_room_arrays.proofs.Numbers.{places-many}
use Rattle.f3_word_copies.specs.Spread.{fewer_of}
use Rattle.f3_word_copies.proofs.Fewer.{fewer-second, quotient-within, all-copied}
use Rattle.f3_word_copies.proofs.elements.take_elements.Goals as goal

pub scatter-requires-clause-room : goal.scatter-requires-clause-room
scatter-requires-clause-room g c =
    let a = c.args.elements.now in
    let l : ℕ = length (words_of (g.B.Blocks.blocks c.args.heap.now) c.args.from) in
    let size : size_of a.dims.items ≡ c.fewer-count.result = ap size_of (sym c.deref-2.ensures.0) ∙ c.if-has_size.ensures refl in
    let many : length (places a) ≡ size_of a.dims.items = places-many (pos a.offset) a.dims.items in
    let few : c.fewer-count.result ≤ l / c.args.words = subst (λ (k : ℕ). k ≤ l / c.args.words) (sym (c.fewer-count.ensures ∙ ap (λ (k : ℕ). fewer_of (size_of c.deref.result.now) (k / c.args.words)) c.length.ensures)) (fewer-second (size_of c.deref.result.now) (l / c.args.words)) in
    let within : length (places a) * c.args.words ≤ l = quotient-within l c.args.words (length (places a)) c.requires.some (omega arith) in
    omega arith

pub returns-then-words-clause-taken : goal.returns-then-words-clause-taken
returns-then-words-clause-taken g c =
    let old = g.B.Blocks.blocks c.args.heap.now in
    let a = c.args.elements.now in
    let size : size_of a.dims.items ≡ c.fewer-count.result = ap size_of (sym c.deref-2.ensures.0) ∙ c.if-has_size.ensures refl in
    let count : c.fewer-count.result ≡ fewer_of (size_of a.dims.items) (length (words_of old c.args.from) / c.args.words) =
    c.fewer-count.ensures ∙ ap (λ (ds : List Dim). fewer_of (size_of ds) (c.length.result / c.args.words)) c.deref.ensures.0 ∙ ap (λ (k : ℕ). fewer_of (size_of a.dims.items) (k / c.args.words)) c.length.ensures in
    c.scatter.ensures.written ∙ all-copied old c.args.from c.args.words (fewer_of (size_of a.dims.items) (length (words_of old c.args.from) / c.args.words)) a (size ∙ count)
