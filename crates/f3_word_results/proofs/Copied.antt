-- A copy in a new block.
use Rattle.std.proofs.Common.{◌≡◌, ◌≢◌, ◌∙◌, ℕ, ◌+◌, ◌≤◌, List, length, take, drop, sym, ap, subst, arith}
use Rattle.std.specs.Prelude.{None}
use Rattle.std.specs.FinMap.{get as find}
use Rattle.std.proofs.lemmas.List.{length-replicate}
use Rattle.f3_program.specs.declared.declarations.Declared.{Declared}
use Rattle.f3_live_blocks.specs.Blocks.{Live, IsLive, words_in, words_of, with_taken, with_words}
use Rattle.f3_live_blocks.proofs.Laws.{fresh-apart, get-insert_other, live-insert, live-insert_same, words-insert_same}
use Rattle.f3_meaning_whole.specs.Shape.{Shape}
use Rattle.f3_rooms.specs.Forms.{room}
use Rattle.f3_word_cells.specs.declared.cell.Area.{Area}
use Rattle.f3_word_results.specs.Copies.{IsCopy, LiesIn}

module _ (ts : List Shape) (m mid : Live) (d : Declared) (a : Area) (lies : LiesIn ts m d a) (block size : ℕ) (fresh : find m block ≡ None) (is-size : size ≡ room ts d)
    (taken : mid ≡ with_taken m block size) where
  abbrev from : ℕ
  from = (a.elements).block

  pub from-live : IsLive mid from
  from-live = subst (λ (y : Live). IsLive y from) (sym taken) (live-insert m block _ from lies.live)

  pub to-live : IsLive mid block
  to-live = subst (λ (y : Live). IsLive y block) (sym taken) (live-insert_same m block _)

  pub from-apart : from ≢ block
  from-apart = fresh-apart m block from fresh lies.live

  pub to-long : length (words_of mid block) ≡ room ts d
  to-long = ap (λ (y : Live). length (words_of y block)) taken ∙ ap length (words-insert_same m block _) ∙ length-replicate size _ ∙ is-size

  from-words : words_of mid from ≡ words_of m from
  from-words = ap (λ (y : Live). words_of y from) taken ∙ ap words_in (get-insert_other m block _ from from-apart)

  pub copy-within : (a.elements).offset + length (words_of mid block) ≤ length (words_of mid from)
  copy-within = let e = lies.within in let f = to-long in let g = ap length from-words in omega (arith, e, f, g)

  pub is-copy : (n : Live) (b : Area) → b.of ≡ a.of → (b.elements).dims ≡ (a.elements).dims → (b.elements).offset ≡ 0 → (b.elements).block ≡ block
      → n ≡ with_words mid block (take (length (words_of mid block)) (drop (a.elements).offset (words_of mid from))) → IsCopy ts m n d a b
  is-copy n b of dims offset there is = record {
    of = of;
    dims = dims;
    offset = offset;
    fresh = ap (find m) there ∙ fresh;
    is = is ∙ ap (λ k. with_words mid block (take k (drop (a.elements).offset (words_of mid from)))) to-long
        ∙ ap (λ us. with_words mid block (take (room ts d) (drop (a.elements).offset us))) from-words
        ∙ ap (λ (y : Live). with_words y block (take (room ts d) (drop (a.elements).offset (words_of m from)))) (taken ∙ ap (with_taken m block) is-size)
        ∙ ap (λ q. with_words (with_taken m q (room ts d)) q (take (room ts d) (drop (a.elements).offset (words_of m from)))) (sym there);
  }
