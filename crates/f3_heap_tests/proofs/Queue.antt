-- The queue stays a list of live blocks, each once.
use Rattle.std.proofs.Common.{◌≡◌, ◌≢◌, ℕ, List, [], ◌∷◌, ◌++◌, sym, subst}
use Rattle.std.specs.Prelude.{None}
use Rattle.std.specs.FinMap.{get, insert, remove}
use Rattle.f3_live_blocks.specs.Blocks.{Live, Block, IsLive}
use Rattle.f3_live_blocks.proofs.Laws.{live-insert, live-insert_same, live-remove_other, fresh-apart}
use Rattle.f3_heap_tests.specs.LiveOnce.{IsNoneOf, LiveOnce}

pub once-insert : (m : Live) (b : ℕ) (k : Block) (bs : List ℕ) → LiveOnce m bs → LiveOnce (insert m b k) bs
once-insert m b k [] h = tt
once-insert m b k (c ∷ cs) h = (live-insert m b k c h.0, h.1, once-insert m b k cs h.2)

none-push : (b c : ℕ) (bs : List ℕ) → c ≢ b → IsNoneOf b bs → IsNoneOf b (bs ++ c ∷ [])
none-push b c [] ne h = (ne, tt)
none-push b c (d ∷ bs) ne h = (h.0, none-push b c bs ne h.1)

once-push : (m : Live) (b : ℕ) (bs : List ℕ) → IsLive m b → IsNoneOf b bs → LiveOnce m bs → LiveOnce m (bs ++ b ∷ [])
once-push m b [] l n h = (l, tt, tt)
once-push m b (c ∷ cs) l n h = (h.0, none-push c b cs (λ e. n.0 (sym e)) h.1, once-push m b cs l n.1 h.2)

fresh-none : (m : Live) (b : ℕ) (bs : List ℕ) → get m b ≡ None → LiveOnce m bs → IsNoneOf b bs
fresh-none m b [] e h = tt
fresh-none m b (c ∷ cs) e h = (fresh-apart m b c e h.0, fresh-none m b cs e h.2)

-- a new block stands last
pub once-take : (m n : Live) (b : ℕ) (k : Block) (bs : List ℕ) → get m b ≡ None → n ≡ insert m b k → LiveOnce m bs → LiveOnce n (bs ++ b ∷ [])
once-take m n b k bs none e h = subst (λ l. LiveOnce l (bs ++ b ∷ [])) (sym e) (once-push (insert m b k) b bs (live-insert_same m b k) (fresh-none m b bs none h) (once-insert m b k bs h))

-- a new block is left out
pub once-more : (m n : Live) (b : ℕ) (k : Block) (bs : List ℕ) → n ≡ insert m b k → LiveOnce m bs → LiveOnce n bs
once-more m n b k bs e h = subst (λ l. LiveOnce l bs) (sym e) (once-insert m b k bs h)

remove_rest : (m : Live) (b : ℕ) (bs : List ℕ) → IsNoneOf b bs → LiveOnce m bs → LiveOnce (remove m b) bs
remove_rest m b [] n h = tt
remove_rest m b (c ∷ cs) n h = (live-remove_other m b c n.0 h.0, h.1, remove_rest m b cs n.1 h.2)

-- the first block is given
pub once-give : (m n : Live) (b : ℕ) (bs : List ℕ) → n ≡ remove m b → LiveOnce m (b ∷ bs) → LiveOnce n bs
once-give m n b bs e h = subst (λ l. LiveOnce l bs) (sym e) (remove_rest m b bs h.1 h.2)

-- the first block is put last
pub once-turn : (m : Live) (b : ℕ) (bs : List ℕ) → LiveOnce m (b ∷ bs) → LiveOnce m (bs ++ b ∷ [])
once-turn m b bs h = once-push m b bs h.0 h.1 h.2

-- no block is lost
pub once-kept : (m n : Live) (bs : List ℕ) → ((q : ℕ) → IsLive m q → IsLive n q) → LiveOnce m bs → LiveOnce n bs
once-kept m n [] k h = tt
once-kept m n (c ∷ cs) k h = (k c h.0, h.1, once-kept m n cs k h.2)

pub once-rest : (m : Live) (b : ℕ) (bs : List ℕ) → LiveOnce m (b ∷ bs) → LiveOnce m bs
once-rest m b bs h = h.2

pub once-first : (m : Live) (b : ℕ) (bs : List ℕ) → LiveOnce m (b ∷ bs) → IsLive m b
once-first m b bs h = h.0
