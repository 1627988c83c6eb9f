-- One call of `take`, as takes in turn, for all who call heaps.
use Rattle.std.proofs.Common.{◌≡◌, ℕ, [], ◌∷◌}
use Rattle.std.specs.Prelude.{Result, Ok, Err, None, IfOk, OnErr}
use Rattle.std.specs.FinMap.{get}
use Rattle.f3_heap.specs.declared.blocks.TakeFault.{TakeFault}
use Rattle.f3_heap.specs.declared.blocks.TakeFault
use Rattle.f3_live_blocks.specs.Blocks.{Live, with_taken}
use Rattle.f3_heap_laws.specs.Answers.{Answer, Sizes, sizes, Took}
use Rattle.f3_heap_laws.proofs.Answers.{took_one, took_full, took_memory}
use Rattle.f3_heap.specs.Answers.{answer_of}

pub took_asked : {R : Type 0} (allows : R → Sizes → ℕ → Answer → Type 0) (spent : R → R) (kept next : R) (old new : Live) (w : ℕ) (result : Result ℕ TakeFault) → allows kept (sizes old) w (answer_of result) → next ≡ spent kept
    → IfOk result (λ b. get old b ≡ None) → IfOk result (λ b. new ≡ with_taken old b w) → OnErr result (new ≡ old) → Took allows spent kept next old new (record { asked = w; answer = answer_of result } ∷ [])
took_asked allows spent kept next old new w (Ok b) a t fresh taken refused = took_one allows spent kept next old new w b a t fresh taken
took_asked allows spent kept next old new w (Err TakeFault.TheVariants.Full) a t fresh taken refused = took_full allows spent kept next old new w a t refused
took_asked allows spent kept next old new w (Err TakeFault.TheVariants.Memory) a t fresh taken refused = took_memory allows spent kept next old new w a t refused
