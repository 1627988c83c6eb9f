use Rattle.std.proofs.Common.{arith, refl, ◌≡◌}
use Rattle.std.specs.Prelude.{◌^◌}
use Rattle.f3_rooms.specs.Forms.{room}
use Rattle.f3_type_words.proofs.TableLaws.{tabled_more, not_tabled}
use Rattle.f3_type_words.proofs.tabling.table_of.Goals as goal
use Rattle.f3_type_words.proofs.tabling.table_of.Goals.{in_default-via-in-Some+else-more-words, in_default-via-in_default}

pub returns-in_default : goal.returns-in_default
returns-in_default c = λ ts t have. elim c.in_default.branch [
  | in_default-via-in-Some+else-more-words w ↦
      let is : w.in-Some.more ≡ room ts c.component-item.result.declared = rw w.in-Some.is at (c.words_of.ensures ts have) in
      not_tabled c.args.tables.now c.args.components.now c.loop-component.component-index c.component-item.result (omega arith) c.component-item.is c.loop-component.words c.loop-component.offsets.items
      c.loop-component.invariant w.in-Some.more (omega (arith, c.loop-component.invariant.small)) ts have (omega arith)
  | in_default-via-in_default w ↦
      not_tabled c.args.tables.now c.args.components.now c.loop-component.component-index c.component-item.result (omega arith) c.component-item.is c.loop-component.words c.loop-component.offsets.items
      c.loop-component.invariant (2 ^ 64) (omega (arith, c.loop-component.invariant.small)) ts have (rw w.in_default.is at (c.words_of.ensures ts have))
]

pub loop-component-preserved : goal.loop-component-preserved
loop-component-preserved c = tabled_more c.args.tables.now c.args.components.now c.loop-component.component-index c.component-item.result (omega arith) c.component-item.is c.loop-component.words c.loop-component.offsets.items
    c.loop-component.invariant c.in-Some.more _ _ (λ ts have. rw c.in-Some.is at (c.words_of.ensures ts have)) refl (omega (arith, c.loop-component.invariant.small)) c.in_ok-push-in-Some.ensures.items
