use Rattle.std.proofs.Common.{◌≡◌, Bool, true, false, List, refl, sym}
use Rattle.f3_words.specs.declared.item.Word.TheVariants.{Colons}
use Rattle.f3_words.specs.declared.item.Item.{Item}
use Rattle.f3_words.specs.Reads.{IsRead}
use Rattle.f3_reading.specs.Parts.{EatsWord, Lacks}
use Rattle.f3_reading.specs.Names.{EatsColons}
use Rattle.f3_reading.proofs.Words.{same_tail, lacked}
use Rattle.f3_reading.proofs.names.skip_colons.Goals as goal

written : (ts r : List Item) → EatsWord Colons ts r → IsRead EatsColons ts true r
unfolding EatsColons
written ts r h = record { eats = h; only = λ y s k. by y s k }
  where
    by : (y : Bool) (s : List Item) → EatsColons y ts s → (y ≡ true) × (s ≡ r)
    by true s k = (refl, same_tail Colons Colons ts r s h k)
    by false s k = absurd (lacked Colons ts r k.1 h)

left_out : (ts : List Item) → Lacks Colons ts → IsRead EatsColons ts false ts
unfolding EatsColons
left_out ts none = record { eats = (refl, none); only = λ y s k. by y s k }
  where
    by : (y : Bool) (s : List Item) → EatsColons y ts s → (y ≡ false) × (s ≡ ts)
    by true s k = absurd (lacked Colons ts s none k)
    by false s k = (refl, sym k.0)

pub returns-in-Some-clause-read : goal.returns-in-Some-clause-read
returns-in-Some-clause-read c = written c.args.items.now c.in-Some.tail.now c.in-Some.ensures.0

pub returns-in-None-clause-read : goal.returns-in-None-clause-read
returns-in-None-clause-read c = left_out c.args.items.now c.in-None.ensures
