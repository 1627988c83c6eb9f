use Rattle.std.proofs.Common.{◌∙◌, sym, ap, subst, refl, inl, inr, rules, w64, FitsSigned}
use Rattle.std.proofs.lemmas.Int.{to_z-of_z}
use Rattle.f3_word_reads.specs.Scalars.{scalar_of}
use Rattle.f3_meaning_whole.specs.Shape.{shape_in}
use Rattle.f3_rooms.specs.Places.{is_scalar_shape}
use Rattle.f3_word_reads.specs.Reads.{IsThere}
use Rattle.f3_word_reads.proofs.Copying.{types-same}
use Rattle.f3_word_reads.proofs.Standing.{constant-held, tables-for, one-live, one-within, one-value, no-dims, some-dims}
use Rattle.f3_word_reads.proofs.reading.held.Goals as goal
use Rattle.f3_word_reads.proofs.reading.held.Goals.{else-is_empty-via-then-is_empty+else-is_scalar, else-is_empty-via-else-is_empty}

pub returns-in-Held-clause-reads : goal.returns-in-Held-clause-reads
returns-in-Held-clause-reads g c p x r there =
    let old = g.B.Blocks.blocks c.args.heap.now in
    record { value = constant-held p c.args.types old x c.in-Held.field-0 c.in-Held.constant r (subst (λ o. IsThere p c.args.types old x o r) c.in-Held.is there); gains = refl; typed = tt }

pub read-word-requires-clause-live : goal.read-word-requires-clause-live
read-word-requires-clause-live g c =
    let old = g.B.Blocks.blocks c.args.heap.now in
    let q = c.requires.there in
    let there = subst (λ o. IsThere q.0 c.args.types old q.1 o q.2) c.in-Stands.is q.3 in
    one-live q.0 old q.1 there.sound c.in-Stands.area (no-dims _ c.if-is_empty.ensures) (q.2).path (q.2).reach there.is.1

pub read-word-requires-clause-within : goal.read-word-requires-clause-within
read-word-requires-clause-within g c =
    let old = g.B.Blocks.blocks c.args.heap.now in
    let q = c.requires.there in
    let there = subst (λ o. IsThere q.0 c.args.types old q.1 o q.2) c.in-Stands.is q.3 in
    let scalar = sym (ap (λ ts. is_scalar_shape (shape_in ts c.in-Stands.area.of)) (types-same q.0 c.args.types there.derived)) ∙ sym c.if-is_scalar.ensures in
    one-within q.0 old q.1 there.sound c.in-Stands.area (no-dims _ c.if-is_empty.ensures) scalar (q.2).path (q.2).reach there.is.1

pub returns-then-is_scalar-clause-reads : goal.returns-then-is_scalar-clause-reads
returns-then-is_scalar-clause-reads g c p x r at =
    let old = g.B.Blocks.blocks c.args.heap.now in
    let there = subst (λ o. IsThere p c.args.types old x o r) c.in-Stands.is at in
    let scalar = sym (ap (λ ts. is_scalar_shape (shape_in ts c.in-Stands.area.of)) (types-same p c.args.types there.derived)) ∙ sym c.if-is_scalar.ensures in
    let fits : FitsSigned w64 c.read-word.result = search rules in
    record {
      value = one-value p old x there.sound c.in-Stands.area (no-dims _ c.if-is_empty.ensures) scalar c.args.types (tables-for p c.args.types there.derived c.requires.tables) r.path r.reach there.is.1
          ∙ ap (scalar_of c.in-Stands.area.of) (sym (to_z-of_z w64 c.read-word.result fits ∙ c.read-word.ensures)) ∙ sym c.scalar_in.ensures;
      gains = refl;
      typed = tt;
    }

pub copied-requires-clause-large : goal.copied-requires-clause-large
copied-requires-clause-large g c = elim c.else-is_empty.branch [
  | else-is_empty-via-then-is_empty+else-is_scalar w ↦ inr (sym w.if-is_scalar.ensures)
  | else-is_empty-via-else-is_empty w ↦ inl (some-dims _ w.if-is_empty.ensures)
]

pub copied-requires-clause-there : goal.copied-requires-clause-there
copied-requires-clause-there g c =
    let old = g.B.Blocks.blocks c.args.heap.now in
    let q = c.requires.there in
    (q.0, q.1, q.2, subst (λ o. IsThere q.0 c.args.types old q.1 o q.2) c.in-Stands.is q.3)

pub returns-clause-reads : goal.returns-clause-reads
returns-clause-reads g c p x r at =
    let old = g.B.Blocks.blocks c.args.heap.now in
    c.copied.ensures.reads p x r (subst (λ o. IsThere p c.args.types old x o r) c.in-Stands.is at)

pub returns-clause-kept : goal.returns-clause-kept
returns-clause-kept g c = inr c.copied.ensures.kept
