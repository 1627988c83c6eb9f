use Rattle.std.proofs.Common.{◌<◌, length, refl, sym, ◌∙◌, arith}
use Rattle.std.proofs.lemmas.Bool.{eqb-false}
use Rattle.std.proofs.lemmas.List.{take_rest}
use Rattle.f3_text.specs.Reader.{spelled_of}
use Rattle.f3_text.proofs.Going.{going_plain, going_run_on, paired_run, run_within, paired_same}
use Rattle.f3_text.proofs.reading.run.Goals as goal

pub returns-then-is_empty : goal.returns-then-is_empty
returns-then-is_empty c = record {
  same = going_plain _ _ _ _ _ _ c.requires.outside c.requires.plain c.requires.paired c.in_ok-add.ensures;
  paired = λ p. paired_same _ _ _ c.in_ok-add.ensures p;
  within = omega arith;
  file = refl;
}

pub returns : goal.returns
returns c =
    let paired = paired_same _ _ _ c.in_ok-add.ensures c.requires.paired in
    let behind = c.args.behind in
    let count = c.plain_length-count.result in
    let within = c.plain_length-count.ensures.within in
    let rest = take_rest behind.rest.now count in
    let s = spelled_of c.add.new.statement in
    let bytes = c.in_ok-extend_from_slice.ensures.items in
    let places = c.in_ok-add_places.ensures in
    let full = eqb-false _ _ (sym c.if-is_empty.ensures) in
    let some : 0 < length c.add.new.statement.bytes.items = omega (arith, full) in
    record {
      same =
          going_plain _ _ _ _ _ _ c.requires.outside c.requires.plain c.requires.paired c.in_ok-add.ensures
          ∙ going_run_on s _ _ _ _ count behind _ c.requires.outside within c.plain_length-count.ensures.plain some paired bytes places refl refl refl rest;
      paired = λ _. paired_run s _ _ count behind.rest.now _ within paired bytes places;
      within = run_within count behind _ rest;
      file = refl;
    }
