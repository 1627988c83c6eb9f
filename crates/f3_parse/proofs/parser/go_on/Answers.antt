use Rattle.std.proofs.Common.{◌≡◌, inr, ap, ◌∙◌, subst}
use Rattle.f3_places.specs.declared.source.Place.{Place}
use Rattle.f3_text.specs.Reader.{bytes_of}
use Rattle.f3_words.specs.Lines.{line_view}
use Rattle.f3_units.specs.Machine.{builder_view}
use Rattle.f3_parse.specs.Phase.{place_of, first_place}
use Rattle.f3_parse.specs.Spells.{ends_of}
use Rattle.f3_parse.specs.Inner.Steps.{LeavesOpen}
use Rattle.f3_parse.proofs.parser.go_on.Goals as goal

pub returns-in-Some : goal.returns-in-Some
returns-in-Some c =
    let place : c.first_place-file.result ≡ place_of (line_view c.args.line) = c.first_place-file.ensures ∙ ap first_place c.deref.ensures.value in
    (c.in-Some.found, c.refusal.ensures, inr (subst (λ (p : Place). LeavesOpen (ends_of (bytes_of c.args.sources.now)) (builder_view c.args.builder.now) p.file c.in-Some.found) place c.in-Some.ensures))
