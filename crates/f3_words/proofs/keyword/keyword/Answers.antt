use Rattle.std.proofs.Common.{sym, ◌∙◌}
use Rattle.f3_words.proofs.Lengths.{of_length}
use Rattle.f3_words.proofs.keyword.keyword.Goals as goal

pub returns-in-3 : goal.returns-in-3
returns-in-3 c = c.of_three.ensures ∙ sym (of_length 3 c.args.text.now c.in-3.is)

pub returns-in-4 : goal.returns-in-4
returns-in-4 c = c.of_four.ensures ∙ sym (of_length 4 c.args.text.now c.in-4.is)

pub returns-in-5 : goal.returns-in-5
returns-in-5 c = c.of_five.ensures ∙ sym (of_length 5 c.args.text.now c.in-5.is)

pub returns-in-6 : goal.returns-in-6
returns-in-6 c = c.of_six.ensures ∙ sym (of_length 6 c.args.text.now c.in-6.is)

pub returns-in-7 : goal.returns-in-7
returns-in-7 c = c.of_seven.ensures ∙ sym (of_length 7 c.args.text.now c.in-7.is)

pub returns-in-8 : goal.returns-in-8
returns-in-8 c = c.of_eight.ensures ∙ sym (of_length 8 c.args.text.now c.in-8.is)

pub returns-in-9 : goal.returns-in-9
returns-in-9 c = c.of_nine.ensures ∙ sym (of_length 9 c.args.text.now c.in-9.is)

pub returns-in-10 : goal.returns-in-10
returns-in-10 c = c.of_ten.ensures ∙ sym (of_length 10 c.args.text.now c.in-10.is)

pub returns-in-12 : goal.returns-in-12
returns-in-12 c = c.of_twelve.ensures ∙ sym (of_length 12 c.args.text.now c.in-12.is)

pub returns-in-11 : goal.returns-in-11
returns-in-11 c = c.of_eleven.ensures ∙ sym (of_length 11 c.args.text.now c.in-11.is)
