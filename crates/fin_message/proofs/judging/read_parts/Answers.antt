use Rattle.std.proofs.Common.{◌≡◌, None, subst}
use Rattle.corr_text.specs.Answers.{left_in}
use Rattle.corr_text.specs.First.{first_of}
use Rattle.fin_message.specs.inner.Filling.{with_text}
use Rattle.fin_message.specs.Heading.{heading_tests}
use Rattle.fin_message.specs.Verdict.{line_test, message_in, message_of}
use Rattle.fin_message.proofs.Passed.{passed_on}
use Rattle.fin_message.proofs.judging.read_parts.Goals as goal

pub returns : goal.returns
unfolding message_of
returns c =
    let heading : first_of (heading_tests c.args.way c.args.home.now c.args.t.now c.args.blocks.now) ≡ None = cc in
    let lines : line_test c.args.blocks.now.text ≡ None = subst (λ text. line_test text ≡ None) c.bytes.ensures c.in_ok-fields.ensures.sound in
    let filled = left_in (with_text c.args.blocks.now.text c.read_of_type.new.out) c.read_of_type.result in
    passed_on _ _ (message_in c.args.t.now c.args.blocks.now) filled heading lines c.read_of_type.ensures
