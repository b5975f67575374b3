-- Seven stores and a word.
use mathlib.Core.Path.{◌≡◌, ◌∙◌}
use borrow.Author.Rules.{rules}
use lib.ListN.{length}
use Rattle.s100_c.specs.Layout.{answer_size, two_bytes}
use Rattle.s100_c.proofs.LayoutLaws.{answer_put, two_put}
use Rattle.s100_c.proofs.answer_layout.put_answer.Goals as goal

pub returns : goal.returns
returns c =
    let a = c.args.answer in
    let long : length c.args.bytes.now ≡ answer_size = search rules in
    let datum : c.copy_from_slice.new.self ≡ two_bytes a.datum = c.copy_from_slice.ensures.after ∙ c.to_be_bytes.ensures ∙ two_put a.datum (search rules) in
    rw datum (answer_put c.args.bytes.now a long)
