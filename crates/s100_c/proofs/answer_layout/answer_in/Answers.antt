-- Eight fields.
use mathlib.Core.Path.{refl, ◌∙◌}
use Rattle.s100_c.specs.Layout.{answer_in}
use Rattle.s100_c.proofs.LayoutLaws.{answer_at, byte_there, word_there}
use Rattle.s100_c.proofs.answer_layout.answer_in.Goals as goal

pub returns : goal.returns
unfolding answer_in
returns c =
    let bytes = c.args.bytes.now in
    rw (
      byte_there (answer_at 0) bytes,
      byte_there (answer_at 1) bytes,
      byte_there (answer_at 2) bytes,
      byte_there (answer_at 3) bytes,
      byte_there (answer_at 4) bytes,
      byte_there (answer_at 5) bytes,
      byte_there (answer_at 6) bytes,
      c.from_be_bytes.ensures ∙ word_there (answer_at 7) bytes,
    ) refl
