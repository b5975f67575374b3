-- Six fields.
use mathlib.Core.Path.{refl, ap, ◌∙◌}
use Rattle.s100_c.specs.Layout.{word_of_part, bus_in}
use Rattle.s100_c.proofs.LayoutLaws.{state_at, byte_there}
use Rattle.s100_c.proofs.layout.bus_in.Goals as goal

pub returns : goal.returns
unfolding bus_in
returns c =
    let state = c.args.state.now in
    rw (
      c.from_be_bytes.ensures ∙ ap word_of_part c.part.ensures,
      c.part-2.ensures,
      byte_there (state_at 2) state,
      c.from_be_bytes-2.ensures ∙ ap word_of_part c.part-3.ensures,
      c.part-4.ensures,
      byte_there (state_at 5) state,
    ) refl
