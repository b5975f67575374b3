-- Six parts, each behind the one before.
use mathlib.Core.Path.{◌≡◌, ◌∙◌}
use borrow.Author.Rules.{rules}
use lib.ListN.{length}
use Rattle.s100_c.specs.Layout.{state_size, two_bytes}
use Rattle.s100_c.proofs.LayoutLaws.{state_put, two_put}
use Rattle.s100_c.proofs.layout.put_bus.Goals as goal

pub returns : goal.returns
returns c =
    let bus = c.args.bus in
    let long : length c.args.state.now ≡ state_size = search rules in
    let pages : length bus.pages ≡ 16 = search rules in
    let driven : length bus.driven ≡ 16 = search rules in
    let fitted : c.copy_from_slice.new.self ≡ two_bytes bus.fitted =
    c.copy_from_slice.ensures.after ∙ c.to_be_bytes.ensures ∙ two_put bus.fitted (search rules) in
    let contenders : c.copy_from_slice-3.new.self ≡ two_bytes bus.contenders =
    c.copy_from_slice-3.ensures.after ∙ c.to_be_bytes-2.ensures ∙ two_put bus.contenders (search rules) in
    rw (fitted, c.copy_from_slice-2.ensures.after, contenders, c.copy_from_slice-4.ensures.after) (state_put c.args.state.now bus long pages driven)
