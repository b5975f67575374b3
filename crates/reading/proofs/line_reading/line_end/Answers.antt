-- Where the first newline stands, or else with the text.
use mathlib.Core.Path.{◌≡◌, sym, ap, ◌∙◌}
use mathlib.Core.List.{List}
use Prim.Native.Nat.{ℕ}
use lib.Dec.{eqb}
use lib.ListN.{length}
use Rattle.std.specs.Prelude.{Option, Some, None}
use Rattle.std.specs.List.{position}
use Rattle.std.specs.Option.{unwrap_or}
use Rattle.text.specs.Newlines.{newline, first_line}
use Rattle.text.proofs.NewlineLaws.{newline_somewhere, newline_nowhere, unended}
use Rattle.reading.proofs.line_reading.line_end.Goals as goal

ends : (text : List ℕ) (place : Option ℕ) → position (λ b. eqb b newline) text ≡ place → unwrap_or place (length text) ≡ length (first_line text)
ends text None none = ap length (sym (unended text (newline_nowhere text none)))
ends text (Some place) here = (newline_somewhere text place here).1

pub returns : goal.returns
returns c = c.unwrap_or.ensures ∙ ends c.args.text.now c.newline_at.result (sym c.newline_at.ensures)
