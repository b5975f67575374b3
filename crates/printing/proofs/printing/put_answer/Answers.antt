-- Where there is room.
use mathlib.Core.Path.{refl, ap, ◌∙◌}
use mathlib.Core.List.{List, ◌++◌}
use Prim.Native.Nat.{ℕ}
use borrow.Author.Tests.{le-leb}
use lib.ListN.{length, drop}
use Rattle.words.proofs.TestLaws.{then_pick}
use Rattle.text.specs.AnswerLine.{answer_length}
use Rattle.printing.proofs.LineLaws.{put_in_front, answer_long}
use Rattle.printing.proofs.printing.put_answer.Goals as goal

pub returns-clause-left : goal.returns-clause-left
returns-clause-left c =
    let place = c.args.out.now in
    let room = c.in-Some.ensures.variant.0 refl in
    then_pick place (le-leb answer_length (length place) room) (
    ap (λ (l : List ℕ). l ++ drop 19 place) c.put_line.ensures ∙ put_in_front place _ (answer_long c.args.answer) room)
