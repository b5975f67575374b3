-- An answer has room where the most that is wanted has it.
use Rattle.feeding.proofs.SayingLaws.{answer_put}
use Rattle.feeding.proofs.saying.put_event.Goals as goal

pub returns-in-Answers-clause-put : goal.returns-in-Answers-clause-put
returns-in-Answers-clause-put c =
    let place = c.args.out.now in
    rw c.in-Answers.is (answer_put place _ _ c.args.answer (rw c.in-Answers.is at c.requires) (c.put_answer.ensures.put, c.put_answer.ensures.left)).0
