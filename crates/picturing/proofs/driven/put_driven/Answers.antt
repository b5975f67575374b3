-- Twenty pins after twenty.
use Rattle.picturing.proofs.FilledLaws.{driven_by_fives}
use Rattle.picturing.proofs.driven.put_driven.Goals as goal

pub returns : goal.returns
returns c =
    rw (c.put_driven_1.ensures, c.put_driven_21.ensures, c.put_driven_41.ensures, c.put_driven_61.ensures, c.put_driven_81.ensures) (
    driven_by_fives c.args.m)
