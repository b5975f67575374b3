-- Three parts, one behind the other.
use Rattle.picturing.proofs.FilledLaws.{still_in_parts}
use Rattle.picturing.proofs.still.put_still.Goals as goal

pub returns : goal.returns
returns c =
    let m = c.args.m in
    let rest = c.put_still_rest.ensures m c.requires.cyclic_value c.requires.dout_driven_value c.requires.din_driven_value in
    rw (c.put_still_1.ensures, c.put_still_41.ensures, rest) (still_in_parts m)
