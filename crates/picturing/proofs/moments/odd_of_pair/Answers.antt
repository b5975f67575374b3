-- The lowest bit is a one then.
use native.Mathlib.Omega.{arith}
use Rattle.std.specs.Int.Bits.{or_add_and}
use Rattle.std.proofs.lemmas.Nat.Bits.{and_pow, bit_at_lowest}
use Rattle.picturing.proofs.moments.odd_of_pair.Goals as goal

pub returns : goal.returns
returns c =
    let address = c.args.address in
    omega (arith, or_add_and address 1, and_pow address 0, bit_at_lowest address)
