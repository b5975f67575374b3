-- Eight digits, and the newline behind them.
use native.Mathlib.Omega.{arith}
use Rattle.printing.proofs.LineLaws.{outcome_put}
use Rattle.printing.proofs.outcomes.put_outcome.Goals as goal

pub returns : goal.returns
returns c =
    let parts = rw c.unwrap.ensures at c.split_first_chunk_mut.ensures.cases in
    outcome_put c.unwrap.result.1.now c.args.figures (omega (arith, parts.2, c.told-line)) c.put_numbers.ensures
