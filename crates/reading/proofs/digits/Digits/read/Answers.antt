-- By the length, and then by how many digits lead.
use borrow.Author.Rules.{rules}
use mathlib.Core.Path.{◌≡◌, sym, ap, subst, ◌∙◌}
use Prim.Native.Nat.{◌+◌}
use Rattle.std.specs.Prelude.{Result, Ok, Err, MatchResult, IfErr, IsErrAnd}
use Rattle.text.specs.declared.fault.Fault.TheVariants.{WrongCharacter}
use Rattle.text.specs.Faults.{leading_digits}
use Rattle.text.specs.Told.{fault_told}
use Rattle.text.proofs.FaultLaws.{wrong_behind}
use Rattle.reading.proofs.digits.Digits.read.Goals as goal

-- what holds of an error, where it is made of another of which something holds
err_of : {A B C : Type 0} (P : B → C → Type 0) (Q : B → Type 0) (R : C → Type 0) (before : Result A B) (after : Result A C)
    → MatchResult before (λ x. after ≡ Ok x) (λ e. IsErrAnd after (P e)) → IfErr before Q → ((e : B) (f : C) → P e f → Q e → R f) → IfErr after R
err_of P Q R (Ok x) after same so step = subst (λ m. IfErr m R) (sym same) tt
err_of P Q R (Err e) (Ok y) same so step = absurd same
err_of P Q R (Err e) (Err f) same so step = step e f same so

pub returns-clause-err : goal.returns-clause-err
returns-clause-err g c =
    let chunk = c.in-Ok.ensures.1 in
    err_of _ _ _ c.of.result c.map_err.result c.map_err.ensures.cases c.of.ensures.err (
    λ leading found made some.
    let is : found ≡ WrongCharacter (leading + 1) = search rules in
    ap fault_told is ∙ wrong_behind g.row.N c.args.line.now leading chunk.long (some.0 ∙ ap leading_digits chunk.same) some.1)
