-- What is put at the end of the input, by the stage and by what is wanted.
use mathlib.Core.Path.{◌≡◌, refl, sym, ap, subst, ◌∙◌}
use mathlib.Core.Logic.{◌⊎◌, ⊎_elim}
use mathlib.Core.Bool.{Bool, true, false, cond}
use mathlib.Core.List.{List, []}
use Prim.Native.Nat.{ℕ, ◌+◌, ◌-◌, ◌≤◌}
use native.Mathlib.Omega.{arith}
use lib.Dec.{leb}
use lib.ListN.{length, length-drop}
use lib.Seq.{sets}
use borrow.Author.Tests.{leb-true}
use borrow.Rule.Slice.PartMut.{mid_of, put_mid}
use Rattle.words.proofs.TestLaws.{cond_same}
use Rattle.bus.specs.declared.state.Bus.{Bus}
use Rattle.text.specs.OutcomeLine.{outcome_lines, outcomes_length, outcomes_put, outcome_bytes_put}
use Rattle.text.proofs.OutcomeLines.{outcomes_long}
use Rattle.text.proofs.TakingLaws.{part_behind, home}
use Rattle.session.specs.World.{outcomes_left, closing, most_said}
use Rattle.session.specs.Feeding.{Fed, closed_in, with_more}
use Rattle.session.specs.declared.state.Stage.{Stage}
use Rattle.session.specs.declared.state.Stage.TheVariants.{Awaiting, Running, Ended}
use Rattle.session.specs.declared.state.Session.{Session}
use Rattle.session.specs.declared.state.Wanted.{Wanted}
use Rattle.session.proofs.LoopLaws.{closing_at_most}
use Rattle.session.proofs.FeedLaws.{ClosedAs}
use Rattle.feeding.proofs.SayingLaws.{PutAs}

-- the outcomes in a place, or nothing where they have no room
module _ (stage : Stage) (bus : Bus) (place : List ℕ) where
  abbrev left : List ℕ
  left = cond (leb outcomes_length (length place)) (outcomes_left stage bus) []

  pub nothing_left : stage ≡ Awaiting → PutAs left place 0 place
  unfolding outcomes_left
  nothing_left is =
      let none : left ≡ [] = rw is (cond_same (leb outcomes_length (length place)) []) in
      rw none (refl, refl)

  outcomes_as : outcomes_left stage bus ≡ outcome_lines bus → (written : ℕ) (place' : List ℕ)
      → (written ≡ outcome_bytes_put place) × (place' ≡ outcomes_put bus place) → PutAs left place written place'
  outcomes_as is written place' = go (leb outcomes_length (length place))
    where
      go : (b : Bool) → (written ≡ cond b outcomes_length 0) × (place' ≡ cond b (sets place 0 (outcome_lines bus)) place)
          → PutAs (cond b (outcomes_left stage bus) []) place written place'
      go true put = rw is (put.0 ∙ sym (outcomes_long bus 16), put.1)
      go false put = put

  pub outcomes_left_holds : (written : ℕ) (place' : List ℕ) → (written ≡ outcome_bytes_put place) × (place' ≡ outcomes_put bus place)
      → (stage ≡ Running) ⊎ (stage ≡ Ended) → PutAs left place written place'
  unfolding outcomes_left
  outcomes_left_holds written place' put =
      ⊎_elim (λ is. outcomes_as (ap (λ (s : Stage). outcomes_left s bus) is) written place' put)
      (λ is. outcomes_as (ap (λ (s : Stage). outcomes_left s bus) is) written place' put)

-- ---- Behind what was written

-- it never has more bytes than its room
closed_short : (wanted : Wanted) (room : ℕ) (session : Session) → length (closed_in wanted room session) ≤ room
closed_short wanted room session = go (leb (most_said wanted) room) refl
  where
    go : (b : Bool) → leb (most_said wanted) room ≡ b → length (cond b (closing wanted session) []) ≤ room
    go true e = omega (arith, closing_at_most wanted session, leb-true (most_said wanted) room e)
    go false e = omega arith

module _ (wanted : Wanted) (fed : Fed) (out : List ℕ) (more : ℕ) (part : List ℕ) (within : fed.written ≤ length out)
    (put : PutAs (closed_in wanted (length (mid_of fed.written (length out - fed.written) out)) fed.session)
    (mid_of fed.written (length out - fed.written) out) more part) where
  abbrev bytes : List ℕ
  bytes = closed_in wanted (length out - fed.written) fed.session

  same_room : length (mid_of fed.written (length out - fed.written) out) ≡ length out - fed.written
  same_room = ap length (part_behind out fed.written) ∙ length-drop fed.written out

  as_put : PutAs bytes (mid_of fed.written (length out - fed.written) out) more part
  as_put =
      subst (λ (n : ℕ). PutAs (closed_in wanted n fed.session) (mid_of fed.written (length out - fed.written) out) more part) same_room put

  pub more_fits : fed.written + more ≤ length out
  more_fits = omega (arith, within, as_put.0, closed_short wanted (length out - fed.written) fed.session)

  pub closed_as : ClosedAs wanted fed out (with_more fed more) (put_mid fed.written (length out - fed.written) out part)
  closed_as = (
    ap (with_more fed) as_put.0,
    ap (put_mid fed.written (length out - fed.written) out) as_put.1
        ∙ home out bytes fed.written (omega (arith, more_fits, as_put.0)),
  )
