-- A whole call: when it is refused, and what it tells and leaves.
use mathlib.Core.Path.{◌≡◌, refl, sym, ap, subst, ◌∙◌}
use mathlib.Core.Logic.{⊎_elim}
use mathlib.Core.Bool.{Bool, true, false, cond, not, ◌&&◌}
use mathlib.Core.List.{List, ◌++◌}
use Prim.Native.Nat.{ℕ, ◌+◌, ◌-◌, ◌≤◌}
use native.Mathlib.Omega.{arith}
use lib.Dec.{eqb, ltb}
use lib.ListN.{length, get_or, take, drop, length-set, length-append}
use lib.Seq.{sets, length-sets, length-take-le}
use borrow.Author.Tests.{ltb-true, ltb-false}
use Rattle.words.proofs.TestLaws.{true_or_false, both_of}
use Rattle.words.proofs.PartLaws.{sets_append}
use Rattle.bus.specs.Refusal as Refusal
use Rattle.bus.specs.Sense.{makes_sense}
use Rattle.bus.specs.declared.state.Bus.{Bus}
use Rattle.judgement.specs.Refusals.{has_wrong_buffers}
use Rattle.text.specs.Newlines.{newline}
use Rattle.text.specs.Reading.{Taken, held_of}
use Rattle.text.proofs.LinePromises.{taken_fits}
use Rattle.text.proofs.ReadingLaws.{taken_rest, taken_used}
use Rattle.session.specs.World.{World, answering}
use Rattle.session.specs.Feeding.{
  Fed,
  takes,
  lines_taken,
  feed_refusal,
  taken_fed,
  held_in,
  wants_newline,
  ended_text,
  ended_at,
  closed_in,
  closed,
  with_more,
}
use Rattle.session.specs.declared.state.Wanted.{Wanted}
use Rattle.session.specs.declared.calls.TakenLines.{TakenLines}
use Rattle.session.proofs.LineLaws.{TakenAs}
use Rattle.session.proofs.LoopLaws.{line_at_most}

-- an accepted call has sound buffers and a sensible state
pub record CallAccepted (bus : Bus) (m p text : List ℕ) (filled : ℕ) : Type 0 where
  pub filled_within : filled ≤ length text
  pub fit : has_wrong_buffers m p ≡ false
  pub sense : makes_sense bus ≡ true

-- each of the three reasons has a number of its own
accepted_by : (long wrong sense : Bool)
    → cond long Refusal.wrong_length (cond wrong Refusal.wrong_buffers (cond sense Refusal.accepted Refusal.senseless)) ≡ Refusal.accepted
    → (long ≡ false) × ((wrong ≡ false) × (sense ≡ true))
accepted_by true wrong sense e = absurd (omega (arith, e))
accepted_by false true sense e = absurd (omega (arith, e))
accepted_by false false true e = (refl, (refl, refl))
accepted_by false false false e = absurd (omega (arith, e))

pub call_accepted : (bus : Bus) (m p text : List ℕ) (filled : ℕ) → feed_refusal bus m p text filled ≡ Refusal.accepted
    → CallAccepted bus m p text filled
call_accepted bus m p text filled e =
    let so = accepted_by (ltb (length text) filled) (has_wrong_buffers m p) (makes_sense bus) e in
    record { filled_within = ltb-false (length text) filled so.0; fit = so.1.0; sense = so.1.1 }

-- the newline that ends the last line has room
pub ended_within : (text : List ℕ) (held : ℕ) → held ≤ length text → ended_at text held ≤ length (ended_text text held)
ended_within text held h =
    ⊎_elim
    (λ (ends : wants_newline text held ≡ true).
    let bounds = (both_of (ltb 0 held && ltb held (length text)) (not (eqb (get_or text (held - 1) 0) newline)) ends).0 in
    let within = ltb-true held (length text) (both_of (ltb 0 held) (ltb held (length text)) bounds).1 in
    rw ends (omega (arith, length-set text held newline, within)))
    (λ (goes_on : wants_newline text held ≡ false). rw goes_on h)
    (true_or_false (wants_newline text held))

module _ (wanted : Wanted) where
  -- the lines that are used lie in the filled part
  pub used_within : (w : World) (text out : List ℕ) (filled : ℕ) (lines : TakenLines) → filled ≤ length text
      → lines ≡ lines_taken (takes wanted (length out) w (take filled text)) → lines.used ≤ filled
  used_within w text out filled lines h e =
      omega (
        arith,
        ap (λ (l : TakenLines). l.used) e,
        taken_used (answering wanted) (length out) w (take filled text),
        length-take-le filled text h,
      )

  -- what take_in owes
  abbrev pub FedTaken : World → List ℕ → List ℕ → ℕ → Fed → List ℕ → List ℕ → List ℕ → List ℕ → Type 0
  FedTaken w text out filled fed text' out' m' p' =
      let t = takes wanted (length out) w (take filled text) in
      (fed ≡ taken_fed t)
      × ((text' ≡ held_in text t.rest) × ((out' ≡ sets out 0 t.said) × ((m' ≡ t.state.memory) × (p' ≡ t.state.ports))))

  pub fed_taken : (w : World) (text out : List ℕ) (filled : ℕ) (lines : TakenLines) (held : ℕ) (text' out' m' p' : List ℕ)
      → TakenAs (takes wanted (length out) w (take filled text)) out lines out' m' p' → held ≡ length (held_of (drop lines.used (take filled text)))
      → text' ≡ held_of (drop lines.used (take filled text)) ++ drop (length (held_of (drop lines.used (take filled text)))) text
      → FedTaken w text out filled (record { refusal = Refusal.accepted; session = lines.session; held = held; written = lines.written }) text' out' m' p'
  fed_taken w text out filled lines held text' out' m' p' taken count left =
      let t = takes wanted (length out) w (take filled text) in
      let rest : drop lines.used (take filled text) ≡ t.rest =
      ap (λ (l : TakenLines). drop l.used (take filled text)) taken.0
      ∙ sym (taken_rest (answering wanted) (length out) w (take filled text)) in (
        ap (λ (n : ℕ). fed_by lines n) (count ∙ ap (λ (l : List ℕ). length (held_of l)) rest)
            ∙ ap (λ (l : TakenLines). fed_by l (length (held_of t.rest))) taken.0,
        (left ∙ ap (held_in text) rest, taken.1),
      )
    where
      fed_by : TakenLines → ℕ → Fed
      fed_by l n = record { refusal = Refusal.accepted; session = l.session; held = n; written = l.written }

  -- the same with the closing behind it
  abbrev pub FedClosed : World → List ℕ → List ℕ → ℕ → Fed → List ℕ → List ℕ → List ℕ → List ℕ → Type 0
  FedClosed w text out filled fed text' out' m' p' =
      let t = closed wanted (length out) (takes wanted (length out) w (take filled text)) in
      (fed ≡ taken_fed t)
      × ((text' ≡ held_in text t.rest) × ((out' ≡ sets out 0 t.said) × ((m' ≡ t.state.memory) × (p' ≡ t.state.ports))))

  -- what close owes, in the place that was written to so far
  abbrev pub ClosedAs : Fed → List ℕ → Fed → List ℕ → Type 0
  ClosedAs fed out fed' out' =
      let more = closed_in wanted (length out - fed.written) fed.session in
      (fed' ≡ with_more fed (length more)) × (out' ≡ sets out fed.written more)

  pub then_closed : (w : World) (text out : List ℕ) (filled : ℕ) (fed : Fed) (text' out' m' p' : List ℕ) (fed' : Fed) (out'' : List ℕ)
      → FedTaken w text out filled fed text' out' m' p' → ClosedAs fed out' fed' out'' → FedClosed w text out filled fed' text' out'' m' p'
  then_closed w text out filled fed text' out' m' p' fed' out'' taken close =
      let t = takes wanted (length out) w (take filled text) in
      let more = closed_in wanted (length out - length t.said) t.state.session in
      let long : length out' ≡ length out = ap length taken.1.1.0 ∙ length-sets out 0 t.said in
      let behind : length t.said ≡ 0 + length t.said = omega arith in
      let so : ClosedAs (taken_fed t) out' fed' out'' = subst (λ (f : Fed). ClosedAs f out' fed' out'') taken.0 close in
      let is : (fed' ≡ with_more (taken_fed t) (length more)) × (out'' ≡ sets out' (length t.said) more) =
      subst (λ (n : ℕ). Closes t n fed' out' out'') long so in (
        is.0 ∙ ap (λ (n : ℕ). told t n) (sym (length-append t.said more)),
        (
          taken.1.0,
          (
            is.1
                ∙ ap (λ (l : List ℕ). sets l (length t.said) more) taken.1.1.0
                ∙ ap (λ (n : ℕ). sets (sets out 0 t.said) n more) behind
                ∙ sym (sets_append t.said more out 0),
            taken.1.1.1,
          ),
        ),
      )
    where
      told : Taken World → ℕ → Fed
      told t n = record { refusal = Refusal.accepted; session = t.state.session; held = length (held_of t.rest); written = n }

      Closes : Taken World → ℕ → Fed → List ℕ → List ℕ → Type 0
      Closes t size fed' out' out'' =
          let more = closed_in wanted (size - length t.said) t.state.session in
          (fed' ≡ with_more (taken_fed t) (length more)) × (out'' ≡ sets out' (length t.said) more)

  -- what finish owes, from what take_in and close left of the text that was ended
  pub finished : (w : World) (text out : List ℕ) (held : ℕ) (text₁ : List ℕ) (filled : ℕ) (fed : Fed) (text' out' m' p' : List ℕ)
      → filled ≡ ended_at text held → text₁ ≡ ended_text text held → FedClosed w text₁ out filled fed text' out' m' p'
      → FedClosed w (ended_text text held) out (ended_at text held) fed text' out' m' p'
  finished w text out held text₁ filled fed text' out' m' p' at same taken =
      subst (λ (l : List ℕ). FedClosed w l out (ended_at text held) fed text' out' m' p') same
      (subst (λ (n : ℕ). FedClosed w text₁ out n fed text' out' m' p') at taken)

  -- what was written stands within the place
  pub written_within : (w : World) (text out : List ℕ) (filled : ℕ) (fed : Fed) (text' out' m' p' : List ℕ)
      → FedTaken w text out filled fed text' out' m' p' → fed.written ≤ length out'
  written_within w text out filled fed text' out' m' p' taken =
      let t = takes wanted (length out) w (take filled text) in
      omega (
        arith,
        ap (λ (f : Fed). f.written) taken.0,
        ap length taken.1.1.0,
        length-sets out 0 t.said,
        (taken_fits World (answering wanted) (line_at_most wanted) (length out) w (take filled text)).0,
      )
