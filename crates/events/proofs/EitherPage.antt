-- A word over an eight-bit page and over a sixteen-bit one.
use Prim.Native.Nat.{ℕ, ◌/◌, ◌<◌, ◌≤◌}
use mathlib.Core.Path.{◌≡◌, refl, sym, subst, ap, ◌∙◌}
use mathlib.Core.Bool.{Bool, true, false, cond}
use mathlib.Core.List.{List}
use native.Mathlib.Decide.{ℕ_discrete, dec_lt}
use native.Mathlib.Omega.{arith}
use lib.Dec.{eqb, leb, lit≤}
use lib.ListN.{length, get_or, set, length-set}
use lib.Seq.{get_or-set_same, get_or-set_other, set_out}
use Rattle.words.specs.Among.{beside}
use Rattle.words.proofs.TestLaws.{tests_same}
use Rattle.words.proofs.RowLaws.{of_each_row, beside_of}
use Rattle.phases.specs.Signal.{signals_in}
use Rattle.memory.specs.Moved.{Moved}
use Rattle.memory.specs.declared.Slave.{Slave}
use Rattle.memory.specs.Cycles.{nothing}
use Rattle.memory.proofs.Moves.{same_bytes, same_datum}
use Rattle.bus.specs.Refusal as Refusal
use Rattle.bus.specs.State.{with_pages}
use Rattle.bus.specs.Sense.{pages_known, makes_sense}
use Rattle.bus.proofs.SenseLaws.{codes_at, codes_of, sense_by_pages}
use Rattle.bus.specs.declared.state.Bus.{Bus}
use Rattle.judgement.specs.Judge.{refusal_of}
use Rattle.judgement.specs.Table.{Speaker, unlisted, contender, granted_card, master, has_turn, row_of}
use Rattle.judgement.specs.declared.event.Event.{Event}
use Rattle.bus.specs.declared.step.Step.{Step}
use Rattle.events.specs.Machine.{Machine}
use Rattle.events.specs.Cycles.{cycle_moves, moved_by, memory_left}
use Rattle.events.specs.Answers.{bare, answer_with}
use Rattle.events.specs.Step.{taken_by, answer_by, refusal_in, after, answer_to, after_as, answer_as}
use Rattle.events.specs.declared.answers.Answer.{Answer}
use Rattle.events.specs.Promises.{with_page_at, SameOverEitherPage}

-- ---- The page codes

-- with one known code in a place or another
known_with : (pages : List ℕ) (p c d : ℕ) → d ≤ 2 → pages_known (set pages p c) ≡ true → pages_known (set pages p d) ≡ true
known_with pages p c d low known = codes_of (set pages p d) (λ i h. go i h (ℕ_discrete i p))
  where
    go : (i : ℕ) → i < length (set pages p d) → Dec (i ≡ p) → get_or (set pages p d) i 0 ≤ 2
    go i h (yes e) =
        let inside : p < length pages = subst (λ (n : ℕ). n < length pages) e (subst (λ (n : ℕ). i < n) (length-set pages p d) h) in
        subst (λ (n : ℕ). n ≤ 2) (sym (ap (λ (n : ℕ). get_or (set pages p d) n 0) e ∙ get_or-set_same pages p d 0 inside)) low
    go i h (no other) =
        let inside : i < length (set pages p c) = subst (λ (n : ℕ). i < n) (length-set pages p d ∙ sym (length-set pages p c)) h in
        subst (λ (n : ℕ). n ≤ 2) (get_or-set_other pages p i c 0 other ∙ sym (get_or-set_other pages p i d 0 other))
        (codes_at (set pages p c) known i inside)

same_sense : (bus : Bus) (p : ℕ) → makes_sense (with_pages bus (set bus.pages p 1)) ≡ makes_sense (with_pages bus (set bus.pages p 2))
same_sense bus p =
    sense_by_pages bus (set pages p 1) (set pages p 2) (length-set pages p 1 ∙ sym (length-set pages p 2))
    (tests_same (pages_known (set pages p 1)) (pages_known (set pages p 2)) (known_with pages p 1 2 (lit≤ tt)) (known_with pages p 2 1 (lit≤ tt)))
  where
    pages : List ℕ
    pages = bus.pages

-- present on one, present on the other
same_presence : (pages : List ℕ) (p : ℕ) → eqb (get_or (set pages p 1) p 0) 0 ≡ eqb (get_or (set pages p 2) p 0) 0
same_presence pages p = go (dec_lt p (length pages))
  where
    go : Dec (p < length pages) → eqb (get_or (set pages p 1) p 0) 0 ≡ eqb (get_or (set pages p 2) p 0) 0
    go (yes h) = ap (λ (n : ℕ). eqb n 0) (get_or-set_same pages p 1 0 h) ∙ sym (ap (λ (n : ℕ). eqb n 0) (get_or-set_same pages p 2 0 h))
    go (no h) = ap (λ (l : List ℕ). eqb (get_or l p 0) 0) (set_out pages p 1 (omega arith) ∙ sym (set_out pages p 2 (omega arith)))

-- ---- The refusal

-- who has a turn doesn't go by the pages
same_turn : (who : Speaker) (bus : Bus) (pages : List ℕ) (speaker : ℕ) → has_turn who (with_pages bus pages) speaker ≡ has_turn who bus speaker
same_turn unlisted bus pages speaker = refl
same_turn contender bus pages speaker = refl
same_turn granted_card bus pages speaker = refl
same_turn master bus pages speaker = refl

same_refusal : (m : Machine) (event : Event) → refusal_in (with_page_at event.address 1 m) event ≡ refusal_in (with_page_at event.address 2 m) event
unfolding refusal_of
same_refusal m event =
    rw (
      same_sense m.bus page,
      same_turn (row_of event.kind).speaker m.bus (set m.bus.pages page 1) event.speaker,
      same_turn (row_of event.kind).speaker m.bus (set m.bus.pages page 2) event.speaker,
      same_presence m.bus.pages page,
    )
  where
    page : ℕ
    page = event.address / 0x1000

-- ---- The bytes and the datum

same_left : (s t : Slave) (event : Event) (memory : List ℕ) → memory_left s event memory ≡ memory_left t event memory
unfolding beside
same_left s t event memory = rw (same_bytes s t memory event.address event.datum)

same_moved : (s t : Slave) (event : Event) (memory ports : List ℕ) → (moved_by s event memory ports).datum ≡ (moved_by t event memory ports).datum
unfolding beside of_each_row
same_moved s t event memory ports =
    beside_of datum_of event.kind (cycle_moves s event memory ports) nothing
    ∙ rw ((same_datum s t memory event.address).0, (same_datum s t memory event.address).1 event.datum)
    (sym (beside_of datum_of event.kind (cycle_moves t event memory ports) nothing))
  where
    datum_of : Moved → ℕ
    datum_of moved = moved.datum

pub same_over_either_page : SameOverEitherPage
unfolding after answer_to
same_over_either_page m event word = record {
  refusal = same_refusal m event;
  memory = ap (λ (r : ℕ). (after_as r eight event).memory) (same_refusal m event) ∙ left (eqb refusal Refusal.accepted);
  ports = ap (λ (r : ℕ). (after_as r eight event).ports) (same_refusal m event) ∙ kept (eqb refusal Refusal.accepted);
  datum = ap (λ (r : ℕ). (answer_as r eight event).datum) (same_refusal m event) ∙ moved (eqb refusal Refusal.accepted) (leb refusal Refusal.senseless);
}
  where
    eight : Machine
    eight = with_page_at event.address 1 m

    sixteen : Machine
    sixteen = with_page_at event.address 2 m

    refusal : ℕ
    refusal = refusal_in sixteen event

    step : Step
    step = (row_of event.kind).step

    left : (b : Bool) → (cond b (taken_by step eight event) eight).memory ≡ (cond b (taken_by step sixteen event) sixteen).memory
    left true = same_left _ _ event m.memory
    left false = refl

    kept : (b : Bool) → (cond b (taken_by step eight event) eight).ports ≡ (cond b (taken_by step sixteen event) sixteen).ports
    kept true = refl
    kept false = refl

    shown : Bool → Machine → Answer
    shown c x = cond c (bare refusal) (answer_with refusal x.bus (signals_in x.bus.phase) 0 nothing)

    moved : (b c : Bool) → (cond b (answer_by step eight event) (shown c eight)).datum ≡ (cond b (answer_by step sixteen event) (shown c sixteen)).datum
    moved true c = same_moved _ _ event m.memory m.ports
    moved false true = refl
    moved false false = refl
