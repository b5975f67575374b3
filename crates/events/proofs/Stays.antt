-- What an event leaves as it was.
use Prim.Native.Nat.{ℕ, ◌+◌, ◌<◌, ◌≤◌}
use mathlib.Core.Path.{◌≡◌, refl, sym, subst, ap}
use mathlib.Core.Logic.{◌⊎◌, inl, inr, ⊎_elim}
use mathlib.Core.Bool.{Bool, true, false, not, cond, ◌||◌}
use mathlib.Core.List.{List}
use native.Mathlib.Decide.{dec_lt}
use native.Mathlib.Omega.{arith}
use lib.Dec.{eqb}
use lib.ListN.{length, get_or}
use borrow.Author.Tests.{eqb-true, ne_eqb}
use Rattle.words.specs.Among.{beside, every_row}
use Rattle.words.proofs.TestLaws.{true_or_false, either_of, else_of, else_pick}
use Rattle.phases.specs.Phase as Phase
use Rattle.phases.specs.Kind as Kind
use Rattle.memory.specs.declared.Slave.{Slave}
use Rattle.memory.specs.Cycles.{after_byte_write, after_word_write}
use Rattle.memory.proofs.Keeps.{byte_write_keeps, word_write_keeps}
use Rattle.bus.specs.State.{chassis_of}
use Rattle.bus.specs.Sense.{makes_sense}
use Rattle.bus.specs.declared.step.Step.{Step}
use Rattle.bus.proofs.Kept.{sense_kept, chassis_kept}
use Rattle.judgement.specs.Table.{Row, row_of, is_cycle_step, is_cycle}
use Rattle.judgement.specs.declared.event.Event.{Event}
use Rattle.judgement.proofs.TableLaws.{row_passes, cycle_row}
use Rattle.events.specs.Machine.{Machine}
use Rattle.events.specs.Cycles.{slave_at, byte_of, memory_left, ports_left}
use Rattle.events.specs.Step.{bus_by, taken_by, refusal_in, after}
use Rattle.events.specs.Promises.{SenseKeptByEvents, LengthsKept, ChassisStays, CyclesKeepTheBus}
use Rattle.events.specs.Promises.{OthersKeepBytes, OtherBytesStay, OnlyItsCardEnds}
use Rattle.events.proofs.CycleLaws.{no_cycle}
use Rattle.events.proofs.TakenLaws.{phase_allows}

-- what holds of the machine as it was, and of what the kind's step leaves, holds after an event
pub after_either : (P : Machine → Type 0) (m : Machine) (event : Event) → P m
    → (refusal_in m event ≡ 0 → P (taken_by (row_of event.kind).step m event)) → P (after m event)
unfolding after
after_either P m event kept stepped = go (eqb (refusal_in m event) 0) refl
  where
    go : (b : Bool) → eqb (refusal_in m event) 0 ≡ b → P (cond b (taken_by (row_of event.kind).step m event) m)
    go true e = stepped (eqb-true _ _ e)
    go false e = kept

-- ---- The bus

pub sense_kept_by_events : SenseKeptByEvents
sense_kept_by_events m event sense =
    after_either (λ (x : Machine). makes_sense x.bus ≡ true) m event sense
    (λ ok. sense_kept (row_of event.kind).step m.bus event.speaker event.datum sense)

pub chassis_stays : ChassisStays
chassis_stays m event =
    after_either (λ (x : Machine). chassis_of x.bus ≡ chassis_of m.bus) m event refl
    (λ ok. chassis_kept (row_of event.kind).step m.bus event.speaker event.datum)

pub cycles_keep_the_bus : CyclesKeepTheBus
cycles_keep_the_bus m event cycle =
    after_either (λ (x : Machine). x.bus ≡ m.bus) m event refl
    (λ ok. ap (λ (s : Step). bus_by s m.bus event) (cycle_row event.kind cycle).step)

-- the kinds that an owned bus allows: cycles, begin transfer two, and a reset
allowed_when_owned : (kind : ℕ) → (row_of kind).allows Phase.owned ≡ true
    → (is_cycle kind ≡ true) ⊎ ((kind ≡ Kind.begin_transfer_two) ⊎ (kind ≡ Kind.reset))
unfolding every_row
allowed_when_owned kind allowed =
    ⊎_elim inl
    (λ rest. inr (⊎_elim (λ e. inl (eqb-true _ _ e)) (λ e. inr (eqb-true _ _ e)) (either_of (eqb kind Kind.begin_transfer_two) (eqb kind Kind.reset) rest)))
    (either_of (is_cycle kind) (eqb kind Kind.begin_transfer_two || eqb kind Kind.reset)
    (else_of (not ((row_of kind).allows Phase.owned)) _ (row_passes listed refl kind (λ none. refl)) (ap not allowed)))
  where
    listed : ℕ → Row → Bool
    listed k r = not (r.allows Phase.owned) || (is_cycle_step r.step || (eqb k Kind.begin_transfer_two || eqb k Kind.reset))

pub only_its_card_ends : OnlyItsCardEnds
unfolding beside
only_its_card_ends m event p =
    after_either Ends m event (inl refl)
    (λ ok. ⊎_elim cycle (⊎_elim begins (λ e. inr (inr e))) (allowed_when_owned event.kind (rw p at (phase_allows m event ok event.kind refl))))
  where
    Ends : Machine → Type 0
    Ends x = (x.bus ≡ m.bus) ⊎ (((event.kind ≡ Kind.begin_transfer_two) × (event.speaker ≡ m.bus.granted)) ⊎ (event.kind ≡ Kind.reset))

    taken : Machine
    taken = taken_by (row_of event.kind).step m event

    cycle : is_cycle event.kind ≡ true → Ends taken
    cycle is = inl (ap (λ (s : Step). bus_by s m.bus event) (cycle_row event.kind is).step)

    begins : event.kind ≡ Kind.begin_transfer_two → Ends taken
    begins e =
        ⊎_elim (λ same. inr (inl (e, sym (eqb-true _ _ same)))) (λ other. inl (rw (e, p) (sym (else_pick _ other refl))))
        (true_or_false (eqb m.bus.granted event.speaker))

-- ---- The bytes

-- what holds of the memory, and after either write where that is the kind, holds of what is left
memory_either : (P : List ℕ → Type 0) (s : Slave) (event : Event) (memory : List ℕ) → P memory
    → (event.kind ≡ Kind.byte_write → P (after_byte_write memory event.address (byte_of event.datum)))
    → (event.kind ≡ Kind.word_write → P (after_word_write s memory event.address event.datum))
    → P (memory_left s event memory)
unfolding beside
memory_either P s event memory kept byte word = go (eqb event.kind Kind.byte_write) refl (eqb event.kind Kind.word_write) refl
  where
    go : (a : Bool) → eqb event.kind Kind.byte_write ≡ a → (b : Bool) → eqb event.kind Kind.word_write ≡ b
        → P (cond a (after_byte_write memory event.address (byte_of event.datum))
        (cond b (after_word_write s memory event.address event.datum) memory))
    go true e b f = byte (eqb-true _ _ e)
    go false e true f = word (eqb-true _ _ f)
    go false e false f = kept

ports_either : (P : List ℕ → Type 0) (event : Event) (ports : List ℕ) → P ports → P (after_byte_write ports event.address (byte_of event.datum))
    → P (ports_left event ports)
unfolding beside
ports_either P event ports kept written = go (eqb event.kind Kind.output)
  where
    go : (b : Bool) → P (cond b (after_byte_write ports event.address (byte_of event.datum)) ports)
    go true = written
    go false = kept

pub lengths_kept : LengthsKept
lengths_kept m event =
    after_either (λ (x : Machine). (length x.memory ≡ length m.memory) × (length x.ports ≡ length m.ports)) m event (refl, refl)
    (λ ok. (
      memory_either (λ (l : List ℕ). length l ≡ length m.memory) _ event m.memory refl
          (λ e. (byte_write_keeps m.memory event.address _).size)
          (λ e. (word_write_keeps _ m.memory event.address _).size),
      ports_either (λ (l : List ℕ). length l ≡ length m.ports) event m.ports refl (byte_write_keeps m.ports event.address _).size,
    ))

-- only an output writes a port
pub only_outputs : (m : Machine) (event : Event) → (event.kind ≡ Kind.output → ⊥) → (after m event).ports ≡ m.ports
unfolding beside
only_outputs m event other = after_either (λ (x : Machine). x.ports ≡ m.ports) m event refl (λ ok. rw (ne_eqb event.kind Kind.output other))

pub others_keep_bytes : OthersKeepBytes
others_keep_bytes m event other =
    after_either (λ (x : Machine). (x.memory ≡ m.memory) × (x.ports ≡ m.ports)) m event (refl, refl)
    (λ ok. let same = no_cycle (slave_at m.bus.pages event.address) event m.memory m.ports other in (sym same.1.0, sym same.1.1))

pub other_bytes_stay : OtherBytesStay
other_bytes_stay m event k = (memory, ports)
  where
    Outside : ℕ → Type 0
    Outside kind = (k < event.address) ⊎ (event.address + cond (Kind.is_word kind) 2 1 ≤ k)

    memory : Outside event.kind → get_or (after m event).memory k 0 ≡ get_or m.memory k 0
    memory outside =
        after_either (λ (x : Machine). get_or x.memory k 0 ≡ get_or m.memory k 0) m event refl
        (λ ok.
        memory_either (λ (l : List ℕ). get_or l k 0 ≡ get_or m.memory k 0) _ event m.memory refl
        (λ e. (byte_write_keeps m.memory event.address _).others k (subst Outside e outside))
        (λ e. (word_write_keeps _ m.memory event.address _).others k (subst Outside e outside)))

    ports : (k ≡ event.address → ⊥) → get_or (after m event).ports k 0 ≡ get_or m.ports k 0
    ports other =
        after_either (λ (x : Machine). get_or x.ports k 0 ≡ get_or m.ports k 0) m event refl
        (λ ok.
        ports_either (λ (l : List ℕ). get_or l k 0 ≡ get_or m.ports k 0) event m.ports refl
        ((byte_write_keeps m.ports event.address _).others k (either (dec_lt k event.address))))
      where
        either : Dec (k < event.address) → (k < event.address) ⊎ (event.address + 1 ≤ k)
        either (yes l) = inl l
        either (no l) = inr (omega (arith, l, other))
