-- Runs one after another, and what every run keeps.
use Prim.Native.Nat.{ℕ}
use mathlib.Core.Path.{◌≡◌, refl, sym, ap, ◌∙◌}
use mathlib.Core.Bool.{Bool, true, false, cond, ◌||◌, false≢true, or_assoc}
use mathlib.Core.List.{List, [], ◌∷◌, ◌++◌}
use lib.Dec.{eqb}
use Rattle.words.proofs.TestLaws.{neither_of}
use Rattle.phases.specs.Kind as Kind
use Rattle.bus.specs.declared.state.Bus.{Bus}
use Rattle.judgement.specs.declared.event.Event.{Event}
use Rattle.events.specs.Step.{after}
use Rattle.events.proofs.Stays.{sense_kept_by_events}
use Rattle.runs.specs.Run.{Call, machine_for, bus_after, after_all, is_accepted, accepted_of, has_kind, speakers_of, looks_in, GoesOn, after_events, calls_of}
use Rattle.runs.specs.Promises.{SenseInRuns, OneMemory}

pub after_append : (bus : Bus) (calls more : List Call) → after_all bus (calls ++ more) ≡ after_all (after_all bus calls) more
unfolding after_all
after_append bus [] more = refl
after_append bus (c ∷ calls) more = after_append (bus_after bus c) calls more

-- a list that is joined of two is so with one entry more in front, where a test picks that
join_further : {A : Type 0} (b : Bool) (x : A) (xs ys zs : List A) → xs ≡ ys ++ zs → cond b (x ∷ xs) xs ≡ cond b (x ∷ ys) ys ++ zs
join_further true x xs ys zs e = ap (◌∷◌ x) e
join_further false x xs ys zs e = e

pub accepted_append : (bus : Bus) (calls more : List Call) → accepted_of bus (calls ++ more) ≡ accepted_of bus calls ++ accepted_of (after_all bus calls) more
unfolding after_all accepted_of
accepted_append bus [] more = refl
accepted_append bus (c ∷ calls) more = join_further (is_accepted bus c) c.event _ _ _ (accepted_append (bus_after bus c) calls more)

speakers_append : (kind : ℕ) (events more : List Event) → speakers_of kind (events ++ more) ≡ speakers_of kind events ++ speakers_of kind more
unfolding speakers_of
speakers_append kind [] more = refl
speakers_append kind (event ∷ events) more = join_further (eqb event.kind kind) event.speaker _ _ _ (speakers_append kind events more)

pub looks_append : (bus : Bus) (calls more : List Call) → looks_in bus (calls ++ more) ≡ looks_in bus calls ++ looks_in (after_all bus calls) more
looks_append bus calls more =
    ap (speakers_of Kind.look) (accepted_append bus calls more) ∙ speakers_append Kind.look (accepted_of bus calls) (accepted_of (after_all bus calls) more)

-- ---- An arbitration that goes on

-- of the first call, and of the rest
none_first : (kind : ℕ) (bus : Bus) (c : Call) (calls : List Call) → has_kind kind (accepted_of bus (c ∷ calls)) ≡ false
    → (is_accepted bus c ≡ true → eqb c.event.kind kind ≡ false) × (has_kind kind (accepted_of (bus_after bus c) calls) ≡ false)
unfolding accepted_of has_kind
none_first kind bus c calls none = go (is_accepted bus c) none
  where
    go : (b : Bool) → has_kind kind (cond b (c.event ∷ accepted_of (bus_after bus c) calls) (accepted_of (bus_after bus c) calls)) ≡ false
        → (b ≡ true → eqb c.event.kind kind ≡ false) × (has_kind kind (accepted_of (bus_after bus c) calls) ≡ false)
    go true e = let each = neither_of (eqb c.event.kind kind) (has_kind kind (accepted_of (bus_after bus c) calls)) e in (λ t. each.0, each.1)
    go false e = (λ t. absurd (false≢true t), e)

pub goes_on : (bus : Bus) (c : Call) (calls : List Call) → GoesOn bus (c ∷ calls)
    → (is_accepted bus c ≡ true → (eqb c.event.kind Kind.acknowledge ≡ false) × (eqb c.event.kind Kind.reset ≡ false)) × GoesOn (bus_after bus c) calls
goes_on bus c calls on =
    let grant = none_first Kind.acknowledge bus c calls on.no_grant in
    let reset = none_first Kind.reset bus c calls on.no_reset in
    (λ t. (grant.0 t, reset.0 t), record { no_grant = grant.1; no_reset = reset.1 })

pub has_append : (kind : ℕ) (events more : List Event) → has_kind kind (events ++ more) ≡ (has_kind kind events || has_kind kind more)
unfolding has_kind
has_append kind [] more = refl
has_append kind (event ∷ events) more = ap (◌||◌ (eqb event.kind kind)) (has_append kind events more) ∙ sym (or_assoc (eqb event.kind kind) _ _)

none_parts : (kind : ℕ) (bus : Bus) (calls more : List Call) → has_kind kind (accepted_of bus (calls ++ more)) ≡ false
    → (has_kind kind (accepted_of bus calls) ≡ false) × (has_kind kind (accepted_of (after_all bus calls) more) ≡ false)
none_parts kind bus calls more none =
    neither_of (has_kind kind (accepted_of bus calls)) (has_kind kind (accepted_of (after_all bus calls) more))
    (sym (ap (has_kind kind) (accepted_append bus calls more) ∙ has_append kind (accepted_of bus calls) (accepted_of (after_all bus calls) more)) ∙ none)

-- a run that goes on is a run that goes on, and then another
pub goes_on_parts : (bus : Bus) (calls more : List Call) → GoesOn bus (calls ++ more) → GoesOn bus calls × GoesOn (after_all bus calls) more
goes_on_parts bus calls more on =
    let grant = none_parts Kind.acknowledge bus calls more on.no_grant in
    let reset = none_parts Kind.reset bus calls more on.no_reset in
    (record { no_grant = grant.0; no_reset = reset.0 }, record { no_grant = grant.1; no_reset = reset.1 })

-- ---- What every run keeps

pub sense_in_runs : SenseInRuns
unfolding after_all
sense_in_runs bus sense [] = sense
sense_in_runs bus sense (c ∷ calls) = sense_in_runs (bus_after bus c) (sense_kept_by_events (machine_for bus c) c.event sense) calls

pub one_memory : OneMemory
unfolding after_all after_events calls_of
one_memory m [] = refl
one_memory m (event ∷ events) = one_memory (after m event) events
