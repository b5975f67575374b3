-- The table's rows and its columns, and the pages.
use Prim.Native.Nat.{ℕ, ◌/◌, ◌<◌, ◌≤◌}
use mathlib.Core.Path.{◌≡◌, refl, sym, ap, ◌∙◌}
use mathlib.Core.Bool.{Bool, true, false, not, cond, ◌&&◌, ◌||◌, true≢false}
use mathlib.Core.List.{List}
use native.Mathlib.Decide.{dec_lt}
use lib.ListN.{length, get_or-eq_default}
use native.Mathlib.Omega.{arith}
use lib.Dec.{eqb, leb, ltb, lit≤}
use borrow.Author.Tests.{le-leb, lt-leb, le-ltb}
use Rattle.words.specs.Below.{all_below}
use Rattle.words.specs.Among.{beside, has_beside, every_row}
use Rattle.words.proofs.BelowLaws.{same_tests_below}
use Rattle.judgement.specs.Refusals.{page_at}
use Rattle.words.proofs.RowLaws.{EachRow, end, ◌and◌, by_rows, rows_pass, no_row_beside, rows_only}
use Rattle.phases.specs.Phase as Phase
use Rattle.phases.specs.Kind as Kind
use Rattle.judgement.specs.Table.{Row, row, master, table, has_row, row_of, no_row, lists_speaker, lists_address, is_cycle_step, is_cycle}
use Rattle.judgement.specs.Promises.{EachKindHasItsRow, CycleKinds}
use Rattle.bus.specs.declared.step.Step.{Step}

-- ---- Rows

-- what holds of each row, and of a kind that has none, holds of every kind
pub by_row : (P : ℕ → Row → Type 0) → EachRow P table → (kind : ℕ) → (has_row kind ≡ false → P kind no_row) → P kind (row_of kind)
by_row P = by_rows P table no_row

-- the same of a test
pub row_passes : (test : ℕ → Row → Bool) → every_row test table ≡ true → (kind : ℕ) → (has_row kind ≡ false → test kind no_row ≡ true)
    → test kind (row_of kind) ≡ true
row_passes test = rows_pass test table no_row

pub no_row_holds : (kind : ℕ) → has_row kind ≡ false → row_of kind ≡ no_row
no_row_holds kind = no_row_beside kind table no_row

-- the row of a cycle
pub record CycleRow (row : Row) : Type 0 where
  pub speaker : row.speaker ≡ master
  pub allows : row.allows ≡ Phase.has_cycles
  pub step : row.step ≡ Step.Cycle

pub cycle_row : (kind : ℕ) → is_cycle kind ≡ true → CycleRow (row_of kind)
cycle_row kind =
    by_row (λ k r. is_cycle_step r.step ≡ true → CycleRow r)
    (other and other and other and other and other and same and same and same and same and same and same and same
    and other and other and other and end)
    kind
    (λ none. other)
  where
    same : {address : Bool} {most : ℕ} → true ≡ true → CycleRow (row master address most Phase.has_cycles Step.Cycle)
    same e = record { speaker = refl; allows = refl; step = refl }

    other : {A : Type 0} → false ≡ true → A
    other e = absurd (true≢false (sym e))

-- ---- Pages

-- beyond the sixteen pages there is none
pub no_page : (pages : List ℕ) → length pages ≡ 16 → (address : ℕ) → 0xFFFF < address → 0 ≡ page_at pages address
no_page pages size address h =
    let beyond : length pages ≤ address / 0x1000 = omega (arith, size) in
    sym (get_or-eq_default pages 0 beyond)

-- ---- The kinds by their numbers

-- a kind from the one to the other
abbrev is_between : ℕ → ℕ → ℕ → Bool
is_between low high kind = leb low kind && leb kind high

-- a test that no kind without a row passes is computed over all that a byte can say, and no more has a row
between : (test : ℕ → Bool) (low high : ℕ) → low ≤ 0x100 → high < 0x100
    → all_below (λ k. cond (test k) (is_between low high k) (not (is_between low high k))) 0x100 ≡ true
    → ((k : ℕ) → has_row k ≡ false → test k ≡ false) → (kind : ℕ) → test kind ≡ is_between low high kind
unfolding every_row
between test low high l h computed none kind = go (dec_lt kind 0x100)
  where
    go : Dec (kind < 0x100) → test kind ≡ is_between low high kind
    go (yes below) = same_tests_below test (is_between low high) 0x100 computed kind below
    go (no beyond) =
        none kind (rows_only (λ k. ltb k 0x100) table refl kind (le-ltb kind 0x100 (omega (arith, beyond))))
        ∙ sym (rw (le-leb low kind (omega (arith, beyond, l)), lt-leb kind high (omega (arith, beyond, h))))

pub each_kind_has_its_row : EachKindHasItsRow
unfolding all_below has_beside
each_kind_has_its_row = between has_row Kind.request Kind.last (lit≤ tt) (lit≤ tt) refl (λ k none. none)

pub cycle_kinds : CycleKinds
unfolding all_below beside
cycle_kinds = between is_cycle Kind.byte_read Kind.output (lit≤ tt) (lit≤ tt) refl (λ k none. ap (λ (r : Row). is_cycle_step r.step) (no_row_holds k none))

-- ---- The columns, computed over all kinds that a byte can say

pub speaker_column : (kind : ℕ) → kind < 0x100
    → (eqb kind Kind.look || leb Kind.begin_transfer_one kind && leb kind Kind.give_back) ≡ lists_speaker kind
unfolding all_below beside
speaker_column = same_tests_below (λ k. eqb k Kind.look || leb Kind.begin_transfer_one k && leb k Kind.give_back) lists_speaker 0x100 refl

pub address_column : (kind : ℕ) → kind < 0x100 → (leb Kind.byte_read kind && leb kind Kind.output) ≡ lists_address kind
unfolding all_below beside
address_column = same_tests_below (λ k. leb Kind.byte_read k && leb k Kind.output) lists_address 0x100 refl
