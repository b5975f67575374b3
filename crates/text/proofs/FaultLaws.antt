-- The digits that a line leads with, and what is wrong with it.
use mathlib.Core.Path.{◌≡◌, refl, sym, ap, subst, ◌∙◌}
use mathlib.Core.Logic.{◌⊎◌, inl, inr, ⊎_elim}
use mathlib.Core.Bool.{Bool, true, false, cond, not, false≢true}
use mathlib.Core.List.{List}
use Prim.Native.Nat.{ℕ, ◌+◌, ◌-◌, ◌<◌, ◌≤◌}
use native.Mathlib.Decide.{dec_lt}
use native.Mathlib.Omega.{arith}
use lib.Dec.{eqb}
use lib.ListN.{length, get_or}
use borrow.Author.Tests.{eqb-true, eqb-false, eq-eqb, ne_eqb, not-true, not-false}
use Rattle.std.specs.Prelude.{Some, None}
use Rattle.std.specs.List.{position, position_or_len}
use Rattle.std.proofs.lemmas.Grind.{common_steps}
use Rattle.std.proofs.lemmas.List.Sums.{position_or_len_is}
use Rattle.std.proofs.lemmas.List.Quantifiers.{position-Some}
use Rattle.words.specs.Among.{every_listed}
use Rattle.words.proofs.TestLaws.{true_or_false, both_of}
use Rattle.words.proofs.ListLaws.{every_at, every_of}
use Rattle.words.proofs.FirstLaws.{least_passes, least_first, least_within, least_is}
use Rattle.bus.specs.Refusal.{accepted, wrong_character, wrong_line_length}
use Rattle.text.specs.Digits.{is_digit, is_digits}
use Rattle.text.specs.Faults.{Fault, fault, leading_digits, wrong_column, fault_of}
use Rattle.text.specs.Promises.{FirstWrong, FaultsTold}
use Rattle.text.proofs.DigitLaws.{not_all}

-- ---- Leading digits

abbrev spoils : List ℕ → ℕ → Bool
spoils line k = not (is_digit (get_or line k 0))

pub leading_within : (line : List ℕ) → leading_digits line ≤ length line
leading_within line = least_within (spoils line) (length line)

-- all bytes before a place are digits
abbrev pub DigitsBefore : List ℕ → ℕ → Type 0
DigitsBefore line place = (k : ℕ) → k < place → is_digit (get_or line k 0) ≡ true

pub leading_digits_holds : (line : List ℕ) → DigitsBefore line (leading_digits line)
leading_digits_holds line k h = not-false _ (least_first (spoils line) (length line) k h)

-- the first that is none
pub leading_at : (line : List ℕ) (place : ℕ) → place < length line → DigitsBefore line place → is_digit (get_or line place 0) ≡ false
    → place ≡ leading_digits line
leading_at line place h digits wrong =
    sym (least_is (spoils line) (length line) place (λ k below. ap not (digits k below)) (ap not wrong) h)

-- or the end
pub leading_end : (line : List ℕ) (place : ℕ) → place ≡ length line → DigitsBefore line place → place ≡ leading_digits line
leading_end line place end digits = go (dec_lt (leading_digits line) (length line))
  where
    go : Dec (leading_digits line < length line) → place ≡ leading_digits line
    go (yes h) =
        absurd (false≢true (sym (not-true _ (least_passes (spoils line) (length line) h)) ∙ digits (leading_digits line) (omega (arith, end, h))))
    go (no h) = omega (arith, end, leading_within line)

leading_to_first : (line : List ℕ) → position_or_len (λ b. not (is_digit b)) line ≡ leading_digits line
leading_to_first line =
    position_or_len_is (λ b. not (is_digit b)) line (leading_digits line) 0 (leading_within line)
    (λ k h. ap not (leading_digits_holds line k h)) (least_passes (spoils line) (length line))

-- every byte is a digit exactly where so many lead
pub all_lead : (line : List ℕ) → leading_digits line ≡ length line → every_listed is_digit line ≡ true
all_lead line e = every_of is_digit line (λ k h. leading_digits_holds line k (omega (arith, e, h)))

pub leads_all : (line : List ℕ) → every_listed is_digit line ≡ true → leading_digits line ≡ length line
leads_all line all = sym (leading_end line (length line) refl (every_at is_digit line all))

pub not_all_lead : (line : List ℕ) → (leading_digits line ≡ length line → ⊥) → every_listed is_digit line ≡ false
not_all_lead line some = ⊎_elim (λ all. absurd (some (leads_all line all))) (λ none. none) (true_or_false (every_listed is_digit line))

-- where the code looks for the first byte that is none
pub wrong_at : (line : List ℕ) (place : ℕ) → position (λ b. not (is_digit b)) line ≡ Some place → (place < length line) × (place ≡ leading_digits line)
wrong_at line place e =
    let first = position-Some (λ b. not (is_digit b)) line place 0 e in (
      first.0,
      leading_at line place first.0 (λ k h. not-false _ (first.2 k h)) (not-true _ first.1),
    )

pub wrong_nowhere : (line : List ℕ) → position (λ b. not (is_digit b)) line ≡ None → every_listed is_digit line ≡ true
wrong_nowhere line e = all_lead line (grind (arith, common_steps, leading_within line, leading_to_first line))

-- ---- The first wrong character

first_wrong : (line : List ℕ) → every_listed is_digit line ≡ false → FirstWrong line (wrong_column line)
first_wrong line e =
    let some : leading_digits line < length line = below (dec_lt (leading_digits line) (length line)) in
    let place : wrong_column line - 1 ≡ leading_digits line = omega arith in
    record {
      counted = omega arith;
      within = omega (arith, some);
      wrong = ap (λ (k : ℕ). is_digit (get_or line k 0)) place ∙ not-true _ (least_passes (spoils line) (length line) some);
      before = λ k h. leading_digits_holds line k (omega (arith, h));
    }
  where
    below : Dec (leading_digits line < length line) → leading_digits line < length line
    below (yes h) = h
    below (no h) = absurd (false≢true (sym e ∙ all_lead line (omega (arith, leading_within line))))

pub wrong_first : (line : List ℕ) (column : ℕ) → FirstWrong line column → (every_listed is_digit line ≡ false) × (wrong_column line ≡ column)
wrong_first line column f =
    let place = column - 1 in
    let here : place < length line = omega (arith, f.counted, f.within) in (
      sym (not_all line place here f.wrong),
      omega (arith, leading_at line place here f.before f.wrong, f.counted),
    )

-- ---- What is wrong with a line

abbrev number : Fault → ℕ
number f = f.refusal

-- what a right line is
pub right_digits : (count : ℕ) (line : List ℕ) → length line ≡ count → every_listed is_digit line ≡ true → is_digits count line ≡ true
right_digits count line size all = rw (eq-eqb (length line) count size, all) refl

pub all_digits_of : (count : ℕ) (line : List ℕ) → is_digits count line ≡ true → (length line ≡ count) × (every_listed is_digit line ≡ true)
all_digits_of count line right =
    let both = both_of (eqb (length line) count) (every_listed is_digit line) right in (eqb-true (length line) count both.0, both.1)

pub right_line : (count : ℕ) (line : List ℕ) → length line ≡ count → every_listed is_digit line ≡ true → fault_of count line ≡ fault accepted 0
right_line count line size all = rw (eq-eqb (length line) count size, all) refl

pub no_fault : (count : ℕ) (line : List ℕ) → is_digits count line ≡ true → fault_of count line ≡ fault accepted 0
no_fault count line right = let both = all_digits_of count line right in right_line count line both.0 both.1

pub wrong_line_length_holds : (count : ℕ) (line : List ℕ) → (length line ≡ count → ⊥) → fault_of count line ≡ fault wrong_line_length 0
wrong_line_length_holds count line other = rw (ne_eqb (length line) count other) refl

pub wrong_character_holds : (count : ℕ) (line : List ℕ) → length line ≡ count → every_listed is_digit line ≡ false
    → fault_of count line ≡ fault wrong_character (wrong_column line)
wrong_character_holds count line size wrong = rw (eq-eqb (length line) count size, wrong) refl

-- so many digits lead, and no more
pub wrong_behind : (count : ℕ) (line : List ℕ) (leading : ℕ) → length line ≡ count → leading ≡ leading_digits line → leading < count
    → fault wrong_character (leading + 1) ≡ fault_of count line
wrong_behind count line leading size is fewer =
    ap (fault wrong_character) (omega (arith, is))
    ∙ sym (wrong_character_holds count line size (not_all_lead line (λ e. omega (arith, e, size, is, fewer))))

pub misspelt : (count : ℕ) (line : List ℕ) (column : ℕ) → length line ≡ count → FirstWrong line column
    → fault_of count line ≡ fault wrong_character column
misspelt count line column size f =
    let so = wrong_first line column f in wrong_character_holds count line size so.0 ∙ ap (fault wrong_character) so.1

-- the three ways, and what holds in each holds of every line
pub by_fault : (count : ℕ) (line : List ℕ) (P : Fault → Type 0) → (is_digits count line ≡ true → P (fault accepted 0))
    → ((length line ≡ count → ⊥) → P (fault wrong_line_length 0))
    → (length line ≡ count → FirstWrong line (wrong_column line) → P (fault wrong_character (wrong_column line))) → P (fault_of count line)
by_fault count line P right size character = go (eqb (length line) count) refl (every_listed is_digit line) refl
  where
    go : (long : Bool) → eqb (length line) count ≡ long → (all : Bool) → every_listed is_digit line ≡ all
        → P (cond long (cond all (fault accepted 0) (fault wrong_character (wrong_column line))) (fault wrong_line_length 0))
    go true e true a = right (rw (e, a) refl)
    go true e false a = character (eqb-true (length line) count e) (first_wrong line a)
    go false e all a = size (eqb-false (length line) count e)

-- a line without a number is right
pub faultless : (count : ℕ) (line : List ℕ) → (fault_of count line).refusal ≡ accepted → is_digits count line ≡ true
faultless count line =
    by_fault count line (λ f. f.refusal ≡ accepted → is_digits count line ≡ true) (λ right e. right) (λ other e. absurd (omega (arith, e)))
    (λ size first e. absurd (omega (arith, e)))

pub faulty : (count : ℕ) (line : List ℕ) → ((fault_of count line).refusal ≡ accepted → ⊥) → is_digits count line ≡ false
faulty count line some =
    ⊎_elim (λ right. absurd (some (ap number (no_fault count line right)))) (λ wrong. wrong) (true_or_false (is_digits count line))

-- a line that isn't right has a number
pub some_fault : (count : ℕ) (line : List ℕ) → is_digits count line ≡ false → eqb (fault_of count line).refusal accepted ≡ false
some_fault count line wrong =
    by_fault count line (λ f. eqb f.refusal accepted ≡ false) (λ right. absurd (false≢true (sym wrong ∙ right))) (λ other. refl)
    (λ size first. refl)

-- ---- Said without the tests

abbrev AllDigits : ℕ → List ℕ → Type 0
AllDigits count line = (length line ≡ count) × DigitsBefore line count

all_digits : (count : ℕ) (line : List ℕ) → is_digits count line ≡ true → AllDigits count line
all_digits count line right =
    let both = all_digits_of count line right in (both.0, λ k h. every_at is_digit line both.1 k (omega (arith, both.0, h)))

is_all_digits : (count : ℕ) (line : List ℕ) → AllDigits count line → is_digits count line ≡ true
is_all_digits count line all =
    rw (eq-eqb (length line) count all.0, every_of is_digit line (λ k h. all.1 k (omega (arith, all.0, h)))) refl

pub faults_told : FaultsTold
faults_told count line = record {
  right = (
    by_fault count line (λ f. number f ≡ 0x00 → AllDigits count line) (λ right e. all_digits count line right) (λ other e. absurd (omega (arith, e)))
        (λ size first e. absurd (omega (arith, e))),
    λ all. ap number (no_fault count line (is_all_digits count line all)),
  );
  wrong_line_length = (
    by_fault count line (λ f. number f ≡ 0x0C → length line ≡ count → ⊥) (λ right e. absurd (omega (arith, e))) (λ other e. other)
        (λ size first e. absurd (omega (arith, e))),
    λ other. ap number (wrong_line_length_holds count line other),
  );
  wrong_character = λ column. (
    by_fault count line (λ f. f ≡ fault 0x0D column → (length line ≡ count) × FirstWrong line column)
        (λ right e. absurd (omega (arith, ap number e)))
        (λ other e. absurd (omega (arith, ap number e)))
        (λ size first e. (size, subst (FirstWrong line) (ap (λ (f : Fault). f.column) e) first)),
    λ so. misspelt count line column so.0 so.1,
  );
  number =
      by_fault count line (λ f. (number f ≡ 0x00) ⊎ ((number f ≡ 0x0C) ⊎ (number f ≡ 0x0D))) (λ right. inl refl) (λ other. inr (inl refl))
      (λ size first. inr (inr refl));
  no_column =
      by_fault count line (λ f. (number f ≡ 0x0D → ⊥) → f.column ≡ 0) (λ right e. refl) (λ other e. refl) (λ size first e. absurd (e refl));
}
