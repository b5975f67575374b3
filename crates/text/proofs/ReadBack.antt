-- What is written reads back: digits, numbers, the lines of setup and of an event, the answer line.
use mathlib.Core.Path.{◌≡◌, refl, ap, ap₂, ◌∙◌}
use mathlib.Core.Logic.{⊎_elim}
use mathlib.Core.Bool.{Bool, true, false, cond}
use mathlib.Core.List.{List, [], ◌∷◌, ◌++◌, map}
use Prim.Native.Nat.{ℕ, zero, suc, ◌+◌, ◌*◌, ◌-◌, ◌/◌, ◌%◌, ◌^◌, ◌<◌, ◌≤◌}
use native.Mathlib.Decide.{dec_lt}
use native.Mathlib.Omega.{arith}
use lib.Dec.{leb}
use lib.ListN.{take, length, get_or, length-append, get_or-append, length-map}
use lib.Seq.{get_or-append-add, take_all}
use lib.Pow.{pow-add}
use borrow.Author.Tests.{leb-true, leb-false, le-leb, lt-leb, eq-eqb}
use Rattle.words.specs.Among.{every_listed}
use Rattle.words.specs.Parts.{total, laid_out, nth_part}
use Rattle.words.proofs.PartLaws.{laid_long, put_front}
use Rattle.words.proofs.ListLaws.{every_at, every_of}
use Rattle.bus.specs.declared.state.Chassis.{Chassis}
use Rattle.judgement.specs.Table.{event_of}
use Rattle.judgement.specs.declared.event.Event.{Event}
use Rattle.text.specs.Digits.{is_digit, value_of, digit_of, number_after, number_of, digits_of, in_digits, is_digits}
use Rattle.text.specs.Frames.{event_digits, event_in, setup_widths, setup_digits}
use Rattle.text.specs.AnswerLine.{answer_fields, answer_parts, answer_widths, answer_digits, answer_line, answer_length}
use Rattle.text.specs.Promises.{
  event_line,
  setup_line,
  answer_on_line,
  DigitsReadBack,
  NumbersReadBack,
  EventReadsBack,
  SetupReadsBack,
  AnswerReadsBack,
  OnlyLineWritten,
  EventFits,
}
use Rattle.events.specs.declared.answers.Answer.{Answer}
use Rattle.text.proofs.DigitLaws.{digit_kinds, value_small, digits_long, digits_sized}
use Rattle.text.proofs.ReadingLaws.{answer_long, printed_fits}

-- ---- One digit

-- what is true of the digits 0 to 9 and A to F alike is true of the digit of every number below 16
digit_either : (P : ℕ → Type 0) (n : ℕ) → (n ≤ 9 → P (0x30 + n)) → (9 < n → P (0x37 + n)) → P (digit_of n)
digit_either P n low high = go (leb n 9) refl
  where
    go : (t : Bool) → leb n 9 ≡ t → P (cond t (0x30 + n) (0x37 + n))
    go true e = low (leb-true n 9 e)
    go false e = high (leb-false n 9 e)

is_low : (b : ℕ) → 0x30 ≤ b → b ≤ 0x39 → is_digit b ≡ true
is_low b l h = rw (le-leb 0x30 b l, le-leb b 0x39 h) refl

is_high_holds : (b : ℕ) → 0x41 ≤ b → b ≤ 0x46 → is_digit b ≡ true
is_high_holds b l h = rw (le-leb 0x30 b (omega (arith, l)), lt-leb b 0x39 (omega (arith, l)), le-leb 0x41 b l, le-leb b 0x46 h) refl

value_low : (b : ℕ) → b ≤ 0x39 → value_of b ≡ b - 0x30
value_low b h = rw (le-leb b 0x39 h) refl

value_high : (b : ℕ) → 0x39 < b → value_of b ≡ b - 0x37
value_high b h = rw (lt-leb b 0x39 h) refl

digit_is : (n : ℕ) → n < 16 → is_digit (digit_of n) ≡ true
digit_is n h =
    digit_either (λ b. is_digit b ≡ true) n
    (λ low. is_low (0x30 + n) (omega arith) (omega (arith, low)))
    (λ high. is_high_holds (0x37 + n) (omega (arith, high)) (omega (arith, h)))

digit_back : (n : ℕ) → n < 16 → value_of (digit_of n) ≡ n
digit_back n h =
    digit_either (λ b. value_of b ≡ n) n
    (λ low. value_low (0x30 + n) (omega (arith, low)) ∙ omega arith)
    (λ high. value_high (0x37 + n) (omega (arith, high)) ∙ omega arith)

digit_again : (b : ℕ) → is_digit b ≡ true → digit_of (value_of b) ≡ b
digit_again b e =
    ⊎_elim
    (λ low.
    ap digit_of (value_low b low.1)
    ∙ digit_either (λ x. x ≡ b) (b - 0x30) (λ h. omega (arith, low.0)) (λ h. absurd (omega (arith, h, low.1))))
    (λ high.
    ap digit_of (value_high b (omega (arith, high.0)))
    ∙ digit_either (λ x. x ≡ b) (b - 0x37) (λ h. absurd (omega (arith, h, high.0))) (λ h. omega (arith, high.0)))
    (digit_kinds b e)

pub digits_read_back : DigitsReadBack
digits_read_back = (λ n h. (digit_is n h, digit_back n h), λ b e. (value_small b e, digit_again b e))

-- ---- Numbers

every_append : (test : ℕ → Bool) (xs ys : List ℕ) → every_listed test xs ≡ true → every_listed test ys ≡ true → every_listed test (xs ++ ys) ≡ true
every_append test xs ys ex ey = every_of test (xs ++ ys) (λ i h. go i h (dec_lt i (length xs)))
  where
    go : (i : ℕ) → i < length (xs ++ ys) → Dec (i < length xs) → test (get_or (xs ++ ys) i 0) ≡ true
    go i h (yes inside) = ap test (get_or-append xs ys 0 i inside) ∙ every_at test xs ex i inside
    go i h (no beyond) =
        let place : i ≡ length xs + (i - length xs) = omega arith in
        ap (λ (k : ℕ). test (get_or (xs ++ ys) k 0)) place
        ∙ ap test (get_or-append-add xs ys (i - length xs) 0)
        ∙ every_at test ys ey (i - length xs) (omega (arith, h, length-append xs ys))

pub number_last : (n : ℕ) (digits : List ℕ) (b : ℕ) → number_after n (digits ++ b ∷ []) ≡ number_after n digits * 16 + value_of b
unfolding number_after
number_last n [] b = refl
number_last n (d ∷ digits) b = number_last (n * 16 + value_of d) digits b

one_digit_is : (n : ℕ) → n < 16 → every_listed is_digit (digit_of n ∷ []) ≡ true
one_digit_is n h = every_of is_digit (digit_of n ∷ []) (λ i k. go i k)
  where
    go : (i : ℕ) → i < 1 → is_digit (get_or (digit_of n ∷ []) i 0) ≡ true
    go zero k = digit_is n h
    go (suc i) k = absurd (omega (arith, k))

digits_are : (count n : ℕ) → every_listed is_digit (digits_of count n) ≡ true
unfolding digits_of
digits_are zero n = every_of is_digit [] (λ i h. absurd (omega (arith, h)))
digits_are (suc count) n =
    every_append is_digit (digits_of count (n / 16)) (digit_of (n % 16) ∷ []) (digits_are count (n / 16)) (one_digit_is (n % 16) (omega arith))

pub numbers_back : (count n : ℕ) → n < 16 ^ count → number_of (digits_of count n) ≡ n
unfolding digits_of number_after
numbers_back zero n h = none n h
  where
    none : (k : ℕ) → k < 1 → 0 ≡ k
    none k small = omega (arith, small)
numbers_back (suc count) n h =
    let wide : 16 ^ suc count ≡ 16 ^ count * 16 = pow_suc count in
    number_last 0 (digits_of count (n / 16)) (digit_of (n % 16))
    ∙ ap (λ (k : ℕ). k * 16 + value_of (digit_of (n % 16))) (numbers_back count (n / 16) (omega (arith, h, wide)))
    ∙ ap (λ (k : ℕ). n / 16 * 16 + k) (digit_back (n % 16) (omega arith))
    ∙ omega arith
  where
    next : (c : ℕ) → suc c ≡ c + 1
    next c = omega arith

    pow_suc : (c : ℕ) → 16 ^ suc c ≡ 16 ^ c * 16
    pow_suc c = ap (λ (k : ℕ). 16 ^ k) (next c) ∙ pow-add 16 c 1

-- fields of digits are digits
pub fields_digits : {A : Type 0} (fields : List (ℕ × (A → ℕ))) (a : A) → every_listed is_digit (laid_out (in_digits fields) a) ≡ true
fields_digits [] a = every_of is_digit [] (λ i h. absurd (omega (arith, h)))
fields_digits (field ∷ fields) a =
    every_append is_digit (digits_of field.0 (field.1 a)) (laid_out (in_digits fields) a) (digits_are field.0 (field.1 a)) (fields_digits fields a)

more_digits : (front : List ℕ) (count n : ℕ) → every_listed is_digit front ≡ true → every_listed is_digit (front ++ digits_of count n) ≡ true
more_digits front count n so = every_append is_digit front (digits_of count n) so (digits_are count n)

pub right_digits : (count : ℕ) (line : List ℕ) → length line ≡ count → every_listed is_digit line ≡ true → is_digits count line ≡ true
right_digits count line size all = rw (eq-eqb (length line) count size, all) refl

pub numbers_read_back : NumbersReadBack
numbers_read_back count n h = (right_digits count (digits_of count n) (digits_long count n) (digits_are count n), numbers_back count n h)

-- ---- Lines

event_long : (event : Event) → length (event_line event) ≡ event_digits
unfolding digits_of
event_long event = refl

event_digits_holds : (event : Event) → every_listed is_digit (event_line event) ≡ true
event_digits_holds event =
    let speaker = digits_of 2 event.kind ++ digits_of 2 event.speaker in
    more_digits (speaker ++ digits_of 6 event.address) 4 event.datum (
    more_digits speaker 6 event.address (more_digits (digits_of 2 event.kind) 2 event.speaker (digits_are 2 event.kind)))

-- each field of a line is a number's digits
event_parts : (event : Event)
    → event_in (event_line event)
    ≡ event_of (number_of (digits_of 2 event.kind))
    (number_of (digits_of 2 event.speaker))
    (number_of (digits_of 6 event.address))
    (number_of (digits_of 4 event.datum))
unfolding digits_of
event_parts event = refl

event_back : (event : Event) → EventFits event → event_in (event_line event) ≡ event
event_back event fits =
    event_parts event
    ∙ rw (
      numbers_back 2 event.kind fits.kind,
      numbers_back 2 event.speaker fits.speaker,
      numbers_back 6 event.address fits.address,
      numbers_back 4 event.datum fits.datum,
    ) refl

pub event_reads_back : EventReadsBack
event_reads_back event fits = (right_digits event_digits (event_line event) (event_long event) (event_digits_holds event), event_back event fits)

-- the pages' digits stand for the pages
pages_back : (pages : List ℕ) → ((p : ℕ) → p < length pages → get_or pages p 0 < 16) → map value_of (map digit_of pages) ≡ pages
pages_back [] small = refl
pages_back (page ∷ pages) small =
    ap₂ (λ (b : ℕ) (l : List ℕ). b ∷ l) (digit_back page (small 0 (omega arith)))
    (pages_back pages (λ p h. small (suc p) (omega (arith, h))))

pages_digits : (pages : List ℕ) → ((p : ℕ) → p < length pages → get_or pages p 0 < 16) → every_listed is_digit (map digit_of pages) ≡ true
pages_digits [] small = every_of is_digit [] (λ i h. absurd (omega (arith, h)))
pages_digits (page ∷ pages) small =
    every_append is_digit (digit_of page ∷ []) (map digit_of pages) (one_digit_is page (small 0 (omega arith)))
    (pages_digits pages (λ p h. small (suc p) (omega (arith, h))))

-- the first part of the line, and the second
setup_front : (given : Chassis) → nth_part 0 setup_widths (setup_line given) ≡ digits_of 4 given.fitted
unfolding digits_of
setup_front given = refl

setup_behind : (given : Chassis) → length given.pages ≡ 16 → nth_part 1 setup_widths (setup_line given) ≡ map digit_of given.pages
unfolding digits_of
setup_behind given size = take_all 16 (map digit_of given.pages) (omega (arith, length-map given.pages digit_of, size))

pub setup_reads_back : SetupReadsBack
setup_reads_back given fits =
    let pages = map digit_of given.pages in
    let long : length (setup_line given) ≡ setup_digits =
    length-append (digits_of 4 given.fitted) pages
    ∙ omega (arith, digits_long 4 given.fitted, length-map given.pages digit_of, fits.sixteen) in
    let digits = every_append is_digit (digits_of 4 given.fitted) pages (digits_are 4 given.fitted) (pages_digits given.pages fits.pages) in
    rw (right_digits setup_digits (setup_line given) long digits) (
    rw (
      ap number_of (setup_front given) ∙ numbers_back 4 given.fitted fits.fitted,
      ap (map value_of) (setup_behind given fits.sixteen) ∙ pages_back given.pages fits.pages,
    ) refl)

answer_parts_holds : (a : Answer) → answer_on_line (answer_line a) ≡ record {
  refusal = number_of (digits_of 2 a.refusal);
  phase = number_of (digits_of 2 a.phase);
  granted = number_of (digits_of 2 a.granted);
  lines = number_of (digits_of 2 a.lines);
  signals = number_of (digits_of 2 a.signals);
  status = number_of (digits_of 2 a.status);
  cycles = number_of (digits_of 2 a.cycles);
  datum = number_of (digits_of 4 a.datum);
}
unfolding digits_of
answer_parts_holds a = refl

-- the number alone
pub number_back : (a : Answer) → a.refusal < 16 ^ 2 → number_of (take 2 (answer_line a)) ≡ a.refusal
number_back a fits = ap (λ (b : Answer). b.refusal) (answer_parts_holds a) ∙ numbers_back 2 a.refusal fits

pub answer_reads_back : AnswerReadsBack
answer_reads_back a = (
  (
    right_digits (total answer_widths) (answer_digits a) (laid_long a answer_parts (digits_sized answer_fields a)) (fields_digits answer_fields a),
    answer_long a,
  ),
  λ fits.
      answer_parts_holds a
      ∙ rw (
        numbers_back 2 a.refusal fits.refusal,
        numbers_back 2 a.phase fits.phase,
        numbers_back 2 a.granted fits.granted,
        numbers_back 2 a.lines fits.lines,
        numbers_back 2 a.signals fits.signals,
        numbers_back 2 a.status fits.status,
        numbers_back 2 a.cycles fits.cycles,
        numbers_back 4 a.datum fits.datum,
      ) refl,
)

pub only_line_written : OnlyLineWritten
only_line_written a place = (
  λ room.
      let long = answer_long a in
      let put = put_front place (answer_line a) (omega (arith, room, long)) in
      rw (printed_fits a place room) (rw long at put.0, rw long at put.1),
  λ short. rw (lt-leb answer_length (length place) short) refl,
)
