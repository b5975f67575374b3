-- Hexadecimal digits, and the numbers that they write, the highest digit first (01, "The program and one whole run").
use Rattle.std.specs.Prelude.{ℕ, zero, suc, ◌+◌, ◌*◌, ◌-◌, ◌/◌, ◌%◌, Bool, cond, ◌&&◌, ◌||◌, List, [], ◌∷◌, ◌++◌, eqb, leb, length}
use Rattle.words.specs.Among.{every_listed}
use Rattle.words.specs.Parts.{Part}

-- the bytes 0 to 9 and A to F; no lower case
abbrev pub is_digit : ℕ → Bool
is_digit b = leb 0x30 b && leb b 0x39 || leb 0x41 b && leb b 0x46

-- what a digit stands for
abbrev pub value_of : ℕ → ℕ
value_of b = cond (leb b 0x39) (b - 0x30) (b - 0x37)

-- the digit of a number below 16
abbrev pub digit_of : ℕ → ℕ
digit_of n = cond (leb n 9) (0x30 + n) (0x37 + n)

-- the number that digits write after the digits of n
unfoldable pub number_after : ℕ → List ℕ → ℕ
number_after n [] = n
number_after n (b ∷ digits) = number_after (n * 16 + value_of b) digits

abbrev pub number_of : List ℕ → ℕ
number_of digits = number_after 0 digits

-- a number in so many digits
unfoldable pub digits_of : ℕ → ℕ → List ℕ
digits_of zero n = []
digits_of (suc count) n = digits_of count (n / 16) ++ digit_of (n % 16) ∷ []

-- numbers of a value as parts of a line, each in so many digits
abbrev pub in_digits : {A : Type 0} → List (ℕ × (A → ℕ)) → List (Part A)
in_digits [] = []
in_digits (field ∷ fields) = record { width = field.0; bytes = λ a. digits_of field.0 (field.1 a) } ∷ in_digits fields

-- exactly so many bytes, all of them digits
abbrev pub is_digits : ℕ → List ℕ → Bool
is_digits count line = eqb (length line) count && every_listed is_digit line
