-- What is a formula and what is not, computed: the examples of document 01, section 3, its limits, and the points that
-- docs/DECISIONS.md decides. Assumes nothing.
use Prim.Native.String.{String}
use Rattle.std.proofs.Common.{◌≡◌, refl, [], ◌∷◌}
use Rattle.std.proofs.Math.Option.{Option, none, some}
use Rattle.meaning.specs.Meaning.{pos, neg, Formula}
use Rattle.rules.specs.Tools.{bytes}
use Rattle.rules.specs.Formula.{header, read_formula}
use Rattle.rules.specs.Written.{write_formula}

abbrev reads : String → Option Formula
unfolding read_formula
reads s = read_formula (bytes s)

-- Readable.

plain : reads "p cnf 2 2\n1 -2 0\n2 0\n" ≡ some (record { vars = 2; clauses = (pos 1 ∷ neg 2 ∷ []) ∷ (pos 2 ∷ []) ∷ [] })
unfolding read_formula
plain = refl

comments_first : reads "c hello\nc\np cnf 1 1\n1 0\n" ≡ some (record { vars = 1; clauses = (pos 1 ∷ []) ∷ [] })
unfolding read_formula
comments_first = refl

lines_have_no_meaning : reads "p cnf 2 2\n 1\t-2\r\n0 2\n\n0" ≡ some (record { vars = 2; clauses = (pos 1 ∷ neg 2 ∷ []) ∷ (pos 2 ∷ []) ∷ [] })
unfolding read_formula
lines_have_no_meaning = refl

no_clauses : reads "p cnf 0 0" ≡ some (record { vars = 0; clauses = [] })
unfolding read_formula
no_clauses = refl

no_clauses_with_a_line_feed : reads "p cnf 0 0\n" ≡ some (record { vars = 0; clauses = [] })
unfolding read_formula
no_clauses_with_a_line_feed = refl

the_empty_clause : reads "p cnf 0 1\n0" ≡ some (record { vars = 0; clauses = [] ∷ [] })
unfolding read_formula
the_empty_clause = refl

repeats_are_kept : reads "p cnf 1 2\n1 1 0 0" ≡ some (record { vars = 1; clauses = (pos 1 ∷ pos 1 ∷ []) ∷ [] ∷ [] })
unfolding read_formula
repeats_are_kept = refl

a_literal_and_its_opposite : reads "p cnf 1 1\n1 -1 0\n" ≡ some (record { vars = 1; clauses = (pos 1 ∷ neg 1 ∷ []) ∷ [] })
unfolding read_formula
a_literal_and_its_opposite = refl

greatest_V : reads "p cnf 16777215 1\n16777215 -16777215 0\n" ≡ some (record { vars = 16777215; clauses = (pos 16777215 ∷ neg 16777215 ∷ []) ∷ [] })
unfolding read_formula
greatest_V = refl

-- Unreadable.

empty_file : reads "" ≡ none
unfolding read_formula
empty_file = refl

only_a_comment : reads "c only\n" ≡ none
unfolding read_formula
only_a_comment = refl

ends_inside_a_comment : reads "c only" ≡ none
unfolding read_formula
ends_inside_a_comment = refl

no_header : reads "1 0\n" ≡ none
unfolding read_formula
no_header = refl

two_spaces : reads "p cnf  1 1\n1 0\n" ≡ none
unfolding read_formula
two_spaces = refl

space_before_the_header : reads " p cnf 1 1\n1 0\n" ≡ none
unfolding read_formula
space_before_the_header = refl

space_behind_the_header : reads "p cnf 1 1 \n1 0\n" ≡ none
unfolding read_formula
space_behind_the_header = refl

carriage_return_behind_the_header : reads "p cnf 1 1\r\n1 0\n" ≡ none
unfolding read_formula
carriage_return_behind_the_header = refl

tab_in_the_header : reads "p cnf\t1 1\n1 0\n" ≡ none
unfolding read_formula
tab_in_the_header = refl

one_number_in_the_header : reads "p cnf 1\n1 0\n" ≡ none
unfolding read_formula
one_number_in_the_header = refl

three_numbers_in_the_header : reads "p cnf 1 1 1\n1 0\n" ≡ none
unfolding read_formula
three_numbers_in_the_header = refl

no_line_behind_the_header : reads "p cnf 1 1 1 0" ≡ none
unfolding read_formula
no_line_behind_the_header = refl

negative_V : reads "p cnf -1 0\n" ≡ none
unfolding read_formula
negative_V = refl

negative_C : reads "p cnf 1 -1\n1 0\n" ≡ none
unfolding read_formula
negative_C = refl

minus_zero_V : reads "p cnf -0 0\n" ≡ none
unfolding read_formula
minus_zero_V = refl

V_too_large : reads "p cnf 16777216 0\n" ≡ none
unfolding read_formula
V_too_large = refl

too_few_for_C : reads "p cnf 1 16777216\n1 0\n" ≡ none
unfolding read_formula
too_few_for_C = refl

V_with_a_leading_zero : reads "p cnf 01 1\n1 0\n" ≡ none
unfolding read_formula
V_with_a_leading_zero = refl

V_with_a_plus : reads "p cnf +1 1\n1 0\n" ≡ none
unfolding read_formula
V_with_a_plus = refl

one_too_many : reads "p cnf 1 1\n1 0 1 0\n" ≡ none
unfolding read_formula
one_too_many = refl

one_too_few : reads "p cnf 1 2\n1 0\n" ≡ none
unfolding read_formula
one_too_few = refl

last_0_missing : reads "p cnf 1 1\n1\n" ≡ none
unfolding read_formula
last_0_missing = refl

literals_behind_the_last_0 : reads "p cnf 1 1\n1 0 1\n" ≡ none
unfolding read_formula
literals_behind_the_last_0 = refl

literal_beyond_V : reads "p cnf 1 1\n2 0\n" ≡ none
unfolding read_formula
literal_beyond_V = refl

negative_literal_beyond_V : reads "p cnf 1 1\n-2 0\n" ≡ none
unfolding read_formula
negative_literal_beyond_V = refl

not_1 : reads "p cnf 1 1\n4294967297 0\n" ≡ none
unfolding read_formula
not_1 = refl

not_minus_1 : reads "p cnf 1 1\n-4294967297 0\n" ≡ none
unfolding read_formula
not_minus_1 = refl

not_1_by_64_bits : reads "p cnf 1 1\n18446744073709551617 0\n" ≡ none
unfolding read_formula
not_1_by_64_bits = refl

literal_too_large : reads "p cnf 16777215 1\n16777216 0\n" ≡ none
unfolding read_formula
literal_too_large = refl

minus_zero : reads "p cnf 1 1\n1 -0\n" ≡ none
unfolding read_formula
minus_zero = refl

plus_one : reads "p cnf 1 1\n+1 0\n" ≡ none
unfolding read_formula
plus_one = refl

leading-zero : reads "p cnf 1 1\n01 0\n" ≡ none
unfolding read_formula
leading-zero = refl

two_zeros : reads "p cnf 1 1\n1 00\n" ≡ none
unfolding read_formula
two_zeros = refl

only_a_minus : reads "p cnf 1 1\n- 0\n" ≡ none
unfolding read_formula
only_a_minus = refl

two_minuses : reads "p cnf 1 1\n--1 0\n" ≡ none
unfolding read_formula
two_minuses = refl

a_letter : reads "p cnf 1 1\nd 0\n" ≡ none
unfolding read_formula
a_letter = refl

percent_at_the_end : reads "p cnf 1 1\n1 0\n%\n0\n" ≡ none
unfolding read_formula
percent_at_the_end = refl

comment_between_clauses : reads "p cnf 1 2\n1 0\nc x\n1 0\n" ≡ none
unfolding read_formula
comment_between_clauses = refl

comment_at_the_end : reads "p cnf 1 1\n1 0\nc x\n" ≡ none
unfolding read_formula
comment_at_the_end = refl

directly_behind_the_last_0 : reads "p cnf 1 1\n1 0xyz\n" ≡ none
unfolding read_formula
directly_behind_the_last_0 = refl

no_blank_before_the_0 : reads "p cnf 1 1\n1-0\n" ≡ none
unfolding read_formula
no_blank_before_the_0 = refl

an_empty_line_first : reads "\np cnf 0 0\n" ≡ none
unfolding read_formula
an_empty_line_first = refl

two_literals_with_no_blank : reads "p cnf 2 1\n1-2 0\n" ≡ none
unfolding read_formula
two_literals_with_no_blank = refl

vertical_tab : reads "p cnf 1 1\n1\u{b}0\n" ≡ none
unfolding read_formula
vertical_tab = refl

form_feed : reads "p cnf 1 1\n1\u{c}0\n" ≡ none
unfolding read_formula
form_feed = refl

zero_byte : reads "p cnf 1 1\n1\00\n" ≡ none
unfolding read_formula
zero_byte = refl

byte_above_127 : reads "p cnf 1 1\n1\u{a0}0\n" ≡ none
unfolding read_formula
byte_above_127 = refl

C_with_a_plus : reads "p cnf 1 +1\n1 0\n" ≡ none
unfolding read_formula
C_with_a_plus = refl

C_with_a_leading_zero : reads "p cnf 1 01\n1 0\n" ≡ none
unfolding read_formula
C_with_a_leading_zero = refl

minus_zero_C : reads "p cnf 0 -0\n" ≡ none
unfolding read_formula
minus_zero_C = refl

-- The limits of V and C, on the header alone.

header_at_the_limits : header (bytes "p cnf 16777215 16777215") ≡ some (16777215, 16777215)
unfolding header
header_at_the_limits = refl

header_with_V_too_large : header (bytes "p cnf 16777216 1") ≡ none
unfolding header
header_with_V_too_large = refl

header_with_C_too_large : header (bytes "p cnf 1 16777216") ≡ none
unfolding header
header_with_C_too_large = refl

-- Written.

written : write_formula (record { vars = 12; clauses = (pos 1 ∷ neg 12 ∷ pos 1 ∷ []) ∷ [] ∷ [] }) ≡ bytes "p cnf 12 2\n1 -12 1 0\n0\n"
unfolding write_formula
written = refl

written-greatest : write_formula (record { vars = 16777215; clauses = (neg 16777215 ∷ []) ∷ [] }) ≡ bytes "p cnf 16777215 1\n-16777215 0\n"
unfolding write_formula
written-greatest = refl

written_nothing : write_formula (record { vars = 0; clauses = [] }) ≡ bytes "p cnf 0 0\n"
unfolding write_formula
written_nothing = refl
