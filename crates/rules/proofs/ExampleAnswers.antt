-- The vectors of document 01, sections 6 and 7, and some beyond it, computed from the definitions. `says` gives the answer,
-- `ends` the ground of a refusal as well. Assumes nothing.
use Prim.Native.String.{String}
use Rattle.std.proofs.Common.{◌≡◌, refl}
use Rattle.std.proofs.Math.Option.{none, some}
use Rattle.rules.specs.Tools.{bytes}
use Rattle.rules.specs.Judging.{id_not_fresh, opposite_literals, hint_not_live, hint_not_forced, no_conflict, groups_dont_match, deletion_not_live}
use Rattle.rules.specs.Answers.{
  Answer,
  verified,
  unreadable_formula,
  unreadable_step,
  refused_step,
  unfinished,
  Ending,
  ends_refused,
  ending,
  verdict,
}

abbrev says : String → String → Answer
unfolding verdict
says f p = verdict (bytes f) (bytes p)

abbrev ends : String → String → Ending
unfolding ending
ends f p = ending (bytes f) (bytes p)

abbrev R : String
R = "p cnf 4 8\n1 2 -3 0\n-1 -2 3 0\n2 3 -4 0\n-2 -3 4 0\n-1 -3 -4 0\n1 3 4 0\n-1 2 4 0\n1 -2 -4 0\n"

-- Section 6, formula R.

four_steps : says R "9 1 2 0 1 3 6 0\n10 1 0 9 8 4 6 0\n11 2 0 9 7 3 5 0\n12 0 10 11 2 4 5 0\n" ≡ verified 4
unfolding verdict
four_steps = refl

other_ids : says R "900 1 2 0 1 3 6 0\n901 1 0 900 8 4 6 0\n902 2 0 900 7 3 5 0\n950 0 901 902 2 4 5 0\n" ≡ verified 4
unfolding verdict
other_ids = refl

hint_behind_conflict : says R "9 1 2 0 1 3 6 777 0\n10 1 0 9 8 4 6 0\n11 2 0 9 7 3 5 0\n12 0 10 11 2 4 5 0\n" ≡ verified 4
unfolding verdict
hint_behind_conflict = refl

bytes_behind_the_end : says R "9 1 2 0 1 3 6 0\n10 1 0 9 8 4 6 0\n11 2 0 9 7 3 5 0\n12 0 10 11 2 4 5 0\nxyz" ≡ verified 4
unfolding verdict
bytes_behind_the_end = refl

with_groups : says R "9 -1 0 -1 5 7 -6 2 7 -8 2 5 0\n9 d 2 5 7 0\n10 2 0 9 1 3 6 0\n11 0 9 10 8 4 6 0\n" ≡ verified 4
unfolding verdict
with_groups = refl

no_group_for_8 : says R "9 -1 0 -1 5 7 -6 2 7 0\n" ≡ refused_step 1
unfolding verdict
no_group_for_8 = refl

no_group_for_8_ground : ends R "9 -1 0 -1 5 7 -6 2 7 0\n" ≡ ends_refused 1 (groups_dont_match 8)
unfolding ending
no_group_for_8_ground = refl

groups_out_of_order : says R "9 -1 0 -6 2 7 -1 5 7 -8 2 5 0\n" ≡ refused_step 1
unfolding verdict
groups_out_of_order = refl

groups_out_of_order_ground : ends R "9 -1 0 -6 2 7 -1 5 7 -8 2 5 0\n" ≡ ends_refused 1 (groups_dont_match 1)
unfolding ending
groups_out_of_order_ground = refl

one_step_and_no_more : says R "9 1 2 0 1 3 6 0\n" ≡ unfinished 1
unfolding verdict
one_step_and_no_more = refl

nothing : says R "" ≡ unfinished 0
unfolding verdict
nothing = refl

id_in_use : says R "8 1 2 0 1 3 6 0\n" ≡ refused_step 1
unfolding verdict
id_in_use = refl

id_in_use_ground : ends R "8 1 2 0 1 3 6 0\n" ≡ ends_refused 1 (id_not_fresh 8)
unfolding ending
id_in_use_ground = refl

hint_not_live_lem : says R "9 1 2 0 1 3 99 0\n" ≡ refused_step 1
unfolding verdict
hint_not_live_lem = refl

hint_not_live_ground : ends R "9 1 2 0 1 3 99 0\n" ≡ ends_refused 1 (hint_not_live 99)
unfolding ending
hint_not_live_ground = refl

hint_not_ready : says R "9 1 2 0 3 1 6 0\n" ≡ refused_step 1
unfolding verdict
hint_not_ready = refl

hint_not_ready_ground : ends R "9 1 2 0 3 1 6 0\n" ≡ ends_refused 1 (hint_not_forced 3)
unfolding ending
hint_not_ready_ground = refl

deleted_twice : says R "9 d 1 0\n9 d 1 0\n" ≡ refused_step 2
unfolding verdict
deleted_twice = refl

deleted_twice_ground : ends R "9 d 1 0\n9 d 1 0\n" ≡ ends_refused 2 (deletion_not_live 1)
unfolding ending
deleted_twice_ground = refl

ends_inside_a_step : says R "9 1 2 0 1 3 6" ≡ unreadable_step 1
unfolding verdict
ends_inside_a_step = refl

opposites_added : says R "9 1 -1 0 0\n" ≡ refused_step 1
unfolding verdict
opposites_added = refl

opposites_added_ground : ends R "9 1 -1 0 0\n" ≡ ends_refused 1 opposite_literals
unfolding ending
opposites_added_ground = refl

a_name_for_1_and_2 : says R "9 5 -1 -2 0 0\n10 -5 1 0 -9 0\n11 -5 2 0 -9 0\n" ≡ unfinished 3
unfolding verdict
a_name_for_1_and_2 = refl

-- Section 6, three pigeons and two holes, repeated literals, a formula with a solution, the empty clause.

pigeons : says "p cnf 6 9\n1 2 0 3 4 0 5 6 0 -1 -3 0 -1 -5 0 -3 -5 0 -2 -4 0 -2 -6 0 -4 -6 0\n" "10 -1 0 4 2 5 3 9 0\n11 0 10 1 7 2 6 3 8 0\n" ≡ verified 2
unfolding verdict
pigeons = refl

repeated_literals : says "p cnf 1 2\n1 1 0\n-1 -1 -1 0\n" "3 0 1 2 0\n" ≡ verified 1
unfolding verdict
repeated_literals = refl

no_group : says "p cnf 1 1\n1 0\n" "2 -1 0 0\n3 0 1 2 0\n" ≡ refused_step 1
unfolding verdict
no_group = refl

no_group_ground : ends "p cnf 1 1\n1 0\n" "2 -1 0 0\n3 0 1 2 0\n" ≡ ends_refused 1 (groups_dont_match 1)
unfolding ending
no_group_ground = refl

group_with_no_conflict : says "p cnf 1 1\n1 0\n" "2 -1 0 -1 0\n3 0 1 2 0\n" ≡ refused_step 1
unfolding verdict
group_with_no_conflict = refl

group_with_no_conflict_ground : ends "p cnf 1 1\n1 0\n" "2 -1 0 -1 0\n3 0 1 2 0\n" ≡ ends_refused 1 (no_conflict (some 1))
unfolding ending
group_with_no_conflict_ground = refl

empty_clause_given : says "p cnf 0 1\n0\n" "" ≡ unfinished 0
unfolding verdict
empty_clause_given = refl

empty_clause_used : says "p cnf 0 1\n0\n" "2 0 1 0\n" ≡ verified 1
unfolding verdict
empty_clause_used = refl

-- Section 7: what careless checkers call unsolvable.

wrong_1_groups_not_asked_for : says "p cnf 1 1\n1 0\n" "2 -1 0 0\n3 0 1 2 0\n" ≡ refused_step 1
unfolding verdict
wrong_1_groups_not_asked_for = refl

wrong_2_assignment_carried_over : says "p cnf 3 4\n1 2 0\n2 0\n1 3 0\n-3 0\n" "5 -1 0 -1 2 -3 2 0\n6 0 5 3 4 0\n" ≡ refused_step 1
unfolding verdict
wrong_2_assignment_carried_over = refl

wrong_2_assignment_carried_over_ground : ends "p cnf 3 4\n1 2 0\n2 0\n1 3 0\n-3 0\n" "5 -1 0 -1 2 -3 2 0\n6 0 5 3 4 0\n" ≡ ends_refused 1 (no_conflict (some 3))
unfolding ending
wrong_2_assignment_carried_over_ground = refl

wrong_3_first_of_two_open : says "p cnf 2 2\n1 2 0\n-1 0\n" "3 0 1 2 0\n" ≡ refused_step 1
unfolding verdict
wrong_3_first_of_two_open = refl

wrong_3_first_of_two_open_ground : ends "p cnf 2 2\n1 2 0\n-1 0\n" "3 0 1 2 0\n" ≡ ends_refused 1 (hint_not_forced 1)
unfolding ending
wrong_3_first_of_two_open_ground = refl

wrong_4_deleted_as_hint : says "p cnf 1 1\n1 0\n" "1 d 1 0\n2 -1 0 0\n3 0 1 2 0\n" ≡ refused_step 3
unfolding verdict
wrong_4_deleted_as_hint = refl

wrong_4_deleted_as_hint_ground : ends "p cnf 1 1\n1 0\n" "1 d 1 0\n2 -1 0 0\n3 0 1 2 0\n" ≡ ends_refused 3 (hint_not_live 1)
unfolding ending
wrong_4_deleted_as_hint_ground = refl

wrong_5_modulo : says "p cnf 1 1\n4294967297 0\n" "" ≡ unreadable_formula
unfolding verdict
wrong_5_modulo = refl

-- Beyond the document: the ground that no vector has, grounds in the order of the rules, and steps at the limits.

no_conflict_and_empty : says "p cnf 1 1\n1 0\n" "2 0 1 0\n" ≡ refused_step 1
unfolding verdict
no_conflict_and_empty = refl

no_conflict_and_empty_ground : ends "p cnf 1 1\n1 0\n" "2 0 1 0\n" ≡ ends_refused 1 (no_conflict none)
unfolding ending
no_conflict_and_empty_ground = refl

mismatch_before_bad_hint : says "p cnf 1 2\n1 0\n1 0\n" "3 -1 0 -1 99 0\n" ≡ refused_step 1
unfolding verdict
mismatch_before_bad_hint = refl

mismatch_before_bad_hint_ground : ends "p cnf 1 2\n1 0\n1 0\n" "3 -1 0 -1 99 0\n" ≡ ends_refused 1 (groups_dont_match 2)
unfolding ending
mismatch_before_bad_hint_ground = refl

fresh_before_opposites : says "p cnf 1 1\n1 0\n" "1 1 -1 0 0\n" ≡ refused_step 1
unfolding verdict
fresh_before_opposites = refl

fresh_before_opposites_ground : ends "p cnf 1 1\n1 0\n" "1 1 -1 0 0\n" ≡ ends_refused 1 (id_not_fresh 1)
unfolding ending
fresh_before_opposites_ground = refl

opposites_before_hints : says "p cnf 1 1\n1 0\n" "2 1 -1 0 99 0\n" ≡ refused_step 1
unfolding verdict
opposites_before_hints = refl

opposites_before_hints_ground : ends "p cnf 1 1\n1 0\n" "2 1 -1 0 99 0\n" ≡ ends_refused 1 opposite_literals
unfolding ending
opposites_before_hints_ground = refl

id_at_the_limit : says "p cnf 1 1\n1 0\n" "268435455 1 0 1 0\n" ≡ unfinished 1
unfolding verdict
id_at_the_limit = refl

id_beyond_the_limit : says "p cnf 1 1\n1 0\n" "268435456 1 0 1 0\n" ≡ unreadable_step 1
unfolding verdict
id_beyond_the_limit = refl

hint_at_the_limit : says "p cnf 1 1\n1 0\n" "2 1 0 268435455 0\n" ≡ refused_step 1
unfolding verdict
hint_at_the_limit = refl

hint_at_the_limit_ground : ends "p cnf 1 1\n1 0\n" "2 1 0 268435455 0\n" ≡ ends_refused 1 (hint_not_live 268435455)
unfolding ending
hint_at_the_limit_ground = refl

hint_beyond_the_limit : says "p cnf 1 1\n1 0\n" "2 1 0 268435456 0\n" ≡ unreadable_step 1
unfolding verdict
hint_beyond_the_limit = refl

group_beyond_the_limit : says "p cnf 1 1\n1 0\n" "2 1 0 -268435456 0\n" ≡ unreadable_step 1
unfolding verdict
group_beyond_the_limit = refl

step_literal_at_the_limit : says "p cnf 1 1\n1 0\n" "2 16777215 0 0\n" ≡ unfinished 1
unfolding verdict
step_literal_at_the_limit = refl

step_literal_beyond_the_limit : says "p cnf 1 1\n1 0\n" "2 16777216 0 0\n" ≡ unreadable_step 1
unfolding verdict
step_literal_beyond_the_limit = refl

step_literal_modulo : says "p cnf 1 1\n1 0\n" "2 4294967297 0 0\n" ≡ unreadable_step 1
unfolding verdict
step_literal_modulo = refl

deletion_under_id_0 : says "p cnf 1 1\n1 0\n" "0 d 1 0\n" ≡ unreadable_step 1
unfolding verdict
deletion_under_id_0 = refl

deletion_under_a_negative_id : says "p cnf 1 1\n1 0\n" "-1 d 1 0\n" ≡ unreadable_step 1
unfolding verdict
deletion_under_a_negative_id = refl

deletion_under_any_id : says "p cnf 1 1\n1 0\n" "77 d 1 0\n" ≡ unfinished 1
unfolding verdict
deletion_under_any_id = refl

deletion_of_nothing : says "p cnf 1 1\n1 0\n" "1 d 0\n" ≡ unfinished 1
unfolding verdict
deletion_of_nothing = refl

deletion_of_a_negative_id : says "p cnf 1 1\n1 0\n" "1 d -1 0\n" ≡ unreadable_step 1
unfolding verdict
deletion_of_a_negative_id = refl

letter_in_a_list : says "p cnf 1 1\n1 0\n" "2 1 d 0 0\n" ≡ unreadable_step 1
unfolding verdict
letter_in_a_list = refl

directly_behind_the_last_0 : says "p cnf 1 1\n1 0\n" "2 1 0 1 0xyz\n" ≡ unreadable_step 1
unfolding verdict
directly_behind_the_last_0 = refl

an_unreadable_step_is_not_judged : says "p cnf 1 1\n1 0\n" "1 1 0 99 x 0\n" ≡ unreadable_step 1
unfolding verdict
an_unreadable_step_is_not_judged = refl

a_group_too_many : says "p cnf 2 2\n1 2 0\n2 0\n" "3 -1 0 -1 2 -2 0\n" ≡ refused_step 1
unfolding verdict
a_group_too_many = refl

a_group_too_many_ground : ends "p cnf 2 2\n1 2 0\n2 0\n" "3 -1 0 -1 2 -2 0\n" ≡ ends_refused 1 (groups_dont_match 2)
unfolding ending
a_group_too_many_ground = refl

a_group_for_another_clause : says "p cnf 3 3\n1 2 0\n2 0\n1 3 0\n" "4 -1 0 -1 2 -2 0\n" ≡ refused_step 1
unfolding verdict
a_group_for_another_clause = refl

a_group_for_another_clause_ground : ends "p cnf 3 3\n1 2 0\n2 0\n1 3 0\n" "4 -1 0 -1 2 -2 0\n" ≡ ends_refused 1 (groups_dont_match 2)
unfolding ending
a_group_for_another_clause_ground = refl

a_group_twice : says "p cnf 2 2\n1 2 0\n2 0\n" "3 -1 0 -1 2 -1 2 0\n" ≡ refused_step 1
unfolding verdict
a_group_twice = refl

a_group_twice_ground : ends "p cnf 2 2\n1 2 0\n2 0\n" "3 -1 0 -1 2 -1 2 0\n" ≡ ends_refused 1 (groups_dont_match 1)
unfolding ending
a_group_twice_ground = refl

group_hint_not_live : says "p cnf 2 2\n1 2 0\n2 0\n" "3 -1 0 -1 99 0\n" ≡ refused_step 1
unfolding verdict
group_hint_not_live = refl

group_hint_not_live_ground : ends "p cnf 2 2\n1 2 0\n2 0\n" "3 -1 0 -1 99 0\n" ≡ ends_refused 1 (hint_not_live 99)
unfolding ending
group_hint_not_live_ground = refl

group_at_the_limit : says "p cnf 1 1\n1 0\n" "2 -1 0 -268435455 0\n" ≡ refused_step 1
unfolding verdict
group_at_the_limit = refl

group_at_the_limit_ground : ends "p cnf 1 1\n1 0\n" "2 -1 0 -268435455 0\n" ≡ ends_refused 1 (groups_dont_match 1)
unfolding ending
group_at_the_limit_ground = refl

opposites_in_a_group_clause : says "p cnf 2 1\n1 2 -2 0\n" "2 -1 0 -1 0\n" ≡ unfinished 1
unfolding verdict
opposites_in_a_group_clause = refl

hints_of_a_done_group : says "p cnf 2 1\n1 2 0\n" "2 -1 -2 0 -1 99 0\n" ≡ unfinished 1
unfolding verdict
hints_of_a_done_group = refl

a_true_literal_in_a_hint : says "p cnf 2 2\n1 0\n1 2 0\n" "3 0 1 2 0\n" ≡ refused_step 1
unfolding verdict
a_true_literal_in_a_hint = refl

a_true_literal_in_a_hint_ground : ends "p cnf 2 2\n1 0\n1 2 0\n" "3 0 1 2 0\n" ≡ ends_refused 1 (hint_not_forced 2)
unfolding ending
a_true_literal_in_a_hint_ground = refl

groups_go_on_from_rule_3 : says "p cnf 3 3\n2 0\n1 3 0\n-2 3 0\n" "4 -1 0 1 -2 3 0\n" ≡ unfinished 1
unfolding verdict
groups_go_on_from_rule_3 = refl

deletion_of_an_id_beyond_the_limit : says "p cnf 1 1\n1 0\n" "1 d 268435456 0\n" ≡ unreadable_step 1
unfolding verdict
deletion_of_an_id_beyond_the_limit = refl

deletion_under_an_id_beyond_the_limit : says "p cnf 1 1\n1 0\n" "268435456 d 1 0\n" ≡ unreadable_step 1
unfolding verdict
deletion_under_an_id_beyond_the_limit = refl

plus_in_a_step : says "p cnf 1 1\n1 0\n" "+2 1 0 1 0\n" ≡ unreadable_step 1
unfolding verdict
plus_in_a_step = refl
