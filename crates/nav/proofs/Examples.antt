-- Worked examples of reading at places.
-- Assumes nothing.
use mathlib.Core.Path.{◌≡◌, refl}
use mathlib.Core.Bool.{true, false}
use mathlib.Core.List.{[], ◌∷◌}
use Rattle.nav.specs.declared.Step.TheVariants.{More}
use Rattle.nav.specs.declared.members.Member.TheVariants as member
use Rattle.std.specs.Prelude.{Some, None}
use Rattle.json_text.specs.Parse.{tree_at, past_ws, front_run}
use Rattle.nav.specs.Places.{value_at}
use Rattle.nav.specs.Steps.{next_of, after_of, behind_of, open_of, inside_of}
use Rattle.nav.specs.Words.{is_string_at, is_string, is_version_at, is_version, dotted, spells, plains}
use Rattle.nav.specs.Integers.{integer_at, integer_of, spelled, decimal}
use Rattle.nav.specs.Members.{found_of, find_of, name_at, past_of}
use Rattle.nav.specs.MemberSteps.{member_of, first_member_of, next_member_of}

-- 4294967295 is an integer
largest : integer_at (tree_at 32 (52 ∷ 50 ∷ 57 ∷ 52 ∷ 57 ∷ 54 ∷ 55 ∷ 50 ∷ 57 ∷ 53 ∷ [])) ≡ Some 4294967295
unfolding tree_at integer_of spelled decimal
largest = refl

-- 4294967296 is none
too_large : integer_at (tree_at 32 (52 ∷ 50 ∷ 57 ∷ 52 ∷ 57 ∷ 54 ∷ 55 ∷ 50 ∷ 57 ∷ 54 ∷ [])) ≡ None
unfolding tree_at integer_of spelled decimal
too_large = refl

-- 1.0 is none
fraction : integer_at (tree_at 32 (49 ∷ 46 ∷ 48 ∷ [])) ≡ None
unfolding tree_at integer_of spelled decimal
fraction = refl

-- "a" is the word a
word : is_string_at (97 ∷ []) (tree_at 32 (34 ∷ 97 ∷ 34 ∷ [])) ≡ true
unfolding tree_at is_string spells plains
word = refl

-- "\u0061" is not
escaped : is_string_at (97 ∷ []) (tree_at 32 (34 ∷ 92 ∷ 117 ∷ 48 ∷ 48 ∷ 54 ∷ 49 ∷ 34 ∷ [])) ≡ false
unfolding tree_at is_string spells plains
escaped = refl

-- "2.0" is a version
version : is_version_at (tree_at 32 (34 ∷ 50 ∷ 46 ∷ 48 ∷ 34 ∷ [])) ≡ true
unfolding tree_at is_version dotted
version = refl

-- "2." is none
no_digit : is_version_at (tree_at 32 (34 ∷ 50 ∷ 46 ∷ 34 ∷ [])) ≡ false
unfolding tree_at is_version dotted
no_digit = refl

-- in {"n":1,"n":2} the first n has its value at 5
first_member : (let s = 123 ∷ 34 ∷ 110 ∷ 34 ∷ 58 ∷ 49 ∷ 44 ∷ 34 ∷ 110 ∷ 34 ∷ 58 ∷ 50 ∷ 125 ∷ [] in found_of s
    (110 ∷ []) s) ≡ 5
unfolding found_of find_of name_at value_at front_run past_ws open_of inside_of next_of after_of behind_of spells plains
first_member = refl

-- and the object ends at 13
past_member : (let s = 123 ∷ 34 ∷ 110 ∷ 34 ∷ 58 ∷ 49 ∷ 44 ∷ 34 ∷ 110 ∷ 34 ∷ 58 ∷ 50 ∷ 125 ∷ [] in past_of s s) ≡ 13
unfolding past_of value_at front_run
past_member = refl

-- its members one after the other: the first has its name at 1 and its value at 5
step_in : (let s = 123 ∷ 34 ∷ 110 ∷ 34 ∷ 58 ∷ 49 ∷ 44 ∷ 34 ∷ 110 ∷ 34 ∷ 58 ∷ 50 ∷ 125 ∷ [] in first_member_of s
    s) ≡ member.More 1 5
unfolding first_member_of member_of name_at value_at front_run past_ws open_of inside_of
step_in = refl

-- the second has its name at 7 and its value at 11
step_on : (let s = 123 ∷ 34 ∷ 110 ∷ 34 ∷ 58 ∷ 49 ∷ 44 ∷ 34 ∷ 110 ∷ 34 ∷ 58 ∷ 50 ∷ 125 ∷ [] in next_member_of s
    (49 ∷ 44 ∷ 34 ∷ 110 ∷ 34 ∷ 58 ∷ 50 ∷ 125 ∷ [])) ≡ member.More 7 11
unfolding next_member_of member_of name_at value_at front_run past_ws next_of after_of behind_of
step_on = refl

-- and it is the last
step_out : (let s = 123 ∷ 34 ∷ 110 ∷ 34 ∷ 58 ∷ 49 ∷ 44 ∷ 34 ∷ 110 ∷ 34 ∷ 58 ∷ 50 ∷ 125 ∷ [] in next_member_of s
    (50 ∷ 125 ∷ [])) ≡ member.End 13
unfolding next_member_of member_of name_at value_at front_run past_ws next_of after_of behind_of
step_out = refl

-- in [ 7 , 8 ] the element behind 7 is at 6
second_element : (let s = 91 ∷ 32 ∷ 55 ∷ 32 ∷ 44 ∷ 32 ∷ 56 ∷ 32 ∷ 93 ∷ [] in next_of 32 0x5d s
    (55 ∷ 32 ∷ 44 ∷ 32 ∷ 56 ∷ 32 ∷ 93 ∷ [])) ≡ More 6
unfolding next_of value_at front_run after_of behind_of past_ws
second_element = refl
