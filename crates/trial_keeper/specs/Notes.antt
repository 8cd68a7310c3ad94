-- The keeper's notes, eleven for each till: the last number given, the number held at each of five places (0 at a free one), a length for each place; and then
-- the rights, 1 for one that is given, four for each of eight users on each till.
use Rattle.std.specs.Prelude.{ℕ, suc, ◌+◌, ◌*◌, ◌%◌, ◌^◌, min, Bool, false, cond, ltb, List, [], ◌∷◌, ◌++◌, length, take, drop, set, ◌==◌, nat_le, nat_lt, slice_index, slice_set}
use Rattle.lists.specs.Lists.{counted, count, largest}
use Rattle.trial_compare.specs.Bytes.{wrong_bytes, others}

abbrev pub last_given : List ℕ → ℕ → ℕ
last_given notes till = slice_index notes (till * 11)

abbrev pub number_at : List ℕ → ℕ → ℕ → ℕ
number_at notes till place = slice_index notes (till * 11 + 1 + place)

abbrev pub length_at : List ℕ → ℕ → ℕ → ℕ
length_at notes till place = slice_index notes (till * 11 + 6 + place)

-- the numbers at the five places
unfoldable pub numbers : List ℕ → ℕ → List ℕ
numbers notes till = counted (number_at notes till) 0 5

-- how many held numbers are above `n`; above 0: all
unfoldable pub newer_than : List ℕ → ℕ → ℕ → ℕ
newer_than notes till n = count (ltb n) (numbers notes till)

unfoldable pub newest_of : List ℕ → ℕ → ℕ
newest_of notes till = largest (numbers notes till)

-- the lesser of two numbers, where 0 is none
unfoldable pub lesser_held : ℕ → ℕ → ℕ
lesser_held a b = cond (a == 0) b (cond (b == 0) a (cond (nat_lt b a) b a))

-- the least of the numbers other than 0; 0 if there is none
unfoldable pub least_held : List ℕ → ℕ
least_held [] = 0
least_held (n ∷ ns) = lesser_held n (least_held ns)

unfoldable pub oldest_of : List ℕ → ℕ → ℕ
oldest_of notes till = least_held (numbers notes till)

-- the first place of a number, where the list's first place is numbered `i`; past the end if it is not there
unfoldable pub first_place : ℕ → ℕ → List ℕ → ℕ
first_place n i [] = i
first_place n i (x ∷ xs) = cond (x == n) i (first_place n (suc i) xs)

unfoldable pub place_of : List ℕ → ℕ → ℕ → ℕ
place_of notes till n = first_place n 0 (numbers notes till)

-- no version has the number 0
unfoldable pub is_held : List ℕ → ℕ → ℕ → Bool
is_held notes till n = cond (n == 0) false (nat_lt (place_of notes till n) 5)

-- 0 for a version not held
unfoldable pub length_of : List ℕ → ℕ → ℕ → ℕ
length_of notes till n = cond (is_held notes till n) (length_at notes till (place_of notes till n)) 0

-- its place is free
abbrev pub struck : List ℕ → ℕ → ℕ → List ℕ
struck notes till n = cond (is_held notes till n) (slice_set notes (till * 11 + 1 + place_of notes till n) 0) notes

-- a version at a place, with its number and its length
abbrev pub noted : List ℕ → ℕ → ℕ → ℕ → ℕ → List ℕ
noted notes till place version bytes = slice_set (slice_set notes (till * 11 + 1 + place) version) (till * 11 + 6 + place) (min bytes 65536)

-- one more number is given; the version takes the first free place, if there is one
unfoldable pub filed : List ℕ → ℕ → ℕ → List ℕ
filed notes till bytes =
    let version = (last_given notes till + 1) % 2 ^ 32 in
    let given = set notes (till * 11) version in
    let place = place_of notes till 0 in
    cond (nat_lt place 5) (noted given till place version bytes) given

-- the images of a till's places stand one after the other, each with room for 1280 bytes
abbrev pub image_at : ℕ → ℕ → ℕ
image_at till place = (till * 5 + place) * 1280

-- an image stands from `at` on, if there is room for all of it
unfoldable pub with_image : List ℕ → ℕ → List ℕ → List ℕ
with_image images at image =
    cond (nat_le (at + length image) (length images)) (take at images ++ (image ++ drop (at + length image) images)) images

unfoldable pub filed_images : List ℕ → List ℕ → ℕ → List ℕ → List ℕ
filed_images images notes till image =
    let place = place_of notes till 0 in
    cond (nat_lt place 5) (with_image images (image_at till place) image) images

-- how many bytes of an output differ from those of an image that starts at `at`, or after it from 170, with which the output was marked;
-- where the image or the output is too short, the output's or the image's whole length
unfoldable pub wrong_from : List ℕ → ℕ → ℕ → List ℕ → ℕ
wrong_from images at bytes output =
    cond (nat_lt (length images) (at + bytes)) (length output)
    (cond (nat_lt (length output) bytes) bytes ((wrong_bytes (take bytes (drop at images)) (take bytes output) + others 170 (drop bytes output)) % 2 ^ 64))

-- an image's most bytes
abbrev pub most_bytes : ℕ → ℕ → ℕ
most_bytes blocks bytes = min (blocks * min bytes 512) 65536

-- ---- rights

abbrev pub right_note : ℕ → ℕ → ℕ → ℕ
right_note till user right = 33 + (till * 8 + user) * 4 + right

abbrev pub right_at : List ℕ → ℕ → ℕ → ℕ → ℕ
right_at notes till user right = slice_index notes (right_note till user right)

-- a user on a till: 3, 22, 23; the owner has all rights
abbrev pub user_refusal : ℕ → List ℕ → ℕ → ℕ → ℕ → ℕ
user_refusal tills notes user till right =
    cond (nat_le tills till) 3 (cond (nat_lt 7 user) 22 (cond (user == 0) 0 (cond (right_at notes till user right == 0) 23 0)))

-- what is the owner's only
abbrev pub owner_refusal : ℕ → ℕ
owner_refusal user = cond (nat_lt 7 user) 22 (cond (nat_lt 0 user) 23 0)

-- setting rights: 22 for either user
abbrev pub set_refusal : ℕ → ℕ → ℕ → ℕ → ℕ
set_refusal tills user subject till = cond (nat_le tills till) 3 (cond (subject == 0) 22 (cond (nat_lt 7 subject) 22 (owner_refusal user)))

abbrev pub rights_set : List ℕ → ℕ → ℕ → Bool → Bool → Bool → Bool → List ℕ
rights_set notes till user list back_up restore retire =
    set
    (set
    (slice_set (slice_set notes (right_note till user 0) (cond list 1 0)) (right_note till user 1) (cond back_up 1 0))
    (right_note till user 2) (cond restore 1 0))
    (right_note till user 3) (cond retire 1 0)

-- the page's numbers in their order; 14 and 16 are not the keeper's to tell
abbrev pub backup_refusal : ℕ → ℕ → ℕ → List ℕ → ℕ → ℕ → ℕ
backup_refusal tills versions most notes till bytes =
    cond (nat_le tills till) 3
    (cond (bytes == 0) 4
    (cond (nat_lt most bytes) 4
    (cond (nat_le versions (newer_than notes till 0)) 11
    (cond (nat_le 65535 (last_given notes till)) 12 0))))

-- of a number that is not held: never given, being 0 or above the last, or given before
abbrev pub missing_number : ℕ → ℕ → ℕ
missing_number last n = cond (n == 0) 17 (cond (nat_lt last n) 17 18)

abbrev pub restore_refusal : ℕ → List ℕ → ℕ → ℕ → ℕ → ℕ
restore_refusal tills notes till n room =
    cond (nat_le tills till) 3
    (cond (is_held notes till n) (cond (nat_lt room (length_of notes till n)) 5 0) (missing_number (last_given notes till) n))

abbrev pub retire_refusal : ℕ → List ℕ → ℕ → ℕ → ℕ
retire_refusal tills notes till n = cond (nat_le tills till) 3 (cond (is_held notes till n) 0 (missing_number (last_given notes till) n))
