-- A till's words split at its newest version, and at its first slot that is left.
use mathlib.Core.Path.{◌≡◌, refl, sym, ap, ap₂, ◌∙◌, subst}
use mathlib.Core.List.{List, [], ◌∷◌, ◌++◌, map, append-nil, append_assoc}
use Prim.Native.Nat.{ℕ, zero, suc, ◌+◌, ◌*◌, ◌-◌, ◌≤◌, ◌<◌}
use native.Mathlib.Nat.{mul-le-mul_right, suc-mul, not-suc-le-zero}
use native.Mathlib.Omega.{arith}
use lib.ListN.{length, get_or, take, drop, length-append, length-map, length-drop, get_or-append}
use lib.Seq.{take_at, drop_at, get_or-append-add, length-take-le, drop-nil, get_or-take}
use borrow.Rule.Slice.PartMut.{mid_of, put_mid}
use Rattle.lists.specs.Each.{Each}
use Rattle.lists.specs.Lists.{last_of}
use Rattle.lists.specs.Rows.{fill, rows, joined}
use Rattle.lists.proofs.Rows.{fill_split, length_fill, fill_add, rows_append}
use Rattle.lists.proofs.Slices.{mid_is, mid_put, tail_is, tail_put, none_left}
use Rattle.lists.proofs.Filled.{over_fill, over_zeros}
use Rattle.model.specs.Measures.{parts_for}
use Rattle.model.specs.State.{Pointer, Version, with_pointers, Rights, Till}
use Rattle.model.specs.Table.{pointer_word, version_to_words, rights_word, till_to_words}
use Rattle.model.specs.Calls.{newest_pointers, with_newest_pointers, till_with}
use Rattle.laws.proofs.Newest.{newest_last, with_last}
use Rattle.laws.proofs.RoundTrip.{held_word, last_word}
use Rattle.slots.proofs.Slots.{Ends, ends, front, front_length, rows_length, slot_head}
use Rattle.laws.proofs.Measures.{parts_enough}
use Rattle.backup_file.specs.Filing.{newest_at, Room, FewBlocks, HasPointers, VersionsFit, turned_till, added_till, SameHead, HasFreeSlot}

-- ---- the versions before the newest, and the newest

pub turned_is : (us : List Version) (u : Version) (ps : List Pointer) → with_newest_pointers (us ++ (u ∷ [])) ps ≡ us ++ (with_pointers u ps ∷ [])
turned_is us u ps = sym (append-nil (with_newest_pointers (us ++ (u ∷ [])) ps)) ∙ with_last us u ps []

length_one : (us : List Version) (u : Version) → length (us ++ (u ∷ [])) ≡ suc (length us)
length_one us u = omega (arith, length-append us (u ∷ []))

newest_each : (P : Version → Type 0) (us : List Version) (u : Version) → Each P (us ++ (u ∷ [])) → P u
newest_each P [] u e = e.0
newest_each P (x ∷ us) u e = newest_each P us u e.1

-- ---- the till's words

-- the slots that are left behind n
unfoldable pub left : ℕ → ℕ → ℕ → List ℕ
left v b n = fill (v * (3 + b) - n * (3 + b)) []

pub till_open : (v b last : ℕ) (rights : List Rights) (us : List Version) → length us ≤ v
    → till_to_words v b (record { last = last; rights = rights; versions = us }) ≡ front b last rights (length us) us ++ left v b (length us)
unfolding till_to_words front left
till_open v b last rights us h =
    let m : length us * (3 + b) ≤ v * (3 + b) = mul-le-mul_right (3 + b) h in
    let e : fill (v * (3 + b)) (rows (version_to_words b) us) ≡ rows (version_to_words b) us ++ fill (v * (3 + b) - length (rows (version_to_words b) us)) [] =
    fill_split (v * (3 + b)) (rows (version_to_words b) us) (omega (arith, rows_length b us)) in
    ap (λ (l : List ℕ). last ∷ length us ∷ rights_word rights ∷ 0 ∷ l) (e ∙ ap (λ (n : ℕ). rows (version_to_words b) us ++ fill (v * (3 + b) - n) []) (rows_length b us))

one_row : (b : ℕ) (us : List Version) (u : Version) → rows (version_to_words b) (us ++ (u ∷ [])) ≡ rows (version_to_words b) us ++ version_to_words b u
unfolding joined
one_row b us u = rows_append (version_to_words b) us (u ∷ []) ∙ ap (λ (l : List ℕ). rows (version_to_words b) us ++ l) (append-nil (version_to_words b u))

pub till_split : (v b last : ℕ) (rights : List Rights) (us : List Version) (u : Version) → length us < v
    → till_to_words v b (record { last = last; rights = rights; versions = us ++ (u ∷ []) }) ≡ front b last rights (suc (length us)) us ++ (version_to_words b u ++ left v b (suc (length us)))
till_split v b last rights us u h =
    till_open v b last rights (us ++ (u ∷ [])) (omega (arith, length_one us u))
    ∙ ap (λ (n : ℕ). front b last rights n (us ++ (u ∷ [])) ++ left v b n) (length_one us u)
    ∙ ap (λ (l : List ℕ). l ++ left v b (suc (length us))) (longer (suc (length us)))
    ∙ append_assoc (front b last rights (suc (length us)) us) (version_to_words b u) (left v b (suc (length us)))
  where
    longer : (n : ℕ) → front b last rights n (us ++ (u ∷ [])) ≡ front b last rights n us ++ version_to_words b u
    longer n = unfold front in ap (λ (l : List ℕ). last ∷ n ∷ rights_word rights ∷ 0 ∷ l) (one_row b us u)

-- a slot that is left
pub till_slot : (v b last : ℕ) (rights : List Rights) (us : List Version) → length us < v
    → till_to_words v b (record { last = last; rights = rights; versions = us }) ≡ front b last rights (length us) us ++ (fill (3 + b) [] ++ left v b (suc (length us)))
unfolding left
till_slot v b last rights us h =
    let m : suc (length us) * (3 + b) ≤ v * (3 + b) = mul-le-mul_right (3 + b) h in
    let n : v * (3 + b) - length us * (3 + b) ≡ (3 + b) + (v * (3 + b) - suc (length us) * (3 + b)) = omega (arith, m, suc-mul (length us) (3 + b)) in
    till_open v b last rights us (omega arith)
    ∙ ap (λ (k : ℕ). front b last rights (length us) us ++ fill k []) n
    ∙ ap (λ (l : List ℕ). front b last rights (length us) us ++ l)
    (fill_add (3 + b) (v * (3 + b) - suc (length us) * (3 + b)) []
    ∙ ap (λ (l : List ℕ). fill (3 + b) [] ++ fill (v * (3 + b) - suc (length us) * (3 + b)) l) (drop-nil (3 + b)))

-- ---- numbers

pub newest_slot : (k w n : ℕ) → 0 < k → 4 + k * w ≤ n → 4 + (k - 1) * w + w ≤ n
newest_slot zero w n h m = absurd (not-suc-le-zero h)
newest_slot (suc k) w n h m = let e : suc k - 1 ≡ k = omega arith in rw e (omega (arith, m, suc-mul k w))

-- ---- the newest version's pointers

cong_till : (v b last : ℕ) (rights : List Rights) (vs ws : List Version) → vs ≡ ws → till_to_words v b (record { last = last; rights = rights; versions = vs }) ≡ till_to_words v b (record { last = last; rights = rights; versions = ws })
cong_till v b last rights vs ws e = ap (λ (us : List Version). till_to_words v b (record { last = last; rights = rights; versions = us })) e

pub none_held : (v b : ℕ) (t : Till) (till : List ℕ) → till ≡ till_to_words v b t → get_or till 1 0 ≡ 0 → t.versions ≡ []
none_held v b t till et z = none_left t.versions (sym (held_word v b t) ∙ ap (λ (l : List ℕ). get_or l 1 0) (sym et) ∙ z)

pub no_newest : (v b : ℕ) (t : Till) (till out : List ℕ) → till ≡ till_to_words v b t → get_or till 1 0 ≡ 0 → take 0 out ≡ map pointer_word (newest_pointers t.versions)
unfolding last_of newest_pointers
no_newest v b t till out et z = ap (λ (vs : List Version). map pointer_word (newest_pointers vs)) (sym (none_held v b t till et z))

pub no_turned : (v b : ℕ) (t : Till) (ps : List Pointer) (till : List ℕ) → till ≡ till_to_words v b t → get_or till 1 0 ≡ 0 → till ≡ till_to_words v b (turned_till t ps)
unfolding with_newest_pointers
no_turned v b t ps till et z =
    let e : t.versions ≡ [] = none_held v b t till et z in
    et ∙ cong_till v b t.last t.rights t.versions (with_newest_pointers t.versions ps) (e ∙ ap (λ (vs : List Version). with_newest_pointers vs ps) (sym e))

-- where the newest one's pointers are
module _ (v b : ℕ) (t : Till) (till : List ℕ) (most : length t.versions ≤ v) (et : till ≡ till_to_words v b t) (some : 0 < get_or till 1 0) (us : List Version) (u : Version)
    (is : t.versions ≡ us ++ (u ∷ [])) where
  held_is : get_or till 1 0 ≡ suc (length us)
  held_is = ap (λ (l : List ℕ). get_or l 1 0) et ∙ held_word v b t ∙ ap length is ∙ length_one us u

  room : length us < v
  room = omega (arith, most, ap length is, length_one us u)

  at_is : newest_at b till ≡ length (front b t.last t.rights (suc (length us)) us)
  at_is =
      let n : get_or till 1 0 - 1 ≡ length us = omega (arith, held_is) in
      ap (λ (k : ℕ). 4 + k * (3 + b)) n ∙ sym (front_length b t.last t.rights (suc (length us)) us)

  parted : till ≡ front b t.last t.rights (suc (length us)) us ++ (version_to_words b u ++ left v b (suc (length us)))
  parted = et ∙ cong_till v b t.last t.rights t.versions (us ++ (u ∷ [])) is ∙ till_split v b t.last t.rights us u room

  length_at : get_or till (newest_at b till + 1) 0 ≡ u.length
  unfolding version_to_words
  length_at =
      ap (λ (k : ℕ). get_or till (k + 1) 0) at_is
      ∙ ap (λ (l : List ℕ). get_or l (length (front b t.last t.rights (suc (length us)) us) + 1) 0) parted
      ∙ get_or-append-add (front b t.last t.rights (suc (length us)) us) (version_to_words b u ++ left v b (suc (length us))) 1 0

  abbrev head : List ℕ
  head = front b t.last t.rights (suc (length us)) us ++ (u.number ∷ u.length ∷ u.day ∷ [])

  head_length : length head ≡ newest_at b till + 3
  head_length = omega (arith, length-append (front b t.last t.rights (suc (length us)) us) (u.number ∷ u.length ∷ u.day ∷ []), at_is)

  pointed : till ≡ head ++ (fill b (map pointer_word u.pointers) ++ left v b (suc (length us)))
  pointed = parted ∙ slot_head b (front b t.last t.rights (suc (length us)) us) u (left v b (suc (length us)))

  read : (bytes : ℕ) → Each (HasPointers bytes b) t.versions → (n : ℕ) → n ≡ parts_for bytes (get_or till (newest_at b till + 1) 0)
      → take n (drop (newest_at b till + 3) till) ≡ map pointer_word (newest_pointers t.versions)
  read bytes w n e =
      let f : HasPointers bytes b u = newest_each (HasPointers bytes b) us u (subst (Each (HasPointers bytes b)) is w) in
      let ws : List ℕ = map pointer_word u.pointers in
      let l : length ws ≡ length u.pointers = length-map u.pointers pointer_word in
      let m : length ws ≡ n = l ∙ f.blocks ∙ ap (parts_for bytes) (sym length_at) ∙ sym e in
      ap (take n) (ap (drop (newest_at b till + 3)) pointed ∙ drop_at head (fill b ws ++ left v b (suc (length us))) (newest_at b till + 3) head_length)
      ∙ ap (λ (x : List ℕ). take n (x ++ left v b (suc (length us)))) (fill_split b ws (omega (arith, l, f.most)))
      ∙ ap (take n) (append_assoc ws (fill (b - length ws) []) (left v b (suc (length us))))
      ∙ take_at ws (fill (b - length ws) [] ++ left v b (suc (length us))) n m
      ∙ ap (map pointer_word) (sym (newest_last us u) ∙ ap newest_pointers (sym is))

  turned : (ps : List Pointer) (pws ys : List ℕ) → pws ≡ map pointer_word ps → length pws ≤ b → length ps ≡ length (newest_pointers t.versions)
      → ys ≡ pws ++ drop (length pws) (take b (drop (newest_at b till + 3) till))
      → take (newest_at b till + 3) till ++ (ys ++ drop b (drop (newest_at b till + 3) till)) ≡ till_to_words v b (turned_till t ps)
  turned ps pws ys ep lp lo ey =
      let a : ℕ = newest_at b till + 3 in
      let ws : List ℕ = map pointer_word u.pointers in
      let z : List ℕ = left v b (suc (length us)) in
      let same : length ws ≡ length pws = length-map u.pointers pointer_word ∙ ap length (sym (newest_last us u) ∙ ap newest_pointers (sym is)) ∙ sym lo ∙ sym (length-map ps pointer_word) ∙ ap length (sym ep) in
      let mid : take b (drop a till) ≡ fill b ws = mid_is head (fill b ws) z till a b pointed head_length (length_fill b ws) in
      let y : ys ≡ fill b pws = ey ∙ ap (λ (x : List ℕ). pws ++ drop (length pws) x) mid ∙ over_fill b ws pws same lp in
      ap (λ (x : List ℕ). take a till ++ (x ++ drop b (drop a till))) (y ∙ ap (fill b) ep)
      ∙ mid_put head (fill b ws) z till a b pointed head_length (length_fill b ws) (fill b (map pointer_word ps))
      ∙ sym (slot_head b (front b t.last t.rights (suc (length us)) us) (with_pointers u ps) z)
      ∙ sym (till_split v b t.last t.rights us (with_pointers u ps) room)
      ∙ cong_till v b t.last t.rights (us ++ (with_pointers u ps ∷ [])) (with_newest_pointers t.versions ps) (sym (turned_is us u ps) ∙ ap (λ (vs : List Version). with_newest_pointers vs ps) (sym is))

some_versions_lem : (v b : ℕ) (t : Till) (till : List ℕ) → till ≡ till_to_words v b t → 0 < get_or till 1 0 → Ends t.versions
some_versions_lem v b t till et some = ends t.versions (omega (arith, some, ap (λ (l : List ℕ). get_or l 1 0) et, held_word v b t))

pub newest_read : (bytes b : ℕ) (till : List ℕ) (at n : ℕ) → 0 < get_or till 1 0 → at ≡ newest_at b till → n ≡ parts_for bytes (get_or till (at + 1) 0)
    → (rest out : List ℕ) → out ≡ take (at + 3 + n - (at + 3)) (drop (at + 3) till) ++ rest → at + 3 + n ≤ length till
    → (v : ℕ) (t : Till) → VersionsFit bytes v b t → till ≡ till_to_words v b t → take n out ≡ map pointer_word (newest_pointers t.versions)
newest_read bytes b till at n some ea en rest out eo fits v t h et =
    let e : Ends t.versions = some_versions_lem v b t till et some in
    let k : at + 3 + n - (at + 3) ≡ n = omega arith in
    let src : List ℕ = take n (drop (at + 3) till) in
    let l : length src ≡ n = length-take-le n (drop (at + 3) till) (omega (arith, fits, length-drop (at + 3) till)) in
    ap (take n) (eo ∙ ap (λ (j : ℕ). take j (drop (at + 3) till) ++ rest) k)
    ∙ take_at src rest n l
    ∙ ap (λ (j : ℕ). take n (drop (j + 3) till)) ea
    ∙ read v b t till h.most et some e.before e.newest e.is bytes h.versions n (en ∙ ap (λ (j : ℕ). parts_for bytes (get_or till (j + 1) 0)) ea)

pub newest_turned : (b : ℕ) (till : List ℕ) (at : ℕ) → 0 < get_or till 1 0 → at ≡ newest_at b till
    → (pws ys : List ℕ) → length pws ≤ b → ys ≡ pws ++ drop (length pws) (mid_of (at + 3) (at + 3 + b - (at + 3)) till)
    → (v : ℕ) (t : Till) (ps : List Pointer) → length t.versions ≤ v → till ≡ till_to_words v b t → pws ≡ map pointer_word ps → length ps ≡ length (newest_pointers t.versions)
    → put_mid (at + 3) (at + 3 + b - (at + 3)) till ys ≡ till_to_words v b (turned_till t ps)
newest_turned b till at some ea pws ys lp ey v t ps most et ep lo =
    let e : Ends t.versions = some_versions_lem v b t till et some in
    let k : at + 3 + b - (at + 3) ≡ b = omega arith in
    ap (λ (j : ℕ). take (at + 3) till ++ (ys ++ drop j (drop (at + 3) till))) k
    ∙ ap (λ (j : ℕ). take (j + 3) till ++ (ys ++ drop b (drop (j + 3) till))) ea
    ∙ turned v b t till most et some e.before e.newest e.is ps pws ys ep lp lo
    (ey ∙ ap (λ (j : ℕ). pws ++ drop (length pws) (take j (drop (at + 3) till))) k ∙ ap (λ (j : ℕ). pws ++ drop (length pws) (take b (drop (j + 3) till))) ea)

-- ---- a version added

three : (b : ℕ) → fill (3 + b) [] ≡ 0 ∷ 0 ∷ 0 ∷ fill b []
unfolding fill
three b = fill_add 3 b []

slot_zeros : (b number bytes day : ℕ) (ps : List Pointer) (pws : List ℕ) → pws ≡ map pointer_word ps → length pws ≤ b
    → number ∷ bytes ∷ day ∷ (pws ++ drop (length pws) (drop 3 (fill (3 + b) []))) ≡ version_to_words b (record { number = number; length = bytes; day = day; pointers = ps })
unfolding version_to_words
slot_zeros b number bytes day ps pws e h =
    ap (λ (m : List ℕ). number ∷ bytes ∷ day ∷ (pws ++ drop (length pws) (drop 3 m))) (three b)
    ∙ ap (λ (l : List ℕ). number ∷ bytes ∷ day ∷ l) (over_zeros b pws h ∙ ap (fill b) e)

new_head : (b last held last' held' : ℕ) (rights : List Rights) (us : List Version) (rest : List ℕ) → last' ∷ held' ∷ drop 2 (front b last rights held us ++ rest) ≡ front b last' rights held' us ++ rest
unfolding front
new_head b last held last' held' rights us rest = refl

pub version_added : (b : ℕ) (till : List ℕ) (bytes day : ℕ) (pws slot out : List ℕ) → length pws ≤ b
    → slot ≡ (get_or till 0 0 + 1) ∷ bytes ∷ day ∷ (pws ++ drop (length pws) (drop 3 (mid_of (4 + get_or till 1 0 * (3 + b)) (4 + get_or till 1 0 * (3 + b) + (3 + b) - (4 + get_or till 1 0 * (3 + b))) till)))
    → out ≡ (get_or till 0 0 + 1) ∷ (get_or till 1 0 + 1) ∷ drop 2 (put_mid (4 + get_or till 1 0 * (3 + b)) (4 + get_or till 1 0 * (3 + b) + (3 + b) - (4 + get_or till 1 0 * (3 + b))) till slot)
    → (v : ℕ) (t : Till) (ps : List Pointer) → length t.versions < v → till ≡ till_to_words v b t → pws ≡ map pointer_word ps
    → out ≡ till_to_words v b (added_till t bytes day ps)
version_added b till bytes day pws slot out lp es eo v t ps most et ep =
    let us : List Version = t.versions in
    let n : ℕ = length us in
    let new : Version = record { number = suc t.last; length = bytes; day = day; pointers = ps } in
    let z : List ℕ = left v b (suc n) in
    let f : List ℕ = front b t.last t.rights n us in
    let lf : length f ≡ 4 + n * (3 + b) = front_length b t.last t.rights n us in
    let held : get_or till 1 0 ≡ n = ap (λ (l : List ℕ). get_or l 1 0) et ∙ held_word v b t in
    let last : get_or till 0 0 + 1 ≡ suc t.last = omega (arith, ap (λ (l : List ℕ). get_or l 0 0) et, last_word v b t) in
    let one : get_or till 1 0 + 1 ≡ suc n = omega (arith, held) in
    let a : ℕ = 4 + get_or till 1 0 * (3 + b) in
    let ea : length f ≡ a = lf ∙ ap (λ (k : ℕ). 4 + k * (3 + b)) (sym held) in
    let k : a + (3 + b) - a ≡ 3 + b = omega arith in
    let opened : till ≡ f ++ (fill (3 + b) [] ++ z) = et ∙ till_slot v b t.last t.rights us most in
    let mid : mid_of a (a + (3 + b) - a) till ≡ fill (3 + b) [] =
    ap (λ (j : ℕ). take j (drop a till)) k ∙ mid_is f (fill (3 + b) []) z till a (3 + b) opened ea (length_fill (3 + b) []) in
    let slot_is : slot ≡ version_to_words b new =
    es ∙ ap (λ (m : List ℕ). (get_or till 0 0 + 1) ∷ bytes ∷ day ∷ (pws ++ drop (length pws) (drop 3 m))) mid
    ∙ slot_zeros b (get_or till 0 0 + 1) bytes day ps pws ep lp ∙ ap (λ (j : ℕ). version_to_words b (record { number = j; length = bytes; day = day; pointers = ps })) last in
    let put : put_mid a (a + (3 + b) - a) till slot ≡ f ++ (version_to_words b new ++ z) =
    ap (λ (j : ℕ). take a till ++ (slot ++ drop j (drop a till))) k ∙ ap (λ (x : List ℕ). take a till ++ (x ++ drop (3 + b) (drop a till))) slot_is
    ∙ mid_put f (fill (3 + b) []) z till a (3 + b) opened ea (length_fill (3 + b) []) (version_to_words b new) in
    eo ∙ ap (λ (x : List ℕ). (get_or till 0 0 + 1) ∷ (get_or till 1 0 + 1) ∷ drop 2 x) put
    ∙ ap₂ (λ (x y : ℕ). x ∷ y ∷ drop 2 (f ++ (version_to_words b new ++ z))) last one
    ∙ new_head b t.last n (suc t.last) (suc n) t.rights us (version_to_words b new ++ z)
    ∙ sym (till_split v b (suc t.last) t.rights us new most)

-- ---- three words, and a slot's

pub slot_put : (slot three ys ps : List ℕ) (a b c : ℕ) → 3 ≤ length slot → three ≡ a ∷ b ∷ c ∷ drop 3 slot → ys ≡ ps ++ drop (length ps) (mid_of 3 (length three - 3) three)
    → put_mid 3 (length three - 3) three ys ≡ a ∷ b ∷ c ∷ (ps ++ drop (length ps) (drop 3 slot))
slot_put slot three ys ps a b c h e f =
    tail_put (a ∷ b ∷ c ∷ []) (drop 3 slot) three 3 e refl ys
    ∙ ap (λ (l : List ℕ). a ∷ b ∷ c ∷ l) (f ∙ ap (λ (m : List ℕ). ps ++ drop (length ps) m) (tail_is (a ∷ b ∷ c ∷ []) (drop 3 slot) three 3 e refl))

-- ---- facts for the code's bounds

pub positive_of : (n : ℕ) → (n ≡ 0 → ⊥) → 0 < n
positive_of n h = omega (arith, h)

pub few_at : (bytes b : ℕ) (till : List ℕ) (at : ℕ) → at ≡ newest_at b till → FewBlocks bytes b till → (get_or till 1 0 ≡ 0 → ⊥)
    → (get_or till (at + 1) 0 ≤ 65536) × (parts_for bytes (get_or till (at + 1) 0) ≤ b)
few_at bytes b till at e f h =
    subst (λ (k : ℕ). (get_or till (k + 1) 0 ≤ 65536) × (parts_for bytes (get_or till (k + 1) 0) ≤ b)) (sym e) (f (positive_of (get_or till 1 0) h))

-- a part put behind the head
pub same_head : (till pws ys : List ℕ) (a k : ℕ) → a + 3 + k ≤ length till → length pws ≤ k → ys ≡ pws ++ drop (length pws) (mid_of (a + 3) (a + 3 + k - (a + 3)) till) → SameHead till (put_mid (a + 3) (a + 3 + k - (a + 3)) till ys)
same_head till pws ys a k h lp e =
    let m : List ℕ = mid_of (a + 3) (a + 3 + k - (a + 3)) till in
    let lm : length m ≡ k = length-take-le (a + 3 + k - (a + 3)) (drop (a + 3) till) (omega (arith, h, length-drop (a + 3) till)) ∙ (let z : a + 3 + k - (a + 3) ≡ k = omega arith in z) in
    let l : length ys ≡ k = omega (arith, ap length e, length-append pws (drop (length pws) m), length-drop (length pws) m, lm, lp) in
    let n : length (take (a + 3) till) ≡ a + 3 = length-take-le (a + 3) till (omega (arith, h)) in
    let r : List ℕ = ys ++ drop (a + 3 + k - (a + 3)) (drop (a + 3) till) in
    record {
      size = omega (arith, h, l, n, length-append (take (a + 3) till) r, length-append ys (drop (a + 3 + k - (a + 3)) (drop (a + 3) till)), length-drop (a + 3 + k - (a + 3)) (drop (a + 3) till), length-drop (a + 3) till);
      last = get_or-append (take (a + 3) till) r 0 0 (omega (arith, n)) ∙ get_or-take (a + 3) till 0 0 (omega arith);
      held = get_or-append (take (a + 3) till) r 0 1 (omega (arith, n)) ∙ get_or-take (a + 3) till 1 0 (omega arith);
    }

pub still_room : (b : ℕ) (old new : List ℕ) → SameHead old new → Room b old → HasFreeSlot b old → Room b new × HasFreeSlot b new
still_room b old new s r l = (
  record {
    small = r.small;
    four = omega (arith, r.four, s.size);
    long = omega (arith, r.long, s.size);
    slots = rw (s.held, s.size) r.slots;
  },
  record { slot = rw (s.held, s.size) l.slot; number = rw s.last l.number },
)

turned_length : (vs : List Version) (ps : List Pointer) → length (with_newest_pointers vs ps) ≡ length vs
unfolding with_newest_pointers
turned_length [] ps = refl
turned_length (v ∷ []) ps = refl
turned_length (v ∷ w ∷ vs) ps = ap suc (turned_length (w ∷ vs) ps)

-- both steps
pub version_filed : (b : ℕ) (till mid out : List ℕ) (bytes day : ℕ) (pws qws : List ℕ)
    → ((v : ℕ) (t : Till) (ps : List Pointer) → length t.versions ≤ v → till ≡ till_to_words v b t → pws ≡ map pointer_word ps → length ps ≡ length (newest_pointers t.versions) → mid ≡ till_to_words v b (turned_till t ps))
    → ((v : ℕ) (t : Till) (ps : List Pointer) → length t.versions < v → mid ≡ till_to_words v b t → qws ≡ map pointer_word ps → out ≡ till_to_words v b (added_till t bytes day ps))
    → (v : ℕ) (t : Till) (ps qs : List Pointer) → length t.versions < v → till ≡ till_to_words v b t → pws ≡ map pointer_word ps → length ps ≡ length (newest_pointers t.versions) → qws ≡ map pointer_word qs
    → out ≡ till_to_words v b (till_with t ps bytes day qs)
unfolding till_with
version_filed b till mid out bytes day pws qws f g v t ps qs room et ep lo eq =
    g v (turned_till t ps) qs (omega (arith, room, turned_length t.versions ps)) (f v t ps (omega (arith, room)) et ep lo) eq

pub few_blocks : (bytes v b : ℕ) (t : Till) (till : List ℕ) → 0 < bytes → b * bytes ≤ 65536 → VersionsFit bytes v b t → till ≡ till_to_words v b t → FewBlocks bytes b till
few_blocks bytes v b t till some most h et held =
    let e : Ends t.versions = some_versions_lem v b t till et held in
    let w : HasPointers bytes b e.newest = newest_each (HasPointers bytes b) e.before e.newest (subst (Each (HasPointers bytes b)) e.is h.versions) in
    let n : get_or till (newest_at b till + 1) 0 ≡ e.newest.length = length_at v b t till h.most et held e.before e.newest e.is in
    let few : parts_for bytes e.newest.length ≤ b = subst (λ (k : ℕ). k ≤ b) w.blocks w.most in
    let all : parts_for bytes e.newest.length * bytes ≤ b * bytes = mul-le-mul_right bytes few in
    (omega (arith, n, parts_enough bytes e.newest.length some, all, most), subst (λ (k : ℕ). parts_for bytes k ≤ b) (sym n) few)
