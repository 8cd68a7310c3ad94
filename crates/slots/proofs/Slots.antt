-- A till's words split at a held version.
use mathlib.Core.Path.{◌≡◌, refl, sym, ap, ◌∙◌}
use mathlib.Core.List.{List, [], ◌∷◌, ◌++◌, map, append_assoc}
use Prim.Native.Nat.{ℕ, suc, ◌+◌, ◌-◌, ◌*◌, ◌≤◌, ◌<◌}
use native.Mathlib.Nat.{mul-le-mul_right, suc-mul, add-mul}
use native.Mathlib.Omega.{arith}
use lib.ListN.{length, take, drop, get_or, set, replicate, length-append, length-map, get_or-append}
use lib.Seq.{get_or-take, length-take-le}
use borrow.Rule.Slice.PartMut.{mid_of, put_mid}
use Rattle.lists.specs.Rows.{fill, rows, joined}
use Rattle.lists.proofs.Rows.{length_rows, length_fill, wide_all, rows_append}
use Rattle.lists.proofs.Slices.{mid_is, mid_put, tail_is, tail_put}
use Rattle.lists.proofs.Filled.{fill_append, over_fill, shift_fill}
use Rattle.model.specs.State.{Pointer, Version, Rights, with_pointers}
use Rattle.model.specs.Table.{pointer_word, version_to_words, rights_word, till_to_words}
use Rattle.model.specs.Calls.{newest_pointers, with_newest_pointers}
use Rattle.laws.proofs.RoundTrip.{length_version, held_word}
use Rattle.laws.proofs.Newest.{newest_last, with_last}
use Rattle.slots.specs.Slots.{HasSlot}

-- ---- the versions before the newest, and the newest

pub record Ends (vs : List Version) : Type 0 where
  pub before : List Version
  pub newest : Version
  pub is : vs ≡ before ++ (newest ∷ [])

ends_more : (v : Version) (vs : List Version) → Ends vs → Ends (v ∷ vs)
ends_more v vs e = record { before = v ∷ e.before; newest = e.newest; is = ap (λ (l : List Version). v ∷ l) e.is }

pub ends : (vs : List Version) → (length vs ≡ 0 → ⊥) → Ends vs
ends [] h = absurd (h refl)
ends (v ∷ []) h = record { before = []; newest = v; is = refl }
ends (v ∷ w ∷ vs) h = ends_more v (w ∷ vs) (ends (w ∷ vs) (λ e. omega (arith, e)))

-- ---- where a slot is

pub slot_room : (b j : ℕ) (till : List ℕ) → HasSlot b j till → (4 + j * (3 + b) + (3 + b) ≤ length till) × (j * (3 + b) ≤ 65732)
slot_room b j till h =
    let m : suc j * (3 + b) ≤ get_or till 1 0 * (3 + b) = mul-le-mul_right (3 + b) h.held in
    (omega (arith, m, suc-mul j (3 + b), h.slots), omega (arith, m, suc-mul j (3 + b), h.slots, h.long))

-- words from a place on leave the head
pub head_still : (s : ℕ) (till rest : List ℕ) → 2 ≤ s → s ≤ length till → get_or (take s till ++ rest) 1 0 ≡ get_or till 1 0
head_still s till rest h l = get_or-append (take s till) rest 0 1 (omega (arith, h, length-take-le s till l)) ∙ get_or-take s till 1 0 (omega (arith, h))

-- ---- a till's words

-- the head, and the slots of the versions
unfoldable pub front : ℕ → ℕ → List Rights → ℕ → List Version → List ℕ
front b last rights held us = last ∷ held ∷ rights_word rights ∷ 0 ∷ rows (version_to_words b) us

pub rows_length : (b : ℕ) (us : List Version) → length (rows (version_to_words b) us) ≡ length us * (3 + b)
rows_length b us = length_rows (version_to_words b) (3 + b) us (wide_all (version_to_words b) (3 + b) (length_version b) us)

pub front_length : (b last : ℕ) (rights : List Rights) (held : ℕ) (us : List Version) → length (front b last rights held us) ≡ 4 + length us * (3 + b)
unfolding front
front_length b last rights held us = omega (arith, rows_length b us)

-- the words behind the slots of n versions: those of the others, filled up
unfoldable pub behind : ℕ → ℕ → ℕ → List Version → List ℕ
behind v b n us = fill (v * (3 + b) - n * (3 + b)) (rows (version_to_words b) us)

pub till_around : (v b last : ℕ) (rights : List Rights) (older newer : List Version) → length (older ++ newer) ≤ v
    → till_to_words v b (record { last = last; rights = rights; versions = older ++ newer }) ≡ front b last rights (length (older ++ newer)) older ++ behind v b (length older) newer
unfolding till_to_words front behind
till_around v b last rights older newer h =
    let m : length older * (3 + b) ≤ v * (3 + b) = mul-le-mul_right (3 + b) (omega (arith, h, length-append older newer)) in
    ap (λ (l : List ℕ). last ∷ length (older ++ newer) ∷ rights_word rights ∷ 0 ∷ l)
    (ap (fill (v * (3 + b))) (rows_append (version_to_words b) older newer)
    ∙ fill_append (v * (3 + b)) (rows (version_to_words b) older) (rows (version_to_words b) newer) (omega (arith, m, rows_length b older))
    ∙ ap (λ (n : ℕ). rows (version_to_words b) older ++ fill (v * (3 + b) - n) (rows (version_to_words b) newer)) (rows_length b older))

-- the first of those behind
behind_first : (v b n : ℕ) (u : Version) (us : List Version) → n < v → behind v b n (u ∷ us) ≡ version_to_words b u ++ behind v b (suc n) us
unfolding behind joined
behind_first v b n u us h =
    let m : suc n * (3 + b) ≤ v * (3 + b) = mul-le-mul_right (3 + b) h in
    let k : v * (3 + b) - n * (3 + b) - (3 + b) ≡ v * (3 + b) - suc n * (3 + b) = omega (arith, m, suc-mul n (3 + b)) in
    fill_append (v * (3 + b) - n * (3 + b)) (version_to_words b u) (rows (version_to_words b) us) (omega (arith, m, suc-mul n (3 + b), length_version b u))
    ∙ ap (λ (l : ℕ). version_to_words b u ++ fill (v * (3 + b) - n * (3 + b) - l) (rows (version_to_words b) us)) (length_version b u)
    ∙ ap (λ (l : ℕ). version_to_words b u ++ fill l (rows (version_to_words b) us)) k

-- ---- pointers over others

-- the head of a slot goes to the words before
pub slot_head : (b : ℕ) (p : List ℕ) (u : Version) (z : List ℕ)
    → p ++ (version_to_words b u ++ z) ≡ (p ++ (u.number ∷ u.length ∷ u.day ∷ [])) ++ (fill b (map pointer_word u.pointers) ++ z)
unfolding version_to_words
slot_head b p u z = sym (append_assoc p (u.number ∷ u.length ∷ u.day ∷ []) (fill b (map pointer_word u.pointers) ++ z))

module _ (b j : ℕ) (till : List ℕ) (v last : ℕ) (rights : List Rights) (older : List Version) (u : Version) (newer : List Version) (lo : length older ≡ j) (few : length (older ++ (u ∷ newer)) ≤ v)
    (et : till ≡ till_to_words v b (record { last = last; rights = rights; versions = older ++ (u ∷ newer) })) where
  abbrev n : ℕ
  n = length (older ++ (u ∷ newer))

  below : length older < v
  below = omega (arith, few, length-append older (u ∷ newer))

  around : (w : Version) → length (older ++ (w ∷ newer)) ≡ n → till_to_words v b (record { last = last; rights = rights; versions = older ++ (w ∷ newer) })
      ≡ (front b last rights n older ++ (w.number ∷ w.length ∷ w.day ∷ [])) ++ (fill b (map pointer_word w.pointers) ++ behind v b (suc (length older)) newer)
  around w e =
      till_around v b last rights older (w ∷ newer) (omega (arith, e, few))
      ∙ ap (λ (k : ℕ). front b last rights k older ++ behind v b (length older) (w ∷ newer)) e
      ∙ ap (λ (l : List ℕ). front b last rights n older ++ l) (behind_first v b (length older) w newer below)
      ∙ slot_head b (front b last rights n older) w (behind v b (suc (length older)) newer)

  start_is : length (front b last rights n older ++ (u.number ∷ u.length ∷ u.day ∷ [])) ≡ 4 + j * (3 + b) + 3
  start_is = omega (arith, length-append (front b last rights n older) (u.number ∷ u.length ∷ u.day ∷ []), front_length b last rights n older, ap (λ (k : ℕ). k * (3 + b)) lo)

  same_count : (w : Version) → length (older ++ (w ∷ newer)) ≡ n
  same_count w = omega (arith, length-append older (w ∷ newer), length-append older (u ∷ newer))

  pub pointers_put : (pws ys : List ℕ) (ps : List Pointer) → length pws ≤ b → pws ≡ map pointer_word ps → length ps ≡ length u.pointers
      → ys ≡ pws ++ drop (length pws) (mid_of (4 + j * (3 + b) + 3) (4 + j * (3 + b) + 3 + b - (4 + j * (3 + b) + 3)) till)
      → put_mid (4 + j * (3 + b) + 3) (4 + j * (3 + b) + 3 + b - (4 + j * (3 + b) + 3)) till ys ≡ till_to_words v b (record { last = last; rights = rights; versions = older ++ (with_pointers u ps ∷ newer) })
  pointers_put pws ys ps lp ep l ey =
      let s : ℕ = 4 + j * (3 + b) + 3 in
      let k : s + b - s ≡ b = omega arith in
      let p : List ℕ = front b last rights n older ++ (u.number ∷ u.length ∷ u.day ∷ []) in
      let q : List ℕ = behind v b (suc (length older)) newer in
      let e : till ≡ p ++ (fill b (map pointer_word u.pointers) ++ q) = et ∙ around u refl in
      let m : take b (drop s till) ≡ fill b (map pointer_word u.pointers) = mid_is p (fill b (map pointer_word u.pointers)) q till s b e start_is (length_fill b (map pointer_word u.pointers)) in
      let y : ys ≡ fill b (map pointer_word ps) =
      ey ∙ ap (λ (x : ℕ). pws ++ drop (length pws) (take x (drop s till))) k ∙ ap (λ (x : List ℕ). pws ++ drop (length pws) x) m
      ∙ over_fill b (map pointer_word u.pointers) pws (omega (arith, length-map u.pointers pointer_word, ap length ep, length-map ps pointer_word, l)) lp ∙ ap (fill b) ep in
      ap (λ (x : ℕ). take s till ++ (ys ++ drop x (drop s till))) k
      ∙ mid_put p (fill b (map pointer_word u.pointers)) q till s b e start_is (length_fill b (map pointer_word u.pointers)) ys
      ∙ ap (λ (x : List ℕ). p ++ (x ++ q)) y
      ∙ sym (around (with_pointers u ps) (same_count (with_pointers u ps)))

  -- ---- a version that goes

  shifted : drop (3 + b) (behind v b (length older) (u ∷ newer)) ++ replicate (3 + b) 0 ≡ behind v b (length older) newer
  unfolding behind joined
  shifted =
      let m : n * (3 + b) ≤ v * (3 + b) = mul-le-mul_right (3 + b) few in
      let k : n * (3 + b) ≡ length older * (3 + b) + (3 + b + length newer * (3 + b)) =
      ap (λ (x : ℕ). x * (3 + b)) (length-append older (u ∷ newer)) ∙ add-mul (length older) (suc (length newer)) (3 + b)
      ∙ (let z : length older * (3 + b) + suc (length newer) * (3 + b) ≡ length older * (3 + b) + (3 + b + length newer * (3 + b)) = omega (arith, suc-mul (length newer) (3 + b)) in z) in
      shift_fill (v * (3 + b) - length older * (3 + b)) (3 + b) (version_to_words b u) (rows (version_to_words b) newer) (length_version b u) (omega (arith, m, k, rows_length b newer))

  pub slot_dropped : (one ys : List ℕ) → one ≡ set till 1 (get_or till 1 0 - 1)
      → ys ≡ drop (3 + b) (mid_of (4 + j * (3 + b)) (length one - (4 + j * (3 + b))) one) ++ replicate (3 + b) 0
      → put_mid (4 + j * (3 + b)) (length one - (4 + j * (3 + b))) one ys ≡ till_to_words v b (record { last = last; rights = rights; versions = older ++ newer })
  slot_dropped one ys eo ey =
      let s : ℕ = 4 + j * (3 + b) in
      let c : n - 1 ≡ length (older ++ newer) = omega (arith, length-append older (u ∷ newer), length-append older newer) in
      let h : get_or till 1 0 ≡ n = ap (λ (l : List ℕ). get_or l 1 0) et ∙ held_word v b (record { last = last; rights = rights; versions = older ++ (u ∷ newer) }) in
      let e : one ≡ front b last rights (length (older ++ newer)) older ++ behind v b (length older) (u ∷ newer) =
      eo ∙ ap (λ (x : ℕ). set till 1 (x - 1)) h ∙ ap (λ (x : ℕ). set till 1 x) c
      ∙ ap (λ (l : List ℕ). set l 1 (length (older ++ newer))) (et ∙ till_around v b last rights older (u ∷ newer) few) ∙ (unfold front in refl) in
      let l : length (front b last rights (length (older ++ newer)) older) ≡ s = front_length b last rights (length (older ++ newer)) older ∙ ap (λ (k : ℕ). 4 + k * (3 + b)) lo in
      let y : ys ≡ behind v b (length older) newer =
      ey ∙ ap (λ (x : List ℕ). drop (3 + b) x ++ replicate (3 + b) 0) (tail_is (front b last rights (length (older ++ newer)) older) (behind v b (length older) (u ∷ newer)) one s e l) ∙ shifted in
      tail_put (front b last rights (length (older ++ newer)) older) (behind v b (length older) (u ∷ newer)) one s e l ys
      ∙ ap (λ (x : List ℕ). front b last rights (length (older ++ newer)) older ++ x) y
      ∙ sym (till_around v b last rights older newer (omega (arith, few, c)))

-- ---- both

abbrev Puts : ℕ → ℕ → List ℕ → List ℕ → List ℕ → Type 0
Puts b j pws till one =
    (v last : ℕ) (rights : List Rights) (older : List Version) (u : Version) (newer : List Version) (ps : List Pointer) → length older ≡ j → length (older ++ (u ∷ newer)) ≤ v
    → till ≡ till_to_words v b (record { last = last; rights = rights; versions = older ++ (u ∷ newer) }) → pws ≡ map pointer_word ps → length ps ≡ length u.pointers
    → one ≡ till_to_words v b (record { last = last; rights = rights; versions = older ++ (with_pointers u ps ∷ newer) })

abbrev pub Drops : ℕ → ℕ → List ℕ → List ℕ → Type 0
Drops b j till one =
    (v last : ℕ) (rights : List Rights) (older : List Version) (u : Version) (newer : List Version) → length older ≡ j → length (older ++ (u ∷ newer)) ≤ v
    → till ≡ till_to_words v b (record { last = last; rights = rights; versions = older ++ (u ∷ newer) }) → one ≡ till_to_words v b (record { last = last; rights = rights; versions = older ++ newer })

module _ (b j v last : ℕ) (rights : List Rights) (till : List ℕ) (older : List Version) (u : Version) (newer : List Version) (ps : List Pointer) (lo : length older ≡ j)
    (few : length (older ++ (u ∷ newer)) ≤ v) (et : till ≡ till_to_words v b (record { last = last; rights = rights; versions = older ++ (u ∷ newer) })) where
  pub closed_first : j ≡ 0 → (one : List ℕ) → Drops b j till one → one ≡ till_to_words v b (record { last = last; rights = rights; versions = with_newest_pointers older ps ++ newer })
  closed_first z one d = go older (lo ∙ z) (d v last rights older u newer lo few et)
    where
      go : (us : List Version) → length us ≡ 0 → one ≡ till_to_words v b (record { last = last; rights = rights; versions = us ++ newer })
          → one ≡ till_to_words v b (record { last = last; rights = rights; versions = with_newest_pointers us ps ++ newer })
      go [] l e = unfold with_newest_pointers in e
      go (x ∷ us) l e = absurd (omega (arith, l))

  pub closed_later : (j ≡ 0 → ⊥) → (pws : List ℕ) → pws ≡ map pointer_word ps → length ps ≡ length (newest_pointers older) → (mid one : List ℕ) → Puts b (j - 1) pws till mid → Drops b j mid one
      → one ≡ till_to_words v b (record { last = last; rights = rights; versions = with_newest_pointers older ps ++ newer })
  closed_later z pws ep lp mid one f d = go older (ends older (λ l. z (sym lo ∙ l))) lo few et lp
    where
      split : (us : List Version) (x y : Version) (ws : List Version) → (us ++ (x ∷ [])) ++ (y ∷ ws) ≡ us ++ (x ∷ y ∷ ws)
      split us x y ws = append_assoc us (x ∷ []) (y ∷ ws)

      go : (os : List Version) → Ends os → length os ≡ j → length (os ++ (u ∷ newer)) ≤ v → till ≡ till_to_words v b (record { last = last; rights = rights; versions = os ++ (u ∷ newer) }) → length ps ≡ length (newest_pointers os)
          → one ≡ till_to_words v b (record { last = last; rights = rights; versions = with_newest_pointers os ps ++ newer })
      go os e l m q k =
          let us : List Version = e.before in
          let x : Version = e.newest in
          let w : os ++ (u ∷ newer) ≡ us ++ (x ∷ u ∷ newer) = ap (λ (r : List Version). r ++ (u ∷ newer)) e.is ∙ split us x u newer in
          let lx : length os ≡ suc (length us) = omega (arith, ap length e.is, length-append us (x ∷ [])) in
          let here : mid ≡ till_to_words v b (record { last = last; rights = rights; versions = us ++ (with_pointers x ps ∷ u ∷ newer) }) =
          f v last rights us x (u ∷ newer) ps (omega (arith, l, lx)) (omega (arith, m, ap length w))
          (q ∙ ap (λ (r : List Version). till_to_words v b (record { last = last; rights = rights; versions = r })) w) ep (k ∙ ap (λ (r : List Version). length (newest_pointers r)) e.is ∙ ap length (newest_last us x)) in
          let gone : one ≡ till_to_words v b (record { last = last; rights = rights; versions = (us ++ (with_pointers x ps ∷ [])) ++ newer }) =
          d v last rights (us ++ (with_pointers x ps ∷ [])) u newer (omega (arith, l, lx, length-append us (with_pointers x ps ∷ [])))
          (omega (arith, m, lx, length-append os (u ∷ newer), length-append (us ++ (with_pointers x ps ∷ [])) (u ∷ newer), length-append us (with_pointers x ps ∷ [])))
          (here ∙ ap (λ (r : List Version). till_to_words v b (record { last = last; rights = rights; versions = r })) (sym (split us (with_pointers x ps) u newer))) in
          gone
          ∙ ap (λ (r : List Version). till_to_words v b (record { last = last; rights = rights; versions = r }))
          (append_assoc us (with_pointers x ps ∷ []) newer ∙ sym (with_last us x ps newer) ∙ ap (λ (r : List Version). with_newest_pointers r ps ++ newer) (sym e.is))
