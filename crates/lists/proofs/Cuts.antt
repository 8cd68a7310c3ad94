-- Lists cut into rows, and rows read back from their words.
use mathlib.Core.Path.{◌≡◌, refl, sym, ap, ◌∙◌}
use mathlib.Core.List.{List, [], ◌∷◌, ◌++◌, map, append_assoc, append-nil}
use Prim.Native.Nat.{ℕ, zero, suc, zero-le, ◌+◌, ◌*◌, ◌/◌, ◌≤◌, ◌<◌}
use native.Mathlib.Nat.{zero-mul, suc-mul, mul-div_cancel, not-suc-le-zero, le_of_suc-le-suc}
use native.Mathlib.Omega.{arith}
use lib.ListN.{length, get_or, take, drop, length-append, length-take, length-drop, length-map, get_or-map}
use lib.Seq.{take_at, drop_at, drop-drop, take-add, take_all, get_or-take, get_or-drop}
use Rattle.lists.specs.Rows.{joined, parts, chunks, rows}
use Rattle.lists.specs.Each.{Each}
use Rattle.lists.proofs.Rows.{Wide, joined_rows, length_rows, rows_append}
use Rattle.lists.proofs.Each.{each_at, each_map}

-- ---- parts

module _ {ℓ} {A : Type ℓ} (k : ℕ) where
  pub length_parts : (n : ℕ) (ws : List A) → length (parts k n ws) ≡ n
  unfolding parts
  length_parts zero ws = refl
  length_parts (suc n) ws = ap suc (length_parts n (drop k ws))

  -- part i
  pub part_at : (n : ℕ) (ws : List A) (i : ℕ) → i < n → get_or (parts k n ws) i [] ≡ take k (drop (i * k) ws)
  unfolding parts
  part_at zero ws i h = absurd (not-suc-le-zero h)
  part_at (suc n) ws zero h = rw zero-mul
  part_at (suc n) ws (suc i) h =
      let p : suc i * k ≡ k + i * k = omega (arith, suc-mul i k) in
      part_at n (drop k ws) i (le_of_suc-le-suc h) ∙ ap (take k) (drop-drop (i * k) k ws ∙ ap (λ (m : ℕ). drop m ws) (sym p))

  -- one more part
  pub parts_next : (n : ℕ) (ws : List A) → parts k (n + 1) ws ≡ parts k n ws ++ (take k (drop (n * k) ws) ∷ [])
  unfolding parts
  parts_next zero ws = rw zero-mul
  parts_next (suc n) ws =
      let e : suc n + 1 ≡ suc (n + 1) = omega arith in
      let p : k + n * k ≡ suc n * k = omega (arith, suc-mul n k) in
      let d : drop (n * k) (drop k ws) ≡ drop (suc n * k) ws = drop-drop (n * k) k ws ∙ ap (λ (i : ℕ). drop i ws) p in
      ap (λ (i : ℕ). parts k i ws) e ∙ ap (λ (r : List (List A)). take k ws ∷ r) (parts_next n (drop k ws) ∙ ap (λ (l : List A). parts k n (drop k ws) ++ (take k l ∷ [])) d)

  -- word j of part i
  pub part_word : (ws : List A) (i j : ℕ) (d : A) → j < k → get_or (take k (drop (i * k) ws)) j d ≡ get_or ws (i * k + j) d
  part_word ws i j d h = get_or-take k (drop (i * k) ws) j d h ∙ get_or-drop (i * k) ws j d

  pub joined_parts : (n : ℕ) (ws : List A) → joined (parts k n ws) ≡ take (n * k) ws
  unfolding joined parts
  joined_parts zero ws = rw zero-mul
  joined_parts (suc n) ws =
      let p : suc n * k ≡ k + n * k = omega (arith, suc-mul n k) in
      rw (p, take-add, joined_parts n (drop k ws))

-- a list made of each part, one after the other
module _ {ℓ κ} {A : Type ℓ} {B : Type κ} (f : List A → List B) (k : ℕ) where
  pub cut_next : (n : ℕ) (ws : List A) → rows f (parts k (n + 1) ws) ≡ rows f (parts k n ws) ++ f (take k (drop (n * k) ws))
  unfolding joined
  cut_next n ws =
      ap (rows f) (parts_next k n ws) ∙ rows_append f (parts k n ws) (take k (drop (n * k) ws) ∷ [])
      ∙ ap (λ (l : List B). rows f (parts k n ws) ++ l) (append-nil (f (take k (drop (n * k) ws))))

  -- where none is longer than its part
  module _ (short : (x : List A) → length (f x) ≤ length x) where
    pub cut_most : (n : ℕ) (ws : List A) → length (rows f (parts k n ws)) ≤ n * k
    unfolding joined parts
    cut_most zero ws = zero-le
    cut_most (suc n) ws =
        omega (
          arith,
          length-append (f (take k ws)) (rows f (parts k n (drop k ws))),
          short (take k ws),
          length-take k ws,
          cut_most n (drop k ws),
          suc-mul n k,
        )

    pub cut_short : (n : ℕ) (ws : List A) → length (rows f (parts k n ws)) ≤ length ws
    unfolding joined parts
    cut_short zero ws = zero-le
    cut_short (suc n) ws =
        omega (
          arith,
          length-append (f (take k ws)) (rows f (parts k n (drop k ws))),
          short (take k ws),
          length-take k ws,
          length-drop k ws,
          cut_short n (drop k ws),
        )

-- what holds of each part by its place holds of every part, and the other way round
module _ {ℓ} {A : Type ℓ} (P : List A → Type 0) (k : ℕ) where
  pub each_part : (n : ℕ) (ws : List A) → ((i : ℕ) → i < n → P (take k (drop (i * k) ws))) → Each P (parts k n ws)
  unfolding parts
  each_part zero ws f = tt
  each_part (suc n) ws f = (
    rw zero-mul at (f 0 (omega arith)),
    each_part n (drop k ws) (λ i h.
        let p : suc i * k ≡ k + i * k = omega (arith, suc-mul i k) in
        rw (drop-drop, ← p) (f (suc i) (omega arith))),
  )

  pub part_each : (n : ℕ) (ws : List A) → Each P (parts k n ws) → (i : ℕ) → i < n → P (take k (drop (i * k) ws))
  part_each n ws e i h = rw (← part_at k n ws i h) (each_at P [] (parts k n ws) e i (rw (length_parts k n ws) h))

-- ---- chunks

module _ {ℓ} {A : Type ℓ} (k : ℕ) where
  pub length_chunks : (ws : List A) → length (chunks k ws) ≡ length ws / k
  unfolding chunks
  length_chunks ws = length_parts k (length ws / k) ws

  -- chunk i
  pub chunk_at : (ws : List A) (i : ℕ) → i < length ws / k → get_or (chunks k ws) i [] ≡ take k (drop (i * k) ws)
  unfolding chunks
  chunk_at ws i h = part_at k (length ws / k) ws i h

  -- n whole parts, and nothing left over
  pub chunks_parts : (n : ℕ) (ws : List A) → length ws ≡ n * k → 0 < k → chunks k ws ≡ parts k n ws
  unfolding chunks
  chunks_parts n ws h p = ap (λ (m : ℕ). parts k m ws) (ap (λ (m : ℕ). m / k) h ∙ mul-div_cancel n p)

  pub joined_chunks : (n : ℕ) (ws : List A) → length ws ≡ n * k → 0 < k → joined (chunks k ws) ≡ ws
  joined_chunks n ws h p = ap joined (chunks_parts n ws h p) ∙ joined_parts k n ws ∙ take_all (n * k) ws (omega arith)

  -- the rows that were laid out, cut out again
  pub parts_joined : (xs : List (List A)) → Each (λ x. length x ≡ k) xs → (rest : List A) → parts k (length xs) (joined xs ++ rest) ≡ xs
  unfolding joined parts
  parts_joined [] w rest = refl
  parts_joined (x ∷ xs) w rest =
      rw (append_assoc, take_at x (joined xs ++ rest) k w.0, drop_at x (joined xs ++ rest) k w.0, parts_joined xs w.1 rest)

  pub chunks_joined : (xs : List (List A)) → Each (λ x. length x ≡ k) xs → 0 < k → chunks k (joined xs) ≡ xs
  chunks_joined xs w p =
      let n : length (joined xs) ≡ length xs * k = ap length (joined_rows xs) ∙ length_rows (λ x. x) k xs w in
      chunks_parts (length xs) (joined xs) n p ∙ ap (parts k (length xs)) (sym (append-nil (joined xs))) ∙ parts_joined xs w []

-- ---- rows read back

-- each row read on its own
module _ {ℓ κ} {A : Type ℓ} {B : Type κ} (dec : List B → A) (k : ℕ) (ws : List B) where
  pub length_read : length (map dec (chunks k ws)) ≡ length ws / k
  length_read = length-map (chunks k ws) dec ∙ length_chunks k ws

  pub read_at : (i : ℕ) → i < length ws / k → get_or (map dec (chunks k ws)) i (dec []) ≡ dec (take k (drop (i * k) ws))
  read_at i h = get_or-map dec (chunks k ws) i [] ∙ ap dec (chunk_at k ws i h)

module _ {A B : Type 0} (f : A → B) (g : B → A) where
  pub map_back : (xs : List A) → Each (λ x. g (f x) ≡ x) xs → map g (map f xs) ≡ xs
  map_back [] e = refl
  map_back (x ∷ xs) e = rw (e.0, map_back xs e.1)

module _ {A B : Type 0} (enc : A → List B) (dec : List B → A) (k : ℕ) where
  wide : (xs : List A) → Wide enc k xs → Each (λ r. length r ≡ k) (map enc xs)
  wide xs w = each_map (λ r. length r ≡ k) enc xs w

  -- what was written is read
  pub parts_rows : (xs : List A) → Wide enc k xs → Each (λ x. dec (enc x) ≡ x) xs → (rest : List B) → map dec (parts k (length xs) (rows enc xs ++ rest)) ≡ xs
  parts_rows xs w ok rest =
      let e : parts k (length xs) (rows enc xs ++ rest) ≡ map enc xs =
      ap (λ (n : ℕ). parts k n (rows enc xs ++ rest)) (sym (length-map xs enc)) ∙ parts_joined k (map enc xs) (wide xs w) rest in
      ap (map dec) e ∙ map_back enc dec xs ok

  pub chunks_rows : (xs : List A) → Wide enc k xs → Each (λ x. dec (enc x) ≡ x) xs → 0 < k → map dec (chunks k (rows enc xs)) ≡ xs
  chunks_rows xs w ok p = ap (map dec) (chunks_joined k (map enc xs) (wide xs w) p) ∙ map_back enc dec xs ok

  -- and back: the words of what was read from rows that say what they are read as
  pub rows_parts : (n : ℕ) (ws : List B) → Each (λ r. enc (dec r) ≡ r) (parts k n ws) → rows enc (map dec (parts k n ws)) ≡ take (n * k) ws
  rows_parts n ws ok = ap joined (map_back dec enc (parts k n ws) ok) ∙ joined_parts k n ws

  pub rows_chunks : (n : ℕ) (ws : List B) → length ws ≡ n * k → 0 < k → Each (λ r. enc (dec r) ≡ r) (chunks k ws) → rows enc (map dec (chunks k ws)) ≡ ws
  rows_chunks n ws h p ok = ap joined (map_back dec enc (chunks k ws) ok) ∙ joined_chunks k n ws h p
