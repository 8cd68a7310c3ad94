-- Whether a position goes, looked for from the first on.
use mathlib.Core.Path.{◌≡◌, refl, sym, ap, ap₂, ◌∙◌}
use mathlib.Core.Bool.{Bool, true, false, cond}
use mathlib.Core.List.{List, map}
use Prim.Native.Nat.{ℕ, ◌+◌, ◌/◌, ◌%◌, ◌≤◌, ◌<◌}
use native.Mathlib.Omega.{arith}
use lib.Count.{ones}
use lib.ListN.{length, get_or, take, drop, length-drop, length-map, get_or-map}
use lib.Seq.{length-take-le}
use Rattle.lists.specs.Lists.{count}
use Rattle.lists.specs.Masks.{mask_of}
use Rattle.lists.specs.Rows.{fill}
use Rattle.lists.proofs.Masks.{ones_mask}
use Rattle.lists.proofs.Slices.{drop_next, drop_end}
use Rattle.lists.proofs.Walks.{mask_here, mask_after}
use Rattle.model.specs.Measures.{record_words}
use Rattle.model.specs.Records.{is_held, cell_of, count_of}
use Rattle.model.specs.State.{Position, null_position, Segment}
use Rattle.model.specs.Sweep.{is_unreferenced}
use Rattle.model.specs.Table.{position_of, record_to_words}
use Rattle.laws.proofs.Uses.{referenced_count}
use Rattle.records.specs.Records.{record_in, record_of}
use Rattle.records.specs.declared.Record.{Record}
use Rattle.records.proofs.Records.{front, unused_bit}
use Rattle.records.proofs.Words.{record_row, record_words_lem}

-- none before position i goes, and `left` is the mask from there on
pub record Unseen (seg : Segment) (left i : ℕ) : Type 0 where
  pub mask : left ≡ mask_of is_held (drop i seg)
  pub rest : count is_unreferenced (drop i seg) ≡ count is_unreferenced seg

pub unseen_start : (seg : Segment) (held : ℕ) → held ≡ mask_of is_held seg → Unseen seg held 0
unseen_start seg held e = record { mask = e; rest = refl }

module _ (seg : Segment) (counts : List ℕ) (e : counts ≡ map count_of seg) (left i : ℕ) (s : Unseen seg left i) where
  inside : i < length counts → i < length seg
  inside h = omega (arith, ap length e, length-map seg count_of)

  -- the next position, as the code tests it
  module _ (h : i < length counts) (b : Bool) (eb : b ≡ is_unreferenced (position_of (left % 2) 0 0 0 (get_or counts i 0))) where
    here : cond b 1 0 + count is_unreferenced (drop (i + 1) seg) ≡ count is_unreferenced seg
    unfolding count
    here =
        let a : left % 2 ≡ cond (is_held (get_or seg i null_position)) 1 0 = ap (λ (m : ℕ). m % 2) s.mask ∙ mask_here is_held seg i null_position (inside h) in
        let c : get_or counts i 0 ≡ count_of (get_or seg i null_position) = ap (λ (l : List ℕ). get_or l i 0) e ∙ get_or-map count_of seg i null_position in
        let eb' : b ≡ is_unreferenced (get_or seg i null_position) = eb ∙ ap₂ (λ (x y : ℕ). is_unreferenced (position_of x 0 0 0 y)) a c ∙ unused_bit (get_or seg i null_position) in
        let n : count is_unreferenced (drop i seg) ≡ cond (is_unreferenced (get_or seg i null_position)) 1 0 + count is_unreferenced (drop (i + 1) seg) = rw (drop_next seg i null_position (inside h)) in
        rw eb' (omega (arith, n, s.rest))

    pub seen : b ≡ true → 0 < count is_unreferenced seg
    seen x = let y = rw x at here in omega (arith, y)

    pub unseen_next : b ≡ false → Unseen seg (left / 2) (i + 1)
    unseen_next x = record {
      mask = ap (λ (m : ℕ). m / 2) s.mask ∙ mask_after is_held seg i null_position (inside h);
      rest = let y = rw x at here in omega (arith, y);
    }

  pub unseen_end : length counts ≤ i → count is_unreferenced seg ≡ 0
  unfolding count
  unseen_end h = sym s.rest ∙ ap (count is_unreferenced) (drop_end seg i (omega (arith, ap length e, length-map seg count_of)))

-- ---- in a row

-- where none is held, none goes
pub none_held : (seg : Segment) → mask_of is_held seg ≡ 0 → count is_unreferenced seg ≡ 0
none_held seg e =
    let z : ones 0 ≡ 0 = unfold ones in refl in
    let h : count is_held seg ≡ 0 = sym (ones_mask is_held seg) ∙ ap ones e ∙ z in
    omega (arith, referenced_count seg)

module _ (t : List ℕ) (at n : ℕ) (seg : Segment) (l : length seg ≡ n) (e : take (record_words n) (drop at t) ≡ record_to_words seg) where
  row_is : record {
    held = get_or t at 0;
    removed = get_or t (at + 1) 0;
    blank = get_or t (at + 2) 0;
    used = n;
    cells = fill 16 (take n (drop (at + 3) t));
    counts = fill 16 (take n (drop (at + 3 + n) t));
  } ≡ record_of seg
  row_is = record_row t at n _ refl refl refl refl refl refl ∙ ap (record_in n) e ∙ record_words_lem n seg l

  pub row_held : get_or t at 0 ≡ mask_of is_held seg
  unfolding record_of
  row_held = ap (λ (r : Record). r.held) row_is

  -- words of the row that a field of the record has, with zeros behind them
  row_part_lem : (g : Position → ℕ) (from : ℕ) → n ≤ 16 → from + n ≤ length t → fill 16 (take n (drop from t)) ≡ fill 16 (map g seg)
      → (k : ℕ) → k ≡ n → take k (drop from t) ≡ map g seg
  row_part_lem g from few room e' k ek =
      let part : List ℕ = take n (drop from t) in
      let lp : length part ≡ n = length-take-le n (drop from t) (omega (arith, length-drop from t)) in
      ap (λ (i : ℕ). take i (drop from t)) ek ∙ sym (front part n lp few) ∙ ap (take n) e' ∙ front (map g seg) n (length-map seg g ∙ l) few

  pub row_cells : n ≤ 16 → at + record_words n ≤ length t → (k : ℕ) → k ≡ n → take k (drop (at + 3) t) ≡ map cell_of seg
  unfolding record_of
  row_cells few room = row_part_lem cell_of (at + 3) few (omega arith) (ap (λ (r : Record). r.cells) row_is)

  pub row_counts : n ≤ 16 → at + record_words n ≤ length t → (k : ℕ) → k ≡ n → take k (drop (at + 3 + n) t) ≡ map count_of seg
  unfolding record_of
  row_counts few room = row_part_lem count_of (at + 3 + n) few (omega arith) (ap (λ (r : Record). r.counts) row_is)
