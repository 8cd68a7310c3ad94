-- The sums of a bill are exactly the price of all occupied cells: every one of them has a till that pays.
use mathlib.Core.Path.{◌≡◌, refl, sym, ap, ap₂, ◌∙◌, subst}
use mathlib.Core.Bool.{Bool, true, false, cond}
use mathlib.Core.List.{List, [], ◌∷◌, ◌++◌, map, append_assoc}
use mathlib.Core.Option.{Option, some}
use Prim.Native.Nat.{ℕ, zero, suc, ◌+◌, ◌*◌, ◌/◌, ◌%◌, ◌≤◌, ◌<◌, zero-le}
use native.Mathlib.Nat.{le_refl, not-suc-le-zero, suc-ne-zero, mod-lt, div-add-mod'}
use native.Mathlib.Omega.{arith}
use lib.ListN.{length, get_or, replicate, length-replicate, length-map}
use lib.Dec.{eqb, ltb}
use borrow.Author.Tests.{eqb-true, eqb-false, eq-eqb, ltb-true, ltb-false, lt-ltb}
use Rattle.lists.specs.Lists.{count, total, is_in, uses}
use Rattle.lists.specs.Rows.{joined, fill}
use Rattle.lists.specs.Each.{Each}
use Rattle.lists.proofs.Tests.{clause, all_true}
use Rattle.lists.proofs.Counts.{count_append}
use Rattle.lists.proofs.Uses.{uses_append, in_uses, uses_in}
use Rattle.model.specs.Measures.{Shape}
use Rattle.model.specs.State.{Pointer, null_pointer, blank_pointer, direct, indirect, Storage, Version, Till, State}
use Rattle.model.specs.Records.{is_held, cell_of, position_at, named_cells}
use Rattle.model.specs.Sound.{is_sound, leads_to, all_pointers, Store, store_of}
use Rattle.model.specs.Rights.{owner_refusal}
use Rattle.laws.proofs.Sweep.{count_in}
use Rattle.laws.proofs.Counts.{held_positive}
use Rattle.laws.proofs.Serves.{pointers_of, sound_valid}
use Rattle.laws.proofs.Ranges.{ranges}
use Rattle.laws.proofs.RoundTrip.{store_found}
use Rattle.laws.proofs.Named.{record_of, position_of_lem}
use Rattle.bill.specs.Bill.{refers_to, pays, shares, divided, added, bill_for, bill, bill_refused, bill_in, bill_of, bill_as, BillIsExact}

-- the shares add up
shares_total : (q r : ℕ) (pay : List Bool) → r ≤ count (λ (b : Bool). b) pay → total (λ (n : ℕ). n) (shares q r pay) ≡ q * count (λ (b : Bool). b) pay + r
unfolding shares count total
shares_total q r [] l = omega (arith, l)
shares_total q r (false ∷ pay) l = omega (arith, shares_total q r pay (omega (arith, l)))
shares_total q zero (true ∷ pay) l = omega (arith, shares_total q zero pay (omega arith))
shares_total q (suc r) (true ∷ pay) l = omega (arith, shares_total q r pay (omega (arith, l)))

added_total : (xs ys : List ℕ) → total (λ (n : ℕ). n) (added xs ys) ≡ total (λ (n : ℕ). n) xs + total (λ (n : ℕ). n) ys
unfolding added total
added_total [] ys = omega arith
added_total (x ∷ xs) [] = omega arith
added_total (x ∷ xs) (y ∷ ys) = omega (arith, added_total xs ys)

divided_total : (p : ℕ) (pay : List Bool) → 0 < count (λ (b : Bool). b) pay → total (λ (n : ℕ). n) (divided p pay) ≡ p
unfolding divided
divided_total p pay h =
    let n : ℕ = count (λ (b : Bool). b) pay in
    shares_total (p / n) (p % n) pay (omega (arith, mod-lt p h)) ∙ div-add-mod' p n

zeros_total : (n : ℕ) → total (λ (n : ℕ). n) (replicate n 0) ≡ 0
unfolding total
zeros_total zero = refl
zeros_total (suc n) = omega (arith, zeros_total n)

-- ---- every occupied cell has a till that pays

refers_most : (storage : Storage) (c k i : ℕ) → is_held (position_at storage k i) ≡ true → cell_of (position_at storage k i) ≡ c → (ps : List Pointer)
    → count (leads_to k i) ps ≤ count (refers_to storage c) ps
unfolding count
refers_most storage c k i h e [] = le_refl 0
refers_most storage c k i h e (p ∷ ps) = omega (arith, one p, refers_most storage c k i h e ps)
  where
    one : (p : Pointer) → ◌≤◌ (cond (leads_to k i p) 1 0) (cond (refers_to storage c p) 1 0)
    one null_pointer = le_refl 0
    one blank_pointer = le_refl 0
    one (direct k' i') = go (leads_to k i (direct k' i')) refl
      where
        go : (b : Bool) → leads_to k i (direct k' i') ≡ b → ◌≤◌ (cond b 1 0) (cond (refers_to storage c (direct k' i')) 1 0)
        go true q =
            let here : refers_to storage c (direct k' i') ≡ true =
            all_true _ (
              ap₂ (λ (x y : ℕ). is_held (position_at storage x y)) (sym (eqb-true k k' (clause _ 0 q))) (sym (eqb-true i i' (clause _ 1 q))) ∙ h,
              (eq-eqb _ c (ap₂ (λ (x y : ℕ). cell_of (position_at storage x y)) (sym (eqb-true k k' (clause _ 0 q))) (sym (eqb-true i i' (clause _ 1 q))) ∙ e), tt),
            ) in
            rw here (le_refl 1)
        go false q = zero-le
    one (indirect n) = le_refl 0

some_pays : (storage : Storage) (c k i : ℕ) → is_held (position_at storage k i) ≡ true → cell_of (position_at storage k i) ≡ c → (ts : List Till)
    → 0 < count (leads_to k i) (all_pointers ts) → 0 < count (λ (b : Bool). b) (map (pays storage c) ts)
unfolding all_pointers joined count
some_pays storage c k i h e [] l = absurd (not-suc-le-zero l)
some_pays storage c k i h e (t ∷ ts) l = go (ltb 0 (count (leads_to k i) (pointers_of t.versions))) refl (some_pays storage c k i h e ts)
  where
    go : (b : Bool) → ltb 0 (count (leads_to k i) (pointers_of t.versions)) ≡ b → (0 < count (leads_to k i) (all_pointers ts) → 0 < count (λ (b : Bool). b) (map (pays storage c) ts))
        → ◌<◌ 0 (cond (pays storage c t) 1 0 + count (λ (b : Bool). b) (map (pays storage c) ts))
    go true q r =
        let mine : pays storage c t ≡ true = unfold pays in lt-ltb 0 (count (refers_to storage c) (pointers_of t.versions)) (omega (arith, ltb-true 0 (count (leads_to k i) (pointers_of t.versions)) q, refers_most storage c k i h e (pointers_of t.versions))) in
        rw mine (omega arith)
    go false q r =
        omega (
          arith,
          r (unfold all_pointers in omega (
            arith,
            l,
            ltb-false 0 (count (leads_to k i) (pointers_of t.versions)) q,
            count_append (leads_to k i) (pointers_of t.versions) (joined (map (λ (t : Till). joined (map (λ (v : Version). v.pointers) t.versions)) ts)),
          )),
        )

module _ (s : Shape) (st : State) (h : is_sound s st ≡ true) where
  cell_paid : (c : ℕ) → is_in c (named_cells st.storage.records) ≡ true → 0 < count (λ (b : Bool). b) (map (pays st.storage c) st.tills)
  unfolding is_sound position_at
  cell_paid c e =
      let r = record_of c st.storage.records (in_uses c (named_cells st.storage.records) e) in
      let p = position_of_lem c (get_or st.storage.records r.0 []) r.1 in
      let positive : 0 < count_in st.storage r.0 p.0 = held_positive (all_pointers st.tills) 0 st.storage.records (clause _ 5 h) r.0 p.0 p.1 in
      some_pays st.storage c r.0 p.0 p.1 p.2 st.tills (subst (λ (n : ℕ). 0 < n) ((sound_valid s st h).counts r.0 p.0) positive)

  bill_total : (p : ℕ) (cells : List ℕ) → Each (λ (c : ℕ). is_in c (named_cells st.storage.records) ≡ true) cells → total (λ (n : ℕ). n) (bill_for p st cells) ≡ p * length cells
  unfolding bill_for
  bill_total p [] e = omega (arith, zeros_total (length st.tills))
  bill_total p (c ∷ cells) e =
      added_total (divided p (map (pays st.storage c) st.tills)) (bill_for p st cells)
      ∙ omega (arith, divided_total p (map (pays st.storage c) st.tills) (cell_paid c e.0), bill_total p cells e.1)

-- ---- on the buffers

-- sixteen places hold every till's sum
fill_total : (n : ℕ) (xs : List ℕ) → length xs ≤ n → total (λ (n : ℕ). n) (fill n xs) ≡ total (λ (n : ℕ). n) xs
unfolding total fill
fill_total zero [] l = refl
fill_total zero (x ∷ xs) l = absurd (not-suc-le-zero l)
fill_total (suc n) [] l = omega (arith, fill_total n [] zero-le)
fill_total (suc n) (x ∷ xs) l = omega (arith, fill_total n xs (omega (arith, l)))

length_shares : (q r : ℕ) (pay : List Bool) → length (shares q r pay) ≡ length pay
unfolding shares
length_shares q r [] = refl
length_shares q r (false ∷ pay) = ap suc (length_shares q r pay)
length_shares q zero (true ∷ pay) = ap suc (length_shares q zero pay)
length_shares q (suc r) (true ∷ pay) = ap suc (length_shares q r pay)

length_added : (n : ℕ) (xs ys : List ℕ) → length xs ≡ n → length ys ≡ n → length (added xs ys) ≡ n
unfolding added
length_added n [] ys p q = q
length_added n (x ∷ xs) [] p q = p
length_added zero (x ∷ xs) (y ∷ ys) p q = absurd (suc-ne-zero _ p)
length_added (suc n) (x ∷ xs) (y ∷ ys) p q = ap suc (length_added n xs ys (omega (arith, p)) (omega (arith, q)))

length_bill : (p : ℕ) (st : State) (cells : List ℕ) → length (bill_for p st cells) ≡ length st.tills
unfolding bill_for divided
length_bill p st [] = length-replicate (length st.tills) 0
length_bill p st (c ∷ cells) =
    length_added (length st.tills) _ (bill_for p st cells) (length_shares _ _ (map (pays st.storage c) st.tills) ∙ length-map st.tills (pays st.storage c)) (length_bill p st cells)

-- every element of a list is in it
all_in : (xs ys : List ℕ) → Each (λ (c : ℕ). is_in c (ys ++ xs) ≡ true) xs
all_in [] ys = tt
all_in (x ∷ xs) ys = (
  uses_in x (ys ++ (x ∷ xs)) (omega (arith, uses_append x ys (x ∷ xs), mine)),
  subst (λ (l : List ℕ). Each (λ (c : ℕ). is_in c l ≡ true) xs) (append_assoc ys (x ∷ []) xs) (all_in xs (ys ++ (x ∷ []))),
)
  where
    mine : 0 < uses x (x ∷ xs)
    mine = unfold uses count in rw (eq-eqb x x refl) (omega arith)

exact_in : (s : Shape) (st : State) → is_sound s st ≡ true → (p : ℕ) → total (λ (n : ℕ). n) (fill 16 (bill p st)) ≡ p * length (named_cells st.storage.records)
unfolding bill
exact_in s st h p =
    let v = sound_valid s st h in
    fill_total 16 (bill_for p st (named_cells st.storage.records)) (omega (arith, length_bill p st (named_cells st.storage.records), v.till_count, (ranges s v.range).tills))
    ∙ bill_total s st h p (named_cells st.storage.records) (all_in (named_cells st.storage.records) [])

exact_of : (pool table : List ℕ) (store : Store) (p : ℕ) → store_of pool table ≡ some store → (bill_of pool table p).refusal ≡ 0
    → total (λ (n : ℕ). n) (bill_of pool table p).sums ≡ p * length (named_cells store.state.storage.records)
unfolding bill_of
exact_of pool table store p e = subst (λ (o : Option Store). (bill_in o p).refusal ≡ 0 → total (λ (n : ℕ). n) (bill_in o p).sums ≡ p * length (named_cells store.state.storage.records)) (sym e) (go (ltb 10000 p) refl)
  where
    go : (b : Bool) → ltb 10000 p ≡ b → (bill_in (some store) p).refusal ≡ 0 → total (λ (n : ℕ). n) (bill_in (some store) p).sums ≡ p * length (named_cells store.state.storage.records)
    go true q = unfold bill_in bill_refused in rw q (λ z. absurd (suc-ne-zero 29 z))
    go false q = unfold bill_in in rw q (λ z. exact_in store.shape store.state (store_found pool table store e).sound p)

pub bill_is_exact : BillIsExact
unfolding bill_as
bill_is_exact pool table store user p e = go (owner_refusal (store_of pool table) user) (eqb (owner_refusal (store_of pool table) user) 0) refl
  where
    go : (n : ℕ) (q : Bool) → eqb n 0 ≡ q → (cond q (bill_of pool table p) (bill_refused n)).refusal ≡ 0
        → total (λ (n : ℕ). n) (cond q (bill_of pool table p) (bill_refused n)).sums ≡ p * length (named_cells store.state.storage.records)
    go n true q z = exact_of pool table store p e z
    go n false q z = absurd (eqb-false n 0 q (unfold bill_refused in z))
