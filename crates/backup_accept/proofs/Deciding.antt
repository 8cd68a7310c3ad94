-- The refusals in their order.
use mathlib.Core.Path.{◌≡◌, refl, sym, ap, ◌∙◌}
use mathlib.Core.Bool.{Bool, true, false, cond}
use mathlib.Core.List.{List}
use Prim.Native.Nat.{ℕ, ◌*◌, ◌≤◌, ◌<◌}
use native.Mathlib.Nat.{mul_comm}
use native.Mathlib.Omega.{arith}
use lib.ListN.{length, get_or}
use lib.Dec.{eqb, leb, ltb}
use borrow.Author.Tests.{le-leb, lt-leb, leb-true, leb-false, eq-eqb, ne_eqb, eqb-true, eqb-false, lt-ltb, le-ltb, ltb-true, ltb-false}
use Rattle.model.specs.Calls.{till_of, newest_day, day_for, backup, backup_answer, backup_by, backup_in, backup_dated_of}
use Rattle.model.specs.Measures.{Measures}
use Rattle.model.specs.State.{State}
use Rattle.model.specs.Table.{shape_of, state_in}
use Rattle.laws.specs.Stores.{Sound, HeaderRanges}
use Rattle.laws.proofs.Tills.{last_most}
use Rattle.tills.specs.declared.Head.{Head}
use Rattle.tills.specs.Answers.{HeadOf}
use Rattle.backup_accept.specs.Accept.{most_bytes, HasRoomLeft, refused_backup, till_refusal, dated_refusal, AcceptResult}

-- ---- 11 and 12, then 28, by their tests

module _ (a b c : Bool) where
  abbrev either : ℕ
  either = cond a 11 (cond b 12 0)

  abbrev dated : ℕ
  dated = cond a 11 (cond b 12 (cond c 28 0))

tests_first : (a b c : Bool) → ¬ (either a b c ≡ 0) → either a b c ≡ dated a b c
tests_first true b c z = refl
tests_first false true c z = refl
tests_first false false c z = absurd (z refl)

tests_last : (a b c : Bool) → either a b c ≡ 0 → cond c 28 0 ≡ dated a b c
tests_last true b c z = absurd (omega (arith, z))
tests_last false true c z = absurd (omega (arith, z))
tests_last false false c z = refl

-- ---- the longest image

-- with the measures as the code read them
pub bytes_few : (table : List ℕ) → HeaderRanges table → (m : Measures) → m ≡ (shape_of table).measures → m.block_bytes ≤ 512
bytes_few table h m e = rw e h.measured.most_bytes

-- blocks by bytes or bytes by blocks
pub bytes_most : (table : List ℕ) (m : Measures) → m ≡ (shape_of table).measures → (r : ℕ) → r ≡ get_or table 2 0 * m.block_bytes → r ≡ most_bytes table
bytes_most table m e r q = q ∙ mul_comm (get_or table 2 0) m.block_bytes ∙ ap (λ (x : Measures). x.block_bytes * get_or table 2 0) e

-- ---- refusals, by what they ask

module _ {pool table : List ℕ} (h : Sound pool table) (t : ℕ) where
  -- the state that is read
  abbrev state : State
  state = state_in (shape_of table) pool table

  -- the day to beat
  abbrev newest : ℕ
  newest = newest_day (till_of state t).versions

  pub no_till_lem : (day : ℕ) (image : List ℕ) → get_or table 0 0 ≤ t → backup_dated_of pool table t day image ≡ refused_backup 3 pool table
  unfolding backup_dated_of backup_by backup_in backup shape_of backup_answer
  no_till_lem day image n = rw (h.is, le-leb _ _ n)

  pub no_bytes : (day : ℕ) (image : List ℕ) → t < get_or table 0 0 → length image ≡ 0 → backup_dated_of pool table t day image ≡ refused_backup 4 pool table
  unfolding backup_dated_of backup_by backup_in backup shape_of backup_answer
  no_bytes day image n z = rw (h.is, lt-leb _ _ n, eq-eqb _ _ z)

  pub many_bytes : (day : ℕ) (image : List ℕ) → t < get_or table 0 0 → (length image ≡ 0 → ⊥) → most_bytes table < length image → backup_dated_of pool table t day image ≡ refused_backup 4 pool table
  unfolding backup_dated_of backup_by backup_in backup shape_of backup_answer
  many_bytes day image n z m = rw (h.is, lt-leb _ _ n, ne_eqb _ _ z, lt-ltb _ _ m)

  module _ (n : t < get_or table 0 0) (day : ℕ) (image : List ℕ) (some : 0 < length image) (few : length image ≤ most_bytes table) where
    pub no_slot : get_or table 1 0 ≤ length (till_of (state_in (shape_of table) pool table) t).versions → backup_dated_of pool table t day image ≡ refused_backup 11 pool table
    unfolding backup_dated_of backup_by backup_in backup shape_of backup_answer
    no_slot m = rw (h.is, lt-leb _ _ n, ne_eqb (length image) 0 (λ e. omega (arith, e, some)), le-ltb _ _ few, le-leb _ _ m)

    pub no_number : length (till_of (state_in (shape_of table) pool table) t).versions < get_or table 1 0 → (till_of (state_in (shape_of table) pool table) t).last ≡ 65535
        → backup_dated_of pool table t day image ≡ refused_backup 12 pool table
    unfolding backup_dated_of backup_by backup_in backup shape_of backup_answer
    no_number m e = rw (h.is, lt-leb _ _ n, ne_eqb (length image) 0 (λ e. omega (arith, e, some)), le-ltb _ _ few, lt-leb _ _ m, eq-eqb _ _ e)

    pub too_early : HasRoomLeft pool table t → day < newest → backup_dated_of pool table t day image ≡ refused_backup 28 pool table
    unfolding backup_dated_of backup_by backup_in backup shape_of backup_answer day_for
    too_early f m =
        rw (h.is, lt-leb _ _ n, ne_eqb (length image) 0 (λ e. omega (arith, e, some)), le-ltb _ _ few, lt-leb _ _ f.room, ne_eqb (till_of state t).last 65535 (λ e. omega (arith, e, f.number)), lt-ltb day newest m)

  module _ (r : Head) (o : HeadOf pool table t r) where
    pub refusal_11 : get_or table 1 0 ≤ r.held → 11 ≡ till_refusal (shape_of table) state t
    unfolding shape_of
    refusal_11 m = rw (le-leb (get_or table 1 0) (length (till_of state t).versions) (omega (arith, m, o.held)))

    pub refusal_12 : (r.held < get_or table 1 0) → r.last ≡ 65535 → 12 ≡ till_refusal (shape_of table) state t
    unfolding shape_of
    refusal_12 m e = rw (lt-leb (get_or table 1 0) (length (till_of state t).versions) (omega (arith, m, o.held)), eq-eqb (till_of state t).last 65535 (sym o.last ∙ e))

    pub refusal_0 : (r.held < get_or table 1 0) → (r.last ≡ 65535 → ⊥) → 0 ≡ till_refusal (shape_of table) state t
    unfolding shape_of
    refusal_0 m e = rw (lt-leb (get_or table 1 0) (length (till_of state t).versions) (omega (arith, m, o.held)), ne_eqb (till_of state t).last 65535 (λ q. e (o.last ∙ q)))

  -- 28, once the till has a slot and a number left
  module _ (day r : ℕ) (e : r ≡ till_refusal (shape_of table) state t) where
    abbrev a : Bool
    a = leb (shape_of table).capacities.versions (length (till_of state t).versions)

    abbrev b : Bool
    b = eqb (till_of state t).last 65535

    pub dated_first : ¬ (r ≡ 0) → r ≡ dated_refusal (shape_of table) state t day
    dated_first z = e ∙ tests_first a b (ltb day newest) (λ q. z (e ∙ q))

    pub dated_28 : r ≡ 0 → day < newest → 28 ≡ dated_refusal (shape_of table) state t day
    dated_28 z m = sym (ap (λ (c : Bool). cond c 28 0) (lt-ltb day newest m)) ∙ tests_last a b (ltb day newest) (sym e ∙ z)

    pub dated_0 : r ≡ 0 → newest ≤ day → r ≡ dated_refusal (shape_of table) state t day
    dated_0 z m = z ∙ sym (ap (λ (c : Bool). cond c 28 0) (le-ltb day newest m)) ∙ tests_last a b (ltb day newest) (sym e ∙ z)

  module _ (n : t < get_or table 0 0) (day : ℕ) (image : List ℕ) (some : 0 < length image) (few : length image ≤ most_bytes table) where
    pub judged : (r : ℕ) → r ≡ dated_refusal (shape_of table) state t day → AcceptResult pool table t day image r
    unfolding shape_of
    judged r e = rw e (go (leb (get_or table 1 0) (length (till_of state t).versions)) (eqb (till_of state t).last 65535) (ltb day newest) refl refl refl)
      where
        free : leb (get_or table 1 0) (length (till_of state t).versions) ≡ false → eqb (till_of state t).last 65535 ≡ false → HasRoomLeft pool table t
        free f g = record {
          room = leb-false (get_or table 1 0) (length (till_of state t).versions) f;
          number = omega (arith, eqb-false (till_of state t).last 65535 g, last_most h t n);
        }

        go : (a b c : Bool) → leb (get_or table 1 0) (length (till_of state t).versions) ≡ a → eqb (till_of state t).last 65535 ≡ b → ltb day newest ≡ c
            → AcceptResult pool table t day image (cond a 11 (cond b 12 (cond c 28 0)))
        go true b c f g k = record { accepted = λ q. absurd (omega (arith, q)); refusal = λ z. no_slot n day image some few (leb-true (get_or table 1 0) (length (till_of state t).versions) f) }
        go false true c f g k = record { accepted = λ q. absurd (omega (arith, q)); refusal = λ z. no_number n day image some few (leb-false (get_or table 1 0) (length (till_of state t).versions) f) (eqb-true (till_of state t).last 65535 g) }
        go false false true f g k = record { accepted = λ q. absurd (omega (arith, q)); refusal = λ z. too_early n day image some few (free f g) (ltb-true day newest k) }
        go false false false f g k = record {
          accepted = λ q. record { there = n; some = some; few = few; free = free f g; dated = ltb-false day newest k };
          refusal = λ z. absurd (z refl);
        }

  pub judged_so : (day : ℕ) (image : List ℕ) (r : ℕ) → (r ≡ 0 → ⊥) → backup_dated_of pool table t day image ≡ refused_backup r pool table → AcceptResult pool table t day image r
  judged_so day image r z e = record { accepted = λ q. absurd (z q); refusal = λ q. e }
