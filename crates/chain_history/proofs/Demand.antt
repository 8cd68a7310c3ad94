-- Demand 3 on a chain: each of its stores is the one that its calls leave of it alone, and of that the theorem about one store speaks.
use mathlib.Core.Path.{◌≡◌, refl, sym, ap, subst, ◌∙◌}
use mathlib.Core.Bool.{Bool, true, false, cond, false≢true}
use mathlib.Core.List.{List, [], ◌∷◌}
use mathlib.Core.Option.{Option}
use Prim.Native.Nat.{ℕ, ◌+◌, ◌≤◌, ◌<◌}
use native.Mathlib.Nat.{suc-ne-zero}
use native.Mathlib.Omega.{arith}
use lib.ListN.{length}
use lib.Dec.{eqb, ltb}
use borrow.Author.Tests.{eqb-true, eqb-false, eq-eqb, ne_eqb, ltb-true, ltb-false}
use Rattle.lists.specs.Lists.{is_some, all_of}
use Rattle.lists.proofs.Tests.{cond_self}
use Rattle.model.specs.Measures.{Shape, table_words, pool_bytes}
use Rattle.model.specs.State.{State}
use Rattle.model.specs.Image.{Era}
use Rattle.model.specs.Calls.{empty_state, BackupAnswer, restore_refusal, listing_refusal}
use Rattle.model.specs.Rights.{backup_refusal, backup_as, retire_refusal, version_on_refusal, tally_refusal}
use Rattle.stream.specs.Stream.{stream_refusal}
use Rattle.sent.specs.Sent.{backup_sent_as}
use Rattle.bill.specs.Bill.{bill_refused}
use Rattle.closing.specs.Closing.{all_refused}
use Rattle.laws.proofs.Fits.{state_fits}
use Rattle.laws.proofs.RoundTrip.{table_length_lem, pool_length}
use Rattle.history.specs.Calls.{Call, call_layout, call_backup, call_restore, call_retire, call_listing, call_version_on, call_tally, call_bill, call_write_stream, call_offer, call_backup_sent, call_backup_all, call_set_rights, Buffers, backed_up, backed_up_all, refusal_in, refused_layout}
use Rattle.history.specs.Users.{UserCall, answer_by, buffers_by, buffers_after_all, refused_layouts, state_after_all}
use Rattle.history.specs.Demand.{Demands}
use Rattle.history.proofs.Steps.{Represents, left_store, left_laid}
use Rattle.history.proofs.Users.{left_by, left_all}
use Rattle.history.proofs.Demand.{demand_3}
use Rattle.chain.specs.Chain.{Chain, store_count, pool_at, table_at, add_up, is_store_at, chain_refusal}
use Rattle.chain.specs.Limit.{occupied, all_cells, other_cells, is_over, within, backup_all_within}
use Rattle.chain.specs.Calls.{chain_backup, chain_restore, chain_retire, chain_listing, chain_version_on, chain_tally, chain_bill, chain_write_stream, chain_offer, chain_backup_sent, chain_backup_all, chain_set_rights, backup_on_chain, all_on_chain, retire_on_chain, rights_on_chain}
use Rattle.chain_history.specs.Calls.{ChainCall, buffers_at, with_buffers, answer_on, left_on, chain_after, chain_after_all, layouts_refused, unless_over, reaches, calls_to, all_calls_to}
use Rattle.chain_history.specs.Demand.{Fresh, FreshChain, names_store, brings_limit, StoresServe, ChainDemand3}
use Rattle.chain_history.proofs.Puts.{LengthsAddUp, put, put_outside, put_lengths, put_here, put_other, not_refused, refused_outside, cells_put}
use Rattle.chain_history.proofs.Steps.{after_append, refused_append, step_left, step_refused}

-- ---- chains whose stores calls have left

pub record ChainSound (shapes : ℕ → Shape) (c : Chain) : Type 0 where
  pub lengths : LengthsAddUp c
  pub left : (j : ℕ) → j < store_count c → (st : State) × Represents (shapes j) (buffers_at c j) st

module _ (shapes : ℕ → Shape) (c : Chain) (g : ChainSound shapes c) where
  each_sound : (j : ℕ) → j < store_count c → is_store_at c j ≡ true
  unfolding is_store_at is_some buffers_at
  each_sound j h = let (st, l) = g.left j h in ap is_some (left_store (shapes j) (buffers_at c j) st l)

  pub good_here : (i : ℕ) → i < store_count c → chain_refusal c i ≡ 0
  good_here = not_refused c g.lengths each_sound

  pub good_outside : (i : ℕ) → store_count c ≤ i → chain_refusal c i ≡ 3
  good_outside = refused_outside c g.lengths each_sound

-- a store of a shape is as long as any other
left_lengths : (s : Shape) (b b' : Buffers) (st st' : State) → Represents s b st → Represents s b' st' → (length b'.pool ≡ length b.pool) × (length b'.table ≡ length b.table)
left_lengths s b b' st st' l l' = (pool b' st' l' ∙ sym (pool b st l), table b' st' l' ∙ sym (table b st l))
  where
    pool : (b : Buffers) (st : State) → Represents s b st → length b.pool ≡ pool_bytes s
    pool b st l = ap length l.pool ∙ pool_length s st (state_fits s st l.fit.proper.bytes l.fit.most l.sound)

    table : (b : Buffers) (st : State) → Represents s b st → length b.table ≡ table_words s
    table b st l = ap length l.table ∙ table_length_lem s st (state_fits s st l.fit.proper.bytes l.fit.most l.sound)

-- ---- one call

-- a call that names a store outside the chain leaves all as it was
left_outside : (c : Chain) → LengthsAddUp c → (i limit u : ℕ) → store_count c ≤ i → chain_refusal c i ≡ 3 → (call : Call) → left_on c i limit u call ≡ c
unfolding left_on
left_outside c l i limit u h z (call_layout s) = put_outside c l i h _
left_outside c l i limit u h z (call_backup era t d image) = unfold chain_backup backup_refusal with_buffers in rw z refl
left_outside c l i limit u h z (call_restore t v output) = refl
left_outside c l i limit u h z (call_retire t v) = unfold chain_retire retire_refusal with_buffers in rw z refl
left_outside c l i limit u h z (call_listing t) = refl
left_outside c l i limit u h z (call_version_on t day) = refl
left_outside c l i limit u h z call_tally = refl
left_outside c l i limit u h z (call_bill price) = refl
left_outside c l i limit u h z (call_write_stream t v output) = refl
left_outside c l i limit u h z (call_offer t fs ms) = refl
left_outside c l i limit u h z (call_backup_sent t n fs ms ss) = unfold chain_backup_sent backup_refusal with_buffers in rw z refl
left_outside c l i limit u h z (call_backup_all ts ns is) = unfold chain_backup_all with_buffers in rw z refl
left_outside c l i limit u h z (call_set_rights subject t r) = unfold chain_set_rights with_buffers in rw z refl

-- what a call leaves: sound stores, each that of the calls that it gets
pub record Stepped (shapes : ℕ → Shape) (c : Chain) (x : ChainCall) : Type 0 where
  pub good : ChainSound shapes (chain_after c x)
  pub count : store_count (chain_after c x) ≡ store_count c
  pub each : (j : ℕ) → j < store_count c → buffers_at (chain_after c x) j ≡ buffers_after_all (buffers_at c j) (calls_to j c x)
  pub refused : (j : ℕ) → j < store_count c → refused_layouts (buffers_at c j) (calls_to j c x)

-- the calls that a store gets by a call that names it, or another
calls_here : (c : Chain) (x : ChainCall) (j : ℕ) → x.store ≡ j → calls_to j c x ≡ reaches c x.store x.limit x.user x.call
unfolding calls_to
calls_here c x j e = rw (eq-eqb x.store j e)

calls_other : (c : Chain) (x : ChainCall) (j : ℕ) → (x.store ≡ j → ⊥) → calls_to j c x ≡ []
unfolding calls_to
calls_other c x j h = rw (ne_eqb x.store j h)

module _ (shapes : ℕ → Shape) (c : Chain) (g : ChainSound shapes c) (x : ChainCall) (r : refused_layout (buffers_at c x.store) x.call) where
  -- a store that the call does not name
  no_calls : (j : ℕ) → (x.store ≡ j → ⊥) → (buffers_at c j ≡ buffers_after_all (buffers_at c j) (calls_to j c x)) × refused_layouts (buffers_at c j) (calls_to j c x)
  unfolding buffers_after_all
  no_calls j h = rw (calls_other c x j h) (refl, tt)

  stepped_outside : store_count c ≤ x.store → Stepped shapes c x
  unfolding chain_after
  stepped_outside h =
      let same : chain_after c x ≡ c = left_outside c g.lengths x.store x.limit x.user h (good_outside shapes c g x.store h) x.call in
      record {
        good = subst (ChainSound shapes) (sym same) g;
        count = ap store_count same;
        each = λ j q. ap (λ (d : Chain). buffers_at d j) same ∙ (no_calls j (λ e. omega (arith, e, h, q))).0;
        refused = λ j q. (no_calls j (λ e. omega (arith, e, h, q))).1;
      }

  module _ (h : x.store < store_count c) where
    abbrev calls : List UserCall
    calls = reaches c x.store x.limit x.user x.call

    abbrev after : Buffers
    after = buffers_after_all (buffers_at c x.store) calls

    z : chain_refusal c x.store ≡ 0
    z = good_here shapes c g x.store h

    refusals : refused_layouts (buffers_at c x.store) calls
    refusals = step_refused c g.lengths x.store x.limit x.user z x.call r

    is : chain_after c x ≡ put c x.store after
    unfolding chain_after
    is = step_left c g.lengths x.store x.limit x.user z x.call

    left_here : (st : State) × Represents (shapes x.store) after st
    left_here = let (st, l) = g.left x.store h in (state_after_all (shapes x.store) st calls, left_all (shapes x.store) calls (buffers_at c x.store) st l refusals)

    as_long : (length after.pool ≡ length (pool_at c x.store)) × (length after.table ≡ length (table_at c x.store))
    unfolding buffers_at
    as_long =
        let (st, l) = g.left x.store h in
        let (st', l') = left_here in
        left_lengths (shapes x.store) (buffers_at c x.store) after st st' l l'

    here : buffers_at (put c x.store after) x.store ≡ after
    here = put_here c g.lengths x.store after as_long.0 as_long.1 h

    other : (j : ℕ) → (x.store ≡ j → ⊥) → buffers_at (put c x.store after) j ≡ buffers_at c j
    other j n = put_other c g.lengths x.store after as_long.0 as_long.1 j (λ e. n (sym e))

    good_put : ChainSound shapes (put c x.store after)
    unfolding with_buffers
    good_put = record { lengths = put_lengths c g.lengths x.store after as_long.0 as_long.1; left = λ j q. go j q (eqb x.store j) refl }
      where
        go : (j : ℕ) → j < store_count c → (t : Bool) → eqb x.store j ≡ t → (st : State) × Represents (shapes j) (buffers_at (put c x.store after) j) st
        go j q true e =
            subst (λ (k : ℕ). (st : State) × Represents (shapes k) (buffers_at (put c x.store after) k) st) (eqb-true x.store j e)
            (subst (λ (b : Buffers). (st : State) × Represents (shapes x.store) b st) (sym here) left_here)
        go j q false e = subst (λ (b : Buffers). (st : State) × Represents (shapes j) b st) (sym (other j (eqb-false x.store j e))) (g.left j q)

    stepped_inside : Stepped shapes c x
    unfolding with_buffers
    stepped_inside = record {
      good = subst (ChainSound shapes) (sym is) good_put;
      count = ap store_count is;
      each = λ j q. ap (λ (d : Chain). buffers_at d j) is ∙ each j (eqb x.store j) refl;
      refused = λ j q. layouts j (eqb x.store j) refl;
    }
      where
        each : (j : ℕ) (t : Bool) → eqb x.store j ≡ t → buffers_at (put c x.store after) j ≡ buffers_after_all (buffers_at c j) (calls_to j c x)
        each j true e = let q = eqb-true x.store j e in rw (calls_here c x j q) (rw (← q) here)
        each j false e = other j (eqb-false x.store j e) ∙ (no_calls j (eqb-false x.store j e)).0

        layouts : (j : ℕ) (t : Bool) → eqb x.store j ≡ t → refused_layouts (buffers_at c j) (calls_to j c x)
        layouts j true e = let q = eqb-true x.store j e in rw (calls_here c x j q) (rw (← q) refusals)
        layouts j false e = (no_calls j (eqb-false x.store j e)).1

  pub stepped : Stepped shapes c x
  stepped = go (ltb x.store (store_count c)) refl
    where
      go : (t : Bool) → ltb x.store (store_count c) ≡ t → Stepped shapes c x
      go true e = stepped_inside (ltb-true _ _ e)
      go false e = stepped_outside (ltb-false _ _ e)

-- ---- lists of calls

stores_all : (shapes : ℕ → Shape) (xs : List ChainCall) (c : Chain) → ChainSound shapes c → layouts_refused c xs
    → ChainSound shapes (chain_after_all c xs) × (store_count (chain_after_all c xs) ≡ store_count c)
    × ((j : ℕ) → j < store_count c → (buffers_at (chain_after_all c xs) j ≡ buffers_after_all (buffers_at c j) (all_calls_to j c xs)) × refused_layouts (buffers_at c j) (all_calls_to j c xs))
unfolding chain_after_all all_calls_to buffers_after_all
stores_all shapes [] c g r = (g, refl, λ j h. (refl, tt))
stores_all shapes (x ∷ xs) c g r =
    let s : Stepped shapes c x = stepped shapes c g x r.0 in
    let (good, count, each) = stores_all shapes xs (chain_after c x) s.good r.1 in (
      good,
      count ∙ s.count,
      λ j h.
          let (is, refusals) = each j (omega (arith, s.count, h)) in (
            is ∙ ap (λ (b : Buffers). buffers_after_all b (all_calls_to j (chain_after c x) xs)) (s.each j h) ∙ sym (after_append (calls_to j c x) (all_calls_to j (chain_after c x) xs) (buffers_at c j)),
            refused_append (calls_to j c x) (all_calls_to j (chain_after c x) xs) (buffers_at c j) (s.refused j h)
                (subst (λ (b : Buffers). refused_layouts b (all_calls_to j (chain_after c x) xs)) (s.each j h) refusals),
          ),
    )

-- ---- what the next call answers

answer_outside : (c : Chain) (i limit u : ℕ) (call : Call) → chain_refusal c i ≡ 3 → names_store call ≡ true → refusal_in (answer_on c i limit u call) ≡ 3
unfolding answer_on refusal_in names_store
answer_outside c i limit u (call_layout s) z e = absurd (false≢true e)
answer_outside c i limit u (call_backup era t d image) z e = unfold chain_backup backup_refusal in rw z refl
answer_outside c i limit u (call_restore t v output) z e = unfold chain_restore restore_refusal in rw z refl
answer_outside c i limit u (call_retire t v) z e = unfold chain_retire retire_refusal in rw z refl
answer_outside c i limit u (call_listing t) z e = unfold chain_listing listing_refusal in rw z refl
answer_outside c i limit u (call_version_on t day) z e = unfold chain_version_on version_on_refusal in rw z refl
answer_outside c i limit u call_tally z e = unfold chain_tally tally_refusal in rw z refl
answer_outside c i limit u (call_bill price) z e = unfold chain_bill bill_refused in rw z refl
answer_outside c i limit u (call_write_stream t v output) z e = unfold chain_write_stream stream_refusal in rw z refl
answer_outside c i limit u (call_offer t fs ms) z e = unfold chain_offer in rw z refl
answer_outside c i limit u (call_backup_sent t n fs ms ss) z e = unfold chain_backup_sent backup_refusal in rw z refl
answer_outside c i limit u (call_backup_all ts ns is) z e = unfold chain_backup_all all_refused in rw z refl
answer_outside c i limit u (call_set_rights subject t r) z e = unfold chain_set_rights in rw z refl

module _ (c : Chain) (i limit u : ℕ) (z : chain_refusal c i ≡ 0) where
  answer_alone : (call : Call) → brings_limit call ≡ false → answer_on c i limit u call ≡ answer_by (buffers_at c i) u call
  unfolding answer_on answer_by brings_limit buffers_at
  answer_alone (call_layout s) e = refl
  answer_alone (call_backup era t d image) e = absurd (false≢true (sym e))
  answer_alone (call_restore t v output) e = unfold chain_restore in rw z refl
  answer_alone (call_retire t v) e = unfold chain_retire retire_on_chain in rw z refl
  answer_alone (call_listing t) e = unfold chain_listing in rw z refl
  answer_alone (call_version_on t day) e = unfold chain_version_on in rw z refl
  answer_alone call_tally e = unfold chain_tally in rw z refl
  answer_alone (call_bill price) e = unfold chain_bill in rw z refl
  answer_alone (call_write_stream t v output) e = unfold chain_write_stream in rw z refl
  answer_alone (call_offer t fs ms) e = unfold chain_offer in rw z refl
  answer_alone (call_backup_sent t n fs ms ss) e = absurd (false≢true (sym e))
  answer_alone (call_backup_all ts ns is) e = absurd (false≢true (sym e))
  answer_alone (call_set_rights subject t r) e = unfold chain_set_rights rights_on_chain in rw z refl

  -- an answer that the limit may refuse
  over_answer : (over : Bool) (pool table : List ℕ) (a : BackupAnswer)
      → backed_up (cond over (backup_refusal pool table 21) a).refusal (cond over (backup_refusal pool table 21) a).version ≡ cond over (backed_up 21 0) (backed_up a.refusal a.version)
  unfolding backup_refusal
  over_answer true pool table a = refl
  over_answer false pool table a = refl

  answer_backup : (era : Era) (t : ℕ) (d : Option ℕ) (image : List ℕ)
      → answer_on c i limit u (call_backup era t d image)
      ≡ cond (is_over (other_cells c i) limit (backup_as era (pool_at c i) (table_at c i) u t d image)) (backed_up 21 0) (answer_by (buffers_at c i) u (call_backup era t d image))
  unfolding answer_on answer_by buffers_at chain_backup backup_on_chain within
  answer_backup era t d image =
      let a : BackupAnswer = backup_as era (pool_at c i) (table_at c i) u t d image in rw z (over_answer (is_over (other_cells c i) limit a) (pool_at c i) (table_at c i) a)

  answer_sent : (t n : ℕ) (fs ms ss : List ℕ)
      → answer_on c i limit u (call_backup_sent t n fs ms ss)
      ≡ cond (is_over (other_cells c i) limit (backup_sent_as (pool_at c i) (table_at c i) u t n fs ms ss)) (backed_up 21 0) (answer_by (buffers_at c i) u (call_backup_sent t n fs ms ss))
  unfolding answer_on answer_by buffers_at chain_backup_sent backup_on_chain within
  answer_sent t n fs ms ss =
      let a : BackupAnswer = backup_sent_as (pool_at c i) (table_at c i) u t n fs ms ss in rw z (over_answer (is_over (other_cells c i) limit a) (pool_at c i) (table_at c i) a)

  answer_all : (ts ns is : List ℕ) → answer_on c i limit u (call_backup_all ts ns is) ≡ backed_up_all (backup_all_within (other_cells c i) limit (pool_at c i) (table_at c i) u ts ns is).answer
  unfolding answer_on chain_backup_all all_on_chain
  answer_all ts ns is = rw z refl

-- ---- what a limit keeps

module _ (shapes : ℕ → Shape) (c : Chain) (g : ChainSound shapes c) (i limit u : ℕ) (h : i < store_count c) where
  -- what a call leaves, where its store gets it
  cells_left : (call : Call) → refused_layout (buffers_at c i) call → reaches c i limit u call ≡ record { user = u; call = call } ∷ []
      → all_cells (left_on c i limit u call) ≡ other_cells c i + occupied (buffers_by (buffers_at c i) u call).pool (buffers_by (buffers_at c i) u call).table
  unfolding buffers_after_all buffers_at
  cells_left call r e =
      let (st, l) = g.left i h in
      let l' = left_by (shapes i) (buffers_at c i) st u call l r in
      let long = left_lengths (shapes i) (buffers_at c i) (buffers_by (buffers_at c i) u call) st _ l l' in
      ap all_cells (step_left c g.lengths i limit u (good_here shapes c g i h) call ∙ ap (λ (xs : List UserCall). put c i (buffers_after_all (buffers_at c i) xs)) e)
      ∙ cells_put c g.lengths i (buffers_by (buffers_at c i) u call) long.0 long.1 h

-- an answer that is accepted is not over the limit
accepted_within : (over : Bool) (refusal version : ℕ) → refusal_in (cond over (backed_up 21 0) (backed_up refusal version)) ≡ 0 → (over ≡ false) × (refusal ≡ 0)
unfolding refusal_in
accepted_within true n v e = absurd (suc-ne-zero 20 e)
accepted_within false n v e = (refl, e)

not_over : (others limit : ℕ) (a : BackupAnswer) → is_over others limit a ≡ false → a.refusal ≡ 0 → others + occupied a.pool a.table ≤ limit
unfolding all_of
not_over others limit a e z = ltb-false limit (others + occupied a.pool a.table) (last (eq-eqb a.refusal 0 z) e)
  where
    last : {x y : Bool} → x ≡ true → cond x (cond y true false) false ≡ false → y ≡ false
    last {x} {y} p q = sym (cond_self y) ∙ sym (ap (λ (t : Bool). cond t (cond y true false) false) p) ∙ q

serves : (shapes : ℕ → Shape) (c : Chain) → ChainSound shapes c → StoresServe c
unfolding answer_by buffers_by buffers_at reaches unless_over
serves shapes c g = record {
  outside = λ i limit u call h e. answer_outside c i limit u call (good_outside shapes c g i h) e;
  alone = λ i limit u call h e. answer_alone c i limit u (good_here shapes c g i h) call e;
  backup = λ i limit u era t d image h. answer_backup c i limit u (good_here shapes c g i h) era t d image;
  backup_sent = λ i limit u t n fs ms ss h. answer_sent c i limit u (good_here shapes c g i h) t n fs ms ss;
  backup_all = λ i limit u ts ns is h. answer_all c i limit u (good_here shapes c g i h) ts ns is;
  kept = kept;
  kept_sent = kept_sent;
}
  where
    kept : (i limit u : ℕ) (era : Era) (t : ℕ) (d : Option ℕ) (image : List ℕ) → i < store_count c → refusal_in (answer_on c i limit u (call_backup era t d image)) ≡ 0
        → all_cells (left_on c i limit u (call_backup era t d image)) ≤ limit
    kept i limit u era t d image h z =
        let a : BackupAnswer = backup_as era (pool_at c i) (table_at c i) u t d image in
        let (within, accepted) = accepted_within (is_over (other_cells c i) limit a) a.refusal a.version (ap refusal_in (sym (answer_backup c i limit u (good_here shapes c g i h) era t d image)) ∙ z) in
        omega (arith, cells_left shapes c g i limit u h (call_backup era t d image) tt (rw within refl), not_over (other_cells c i) limit a within accepted)

    kept_sent : (i limit u t n : ℕ) (fs ms ss : List ℕ) → i < store_count c → refusal_in (answer_on c i limit u (call_backup_sent t n fs ms ss)) ≡ 0
        → all_cells (left_on c i limit u (call_backup_sent t n fs ms ss)) ≤ limit
    kept_sent i limit u t n fs ms ss h z =
        let a : BackupAnswer = backup_sent_as (pool_at c i) (table_at c i) u t n fs ms ss in
        let (within, accepted) = accepted_within (is_over (other_cells c i) limit a) a.refusal a.version (ap refusal_in (sym (answer_sent c i limit u (good_here shapes c g i h) t n fs ms ss)) ∙ z) in
        omega (arith, cells_left shapes c g i limit u h (call_backup_sent t n fs ms ss) tt (rw within refl), not_over (other_cells c i) limit a within accepted)

-- ---- the theorem

good_fresh : (shapes : ℕ → Shape) (c : Chain) → FreshChain shapes c → ChainSound shapes c
unfolding add_up
good_fresh shapes c f = record {
  lengths = record { count = f.count; pools = eqb-true _ _ f.pools; tables = eqb-true _ _ f.tables };
  left = λ j h. let s : Fresh (shapes j) (buffers_at c j) = f.stores j h in (empty_state (shapes j), subst (λ (b : Buffers). Represents (shapes j) b (empty_state (shapes j))) (sym s.is) (left_laid (shapes j) s.pool s.table s.accepted));
}

pub chain_demand_3 : ChainDemand3
chain_demand_3 shapes c calls f r =
    let (good, count, each) = stores_all shapes calls c (good_fresh shapes c f) r in
    record {
      stores = λ j h. (each j h).0;
      demands = λ j h.
          let s : Fresh (shapes j) (buffers_at c j) = f.stores j h in
          subst (λ (b : Buffers). Demands (shapes j) b (all_calls_to j c calls)) (sym s.is)
          (demand_3 (shapes j) s.pool s.table (all_calls_to j c calls) s.accepted (subst (λ (b : Buffers). refused_layouts b (all_calls_to j c calls)) s.is (each j h).1));
      serves = serves shapes (chain_after_all c calls) good;
    }
