use native.Mathlib.Omega.{arith}
use mathlib.Core.Bool.{Bool}
use mathlib.Core.Path.{◌≡◌, sym, ap, ◌∙◌}
use mathlib.Core.List.{List, [], map}
use Prim.Native.Nat.{ℕ}
use lib.ListN.{get_or}
use borrow.Author.Tests.{eqb-true, eq-eqb}
use Rattle.lists.proofs.Checkers.{is_so}
use Rattle.model.specs.State.{null_position, Segment, Storage}
use Rattle.model.specs.Records.{is_held, position_at}
use Rattle.model.specs.Table.{word_to_pointer, records_in}
use Rattle.model.specs.Sound.{resolves}
use Rattle.audit_words.proofs.Pointers.{read_direct, read_indirect, direct_canonical, indirect_canonical, null_reads, blank_reads, null_canonical, blank_canonical, canonical_other}
use Rattle.audit_counts.proofs.Counters.{bumped_other}
use Rattle.audit_pointers.proofs.pointer_sound.Goals as goal

-- a position of the records is one of any storage that has them
found : {r : Bool} (storage : Storage) (segs : List Segment) (k i : ℕ) → storage.records ≡ segs → r ≡ is_held (get_or (get_or segs k []) i null_position) → r ≡ is_held (position_at storage k i)
unfolding position_at
found storage segs k i q e = e ∙ ap (λ (s : List Segment). is_held (get_or (get_or s k []) i null_position)) (sym q)

pub returns-in-2 : goal.returns-in-2
returns-in-2 c = let w = c.args.w in
    let k = c.in-2.is in
    let e : (storage : Storage) → c.not_null.result ≡ resolves storage (map word_to_pointer c.args.newer.now) (word_to_pointer w) = λ storage. rw (read_indirect w k) c.not_null.ensures in
    (λ storage q. record { holds = λ t. record { canonical = indirect_canonical w k; resolves = sym (e storage) ∙ t }; seen = λ g. e storage ∙ g.resolves }, λ t. bumped_other w _ (λ z. omega (arith, k, z)))

pub returns-in-1 : goal.returns-in-1
returns-in-1 c = let w = c.args.w in
    let k = c.in-1.is in
    let e : (storage : Storage) → storage.records ≡ records_in c.args.n c.args.records.now → c.held_at.result ≡ resolves storage (map word_to_pointer c.args.newer.now) (word_to_pointer w) = λ storage q. rw (read_direct w k) (found storage _ _ _ q c.held_at.ensures) in
    (λ storage q. record { holds = λ t. record { canonical = direct_canonical w k; resolves = sym (e storage q) ∙ t }; seen = λ g. e storage q ∙ g.resolves }, λ t. c.bump.ensures)

pub returns-then-w-null : goal.returns-then-w-null
returns-then-w-null c = let w = c.args.w in
    let e = c.if-w-null.true ∙ c.null.ensures in
    (λ storage q. rw (eq-eqb w c.null.result.0 c.if-w-null.true) (is_so (record { canonical = null_canonical w e; resolves = rw (null_reads w e) })), λ t. bumped_other w _ (λ z. omega arith))

pub returns-else-w-null : goal.returns-else-w-null
returns-else-w-null c = let w = c.args.w in
    let b = c.blank.ensures in (
      λ storage q. record {
        holds = λ t. let e = eqb-true w c.blank.result.0 t ∙ b in record { canonical = blank_canonical w e; resolves = rw (blank_reads w e) };
        seen = λ g. eq-eqb w c.blank.result.0 (canonical_other w (λ z. omega arith) (λ z. omega arith) (λ e. c.if-w-null.false (e ∙ sym c.null.ensures)) g.canonical ∙ sym b);
      },
      λ t. bumped_other w _ (λ z. omega arith),
    )
