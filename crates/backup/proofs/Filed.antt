-- A till's words lent out of the table, and back with a version filed.
use mathlib.Core.Path.{◌≡◌, sym, ap, ◌∙◌}
use mathlib.Core.List.{List, ◌++◌, map}
use Prim.Native.Nat.{ℕ, ◌-◌, ◌<◌}
use native.Mathlib.Omega.{arith}
use lib.ListN.{length, take, drop}
use borrow.Rule.Slice.PartMut.{mid_of, put_mid}
use Rattle.model.specs.Calls.{till_of, till_with, newest_pointers}
use Rattle.model.specs.Measures.{till_words}
use Rattle.model.specs.State.{Pointer, Till}
use Rattle.model.specs.Table.{till_to_words, state_to_words, pointer_word}
use Rattle.laws.specs.Stores.{till_at}
use Rattle.laws.proofs.Stores.{till_is, till_put}
use Rattle.backup.specs.Backup.{FileResult}

pub filed_on : (at end b : ℕ) (turned : List ℕ) (bytes day : ℕ) (pointers table out : List ℕ)
    → ((v : ℕ) (t : Till) (ps qs : List Pointer) → length t.versions < v → mid_of at (end - at) table ≡ till_to_words v b t → turned ≡ map pointer_word ps
    → length ps ≡ length (newest_pointers t.versions) → pointers ≡ map pointer_word qs → out ≡ till_to_words v b (till_with t ps bytes day qs))
    → FileResult at end b turned bytes day pointers table (put_mid at (end - at) table out)
filed_on at end b turned bytes day pointers table out f s st t ps qs ht eb ea ee et room ep lo eq =
    let w : ℕ = till_words s.capacities.versions s.capacities.blocks in
    let new : Till = till_with (till_of st t) ps bytes day qs in
    let n : end - at ≡ w = omega (arith, ee) in
    let mid : mid_of at (end - at) table ≡ till_to_words s.capacities.versions b (till_of st t) =
    ap (λ (k : ℕ). take k (drop at table)) n ∙ ap (λ (k : ℕ). take w (drop k table)) ea ∙ ap (λ (l : List ℕ). take w (drop (till_at s t) l)) et
    ∙ till_is s st t ht ∙ ap (λ (k : ℕ). till_to_words s.capacities.versions k (till_of st t)) (sym eb) in
    let is : out ≡ till_to_words s.capacities.versions s.capacities.blocks new =
    f s.capacities.versions (till_of st t) ps qs room mid ep lo eq ∙ ap (λ (k : ℕ). till_to_words s.capacities.versions k new) eb in
    ap (λ (k : ℕ). take at table ++ (out ++ drop k (drop at table))) n
    ∙ ap (λ (k : ℕ). take k table ++ (out ++ drop w (drop k table))) ea
    ∙ ap (λ (l : List ℕ). take (till_at s t) l ++ (out ++ drop w (drop (till_at s t) l))) et
    ∙ ap (λ (x : List ℕ). take (till_at s t) (state_to_words s st) ++ (x ++ drop w (drop (till_at s t) (state_to_words s st)))) is
    ∙ till_put s st t ht new
