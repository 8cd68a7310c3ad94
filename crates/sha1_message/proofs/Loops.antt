-- What the loops over a message's chunks need.
use Rattle.std.proofs.Common.{◌≡◌, ℕ, ◌+◌, ◌*◌, ◌/◌, ◌<◌, List, ◌++◌, length, replicate, sym, refl, ap, ◌∙◌, arith}
use lib.ListN.{length-replicate, replicate-append-replicate}
use Rattle.sha1_definition.specs.declared.State.{State}
use Rattle.sha1_definition.specs.Sha1.{compress, absorb, absorbed}
use Rattle.sha1_definition.proofs.Absorb.{absorbed_append, absorbed_next, absorbed_one}

-- a chunk of those that are left, and fewer bytes than one
pub absorb_chunk : (h h' : State) (rest rest' chunk : List ℕ) → rest ≡ chunk ++ rest' → length chunk ≡ 64 → h' ≡ compress h chunk → absorbed h' rest' ≡ absorbed h rest
absorb_chunk h h' rest rest' chunk e l q = rw (e, q) (sym (absorbed_next h chunk rest' l))

pub absorb_none : (h : State) (rest : List ℕ) → length rest < 64 → absorbed h rest ≡ h
unfolding absorbed absorb
absorb_none h rest p =
    let e : length rest / 64 ≡ 0 = omega arith in
    rw e

-- one byte throughout
module _ (h : State) (byte : ℕ) where
  pub same_none : h ≡ absorbed h (replicate (64 * 0) byte)
  unfolding absorbed absorb
  same_none = refl

  pub same_more : (i : ℕ) → compress (absorbed h (replicate (64 * i) byte)) (replicate 64 byte) ≡ absorbed h (replicate (64 * (i + 1)) byte)
  same_more i =
      let e : 64 * i + 64 ≡ 64 * (i + 1) = omega arith in
      sym (absorbed_one (absorbed h (replicate (64 * i) byte)) (replicate 64 byte) (length-replicate {0} {A = ℕ} 64 byte))
      ∙ sym (absorbed_append i h (replicate (64 * i) byte) (replicate 64 byte) (length-replicate {0} {A = ℕ} (64 * i) byte))
      ∙ ap (absorbed h) (replicate-append-replicate (64 * i) 64 byte ∙ ap (λ (n : ℕ). replicate n byte) e)
