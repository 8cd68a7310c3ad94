-- What a pointer is, its record and position apart.
use Prim.Native.Nat.{ℕ, suc}
use mathlib.Core.Option.{Option, none, some}
use Rattle.model.specs.State.{Pointer, null_pointer, blank_pointer, direct, indirect}

pub data Kind : Type 0 where
  zero_kind : Kind
  blank_kind : Kind
  direct_kind : Kind
  indirect_kind : (block : ℕ) → Kind

abbrev pub kind_of : Pointer → Kind
kind_of null_pointer = zero_kind
kind_of blank_pointer = blank_kind
kind_of (direct k i) = direct_kind
kind_of (indirect n) = indirect_kind n

-- direct, or what it turned into
abbrev pub kind_at : Option Pointer → Kind
kind_at none = direct_kind
kind_at (some q) = kind_of q

-- an indirect pointer's own hop and those after it
unfoldable pub hops_of_kind : Kind → (ℕ → ℕ) → ℕ
hops_of_kind zero_kind next = 0
hops_of_kind blank_kind next = 0
hops_of_kind direct_kind next = 0
hops_of_kind (indirect_kind n) next = suc (next n)
