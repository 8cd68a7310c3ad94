-- What is lent to the tracing, and what the answer says, with the output after the call.
use Rattle.std.specs.Prelude.{ℕ, ◌≡◌, List, length, get_or, Result, Ok, Err}
use Rattle.model.specs.Measures.{Measures, parts_for}
use Rattle.model.specs.Table.{versions_in}
use Rattle.model.specs.Calls.{RestoreAnswer}
use Rattle.refusals.specs.declared.Refusal.{Refusal}
use Rattle.refusals.specs.Refusals.{number_of}
use Rattle.storage.specs.Stored.{Stored}
use Rattle.restore_trace.specs.Versions.{pointers_at, Traceable, DirectWithin}
use Rattle.restore.specs.declared.Image.{Image}

pub record Lent (m : Measures) (b h : ℕ) (pool words slots : List ℕ) : Type 0 where
  pub stored : Stored m pool words
  pub traceable : Traceable m.block_bytes b h slots
  pub fit : DirectWithin m.segment_blocks m.block_bytes b h slots (length words)
  pub blocks : length (pointers_at (versions_in m.block_bytes b h slots) 0) ≡ parts_for m.block_bytes (get_or slots 1 0)

abbrev pub restore_result : Result Image Refusal → List ℕ → RestoreAnswer
restore_result (Ok r) output = record { refusal = 0; length = r.length; hops = r.hops; output = output }
restore_result (Err e) output = record { refusal = number_of e; length = 0; hops = 0; output = output }
