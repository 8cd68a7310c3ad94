use native.Mathlib.Omega.{arith}
use mathlib.Core.List.{[]}
use Rattle.chain.specs.Chain.{chain_of}
use Rattle.chain_check.proofs.Refusals.{no_store, too_many, some_stores}
use Rattle.chain_check.proofs.is_chain.Goals as goal

pub returns-then-stores-lt1 : goal.returns-then-stores-lt1
returns-then-stores-lt1 c = no_store (chain_of [] [] c.args.pool_lengths.now c.args.table_lengths.now) (omega arith)

pub returns-then-stores-gt8 : goal.returns-then-stores-gt8
returns-then-stores-gt8 c = too_many (chain_of [] [] c.args.pool_lengths.now c.args.table_lengths.now) (omega arith)

pub returns : goal.returns
returns c = some_stores (chain_of [] [] c.args.pool_lengths.now c.args.table_lengths.now) (omega arith) (omega arith)
