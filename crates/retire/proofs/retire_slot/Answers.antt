use native.Mathlib.Omega.{arith}
use Rattle.laws.proofs.Stores.{header}
use Rattle.retire.proofs.Cases.{gone_fit, taken_there, taken_few, close_meets, finished}
use Rattle.retire.proofs.retire_slot.Goals as goal

pub bounds-table-2 : goal.bounds-table-2
bounds-table-2 c = omega (arith, (header c.requires.holds_version.0.sound).eight)

pub overflow_cast-blocks : goal.overflow_cast-blocks
overflow_cast-blocks c = omega (arith, (header c.requires.holds_version.0.sound).blocks)

pub till_words-size-requires : goal.till_words-size-requires
till_words-size-requires c = header c.requires.holds_version.0.sound

pub exchange-requires : goal.exchange-requires
exchange-requires c = let h = c.requires.holds_version.0 in
    let o = c.take_over.ensures in record { sound = (h.sound, c.requires.holds_version.1, taken_few h _ _ _ _ c.requires.gone_value.0 c.requires.gone_value.1 o.0 o.1); by_index = λ i l. rw o.1 (taken_there h c.args.gone.now c.args.older.now c.requires.gone_value.0 i); by_index_2 = λ i l. rw c.requires.gone_value.0 (gone_fit h i) }

pub close_up-requires : goal.close_up-requires
close_up-requires c = let o = c.take_over.ensures in
    close_meets c.requires.holds_version.0 _ _ _ _ c.requires.gone_value.0 c.requires.gone_value.1 o.0 o.1 _ c.till_words-size.ensures _ _ c.exchange.ensures

pub returns : goal.returns
returns c = let o = c.take_over.ensures in
    finished c.requires.holds_version.0 _ _ _ _ c.requires.gone_value.0 c.requires.gone_value.1 o.0 o.1 _ c.till_words-size.ensures _ _ c.exchange.ensures _ c.close_up.ensures
