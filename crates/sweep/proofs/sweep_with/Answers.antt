use mathlib.Core.Path.{ap, ◌∙◌}
use Rattle.lists.specs.Marks.{marked}
use Rattle.model.specs.Records.{named_cells}
use Rattle.model.specs.Table.{records_in}
use Rattle.sweep_laws.proofs.Named.{named_in, kept_of, few_n}
use Rattle.sweep.proofs.sweep_with.Goals as goal

pub mark_named-requires : goal.mark_named-requires
mark_named-requires c = record { named_in = named_in _ _ _ c.requires.stored _ c.requires.occupied_value.1; occupied_len_bound = few_n _ _ _ c.requires.stored _ c.requires.occupied_value.1 }

pub sweep_marked-requires : goal.sweep_marked-requires
sweep_marked-requires c = kept_of _ _ _ c.requires.stored _ c.requires.occupied_value.1 _ (c.mark_named.ensures ∙ ap (marked (named_cells (records_in c.args.m.blocks c.args.words.now))) c.requires.occupied_value.0)

pub returns : goal.returns
returns c = c.sweep_marked.ensures.encodes
