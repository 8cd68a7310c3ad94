use Rattle.std.proofs.Common.{ap, ◌∙◌}
use Rattle.sha1_definition.specs.Sha1.{rounds}
use Rattle.sha1_chunk.proofs.Rounds.{first_is, second_is, third_is, last_is, four_twenties}
use Rattle.sha1_chunk.proofs.all_rounds.Goals as goal

pub twenty_rounds-s1-requires-clause-mixes : goal.twenty_rounds-s1-requires-clause-mixes
twenty_rounds-s1-requires-clause-mixes c = λ t b c' d y lo hi e. e ∙ (first_is t b c' d hi).0

pub twenty_rounds-s1-requires-clause-constant : goal.twenty_rounds-s1-requires-clause-constant
twenty_rounds-s1-requires-clause-constant c = λ t lo hi. (first_is t 0 0 0 hi).1

pub twenty_rounds-s2-requires-clause-mixes : goal.twenty_rounds-s2-requires-clause-mixes
twenty_rounds-s2-requires-clause-mixes c = λ t b c' d y lo hi e. e ∙ (second_is t b c' d lo hi).0

pub twenty_rounds-s2-requires-clause-constant : goal.twenty_rounds-s2-requires-clause-constant
twenty_rounds-s2-requires-clause-constant c = λ t lo hi. (second_is t 0 0 0 lo hi).1

pub twenty_rounds-s3-requires-clause-mixes : goal.twenty_rounds-s3-requires-clause-mixes
twenty_rounds-s3-requires-clause-mixes c = λ t b c' d y lo hi e. e ∙ (third_is t b c' d lo hi).0

pub twenty_rounds-s3-requires-clause-constant : goal.twenty_rounds-s3-requires-clause-constant
twenty_rounds-s3-requires-clause-constant c = λ t lo hi. (third_is t 0 0 0 lo hi).1

pub twenty_rounds-requires-clause-mixes : goal.twenty_rounds-requires-clause-mixes
twenty_rounds-requires-clause-mixes c = λ t b c' d y lo hi e. e ∙ (last_is t b c' d lo).0

pub twenty_rounds-requires-clause-constant : goal.twenty_rounds-requires-clause-constant
twenty_rounds-requires-clause-constant c = λ t lo hi. (last_is t 0 0 0 lo).1

pub returns : goal.returns
returns c = let w = c.args.words.now in
    c.twenty_rounds.ensures
    ∙ ap (rounds w 60 20) (c.twenty_rounds-s3.ensures ∙ ap (rounds w 40 20) (c.twenty_rounds-s2.ensures ∙ ap (rounds w 20 20) c.twenty_rounds-s1.ensures))
    ∙ four_twenties w c.args.h
