use Rattle.pair_world.proofs.Terms.{term_within, term_has}
use Rattle.pair_world.proofs.laws.terms_have_no_gaps.Goals as goal

pub returns : goal.returns
returns c duty past epoch counted =
    (λ one. term_within duty past epoch counted one.0 one.1 one.2, λ between. term_has duty past epoch counted between.0 between.1)
