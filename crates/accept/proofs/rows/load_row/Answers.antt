-- One word of the three sets more is loaded.
use mathlib.Core.Path.{◌≡◌}
use native.Mathlib.Omega.{arith}
use Rattle.accept.proofs.Loading.{word-of, loading_more, loading_all}
use Rattle.accept.proofs.rows.load_row.Goals as goal

pub loop-k-preserved : goal.loop-k-preserved
loop-k-preserved c =
    let x = c.loop-k in
    let sets = c.sets_of-sets.result in
    loading_more sets.none sets.auto sets.dimmed x.invariant c.loop-k-test.true c.requires.2
    (word-of c.args.s.now x.k c.in_word-count.result c.in_word-count.ensures (omega (arith, c.requires.0, c.loop-k-test.true))) c.sets_of-sets.ensures

pub returns : goal.returns
returns c =
    let whole : c.loop-k.k ≡ c.args.width = omega (arith, c.loop-k.invariant.some) in
    loading_all c.loop-k.invariant whole c.requires.3
