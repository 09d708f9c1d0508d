use Rattle.job.proofs.Strides.{product_fits, sum_fits, dot_more}
use Rattle.job.proofs.sums.strided_dot.Goals as goal

pub overflow_mul-sum : goal.overflow_mul-sum
overflow_mul-sum c = product_fits _ _ _ _ c.requires c.loop-k.k

pub overflow_add-sum : goal.overflow_add-sum
overflow_add-sum c = sum_fits _ _ _ _ c.requires c.loop-k.k _ c.loop-k-test.true c.loop-k.invariant

pub loop-k-preserved : goal.loop-k-preserved
loop-k-preserved c = dot_more _ _ _ _ c.requires c.loop-k.k _ c.loop-k-test.true c.loop-k.invariant
