-- `genes::indexed` meets its contract. The loop's invariant: the activities held, and what the words left give, are what the order gives; `named`
-- counts how often each task was named. Assumes nothing.
use Prim.Native.Nat.{◌<◌}
use mathlib.Core.Path.{sym, ◌∙◌}
use native.Mathlib.Omega.{arith}
use lib.ListN.{get_or}
use Rattle.words.specs.Words.{words}
use Rattle.plan.specs.Input.{problem_of, genes_of}
use Rattle.genes.proofs.OrderLaws.{order_length, Word, known_word, unknown_word, index_begin, index_unknown, index_surplus, index_taken, index_end, named_few, activity_known, has_room}
use Rattle.genes.proofs.indexed.Goals as goal
use Rattle.genes.proofs.indexed.Goals.{then-nth-steps, else-nth-steps}

pub loop-k-init : goal.loop-k-init
loop-k-init c = index_begin c.requires.1 _ _ c.fill_firsts.ensures

pub loop-k-preserved-in_default : goal.loop-k-preserved-in_default
loop-k-preserved-in_default c = let w =
    unknown_word (words c.args.s.now) c.args.z c.loop-k.k c.namings-namings.result c.namings-namings.ensures c.loop-k-test.true
    (sym c.in_default.is ∙ c.task_named.ensures) in
    index_unknown c.requires.1 c.loop-k.invariant w.0 w.1

pub overflow_add-named : goal.overflow_add-named
overflow_add-named c = let known : Word (genes_of (words c.args.s.now) c.args.z) c.loop-k.k c.in-Some.t × (c.in-Some.t < c.args.z.tasks) = known_word (words c.args.s.now) c.args.z c.loop-k.k c.namings-namings.result c.namings-namings.ensures c.loop-k-test.true
    c.in-Some.t (sym c.in-Some.is ∙ c.task_named.ensures) in
    let w = known in
    omega (arith, named_few c.requires.1 c.loop-k.invariant w.0 w.1, w.0.left, c.requires.1.order)

pub overflow_add-activities : goal.overflow_add-activities
overflow_add-activities c = let known : Word (genes_of (words c.args.s.now) c.args.z) c.loop-k.k c.in-Some.t × (c.in-Some.t < c.args.z.tasks) = known_word (words c.args.s.now) c.args.z c.loop-k.k c.namings-namings.result c.namings-namings.ensures c.loop-k-test.true
    c.in-Some.t (sym c.in-Some.is ∙ c.task_named.ensures) in
    let fewer : get_or c.loop-k.named c.in-Some.t 0 < (problem_of (words c.args.s.now) c.args.z).steps c.in-Some.t = omega (arith, c.if-nth-steps.true, c.steps-steps.ensures) in
    let w = known in
    omega (arith, activity_known c.requires.1 c.loop-k.invariant w.0 w.1 fewer, c.requires.0.activities)

pub bounds-activities-count : goal.bounds-activities-count
bounds-activities-count c = let known : Word (genes_of (words c.args.s.now) c.args.z) c.loop-k.k c.in-Some.t × (c.in-Some.t < c.args.z.tasks) = known_word (words c.args.s.now) c.args.z c.loop-k.k c.namings-namings.result c.namings-namings.ensures c.loop-k-test.true
    c.in-Some.t (sym c.in-Some.is ∙ c.task_named.ensures) in
    let fewer : get_or c.loop-k.named c.in-Some.t 0 < (problem_of (words c.args.s.now) c.args.z).steps c.in-Some.t = omega (arith, c.if-nth-steps.true, c.steps-steps.ensures) in
    let w = known in
    omega (arith, has_room c.requires.1 c.loop-k.invariant w.0 w.1 fewer, c.loop-k.invariant.sized, c.requires.2)

pub loop-k-preserved : goal.loop-k-preserved
loop-k-preserved c =
    let known : Word (genes_of (words c.args.s.now) c.args.z) c.loop-k.k c.in-Some.t × (c.in-Some.t < c.args.z.tasks) = known_word (words c.args.s.now) c.args.z c.loop-k.k c.namings-namings.result c.namings-namings.ensures c.loop-k-test.true
    c.in-Some.t (sym c.in-Some.is ∙ c.task_named.ensures) in
    let q = known in
    elim c.if-nth-steps.branch [
      | then-nth-steps w ↦
          let fewer : get_or c.loop-k.named c.in-Some.t 0 < (problem_of (words c.args.s.now) c.args.z).steps c.in-Some.t = omega (arith, w.if-nth-steps.true, c.steps-steps.ensures) in
          rw (w.activities-is, w.count-is) (index_taken c.requires.1 c.loop-k.invariant q.0 q.1 fewer _ (omega (arith, c.loop-k.invariant.starts c.in-Some.t q.1)) c.requires.2)
      | else-nth-steps w ↦
          rw (w.activities-is, w.count-is) (index_surplus c.requires.1 c.loop-k.invariant q.0 q.1 (omega (arith, w.if-nth-steps.false, c.steps-steps.ensures)))
    ]

pub returns : goal.returns
returns c =
    let ended = index_end c.requires.1 c.loop-k.invariant (omega (arith, order_length (words c.args.s.now) c.args.z, c.namings-namings.ensures, c.loop-k-test.false)) in
    record { listed = ended.0; upper_bound = ended.1 }
