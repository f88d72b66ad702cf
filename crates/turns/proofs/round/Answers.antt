use Rattle.std.proofs.Common.{rules, arith, sym, ap, ◌∙◌, ℕ, length}
use Rattle.definition.specs.Calls.{called}
use Rattle.bench.specs.Bench.{bench_check, bench_of}
use Rattle.bench.proofs.Loop.{going, not-refused, finish-start, round-end, accepted-here, took-within, going-after, finish-after, seats}
use Rattle.seats.specs.Meaning.{lent_of}
use Rattle.turns.proofs.Facts.{same-buffers, still-same}
use Rattle.turns.proofs.round.Goals as goal

pub loop-k-init : goal.loop-k-init
loop-k-init c =
    let a = c.args in
    let b = lent_of a.buffers.now in
    let n = length a.list.now in
    record { same = same-buffers a.buffers.now; going = going n a.list.now b c.requires; rest = finish-start (seats n a.list.now b) a.total }

pub turn-left-requires : goal.turn-left-requires
turn-left-requires c =
    let l = c.loop-k in
    (search rules, accepted-here (length c.args.list.now) l.list (lent_of l.buffers) l.invariant.going _ (search rules))

pub overflow_sub-left : goal.overflow_sub-left
overflow_sub-left c =
    let l = c.loop-k in
    took-within (length c.args.list.now) l.list (lent_of l.buffers) l.invariant.going _ (search rules) l.left _ c.turn-left.ensures.is

pub loop-k-preserved : goal.loop-k-preserved
loop-k-preserved c =
    let l = c.loop-k in
    let n = length c.args.list.now in
    let b = lent_of l.buffers in
    let g = l.invariant.going in
    let u = c.turn-left.new in
    let z = called c.turn-left.result (u.seat, lent_of u.self) in
    let same = c.turn-left.ensures.same in
    record {
      same = still-same l.invariant.same same;
      going = going-after n l.list b g l.k c.loop-k-test.true l.left z c.turn-left.ensures.is same.cells_long same.queues_long same.outputs_long same.rows_long;
      rest = sym (finish-after n l.list b g l.k c.loop-k-test.true l.left z c.turn-left.ensures.is same.cells_long same.queues_long same.outputs_long same.rows_long) ∙ l.invariant.rest;
    }

pub returns-clause-same : goal.returns-clause-same
returns-clause-same c = c.loop-k.invariant.same

pub returns-clause-is : goal.returns-clause-is
returns-clause-is c =
    let l = c.loop-k in
    let n = length c.args.list.now in
    let b = lent_of l.buffers in
    ap (λ (m : ℕ). bench_of m l.left l.list b) l.auto.list
    ∙ sym (round-end n l.list b l.invariant.going l.k l.left (omega (arith, c.loop-k-test.false, l.auto.k-end)))
    ∙ l.invariant.rest

pub returns-clause-accepted : goal.returns-clause-accepted
returns-clause-accepted c =
    let l = c.loop-k in
    let n = length c.args.list.now in
    let b = lent_of l.buffers in
    ap (λ (m : ℕ). (bench_check m (length l.list) b).refusal) l.auto.list ∙ not-refused n l.list b l.invariant.going
