use Rattle.std.proofs.Common.{◌≡◌, suc, ◌+◌, ◌≤◌, ◌<◌, length, subst, arith}
use Rattle.std.proofs.lemmas.Bool.{lt-ltb, le-ltb}
use Rattle.pipelined_commit.proofs.Numbers.{PutsBehind, puts_here, puts_further, puts_at_end}
use Rattle.pipelined_commit.proofs.noted.place_of.Goals as goal

pub returns-then-seq-clause-place : goal.returns-then-seq-clause-place
returns-then-seq-clause-place c =
    let less : c.args.seq < c.index-noted-i.result.seq = omega (arith, c.seq.ensures) in
    puts_here c.args.noted.now c.args.seq c.notes.i c.index-noted-i.result c.notes-test.true c.index-noted-i.is (lt-ltb c.args.seq c.index-noted-i.result.seq less) c.notes.invariant

pub notes-preserved : goal.notes-preserved
notes-preserved c =
    let more : c.index-noted-i.result.seq ≤ c.args.seq = omega (arith, c.seq.ensures) in
    let next : suc c.notes.i ≡ c.notes.i + 1 = omega arith in
    subst (λ k. PutsBehind c.args.noted.now c.args.seq k) next
    (puts_further c.args.noted.now c.args.seq c.notes.i c.index-noted-i.result c.notes-test.true c.index-noted-i.is (le-ltb c.args.seq c.index-noted-i.result.seq more) c.notes.invariant)

pub returns-clause-place : goal.returns-clause-place
returns-clause-place c =
    let all : c.notes.i ≡ length c.args.noted.now = omega arith in
    puts_at_end c.args.noted.now c.args.seq (subst (λ k. PutsBehind c.args.noted.now c.args.seq k) all c.notes.invariant)
