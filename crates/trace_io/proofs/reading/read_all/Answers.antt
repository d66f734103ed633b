use Rattle.std.proofs.Common.{◌≡◌, ◌+◌, ◌≤◌, ◌++◌, ℕ, List, length, take, arith, rules, vec_len}
use Rattle.trace_io.proofs.Twice.{took_more}
use Rattle.trace_io.proofs.Pieces.{joined_length}
use Rattle.trace_io.proofs.reading.read_all.Goals as goal

pub returns-then-n-spare-clause-long : goal.returns-then-n-spare-clause-long
returns-then-n-spare-clause-long g c = λ _.
    let before : List ℕ = c.loop-bytes.bytes.items in
    let piece : List ℕ = take c.in_ok-n.n c.read.new.into in
    let size : length (before ++ piece) ≡ length before + c.in_ok-n.n = joined_length before
    c.read.new.into c.in_ok-n.n (search rules) in
    let read_so_far : vec_len c.loop-bytes.bytes ≡ length before = search rules in
    let most : c.in_ok-n.n ≤ c.min-asked.result + 1 = search rules in (
      before ++ piece,
      omega arith,
      took_more _ _ _ before piece c.loop-bytes.invariant.took c.in_ok-n.ensures.took,
      omega arith,
    )

pub returns-in_err-extend_from_slice-clause-memory :
    goal.returns-in_err-extend_from_slice-clause-memory
returns-in_err-extend_from_slice-clause-memory g c = λ _.
    let before : List ℕ = c.loop-bytes.bytes.items in
    let piece : List ℕ = take c.in_ok-n.n c.read.new.into in
    let size : length (before ++ piece) ≡ length before + c.in_ok-n.n = joined_length before
    c.read.new.into c.in_ok-n.n (search rules) in
    let read_so_far : vec_len c.loop-bytes.bytes ≡ length before = search rules in (
      before ++ piece,
      omega arith,
      took_more _ _ _ before piece c.loop-bytes.invariant.took c.in_ok-n.ensures.took,
    )
