use Rattle.std.proofs.Common.{◌≡◌, length, ◌∙◌, arith}
use Rattle.std.proofs.lemmas.List.{length-set, take_all}
use Rattle.frame_grants.specs.Grants.{no_grant}
use Rattle.c_layout.proofs.Searching.{listed_more, in_order}
use Rattle.c_layout.proofs.grants.PaprGrants.of.Goals as goal

pub loop-i-preserved : goal.loop-i-preserved
loop-i-preserved c = record {
  room = length-set c.loop-i.list c.loop-i.i c.of.result ∙ c.loop-i.invariant.room;
  same =
      listed_more c.loop-i.list c.args.grants.now c.loop-i.i c.of.result no_grant
      (omega (arith, c.loop-i.invariant.room, c.loop-i-test.true, c.requires.few))
      c.loop-i-test.true c.loop-i.invariant.same c.of.ensures;
}

pub invariant_of-result : goal.invariant_of-result
invariant_of-result c =
    let all : c.loop-i.i ≡ length c.args.grants.now = omega
    (arith, c.loop-i-test.false, c.loop-i.auto.i-end) in
    let same = rw all at c.loop-i.invariant.same in
    record {
      room = c.loop-i.invariant.room;
      in_order =
          λ few.
          in_order c.loop-i.list c.args.grants.now
          (omega (arith, c.loop-i.invariant.room, c.requires.few))
          (same ∙ take_all (length c.args.grants.now) c.args.grants.now (omega arith))
          c.requires.apart;
    }
