use Rattle.std.proofs.Common.{◌∙◌, ◌<◌, ap, length, map, arith}
use Rattle.std.proofs.lemmas.List.{take_all}
use Rattle.lpar_set.specs.SetRead.{partition_or}
use Rattle.lpar_set.proofs.ReadEnds.{more_accepted, more_left, more_read, taken_inside, taken_is, taken_running}
use Rattle.lpar_set.proofs.set_end.partitions_read.Goals as goal

pub index_mut-requires : goal.index_mut-requires
index_mut-requires c =
    let within : c.from.result < length c.loop-number.readings.items = taken_inside
    c.args.readings.items c.loop-number.readings.items c.args.begun.now
    c.loop-number.number-index c.from.result c.loop-number.invariant.left
    c.loop-number-test.true c.from.ensures c.requires.running in
    omega (arith, within)

pub partition_read-requires : goal.partition_read-requires
partition_read-requires c =
    taken_running c.args.readings.items c.args.begun.now c.loop-number.number-index
    c.take-reading.result c.loop-number-test.true
    (c.take-reading.ensures.value
    ∙ taken_is c.args.readings.items c.loop-number.readings.items c.args.begun.now
    c.loop-number.number-index c.from.result c.index_mut.result.now
    c.loop-number.invariant.left c.loop-number-test.true c.from.ensures c.requires.running
    c.index_mut.ensures.value)
    c.requires.running

pub loop-number-preserved : goal.loop-number-preserved
loop-number-preserved c = record {
  read =
      λ other.
      more_read c.args.readings.items c.args.begun.now c.loop-number.number-index
      c.take-reading.result c.loop-number.partitions.items c.push.new.self.items
      c.partition_read.result other c.loop-number-test.true
      (c.take-reading.ensures.value
      ∙ taken_is c.args.readings.items c.loop-number.readings.items c.args.begun.now
      c.loop-number.number-index c.from.result c.index_mut.result.now
      c.loop-number.invariant.left c.loop-number-test.true c.from.ensures c.requires.running
      c.index_mut.ensures.value)
      (c.loop-number.invariant.read other) c.in_ok-push.ensures.items
      (c.partition_read.ensures.read other);
  accepted =
      more_accepted c.loop-number.partitions.items c.push.new.self.items c.partition_read.result
      c.in_ok-push.ensures.items c.loop-number.invariant.accepted
      c.partition_read.ensures.accepted;
  left =
      more_left c.args.readings.items c.loop-number.readings.items c.args.begun.now
      c.loop-number.number-index c.from.result c.take-reading.new.self
      c.loop-number.invariant.left c.loop-number-test.true c.from.ensures c.requires.apart;
}

pub returns-clause-read : goal.returns-clause-read
returns-clause-read c = λ other.
    c.loop-number.invariant.read other
    ∙ ap (map (partition_or c.args.readings.items other))
    (take_all c.loop-number.number-index c.args.begun.now (omega arith))
