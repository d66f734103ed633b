use Rattle.std.proofs.Common.{◌≤◌, arith}
use Rattle.lpar_set.specs.SetGrammar.{SetReading}
use Rattle.lpar_set.proofs.ReadLines.{IsAt, own_may, own_adds}
use Rattle.lpar_set.proofs.ReaderFields.{fields_read}
use Rattle.lpar_set.proofs.set_reader.SetReader.take_own.Goals as goal
use Rattle.hpte_fields.specs.TableSize.{greatest_order, least_order}

pub add-requires : goal.add-requires
add-requires c =
    let v : SetReading = fields_read c.self.inside in
    let at : IsAt v c.args.self.now c.args.number c.from.result c.index_mut.result.now
    c.in-Some.reader = record {
      view = c.self.view_is;
      placed = c.from.ensures;
      inside = c.self.invariant;
      below = c.requires.number;
      value = c.index_mut.ensures.value;
      is = c.in-Some.is;
    } in
    let low : least_order ≤ c.in-Some.reader.config.order = omega
    (arith, c.order-order.ensures.value, c.order-order.ensures.order.0) in
    let high : c.in-Some.reader.config.order ≤ greatest_order = omega
    (arith, c.order-order.ensures.value, c.order-order.ensures.order.1) in
    record {
      may =
          own_may v c.args.self.now c.args.number c.from.result c.index_mut.result.now
          c.in-Some.reader c.words.new.self _ c.in-Ok.given at c.requires.place
          c.requires.allowed low high c.in-Ok.ensures.0 c.in-Ok.ensures.1;
    }

pub returns-in-Ok : goal.returns-in-Ok
returns-in-Ok c =
    let v : SetReading = fields_read c.self.inside in
    let at : IsAt v c.args.self.now c.args.number c.from.result c.index_mut.result.now
    c.in-Some.reader = record {
      view = c.self.view_is;
      placed = c.from.ensures;
      inside = c.self.invariant;
      below = c.requires.number;
      value = c.index_mut.ensures.value;
      is = c.in-Some.is;
    } in
    own_adds v c.args.self.now c.add.new.self c.args.number c.from.result c.lines-line.result
    c.index_mut.result.now c.in-Some.reader c.words.new.self _ c.in-Ok.given c.add.result at
    c.lines-line.ensures.count c.in-Ok.ensures.0 c.in-Ok.ensures.1 c.add.ensures
