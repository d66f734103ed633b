-- The fields of a reader of a set, as what they read.
use Rattle.lpar_set.specs.declared.set_reader.SetReader.TheInside.{Inside}
use Rattle.lpar_set.specs.SetGrammar.{SetReading}

-- What the fields say of the lines so far.
abbrev pub fields_read : Inside → SetReading
fields_read r = record {
  taken = r.taken;
  untouched = r.untouched;
  pool_base = r.pool.base;
  pool_order = r.pool.order;
  readings = r.readings.items;
  begun = r.begun.items;
  tables = r.tables;
  turns = r.turns.items;
}
