-- What a good run of an accepted trace assures, and so its serial run.
use Rattle.trace_read.specs.Trace.{AcceptedTrace, IsAccepted}
use Rattle.trace_reply.specs.declared.reply.Reply.{Reply}
use Rattle.std.proofs.Common.{List}
use Rattle.run_model.specs.SerialRun.{serial_replies}
use Rattle.run_model.specs.GoodRun.{IsGoodRun}
use Rattle.run_model.specs.Assurances.{Assures}
use Rattle.run_model.proofs.StoreSerial.{serial_good}
use Rattle.run_model.proofs.AllSafe.{accesses_land}
use Rattle.run_model.proofs.WindowsSafe.{all_unworn, devices_land}
use Rattle.run_model.proofs.ClearedBits.{cleared_are_shown}
use Rattle.run_model.proofs.StoresKept.{no_store_is_lost, no_set_bit_is_lost}
use Rattle.run_model.proofs.SectionChain.{resizes_keep_bolted_pages}

pub good_assures :
    (t : AcceptedTrace) (rs : List Reply) → IsAccepted t → IsGoodRun t rs → Assures t rs
good_assures t rs is good = record {
  stores = no_store_is_lost t rs is good;
  set = no_set_bit_is_lost t rs is good;
  cleared = cleared_are_shown t rs good;
  pages = resizes_keep_bolted_pages t rs is good;
  landings = accesses_land t rs is good;
  devices = devices_land t rs is good;
  unworn = all_unworn t rs is good;
}

pub serial_assures : (t : AcceptedTrace) → IsAccepted t → Assures t (serial_replies t)
serial_assures t is = good_assures t (serial_replies t) is (serial_good t is)
