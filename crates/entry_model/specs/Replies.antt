-- Replies in two parts: how a call or an access ended, and the receipts that it made.
use Rattle.std.specs.Prelude.{List, []}
use Rattle.entry_model.specs.declared.receipt.Receipt.{Receipt}
use Rattle.entry_model.specs.declared.hreply.HReply.{HReply}
use Rattle.entry_model.specs.declared.hreply.Registers.{Registers}
use Rattle.entry_model.specs.declared.access_reply.AccessReply.{AccessReply}
use Rattle.entry_model.specs.declared.access_reply.AccessEnd.{AccessEnd}
use Rattle.entry_model.specs.declared.device_reply.DeviceOutcome.{DeviceOutcome}
use Rattle.entry_model.specs.declared.device_reply.DeviceOutcome.TheVariants.{NoWindow}
use Rattle.entry_model.specs.declared.device_reply.DeviceReply.{DeviceReply}

-- The reply of a hypervisor call with these registers and these receipts.
abbrev pub reply_with : Registers → List Receipt → HReply
reply_with registers rs = record { rc = registers.rc; words = registers.words; receipts = rs }

-- The reply to an access that ended so, with these receipts.
abbrev pub access_reply_with : AccessEnd → List Receipt → AccessReply
access_reply_with end rs = record { outcome = end.outcome; by = end.by; receipts = rs }

-- The reply to a device's access that ended so, with these receipts.
abbrev pub device_reply_with : DeviceOutcome → List Receipt → DeviceReply
device_reply_with outcome rs = record { outcome = outcome; receipts = rs }

-- The reply where no window has the number, or the one that has it lacks the address.
abbrev pub no_window_reply : DeviceReply
no_window_reply = device_reply_with NoWindow []
