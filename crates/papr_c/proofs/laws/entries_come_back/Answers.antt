use Rattle.papr_c.proofs.RoundTrip.{round_trip}
use Rattle.papr_c.proofs.laws.entries_come_back.Goals as goal

pub returns : goal.returns
returns c = round_trip
