-- The value in register 3 of each return code of a hypervisor call.
use Rattle.std.specs.Prelude.{ℤ, pos, negsuc}
use Rattle.papr_codes.specs.declared.codes.Rc.{Rc}
use Rattle.papr_codes.specs.declared.codes.Rc.TheVariants.{Success, Busy, Closed, LongBusy, Hardware, Function, Parameter, PtegFull, NotFound, NoMem, Resource}

-- `negsuc n` is the number -(n + 1).
abbrev pub rc_code : Rc → ℤ
rc_code Success = pos 0
rc_code Busy = pos 1
rc_code Closed = pos 2
rc_code LongBusy = pos 9900
rc_code Hardware = negsuc 0
rc_code Function = negsuc 1
rc_code Parameter = negsuc 3
rc_code PtegFull = negsuc 5
rc_code NotFound = negsuc 6
rc_code NoMem = negsuc 8
rc_code Resource = negsuc 15
