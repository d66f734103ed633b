-- Lengths of the words of a reply's line.
use Rattle.std.proofs.Common.{◌≤◌, length, arith}
use Rattle.std.specs.Fmt.{digits, signed_decimal}
use Rattle.papr_codes.specs.Hcalls.{hcall_name}
use Rattle.papr_codes.specs.ReturnCodes.{rc_code}
use Rattle.papr_codes.specs.declared.calls.Hcall.{Hcall}
use Rattle.papr_codes.specs.declared.calls.Hcall.TheVariants.{Remove, Enter, Read, ClearMod, ClearRef, Protect, GetTce, PutTce, BulkRemove, Prepare, Commit, Other}
use Rattle.papr_codes.specs.declared.codes.Rc.{Rc}
use Rattle.papr_codes.specs.declared.codes.Rc.TheVariants as rc

-- The name of a call has at most 20 bytes.
pub hcall_name_short : (h : Hcall) → length (hcall_name h) ≤ 20
hcall_name_short Remove = omega arith
hcall_name_short Enter = omega arith
hcall_name_short Read = omega arith
hcall_name_short ClearMod = omega arith
hcall_name_short ClearRef = omega arith
hcall_name_short Protect = omega arith
hcall_name_short GetTce = omega arith
hcall_name_short PutTce = omega arith
hcall_name_short BulkRemove = omega arith
hcall_name_short Prepare = omega arith
hcall_name_short Commit = omega arith
hcall_name_short (Other number) = omega arith

-- The number of a return code has at most 4.
pub code_short : (code : Rc) → length (signed_decimal (rc_code code)) ≤ 4
unfolding digits
code_short rc.Success = omega arith
code_short rc.Busy = omega arith
code_short rc.Closed = omega arith
code_short rc.LongBusy = omega arith
code_short rc.Hardware = omega arith
code_short rc.Function = omega arith
code_short rc.Parameter = omega arith
code_short rc.PtegFull = omega arith
code_short rc.NotFound = omega arith
code_short rc.NoMem = omega arith
code_short rc.Resource = omega arith
