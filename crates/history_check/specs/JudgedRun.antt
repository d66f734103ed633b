-- A resize call between two sections, on all stores that the judge carries from one to the next.
use Rattle.std.specs.Prelude.{ℕ, List}
use Rattle.papr_codes.specs.declared.calls.Hcall.{Hcall}
use Rattle.trace_reply.specs.declared.reply.Reply.{Reply}
use Rattle.run_model.specs.QuietLines.{run_resize}
use Rattle.run_model.specs.AllStores.{AllStores}

-- A resize call, which leaves the windows as they are.
abbrev pub resize_on : AllStores → Hcall → List ℕ → Reply × AllStores
resize_on s call args =
    let x = run_resize s.table call args in (x.0, record s { table = x.1 })
