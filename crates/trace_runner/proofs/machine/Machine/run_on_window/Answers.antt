use Rattle.std.proofs.Common.{◌≡◌, ◌∙◌, true, ap, sym, subst, refl, arith, Some, set}
use Rattle.frame_grants.specs.Grants.{GrantedMemory}
use Rattle.trace_read.specs.Configuration.{NumbersDiffer}
use Rattle.trace_reply.specs.Slots.{reply_in}
use Rattle.tlb_model.specs.Processor.{new_processor}
use Rattle.run_model.specs.AllStores.{WindowState, AllStores, windows_in, machine_stores}
use Rattle.run_model.specs.SerialRun.{line_result}
use Rattle.run_model.specs.StoreContexts.{window_context}
use Rattle.run_model.specs.Stores.{is_on_window}
use Rattle.trace_runner.specs.MachineState.{RunsLine}
use Rattle.run_model.specs.StoreNumbers.{index_from}
use Rattle.trace_runner.proofs.WindowIndices.{placed, windows_stay, steps_on_window}
use Rattle.trace_runner.proofs.machine.Machine.run_on_window.Goals as goal

pub index_mut-requires : goal.index_mut-requires
index_mut-requires c =
    let m = c.self.inside in
    let s = machine_stores m.partition.granted.grants m.partition.memory m.cpus.items
    m.windows.items in
    let first = subst
    (λ (s : AllStores). index_from 0 s.windows c.args.line.now.act ≡ Some c.args.at)
    (sym c.self.view_is) c.requires.first in
    let at = placed (windows_in s.windows) s.table c.args.line.now s.windows c.args.at first in
    omega (arith, at.inside, c.self.inside.windows.ok.0)

pub line-requires : goal.line-requires
line-requires c =
    let m = c.self.inside in
    let s = machine_stores m.partition.granted.grants m.partition.memory m.cpus.items
    m.windows.items in
    let first = subst
    (λ (s : AllStores). index_from 0 s.windows c.args.line.now.act ≡ Some c.args.at)
    (sym c.self.view_is) c.requires.first in
    let at = placed (windows_in s.windows) s.table c.args.line.now s.windows c.args.at first in
    record {
      named =
          subst (λ (v : WindowState). is_on_window v.window c.args.line.now.act ≡ true)
          (sym c.index_mut.ensures.value) (at.named c.index_mut.result.now);
    }

pub invariant_of-self : goal.invariant_of-self
invariant_of-self c =
    let m = c.self.inside in
    let s = machine_stores m.partition.granted.grants m.partition.memory m.cpus.items
    m.windows.items in
    let first = subst
    (λ (s : AllStores). index_from 0 s.windows c.args.line.now.act ≡ Some c.args.at)
    (sym c.self.view_is) c.requires.first in
    let v = c.index_mut.result.now in
    let at = placed (windows_in s.windows) s.table c.args.line.now s.windows c.args.at first in
    let stay = windows_stay s.windows c.args.at c.line.new.self v at.inside
    (c.line.ensures.window ∙ ap (λ (z : WindowState). z.window) c.index_mut.ensures.value) in
    record {
      has_states = c.self.invariant.has_states;
      hold = c.self.invariant.hold;
      differ = subst NumbersDiffer (sym stay) c.self.invariant.differ;
    }

pub returns-clause-reply : goal.returns-clause-reply
returns-clause-reply c =
    let m = c.self.inside in
    let s = machine_stores m.partition.granted.grants m.partition.memory m.cpus.items
    m.windows.items in
    let act = c.args.line.now.act in
    let v = c.index_mut.result.now in
    let u = c.line.new.self in
    let first = subst (λ (s : AllStores). index_from 0 s.windows act ≡ Some c.args.at)
    (sym c.self.view_is) c.requires.first in
    let ran : (reply_in c.line.new.slot, u.states) ≡ line_result
    (window_context m.partition.granted.grants v.window) new_processor v.states act =
    c.line.ensures.reply ∙ ap
    (λ (granted : GrantedMemory).
    line_result (window_context granted.grants v.window) new_processor v.states act)
    c.grants.ensures in
    let steps = steps_on_window s (record s { windows = set s.windows c.args.at u }) c.args.line.now
    (reply_in c.line.new.slot) c.args.at v u refl first c.index_mut.ensures.value ran
    c.line.ensures.window refl in
    subst
    (λ (z : AllStores).
    RunsLine z c.args.line.now (reply_in c.line.new.slot)
    (record s { windows = set s.windows c.args.at u })) c.self.view_is steps

pub returns-clause-windows : goal.returns-clause-windows
returns-clause-windows c =
    let m = c.self.inside in
    let s = machine_stores m.partition.granted.grants m.partition.memory m.cpus.items
    m.windows.items in
    let first = subst
    (λ (s : AllStores). index_from 0 s.windows c.args.line.now.act ≡ Some c.args.at)
    (sym c.self.view_is) c.requires.first in
    let v = c.index_mut.result.now in
    let at = placed (windows_in s.windows) s.table c.args.line.now s.windows c.args.at first in
    windows_stay s.windows c.args.at c.line.new.self v at.inside
    (c.line.ensures.window ∙ ap (λ (z : WindowState). z.window) c.index_mut.ensures.value)
    ∙ ap (λ (s : AllStores). windows_in s.windows) c.self.view_is
