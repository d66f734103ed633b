use Rattle.std.specs.Prelude.{insert}
use Rattle.std.proofs.Common.{◌≡◌, ◌+◌, ◌<◌, ◌∙◌, sym, ap, subst, refl, length, replicate, get_or, set, List, Some, arith}
use Rattle.frame_grants.specs.Grants.{GrantedMemory}
use Rattle.tlb_model.specs.Processor.{Processor, new_processor}
use Rattle.trace_read.specs.Configuration.{NumbersDiffer}
use Rattle.run_model.specs.AllStores.{WindowState, AllStores, windows_in, machine_stores}
use Rattle.run_model.specs.HeldLines.{AllHold}
use Rattle.run_model.specs.StoreContexts.{StoreContext, context_on, window_context}
use Rattle.run_model.proofs.HeldLines.{empty_hold}
use Rattle.trace_runner.specs.StoreRuns.{RanStore, RanOn}
use Rattle.trace_runner.proofs.StoresRan.{put_back, window_ran}
use Rattle.trace_runner.proofs.WindowIndices.{windows_stay}
use Rattle.trace_runner.proofs.section_stores.run_on_window.Goals as goal

pub run_store-requires-clause-hold : goal.run_store-requires-clause-hold
run_store-requires-clause-hold g c κs within =
    subst (λ (ps : List Processor). AllHold c.entries.inside.states.items ps)
    (sym c.in_ok-fresh.ensures) (empty_hold _ _)

pub invariant_of-result : goal.invariant_of-result
invariant_of-result g c =
    let vs = c.machine.inside.windows.items in
    let at = c.args.at in
    let u : WindowState = record {
      window = c.entries.inside.window;
      states = c.in_ok-run.run'.states.items;
    } in
    let inside : at < length vs = omega
    (arith, c.requires.inside, ap (λ (s : AllStores). length s.windows) c.machine.view_is) in
    let back : c.insert.new.self.items ≡ set vs at u = c.in_ok-insert.ensures.items ∙ ap
    (λ zs. insert zs at u) c.remove-entries.ensures.items ∙ put_back vs at u inside in
    let named = ap (λ (z : WindowState). z.window)
    (c.entries.view_is ∙ c.remove-entries.ensures.value) in
    record {
      has_states = c.machine.invariant.has_states;
      hold = c.machine.invariant.hold;
      differ =
          subst NumbersDiffer
          (sym (ap windows_in back ∙ windows_stay vs at u c.remove-entries.result inside named))
          c.machine.invariant.differ;
    }

pub returns : goal.returns
returns g c =
    let keeps = g.L.ReplyLog.keeps in
    let partition = c.machine.inside.partition in
    let cpus = c.machine.inside.cpus.items in
    let vs = c.machine.inside.windows.items in
    let at = c.args.at in
    let window = c.entries.inside.window in
    let run = c.in_ok-run.run' in
    let v : WindowState = record { window = window; states = c.entries.inside.states.items } in
    let u : WindowState = record { window = window; states = run.states.items } in
    let inside : at < length vs = omega
    (arith, c.requires.inside, ap (λ (s : AllStores). length s.windows) c.machine.view_is) in
    let back : c.insert.new.self.items ≡ set vs at u = c.in_ok-insert.ensures.items ∙ ap
    (λ zs. insert zs at u) c.remove-entries.ensures.items ∙ put_back vs at u inside in
    let is : v ≡ get_or vs at v = subst (λ (z : WindowState). z ≡ get_or vs at z)
    (sym c.entries.view_is) c.remove-entries.ensures.value in
    let fresh : c.in_ok-fresh.fresh.items ≡ replicate (length cpus) new_processor =
    c.in_ok-fresh.ensures ∙ ap (λ n. replicate n new_processor)
    (c.len.ensures ∙ c.machine.inside.cpus.ok.0) in
    let context :
    context_on 18 (record { grants = c.grants.result.now.grants; window = Some window })
    ≡ window_context partition.granted.grants window = ap
    (λ (granted : GrantedMemory). window_context granted.grants window) c.grants.ensures in
    let ran : RanStore keeps (window_context partition.granted.grants window) v.states
    (replicate (length cpus) new_processor) c.args.lines.now u.states run.cpus.items
    run.logs.items = subst
    (λ (set : StoreContext).
    RanStore keeps set v.states (replicate (length cpus) new_processor) c.args.lines.now u.states
    run.cpus.items run.logs.items) context
    (subst
    (λ (ps : List Processor).
    RanStore keeps
    (context_on 18 (record { grants = c.grants.result.now.grants; window = Some window }))
    v.states ps c.args.lines.now u.states run.cpus.items run.logs.items) fresh
    c.in_ok-run.ensures.ran) in
    let later = machine_stores partition.granted.grants partition.memory cpus
    c.insert.new.self.items in
    subst (λ (s : AllStores). RanOn keeps s (at + 1) c.args.lines.now later run.logs.items)
    c.machine.view_is
    (window_ran keeps (machine_stores partition.granted.grants partition.memory cpus vs) later at
    c.args.lines.now v u.states
    run.cpus.items run.logs.items inside is ran refl back)
