use Rattle.std.proofs.Common.{◌≡◌, ℕ, ◌+◌, ◌-◌, ◌<◌, ◌∙◌, [], ◌∷◌, ap, sym, subst, refl, length, set, List, arith}
use Rattle.std.specs.Prelude.{IfSome, IfNone}
use Rattle.std.proofs.lemmas.Bool.{eqb-true}
use Rattle.std.proofs.lemmas.Grind.{common_steps}
use Rattle.trace_line.specs.declared.line.TraceLine.{TraceLine}
use Rattle.trace_read.specs.Configuration.{NumbersDiffer}
use Rattle.run_model.specs.AllStores.{AllStores, machine_stores}
use Rattle.run_model.specs.StoreNumbers.{store_at}
use Rattle.run_model.specs.Stores.{window_store}
use Rattle.history_check.specs.FoundSection.{HasNoSection, opening_of}
use Rattle.history_check.specs.StoreParts.{FoundOn}
use Rattle.history_check.proofs.DealtParts.{windows_stay}
use Rattle.history_check.proofs.JudgedStores.{none_on, if_table, if_window, unless_window}
use Rattle.history_check.proofs.judged_run.JudgedRun.found_on.Goals as goal

no_lines : (ls : List TraceLine) → length ls ≡ 0 → ls ≡ []
no_lines [] e = refl
no_lines (l ∷ ls) e = absurd (omega (arith, e))

pub returns-then-is_empty-clause-some : goal.returns-then-is_empty-clause-some
returns-then-is_empty-clause-some c =
    none_on c.args.self.now c.args.number c.args.lines.now c.args.text.now
    (no_lines c.args.lines.now
    (eqb-true (length c.args.lines.now) 0 (sym c.is_empty.ensures ∙ c.if-is_empty.true)))

pub returns-then-number-eq0-clause-some : goal.returns-then-number-eq0-clause-some
returns-then-number-eq0-clause-some c =
    let s = machine_stores c.self.inside.partition.granted.grants c.self.inside.partition.memory
    c.self.inside.processors.items c.self.inside.windows.items in
    let later = machine_stores c.table_found.new.partition.granted.grants
    c.table_found.new.partition.memory c.table_found.new.processors.items
    c.self.inside.windows.items in
    subst
    (λ (z : AllStores × ℕ).
    IfSome c.in_ok-found.found
    (λ count. FoundOn z.0 z.1 c.args.lines.now c.args.text.now count later))
    (λ i. (c.self.view_is i, sym c.if-number-eq0.true i))
    (if_table s later c.args.lines.now c.args.text.now c.in_ok-found.found
    c.in_ok-found.ensures.some refl)

pub invariant_of-self-in_err-found-2 : goal.invariant_of-self-in_err-found-2
invariant_of-self-in_err-found-2 c =
    let vs = c.self.inside.windows.items in
    let size : length vs ≡ length c.args.self.now.windows = ap
    (λ (s : AllStores). length s.windows) c.self.view_is in
    let inside : c.args.number - 1 < length vs = omega
    (arith, c.requires.inside, size, c.if-number-eq0.false) in (
      c.self.invariant.0,
      subst NumbersDiffer
          (sym
          (windows_stay vs (c.args.number - 1) c.index_mut-entries.result.now
          c.window_found.new.entries inside c.index_mut-entries.ensures.value
          c.window_found.ensures.window)) c.self.invariant.1,
    )

pub invariant_of-self-2 : goal.invariant_of-self-2
invariant_of-self-2 c =
    let vs = c.self.inside.windows.items in
    let size : length vs ≡ length c.args.self.now.windows = ap
    (λ (s : AllStores). length s.windows) c.self.view_is in
    let inside : c.args.number - 1 < length vs = omega
    (arith, c.requires.inside, size, c.if-number-eq0.false) in (
      c.self.invariant.0,
      subst NumbersDiffer
          (sym
          (windows_stay vs (c.args.number - 1) c.index_mut-entries.result.now
          c.window_found.new.entries inside c.index_mut-entries.ensures.value
          c.window_found.ensures.window)) c.self.invariant.1,
    )

pub returns-clause-some : goal.returns-clause-some
returns-clause-some c =
    let windows = c.self.inside.windows.items in
    let s = machine_stores c.self.inside.partition.granted.grants c.self.inside.partition.memory
    c.self.inside.processors.items windows in
    let v = c.index_mut-entries.result.now in
    let u = c.window_found.new.entries in
    let at = c.args.number - 1 in
    let later = machine_stores c.self.inside.partition.granted.grants c.self.inside.partition.memory
    c.self.inside.processors.items (set windows at u) in
    let size : length windows ≡ length c.args.self.now.windows = ap
    (λ (z : AllStores). length z.windows) c.self.view_is in
    let inside : at < length windows = omega
    (arith, c.requires.inside, size, c.if-number-eq0.false) in
    let number : at + 1 ≡ c.args.number = omega (arith, c.if-number-eq0.false) in
    let granted : c.grants-grants.result.now.grants ≡ s.table.grants = ap (λ g. g.grants)
    c.grants-grants.ensures in
    let count : c.len-cpus.result ≡ length s.table.processors = grind
    (arith, common_steps, c.len-cpus.ensures) in
    let told = c.in_ok-found-2.ensures.told in
    let named = c.window_found.ensures.window in
    subst
    (λ (z : AllStores × ℕ).
    IfSome c.in_ok-found-2.found
    (λ n. FoundOn z.0 z.1 c.args.lines.now c.args.text.now n later))
    (λ i. (c.self.view_is i, number i))
    (if_window s later c.args.lines.now c.args.text.now c.in_ok-found-2.found at v _ u.states told.0
    inside c.index_mut-entries.ensures.value
    (λ i. opening_of (window_store (granted i) (count i) v.states v.window)) told.1 refl
    (λ i. set windows at (record { window = named i; states = u.states })))

pub returns-clause-none : goal.returns-clause-none
returns-clause-none c =
    let windows = c.self.inside.windows.items in
    let s = machine_stores c.self.inside.partition.granted.grants c.self.inside.partition.memory
    c.self.inside.processors.items windows in
    let v = c.index_mut-entries.result.now in
    let at = c.args.number - 1 in
    let size : length windows ≡ length c.args.self.now.windows = ap
    (λ (z : AllStores). length z.windows) c.self.view_is in
    let inside : at < length windows = omega
    (arith, c.requires.inside, size, c.if-number-eq0.false) in
    let number : at + 1 ≡ c.args.number = omega (arith, c.if-number-eq0.false) in
    let granted : c.grants-grants.result.now.grants ≡ s.table.grants = ap (λ g. g.grants)
    c.grants-grants.ensures in
    let count : c.len-cpus.result ≡ length s.table.processors = grind
    (arith, common_steps, c.len-cpus.ensures) in
    let told = c.in_ok-found-2.ensures.told in
    subst
    (λ (z : AllStores × ℕ).
    IfNone c.in_ok-found-2.found
    (HasNoSection (opening_of (store_at z.0 z.1)) c.args.lines.now c.args.text.now))
    (λ i. (c.self.view_is i, number i))
    (unless_window s c.args.lines.now c.args.text.now c.in_ok-found-2.found at v _
    c.window_found.new.entries.states told.0 inside c.index_mut-entries.ensures.value
    (λ i. opening_of (window_store (granted i) (count i) v.states v.window)) told.1)
