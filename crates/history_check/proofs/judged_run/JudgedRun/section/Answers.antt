use Rattle.std.specs.Prelude.{◌==◌, IfSome, IfNone, is_some, not}
use Rattle.std.proofs.Common.{◌≡◌, ℕ, ◌+◌, ◌<◌, ◌≤◌, ◌∙◌, [], ◌∷◌, true, false, ap, sym, subst, refl, length, List, Option, Some, None, arith}
use Rattle.std.proofs.lemmas.Grind.{common_steps}
use Rattle.trace_line.specs.Lines.{is_quiet, most_lines, AreOnProcessors}
use Rattle.trace_line.specs.declared.line.TraceLine.{TraceLine}
use Rattle.run_model.specs.AllStores.{WindowState, AllStores, windows_in}
use Rattle.run_model.specs.StoreNumbers.{store_of, lines_on_store}
use Rattle.basics.proofs.Each.{each_filter, filter_length}
use Rattle.run_model.proofs.StoreNumbers.{same_count}
use Rattle.run_model.specs.Quiet.{NoneQuiet}
use Rattle.history_check.specs.FoundStores.{windows_of, AreFound}
use Rattle.history_check.specs.PartedText.{part_on_store}
use Rattle.history_check.specs.StoreParts.{FoundBelow}
use Rattle.history_check.proofs.FoundParts.{parts_found}
use Rattle.history_check.proofs.JudgedStores.{below_more, below_not, ok_alone, ok_alone_not}
use Rattle.history_check.proofs.judged_run.JudgedRun.section.Goals.{After-as_slice-in-loop-number}
use Rattle.history_check.proofs.judged_run.JudgedRun.section.Goals as goal

no_windows : (vs : List WindowState) → length vs ≡ 0 → vs ≡ []
no_windows [] e = refl
no_windows (v ∷ vs) e = absurd (omega (arith, e))

pub returns-then-is_empty-clause-some : goal.returns-then-is_empty-clause-some
returns-then-is_empty-clause-some c =
    let none : length c.self.inside.windows.items ≡ 0 = grind
    (arith, common_steps, c.is_empty.ensures, c.if-is_empty.true) in
    ok_alone c.args.self.now c.args.lines.now c.args.text.now
    (sym (ap (λ (s : AllStores). s.table.window) c.self.view_is))
    (sym (ap (λ (s : AllStores). s.windows) c.self.view_is)
    ∙ no_windows c.self.inside.windows.items none)
    c.found_on.new.self c.found_on.result c.found_on.ensures.some

pub returns-then-is_empty-clause-none : goal.returns-then-is_empty-clause-none
returns-then-is_empty-clause-none c =
    let none : length c.self.inside.windows.items ≡ 0 = grind
    (arith, common_steps, c.is_empty.ensures, c.if-is_empty.true) in
    ok_alone_not c.args.self.now c.args.lines.now c.args.text.now
    (sym (ap (λ (s : AllStores). s.table.window) c.self.view_is))
    (sym (ap (λ (s : AllStores). s.windows) c.self.view_is)
    ∙ no_windows c.self.inside.windows.items none)
    c.found_on.result c.found_on.ensures.none

-- ---- the stores one after the other
-- There is a store of the number, and its part is the one that is looked at.
pub record IsDealt (c : After-as_slice-in-loop-number) : Type 0 where
  pub inside : c.loop-number.number ≤ length c.args.self.now.windows
  pub lines :
      c.as_slice-own.result.now
      ≡ lines_on_store (windows_of c.args.self.now) c.loop-number.number c.args.lines.now
  pub text :
      c.as_slice-in-loop-number.result.now
      ≡ part_on_store (windows_of c.args.self.now) c.loop-number.number c.args.lines.now
      c.args.text.now

dealt : (c : After-as_slice-in-loop-number) → IsDealt c
dealt c =
    let number = c.loop-number.number in
    let parts = c.in_ok-parts.parts.items in
    let part = c.index-part.result.now in
    let windows : c.as_slice.result.now ≡ c.args.self.now.windows = c.as_slice.ensures.value ∙ ap
    (λ (s : AllStores). s.windows) c.self.view_is in
    let low : number < length parts = omega
    (arith, c.loop-number-test.true, c.len-number-end.ensures, c.in_ok-parts.parts.ok.0) in
    let own = c.in_ok-parts.ensures.parts number part low in
    record {
      inside = omega (arith, low, c.in_ok-parts.ensures.size, ap length windows);
      lines =
          c.as_slice-own.ensures.value
          ∙ ap (λ p. p.lines.items) c.index-part.ensures
          ∙ own.lines
          ∙ ap (λ vs. lines_on_store (windows_in vs) number c.args.lines.now) windows;
      text =
          c.as_slice-in-loop-number.ensures.value
          ∙ ap (λ p. p.text.items) c.index-part.ensures
          ∙ own.told
          ∙ ap (λ vs. part_on_store (windows_in vs) number c.args.lines.now c.args.text.now)
          windows;
    }

pub found_on-requires-in-loop-number-clause-plain :
    goal.found_on-requires-in-loop-number-clause-plain
found_on-requires-in-loop-number-clause-plain c =
    let here = dealt
    (goal.at.found_on-requires-in-loop-number-clause-plain c).After-as_slice-in-loop-number in
    subst NoneQuiet (sym here.lines)
    (each_filter (λ (l : TraceLine). is_quiet l.act ≡ false)
    (λ (l : TraceLine). store_of (windows_of c.args.self.now) l.act == c.loop-number.number)
    c.args.lines.now c.requires.plain)

pub found_on-requires-in-loop-number-clause-cpus : goal.found_on-requires-in-loop-number-clause-cpus
found_on-requires-in-loop-number-clause-cpus c =
    let here = dealt
    (goal.at.found_on-requires-in-loop-number-clause-cpus c).After-as_slice-in-loop-number in
    let n = length c.args.self.now.table.processors in
    subst (λ m. AreOnProcessors m c.as_slice-own.result.now)
    (sym c.loop-number.invariant.found.stays.processors)
    (subst (AreOnProcessors n) (sym here.lines)
    (each_filter (λ (l : TraceLine). l.cpu < n)
    (λ (l : TraceLine). store_of (windows_of c.args.self.now) l.act == c.loop-number.number)
    c.args.lines.now c.requires.cpus))

pub found_on-requires-in-loop-number-clause-few : goal.found_on-requires-in-loop-number-clause-few
found_on-requires-in-loop-number-clause-few c =
    let here = dealt
    (goal.at.found_on-requires-in-loop-number-clause-few c).After-as_slice-in-loop-number in
    subst (λ (ls : List TraceLine). length ls ≤ most_lines) (sym here.lines)
    (omega (
      arith,
      c.requires.few,
      filter_length
          (λ (l : TraceLine).
          store_of (windows_of c.args.self.now) l.act == c.loop-number.number)
          c.args.lines.now,
    ))

none_of : (o : Option ℕ) (P : Type 0) → IfNone o P → is_some o ≡ false → P
none_of None P h e = h
none_of (Some n) P h e = absurd (let clash : true ≡ false = e in cc)

some_of : (o : Option ℕ) (P : ℕ → Type 0) → IfSome o P → is_some o ≡ true → (n : ℕ) × P n
some_of (Some n) P h e = (n, h)
some_of None P h e = absurd (let clash : false ≡ true = e in cc)

pub returns-then-is_none-clause-none : goal.returns-then-is_none-clause-none
returns-then-is_none-clause-none c =
    let here = dealt (goal.at.returns-then-is_none-clause-none c).After-as_slice-in-loop-number in
    below_not c.args.self.now c.loop-number.self c.loop-number.number c.args.lines.now
    c.as_slice-own.result.now c.args.text.now c.as_slice-in-loop-number.result.now
    c.loop-number.invariant.named c.requires.plain here.inside here.lines here.text
    c.loop-number.invariant.found
    (none_of c.in_ok-found.found _ c.in_ok-found.ensures.none
    (c.is_none.ensures ∙ ap not c.if-is_none.true))

pub loop-number-preserved : goal.loop-number-preserved
loop-number-preserved c =
    let here = dealt (goal.at.loop-number-preserved c).After-as_slice-in-loop-number in
    let some = some_of c.in_ok-found.found _ c.in_ok-found.ensures.some
    (c.is_none.ensures ∙ ap not c.if-is_none.false) in
    record {
      named = c.loop-number.invariant.named;
      found =
          below_more c.args.self.now c.loop-number.self c.found_on-in-loop-number.new.self
          c.loop-number.number c.args.lines.now c.as_slice-own.result.now c.args.text.now
          c.as_slice-in-loop-number.result.now some.0 c.loop-number.invariant.named here.inside
          here.lines here.text c.loop-number.invariant.found some.1
          (same_count c.loop-number.self.windows c.args.self.now.windows
          c.loop-number.invariant.found.stays.windows);
    }

pub returns-clause-some : goal.returns-clause-some
returns-clause-some c =
    let s = c.args.self.now in
    let windows : c.as_slice.result.now ≡ s.windows = c.as_slice.ensures.value ∙ ap
    (λ (z : AllStores). z.windows) c.self.view_is in
    let last : c.loop-number.number ≡ 1 + length s.windows = omega (
      arith,
      c.loop-number-test.false,
      c.loop-number.auto.number-end,
      c.len-number-end.ensures,
      c.in_ok-parts.parts.ok.0,
      c.in_ok-parts.ensures.size,
      ap length windows,
    ) in
    let found = subst
    (λ n. FoundBelow s n c.args.lines.now c.args.text.now c.loop-number.self) last
    c.loop-number.invariant.found in
    let all = parts_found s c.loop-number.self c.args.lines.now c.args.text.now c.requires.plain
    c.loop-number.invariant.named found in (
      all.0,
      subst (λ z. AreFound s c.args.lines.now c.args.text.now all.0 z)
          (sym c.replies_end.ensures.behind) all.1,
      all.2,
    )
