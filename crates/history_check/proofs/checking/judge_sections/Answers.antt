use Rattle.std.proofs.Common.{◌≡◌, ◌∙◌, ◌-◌, ◌≤◌, [], ap, sym, arith, refl, drop, take, length, length-drop, List, ℕ}
use Rattle.std.proofs.lemmas.List.{take_all, drop_all}
use Rattle.run_model.specs.AllStores.{AllStores}
use Rattle.trace_line.specs.declared.act.Act.{Act}
use Rattle.history_check.specs.FoundStores.{run_quiet_on}
use Rattle.history_check.proofs.JudgedSections.{at_first, at_next, front_cpus, front_few, few_standing, number_stays, first_number, no_section, no_reply, no_last, last_ends, last_goes_on}
use Rattle.history_check.proofs.checking.judge_sections.Goals as goal

pub loop-plain-init : goal.loop-plain-init
loop-plain-init c =
    let lines = c.as_slice-lines.ensures ∙ ap (λ t. t.lines) c.trace.view_is in
    record {
      reached =
          rw (c.requires.opened, lines)
          (at_first c.args.trace.now c.args.text.now c.keeps_limits.ensures);
      number = rw (c.requires.opened, first_number c.args.trace.now) (omega arith);
    }

pub section-requires-clause-cpus : goal.section-requires-clause-cpus
section-requires-clause-cpus c =
    front_cpus _ _ _ _ _ _ _ _ (rw c.in-Some.ensures.parts at c.loop-plain.invariant.reached)

pub section-requires-clause-few : goal.section-requires-clause-few
section-requires-clause-few c =
    front_few _ _ _ _ _ _ _ _ (rw c.in-Some.ensures.parts at c.loop-plain.invariant.reached)

pub section-requires-2-clause-few : goal.section-requires-2-clause-few
section-requires-2-clause-few c = c.loop-plain.invariant.reached.few

pub returns-in_default-2 : goal.returns-in_default-2
returns-in_default-2 c =
    no_section _ _ _ _ _ _ _ _ (rw c.in-Some.ensures.parts at c.loop-plain.invariant.reached)
    c.in-Some.ensures.plain c.in-Some.ensures.quiet
    (rw c.in_default-2.is at c.in_ok-count.ensures.none)

pub behind_quiet-requires-clause-number : goal.behind_quiet-requires-clause-number
behind_quiet-requires-clause-number c =
    let few = few_standing _ _ _ _ _ _ c.keeps_limits.ensures c.loop-plain.invariant.reached in
    let found = rw c.in-Some-2.is at c.in_ok-count.ensures.some in
    omega (
      arith,
      few,
      c.loop-plain.invariant.number,
      ap (λ (w : AllStores). w.table.memory.table.number) found.2 ∙ number_stays _ _,
    )

-- The text behind a section that was found, as a slice.
behind :
    (text : List ℕ) (count : ℕ) → take (length text - count) (drop count text) ≡ drop count text
behind text count = take_all _ _ (omega (arith, length-drop count text))

-- The reply and the run, of a run that is known.
replied :
    (v u : AllStores) (act : Act)
    → u ≡ (run_quiet_on v act).1
    → ((run_quiet_on v act).0, u) ≡ run_quiet_on v act
replied v u act e = λ i. ((run_quiet_on v act).0, e i)

pub returns-in_default-3 : goal.returns-in_default-3
returns-in_default-3 c =
    let found = rw c.in-Some-2.is at c.in_ok-count.ensures.some in
    no_reply _ _ _ _ _ _ _ _ (rw c.in-Some.ensures.parts at c.loop-plain.invariant.reached)
    c.in-Some.ensures.plain c.in-Some.ensures.quiet found.0 _ _ _ _ found.1 found.2 refl
    (λ y e.
    let none = rw c.in_default-3.is at c.in_ok-behind.ensures.none in
    none y (behind c.loop-plain.rest.now c.in-Some-2.count ∙ e))

pub loop-plain-preserved : goal.loop-plain-preserved
loop-plain-preserved c =
    let found = rw c.in-Some-2.is at c.in_ok-count.ensures.some in
    let told = rw c.in-Some-3.is at c.in_ok-behind.ensures.some in
    record {
      reached =
          at_next _ _ _ _ _ _ _ _ (rw c.in-Some.ensures.parts at c.loop-plain.invariant.reached)
          c.in-Some.ensures.plain c.in-Some.ensures.quiet found.0 _ _ _ _ _ found.1 found.2
          (replied _ _ _ c.in_ok-behind.ensures.run)
          (sym (behind c.loop-plain.rest.now c.in-Some-2.count) ∙ told);
      number =
          omega (
            arith,
            c.in_ok-behind.ensures.number,
            c.loop-plain.invariant.number,
            ap (λ (w : AllStores). w.table.memory.table.number) found.2 ∙ number_stays _ _,
          );
    }

pub returns-in-Some-4 : goal.returns-in-Some-4
returns-in-Some-4 c =
    let found = rw c.in-Some-4.is at c.in_ok-count-2.ensures.some in
    last_ends _ _ _ _ _ _ c.loop-plain.invariant.reached c.in_default.ensures.none found.0 _ found.1
    (drop_all c.in-Some-4.count c.loop-plain.rest.now (omega (arith, c.if-count-rest.true)))

-- Something follows a section that ends before the text does.
more_behind :
    (text : List ℕ) (count : ℕ)
    → count ≤ length text
    → (count ≡ length text → ⊥)
    → drop count text ≡ []
    → ⊥
more_behind text count within other none =
    other (omega (arith, length-drop count text, ap length none))

pub returns-in-Some-2-2 : goal.returns-in-Some-2-2
returns-in-Some-2-2 c =
    let found = rw c.in-Some-4.is at c.in_ok-count-2.ensures.some in
    let within = rw c.in-Some-4.is at c.in_ok-count-2.ensures.within in
    last_goes_on _ _ _ _ _ _ c.loop-plain.invariant.reached c.in_default.ensures.none found.0 _
    found.1 (more_behind c.loop-plain.rest.now c.in-Some-4.count within c.if-count-rest.false)

pub returns-in-None : goal.returns-in-None
returns-in-None c =
    no_last _ _ _ _ _ _ c.loop-plain.invariant.reached c.in_default.ensures.none
    (rw c.in-None.is at c.in_ok-count-2.ensures.none)
