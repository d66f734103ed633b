use Rattle.std.proofs.Common.{◌≡◌, ◌<◌, [], ◌∷◌, ◌++◌, length, get_or, true, false, inl, inr, ap, sym, ◌∙◌, arith}
use Rattle.c_layout.specs.Entries.{Entry}
use Rattle.papr_c.specs.Taking.{Found, found, entries_without}
use Rattle.papr_c.proofs.TakenMarks.{taking_starts, taking_reads, taking_passes, taking_takes, found_is, places_are, entries_are}
use Rattle.papr_c.proofs.taking.take_marks.Goals as goal
use Rattle.papr_c.proofs.taking.take_marks.Goals.{then-entry, else-entry}

pub loop-index-init : goal.loop-index-init
loop-index-init c = (
  [],
  taking_starts c.args.first (length c.args.indexes.now) c.args.entries.now
      c.args.indexes.now c.requires.inside,
)

pub ended_at-requires-clause-few : goal.ended_at-requires-clause-few
ended_at-requires-clause-few c =
    let h = c.loop-index.invariant.1 in omega (arith, h.less, h.high, c.requires.few)

pub ended_at-requires-2-clause-few : goal.ended_at-requires-2-clause-few
ended_at-requires-2-clause-few c =
    let h = c.loop-index.invariant.1 in omega (arith, h.less, h.high, c.requires.few)

pub loop-index-preserved : goal.loop-index-preserved
loop-index-preserved c =
    let told = c.loop-index.invariant.0 in
    let h = c.loop-index.invariant.1 in
    let old = c.args.entries.now in
    let i = c.loop-index.index in
    let d = c.index-entries-index.result in
    let room = length c.args.indexes.now in
    let below : i < length old = omega (arith, c.loop-index-test.true) in
    let read : d ≡ get_or old i d =
    c.index-entries-index.is
    ∙ taking_reads c.args.first i room old c.loop-index.entries c.args.indexes.now
    c.loop-index.indexes c.loop-index.count told d below h in
    elim c.if-entry.branch [
      | then-entry w ↦
          let marked : (get_or old i d).marked ≡ true =
          ap (λ (e : Entry). e.marked) (sym read)
          ∙ ap (λ (e : Entry). e.marked) (sym c.entry.view_is)
          ∙ w.if-entry.true in
          let left : c.loop-index.count < room = omega
          (arith, c.if-count-indexes.false, c.loop-index.auto.indexes, h.few) in (
            told ++ i ∷ [],
            taking_takes c.args.first i room old c.loop-index.entries c.if-entry.entries
                c.args.indexes.now c.loop-index.indexes c.if-entry.indexes c.loop-index.count
                c.if-entry.count told d w.of.result below marked left
                (w.of.ensures
                ∙ λ k. record {
                  state = (w.state.ensures ∙ ap (λ (e : Entry). e.state) read) k;
                  marked = false;
                })
                w.entries-is w.indexes-is w.count-is h,
          )
      | else-entry w ↦
          let none : (get_or old i d).marked ≡ false =
          ap (λ (e : Entry). e.marked) (sym read)
          ∙ ap (λ (e : Entry). e.marked) (sym c.entry.view_is)
          ∙ w.if-entry.false in (
            told,
            taking_passes c.args.first i room old c.loop-index.entries c.if-entry.entries
                c.args.indexes.now c.loop-index.indexes c.if-entry.indexes c.loop-index.count
                c.if-entry.count told d below none
                (λ all. omega (arith, all, c.if-count-indexes.false, c.loop-index.auto.indexes))
                w.entries-is w.indexes-is w.count-is h,
          )
    ]

-- Where no place is left.
full_found : (c : goal.After-ended_at)
    → found c.args.entries.now c.args.first (length c.args.indexes.now)
    ≡ record { indexes = c.loop-index.invariant.0; next = c.loop-index.index }
full_found c =
    found_is c.args.first c.loop-index.index (length c.args.indexes.now) c.args.entries.now
    c.loop-index.entries c.args.indexes.now c.loop-index.indexes c.loop-index.count
    c.loop-index.invariant.0
    (inl (omega (arith, c.if-count-indexes.true, c.loop-index.auto.indexes)))
    c.loop-index.invariant.1

pub returns-then-count-indexes-clause-indexes : goal.returns-then-count-indexes-clause-indexes
returns-then-count-indexes-clause-indexes c =
    places_are c.args.entries.now c.args.first (length c.args.indexes.now) c.args.indexes.now
    c.loop-index.indexes _ (full_found c) c.loop-index.invariant.1.put

pub returns-then-count-indexes-clause-entries : goal.returns-then-count-indexes-clause-entries
returns-then-count-indexes-clause-entries c =
    entries_are c.args.first c.loop-index.index (length c.args.indexes.now) c.args.entries.now
    c.loop-index.entries c.args.indexes.now c.loop-index.indexes c.loop-index.count
    c.loop-index.invariant.0 c.loop-index.invariant.1
    ∙ ap (λ (f : Found). entries_without c.args.first f c.args.entries.now) (sym (full_found c))

-- Where the table ended.
end_found : (c : goal.After-ended_at-2)
    → found c.args.entries.now c.args.first (length c.args.indexes.now)
    ≡ record { indexes = c.loop-index.invariant.0; next = c.loop-index.index }
end_found c =
    found_is c.args.first c.loop-index.index (length c.args.indexes.now) c.args.entries.now
    c.loop-index.entries c.args.indexes.now c.loop-index.indexes c.loop-index.count
    c.loop-index.invariant.0
    (inr (omega (arith, c.loop-index-test.false)))
    c.loop-index.invariant.1

pub returns-clause-indexes : goal.returns-clause-indexes
returns-clause-indexes c =
    places_are c.args.entries.now c.args.first (length c.args.indexes.now) c.args.indexes.now
    c.loop-index.indexes _ (end_found c) c.loop-index.invariant.1.put

pub returns-clause-entries : goal.returns-clause-entries
returns-clause-entries c =
    entries_are c.args.first c.loop-index.index (length c.args.indexes.now) c.args.entries.now
    c.loop-index.entries c.args.indexes.now c.loop-index.indexes c.loop-index.count
    c.loop-index.invariant.0 c.loop-index.invariant.1
    ∙ ap (λ (f : Found). entries_without c.args.first f c.args.entries.now) (sym (end_found c))
