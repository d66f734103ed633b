use Rattle.std.proofs.Common.{◌≡◌, [], Option, None, Some, refl, IfNone, ◌∙◌, ap}
use Rattle.hpt_walk.specs.Translations.{TranslatesItsPage}
use Rattle.entry_model.specs.Receipt.{found_of}
use Rattle.entry_model.specs.Replies.{access_reply_with}
use Rattle.tlb_model.proofs.CachedPages.{all_cached, cached_is_of, all_cached_weaker}
use Rattle.tlb_model.specs.CacheAfter.{with_kept}
use Rattle.vcpu.proofs.Refills.{dropped, all_dropped, all_kept, kept_is_of, kept_fits, walked_cache}
use Rattle.vcpu.proofs.passing.in_segment.Given.{Over}
use Rattle.vcpu.proofs.passing.in_segment.Goals as goal

pub by_cache-requires-clause-seen : goal.by_cache-requires-clause-seen
by_cache-requires-clause-seen g c =
    rw (c.find-line.ensures)
    (all_cached (g.T.EntryStore.seen c.args.store.now) c.args.tlb.now c.args.segment.now.page
    c.requires.seen)

pub by_cache-requires-clause-translates : goal.by_cache-requires-clause-translates
by_cache-requires-clause-translates g c =
    rw (c.find-line.ensures)
    (all_cached TranslatesItsPage c.args.tlb.now c.args.segment.now.page c.requires.translate)

pub by_cache-requires-clause-page : goal.by_cache-requires-clause-page
by_cache-requires-clause-page g c =
    rw (c.find-line.ensures) (cached_is_of c.args.tlb.now c.args.segment.now.page)

pub returns-in-Some-clause-seen : goal.returns-in-Some-clause-seen
returns-in-Some-clause-seen g c =
    all_cached_weaker (g.T.EntryStore.seen c.args.store.now)
    (g.T.EntryStore.seen c.by_cache.new.store)
    (λ line seen.
    g.met.T.EntryStore.seen_stays c.args.store.now c.by_cache.new.store c.by_cache.new.receipts
    line c.in-Some.ensures.made seen) c.args.tlb.now c.requires.seen

pub refill-requires : goal.refill-requires
refill-requires g c =
    rw (c.drop_line.ensures)
    (kept_fits c.args.segment.now.page c.args.tlb.now c.by_walk-line.result.line
    (rw (c.by_walk-line.ensures.line)
    (kept_is_of c.args.segment.now.page c.by_walk-line.result.end.outcome
    (found_of c.by_walk-line.new.receipts))))

none_of : {X : Type 0} (P : Type 0) (o : Option X) → ((x : X) → o ≡ Some x → ⊥) → IfNone o P → P
none_of P None off fact = fact
none_of P (Some x) off fact = absurd (off x refl)

-- Nothing was made before the walk.
nothing :
    (g : Over) (c : goal.After-refill g)
    → g.T.EntryStore.made c.args.store.now c.by_cache.new.store []
nothing g c =
    none_of (g.T.EntryStore.made c.args.store.now c.by_cache.new.store []) c.by_cache.result
    c.in_default.not-Some c.by_cache.ensures.nothing

pub returns-clause-made : goal.returns-clause-made
returns-clause-made g c =
    g.met.T.EntryStore.made_more c.args.store.now c.by_cache.new.store c.by_walk-line.new.store []
    c.by_walk-line.new.receipts (nothing g c) c.by_walk-line.ensures.made

pub returns-clause-cache : goal.returns-clause-cache
returns-clause-cache g c =
    c.refill.ensures
    ∙ ap (with_kept c.by_walk-line.result.line) c.drop_line.ensures
    ∙ walked_cache c.args.tlb.now c.args.segment.now
    (access_reply_with c.by_walk-line.result.end c.by_walk-line.new.receipts)
    c.by_walk-line.result.line c.by_walk-line.ensures.by c.by_walk-line.ensures.line

pub returns-clause-seen : goal.returns-clause-seen
returns-clause-seen g c =
    let still = all_cached_weaker (g.T.EntryStore.seen c.args.store.now)
    (g.T.EntryStore.seen c.by_walk-line.new.store)
    (λ line seen.
    g.met.T.EntryStore.seen_stays c.by_cache.new.store c.by_walk-line.new.store
    c.by_walk-line.new.receipts line c.by_walk-line.ensures.made
    (g.met.T.EntryStore.seen_stays c.args.store.now c.by_cache.new.store [] line
    (nothing g c) seen)) c.args.tlb.now c.requires.seen in
    rw (c.refill.ensures, c.drop_line.ensures)
    (all_kept (g.T.EntryStore.seen c.by_walk-line.new.store) c.by_walk-line.result.line
    (dropped c.args.segment.now.page c.args.tlb.now)
    (all_dropped (g.T.EntryStore.seen c.by_walk-line.new.store) c.args.segment.now.page
    c.args.tlb.now still) c.by_walk-line.ensures.seen)

pub returns-clause-translate : goal.returns-clause-translate
returns-clause-translate g c =
    rw (c.refill.ensures, c.drop_line.ensures)
    (all_kept TranslatesItsPage c.by_walk-line.result.line
    (dropped c.args.segment.now.page c.args.tlb.now)
    (all_dropped TranslatesItsPage c.args.segment.now.page c.args.tlb.now
    c.requires.translate) c.by_walk-line.ensures.translates)
