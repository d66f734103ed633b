use Rattle.std.proofs.Common.{◌≡◌, ap, ◌∙◌, IfSome}
use Rattle.entry_model.specs.declared.receipt.Receipt.{Receipt}
use Rattle.entry_model.specs.CachedLines.{line_of}
use Rattle.entry_model.specs.Receipt.{found_of}
use Rattle.entry_model.specs.Replies.{access_reply_with}
use Rattle.hpt_walk.specs.Translations.{TranslatesItsPage}
use Rattle.tlb_model.specs.CacheAfter.{with_kept, kept_line}
use Rattle.vcpu.proofs.Refills.{dropped, all_dropped, all_kept, kept_fits, kept_is_of, kept_translates, walked_cache}
use Rattle.vcpu.proofs.passing.walked.Goals as goal

pub refill-requires : goal.refill-requires
refill-requires c =
    let page = c.args.segment.now.page in
    rw c.drop_line.ensures
    (kept_fits page c.args.tlb.now c.kept_line-kept.result
    (rw c.kept_line-kept.ensures
    (kept_is_of page c.args.end.now.outcome c.found_of-found.result)))

pub returns-clause-cache : goal.returns-clause-cache
returns-clause-cache c =
    let r = access_reply_with c.args.end.now c.args.list.now in
    let seg = c.args.segment.now in
    let kept : c.kept_line-kept.result ≡ kept_line seg.page r.outcome (found_of r.receipts) =
    c.kept_line-kept.ensures ∙ ap (kept_line seg.page r.outcome) c.found_of-found.ensures in
    c.refill.ensures ∙ ap (with_kept c.kept_line-kept.result) c.drop_line.ensures ∙ walked_cache
    c.args.tlb.now seg r c.kept_line-kept.result c.requires.by kept

pub returns-clause-translate : goal.returns-clause-translate
returns-clause-translate c =
    let page = c.args.segment.now.page in
    let found : IfSome c.found_of-found.result (λ (r : Receipt). TranslatesItsPage (line_of page r))
    = rw c.found_of-found.ensures c.requires.found in
    let kept : IfSome c.kept_line-kept.result TranslatesItsPage =
    rw c.kept_line-kept.ensures
    (kept_translates page c.args.end.now.outcome c.found_of-found.result found) in
    rw (c.refill.ensures, c.drop_line.ensures)
    (all_kept TranslatesItsPage c.kept_line-kept.result (dropped page c.args.tlb.now)
    (all_dropped TranslatesItsPage page c.args.tlb.now c.requires.translate) kept)
