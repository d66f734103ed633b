-- What the judge owes of a line, by what is said of its processor and that processor's fronts.
use Rattle.std.proofs.Common.{◌≡◌, ℕ, ◌<◌, List, ◌++◌, ap, sym, ◌∙◌, subst, length, get_or, set, Option, Some, None}
use Rattle.std.proofs.lemmas.List.{get_or_default}
use Rattle.tlb_model.specs.Processor.{Processor, new_processor}
use Rattle.run_model.specs.Processors.{processor_at, processor_after, processors_after}
use Rattle.run_model.specs.Histories.{InOrder, events_in}
use Rattle.history_check.specs.declared.fronts.Fronts.{Fronts}
use Rattle.history_check.specs.FrontKeeping.{front_of, fronts_of, LeadsTo, AllLeadTo}
use Rattle.history_check.specs.LineReply.{StandsOn, HasReply}
use Rattle.history_check.specs.JudgedLines.{JudgedLine, replied, TellsReply, TellsLine}
use Rattle.history_check.proofs.ProcessorFronts.{own_fronts, own_lead}

pub next_told :
    (j : JudgedLine) (ps us : List Processor) (ms ns : List Fronts) (opening : List ℕ)
    (p q : Processor) (m n : Fronts) (o : Option ℕ)
    → j.line.cpu < length ps
    → j.line.cpu < length ms
    → p ≡ get_or ps j.line.cpu p
    → m ≡ get_or ms j.line.cpu m
    → us ≡ set ps j.line.cpu q
    → ns ≡ set ms j.line.cpu n
    → TellsReply j p (front_of m opening) o q (front_of n opening)
    → TellsLine j ps (fronts_of ms opening) o us (fronts_of ns opening)
next_told j ps us ms ns opening p q m n (Some b) cpu cpu' own own' set' set'' told =
    let l = j.line in
    let here : p ≡ processor_at ps l.cpu = own ∙ get_or_default ps l.cpu p new_processor cpu in
    let h : HasReply j.context j.closing (processor_at ps l.cpu) l j.found j.given b = subst
    (λ z. HasReply j.context j.closing z l j.found j.given b) here told.0 in
    let next : us ≡ processors_after ps (replied j told.0.reply) = set' ∙ ap (set ps l.cpu)
    (told.1 ∙ ap (λ z. processor_after z l.act told.0.reply) here) in
    let leads : AllLeadTo (fronts_of ms opening) l.cpu
    (events_in (processor_at ps l.cpu) (replied j told.0.reply)) (fronts_of ns opening) =
    own_lead ms ns opening l.cpu m n
    (events_in (processor_at ps l.cpu) (replied j told.0.reply)) cpu' own' set''
    (subst
    (λ z.
    LeadsTo (front_of m opening) (events_in z (replied j told.0.reply))
    (front_of n opening)) here told.2) in
    (h, next, leads)
next_told j ps us ms ns opening p q m n None cpu cpu' own own' set' set'' told =
    let l = j.line in
    let here : p ≡ processor_at ps l.cpu = own ∙ get_or_default ps l.cpu p new_processor cpu in
    λ r x y stands same order.
    told r x y (subst (λ w. StandsOn j.context j.closing w l j.found r) (sym here) stands) same
    (λ e.
    subst (λ w. InOrder e (front_of m opening e) (events_in w (replied j r) ++ y)) (sym here)
    (subst (λ f. InOrder e f (events_in (processor_at ps l.cpu) (replied j r) ++ y))
    (own_fronts ms opening l.cpu e m cpu' own') (order e)))
