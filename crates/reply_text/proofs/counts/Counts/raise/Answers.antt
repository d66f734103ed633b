use Rattle.reply_text.proofs.SummarySteps.{raised_fits}
use Rattle.reply_text.specs.declared.counted.Counted.TheVariants as counts
use Rattle.reply_text.proofs.counts.Counts.raise.Goals as goal

pub overflow_add-self : goal.overflow_add-self
overflow_add-self c = raised_fits _ _ _ c.from.ensures (c.requires counts.Hcalls)

pub overflow_add-self-2 : goal.overflow_add-self-2
overflow_add-self-2 c = raised_fits _ _ _ c.from-2.ensures (c.requires counts.Success)

pub overflow_add-self-3 : goal.overflow_add-self-3
overflow_add-self-3 c = raised_fits _ _ _ c.from-3.ensures (c.requires counts.Full)

pub overflow_add-self-4 : goal.overflow_add-self-4
overflow_add-self-4 c = raised_fits _ _ _ c.from-4.ensures (c.requires counts.NotFound)

pub overflow_add-self-5 : goal.overflow_add-self-5
overflow_add-self-5 c = raised_fits _ _ _ c.from-5.ensures (c.requires counts.Accesses)

pub overflow_add-self-6 : goal.overflow_add-self-6
overflow_add-self-6 c = raised_fits _ _ _ c.from-6.ensures (c.requires counts.At)

pub overflow_add-self-7 : goal.overflow_add-self-7
overflow_add-self-7 c = raised_fits _ _ _ c.from-7.ensures (c.requires counts.Denied)

pub overflow_add-self-8 : goal.overflow_add-self-8
overflow_add-self-8 c = raised_fits _ _ _ c.from-8.ensures (c.requires counts.NoPage)

pub overflow_add-self-9 : goal.overflow_add-self-9
overflow_add-self-9 c = raised_fits _ _ _ c.from-9.ensures (c.requires counts.Hits)
