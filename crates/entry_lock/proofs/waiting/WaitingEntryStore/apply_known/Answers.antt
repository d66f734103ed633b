use Rattle.std.specs.Prelude.{IfNone}
use Rattle.std.proofs.Common.{[], Option, Some, None}
use Rattle.std.proofs.lemmas.List.Elements.{All-nil}
use Rattle.entry_lock.specs.WaitingStore.{IsInTable}
use Rattle.entry_lock.proofs.WaitingFacts.{receipts_from, receipts_gone}
use Rattle.entry_lock.proofs.waiting.WaitingEntryStore.apply_known.Goals as goal

none_weaker : {T : Type 0} (o : Option T) (P Q : Type 0) → (P → Q) → IfNone o P → IfNone o Q
none_weaker None P Q f h = f h
none_weaker (Some x) P Q f h = tt

pub returns-in-Ok-clause-nothing : goal.returns-in-Ok-clause-nothing
returns-in-Ok-clause-nothing g c =
    let i = c.loop.invariant in
    none_weaker c.in-Ok.answer _ _
    (λ l. (
      record {
        made =
            receipts_from c.args.self.now.pass.seat.me.0 c.loop.self.pass.seat.me.0
            c.try_known.new.self.seat.me.0 [] i.receipts i.lines i.fronts i.numbers
            (receipts_gone c.loop.self.pass.seat.me.0 c.try_known.new.self.seat.me.0
            c.args.known.now l);
        inside = All-nil (IsInTable c.args.self.now.table.now.order);
      },
      i.table,
    )) c.in-Ok.ensures.gone
