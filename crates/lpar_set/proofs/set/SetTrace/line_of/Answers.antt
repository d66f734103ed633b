use Rattle.std.proofs.Common.{◌<◌, ◌∙◌, ap, sym, subst, length, get_or, List}
use Rattle.trace_line.specs.declared.line.TraceLine.{TraceLine}
use Rattle.lpar_set.specs.SetTrace.{AcceptedSet, IsAcceptedSet}
use Rattle.lpar_set.proofs.Turns.{line_inside, lines_read, line_read}
use Rattle.lpar_set.proofs.set.SetTrace.line_of.Goals as goal

pub bounds-lines-turn : goal.bounds-lines-turn
bounds-lines-turn c =
    let s = c.args.self.now in
    let t = c.args.turn.now in
    let is = subst IsAcceptedSet c.self.view_is c.self.invariant in
    let read = c.index.ensures ∙ ap
    (λ (v : AcceptedSet). get_or v.partitions t.partition c.index.result.now) c.self.view_is in
    let lines = lines_read s t c.index.result.now c.lines-lines.result.now is c.requires read
    c.lines-lines.ensures in
    subst (λ (ls : List TraceLine). t.line < length ls) (sym lines) (line_inside s t is c.requires)

pub returns : goal.returns
returns c =
    let s = c.args.self.now in
    let t = c.args.turn.now in
    let is = subst IsAcceptedSet c.self.view_is c.self.invariant in
    let read = c.index.ensures ∙ ap
    (λ (v : AcceptedSet). get_or v.partitions t.partition c.index.result.now) c.self.view_is in
    line_read s t c.lines-lines.result.now _ is c.requires
    (lines_read s t c.index.result.now c.lines-lines.result.now is c.requires read
    c.lines-lines.ensures)
