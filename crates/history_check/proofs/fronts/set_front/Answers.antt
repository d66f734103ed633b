use Rattle.std.proofs.Common.{◌<◌, ◌≤◌, length, arith}
use Rattle.std.proofs.lemmas.Grind.{common_steps}
use Rattle.history_check.specs.FrontKeeping.{kept_front}
use Rattle.history_check.proofs.ListedFronts.{set_listed, set_kept}
use Rattle.history_check.proofs.fronts.set_front.Goals as goal

pub returns-then-index-len : goal.returns-then-index-len
returns-then-index-len c =
    let low : c.args.entry < length c.args.fronts.now.list.items = grind
    (arith, common_steps, c.len.ensures) in
    record {
      each =
          λ opening e.
          set_listed c.args.fronts.now.list.items c.args.entry c.args.front
          (kept_front c.args.fronts.now.kept opening) e low;
    }

pub returns : goal.returns
returns c =
    let past : length c.args.fronts.now.list.items ≤ c.args.entry = grind
    (arith, common_steps, c.len.ensures) in
    record {
      each =
          λ opening e.
          set_kept c.args.fronts.now.list.items c.args.entry c.args.front
          (kept_front c.args.fronts.now.kept opening)
          (kept_front c.keep_front.new.kept opening) e past
          (c.in_ok-keep_front.ensures.each opening e);
    }
