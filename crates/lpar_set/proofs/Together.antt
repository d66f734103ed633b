-- What is promised of sets, from its parts.
use Rattle.lpar_set.specs.SetTrace.{partition_at}
use Rattle.lpar_set.specs.SetRun.{opening_set, set_replies}
use Rattle.lpar_set.specs.SetLaws.{replies_of, SetsAreAssured}
use Rattle.lpar_set.proofs.Alone.{runs_as_if_alone}
use Rattle.lpar_set.proofs.FirstLines.{served_assured}
use Rattle.lpar_set.proofs.TurnKinds.{reply_count, kinds_of}
use Rattle.lpar_set.proofs.OwnAddresses.{of_set, at_home_of}

pub sets_are_assured : SetsAreAssured
sets_are_assured s is = record {
  count = reply_count s (opening_set s) s.turns;
  each = λ k inside.
      let rs = replies_of k s.turns (set_replies s) in
      let own = of_set s is k inside in
      let kinds = kinds_of s is k inside in
      let alone = runs_as_if_alone s is k inside in
      record {
        kinds = kinds;
        at_home = at_home_of s is k inside;
        alone = alone;
        assured = served_assured (partition_at s k).trace rs own.accepted own.windows kinds alone;
      };
}
