use Rattle.std.proofs.Common.{◌≡◌}
use Rattle.trace_gen.specs.Generated.{generated_config}
use Rattle.trace_gen.proofs.Granting.{accepted, granted_is, configured, none_named, config_is}
use Rattle.trace_gen.proofs.trace.config.Goals as goal

pub unwrap-requires : goal.unwrap-requires
unwrap-requires c =
    accepted c.add.result c.new-grants.result c.new-grants.ensures c.add.ensures.told

granted : (c : goal.After-new-2) → c.add.new.self ≡ generated_config.granted
granted c =
    granted_is c.add.result c.new-grants.result c.add.new.self c.new-grants.ensures
    (accepted c.add.result c.new-grants.result c.new-grants.ensures c.add.ensures.told)
    c.add.ensures.ok

pub invariant_of-result : goal.invariant_of-result
invariant_of-result c = (
  configured c.add.new.self (granted c),
  none_named c.add.new.self.grants c.new.result c.new.ensures,
)

pub returns : goal.returns
returns c =
    config_is c.add.new.self c.new.result c.new-2.result (granted c) c.new.ensures c.new-2.ensures
