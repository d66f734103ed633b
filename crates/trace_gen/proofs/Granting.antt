-- The grant of each generated trace is accepted.
use Rattle.std.proofs.Common.{◌≡◌, List, [], Some, None, Result, Ok, Err, OnOk, MatchResult, refl, sym, subst, ap, ◌∙◌, arith}
use Rattle.std.specs.Result.{IsOk}
use Rattle.frame_grants.specs.Grants.{GrantedMemory, no_grants, add_refusal, refusals, with_grant}
use Rattle.frame_grants.specs.declared.error.GrantError.{GrantError}
use Rattle.frame_grants.specs.declared.grant.Grant.{Grant}
use Rattle.bus_window.specs.Windows.{BusWindow}
use Rattle.table_image.specs.declared.entry.ImageEntry.{ImageEntry}
use Rattle.trace_read.specs.Configuration.{Configuration, IsConfigured, AreOpeningEntries}
use Rattle.trace_gen.specs.Generated.{whole_ram, generated_config}

not_refused : add_refusal (no_grants 0x1000000000 24) whole_ram ≡ None
unfolding add_refusal refusals
not_refused = refl

pub accepted :
    {T : Type 0} (r : Result T GrantError) (old : GrantedMemory)
    → old ≡ no_grants 0x1000000000 24
    → MatchResult r (λ x. add_refusal old whole_ram ≡ None)
    (λ e. add_refusal old whole_ram ≡ Some e)
    → IsOk r
accepted (Ok x) old is told = refl
accepted (Err e) old is told =
    let none : add_refusal old whole_ram ≡ None = ap
    (λ (g : GrantedMemory). add_refusal g whole_ram) is ∙ not_refused in
    absurd (cc)

pub granted_is :
    {T : Type 0} (r : Result T GrantError) (old new : GrantedMemory)
    → old ≡ no_grants 0x1000000000 24
    → IsOk r
    → OnOk r (new ≡ with_grant old whole_ram)
    → new ≡ generated_config.granted
unfolding generated_config with_grant
granted_is (Ok x) old new is ok made = made ∙ ap (λ (g : GrantedMemory). with_grant g whole_ram) is
granted_is (Err e) old new is ok made = absurd (cc)

-- The configuration of a generated trace, with this memory granted, and these entries and windows.
abbrev pub config_with : GrantedMemory → List ImageEntry → List BusWindow → Configuration
config_with granted entries windows =
    record {
      order = 18;
      limit = 22;
      cpus = 4;
      granted = granted;
      entries = entries;
      windows = windows;
    }

pub configured :
    (granted : GrantedMemory)
    → granted ≡ generated_config.granted
    → IsConfigured 18 22 4 0x1000000000 24 granted
unfolding generated_config
configured granted is = record {
  settings = record {
    at_least = omega arith;
    within = omega arith;
    at_most = omega arith;
    some = omega arith;
    few = omega arith;
    base = ap (λ (g : GrantedMemory). g.pool_base) is;
    size = ap (λ (g : GrantedMemory). g.pool_order) is;
  };
  room = omega arith;
}

-- No entry is named.
pub none_named :
    (grants : List Grant) (entries : List ImageEntry)
    → entries ≡ []
    → AreOpeningEntries 18 grants entries
none_named grants entries is =
    subst (AreOpeningEntries 18 grants) (sym is) (record { each = tt; rising = tt })

pub config_is :
    (granted : GrantedMemory) (entries : List ImageEntry) (windows : List BusWindow)
    → granted ≡ generated_config.granted
    → entries ≡ []
    → windows ≡ []
    → config_with granted entries windows ≡ generated_config
unfolding generated_config
config_is granted entries windows is no_entry no_window =
    ap (λ (ws : List BusWindow). config_with granted entries ws) no_window
    ∙ ap (λ (es : List ImageEntry). config_with granted es []) no_entry
    ∙ ap (λ (g : GrantedMemory). config_with g [] []) is
