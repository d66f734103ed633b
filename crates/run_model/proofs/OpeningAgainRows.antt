-- An entry that opens again, on worked values: in a table of 2 ^ 18 bytes that has another one.
use Rattle.std.proofs.Common.{◌≡◌, [], ◌∷◌, true, false, refl}
use Rattle.frame_grants.specs.declared.grant.Kind.TheVariants.{Ram}
use Rattle.trace_read.specs.Configuration.{Configuration}
use Rattle.entry_model.specs.State.{State, empty_state}
use Rattle.entry_model.specs.Run.{state_at}
use Rattle.hpt_resize.specs.TableMemory.{opening_memory, empty_states}
use Rattle.run_model.specs.OpeningAgain.{image_entry, opening_states, with_image_entry}
use Rattle.run_model.specs.Stores.{page_table}

-- A configuration whose table opens with one entry, which has R and C set.
one_entry : Configuration
one_entry = record {
  order = 18;
  limit = 22;
  cpus = 1;
  granted = record {
    pool_base = 0x1000000000;
    pool_order = 24;
    grants = record { logical = 0; machine = 0x2000000000; length = 0x40000000; kind = Ram } ∷ [];
  };
  entries = record { index = 0x20; dword0 = 0x1001; dword1 = 0x3192 } ∷ [];
  windows = [];
}

-- An entry with B = 1 that has changed seven times, with R set.
reached : State
reached = record {
  valid = true;
  dword0 = 0x4000000000001001;
  dword1 = 0x3012;
  referenced = true;
  changed = false;
  stamp = 7;
}

in_image :
    image_entry 0x2F reached ≡ record { index = 0x2F; dword0 = 0x4000000000001001; dword1 = 0x3112 }
unfolding reached
in_image = refl

two_entries : Configuration
two_entries = with_image_entry one_entry (image_entry 0x2F reached)

its_state : state_at (opening_states two_entries) 0x2F ≡ record reached { stamp = 0 }
unfolding page_table opening_memory empty_states one_entry two_entries reached
its_state = refl

the_other :
    state_at (opening_states two_entries) 0x20
    ≡ record {
      valid = true;
      dword0 = 0x1001;
      dword1 = 0x3012;
      referenced = true;
      changed = true;
      stamp = 0;
    }
unfolding page_table opening_memory empty_states one_entry two_entries reached
the_other = refl

no_entry : state_at (opening_states two_entries) 0x21 ≡ empty_state 0
unfolding page_table opening_memory empty_states one_entry two_entries reached
no_entry = refl
