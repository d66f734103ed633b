-- Rows of the table, which the checker computes.
use Rattle.std.proofs.Common.{◌≡◌, true, false, refl}
use Rattle.storage_prot.specs.declared.want.Want.TheVariants.{Store, Fetch}
use Rattle.storage_prot.specs.Protection.{Nothing, ReadOnly, ReadWrite, rows, permission, allowed}

no_key : permission 0 false ≡ ReadWrite
unfolding permission rows
no_key = refl

with_key : permission 1 true ≡ ReadOnly
unfolding permission rows
with_key = refl

high_bit : permission 6 true ≡ Nothing
unfolding permission rows
high_bit = refl

reserved : permission 7 false ≡ Nothing
unfolding permission rows
reserved = refl

store_to_read_only : allowed 3 false false Store ≡ false
unfolding permission rows
store_to_read_only = refl

fetch : allowed 6 false false Fetch ≡ true
unfolding permission rows
fetch = refl

fetch_of_no_execute : allowed 2 true true Fetch ≡ false
unfolding permission rows
fetch_of_no_execute = refl
