-- What an access that C asks for wants, and its page.
use Rattle.std.specs.Prelude.{ℕ, ◌==◌, if◌then◌else◌, Option, Some, None}
use Rattle.storage_prot.specs.declared.want.Want.{Want}
use Rattle.storage_prot.specs.declared.want.Want.TheVariants.{Load, Store, Fetch}
use Rattle.power_addr.specs.Pages.{VirtualPage, page_of_address}
use Rattle.c_layout.specs.declared.walking.PaprAccess.{PaprAccess}

-- What an access with this number wants: a load, a store or a fetch.
abbrev pub want_of : ℕ → Option Want
want_of want =
    if want == 0 then Some Load
    else if want == 1 then Some Store
    else if want == 2 then Some Fetch
    else None

-- The page of the access, where its segment's number and page size are in range.
abbrev pub page_of : PaprAccess → Option VirtualPage
page_of a = page_of_address a.one_tb a.vsid a.shift a.ea
